-- The tests of specs/Tests.antt are true if and only if the rules of specs/Rules.antt hold, row by row.
use mathlib.Core.Path.{◌≡◌, refl}
use mathlib.Core.Bool.{Bool, true, false, cond, ◌&&◌}
use mathlib.Core.Logic.{inl, inr, ⊎_elim}
use mathlib.Core.List.{List}
use Prim.Native.Nat.{ℕ, ◌+◌, ◌-◌, ◌*◌, ◌/◌, ◌%◌, ◌≤◌}
use native.Mathlib.Omega.{arith}
use lib.ListN.{length}
use lib.Dec.{eqb, leb, ltb}
use borrow.Author.Tests.{eqb-true, eqb-false, eq-eqb, ne_eqb, leb-true, le-leb, ltb-true, lt-ltb}
use Rattle.image_bytes.specs.Bytes.{byte_at, word_at}
use Rattle.schedule.specs.Said.{within, said}
use Rattle.schedule.proofs.Sayings.{ranges_kept, kept_ranges, schedule_kept, kept_schedule}
use Rattle.schedule.proofs.Pairs.{turns_length}
use Rattle.runs.proofs.Cases.{by_cond}
use Rattle.schedule.proofs.Numbers.{eq_or_ne, both, is_within}
use Rattle.rows.specs.Rules.{TagRule, RoomRule, LengthRule, Durations, Accesses, LoopCounts, Fetches, ValueRule, ChildRule, EntryRule}
use Rattle.rows.specs.Fields.{field_at, tag_at, length_at, body_at, closed_at, UpToLength, GoodField}
use Rattle.rows.specs.Tests.{parity_within, tag_ok, room_ok, node_length_ok, length_ok, plain_ok, access_ok, block_ok, loop_ok, once_ok, node_value_ok, value_ok, children_ok, entry_ok}
use Rattle.rows.proofs.Lists.{names_below, below_names, starts_kept, kept_starts}

-- a test that is true if and only if a rule holds
pub record Decides (t : Bool) (R : Type 0) : Type 0 where
  pub holds : t ≡ true → R
  pub passes : R → t ≡ true

-- and then it is false if and only if the rule is broken
pub fails : (t : Bool) {R : Type 0} → Decides t R → t ≡ false → R → ⊥
fails t d e r = let f = d.passes r in absurd (let z : ◌≡◌ {A = ℕ} 0 1 = cc in omega arith)

pub refused : (t : Bool) {R : Type 0} → Decides t R → (R → ⊥) → t ≡ false
refused true d n = absurd (n (d.holds refl))
refused false d n = refl

-- two tests that are the same decide the same
pub carries : {t u : Bool} {R Q : Type 0} → Decides t R → Decides u Q → t ≡ u → R → Q
carries d f e r = f.holds (rw (← e) (d.passes r))

-- a row of a table of tests: the tag's own, or those after it
row : {R : Type 0} (b x y : Bool) → (b ≡ true → x ≡ true → R) → (b ≡ false → y ≡ true → R) → cond b x y ≡ true → R
row {R} b x y f g = by_cond (λ (z : Bool). z ≡ true → R) b x y f g

rows : (b x y : Bool) → (b ≡ true → x ≡ true) → (b ≡ false → y ≡ true) → cond b x y ≡ true
rows b x y f g = by_cond (λ (z : Bool). z ≡ true) b x y f g

none : {R : Type 0} → false ≡ true → R
none e = absurd (let z : ◌≡◌ {A = ℕ} 0 1 = cc in omega arith)

-- ---- 2, the tag

tag_holds : (index : ℕ) (closed : Bool) (tag : ℕ) → tag_ok index closed tag ≡ true → TagRule index closed tag
unfolding tag_ok
tag_holds index closed tag =
    row (eqb index 0) _ _
    (λ i. row (eqb tag 9) _ _
    (λ t e. TagRule.schedule (eqb-true index 0 i) (eqb-true tag 9 t))
    (λ n9 t. TagRule.bus (eqb-true index 0 i) (eqb-true tag 1 t)))
    (λ n0. row (eqb index 1) _ _
    (λ i t. TagRule.starts (eqb-true index 1 i) (eqb-true tag 2 t))
    (λ n1. let two : 2 ≤ index = omega (arith, eqb-false index 0 n0, eqb-false index 1 n1) in
    row closed _ _ (λ c. none)
    (λ o. row (eqb tag 8) _ _
    (λ t e. TagRule.entry (omega (arith, leb-true 3 index e)) o (eqb-true tag 8 t))
    (λ n8. row (eqb tag 10) _ _
    (λ t e. TagRule.once two o (eqb-true tag 10 t))
    (λ n10 w. let p = is_within 3 7 tag w in TagRule.node two o p.0 p.1)))))

tag_passes : (index : ℕ) (closed : Bool) (tag : ℕ) → TagRule index closed tag → tag_ok index closed tag ≡ true
unfolding tag_ok
tag_passes index closed tag (TagRule.bus i t) = rw (i, t)
tag_passes index closed tag (TagRule.schedule i t) = rw (i, t)
tag_passes index closed tag (TagRule.starts i t) = rw (i, t)
tag_passes index closed tag (TagRule.node two o lo hi) =
    rw o
    (simp (
      ne_eqb index 0 (λ e. omega arith),
      ne_eqb index 1 (λ e. omega arith),
      ne_eqb tag 8 (λ e. omega arith),
      ne_eqb tag 10 (λ e. omega arith),
      le-leb 3 tag lo,
      le-leb tag 7 hi,
    ))
tag_passes index closed tag (TagRule.once two o t) = rw (o, t) (simp (ne_eqb index 0 (λ e. omega arith), ne_eqb index 1 (λ e. omega arith)))
tag_passes index closed tag (TagRule.entry three o t) =
    rw (o, t) (simp (ne_eqb index 0 (λ e. omega arith), ne_eqb index 1 (λ e. omega arith), le-leb 3 index (omega arith)))

pub tag_rule : (index : ℕ) (closed : Bool) (tag : ℕ) → Decides (tag_ok index closed tag) (TagRule index closed tag)
tag_rule index closed tag = record { holds = tag_holds index closed tag; passes = tag_passes index closed tag }

-- ---- 3, room for it

room_holds : (index tag : ℕ) → room_ok index tag ≡ true → RoomRule index tag
unfolding room_ok
room_holds index tag = row (ltb index 258) _ _ (λ l e. RoomRule.room (ltb-true index 258 l)) (λ m t. RoomRule.entry (eqb-true tag 8 t))

room_passes : (index tag : ℕ) → RoomRule index tag → room_ok index tag ≡ true
unfolding room_ok
room_passes index tag (RoomRule.room l) = rw (lt-ltb index 258 l)
room_passes index tag (RoomRule.entry t) = rows (ltb index 258) _ _ (λ l. refl) (λ m. eq-eqb tag 8 t)

pub room_rule : (index tag : ℕ) → Decides (room_ok index tag) (RoomRule index tag)
room_rule index tag = record { holds = room_holds index tag; passes = room_passes index tag }

-- ---- 4, the length

-- n from low to high, and even or odd
parity : (odd low high n : ℕ) → parity_within odd low high n ≡ true → (low ≤ n) × (n ≤ high) × (n % 2 ≡ odd)
parity odd low high n e =
    let p = both (within low high n) (eqb (n % 2) odd) e in
    let w = is_within low high n p.0 in
    (w.0, w.1, eqb-true (n % 2) odd p.1)

even_of : (n : ℕ) → n % 2 ≡ 0 → n ≡ 2 * (n / 2)
even_of n e = omega arith

odd_of : (n : ℕ) → n % 2 ≡ 1 → n ≡ 1 + 2 * (n / 2)
odd_of n e = omega arith

parity_passes : (odd low high n : ℕ) → low ≤ n → n ≤ high → n % 2 ≡ odd → parity_within odd low high n ≡ true
parity_passes odd low high n l h e = simp (le-leb low n l, le-leb n high h, eq-eqb (n % 2) odd e)

length_holds : (tag n : ℕ) → length_ok tag n ≡ true → LengthRule tag n
unfolding length_ok node_length_ok
length_holds tag n =
    row (eqb tag 1) _ _ (λ t e. LengthRule.bus (eqb-true tag 1 t) (eqb-true n 3 e))
    (λ n1. row (eqb tag 2) _ _ (λ t e. let w = is_within 1 256 n e in LengthRule.starts (eqb-true tag 2 t) w.0 w.1)
    (λ n2. row (within 3 7 tag) _ _
    (λ w. row (eqb tag 3) _ _ (λ t e. LengthRule.plain (eqb-true tag 3 t) (eqb-true n 4 e))
    (λ n3. row (eqb tag 4) _ _ (λ t e. LengthRule.block (eqb-true tag 4 t) (eqb-true n 3 e))
    (λ n4. row (eqb tag 5) _ _ (λ t e. let p = parity 0 2 32 n e in LengthRule.sequence (eqb-true tag 5 t) p.0 p.1 (n / 2, even_of n p.2))
    (λ n5. row (eqb tag 6) _ _ (λ t e. let p = parity 0 4 16 n e in LengthRule.branch (eqb-true tag 6 t) p.0 p.1 (n / 2, even_of n p.2))
    (λ n6. row (eqb tag 7) _ _ (λ t e. LengthRule.loop (eqb-true tag 7 t) (eqb-true n 8 e)) (λ n7. none))))))
    (λ w. row (eqb tag 8) _ _ (λ t e. LengthRule.entry (eqb-true tag 8 t) (eqb-true n 2 e))
    (λ n8. row (eqb tag 9) _ _ (λ t e. let p = parity 1 3 65 n e in LengthRule.schedule (eqb-true tag 9 t) p.0 p.1 (n / 2, odd_of n p.2))
    (λ n9. row (eqb tag 10) _ _ (λ t e. LengthRule.once (eqb-true tag 10 t) (eqb-true n 5 e)) (λ n10. none))))))

length_passes : (tag n : ℕ) → LengthRule tag n → length_ok tag n ≡ true
unfolding length_ok node_length_ok
length_passes tag n (LengthRule.bus t l) = rw (t, l)
length_passes tag n (LengthRule.starts t lo hi) = rw t (simp (le-leb 1 n lo, le-leb n 256 hi))
length_passes tag n (LengthRule.plain t l) = rw (t, l)
length_passes tag n (LengthRule.block t l) = rw (t, l)
length_passes tag n (LengthRule.sequence t lo hi (m, e)) = rw t (parity_passes 0 2 32 n lo hi (omega arith))
length_passes tag n (LengthRule.branch t lo hi (m, e)) = rw t (parity_passes 0 4 16 n lo hi (omega arith))
length_passes tag n (LengthRule.loop t l) = rw (t, l)
length_passes tag n (LengthRule.entry t l) = rw (t, l)
length_passes tag n (LengthRule.schedule t lo hi (m, e)) = rw t (parity_passes 1 3 65 n lo hi (omega arith))
length_passes tag n (LengthRule.once t l) = rw (t, l)

pub length_rule : (tag n : ℕ) → Decides (length_ok tag n) (LengthRule tag n)
length_rule tag n = record { holds = length_holds tag n; passes = length_passes tag n }

-- ---- 5, the numbers

pub durations_kept : (lo hi : ℕ) → plain_ok lo hi ≡ true → Durations lo hi
unfolding plain_ok
durations_kept lo hi e =
    let p = both (leb hi 65535) (leb lo hi && leb (hi - lo) 63) e in
    let q = both (leb lo hi) (leb (hi - lo) 63) p.1 in
    record { most = leb-true hi 65535 p.0; order = leb-true lo hi q.0; near = omega (arith, leb-true (hi - lo) 63 q.1) }

pub kept_durations : (lo hi : ℕ) → Durations lo hi → plain_ok lo hi ≡ true
unfolding plain_ok
kept_durations lo hi d = simp (le-leb hi 65535 d.most, le-leb lo hi d.order, le-leb (hi - lo) 63 (omega (arith, d.near)))

access_kept : (lo hi most : ℕ) → access_ok lo hi most ≡ true → Accesses lo hi most
unfolding access_ok
access_kept lo hi most e =
    let p = both (leb 1 lo) (leb lo hi && (leb hi 255 && leb hi most)) e in
    let q = both (leb lo hi) (leb hi 255 && leb hi most) p.1 in
    let r = both (leb hi 255) (leb hi most) q.1 in
    record { some = leb-true 1 lo p.0; order = leb-true lo hi q.0; most = leb-true hi most r.1; byte = leb-true hi 255 r.0 }

kept_access : (lo hi most : ℕ) → Accesses lo hi most → access_ok lo hi most ≡ true
unfolding access_ok
kept_access lo hi most a = simp (le-leb 1 lo a.some, le-leb lo hi a.order, le-leb hi 255 a.byte, le-leb hi most a.most)

counts_kept : (least greatest : ℕ) → loop_ok least greatest ≡ true → LoopCounts least greatest
unfolding loop_ok
counts_kept least greatest e =
    let p = both (leb least greatest) (leb greatest 10000) e in record { order = leb-true _ _ p.0; most = leb-true _ _ p.1 }

kept_counts : (least greatest : ℕ) → LoopCounts least greatest → loop_ok least greatest ≡ true
unfolding loop_ok
kept_counts least greatest c = simp (le-leb least greatest c.order, le-leb greatest 10000 c.most)

fetches_kept : (line lo hi hit most : ℕ) → once_ok line lo hi hit most ≡ true → Fetches line lo hi hit most
unfolding once_ok
fetches_kept line lo hi hit most e =
    let p = both (leb line 3) (leb hit 65535 && access_ok lo hi most) e in
    let q = both (leb hit 65535) (access_ok lo hi most) p.1 in
    record { line_most = leb-true line 3 p.0; access = access_kept lo hi most q.1; hit_most = leb-true hit 65535 q.0 }

kept_fetches : (line lo hi hit most : ℕ) → Fetches line lo hi hit most → once_ok line lo hi hit most ≡ true
unfolding once_ok
kept_fetches line lo hi hit most f = simp (le-leb line 3 f.line_most, le-leb hit 65535 f.hit_most, kept_access lo hi most f.access)

turns_most : (n : ℕ) → length_ok 9 n ≡ true → n ≤ 65
unfolding length_ok
turns_most n e = (parity 1 3 65 n e).1

module _ (s : List ℕ) (tag body n : ℕ) where
  value_holds : LengthRule tag n → value_ok s tag body n ≡ true → ValueRule s tag body n
  unfolding value_ok node_value_ok block_ok
  value_holds len =
      row (eqb tag 1) _ _ (λ t e. ValueRule.bus (eqb-true tag 1 t) (ranges_kept _ e))
      (λ n1. row (eqb tag 2) _ _ (λ t e. ValueRule.starts (eqb-true tag 2 t) (starts_kept s (said s).period body n 0 e))
      (λ n2. row (within 3 7 tag) _ _
      (λ w. row (eqb tag 3) _ _ (λ t e. ValueRule.plain (eqb-true tag 3 t) (durations_kept _ _ e))
      (λ n3. row (eqb tag 4) _ _
      (λ t e. let p = both (within 1 2 (byte_at s body)) (access_ok (byte_at s (body + 1)) (byte_at s (body + 2)) (said s).most) e in
      let w = is_within 1 2 (byte_at s body) p.0 in
      ValueRule.block (eqb-true tag 4 t) (⊎_elim (λ is. inl is) (λ n. inr (omega (arith, w.0, w.1, n))) (eq_or_ne (byte_at s body) 1)) (access_kept _ _ _ p.1))
      (λ n4. row (within 5 6 tag) _ _ (λ t e. let p = is_within 5 6 tag t in ValueRule.children p.0 p.1)
      (λ n5. row (eqb tag 7) _ _ (λ t e. ValueRule.loop (eqb-true tag 7 t) (counts_kept _ _ e)) (λ n7. none)))))
      (λ w. row (eqb tag 8) _ _ (λ t e. ValueRule.entry (eqb-true tag 8 t))
      (λ n8. row (eqb tag 9) _ _
      (λ t e. let p = turns_most n (rw (eqb-true tag 9 t) at (length_passes tag n len)) in ValueRule.schedule (eqb-true tag 9 t) (schedule_kept _ (omega (arith, turns_length s (body + 1) (n / 2), p)) e))
      (λ n9. row (eqb tag 10) _ _ (λ t e. ValueRule.once (eqb-true tag 10 t) (fetches_kept _ _ _ _ _ e)) (λ n10. none))))))

  value_passes : ValueRule s tag body n → value_ok s tag body n ≡ true
  unfolding value_ok node_value_ok block_ok
  value_passes (ValueRule.bus t h) = rw t (kept_ranges _ h)
  value_passes (ValueRule.starts t h) = rw t (kept_starts s (said s).period body n 0 h (λ l. omega arith))
  value_passes (ValueRule.plain t h) = rw t (kept_durations _ _ h)
  value_passes (ValueRule.block t k h) =
      let w : within 1 2 (byte_at s body) ≡ true = ⊎_elim (λ e. rw e) (λ e. rw e) k in
      rw t (simp (w, kept_access _ _ _ h))
  value_passes (ValueRule.children lo hi) =
      simp (
        ne_eqb tag 1 (λ e. omega arith),
        ne_eqb tag 2 (λ e. omega arith),
        ne_eqb tag 3 (λ e. omega arith),
        ne_eqb tag 4 (λ e. omega arith),
        le-leb 3 tag (omega arith),
        le-leb tag 7 (omega arith),
        le-leb 5 tag lo,
        le-leb tag 6 hi,
      )
  value_passes (ValueRule.loop t h) = rw t (kept_counts _ _ h)
  value_passes (ValueRule.entry t) = rw t
  value_passes (ValueRule.schedule t h) = rw t (kept_schedule _ h)
  value_passes (ValueRule.once t h) = rw t (kept_fetches _ _ _ _ _ h)

  -- where the length is in the tag's row
  pub value_rule : LengthRule tag n → Decides (value_ok s tag body n) (ValueRule s tag body n)
  value_rule len = record { holds = value_holds len; passes = value_passes }

-- ---- 6, the child numbers, of the field with `index` fields before it, which is node index - 2

module _ (s : List ℕ) (tag body n index : ℕ) where
  child_holds : children_ok s tag body n index ≡ true → ChildRule s tag body n (index - 2)
  unfolding children_ok
  child_holds e = record {
    children = λ lo hi. names_below s body (n / 2) index (simp (le-leb 5 tag lo, le-leb tag 6 hi) at e);
    loop = λ t. names_below s (body + 4) 2 index (rw t at e);
  }

  child_passes : ChildRule s tag body n (index - 2) → children_ok s tag body n index ≡ true
  unfolding children_ok
  child_passes r =
      rows (within 5 6 tag) _ _ (λ w. let p = is_within 5 6 tag w in below_names s body (n / 2) index (r.children p.0 p.1))
      (λ n5. rows (eqb tag 7) _ _ (λ t. below_names s (body + 4) 2 index (r.loop (eqb-true tag 7 t))) (λ n7. refl))

  pub child_rule : Decides (children_ok s tag body n index) (ChildRule s tag body n (index - 2))
  child_rule = record { holds = child_holds; passes = child_passes }

-- ---- 11, the entry, of the field with `index` fields before it, of which index - 2 are nodes

module _ (s : List ℕ) (tag body index : ℕ) where
  entry_holds : entry_ok s tag body index ≡ true → EntryRule s tag body (index - 2)
  unfolding entry_ok
  entry_holds e t = let l = ltb-true (word_at s body + 2) index (rw t at e) in omega arith

  entry_passes : EntryRule s tag body (index - 2) → entry_ok s tag body index ≡ true
  unfolding entry_ok
  entry_passes r = rows (eqb tag 8) _ _ (λ t. let l = r (eqb-true tag 8 t) in lt-ltb (word_at s body + 2) index (omega arith)) (λ n8. refl)

  pub entry_rule : Decides (entry_ok s tag body index) (EntryRule s tag body (index - 2))
  entry_rule = record { holds = entry_holds; passes = entry_passes }

-- ---- the tests of a good field, one by one

pub record Tested (s : List ℕ) (k : ℕ) : Type 0 where
  pub head : field_at s k + 3 ≤ length s
  pub tag : tag_ok k (closed_at s k) (tag_at s k) ≡ true
  pub room : room_ok k (tag_at s k) ≡ true
  pub len : length_ok (tag_at s k) (length_at s k) ≡ true
  pub body : body_at s k + length_at s k ≤ length s
  pub value : value_ok s (tag_at s k) (body_at s k) (length_at s k) ≡ true
  pub children : children_ok s (tag_at s k) (body_at s k) (length_at s k) k ≡ true
  pub entry : entry_ok s (tag_at s k) (body_at s k) k ≡ true

module _ (s : List ℕ) (k : ℕ) where
  pub tag_here : Decides (tag_ok k (closed_at s k) (tag_at s k)) (TagRule k (closed_at s k) (tag_at s k))
  tag_here = tag_rule k (closed_at s k) (tag_at s k)

  pub room_here : Decides (room_ok k (tag_at s k)) (RoomRule k (tag_at s k))
  room_here = room_rule k (tag_at s k)

  pub length_here : Decides (length_ok (tag_at s k) (length_at s k)) (LengthRule (tag_at s k) (length_at s k))
  length_here = length_rule (tag_at s k) (length_at s k)

  pub value_here : UpToLength s k → Decides (value_ok s (tag_at s k) (body_at s k) (length_at s k)) (ValueRule s (tag_at s k) (body_at s k) (length_at s k))
  value_here u = value_rule s (tag_at s k) (body_at s k) (length_at s k) u.1

  pub child_here : Decides (children_ok s (tag_at s k) (body_at s k) (length_at s k) k) (ChildRule s (tag_at s k) (body_at s k) (length_at s k) (k - 2))
  child_here = child_rule s (tag_at s k) (body_at s k) (length_at s k) k

  pub entry_here : Decides (entry_ok s (tag_at s k) (body_at s k) k) (EntryRule s (tag_at s k) (body_at s k) (k - 2))
  entry_here = entry_rule s (tag_at s k) (body_at s k) k

  pub tested : GoodField s k → Tested s k
  tested ((((((head, tag), fits), len), body), value), children, entry) =
      record {
        head = head;
        tag = tag_here.passes tag;
        room = room_here.passes fits;
        len = length_here.passes len;
        body = body;
        value = (value_here (((head, tag), fits), len)).passes value;
        children = child_here.passes children;
        entry = entry_here.passes entry;
      }

  pub good : Tested s k → GoodField s k
  good t =
      let u : UpToLength s k = (((t.head, tag_here.holds t.tag), room_here.holds t.room), length_here.holds t.len) in
      (((u, t.body), (value_here u).holds t.value), child_here.holds t.children, entry_here.holds t.entry)
