-- Two images that differ in field 1 alone. Where that is good in both, and says the same period and the same longest access, the rest is judged alike:
-- the same task, or the same refusal so many bytes further on.
use mathlib.Core.Path.{◌≡◌, refl, sym, ◌∙◌, ap}
use mathlib.Core.List.{List, ◌++◌}
use native.Mathlib.Omega.{arith}
use Prim.Native.Nat.{ℕ, zero, suc, ◌+◌, ◌-◌, ◌≤◌}
use lib.ListN.{length, length-append}
use Rattle.runs.specs.Nodes.{Node, tree, lines_to}
use Rattle.image_bytes.proofs.Agreeing.{Agree, agree_here, word_here, agree_word, agree_bytes, behind}
use Rattle.schedule.specs.Said.{said}
use lib.Dec.{eqb}
use borrow.Author.Tests.{ne_eqb}
use Rattle.rows.specs.Tests.{value_ok, children_ok, entry_ok}
use Rattle.rows.specs.Fields.{field_at, tag_at, length_at, body_at, closed_at, UpToTag, UpToRoom, UpToLength, UpToBody, UpToValue, GoodField, Passed}
use Rattle.nodes.specs.Nodes.{node_at, lines_of, tree_at}
use Rattle.image.specs.Tasks.{starts_of}
use Rattle.image.specs.Conditions.{Complete, Ending, last, named, Condition, head_cut, wrong_tag, one_more, wrong_length, body_cut, wrong_value, not_below, no_entry, no_node, too_deep, too_long, too_wide, Accepting}
use Rattle.image.specs.Judged.{judged}
use Rattle.image.specs.Moved.{moved}
use Rattle.refusals.specs.declared.Refusal.{Refusal}
use Rattle.image.specs.declared.Outline.{Outline}
use Rattle.std.specs.Prelude.{Result, Ok, Err}
use Rattle.refusals.specs.declared.Refused.{Refused}
use Rattle.rows.proofs.Rules.{carries, value_here, child_here, entry_here}
use Rattle.rows.proofs.Kept.{good_head, good_tag, good_length, good_body, good_value, good_room, first_open}
use Rattle.rows.proofs.Standing.{next_at, first_at}
use Rattle.rows.proofs.Reading.{covers_more, agree_value, agree_children, agree_entry}
use Rattle.nodes.proofs.Reading.{agree_node}
use Rattle.image.proofs.Reasons.{refused_when, when_refused, when_accepted, accepted_when}

-- a and c stand before the same rest; c is d bytes longer
pub record Instead (a c rest : List ℕ) (d : ℕ) : Type 0 where
  pub longer : length c ≡ length a + d
  pub good : GoodField (a ++ rest) 0
  pub good' : GoodField (c ++ rest) 0
  pub ends : field_at (a ++ rest) 1 ≡ length a
  pub ends' : field_at (c ++ rest) 1 ≡ length c
  pub period : (said (c ++ rest)).period ≡ (said (a ++ rest)).period
  pub most : (said (c ++ rest)).most ≡ (said (a ++ rest)).most

module _ (a c rest : List ℕ) (d : ℕ) (h : Instead a c rest d) where
  abbrev s : List ℕ
  s = a ++ rest

  abbrev e : List ℕ
  e = c ++ rest

  pub long : length e ≡ length s + d
  long = omega (arith, length-append c rest, length-append a rest, h.longer)

  -- all bytes behind field 1 stand d places further on
  agree : (p n : ℕ) → length a ≤ p → Agree s e p (p + d) n
  agree p n l i m =
      let j = p - length a + i in
      let x : p + d + i ≡ length c + j = omega (arith, h.longer) in
      let y : p + i ≡ length a + j = omega arith in
      rw (x, y) (behind c rest j ∙ sym (behind a rest j))

  -- and so does every other field
  behind_first : (k : ℕ) → length a ≤ field_at s (suc k)
  behind_first zero = omega (arith, h.ends)
  behind_first (suc k) = omega (arith, next_at s (suc k), behind_first k)

  length_from : (k : ℕ) → field_at e (suc k) ≡ field_at s (suc k) + d → length_at e (suc k) ≡ length_at s (suc k)
  length_from k q =
      let p = field_at s (suc k) in
      rw q (agree_word s e p (p + d) 3 1 (agree p 3 (behind_first k)) (omega arith))

  place_moved : (k : ℕ) → field_at e (suc k) ≡ field_at s (suc k) + d
  place_moved zero = rw (h.ends, h.ends') h.longer
  place_moved (suc k) = let q = place_moved k in omega (arith, next_at s (suc k), next_at e (suc k), q, length_from k q)

  length_moved : (k : ℕ) → length_at e (suc k) ≡ length_at s (suc k)
  length_moved k = length_from k (place_moved k)

  tag_moved : (k : ℕ) → tag_at e (suc k) ≡ tag_at s (suc k)
  tag_moved k = let p = field_at s (suc k) in rw (place_moved k) (agree_here s e p (p + d) 1 (agree p 1 (behind_first k)) (omega arith))

  closed_moved : (k : ℕ) → closed_at e (suc k) ≡ closed_at s (suc k)
  closed_moved zero = ne_eqb (tag_at e 0) 8 (first_open e h.good') ∙ sym (ne_eqb (tag_at s 0) 8 (first_open s h.good))
  closed_moved (suc k) = ap (λ (t : ℕ). eqb t 8) (tag_moved k)

  body_moved : (k : ℕ) → body_at e (suc k) ≡ body_at s (suc k) + d
  body_moved k = omega (arith, place_moved k)

  body_agrees : (k n : ℕ) → Agree s e (body_at s (suc k)) (body_at s (suc k) + d) n
  body_agrees k n = agree (body_at s (suc k)) n (omega (arith, behind_first k))

  value_moved : (k : ℕ) → value_ok e (tag_at e (suc k)) (body_at e (suc k)) (length_at e (suc k)) ≡ value_ok s (tag_at s (suc k)) (body_at s (suc k)) (length_at s (suc k))
  value_moved k =
      let t = tag_at s (suc k) in
      let n = length_at s (suc k) in
      rw (tag_moved k, length_moved k, body_moved k)
      (agree_value s e t (body_at s (suc k)) (body_at s (suc k) + d) n _ (covers_more t n) (body_agrees k _) h.period h.most)

  children_moved : (k : ℕ) → children_ok e (tag_at e (suc k)) (body_at e (suc k)) (length_at e (suc k)) (suc k)
      ≡ children_ok s (tag_at s (suc k)) (body_at s (suc k)) (length_at s (suc k)) (suc k)
  children_moved k =
      let t = tag_at s (suc k) in
      let n = length_at s (suc k) in
      rw (tag_moved k, length_moved k, body_moved k)
      (agree_children s e t (body_at s (suc k)) (body_at s (suc k) + d) n _ (covers_more t n) (body_agrees k _) (suc k))

  entry_moved : (k : ℕ) → entry_ok e (tag_at e (suc k)) (body_at e (suc k)) (suc k) ≡ entry_ok s (tag_at s (suc k)) (body_at s (suc k)) (suc k)
  entry_moved k =
      let t = tag_at s (suc k) in
      let n = length_at s (suc k) in
      rw (tag_moved k, body_moved k)
      (agree_entry s e t (body_at s (suc k)) (body_at s (suc k) + d) n _ (covers_more t n) (body_agrees k _) (suc k))

  -- so it is good where it was, and the same fields fill the image
  head_moved : (k : ℕ) → field_at s (suc k) + 3 ≤ length s → field_at e (suc k) + 3 ≤ length e
  head_moved k l = omega (arith, place_moved k, long)

  ends_moved : (k : ℕ) → body_at s (suc k) + length_at s (suc k) ≤ length s → body_at e (suc k) + length_at e (suc k) ≤ length e
  ends_moved k l = omega (arith, place_moved k, length_moved k, long)

  tag_on : (k : ℕ) → UpToTag s (suc k) → UpToTag e (suc k)
  tag_on k (h, a) = (head_moved k h, rw (tag_moved k, closed_moved k) a)

  room_on : (k : ℕ) → UpToRoom s (suc k) → UpToRoom e (suc k)
  room_on k (u, r) = (tag_on k u, rw (tag_moved k) r)

  length_on : (k : ℕ) → UpToLength s (suc k) → UpToLength e (suc k)
  length_on k (u, n) = (room_on k u, rw (tag_moved k, length_moved k) n)

  body_on : (k : ℕ) → UpToBody s (suc k) → UpToBody e (suc k)
  body_on k (u, i) = (length_on k u, ends_moved k i)

  value_on : (k : ℕ) → UpToValue s (suc k) → UpToValue e (suc k)
  value_on k ((u, i), v) =
      (body_on k (u, i), carries (value_here s (suc k) u) (value_here e (suc k) (length_on k u)) (sym (value_moved k)) v)

  good_moved : (k : ℕ) → GoodField s k → GoodField e k
  good_moved zero g = h.good'
  good_moved (suc k) (u, c, x) = (
    value_on k u,
    carries (child_here s (suc k)) (child_here e (suc k)) (sym (children_moved k)) c,
    carries (entry_here s (suc k)) (entry_here e (suc k)) (sym (entry_moved k)) x,
  )

  passed_moved : (n : ℕ) → Passed s n → Passed e n
  passed_moved n p k l = good_moved k (p k l)

  complete_moved : (n : ℕ) → Complete s n → Complete e n
  complete_moved zero c = absurd (omega (arith, c.ends, first_at s, good_head s 0 h.good))
  complete_moved (suc n) c = record { passed = passed_moved (suc n) c.passed; ends = omega (arith, place_moved n, c.ends, long) }

  ending_moved : (n entry : ℕ) → Ending s n entry → Ending e n entry
  ending_moved n entry (last c ne q) =
      let z : n + 1 ≡ suc n = omega arith in
      last (complete_moved (n + 2) c) (λ t. ne (rw z (rw (tag_moved n) at (rw z at t)))) q
  ending_moved n entry (named c t q) =
      let z : n + 2 ≡ suc (n + 1) = omega arith in
      let b = body_at s (suc (n + 1)) in
      named (complete_moved (n + 3) c) (rw (z, tag_moved (n + 1)) (rw z at t))
      (q ∙ rw (z, body_moved (n + 1)) (sym (word_here s e b (b + d) 2 (body_agrees (n + 1) 2) (omega arith))))

  -- every node says the same
  node_moved : (n : ℕ) → node_at e n ≡ node_at s n
  unfolding node_at
  node_moved n =
      let z : n + 2 ≡ suc (n + 1) = omega arith in
      let k = n + 1 in
      let t = tag_at s (suc k) in
      let m = length_at s (suc k) in
      rw (z, tag_moved k, length_moved k, body_moved k)
      (agree_node s e t (body_at s (suc k)) (body_at s (suc k) + d) m _ (covers_more t m) (body_agrees k _))

  pub nodes_same : node_at e ≡ node_at s
  nodes_same = λ i n. node_moved n i

  tree_same : (n : ℕ) → tree_at e n ≡ tree_at s n
  tree_same n = ap (λ (f : ℕ → Node). tree f n) nodes_same

  lines_same : (n : ℕ) → lines_of e n ≡ lines_of s n
  lines_same n = ap (λ (f : ℕ → Node). lines_to f n) nodes_same

  pub starts_same : starts_of e ≡ starts_of s
  starts_same = rw (length_moved 0, body_moved 0) (agree_bytes s e (body_at s 1) (body_at s 1 + d) (length_at s 1) (body_agrees 0 (length_at s 1)))

  accepting_moved : (t : Outline) → Accepting s t → Accepting e t
  accepting_moved t x = record {
    ending = ending_moved t.nodes t.entry x.ending;
    shallow = rw (tree_same t.entry) x.shallow;
    short = rw (tree_same t.entry) x.short;
    period = x.period ∙ sym h.period;
    starts = x.starts ∙ sym (length_moved 0);
    lines = x.lines ∙ sym (lines_same t.nodes);
    sets = x.sets;
    narrow = x.narrow;
  }

  -- a field that is refused is not the first
  at : (r : Refusal) (k : ℕ) → Condition e r (field_at e (suc k)) → Condition e r (field_at s (suc k) + d)
  at r k x = rw (place_moved k) at x

  condition_moved : (r : Refusal) (place : ℕ) → Condition s r place → Condition e r (place + d)
  condition_moved r _ (head_cut zero p l x) = absurd (omega (arith, x, good_head s 0 h.good))
  condition_moved r _ (head_cut (suc k) p l x) =
      at r k (head_cut (suc k) (passed_moved (suc k) p) (omega (arith, place_moved k, long)) (omega (arith, place_moved k, long)))
  condition_moved r _ (wrong_tag zero p x f) = absurd (f (good_tag s 0 h.good))
  condition_moved r _ (wrong_tag (suc k) p x f) = at r k (wrong_tag (suc k) (passed_moved (suc k) p) (head_moved k x) (λ a. f (rw (tag_moved k, closed_moved k) at a)))
  condition_moved r _ (one_more zero p u f) = absurd (f (good_room s 0 h.good))
  condition_moved r _ (one_more (suc k) p u f) = at r k (one_more (suc k) (passed_moved (suc k) p) (tag_on k u) (λ x. f (rw (tag_moved k) at x)))
  condition_moved r _ (wrong_length zero p u f) = absurd (f (good_length s 0 h.good))
  condition_moved r _ (wrong_length (suc k) p u f) =
      at r k (wrong_length (suc k) (passed_moved (suc k) p) (room_on k u) (λ n. f (rw (tag_moved k, length_moved k) at n)))
  condition_moved r _ (body_cut zero p u y) = absurd (omega (arith, y, good_body s 0 h.good))
  condition_moved r _ (body_cut (suc k) p u y) =
      at r k (body_cut (suc k) (passed_moved (suc k) p) (length_on k u) (omega (arith, place_moved k, length_moved k, long)))
  condition_moved r _ (wrong_value zero p u f) = absurd (f (good_value s 0 h.good))
  condition_moved r _ (wrong_value (suc k) p (u, y) f) =
      at r k (wrong_value (suc k) (passed_moved (suc k) p) (body_on k (u, y))
      (λ v. f (carries (value_here e (suc k) (length_on k u)) (value_here s (suc k) u) (value_moved k) v)))
  condition_moved r _ (not_below zero p u f) = absurd (f h.good.1)
  condition_moved r _ (not_below (suc k) p u f) =
      at r k (not_below (suc k) (passed_moved (suc k) p) (value_on k u) (λ c. f (carries (child_here e (suc k)) (child_here s (suc k)) (children_moved k) c)))
  condition_moved r _ (no_entry zero p u f) = absurd (f h.good.2)
  condition_moved r _ (no_entry (suc k) p u f) =
      at r k (no_entry (suc k) (passed_moved (suc k) p) (value_on k u) (λ x. f (carries (entry_here e (suc k)) (entry_here s (suc k)) (entry_moved k) x)))
  condition_moved r _ (no_node n x l) = rw long at (no_node n (complete_moved n x) l)
  condition_moved r _ (too_deep n i x l) = rw long at (too_deep n i (ending_moved n i x) (rw (tree_same i) l))
  condition_moved r _ (too_long n i x l m) = rw long at (too_long n i (ending_moved n i x) (rw (tree_same i) l) (rw (tree_same i) m))
  condition_moved r _ (too_wide n i x l m w) =
      rw long at (too_wide n i (ending_moved n i x) (rw (tree_same i) l) (rw (tree_same i) m) (rw (h.period, lines_same n) w))

  pub judged_moved : judged e ≡ moved d (judged s)
  judged_moved = by_verdict (judged s) refl
    where
      by_verdict : (v : Result Outline Refused) → judged s ≡ v → judged e ≡ moved d v
      by_verdict (Ok t) q = accepted_when e t (accepting_moved t (when_accepted s t q))
      by_verdict (Err x) q = refused_when e x.refusal (x.place + d) (condition_moved x.refusal x.place (when_refused s x.refusal x.place q))
