-- The table's tests are its conditions, the first entry that is refused is the definition's, and so are the numbers that are answered.
use mathlib.Core.Path.{◌≡◌, refl, sym, ◌∙◌, ap, subst}
use mathlib.Core.Bool.{Bool, true, false, cond, ◌&&◌}
use mathlib.Core.Option.{none, some}
use mathlib.Core.List.{List}
use lib.ListN.{length, get_or, replicate}
use lib.Seq.{ext_get_or}
use lib.Dec.{eqb, leb, ltb}
use borrow.Author.Tests.{leb-true, lt-leb, le-leb, ltb-true, lt-ltb, le-ltb, eqb-true, eq-eqb}
use native.Mathlib.Nat.{not-suc-le-zero}
use native.Mathlib.Omega.{arith}
use Prim.Native.Nat.{ℕ, zero, suc, ◌+◌, ◌*◌, ◌≤◌, ◌<◌}
use Rattle.std.specs.Prelude.{◌↔◌, IsTrue, EachIndex, slice_range}
use Rattle.std.proofs.lemmas.Bool.{iff_false}
use Rattle.std.proofs.lemmas.List.Edits.{length-between, get_or-between}
use Rattle.runs.specs.Carried.{row}
use Rattle.runs.proofs.Cases.{split, either}
use Rattle.runs.proofs.Meanings.{row_at_lem}
use Rattle.schedule.proofs.Numbers.{both}
use Rattle.runs.proofs.Joins.{row_length}
use Rattle.graph.specs.Graph.{Entry, Permitted, finish}
use Rattle.graph.specs.Table.{graph_of, size_of, size_ok, all_below, permitted, first_not, refused_at, finished, refused, finishes_of, no_finishes, answer_by, answer}
use Rattle.graph.specs.Conditions.{TableOf, AcceptedTable}
use Rattle.graph.specs.Steps.{IsFirst}

and_false : (t : Bool) → (t && false) ≡ false
and_false true = refl
and_false false = refl

-- ---- earlier tasks

module _ (w : ℕ → ℕ) (i : ℕ) where
  below_at : (n k : ℕ) → k < n → all_below n w i ≡ true → w k < i
  unfolding all_below
  below_at zero k l e = absurd (not-suc-le-zero l)
  below_at (suc n) k l e =
      let p = both (all_below n w i) (ltb (w n) i) e in
      split n k
      (λ m. let q : n ≡ k = omega arith in subst (λ (x : ℕ). w x < i) q (ltb-true (w n) i p.1))
      (λ m. below_at n k m p.0)

  below_all : (n : ℕ) → ((k : ℕ) → k < n → w k < i) → all_below n w i ≡ true
  unfolding all_below
  below_all zero h = refl
  below_all (suc n) h = rw (below_all n (λ k l. h k (omega arith)), lt-ltb (w n) i (h n (omega arith)))

-- of the task numbers that stand in a part of the table
pub earlier_is : (r : Bool) (s : List ℕ) (at n i : ℕ) → at + n ≤ length s
    → (IsTrue r ↔ EachIndex (slice_range s at (at + n)) (λ k. get_or (slice_range s at (at + n)) k 0 < i))
    → r ≡ all_below n (λ k. get_or s (at + k) 0) i
earlier_is r s at n i h e =
    let w : ℕ → ℕ = λ k. get_or s (at + k) 0 in
    let long : length (slice_range s at (at + n)) ≡ n = omega (arith, length-between s at (at + n) h) in
    either r
    (λ t. t ∙ sym (below_all w i n (λ k l. omega (arith, get_or-between s at (at + n) k 0 (omega arith), e.0 t k (omega arith)))))
    (λ t. t ∙ sym (either (all_below n w i)
    (λ u. absurd (iff_false e t (λ k l. omega (arith, get_or-between s at (at + n) k 0 (omega arith), below_at w i n k (omega arith) u))))
    (λ u. u)))

-- ---- an entry

module _ (i : ℕ) (e : Entry) where
  pub core_out : 15 < e.core → permitted i e ≡ false
  unfolding permitted
  core_out h = rw (lt-leb e.core 15 h)

  pub time_out : e.core ≤ 15 → 6553500000 < e.time → permitted i e ≡ false
  unfolding permitted
  time_out c h = rw (le-leb e.core 15 c, lt-leb e.time 6553500000 h)

  pub count_out : e.core ≤ 15 → e.time ≤ 6553500000 → 8 < e.count → permitted i e ≡ false
  unfolding permitted
  count_out c t h = rw (le-leb e.core 15 c, le-leb e.time 6553500000 t, lt-leb e.count 8 h)

  pub by_earlier : e.core ≤ 15 → e.time ≤ 6553500000 → e.count ≤ 8 → permitted i e ≡ all_below e.count e.waits i
  unfolding permitted
  by_earlier c t h = rw (le-leb e.core 15 c, le-leb e.time 6553500000 t, le-leb e.count 8 h)

  pub permitted_is : permitted i e ≡ true → Permitted i e
  unfolding permitted
  permitted_is h =
      let p = both _ _ h in
      let q = both _ _ p.1 in
      let r = both _ _ q.1 in
      record {
        core_most = leb-true _ _ p.0;
        time_most = leb-true _ _ q.0;
        few = leb-true _ _ r.0;
        earlier = λ k l. below_at e.waits i e.count k l r.1;
      }

  pub is_permitted : Permitted i e → permitted i e ≡ true
  is_permitted p = by_earlier p.core_most p.time_most p.few ∙ below_all e.waits i e.count p.earlier

-- ---- the first that is refused

module _ (f : ℕ → Bool) where
  pub first_none : (n : ℕ) → ((i : ℕ) → i < n → f i ≡ true) → first_not n f ≡ none
  unfolding first_not
  first_none zero h = refl
  first_none (suc n) h = rw (first_none n (λ i l. h i (omega arith)), h n (omega arith))

  pub first_some : (n r : ℕ) → r < n → ((i : ℕ) → i < r → f i ≡ true) → f r ≡ false → first_not n f ≡ some r
  unfolding first_not
  first_some zero r l h e = absurd (not-suc-le-zero l)
  first_some (suc n) r l h e =
      split n r
      (λ m. let q : n ≡ r = omega arith in rw (q, first_none r h, e))
      (λ m. rw (first_some n r m h e))

-- ---- the size

module _ (s : List ℕ) where
  pub size_says : size_ok s ≡ true → TableOf s (size_of s)
  unfolding size_ok
  size_says e =
      let p = both (leb 1 (size_of s)) (leb (size_of s) 64 && eqb (11 * size_of s) (length s)) e in
      let q = both (leb (size_of s) 64) (eqb (11 * size_of s) (length s)) p.1 in
      record { least = leb-true _ _ p.0; most = omega (arith, leb-true (size_of s) 64 q.0); rows = sym (eqb-true _ _ q.1) }

  -- no table has another size
  pub no_size : (1 ≤ size_of s → size_of s ≤ 64 → length s ≡ 11 * size_of s → ⊥) → size_ok s ≡ false
  no_size h = either (size_ok s) (λ t. let z = size_says t in absurd (h z.least z.most z.rows)) (λ t. t)

  module _ (n : ℕ) (t : TableOf s n) where
    pub size_is : size_of s ≡ n
    size_is = omega (arith, t.rows)

    pub size_ok_lem : size_ok s ≡ true
    unfolding size_ok
    size_ok_lem =
        rw (size_is, le-leb 1 n t.least, le-leb n 64 (omega (arith, t.most)), eq-eqb (11 * n) (length s) (omega (arith, t.rows)))

-- ---- the answer

zeros : replicate 64 0 ≡ no_finishes
unfolding no_finishes
zeros = refl

module _ (s : List ℕ) where
  abbrev place : ℕ → ℕ
  place i = cond (ltb i (size_of s)) (finish (graph_of s) i) 0

  pub finishes_length : length (finishes_of s) ≡ 64
  unfolding finishes_of
  finishes_length = row_length 64 place

  pub refused_is : (place : ℕ) → refused_at s ≡ some place → refused 21 place (replicate 64 0) ≡ answer s
  refused_is place e = ap (refused 21 place) zeros ∙ sym (ap (answer_by s) e)

  pub size_refused : size_ok s ≡ false → refused_at s ≡ some 0
  unfolding refused_at
  size_refused e = rw e refl

  module _ (n : ℕ) (size : TableOf s n) where
    pub at_size : refused_at s ≡ first_not n (λ i. permitted i (graph_of s i))
    unfolding refused_at
    at_size = rw (size_ok_lem s n size, size_is s n size)

    pub entry_refused : (i : ℕ) → IsFirst s n i → refused_at s ≡ some i
    entry_refused i h = at_size ∙ first_some _ n i h.below h.before h.there

    pub all_permitted : ((i : ℕ) → i < n → permitted i (graph_of s i) ≡ true) → AcceptedTable s n
    all_permitted h = record { size = size; entries = λ i m. permitted_is i (graph_of s i) (h i m) }

  module _ (n : ℕ) (ok : AcceptedTable s n) where
    pub answer_given : answer s ≡ finished (finishes_of s)
    answer_given =
        ap (answer_by s) (at_size n ok.size ∙ first_none _ n (λ i m. is_permitted i (graph_of s i) (ok.entries i m)))

    -- place i of the finishes: that of its task, or 0
    place_here : (i : ℕ) → i < n → place i ≡ finish (graph_of s) i
    place_here i l = ap (λ (t : Bool). cond t (finish (graph_of s) i) 0) (lt-ltb i (size_of s) (omega (arith, size_is s n ok.size)))

    place_past : (i : ℕ) → n ≤ i → place i ≡ 0
    place_past i l = ap (λ (t : Bool). cond t (finish (graph_of s) i) 0) (le-ltb i (size_of s) (omega (arith, size_is s n ok.size)))

    pub finish_at : (i : ℕ) → i < n → get_or (finishes_of s) i 0 ≡ finish (graph_of s) i
    unfolding finishes_of
    finish_at i l = row_at_lem 64 place i 0 (omega (arith, ok.size.most)) ∙ place_here i l

    -- 64 numbers, each the finish of its task or 0
    pub finishes_are : (r : List ℕ) → length r ≡ 64 → ((i : ℕ) → i < n → get_or r i 0 ≡ finish (graph_of s) i)
        → ((i : ℕ) → n ≤ i → i < 64 → get_or r i 0 ≡ 0) → r ≡ finishes_of s
    unfolding finishes_of
    finishes_are r long here past =
        ext_get_or 0 r (row 64 place) (long ∙ sym (row_length 64 place))
        (λ i l. let m : i < 64 = omega arith in
        sym (row_at_lem 64 place i 0 m
        ∙ split n i (λ h. place_past i h ∙ sym (past i h m)) (λ h. place_here i h ∙ sym (here i h))))
