-- The two arrays that are filled task by task: the finishes, and of each core the finish of the last task so far.
use mathlib.Core.Path.{◌≡◌, sym, ◌∙◌, ap, ap₂}
use mathlib.Core.List.{List}
use lib.ListN.{length, get_or, set, replicate, get_or-replicate}
use lib.Seq.{get_or-set_same, get_or-set_other}
use lib.Dec.{eqb}
use borrow.Author.Tests.{eqb-true, eqb-false}
use native.Mathlib.Numerals.{add-one}
use native.Mathlib.Omega.{arith}
use Prim.Native.Nat.{ℕ, ◌+◌, ◌≤◌, ◌<◌, max}
use Rattle.std.specs.Prelude.{slice_range}
use Rattle.std.proofs.lemmas.List.Edits.{length-between, get_or-between}
use Rattle.runs.specs.Figures.{largest}
use Rattle.runs.proofs.Cases.{split, either}
use Rattle.runs.proofs.Largest.{largest_same}
use Rattle.graph.specs.Graph.{Graph, Permitted, last_on, or_zero, latest, finish}
use Rattle.graph.proofs.Schedules.{finish_is}

-- the first i tasks are done
pub record Filled (g : Graph) (i : ℕ) (ends last : List ℕ) : Type 0 where
  pub done : (j : ℕ) → j < i → get_or ends j 0 ≡ finish g j
  pub rest : (j : ℕ) → i ≤ j → j < 64 → get_or ends j 0 ≡ 0
  pub lasts : (c : ℕ) → c < 16 → get_or last c 0 ≡ or_zero (λ j. finish g j) (last_on g c i)

-- with one number more, of which the larger is kept
pub latest_more : (f : ℕ → ℕ) (k previous b r : ℕ) → b ≡ max (largest k f) previous → r ≡ max b (f k) → r ≡ max (largest (k + 1) f) previous
unfolding largest
latest_more f k previous b r e h = rw (add-one k) (omega arith)

-- of the numbers that stand in a part of the table
pub latest_is : (s ends : List ℕ) (at n previous r : ℕ) → at + n ≤ length s
    → r ≡ max (largest (length (slice_range s at (at + n))) (λ k. get_or ends (get_or (slice_range s at (at + n)) k 0) 0)) previous
    → r ≡ max (largest n (λ k. get_or ends (get_or s (at + k) 0) 0)) previous
latest_is s ends at n previous r h e =
    let long : length (slice_range s at (at + n)) ≡ n = omega (arith, length-between s at (at + n) h) in
    e ∙ ap (λ (m : ℕ). max m previous)
    (rw long (largest_same n _ _ (λ k l. ap (λ (x : ℕ). get_or ends x 0) (get_or-between s at (at + n) k 0 (omega arith)))))

pub empty : (g : Graph) → Filled g 0 (replicate 64 0) (replicate 16 0)
unfolding last_on
empty g = record {
  done = λ j l. absurd (omega arith);
  rest = λ j h l. get_or-replicate 64 j 0 0 l;
  lasts = λ c l. get_or-replicate 16 c 0 0 l;
}

module _ (g : Graph) (i : ℕ) (ends last : List ℕ) (h : Filled g i ends last) where
  pub one_more : (e : ℕ) → length ends ≡ 64 → length last ≡ 16 → i < 64 → (g i).core < 16 → e ≡ finish g i
      → Filled g (i + 1) (set ends i e) (set last (g i).core e)
  unfolding last_on
  one_more e long short few low is = record {
    done = λ j l.
        split i j
        (λ m. let q : j ≡ i = omega arith in rw q (get_or-set_same ends i e 0 (omega arith) ∙ is))
        (λ m. get_or-set_other ends i j e 0 (λ z. omega arith) ∙ h.done j m);
    rest = λ j m l. get_or-set_other ends i j e 0 (λ z. omega arith) ∙ h.rest j (omega arith) l;
    lasts = λ c l. rw (add-one i) (
        either (eqb (g i).core c)
        (λ t. let q : (g i).core ≡ c = eqb-true (g i).core c t in rw (t, ← q) (get_or-set_same last (g i).core e 0 (omega arith) ∙ is))
        (λ t. rw t (get_or-set_other last (g i).core c e 0 (λ z. eqb-false (g i).core c t (sym z)) ∙ h.lasts c l)));
  }

  -- the time and the latest of the ends that stand in the arrays make the finish
  pub end_is : (n : ℕ) → ((i : ℕ) → i < n → Permitted i (g i)) → i < n → (later : ℕ)
      → later ≡ max (largest (g i).count (λ k. get_or ends ((g i).waits k) 0)) (get_or last (g i).core 0) → (g i).time + later ≡ finish g i
  unfolding latest
  end_is n ok l later e =
      ap (λ (x : ℕ). (g i).time + x)
      (e ∙ ap₂ max
      (largest_same (g i).count _ _ (λ k m. h.done ((g i).waits k) ((ok i l).earlier k m)))
      (h.lasts (g i).core (omega (arith, (ok i l).core_most))))
      ∙ sym (finish_is g n ok i l)
