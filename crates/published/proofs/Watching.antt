-- Sets that have become periodic: the same set again after c iterations, at the same cost each time. What is watched stays true from
-- iteration to iteration.
use mathlib.Core.Path.{◌≡◌, refl, sym, ◌∙◌, ap, ap₂}
use mathlib.Core.Bool.{Bool, true, false, ◌||◌}
use mathlib.Core.List.{List}
use lib.ListN.{get_or}
use native.Mathlib.Omega.{arith}
use native.Mathlib.Nat.{le_refl, zero-mul, suc-mul, add-zero}
use Prim.Native.Nat.{ℕ, zero, suc, ◌+◌, ◌-◌, ◌*◌, ◌≤◌}
use Rattle.runs.specs.Nodes.{Trees}
use Rattle.runs.specs.Carried.{row, iterate}
use Rattle.runs.specs.Figures.{cost_all, sum}
use Rattle.runs.specs.Parts.{Unrolled}
use Rattle.runs.proofs.Joins.{iterate_split, sum_same, sum_split}
use Rattle.runs.proofs.Periodic.{Under, or_bounds, unrolled_skip as skip}
use Rattle.bus.specs.declared.Bus.{Bus}
use Rattle.bus.specs.Owning.{bus_meant}
use Rattle.offsets.specs.declared.Set.{Set}
use Rattle.offsets.specs.Sets.{value, has}
use Rattle.exits.specs.Exits.{bits_of}
use Rattle.cycles.specs.Cycles.{renews, Seen}
use Rattle.cycles.specs.declared.Watch.{Watch}
use Rattle.cycles.proofs.Watching.{watches_next}
use Rattle.published.specs.declared.Pass.{Pass}
use Rattle.published.specs.declared.Kept.{Kept}
use Rattle.published.specs.Steps.{bits, after_all, charge, Cyclic, State, state, next, charged, WatchedBy}

-- a set's bits with a cost
abbrev pub pair : List Bool → ℕ → State
pair X n = record { set = X; total = n }

-- sets with the same number have the same bits
same_bits : (b : Bus) (s t : Set) → value s ≡ value t → bits b s ≡ bits b t
unfolding bits_of
same_bits b s t e = ap (λ (n : ℕ). row b.period (λ o. has n o)) e

module _ (b : Bus) (xs : Trees) where
  -- the cost of the iterations behind the first k
  charge_on : (C : List Bool) (k i : ℕ) → charge b xs (iterate (after_all b xs) k C) i ≡ charge b xs C (k + i)
  charge_on C k i = ap (cost_all (bus_meant b) xs) (sym (iterate_split (after_all b xs) k i C))

  pub multiple : (c g : ℕ) (C : List Bool) → Cyclic b xs c g C → (n : ℕ) → iterate (after_all b xs) (n * c) C ≡ C
  unfolding iterate
  multiple c g C h zero = rw (zero-mul c)
  multiple c g C h (suc n) =
      ap (λ (m : ℕ). iterate (after_all b xs) m C) (suc-mul n c) ∙ iterate_split (after_all b xs) (n * c) c C
      ∙ ap (iterate (after_all b xs) c) (multiple c g C h n) ∙ h.again

  pub multiple_cost : (c g : ℕ) (C : List Bool) → Cyclic b xs c g C → (n : ℕ) → sum (n * c) (charge b xs C) ≡ n * g
  unfolding sum
  multiple_cost c g C h zero = rw (zero-mul c, zero-mul g)
  multiple_cost c g C h (suc n) =
      let rest : sum c (λ i. charge b xs C (n * c + i)) ≡ sum c (charge b xs C) =
      sum_same c _ _ (λ i l. sym (charge_on C (n * c) i) ∙ ap (λ (T : List Bool). charge b xs T i) (multiple c g C h n)) in
      ap (λ (m : ℕ). sum m (charge b xs C)) (suc-mul n c) ∙ sum_split (n * c) c (charge b xs C)
      ∙ ap₂ ◌+◌ (multiple_cost c g C h n) (rest ∙ h.costs) ∙ sym (suc-mul n g)

  -- unrolling from behind whole cycles is unrolling all
  pub unrolled_skip : (P c g : ℕ) (C : List Bool) → Cyclic b xs c g C → 1 ≤ c → (least done left n : ℕ) → n * c + c ≤ left → (E C' E' : List Bool)
      → Unrolled false ◌||◌ P (after_all b xs) least (done + n * c) (left - n * c) C E C' E'
      → Unrolled false ◌||◌ P (after_all b xs) least done left C E C' E'
  unrolled_skip P c g C h pos least done left n room E C' E' u =
      skip false ◌||◌ or_bounds (after_all b xs) C c pos rises P least done left (n * c) room C E C' E' (sym (multiple c g C h n)) u
    where
      rises : (o m : ℕ) → Under ◌||◌ (get_or (iterate (after_all b xs) m C) o false) (get_or (iterate (after_all b xs) (m + c) C) o false)
      rises o m =
          let e : iterate (after_all b xs) (m + c) C ≡ iterate (after_all b xs) m C =
          ap (λ (n : ℕ). iterate (after_all b xs) n C) (omega arith) ∙ iterate_split (after_all b xs) c m C ∙ ap (iterate (after_all b xs) m) h.again in
          rw e (or_bounds.same _)

  -- ---- the set with the cost so far

  commutes : (q : ℕ) (C : State) → next b xs (charged q C) ≡ charged q (next b xs C)
  commutes q C = ap (λ (n : ℕ). pair (after_all b xs C.set) n) (order C.total q (cost_all (bus_meant b) xs C.set))
    where
      order : (m q c : ℕ) → m + q + c ≡ m + c + q
      order m q c = omega arith

  iterate_set : (n : ℕ) (C : State) → (iterate (next b xs) n C).set ≡ iterate (after_all b xs) n C.set
  unfolding iterate
  iterate_set zero C = refl
  iterate_set (suc n) C = ap (after_all b xs) (iterate_set n C)

  iterate_total : (n : ℕ) (C : State) → (iterate (next b xs) n C).total ≡ C.total + sum n (charge b xs C.set)
  unfolding iterate sum
  iterate_total zero C = sym (add-zero C.total)
  iterate_total (suc n) C =
      omega (arith, iterate_total n C, ap (cost_all (bus_meant b) xs) (iterate_set n C))

  -- a cycle of both is a cycle of the set with its cost
  pub cyclic_of : (c g : ℕ) (C : State) → iterate (next b xs) c C ≡ charged g C → Cyclic b xs c g C.set
  cyclic_of c g C e = record {
    again = sym (iterate_set c C) ∙ ap (λ (S : State). S.set) e;
    costs = let t : (iterate (next b xs) c C).total ≡ C.total + g = ap (λ (S : State). S.total) e in omega (arith, t, iterate_total c C);
  }

-- ---- one more iteration

-- what is kept then is where the loop stands or what was kept, as the watch says
pub watched_by : (p : Pass) (kept kept' : Kept) (w : Watch) (same : Bool) (v : Watch) → kept.spent ≤ p.cost → Seen w same (p.cost - kept.spent) v
    → (same ≡ true → value p.cur ≡ value kept.set) → (renews v.search ≡ true → kept' ≡ record { set = p.cur; spent = p.cost })
    → (renews v.search ≡ false → kept' ≡ kept) → WatchedBy p kept w (record { pass = p; kept = kept'; watch = v })
watched_by p kept kept' w same v less seen is renewed stays = record {
  pass = refl;
  counts = seen.counts;
  spent = spent (renews v.search) refl;
  watches = λ b xs C h s.
      watches_next (next b xs) charged (commutes b xs) w same (p.cost - kept.spent) v seen C (state b kept.set kept.spent) (state b p.cur p.cost)
      (state b kept'.set kept'.spent) h s
      (λ t. let total : p.cost ≡ kept.spent + (p.cost - kept.spent) = omega arith in
      ap₂ pair (same_bits b p.cur kept.set (is t)) total)
      (λ e. ap (λ (y : Kept). state b y.set y.spent) (renewed e)) (λ e. ap (λ (y : Kept). state b y.set y.spent) (stays e));
}
  where
    spent : (t : Bool) → renews v.search ≡ t → kept'.spent ≤ p.cost
    spent true e = rw (renewed e) (le_refl p.cost)
    spent false e = rw (stays e) less
