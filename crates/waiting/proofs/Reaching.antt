-- A stretch of entries, one entry at a time.
use mathlib.Core.Path.{◌≡◌, sym, ◌∙◌, subst}
use mathlib.Core.Logic.{inl, inr}
use mathlib.Core.Option.{none, some}
use mathlib.Core.List.{List}
use lib.ListN.{get_or}
use native.Mathlib.Omega.{arith}
use Prim.Native.Nat.{ℕ, ◌+◌, ◌-◌, ◌≤◌, ◌<◌}
use Rattle.runs.specs.Exact.{nothing}
use Rattle.runs.proofs.Cases.{split}
use Rattle.runs.proofs.TimesExact.{longest_same, times_mean}
use Rattle.times.specs.Arrays.{no_time, time_of, table_of, LongerOf, LaterOf}
use Rattle.waiting.specs.Waiting.{Reach}
use Rattle.times.proofs.Tables.{time_none, table_of_at}
use Rattle.times.proofs.Ends.{self}

pub reach_none : (P : ℕ) (t : List ℕ) (a z base r : ℕ) → z ≤ a → r ≡ no_time → Reach P t a z base r
reach_none P t a z base r h e = rw (time_none r e) (nothing (λ c (o, l, m, x). omega arith))

pub reach_more : (P : ℕ) (t : List ℕ) (a z base x v r : ℕ) → a ≤ z → z < P → Reach P t a z base x → LaterOf (get_or t z 0) (base - z) v → LongerOf x v r
    → Reach P t a (z + 1) base r
unfolding LongerOf LaterOf
reach_more P t a z base x v r h l k e f =
    rw (f, e)
    (longest_same _ _ _
    (λ c. elim [
      | inl (o, i, j, y) ↦ (o, i, omega arith, y)
      | inr (c', g, y) ↦ (z, h, omega arith, (c', table_of_at P t z l ∙ g, y))
    ])
    (λ c (o, i, j, (c', g, y)).
    split z o
    (λ m. let at : o ≡ z = omega arith in
    inr (c', sym (table_of_at P t z l) ∙ subst (λ (n : ℕ). get_or (table_of P t) n none ≡ some c') at g, subst (λ (n : ℕ). c ≡ c' + (base - n)) at y))
    (λ m. inl (o, i, m, (c', g, y))))
    (times_mean.is_join _ _ _ _ k (times_mean.is_later _ (base - z) _ (self (time_of (get_or t z 0))))))
