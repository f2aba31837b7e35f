-- A plain block's table offset by offset, and its durations in two parts.
use mathlib.Core.Path.{◌≡◌, sym, ◌∙◌, ap}
use mathlib.Core.Logic.{inl, inr}
use mathlib.Core.Option.{none}
use mathlib.Core.List.{List}
use lib.ListN.{get_or}
use native.Mathlib.Omega.{arith}
use Prim.Native.Nat.{ℕ, suc, ◌≤◌, ◌<◌}
use Rattle.runs.specs.Figures.{Time, longer}
use Rattle.runs.specs.Exact.{Longest}
use Rattle.runs.proofs.Cases.{split}
use Rattle.runs.proofs.Joins.{row_same}
use Rattle.runs.proofs.Meanings.{row_at_lem}
use Rattle.runs.proofs.TimesExact.{longest_one, longest_same, times_mean}
use Rattle.times.specs.Arrays.{time_of, table_of, Joined}
use Rattle.times.proofs.Ends.{Ends, moved_ends}
use Rattle.times.proofs.Tables.{table_of_at}
use Rattle.windows.specs.Windows.{Passed}

pub passed_ends : (t a : List ℕ) (P lo hi : ℕ) → Passed t P lo hi a → (q : ℕ) → q < P → Longest (Ends P lo hi (λ d o. d) (table_of P t) q) (time_of (get_or a q 0))
unfolding Passed table_of
passed_ends t a P lo hi h q l =
    rw (sym (row_at_lem P (λ o. time_of (get_or a o 0)) q none l) ∙ ap (λ (T : List Time). get_or T q none) h ∙ row_at_lem P _ q none l) (moved_ends P lo hi (λ d o. d) (table_of P t) q)

-- ---- durations in two parts

pub passed_parts : (P lo m n hi : ℕ) (t a b r : List ℕ) → n ≡ suc m → lo ≤ m → m ≤ hi → Passed t P lo m a → Passed t P n hi b → Joined P a b r → Passed t P lo hi r
unfolding Passed table_of
passed_parts P lo m n hi t a b r en l k x y j =
    row_same P (λ q. time_of (get_or r q 0)) _ (λ q lt.
    longest_one
    (rw (joined q lt)
    (longest_same _ _ _
    (λ c. elim [
      | inl (o, i, (d, u, v, z)) ↦ (o, i, (d, u, omega arith, z))
      | inr (o, i, (d, u, v, z)) ↦ (o, i, (d, omega arith, v, z))
    ])
    (λ c (o, i, (d, u, v, z)). split d m (λ w. inl (o, i, (d, u, w, z))) (λ w. inr (o, i, (d, omega arith, v, z))))
    (times_mean.is_join _ _ _ _ (passed_ends t a P lo m x q lt) (passed_ends t b P n hi y q lt))))
    (moved_ends P lo hi (λ d o. d) (table_of P t) q))
  where
    joined : (q : ℕ) → q < P → time_of (get_or r q 0) ≡ longer (time_of (get_or a q 0)) (time_of (get_or b q 0))
    joined q lt =
        sym (table_of_at P r q lt) ∙ ap (λ (T : List Time). get_or T q none) j ∙ row_at_lem P _ q none lt
        ∙ ap (λ (v : Time). longer v (get_or (table_of P b) q none)) (table_of_at P a q lt) ∙ ap (λ (v : Time). longer (time_of (get_or a q 0)) v) (table_of_at P b q lt)
