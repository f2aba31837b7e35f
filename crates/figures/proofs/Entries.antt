-- The array of exit times as the lent table's entries, as the tight figure and as the exit count.
use mathlib.Core.Path.{◌≡◌, refl, sym, ◌∙◌, ap}
use mathlib.Core.Bool.{Bool, true, false, cond}
use mathlib.Core.Option.{none, some}
use mathlib.Core.List.{List, [], ◌∷◌, ◌++◌}
use lib.ListN.{get_or, length, take, drop}
use lib.Dec.{eqb}
use borrow.Author.Tests.{eqb-true}
use native.Mathlib.Nat.{not-suc-le-zero, le_of_suc-le-suc}
use Prim.Native.Nat.{ℕ, zero, suc, ◌≤◌, ◌<◌}
use Rattle.runs.specs.Carried.{row}
use Rattle.runs.specs.Figures.{Time, no_time, entry_of, held, longest_of, exit_times, exit_count, tight}
use Rattle.runs.proofs.Joins.{row_same, sum_same}
use Rattle.schedule.specs.Said.{said}
use Rattle.image.specs.Tasks.{task_of}
use Rattle.image.specs.declared.Outline.{Outline}
use Rattle.times.specs.Arrays.{time_of, table_of}
use Rattle.times.proofs.Tables.{table_of_at}
use Rattle.answers.specs.Answers.{filled}
use Rattle.figures.specs.Steps.{Ended, holding}

-- a number is the entry of the time that it stands for
entry_time : (n : ℕ) → n ≡ entry_of (time_of n)
unfolding entry_of time_of
entry_time n = go (eqb n no_time) refl
  where
    go : (z : Bool) → eqb n no_time ≡ z → n ≡ entry_of (cond z none (some n))
    go true e = eqb-true n no_time e
    go false e = refl

held_time : (n : ℕ) → ◌≡◌ {A = ℕ} (cond (eqb n no_time) 0 1) (cond (held (time_of n)) 1 0)
unfolding held time_of
held_time n = go (eqb n no_time)
  where
    go : (z : Bool) → ◌≡◌ {A = ℕ} (cond z 0 1) (cond (held (cond z none (some n))) 1 0)
    go true = refl
    go false = refl

take_row : (n : ℕ) (t : List ℕ) → n ≤ length t → take n t ≡ row n (λ o. get_or t o 0)
unfolding row
take_row zero t h = refl
take_row (suc n) [] h = absurd (not-suc-le-zero h)
take_row (suc n) (x ∷ xs) h = ap (λ (l : List ℕ). x ∷ l) (take_row n xs (le_of_suc-le-suc h))

module _ (s : List ℕ) (k : Outline) (t : List ℕ) (ended : Ended s k t) where
  time_at_lem : (o : ℕ) → o < (said s).period → time_of (get_or t o 0) ≡ get_or (exit_times (task_of s k)) o none
  time_at_lem o l = sym (table_of_at (said s).period t o l) ∙ ap (λ (T : List Time). get_or T o none) ended

  pub tight_entry : (r : ℕ) → time_of r ≡ longest_of (said s).period (table_of (said s).period t) → r ≡ entry_of (tight (task_of s k))
  tight_entry r e = entry_time r ∙ ap entry_of (e ∙ ap (longest_of (said s).period) ended)

  pub count_entries : holding t (said s).period ≡ exit_count (task_of s k)
  count_entries =
      sum_same (said s).period _ _
      (λ o l. held_time (get_or t o 0) ∙ ap (λ (v : Time). cond (held v) 1 0) (time_at_lem o l))

  pub table_entries : (before : List ℕ) → (said s).period ≤ length t
      → take (said s).period t ++ drop (said s).period before ≡ filled (task_of s k) (said s).period before
  table_entries before h =
      ap (λ (l : List ℕ). l ++ drop (said s).period before)
      (take_row (said s).period t h ∙ row_same (said s).period _ _ (λ o l. entry_time (get_or t o 0) ∙ ap entry_of (time_at_lem o l)))
