-- Arrays as tables: equal tables from equal places.
use mathlib.Core.Path.{◌≡◌, sym, ◌∙◌}
use mathlib.Core.Option.{none}
use mathlib.Core.List.{List}
use lib.ListN.{get_or}
use Prim.Native.Nat.{ℕ, ◌<◌}
use Rattle.runs.specs.Carried.{row}
use Rattle.runs.specs.Figures.{Time}
use Rattle.runs.proofs.Meanings.{row_at_lem}
use Rattle.runs.proofs.Joins.{row_same}
use Rattle.image.specs.declared.Walk.{Walk}
use Rattle.times.specs.Arrays.{time_of, table_of}
use Rattle.iterations.specs.Iterations.{BegunBy, TurnedBy}
use Rattle.tight.specs.Steps.{size_of, table, BegunAt, TurnedAt}

pub table_at : (k : Walk) (t : List ℕ) (o : ℕ) → o < size_of k → get_or (table k t) o none ≡ time_of (get_or t o 0)
unfolding table_of
table_at k t o h = row_at_lem (size_of k) (λ o. time_of (get_or t o 0)) o none h

pub table_is : (k : Walk) (r : List ℕ) (f : ℕ → Time) → ((o : ℕ) → o < size_of k → get_or (table k r) o none ≡ f o) → table k r ≡ row (size_of k) f
unfolding table_of
table_is k r f h = row_same (size_of k) _ f (λ o l. sym (row_at_lem (size_of k) (λ o. time_of (get_or r o 0)) o none l) ∙ h o l)

-- ---- between iterations: n is the number of places

module _ (k : Walk) (n : ℕ) (is : size_of k ≡ n) where
  pub begun_at : (least : ℕ) (t out : List ℕ) → BegunBy n least t out → BegunAt k least t out
  begun_at least t out b = rw is b

  pub turned_at : (least done : ℕ) (out next out' : List ℕ) → TurnedBy n least done out next out' → TurnedAt k least done out next out'
  turned_at least done out next out' b = rw is b
