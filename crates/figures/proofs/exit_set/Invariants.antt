use mathlib.Core.Path.{◌≡◌}
use mathlib.Core.Bool.{not}
use mathlib.Core.List.{List}
use lib.Dec.{eqb}
use lib.ListN.{get_or}
use Prim.Native.Nat.{ℕ, ◌^◌, ◌<◌}
use Rattle.runs.specs.Figures.{no_time}
use Rattle.offsets.specs.Sets.{value, has}
use Rattle.figures.proofs.exit_set.Given as goal

-- the set m has just the offsets below o whose place of t holds a time
pub record Below (t : List ℕ) (o m : ℕ) : Type 0 where
  pub within : m < 2 ^ o
  pub members : (j : ℕ) → j < o → has m j ≡ not (eqb (get_or t j 0) no_time)

-- Before each turn the set has just the offsets below o whose place holds a time, since each turn joins o or leaves it out.
abbrev pub invariant-loop-o : goal.invariant-loop-o
invariant-loop-o l = Below l.t l.o (value l.out)
