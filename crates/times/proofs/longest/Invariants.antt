use mathlib.Core.Path.{◌≡◌}
use Rattle.runs.specs.Figures.{longest_of}
use Rattle.times.specs.Arrays.{time_of, table_of}
use Rattle.times.proofs.longest.Given as goal

-- Before each turn `best` is the longest time of the entries so far.
abbrev pub invariant-loop-x : goal.invariant-loop-x
invariant-loop-x l = time_of l.best ≡ longest_of l.x-index (table_of l.period l.x-items)
