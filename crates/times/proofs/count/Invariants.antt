use mathlib.Core.Path.{◌≡◌}
use Prim.Native.Nat.{◌+◌, ◌≤◌}
use Rattle.runs.specs.Figures.{reached}
use Rattle.times.specs.Arrays.{table_of}
use Rattle.times.proofs.count.Given as goal

-- Before each turn the places so far are counted: those without a time, and those that are reached.
abbrev pub invariant-loop-x : goal.invariant-loop-x
invariant-loop-x l = (l.without ≤ l.x-index) × (l.without + reached l.x-index (table_of l.n l.t) ≡ l.x-index)
