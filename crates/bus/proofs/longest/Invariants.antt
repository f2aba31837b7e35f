use Rattle.bus.specs.Stretches.{LongestOf}
use Rattle.bus.proofs.longest.Given as goal

-- Before each turn the stretch with the number `best` is a longest of the first i.
abbrev pub invariant-loop-i : goal.invariant-loop-i
invariant-loop-i l = LongestOf l.v l.i l.best
