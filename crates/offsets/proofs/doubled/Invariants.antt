use Rattle.std.proofs.Common.{◌-◌, ◌≤◌}
use Rattle.offsets.specs.Doubles.{Doubled}
use Rattle.offsets.proofs.doubled.Given as goal

-- What is there is made of `have` durations; each round doubles them.
abbrev pub invariant-loop-have : goal.invariant-loop-have
invariant-loop-have g l = (1 ≤ l.have) × (l.have ≤ l.many) × Doubled (goal.F-post g l.moved) l.initial.acc l.have l.acc

abbrev pub decreases-loop-have : goal.decreases-loop-have
decreases-loop-have g l = l.many - l.have
