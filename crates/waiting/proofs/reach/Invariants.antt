use Rattle.waiting.specs.Waiting.{Reach}
use Rattle.waiting.proofs.reach.Given as goal

-- Before each turn `best` is the longest time of the entries below o.
abbrev pub invariant-loop-o : goal.invariant-loop-o
invariant-loop-o l = Reach l.period l.t l.from l.o l.base l.best
