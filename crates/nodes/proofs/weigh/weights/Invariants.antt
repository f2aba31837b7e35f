use Rattle.nodes.proofs.Levels.{Table}
use Rattle.nodes.proofs.weigh.weights.Given as goal

-- The invariant: the table is right for each node below n, each node being weighed by those before it.
abbrev pub invariant-loop-n : goal.invariant-loop-n
invariant-loop-n l = Table l.image l.n l.known
