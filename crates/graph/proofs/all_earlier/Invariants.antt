use Rattle.std.proofs.Common.{ℕ, ◌<◌, get_or}
use Rattle.graph.proofs.all_earlier.Given as goal

-- Before each turn the first k task numbers are below i.
abbrev pub invariant-loop-k : goal.invariant-loop-k
invariant-loop-k l = (j : ℕ) → j < l.k → get_or l.waits j 0 < l.i
