use mathlib.Core.Path.{◌≡◌}
use Rattle.nodes.specs.Nodes.{lines_of}
use Rattle.nodes.proofs.fetched.lines.Given as goal

-- The invariant: the most so far is that of the nodes before n.
abbrev pub invariant-loop-n : goal.invariant-loop-n
invariant-loop-n l = l.most ≡ lines_of l.image l.n
