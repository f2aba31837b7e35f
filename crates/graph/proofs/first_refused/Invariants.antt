use Rattle.std.proofs.Common.{◌≡◌, ℕ, ◌<◌, true}
use Rattle.graph.specs.Table.{graph_of, permitted}
use Rattle.graph.proofs.first_refused.Given as goal

-- Before each turn the first i entries are permitted.
abbrev pub invariant-loop-i : goal.invariant-loop-i
invariant-loop-i l = (j : ℕ) → j < l.i → permitted j (graph_of l.table j) ≡ true
