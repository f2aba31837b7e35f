use Rattle.std.proofs.Common.{◌≡◌, ◌*◌, ◌≤◌, length}
use Rattle.graph.specs.Table.{graph_of}
use Rattle.graph.proofs.Filling.{Filled}
use Rattle.graph.proofs.ends_of.Given as goal

-- Before each turn the first i tasks are done (`Filled`); each turn does one more, whose end is its finish.
abbrev pub invariant-loop-i : goal.invariant-loop-i
invariant-loop-i l = record {
  most : l.n ≤ 64;
  rows : 11 * l.n ≤ length l.table;
  ends_long : length l.ends ≡ 64;
  last_long : length l.last ≡ 16;
  filled : Filled (graph_of l.table) l.i l.ends l.last;
}
