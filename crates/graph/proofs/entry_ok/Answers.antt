use mathlib.Core.Path.{sym, ◌∙◌}
use native.Mathlib.Omega.{arith}
use Rattle.graph.specs.Table.{graph_of}
use Rattle.graph.proofs.Tables.{core_out, time_out, count_out, by_earlier, earlier_is}
use Rattle.graph.proofs.entry_ok.Goals as goal

pub returns : goal.returns
returns c =
    let a = c.args in
    let e = graph_of a.table.now a.i in
    earlier_is _ a.table.now _ e.count a.i (omega arith) c.all_earlier.ensures
    ∙ sym (by_earlier a.i e (omega arith) (omega arith) (omega arith))

pub returns-then-table-at-gt15 : goal.returns-then-table-at-gt15
returns-then-table-at-gt15 c = let a = c.args in sym (core_out a.i (graph_of a.table.now a.i) (omega arith))

pub returns-then-table-at-gt6553500000 : goal.returns-then-table-at-gt6553500000
returns-then-table-at-gt6553500000 c = let a = c.args in sym (time_out a.i (graph_of a.table.now a.i) (omega arith) (omega arith))

pub returns-then-count-gt8 : goal.returns-then-count-gt8
returns-then-count-gt8 c = let a = c.args in sym (count_out a.i (graph_of a.table.now a.i) (omega arith) (omega arith) (omega arith))
