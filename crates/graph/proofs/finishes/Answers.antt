use mathlib.Core.Path.{◌∙◌, sym, ap}
use Rattle.graph.specs.Table.{finished}
use Rattle.graph.proofs.Tables.{refused_is, answer_given}
use Rattle.graph.proofs.Reasons.{reasons}
use Rattle.graph.proofs.Promises.{waiting}
use Rattle.graph.proofs.finishes.Goals as goal

pub returns-in-Ok : goal.returns-in-Ok
returns-in-Ok c =
    let s = c.args.table.now in
    let is = ap finished c.ends_of.ensures ∙ sym (answer_given s c.in-Ok.n c.in-Ok.ensures) in
    record {
      equality = is;
      reason = reasons s _ is;
      waiting = waiting s _ is;
    }

pub returns-in-Err : goal.returns-in-Err
returns-in-Err c =
    let s = c.args.table.now in
    let is = refused_is s c.in-Err.place c.in-Err.ensures in
    record {
      equality = is;
      reason = reasons s _ is;
      waiting = waiting s _ is;
    }
