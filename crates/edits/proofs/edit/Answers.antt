use borrow.Author.Rules.{rules}
use Rattle.edits.proofs.Promises.{edit_refused, refused_done, edit_done, done_done}
use Rattle.std.proofs.lemmas.Result.{err_from_is_err_and}
use Rattle.edits.proofs.edit.Goals as goal

pub returns-in_err-at : goal.returns-in_err-at
returns-in_err-at c =
    let a = c.args in
    let f = c.find in
    let x = c.in_err-at.field-0.0 in
    let p = err_from_is_err_and c.from_residual.result c.from_residual.ensures.1 in
    rw (p.1, p.2) (record {
      equality = edit_refused a.image.now a.node a.lowest a.highest f.result f.ensures x c.in_err-at.was;
      done = refused_done a.image.now a.node a.lowest a.highest f.result f.ensures x c.in_err-at.was;
    })

pub returns : goal.returns
returns c =
    let a = c.args in
    let f = c.find in
    let p = c.set_durations in record {
      equality = edit_done a.image.now a.node a.lowest a.highest f.result f.ensures c.in_ok-at.at c.in_ok-at.was p.new.image p.ensures;
      done = done_done a.image.now a.node a.lowest a.highest f.result f.ensures c.in_ok-at.at c.in_ok-at.was p.new.image p.ensures
          (λ i. search rules);
    }
