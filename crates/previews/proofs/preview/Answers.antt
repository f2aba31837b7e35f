use Rattle.std.proofs.lemmas.Result.{err_from_is_err_and}
use Rattle.previews.proofs.Promises.{preview_refused, refused_foreseen, preview_given, given_foreseen}
use Rattle.previews.proofs.preview.Goals as goal

pub returns-in_err-at : goal.returns-in_err-at
returns-in_err-at c =
    let a = c.args in
    let f = c.find in
    let s = a.image.now in
    let x = c.in_err-at.field-0.0 in
    let p = err_from_is_err_and c.from_residual.result c.from_residual.ensures.1 in
    rw (p.1, p.2) (record {
      equality = preview_refused s a.node a.lowest a.highest f.result f.ensures x c.in_err-at.was a.table.now;
      figures = refused_foreseen s a.node a.lowest a.highest f.result f.ensures x c.in_err-at.was a.table.now;
    })

pub returns : goal.returns
returns c =
    let a = c.args in
    let f = c.find in
    let g = c.on_copy in
    let s = a.image.now in
    let t = g.new.table in
    record {
      equality = preview_given s a.node a.lowest a.highest f.result f.ensures c.in_ok-at.at c.in_ok-at.was a.table.now g.result t g.ensures.equality;
      figures = given_foreseen s a.node a.lowest a.highest f.result f.ensures c.in_ok-at.at c.in_ok-at.was a.table.now g.result t
          g.ensures.demand3 g.ensures.demand2;
    }
