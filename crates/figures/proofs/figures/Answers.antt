use mathlib.Core.Path.{sym, ◌∙◌}
use Rattle.answers.proofs.Promises.{demand3, demand2}
use Rattle.figures.proofs.Answering.{answerable, given_equal}
use Rattle.figures.proofs.figures.Goals as goal

pub given-requires : goal.given-requires
given-requires c =
    let j = c.judge-j in
    answerable c.args.image.now j.result.places j.result.verdict c.in_ok-k.k j.ensures c.in_ok-k.was

-- Both demands follow from the equality.
pub returns : goal.returns
returns c =
    let a = c.args in
    let g = c.given in
    let q = given_equal a.image.now a.table.now c.in_ok-k.k (sym c.judge-j.ensures.is ∙ c.in_ok-k.was) g.result g.new.table g.ensures in
    record {
      equality = q;
      demand3 = demand3 a.image.now a.table.now _ _ q;
      demand2 = demand2 a.image.now a.table.now _ _ q;
    }
