use borrow.Author.Rules.{rules}
use mathlib.Core.Path.{◌≡◌}
use lib.ListN.{length}
use native.Mathlib.Omega.{arith}
use Rattle.listing.proofs.Answered.{lists_refused, lists_given}
use Rattle.listing.proofs.listing.Goals as goal

pub returns-in-Err : goal.returns-in-Err
returns-in-Err c =
    let a = c.args in
    let g = c.figures in
    lists_refused a.image.now g.new.table g.result g.ensures.equality a.out.now c.in-Err.e c.from.result
    c.list_refused.result c.list_refused.new.out c.in-Err.is c.from.ensures c.list_refused.ensures

pub returns-in-Ok : goal.returns-in-Ok
returns-in-Ok c =
    let a = c.args in
    let g = c.figures in
    let long : length g.new.table ≡ 256 = search rules in
    lists_given a.image.now g.new.table g.result g.ensures.equality a.out.now c.in-Ok.f
    c.list_figures.result c.list_figures.new.out c.in-Ok.is (omega arith) c.list_figures.ensures
