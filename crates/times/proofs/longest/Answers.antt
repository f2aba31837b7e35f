use mathlib.Core.Path.{◌≡◌, refl, ◌∙◌, ap}
use native.Mathlib.Numerals.{add-one}
use native.Mathlib.Omega.{arith}
use Rattle.std.proofs.lemmas.List.{length-take, length-take-le}
use Rattle.runs.specs.Figures.{longest_of}
use Rattle.times.proofs.Tables.{time_none, longest_none, longest_more, first_places}
use Rattle.times.proofs.longest.Goals as goal

pub loop-x-init : goal.loop-x-init
loop-x-init c = time_none _ refl ∙ longest_none _

pub loop-x-preserved : goal.loop-x-preserved
loop-x-preserved c =
    let a = c.args in
    let l = c.loop-x in
    rw add-one (longest_more _ _ l.x-index _ _ (omega (arith, length-take a.period a.t)) l.invariant c.longer_of-best.ensures)

pub returns : goal.returns
returns c =
    let a = c.args in
    let e : c.loop-x.x-index ≡ a.period = omega (arith, length-take-le a.period a.t) in
    rw e at c.loop-x.invariant ∙ ap (longest_of a.period) (first_places a.period a.t)
