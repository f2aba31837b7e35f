use Rattle.offsets.specs.Sets.{value}
use Rattle.exits.specs.Exits.{EndsFrom}
use Rattle.exits.proofs.SetOfs.{set_none, set_row}
use native.Mathlib.Omega.{arith}
use Rattle.exits.proofs.ends_from.Goals as goal

pub returns-then-top-least : goal.returns-then-top-least
returns-then-top-least c =
    let a = c.args in
    set_none a.b.period (value c.empty.result) (EndsFrom a.b.period a.y a.least a.top) c.empty.ensures (λ j (d, l, h, q). omega (arith, c.if-top-least.true))

pub returns : goal.returns
returns c =
    let a = c.args in
    let from = c.turn_by-from in
    set_row a.b.period a.y a.least a.top from.result _ (value c.interval.result) from.ensures.1 (omega (arith, c.if-top-least.false)) (omega arith) c.interval.ensures
