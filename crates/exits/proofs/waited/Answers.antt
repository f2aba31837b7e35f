use Rattle.bus.specs.Owning.{owns}
use Rattle.offsets.specs.Sets.{value}
use Rattle.exits.proofs.Nearest.{near_waits, far_waits}
use native.Mathlib.Omega.{arith}
use Rattle.exits.proofs.waited.Goals as goal
use Rattle.exits.proofs.waited.Goals.{Start}

-- The nearest offset decides: in the gap or in the stretch before (`near_waits`), or further back (`far_waits`).
pub returns-then-near-gap : goal.returns-then-near-gap
returns-then-near-gap c =
    let a = c.args in
    let near = c.behind-near in (
      λ x gone n l so.
          near_waits a.b.period (owns a.b) (value a.s) x a.len a.gap a.y near.result a.before gone n near.ensures l so _
          (omega (arith, c.if-near-gap.true)) (omega (arith, c.if-near-gap.true)),
      omega arith,
    )

pub returns-then-near-gap-2 : goal.returns-then-near-gap-2
returns-then-near-gap-2 c =
    let a = c.args in
    let near = c.behind-near in (
      λ x gone n l so.
          near_waits a.b.period (owns a.b) (value a.s) x a.len a.gap a.y near.result a.before gone n near.ensures l so _
          (omega (arith, c.if-near-gap-2.true)) (omega arith),
      omega (arith, c.if-near-gap-2.true, c.requires.2, c.requires.0.most),
    )

pub returns : goal.returns
returns c =
    let a = c.args in
    let near = c.behind-near in (
      λ x gone n l so.
          far_waits a.b.period (owns a.b) (value a.s) x a.len a.gap a.y near.result a.before gone n near.ensures l so c.max.result
          (omega (arith, c.if-near-gap-2.false)) (omega (arith, c.max.ensures)),
      omega (arith, c.max.ensures, c.requires.2, c.requires.3, c.requires.0.most),
    )
