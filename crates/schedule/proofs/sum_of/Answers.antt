use native.Mathlib.Omega.{arith}
use Rattle.schedule.proofs.Pairs.{total_step, total_none}
use Rattle.schedule.proofs.sum_of.Goals as goal

pub loop-i-preserved : goal.loop-i-preserved
loop-i-preserved c =
    let l = c.loop-i in
    let a = c.args in (
      omega (arith, c.byte-sum.ensures.1, l.invariant.0),
      omega (arith, l.invariant.1, c.byte-sum.ensures.0, total_step a.image.now a.place a.pairs l.i (omega arith)),
    )

pub returns : goal.returns
returns c =
    let l = c.loop-i in
    let a = c.args in
    omega (arith, l.invariant.1, total_none a.image.now a.place a.pairs l.i (omega arith))
