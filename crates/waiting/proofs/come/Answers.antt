use native.Mathlib.Omega.{arith}
use Rattle.waiting.proofs.Coming.{come_near, come_far}
use Rattle.waiting.proofs.come.Goals as goal

pub returns-then-n-y : goal.returns-then-n-y
returns-then-n-y c =
    let a = c.args in
    come_near a.period a.y a.n c.requires.0 _ c.reach.result (omega (arith, c.if-n-y.true)) c.reach.ensures

pub returns : goal.returns
returns c =
    let a = c.args in
    come_far a.period a.y a.n c.requires.0 _ _ _ _ (omega (arith, c.if-n-y.false)) c.requires.1 c.reach-x.ensures c.reach-z.ensures c.longer_of.ensures
