use Rattle.exits.proofs.Ready.{hi_in}
use Rattle.costs.proofs.Highest.{wait_few, cost_none, cost_is}
use native.Mathlib.Omega.{arith}
use Rattle.costs.proofs.access_cost.Goals as goal

pub returns-then-b-o : goal.returns-then-b-o
returns-then-b-o c =
    let a = c.args in
    let low = c.lowest-o in
    cost_none a.b a.lo a.hi a.s c.requires (λ o l. low.ensures.passed o (omega arith) (omega (arith, c.if-b-o.true)))

pub overflow_add-result : goal.overflow_add-result
overflow_add-result c =
    let a = c.args in
    let at = c.farthest-at in
    omega (arith, c.wait.ensures, wait_few a.b a.lo a.hi a.s c.requires at.result at.ensures.low, hi_in a.b a.lo a.hi a.s c.requires, c.requires.ordered, c.requires.fit.most)

pub returns : goal.returns
returns c =
    let a = c.args in
    let at = c.farthest-at in
    cost_is a.b a.lo a.hi a.s c.requires at.result _ at.ensures (omega (arith, c.wait.ensures))
