use native.Mathlib.Omega.{arith}
use Rattle.steps.proofs.Steps.{may_on, whole_may}
use Rattle.steps.proofs.may_step.Goals as goal

-- What passes, with what waits; where the core owns every offset, nothing does.
pub returns-then-b : goal.returns-then-b
returns-then-b c =
    let a = c.args in
    may_on a.b a.lo a.hi _ c.requires _ _ c.plain_wide-out.ensures.1 c.arrive_all.ensures.1

pub returns-else-b : goal.returns-else-b
returns-else-b c =
    let a = c.args in
    whole_may a.b a.lo a.hi _ c.requires (omega (arith, c.if-b.false)) _ c.plain_wide-out.ensures.1
