use Rattle.steps.proofs.Steps.{plain_stepped}
use Rattle.steps.proofs.plain_step.Goals as goal

-- The inner step at the bus's period is the definition's.
pub returns : goal.returns
returns c =
    let a = c.args in
    plain_stepped a.b a.lo a.hi a.t.now _ c.plain.ensures
