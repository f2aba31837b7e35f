use Rattle.times.proofs.Tables.{later_none, later_some}
use Rattle.times.proofs.later_by.Goals as goal

-- None stays none, and a time grows by d; the bound keeps the sum from wrapping.
pub returns-then-t-eq-NO_TIME : goal.returns-then-t-eq-NO_TIME
returns-then-t-eq-NO_TIME c = later_none _ _ c.if-t-eq-NO_TIME.true

pub returns-else-t-eq-NO_TIME : goal.returns-else-t-eq-NO_TIME
returns-else-t-eq-NO_TIME c = later_some _ _ c.if-t-eq-NO_TIME.false (c.requires.1 c.if-t-eq-NO_TIME.false)
