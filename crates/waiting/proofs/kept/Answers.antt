use mathlib.Core.Path.{refl}
use Rattle.waiting.proofs.Keeping.{kept_later_none, kept_later}
use Rattle.waiting.proofs.kept.Goals as goal

-- None is kept as 0; the bounds keep the sum from wrapping.
pub returns-then-t-eq-NO_TIME : goal.returns-then-t-eq-NO_TIME
returns-then-t-eq-NO_TIME c = kept_later_none _ _ c.if-t-eq-NO_TIME.true

pub returns-else-t-eq-NO_TIME : goal.returns-else-t-eq-NO_TIME
returns-else-t-eq-NO_TIME c = kept_later _ _ _ c.if-t-eq-NO_TIME.false refl
