use mathlib.Core.Path.{sym}
use Rattle.windows.proofs.Passes.{at_some, at_none}
use Rattle.windows.proofs.unkey.Goals as goal

-- The two branches are the two cases of `time_at`.
pub returns-then-x-eq0 : goal.returns-then-x-eq0
returns-then-x-eq0 c = sym (at_none _ c.args.e c.if-x-eq0.true)

pub returns-else-x-eq0 : goal.returns-else-x-eq0
returns-else-x-eq0 c = sym (at_some _ c.args.e c.if-x-eq0.false)
