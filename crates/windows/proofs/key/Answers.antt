use mathlib.Core.Path.{sym}
use Rattle.windows.proofs.Passes.{key_some, key_none}
use Rattle.windows.proofs.key.Goals as goal

pub returns-then-t-eq-NO_TIME : goal.returns-then-t-eq-NO_TIME
returns-then-t-eq-NO_TIME c = sym (key_none _ c.args.m c.if-t-eq-NO_TIME.true)

pub returns-else-t-eq-NO_TIME : goal.returns-else-t-eq-NO_TIME
returns-else-t-eq-NO_TIME c = sym (key_some _ c.args.m c.if-t-eq-NO_TIME.false)
