use native.Mathlib.Omega.{arith}
use borrow.Author.Tests.{eqb-true}
use Rattle.times.proofs.Tables.{by_none, by_some}
use Rattle.times.proofs.same_by.Goals as goal

-- Two entries are the same, q cycles later, where both are none or their difference is q.
pub returns-then-x-eq-NO_TIME : goal.returns-then-x-eq-NO_TIME
returns-then-x-eq-NO_TIME c = λ e. by_none _ _ _ c.if-x-eq-NO_TIME.true (eqb-true _ _ e)

pub returns : goal.returns
returns c = λ e. by_some _ _ _ c.if-x-eq-NO_TIME.false c.if-y-eq-NO_TIME.false (omega arith) c.if-y-x.false (eqb-true _ _ e)
