use native.Mathlib.Omega.{arith}
use Rattle.runs.proofs.Cases.{split}
use Rattle.times.proofs.Tables.{longer_first, longer_second, longer_both}
use Rattle.times.proofs.longer_of.Goals as goal

-- None is the shorter of any two, and of two times the larger is the longer: it is not the number of none, since neither is.
pub returns-then-a-eq-NO_TIME : goal.returns-then-a-eq-NO_TIME
returns-then-a-eq-NO_TIME c = longer_first _ _ c.if-a-eq-NO_TIME.true

pub returns-then-b-eq-NO_TIME : goal.returns-then-b-eq-NO_TIME
returns-then-b-eq-NO_TIME c = longer_second _ _ c.if-a-eq-NO_TIME.false c.if-b-eq-NO_TIME.true

pub returns : goal.returns
returns c =
    let a = c.args.a in
    let b = c.args.b in
    longer_both a b _ c.if-a-eq-NO_TIME.false c.if-b-eq-NO_TIME.false c.max.ensures
    (λ e. split a b (λ l. c.if-b-eq-NO_TIME.false (omega (arith, c.max.ensures))) (λ l. c.if-a-eq-NO_TIME.false (omega (arith, c.max.ensures))))
