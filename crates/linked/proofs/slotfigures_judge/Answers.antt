use native.Mathlib.Omega.{arith}
use Rattle.linked.proofs.Calls.{judge_short, judge_accepted, judge_refused}
use Rattle.linked.proofs.slotfigures_judge.Goals as goal

-- The answer takes what the verdict says, and the verdict is the definition's.
pub returns-then-answer-lt2 : goal.returns-then-answer-lt2
returns-then-answer-lt2 c = let a = c.args in judge_short a.image.now a.answer.now (omega arith)

pub returns-in-Ok : goal.returns-in-Ok
returns-in-Ok c =
    let a = c.args in
    let j = c.judge-judged in
    judge_accepted a.image.now a.answer.now (omega arith) j.result.verdict j.result.places j.ensures c.in-Ok.k
    c.put.new.answer c.in-Ok.is c.put.ensures

pub returns-in-Err : goal.returns-in-Err
returns-in-Err c =
    let a = c.args in
    let j = c.judge-judged in
    judge_refused a.image.now a.answer.now (omega arith) j.result.verdict j.result.places j.ensures c.in-Err.e _ c.in-Err.is
    c.refuse.ensures
