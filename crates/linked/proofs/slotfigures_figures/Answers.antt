use native.Mathlib.Omega.{arith}
use Rattle.answers.specs.Answers.{answer, table_after}
use Rattle.linked.proofs.Calls.{told_short, told_call, whole_figures}
use Rattle.linked.proofs.slotfigures_figures.Goals as goal

-- The answer takes what `figures` found, and that is the definition's, with demand 3 besides.
pub returns-then-answer-lt-FIGURES : goal.returns-then-answer-lt-FIGURES
returns-then-answer-lt-FIGURES c =
    let a = c.args in
    let is = told_short (answer a.image.now a.table.now) (table_after a.image.now a.table.now) a.table.now a.answer.now (omega arith) in
    record {
      equality = is;
      demand3 = whole_figures a.image.now a.table.now a.answer.now _ _ _ is;
    }

pub returns : goal.returns
returns c =
    let a = c.args in
    let g = c.figures-found in
    let t = c.tell in
    let is =
    told_call (answer a.image.now a.table.now) (table_after a.image.now a.table.now) a.table.now a.answer.now (omega arith) g.result
    g.new.table g.ensures.equality.result g.ensures.equality.table t.result t.new.answer t.ensures in
    record {
      equality = is;
      demand3 = whole_figures a.image.now a.table.now a.answer.now _ _ _ is;
    }
