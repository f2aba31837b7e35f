use native.Mathlib.Omega.{arith}
use Rattle.previews.specs.Previews.{preview_of, preview_table}
use Rattle.linked.proofs.Calls.{told_short, told_call, no_preview, told_preview}
use Rattle.linked.proofs.slotfigures_preview.Goals as goal

-- The answer takes what `preview` found, and that is the definition's, with demand 3 of the edited image besides.
pub returns-then-answer-lt-FIGURES : goal.returns-then-answer-lt-FIGURES
returns-then-answer-lt-FIGURES c =
    let a = c.args in
    let is =
    told_short (preview_of a.image.now a.node a.lowest a.highest a.table.now) (preview_table a.image.now a.node a.lowest a.highest a.table.now)
    a.table.now a.answer.now (omega arith) in
    record {
      equality = is;
      demand3 = no_preview a.image.now a.node a.lowest a.highest a.table.now a.answer.now _ _ is;
    }

pub returns : goal.returns
returns c =
    let a = c.args in
    let g = c.preview-found in
    let t = c.tell in
    let f = g.new.table in
    let is =
    told_call (preview_of a.image.now a.node a.lowest a.highest a.table.now) (preview_table a.image.now a.node a.lowest a.highest a.table.now)
    a.table.now a.answer.now (omega arith) g.result f g.ensures.equality.result g.ensures.equality.table t.result t.new.answer t.ensures in record {
      equality = is;
      demand3 = told_preview a.image.now a.node a.lowest a.highest a.table.now a.answer.now (omega arith) g.result t.result f t.new.answer
          g.ensures.equality t.ensures is;
    }
