use borrow.Author.Rules.{rules}
use native.Mathlib.Omega.{arith}
use Rattle.std.specs.Prelude.{Ok, Err}
use Rattle.linked.proofs.Calls.{edit_short, edit_call_lem, whole_edit}
use Rattle.linked.proofs.slotfigures_edit.Goals as goal

-- The image is what `edit` leaves and the answer what it answers, and that is the definition's.
pub returns-then-answer-lt2 : goal.returns-then-answer-lt2
returns-then-answer-lt2 c =
    let a = c.args in
    let is = edit_short a.image.now a.node a.lowest a.highest a.answer.now (omega arith) in record {
      equality = is;
      done = whole_edit a.image.now a.node a.lowest a.highest a.answer.now
          (λ i. search rules) _ _ _ is;
    }

pub returns-in-Ok : goal.returns-in-Ok
returns-in-Ok c =
    let a = c.args in
    let e = c.edit-edited in
    let p = c.done in
    let is =
    edit_call_lem a.image.now a.node a.lowest a.highest a.answer.now (omega arith) e.result e.new.image e.ensures.equality
    (Ok tt) c.in-Ok.is p.result p.new.answer p.ensures in record {
      equality = is;
      done = whole_edit a.image.now a.node a.lowest a.highest a.answer.now
          (λ i. search rules) _ _ _ is;
    }

pub returns-in-Err : goal.returns-in-Err
returns-in-Err c =
    let a = c.args in
    let e = c.edit-edited in
    let p = c.refuse in
    let is =
    edit_call_lem a.image.now a.node a.lowest a.highest a.answer.now (omega arith) e.result e.new.image e.ensures.equality
    (Err c.in-Err.e) c.in-Err.is p.result p.new.answer p.ensures in record {
      equality = is;
      done = whole_edit a.image.now a.node a.lowest a.highest a.answer.now
          (λ i. search rules) _ _ _ is;
    }
