use borrow.Author.Rules.{rules}
use mathlib.Core.Path.{◌≡◌, sym, ◌∙◌, ap}
use mathlib.Core.List.{List, ◌++◌}
use lib.ListN.{length, drop}
use lib.Seq.{length-take-le}
use native.Mathlib.Omega.{arith}
use Prim.Native.Nat.{ℕ}
use Rattle.linked.proofs.Calls.{answer_short, finishes_short, finishes_given, finishes_refused, whole_finishes}
use Rattle.linked.proofs.slotfigures_finishes.Goals as goal

-- The slices take what `finishes` found, and that is the definition's.
pub returns-then-answer-lt2 : goal.returns-then-answer-lt2
returns-then-answer-lt2 c =
    let a = c.args in
    let is = answer_short a.table.now a.finishes.now a.answer.now (omega arith) in
    record {
      equality = is;
      waiting = whole_finishes a.table.now a.finishes.now a.answer.now _ _ _ is;
    }

pub returns-then-finishes-lt64 : goal.returns-then-finishes-lt64
returns-then-finishes-lt64 c =
    let a = c.args in
    let is = finishes_short a.table.now a.finishes.now a.answer.now (omega arith) (omega arith) in
    record {
      equality = is;
      waiting = whole_finishes a.table.now a.finishes.now a.answer.now _ _ _ is;
    }

pub copy_from_slice-requires : goal.copy_from_slice-requires
copy_from_slice-requires c =
    let long : length c.finishes-found.result.finishes ≡ 64 = search rules in
    length-take-le 64 c.args.finishes.now (omega arith) ∙ sym long

pub returns-in-Ok : goal.returns-in-Ok
returns-in-Ok c =
    let a = c.args in
    let g = c.finishes-found in
    let filled = ap (λ (l : List ℕ). l ++ drop 64 a.finishes.now) c.copy_from_slice.ensures.after in
    let p = c.done in
    let is = finishes_given a.table.now a.finishes.now a.answer.now (omega arith) (omega arith) g.result g.ensures.equality _ filled p.result p.new.answer c.in-Ok.is p.ensures in
    record {
      equality = is;
      waiting = whole_finishes a.table.now a.finishes.now a.answer.now _ _ _ is;
    }

pub returns-in-Err : goal.returns-in-Err
returns-in-Err c =
    let a = c.args in
    let g = c.finishes-found in
    let filled = ap (λ (l : List ℕ). l ++ drop 64 a.finishes.now) c.copy_from_slice.ensures.after in
    let p = c.put in
    let is = finishes_refused a.table.now a.finishes.now a.answer.now (omega arith) (omega arith) g.result g.ensures.equality _ filled c.in-Err.place p.new.answer c.in-Err.is p.ensures in
    record {
      equality = is;
      waiting = whole_finishes a.table.now a.finishes.now a.answer.now _ _ _ is;
    }
