-- What `preview` promises, from what `find` found and from the figures of the copy.
use mathlib.Core.Path.{◌≡◌, refl, sym, ◌∙◌, ap, ap₂}
use mathlib.Core.Bool.{Bool, true, false, cond}
use mathlib.Core.List.{List}
use lib.ListN.{length}
use lib.Dec.{ltb}
use borrow.Author.Tests.{lt-ltb, ltb-true}
use native.Mathlib.Omega.{arith}
use Prim.Native.Nat.{ℕ, ◌+◌, ◌≤◌}
use Rattle.runs.proofs.Cases.{split}
use Rattle.refusals.specs.Refusals.{number_of}
use Rattle.image.specs.Tasks.{task_of}
use Rattle.refusals.specs.declared.Refusal.{Refusal}
use Rattle.refusals.specs.declared.Refusal.TheVariants.{Cut, Tag, Full, Length, Value, Forward, Unfinished, Deep, Long, Table, Entry, Register, Busy, Forbidden, Lines, Block}
use Rattle.answers.specs.declared.Totals.{Totals}
use Rattle.std.specs.Prelude.{Result, Ok, Err}
use Rattle.refusals.specs.declared.Refused.{Refused}
use Rattle.refusals.specs.Refusals.{refused_at}
use Rattle.answers.specs.Answers.{refused, result_of, figures_of}
use Rattle.answers.specs.Promise.{Equal, Demand3, Demand2}
use Rattle.edits.specs.Edits.{with_durations, image_with}
use Rattle.edits.specs.Promise.{Editable}
use Rattle.edits.specs.Steps.{Finding}
use Rattle.edits.proofs.Standing.{long, still_accepted}
use Rattle.edits.proofs.Finds.{edit_because, edit_whenever, when_found}
use Rattle.edits.proofs.Promises.{not_found, impossible, same_refusal, at_place, there, not_refused}
use Rattle.previews.specs.Promise.{PreviewCondition, no_edit, short_table, Previewing, PreviewGiven}

-- 10 is the number of `Table` alone
is_table : (x : Refusal) → number_of x ≡ 10 → x ≡ Table
is_table Cut e = absurd (omega arith)
is_table Tag e = absurd (omega arith)
is_table Full e = absurd (omega arith)
is_table Length e = absurd (omega arith)
is_table Value e = absurd (omega arith)
is_table Forward e = absurd (omega arith)
is_table Unfinished e = absurd (omega arith)
is_table Deep e = absurd (omega arith)
is_table Long e = absurd (omega arith)
is_table Table e = refl
is_table Entry e = absurd (omega arith)
is_table Register e = absurd (omega arith)
is_table Busy e = absurd (omega arith)
is_table Forbidden e = absurd (omega arith)
is_table Lines e = absurd (omega arith)
is_table Block e = absurd (omega arith)

module _ (s : List ℕ) (node lo hi : ℕ) (f : Result ℕ Refused) (h : Finding s node lo hi f) where
  -- ---- the edit is refused, and with it the preview

  module _ (r : Refused) (e : f ≡ Err r) (before : List ℕ) where
    when_not : (x : Refusal) (p : ℕ) → PreviewCondition s node lo hi before x p → ◌≡◌ {A = Result Totals Refused} (Err r) (Err (refused_at x p))
    when_not x p (no_edit _ _ c) = rw (same_refusal s node lo hi f h r e (refused_at x p) (edit_whenever s node lo hi x p c))
    when_not Table _ (short_table d l) = absurd (impossible s node lo hi f h r e d)

    pub preview_refused : Previewing s node lo hi before (Err r) before
    preview_refused = record {
      result = rw (not_found s node lo hi f h r e);
      table = rw (not_found s node lo hi f h r e);
      because = λ x c.
          let a : r ≡ x = cc in
          rw (← a) (no_edit r.refusal r.place (edit_because s node lo hi r (not_found s node lo hi f h r e)));
      whenever = λ x. when_not x.refusal x.place;
      possible = λ t c. absurd (let z : ◌≡◌ {A = ℕ} 0 1 = cc in omega arith);
    }

    pub refused_foreseen : PreviewGiven s node lo hi before (Err r) before
    refused_foreseen d = absurd (impossible s node lo hi f h r e d)

  -- ---- the edit is possible

  module _ (place : ℕ) (e : f ≡ Ok place) where
    -- the figures of the copy
    module _ (before : List ℕ) (r : Result Totals Refused) (after : List ℕ) (g : Equal (with_durations s (place + 3) lo hi) before r after) where
      -- of the edited image and the same task, with 10 last
      answered : (d : Editable s node lo hi) → result_of r
          ≡ cond (ltb (length before) d.outline.period) (refused 10 (length s)) (figures_of (task_of (image_with s node lo hi) d.outline))
      answered d = rw (still_accepted s node lo hi d, long s node lo hi d) at (rw (there s node lo hi f h place e) at g.result)

      only_table : (x : Refused) → r ≡ Err x → PreviewCondition s node lo hi before x.refusal x.place
      only_table x q =
          let d = when_found s node lo hi place (at_place s node lo hi f h place e) in
          by_length d (ltb (length before) d.outline.period) refl (sym (ap result_of q) ∙ answered d)
        where
          by_length : (d : Editable s node lo hi) (t : Bool) → ltb (length before) d.outline.period ≡ t
              → refused (number_of x.refusal) x.place ≡ cond t (refused 10 (length s)) (figures_of (task_of (image_with s node lo hi) d.outline))
              → PreviewCondition s node lo hi before x.refusal x.place
          by_length d true l w =
              let a : Table ≡ x.refusal = sym (is_table x.refusal (let n : number_of x.refusal ≡ 10 = cc in n)) in
              let b : length s ≡ x.place = cc in
              rw (← a, ← b) (short_table d (omega (arith, ltb-true (length before) d.outline.period l)))
          by_length d false l w = absurd (let z : ◌≡◌ {A = ℕ} 0 1 = cc in omega arith)

      when_table : (x : Refusal) (p : ℕ) → PreviewCondition s node lo hi before x p → r ≡ Err (refused_at x p)
      when_table x p (no_edit _ _ c) = absurd (not_refused s node lo hi f h place e (refused_at x p) (edit_whenever s node lo hi x p c))
      when_table Table _ (short_table d l) = by_answer r (rw (lt-ltb (length before) d.outline.period (omega (arith, l))) at (answered d))
        where
          by_answer : (x : Result Totals Refused) → result_of x ≡ refused 10 (length s) → x ≡ Err (refused_at Table (length s))
          by_answer (Ok t) w = absurd (let z : ◌≡◌ {A = ℕ} 0 1 = cc in omega arith)
          by_answer (Err y) w =
              let n : number_of y.refusal ≡ 10 = cc in
              let b : y.place ≡ length s = cc in
              ap₂ (λ (a : Refusal) (p : ℕ). Err (refused_at a p)) (is_table y.refusal n) b

      enough : (d : Editable s node lo hi) (t : Totals) → r ≡ Ok t → d.outline.period ≤ length before
      enough d t q =
          split d.outline.period (length before) (λ l. omega (arith, l))
          (λ l. absurd (let w = when_table Table (length s) (short_table d l) in let z : ◌≡◌ {A = ℕ} 0 1 = cc in omega arith))

      pub preview_given : Previewing s node lo hi before r after
      preview_given = record {
        result = rw (at_place s node lo hi f h place e) (rw (there s node lo hi f h place e) at g.result);
        table = rw (at_place s node lo hi f h place e) (rw (there s node lo hi f h place e) at g.table);
        because = only_table;
        whenever = λ x. when_table x.refusal x.place;
        possible = λ t q. let d = when_found s node lo hi place (at_place s node lo hi f h place e) in (d, omega (arith, enough d t q));
      }

    -- demands 3 and 2 of the copy are those of the edited image
    pub given_foreseen : (before : List ℕ) (r : Result Totals Refused) (after : List ℕ) → Demand3 (with_durations s (place + 3) lo hi) before r after
        → Demand2 (with_durations s (place + 3) lo hi) before r → PreviewGiven s node lo hi before r after
    given_foreseen before r after d3 d2 d l =
        let a = still_accepted s node lo hi d in
        let (t, g, runs) = (rw (there s node lo hi f h place e) at d3) d.outline a (omega (arith, l)) in
        let (u, h, by) = (rw (there s node lo hi f h place e) at d2) d.outline a (omega (arith, l)) in
        let same : u ≡ t = cc in
        record { totals = t; given = g; demand3 = runs; demand2 = rw same at by }
