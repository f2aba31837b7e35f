-- The answer and the lent table, as definitions over the image's bytes and the table at entry (document 01, "Both figures" and
-- "When no figure is given"). Definitions only.
use Rattle.std.specs.Prelude.{cond, List, ◌++◌, length, get_or, drop, ltb, ℕ, Result as Outcome, Ok, Err}
use Rattle.std.proofs.Math.Option.{none}
use Rattle.runs.specs.Runs.{Task}
use Rattle.runs.specs.Carried.{row}
use Rattle.runs.specs.Figures.{entry_of, exit_times, exit_count, tight, published}
use Rattle.image.specs.Tasks.{task_of}
use Rattle.image.specs.Judged.{judged}
use Rattle.refusals.specs.Refusals.{number_of}
use Rattle.refusals.specs.declared.Refusal.TheVariants.{Table}
use Rattle.refusals.specs.declared.Refused.{Refused}
use Rattle.image.specs.declared.Outline.{Outline}
use Rattle.answers.specs.declared.Totals.{Totals}

-- the answer in the document's terms: "the tight figure, the published figure and the count of exit offsets", or a number and a place
pub data Result : Type 0 where
  given : (tight published exits : ℕ) → Result
  refused : (number place : ℕ) → Result

abbrev pub result_of : Outcome Totals Refused → Result
result_of (Ok f) = given f.tight f.published f.exits
result_of (Err e) = refused (number_of e.refusal) e.place

-- of a task with figures
abbrev pub figures_of : Task → Result
figures_of t = given (entry_of (tight t)) (published t) (exit_count t)

-- "one for each offset below P. On success, place o holds the longest time of a run ending at o, or 18,446,744,073,709,551,615 if
-- none does; later places keep their contents."
abbrev pub filled : Task → ℕ → List ℕ → List ℕ
filled t P table = row P (λ o. entry_of (get_or (exit_times t) o none)) ++ drop P table

-- 10: "fewer than P places lent", "judged last", its place "the image's length"
abbrev pub after_judging : List ℕ → List ℕ → Outcome Outline Refused → Result
after_judging s table (Err e) = refused (number_of e.refusal) e.place
after_judging s table (Ok k) = cond (ltb (length table) k.period) (refused (number_of Table) (length s)) (figures_of (task_of s k))

-- the answer for any bytes and any table
abbrev pub answer : List ℕ → List ℕ → Result
answer s table = after_judging s table (judged s)

-- the table at exit: "The table keeps its contents" where no figure is given
abbrev pub table_for : List ℕ → List ℕ → Outcome Outline Refused → List ℕ
table_for s table (Err e) = table
table_for s table (Ok k) = cond (ltb (length table) k.period) table (filled (task_of s k) k.period table)

abbrev pub table_after : List ℕ → List ℕ → List ℕ
table_after s table = table_for s table (judged s)
