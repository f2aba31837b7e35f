-- What `preview` promises, over the image s, the numbers, the answer and the table at entry and at exit; the image is lent as `&` and stays.
-- Definitions only.
use Rattle.std.specs.Prelude.{◌≡◌, List, length, ℕ, ◌≤◌, ◌<◌, Result, Ok, Err}
use Rattle.image.specs.Tasks.{task_of}
use Rattle.refusals.specs.declared.Refusal.{Refusal}
use Rattle.refusals.specs.declared.Refusal.TheVariants.{Table}
use Rattle.image.specs.declared.Outline.{Outline}
use Rattle.answers.specs.declared.Totals.{Totals}
use Rattle.refusals.specs.declared.Refused.{Refused}
use Rattle.answers.specs.Answers.{result_of}
use Rattle.answers.specs.WholeRuns.{WholeRuns}
use Rattle.answers.specs.Promise.{ByAlgorithms}
use Rattle.edits.specs.Edits.{image_with}
use Rattle.edits.specs.Promise.{EditCondition, Editable}
use Rattle.previews.specs.Previews.{preview_of, preview_table}

-- for what a preview is refused, and at which place: "10 is judged last"
pub data PreviewCondition (s : List ℕ) (node lowest highest : ℕ) (table : List ℕ) : Refusal → ℕ → Type 0 where
  no_edit : (r : Refusal) (place : ℕ) → EditCondition s node lowest highest r place → PreviewCondition s node lowest highest table r place
  short_table : (e : Editable s node lowest highest) → length table < e.outline.period
      → PreviewCondition s node lowest highest table Table (length s)

-- equality, for refused previews too; refused if and only if the condition for it holds, and given only if the edit is possible
pub record Previewing (s : List ℕ) (node lowest highest : ℕ) (before : List ℕ) (r : Result Totals Refused) (after : List ℕ) : Type 0 where
  pub result : result_of r ≡ preview_of s node lowest highest before
  pub table : after ≡ preview_table s node lowest highest before
  pub because : (x : Refused) → r ≡ Err x → PreviewCondition s node lowest highest before x.refusal x.place
  pub whenever : (x : Refused) → PreviewCondition s node lowest highest before x.refusal x.place → r ≡ Err x
  pub possible : (f : Totals) → r ≡ Ok f → (e : Editable s node lowest highest) × (e.outline.period ≤ length before)

-- figures are given, and demands 3 and 2 hold of them and of the task that the image s says, whose outline is k
pub record Foreseen (s : List ℕ) (k : Outline) (r : Result Totals Refused) (after : List ℕ) : Type 0 where
  pub totals : Totals
  pub given : r ≡ Ok totals
  pub demand3 : WholeRuns (task_of s k) totals.tight totals.published totals.exits after
  pub demand2 : ByAlgorithms s k totals

-- of an edit that is possible, with a place for each offset: figures of the edited image
abbrev pub PreviewGiven : List ℕ → ℕ → ℕ → ℕ → List ℕ → Result Totals Refused → List ℕ → Type 0
PreviewGiven s node lowest highest before r after = (e : Editable s node lowest highest) → e.outline.period ≤ length before
    → Foreseen (image_with s node lowest highest) e.outline r after
