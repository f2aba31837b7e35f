-- What a program in C or Rust finds after a call: the status and each lent slice at exit, over the image's bytes, or the task table's numbers,
-- and the slices at entry. Definitions only; the verdict is `numbered` of crate `image`, the figures and the table `answer` and `table_after` of
-- `answers`, the edit `change` and `image_after` of `edits`, the preview `preview_of` and `preview_table` of `previews`, the finishes `answer` of
-- `graph`. The arbiter's calls are in specs/OnBytes.antt of `lent`.
--
-- Statuses: 0 accepted, done or given, 1 refused, 2 the answer or the finishes have too few places. With 2 every slice keeps its contents.
use Rattle.std.specs.Prelude.{◌≡◌, cond, List, ◌∷◌, ◌++◌, length, get_or, drop, ltb, ℕ, ◌≤◌, Ok}
use Rattle.image.specs.Tasks.{task_of}
use Rattle.image.specs.Judged.{Numbered, accepted, refused as rejected, judged, numbered}
use Rattle.image.specs.declared.Outline.{Outline}
use Rattle.answers.specs.Answers.{Result, given, refused, answer, table_after}
use Rattle.answers.specs.WholeRuns.{WholeRuns}
use Rattle.edits.specs.Edits.{Change, done, refused as notDone, image_with, change, image_after}
use Rattle.edits.specs.Promise.{Editable, Leaves}
use Rattle.previews.specs.Previews.{preview_of, preview_table}
use Rattle.graph.specs.Table.{Result as FinishesResult, finished, refused as refusedTable, answer as finishesAnswer}
use Rattle.graph.specs.Conditions.{AcceptedTable}
use Rattle.graph.specs.Promise.{Finishing}
use Rattle.lent.specs.Answers.{done_into, refused_into, beside}

-- judging: 0 and the period, or the number and the place of a refusal
abbrev pub judged_into : Numbered → List ℕ → ℕ × List ℕ
judged_into (accepted task) lent = (0, 0 ∷ task.bus.period ∷ drop 2 lent)
judged_into (rejected number word place) lent = refused_into number place lent

-- the status and the answer at exit
unfoldable pub judge_call : List ℕ → List ℕ → ℕ × List ℕ
judge_call image lent = cond (ltb (length lent) 2) (2, lent) (judged_into (numbered image) lent)

-- figures: the tight figure, the published one and the exit count, or the number and the place; later places keep their contents
abbrev pub figures_into : Result → List ℕ → ℕ × List ℕ
figures_into (given tight published exits) lent = (0, tight ∷ published ∷ exits ∷ drop 3 lent)
figures_into (refused number place) lent = refused_into number place lent

-- a call for figures, whose table at exit is `filled`
unfoldable pub answer_call : Result → List ℕ → List ℕ → List ℕ → ℕ × List ℕ × List ℕ
answer_call result filled table lent = cond (ltb (length lent) 3) (2, table, lent) (beside filled (figures_into result lent))

-- the status, the table and the answer at exit
abbrev pub figures_call : List ℕ → List ℕ → List ℕ → ℕ × List ℕ × List ℕ
figures_call image table lent = answer_call (answer image table) (table_after image table) table lent

-- an accepted image with places enough is given figures, and demand 3 holds of the numbers that the program finds
abbrev pub WholeFigures : List ℕ → List ℕ → List ℕ → ℕ → List ℕ → List ℕ → Type 0
WholeFigures image before lent status table found = (k : Outline) → judged image ≡ Ok k → k.period ≤ length before → 3 ≤ length lent
    → (status ≡ 0) × WholeRuns (task_of image k) (get_or found 0 0) (get_or found 1 0) (get_or found 2 0) table

-- an edit: 0 and 0, or the number and the place
abbrev pub changed_into : Change → List ℕ → ℕ × List ℕ
changed_into done lent = done_into lent
changed_into (notDone number place) lent = refused_into number place lent

-- the status, the image and the answer at exit
unfoldable pub edit_call : List ℕ → ℕ → ℕ → ℕ → List ℕ → ℕ × List ℕ × List ℕ
edit_call image node lowest highest lent =
    cond (ltb (length lent) 2) (2, image, lent) (beside (image_after image node lowest highest) (changed_into (change image node lowest highest) lent))

-- status 0 if and only if the edit is possible and there are places enough; the image that the program then finds is such as `Leaves` says
pub record WholeEdit (image : List ℕ) (node lowest highest : ℕ) (lent : List ℕ) (status : ℕ) (after : List ℕ) : Type 0 where
  pub possible : status ≡ 0 → Editable image node lowest highest × (2 ≤ length lent)
  pub done : (e : Editable image node lowest highest) → 2 ≤ length lent → (status ≡ 0) × Leaves image e.outline node lowest highest after

-- a preview: the status, the table and the answer at exit, as of figures
abbrev pub preview_call : List ℕ → ℕ → ℕ → ℕ → List ℕ → List ℕ → ℕ × List ℕ × List ℕ
preview_call image node lowest highest table lent =
    answer_call (preview_of image node lowest highest table) (preview_table image node lowest highest table) table lent

-- status 0 if and only if the edit is possible and there are places enough; then demand 3 holds of the edited image and the numbers that the
-- program finds. Whatever the places, a possible edit's preview leaves what the figures of the edited image would
pub record WholePreview (image : List ℕ) (node lowest highest : ℕ) (before lent : List ℕ) (status : ℕ) (table found : List ℕ) : Type 0 where
  pub possible : status ≡ 0 → (e : Editable image node lowest highest) × (e.outline.period ≤ length before) × (3 ≤ length lent)
  pub given : (e : Editable image node lowest highest) → e.outline.period ≤ length before → 3 ≤ length lent → (status ≡ 0)
      × WholeRuns (task_of (image_with image node lowest highest) e.outline) (get_or found 0 0) (get_or found 1 0) (get_or found 2 0) table
  pub fresh : Editable image node lowest highest → figures_call (image_with image node lowest highest) before lent ≡ (status, table, found)

-- finishes: 64 numbers, and 0 and 0, or the number and the place of a refusal; later places keep their contents
abbrev pub finishes_into : FinishesResult → List ℕ → List ℕ → ℕ × List ℕ × List ℕ
finishes_into (finished f) before lent = beside (f ++ drop 64 before) (done_into lent)
finishes_into (refusedTable number place f) before lent = beside (f ++ drop 64 before) (refused_into number place lent)

-- the status, the finishes and the answer at exit
unfoldable pub finishes_call : List ℕ → List ℕ → List ℕ → ℕ × List ℕ × List ℕ
finishes_call table before lent =
    cond (ltb (length lent) 2) (2, before, lent) (cond (ltb (length before) 64) (2, before, lent) (finishes_into (finishesAnswer table) before lent))

-- an accepted table with places enough is answered, and the finishes that the program finds are such as `Finishing` says
abbrev pub WholeFinishes : List ℕ → List ℕ → List ℕ → ℕ → List ℕ → Type 0
WholeFinishes table before lent status after = (n : ℕ) → AcceptedTable table n → 64 ≤ length before → 2 ≤ length lent
    → (status ≡ 0) × Finishing table n after
