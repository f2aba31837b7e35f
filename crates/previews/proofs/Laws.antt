-- The figures after an edit are those that the preview gave before it.
use mathlib.Core.Path.{◌≡◌, sym, ◌∙◌, ap}
use mathlib.Core.List.{List}
use Prim.Native.Nat.{ℕ}
use Rattle.refusals.specs.Refusals.{number_of}
use Rattle.std.specs.Prelude.{Result, Ok, Err}
use Rattle.refusals.specs.declared.Refused.{Refused}
use Rattle.answers.specs.declared.Totals.{Totals}
use Rattle.answers.specs.Answers.{refused, result_of, answer, table_after}
use Rattle.answers.specs.Promise.{Equal}
use Rattle.edits.specs.Edits.{Change, done, image_with, change, image_for}
use Rattle.edits.specs.Promise.{Editable, Editing}
use Rattle.edits.proofs.Finds.{found_when}
use Rattle.previews.specs.Previews.{preview_of, preview_table}
use Rattle.previews.specs.Promise.{Previewing}

module _ (s : List ℕ) (node lo hi : ℕ) (d : Editable s node lo hi) where
  -- "what the edit on a copy and a fresh calculation would give", answer and table
  pub preview_is : (table : List ℕ) → (preview_of s node lo hi table ≡ answer (image_with s node lo hi) table)
      × (preview_table s node lo hi table ≡ table_after (image_with s node lo hi) table)
  preview_is table = let f = found_when s node lo hi d in (rw f, rw f)

-- calls one after another: `edit`, `figures` of what it left, and `preview`
module _ (s : List ℕ) (node lo hi : ℕ) (before : List ℕ) where
  pub edit_then_figures : (after table table' : List ℕ) (r r' : Result Totals Refused) → Editing s node lo hi (Ok tt) after → Equal after before r table
      → Previewing s node lo hi before r' table' → (result_of r' ≡ result_of r) × (table' ≡ table)
  edit_then_figures after table table' r r' e g p =
      let c : change s node lo hi ≡ done = sym e.result in
      let i : after ≡ image_with s node lo hi = e.image ∙ ap (image_for s node lo hi) c in (
        p.result ∙ rw (c, ← i) (sym g.result),
        p.table ∙ rw (c, ← i) (sym g.table),
      )

  pub edit_refused_too : (after table' : List ℕ) (x : Refused) (r' : Result Totals Refused) → Editing s node lo hi (Err x) after
      → Previewing s node lo hi before r' table' → (result_of r' ≡ refused (number_of x.refusal) x.place) × (table' ≡ before) × (after ≡ s)
  edit_refused_too after table' x r' e p =
      let c : change s node lo hi ≡ Change.refused (number_of x.refusal) x.place = sym e.result in
      (p.result ∙ rw c, p.table ∙ rw c, e.image ∙ ap (image_for s node lo hi) c)
