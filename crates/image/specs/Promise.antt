-- What `judge` promises. Definitions only.
use Rattle.std.specs.Prelude.{◌≡◌, List, ℕ, Result, Ok, Err}
use Rattle.image.specs.Tasks.{node_places}
use Rattle.image.specs.Judged.{judged}
use Rattle.image.specs.Conditions.{Condition, Accepting}
use Rattle.refusals.specs.declared.Refused.{Refused}
use Rattle.image.specs.declared.Outline.{Outline}

-- the promise of `judge`. Of a refused image the places are left free.
pub record Judging (s : List ℕ) (verdict : Result Outline Refused) (places : List ℕ) : Type 0 where
  -- the verdict is the definition's (in the document's numbers it is `numbered`)
  pub is : verdict ≡ judged s
  -- refused if and only if the row's condition holds
  pub because : (e : Refused) → verdict ≡ Err e → Condition s e.refusal e.place
  pub whenever : (e : Refused) → Condition s e.refusal e.place → verdict ≡ Err e
  -- accepted: every field is good and they fill the image, the task is what they say, and beside it stand the places of its nodes
  pub accepted : (t : Outline) → verdict ≡ Ok t → Accepting s t
  pub placed : (t : Outline) → verdict ≡ Ok t → places ≡ node_places s t.nodes
