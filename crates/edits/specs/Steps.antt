-- What the functions between judging and the edit promise each other, and to the preview in crate previews. Definitions only.
use Rattle.std.specs.Prelude.{◌≡◌, List, length, ℕ, ◌+◌, ◌≤◌, Result, Ok}
use Rattle.image.specs.Conditions.{longest_image}
use Rattle.edits.specs.Edits.{place_of, found}
use Rattle.refusals.specs.declared.Refused.{Refused}

-- a place in n bytes at which a field's body may be set to two durations
pub record Room (n place lowest highest : ℕ) : Type 0 where
  pub inside : place + 7 ≤ n
  pub low : lowest ≤ 65535
  pub high : highest ≤ 65535

-- what `find` gives: where an edit is possible, there is room for it, and a copy as long as the longest image holds the image
pub record Finding (s : List ℕ) (node lowest highest : ℕ) (r : Result ℕ Refused) : Type 0 where
  pub is : r ≡ found s node lowest highest
  pub at : (place : ℕ) → r ≡ Ok place → (place ≡ place_of s node) × Room (length s) place lowest highest × (length s ≤ longest_image)
