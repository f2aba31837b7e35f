-- What functions over nodes ask of the fields before them; no promise of an entry. Definitions only.
use Rattle.std.specs.Prelude.{◌≡◌, List, ℕ, ◌<◌}
use Rattle.rows.specs.Fields.{tag_at, GoodField}

-- the n fields from the front are good, and none of them closes the image (W1): behind field 2 they are nodes
abbrev pub Unclosed : List ℕ → ℕ → Type 0
Unclosed s n = (k : ℕ) → k < n → GoodField s k × (tag_at s k ≡ 8 → ⊥)
