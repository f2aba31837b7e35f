-- The field that names the entry, as bytes, and an image without it (document 02, W1). Definitions only.
use Rattle.std.specs.Prelude.{◌≡◌, List, [], ◌∷◌, length, ℕ, ◌+◌, ◌/◌, ◌%◌}
use Rattle.rows.specs.Fields.{field_at}
use Rattle.image.specs.declared.Outline.{Outline}

-- "A field with tag 8 and body length 2 may close the image after at least one node field and holds the entry's node number"
abbrev pub entry_field : ℕ → List ℕ
entry_field n = 8 ∷ 0 ∷ 2 ∷ n / 256 ∷ n % 256 ∷ []

-- an image without it: its last field is its last node's
abbrev pub EndsInANode : List ℕ → Outline → Type 0
EndsInANode s k = field_at s (k.nodes + 2) ≡ length s
