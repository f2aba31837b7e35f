-- A field of an image: where it stands, and how far it is good. Definitions only.
use Rattle.std.specs.Prelude.{Bool, false, List, ℕ, zero, suc, ◌+◌, ◌-◌, ◌≤◌, ◌<◌, length, eqb}
use Rattle.image_bytes.specs.Bytes.{byte_at, word_at}
use Rattle.rows.specs.Rules.{TagRule, RoomRule, LengthRule, ValueRule, ChildRule, EntryRule}

-- "Every field is a one-byte tag, a two-byte length of its body, and the body": where the field with k fields before it stands
unfoldable pub field_at : List ℕ → ℕ → ℕ
field_at s zero = 0
field_at s (suc k) = field_at s k + 3 + word_at s (field_at s k + 1)

-- of the field with k fields before it: its tag, the length of its body, and where the body stands
abbrev pub tag_at : List ℕ → ℕ → ℕ
tag_at s k = byte_at s (field_at s k)

abbrev pub length_at : List ℕ → ℕ → ℕ
length_at s k = word_at s (field_at s k + 1)

abbrev pub body_at : List ℕ → ℕ → ℕ
body_at s k = field_at s k + 3

-- the field before it has tag 8, and has closed the image (W1); before the first there is none
abbrev pub closed_at : List ℕ → ℕ → Bool
closed_at s zero = false
closed_at s (suc k) = eqb (tag_at s k) 8

-- how far it has passed, in the order in which a field is judged: its head stands, its tag may stand there, it is no 257th node field, its length is in
-- the tag's row, its body stands, and its numbers keep the row's rules
abbrev pub UpToHead : List ℕ → ℕ → Type 0
UpToHead s k = field_at s k + 3 ≤ length s

abbrev pub UpToTag : List ℕ → ℕ → Type 0
UpToTag s k = UpToHead s k × TagRule k (closed_at s k) (tag_at s k)

abbrev pub UpToRoom : List ℕ → ℕ → Type 0
UpToRoom s k = UpToTag s k × RoomRule k (tag_at s k)

abbrev pub UpToLength : List ℕ → ℕ → Type 0
UpToLength s k = UpToRoom s k × LengthRule (tag_at s k) (length_at s k)

abbrev pub UpToBody : List ℕ → ℕ → Type 0
UpToBody s k = UpToLength s k × (body_at s k + length_at s k ≤ length s)

abbrev pub UpToValue : List ℕ → ℕ → Type 0
UpToValue s k = UpToBody s k × ValueRule s (tag_at s k) (body_at s k) (length_at s k)

-- none of 1 to 6 and 11 holds of it: its child numbers, where it has some, are below the node's own, which is k - 2; and the entry that it names, where it
-- does, is one of the k - 2 nodes before it
abbrev pub GoodField : List ℕ → ℕ → Type 0
GoodField s k = UpToValue s k × ChildRule s (tag_at s k) (body_at s k) (length_at s k) (k - 2) × EntryRule s (tag_at s k) (body_at s k) (k - 2)

-- the n fields from the front are good
abbrev pub Passed : List ℕ → ℕ → Type 0
Passed s n = (k : ℕ) → k < n → GoodField s k
