-- Numbers of an image, which is a list of bytes (document 01, "The task image"). Definitions only.
use Rattle.std.specs.Prelude.{List, [], ◌∷◌, ℕ, zero, suc, ◌+◌, ◌*◌, get_or}

-- the byte at a place; past the end, 0
abbrev pub byte_at : List ℕ → ℕ → ℕ
byte_at s place = get_or s place 0

-- "Numbers of two bytes have the high byte first."
unfoldable pub word_at : List ℕ → ℕ → ℕ
word_at s place = byte_at s place * 256 + byte_at s (place + 1)

-- the n numbers from a place on, one byte each, and two bytes each
unfoldable pub bytes : List ℕ → ℕ → ℕ → List ℕ
bytes s place zero = []
bytes s place (suc n) = byte_at s place ∷ bytes s (place + 1) n

unfoldable pub words : List ℕ → ℕ → ℕ → List ℕ
words s place zero = []
words s place (suc n) = word_at s place ∷ words s (place + 2) n
