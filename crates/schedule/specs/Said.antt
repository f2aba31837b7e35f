-- Field 1 of an image, the bus that it says: equal slots (document 01, tag 1), or pairs of core and slot length (document 02, W5, tag 9).
-- Definitions only.
use Rattle.std.specs.Prelude.{◌≡◌, ◌⊎◌, Bool, true, false, cond, ◌&&◌, ◌||◌, List, [], ◌∷◌, ℕ, zero, suc, ◌+◌, ◌*◌, ◌/◌, ◌≤◌, eqb, leb, ltb, length}
use Rattle.runs.specs.Bus.{Bus}
use Rattle.runs.specs.Slots.{Slots, equal_slots}
use Rattle.runs.specs.Schedules.{Turn, Schedule, total, unequal_slots}
use Rattle.bus.specs.Waits.{Ranges}
use Rattle.image_bytes.specs.Bytes.{byte_at, word_at}

-- n is from low to high
abbrev pub within : ℕ → ℕ → ℕ → Bool
within low high n = leb low n && leb n high

-- row 1: "cores 2 to 16, slot 1 to 128, core number below cores, one byte each; cores × slot at most 256"
unfoldable pub bus_ok : ℕ → ℕ → ℕ → Bool
bus_ok cores slot core = within 2 16 cores && (within 1 128 slot && (ltb core cores && leb (cores * slot) 256))

-- row 1: "cores", "slot" and core number, one byte each; the body of field 1 stands at place 3
abbrev pub slots_at : List ℕ → Slots
slots_at s = record { cores = byte_at s 3; slot = byte_at s 4; core = byte_at s 5 }

-- row 9: the n "pairs of core (0 to 15) and slot length (1 to 128), a byte each" from a place on
unfoldable pub turns_at : List ℕ → ℕ → ℕ → List Turn
turns_at s place zero = []
turns_at s place (suc n) = record { core = byte_at s place; length = byte_at s (place + 1) } ∷ turns_at s (place + 2) n

-- "the analysed core, then 1 to 32 pairs": a body of n bytes, which is an odd number
abbrev pub schedule_of : List ℕ → ℕ → ℕ → Schedule
schedule_of s body n = record { core = byte_at s body; turns = turns_at s (body + 1) (n / 2) }

abbrev pub schedule_at : List ℕ → Schedule
schedule_at s = schedule_of s 3 (word_at s 1)

-- "core (0 to 15)", "slot length (1 to 128)", of each pair
unfoldable pub turns_ok : List Turn → Bool
turns_ok [] = true
turns_ok (x ∷ xs) = leb x.core 15 && (within 1 128 x.length && turns_ok xs)

-- "the analysed core has at least one pair"
unfoldable pub has_pair : ℕ → List Turn → Bool
has_pair c [] = false
has_pair c (x ∷ xs) = eqb x.core c || has_pair c xs

-- row 9; "The period is the sum, at most 256"
unfoldable pub schedule_ok : Schedule → Bool
schedule_ok v = turns_ok v.turns && (leb (total v.turns) 256 && has_pair v.core v.turns)

-- the bus that field 1 says: "A field with tag 9 may stand first in place of tag 1"
unfoldable pub said : List ℕ → Bus
said s = cond (eqb (byte_at s 0) 9) (unequal_slots (schedule_at s)) (equal_slots (slots_at s))

-- ---- the same rules, not as tests

-- "core (0 to 15) and slot length (1 to 128)", of each pair
unfoldable pub Turns : List Turn → Type 0
Turns [] = Unit {0}
Turns (x ∷ xs) = (x.core ≤ 15) × (1 ≤ x.length) × (x.length ≤ 128) × Turns xs

-- "the analysed core has at least one pair"
unfoldable pub HasPair : ℕ → List Turn → Type 0
HasPair c [] = ⊥
HasPair c (x ∷ xs) = (x.core ≡ c) ⊎ HasPair c xs

-- row 9: "1 to 32 pairs", and "The period is the sum, at most 256"
pub record Scheduled (v : Schedule) : Type 0 where
  pub turns : Turns v.turns
  pub few : length v.turns ≤ 32
  pub period_most : total v.turns ≤ 256
  pub named : HasPair v.core v.turns

-- the numbers of field 1 are in the ranges of its row
pub data Ranged (s : List ℕ) : Type 0 where
  slots : byte_at s 0 ≡ 1 → Ranges (record { cores = (slots_at s).cores; slot = (slots_at s).slot; core = (slots_at s).core }) → Ranged s
  turns : byte_at s 0 ≡ 9 → Scheduled (schedule_at s) → Ranged s
