-- Field 1 as bytes, written either way (document 02, W5: "An accepted image whose equal schedule is written either way gives equal answers").
-- Definitions only.
use Rattle.std.specs.Prelude.{List, [], ◌∷◌, ◌++◌, ℕ, ◌+◌, ◌*◌, length, drop}
use Rattle.runs.specs.Slots.{Slots}
use Rattle.runs.specs.Schedules.{Turn, Schedule, even}
use Rattle.schedule.specs.Said.{slots_at}

-- with tag 1: cores, slot and core number
abbrev pub slots_field : Slots → List ℕ
slots_field v = 1 ∷ 0 ∷ 3 ∷ v.cores ∷ v.slot ∷ v.core ∷ []

-- pairs of core and slot length, a byte each
unfoldable pub pairs : List Turn → List ℕ
pairs [] = []
pairs (x ∷ xs) = x.core ∷ x.length ∷ pairs xs

-- with tag 9: "the analysed core, then 1 to 32 pairs"
abbrev pub turns_field : Schedule → List ℕ
turns_field v = 9 ∷ 0 ∷ (1 + 2 * length v.turns) ∷ v.core ∷ pairs v.turns

-- an image whose field 1 has tag 1, written the other way: the schedule (0, slot), (1, slot) .. before the same rest
abbrev pub other_way : List ℕ → List ℕ
other_way s = turns_field (even (slots_at s)) ++ drop 6 s
