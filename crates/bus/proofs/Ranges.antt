-- What the ranges of tag 1 give: the laws about equal slots hold of such a bus, and so does that of the three cases.
use Prim.Native.Nat.{ℕ, ◌+◌, ◌*◌, ◌≤◌}
use Rattle.runs.specs.Slots.{HasSlot}
use Rattle.runs.proofs.SlotsLaws.{slot_in}
use Rattle.runs.proofs.ThreeCases.{OneCase, three_cases}
use Rattle.bus.specs.declared.Slots.{Slots}
use Rattle.bus.specs.Waits.{slots_of, Ranges, Ready}

pub has_slot : (v : Slots) → Ranges v → HasSlot (slots_of v)
has_slot v r = record { slot_pos = r.slot_least; core_lt = r.core_lt }

-- the core's slot lies within the period
pub within : (v : Slots) → Ranges v → v.core * v.slot + v.slot ≤ v.cores * v.slot
within v r = slot_in (slots_of v) (has_slot v r)

-- Request W2 in its own words: on every bus of tag 1's ranges, for every offset below P and every e from 1 to slot, exactly one case holds.
pub one_case : (v : Slots) (e o : ℕ) → Ready v e o → OneCase (slots_of v) e o
one_case v e o r = three_cases (slots_of v) (has_slot v r.ranges) e r.length_least r.length_most o r.offset_lt
