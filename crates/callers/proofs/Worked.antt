-- Worked calls of each caller, by computing: what is permitted, and each refusal with 17.
use mathlib.Core.Path.{◌≡◌, refl}
use Rattle.runs.specs.Slots.{in_slot}
use Rattle.schedule.specs.Said.{bus_ok}
use Rattle.refusals.specs.declared.Refusal.TheVariants.{Register, Forbidden}
use Rattle.arbiter.specs.declared.Call.TheVariants.{Read, Line, Write, Tick, Reset}
use Rattle.std.specs.Prelude.{None, Some, Ok}
use Rattle.device.specs.Device.{busy, flags_fit, fits, formed, usable, register_at, line_of, writable, cleared, starts_now, turned, count_down, fallen, stepped_from, ticked}
use Rattle.arbiter.specs.Calls.{refused_for, written, outcome, after_all}
use Rattle.arbiter.proofs.Worked.{waiting, with_core}
use Rattle.callers.specs.Callers.{is_own, has_right, outcome_by, answer_by}

record Worked : Type 0 where
  -- a core: its own registers and line, and nothing else
  own : (answer_by 0 (Read 0 0) waiting ≡ Ok (Some 2)) × (answer_by 0 (Line 0) waiting ≡ Ok (Some 0)) × (answer_by 1 (Write 1 0 5) waiting ≡ Ok None)
  neighbour : (answer_by 1 (Read 0 0) waiting ≡ refused_for Forbidden) × (answer_by 1 (Line 0) waiting ≡ refused_for Forbidden) × (answer_by 1 (Write 0 2 1) waiting ≡ refused_for Forbidden)
  no_driver : (answer_by 0 Tick waiting ≡ refused_for Forbidden) × (answer_by 15 (Reset 2 5) waiting ≡ refused_for Forbidden)
  -- the workshop: everything but a write
  workshop : (answer_by 16 (Read 1 1) waiting ≡ Ok (Some 0)) × (answer_by 16 (Line 1) waiting ≡ Ok (Some 0)) × (answer_by 16 Tick waiting ≡ Ok None) × (answer_by 16 (Reset 2 5) waiting ≡ Ok None)
  no_writer : (answer_by 16 (Write 0 2 1) waiting ≡ refused_for Forbidden) × (answer_by 16 (Write 16 0 1) waiting ≡ refused_for Forbidden)
  -- a caller above 16: nothing, of its own number neither
  no_caller : (answer_by 17 (Read 17 0) waiting ≡ refused_for Forbidden) × (answer_by 17 Tick waiting ≡ refused_for Forbidden) × (answer_by 17 (Write 17 0 1) waiting ≡ refused_for Forbidden)
  -- a core number is 0 to 15, whatever the bus: with the right, 15; the workshop's reads too
  beyond_bus : (answer_by 9 (Read 9 0) waiting ≡ refused_for Register) × (answer_by 16 (Read 9 0) waiting ≡ refused_for Register) × (answer_by 16 (Line 17) waiting ≡ refused_for Register)
  -- 17 before 15, of a register, a value, a reset's numbers and the state; and before 16
  forbidden_first : (answer_by 1 (Read 0 3) waiting ≡ refused_for Forbidden) × (answer_by 1 (Write 0 0 6) waiting ≡ refused_for Forbidden) × (answer_by 0 (Reset 1 5) waiting ≡ refused_for Forbidden) × (answer_by 0 Tick (with_core 15 0 0 2) ≡ refused_for Forbidden)
  forbidden_busy : answer_by 1 (Write 0 0 2) waiting ≡ refused_for Forbidden

worked : Worked
unfolding in_slot bus_ok busy flags_fit fits formed usable register_at line_of writable cleared starts_now turned count_down fallen stepped_from ticked written outcome after_all is_own has_right outcome_by
worked = record {
  own = (refl, refl, refl);
  neighbour = (refl, refl, refl);
  no_driver = (refl, refl);
  workshop = (refl, refl, refl, refl);
  no_writer = (refl, refl);
  no_caller = (refl, refl, refl);
  beyond_bus = (refl, refl, refl);
  forbidden_first = (refl, refl, refl, refl);
  forbidden_busy = refl;
}
