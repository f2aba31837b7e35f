-- Worked calls, by computing: document 01's starred waits on the device (cores 2, slot 5), and each refusal.
use mathlib.Core.Path.{◌≡◌, refl}
use mathlib.Core.List.{[], ◌∷◌, ◌++◌}
use lib.ListN.{replicate}
use Prim.Native.Nat.{ℕ}
use Rattle.runs.specs.Slots.{in_slot}
use Rattle.schedule.specs.Said.{bus_ok}
use Rattle.refusals.specs.declared.Refusal.TheVariants.{Register, Busy}
use Rattle.device.specs.declared.Arbiter.{Arbiter}
use Rattle.arbiter.specs.declared.Call.TheVariants.{Read, Line, Write, Tick, Reset}
use Rattle.std.specs.Prelude.{None, Some, Ok}
use Rattle.device.specs.Device.{busy, flags_fit, fits, formed, usable, with_registers, register_at, line_of, writable, cleared, starts_now, turned, count_down, fallen, stepped_from, ticked}
use Rattle.arbiter.specs.Calls.{Reply, refused_for, written, outcome, answer, after_all}

-- the flags of a core whose length was written at an offset, so many ticks later
abbrev at : ℕ → ℕ → ℕ → ℕ → Reply
at core length offset ticks = answer (Read core 1) (after_all (replicate offset Tick ++ (Write core 0 length ∷ replicate ticks Tick)) (cleared 2 5))

-- an access of 2 cycles that waits on a bus of two cores with slots of 5, at offset 0; and the state in which core p has other registers
abbrev pub waiting : Arbiter
waiting = after_all (Write 0 0 2 ∷ []) (cleared 2 5)

abbrev pub with_core : ℕ → ℕ → ℕ → ℕ → Arbiter
with_core p length flags mask = with_registers (cleared 2 5) p (record { length = length; flags = flags; mask = mask })

record Worked : Type 0 where
  -- "e = 2: offset 3 gives 0, offset 4 gives 6"
  from_3 : (at 0 2 3 1 ≡ Ok (Some 2)) × (at 0 2 3 2 ≡ Ok (Some 4))
  from_4 : (at 0 2 4 6 ≡ Ok (Some 1)) × (at 0 2 4 7 ≡ Ok (Some 2)) × (at 0 2 4 8 ≡ Ok (Some 4))
  -- "Core 1, e = 2: offsets 4, 5, 8, 9 give 1, 0, 0, 6"
  core_1_from_4 : (at 1 2 4 1 ≡ Ok (Some 1)) × (at 1 2 4 2 ≡ Ok (Some 2)) × (at 1 2 4 3 ≡ Ok (Some 4))
  core_1_from_5 : (at 1 2 5 1 ≡ Ok (Some 2)) × (at 1 2 5 2 ≡ Ok (Some 4))
  core_1_from_8 : (at 1 2 8 1 ≡ Ok (Some 2)) × (at 1 2 8 2 ≡ Ok (Some 4))
  core_1_from_9 : (at 1 2 9 6 ≡ Ok (Some 1)) × (at 1 2 9 7 ≡ Ok (Some 2)) × (at 1 2 9 8 ≡ Ok (Some 4))
  -- "e = 5: offset 0 gives 0, offset 1 gives 9"
  long_from_0 : (at 0 5 0 4 ≡ Ok (Some 2)) × (at 0 5 0 5 ≡ Ok (Some 4))
  long_from_1 : (at 0 5 1 9 ≡ Ok (Some 1)) × (at 0 5 1 13 ≡ Ok (Some 2)) × (at 0 5 1 14 ≡ Ok (Some 4))
  -- the line is done together with the mask
  line_done : answer (Line 0) (with_core 0 0 4 1) ≡ Ok (Some 1)
  line_masked : answer (Line 0) (with_core 0 0 4 0) ≡ Ok (Some 0)
  line_running : answer (Line 0) (with_core 0 1 2 1) ≡ Ok (Some 0)
  -- 16, and 15 before it
  busy_length : answer (Write 0 0 2) waiting ≡ refused_for Busy
  too_long_first : answer (Write 0 0 6) waiting ≡ refused_for Register
  no_length_first : answer (Write 0 0 0) waiting ≡ refused_for Register
  mask_while_busy : answer (Write 0 2 1) waiting ≡ Ok None
  -- 15: what a call names
  core_2 : answer (Read 2 0) waiting ≡ refused_for Register
  register_3 : answer (Read 0 3) waiting ≡ refused_for Register
  flags_written : answer (Write 1 1 0) waiting ≡ refused_for Register
  mask_2 : answer (Write 1 2 2) waiting ≡ refused_for Register
  one_core : answer (Reset 1 5) waiting ≡ refused_for Register
  period_272 : answer (Reset 16 17) waiting ≡ refused_for Register
  period_256 : answer (Reset 16 16) waiting ≡ Ok None
  -- 15: a state with a number out of range; unused cores are counted, and a reset asks nothing of it
  unused_mask : answer Tick (with_core 15 0 0 2) ≡ refused_for Register
  unused_flags : answer Tick (with_core 2 1 3 0) ≡ refused_for Register
  running_0 : answer Tick (with_core 1 0 2 0) ≡ refused_for Register
  left_over : answer Tick (with_core 1 5 4 0) ≡ Ok None
  length_over : answer Tick (with_core 1 6 4 0) ≡ refused_for Register
  reset_any : answer (Reset 2 5) (with_core 1 6 9 7) ≡ Ok None

worked : Worked
unfolding in_slot bus_ok busy flags_fit fits formed usable register_at line_of writable cleared starts_now turned count_down fallen stepped_from ticked written outcome after_all
worked = record {
  from_3 = (refl, refl);
  from_4 = (refl, refl, refl);
  core_1_from_4 = (refl, refl, refl);
  core_1_from_5 = (refl, refl);
  core_1_from_8 = (refl, refl);
  core_1_from_9 = (refl, refl, refl);
  long_from_0 = (refl, refl);
  long_from_1 = (refl, refl, refl);
  line_done = refl;
  line_masked = refl;
  line_running = refl;
  busy_length = refl;
  too_long_first = refl;
  no_length_first = refl;
  mask_while_busy = refl;
  core_2 = refl;
  register_3 = refl;
  flags_written = refl;
  mask_2 = refl;
  one_core = refl;
  period_272 = refl;
  period_256 = refl;
  unused_mask = refl;
  unused_flags = refl;
  running_0 = refl;
  left_over = refl;
  length_over = refl;
  reset_any = refl;
}
