-- When a call is refused, in plain terms and with no order of steps: a law says that a call's answer is a refusal if and only if
-- `RefusedFor` holds (document 02: "New numbers"). Definitions only.
use Rattle.std.specs.Prelude.{ℕ, ◌≤◌, ◌<◌}
use Rattle.device.specs.Device.{registers_of}
use Rattle.device.specs.WellFormed.{Sized, IsBusy, WellFormed}
use Rattle.arbiter.specs.declared.Call.{Call}
use Rattle.arbiter.specs.declared.Call.TheVariants.{Read, Line, Write, Tick, Reset}
use Rattle.device.specs.declared.Arbiter.{Arbiter}

-- "a core, register or value out of range (a reset's too), a write to flags"
pub data Misnamed (a : Arbiter) : Call → Type 0 where
  read_core : {p n : ℕ} → a.cores ≤ p → Misnamed a (Read p n)
  read_register : {p n : ℕ} → 3 ≤ n → Misnamed a (Read p n)
  line_core : {p : ℕ} → a.cores ≤ p → Misnamed a (Line p)
  write_core : {p n v : ℕ} → a.cores ≤ p → Misnamed a (Write p n v)
  write_register : {p n v : ℕ} → 3 ≤ n → Misnamed a (Write p n v)
  write_flags : {p v : ℕ} → Misnamed a (Write p 1 v)
  no_length : {p : ℕ} → Misnamed a (Write p 0 0)
  length_above : {p v : ℕ} → a.slot < v → Misnamed a (Write p 0 v)
  mask_above : {p v : ℕ} → 1 < v → Misnamed a (Write p 2 v)
  reset_size : {cores slot : ℕ} → (Sized cores slot → ⊥) → Misnamed a (Reset cores slot)

-- "save for a reset"
abbrev pub AsksState : Call → Type 0
AsksState (Read p n) = Unit {0}
AsksState (Line p) = Unit {0}
AsksState (Write p n v) = Unit {0}
AsksState Tick = Unit {0}
AsksState (Reset cores slot) = ⊥

-- for what a call is refused, by the number
pub data RefusedFor (a : Arbiter) : Call → ℕ → Type 0 where
  -- 15, "judged first": of what the call names ..
  misnamed : {c : Call} → Misnamed a c → RefusedFor a c 15
  -- .. "or, save for a reset, a state with a number out of range"
  malformed : {c : Call} → AsksState c → (WellFormed a → ⊥) → RefusedFor a c 15
  -- 16: "a length written while waiting or running"
  still_busy : {p v : ℕ} → WellFormed a → (Misnamed a (Write p 0 v) → ⊥) → IsBusy (registers_of a p) → RefusedFor a (Write p 0 v) 16
