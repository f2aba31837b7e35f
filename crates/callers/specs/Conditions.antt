-- When a caller's call is refused, in plain terms: the promise of each entry says that its answer is a refusal if and only if `RefusedBy` holds
-- (document 02: "New numbers"). Definitions only.
use Rattle.std.specs.Prelude.{ℕ, ◌<◌}
use Rattle.device.specs.declared.Arbiter.{Arbiter}
use Rattle.arbiter.specs.declared.Call.{Call}
use Rattle.arbiter.specs.declared.Call.TheVariants.{Read, Line, Write, Tick, Reset}
use Rattle.arbiter.specs.Conditions.{RefusedFor}

-- "A core reads and writes its own registers and reads its own line. The workshop reads everything, ticks and resets, and writes no register."
pub data Right : ℕ → Call → Type 0 where
  own_register : {k n : ℕ} → k < 16 → Right k (Read k n)
  own_line : {k : ℕ} → k < 16 → Right k (Line k)
  own_write : {k n v : ℕ} → k < 16 → Right k (Write k n v)
  every_register : {p n : ℕ} → Right 16 (Read p n)
  every_line : {p : ℕ} → Right 16 (Line p)
  workshop_ticks : Right 16 Tick
  workshop_resets : {cores slot : ℕ} → Right 16 (Reset cores slot)

-- for what a call is refused to its caller, by the number
pub data RefusedBy (k : ℕ) (a : Arbiter) : Call → ℕ → Type 0 where
  -- 17: "a caller above 16 or without that right", whatever the register, the value and the state
  forbidden : {c : Call} → (Right k c → ⊥) → RefusedBy k a c 17
  -- "judged before 15"
  despite_right : {c : Call} {n : ℕ} → Right k c → RefusedFor a c n → RefusedBy k a c n
