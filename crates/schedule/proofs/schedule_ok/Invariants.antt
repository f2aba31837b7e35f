use mathlib.Core.Path.{◌≡◌}
use mathlib.Core.Bool.{Bool}
use mathlib.Core.List.{List}
use Prim.Native.Nat.{ℕ, ◌+◌, ◌-◌, ◌*◌, ◌/◌, ◌≤◌}
use Rattle.schedule.specs.Said.{turns_at, schedule_of, schedule_ok}
use Rattle.schedule.proofs.Pairs.{goes_on}
use Rattle.schedule.proofs.schedule_ok.Given as goal

-- The invariant: what is left from pair i on, after the sum so far, says what the whole says.
-- from pair i on
abbrev pub from : List ℕ → ℕ → ℕ → ℕ → Bool → ℕ → ℕ → Bool
from s body len core found sum i = goes_on core found sum (turns_at s (body + 1 + 2 * i) (len / 2 - i))

abbrev pub invariant-loop-i : goal.invariant-loop-i
invariant-loop-i l = (l.sum ≤ 256) × (from l.image l.body l.len l.core l.found l.sum l.i ≡ schedule_ok (schedule_of l.image l.body l.len))
