use mathlib.Core.Path.{◌≡◌}
use Prim.Native.Nat.{◌+◌, ◌-◌, ◌*◌, ◌≤◌}
use Rattle.runs.specs.Schedules.{total}
use Rattle.schedule.specs.Said.{turns_at}
use Rattle.schedule.proofs.sum_of.Given as goal

-- The invariant: the sum so far and the lengths from pair i on are the whole.
abbrev pub invariant-loop-i : goal.invariant-loop-i
invariant-loop-i l = (l.sum ≤ 255 * l.i) × (l.sum + total (turns_at l.image (l.place + 2 * l.i) (l.pairs - l.i)) ≡ total (turns_at l.image l.place l.pairs))
