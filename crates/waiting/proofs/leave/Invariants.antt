use mathlib.Core.Path.{◌≡◌}
use Prim.Native.Nat.{◌+◌, ◌%◌, ◌≤◌, ◌<◌, max}
use lib.ListN.{length}
use Rattle.waiting.specs.Waiting.{kept_time, among, LeftBy}
use Rattle.waiting.proofs.leave.Given as goal

-- Before each turn the durations from lo to below e have left, and `run` is the longest time pending for them; the next ends at q.
abbrev pub invariant-loop-e : goal.invariant-loop-e
invariant-loop-e l =
    (l.e ≤ max l.lo (l.top + 1)) × (length l.out ≡ 256) × (l.q < l.period) × (l.q ≡ (l.a + l.e) % l.period) × (kept_time l.run ≡ among l.pending l.lo l.e)
    × LeftBy l.period l.pending l.a l.rest l.lo l.e l.initial.out l.out
