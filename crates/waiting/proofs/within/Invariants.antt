use mathlib.Core.Path.{◌≡◌}
use Prim.Native.Nat.{◌+◌, ◌-◌, ◌%◌, ◌≤◌, ◌<◌, min, max}
use lib.ListN.{length}
use Rattle.waiting.specs.Waiting.{ComeLater, Shorter}
use Rattle.waiting.proofs.within.Given as goal

-- Before each turn the durations from lo to below e are done, and `best` is what waits with e cycles, or with one more than top; the earliest of it comes
-- from `at`.
abbrev pub invariant-loop-e : goal.invariant-loop-e
invariant-loop-e l =
    (l.e ≤ max l.lo (l.top + 1)) × (length l.pending ≡ 256) × (l.at < l.period) × (l.at ≡ (l.y + l.period - (l.gap + min (l.e - 1) l.top)) % l.period)
    × ComeLater l.period l.t l.y (l.gap + min (l.e - 1) l.top) l.rest l.best × Shorter l.period l.t l.y l.gap l.rest l.lo l.e l.initial.pending l.pending
