use mathlib.Core.Path.{◌≡◌}
use Prim.Native.Nat.{◌+◌, ◌-◌, ◌%◌, ◌≤◌}
use lib.ListN.{length}
use Rattle.runs.specs.Stretches.{IsRun, Begins}
use Rattle.bus.specs.Stretches.{Nth}
use Rattle.bus.specs.Owning.{owns}
use Rattle.waiting.proofs.Everyone.{Waiting, LeftUp}
use Rattle.waiting.proofs.arrive_all.Given as goal

-- Before each turn a stretch begins at x, `gone` cycles after the first; those that begin since have been served, and what waits for this one is pending,
-- for the durations that it has no room for.
abbrev pub invariant-loop-gone : goal.invariant-loop-gone
invariant-loop-gone l =
    (l.gone ≤ l.b.period) × (length l.out ≡ 256) × (length l.pending ≡ 256) × (l.x.at ≡ (l.b.first + l.gone) % l.b.period) × Begins l.b.period (owns l.b) l.x.at × IsRun l.b.period (owns l.b) l.x.at l.x.len
    × Waiting l.b.period (owns l.b) l.t l.x.at l.gone l.x.len (l.b.period - l.gone) l.lo l.hi l.run l.pending × LeftUp l.b.period (owns l.b) l.t l.b.first l.gone l.lo l.hi l.initial.out l.out
    × Nth l.b.stretches l.x.i l.x.at l.x.len

abbrev pub decreases-loop-gone : goal.decreases-loop-gone
decreases-loop-gone l = l.b.period - l.gone
