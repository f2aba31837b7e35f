use mathlib.Core.Path.{◌≡◌}
use Prim.Native.Nat.{◌+◌, ◌-◌, ◌%◌, ◌≤◌}
use lib.ListN.{length}
use Rattle.runs.specs.Stretches.{IsRun, Begins}
use Rattle.bus.specs.Stretches.{Nth}
use Rattle.bus.specs.Owning.{owns}
use Rattle.starting.proofs.EveryNow.{StartedUp}
use Rattle.starting.proofs.now_all.Given as goal

-- Before each turn the stretches that begin less than `gone` cycles after the first have been served; the next, of `len` cycles, begins at x.
abbrev pub invariant-loop-gone : goal.invariant-loop-gone
invariant-loop-gone l =
    (l.gone ≤ l.b.period) × (length l.out ≡ 256) × (length l.k ≡ 256) × (length l.w ≡ 256) × (l.x.at ≡ (l.b.first + l.gone) % l.b.period)
    × Begins l.b.period (owns l.b) l.x.at × IsRun l.b.period (owns l.b) l.x.at l.x.len × StartedUp l.b.period (owns l.b) l.t l.b.first l.gone l.lo l.hi l.initial.out l.out × Nth l.b.stretches l.x.i l.x.at l.x.len

abbrev pub decreases-loop-gone : goal.decreases-loop-gone
decreases-loop-gone l = l.b.period - l.gone
