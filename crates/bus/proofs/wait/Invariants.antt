use mathlib.Core.Path.{◌≡◌}
use Prim.Native.Nat.{◌+◌, ◌-◌, ◌%◌, ◌≤◌, ◌<◌}
use Rattle.runs.specs.Stretches.{Stretched}
use Rattle.bus.specs.Owning.{owns, bus_meant}
use Rattle.bus.proofs.wait.Given as goal

-- One stretch by its cases. Else, before each turn the access has not started within the cycles that are gone.
abbrev pub invariant-loop-run : goal.invariant-loop-run
invariant-loop-run l = (l.x < l.b.period) × (l.x ≡ (l.o + l.gone) % l.b.period) × (l.gone ≤ (bus_meant l.b).wait l.e l.o) × Stretched l.b.period (owns l.b) l.x l.run

abbrev pub decreases-loop-run : goal.decreases-loop-run
decreases-loop-run l = l.b.period - l.gone
