use Prim.Native.Nat.{◌-◌, ◌≤◌, ◌<◌}
use Rattle.bus.specs.Stretches.{Nth}
use Rattle.bus.specs.Owning.{owns}
use Rattle.offsets.specs.Sets.{value}
use Rattle.costs.specs.Costs.{LongestWait}
use Rattle.exits.proofs.Served.{Met}
use Rattle.costs.proofs.LongestWaits.{Kept}
use Rattle.costs.proofs.farthest.Given as goal

-- Before each turn it is known how long an offset waits for the stretch at x (`LongestWait`), and from which the wait was longest so far (`Kept`).
abbrev pub invariant-loop-gone : goal.invariant-loop-gone
invariant-loop-gone l = Met l.b l.x.at l.x.len l.gone × (l.far ≤ l.gone) × (l.x.len < l.e → LongestWait l.b.period (owns l.b) (value l.s) l.e 0 l.x.at l.gone l.far) × Kept l.b l.e l.s l.gone l.at l.best × Nth l.b.stretches l.x.i l.x.at l.x.len

abbrev pub decreases-loop-gone : goal.decreases-loop-gone
decreases-loop-gone l = l.b.period - l.gone
