use Prim.Native.Nat.{◌+◌, ◌-◌, ◌%◌, ◌≤◌}
use Rattle.bus.specs.Stretches.{Nth}
use Rattle.bus.specs.Owning.{owns}
use Rattle.offsets.specs.Sets.{value}
use Rattle.exits.specs.Exits.{SetOf, WaitsAt, Waited}
use Rattle.exits.proofs.Served.{Met, Among}
use Rattle.exits.proofs.waiting.Given as goal

-- Before each turn the stretches up to the one at x have been served, and it is known which durations wait for that (`Waited`).
abbrev pub invariant-loop-gone : goal.invariant-loop-gone
invariant-loop-gone l =
    Met l.b l.x.at l.x.len l.gone × (l.least ≤ 257) × Waited l.b.period (owns l.b) (value l.s) l.x.at l.gone l.least
    × SetOf l.b.period (Among l.b (λ j. WaitsAt l.b.period (owns l.b) (value l.s) l.lo l.hi ((l.b.first + j) % l.b.period)) 1 (l.gone + 1)) (value l.out)
    × Nth l.b.stretches l.x.i l.x.at l.x.len

abbrev pub decreases-loop-gone : goal.decreases-loop-gone
decreases-loop-gone l = l.b.period - l.gone
