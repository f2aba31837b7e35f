use mathlib.Core.Path.{◌≡◌}
use Prim.Native.Nat.{ℕ, ◌-◌}
use Rattle.bus.specs.Stretches.{Nth}
use Rattle.offsets.specs.Sets.{value, turned_by}
use Rattle.exits.specs.Exits.{SetOf}
use Rattle.exits.proofs.Lasts.{LastAt}
use Rattle.exits.proofs.Served.{Met, Among}
use Rattle.exits.proofs.starting.Given as goal

-- Before each turn the stretches before the one at x have been served, seen from where the longest begins.
abbrev pub invariant-loop-gone : goal.invariant-loop-gone
invariant-loop-gone l =
    Met l.b l.x.at l.x.len l.gone
    × ((n : ℕ) → value l.seen ≡ turned_by l.b.period (l.b.period - l.b.first) n → SetOf l.b.period (Among l.b (LastAt l.b n l.lo l.hi) 0 l.gone) (value l.out))
    × Nth l.b.stretches l.x.i l.x.at l.x.len

abbrev pub decreases-loop-gone : goal.decreases-loop-gone
decreases-loop-gone l = l.b.period - l.gone
