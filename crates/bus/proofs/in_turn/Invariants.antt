use mathlib.Core.Path.{◌≡◌}
use mathlib.Core.Bool.{true}
use Prim.Native.Nat.{◌-◌, ◌<◌}
use Rattle.offsets.specs.Sets.{value, has, members}
use Rattle.bus.specs.Stretches.{Ordered}
use Rattle.bus.proofs.in_turn.Given as goal

-- Before each turn the list has the offsets of s below a, and one stands at a, if that is within the period.
abbrev pub invariant-loop-a : goal.invariant-loop-a
invariant-loop-a l =
    (l.a < l.period → (has (value l.s) l.a ≡ true) × (l.count ≡ members (value l.s) l.a)) × (l.count ≡ 0 → l.a ≡ l.first)
    × Ordered l.period (value l.rest) (value l.s) l.first l.spans l.count l.a

abbrev pub decreases-loop-a : goal.decreases-loop-a
decreases-loop-a l = l.period - l.a
