use mathlib.Core.Path.{◌≡◌}
use Prim.Native.Nat.{◌-◌, ◌*◌, ◌/◌, ◌^◌}
use Rattle.offsets.specs.Sets.{value}
use Rattle.offsets.proofs.down.Given as goal

-- The words still to come down and the bits left make the same quotient in every round.
abbrev pub invariant-loop : goal.invariant-loop
invariant-loop l = value l.t / 2 ^ (l.k - 64 * l.counter) ≡ value l.initial.t / 2 ^ l.k
