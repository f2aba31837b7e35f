use mathlib.Core.Path.{◌≡◌}
use Prim.Native.Nat.{◌-◌, ◌*◌, ◌%◌, ◌^◌}
use Rattle.offsets.specs.Sets.{value}
use Rattle.offsets.proofs.up.Given as goal

-- The words still to go up and the bits left make the same remainder in every round.
abbrev pub invariant-loop : goal.invariant-loop
invariant-loop l = (value l.t * 2 ^ (l.k - 64 * l.counter)) % 2 ^ 256 ≡ (value l.initial.t * 2 ^ l.k) % 2 ^ 256
