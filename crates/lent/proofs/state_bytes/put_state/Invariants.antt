use mathlib.Core.Path.{◌≡◌}
use mathlib.Core.List.{◌++◌}
use lib.ListN.{length, take}
use Prim.Native.Nat.{◌+◌, ◌*◌}
use Rattle.lent.specs.Bytes.{flat}
use Rattle.lent.proofs.state_bytes.put_state.Given as goal

-- The invariant: behind the first three bytes, those of the cores below i are set.
abbrev pub invariant-loop-i : goal.invariant-loop-i
invariant-loop-i l = (length l.r-items ≡ 16) × (length l.bytes ≡ 51) × (take (3 + 3 * l.i) l.bytes ≡ take 3 l.initial.bytes ++ flat (take l.i l.r-items))
