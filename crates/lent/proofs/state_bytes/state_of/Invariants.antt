use mathlib.Core.Path.{◌≡◌}
use lib.ListN.{length, take, drop}
use Rattle.lent.specs.Bytes.{registers_in}
use Rattle.lent.proofs.state_bytes.state_of.Given as goal

-- The invariant: the registers of the cores below i are taken out of the bytes.
abbrev pub invariant-loop-i : goal.invariant-loop-i
invariant-loop-i l = (length l.r-items ≡ 16) × (take l.i l.r-items ≡ take l.i (registers_in (drop 3 l.bytes)))
