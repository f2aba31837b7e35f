use mathlib.Core.Path.{◌≡◌}
use Prim.Native.Nat.{ℕ, ◌<◌}
use lib.ListN.{length, get_or}
use Rattle.times.specs.Arrays.{time_of}
use Rattle.lined.proofs.RowLaws.{over}
use Rattle.lined.proofs.at_offsets.Given as goal

-- Before each turn `out` has the longest times of the rows below m.
abbrev pub invariant-loop-m : goal.invariant-loop-m
invariant-loop-m l = (length l.out ≡ 256) × ((o : ℕ) → o < l.b.period → time_of (get_or l.out o 0) ≡ over l.b l.m l.t o)
