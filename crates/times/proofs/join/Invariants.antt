use mathlib.Core.Path.{◌≡◌}
use Prim.Native.Nat.{ℕ, ◌≤◌, ◌<◌}
use lib.ListN.{get_or}
use Rattle.times.specs.Arrays.{LongerOf}
use Rattle.times.proofs.join.Given as goal

-- Before each turn the places so far have the longer of the two times, and the others are as they were.
abbrev pub invariant-loop-o : goal.invariant-loop-o
invariant-loop-o l =
    ((i : ℕ) → i < l.o → LongerOf (get_or l.initial.x-items i 0) (get_or l.b i 0) (get_or l.x-items i 0))
    × ((i : ℕ) → l.o ≤ i → get_or l.x-items i 0 ≡ get_or l.initial.x-items i 0)
