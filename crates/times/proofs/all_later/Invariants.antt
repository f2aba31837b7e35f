use mathlib.Core.Path.{◌≡◌}
use Prim.Native.Nat.{ℕ, ◌≤◌, ◌<◌}
use lib.ListN.{get_or}
use Rattle.times.specs.Arrays.{LaterOf}
use Rattle.times.proofs.all_later.Given as goal

-- Before each turn the places so far have their times q cycles later, and the others are as they were.
abbrev pub invariant-loop-x : goal.invariant-loop-x
invariant-loop-x l =
    ((i : ℕ) → i < l.x-index → LaterOf (get_or l.initial.x-items i 0) l.q (get_or l.x-items i 0))
    × ((i : ℕ) → l.x-index ≤ i → get_or l.x-items i 0 ≡ get_or l.initial.x-items i 0)
