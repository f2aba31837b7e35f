use mathlib.Core.Path.{◌≡◌}
use Prim.Native.Nat.{ℕ, ◌/◌, ◌%◌, ◌≤◌, ◌<◌}
use lib.ListN.{length}
use Rattle.lined.proofs.RowLaws.{Done, Kept}
use Rattle.lined.proofs.once.Given as goal

-- Before each turn the sets below m that are without the line are done, and those from m on are as they were.
abbrev pub invariant-loop-m : goal.invariant-loop-m
invariant-loop-m l =
    (length l.t ≡ length l.initial.t)
    × ((j : ℕ) → j < l.m → j / l.weight % 2 ≡ 0 → Done l.b l.lo l.hi l.hit l.weight l.initial.t l.t j)
    × ((j : ℕ) → l.m ≤ j → j < l.sets → j / l.weight % 2 ≡ 0 → Kept l.b l.lo l.hi l.hit l.weight l.initial.t l.t j)
