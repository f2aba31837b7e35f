use mathlib.Core.Path.{◌≡◌}
use Prim.Native.Nat.{ℕ, ◌+◌, ◌-◌, ◌≤◌, ◌<◌}
use lib.ListN.{length, get_or}
use Rattle.windows.specs.Windows.{top}
use Rattle.windows.proofs.suffixes.Given as goal

-- Before each turn the places from j to the last have the largest from there to that end, and the others are as they were.
abbrev pub invariant-loop-j : goal.invariant-loop-j
invariant-loop-j l =
    (l.s ≤ l.j) × (l.j < l.s + l.n) × (length l.w ≡ length l.initial.w)
    × ((a : ℕ) → a < l.j → get_or l.w a 0 ≡ get_or l.initial.w a 0)
    × ((a : ℕ) → l.j ≤ a → a < l.s + l.n → get_or l.w a 0 ≡ top l.initial.w a (l.s + l.n - a))
    × ((a : ℕ) → l.s + l.n ≤ a → get_or l.w a 0 ≡ get_or l.initial.w a 0)
