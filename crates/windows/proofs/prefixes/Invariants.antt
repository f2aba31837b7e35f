use mathlib.Core.Path.{◌≡◌}
use Prim.Native.Nat.{ℕ, ◌+◌, ◌-◌, ◌≤◌, ◌<◌, max}
use lib.ListN.{length, get_or}
use Rattle.windows.specs.Windows.{top}
use Rattle.windows.proofs.prefixes.Given as goal

-- Before each turn `run` is the largest of the first i - 1 places, and the places below s + i are done.
abbrev pub invariant-loop-i : goal.invariant-loop-i
invariant-loop-i l =
    (length l.w ≡ length l.initial.w) × (l.run ≡ top l.k l.e (l.i - 1))
    × ((a : ℕ) → l.s < a → a < l.s + l.i → get_or l.w a 0 ≡ max (get_or l.initial.w a 0) (top l.k l.e (a - l.s)))
    × ((a : ℕ) → a ≤ l.s → get_or l.w a 0 ≡ get_or l.initial.w a 0)
    × ((a : ℕ) → l.s + l.i ≤ a → get_or l.w a 0 ≡ get_or l.initial.w a 0)
