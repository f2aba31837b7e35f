use mathlib.Core.Path.{◌≡◌}
use Prim.Native.Nat.{ℕ, ◌+◌, ◌<◌}
use lib.ListN.{length, get_or}
use Rattle.windows.specs.Windows.{time_at, start}
use Rattle.windows.proofs.unkeyed.Given as goal

-- Before each turn the places below q have their times, and j is where the window that ends at q begins.
abbrev pub invariant-loop-q : goal.invariant-loop-q
invariant-loop-q l =
    (l.j < l.period) × (l.j ≡ start l.period l.hi l.q) × (length l.out ≡ 256)
    × ((i : ℕ) → i < l.q → get_or l.out i 0 ≡ time_at (get_or l.w (start l.period l.hi i) 0) (start l.period l.hi i + l.hi))
