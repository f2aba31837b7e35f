use mathlib.Core.Path.{◌≡◌}
use Prim.Native.Nat.{ℕ, ◌+◌, ◌-◌, ◌≤◌, ◌<◌}
use lib.ListN.{length, get_or}
use Rattle.windows.specs.Windows.{top}
use Rattle.windows.proofs.two_pass.Given as goal

-- Before each turn the windows below s are done, and the rest below len is as in k; a turn does n more (`turn_done`).
abbrev pub invariant-loop-s : goal.invariant-loop-s
invariant-loop-s l = (l.s ≤ l.len) × (length l.w ≡ length l.initial.w) × ((a : ℕ) → a < l.s → a + l.n ≤ l.len → get_or l.w a 0 ≡ top l.k a l.n) × ((a : ℕ) → l.s ≤ a → a < l.len → get_or l.w a 0 ≡ get_or l.k a 0)

abbrev pub decreases-loop-s : goal.decreases-loop-s
decreases-loop-s l = l.len - l.s
