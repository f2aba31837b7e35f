use mathlib.Core.Path.{◌≡◌}
use Prim.Native.Nat.{ℕ, ◌%◌, ◌<◌}
use lib.ListN.{length, get_or}
use Rattle.windows.specs.Windows.{key_of}
use Rattle.windows.proofs.keys.Given as goal

-- Before each turn the places below m have their keys, and o is m modulo the period.
abbrev pub invariant-loop-m : goal.invariant-loop-m
invariant-loop-m l = (l.o < l.period) × (l.o ≡ l.m % l.period) × (length l.k ≡ 384) × ((i : ℕ) → i < l.m → get_or l.k i 0 ≡ key_of (get_or l.t (i % l.period) 0) i)
