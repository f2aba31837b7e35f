use mathlib.Core.Path.{◌≡◌}
use Prim.Native.Nat.{ℕ, ◌+◌, ◌%◌, ◌<◌}
use lib.ListN.{length, get_or}
use Rattle.windows.specs.Windows.{Same, key_of}
use Rattle.starting.proofs.keys_in.Given as goal

-- Before each turn the places below i have their keys, in k and in w, and o is i cycles after a.
abbrev pub invariant-loop-i : goal.invariant-loop-i
invariant-loop-i l =
    (l.o < l.period) × (l.o ≡ (l.a + l.i) % l.period) × (length l.k ≡ 256) × (length l.w ≡ 256)
    × ((j : ℕ) → j < l.i → get_or l.k j 0 ≡ key_of (get_or l.t ((l.a + j) % l.period) 0) j) × Same l.i l.k l.w
