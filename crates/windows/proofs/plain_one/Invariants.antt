use mathlib.Core.Path.{◌≡◌}
use Prim.Native.Nat.{ℕ, ◌<◌}
use lib.ListN.{length, get_or}
use Rattle.times.specs.Arrays.{LaterOf}
use Rattle.windows.specs.Windows.{start}
use Rattle.windows.proofs.plain_one.Given as goal

-- Before each turn the places below q have their times, and j is the place d cycles before q.
abbrev pub invariant-loop-q : goal.invariant-loop-q
invariant-loop-q l = (l.j < l.period) × (l.j ≡ start l.period l.d l.q) × (length l.out ≡ 256) × ((i : ℕ) → i < l.q → LaterOf (get_or l.t (start l.period l.d i) 0) l.d (get_or l.out i 0))
