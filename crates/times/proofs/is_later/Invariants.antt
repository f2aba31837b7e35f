use Prim.Native.Nat.{ℕ, ◌<◌}
use lib.ListN.{get_or}
use Rattle.times.specs.Arrays.{LaterOf}
use Rattle.times.proofs.is_later.Given as goal

-- Before each turn the places below o are the same, q cycles later.
abbrev pub invariant-loop-o : goal.invariant-loop-o
invariant-loop-o l = (i : ℕ) → i < l.o → LaterOf (get_or l.fn.a i 0) l.q (get_or l.b i 0)
