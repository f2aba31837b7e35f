use Rattle.rows.specs.Tests.{below}
use mathlib.Core.Path.{◌≡◌}
use Prim.Native.Nat.{◌+◌, ◌-◌, ◌*◌}
use Rattle.rows.proofs.all_below.Given as goal

-- The invariant: what is left from child i on says what the whole says.
abbrev pub invariant-loop-i : goal.invariant-loop-i
invariant-loop-i l = below l.image (l.place + 2 * l.i) (l.count - l.i) l.index ≡ below l.image l.place l.count l.index
