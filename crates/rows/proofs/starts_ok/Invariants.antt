use Rattle.rows.specs.Tests.{starts_ok}
use mathlib.Core.Path.{◌≡◌}
use Prim.Native.Nat.{◌+◌, ◌-◌}
use Rattle.rows.proofs.starts_ok.Given as goal

-- The invariant: what is left from start i on, at the least that is permitted there, says what the whole says.
abbrev pub invariant-loop-i : goal.invariant-loop-i
invariant-loop-i l = starts_ok l.image (l.place + l.i) (l.count - l.i) l.least l.period ≡ starts_ok l.image l.place l.count 0 l.period
