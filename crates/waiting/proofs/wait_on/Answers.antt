use lib.ListN.{length-set}
use native.Mathlib.Omega.{arith}
use Rattle.waiting.proofs.Pending.{waits_on}
use Rattle.waiting.proofs.wait_on.Goals as goal

pub returns-then-over-hi : goal.returns-then-over-hi
returns-then-over-hi c =
    let taken = c.if-over-hi.true in
    (simp length-set (omega (arith, c.requires.1)), waits_on _ _ _ _ _ _ _ (omega (arith, taken, c.requires.0, c.requires.1)) c.max.ensures c.max-then-over-hi.ensures)
