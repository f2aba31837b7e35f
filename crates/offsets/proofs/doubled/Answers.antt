use native.Mathlib.Omega.{arith}
use Rattle.offsets.specs.Doubles.{one, more}
use Rattle.offsets.proofs.doubled.Goals as goal

pub loop-have-init : goal.loop-have-init
loop-have-init g c = (omega arith, c.requires.some.0, one)

pub loop-have-preserved : goal.loop-have-preserved
loop-have-preserved g c = (omega arith, omega arith, more c.loop-have.invariant.2 (omega arith) c.moved.ensures c.join-acc.ensures)
