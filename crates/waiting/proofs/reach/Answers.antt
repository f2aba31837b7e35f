use mathlib.Core.Path.{refl}
use native.Mathlib.Omega.{arith}
use Rattle.times.specs.Arrays.{Fits}
use Rattle.waiting.proofs.Reaching.{reach_none, reach_more}
use Rattle.waiting.proofs.reach.Goals as goal

pub loop-o-init : goal.loop-o-init
loop-o-init c = reach_none _ _ _ _ _ _ (omega arith) refl

pub later_by-requires : goal.later_by-requires
unfolding Fits
later_by-requires c = (omega arith, (λ n. omega (arith, c.requires.0.fits c.loop-o.o (omega arith) n)))

pub loop-o-preserved : goal.loop-o-preserved
loop-o-preserved c =
    let l = c.loop-o in
    reach_more _ _ _ _ _ _ _ _ (omega arith) (omega arith) l.invariant c.later_by.ensures c.longer_of-best.ensures
