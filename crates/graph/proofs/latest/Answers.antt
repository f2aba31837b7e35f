use native.Mathlib.Omega.{arith}
use lib.ListN.{get_or}
use Rattle.runs.specs.Figures.{largest}
use Rattle.graph.proofs.Filling.{latest_more}
use Rattle.graph.proofs.latest.Goals as goal

pub loop-w-init : goal.loop-w-init
unfolding largest
loop-w-init c = omega arith

pub loop-w-preserved : goal.loop-w-preserved
loop-w-preserved c =
    let a = c.args in
    let l = c.loop-w in
    latest_more (λ k. get_or a.ends.now (get_or a.waits.now k 0) 0) l.w-index a.previous l.best _ l.invariant (omega (arith, c.max-best.ensures))
