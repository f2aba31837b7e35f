use Rattle.nodes.proofs.Levels.{deepest_step, deepest_none, visits_step, visits_none}
use Prim.Native.Nat.{◌<◌}
use native.Mathlib.Omega.{arith}
use Rattle.nodes.proofs.weigh.over_children.Goals as goal

-- One more child: what it weighs stands in the table, and its number is read from the image.
pub loop-i-preserved : goal.loop-i-preserved
loop-i-preserved c =
    let a = c.args in
    let l = c.loop-i in
    let s = a.image.now in
    let h : l.i < a.c.count = omega arith in
    let read = c.word.ensures.0 in
    let w = rw (← read) at (c.requires.4 _ (c.requires.3 l.i h)) in
    let d = rw (← read) at (deepest_step s a.c.place a.c.count l.i h) in
    let v = rw (← read) at (visits_step s a.c.place a.c.count l.i h) in
    (omega (arith, w.deep), omega (arith, w.long), omega (arith, d, w.deep, l.invariant.2), omega (arith, v, w.long, l.invariant.3))

pub returns : goal.returns
returns c =
    let a = c.args in
    let l = c.loop-i in
    record {
      deep = omega (arith, deepest_none a.image.now a.c.place a.c.count l.i (omega arith), l.invariant.2);
      long = omega (arith, visits_none a.image.now a.c.place a.c.count l.i (omega arith), l.invariant.3);
      most = omega arith;
    }
