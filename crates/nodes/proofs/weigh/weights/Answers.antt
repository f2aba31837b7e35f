use Rattle.rows.proofs.Standing.{unclosed_few, unclosed_fewer}
use Prim.Native.Nat.{◌+◌}
use native.Mathlib.Omega.{arith}
use Rattle.nodes.proofs.weigh.weights.Goals as goal

pub offset_bounds-places-n : goal.offset_bounds-places-n
offset_bounds-places-n c = omega (arith, unclosed_few _ _ c.requires.0)

pub bounds-places-n : goal.bounds-places-n
bounds-places-n c = omega (arith, unclosed_few _ _ c.requires.0)

pub weight_of-requires : goal.weight_of-requires
weight_of-requires c =
    let l = c.loop-n in
    (record { passed = unclosed_fewer _ (l.n + 3) (c.args.entry + 3) (omega arith) c.requires.0; place = c.requires.1 l.n (omega arith) }, l.invariant.right)
