use Rattle.tight.proofs.Leaves.{sets_fit}
use Rattle.tight.proofs.bus_block.Goals as goal

pub each_row-requires : goal.each_row-requires
each_row-requires c =
    let h = c.requires.1 in
    let n = c.requires.0 in
    (record { fit = n.fit; order = n.order; in_row = n.in_row }, h.sized.few, rw h.sized.sets_is h.size, sets_fit c.args.k c.args.t.now h)

pub each_row-requires-in-Always : goal.each_row-requires-in-Always
each_row-requires-in-Always c =
    let h = c.requires.1 in
    (c.requires.0, h.sized.few, rw h.sized.sets_is h.size, sets_fit c.args.k c.args.t.now h)

pub returns-in-May : goal.returns-in-May
returns-in-May c = rw c.in-May.is (c.each_row.ensures c.args.k.outline.lines c.requires.1.sized.sets_is)

pub returns-in-Always : goal.returns-in-Always
returns-in-Always c = rw c.in-Always.is (c.each_row-in-Always.ensures c.args.k.outline.lines c.requires.1.sized.sets_is)
