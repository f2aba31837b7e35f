use Rattle.tight.proofs.Leaves.{idle_walks, sets_fit}
use Rattle.tight.proofs.plain_block.Goals as goal

-- Where no cycle passes nothing is done, and that is the step; else each row is stepped.
pub returns-then-p-eq0 : goal.returns-then-p-eq0
returns-then-p-eq0 c =
    let a = c.args in
    idle_walks a.k a.p.lowest a.p.highest a.t.now c.requires c.if-p-eq0.true

pub each_row-requires : goal.each_row-requires
each_row-requires c =
    let h = c.requires.1 in
    (c.requires.0, h.sized.few, rw h.sized.sets_is h.size, sets_fit c.args.k c.args.t.now h)

pub returns : goal.returns
returns c = c.each_row.ensures c.args.k.outline.lines c.requires.1.sized.sets_is
