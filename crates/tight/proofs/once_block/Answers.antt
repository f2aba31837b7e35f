use Rattle.tight.proofs.Leaves.{once_asks}
use Rattle.tight.proofs.once_block.Goals as goal

-- The rows without the line lead to those with it.
pub once-requires : goal.once-requires
once-requires c =
    let a = c.args in
    once_asks a.k a.t.now c.requires.held a.x.line a.x.lowest a.x.highest a.x.hit c.power-weight.result c.requires c.power-weight.ensures

pub returns : goal.returns
returns c =
    let a = c.args in
    c.once.ensures a.k.outline.lines a.x.line c.requires.held.sized.sets_is c.power-weight.ensures c.requires.line_lt
