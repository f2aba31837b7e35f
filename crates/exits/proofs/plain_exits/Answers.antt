use Rattle.exits.proofs.Blocks.{plain_exited}
use Rattle.exits.proofs.plain_exits.Goals as goal
use Rattle.exits.proofs.plain_exits.Goals.{Start}

-- One range of turns within the period has the end of each offset and duration, and nothing else.
pub returns : goal.returns
returns c =
    let a = c.args in
    plain_exited a.b a.lo a.hi a.s c.turn_range.result c.requires c.turn_range.ensures
