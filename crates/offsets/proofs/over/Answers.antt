use Rattle.offsets.proofs.Shifts.{over_twice}
use Rattle.offsets.proofs.over.Goals as goal
use Rattle.offsets.proofs.over.Goals.{Start}

pub returns : goal.returns
returns c = let start : Start = c in over_twice start.args.w start.args.k start.requires
