use Rattle.offsets.proofs.Shifts.{under_twice}
use Rattle.offsets.proofs.under.Goals as goal
use Rattle.offsets.proofs.under.Goals.{Start}

pub returns : goal.returns
returns c = let start : Start = c in under_twice start.args.w start.args.k start.requires
