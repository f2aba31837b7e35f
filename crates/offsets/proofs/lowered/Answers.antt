use borrow.Author.Rules.{rules}
use Rattle.offsets.proofs.Shifts.{lowered_or}
use Rattle.offsets.proofs.lowered.Goals as goal

pub returns : goal.returns
returns c =
    let a = c.args in
    rw c.under.ensures (lowered_or a.w a.v a.k (search rules) (search rules))
