use borrow.Author.Rules.{rules}
use Rattle.offsets.proofs.Shifts.{raised_or}
use Rattle.offsets.proofs.raised.Goals as goal

pub returns : goal.returns
returns c =
    let a = c.args in
    rw c.over.ensures (raised_or 64 a.w a.v a.k (search rules) (search rules))
