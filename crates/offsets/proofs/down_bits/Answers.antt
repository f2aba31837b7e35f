use borrow.Author.Rules.{rules}
use Rattle.offsets.proofs.Shifts.{down_by_bits}
use Rattle.offsets.proofs.down_bits.Goals as goal

pub returns : goal.returns
returns c =
    let a = c.args in
    rw (c.lowered.ensures, c.lowered-2.ensures, c.lowered-3.ensures)
    (down_by_bits a.s.w0 a.s.w1 a.s.w2 a.s.w3 a.k (search rules))
