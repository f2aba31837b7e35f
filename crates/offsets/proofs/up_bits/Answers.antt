use borrow.Author.Rules.{rules}
use Rattle.offsets.proofs.Shifts.{up_by_bits}
use Rattle.offsets.proofs.up_bits.Goals as goal

pub returns : goal.returns
returns c =
    let a = c.args in
    rw (c.raised.ensures, c.raised-2.ensures, c.raised-3.ensures)
    (up_by_bits a.s.w0 a.s.w1 a.s.w2 a.s.w3 a.k (search rules) (search rules) (search rules) (search rules))
