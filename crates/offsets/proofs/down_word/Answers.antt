use borrow.Author.Rules.{rules}
use Rattle.offsets.proofs.Shifts.{down_by_word}
use Rattle.offsets.proofs.down_word.Goals as goal

-- The words, each one place lower, are the quotient by 2 ^ 64.
pub returns : goal.returns
returns c = let s = c.args.s in down_by_word s.w0 s.w1 s.w2 s.w3 (search rules)
