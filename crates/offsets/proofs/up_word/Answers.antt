use borrow.Author.Rules.{rules}
use Rattle.offsets.proofs.Shifts.{up_by_word}
use Rattle.offsets.proofs.up_word.Goals as goal

-- The words, each one place higher, are the number times 2 ^ 64, without the top word.
pub returns : goal.returns
returns c = let s = c.args.s in up_by_word s.w0 s.w1 s.w2 s.w3 (search rules) (search rules) (search rules)
