use mathlib.Core.Path.{◌∙◌, sym}
use Rattle.offsets.specs.Sets.{value}
use borrow.Author.Rules.{rules}
use Rattle.offsets.proofs.Counts.{ones_four, members_ones}
use Rattle.offsets.proofs.Words.{value_lt}
use Rattle.offsets.proofs.count.Goals as goal

-- The ones of the four words are the ones of their number, and those are its members. Each sum fits, as a word has at most 64 ones.
pub returns : goal.returns
returns c =
    let s = c.args.s in
    ones_four s.w0 s.w1 s.w2 s.w3 (search rules) (search rules) (search rules)
    ∙ sym (members_ones (value s) 256 (value_lt s (search rules)))
