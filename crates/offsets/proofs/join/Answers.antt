use borrow.Author.Rules.{rules}
use Rattle.offsets.proofs.Words.{or_value}
use Rattle.offsets.proofs.join.Goals as goal

-- A join works word by word.
pub returns : goal.returns
returns c = or_value c.args.a c.args.b (search rules) (search rules)
