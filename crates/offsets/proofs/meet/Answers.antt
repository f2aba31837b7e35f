use borrow.Author.Rules.{rules}
use Rattle.offsets.proofs.Words.{and_value}
use Rattle.offsets.proofs.meet.Goals as goal

-- A meet works word by word.
pub returns : goal.returns
returns c = and_value c.args.a c.args.b (search rules) (search rules)
