use borrow.Author.Rules.{rules}
use Rattle.published.proofs.Joins.{begun_entry, begun_nothing}
use Rattle.published.proofs.before_first.Goals as goal

-- The exits before the first iteration are the entry's own where 0 is permitted, and else none.
pub returns-then-least-eq0 : goal.returns-then-least-eq0
returns-then-least-eq0 c = λ b. begun_entry b c.args.least c.args.s c.if-least-eq0.true

pub returns : goal.returns
returns c = λ b. begun_nothing b c.args.least c.args.s c.empty.result (search rules) c.empty.ensures
