use mathlib.Core.Path.{◌∙◌}
use Rattle.offsets.specs.Sets.{four}
use borrow.Author.Rules.{rules}
use Rattle.offsets.proofs.Shifts.{one_up}
use Rattle.offsets.proofs.single.Goals as goal

pub returns : goal.returns
unfolding four
returns c = c.up.ensures ∙ one_up 256 c.args.o (search rules)
