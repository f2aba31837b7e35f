use borrow.Author.Rules.{rules}
use Rattle.offsets.specs.Sets.{value}
use Rattle.offsets.proofs.Doubling.{doubled_ups}
use Rattle.offsets.proofs.up_range.Goals as goal

pub returns : goal.returns
returns c = doubled_ups _ c.up.result c.args.lo (value c.args.s) (λ a m d y. search rules) c.up.ensures _ _ c.doubled.ensures
