use mathlib.Core.Path.{◌∙◌, ap}
use Rattle.offsets.proofs.Shifts.{word, ones_four}
use borrow.Author.Rules.{rules}
use Rattle.offsets.proofs.below.Goals as goal

pub returns : goal.returns
returns c =
    rw (c.ones.ensures, c.ones-2.ensures ∙ ap word c.saturating_sub.ensures, c.ones-3.ensures ∙ ap word c.saturating_sub-2.ensures, c.ones-4.ensures ∙ ap word c.saturating_sub-3.ensures)
    (ones_four c.args.p (search rules))
