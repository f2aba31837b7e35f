use mathlib.Core.Path.{◌∙◌, ap}
use lib.Bits.{bit_and, and_mask}
use Rattle.offsets.specs.Sets.{value}
use Rattle.offsets.proofs.cut.Goals as goal

pub returns : goal.returns
returns c =
    let a = c.args in
    c.meet.ensures ∙ ap (bit_and (value a.s)) c.below.ensures ∙ and_mask (value a.s) a.p
