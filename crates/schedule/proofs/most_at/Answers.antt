use mathlib.Core.Path.{sym, ◌∙◌}
use Rattle.schedule.proofs.Sayings.{slots_tag, slots_most}
use Rattle.schedule.proofs.most_at.Goals as goal

pub returns : goal.returns
returns c =
    let e = slots_tag c.args.image.now c.requires (λ q. c.if-byte-eq9.false (c.byte.ensures.0 ∙ q)) in
    c.byte-2.ensures.0 ∙ sym (slots_most c.args.image.now e)
