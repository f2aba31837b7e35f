use mathlib.Core.Path.{sym, ◌∙◌}
use Rattle.schedule.proofs.Sayings.{said_turns, slots_tag, slots_same}
use Rattle.schedule.proofs.Dividing.{divided_same, same_bus}
use Rattle.schedule.proofs.bus_at.Goals as goal

pub returns-then-byte-eq9 : goal.returns-then-byte-eq9
returns-then-byte-eq9 c =
    let d = c.divide-x in
    let r = c.of_offsets in
    let e = sym c.byte.ensures.0 ∙ c.if-byte-eq9.true in
    (r.ensures.0, same_bus _ _ (divided_same c.args.image.now d.result r.result d.ensures r.ensures.1 r.ensures.2 ∙ sym (said_turns c.args.image.now e)))

pub returns : goal.returns
returns c =
    let e = slots_tag c.args.image.now c.requires (λ q. c.if-byte-eq9.false (c.byte.ensures.0 ∙ q)) in
    let x = rw (c.byte-2.ensures.0, c.byte-3.ensures.0, c.byte-4.ensures.0) at c.equal_slots.ensures.1 in
    (c.equal_slots.ensures.0, slots_same c.args.image.now c.requires e _ x)
