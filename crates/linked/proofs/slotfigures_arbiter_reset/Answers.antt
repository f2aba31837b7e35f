use Rattle.linked.proofs.slotfigures_arbiter_reset.Goals as goal

pub returns : goal.returns
returns c = c.call.ensures
