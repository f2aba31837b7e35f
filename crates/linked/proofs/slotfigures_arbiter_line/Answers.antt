use Rattle.linked.proofs.slotfigures_arbiter_line.Goals as goal

pub returns : goal.returns
returns c = c.call.ensures
