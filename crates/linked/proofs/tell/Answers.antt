use Rattle.linked.proofs.Calls.{told_given}
use Rattle.linked.proofs.tell.Goals as goal

pub returns-in-Ok : goal.returns-in-Ok
returns-in-Ok c =
    let p = c.put in
    told_given c.args.answer.now c.args.found c.requires c.in-Ok.f p.new.answer c.in-Ok.is p.ensures
