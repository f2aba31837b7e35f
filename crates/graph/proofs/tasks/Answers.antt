use Rattle.graph.proofs.Tables.{size_refused, entry_refused, all_permitted}
use Rattle.graph.proofs.tasks.Goals as goal

pub returns-in_default : goal.returns-in_default
returns-in_default c = size_refused _ c.in_default.ensures

pub returns-in-Some-first_refused : goal.returns-in-Some-first_refused
returns-in-Some-first_refused c = entry_refused _ c.in-Some.n c.in-Some.ensures _ c.in-Some-first_refused.ensures

pub returns-in-None : goal.returns-in-None
returns-in-None c = all_permitted _ _ c.in-Some.ensures c.in-None.ensures
