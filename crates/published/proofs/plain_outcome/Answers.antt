use mathlib.Core.Path.{refl}
use Rattle.runs.specs.Figures.{cost}
use Rattle.published.proofs.plain_outcome.Goals as goal

pub returns : goal.returns
unfolding cost
returns c = record { exited = c.plain_exits.ensures; costs = refl }
