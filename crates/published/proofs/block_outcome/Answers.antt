use Rattle.runs.specs.Figures.{cost}
use Rattle.published.proofs.block_outcome.Goals as goal

pub returns-in-May : goal.returns-in-May
unfolding cost
returns-in-May c =
    rw c.in-May.is
    record { exited = c.may_exits.ensures; costs = c.access_cost-cost.ensures }

pub returns-in-Always : goal.returns-in-Always
unfolding cost
returns-in-Always c =
    rw c.in-Always.is
    record { exited = c.access_exits.ensures; costs = c.access_cost-cost.ensures }
