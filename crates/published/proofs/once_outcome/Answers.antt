use mathlib.Core.Path.{refl}
use Rattle.runs.specs.Figures.{cost}
use Rattle.published.proofs.Fetches.{once_exited}
use Rattle.published.proofs.once_outcome.Goals as goal

pub returns : goal.returns
unfolding cost
returns c =
    let a = c.args in
    let missed = c.access_exits-missed in
    let hit = c.plain_exits-hit in
    record {
      exited =
          once_exited a.b a.x.line a.x.lowest a.x.highest a.x.hit a.s missed.result hit.result c.join.result missed.ensures
          hit.ensures c.join.ensures;
      costs = rw (c.max.ensures, c.access_cost-cost.ensures) refl;
    }
