use Rattle.figures.proofs.Starting.{set_within, set_bits, set_ready, cost_ended}
use Rattle.figures.proofs.published_cost.Goals as goal

pub walk-all-requires : goal.walk-all-requires
walk-all-requires c =
    let a = c.args.task.now in
    set_ready a.image.now a.walk a.places.now c.requires _
    (set_within a.image.now a.walk a.places.now c.requires _ c.listed_starts.ensures c.start_set-start.result c.start_set-start.ensures)

pub returns : goal.returns
returns c =
    let a = c.args.task.now in
    cost_ended a.image.now a.walk a.places.now c.requires _ c.walk-all.result
    (set_bits a.image.now a.walk a.places.now c.requires _ c.listed_starts.ensures c.start_set-start.result c.start_set-start.ensures)
    c.walk-all.ensures
