use native.Mathlib.Omega.{arith}
use Rattle.figures.proofs.Starting.{started_rows, rows_ready, rows_joins, some_set, times_ended}
use Rattle.figures.proofs.over_lines.Goals as goal

pub walk-requires : goal.walk-requires
walk-requires c =
    let a = c.args.task.now in
    rows_ready a.image.now a.walk a.places.now c.requires.0 c.args.start.now _ c.requires.1 c.put.ensures

pub at_offsets-requires : goal.at_offsets-requires
at_offsets-requires c =
    let a = c.args.task.now in
    rows_joins a.image.now a.walk a.places.now c.requires.0 c.args.start.now _ c.requires.1 c.put.ensures _ _ c.walk.ensures _
    (omega (arith, some_set a.image.now a.walk a.places.now c.requires.0))

pub returns : goal.returns
returns c =
    let a = c.args.task.now in
    times_ended a.image.now a.walk a.places.now c.requires.0 _ _ c.at_offsets.result
    (started_rows a.image.now a.walk a.places.now c.requires.0 c.args.start.now _ c.requires.1 c.put.ensures)
    c.walk.ensures
    (c.at_offsets.ensures a.walk.outline.lines c.requires.0.sound.accepting.sets)
