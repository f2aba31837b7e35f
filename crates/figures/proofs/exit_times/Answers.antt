use Prim.Native.Nat.{◌≤◌}
use native.Mathlib.Omega.{arith}
use Rattle.tight.proofs.Descents.{narrow_size}
use Rattle.figures.proofs.Starting.{listed_times, started_row, start_ready, times_ended, row_joined}
use Rattle.figures.proofs.exit_times.Goals as goal

pub over_lines-requires : goal.over_lines-requires
over_lines-requires c =
    let a = c.args.task.now in
    let t = c.start_times-t in
    (c.requires, listed_times a.image.now a.walk a.places.now c.requires _ c.listed_starts.ensures t.result t.ensures.1)

pub walk-requires : goal.walk-requires
walk-requires c =
    let a = c.args.task.now in
    let p = c.requires in
    let t = c.start_times-t in
    let e = listed_times a.image.now a.walk a.places.now p _ c.listed_starts.ensures t.result t.ensures.1 in
    let h : a.walk.outline.sets ≤ 1 = omega (arith, c.if-k-gt1.false) in
    start_ready a.image.now a.walk a.places.now p t.result (omega (arith, t.ensures.0, narrow_size a.image.now a.walk a.places.now p h)) (started_row a.image.now a.walk a.places.now p t.result h e)

pub returns : goal.returns
returns c =
    let a = c.args.task.now in
    let p = c.requires in
    let t = c.start_times-t in
    let e = listed_times a.image.now a.walk a.places.now p _ c.listed_starts.ensures t.result t.ensures.1 in
    let h : a.walk.outline.sets ≤ 1 = omega (arith, c.if-k-gt1.false) in
    times_ended a.image.now a.walk a.places.now p t.result _ _ (started_row a.image.now a.walk a.places.now p t.result h e) c.walk.ensures (row_joined a.image.now a.walk a.places.now p _ h)
