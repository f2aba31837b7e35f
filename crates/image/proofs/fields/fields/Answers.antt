use Rattle.rows.proofs.Standing.{next_at, few}
use Rattle.rows.proofs.Kept.{good_body, first_fine}
use Rattle.image.proofs.Scans.{here_first, here_good, here_closed, here_room, here_node, here_front, here_stopped, here_whole, here_five}
use mathlib.Core.Path.{sym}
use mathlib.Core.Logic.{⊎_elim}
use borrow.Author.Tests.{ne_eqb, eq-eqb}
use Prim.Native.Nat.{◌<◌}
use native.Mathlib.Omega.{arith}
use lib.ListN.{length}
use Rattle.image.proofs.fields.fields.Goals as goal
use Rattle.image.proofs.fields.fields.Goals.{then-not-closed+then-index-ge2, else-not-closed}

pub loop-at-init : goal.loop-at-init
loop-at-init c = here_first _ _ (omega arith)

pub field-requires : goal.field-requires
field-requires c = (omega arith, λ l. first_fine _ (c.loop-at.invariant.passed 0 l))

pub returns-in-Err : goal.returns-in-Err
returns-in-Err c = here_stopped _ _ _ _ _ c.loop-at.invariant _ (omega arith) (sym c.in-Err.ensures)

pub offset_bounds-places-index : goal.offset_bounds-places-index
offset_bounds-places-index c =
    let room = here_room _ _ _ _ _ c.loop-at.invariant _ (omega arith) (sym c.in-Ok.ensures) _ c.byte-closed.ensures.0 (ne_eqb _ 8 c.if-not-closed.true) in
    omega arith

pub bounds-places-index : goal.bounds-places-index
bounds-places-index c =
    let room = here_room _ _ _ _ _ c.loop-at.invariant _ (omega arith) (sym c.in-Ok.ensures) _ c.byte-closed.ensures.0 (ne_eqb _ 8 c.if-not-closed.true) in
    omega arith

pub overflow_add-index : goal.overflow_add-index
overflow_add-index c = let l = c.loop-at in omega (arith, few _ _ l.invariant.passed)

pub loop-at-smaller : goal.loop-at-smaller
loop-at-smaller c =
    let s = c.args.image.now in
    let l = c.loop-at in
    let g = here_good _ _ _ _ _ l.invariant _ (omega arith) (sym c.in-Ok.ensures) in
    omega (arith, good_body _ _ g.0, g.1, next_at s l.index, l.invariant.place)

pub loop-at-preserved : goal.loop-at-preserved
loop-at-preserved c =
    let s = c.args.image.now in
    let l = c.loop-at in
    let next = c.in-Ok.next in
    let e = sym c.in-Ok.ensures in
    let inside : l.at < length s = omega arith in
    let read = c.byte-closed.ensures.0 in
    elim c.if-not-closed.branch [
      | then-not-closed+then-index-ge2 w ↦ rw w.places-is (here_node s l.places l.index l.at l.closed l.invariant next inside e _ read (ne_eqb _ 8 w.if-not-closed.true) w.if-index-ge2.true)
      | else-not-closed w ↦ ⊎_elim
          (λ h. rw w.places-is (here_front s l.places l.index l.at l.closed l.invariant next inside e _ read (ne_eqb _ 8 h.0) h.1))
          (λ h. rw w.places-is (here_closed s l.places l.index l.at l.closed l.invariant next inside e _ read (eq-eqb _ 8 h)))
          w.else-not-closed.either
    ]

pub ended-requires : goal.ended-requires
ended-requires c = here_five _ _ _ _ _ c.loop-at.invariant (omega arith)

pub returns : goal.returns
returns c = here_whole _ _ _ _ _ c.loop-at.invariant (omega arith) _ c.ended.ensures
