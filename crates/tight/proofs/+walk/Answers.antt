use mathlib.Core.Path.{◌≡◌, refl, sym, ◌∙◌, ap}
use mathlib.Core.Bool.{true, false, true≢false}
use mathlib.Core.Option.{none}
use mathlib.Core.List.{List}
use lib.ListN.{length, get_or}
use native.Mathlib.Nat.{add-zero, sub-zero}
use Rattle.runs.specs.Figures.{Time, longer, later}
use Rattle.runs.proofs.Joins.{longer_joins}
use Rattle.nodes.specs.Nodes.{child_trees, turn_trees}
use Rattle.image.proofs.Walks.{all_done, any_done}
use borrow.Author.Rules.{rules}
use Rattle.cycles.specs.Cycles.{finds}
use Rattle.tight.specs.Steps.{size_of, table, after_any}
use Rattle.iterations.proofs.Exits.{nothing}
use Rattle.tight.proofs.Tables.{begun_at, turned_at}
use Rattle.tight.proofs.Parts.{as_loop}
use Rattle.tight.proofs.Children.{child_low, child_ready, copied_ready, copied_step, rest_room as child-rest-room, rest_same_room, next_in_order, next_arm}
use Rattle.tight.proofs.Descents.{sized, wide_size, narrow_size, plain_ready, plain_done, block_ready, block_done, once_ready, once_done, sequence_ready, sequence_done, branch_ready, branch_done, repeat_ready, repeat_done, first_ready, turns_ready}
use Rattle.tight.proofs.Loops.{one_ready, half_ready, other_ready, none_unrolls, one_unrolls, both_unroll, body_ready, test_ready, turn_steps, begun_ready, seen_few, seen_ready, seen_fits, seen_long, skip_few, rest_ready, ends_long, repeat_steps}
use native.Mathlib.Omega.{arith}
use Prim.Native.Nat.{◌/◌, ◌≤◌, ◌<◌}
use Rattle.tight.proofs.+walk.Goals as goal

pub arms-size-n-requires : goal.arms-size-n-requires
arms-size-n-requires t c = let a = c.args in sized a.task.now.image.now a.task.now.walk a.task.now.places.now c.requires.0.walkable

pub arms-loop-i-init : goal.arms-loop-i-init
arms-loop-i-init t c =
    let a = c.args in
    let p = c.requires in (
      refl,
      refl,
      rw (add-zero a.c.place, sub-zero a.c.count) p.0.room,
      λ o h. rw (add-zero a.c.place, sub-zero a.c.count)
          (ap (λ (z : Time). longer z (after_any a.task.now.walk (child_trees a.task.now.image.now a.c.place a.c.count) (table a.task.now.walk a.t.now) o))
          (p.1.none_at o h) ∙ longer_joins.left _),
    )

pub arms-walk-requires : goal.arms-walk-requires
arms-walk-requires t c =
    let a = c.args in
    let p = c.requires.0 in
    let l = c.loop-i in
    let w = c.word-child in
    let i< : l.i < a.c.count = omega arith in
    let low = child_low a.task.now.image.now a.task.now.walk a.task.now.places.now p.walkable a.node p.low a.c.place a.c.count p.named l.i i< w.result w.ensures.0 in
    let long : size_of a.task.now.walk ≤ length l.arm = omega (arith, l.invariant.1, c.requires.2) in
    (omega (arith, c.decreases, low), copied_ready a.task.now.image.now a.task.now.walk a.task.now.places.now p.walkable a.node p.low a.c.place a.c.count p.named l.i i< w.result w.ensures.0 a.t.now l.arm _ c.size-n.result c.size-n.ensures long c.copy.ensures.0 c.copy.ensures.1 l.invariant.2)

pub arms-loop-i-preserved : goal.arms-loop-i-preserved
arms-loop-i-preserved t c =
    let a = c.args in
    let p = c.requires.0 in
    let l = c.loop-i in
    let w = c.word-child in
    let i< : l.i < a.c.count = omega arith in
    let step = copied_step a.task.now.image.now a.task.now.walk a.task.now.places.now p.walkable a.node p.low a.c.place a.c.count p.named l.i i< w.result w.ensures.0 _ a.t.now _ _ c.size-n.result c.size-n.ensures c.copy.ensures.1 c.walk.ensures.steps in (
      c.join.ensures.0 ∙ l.invariant.0,
      c.walk.ensures.size ∙ c.copy.ensures.0 ∙ l.invariant.1,
      rest_same_room a.task.now.image.now a.task.now.walk a.task.now.places.now p.walkable a.node p.low a.c.place a.c.count p.named l.i i< w.result w.ensures.0 a.t.now l.invariant.2,
      λ o h. next_arm a.task.now.image.now a.task.now.walk a.task.now.places.now p.walkable a.node p.low a.c.place a.c.count p.named l.i i< w.result w.ensures.0 a.t.now _ l.out _ step (rw c.size-n.ensures at c.join.ensures.1) o h ∙ l.invariant.3 o h,
    )

pub arms-returns : goal.arms-returns
arms-returns t c =
    let a = c.args in
    let l = c.loop-i in (
      c.copy-2.ensures.0,
      (λ o h.
          ap (λ (T : List Time). get_or T o none) (rw c.size-n.ensures at c.copy-2.ensures.1)
          ∙ sym (ap (longer (get_or (table a.task.now.walk l.out) o none)) (any_done _ _ none longer later a.task.now.image.now a.c.place a.c.count l.i (omega arith) (table a.task.now.walk a.t.now) o) ∙ longer_joins.right _)
          ∙ l.invariant.3 o h),
    )

-- ---- branch
pub branch-arms-requires : goal.branch-arms-requires
branch-arms-requires t c =
    let a = c.args in
    let p = c.requires in
    let small : size_of a.task.now.walk ≤ 256 = narrow_size a.task.now.image.now a.task.now.walk a.task.now.places.now p.walkable (omega (arith, c.if-task-gt1.false)) in
    (omega (arith, c.decreases), (p, nothing (size_of a.task.now.walk) 256 small, (nothing (size_of a.task.now.walk) 256 small).size))

-- ---- iteration
pub iteration-walk-requires : goal.iteration-walk-requires
iteration-walk-requires t c =
    let a = c.args in
    (omega (arith, c.decreases), body_ready a.task.now.image.now a.task.now.walk a.task.now.places.now a.body a.test a.cur.now c.requires)

pub iteration-walk-requires-2 : goal.iteration-walk-requires-2
iteration-walk-requires-2 t c =
    let a = c.args in
    (omega (arith, c.decreases), test_ready a.task.now.image.now a.task.now.walk a.task.now.places.now a.body a.test a.cur.now c.requires _ c.walk.ensures)

pub iteration-returns : goal.iteration-returns
iteration-returns t c =
    let a = c.args in
    turn_steps a.task.now.image.now a.task.now.walk a.task.now.places.now a.body a.test a.cur.now c.requires _ _ c.walk.ensures c.walk-2.ensures

-- ---- repeat
pub repeat-walk-requires : goal.repeat-walk-requires
repeat-walk-requires t c =
    let a = c.args in
    (omega (arith, c.decreases, c.requires.below_test), first_ready a.task.now.image.now a.task.now.walk a.task.now.places.now a.node a.l a.t.now c.requires)

pub repeat-wide_turns-requires : goal.repeat-wide_turns-requires
repeat-wide_turns-requires t c =
    let a = c.args in
    (omega (arith, c.decreases), turns_ready a.task.now.image.now a.task.now.walk a.task.now.places.now a.node a.l a.t.now c.requires _ c.walk.ensures)

pub repeat-returns-then-task-gt1 : goal.repeat-returns-then-task-gt1
repeat-returns-then-task-gt1 t c = as_loop _ _ _ _ _ _ _ _ _ refl c.walk.ensures c.wide_turns.ensures

pub repeat-turns-requires : goal.repeat-turns-requires
repeat-turns-requires t c =
    let a = c.args in
    let small : size_of a.task.now.walk ≤ 256 = narrow_size a.task.now.image.now a.task.now.walk a.task.now.places.now c.requires.walkable (omega (arith, c.if-task-gt1.false)) in
    let ready = turns_ready a.task.now.image.now a.task.now.walk a.task.now.places.now a.node a.l a.t.now c.requires _ c.walk.ensures in
    (omega (arith, c.decreases), (ready, nothing (size_of a.task.now.walk) 256 small, (nothing (size_of a.task.now.walk) 256 small).size))

pub repeat-returns : goal.repeat-returns
repeat-returns t c = as_loop _ _ _ _ _ _ _ _ _ refl c.walk.ensures c.turns.ensures

pub sequence-loop-i-init : goal.sequence-loop-i-init
sequence-loop-i-init t c =
    let a = c.args in
    let p = c.requires in
    (refl, rw (add-zero a.c.place, sub-zero a.c.count) p.room, rw (add-zero a.c.place, sub-zero a.c.count))

pub sequence-walk-requires : goal.sequence-walk-requires
sequence-walk-requires t c =
    let a = c.args in
    let p = c.requires in
    let l = c.loop-i in
    let w = c.word-child in
    let i< : l.i < a.c.count = omega arith in
    let low = child_low a.task.now.image.now a.task.now.walk a.task.now.places.now p.walkable a.node p.low a.c.place a.c.count p.named l.i i< w.result w.ensures.0 in
    (omega (arith, c.decreases, low), child_ready a.task.now.image.now a.task.now.walk a.task.now.places.now p.walkable a.node p.low a.c.place a.c.count p.named l.i i< w.result w.ensures.0 l.t (omega (arith, l.invariant.0, p.size)) l.invariant.1)

pub sequence-loop-i-preserved : goal.sequence-loop-i-preserved
sequence-loop-i-preserved t c =
    let a = c.args in
    let p = c.requires in
    let l = c.loop-i in
    let w = c.word-child in
    let i< : l.i < a.c.count = omega arith in
    let e = c.walk.ensures in (
      e.size ∙ l.invariant.0,
      child-rest-room a.task.now.image.now a.task.now.walk a.task.now.places.now p.walkable a.node p.low a.c.place a.c.count p.named l.i i< w.result w.ensures.0 l.t _ l.invariant.1 e.steps,
      next_in_order a.task.now.image.now a.task.now.walk a.task.now.places.now p.walkable a.node p.low a.c.place a.c.count p.named l.i i< w.result w.ensures.0 l.t _ e.steps ∙ l.invariant.2,
    )

pub sequence-returns : goal.sequence-returns
sequence-returns t c =
    let a = c.args in
    let l = c.loop-i in
    (l.invariant.0, sym (all_done _ _ none longer later a.task.now.image.now a.c.place a.c.count l.i (omega arith) (table a.task.now.walk l.t)) ∙ l.invariant.2)

-- ---- turns
pub turns-size-n-requires : goal.turns-size-n-requires
turns-size-n-requires t c =
    let a = c.args in
    let p = c.requires in
    sized a.task.now.image.now a.task.now.walk a.task.now.places.now p.0.walkable

pub turns-unroll-seen-requires : goal.turns-unroll-seen-requires
turns-unroll-seen-requires t c =
    let a = c.args in
    let p = c.requires in
    (omega (arith, c.decreases, p.0.below, p.0.below_test, p.0.few), rw c.begun-watch.ensures (begun_ready a.task.now.image.now a.task.now.walk a.task.now.places.now a.node a.l a.t.now p.0 a.out.now _ a.old.now _ c.kept-keeps.result p.1.size c.before_first.ensures.0 p.2 c.size-n.result c.size-n.ensures c.kept-keeps.ensures))

pub turns-overflow_sub-left : goal.turns-overflow_sub-left
turns-overflow_sub-left t c =
    let a = c.args in
    let p = c.requires in
    omega (arith, seen_few a.task.now.image.now a.task.now.walk a.task.now.places.now a.node a.l a.t.now p.0 a.out.now _ a.old.now _ c.kept-keeps.result p.1.size c.before_first.ensures.0 p.2 c.size-n.result c.size-n.ensures c.kept-keeps.ensures _ _ _ _ (rw c.begun-watch.ensures at c.unroll-seen.ensures))

pub turns-skipped-rest-requires : goal.turns-skipped-rest-requires
turns-skipped-rest-requires t c =
    let a = c.args in
    let p = c.requires in
    let ready = seen_ready a.task.now.image.now a.task.now.walk a.task.now.places.now a.node a.l a.t.now p.0 a.out.now _ a.old.now _ c.kept-keeps.result p.1.size c.before_first.ensures.0 p.2 c.size-n.result c.size-n.ensures c.kept-keeps.ensures _ _ _ _ (rw c.begun-watch.ensures at c.unroll-seen.ensures) in
    (seen_long a.task.now.image.now a.task.now.walk a.task.now.places.now a.node a.l a.t.now p.0 a.out.now _ a.old.now _ c.kept-keeps.result p.1.size c.before_first.ensures.0 p.2 c.size-n.result c.size-n.ensures c.kept-keeps.ensures _ _ _ _ (rw c.begun-watch.ensures at c.unroll-seen.ensures), ready.few, ready.small, seen_fits a.task.now.image.now a.task.now.walk a.task.now.places.now a.node a.l a.t.now p.0 a.out.now _ a.old.now _ c.kept-keeps.result p.1.size c.before_first.ensures.0 p.2 c.size-n.result c.size-n.ensures c.kept-keeps.ensures _ _ _ _ (rw c.begun-watch.ensures at c.unroll-seen.ensures))

pub turns-overflow_sub-l : goal.turns-overflow_sub-l
turns-overflow_sub-l t c =
    let a = c.args in
    let p = c.requires in
    omega (arith, skip_few a.task.now.image.now a.task.now.walk a.task.now.places.now a.node a.l a.t.now p.0 a.out.now _ a.old.now _ c.kept-keeps.result p.1.size c.before_first.ensures.0 p.2 c.size-n.result c.size-n.ensures c.kept-keeps.ensures _ _ _ _ (rw c.begun-watch.ensures at c.unroll-seen.ensures) _ _ c.skipped-rest.ensures)

pub turns-unroll-requires : goal.turns-unroll-requires
turns-unroll-requires t c =
    let a = c.args in
    let p = c.requires in
    (omega (arith, c.decreases, p.0.below, p.0.below_test, p.0.few), rest_ready a.task.now.image.now a.task.now.walk a.task.now.places.now a.node a.l a.t.now p.0 a.out.now _ a.old.now _ c.kept-keeps.result p.1.size c.before_first.ensures.0 p.2 c.size-n.result c.size-n.ensures c.kept-keeps.ensures _ _ _ _ (rw c.begun-watch.ensures at c.unroll-seen.ensures) _ _ c.skipped-rest.ensures)

pub turns-copy-requires : goal.turns-copy-requires
turns-copy-requires t c =
    let a = c.args in
    let p = c.requires in
    ends_long a.task.now.image.now a.task.now.walk a.task.now.places.now a.node a.l a.t.now p.0 a.out.now _ a.old.now _ c.kept-keeps.result p.1.size c.before_first.ensures.0 p.2 c.size-n.result c.size-n.ensures c.kept-keeps.ensures _ _ _ _ (rw c.begun-watch.ensures at c.unroll-seen.ensures) _ _ c.skipped-rest.ensures _ _ _ _ c.unroll.ensures

pub turns-returns : goal.turns-returns
turns-returns t c =
    let a = c.args in
    let p = c.requires in
    repeat_steps a.task.now.image.now a.task.now.walk a.task.now.places.now a.node a.l a.t.now p.0 a.out.now _ a.old.now _ c.kept-keeps.result p.1.size c.before_first.ensures.0 p.2 c.size-n.result c.size-n.ensures c.kept-keeps.ensures _ _ _ _ (rw c.begun-watch.ensures at c.unroll-seen.ensures) _ _ c.skipped-rest.ensures _ _ _ _ _ (begun_at a.task.now.walk _ (sym c.size-n.ensures) _ _ _ c.before_first.ensures.1) c.unroll.ensures c.copy.ensures.0 c.copy.ensures.1

-- ---- unroll
pub unroll-returns-then-left-eq0 : goal.unroll-returns-then-left-eq0
unroll-returns-then-left-eq0 t c =
    let a = c.args in
    let p = c.requires in
    none_unrolls a.task.now.image.now a.task.now.walk a.task.now.places.now a.body a.test a.left a.w a.cur.now a.out.now a.old.now p a.least (λ e. c.if-left-eq0.true)

pub unroll-returns-then-has_cycle : goal.unroll-returns-then-has_cycle
unroll-returns-then-has_cycle t c =
    let a = c.args in
    let p = c.requires in
    let cycle : finds a.w.search ≡ true = search rules in
    none_unrolls a.task.now.image.now a.task.now.walk a.task.now.places.now a.body a.test a.left a.w a.cur.now a.out.now a.old.now p a.least (λ e. absurd (true≢false (sym cycle ∙ e)))

pub unroll-iteration-requires : goal.unroll-iteration-requires
unroll-iteration-requires t c =
    let a = c.args in
    let p = c.requires in
    (omega (arith, c.decreases), one_ready a.task.now.image.now a.task.now.walk a.task.now.places.now a.body a.test a.left a.w a.cur.now a.out.now a.old.now p c.if-left-eq1.true)

pub unroll-size-requires : goal.unroll-size-requires
unroll-size-requires t c =
    let a = c.args in
    let p = c.requires in
    sized a.task.now.image.now a.task.now.walk a.task.now.places.now p.walkable

pub unroll-size-requires-then-left-eq1 : goal.unroll-size-requires-then-left-eq1
unroll-size-requires-then-left-eq1 t c =
    let a = c.args in
    let p = c.requires in
    sized a.task.now.image.now a.task.now.walk a.task.now.places.now p.walkable

pub unroll-returns-then-left-eq1 : goal.unroll-returns-then-left-eq1
unroll-returns-then-left-eq1 t c =
    let a = c.args in
    let p = c.requires in
    let none_yet : finds a.w.search ≡ false = search rules in
    one_unrolls a.task.now.image.now a.task.now.walk a.task.now.places.now a.body a.test a.left a.w a.cur.now a.out.now a.old.now p a.least c.if-left-eq1.true none_yet _ _ _ _ c.iteration.ensures c.joined.ensures.0
    (turned_at a.task.now.walk _ (sym c.size.ensures) _ _ _ _ _ c.joined.ensures.1) _ c.size-then-left-eq1.ensures c.watched.ensures

pub unroll-unroll-a-requires : goal.unroll-unroll-a-requires
unroll-unroll-a-requires t c =
    let a = c.args in
    let p = c.requires in
    (omega (arith, c.decreases), half_ready a.task.now.image.now a.task.now.walk a.task.now.places.now a.body a.test a.left a.w a.cur.now a.out.now a.old.now p (a.left / 2) (omega arith))

pub unroll-unroll-requires : goal.unroll-unroll-requires
unroll-unroll-requires t c =
    let a = c.args in
    let p = c.requires in
    (omega (arith, c.decreases, c.if-left-eq0.false, c.if-left-eq1.false), other_ready a.task.now.image.now a.task.now.walk a.task.now.places.now a.body a.test a.left a.w a.cur.now a.out.now a.old.now p a.least (a.left / 2) (omega arith) _ _ _ _ c.unroll-a.ensures)

pub unroll-returns : goal.unroll-returns
unroll-returns t c =
    let a = c.args in
    let p = c.requires in
    both_unroll a.task.now.walk (turn_trees a.task.now.image.now a.body a.test) a.least a.left (a.left / 2) (omega arith) a.w _ _ a.cur.now a.out.now a.old.now _ _ _ _ _ _
    c.unroll-a.ensures c.unroll.ensures

pub walk-plain_block-requires : goal.walk-plain_block-requires
walk-plain_block-requires t c =
    let a = c.args in
    let p = c.requires in
    let e = sym c.node_at-n.ensures ∙ c.in-Plain.is in
    plain_ready a.task.now.image.now a.task.now.walk a.task.now.places.now a.node a.t.now p c.in-Plain.p e

pub walk-bus_block-requires : goal.walk-bus_block-requires
walk-bus_block-requires t c =
    let a = c.args in
    let p = c.requires in
    let e = sym c.node_at-n.ensures ∙ c.in-Bus.is in
    block_ready a.task.now.image.now a.task.now.walk a.task.now.places.now a.node a.t.now p c.in-Bus.x e

pub walk-once_block-requires : goal.walk-once_block-requires
walk-once_block-requires t c =
    let a = c.args in
    let p = c.requires in
    let e = sym c.node_at-n.ensures ∙ c.in-Once.is in
    once_ready a.task.now.image.now a.task.now.walk a.task.now.places.now a.node a.t.now p c.in-Once.x e

pub walk-sequence-requires : goal.walk-sequence-requires
walk-sequence-requires t c =
    let a = c.args in
    let p = c.requires in
    let e = sym c.node_at-n.ensures ∙ c.in-Sequence.is in
    (omega (arith, c.decreases), sequence_ready a.task.now.image.now a.task.now.walk a.task.now.places.now a.node a.t.now p c.in-Sequence.c e)

pub walk-branch-task-requires : goal.walk-branch-task-requires
walk-branch-task-requires t c =
    let a = c.args in
    let p = c.requires in
    let e = sym c.node_at-n.ensures ∙ c.in-Branch.is in
    (omega (arith, c.decreases), branch_ready a.task.now.image.now a.task.now.walk a.task.now.places.now a.node a.t.now p c.in-Branch.c e)

pub walk-repeat-requires : goal.walk-repeat-requires
walk-repeat-requires t c =
    let a = c.args in
    let p = c.requires in
    let e = sym c.node_at-n.ensures ∙ c.in-Loop.is in
    (omega (arith, c.decreases), repeat_ready a.task.now.image.now a.task.now.walk a.task.now.places.now a.node a.t.now p c.in-Loop.l e)

pub walk-returns-in-Plain : goal.walk-returns-in-Plain
walk-returns-in-Plain t c =
    let a = c.args in
    let p = c.requires in
    let e = sym c.node_at-n.ensures ∙ c.in-Plain.is in
    plain_done a.task.now.image.now a.task.now.walk a.task.now.places.now a.node a.t.now p c.in-Plain.p e _ c.plain_block.ensures

pub walk-returns-in-Bus : goal.walk-returns-in-Bus
walk-returns-in-Bus t c =
    let a = c.args in
    let p = c.requires in
    let e = sym c.node_at-n.ensures ∙ c.in-Bus.is in
    block_done a.task.now.image.now a.task.now.walk a.task.now.places.now a.node a.t.now p c.in-Bus.x e _ c.bus_block.ensures

pub walk-returns-in-Once : goal.walk-returns-in-Once
walk-returns-in-Once t c =
    let a = c.args in
    let p = c.requires in
    let e = sym c.node_at-n.ensures ∙ c.in-Once.is in
    once_done a.task.now.image.now a.task.now.walk a.task.now.places.now a.node a.t.now p c.in-Once.x e _ c.once_block.ensures

pub walk-returns-in-Sequence : goal.walk-returns-in-Sequence
walk-returns-in-Sequence t c =
    let a = c.args in
    let p = c.requires in
    let e = sym c.node_at-n.ensures ∙ c.in-Sequence.is in
    sequence_done a.task.now.image.now a.task.now.walk a.task.now.places.now a.node a.t.now p c.in-Sequence.c e _ c.sequence.ensures.0 c.sequence.ensures.1

pub walk-returns-in-Branch : goal.walk-returns-in-Branch
walk-returns-in-Branch t c =
    let a = c.args in
    let p = c.requires in
    let e = sym c.node_at-n.ensures ∙ c.in-Branch.is in
    branch_done a.task.now.image.now a.task.now.walk a.task.now.places.now a.node a.t.now p c.in-Branch.c e _ c.branch-task.ensures.0 c.branch-task.ensures.1

pub walk-returns-in-Loop : goal.walk-returns-in-Loop
walk-returns-in-Loop t c =
    let a = c.args in
    let p = c.requires in
    let e = sym c.node_at-n.ensures ∙ c.in-Loop.is in
    repeat_done a.task.now.image.now a.task.now.walk a.task.now.places.now a.node a.t.now p c.in-Loop.l e _ c.repeat.ensures

pub wide_branch-arms-requires : goal.wide_branch-arms-requires
wide_branch-arms-requires t c =
    let a = c.args in
    let p = c.requires in
    let small : size_of a.task.now.walk ≤ 1024 = wide_size a.task.now.image.now a.task.now.walk a.task.now.places.now p.walkable in
    (omega (arith, c.decreases), (p, nothing (size_of a.task.now.walk) 1024 small, (nothing (size_of a.task.now.walk) 1024 small).size))

pub wide_turns-turns-requires : goal.wide_turns-turns-requires
wide_turns-turns-requires t c =
    let a = c.args in
    let p = c.requires in
    let small : size_of a.task.now.walk ≤ 1024 = wide_size a.task.now.image.now a.task.now.walk a.task.now.places.now p.walkable in
    (omega (arith, c.decreases), (p, nothing (size_of a.task.now.walk) 1024 small, (nothing (size_of a.task.now.walk) 1024 small).size))
