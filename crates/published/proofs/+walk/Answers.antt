use mathlib.Core.Path.{◌≡◌, refl, sym, ◌∙◌, ap}
use mathlib.Core.Bool.{Bool, true, false, true≢false, ◌||◌}
use lib.ListN.{get_or}
use native.Mathlib.Nat.{add-zero, zero-add, sub-zero}
use Rattle.runs.proofs.Joins.{or_joins}
use Rattle.bus.specs.Owning.{bus_meant}
use Rattle.nodes.specs.Nodes.{child_trees, turn_trees}
use Rattle.image.proofs.Walks.{all_done, any_done}
use Rattle.cycles.specs.Cycles.{finds}
use Rattle.published.specs.Steps.{bits, after_any}
use Rattle.published.proofs.Joins.{empty_at, empty_within, join_within}
use Rattle.published.proofs.Parts.{cost_all_done, cost_any_done, as_loop}
use Rattle.published.proofs.Children.{child_low, visits_split, child_ready, child_small, next_in_order, next_cost, next_arm, next_arm_cost}
use Rattle.published.proofs.Descents.{in_image, plain_ready, plain_done, block_ready, block_done, once_ready, once_done, sequence_ready, sequence_done, branch_ready, branch_done, repeat_ready, repeat_done, first_ready, turns_ready, turns_small}
use Rattle.published.proofs.Loops.{one_ready, half_ready, other_ready, none_unrolls, one_cheap, one_asks, one_unrolls, both_unroll, body_ready, test_ready, turn_small, turn_published, begun_ready, seen_few, seen_ready, seen_cheap, skip_few, rest_ready, repeat_published}
use native.Mathlib.Omega.{arith}
use borrow.Author.Rules.{rules}
use Prim.Native.Nat.{◌/◌, ◌<◌}
use Rattle.published.proofs.+walk.Goals as goal

pub branch-loop-i-init : goal.branch-loop-i-init
branch-loop-i-init t c =
    let a = c.args in (
      rw (add-zero a.c.place, sub-zero a.c.count) c.requires.few,
      empty_within a.task.now.walk.bus c.empty-out.result c.empty-out.ensures,
      λ o h. rw (add-zero a.c.place, sub-zero a.c.count)
          (ap (λ (z : Bool). z || after_any a.task.now.walk.bus (child_trees a.task.now.image.now a.c.place a.c.count) (bits a.task.now.walk.bus a.s) o)
          (empty_at a.task.now.walk.bus c.empty-out.result c.empty-out.ensures o h)),
      rw (add-zero a.c.place, sub-zero a.c.count) (omega arith),
    )

pub branch-walk-arm-requires : goal.branch-walk-arm-requires
branch-walk-arm-requires t c =
    let a = c.args in
    let l = c.loop-i in
    let i< : l.i < a.c.count = omega arith in
    let low = child_low a.task.now.image.now a.task.now.walk a.task.now.places.now c.requires.walkable a.node c.requires.low a.c.place a.c.count c.requires.named l.i i< c.word-child.result c.word-child.ensures.0 in (
      omega (arith, c.decreases, low),
      child_ready a.task.now.image.now a.task.now.walk a.task.now.places.now c.requires.walkable a.node c.requires.low a.c.place a.c.count c.requires.named l.i i< c.word-child.result c.word-child.ensures.0 a.s l.invariant.0 c.requires.within,
    )

pub branch-loop-i-preserved : goal.branch-loop-i-preserved
branch-loop-i-preserved t c =
    let a = c.args in
    let l = c.loop-i in
    let i< : l.i < a.c.count = omega arith in
    let w = c.word-child in
    let r = c.walk-arm.result in
    let e = c.walk-arm.ensures in (
      omega (arith, l.invariant.0, visits_split a.task.now.image.now a.task.now.walk a.task.now.places.now c.requires.walkable a.node c.requires.low a.c.place a.c.count c.requires.named l.i i< w.result w.ensures.0),
      join_within a.task.now.walk.bus l.out r.exits c.join-out.result c.join-out.ensures l.invariant.1 e.exited.within,
      (λ o h. next_arm a.task.now.image.now a.task.now.walk a.task.now.places.now c.requires.walkable a.node c.requires.low a.c.place a.c.count c.requires.named l.i i< w.result w.ensures.0 a.s r e l.out c.join-out.result c.join-out.ensures o h ∙ l.invariant.2 o h),
      omega (arith, c.max-cost.ensures, next_arm_cost a.task.now.image.now a.task.now.walk a.task.now.places.now c.requires.walkable a.node c.requires.low a.c.place a.c.count c.requires.named l.i i< w.result w.ensures.0 a.s r e, l.invariant.3),
    )

pub branch-returns : goal.branch-returns
branch-returns t c =
    let a = c.args in
    let l = c.loop-i in
    record {
      exited = λ o h.
          sym (ap (λ (z : Bool). get_or (bits a.task.now.walk.bus l.out) o false || z)
          (any_done _ _ false ◌||◌ (λ d v. v) a.task.now.image.now a.c.place a.c.count l.i (omega arith) (bits a.task.now.walk.bus a.s) o) ∙ or_joins.right _)
          ∙ l.invariant.2 o h;
      within = l.invariant.1;
      costs = omega (arith, cost_any_done (bus_meant a.task.now.walk.bus) a.task.now.image.now a.c.place a.c.count l.i (omega arith) (bits a.task.now.walk.bus a.s), l.invariant.3);
    }

-- ---- iteration
pub iteration-walk-first-requires : goal.iteration-walk-first-requires
iteration-walk-first-requires t c =
    let a = c.args in
    (omega (arith, c.decreases), body_ready a.task.now.image.now a.task.now.walk a.task.now.places.now a.body a.test a.s c.requires)

pub iteration-walk-then-requires : goal.iteration-walk-then-requires
iteration-walk-then-requires t c =
    let a = c.args in
    (omega (arith, c.decreases), test_ready a.task.now.image.now a.task.now.walk a.task.now.places.now a.body a.test a.s c.requires c.walk-first.result c.walk-first.ensures)

pub iteration-overflow_add-result : goal.iteration-overflow_add-result
iteration-overflow_add-result t c =
    let a = c.args in
    omega (arith, turn_small a.task.now.image.now a.task.now.walk a.task.now.places.now a.body a.test a.s c.requires c.walk-first.result c.walk-first.ensures c.walk-then.result c.walk-then.ensures)

pub iteration-returns : goal.iteration-returns
iteration-returns t c =
    let a = c.args in
    turn_published a.task.now.image.now a.task.now.walk a.task.now.places.now a.body a.test a.s c.requires c.walk-first.result c.walk-first.ensures c.walk-then.result c.walk-then.ensures

pub iterations-unroll-seen-requires : goal.iterations-unroll-seen-requires
iterations-unroll-seen-requires t c =
    let a = c.args in
    (omega (arith, c.decreases, c.requires.below, c.requires.below_test, c.requires.many), rw c.begun.ensures (begun_ready a.task.now.image.now a.task.now.walk a.task.now.places.now a.node a.l a.s c.requires c.before_first.result (c.before_first.ensures a.task.now.walk.bus)))

pub iterations-overflow_sub-l : goal.iterations-overflow_sub-l
iterations-overflow_sub-l t c =
    let a = c.args in
    omega (arith, seen_few a.task.now.image.now a.task.now.walk a.task.now.places.now a.node a.l a.s c.requires c.before_first.result (c.before_first.ensures a.task.now.walk.bus) _ (rw c.begun.ensures at c.unroll-seen.ensures))

pub iterations-skipped-rest-requires : goal.iterations-skipped-rest-requires
iterations-skipped-rest-requires t c =
    let a = c.args in
    let u = (rw c.begun.ensures at c.unroll-seen.ensures) in
    let ready = seen_ready a.task.now.image.now a.task.now.walk a.task.now.places.now a.node a.l a.s c.requires c.before_first.result (c.before_first.ensures a.task.now.walk.bus) _ u in
    (ready.many, ready.small, seen_cheap a.task.now.image.now a.task.now.walk a.task.now.places.now a.node a.l a.s c.requires c.before_first.result (c.before_first.ensures a.task.now.walk.bus) _ u)

pub iterations-overflow_sub-l-2 : goal.iterations-overflow_sub-l-2
iterations-overflow_sub-l-2 t c =
    let a = c.args in
    omega (arith, skip_few a.task.now.image.now a.task.now.walk a.task.now.places.now a.node a.l a.s c.requires c.before_first.result (c.before_first.ensures a.task.now.walk.bus) _ (rw c.begun.ensures at c.unroll-seen.ensures) _ c.skipped-rest.ensures)

pub iterations-unroll-all-requires : goal.iterations-unroll-all-requires
iterations-unroll-all-requires t c =
    let a = c.args in
    (omega (arith, c.decreases, c.requires.below, c.requires.below_test, c.requires.many), rest_ready a.task.now.image.now a.task.now.walk a.task.now.places.now a.node a.l a.s c.requires c.before_first.result (c.before_first.ensures a.task.now.walk.bus) _ (rw c.begun.ensures at c.unroll-seen.ensures) _ c.skipped-rest.ensures)

pub iterations-returns : goal.iterations-returns
iterations-returns t c =
    let a = c.args in
    repeat_published a.task.now.image.now a.task.now.walk a.task.now.places.now a.node a.l a.s c.requires c.before_first.result (c.before_first.ensures a.task.now.walk.bus) _ (rw c.begun.ensures at c.unroll-seen.ensures) _ c.skipped-rest.ensures c.unroll-all.result c.unroll-all.ensures

-- ---- repeat
pub repeat-walk-first-requires : goal.repeat-walk-first-requires
repeat-walk-first-requires t c =
    let a = c.args in
    (omega (arith, c.decreases, c.requires.below_test), first_ready a.task.now.image.now a.task.now.walk a.task.now.places.now a.node a.l a.s c.requires)

pub repeat-iterations-rest-requires : goal.repeat-iterations-rest-requires
repeat-iterations-rest-requires t c =
    let a = c.args in
    (omega (arith, c.decreases), turns_ready a.task.now.image.now a.task.now.walk a.task.now.places.now a.node a.l a.s c.requires c.walk-first.result c.walk-first.ensures)

pub repeat-overflow_add-result : goal.repeat-overflow_add-result
repeat-overflow_add-result t c =
    let a = c.args in
    omega (arith, turns_small a.task.now.image.now a.task.now.walk a.task.now.places.now a.node a.l a.s c.requires c.walk-first.result c.walk-first.ensures c.iterations-rest.result c.iterations-rest.ensures)

pub repeat-returns : goal.repeat-returns
repeat-returns t c =
    let a = c.args in
    as_loop a.task.now.walk.bus _ a.s _ _ _ _ c.walk-first.result c.iterations-rest.result refl c.walk-first.ensures c.iterations-rest.ensures

pub sequence-loop-i-init : goal.sequence-loop-i-init
sequence-loop-i-init t c =
    let a = c.args in (
      rw (add-zero a.c.place, sub-zero a.c.count) (omega (arith, c.requires.few)),
      c.requires.within,
      rw (add-zero a.c.place, sub-zero a.c.count),
      rw (add-zero a.c.place, sub-zero a.c.count) (zero-add _),
    )

pub sequence-walk-next-requires : goal.sequence-walk-next-requires
sequence-walk-next-requires t c =
    let a = c.args in
    let l = c.loop-i in
    let i< : l.i < a.c.count = omega arith in
    let low = child_low a.task.now.image.now a.task.now.walk a.task.now.places.now c.requires.walkable a.node c.requires.low a.c.place a.c.count c.requires.named l.i i< c.word-child.result c.word-child.ensures.0 in (
      omega (arith, c.decreases, low),
      child_ready a.task.now.image.now a.task.now.walk a.task.now.places.now c.requires.walkable a.node c.requires.low a.c.place a.c.count c.requires.named l.i i< c.word-child.result c.word-child.ensures.0 l.cur (omega (arith, l.invariant.0)) l.invariant.1,
    )

pub sequence-overflow_add-cost : goal.sequence-overflow_add-cost
sequence-overflow_add-cost t c =
    let a = c.args in
    let l = c.loop-i in
    let i< : l.i < a.c.count = omega arith in
    let w = c.word-child in
    omega (arith, l.invariant.0, visits_split a.task.now.image.now a.task.now.walk a.task.now.places.now c.requires.walkable a.node c.requires.low a.c.place a.c.count c.requires.named l.i i< w.result w.ensures.0, child_small a.task.now.image.now a.task.now.walk a.task.now.places.now c.requires.walkable a.node c.requires.low a.c.place a.c.count c.requires.named l.i i< w.result w.ensures.0 l.cur c.walk-next.result c.walk-next.ensures)

pub sequence-loop-i-preserved : goal.sequence-loop-i-preserved
sequence-loop-i-preserved t c =
    let a = c.args in
    let l = c.loop-i in
    let i< : l.i < a.c.count = omega arith in
    let w = c.word-child in
    let r = c.walk-next.result in
    let e = c.walk-next.ensures in (
      omega (arith, l.invariant.0, visits_split a.task.now.image.now a.task.now.walk a.task.now.places.now c.requires.walkable a.node c.requires.low a.c.place a.c.count c.requires.named l.i i< w.result w.ensures.0, child_small a.task.now.image.now a.task.now.walk a.task.now.places.now c.requires.walkable a.node c.requires.low a.c.place a.c.count c.requires.named l.i i< w.result w.ensures.0 l.cur r e),
      e.exited.within,
      next_in_order a.task.now.image.now a.task.now.walk a.task.now.places.now c.requires.walkable a.node c.requires.low a.c.place a.c.count c.requires.named l.i i< w.result w.ensures.0 l.cur r e ∙ l.invariant.2,
      omega (arith, next_cost a.task.now.image.now a.task.now.walk a.task.now.places.now c.requires.walkable a.node c.requires.low a.c.place a.c.count c.requires.named l.i i< w.result w.ensures.0 l.cur r e, l.invariant.3),
    )

pub sequence-returns : goal.sequence-returns
sequence-returns t c =
    let a = c.args in
    let l = c.loop-i in
    record {
      exited = sym (all_done _ _ false ◌||◌ (λ d v. v) a.task.now.image.now a.c.place a.c.count l.i (omega arith) (bits a.task.now.walk.bus l.cur)) ∙ l.invariant.2;
      within = l.invariant.1;
      costs = omega (arith, cost_all_done (bus_meant a.task.now.walk.bus) a.task.now.image.now a.c.place a.c.count l.i (omega arith) (bits a.task.now.walk.bus l.cur), l.invariant.3);
    }

-- ---- unroll
pub unroll-returns-then-left-eq0 : goal.unroll-returns-then-left-eq0
unroll-returns-then-left-eq0 t c = let a = c.args in none_unrolls a.task.now.image.now a.task.now.walk a.task.now.places.now a.body a.test a.left a.t c.requires a.least (λ e. c.if-left-eq0.true)

pub unroll-returns-then-has_cycle : goal.unroll-returns-then-has_cycle
unroll-returns-then-has_cycle t c =
    let a = c.args in
    let cycle : finds a.t.watch.search ≡ true = search rules in
    none_unrolls a.task.now.image.now a.task.now.walk a.task.now.places.now a.body a.test a.left a.t c.requires a.least (λ e. absurd (true≢false (sym cycle ∙ e)))

pub unroll-iteration-next-requires : goal.unroll-iteration-next-requires
unroll-iteration-next-requires t c = let a = c.args in (omega (arith, c.decreases), one_ready a.task.now.image.now a.task.now.walk a.task.now.places.now a.body a.test a.left a.t c.requires c.if-left-eq1.true)

pub unroll-joined-requires : goal.unroll-joined-requires
unroll-joined-requires t c =
    let a = c.args in
    let cheap = one_cheap a.task.now.image.now a.task.now.walk a.task.now.places.now a.body a.test a.left a.t c.requires c.if-left-eq1.true c.iteration-next.result c.iteration-next.ensures in
    (omega (arith, c.requires.many), cheap)

pub unroll-watched-requires : goal.unroll-watched-requires
unroll-watched-requires t c =
    let a = c.args in
    let asks = one_asks a.task.now.image.now a.task.now.walk a.task.now.places.now a.body a.test a.left a.t c.requires a.least c.if-left-eq1.true c.iteration-next.result c.joined.result c.iteration-next.ensures (c.joined.ensures a.task.now.walk.bus) in
    (asks.0, c.requires.small, asks.1, asks.2)

pub unroll-returns-then-left-eq1 : goal.unroll-returns-then-left-eq1
unroll-returns-then-left-eq1 t c =
    let a = c.args in
    let none_yet : finds a.t.watch.search ≡ false = search rules in
    one_unrolls a.task.now.image.now a.task.now.walk a.task.now.places.now a.body a.test a.left a.t c.requires a.least c.if-left-eq1.true c.iteration-next.result c.joined.result c.iteration-next.ensures (c.joined.ensures a.task.now.walk.bus)
    none_yet c.watched.result c.watched.ensures

pub unroll-unroll-a-requires : goal.unroll-unroll-a-requires
unroll-unroll-a-requires t c = let a = c.args in (omega (arith, c.decreases, c.if-left-eq0.false, c.if-left-eq1.false), half_ready a.task.now.image.now a.task.now.walk a.task.now.places.now a.body a.test a.left a.t c.requires (a.left / 2) (omega arith))

pub unroll-unroll-requires : goal.unroll-unroll-requires
unroll-unroll-requires t c =
    let a = c.args in
    (omega (arith, c.decreases, c.if-left-eq0.false, c.if-left-eq1.false), other_ready a.task.now.image.now a.task.now.walk a.task.now.places.now a.body a.test a.left a.t c.requires a.least (a.left / 2) (omega arith) c.unroll-a.result c.unroll-a.ensures)

pub unroll-returns : goal.unroll-returns
unroll-returns t c =
    let a = c.args in
    both_unroll a.task.now.walk.bus (turn_trees a.task.now.image.now a.body a.test) a.least a.left (a.left / 2) (omega arith) a.t c.unroll-a.result c.unroll.result
    c.unroll-a.ensures c.unroll.ensures

pub walk-node_at-n-requires : goal.walk-node_at-n-requires
walk-node_at-n-requires t c = let a = c.args in in_image a.task.now.image.now a.task.now.walk a.task.now.places.now a.node a.s c.requires

pub walk-plain_outcome-requires : goal.walk-plain_outcome-requires
walk-plain_outcome-requires t c =
    let a = c.args in
    let e = sym c.node_at-n.ensures ∙ c.in-Plain.is in
    let x = c.in-Plain.p in
    plain_ready a.task.now.image.now a.task.now.walk a.task.now.places.now a.node a.s c.requires x e

pub walk-block_outcome-requires : goal.walk-block_outcome-requires
walk-block_outcome-requires t c =
    let a = c.args in
    let e = sym c.node_at-n.ensures ∙ c.in-Bus.is in
    let x = c.in-Bus.x in
    block_ready a.task.now.image.now a.task.now.walk a.task.now.places.now a.node a.s c.requires x e

pub walk-once_outcome-requires : goal.walk-once_outcome-requires
walk-once_outcome-requires t c =
    let a = c.args in
    let e = sym c.node_at-n.ensures ∙ c.in-Once.is in
    let x = c.in-Once.x in
    once_ready a.task.now.image.now a.task.now.walk a.task.now.places.now a.node a.s c.requires x e

pub walk-repeat-requires : goal.walk-repeat-requires
walk-repeat-requires t c =
    let a = c.args in
    let e = sym c.node_at-n.ensures ∙ c.in-Loop.is in
    let x = c.in-Loop.l in
    (omega (arith, c.decreases), repeat_ready a.task.now.image.now a.task.now.walk a.task.now.places.now a.node a.s c.requires x e)

pub walk-returns-in-Plain : goal.walk-returns-in-Plain
walk-returns-in-Plain t c =
    let a = c.args in
    let e = sym c.node_at-n.ensures ∙ c.in-Plain.is in
    let x = c.in-Plain.p in
    plain_done a.task.now.image.now a.task.now.walk a.task.now.places.now a.node a.s c.requires x e c.plain_outcome.result c.plain_outcome.ensures

pub walk-returns-in-Bus : goal.walk-returns-in-Bus
walk-returns-in-Bus t c =
    let a = c.args in
    let e = sym c.node_at-n.ensures ∙ c.in-Bus.is in
    let x = c.in-Bus.x in
    block_done a.task.now.image.now a.task.now.walk a.task.now.places.now a.node a.s c.requires x e c.block_outcome.result c.block_outcome.ensures

pub walk-returns-in-Once : goal.walk-returns-in-Once
walk-returns-in-Once t c =
    let a = c.args in
    let e = sym c.node_at-n.ensures ∙ c.in-Once.is in
    let x = c.in-Once.x in
    once_done a.task.now.image.now a.task.now.walk a.task.now.places.now a.node a.s c.requires x e c.once_outcome.result c.once_outcome.ensures

pub walk-returns-in-Sequence : goal.walk-returns-in-Sequence
walk-returns-in-Sequence t c =
    let a = c.args in
    let e = sym c.node_at-n.ensures ∙ c.in-Sequence.is in
    let x = c.in-Sequence.c in
    sequence_done a.task.now.image.now a.task.now.walk a.task.now.places.now a.node a.s c.requires x e _ (search rules)

pub walk-returns-in-Branch : goal.walk-returns-in-Branch
walk-returns-in-Branch t c =
    let a = c.args in
    let e = sym c.node_at-n.ensures ∙ c.in-Branch.is in
    let x = c.in-Branch.c in
    branch_done a.task.now.image.now a.task.now.walk a.task.now.places.now a.node a.s c.requires x e _ (search rules)

pub walk-returns-in-Loop : goal.walk-returns-in-Loop
walk-returns-in-Loop t c =
    let a = c.args in
    let e = sym c.node_at-n.ensures ∙ c.in-Loop.is in
    let x = c.in-Loop.l in
    repeat_done a.task.now.image.now a.task.now.walk a.task.now.places.now a.node a.s c.requires x e c.repeat.result c.repeat.ensures

pub walk-sequence-requires : goal.walk-sequence-requires
walk-sequence-requires t c =
    let a = c.args in
    let e = sym c.node_at-n.ensures ∙ c.in-Sequence.is in
    let x = c.in-Sequence.c in
    (omega (arith, c.decreases), sequence_ready a.task.now.image.now a.task.now.walk a.task.now.places.now a.node a.s c.requires x e)

pub walk-branch-task-requires : goal.walk-branch-task-requires
walk-branch-task-requires t c =
    let a = c.args in
    let e = sym c.node_at-n.ensures ∙ c.in-Branch.is in
    let x = c.in-Branch.c in
    (omega (arith, c.decreases), branch_ready a.task.now.image.now a.task.now.walk a.task.now.places.now a.node a.s c.requires x e)
