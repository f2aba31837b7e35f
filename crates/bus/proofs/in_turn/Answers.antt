use mathlib.Core.Path.{refl, sym}
use Prim.Native.Nat.{◌<◌}
use native.Mathlib.Omega.{arith}
use Rattle.offsets.specs.Sets.{value}
use Rattle.bus.proofs.Listing.{members_none, members_room, members_next, lowest_in, ahead_less, ordered_none, ordered_more}
use Rattle.bus.proofs.in_turn.Goals as goal
use Rattle.bus.proofs.in_turn.Goals.{After-ahead, In-loop-a}

-- there is room for one more
room : (c : In-loop-a) → c.loop-a.count < 16
room c =
    let l = c.loop-a in
    let lt : l.a < c.args.period = omega (arith, c.loop-a-test.true) in
    members_room (value c.args.s) c.args.period l.a l.count lt (l.invariant.0 lt).0 (l.invariant.0 lt).1 c.requires.few

less : (c : After-ahead) → c.ahead.result < c.args.period
less c =
    let l = c.loop-a in
    let lt : l.a < c.args.period = omega (arith, c.loop-a-test.true) in
    ahead_less c.args.period (value c.args.rest) l.a c.ahead.result lt c.ahead.ensures (c.requires.before l.a lt (l.invariant.0 lt).0)

pub loop-a-init : goal.loop-a-init
loop-a-init c =
    let low = c.requires.lowest in (
      (λ l. ((low.found (omega (arith, c.requires.most))).1, sym (members_none (value c.args.s) c.args.first (λ o k. low.passed o (omega arith) k)))),
      (λ e. refl),
      ordered_none c.args.period (value c.args.rest) (value c.args.s) c.args.first _ refl low,
    )

pub bounds-spans-count : goal.bounds-spans-count
bounds-spans-count c = omega (arith, room (goal.at.bounds-spans-count c).In-loop-a, c.loop-a.invariant.2.long)

pub overflow_cast-spans-in-loop-a : goal.overflow_cast-spans-in-loop-a
overflow_cast-spans-in-loop-a c = omega (arith, less c, c.requires.most)

pub loop-a-preserved : goal.loop-a-preserved
loop-a-preserved c =
    let l = c.loop-a in
    let m = value c.args.s in
    let lt : l.a < c.args.period = omega (arith, c.loop-a-test.true) in
    let (here, number) = l.invariant.0 lt in (
      (λ k. (lowest_in m _ c.lowest-a.result c.lowest-a.ensures (omega (arith, c.requires.most)), members_next m l.a c.lowest-a.result l.count here c.lowest-a.ensures number)),
      (λ e. absurd (omega arith)),
      ordered_more c.args.period (value c.args.rest) m c.args.first _ l.count l.a l.invariant.2 (room c.before.before) lt here l.invariant.1 _ _
          c.ahead.ensures c.lowest-a.ensures,
    )
