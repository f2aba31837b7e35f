use Prim.Native.Nat.{◌+◌, ◌≤◌}
use Rattle.runs.proofs.Forward.{some_len}
use Rattle.bus.specs.Owning.{owns}
use Rattle.offsets.specs.Sets.{value}
use Rattle.exits.proofs.Ready.{hi_small}
use Rattle.exits.proofs.Lasts.{LastAt, last_at, all_start}
use Rattle.exits.proofs.Served.{Met, none_served, met_first, met_next, here_served}
use native.Mathlib.Omega.{arith}
use Rattle.exits.proofs.starting.Goals as goal
use Rattle.exits.proofs.starting.Goals.{After-next_stretch-n, Start}

-- the next stretch is met, some cycles further on
next : (c : After-next_stretch-n) → (
    let l = c.loop-gone in
    let n = c.next_stretch-n.result in
    Met c.args.b n.stretch.at n.stretch.len (l.gone + (l.x.len + n.gap)) × (1 ≤ l.x.len))
next c =
    let b = c.args.b in
    let l = c.loop-gone in
    let n = c.next_stretch-n in (
      met_next b c.requires.0.fit c.requires.1 l.x.at l.x.len n.result.gap n.result.stretch.at l.gone c.loop-gone-test.true l.invariant.0 n.ensures.0 n.result.stretch.len n.ensures.1,
      some_len b.period (owns b) l.x.at l.x.len n.result.gap n.result.stretch.at n.ensures.0,
    )

pub loop-gone-init : goal.loop-gone-init
loop-gone-init c =
    let a = c.args in
    let (i, at, len, nth) = c.first_stretch-x.ensures in
    rw (i, at, len) (
      met_first a.b c.requires.0.fit c.requires.1,
      (λ n e. none_served a.b (LastAt a.b n a.lo a.hi) 0 0 (value c.empty-out.result) (omega arith) c.empty-out.ensures),
      c.requires.0.fit.nth c.requires.1,
    )

pub at_once-requires : goal.at_once-requires
at_once-requires c =
    let a = c.args in
    let r = c.requires.0 in
    (omega (arith, (next c).0.within, r.fit.most), r.least, r.ordered, hi_small a.b a.lo a.hi a.s r)

pub loop-gone-preserved : goal.loop-gone-preserved
loop-gone-preserved c =
    let a = c.args in
    let b = a.b in
    let l = c.loop-gone in
    let less = c.loop-gone-test.true in
    let n = c.next_stretch-n in
    let now = c.at_once in
    let seen = c.turn-seen in
    let (met, h) = next (goal.at.loop-gone-preserved c).After-next_stretch-n in (
      met,
      (λ m e.
          here_served b c.requires.0.fit c.requires.1 l.x.at l.x.len n.result.gap n.result.stretch.at l.gone less l.invariant.0 n.ensures.0
          (LastAt b m a.lo a.hi) (value l.out) (value now.result) (value c.join-out.result) c.join-out.ensures (l.invariant.1 m e)
          (last_at b c.requires.0.fit c.requires.1 m a.lo a.hi c.requires.0.least (value seen.result) l.x.at l.x.len l.gone (value now.result) e l.invariant.0 (omega (arith, met.within)) now.ensures)),
      n.ensures.2,
    )

pub returns : goal.returns
returns c =
    let a = c.args in
    let l = c.loop-gone in
    all_start a.b c.requires.0.fit c.requires.1 (value a.s) a.lo a.hi c.requires.0.least l.gone (value l.out) (value c.turn.result) (omega (arith, c.loop-gone-test.false))
    c.turn.ensures (l.invariant.1 (value a.s) c.turn-seen.ensures)
