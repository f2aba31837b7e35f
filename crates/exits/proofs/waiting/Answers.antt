use mathlib.Core.Path.{subst}
use Prim.Native.Nat.{ℕ, ◌+◌, ◌%◌, ◌≤◌}
use Rattle.runs.proofs.Forward.{some_len}
use Rattle.bus.specs.Owning.{owns}
use Rattle.offsets.specs.Sets.{value}
use Rattle.exits.specs.Exits.{SetOf, WaitsAt}
use Rattle.exits.proofs.Nearest.{waited_none, waits_at}
use Rattle.exits.proofs.Served.{Met, none_served, met_first, met_next, next_served, all_served}
use native.Mathlib.Omega.{arith}
use Rattle.exits.proofs.waiting.Goals as goal
use Rattle.exits.proofs.waiting.Goals.{After-next_stretch-n}

-- the next stretch is met, some cycles further on
next : (c : After-next_stretch-n) → (
    let l = c.loop-gone in
    let n = c.next_stretch-n.result in
    Met c.args.b n.stretch.at n.stretch.len (l.gone + (l.x.len + n.gap)) × (1 ≤ l.x.len))
next c =
    let b = c.args.b in
    let l = c.loop-gone in
    let n = c.next_stretch-n in (
      met_next b c.requires.0.fit c.requires.1 l.x.at l.x.len n.result.gap n.result.stretch.at l.gone c.loop-gone-test.true l.invariant.0 n.ensures.0 n.result.stretch.len n.ensures.1,
      some_len b.period (owns b) l.x.at l.x.len n.result.gap n.result.stretch.at n.ensures.0,
    )

pub loop-gone-init : goal.loop-gone-init
loop-gone-init c =
    let a = c.args in
    let b = a.b in
    let (i, at, len, nth) = c.first_stretch-x.ensures in
    rw (i, at, len) (
      met_first b c.requires.0.fit c.requires.1,
      omega arith,
      waited_none b.period (owns b) (value a.s) b.first _ (omega arith),
      none_served b (λ i. WaitsAt b.period (owns b) (value a.s) a.lo a.hi ((b.first + i) % b.period)) 1 (0 + 1) (value c.empty-out.result) (omega arith) c.empty-out.ensures,
      c.requires.0.fit.nth c.requires.1,
    )

pub loop-gone-preserved : goal.loop-gone-preserved
loop-gone-preserved c =
    let a = c.args in
    let b = a.b in
    let P = b.period in
    let l = c.loop-gone in
    let less = c.loop-gone-test.true in
    let n = c.next_stretch-n in
    let least = c.waited-least in
    let from = c.max in
    let top = c.min in
    let ends = c.ends_from in
    let gone = l.gone + (l.x.len + n.result.gap) in
    let (met, h) = next (goal.at.loop-gone-preserved c).After-next_stretch-n in
    let wait = least.ensures.0 l.x.at l.gone n.ensures.0 met.within l.invariant.2 in (
      met,
      omega (arith, least.ensures.1),
      wait,
      next_served b c.requires.0.fit c.requires.1 l.x.at l.x.len n.result.gap n.result.stretch.at l.gone less l.invariant.0 n.ensures.0
          (λ i. WaitsAt P (owns b) (value a.s) a.lo a.hi ((b.first + i) % P)) (value l.out) (value ends.result) (value c.join-out.result) c.join-out.ensures l.invariant.3
          (subst (λ (y : ℕ). SetOf P (WaitsAt P (owns b) (value a.s) a.lo a.hi y) (value ends.result)) met.place
          (waits_at b a.lo a.hi a.s c.requires.0 c.requires.1 n.result.stretch.at n.result.stretch.len gone met (omega arith) least.result from.result top.result (value ends.result) wait
          (omega (arith, from.ensures)) (omega (arith, top.ensures)) ends.ensures)),
      n.ensures.2,
    )

pub returns : goal.returns
returns c =
    let a = c.args in
    let l = c.loop-gone in
    all_served a.b c.requires.0.fit c.requires.1 (λ x. WaitsAt a.b.period (owns a.b) (value a.s) a.lo a.hi x) (l.gone + 1) (value l.out) (omega (arith, c.loop-gone-test.false)) l.invariant.3
