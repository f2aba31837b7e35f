use mathlib.Core.Path.{◌≡◌, subst}
use Prim.Native.Nat.{ℕ, ◌+◌, ◌≤◌, ◌<◌}
use Rattle.runs.proofs.Forward.{some_len}
use Rattle.bus.specs.Owning.{owns}
use Rattle.offsets.specs.Sets.{value}
use Rattle.costs.specs.Costs.{LongestWait}
use Rattle.exits.proofs.Served.{Met, met_next}
use Rattle.costs.proofs.LongestWaits.{Kept, kept_same, kept_far, slowest_any, slowest}
use native.Mathlib.Omega.{arith}
use Rattle.costs.proofs.farthest.Goals as goal
use Rattle.costs.proofs.farthest.Goals.{then-e-n, else-e-n, After-longest_wait-far, After-next_stretch-n, Joined-e-n}

-- the next stretch is met, some cycles further on
next : (c : After-next_stretch-n) → (
    let l = c.loop-gone in
    let n = c.next_stretch-n.result in
    Met c.args.b n.stretch.at n.stretch.len (l.gone + (l.x.len + n.gap)) × (1 ≤ l.x.len))
next c =
    let b = c.args.b in
    let l = c.loop-gone in
    let n = c.next_stretch-n in (
      met_next b c.requires.0 (omega (arith, c.if-b.false)) l.x.at l.x.len n.result.gap n.result.stretch.at l.gone c.loop-gone-test.true l.invariant.0 n.ensures.0 n.result.stretch.len n.ensures.1,
      some_len b.period (owns b) l.x.at l.x.len n.result.gap n.result.stretch.at n.ensures.0,
    )

-- the wait above which one counts
floor_known : (c : Joined-e-n) → (
    c.args.e ≤ c.next_stretch-n.result.stretch.len → c.if-e-n.floor ≤ c.loop-gone.best)
floor_known c h = elim c.if-e-n.branch [ then-e-n w ↦ omega (arith, w.floor-is) | else-e-n w ↦ absurd (omega (arith, w.if-e-n.false, h)) ]

floor_none : (c : Joined-e-n) → (
    c.next_stretch-n.result.stretch.len < c.args.e → ◌≡◌ {A = ℕ} c.if-e-n.floor 0)
floor_none c h = elim c.if-e-n.branch [ then-e-n w ↦ absurd (omega (arith, w.if-e-n.true, h)) | else-e-n w ↦ w.floor-is ]

-- how long an offset waits for it
far : (c : After-longest_wait-far) → (
    let a = c.args in
    let l = c.loop-gone in
    let n = c.next_stretch-n.result in
    LongestWait a.b.period (owns a.b) (value a.s) a.e c.if-e-n.floor n.stretch.at (l.gone + (l.x.len + n.gap)) c.longest_wait-far.result)
far c =
    let l = c.loop-gone in
    let n = c.next_stretch-n in
    c.longest_wait-far.ensures n.result.stretch.at l.gone n.ensures.0 (next c.before.before.before).0.within l.invariant.1 l.invariant.2

-- of all, where it has no room
far_all : (c : After-longest_wait-far) → (
    let a = c.args in
    let l = c.loop-gone in
    let n = c.next_stretch-n.result in
    n.stretch.len < a.e → LongestWait a.b.period (owns a.b) (value a.s) a.e 0 n.stretch.at (l.gone + (l.x.len + n.gap)) c.longest_wait-far.result)
far_all c h =
    let a = c.args in
    let l = c.loop-gone in
    let n = c.next_stretch-n.result in
    subst (λ (k : ℕ). LongestWait a.b.period (owns a.b) (value a.s) a.e k n.stretch.at (l.gone + (l.x.len + n.gap)) c.longest_wait-far.result) (floor_none c.before h) (far c)

-- the offset is kept
same : (c : After-longest_wait-far) → (
    let a = c.args in
    let l = c.loop-gone in
    let n = c.next_stretch-n.result in
    (a.e ≤ n.stretch.len → c.longest_wait-far.result ≤ l.best) → Kept a.b a.e a.s (l.gone + (l.x.len + n.gap)) l.at l.best)
same c =
    let a = c.args in
    let l = c.loop-gone in
    let n = c.next_stretch-n in
    kept_same a.b c.requires.0 a.e c.requires.1 c.requires.2 a.s (omega (arith, c.if-b.false)) l.x.at l.x.len n.result.gap n.result.stretch.at n.result.stretch.len l.gone c.if-e-n.floor c.longest_wait-far.result l.at l.best (floor_known c.before)
    c.loop-gone-test.true l.invariant.0 n.ensures.0 (next c.before.before.before).0 (far c) l.invariant.3

pub returns-then-b : goal.returns-then-b
returns-then-b c =
    let a = c.args in
    slowest_any a.b c.requires.0 a.e c.requires.1 c.requires.2 a.s a.o (omega (arith, c.if-b.true)) c.requires.3 c.requires.4

pub longest_wait-far-requires : goal.longest_wait-far-requires
longest_wait-far-requires c =
    let l = c.loop-gone in
    (c.requires.0, c.requires.1, c.requires.2, l.invariant.0.begins.low, omega (arith, (next (goal.at.longest_wait-far-requires c).After-next_stretch-n).0.within, l.invariant.1))

pub turn_back_by-at-requires : goal.turn_back_by-at-requires
turn_back_by-at-requires c =
    let (met, h) = next (goal.at.turn_back_by-at-requires c).After-next_stretch-n in
    (met.begins.low, omega (arith, met.within, (far (goal.at.turn_back_by-at-requires c).After-longest_wait-far).within), c.requires.0.most)

pub loop-gone-preserved-then-best-far : goal.loop-gone-preserved-then-best-far
loop-gone-preserved-then-best-far c =
    let d = (goal.at.loop-gone-preserved-then-best-far c).After-longest_wait-far in
    let a = c.args in
    let l = d.loop-gone in
    let n = d.next_stretch-n in
    let (met, h) = next (goal.at.loop-gone-preserved-then-best-far c).After-next_stretch-n in (
      met,
      (far d).within,
      far_all d,
      kept_far a.b c.requires.0 a.e c.requires.1 c.requires.2 a.s (omega (arith, c.if-b.false)) l.x.at l.x.len n.result.gap n.result.stretch.at n.result.stretch.len l.gone d.if-e-n.floor d.longest_wait-far.result l.at l.best (floor_known (goal.at.loop-gone-preserved-then-best-far c).Joined-e-n)
          d.loop-gone-test.true l.invariant.0 n.ensures.0 met (far d) l.invariant.3 c.turn_back_by-at.result (omega (arith, c.if-e-x.true)) (omega (arith, c.if-best-far.true)) c.turn_back_by-at.ensures,
      n.ensures.2,
    )

pub loop-gone-preserved-else-best-far : goal.loop-gone-preserved-else-best-far
loop-gone-preserved-else-best-far c =
    let d = (goal.at.loop-gone-preserved-else-best-far c).After-longest_wait-far in
    ((next (goal.at.loop-gone-preserved-else-best-far c).After-next_stretch-n).0, (far d).within, far_all d, same d (λ h. omega (arith, c.if-best-far.false)), d.next_stretch-n.ensures.2)

pub loop-gone-preserved : goal.loop-gone-preserved
loop-gone-preserved c =
    let d = (goal.at.loop-gone-preserved c).After-longest_wait-far in
    ((next (goal.at.loop-gone-preserved c).After-next_stretch-n).0, (far d).within, far_all d, same d (λ h. absurd (omega (arith, c.if-e-x.false))), d.next_stretch-n.ensures.2)

pub returns : goal.returns
returns c =
    let a = c.args in
    let l = c.loop-gone in
    slowest a.b c.requires.0 a.e c.requires.1 c.requires.2 a.s (omega (arith, c.if-b.false)) l.gone l.at l.best (omega (arith, c.loop-gone-test.false)) l.invariant.3
