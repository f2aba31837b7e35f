use mathlib.Core.Path.{◌≡◌, refl, sym}
use Prim.Native.Nat.{◌+◌, ◌≤◌}
use Rattle.runs.proofs.Forward.{from_none, next_begins, next_place, round, some_len}
use Rattle.runs.proofs.Nexts.{begun}
use Rattle.bus.specs.Owning.{owns}
use Rattle.starting.proofs.EveryNow.{up_none, up_more, up_all}
use native.Mathlib.Omega.{arith}
use Rattle.starting.proofs.now_all.Goals as goal
use Rattle.starting.proofs.now_all.Goals.{After-next_stretch-n}

-- a turn goes on by some cycles, and not past the first
goes_on : (c : After-next_stretch-n) → (
    (1 ≤ c.loop-gone.x.len) × (c.loop-gone.gone + (c.loop-gone.x.len + c.next_stretch-n.result.gap) ≤ c.args.b.period))
goes_on c =
    let b = c.args.b in
    let p = c.requires in
    let l = c.loop-gone in
    let n = c.next_stretch-n.ensures.0 in (
      some_len b.period (owns b) l.x.at l.x.len _ _ n,
      round b.period (owns b) b.first (p.0.begins p.1) l.gone l.x.at l.x.len _ _ c.loop-gone-test.true l.invariant.4 n,
    )

pub loop-gone-init : goal.loop-gone-init
loop-gone-init c =
    let a = c.args in
    let p = c.requires in
    let first = p.0.begins p.1 in
    let (i, at, len, nth) = c.first_stretch-x.ensures in
    rw (i, at, len) (
      omega arith,
      p.6,
      refl,
      refl,
      sym (from_none a.b.period (owns a.b) a.b.first first),
      first,
      p.0.run p.1,
      up_none a.b.period (owns a.b) _ a.b.first a.lo a.hi first _,
      p.0.nth p.1,
    )

pub now_in-requires : goal.now_in-requires
now_in-requires c =
    let p = c.requires in
    let b = c.args.b in
    let l = c.loop-gone in
    let v = l.invariant in
    let short = (begun b.period (owns b) l.x.at l.x.len v.5 (record { run = λ h. v.6; all = λ h i m. v.6.owned i (omega arith) })).0 in
    (omega (arith, v.5.low), record { most = p.0.most; fits = p.5; long = p.7 }, omega (arith, short, p.0.most), p.2, p.3, p.4, v.2, v.3, v.1)

pub loop-gone-preserved : goal.loop-gone-preserved
loop-gone-preserved c =
    let a = c.args in
    let p = c.requires in
    let b = a.b in
    let l = c.loop-gone in
    let few = c.loop-gone-test.true in
    let first = p.0.begins p.1 in
    let n = c.next_stretch-n.ensures in
    let in' = c.now_in.ensures in (
      (goes_on (goal.at.loop-gone-preserved c).After-next_stretch-n).1,
      in'.2,
      in'.0,
      in'.1,
      next_place b.period (owns b) b.first first l.gone l.x.at l.x.len _ _ few l.invariant.4 n.0,
      next_begins b.period (owns b) l.x.at l.x.len _ _ n.0,
      n.1,
      up_more b.period (owns b) _ b.first a.lo a.hi first l.gone l.x.at l.x.len _ _ _ _ few l.invariant.4 n.0 _ _ _ l.invariant.7 in'.3 (omega arith)
          (omega arith),
      n.2,
    )

pub returns : goal.returns
returns c =
    let a = c.args in
    let l = c.loop-gone in
    let all : l.gone ≡ a.b.period = omega (arith, c.loop-gone-test.false, l.invariant.0) in
    (l.invariant.1, up_all a.b.period (owns a.b) _ a.b.first a.lo a.hi (c.requires.0.begins c.requires.1) l.gone _ _ all l.invariant.7)
