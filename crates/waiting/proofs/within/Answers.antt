use mathlib.Core.Path.{◌≡◌, sym, ◌∙◌, ap, subst}
use Prim.Native.Nat.{ℕ, ◌+◌, ◌-◌, ◌%◌, ◌≤◌, ◌<◌, min}
use native.Mathlib.Nat.{mod-lt}
use lib.ListN.{get_or, length-set}
use Rattle.runs.specs.Figures.{later}
use Rattle.times.specs.Arrays.{time_of, Fits}
use Rattle.waiting.specs.Waiting.{kept_time, ComeLater}
use Rattle.waiting.proofs.Coming.{back_one, come_more, come_later, come_small}
use Rattle.waiting.proofs.Pending.{shorter_none, shorter_more}
use native.Mathlib.Omega.{arith}
use Rattle.waiting.proofs.within.Goals as goal
use Rattle.waiting.proofs.within.Goals.{After-kept, After-min, After-turn_back-at}

-- the offsets before y are no more than the period
few : (c : After-min) → (let a = c.args in a.gap + c.min.result ≤ a.period)
few c = omega (arith, c.min.ensures, c.requires.3)

-- the next offset back is one of the period
low : (c : After-turn_back-at) → c.turn_back-at.result < c.args.period
low c =
    let l = c.loop-e in
    omega (arith, c.turn_back-at.ensures, mod-lt (l.at + c.args.period - 1) {m = c.args.period} (omega (arith, c.requires.0)))

-- so many cycles are few
some_cycles : (c : After-turn_back-at) → (
    let a = c.args in
    a.gap + a.rest + c.loop-e.e ≤ 512
    )
some_cycles c =
    omega (arith, c.loop-e-test.true, c.requires.3, c.requires.4.most, c.requires.5)

-- the time at the next offset back is moved on to y, and by `rest`
moved : (c : After-kept) → (
    let a = c.args in
    kept_time c.kept.result ≡ later (a.gap + c.loop-e.e + a.rest) (time_of (get_or a.t.now c.turn_back-at.result 0)))
moved c =
    subst (λ (k : ℕ). kept_time c.kept.result ≡ later k (time_of (get_or c.args.t.now c.turn_back-at.result 0))) (omega arith) c.kept.ensures

pub kept-best-requires : goal.kept-best-requires
kept-best-requires c = (
  omega (arith, c.requires.5),
  (λ n. omega (arith, come_small c.args.period _ _ _ _ c.requires.4.fits (omega (arith, c.requires.0)) c.come.ensures n, few (goal.at.kept-best-requires c).After-min, c.requires.4.most, c.requires.5)),
)

pub loop-e-init : goal.loop-e-init
loop-e-init c =
    let a = c.args in
    let least = c.min in
    let is = c.turn_back_by-at.ensures in
    let n : a.gap + least.result ≡ a.gap + min (a.lo - 1) a.top = omega (arith, least.ensures) in (
      omega arith,
      c.requires.6,
      omega (arith, is, mod-lt (a.y + a.period - (a.gap + least.result)) {m = a.period} (omega (arith, c.requires.0))),
      is ∙ ap (λ (k : ℕ). (a.y + a.period - k) % a.period) n,
      subst (λ (k : ℕ). ComeLater a.period a.t.now a.y k a.rest c.kept-best.result) n
          (come_later _ _ _ _ _ _ _ c.come.ensures c.kept-best.ensures),
      shorter_none _ _ _ _ _ _ _,
    )

pub kept-requires : goal.kept-requires
unfolding Fits
kept-requires c =
    let few = some_cycles (goal.at.kept-requires c).After-turn_back-at in
    (omega (arith, few), (λ n. omega (arith, c.requires.4.fits c.turn_back-at.result (low (goal.at.kept-requires c).After-turn_back-at) n, few)))

pub loop-e-preserved : goal.loop-e-preserved
loop-e-preserved c =
    let a = c.args in
    let l = c.loop-e in
    let last = c.loop-e-test.true in
    let back = c.turn_back-at in
    let w = a.gap + min (l.e - 1) a.top in
    let w' = a.gap + min (l.e + 1 - 1) a.top in
    let more : w' ≡ w + 1 = omega (arith, last) in
    let same : w ≡ a.gap + l.e - 1 = omega (arith, last) in
    let place : back.result ≡ (a.y + a.period - w') % a.period =
    back_one a.period a.y w l.at back.result (omega (arith, last, c.requires.3, same)) l.invariant.3 back.ensures
    ∙ ap (λ (k : ℕ). (a.y + a.period - k) % a.period) (sym more) in (
      omega (arith, last),
      simp length-set (omega (arith, l.invariant.1)),
      low (goal.at.loop-e-preserved c).After-turn_back-at,
      place,
      come_more a.period _ a.y w w' a.rest back.result _ _ _ _ (omega (arith, c.requires.0)) more place (omega (arith, last)) (moved (goal.at.loop-e-preserved c).After-kept) c.max-best.ensures l.invariant.4,
      shorter_more _ _ _ _ _ _ _ _ _ _ (omega (arith, last, c.requires.2, l.invariant.1))
          (subst (λ (k : ℕ). ComeLater a.period a.t.now a.y k a.rest l.best) same l.invariant.4) l.invariant.5,
    )
