use mathlib.Core.Path.{◌≡◌, refl, sym, ◌∙◌, ap}
use Prim.Native.Nat.{ℕ, ◌+◌, ◌-◌, ◌%◌, ◌≤◌}
use Rattle.runs.specs.Exact.{Longest}
use Rattle.runs.specs.Schedules.{owns_next}
use Rattle.runs.proofs.Nexts.{run_holds}
use Rattle.runs.proofs.Forward as forward
use Rattle.bus.specs.Owning.{owns}
use Rattle.times.specs.Arrays.{table_of}
use Rattle.waiting.specs.Waiting.{Later, Pends, among}
use Rattle.waiting.proofs.Everyone.{pends_next, waits_still, pends_small, left_of, up_none, up_more, up_all}
use native.Mathlib.Omega.{arith}
use Rattle.waiting.proofs.arrive_all.Goals as goal
use Rattle.waiting.proofs.arrive_all.Goals.{After-next_stretch-n, After-wait_on}

-- the next stretch begins some cycles further on, within the round
abbrev Goes : ℕ → ℕ → ℕ → ℕ → Type 0
Goes P gone len gap = (gone + (len + gap) ≤ P) × (1 ≤ len) × (P ≤ 256)

next : (c : After-next_stretch-n) → Goes c.args.b.period c.loop-gone.gone c.loop-gone.x.len c.next_stretch-n.result.gap
next c =
    let b = c.args.b in
    let l = c.loop-gone in
    let n = c.next_stretch-n in (
      forward.round b.period (owns b) b.first (c.requires.0.begins c.requires.1) l.gone l.x.at l.x.len n.result.gap n.result.stretch.at c.loop-gone-test.true l.invariant.3 n.ensures.0,
      forward.some_len b.period (owns b) l.x.at l.x.len n.result.gap n.result.stretch.at n.ensures.0,
      c.requires.0.most,
    )

-- what is pending for the next stretch
means : (c : After-wait_on) → Goes c.args.b.period c.loop-gone.gone c.loop-gone.x.len c.next_stretch-n.result.gap → (
    let a = c.args in
    let l = c.loop-gone in
    let n = c.next_stretch-n.result in
    let on = l.gone + (l.x.len + n.gap) in
    (e : ℕ) → a.lo ≤ e → e ≤ a.hi → Longest (Later (a.b.period - on) (Pends a.b.period (owns a.b) (table_of a.b.period a.t.now) n.stretch.at on e)) (among c.wait_on.new.pending a.lo (e + 1))
    )
means c (round, some, most) =
    let a = c.args in
    let l = c.loop-gone in
    let n = c.next_stretch-n in
    let within = c.within-best.ensures in
    pends_next a.b.period (owns a.b) _ l.x.at l.x.len n.result.gap n.result.stretch.at n.ensures.0 l.gone round a.lo a.hi _ _ (a.b.period - l.gone) _ _ _ _ _ _ c.requires.2
    c.min-top.ensures c.max.ensures (omega (arith, round)) l.invariant.6 within.0 within.2 c.wait_on.ensures.1

pub loop-gone-init : goal.loop-gone-init
loop-gone-init c =
    let a = c.args in
    let P = a.b.period in
    let first = c.requires.0.begins c.requires.1 in
    let (i, at, len, nth) = c.first_stretch-x.ensures in
    rw (i, at, len) (
      omega arith,
      c.requires.6,
      refl,
      sym (forward.from_none P (owns a.b) a.b.first first),
      first,
      c.requires.0.run c.requires.1,
      (λ e l m n. absurd (omega (arith, c.requires.4))),
      up_none P (owns a.b) _ a.b.first a.lo a.hi first _,
      c.requires.0.nth c.requires.1,
    )

pub overflow_sub-rest : goal.overflow_sub-rest
overflow_sub-rest c = omega (arith, (next (goal.at.overflow_sub-rest c).After-next_stretch-n).0)

pub leave-run-requires : goal.leave-run-requires
leave-run-requires c =
    let a = c.args in
    let P = a.b.period in
    let own = owns a.b in
    let l = c.loop-gone in
    let n = c.next_stretch-n in
    let least = c.min.ensures in
    let (round, some, most) = next (goal.at.leave-run-requires c).After-next_stretch-n in (
      (forward.next_begins P own l.x.at l.x.len n.result.gap n.result.stretch.at n.ensures.0).low,
      most,
      omega (arith, c.requires.3, c.requires.4, c.requires.1, most),
      omega (arith, least, c.requires.4, c.requires.1, most),
      l.invariant.1,
      (λ e k i j z.
          let (low, high) = pends_small P own _ n.result.stretch.at (l.gone + (l.x.len + n.result.gap)) e _ k _ c.requires.5 c.requires.0.least (means (goal.at.leave-run-requires c).After-wait_on (next (goal.at.leave-run-requires c).After-next_stretch-n) e i (omega (arith, least))) z in
          (low, omega (arith, high, round, most))),
    )

pub loop-gone-preserved : goal.loop-gone-preserved
loop-gone-preserved c =
    let a = c.args in
    let P = a.b.period in
    let own = owns a.b in
    let first = c.requires.0.begins c.requires.1 in
    let l = c.loop-gone in
    let few = c.loop-gone-test.true in
    let n = c.next_stretch-n in
    let pending = means (goal.at.loop-gone-preserved c).After-wait_on (next (goal.at.loop-gone-preserved c).After-next_stretch-n) in
    let least = c.min.ensures in
    let (round, some, most) = next (goal.at.loop-gone-preserved c).After-next_stretch-n in
    let on = l.gone + (l.x.len + n.result.gap) in
    let place = forward.next_place P own a.b.first first l.gone l.x.at l.x.len n.result.gap n.result.stretch.at few l.invariant.3 n.ensures.0 in
    let back : (n.result.stretch.at + P - on) % P ≡ a.b.first = ap (λ (k : ℕ). (k + P - on) % P) place ∙ forward.back_again P own a.b.first first on round in (
      round,
      c.leave-run.ensures.1,
      c.wait_on.ensures.0,
      place,
      forward.next_begins P own l.x.at l.x.len n.result.gap n.result.stretch.at n.ensures.0,
      n.ensures.1,
      waits_still P own _ n.result.stretch.at on n.result.stretch.len (P - on) a.lo a.hi _ _ _ least c.leave-run.ensures.0 pending,
      up_more P own _ a.b.first a.lo a.hi first l.gone l.x.at l.x.len n.result.gap n.result.stretch.at on few l.invariant.3 n.ensures.0 refl _ _ _ l.invariant.7
          (left_of P own _ n.result.stretch.at on a.lo a.hi n.result.stretch.len n.ensures.1 (omega (arith, some)) round
          (λ e i. ap (owns_next P own e) back ∙ run_holds P own a.b.first a.b.most e (c.requires.0.run c.requires.1) (omega (arith, c.requires.4)))
          _ _ _ _ _ least pending c.leave-run.ensures.2),
      n.ensures.2,
    )

pub returns : goal.returns
returns c =
    let a = c.args in
    let l = c.loop-gone in
    let e : l.gone ≡ a.b.period = omega (arith, c.loop-gone-test.false, l.invariant.0) in
    (l.invariant.1, up_all a.b.period (owns a.b) _ a.b.first a.lo a.hi (c.requires.0.begins c.requires.1) l.gone _ _ e l.invariant.7)
