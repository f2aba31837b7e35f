use mathlib.Core.Path.{◌≡◌, refl, sym, ◌∙◌, ap}
use Prim.Native.Nat.{ℕ, ◌+◌, ◌%◌, ◌<◌}
use native.Mathlib.Nat.{mod-lt, mod-add-mod}
use lib.ListN.{length-set}
use Rattle.waiting.specs.Waiting.{kept_time, among}
use Rattle.waiting.proofs.Keeping.{kept_some}
use Rattle.waiting.proofs.Pending.{among_none, among_more, left_none, left_more}
use native.Mathlib.Omega.{arith}
use Rattle.waiting.proofs.leave.Goals as goal
use Rattle.waiting.proofs.leave.Goals.{After-max-run}

-- the longest of the pending times, with this one
more : (c : After-max-run) → (
    kept_time c.max-run.result ≡ among c.args.pending.now c.args.lo (c.loop-e.e + 1)
    )
more c =
    let l = c.loop-e in
    among_more _ _ l.e l.run _ (omega arith) l.invariant.4 c.max-run.ensures

pub loop-e-init : goal.loop-e-init
loop-e-init c =
    let a = c.args in
    (omega arith, c.requires.4, mod-lt (a.a + a.lo) (omega (arith, c.requires.0)), refl, among_none _ _, left_none _ _ _ _ _ _)

pub ended-requires : goal.ended-requires
ended-requires c =
    let l = c.loop-e in
    let last = c.loop-e-test.true in
    (omega (arith, last, c.requires.3), (λ n. let (x, y) = c.requires.5 l.e _ (omega arith) (omega (arith, last)) (sym (more (goal.at.ended-requires c).After-max-run) ∙ kept_some _ n) in (omega (arith, x, n), omega (arith, y, n))))

pub loop-e-preserved : goal.loop-e-preserved
loop-e-preserved c =
    let a = c.args in
    let l = c.loop-e in
    let last = c.loop-e-test.true in
    let run = more (goal.at.loop-e-preserved c).After-max-run in
    let pos : 0 < a.period = omega (arith, c.requires.0) in
    let is : c.turn-q.result ≡ (a.a + (l.e + 1)) % a.period =
    c.turn-q.ensures ∙ ap (λ (x : ℕ). (x + 1) % a.period) l.invariant.3 ∙ mod-add-mod (a.a + l.e) a.period 1
    ∙ ap (λ (x : ℕ). x % a.period) (let z : a.a + l.e + 1 ≡ a.a + (l.e + 1) = omega arith in z) in (
      omega (arith, last),
      simp length-set (omega (arith, l.invariant.1)),
      omega (arith, is, mod-lt (a.a + (l.e + 1)) pos),
      is,
      run,
      left_more _ _ _ _ _ _ _ _ _ _ _ _ (omega arith) l.invariant.3 (omega (arith, l.invariant.1, l.invariant.2, c.requires.1)) run c.ended.ensures c.longer_of.ensures l.invariant.5,
    )
