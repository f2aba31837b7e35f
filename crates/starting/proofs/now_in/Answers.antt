use mathlib.Core.Path.{◌≡◌, refl, sym, ◌∙◌, ap, subst}
use Prim.Native.Nat.{ℕ, suc, ◌+◌, ◌-◌, ◌%◌, ◌≤◌}
use native.Mathlib.Nat.{mod-lt, mod-add-mod}
use lib.ListN.{length-set}
use Rattle.runs.specs.Exact.{Longest}
use Rattle.times.specs.Arrays.{time_of, table_of}
use Rattle.windows.specs.Windows.{top, Turns, time_at}
use Rattle.windows.proofs.Tops.{top_zero}
use Rattle.starting.specs.Starting.{EndsAt}
use Rattle.starting.proofs.Nows.{window_top, top_next, ends_at, now_none, now_more, now_done}
use native.Mathlib.Omega.{arith}
use Rattle.starting.proofs.now_in.Goals as goal
use Rattle.starting.proofs.now_in.Goals.{After-window-x}

-- what the turn knows of the largest key so far, and of the window that ends at y
run_is : (c : After-window-x) → c.max-run.result ≡ top c.keys_in.new.k 0 (suc (c.loop-y.y - c.args.lo))
run_is c = top_next _ _ _ _ c.loop-y.invariant.7 c.max-run.ensures

ends : (c : After-window-x) → (
    Turns c.window-x.result c.loop-y.y
    × ((r : ℕ) → r ≡ time_at c.window-x.result c.loop-y.y
    → Longest (EndsAt c.args.period (table_of c.args.period c.args.t.now) c.args.a c.args.lo c.args.hi c.loop-y.y) (time_of r)))
ends c =
    let a = c.args in
    let p = c.requires in
    let l = c.loop-y in
    let in' : c.loop-y.y ≤ c.args.len = omega (arith, c.loop-y-test.true) in
    ends_at a.period (omega (arith, p.0)) _ _ a.a a.len a.lo a.hi p.2 p.3 p.4 p.1.fits l.invariant.5 l.y (omega arith) in' c.window-x.result
    (window_top _ _ a.len a.lo a.hi l.y c.max-run.result c.window-x.result p.3 p.4 (omega arith) in' (run_is c) l.invariant.6
    (λ h. c.window-x.ensures.0 (omega arith)) (λ h. c.window-x.ensures.1 (omega arith)))

pub returns-then-len-lo : goal.returns-then-len-lo
returns-then-len-lo c =
    let a = c.args in
    let p = c.requires in
    (p.6, p.7, p.8, now_done a.period _ a.a a.len a.lo a.hi (suc a.len) _ _ refl (now_none _ _ _ _ _ _ _ (omega (arith, c.if-len-lo.true))))

pub loop-y-init : goal.loop-y-init
loop-y-init c =
    let a = c.args in
    let k = c.keys_in.ensures in
    let z : a.lo - a.lo ≡ 0 = omega arith in (
      k.0,
      c.two_pass.ensures.0 ∙ k.1,
      c.requires.8,
      mod-lt (a.a + a.lo) (omega (arith, c.requires.0)),
      refl,
      k.2,
      c.two_pass.ensures.1,
      rw z (sym (top_zero _ 0)),
      now_none _ _ _ _ _ _ _ (omega arith),
    )

pub unkey-requires : goal.unkey-requires
unkey-requires c = ((ends (goal.at.unkey-requires c).After-window-x).0, omega (arith, c.requires.2, c.loop-y-test.true))

pub loop-y-preserved : goal.loop-y-preserved
loop-y-preserved c =
    let w = (goal.at.loop-y-preserved c).After-window-x in
    let a = w.args in
    let p = w.requires in
    let l = w.loop-y in
    let v = l.invariant in
    let on : a.a + l.y + 1 ≡ a.a + (l.y + 1) = omega arith in
    let q : c.turn-q.result ≡ (a.a + (l.y + 1)) % a.period =
    c.turn-q.ensures ∙ ap (λ (x : ℕ). (x + 1) % a.period) v.4 ∙ mod-add-mod (a.a + l.y) a.period 1 ∙ ap (λ (x : ℕ). x % a.period) on in
    let n : suc (l.y - a.lo) ≡ l.y + 1 - a.lo = omega arith in (
      v.0,
      v.1,
      simp length-set (omega (arith, v.2)),
      omega (arith, q, mod-lt (a.a + (l.y + 1)) {m = a.period} (omega (arith, p.0))),
      q,
      v.5,
      v.6,
      subst (λ (x : ℕ). w.max-run.result ≡ top w.keys_in.new.k 0 x) n (run_is w),
      now_more a.period _ a.a a.lo a.hi l.y _ _ _ _ c.unkey.result _ (omega arith) v.4 (omega (arith, v.2, v.3, p.1.most)) v.8
          ((ends w).1 c.unkey.result c.unkey.ensures) c.longer_of.ensures,
    )

pub returns : goal.returns
returns c =
    let a = c.args in
    let l = c.loop-y in
    (l.invariant.0, l.invariant.1, l.invariant.2, now_done a.period _ a.a a.len a.lo a.hi l.y _ _ (omega (arith, c.loop-y-test.false, c.if-len-lo.false)) l.invariant.8)
