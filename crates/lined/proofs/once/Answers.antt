use mathlib.Core.Path.{◌≡◌, ◌∙◌, subst}
use Prim.Native.Nat.{ℕ, ◌/◌, ◌%◌, ◌<◌}
use native.Mathlib.Omega.{arith}
use Rattle.runs.specs.Lines.{power}
use Rattle.lined.proofs.RowLaws.{Done, visit_more, once_rows, period_pos}
use Rattle.lined.proofs.once.Goals as goal

pub loop-m-preserved : goal.loop-m-preserved
loop-m-preserved c =
    let a = c.args in
    let l = c.loop-m in
    let v = c.visit.ensures in
    let (done, kept) = visit_more a.b a.lo a.hi a.hit a.weight a.t.now c.requires.weight_pos l.m a.sets l.t _ (omega arith) v l.invariant.1 l.invariant.2 in
    (v.size ∙ l.invariant.0, done, kept)

pub returns : goal.returns
returns c =
    let a = c.args in
    let l = c.loop-m in
    λ n x e w known.
    once_rows a.b n (period_pos a.b c.requires.access.fit) x known a.lo a.hi a.hit a.t.now l.t
    (subst (λ (v : ℕ). (j : ℕ) → j < power n → j / v % 2 ≡ 0 → Done a.b a.lo a.hi a.hit v a.t.now l.t j) w (λ j h. l.invariant.1 j (omega (arith, h, e))))
    l.invariant.0
