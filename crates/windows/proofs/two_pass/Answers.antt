use mathlib.Core.Path.{refl, sym, ◌∙◌, ap}
use Rattle.windows.specs.Windows.{top, Windowed}
use Rattle.windows.proofs.Tops.{top_one, turn_done, turn_rest}
use native.Mathlib.Omega.{arith}
use Rattle.windows.proofs.two_pass.Goals as goal

pub returns-then-n-eq1 : goal.returns-then-n-eq1
unfolding Windowed
returns-then-n-eq1 c =
    let a = c.args in
    (refl, (λ j h. c.requires.5 j (omega arith) ∙ sym (top_one a.k.now j) ∙ ap (top a.k.now j) (sym c.if-n-eq1.true)))

pub loop-s-preserved : goal.loop-s-preserved
loop-s-preserved c =
    let a = c.args in
    let l = c.loop-s in
    let v = l.invariant in
    let suf = c.suffixes.ensures in
    let pre = c.prefixes.ensures in (
      omega arith,
      omega (arith, suf.size, pre.size),
      turn_done a.k.now l.w _ _ a.len a.n l.s _ v.2 v.3 (omega arith) (omega arith) c.min-stop.ensures suf pre,
      turn_rest a.k.now l.w _ _ a.len a.n l.s _ v.2 v.3 (omega arith) (omega arith) c.min-stop.ensures suf pre,
    )

pub returns : goal.returns
unfolding Windowed
returns c = (c.loop-s.invariant.1, (λ a h. c.loop-s.invariant.2 a (omega arith) h))
