use mathlib.Core.Path.{◌≡◌, ◌∙◌, refl, sym, ap, ap₂}
use Prim.Native.Nat.{ℕ, ◌+◌, ◌-◌, max}
use lib.ListN.{get_or, length-set}
use lib.Seq.{get_or-set_same, get_or-set_other}
use Rattle.runs.proofs.Cases.{split}
use Rattle.windows.specs.Windows.{top}
use Rattle.windows.proofs.Tops.{top_zero, top_step}
use native.Mathlib.Omega.{arith}
use Rattle.windows.proofs.prefixes.Goals as goal

pub loop-i-init : goal.loop-i-init
loop-i-init c = (refl, sym (top_zero _ _), (λ a h l. absurd (omega arith)), (λ a h. refl), (λ a h. refl))

pub loop-i-preserved : goal.loop-i-preserved
loop-i-preserved c =
    let s = c.args.s in
    let e = c.args.e in
    let k = c.args.k.now in
    let l = c.loop-i in
    let v = l.invariant in
    let i = l.i in
    let run : c.max-run.result ≡ top k e i =
    c.max-run.ensures ∙ ap (λ (x : ℕ). max x (get_or k (e + i - 1) 0)) v.1 ∙ top_step k e i (omega arith) in
    let one : i + 1 - 1 ≡ i = omega arith in (
      simp length-set (omega arith),
      run ∙ sym (ap (λ (x : ℕ). top k e x) one),
      (λ a h g. split (s + i) a
          (λ u. let at : a ≡ s + i = omega arith in
          let j : s + i - s ≡ i = omega arith in
          rw (at, j) (get_or-set_same l.w (s + i) _ 0 (omega arith) ∙ c.max.ensures ∙ ap₂ max (v.4 (s + i) (omega arith)) run))
          (λ u. get_or-set_other l.w (s + i) a _ 0 (λ z. omega arith) ∙ v.2 a h u)),
      (λ a h. get_or-set_other l.w (s + i) a _ 0 (λ z. omega arith) ∙ v.3 a h),
      (λ a h. get_or-set_other l.w (s + i) a _ 0 (λ z. omega arith) ∙ v.4 a (omega arith)),
    )
