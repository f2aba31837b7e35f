use mathlib.Core.Path.{◌≡◌, ◌∙◌, refl, sym, ap, ap₂}
use Prim.Native.Nat.{ℕ, ◌+◌, ◌-◌, max}
use lib.ListN.{get_or, length-set}
use lib.Seq.{get_or-set_same, get_or-set_other}
use Rattle.runs.proofs.Cases.{split}
use Rattle.windows.specs.Windows.{top}
use Rattle.windows.proofs.Tops.{top_one, top_back}
use native.Mathlib.Omega.{arith}
use Rattle.windows.proofs.suffixes.Goals as goal

pub loop-j-init : goal.loop-j-init
loop-j-init c =
    let s = c.args.s in
    let n = c.args.n in (
      omega arith,
      omega arith,
      refl,
      (λ a h. refl),
      (λ a h l. let e : s + n - a ≡ 1 = omega arith in sym (ap (λ (x : ℕ). top c.args.w.now a x) e ∙ top_one _ a)),
      (λ a h. refl),
    )

pub loop-j-preserved : goal.loop-j-preserved
loop-j-preserved c =
    let s = c.args.s in
    let n = c.args.n in
    let l = c.loop-j in
    let v = l.invariant in
    let j = l.j in
    let back : j - 1 + 1 ≡ j = omega arith in (
      omega arith,
      omega arith,
      simp length-set (omega arith),
      (λ a h. get_or-set_other l.w (j - 1) a _ 0 (λ z. omega arith) ∙ v.3 a (omega arith)),
      (λ a h e. split j a
          (λ g. get_or-set_other l.w (j - 1) a _ 0 (λ z. omega arith) ∙ v.4 a g e)
          (λ g. let at : a ≡ j - 1 = omega arith in
          rw at (get_or-set_same l.w (j - 1) _ 0 (omega arith) ∙ c.max.ensures
          ∙ ap₂ max (v.3 (j - 1) (omega arith)) (ap (λ (x : ℕ). get_or l.w x 0) back ∙ v.4 j (omega arith) (omega arith))
          ∙ top_back _ j (s + n - j) (s + n - (j - 1)) (omega arith) (omega arith)))),
      (λ a h. get_or-set_other l.w (j - 1) a _ 0 (λ z. omega arith) ∙ v.5 a h),
    )
