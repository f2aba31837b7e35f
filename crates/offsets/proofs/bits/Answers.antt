use mathlib.Core.Path.{subst}
use native.Mathlib.Omega.{arith}
use borrow.Author.Rules.{rules}
use lib.Count.{count_leading_zeros}
use Prim.Native.Nat.{ℕ, ◌-◌}
use Rattle.offsets.specs.Sets.{Sized}
use Rattle.offsets.proofs.Extremes.{sized_zeros, sized_above, sized_here}
use Rattle.offsets.proofs.bits.Goals as goal

pub returns-then-above-ne0 : goal.returns-then-above-ne0
returns-then-above-ne0 c =
    let a = c.args in
    (search rules, λ h x. sized_above 64 h a.w a.above (search rules) (omega arith) x)

pub returns : goal.returns
returns c =
    let a = c.args in (
      omega arith,
      λ h x.
          sized_here 64 h a.w (64 - count_leading_zeros 64 a.w) (subst (λ (q : ℕ). Sized h q) c.if-above-ne0.false x)
          (sized_zeros 64 a.w (search rules)),
    )
