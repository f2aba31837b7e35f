use mathlib.Core.Path.{subst}
use native.Mathlib.Omega.{arith}
use Prim.Native.Nat.{ℕ}
use Rattle.offsets.specs.Sets.{value, Sized}
use Rattle.bus.proofs.Behinds.{behind_here, high, behind_round}
use Rattle.bus.proofs.behind.Goals as goal

pub overflow_sub-result : goal.overflow_sub-result
overflow_sub-result c =
    let a = c.args in
    let here = subst (λ (n : ℕ). Sized n c.size-here.result) c.cut.ensures c.size-here.ensures.1 in
    (behind_here a.period (value a.s) a.x c.requires.0 c.requires.2 c.size-here.result here (omega (arith, c.if-here-gt0.true))).0

pub returns-then-here-gt0 : goal.returns-then-here-gt0
returns-then-here-gt0 c =
    let a = c.args in
    let here = subst (λ (n : ℕ). Sized n c.size-here.result) c.cut.ensures c.size-here.ensures.1 in
    (behind_here a.period (value a.s) a.x c.requires.0 c.requires.2 c.size-here.result here (omega (arith, c.if-here-gt0.true))).1

pub overflow_sub-result-2 : goal.overflow_sub-result-2
overflow_sub-result-2 c =
    let a = c.args in
    let here = subst (λ (n : ℕ). Sized n c.size-here.result) c.cut.ensures c.size-here.ensures.1 in
    omega (arith, high a.period (value a.s) a.x c.requires.0 c.requires.2 c.size-here.result here (omega (arith, c.if-here-gt0.false)) c.size.result c.size.ensures.1)

pub returns : goal.returns
returns c =
    let a = c.args in
    let here = subst (λ (n : ℕ). Sized n c.size-here.result) c.cut.ensures c.size-here.ensures.1 in
    behind_round a.period (value a.s) a.x c.requires.0 c.requires.2 c.size-here.result here (omega (arith, c.if-here-gt0.false)) c.size.result c.size.ensures.1
