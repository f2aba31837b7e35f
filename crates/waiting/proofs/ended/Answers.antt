use mathlib.Core.Path.{refl}
use native.Mathlib.Omega.{arith}
use Rattle.waiting.proofs.Pending.{ended_none, ended_some}
use Rattle.waiting.proofs.ended.Goals as goal

-- None where 0 is kept; the bounds keep the differences and the sum from wrapping.
pub returns-then-v-eq0 : goal.returns-then-v-eq0
returns-then-v-eq0 c = ended_none _ _ _ _ c.if-v-eq0.true refl

pub returns-else-v-eq0 : goal.returns-else-v-eq0
returns-else-v-eq0 c =
    let (l, m) = c.requires.1 (omega (arith, c.if-v-eq0.false)) in
    ended_some _ _ _ _ (omega (arith, c.if-v-eq0.false)) (omega (arith, l)) (λ z. omega (arith, z, m, c.requires.0))
