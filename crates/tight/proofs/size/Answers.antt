use mathlib.Core.Path.{ap₂}
use native.Mathlib.Omega.{arith}
use native.Mathlib.Nat.{mul-le-mul_right}
use Prim.Native.Nat.{◌*◌}
use Rattle.tight.proofs.size.Goals as goal

-- The rows, each of a period.
pub overflow_mul-result : goal.overflow_mul-result
overflow_mul-result c = omega (arith, mul-le-mul_right c.period.result c.requires.few, c.period.ensures, c.requires.fit.most)

pub returns : goal.returns
returns c = ap₂ ◌*◌ c.requires.sets_is c.period.ensures
