use mathlib.Core.Path.{refl}
use Rattle.offsets.specs.Sets.{four}
use Rattle.offsets.proofs.empty.Goals as goal

-- Four words of 0 are the number 0.
pub returns : goal.returns
unfolding four
returns c = refl
