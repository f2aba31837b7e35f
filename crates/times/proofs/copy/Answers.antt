use native.Mathlib.Omega.{arith}
use Rattle.std.proofs.lemmas.Grind.{common_steps}
use Rattle.times.proofs.Tables.{table_same}
use Rattle.times.proofs.copy.Goals as goal

pub returns : goal.returns
returns c = (grind (arith, common_steps), table_same _ _ _ (λ i h. grind (arith, common_steps)))
