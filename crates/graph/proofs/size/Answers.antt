use native.Mathlib.Omega.{arith}
use Rattle.graph.proofs.Tables.{no_size}
use Rattle.graph.proofs.size.Goals as goal
use Rattle.graph.proofs.size.Goals.{then-n-eq0-via-then-n-eq0, then-n-eq0-via-else-n-eq0+then-n-gt64, then-n-eq0-via-else-n-eq0+else-n-gt64+then-n-table}

-- The size is the number of whole rows, where they are 1 to 64 and the slice has no more.
pub returns : goal.returns
returns c = record { least = omega arith; most = omega arith; rows = omega arith }

pub returns-then-n-eq0 : goal.returns-then-n-eq0
returns-then-n-eq0 c =
    elim c.then-n-eq0.branch [
      | then-n-eq0-via-then-n-eq0 w ↦ no_size _ (λ least most rows. omega arith)
      | then-n-eq0-via-else-n-eq0+then-n-gt64 w ↦ no_size _ (λ least most rows. omega arith)
      | then-n-eq0-via-else-n-eq0+else-n-gt64+then-n-table w ↦ no_size _ (λ least most rows. omega arith)
    ]
