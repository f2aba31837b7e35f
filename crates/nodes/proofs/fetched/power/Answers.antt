use mathlib.Core.Path.{◌≡◌, refl, ◌∙◌, ap}
use Prim.Native.Nat.{ℕ, zero, suc, ◌*◌, ◌^◌}
use native.Mathlib.Omega.{arith}
use Rattle.std.proofs.Math.Nat.{pow-succ'}
use Rattle.std.proofs.lemmas.Nat.{one_shl}
use Rattle.runs.specs.Lines.{power}
use Rattle.nodes.proofs.fetched.power.Goals as goal

-- 2 to the n, in the definition's words
two_to : (n : ℕ) → 2 ^ n ≡ power n
unfolding power
two_to zero = refl
two_to (suc n) = pow-succ' 2 n ∙ ap (λ (m : ℕ). 2 * m) (two_to n)

pub returns : goal.returns
returns c = one_shl c.args.n 64 (omega arith) ∙ two_to c.args.n
