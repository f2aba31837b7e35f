use native.Mathlib.Omega.{arith}
use Rattle.std.proofs.lemmas.List.{length-take-le}
use Rattle.times.proofs.Tables.{shifted_all}
use Rattle.times.proofs.is_later.Goals as goal

-- Where no turn ended it, all n places are the same, q cycles later.
pub returns : goal.returns
returns c =
    let a = c.args in
    let many = length-take-le a.n a.a.now c.requires.0 in
    λ e. shifted_all _ _ _ _ (λ i h. c.loop-o.invariant i (omega (arith, many)))
