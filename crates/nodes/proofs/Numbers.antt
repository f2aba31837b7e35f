-- A cap on a sum or on a product is the same before and after it.
use mathlib.Core.Path.{◌≡◌, sym, ◌∙◌, ap}
use Prim.Native.Nat.{ℕ, zero, suc, ◌+◌, ◌*◌, ◌≤◌, min}
use native.Mathlib.Nat.{mul-le-mul_right, min-eq_left, zero-mul}
use native.Mathlib.Omega.{arith}
use Rattle.runs.proofs.Cases.{split}

at_cap : (C g v : ℕ) → C ≤ v → 1 ≤ g → min C (g * v) ≡ C
at_cap C g v h k = let m : 1 * v ≤ g * v = mul-le-mul_right v k in min-eq_left (omega arith)

pub cap_times : (C g v : ℕ) → min C (g * min C v) ≡ min C (g * v)
cap_times C zero v = rw (zero-mul (min C v), zero-mul v)
cap_times C (suc g) v =
    split C v
    (λ l. at_cap C (suc g) (min C v) (omega arith) (omega arith) ∙ sym (at_cap C (suc g) v l (omega arith)))
    (λ l. let e : min C v ≡ v = omega arith in rw e)

-- g rounds of two that are capped, and the second once more
pub cap_turns : (C g b t v w : ℕ) → b ≡ min C v → t ≡ min C w → min C (g * (b + t) + t) ≡ min C (g * (v + w) + w)
cap_turns C g b t v w p q =
    let rounds : min C (g * (b + t)) ≡ min C (g * (v + w)) =
    sym (cap_times C g (b + t)) ∙ ap (λ (z : ℕ). min C (g * z)) (omega arith) ∙ cap_times C g (v + w) in
    omega (arith, rounds, q)
