-- Offsets round the period: d cycles back and d cycles on is where one was.
use mathlib.Core.Path.{◌≡◌, sym, ◌∙◌, ap}
use native.Mathlib.Omega.{arith}
use native.Mathlib.Nat.{mod-lt, mod-eq_of_lt, mod-add-mod, add-mod_right, add-mul-mod_self_right, div-add-mod'}
use Prim.Native.Nat.{ℕ, ◌+◌, ◌-◌, ◌*◌, ◌/◌, ◌%◌, ◌≤◌, ◌<◌}

whole : (x p d : ℕ) → 1 ≤ p → (x + d + (p - d % p)) % p ≡ x % p
whole x p d h =
    let e : x + d + (p - d % p) ≡ x + d / p * p + p = omega (arith, div-add-mod' d p, mod-lt d {m = p} (omega arith)) in
    rw e (add-mod_right (x + d / p * p) p ∙ add-mul-mod_self_right x (d / p) p)

pub back_and_there : (k p d : ℕ) → k < p → ((k + (p - d % p)) % p + d) % p ≡ k
back_and_there k p d h =
    let e : k + (p - d % p) + d ≡ k + d + (p - d % p) = omega arith in
    mod-add-mod (k + (p - d % p)) p d ∙ rw e (whole k p d (omega arith)) ∙ mod-eq_of_lt h

pub cancel : (x y p d : ℕ) → 1 ≤ p → (x + d) % p ≡ (y + d) % p → x % p ≡ y % p
cancel x y p d h e =
    sym (mod-add-mod (x + d) p (p - d % p) ∙ whole x p d h)
    ∙ ap (λ (z : ℕ). (z + (p - d % p)) % p) e
    ∙ mod-add-mod (y + d) p (p - d % p) ∙ whole y p d h
