-- What tests joined by `and` and `or` say, and one of two equal numbers.
use mathlib.Core.Path.{◌≡◌, refl, sym, ap₂}
use mathlib.Core.Bool.{Bool, true, false, cond, false≢true, ◌&&◌, ◌||◌}
use native.Mathlib.Omega.{arith}
use Prim.Native.Nat.{ℕ}
use Rattle.runs.proofs.Cases.{split}
use Rattle.schedule.proofs.Numbers.{both}

pub and_left : (a b : Bool) → a && b ≡ true → a ≡ true
and_left a b e = (both a b e).0

pub and_right : (a b : Bool) → a && b ≡ true → b ≡ true
and_right a b e = (both a b e).1

pub and_both : {a b : Bool} → a ≡ true → b ≡ true → a && b ≡ true
and_both p q = ap₂ ◌&&◌ p q

pub or_right : (t u : Bool) → t || u ≡ false → u ≡ false
or_right true u e = absurd (false≢true (sym e))
or_right false u e = e

-- one of two tests holds
pub or_cases {ℓ} : {X : Type ℓ} (t u : Bool) → t || u ≡ true → (t ≡ true → X) → (u ≡ true → X) → X
or_cases true u e f g = f refl
or_cases false u e f g = g e

pub or_first : (t u : Bool) → t ≡ true → t || u ≡ true
or_first t u e = rw e

pub or_second : (t u : Bool) → u ≡ true → t || u ≡ true
or_second true u e = refl
or_second false u e = e

-- two numbers are equal, or they are not
pub same {ℓ} : {X : Type ℓ} (a b : ℕ) → (a ≡ b → X) → ((a ≡ b → ⊥) → X) → X
same a b f g = split a b (λ h. split b a (λ k. f (omega arith)) (λ k. g (λ e. omega arith))) (λ h. g (λ e. omega arith))

-- what holds of both branches holds of either
pub cond_of {ℓ ℓ'} : {X : Type ℓ} (P : X → Type ℓ') (t : Bool) {x y : X} → (t ≡ true → P x) → (t ≡ false → P y) → P (cond t x y)
cond_of P true f g = f refl
cond_of P false f g = g refl
