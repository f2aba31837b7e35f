-- Orders and products of numbers, by cases, and tests that are conjunctions.
use mathlib.Core.Path.{◌≡◌, refl}
use mathlib.Core.Bool.{Bool, true, false, ◌&&◌, ◌||◌}
use mathlib.Core.Logic.{◌⊎◌, inl, inr}
use Prim.Native.Nat.{ℕ, ◌*◌, ◌≤◌}
use native.Mathlib.Nat.{mul-le-mul}
use native.Mathlib.Omega.{arith}
use lib.Dec.{leb, eqb}
use borrow.Author.Tests.{leb-true, eqb-true, eqb-false}
use mir.Val.{Fits}
use mir.Syntax.{w64}
use Rattle.schedule.specs.Said.{within}

-- a product of two numbers below 2 ^ 32 fits
pub product_fits : (a b : ℕ) → a ≤ 4294967295 → b ≤ 4294967295 → Fits w64 (a * b)
product_fits a b h k = record { fits = let p : a * b ≤ 4294967295 * 4294967295 = mul-le-mul h k in omega arith }

eq_by : (a b : ℕ) (t : Bool) → eqb a b ≡ t → (a ≡ b) ⊎ (a ≡ b → ⊥)
eq_by a b true e = inl (eqb-true a b e)
eq_by a b false e = inr (eqb-false a b e)

pub eq_or_ne : (a b : ℕ) → (a ≡ b) ⊎ (a ≡ b → ⊥)
eq_or_ne a b = eq_by a b (eqb a b) refl

-- what a test that is a conjunction says
pub both : (a b : Bool) → (a && b) ≡ true → (a ≡ true) × (b ≡ true)
both true b e = (refl, e)
both false b e = absurd (let z : ◌≡◌ {A = ℕ} 0 1 = cc in omega arith)

pub or_true : (a b : Bool) → b ≡ true → (a || b) ≡ true
or_true true b e = refl
or_true false b e = e

pub is_within : (low high n : ℕ) → within low high n ≡ true → (low ≤ n) × (n ≤ high)
is_within low high n e = let p = both (leb low n) (leb n high) e in (leb-true low n p.0, leb-true n high p.1)
