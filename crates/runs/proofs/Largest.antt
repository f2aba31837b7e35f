-- The largest of n numbers.
use mathlib.Core.Path.{◌≡◌, refl, ap₂, subst}
use mathlib.Core.Logic.{◌⊎◌, inl, inr, ⊎_elim}
use native.Mathlib.Nat.{not-suc-le-zero}
use native.Mathlib.Omega.{arith}
use Prim.Native.Nat.{ℕ, zero, suc, ◌≤◌, ◌<◌, max}
use Rattle.runs.specs.Figures.{largest}
use Rattle.runs.proofs.Cases.{split}

-- each of them counts, and nothing else does
pub largest_has : (n : ℕ) (f : ℕ → ℕ) (i : ℕ) → i < n → f i ≤ largest n f
unfolding largest
largest_has zero f i h = absurd (not-suc-le-zero h)
largest_has (suc n) f i h =
    split n i
    (λ l. let e : n ≡ i = omega arith in subst (λ (j : ℕ). f j ≤ max (largest n f) (f n)) e (omega arith))
    (λ l. omega (arith, largest_has n f i l))

pub largest_le : (n : ℕ) (f : ℕ → ℕ) (m : ℕ) → ((i : ℕ) → i < n → f i ≤ m) → largest n f ≤ m
unfolding largest
largest_le zero f m h = omega arith
largest_le (suc n) f m h = omega (arith, largest_le n f m (λ i l. h i (omega arith)), h n (omega arith))

-- it is 0, or one of them
pub largest_reached : (n : ℕ) (f : ℕ → ℕ) → (largest n f ≡ 0) ⊎ ((k : ℕ) × (k < n) × (largest n f ≡ f k))
unfolding largest
largest_reached zero f = inl refl
largest_reached (suc n) f =
    split (largest n f) (f n)
    (λ h. inr (n, omega arith, omega arith))
    (λ h. ⊎_elim (λ z. inl (omega arith)) (λ (k, l, e). inr (k, omega arith, omega arith)) (largest_reached n f))

-- it asks the numbers alone
pub largest_same : (n : ℕ) (f g : ℕ → ℕ) → ((i : ℕ) → i < n → f i ≡ g i) → largest n f ≡ largest n g
unfolding largest
largest_same zero f g h = refl
largest_same (suc n) f g h = ap₂ max (largest_same n f g (λ i l. h i (omega arith))) (h n (omega arith))
