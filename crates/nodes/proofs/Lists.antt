-- Child numbers that stand in an image, the first and the rest, from any index on, and what holds of each; start offsets, one by one.
use mathlib.Core.Path.{◌≡◌, refl, ◌∙◌, ap}
use mathlib.Core.Bool.{Bool, true, false, ◌||◌}
use mathlib.Core.List.{List, [], ◌∷◌}
use Prim.Native.Nat.{ℕ, zero, suc, ◌+◌, ◌-◌, ◌*◌, ◌≤◌, ◌<◌}
use native.Mathlib.Nat.{add-zero, not-suc-le-zero}
use native.Mathlib.Omega.{arith}
use lib.Dec.{eqb}
use borrow.Author.Tests.{eq-eqb}
use Rattle.runs.specs.Nodes.{All}
use Rattle.runs.specs.Runs.{is_start}
use Rattle.image_bytes.specs.Bytes.{byte_at, word_at, bytes, words}
use Rattle.schedule.proofs.Numbers.{or_true}

module _ (s : List ℕ) (p n i : ℕ) where
  -- child number i, and those after it
  pub words_step : i < n → words s (p + 2 * i) (n - i) ≡ word_at s (p + 2 * i) ∷ words s (p + 2 * (i + 1)) (n - (i + 1))
  unfolding words
  words_step h =
      let e : n - i ≡ suc (n - (i + 1)) = omega arith in
      let q : p + 2 * i + 2 ≡ p + 2 * (i + 1) = omega arith in
      rw (e, q)

  pub words_none : n ≤ i → words s (p + 2 * i) (n - i) ≡ []
  unfolding words
  words_none h = let e : n - i ≡ 0 = omega arith in rw e

-- what holds of each child number holds of all
pub all_words : (Q : ℕ → Type 0) (s : List ℕ) (p n : ℕ) → ((i : ℕ) → i < n → Q (word_at s (p + 2 * i))) → All Q (words s p n)
unfolding words
all_words Q s p zero h = tt
all_words Q s p (suc n) h =
    let z : p + 2 * 0 ≡ p = omega arith in (
      rw z at (h 0 (omega arith)),
      all_words Q s (p + 2) n (λ i l. let e : p + 2 * suc i ≡ p + 2 + 2 * i = omega arith in rw e at (h (suc i) (omega arith))),
    )

-- the first of some child numbers
pub words_some : (s : List ℕ) (p n : ℕ) → 1 ≤ n → (m : ℕ) × (ms : List ℕ) × (words s p n ≡ m ∷ ms)
unfolding words
words_some s p zero h = absurd (not-suc-le-zero h)
words_some s p (suc n) h = (word_at s p, words s (p + 2) n, refl)

-- byte i is one of the list
pub is_listed_lem : (s : List ℕ) (p n i : ℕ) → i < n → is_start (bytes s p n) (byte_at s (p + i)) ≡ true
unfolding bytes is_start
is_listed_lem s p zero i h = absurd (not-suc-le-zero h)
is_listed_lem s p (suc n) zero h = rw (add-zero p, eq-eqb (byte_at s p) (byte_at s p) refl)
is_listed_lem s p (suc n) (suc i) h =
    let q : p + suc i ≡ p + 1 + i = omega arith in
    rw q (or_true (eqb (byte_at s p) (byte_at s (p + 1 + i))) _ (is_listed_lem s (p + 1) n i (omega arith)))

-- one byte more at the end of the list
pub listed_more : (s : List ℕ) (p n o : ℕ) → is_start (bytes s p (n + 1)) o ≡ (is_start (bytes s p n) o || eqb (byte_at s (p + n)) o)
unfolding bytes is_start
listed_more s p zero o = rw add-zero (or_false (eqb (byte_at s p) o))
  where
    or_false : (a : Bool) → (a || false) ≡ a
    or_false true = refl
    or_false false = refl
listed_more s p (suc n) o =
    let e : suc n + 1 ≡ suc (n + 1) = omega arith in
    let q : p + 1 + n ≡ p + suc n = omega arith in
    rw e (rw (← q) (ap (λ (x : Bool). eqb (byte_at s p) o || x) (listed_more s (p + 1) n o) ∙ or_assoc (eqb (byte_at s p) o) (is_start (bytes s (p + 1) n) o) (eqb (byte_at s (p + 1 + n)) o)))
  where
    or_assoc : (a b c : Bool) → (a || (b || c)) ≡ ((a || b) || c)
    or_assoc true b c = refl
    or_assoc false b c = refl
