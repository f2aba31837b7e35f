-- The pairs of a schedule one by one, and what the test of a schedule says from pair to pair.
use mathlib.Core.Path.{◌≡◌, refl, ap}
use mathlib.Core.Bool.{Bool, true, false, ◌&&◌, ◌||◌}
use mathlib.Core.List.{List, [], ◌∷◌}
use Prim.Native.Nat.{ℕ, zero, suc, ◌+◌, ◌-◌, ◌*◌, ◌≤◌, ◌<◌}
use native.Mathlib.Nat.{add-zero, zero-add}
use native.Mathlib.Omega.{arith}
use lib.Dec.{leb}
use lib.ListN.{length}
use borrow.Author.Tests.{le-leb, lt-leb, eq-eqb, ne_eqb}
use Rattle.runs.specs.Schedules.{Turn, Schedule, total}
use Rattle.image_bytes.specs.Bytes.{byte_at}
use Rattle.schedule.specs.Said.{within, turns_at, turns_ok, has_pair, schedule_ok}

-- as many as are read
pub turns_length : (s : List ℕ) (p n : ℕ) → length (turns_at s p n) ≡ n
unfolding turns_at
turns_length s p zero = refl
turns_length s p (suc n) = ap suc (turns_length s (p + 2) n)

module _ (s : List ℕ) (p n i : ℕ) where
  -- pair i, and those after it
  pub turns_step : i < n
      → turns_at s (p + 2 * i) (n - i) ≡ record { core = byte_at s (p + 2 * i); length = byte_at s (p + 2 * i + 1) } ∷ turns_at s (p + 2 * (i + 1)) (n - (i + 1))
  unfolding turns_at
  turns_step h =
      let e : n - i ≡ suc (n - (i + 1)) = omega arith in
      let q : p + 2 * i + 2 ≡ p + 2 * (i + 1) = omega arith in
      rw (e, q)

  pub turns_none : n ≤ i → turns_at s (p + 2 * i) (n - i) ≡ []
  unfolding turns_at
  turns_none h = let e : n - i ≡ 0 = omega arith in rw e

  -- their lengths together
  pub total_step : i < n → total (turns_at s (p + 2 * i) (n - i)) ≡ byte_at s (p + 2 * i + 1) + total (turns_at s (p + 2 * (i + 1)) (n - (i + 1)))
  unfolding total
  total_step h = ap total (turns_step h)

  pub total_none : n ≤ i → total (turns_at s (p + 2 * i) (n - i)) ≡ 0
  unfolding total
  total_none h = ap total (turns_none h)

-- ---- the test

and_false : (a b : Bool) → (a && (false && b)) ≡ false
and_false true b = refl
and_false false b = refl

-- whether pairs go on from a sum of n cycles, the core c having been found or not
unfoldable pub goes_on : ℕ → Bool → ℕ → List Turn → Bool
goes_on c found n xs = turns_ok xs && (leb (n + total xs) 256 && (found || has_pair c xs))

pub goes_first : (v : Schedule) → goes_on v.core false 0 v.turns ≡ schedule_ok v
unfolding goes_on schedule_ok
goes_first v = rw (zero-add (total v.turns))

or_false : (f : Bool) → (f || false) ≡ f
or_false true = refl
or_false false = refl

or_true : (f : Bool) → (f || true) ≡ true
or_true true = refl
or_true false = refl

module _ (c : ℕ) (found : Bool) (n : ℕ) where
  pub goes_last : n ≤ 256 → goes_on c found n [] ≡ found
  unfolding goes_on turns_ok total has_pair
  goes_last h = rw (add-zero n, le-leb n 256 h) (or_false found)

  module _ (x : Turn) (xs : List Turn) where
    pub core_above : 15 < x.core → goes_on c found n (x ∷ xs) ≡ false
    unfolding goes_on turns_ok
    core_above h = rw (lt-leb x.core 15 h)

    pub length_wrong : x.core ≤ 15 → within 1 128 x.length ≡ false → goes_on c found n (x ∷ xs) ≡ false
    unfolding goes_on turns_ok
    length_wrong k h = rw (le-leb x.core 15 k, h)

    pub sum_above : 256 < n + x.length → goes_on c found n (x ∷ xs) ≡ false
    unfolding goes_on total
    sum_above h = rw (lt-leb (n + (x.length + total xs)) 256 (omega arith)) (and_false (turns_ok (x ∷ xs)) (found || has_pair c (x ∷ xs)))

    sums : n + (x.length + total xs) ≡ n + x.length + total xs
    sums = omega arith

    -- a good pair of the core, and of another
    pub goes_found : x.core ≤ 15 → within 1 128 x.length ≡ true → x.core ≡ c → goes_on c found n (x ∷ xs) ≡ goes_on c true (n + x.length) xs
    unfolding goes_on turns_ok total has_pair
    goes_found h k e = rw (le-leb x.core 15 h, k, sums, eq-eqb x.core c e, or_true found)

    pub goes_other : x.core ≤ 15 → within 1 128 x.length ≡ true → ¬ (x.core ≡ c) → goes_on c found n (x ∷ xs) ≡ goes_on c found (n + x.length) xs
    unfolding goes_on turns_ok total has_pair
    goes_other h k e = rw (le-leb x.core 15 h, k, sums, ne_eqb x.core c e)
