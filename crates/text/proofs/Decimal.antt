-- `decimal` against io's digits: both take the digits of n / 10 and one more, and the fewest digits end where `places` does, at a number below 10.
-- Its length: n below 10 ^ k has at most k digits.
use mathlib.Core.Path.{◌≡◌, refl}
use mathlib.Core.Bool.{Bool, true, false}
use Prim.Native.Nat.{ℕ, zero, suc, ◌+◌, ◌/◌, ◌%◌, ◌^◌, ◌≤◌, ◌<◌}
use native.Mathlib.Nat.{pow-suc, mod-eq_of_lt}
use native.Mathlib.Numerals.{sub-one}
use native.Mathlib.Omega.{arith}
use lib.Dec.{ltb}
use lib.ListN.{length, length-append}
use borrow.Author.Tests.{lt-ltb, ltb-true, ltb-false}
use Rattle.io.specs.Digits.{hex_digit_ascii, last_digits, IsDigitCount}
use Rattle.text.specs.Text.{places, decimal}

-- the code of a decimal digit
glyph_code : (d : ℕ) → d < 10 → hex_digit_ascii d ≡ 48 + d
glyph_code d h = rw (lt-ltb d 10 h)

-- k is below 10 ^ k
below_pow : (k : ℕ) → k < 10 ^ k
below_pow zero = omega arith
below_pow (suc k) = rw pow-suc (omega (arith, below_pow k))

-- 1 is the fewest digits of a number below 10
few_one : (n k : ℕ) → n < 10 → IsDigitCount 10 1 n k → k ≡ 1
few_one n zero h e = omega arith
few_one n (suc zero) h e = refl
few_one n (suc (suc k)) h e =
    let p : 10 ^ suc k ≤ n = rw sub-one at (e.2 (omega arith)) in
    omega (arith, below_pow k, rw pow-suc at p)

-- a number from 10 on has two digits or more, and n / 10 has one less
few_less : (n k : ℕ) → 10 ≤ n → IsDigitCount 10 1 n (suc k) → IsDigitCount 10 1 (n / 10) k
few_less n zero h e = omega (arith, rw pow-suc at e.1)
few_less n (suc k) h e =
    let p : 10 ^ suc k ≤ n = rw sub-one at (e.2 (omega arith)) in
    (omega arith, (let q = rw pow-suc at e.1 in omega arith), λ g. rw sub-one (let q = rw pow-suc at p in omega arith))

-- both go by n / 10
same_digits : (f k n : ℕ) (b : Bool) → ltb n 10 ≡ b → k ≤ f → IsDigitCount 10 1 n k → last_digits 10 k n ≡ places f n b
unfolding places
same_digits zero k n b t h e = absurd (omega arith)
same_digits (suc f) k n true t h e =
    let l = ltb-true n 10 t in
    rw (few_one n k l e, mod-eq_of_lt l, glyph_code n l)
same_digits (suc f) zero n false t h e = absurd (omega arith)
same_digits (suc f) (suc k) n false t h e =
    rw (same_digits f k (n / 10) (ltb (n / 10) 10) refl (omega arith) (few_less n k (ltb-false n 10 t) e), glyph_code (n % 10) (omega arith))

-- the fewest digits are no more than n + 1
few_most : (n k : ℕ) → IsDigitCount 10 1 n k → k ≤ suc n
few_most n zero e = omega arith
few_most n (suc zero) e = omega arith
few_most n (suc (suc k)) e =
    let p : 10 ^ suc k ≤ n = rw sub-one at (e.2 (omega arith)) in
    omega (arith, below_pow (suc k))

pub decimal_digits : (n k : ℕ) → IsDigitCount 10 1 n k → last_digits 10 k n ≡ decimal n
unfolding decimal
decimal_digits n k e = same_digits (suc n) k n (ltb n 10) refl (few_most n k e) e

-- n below 10 ^ k has at most k digits
places_most : (f k n : ℕ) (b : Bool) → ltb n 10 ≡ b → n < 10 ^ k → 0 < k → length (places f n b) ≤ k
unfolding places
places_most zero k n b t h g = omega arith
places_most (suc f) k n true t h g = omega arith
places_most (suc f) zero n false t h g = omega arith
places_most (suc f) (suc zero) n false t h g = omega (arith, ltb-false n 10 t)
places_most (suc f) (suc (suc k)) n false t h g =
    let l : n / 10 < 10 ^ suc k = let p = rw pow-suc at h in omega arith in
    rw length-append (omega (arith, places_most f (suc k) (n / 10) (ltb (n / 10) 10) refl l (omega arith)))

-- a 64-bit number has at most 20 digits
pub decimal_most : (n : ℕ) → n < 2 ^ 64 → length (decimal n) ≤ 20
unfolding decimal
decimal_most n h = places_most (suc n) 20 n (ltb n 10) refl (omega arith) (omega arith)

-- an offset below 256 has at most 3
pub offset_most : (o : ℕ) → o < 256 → length (decimal o) ≤ 3
unfolding decimal
offset_most o h = places_most (suc o) 3 o (ltb o 10) refl (omega arith) (omega arith)
