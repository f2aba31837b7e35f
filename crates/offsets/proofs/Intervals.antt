-- Offsets in a row, within the period and round it.
use mathlib.Core.Path.{◌≡◌, sym, ap, ◌∙◌, subst}
use mathlib.Core.Logic.{⊎_elim}
use mathlib.Core.Bool.{true}
use Prim.Native.Nat.{ℕ, ◌+◌, ◌-◌, ◌*◌, ◌%◌, ◌^◌, ◌≤◌, ◌<◌}
use native.Mathlib.Nat.{mod-lt, mod-eq_of_lt, add-mod_right, lt_of_lt_of_le}
use native.Mathlib.Omega.{arith}
use lib.Pow.{pow_pos, pow_mono}
use lib.Bits.{bit_or, or_lt}
use Rattle.offsets.specs.Sets.{has, Interval}
use Rattle.offsets.proofs.Powers.{lt_or_ge}
use Rattle.offsets.proofs.Members.{has_lt, has_mod, has_ones, same_members, in_or_left, in_or_right, from_or}
use Rattle.offsets.proofs.Raises.{in_up, from_up}

-- a set whose offsets are below p
pub low_lt : (k p n : ℕ) → p ≤ k → n < 2 ^ k → ((o : ℕ) → has n o ≡ true → o < p) → n < 2 ^ p
low_lt k p n l h f =
    let m : n % 2 ^ p < 2 ^ p = mod-lt n (pow_pos p) in
    subst (λ (x : ℕ). x < 2 ^ p)
    (sym (same_members k n (n % 2 ^ p) h (lt_of_lt_of_le m (pow_mono l))
    (λ o i t. has_mod n o p (f o t) ∙ t)
    (λ o i t. sym (has_mod n o p (has_lt (n % 2 ^ p) p o m t)) ∙ t))) m

ones_lt : (n : ℕ) → 2 ^ n - 1 < 2 ^ n
ones_lt n = omega (arith, pow_pos n)

-- n offsets from k on
abbrev pub in_row : ℕ → ℕ → ℕ
in_row k n = ((2 ^ n - 1) * 2 ^ k) % 2 ^ 256

row_has : (k n i : ℕ) → k + n ≤ 256 → i < n → has (in_row k n) (k + i) ≡ true
row_has k n i l m =
    subst (λ (x : ℕ). has (in_row k n) x ≡ true) (let z : i + k ≡ k + i = omega arith in z) (in_up (2 ^ n - 1) k i (omega arith) (has_ones n i m))

has_row : (k n o : ℕ) → has (in_row k n) o ≡ true → (i : ℕ) × (i < n) × (k + i ≡ o)
has_row k n o t = let (i, u, e) = from_up (2 ^ n - 1) k o t in (i, has_lt (2 ^ n - 1) n i (ones_lt n) u, omega arith)

row_lt : (p k n : ℕ) → k + n ≤ p → p ≤ 256 → in_row k n < 2 ^ p
row_lt p k n l m = low_lt 256 p (in_row k n) m (mod-lt _ (pow_pos 256)) (λ o t. let (i, j, e) = has_row k n o t in omega arith)

pub interval_here : (p k n : ℕ) → k < p → k + n ≤ p → p ≤ 256 → Interval p k n (in_row k n)
interval_here p k n low l m = record {
  within = row_lt p k n l m;
  all = λ i j. ap (has (in_row k n)) (mod-eq_of_lt (omega arith)) ∙ row_has k n i (omega arith) j;
  only = λ o t. let (i, j, e) = has_row k n o t in (i, j, mod-eq_of_lt (omega arith) ∙ e);
}

pub interval_round : (p k n : ℕ) → k < p → n ≤ p → p < k + n → p ≤ 256 → Interval p k n (bit_or (in_row k (p - k)) (2 ^ (k + n - p) - 1))
interval_round p k n low few l m =
    let a = in_row k (p - k) in
    let b = 2 ^ (k + n - p) - 1 in
    record {
      within = or_lt p a b (row_lt p k (p - k) (omega arith) m) (lt_of_lt_of_le (ones_lt (k + n - p)) (pow_mono (omega arith)));
      all = λ i j.
          ⊎_elim
          (λ (h : k + i < p). in_or_left a b ((k + i) % p) (ap (has a) (mod-eq_of_lt h) ∙ row_has k (p - k) i (omega arith) (omega arith)))
          (λ (h : p ≤ k + i).
          let z : k + i ≡ (k + i - p) + p = omega arith in
          let e : (k + i) % p ≡ k + i - p = ap (λ (x : ℕ). x % p) z ∙ add-mod_right (k + i - p) p ∙ mod-eq_of_lt (omega arith) in
          in_or_right a b ((k + i) % p) (ap (has b) e ∙ has_ones (k + n - p) (k + i - p) (omega arith)))
          (lt_or_ge (k + i) p);
      only = λ o t.
          ⊎_elim
          (λ (u : has a o ≡ true). let (i, j, e) = has_row k (p - k) o u in (i, omega arith, mod-eq_of_lt (omega arith) ∙ e))
          (λ (u : has b o ≡ true).
          let j = has_lt b (k + n - p) o (ones_lt (k + n - p)) u in
          let z : k + (o + p - k) ≡ o + p = omega arith in
          (o + p - k, omega arith, ap (λ (x : ℕ). x % p) z ∙ add-mod_right o p ∙ mod-eq_of_lt (omega arith)))
          (from_or a b o t);
    }
