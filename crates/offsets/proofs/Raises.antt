-- A set moved up by members: each offset that stays below 256, and nothing else; and so for a range of durations.
use mathlib.Core.Path.{◌≡◌, sym, ap, ◌∙◌, subst}
use mathlib.Core.Logic.{⊎_elim}
use mathlib.Core.Bool.{true, false, false≢true}
use Prim.Native.Nat.{ℕ, ◌+◌, ◌-◌, ◌*◌, ◌%◌, ◌^◌, ◌≤◌, ◌<◌}
use native.Mathlib.Nat.{add-zero, add_comm, mod-lt}
use native.Mathlib.Omega.{arith}
use lib.Pow.{pow_pos}
use lib.Bits.{bit_or}
use Rattle.offsets.specs.Sets.{bit, has, Raised}
use Rattle.offsets.proofs.Powers.{lt_or_ge}
use Rattle.offsets.proofs.Digits.{bit_low, bit_high}
use Rattle.offsets.proofs.Members.{same_has, has_none, has_mod, has_lt, in_or_left, in_or_right, from_or}

up_high : (n k o : ℕ) → has (n * 2 ^ k) (o + k) ≡ has n o
up_high n k o =
    same_has (n * 2 ^ k) (o + k) n o
    (ap (λ (x : ℕ). bit x (o + k)) (sym (add-zero (n * 2 ^ k))) ∙ ap (bit (n * 2 ^ k + 0)) (add_comm o k) ∙ bit_high n 0 k o (pow_pos k))

up_low : (n k o : ℕ) → o < k → has (n * 2 ^ k) o ≡ false
up_low n k o l =
    same_has (n * 2 ^ k) o 0 o (ap (λ (x : ℕ). bit x o) (sym (add-zero (n * 2 ^ k))) ∙ bit_low n 0 o k l) ∙ has_none o

pub in_up : (n k o : ℕ) → o + k < 256 → has n o ≡ true → has ((n * 2 ^ k) % 2 ^ 256) (o + k) ≡ true
in_up n k o l t = has_mod (n * 2 ^ k) (o + k) 256 l ∙ up_high n k o ∙ t

pub from_up : (n k j : ℕ) → has ((n * 2 ^ k) % 2 ^ 256) j ≡ true → (o : ℕ) × (has n o ≡ true) × (o + k ≡ j)
from_up n k j t =
    let l = has_lt ((n * 2 ^ k) % 2 ^ 256) 256 j (mod-lt (n * 2 ^ k) (pow_pos 256)) t in
    let u : has (n * 2 ^ k) j ≡ true = sym (has_mod (n * 2 ^ k) j 256 l) ∙ t in
    ⊎_elim
    (λ (a : j < k). absurd (false≢true (sym (up_low n k j a) ∙ u)))
    (λ (a : k ≤ j).
    let z : j - k + k ≡ j = omega arith in
    (j - k, sym (up_high n k (j - k)) ∙ ap (has (n * 2 ^ k)) z ∙ u, z))
    (lt_or_ge j k)

-- one duration
pub raised_one : (n lo : ℕ) → Raised n lo 1 ((n * 2 ^ lo) % 2 ^ 256)
raised_one n lo = record {
  all = λ o i t l m.
      let z : lo + i ≡ lo = omega arith in
      subst (λ (x : ℕ). has ((n * 2 ^ lo) % 2 ^ 256) (o + x) ≡ true) (sym z) (in_up n lo o (omega arith) t);
  only = λ j t. let (o, u, e) = from_up n lo j t in (o, 0, omega arith, u, omega arith);
}

-- the durations that are there moved up by as many, or fewer, are the next ones
pub raised_double : (n lo k s m : ℕ) → s ≤ k → Raised n lo k m → Raised n lo (k + s) (bit_or m ((m * 2 ^ s) % 2 ^ 256))
raised_double n lo k s m h x = record {
  all = λ o i t l b.
      ⊎_elim
      (λ (a : i < k). in_or_left m M (o + (lo + i)) (x.all o i t a b))
      (λ (a : k ≤ i).
      let z : o + (lo + (i - s)) + s ≡ o + (lo + i) = omega arith in
      in_or_right m M (o + (lo + i))
      (subst (λ (y : ℕ). has M y ≡ true) z (in_up m s (o + (lo + (i - s))) (omega arith) (x.all o (i - s) t (omega arith) (omega arith)))))
      (lt_or_ge i k);
  only = λ j t.
      ⊎_elim
      (λ (a : has m j ≡ true). let (o, i, l, u, e) = x.only j a in (o, i, omega arith, u, e))
      (λ (a : has M j ≡ true).
      let (y, v, e) = from_up m s j a in
      let (o, i, l, u, q) = x.only y v in
      (o, i + s, omega arith, u, omega arith))
      (from_or m M j t);
}
  where
    M : ℕ
    M = (m * 2 ^ s) % 2 ^ 256
