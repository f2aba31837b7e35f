-- The first offset of a set before an offset, round the period.
use mathlib.Core.Path.{◌≡◌, sym, ◌∙◌, ap}
use mathlib.Core.Bool.{true, false}
use native.Mathlib.Nat.{mod-eq_of_lt, mod-lt, add-mod_right}
use native.Mathlib.Omega.{arith}
use lib.Pow.{pow_pos}
use Prim.Native.Nat.{ℕ, ◌+◌, ◌-◌, ◌%◌, ◌^◌, ◌≤◌, ◌<◌}
use Rattle.runs.proofs.Cases.{split}
use Rattle.offsets.specs.Sets.{has, Sized}
use Rattle.offsets.proofs.Members.{has_above, has_lt, has_mod}
use Rattle.bus.specs.Aheads.{Behind}

module _ (P n x : ℕ) (lt : x < P) (in_period : n < 2 ^ P) where
  -- i cycles back, within the period and round it
  near : (i : ℕ) → i ≤ x → (x + P - i) % P ≡ x - i
  near i l = ap (λ (k : ℕ). k % P) (let z : x + P - i ≡ (x - i) + P = omega arith in z) ∙ add-mod_right (x - i) P ∙ mod-eq_of_lt (omega arith)

  far : (i : ℕ) → x < i → i ≤ P → (x + P - i) % P ≡ x + P - i
  far i l m = mod-eq_of_lt (omega arith)

  -- below x
  below_has : (o : ℕ) → o < x → has (n % 2 ^ x) o ≡ has n o
  below_has o l = has_mod n o x l

  here_low : (h : ℕ) → Sized (n % 2 ^ x) h → h ≤ x
  here_low h s =
      split h x (λ l. l) (λ l. let k = has_lt (n % 2 ^ x) x (h - 1) (mod-lt n (pow_pos x)) (s.top (omega arith)) in omega arith)

  pub behind_here : (h : ℕ) → Sized (n % 2 ^ x) h → 0 < h → (h ≤ x + 1) × Behind P n x (x + 1 - h)
  behind_here h s p =
      let l = here_low h s in (
        omega arith,
        record {
          some = omega arith;
          passed = λ i a b c. ap (has n) (near i (omega arith)) ∙ sym (below_has (x - i) (omega arith)) ∙ has_above (n % 2 ^ x) h (x - i) s.fits (omega arith);
          found = λ a.
              let z : x - (x + 1 - h) ≡ h - 1 = omega arith in
              ap (has n) (near (x + 1 - h) (omega arith) ∙ z) ∙ sym (below_has (h - 1) (omega arith)) ∙ s.top p;
        },
      )

  -- none below x
  module _ (h : ℕ) (s : Sized (n % 2 ^ x) h) (none : h ≡ 0) (k : ℕ) (all : Sized n k) where
    low_free : (o : ℕ) → o < x → has n o ≡ false
    low_free o l = sym (below_has o l) ∙ has_above (n % 2 ^ x) h o s.fits (omega arith)

    pub high : k ≤ P
    high = split k P (λ l. l) (λ l. let m = has_lt n P (k - 1) in_period (all.top (omega arith)) in omega arith)

    pub behind_round : Behind P n x (x + P + 1 - k)
    behind_round =
        let t = high in
        record {
          some = omega arith;
          passed = λ i a b c.
              split i x
              (λ l. ap (has n) (near i l) ∙ low_free (x - i) (omega arith))
              (λ l. ap (has n) (far i l c) ∙ has_above n k (x + P - i) all.fits (omega arith));
          found = λ a.
              let z : x + P - (x + P + 1 - k) ≡ k - 1 = omega arith in
              let u : has n (k - 1) ≡ true = all.top (omega arith) in
              split (x + P + 1 - k) x
              (λ l. absurd (omega (arith, l, t)))
              (λ l. ap (has n) (far (x + P + 1 - k) l a ∙ z) ∙ u);
        }
