-- Sets by what holds of their members.
use mathlib.Core.Path.{◌≡◌, sym, ap, ◌∙◌, subst}
use mathlib.Core.Logic.{◌⊎◌, inl, inr, ⊎_elim}
use mathlib.Core.Bool.{true, false, false≢true}
use lib.Bits.{bit_or, or_lt}
use lib.Pow.{pow_pos, pow_mono}
use native.Mathlib.Nat.{add-sub_of_le, mod-add-mod, lt_of_lt_of_le}
use native.Mathlib.Omega.{arith}
use Prim.Native.Nat.{ℕ, ◌+◌, ◌-◌, ◌%◌, ◌^◌, ◌≤◌, ◌<◌}
use Rattle.offsets.specs.Sets.{has, turned_by, turned_range, Interval}
use Rattle.offsets.proofs.Members.{has_none, has_lt, in_or_left, in_or_right, from_or}
use Rattle.offsets.proofs.Turns.{in_turned, from_turned, turned_lt, in_range, from_range, range_lt}
use Rattle.exits.specs.Exits.{SetOf, Reaches, EndsFrom}

-- where each gives the other
pub set_same : (P m : ℕ) (Q R : ℕ → Type 0) → ((j : ℕ) → Q j → R j) → ((j : ℕ) → R j → Q j) → SetOf P Q m → SetOf P R m
set_same P m Q R f g x = record { within = x.within; all = λ j r. x.all j (g j r); only = λ j t. f j (x.only j t) }

-- 0 has no member
pub zero_within : (P m : ℕ) → m ≡ 0 → m < 2 ^ P
zero_within P m is = subst (λ (n : ℕ). n < 2 ^ P) (sym is) (pow_pos P)

pub zero_has : (m j : ℕ) → m ≡ 0 → has m j ≡ false
zero_has m j is = ap (λ (n : ℕ). has n j) is ∙ has_none j

pub set_none : (P m : ℕ) (Q : ℕ → Type 0) → m ≡ 0 → ((j : ℕ) → Q j → ⊥) → SetOf P Q m
set_none P m Q is f = record {
  within = zero_within P m is;
  all = λ j q. absurd (f j q);
  only = λ j t. absurd (false≢true (sym (zero_has m j is) ∙ t));
}

pub set_join : (P a b m : ℕ) (Q R : ℕ → Type 0) → m ≡ bit_or a b → SetOf P Q a → SetOf P R b → SetOf P (λ j. Q j ⊎ R j) m
set_join P a b m Q R is x y = record {
  within = subst (λ (n : ℕ). n < 2 ^ P) (sym is) (or_lt P a b x.within y.within);
  all = λ j. elim [
    | inl q ↦ ap (λ (n : ℕ). has n j) is ∙ in_or_left a b j (x.all j q)
    | inr r ↦ ap (λ (n : ℕ). has n j) is ∙ in_or_right a b j (y.all j r)
  ];
  only = λ j t.
      ⊎_elim
      (λ (u : has a j ≡ true). inl (x.only j u))
      (λ (u : has b j ≡ true). inr (y.only j u))
      (from_or a b j (sym (ap (λ (n : ℕ). has n j) is) ∙ t));
}

pub set_wider : (k P m : ℕ) (Q : ℕ → Type 0) → k ≤ P → SetOf k Q m → SetOf P Q m
set_wider k P m Q l x = record { within = lt_of_lt_of_le x.within (pow_mono l); all = x.all; only = x.only }

-- moved on by d
pub set_turn : (P d n m : ℕ) (Q : ℕ → Type 0) → 0 < P → m ≡ turned_by P d n → SetOf P Q n → SetOf P (λ o. (j : ℕ) × Q j × ((j + d) % P ≡ o)) m
set_turn P d n m Q pos is x = record {
  within = subst (λ (v : ℕ). v < 2 ^ P) (sym is) (turned_lt P d n pos);
  all = λ o (j, q, e).
      ap (λ (v : ℕ). has v o) is ∙ subst (λ (z : ℕ). has (turned_by P d n) z ≡ true) e (in_turned P d n j (has_lt n P j x.within (x.all j q)) (x.all j q));
  only = λ o h. let (j, l, t, e) = from_turned P d n o (sym (ap (λ (v : ℕ). has v o) is) ∙ h) in (j, x.only j t, e);
}

-- Equation 5: a range of turns
pub set_range : (P n lo hi m : ℕ) → 0 < P → lo ≤ hi → m ≡ turned_range P lo (hi + 1 - lo) n → SetOf P (Reaches P (λ d o. d) n lo hi) m
set_range P n lo hi m pos h is = record {
  within = subst (λ (v : ℕ). v < 2 ^ P) (sym is) (range_lt P lo (hi + 1 - lo) n pos);
  all = λ j (d, o, k, l, i, t, q).
      ap (λ (v : ℕ). has v j) is
      ∙ subst (λ (x : ℕ). has (turned_range P lo (hi + 1 - lo) n) x ≡ true) (ap (λ (x : ℕ). (o + x) % P) (add-sub_of_le k) ∙ q)
      (in_range P lo (hi + 1 - lo) n o (d - lo) i t (omega arith));
  only = λ j e.
      let (i, o, k, l, t, q) = from_range P lo (hi + 1 - lo) n j (sym (ap (λ (v : ℕ). has v j) is) ∙ e) in
      (lo + i, o, omega arith, omega arith, l, t, q);
}

-- ends in a row
pub set_row : (P y least top from many m : ℕ) → from ≡ (y + least) % P → least ≤ top → many ≡ top + 1 - least → Interval P from many m → SetOf P (EndsFrom P y least top) m
set_row P y least top from many m place l count x = record {
  within = x.within;
  all = λ j (d, h, k, q).
      let z : y + least + (d - least) ≡ y + d = omega arith in
      subst (λ (o : ℕ). has m o ≡ true) (on (d - least) ∙ ap (λ (o : ℕ). o % P) z ∙ q) (x.all (d - least) (omega arith));
  only = λ j t.
      let (i, h, e) = x.only j t in
      let z : y + (least + i) ≡ y + least + i = omega arith in
      (least + i, omega arith, omega arith, ap (λ (o : ℕ). o % P) z ∙ sym (on i) ∙ e);
}
  where
    on : (i : ℕ) → (from + i) % P ≡ (y + least + i) % P
    on i = ap (λ (o : ℕ). (o + i) % P) place ∙ mod-add-mod (y + least) P i
