-- The first offset of a set from an offset on, round the period; and what that says of the stretches.
use mathlib.Core.Path.{◌≡◌, sym, ◌∙◌, ap, subst}
use mathlib.Core.Bool.{Bool, true, false, not, ◌&&◌, false≢true}
use native.Mathlib.Nat.{mod-eq_of_lt, mod-lt, add-mod_right, mod-add-mod}
use native.Mathlib.Omega.{arith}
use lib.Bits.{bit_and}
use Prim.Native.Nat.{ℕ, ◌+◌, ◌-◌, ◌%◌, ◌≤◌, ◌<◌}
use Rattle.runs.specs.Stretches.{Stretched}
use Rattle.runs.proofs.Cases.{split}
use Rattle.runs.proofs.SchedulesLaws.{and_both}
use Rattle.offsets.specs.declared.Set.{Set}
use Rattle.offsets.specs.Sets.{value, has, turned_by, Lowest}
use Rattle.offsets.proofs.Members.{has_and}
use Rattle.offsets.proofs.Turns.{in_turned, from_turned}
use Rattle.bus.specs.declared.Bus.{Bus}
use Rattle.bus.specs.Aheads.{Ahead}
use Rattle.bus.specs.Owning.{Parted, Fit, Beginnings}
use Rattle.bus.proofs.Turned.{wrapped, false_of, true_of}

module _ (P n x k : ℕ) (lt : x < P) (most : P ≤ 256) (low : Lowest n x (x + 256) k) where
  pub ahead_here : k < P → (x ≤ k) × Ahead P n x (k - x)
  ahead_here l =
      let (h, t) = low.found (omega arith) in
      let e : x + (k - x) ≡ k = omega arith in (
        h,
        record {
          most = omega arith;
          passed = λ i m. ap (has n) (mod-eq_of_lt (omega arith)) ∙ low.passed (x + i) (omega arith) (omega arith);
          found = λ m. ap (λ (y : ℕ). has n (y % P)) e ∙ ap (has n) (mod-eq_of_lt l) ∙ t;
        },
      )

  module _ (past : P ≤ k) (j : ℕ) (again : Lowest n 0 256 j) where
    none_to : (i : ℕ) → i ≤ P → x + i < j + P → i < P → has n ((x + i) % P) ≡ false
    none_to i l h m =
        split P (x + i)
        (λ g. ap (has n) (wrapped P (x + i) g (omega arith)) ∙ again.passed (x + i - P) (omega arith) (omega arith))
        (λ g. ap (has n) (mod-eq_of_lt g) ∙ low.passed (x + i) (omega arith) (omega arith))

    pub ahead_again : j < x → (r : ℕ) → x + r ≡ j + P → Ahead P n x r
    ahead_again h r e = record {
      most = omega arith;
      passed = λ i l. none_to i (omega arith) (omega arith) (omega arith);
      found = λ l. let z : x + r - P ≡ j = omega arith in ap (has n) (wrapped P (x + r) (omega arith) (omega arith) ∙ z) ∙ (again.found (omega arith)).1;
    }

-- what judging has shown of a bus
pub parted : (b : Bus) → Fit b → Parted b.own b.rest b.period
parted b fit = record { least = fit.least; most = fit.most; own_in = fit.own_in; rest_in = fit.rest_in; apart = fit.apart; some = fit.some }

module _ {own rest : Set} {P : ℕ} (fit : Parted own rest P) where
  abbrev owns : ℕ → Bool
  owns o = has (value own) o

  abbrev pos : 0 < P
  pos = fit.least

  apart : (x : ℕ) → has (value rest) (x % P) ≡ not (owns (x % P))
  apart x = fit.apart (x % P) (mod-lt x pos)

  pub stretched : (a r : ℕ) → Ahead P (value rest) a r → Stretched P owns a r
  stretched a r x = record {
    run = λ l. record {
      owned = λ i m. true_of (owns ((a + i) % P)) (sym (apart (a + i)) ∙ x.passed i m);
      ends = false_of (owns ((a + r) % P)) (sym (apart (a + r)) ∙ x.found l);
    };
    all = λ l i m. true_of (owns ((a + i) % P)) (sym (apart (a + i)) ∙ x.passed i (omega arith));
  }

  -- some offset is owned
  pub gap_in : (a r : ℕ) → a < P → Ahead P (value own) a r → r < P
  gap_in a r l x =
      let (o, m, t) = fit.some in
      split P r
      (λ h. split a o
      (λ k. let z : a + (o - a) ≡ o = omega arith in
      absurd (false≢true (sym (x.passed (o - a) (omega arith)) ∙ ap (λ (y : ℕ). owns (y % P)) z ∙ ap owns (mod-eq_of_lt m) ∙ t)))
      (λ k. let z : a + (o + P - a) ≡ o + P = omega arith in
      absurd (false≢true (sym (x.passed (o + P - a) (omega arith)) ∙ ap (λ (y : ℕ). owns (y % P)) z ∙ ap owns (add-mod_right o P ∙ mod-eq_of_lt m) ∙ t))))
      (λ h. h)

  -- after the run from x on there is a gap
  module _ (x run end gap : ℕ) (place : end ≡ (x + run) % P) (h : Ahead P (value own) end gap) where
    pub gap_free : (i : ℕ) → i < gap → owns ((x + run + i) % P) ≡ false
    gap_free i l = ap owns (sym (mod-add-mod (x + run) P i) ∙ ap (λ (y : ℕ). (y + i) % P) (sym place)) ∙ h.passed i l

    pub gap_some : owns ((x + run) % P) ≡ false → gap < P → 1 ≤ gap
    gap_some f l =
        split 1 gap (λ m. m)
        (λ m. let z : end + gap ≡ end = omega arith in
        let y : (end + gap) % P ≡ (x + run) % P = ap (λ (n : ℕ). n % P) z ∙ mod-eq_of_lt (subst (λ (n : ℕ). n < P) (sym place) (mod-lt (x + run) pos)) ∙ place in
        absurd (false≢true (sym f ∙ sym (ap owns y) ∙ h.found l)))

  -- ---- where a stretch begins

  before_on : (o : ℕ) → o < P → ((o + 1) % P + P - 1) % P ≡ o
  before_on o l =
      let y : (o + 1) % P + P - 1 ≡ (o + 1) % P + (P - 1) = omega (arith, pos) in
      let z : o + 1 + (P - 1) ≡ o + P = omega (arith, pos) in
      ap (λ (x : ℕ). x % P) y ∙ mod-add-mod (o + 1) P (P - 1) ∙ ap (λ (x : ℕ). x % P) z ∙ add-mod_right o P ∙ mod-eq_of_lt l

  on_before : (a : ℕ) → a < P → ((a + P - 1) % P + 1) % P ≡ a
  on_before a l =
      let z : a + P - 1 + 1 ≡ a + P = omega (arith, pos) in
      mod-add-mod (a + P - 1) P 1 ∙ ap (λ (x : ℕ). x % P) z ∙ add-mod_right a P ∙ mod-eq_of_lt l

  pub beginning : (r : Set) → value r ≡ bit_and (value own) (turned_by P 1 (value rest)) → Beginnings P own r
  beginning r e a l = (
    λ h.
        let (t, u) = and_both (owns a) (has (turned_by P 1 (value rest)) a) (sym (here a) ∙ h) in
        let (o, m, v, q) = from_turned P 1 (value rest) a u in
        record {
          low = l;
          here = t;
          before =
              subst (λ (y : ℕ). owns ((y + P - 1) % P) ≡ false) q
              (ap owns (before_on o m) ∙ false_of (owns o) (sym (fit.apart o m) ∙ v));
        },
    λ x.
        let m : (a + P - 1) % P < P = mod-lt (a + P - 1) pos in
        let v : has (value rest) ((a + P - 1) % P) ≡ true = apart (a + P - 1) ∙ ap not x.before in
        let u : has (turned_by P 1 (value rest)) a ≡ true =
        subst (λ (y : ℕ). has (turned_by P 1 (value rest)) y ≡ true) (on_before a l) (in_turned P 1 (value rest) ((a + P - 1) % P) m v) in
        here a ∙ ap (λ t. t && has (turned_by P 1 (value rest)) a) x.here ∙ u,
  )
    where
      here : (a : ℕ) → has (value r) a ≡ (owns a && has (turned_by P 1 (value rest)) a)
      here a = ap (λ (n : ℕ). has n a) e ∙ has_and (value own) (turned_by P 1 (value rest)) a
