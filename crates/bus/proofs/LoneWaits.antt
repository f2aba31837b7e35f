-- Equation 7's three cases of the wait, where the core owns one stretch that does not go round the period: before it, inside it, and after the last
-- offset at which an access may start.
use mathlib.Core.Path.{◌≡◌, sym, ◌∙◌, ap, subst}
use mathlib.Core.Bool.{true, false, false≢true}
use native.Mathlib.Nat.{mod-eq_of_lt, mod-lt, add-mod_right}
use native.Mathlib.Omega.{arith}
use Prim.Native.Nat.{ℕ, ◌+◌, ◌-◌, ◌%◌, ◌≤◌, ◌<◌}
use Rattle.runs.specs.Schedules.{owns_next, owning}
use Rattle.runs.proofs.Cases.{split, either}
use Rattle.runs.proofs.Waits.{wait_only}
use Rattle.runs.proofs.SchedulesLaws.{next_at, next_of, most_fits, cycles_to, owning_lawful}
use Rattle.runs.proofs.Nexts.{wait_none}
use Rattle.bus.specs.declared.Bus.{Bus}
use Rattle.bus.specs.Owning.{owns, bus_meant, Fit, Alone}
use Rattle.bus.proofs.Turned.{wrapped}
use Rattle.bus.proofs.LoneStretch.{on_out}

module _ (b : Bus) (fit : Fit b) (only : ℕ) (x : Alone b only) where
  abbrev P : ℕ
  P = b.period

  abbrev f : ℕ
  f = b.first

  -- from an offset at which some cycle of the next e is not owned, an access may not start
  shut : (e y i : ℕ) → i < e → owns b ((y + i) % P) ≡ false → owns_next P (owns b) e y ≡ false
  shut e y i l h = either (owns_next P (owns b) e y) (λ t. absurd (false≢true (sym h ∙ next_at P (owns b) e y t i l))) (λ t. t)

  -- no access is longer than the stretch
  pub lone_most : (e : ℕ) → 1 ≤ e → e ≤ b.most → e ≤ only
  lone_most e p l =
      let (o, k, h) = most_fits P (owns b) e p (subst (λ (n : ℕ). e ≤ n) fit.longest l) in
      let g = (o + P - f) % P in
      let few : g < P = mod-lt (o + P - f) fit.least in
      let place = cycles_to P f o x.low k in
      let none : (i : ℕ) → i < e → only ≤ g + i → g + i < P → ⊥ = λ i m u v. false≢true (sym (on_out b only x o g few place i u v) ∙ next_at P (owns b) e o h i m) in
      split e only (λ m. m)
      (λ m. split only g
      (λ n. absurd (none 0 p (omega arith) (omega arith)))
      (λ n. absurd (none (only - g) (omega arith) (omega arith) (omega (arith, x.less)))))

  module _ (e o : ℕ) (long : 1 ≤ e) (le : e ≤ b.most) (lt : o < P) (fits : f + only ≤ P) where
    within : e ≤ only
    within = lone_most e long le

    permitted : e ≤ (bus_meant b).most
    permitted = subst (λ (n : ℕ). e ≤ n) fit.longest le

    may : (y : ℕ) → f ≤ y → y + e ≤ f + only → owns_next P (owns b) e y ≡ true
    may y l m =
        next_of P (owns b) e y (λ i k.
        ap (λ (n : ℕ). owns b (n % P)) (let z : y + i ≡ f + (y - f + i) = omega arith in z) ∙ x.held (y - f + i) (omega arith))

    not_before : (y : ℕ) → y < f → owns_next P (owns b) e y ≡ false
    not_before y l =
        let z : y + 0 + P ≡ f + (y + P - f) = omega (arith, x.low) in
        shut e y 0 long (ap (owns b) (sym (add-mod_right (y + 0) P) ∙ ap (λ (n : ℕ). n % P) z) ∙ x.free (y + P - f) (omega (arith, x.low)) (omega (arith, x.low)))

    not_after : (y : ℕ) → f ≤ y → y < P → f + only < y + e → owns_next P (owns b) e y ≡ false
    not_after y l m h =
        split y (f + only)
        (λ k. let z : y + (f + only - y) ≡ f + only = omega arith in
        shut e y (f + only - y) (omega arith) (ap (λ (n : ℕ). owns b (n % P)) z ∙ x.free only (omega arith) x.less))
        (λ k. let z : y + 0 ≡ f + (y - f) = omega arith in
        shut e y 0 long (ap (λ (n : ℕ). owns b (n % P)) z ∙ x.free (y - f) (omega arith) (omega arith)))

    at_first : (n : ℕ) → n % P ≡ f → owns_next P (owns b) e (n % P) ≡ true
    at_first n q = ap (owns_next P (owns b) e) q ∙ may f (omega arith) (omega (arith, within))

    -- before the stretch
    pub case_before : o < f → (bus_meant b).wait e o ≡ f - o
    unfolding owning
    case_before h =
        wait_only (owning P (owns b)) (owning_lawful P (owns b) fit.least) e long permitted o lt (f - o) (
          at_first (o + (f - o)) ((let z : o + (f - o) ≡ f = omega arith in rw z (mod-eq_of_lt x.low))),
          λ i k. ap (owns_next P (owns b) e) (mod-eq_of_lt (omega (arith, x.low))) ∙ not_before (o + i) (omega arith),
        )

    -- inside it, with room for e cycles
    pub case_inside : f ≤ o → o ≤ f + only - e → (bus_meant b).wait e o ≡ 0
    case_inside h k = wait_none P (owns b) fit.least e o long permitted lt (may o h (omega (arith, within)))

    -- after that
    pub case_after : f + only - e < o → (bus_meant b).wait e o ≡ f + P - o
    unfolding owning
    case_after h =
        wait_only (owning P (owns b)) (owning_lawful P (owns b) fit.least) e long permitted o lt (f + P - o) (
          at_first (o + (f + P - o)) ((let z : o + (f + P - o) ≡ f + P = omega arith in rw (z, add-mod_right) (mod-eq_of_lt x.low))),
          λ i k. split P (o + i)
              (λ m. ap (owns_next P (owns b) e) (wrapped P (o + i) m (omega (arith, x.low))) ∙ not_before (o + i - P) (omega arith))
              (λ m. ap (owns_next P (owns b) e) (mod-eq_of_lt m) ∙ not_after (o + i) (omega (arith, within)) m (omega arith)),
        )
