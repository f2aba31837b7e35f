-- An access that waits starts where a stretch begins; and from which offsets it waits for one.
use mathlib.Core.Path.{◌≡◌, sym, ◌∙◌, ap}
use mathlib.Core.Bool.{Bool, true, false≢true}
use lib.Dec.{leb}
use borrow.Author.Tests.{le-leb, lt-leb}
use native.Mathlib.Nat.{mod-eq_of_lt, mod-lt, add-mod_right, mod-add-mod, add-zero}
use native.Mathlib.Omega.{arith}
use Prim.Native.Nat.{ℕ, ◌+◌, ◌-◌, ◌%◌, ◌≤◌, ◌<◌}
use Rattle.runs.specs.Schedules.{every, owns_next, owning}
use Rattle.runs.specs.Stretches.{IsRun, Begins, Open}
use Rattle.runs.proofs.Cases.{split, either}
use Rattle.runs.proofs.Waits.{wait_is, wait_only, wait_lt}
use Rattle.runs.proofs.SchedulesLaws.{next_at, next_of, owning_lawful}

module _ (P : ℕ) (own : ℕ → Bool) where
  -- ---- runs

  pub run_may : (x r e : ℕ) → IsRun P own x r → owns_next P own e x ≡ leb e r
  run_may x r e h =
      split e r
      (λ l. next_of P own e x (λ i m. h.owned i (omega arith)) ∙ sym (le-leb e r l))
      (λ l. either (owns_next P own e x)
      (λ t. absurd (false≢true (sym h.ends ∙ next_at P own e x t r l)))
      (λ t. t ∙ sym (lt-leb e r l)))

  -- an offset may stand for itself or for a later round
  pub next_mod : (e x : ℕ) → owns_next P own e (x % P) ≡ owns_next P own e x
  unfolding owns_next
  next_mod e x = ap (λ (f : ℕ → Bool). every e f) (λ i k. own (mod-add-mod x P k i))

  module _ (pos : 0 < P) where
    -- ---- waits

    -- the offset w cycles before a, and i cycles later
    back_on : (a w i : ℕ) → a < P → w < P → i ≤ w → ((a + P - w) % P + i) % P ≡ (a + P - (w - i)) % P
    back_on a w i l m h =
        mod-add-mod (a + P - w) P i ∙ ap (λ (n : ℕ). n % P) (let z : a + P - w + i ≡ a + P - (w - i) = omega arith in z)

    back_none : (a : ℕ) → a < P → (a + P - 0) % P ≡ a
    back_none a l = let z : a + P - 0 ≡ a + P = omega arith in rw (z, add-mod_right) (mod-eq_of_lt l)

    -- from w cycles before a, an access waits w cycles where it may start at a and at none of the offsets before
    pub wait_to : (e a w : ℕ) → 1 ≤ e → e ≤ (owning P own).most → a < P → w < P → owns_next P own e a ≡ true → Open P own e a w
        → (owning P own).wait e ((a + P - w) % P) ≡ w
    unfolding owning
    wait_to e a w p le l m t shut =
        wait_only (owning P own) (owning_lawful P own pos) e p le ((a + P - w) % P) (mod-lt _ pos) w (
          ap (owns_next P own e) (back_on a w w l m (omega arith) ∙ (let z : w - w ≡ 0 = omega arith in rw z (back_none a l))) ∙ t,
          λ i k. ap (owns_next P own e) (back_on a w i l m (omega arith)) ∙ shut (w - i) (omega arith) (omega arith),
        )

    -- where an access from o starts, and what lies between
    pub record Lands (e o w : ℕ) : Type 0 where
      pub few : w < P
      pub starts : owns_next P own e ((o + w) % P) ≡ true
      pub from : ((o + w) % P + P - w) % P ≡ o
      pub opens : Open P own e ((o + w) % P) w

    on_back : (o w i : ℕ) → o < P → w < P → i ≤ w → ((o + w) % P + P - i) % P ≡ (o + (w - i)) % P
    on_back o w i l m h =
        split P (o + w)
        (λ k.
        let z : o + w ≡ (o + w - P) + P = omega arith in
        let y : (o + w) % P ≡ o + w - P = ap (λ (n : ℕ). n % P) z ∙ add-mod_right (o + w - P) P ∙ mod-eq_of_lt (omega arith) in
        rw y (ap (λ (n : ℕ). n % P) (let u : o + w - P + P - i ≡ o + (w - i) = omega arith in u)))
        (λ k.
        let y : (o + w) % P ≡ o + w = mod-eq_of_lt k in
        let u : o + w + P - i ≡ (o + (w - i)) + P = omega arith in
        rw (y, u) (add-mod_right (o + (w - i)) P))

    pub lands : (e o : ℕ) → 1 ≤ e → e ≤ (owning P own).most → o < P → Lands e o ((owning P own).wait e o)
    unfolding owning
    lands e o p le l =
        let w = (owning P own).wait e o in
        let m : w < P = wait_lt (owning P own) (owning_lawful P own pos) e p le o l in
        let h = wait_is (owning P own) (owning_lawful P own pos) e p le o l in
        record {
          few = m;
          starts = h.0;
          from = on_back o w w l m (omega arith) ∙ (let z : o + (w - w) ≡ o = omega arith in rw z (mod-eq_of_lt l));
          opens = λ i a b. ap (owns_next P own e) (on_back o w i l m b) ∙ h.1 (w - i) (omega arith);
        }

    -- a stretch begins there, if the access waits at all
    pub lands_begin : (e o w : ℕ) → 1 ≤ e → 1 ≤ w → Lands e o w → Begins P own ((o + w) % P)
    lands_begin e o w p k h =
        let a = (o + w) % P in
        let lt : a < P = mod-lt (o + w) pos in
        let here : own a ≡ true = (let z : (a + 0) % P ≡ a = rw add-zero (mod-eq_of_lt lt) in sym (ap own z) ∙ next_at P own e a h.starts 0 p) in
        record {
          low = lt;
          here = here;
          before =
              either (own ((a + P - 1) % P))
              (λ t. absurd (false≢true (sym (h.opens 1 (omega arith) k)
              ∙ next_mod e (a + P - 1)
              ∙ next_of P own e (a + P - 1) (λ i l.
              split 1 i
              (λ n. let z : a + P - 1 + i ≡ (a + (i - 1)) + P = omega arith in
              rw (z, add-mod_right) (next_at P own e a h.starts (i - 1) (omega arith)))
              (λ n. let z : a + P - 1 + i ≡ a + P - 1 = omega arith in rw z t)))))
              (λ f. f);
        }
