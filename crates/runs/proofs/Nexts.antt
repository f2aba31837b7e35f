-- The wait by the stretches that an offset meets going on; it grows with the length of the access; and where the stretch of an owned offset begins.
use mathlib.Core.Path.{◌≡◌, sym, ◌∙◌, ap}
use mathlib.Core.Bool.{Bool, true, false, false≢true}
use native.Mathlib.Nat.{mod-eq_of_lt, mod-add-mod, add-zero}
use native.Mathlib.Omega.{arith}
use Prim.Native.Nat.{ℕ, ◌+◌, ◌-◌, ◌%◌, ◌≤◌, ◌<◌}
use Rattle.runs.specs.Schedules.{owns_next, owning}
use Rattle.runs.specs.Stretches.{IsRun, Begins, Stretched}
use Rattle.runs.proofs.Cases.{split, either}
use Rattle.runs.proofs.Waits.{wait_is}
use Rattle.runs.proofs.SchedulesLaws.{next_at, next_of, next_fewer, owning_lawful}
use Rattle.runs.proofs.StretchesLaws.{next_mod, lands}

-- on from x by a run, and by the gap after it
pub on_two : (P o gone x run end gap y : ℕ) → x ≡ (o + gone) % P → end ≡ (x + run) % P → y ≡ (end + gap) % P → y ≡ (o + (gone + (run + gap))) % P
on_two P o gone x run end gap y p q r =
    let z : o + gone + run + gap ≡ o + (gone + (run + gap)) = omega arith in
    r ∙ ap (λ (n : ℕ). (n + gap) % P) (q ∙ ap (λ (n : ℕ). (n + run) % P) p ∙ mod-add-mod (o + gone) P run)
    ∙ mod-add-mod (o + gone + run) P gap ∙ ap (λ (n : ℕ). n % P) z

module _ (P : ℕ) (own : ℕ → Bool) where
  -- from x on `run` cycles are owned, too few, and then `gap` are not: an access may start at none of them
  pub too_short : (x run gap e k : ℕ) → 1 ≤ e → IsRun P own x run → run < e → ((i : ℕ) → i < gap → own ((x + run + i) % P) ≡ false) → k < run + gap
      → owns_next P own e ((x + k) % P) ≡ false
  too_short x run gap e k p r few free l =
      either (owns_next P own e ((x + k) % P))
      (λ u.
      let t : owns_next P own e (x + k) ≡ true = sym (next_mod P own e (x + k)) ∙ u in
      split k run
      (λ m. let y : x + k + (run - k) ≡ x + run = omega arith in
      absurd (false≢true (sym r.ends ∙ sym (ap (λ (n : ℕ). own (n % P)) y) ∙ next_at P own e (x + k) t (run - k) (omega arith))))
      (λ m. let y : x + k + 0 ≡ x + run + (k - run) = omega arith in
      absurd (false≢true (sym (free (k - run) (omega arith)) ∙ sym (ap (λ (n : ℕ). own (n % P)) y) ∙ next_at P own e (x + k) t 0 p))))
      (λ f. f)

  -- a run holds what fits in it, and no more
  pub run_fits : (x r e : ℕ) → IsRun P own x r → owns_next P own e x ≡ true → e ≤ r
  run_fits x r e h t = split e r (λ l. l) (λ l. absurd (false≢true (sym h.ends ∙ next_at P own e x t r l)))

  pub run_holds : (x r e : ℕ) → IsRun P own x r → e ≤ r → owns_next P own e x ≡ true
  run_holds x r e h l = next_of P own e x (λ i m. h.owned i (omega arith))

  pub stretched_may : (x r e : ℕ) → Stretched P own x r → e ≤ r → e ≤ P → owns_next P own e x ≡ true
  stretched_may x r e h l m = next_of P own e x (λ i k. split P r (λ n. h.all n i (omega arith)) (λ n. (h.run n).owned i (omega arith)))

module _ (P : ℕ) (own : ℕ → Bool) (pos : 0 < P) where
  -- an access that may start after i cycles waits no longer
  pub wait_le : (e o i : ℕ) → 1 ≤ e → e ≤ (owning P own).most → o < P → owns_next P own e ((o + i) % P) ≡ true → (owning P own).wait e o ≤ i
  unfolding owning
  wait_le e o i p m l t =
      split ((owning P own).wait e o) i (λ h. h)
      (λ h. absurd (false≢true (sym ((wait_is (owning P own) (owning_lawful P own pos) e p m o l).1 i h) ∙ t)))

  pub wait_none : (e o : ℕ) → 1 ≤ e → e ≤ (owning P own).most → o < P → owns_next P own e o ≡ true → (owning P own).wait e o ≡ 0
  wait_none e o p m l t =
      let z : (o + 0) % P ≡ o = rw add-zero (mod-eq_of_lt l) in
      let h = wait_le e o 0 p m l (ap (owns_next P own e) z ∙ t) in omega arith

  pub wait_grows : (d e o : ℕ) → 1 ≤ d → d ≤ e → e ≤ (owning P own).most → o < P → (owning P own).wait d o ≤ (owning P own).wait e o
  wait_grows d e o p h m l =
      wait_le d o ((owning P own).wait e o) p (omega arith) l (next_fewer P own d e _ h (lands P own pos e o (omega arith) m l).starts)

  -- from x on `run` cycles are owned, too few, and then `gap` are not
  pub wait_skips : (e o gone x run gap : ℕ) → 1 ≤ e → e ≤ (owning P own).most → o < P → x ≡ (o + gone) % P → gone ≤ (owning P own).wait e o
      → IsRun P own x run → run < e → ((i : ℕ) → i < gap → own ((x + run + i) % P) ≡ false) → gone + (run + gap) ≤ (owning P own).wait e o
  wait_skips e o gone x run gap p m l place le r few free =
      let W = (owning P own).wait e o in
      split (gone + (run + gap)) W (λ h. h)
      (λ h.
      let z : o + gone + (W - gone) ≡ o + W = omega arith in
      let q : (x + (W - gone)) % P ≡ (o + W) % P = ap (λ (n : ℕ). (n + (W - gone)) % P) place ∙ mod-add-mod (o + gone) P (W - gone) ∙ ap (λ (n : ℕ). n % P) z in
      absurd (false≢true (sym (too_short P own x run gap e (W - gone) p r few free (omega arith)) ∙ ap (owns_next P own e) q ∙ (lands P own pos e o p m l).starts)))

-- ---- the begin of a stretch

-- a stretch that begins somewhere ends
pub begun : (P : ℕ) (own : ℕ → Bool) (a r : ℕ) → Begins P own a → Stretched P own a r → (r < P) × IsRun P own a r
begun P own a r b x =
    split P r
    (λ l. let z : a + (P - 1) ≡ a + P - 1 = omega (arith, b.low) in
    absurd (false≢true (sym b.before ∙ sym (ap (λ (y : ℕ). own (y % P)) z) ∙ x.all l (P - 1) (omega (arith, b.low)))))
    (λ l. (l, x.run l))
