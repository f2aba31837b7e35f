-- From a stretch over the gap after it to the next, which is so many cycles on.
use mathlib.Core.Path.{◌≡◌, sym, ◌∙◌, ap}
use mathlib.Core.Bool.{Bool, false, false≢true}
use native.Mathlib.Nat.{mod-lt, mod-eq_of_lt, add-mod_right, mod-add-mod, add-zero}
use native.Mathlib.Omega.{arith}
use Prim.Native.Nat.{ℕ, zero, suc, ◌+◌, ◌-◌, ◌%◌, ◌≤◌, ◌<◌}
use Rattle.runs.specs.Stretches.{IsRun, Begins, NextStretch}
use Rattle.runs.proofs.Cases.{split, either}
use Rattle.runs.proofs.Forward as forward
use Rattle.bus.proofs.Turned.{wrapped}

module _ (P : ℕ) (own : ℕ → Bool) (x len d y : ℕ) (begin : Begins P own x) (run : IsRun P own x len) (some : 1 ≤ d) (fits : d ≤ P) (place : y ≡ (x + d) % P)
    (next : Begins P own y) (none : (k : ℕ) → 1 ≤ k → k < d → Begins P own ((x + k) % P) → ⊥) where
  pos : 0 < P
  pos = omega (arith, begin.low)

  -- the offset before
  one_back : (k : ℕ) → 1 ≤ k → ((x + k) % P + P - 1) % P ≡ (x + (k - 1)) % P
  one_back k l =
      let a : (x + k) % P + P - 1 ≡ (x + k) % P + (P - 1) = omega (arith, pos) in
      let b : x + k + (P - 1) ≡ x + (k - 1) + P = omega (arith, pos) in
      ap (λ (n : ℕ). n % P) a ∙ mod-add-mod (x + k) P (P - 1) ∙ ap (λ (n : ℕ). n % P) b ∙ add-mod_right (x + (k - 1)) P

  before_y : own ((x + (d - 1)) % P) ≡ false
  before_y = sym (ap own (ap (λ (n : ℕ). (n + P - 1) % P) place ∙ one_back d some)) ∙ next.before

  -- the stretch ends before it
  short : len < d
  short = split d len (λ l. absurd (false≢true (sym before_y ∙ run.owned (d - 1) (omega arith)))) (λ l. l)

  -- and after its end no offset is owned, since none begins
  free : (i : ℕ) → len + i < d → own ((x + (len + i)) % P) ≡ false
  free zero l = rw add-zero run.ends
  free (suc i) l =
      either (own ((x + (len + suc i)) % P))
      (λ t. absurd (none (len + suc i) (omega arith) l record {
        low = mod-lt (x + (len + suc i)) pos;
        here = t;
        before = ap own (one_back (len + suc i) (omega arith)) ∙ ap (λ (n : ℕ). own ((x + n) % P)) (let z : len + suc i - 1 ≡ len + i = omega arith in z) ∙ free i (omega arith);
      }))
      (λ e. e)

  pub next_from : NextStretch P own x len (d - len) y
  next_from =
      let z : len + (d - len) ≡ d = omega (arith, short) in
      record {
        begins = begin;
        run = run;
        free = λ i l. free i (omega (arith, short));
        place = place ∙ ap (λ (n : ℕ). (x + n) % P) (sym z);
        next = next.here;
        fits = omega (arith, short, fits);
      }

-- ---- the gap, from where the stretch ends, not counted round the period, and where the next begins

module _ (P : ℕ) (own : ℕ → Bool) (x len gap y : ℕ) (c : NextStretch P own x len gap y) where
  pub gap_fits : x + len ≤ y + P
  gap_fits =
      split P (x + (len + gap))
      (λ h. let z = wrapped P (x + (len + gap)) h (omega (arith, c.fits, c.begins.low)) in omega (arith, z, c.place))
      (λ h. let z : (x + (len + gap)) % P ≡ x + (len + gap) = mod-eq_of_lt h in omega (arith, z, c.place))

  pub gap_on : x + len ≤ y → gap ≡ y - (x + len)
  gap_on l =
      split P (x + (len + gap))
      (λ h. absurd (let z = wrapped P (x + (len + gap)) h (omega (arith, c.fits, c.begins.low)) in omega (arith, z, c.place, c.fits, forward.some_len P own x len gap y c)))
      (λ h. let z : (x + (len + gap)) % P ≡ x + (len + gap) = mod-eq_of_lt h in omega (arith, z, c.place))

  pub gap_round : y < x + len → gap ≡ y + P - (x + len)
  gap_round l =
      split P (x + (len + gap))
      (λ h. let z = wrapped P (x + (len + gap)) h (omega (arith, c.fits, c.begins.low)) in omega (arith, z, c.place))
      (λ h. absurd (let z : (x + (len + gap)) % P ≡ x + (len + gap) = mod-eq_of_lt h in omega (arith, z, c.place)))
