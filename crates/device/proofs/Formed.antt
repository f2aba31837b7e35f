-- What the tests of a state say in plain terms (specs/Conditions), and back.
use mathlib.Core.Path.{◌≡◌, refl, ◌∙◌}
use mathlib.Core.Logic.{◌⊎◌, inl, inr, ⊎_elim}
use mathlib.Core.Bool.{true, ◌&&◌, ◌||◌}
use mathlib.Core.List.{List, [], ◌∷◌}
use native.Mathlib.Omega.{arith}
use borrow.Author.Tests.{leb-true, ltb-true, lt-ltb, le-leb, eqb-true, eq-eqb}
use lib.Dec.{leb, ltb, eqb}
use lib.ListN.{get_or}
use Prim.Native.Nat.{ℕ, zero, suc, ◌*◌, ◌≤◌, ◌<◌}
use Rattle.schedule.proofs.Sayings.{ranges_kept, kept_ranges}
use Rattle.device.specs.declared.Arbiter.{Arbiter}
use Rattle.device.specs.declared.Registers.{Registers}
use Rattle.device.specs.Device.{sized, busy, flags_fit, fits, all_fit, formed, usable, clear, registers_of}
use Rattle.device.specs.WellFormed.{Sized, IsBusy, Fits, WellFormed}
use Rattle.device.proofs.Tests.{and_left, and_right, and_both, or_cases, or_first, or_second}

-- the ranges of tag 1
pub sized_true : (cores slot : ℕ) → sized cores slot ≡ true → Sized cores slot
sized_true cores slot e = ranges_kept (record { cores = cores; slot = slot; core = 0 }) e

pub true_sized : (cores slot : ℕ) → Sized cores slot → sized cores slot ≡ true
true_sized cores slot h = kept_ranges (record { cores = cores; slot = slot; core = 0 }) h

-- waiting or running
pub busy_true : (r : Registers) → busy r ≡ true → IsBusy r
unfolding busy
busy_true r e = or_cases (eqb r.flags 1) (eqb r.flags 2) e (λ h. inl (eqb-true r.flags 1 h)) (λ h. inr (eqb-true r.flags 2 h))

pub true_busy : (r : Registers) → IsBusy r → busy r ≡ true
unfolding busy
true_busy r e = ⊎_elim (λ h. or_first (eqb r.flags 1) _ (eq-eqb r.flags 1 h)) (λ h. or_second (eqb r.flags 1) _ (eq-eqb r.flags 2 h)) e

-- one core's registers
flags_said : (r : Registers) → flags_fit r ≡ true → (((r.flags ≡ 0) ⊎ (r.flags ≡ 4)) ⊎ IsBusy r) × (IsBusy r → 1 ≤ r.length)
unfolding flags_fit
flags_said r e =
    or_cases (eqb r.flags 0 || eqb r.flags 4) (busy r && leb 1 r.length) e
    (λ h. or_cases (eqb r.flags 0) (eqb r.flags 4) h
    (λ k. let z = eqb-true r.flags 0 k in (inl (inl z), λ b. absurd (⊎_elim (λ x. omega arith) (λ x. omega arith) b)))
    (λ k. let z = eqb-true r.flags 4 k in (inl (inr z), λ b. absurd (⊎_elim (λ x. omega arith) (λ x. omega arith) b))))
    (λ h. (inr (busy_true r (and_left (busy r) _ h)), λ b. leb-true 1 r.length (and_right (busy r) _ h)))

pub fits_true : (slot : ℕ) (r : Registers) → fits slot r ≡ true → Fits slot r
unfolding fits
fits_true slot r e =
    let m = and_right (leb r.length slot) _ e in
    let f = flags_said r (and_right (leb r.mask 1) _ m) in
    record {
      length_most = leb-true r.length slot (and_left (leb r.length slot) _ e);
      mask_most = leb-true r.mask 1 (and_left (leb r.mask 1) _ m);
      flags_one = f.0;
      busy_length = f.1;
    }

pub true_fits : (slot : ℕ) (r : Registers) → Fits slot r → fits slot r ≡ true
unfolding fits flags_fit
true_fits slot r f =
    let ended = eqb r.flags 0 || eqb r.flags 4 in
    and_both (le-leb r.length slot f.length_most) (and_both (le-leb r.mask 1 f.mask_most)
    (⊎_elim
    (λ h. or_first ended _ (⊎_elim (λ k. or_first (eqb r.flags 0) _ (eq-eqb r.flags 0 k)) (λ k. or_second (eqb r.flags 0) _ (eq-eqb r.flags 4 k)) h))
    (λ h. or_second ended _ (and_both (true_busy r h) (le-leb 1 r.length (f.busy_length h))))
    f.flags_one))

pub clear_fits : (slot : ℕ) → fits slot clear ≡ true
unfolding fits flags_fit
clear_fits slot = and_both (le-leb 0 slot (omega arith)) refl

-- those of all cores, by number
pub fits_at : (slot : ℕ) (rs : List Registers) (p : ℕ) → all_fit slot rs ≡ true → fits slot (get_or rs p clear) ≡ true
fits_at slot [] p e = clear_fits slot
fits_at slot (x ∷ xs) zero e = and_left (fits slot x) _ e
fits_at slot (x ∷ xs) (suc p) e = fits_at slot xs p (and_right (fits slot x) _ e)

each_fit : (slot : ℕ) (rs : List Registers) → ((p : ℕ) → fits slot (get_or rs p clear) ≡ true) → all_fit slot rs ≡ true
each_fit slot [] f = refl
each_fit slot (x ∷ xs) f = and_both (f 0) (each_fit slot xs (λ p. f (suc p)))

-- the state
pub record Formed (a : Arbiter) : Type 0 where
  pub size : Sized a.cores a.slot
  pub offset_lt : a.offset < a.cores * a.slot
  pub fit : all_fit a.slot a.registers ≡ true

pub formed_true : (a : Arbiter) → formed a ≡ true → Formed a
unfolding formed
formed_true a e =
    let e₁ = and_right (sized a.cores a.slot) _ e in
    record {
      size = sized_true a.cores a.slot (and_left (sized a.cores a.slot) _ e);
      offset_lt = ltb-true a.offset (a.cores * a.slot) (and_left (ltb a.offset (a.cores * a.slot)) _ e₁);
      fit = and_right (ltb a.offset (a.cores * a.slot)) _ e₁;
    }

pub well_formed : (a : Arbiter) → formed a ≡ true → WellFormed a
well_formed a e =
    let f = formed_true a e in
    record { size = f.size; offset_lt = f.offset_lt; each_fit = λ p. fits_true a.slot (registers_of a p) (fits_at a.slot a.registers p f.fit) }

module _ (a : Arbiter) where
  pub formed_fit : sized a.cores a.slot ≡ true → a.offset < a.cores * a.slot → formed a ≡ all_fit a.slot a.registers
  unfolding formed
  formed_fit e h = rw (e, lt-ltb a.offset (a.cores * a.slot) h)

  pub formed_make : Formed a → formed a ≡ true
  formed_make f = formed_fit (true_sized a.cores a.slot f.size) f.offset_lt ∙ f.fit

  pub formed_well : WellFormed a → formed a ≡ true
  formed_well w = formed_make (record {
    size = w.size;
    offset_lt = w.offset_lt;
    fit = each_fit a.slot a.registers (λ p. true_fits a.slot (registers_of a p) (w.each_fit p));
  })

  -- a core of a bus that is in range: its number, and the state
  pub usable_formed : (p : ℕ) → usable a p ≡ true → formed a ≡ true
  unfolding usable
  usable_formed p e = and_left (formed a) _ e

  pub usable_core : (p : ℕ) → usable a p ≡ true → p < a.cores
  unfolding usable
  usable_core p e = ltb-true p a.cores (and_right (formed a) _ e)

  pub usable_lt : (p : ℕ) → usable a p ≡ true → p < 16
  usable_lt p e = omega (arith, (formed_true a (usable_formed p e)).size.cores_most, usable_core p e)
