-- What a tick does to one core, and that a tick, a write and a reset leave a state in range.
use mathlib.Core.Path.{◌≡◌, refl, sym, ◌∙◌, ap}
use mathlib.Core.Bool.{true, cond, ◌||◌}
use mathlib.Core.List.{List, [], ◌∷◌}
use native.Mathlib.Nat.{add-zero, mod-lt, mul-le-mul}
use native.Mathlib.Omega.{arith}
use borrow.Author.Tests.{leb-true, le-leb, lt-leb}
use lib.Dec.{leb, eqb}
use lib.ListN.{length, get_or, set, replicate}
use Prim.Native.Nat.{ℕ, zero, suc, ◌+◌, ◌-◌, ◌*◌, ◌≤◌, ◌<◌}
use Rattle.runs.specs.Slots.{Slots}
use Rattle.runs.proofs.Cases.{split, either}
use Rattle.device.specs.declared.Arbiter.{Arbiter}
use Rattle.device.specs.declared.Registers.{Registers}
use Rattle.device.specs.Device.{sized, busy, fits, flags_fit, all_fit, formed, clear, slots_of_core, starts_now, turned, count_down, fallen, stepped, stepped_from, ticked, cleared, with_registers}
use Rattle.device.proofs.Tests.{and_left, and_right, and_both}
use Rattle.device.proofs.Formed.{clear_fits, formed_true, formed_make, sized_true}

-- one that starts, and one that is running, counts down; any other stays
pub stepped_is : (v : Slots) (o : ℕ) (r : Registers) → stepped v o r ≡ cond (starts_now v o r || eqb r.flags 2) (count_down r) r
unfolding turned fallen count_down
stepped_is v o r = either (starts_now v o r) (λ t. rw t refl) (λ t. rw t refl)

pub stepped_clear : (v : Slots) (o : ℕ) → stepped v o clear ≡ clear
unfolding turned fallen starts_now
stepped_clear v o = refl

module _ (a : Arbiter) where
  -- each core's registers after a tick
  pub stepped_at : (rs : List Registers) (k i : ℕ) → get_or (stepped_from a k rs) i clear ≡ stepped (slots_of_core a (k + i)) a.offset (get_or rs i clear)
  unfolding stepped_from
  stepped_at [] k i = sym (stepped_clear (slots_of_core a (k + i)) a.offset)
  stepped_at (r ∷ rs) k zero = rw (add-zero k)
  stepped_at (r ∷ rs) k (suc i) = stepped_at rs (suc k) i ∙ ap (λ (n : ℕ). stepped (slots_of_core a n) a.offset (get_or rs i clear)) (omega arith)

  pub stepped_length : (rs : List Registers) (k : ℕ) → length (stepped_from a k rs) ≡ length rs
  unfolding stepped_from
  stepped_length [] k = refl
  stepped_length (r ∷ rs) k = ap suc (stepped_length rs (suc k))

run_fits : (slot : ℕ) (r : Registers) → fits slot r ≡ true → fits slot (count_down r) ≡ true
unfolding fits count_down flags_fit busy
run_fits slot r e =
    let l = leb-true r.length slot (and_left (leb r.length slot) _ e) in
    let m = and_left (leb r.mask 1) _ (and_right (leb r.length slot) _ e) in
    split r.length 1
    (λ h. rw (le-leb r.length 1 h) (and_both (le-leb 0 slot (omega arith)) (and_both m refl)))
    (λ h. rw (lt-leb r.length 1 h) (and_both (le-leb (r.length - 1) slot (omega arith)) (and_both m (le-leb 1 (r.length - 1) (omega arith)))))

stepped_fits : (slot : ℕ) (v : Slots) (o : ℕ) (r : Registers) → fits slot r ≡ true → fits slot (stepped v o r) ≡ true
stepped_fits slot v o r e =
    rw (stepped_is v o r) (either (starts_now v o r || eqb r.flags 2) (λ t. rw t (run_fits slot r e)) (λ t. rw t e))

stepped_all : (a : Arbiter) (rs : List Registers) (k : ℕ) → all_fit a.slot rs ≡ true → all_fit a.slot (stepped_from a k rs) ≡ true
unfolding stepped_from
stepped_all a [] k e = refl
stepped_all a (r ∷ rs) k e =
    and_both (stepped_fits a.slot (slots_of_core a k) a.offset r (and_left (fits a.slot r) _ e)) (stepped_all a rs (suc k) (and_right (fits a.slot r) _ e))

fits_set : (slot : ℕ) (rs : List Registers) (p : ℕ) (r : Registers) → all_fit slot rs ≡ true → fits slot r ≡ true → all_fit slot (set rs p r) ≡ true
fits_set slot [] p r e f = refl
fits_set slot (x ∷ xs) zero r e f = and_both f (and_right (fits slot x) _ e)
fits_set slot (x ∷ xs) (suc p) r e f = and_both (and_left (fits slot x) _ e) (fits_set slot xs p r (and_right (fits slot x) _ e) f)

all_clear : (slot n : ℕ) → all_fit slot (replicate n clear) ≡ true
all_clear slot zero = refl
all_clear slot (suc n) = and_both (clear_fits slot) (all_clear slot n)

-- the states that calls leave are in range
pub ticked_formed : (a : Arbiter) → formed a ≡ true → formed (ticked a) ≡ true
unfolding ticked
ticked_formed a e =
    let f = formed_true a e in
    formed_make (ticked a) (record { size = f.size; offset_lt = mod-lt (a.offset + 1) (omega (arith, f.offset_lt)); fit = stepped_all a a.registers 0 f.fit })

pub put_formed : (a : Arbiter) (p : ℕ) (r : Registers) → formed a ≡ true → fits a.slot r ≡ true → formed (with_registers a p r) ≡ true
put_formed a p r e g =
    let f = formed_true a e in
    formed_make (with_registers a p r) (record { size = f.size; offset_lt = f.offset_lt; fit = fits_set a.slot a.registers p r f.fit g })

pub cleared_formed : (cores slot : ℕ) → sized cores slot ≡ true → formed (cleared cores slot) ≡ true
unfolding cleared
cleared_formed cores slot e =
    let z = sized_true cores slot e in
    formed_make (cleared cores slot) (record { size = z; offset_lt = positive cores slot z.cores_least z.slot_least; fit = all_clear slot 16 })
  where
    positive : (c s : ℕ) → 2 ≤ c → 1 ≤ s → 0 < c * s
    positive c s h k = omega (arith, mul-le-mul h k)
