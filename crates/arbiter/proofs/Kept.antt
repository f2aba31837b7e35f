-- What each call keeps: the state of other cores, the numbers of the bus, and that a state is in range.
use mathlib.Core.Path.{◌≡◌, refl, sym, ◌∙◌, ap, subst}
use mathlib.Core.Bool.{Bool, true, false, cond, ◌&&◌}
use native.Mathlib.Omega.{arith}
use lib.Dec.{leb, ltb, eqb}
use lib.ListN.{length, set, length-set, length-replicate}
use lib.Seq.{get_or-set_other}
use Prim.Native.Nat.{ℕ, ◌<◌}
use Rattle.runs.proofs.Cases.{either}
use Rattle.device.specs.declared.Arbiter.{Arbiter}
use Rattle.arbiter.specs.declared.Outcome.{Outcome}
use Rattle.device.specs.declared.Registers.{Registers}
use Rattle.refusals.specs.declared.Refusal.TheVariants.{Register}
use Rattle.device.specs.Device.{sized, fits, flags_fit, formed, usable, clear, registers_of, slots_of_core, stepped, ticked, writable, busy, cleared, with_registers}
use Rattle.arbiter.specs.declared.Call.{Call}
use Rattle.arbiter.specs.declared.Call.TheVariants.{Read, Line, Write, Tick, Reset}
use Rattle.arbiter.specs.Calls.{outcome, after, written, refuse, leave}
use Rattle.device.proofs.Tests.{and_left, and_right, and_both, cond_of}
use Rattle.device.proofs.Formed.{fits_at, formed_true, usable_formed, usable_core}
use Rattle.device.proofs.Steps.{stepped_at, stepped_length, ticked_formed, put_formed, cleared_formed}

-- what holds of equal branches of two holds of the two
pub cond_both {ℓ ℓ'} : {X : Type ℓ} (P : X → X → Type ℓ') {t u : Bool} → t ≡ u → {x y x' y' : X} → P x x' → P y y' → P (cond t x y) (cond u x' y')
cond_both {X} P {t} {u} e {x} {y} {x'} {y'} f g = subst (λ (w : Bool). P (cond t x y) (cond w x' y')) e (at t)
  where
    at : (w : Bool) → P (cond w x y) (cond w x' y')
    at true = f
    at false = g

-- a read leaves the state
pub read_leaves : (p n : ℕ) (a : Arbiter) → after (Read p n) a ≡ a
unfolding outcome
read_leaves p n a = cond_of (λ (o : Outcome). o.state ≡ a) (usable a p && ltb n 3) (λ t. refl) (λ t. refl)

pub line_leaves : (p : ℕ) (a : Arbiter) → after (Line p) a ≡ a
unfolding outcome
line_leaves p a = cond_of (λ (o : Outcome). o.state ≡ a) (usable a p) (λ t. refl) (λ t. refl)

-- What a write makes of a core's registers: one that is not busy is waiting, or length and flags are kept.
pub data Rewritten (r : Registers) : Registers → Type 0 where
  waits : {r' : Registers} → busy r ≡ false → r'.flags ≡ 1 → Rewritten r r'
  keeps : {r' : Registers} → r'.flags ≡ r.flags → r'.length ≡ r.length → Rewritten r r'

-- A write leaves the state, or other registers of its core, in range.
pub data Wrote (p : ℕ) (a : Arbiter) : Arbiter → Type 0 where
  not_at_all : Wrote p a a
  put_there : (r : Registers) → p < a.cores → formed a ≡ true → fits a.slot r ≡ true → Rewritten (registers_of a p) r → Wrote p a (with_registers a p r)

length_fits : (slot v m : ℕ) → leb 1 v && leb v slot ≡ true → leb m 1 ≡ true → fits slot (record { length = v; flags = 1; mask = m }) ≡ true
unfolding fits flags_fit busy
length_fits slot v m e k = and_both (and_right (leb 1 v) _ e) (and_both k (and_left (leb 1 v) _ e))

mask_fits : (slot m : ℕ) (r : Registers) → fits slot r ≡ true → leb m 1 ≡ true → fits slot (record { length = r.length; flags = r.flags; mask = m }) ≡ true
unfolding fits flags_fit busy
mask_fits slot m r e k =
    and_both (and_left (leb r.length slot) _ e) (and_both k (and_right (leb r.mask 1) _ (and_right (leb r.length slot) _ e)))

mask_of : (slot : ℕ) (r : Registers) → fits slot r ≡ true → leb r.mask 1 ≡ true
unfolding fits flags_fit busy
mask_of slot r e = and_left (leb r.mask 1) _ (and_right (leb r.length slot) _ e)

written_wrote : (p n v : ℕ) (a : Arbiter) → p < a.cores → formed a ≡ true → writable a.slot n v ≡ true → Wrote p a (written p n v a).state
unfolding written writable
written_wrote p n v a l f w =
    let g = fits_at a.slot a.registers p (formed_true a f).fit in
    either (eqb n 0)
    (λ z. rw z (cond_of (λ (o : Outcome). Wrote p a o.state) (busy (registers_of a p)) (λ t. not_at_all) (λ t. put_there _ l f (length_fits a.slot v _ (rw z at w) (mask_of a.slot (registers_of a p) g)) (waits t refl))))
    (λ z. rw z (put_there _ l f (mask_fits a.slot v (registers_of a p) g (and_right (eqb n 2) _ (rw z at w))) (keeps refl refl)))

pub wrote : (p n v : ℕ) (a : Arbiter) → Wrote p a (after (Write p n v) a)
unfolding outcome
wrote p n v a =
    cond_of (λ (o : Outcome). Wrote p a o.state) _
    (λ t. written_wrote p n v a (usable_core a p (and_left (usable a p) _ t)) (usable_formed a p (and_left (usable a p) _ t)) (and_right (usable a p) _ t))
    (λ t. not_at_all)

-- what all cores see of a state: its numbers, whether it is in range, and how many cores' registers it has
pub record Frame : Type 0 where
  pub cores : ℕ
  pub slot : ℕ
  pub offset : ℕ
  pub in_range : Bool
  pub many : ℕ

abbrev pub frame_of : Arbiter → Frame
frame_of a = record { cores = a.cores; slot = a.slot; offset = a.offset; in_range = formed a; many = length a.registers }

-- a write keeps it
pub wrote_frame : (p : ℕ) (a b : Arbiter) → Wrote p a b → frame_of b ≡ frame_of a
wrote_frame p a b not_at_all = refl
wrote_frame p a b (put_there r l f g h) =
    let in_range : formed (with_registers a p r) ≡ formed a = put_formed a p r f g ∙ sym f in
    let many : length (set a.registers p r) ≡ length a.registers = length-set a.registers p r in
    λ i. record { cores = a.cores; slot = a.slot; offset = a.offset; in_range = in_range i; many = many i }

pub wrote_other : (p q : ℕ) (a b : Arbiter) → (p ≡ q → ⊥) → Wrote q a b → registers_of b p ≡ registers_of a p
wrote_other p q a b n not_at_all = refl
wrote_other p q a b n (put_there r l f g h) = get_or-set_other a.registers q p r clear n

-- a tick of a state in range
pub tick_leaves : (a : Arbiter) → formed a ≡ true → after Tick a ≡ ticked a
unfolding outcome
tick_leaves a f = ap (λ (t : Bool). (cond t (leave (ticked a)) (refuse Register a)).state) f

pub tick_refused : (a : Arbiter) → formed a ≡ false → after Tick a ≡ a
unfolding outcome
tick_refused a f = ap (λ (t : Bool). (cond t (leave (ticked a)) (refuse Register a)).state) f

pub ticked_registers : (a : Arbiter) (p : ℕ) → registers_of (ticked a) p ≡ stepped (slots_of_core a p) a.offset (registers_of a p)
unfolding ticked
ticked_registers a p = stepped_at a a.registers 0 p ∙ ap (λ (n : ℕ). stepped (slots_of_core a n) a.offset (registers_of a p)) (omega arith)

pub ticked_length : (a : Arbiter) → length (ticked a).registers ≡ length a.registers
unfolding ticked
ticked_length a = stepped_length a a.registers 0

pub reset_leaves : (cores slot : ℕ) (a : Arbiter) → sized cores slot ≡ true → after (Reset cores slot) a ≡ cleared cores slot
unfolding outcome
reset_leaves cores slot a e = ap (λ (t : Bool). (cond t (leave (cleared cores slot)) (refuse Register a)).state) e

pub reset_refused : (cores slot : ℕ) (a : Arbiter) → sized cores slot ≡ false → after (Reset cores slot) a ≡ a
unfolding outcome
reset_refused cores slot a e = ap (λ (t : Bool). (cond t (leave (cleared cores slot)) (refuse Register a)).state) e

-- the registers of 16 cores stay those of 16 cores
pub sixteen : (c : Call) (a : Arbiter) → length a.registers ≡ 16 → length (after c a).registers ≡ 16
unfolding cleared
sixteen (Read p n) a e = ap (λ (b : Arbiter). length b.registers) (read_leaves p n a) ∙ e
sixteen (Line p) a e = ap (λ (b : Arbiter). length b.registers) (line_leaves p a) ∙ e
sixteen (Write p n v) a e = ap (λ (f : Frame). f.many) (wrote_frame p a (after (Write p n v) a) (wrote p n v a)) ∙ e
sixteen Tick a e =
    either (formed a)
    (λ f. ap (λ (b : Arbiter). length b.registers) (tick_leaves a f) ∙ ticked_length a ∙ e)
    (λ f. ap (λ (b : Arbiter). length b.registers) (tick_refused a f) ∙ e)
sixteen (Reset cores slot) a e =
    either (sized cores slot)
    (λ z. ap (λ (b : Arbiter). length b.registers) (reset_leaves cores slot a z) ∙ length-replicate 16 clear)
    (λ z. ap (λ (b : Arbiter). length b.registers) (reset_refused cores slot a z) ∙ e)

-- a state in range stays so, whatever the call
pub formed_still : (c : Call) (a : Arbiter) → formed a ≡ true → formed (after c a) ≡ true
formed_still (Read p n) a e = ap formed (read_leaves p n a) ∙ e
formed_still (Line p) a e = ap formed (line_leaves p a) ∙ e
formed_still (Write p n v) a e = ap (λ (f : Frame). f.in_range) (wrote_frame p a (after (Write p n v) a) (wrote p n v a)) ∙ e
formed_still Tick a e = ap formed (tick_leaves a e) ∙ ticked_formed a e
formed_still (Reset cores slot) a e =
    either (sized cores slot)
    (λ z. ap formed (reset_leaves cores slot a z) ∙ cleared_formed cores slot z)
    (λ z. ap formed (reset_refused cores slot a z) ∙ e)
