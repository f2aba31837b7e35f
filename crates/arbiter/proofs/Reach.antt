-- States reached by calls from a reset: in range, 16 cores, and a running access lies inside its core's slot. So no two cores are running.
use mathlib.Core.Path.{◌≡◌, refl, sym, ◌∙◌, ap, subst}
use mathlib.Core.Bool.{true, ◌||◌, false≢true}
use mathlib.Core.List.{List, [], ◌∷◌}
use mathlib.Core.Logic.{inr}
use native.Mathlib.Nat.{mod-eq_of_lt, mul-le-mul_right, suc-mul}
use native.Mathlib.Omega.{arith}
use borrow.Author.Tests.{leb-true, le-leb, lt-leb, eqb-true, eq-eqb}
use lib.Dec.{leb, eqb}
use lib.ListN.{length, get_or, set, length-set, get_or-eq_default, length-replicate, replicate}
use lib.Seq.{get_or-set_same}
use Prim.Native.Nat.{ℕ, zero, suc, ◌+◌, ◌%◌, ◌≤◌, ◌<◌}
use Rattle.runs.specs.Slots.{Slots, first, period_of, in_slot}
use Rattle.runs.proofs.Cases.{split, either}
use Rattle.device.specs.declared.Arbiter.{Arbiter}
use Rattle.device.specs.declared.Registers.{Registers}
use Rattle.device.specs.Device.{sized, formed, clear, registers_of, slots_of_core, starts_now, count_down, stepped, ticked, cleared, with_registers}
use Rattle.arbiter.specs.declared.Call.{Call}
use Rattle.arbiter.specs.declared.Call.TheVariants.{Read, Line, Write, Tick, Reset}
use Rattle.arbiter.specs.Calls.{after, after_all}
use Rattle.arbiter.specs.Sequences.{Reached, fresh, next}
use Rattle.device.proofs.Tests.{and_left, and_right, or_right, or_cases, same}
use Rattle.device.proofs.Formed.{formed_true, well_formed}
use Rattle.device.proofs.Steps.{stepped_is, stepped_clear, ticked_formed, cleared_formed}
use Rattle.arbiter.proofs.Kept.{read_leaves, line_leaves, Wrote, not_at_all, put_there, Rewritten, waits, keeps, wrote, Frame, wrote_frame, wrote_other, tick_leaves, ticked_registers, ticked_length, reset_leaves, reset_refused}

-- what is left of a running access lies inside its core's slot
abbrev pub Inside : Slots → ℕ → Registers → Type 0
Inside v o r = r.flags ≡ 2 → (first v ≤ o) × (o + r.length ≤ first v + v.slot)

pub record Sane (a : Arbiter) : Type 0 where
  pub formed_is : formed a ≡ true
  pub cores_all : length a.registers ≡ 16
  pub inside : (p : ℕ) → Inside (slots_of_core a p) a.offset (registers_of a p)
  -- an unused core's registers are clear
  pub unused : (p : ℕ) → a.cores ≤ p → registers_of a p ≡ clear

clears : (n p : ℕ) → get_or (replicate n clear) p clear ≡ clear
clears zero p = refl
clears (suc n) zero = refl
clears (suc n) (suc p) = clears n p

cleared_sane : (cores slot : ℕ) → sized cores slot ≡ true → Sane (cleared cores slot)
unfolding cleared
cleared_sane cores slot e = record {
  formed_is = cleared_formed cores slot e;
  cores_all = length-replicate 16 clear;
  inside = λ p f. let z : ◌≡◌ {A = ℕ} 0 2 = sym (ap (λ (r : Registers). r.flags) (clears 16 p)) ∙ f in absurd (omega arith);
  unused = λ p l. clears 16 p;
}

-- a running length is at least 1
running_length : (a : Arbiter) → Sane a → (p : ℕ) → (registers_of a p).flags ≡ 2 → 1 ≤ (registers_of a p).length
running_length a s p e = ((well_formed a s.formed_is).each_fit p).busy_length (inr e)

starts_inside : (v : Slots) (o : ℕ) (r : Registers) → starts_now v o r ≡ true → (first v ≤ o) × (o + r.length ≤ first v + v.slot)
unfolding starts_now in_slot
starts_inside v o r e =
    let i = and_right (eqb r.flags 1) _ e in
    (leb-true (first v) o (and_left (leb (first v) o) _ i), leb-true (o + r.length) (first v + v.slot) (and_right (leb (first v) o) _ i))

-- a core whose slot has begun is a core of the bus
slot_within : (v : Slots) (o : ℕ) → first v ≤ o → o < period_of v → first v + v.slot ≤ period_of v
slot_within v o h k =
    split v.cores v.core
    (λ l. absurd (omega (arith, mul-le-mul_right v.slot l)))
    (λ l. subst (λ (n : ℕ). n ≤ period_of v) (suc-mul v.core v.slot) (mul-le-mul_right v.slot l))

run_inside : (v : Slots) (o : ℕ) (r : Registers) → o < period_of v → (first v ≤ o) × (o + r.length ≤ first v + v.slot) → Inside v ((o + 1) % period_of v) (count_down r)
unfolding count_down
run_inside v o r lt (h, k) =
    split r.length 1
    (λ l. rw (le-leb r.length 1 l) (λ f. absurd (omega arith)))
    (λ l. rw (lt-leb r.length 1 l) (λ f.
    let m : (o + 1) % period_of v ≡ o + 1 = mod-eq_of_lt (omega (arith, slot_within v o h lt)) in
    rw m (omega arith, omega arith)))

stepped_inside : (v : Slots) (o : ℕ) (r : Registers) → o < period_of v → Inside v o r → Inside v ((o + 1) % period_of v) (stepped v o r)
stepped_inside v o r lt i =
    rw (stepped_is v o r) (either (starts_now v o r || eqb r.flags 2)
    (λ t. rw t (run_inside v o r lt (or_cases (starts_now v o r) (eqb r.flags 2) t (starts_inside v o r) (λ f. i (eqb-true r.flags 2 f)))))
    (λ t. rw t (λ f. absurd (false≢true (sym (or_right (starts_now v o r) (eqb r.flags 2) t) ∙ eq-eqb r.flags 2 f)))))

ticked_sane : (a : Arbiter) → Sane a → Sane (ticked a)
unfolding ticked
ticked_sane a s = record {
  formed_is = ticked_formed a s.formed_is;
  cores_all = ticked_length a ∙ s.cores_all;
  inside = λ p. rw (ticked_registers a p) (stepped_inside (slots_of_core a p) a.offset (registers_of a p) (formed_true a s.formed_is).offset_lt (s.inside p));
  unused = λ p l. ticked_registers a p ∙ ap (stepped (slots_of_core a p) a.offset) (s.unused p l) ∙ stepped_clear (slots_of_core a p) a.offset;
}

wrote_sane : (q : ℕ) (a b : Arbiter) → Wrote q a b → Sane a → Sane b
wrote_sane q a b not_at_all s = s
wrote_sane q a b (put_there r l f g t) s =
    let n = wrote_frame q a (with_registers a q r) (put_there r l f g t) in
    record { formed_is = ap (λ (x : Frame). x.in_range) n ∙ s.formed_is; cores_all = ap (λ (x : Frame). x.many) n ∙ s.cores_all; inside = λ p. there p; unused = λ p k. wrote_other p q a (with_registers a q r) (λ i. absurd (omega arith)) (put_there r l f g t) ∙ s.unused p k }
  where
    turned : (r₀ : Registers) → Rewritten r₀ r → Inside (slots_of_core a q) a.offset r₀ → Inside (slots_of_core a q) a.offset r
    turned r₀ (waits b' e) i f = let z : ◌≡◌ {A = ℕ} 1 2 = sym e ∙ f in absurd (omega arith)
    turned r₀ (keeps e l) i f = rw l (i (sym e ∙ f))

    there : (p : ℕ) → Inside (slots_of_core a p) a.offset (registers_of (with_registers a q r) p)
    there p =
        same p q
        (λ e. split (length a.registers) p
        (λ h. rw (out p h) (s.inside p))
        (λ h. rw (e, get_or-set_same a.registers q r clear (rw e at h)) (turned (registers_of a q) t (s.inside q))))
        (λ n. rw (wrote_other p q a (with_registers a q r) n (put_there r l f g t)) (s.inside p))
      where
        out : (p : ℕ) → length a.registers ≤ p → registers_of (with_registers a q r) p ≡ registers_of a p
        out p h = get_or-eq_default (set a.registers q r) clear (rw (length-set a.registers q r) h) ∙ sym (get_or-eq_default a.registers clear h)

pub reached_sane : {a : Arbiter} → Reached a → Sane a
reached_sane (fresh a cores slot e) = rw (reset_leaves cores slot a e) (cleared_sane cores slot e)
reached_sane (next {a} r c) = after_sane a c (reached_sane r)
  where
    after_sane : (a : Arbiter) (c : Call) → Sane a → Sane (after c a)
    after_sane a (Read p n) s = rw (read_leaves p n a) s
    after_sane a (Line p) s = rw (line_leaves p a) s
    after_sane a (Write p n v) s = wrote_sane p a (after (Write p n v) a) (wrote p n v a) s
    after_sane a Tick s = rw (tick_leaves a s.formed_is) (ticked_sane a s)
    after_sane a (Reset cores slot) s =
        either (sized cores slot)
        (λ e. rw (reset_leaves cores slot a e) (cleared_sane cores slot e))
        (λ e. rw (reset_refused cores slot a e) s)

-- in states reached by calls from a reset no two cores are running
pub one_running : {a : Arbiter} → Reached a → (p q : ℕ) → (registers_of a p).flags ≡ 2 → (registers_of a q).flags ≡ 2 → p ≡ q
one_running {a} re p q e g =
    let s = reached_sane re in
    let i = s.inside p e in
    let j = s.inside q g in
    let l = running_length a s p e in
    let m = running_length a s q g in
    split p q
    (λ h. split q p (λ k. omega arith)
    (λ k. absurd (omega (arith, mul-le-mul_right a.slot k, suc-mul p a.slot))))
    (λ h. absurd (omega (arith, mul-le-mul_right a.slot h, suc-mul q a.slot)))

-- calls lead on from a reached state to reached ones
pub reached_all : (cs : List Call) {a : Arbiter} → Reached a → Reached (after_all cs a)
unfolding after_all
reached_all [] r = r
reached_all (c ∷ cs) r = reached_all cs (next r c)
