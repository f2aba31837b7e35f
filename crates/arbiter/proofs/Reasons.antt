-- A call is refused if and only if the condition for it holds, and with 15 before 16.
use mathlib.Core.Path.{◌≡◌, refl, sym, ◌∙◌, subst}
use mathlib.Core.Bool.{Bool, true, false, ◌&&◌, false≢true}
use native.Mathlib.Omega.{arith}
use borrow.Author.Tests.{ltb-true, lt-leb, le-leb, lt-ltb, ne_eqb, eq-eqb, eqb-true}
use lib.Dec.{leb, ltb, eqb}
use Prim.Native.Nat.{ℕ, zero, suc, ◌≤◌, ◌<◌}
use Rattle.runs.proofs.Cases.{either, split}
use Rattle.refusals.specs.declared.Refusal.TheVariants.{Register, Busy}
use Rattle.device.specs.declared.Arbiter.{Arbiter}
use Rattle.arbiter.specs.declared.Outcome.{Outcome}
use Rattle.device.specs.Device.{sized, formed, usable, registers_of, register_at, line_of, writable, busy}
use Rattle.arbiter.specs.declared.Call.{Call}
use Rattle.arbiter.specs.declared.Call.TheVariants.{Read, Line, Write, Tick, Reset}
use Rattle.arbiter.specs.Calls.{outcome, written, refuse, after, answer, done, refused, told}
use Rattle.arbiter.specs.Conditions.{Misnamed, read_core, read_register, line_core, write_core, write_register, write_flags, no_length, length_above, mask_above, reset_size, AsksState, RefusedFor, misnamed, malformed, still_busy}
use Rattle.device.proofs.Tests.{and_left, and_right, and_both, cond_of}
use Rattle.device.proofs.Formed.{sized_true, true_sized, well_formed, formed_well, busy_true, true_busy, usable_formed, usable_core}

-- ---- what may be written

fails : {t : Bool} → t ≡ false → t ≡ true → ⊥
fails e f = false≢true (sym e ∙ f)

not_writable : (a : Arbiter) (p n v : ℕ) → writable a.slot n v ≡ false → Misnamed a (Write p n v)
unfolding writable
not_writable a p zero zero e = no_length
not_writable a p zero (suc v) e = length_above (split (suc v) a.slot (λ h. absurd (fails e (and_both (le-leb 1 (suc v) (omega arith)) (le-leb (suc v) a.slot h)))) (λ h. h))
not_writable a p (suc zero) v e = write_flags
not_writable a p (suc (suc zero)) v e = mask_above (split v 1 (λ h. absurd (fails e (le-leb v 1 h))) (λ h. h))
not_writable a p (suc (suc (suc n))) v e = let h : 3 ≤ suc (suc (suc n)) = omega arith in write_register h

no_such_register : (slot n v : ℕ) → 3 ≤ n → writable slot n v ≡ false
unfolding writable
no_such_register slot n v h = rw (ne_eqb n 0 (λ e. omega arith), ne_eqb n 2 (λ e. omega arith))

writable_named : (a : Arbiter) (p n v : ℕ) → p < a.cores → writable a.slot n v ≡ true → Misnamed a (Write p n v) → ⊥
unfolding writable
writable_named a p n v l w (write_core h) = omega arith
writable_named a p n v l w (write_register h) = fails (no_such_register a.slot n v h) w
writable_named a p n v l w (write_flags) = false≢true w
writable_named a p n v l w (no_length) = false≢true w
writable_named a p n v l w (length_above h) = fails (lt-leb v a.slot h) (and_right (leb 1 v) _ w)
writable_named a p n v l w (mask_above h) = fails (lt-leb v 1 h) w

-- ---- the three ways of a call

pub data Judged (c : Call) (a : Arbiter) : Outcome → Type 0 where
  register : RefusedFor a c 15 → Judged c a (refuse Register a)
  busy_still : RefusedFor a c 16 → Judged c a (refuse Busy a)
  answered : {o : Outcome} → ((n : ℕ) → RefusedFor a c n → ⊥) → ((n place : ℕ) → told o.reply ≡ refused n place → ⊥) → Judged c a o

-- a value or a state is no refusal
not_refused : (v n place : ℕ) → done v ≡ refused n place → ⊥
not_refused v n place e = let z : ◌≡◌ {A = ℕ} 0 1 = cc in omega arith

-- a state that is not in range, and a core that the bus has not
unusable : (c : Call) (a : Arbiter) (p : ℕ) → AsksState c → (a.cores ≤ p → Misnamed a c) → usable a p ≡ false → RefusedFor a c 15
unfolding usable
unusable c a p asks no-core e =
    either (formed a)
    (λ f. misnamed (no-core (split a.cores p (λ h. h) (λ h. absurd (fails e (and_both f (lt-ltb p a.cores h)))))))
    (λ f. malformed asks (λ w. fails f (formed_well a w)))

-- a state in range and a call that names what there is: 15 does not hold, and 16 of a length while busy alone
holds_not : (c : Call) (a : Arbiter) → formed a ≡ true → (Misnamed a c → ⊥) → (RefusedFor a c 16 → ⊥) → (n : ℕ) → RefusedFor a c n → ⊥
holds_not c a f named b r (misnamed m) = named m
holds_not c a f named b r (malformed asks n) = n (well_formed a f)
holds_not c a f named b r (still_busy w m i) = b (still_busy w m i)

read_named : (a : Arbiter) (p n : ℕ) → p < a.cores → n < 3 → Misnamed a (Read p n) → ⊥
read_named a p n l k (read_core h) = omega arith
read_named a p n l k (read_register h) = omega arith

line_named : (a : Arbiter) (p : ℕ) → p < a.cores → Misnamed a (Line p) → ⊥
line_named a p l (line_core h) = omega arith

tick_named : (a : Arbiter) → Misnamed a Tick → ⊥
tick_named a m = elim m [ ]

-- a call is Busy only if it writes a length
busy_read : (a : Arbiter) (p n : ℕ) → RefusedFor a (Read p n) 16 → ⊥
busy_read a p n x = elim x [ ]

busy_line : (a : Arbiter) (p : ℕ) → RefusedFor a (Line p) 16 → ⊥
busy_line a p x = elim x [ ]

busy_tick : (a : Arbiter) → RefusedFor a Tick 16 → ⊥
busy_tick a x = elim x [ ]

busy_write : (a : Arbiter) (p n v : ℕ) → RefusedFor a (Write p n v) 16 → (n ≡ 0) × (busy (registers_of a p) ≡ true)
busy_write a p n v (still_busy w m i) = (refl, true_busy (registers_of a p) i)

judged_read : (p n : ℕ) (a : Arbiter) → Judged (Read p n) a (outcome (Read p n) a)
unfolding outcome
judged_read p n a =
    cond_of (Judged (Read p n) a) (usable a p && ltb n 3)
    (λ t. let u = and_left (usable a p) _ t in
    answered
    (holds_not (Read p n) a (usable_formed a p u) (read_named a p n (usable_core a p u) (ltb-true n 3 (and_right (usable a p) _ t))) (busy_read a p n))
    (not_refused (register_at n (registers_of a p))))
    (λ t. register (either (usable a p)
    (λ u. misnamed (read_register (split 3 n (λ h. h) (λ h. absurd (fails t (and_both u (lt-ltb n 3 h)))))))
    (λ u. unusable (Read p n) a p tt (λ h. read_core h) u)))

judged_line : (p : ℕ) (a : Arbiter) → Judged (Line p) a (outcome (Line p) a)
unfolding outcome
judged_line p a =
    cond_of (Judged (Line p) a) (usable a p)
    (λ u. answered (holds_not (Line p) a (usable_formed a p u) (line_named a p (usable_core a p u)) (busy_line a p)) (not_refused (line_of (registers_of a p))))
    (λ u. register (unusable (Line p) a p tt (λ h. line_core h) u))

judged_written : (p n v : ℕ) (a : Arbiter) → formed a ≡ true → (Misnamed a (Write p n v) → ⊥) → Judged (Write p n v) a (written p n v a)
unfolding written
judged_written p n v a f named =
    either (eqb n 0)
    (λ z. let e : n ≡ 0 = eqb-true n 0 z in
    rw z (cond_of (Judged (Write p n v) a) (busy (registers_of a p))
    (λ b. busy_still (subst (λ (m : ℕ). RefusedFor a (Write p m v) 16) (sym e)
    (still_busy (well_formed a f) (subst (λ (m : ℕ). Misnamed a (Write p m v) → ⊥) e named) (busy_true (registers_of a p) b))))
    (λ b. answered (holds_not (Write p n v) a f named (λ x. fails b (busy_write a p n v x).1)) (not_refused 0))))
    (λ z. rw z (answered (holds_not (Write p n v) a f named (λ x. fails z (eq-eqb n 0 (busy_write a p n v x).0))) (not_refused 0)))

judged_write : (p n v : ℕ) (a : Arbiter) → Judged (Write p n v) a (outcome (Write p n v) a)
unfolding outcome
judged_write p n v a =
    cond_of (Judged (Write p n v) a) (usable a p && writable a.slot n v)
    (λ t. let u = and_left (usable a p) _ t in
    judged_written p n v a (usable_formed a p u) (writable_named a p n v (usable_core a p u) (and_right (usable a p) _ t)))
    (λ t. register (either (usable a p)
    (λ u. misnamed (not_writable a p n v (either (writable a.slot n v) (λ w. absurd (fails t (and_both u w))) (λ w. w))))
    (λ u. unusable (Write p n v) a p tt (λ h. write_core h) u)))

judged_tick : (a : Arbiter) → Judged Tick a (outcome Tick a)
unfolding outcome
judged_tick a =
    cond_of (Judged Tick a) (formed a)
    (λ f. answered (holds_not Tick a f (tick_named a) (busy_tick a)) (not_refused 0))
    (λ f. register (malformed tt (λ w. fails f (formed_well a w))))

judged_reset : (cores slot : ℕ) (a : Arbiter) → Judged (Reset cores slot) a (outcome (Reset cores slot) a)
unfolding outcome
judged_reset cores slot a =
    cond_of (Judged (Reset cores slot) a) (sized cores slot)
    (λ z. answered (λ r x. free z r x) (not_refused 0))
    (λ z. register (misnamed (reset_size (λ k. fails z (true_sized cores slot k)))))
  where
    free : sized cores slot ≡ true → (n : ℕ) → RefusedFor a (Reset cores slot) n → ⊥
    free z r (misnamed (reset_size n)) = n (sized_true cores slot z)
    free z r (malformed asks n) = asks

judged : (c : Call) (a : Arbiter) → Judged c a (outcome c a)
judged (Read p n) a = judged_read p n a
judged (Line p) a = judged_line p a
judged (Write p n v) a = judged_write p n v a
judged Tick a = judged_tick a
judged (Reset cores slot) a = judged_reset cores slot a

-- ---- if and only if

because : (c : Call) (a : Arbiter) (o : Outcome) → Judged c a o → (n place : ℕ) → told o.reply ≡ refused n place
    → RefusedFor a c n × (place ≡ 0) × (o.state ≡ a)
because c a o (register x) n place e =
    let f : ◌≡◌ {A = ℕ} 15 n = cc in
    let g : ◌≡◌ {A = ℕ} 0 place = cc in
    (subst (RefusedFor a c) f x, sym g, refl)
because c a o (busy_still x) n place e =
    let f : ◌≡◌ {A = ℕ} 16 n = cc in
    let g : ◌≡◌ {A = ℕ} 0 place = cc in
    (subst (RefusedFor a c) f x, sym g, refl)
because c a o (answered free t) n place e = absurd (t n place e)

-- 15 and 16 never both hold
not_both : (c : Call) (a : Arbiter) → RefusedFor a c 15 → RefusedFor a c 16 → ⊥
not_both c a x (still_busy w m i) = elim x [ misnamed n ↦ m n | malformed asks n ↦ n w ]

whenever : (c : Call) (a : Arbiter) (o : Outcome) → Judged c a o → (n : ℕ) → RefusedFor a c n → told o.reply ≡ refused n 0
whenever c a o (register x) n (misnamed m) = refl
whenever c a o (register x) n (malformed asks w) = refl
whenever c a o (register x) n (still_busy w m i) = absurd (not_both c a x (still_busy w m i))
whenever c a o (busy_still x) n (misnamed m) = absurd (not_both c a (misnamed m) x)
whenever c a o (busy_still x) n (malformed asks w) = absurd (not_both c a (malformed asks w) x)
whenever c a o (busy_still x) n (still_busy w m i) = refl
whenever c a o (answered free t) n x = absurd (free n x)

pub refused_because : (c : Call) (a : Arbiter) (n place : ℕ) → told (answer c a) ≡ refused n place → RefusedFor a c n × (place ≡ 0) × (after c a ≡ a)
refused_because c a = because c a (outcome c a) (judged c a)

pub refused_whenever : (c : Call) (a : Arbiter) (n : ℕ) → RefusedFor a c n → told (answer c a) ≡ refused n 0
refused_whenever c a = whenever c a (outcome c a) (judged c a)
