-- A length written is done after the wait and its own cycles, and no sooner; that is what an access of a run takes. The offset is the number of
-- ticks since the reset.
use mathlib.Core.Path.{◌≡◌, refl, sym, ◌∙◌, ap, ap₂, subst}
use mathlib.Core.Bool.{Bool, true, false, cond, ◌&&◌, ◌||◌, false≢true}
use mathlib.Core.List.{List, [], ◌∷◌, ◌++◌}
use native.Mathlib.Nat.{mod-eq_of_lt, mod-add-mod, add-zero}
use native.Mathlib.Omega.{arith}
use borrow.Author.Tests.{leb-true, le-leb, lt-leb, eq-eqb}
use lib.Dec.{leb, eqb}
use lib.ListN.{length}
use lib.Seq.{get_or-set_same}
use Prim.Native.Nat.{ℕ, ◌+◌, ◌*◌, ◌%◌, ◌≤◌, ◌<◌}
use Rattle.runs.specs.Slots.{Slots, HasSlot, period_of, in_slot, equal_slots, equation7}
use Rattle.runs.specs.Clock.{State, on, offsets}
use Rattle.runs.proofs.Accesses.{access_only, access_ends, pass_is}
use Rattle.runs.proofs.OffsetsLaws.{offsets_turn}
use Rattle.runs.proofs.SlotsLaws.{equation7_is, equal_lawful}
use Rattle.runs.proofs.Cases.{split, either}
use Rattle.refusals.specs.declared.Refusal.{Refusal}
use Rattle.refusals.specs.declared.Refusal.TheVariants.{Register, Busy}
use Rattle.device.specs.declared.Arbiter.{Arbiter}
use Rattle.arbiter.specs.declared.Outcome.{Outcome}
use Rattle.device.specs.declared.Registers.{Registers}
use Rattle.std.specs.Prelude.{None, Ok}
use Rattle.device.specs.Device.{sized, formed, usable, clear, registers_of, slots_of_core, starts_now, count_down, stepped, ticked, with_registers, busy, writable, cleared}
use Rattle.arbiter.specs.declared.Call.{Call}
use Rattle.arbiter.specs.declared.Call.TheVariants.{Read, Line, Write, Tick, Reset}
use Rattle.arbiter.specs.Calls.{Reply, refused_for, outcome, after, answer, after_all, written, refuse, leave}
use Rattle.arbiter.specs.Sequences.{Reached, fresh, next, resets, NoReset, none, more, writes_length, NoLength, one_if_tick, ticks, Since, DoneOnTime, AsTheClock}
use Rattle.device.proofs.Tests.{and_left, and_right, and_both, cond_of, same}
use Rattle.device.proofs.Formed.{formed_true, usable_core}
use Rattle.device.proofs.Steps.{stepped_is, ticked_formed, cleared_formed}
use Rattle.arbiter.proofs.Kept.{read_leaves, line_leaves, Wrote, not_at_all, put_there, Rewritten, waits, keeps, wrote, Frame, frame_of, wrote_frame, wrote_other, tick_leaves, ticked_registers, ticked_length, reset_leaves, reset_refused}
use Rattle.arbiter.proofs.Reach.{Sane, reached_sane}

-- ---- the three ways of a tick

module _ (v : Slots) (o : ℕ) (r : Registers) where
  starts_is : (e : ℕ) → r.flags ≡ 1 → r.length ≡ e → starts_now v o r ≡ in_slot v e o
  unfolding starts_now
  starts_is e f k = rw (f, k)

  stepped_starts : starts_now v o r ≡ true → stepped v o r ≡ count_down r
  stepped_starts t = stepped_is v o r ∙ ap (λ (b : Bool). cond (b || eqb r.flags 2) (count_down r) r) t

  stepped_runs : r.flags ≡ 2 → stepped v o r ≡ count_down r
  stepped_runs f =
      stepped_is v o r
      ∙ either (starts_now v o r)
      (λ t. ap (λ (b : Bool). cond (b || eqb r.flags 2) (count_down r) r) t)
      (λ t. ap₂ (λ (b d : Bool). cond (b || d) (count_down r) r) t (eq-eqb r.flags 2 f))

  stepped_stays : starts_now v o r ≡ false → r.flags ≡ 1 → stepped v o r ≡ r
  stepped_stays t f = stepped_is v o r ∙ ap₂ (λ (b : Bool) (n : ℕ). cond (b || eqb n 2) (count_down r) r) t f

-- core p of a bus, an access of e cycles from the offset o
module _ (v : Slots) (ok : HasSlot v) (e : ℕ) (pos : 1 ≤ e) (le : e ≤ v.slot) (o : ℕ) (lt : o < period_of v) where
  abbrev wait : ℕ
  wait = equation7 v e o

  held : (n : ℕ) → n < wait → in_slot v e ((o + n) % period_of v) ≡ false
  unfolding equal_slots
  held n h = (equation7_is v ok e pos le o lt).0.1 n h

  let_in : in_slot v e ((o + wait) % period_of v) ≡ true
  unfolding equal_slots
  let_in = (equation7_is v ok e pos le o lt).0.0

  -- what the registers hold after n ticks, until it is done
  pub data Phase (n : ℕ) (r : Registers) : Type 0 where
    waiting : n ≤ wait → r.flags ≡ 1 → r.length ≡ e → Phase n r
    running : wait < n → n < wait + e → r.flags ≡ 2 → r.length + n ≡ wait + e → Phase n r

  phase_busy : {n : ℕ} {r : Registers} → Phase n r → busy r ≡ true
  unfolding busy
  phase_busy (waiting l f k) = rw f
  phase_busy (running l m f k) = rw f

  phase_kept : {n : ℕ} {r r' : Registers} → r'.flags ≡ r.flags → r'.length ≡ r.length → Phase n r → Phase n r'
  phase_kept a b (waiting l f k) = waiting l (a ∙ f) (b ∙ k)
  phase_kept a b (running l m f k) = running l m (a ∙ f) (omega arith)

  -- one tick more
  abbrev Next : ℕ → Registers → Type 0
  Next n r = (n + 1 < wait + e → Phase (n + 1) r) × (n + 1 ≡ wait + e → r.flags ≡ 4)

  run_next : (n : ℕ) (r : Registers) → wait ≤ n → n < wait + e → r.length + n ≡ wait + e → Next n (count_down r)
  unfolding count_down
  run_next n r l m k =
      split r.length 1
      (λ h. rw (le-leb r.length 1 h) ((λ i. absurd (omega arith)), λ i. refl))
      (λ h. rw (lt-leb r.length 1 h) ((λ i. running (omega arith) i refl (omega arith)), λ i. absurd (omega arith)))

  step_next : (n : ℕ) (r : Registers) → Phase n r → Next n (stepped v ((o + n) % period_of v) r)
  step_next n r (waiting l f k) =
      let at = (o + n) % period_of v in
      let is : starts_now v at r ≡ in_slot v e at = starts_is v at r e f k in
      split wait n
      (λ h.
      let w : n ≡ wait = omega arith in
      let t : in_slot v e at ≡ true = subst (λ (m : ℕ). in_slot v e ((o + m) % period_of v) ≡ true) (sym w) let_in in
      subst (λ (r' : Registers). Next n r') (sym (stepped_starts v at r (is ∙ t))) (run_next n r h (omega arith) (omega arith)))
      (λ h.
      subst (λ (r' : Registers). Next n r') (sym (stepped_stays v at r (is ∙ held n h) f)) ((λ i. waiting (omega arith) f k), λ i. absurd (omega arith)))
  step_next n r (running l m f k) =
      subst (λ (r' : Registers). Next n r') (sym (stepped_runs v ((o + n) % period_of v) r f)) (run_next n r (omega arith) m k)

-- ---- the write that is accepted
never : {r : Reply} {f : Refusal} → r ≡ refused_for f → r ≡ Ok None → ⊥
never x y = let z : ◌≡◌ {A = ℕ} 0 1 = cc in omega arith

pub record Taken (p e : ℕ) (a : Arbiter) : Type 0 where
  pub core_lt : p < a.cores
  pub pos : 1 ≤ e
  pub le : e ≤ a.slot
  pub leaves : after (Write p 0 e) a ≡ with_registers a p (record { length = e; flags = 1; mask = (registers_of a p).mask })

abbrev judged : ℕ → ℕ → Arbiter → Bool → Outcome
judged p e a t = cond t (written p 0 e a) (refuse Register a)

abbrev let_through : ℕ → ℕ → Arbiter → Bool → Outcome
let_through p e a t = cond t (refuse Busy a) (leave (with_registers a p (record { length = e; flags = 1; mask = (registers_of a p).mask })))

taken : (p e : ℕ) (a : Arbiter) → answer (Write p 0 e) a ≡ Ok None → Taken p e a
unfolding outcome written writable
taken p e a x =
    either (usable a p && writable a.slot 0 e)
    (λ t. either (busy (registers_of a p))
    (λ b. absurd (never (ap (λ (u : Bool). (judged p e a u).reply) t ∙ ap (λ (u : Bool). (let_through p e a u).reply) b) x))
    (λ b. let w = and_right (usable a p) _ t in
    record {
      core_lt = usable_core a p (and_left (usable a p) _ t);
      pos = leb-true 1 e (and_left (leb 1 e) _ w);
      le = leb-true e a.slot (and_right (leb 1 e) _ w);
      leaves = ap (λ (u : Bool). (judged p e a u).state) t ∙ ap (λ (u : Bool). (let_through p e a u).state) b;
    }))
    (λ t. absurd (never (ap (λ (u : Bool). (judged p e a u).reply) t) x))

-- ---- the clock: n ticks after the state a
record Clocked (a : Arbiter) (n : ℕ) (s : Arbiter) : Type 0 where
  good : formed s ≡ true
  cores_kept : s.cores ≡ a.cores
  slot_kept : s.slot ≡ a.slot
  moved : s.offset ≡ (a.offset + n) % (a.cores * a.slot)

clocked_same : (a : Arbiter) (n : ℕ) (s s' : Arbiter) → frame_of s' ≡ frame_of s → Clocked a n s → Clocked a n s'
clocked_same a n s s' m x = record {
  good = ap (λ (f : Frame). f.in_range) m ∙ x.good;
  cores_kept = ap (λ (f : Frame). f.cores) m ∙ x.cores_kept;
  slot_kept = ap (λ (f : Frame). f.slot) m ∙ x.slot_kept;
  moved = ap (λ (f : Frame). f.offset) m ∙ x.moved;
}

clocked_tick : (a : Arbiter) (n : ℕ) (s : Arbiter) → Clocked a n s → Clocked a (n + 1) (after Tick s)
unfolding ticked
clocked_tick a n s x =
    subst (λ (b : Arbiter). Clocked a (n + 1) b) (sym (tick_leaves s x.good)) record {
      good = ticked_formed s x.good;
      cores_kept = x.cores_kept;
      slot_kept = x.slot_kept;
      moved = rw (x.cores_kept, x.slot_kept, x.moved) (mod-add-mod (a.offset + n) (a.cores * a.slot) 1 ∙ ap (λ (m : ℕ). m % (a.cores * a.slot)) (omega arith));
    }

clocked_from : (a : Arbiter) → formed a ≡ true → Clocked a 0 a
clocked_from a f = record {
  good = f;
  cores_kept = refl;
  slot_kept = refl;
  moved = sym (ap (λ (m : ℕ). m % (a.cores * a.slot)) (add-zero a.offset) ∙ mod-eq_of_lt (formed_true a f).offset_lt);
}

-- ---- once it is done

record Finished (slot p : ℕ) (s : Arbiter) : Type 0 where
  formed_so : formed s ≡ true
  slot_so : s.slot ≡ slot
  long_so : p < length s.registers
  done_so : (registers_of s p).flags ≡ 4

-- a mask, and a length that is refused, leave the flags
flags_kept : (p n v : ℕ) (s : Arbiter) → eqb n 0 && writable s.slot n v ≡ false → p < length s.registers
    → (registers_of (after (Write p n v) s) p).flags ≡ (registers_of s p).flags
unfolding outcome written
flags_kept p n v s z l =
    cond_of (λ (o : Outcome). (registers_of o.state p).flags ≡ (registers_of s p).flags) (usable s p && writable s.slot n v)
    (λ t. cond_of (λ (o : Outcome). (registers_of o.state p).flags ≡ (registers_of s p).flags) (eqb n 0)
    (λ y. absurd (false≢true (sym z ∙ and_both y (and_right (usable s p) _ t))))
    (λ y. ap (λ (r : Registers). r.flags) (get_or-set_same s.registers p (record { length = (registers_of s p).length; flags = (registers_of s p).flags; mask = v }) clear l)))
    (λ t. refl)

ticked_slot : (s : Arbiter) → (ticked s).slot ≡ s.slot
unfolding ticked
ticked_slot s = refl

stepped_done : (v : Slots) (o : ℕ) (r : Registers) → r.flags ≡ 4 → (stepped v o r).flags ≡ 4
unfolding starts_now
stepped_done v o r f =
    ap (λ (x : Registers). x.flags) (stepped_is v o r)
    ∙ cond_of (λ (x : Registers). x.flags ≡ 4) (starts_now v o r || eqb r.flags 2)
    (λ t. absurd (false≢true (sym (ap (λ (n : ℕ). (eqb n 1 && in_slot v r.length o) || eqb n 2) f) ∙ t)))
    (λ t. f)

finished_after : (slot p : ℕ) (c : Call) (s : Arbiter) → resets c ≡ false → writes_length slot p c ≡ false → Finished slot p s → Finished slot p (after c s)
finished_after slot p (Read q n) s e a x = subst (λ (b : Arbiter). Finished slot p b) (sym (read_leaves q n s)) x
finished_after slot p (Line q) s e a x = subst (λ (b : Arbiter). Finished slot p b) (sym (line_leaves q s)) x
finished_after slot p (Write q n v) s e a x =
    let w = wrote q n v s in
    let m = wrote_frame q s (after (Write q n v) s) w in
    record {
      formed_so = ap (λ (f : Frame). f.in_range) m ∙ x.formed_so;
      slot_so = ap (λ (f : Frame). f.slot) m ∙ x.slot_so;
      long_so = subst (λ (k : ℕ). p < k) (sym (ap (λ (f : Frame). f.many) m)) x.long_so;
      done_so =
          same p q
          (λ i. subst (λ (k : ℕ). (registers_of (after (Write k n v) s) p).flags ≡ 4) i (flags_kept p n v s (ap₂ (λ (b : Bool) (l : ℕ). b && (eqb n 0 && writable l n v)) (sym (eq-eqb q p (sym i))) x.slot_so ∙ a) x.long_so ∙ x.done_so))
          (λ i. ap (λ (r : Registers). r.flags) (wrote_other p q s (after (Write q n v) s) i w) ∙ x.done_so);
    }
finished_after slot p Tick s e a x =
    subst (λ (b : Arbiter). Finished slot p b) (sym (tick_leaves s x.formed_so)) record {
      formed_so = ticked_formed s x.formed_so;
      slot_so = ticked_slot s ∙ x.slot_so;
      long_so = subst (λ (k : ℕ). p < k) (sym (ticked_length s)) x.long_so;
      done_so = ap (λ (r : Registers). r.flags) (ticked_registers s p) ∙ stepped_done (slots_of_core s p) s.offset (registers_of s p) x.done_so;
    }
finished_after slot p (Reset c z) s e a x = subst (λ (b : Arbiter). Finished slot p b) (sym (reset_refused c z s e)) x

finished_all : (slot p : ℕ) (cs : List Call) (s : Arbiter) → NoReset cs → NoLength slot p cs → Finished slot p s → (registers_of (after_all cs s) p).flags ≡ 4
unfolding after_all
finished_all slot p [] s none none x = x.done_so
finished_all slot p (c ∷ cs) s (more e qs) (more a ls) x = finished_all slot p cs (after c s) qs ls (finished_after slot p c s e a x)

-- ---- the states after it
module _ (a : Arbiter) (p e : ℕ) (s₀ : Sane a) (t : Taken p e a) where
  abbrev v : Slots
  v = slots_of_core a p

  ok : HasSlot v
  ok = record { slot_pos = (formed_true a s₀.formed_is).size.slot_least; core_lt = t.core_lt }

  off : a.offset < period_of v
  off = (formed_true a s₀.formed_is).offset_lt

  few : p < 16
  few = omega (arith, t.core_lt, (formed_true a s₀.formed_is).size.cores_most)

  abbrev InPhase : ℕ → Registers → Type 0
  InPhase n r = Phase v ok e t.pos t.le a.offset off n r

  abbrev due : ℕ
  due = equation7 v e a.offset + e

  record At (n : ℕ) (s : Arbiter) : Type 0 where
    clocked : Clocked a n s
    all : length s.registers ≡ 16
    phase : InPhase n (registers_of s p)

  begins : At 0 (after (Write p 0 e) a)
  begins =
      let r : Registers = record { length = e; flags = 1; mask = (registers_of a p).mask } in
      let n = wrote_frame p a (after (Write p 0 e) a) (wrote p 0 e a) in
      let there : registers_of (after (Write p 0 e) a) p ≡ r = ap (λ (b : Arbiter). registers_of b p) t.leaves ∙ get_or-set_same a.registers p r clear (omega (arith, s₀.cores_all, few)) in
      record {
        clocked = clocked_same a 0 a (after (Write p 0 e) a) n (clocked_from a s₀.formed_is);
        all = ap (λ (f : Frame). f.many) n ∙ s₀.cores_all;
        phase = subst (λ (r' : Registers). InPhase 0 r') (sym there) (waiting (omega arith) refl refl);
      }

  wrote_at : (n q : ℕ) (s s' : Arbiter) → Wrote q s s' → At n s → At n s'
  wrote_at n q s s' w x =
      let m = wrote_frame q s s' w in
      record {
        clocked = clocked_same a n s s' m x.clocked;
        all = ap (λ (f : Frame). f.many) m ∙ x.all;
        phase = same p q (λ i. own_phase (subst (λ (k : ℕ). Wrote k s s') (sym i) w)) (λ i. subst (λ (r : Registers). InPhase n r) (sym (wrote_other p q s s' i w)) x.phase);
      }
    where
      turned : (r r' : Registers) → Rewritten r r' → InPhase n r → InPhase n r'
      turned r r' (waits b f) ph = absurd (false≢true (sym b ∙ phase_busy v ok e t.pos t.le a.offset off ph))
      turned r r' (keeps f l) ph = phase_kept v ok e t.pos t.le a.offset off f l ph

      own_phase : {s'' : Arbiter} → Wrote p s s'' → InPhase n (registers_of s'' p)
      own_phase not_at_all = x.phase
      own_phase (put_there r l f g u) =
          subst (λ (r' : Registers). InPhase n r') (sym (get_or-set_same s.registers p r clear (omega (arith, x.all, few)))) (turned (registers_of s p) r u x.phase)

  next_registers : (n : ℕ) (s : Arbiter) → At n s → registers_of (after Tick s) p ≡ stepped v ((a.offset + n) % period_of v) (registers_of s p)
  next_registers n s x =
      ap (λ (b : Arbiter). registers_of b p) (tick_leaves s x.clocked.good) ∙ ticked_registers s p
      ∙ ap (λ (w : Slots). stepped w s.offset (registers_of s p)) (kept x.clocked) ∙ ap (λ (o : ℕ). stepped v o (registers_of s p)) x.clocked.moved
    where
      kept : Clocked a n s → slots_of_core s p ≡ v
      kept y = let c = y.cores_kept in let l = y.slot_kept in λ i. record { cores = c i; slot = l i; core = p }

  next_at : (n : ℕ) (s : Arbiter) → At n s → n + 1 < due → At (n + 1) (after Tick s)
  next_at n s x l = record {
    clocked = clocked_tick a n s x.clocked;
    all = ap (λ (b : Arbiter). length b.registers) (tick_leaves s x.clocked.good) ∙ ticked_length s ∙ x.all;
    phase = subst (λ (r : Registers). InPhase (n + 1) r) (sym (next_registers n s x)) ((step_next v ok e t.pos t.le a.offset off n (registers_of s p) x.phase).0 l);
  }

  done_at : (n : ℕ) (s : Arbiter) → At n s → n + 1 ≡ due → (registers_of (after Tick s) p).flags ≡ 4
  done_at n s x l = subst (λ (r : Registers). r.flags ≡ 4) (sym (next_registers n s x)) ((step_next v ok e t.pos t.le a.offset off n (registers_of s p) x.phase).1 l)

  all_at : (cs : List Call) → NoReset cs → (n : ℕ) (s : Arbiter) → At n s → n + ticks cs < due → At (n + ticks cs) (after_all cs s)
  unfolding ticks after_all
  all_at [] none n s x l = subst (λ (m : ℕ). At m s) (sym (add-zero n)) x
  all_at (Read q k ∷ cs) (more h qs) n s x l =
      subst (λ (m : ℕ). At m (after_all cs (after (Read q k) s))) (omega arith) (all_at cs qs n (after (Read q k) s) (subst (λ (b : Arbiter). At n b) (sym (read_leaves q k s)) x) (omega arith))
  all_at (Line q ∷ cs) (more h qs) n s x l =
      subst (λ (m : ℕ). At m (after_all cs (after (Line q) s))) (omega arith) (all_at cs qs n (after (Line q) s) (subst (λ (b : Arbiter). At n b) (sym (line_leaves q s)) x) (omega arith))
  all_at (Write q k y ∷ cs) (more h qs) n s x l =
      subst (λ (m : ℕ). At m (after_all cs (after (Write q k y) s))) (omega arith) (all_at cs qs n (after (Write q k y) s) (wrote_at n q s (after (Write q k y) s) (wrote q k y s) x) (omega arith))
  all_at (Tick ∷ cs) (more h qs) n s x l =
      subst (λ (m : ℕ). At m (after_all cs (after Tick s))) (omega arith) (all_at cs qs (n + 1) (after Tick s) (next_at n s x (omega arith)) (omega arith))
  all_at (Reset c z ∷ cs) (more h qs) n s x l =
      subst (λ (m : ℕ). At m (after_all cs (after (Reset c z) s))) (omega arith) (all_at cs qs n (after (Reset c z) s) (subst (λ (b : Arbiter). At n b) (sym (reset_refused c z s h)) x) (omega arith))

  timed : DoneOnTime a p e
  timed = record {
    least = omega (arith, t.pos);
    no_sooner = λ cs qs l. phase_busy v ok e t.pos t.le a.offset off (all_at cs qs 0 (after (Write p 0 e) a) begins (omega arith)).phase;
    done = λ cs ds qs l rs us.
        let s = after_all cs (after (Write p 0 e) a) in
        let x = all_at cs qs 0 (after (Write p 0 e) a) begins (omega arith) in
        finished_all a.slot p ds (after Tick s) rs us (record {
          formed_so = ap formed (tick_leaves s x.clocked.good) ∙ ticked_formed s x.clocked.good;
          slot_so = ap (λ (b : Arbiter). b.slot) (tick_leaves s x.clocked.good) ∙ ticked_slot s ∙ x.clocked.slot_kept;
          long_so = omega (arith, ap (λ (b : Arbiter). length b.registers) (tick_leaves s x.clocked.good), ticked_length s, x.all, few);
          done_so = done_at (0 + ticks cs) s x (omega arith);
        });
  }

-- W7: "In states reached by calls from a reset, a length written at offset o is done after wait + length ticks and no sooner, if no reset comes between."
pub on_time : {a : Arbiter} → Reached a → (p e : ℕ) → answer (Write p 0 e) a ≡ Ok None → DoneOnTime a p e
on_time {a} r p e x = timed a p e (reached_sane r) (taken p e a x)

-- ---- the clock of the arbiter is the clock of runs

clocked_after : (a : Arbiter) (n : ℕ) (s : Arbiter) (c : Call) → resets c ≡ false → Clocked a n s → Clocked a (n + one_if_tick c) (after c s)
clocked_after a n s (Read q k) e x = rw (add-zero n, read_leaves q k s) x
clocked_after a n s (Line q) e x = rw (add-zero n, line_leaves q s) x
clocked_after a n s (Write q k y) e x = rw (add-zero n) (clocked_same a n s (after (Write q k y) s) (wrote_frame q s (after (Write q k y) s) (wrote q k y s)) x)
clocked_after a n s Tick e x = clocked_tick a n s x
clocked_after a n s (Reset c z) e x = rw (add-zero n, reset_refused c z s e) x

clocked_all : (a : Arbiter) (cs : List Call) → NoReset cs → (n : ℕ) (s : Arbiter) → Clocked a n s → Clocked a (n + ticks cs) (after_all cs s)
unfolding ticks after_all
clocked_all a [] none n s x = subst (λ (m : ℕ). Clocked a m s) (sym (add-zero n)) x
clocked_all a (c ∷ cs) (more e qs) n s x =
    subst (λ (m : ℕ). Clocked a m (after_all cs (after c s))) (omega arith) (clocked_all a cs qs (n + one_if_tick c) (after c s) (clocked_after a n s c e x))

-- an access of a run from the arbiter's offset takes as many cycles as the device takes ticks
pub as_the_clock : {a : Arbiter} → Reached a → (p e : ℕ) → answer (Write p 0 e) a ≡ Ok None → AsTheClock a p e
unfolding equal_slots
as_the_clock {a} re p e x =
    let sn = reached_sane re in
    let t = taken p e a x in
    let v = slots_of_core a p in
    let q = offsets (a.cores * a.slot) in
    let n = equation7 v e a.offset + e in
    let l = equal_lawful v (ok a p e sn t) in
    let lt = off a p e sn t in
    let u = offsets_turn (a.cores * a.slot) l.period_pos in
    record {
      taken = n;
      cycles = λ count s r.
          let i = access_only (equal_slots v) l q u e t.pos t.le r lt ∙ pass_is (equal_slots v) l q u n (on a.offset count) lt in
          (ap (λ (z : State). z.count) i, ap (λ (z : State). z.at) i);
      some = λ count. (_, access_ends (equal_slots v) l q u e t.pos t.le (on a.offset count) lt);
      device = on_time re p e x;
    }

-- ---- since the reset

after_one : (cs : List Call) (c : Call) (a : Arbiter) → after_all (cs ++ (c ∷ [])) a ≡ after c (after_all cs a)
unfolding after_all
after_one [] c a = refl
after_one (d ∷ cs) c a = after_one cs c (after d a)

no_reset_one : {cs : List Call} (c : Call) → resets c ≡ false → NoReset cs → NoReset (cs ++ (c ∷ []))
no_reset_one c e none = more e none
no_reset_one c e (more f q) = more f (no_reset_one c e q)

one_more : {a : Arbiter} (c : Call) → resets c ≡ false → Since a → Since (after c a)
one_more {a} c e s = record {
  before = s.before;
  cores = s.cores;
  slot = s.slot;
  sized_is = s.sized_is;
  calls = s.calls ++ (c ∷ []);
  no_reset = no_reset_one c e s.no_reset;
  leads = ap (after c) s.leads ∙ sym (after_one s.calls c (after (Reset s.cores s.slot) s.before));
}

from_reset : (a : Arbiter) (cores slot : ℕ) → sized cores slot ≡ true → Since (after (Reset cores slot) a)
unfolding after_all
from_reset a cores slot e = record { before = a; cores = cores; slot = slot; sized_is = e; calls = []; no_reset = none; leads = refl }

-- a state that is reached has a last reset
pub since : {a : Arbiter} → Reached a → Since a
since (fresh a cores slot e) = from_reset a cores slot e
since (next {a} r (Read p n)) = one_more (Read p n) refl (since r)
since (next {a} r (Line p)) = one_more (Line p) refl (since r)
since (next {a} r (Write p n v)) = one_more (Write p n v) refl (since r)
since (next {a} r Tick) = one_more Tick refl (since r)
since (next {a} r (Reset cores slot)) = either (sized cores slot) (λ e. from_reset a cores slot e) (λ e. one_more (Reset cores slot) e (since r))

-- cores and slot are those of that reset, and the offset is the number of ticks since then, modulo P
pub since_reset : {b : Arbiter} (s : Since b) → (b.cores ≡ s.cores) × (b.slot ≡ s.slot) × (b.offset ≡ ticks s.calls % (b.cores * b.slot))
unfolding cleared
since_reset {b} s =
    let z = cleared s.cores s.slot in
    let f = cleared_formed s.cores s.slot s.sized_is in
    let e : b ≡ after_all s.calls z = s.leads ∙ ap (after_all s.calls) (reset_leaves s.cores s.slot s.before s.sized_is) in
    let k = clocked_all z s.calls s.no_reset 0 z (clocked_from z f) in
    let c : b.cores ≡ s.cores = ap (λ (a : Arbiter). a.cores) e ∙ k.cores_kept in
    let l : b.slot ≡ s.slot = ap (λ (a : Arbiter). a.slot) e ∙ k.slot_kept in (
      c,
      l,
      ap (λ (a : Arbiter). a.offset) e ∙ k.moved ∙ ap₂ (λ (n P : ℕ). n % P) (omega arith) (ap₂ ◌*◌ (sym c) (sym l)),
    )
