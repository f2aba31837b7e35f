-- Two states that are equal in what core p has stay so: whatever other cores do, and while both take the same own writes, ticks and resets.
use mathlib.Core.Path.{◌≡◌, refl, sym, ◌∙◌, ap, ap₂, subst}
use mathlib.Core.Bool.{Bool, true, false, ◌&&◌, false≢true}
use mathlib.Core.List.{List, [], ◌∷◌}
use borrow.Author.Tests.{eqb-true, eqb-false}
use lib.Dec.{ltb, eqb}
use lib.ListN.{length, set, length-set, get_or-eq_default}
use lib.Seq.{get_or-set_same}
use Prim.Native.Nat.{ℕ, ◌+◌, ◌*◌, ◌%◌, ◌≤◌}
use Rattle.runs.proofs.Cases.{split, either}
use Rattle.device.specs.declared.Arbiter.{Arbiter}
use Rattle.arbiter.specs.declared.Outcome.{Outcome}
use Rattle.device.specs.declared.Registers.{Registers}
use Rattle.std.specs.Prelude.{Some, Ok}
use Rattle.device.specs.Device.{sized, formed, usable, clear, registers_of, stepped, ticked, writable, busy, cleared, with_registers, register_at, line_of}
use Rattle.arbiter.specs.declared.Call.{Call}
use Rattle.arbiter.specs.declared.Call.TheVariants.{Read, Line, Write, Tick, Reset}
use Rattle.arbiter.specs.Calls.{outcome, after, answer, after_all, written}
use Rattle.arbiter.specs.Sequences.{concerns, concerning, Alike}
use Rattle.device.proofs.Steps.{ticked_formed}
use Rattle.arbiter.proofs.Kept.{cond_both, read_leaves, line_leaves, wrote, Frame, frame_of, wrote_frame, wrote_other, tick_leaves, tick_refused, ticked_registers, ticked_length, reset_leaves, reset_refused}

-- all that a call of core p, a tick or a reset sees of two states is equal
pub record Same (p : ℕ) (a b : Arbiter) : Type 0 where
  pub frame : frame_of a ≡ frame_of b
  pub registers_same : registers_of a p ≡ registers_of b p

pub same_refl : (p : ℕ) (a : Arbiter) → Same p a a
same_refl p a = record { frame = refl; registers_same = refl }

pub same_trans : {p : ℕ} {a b c : Arbiter} → Same p a b → Same p b c → Same p a c
same_trans s t = record { frame = s.frame ∙ t.frame; registers_same = s.registers_same ∙ t.registers_same }

pub same_sym : {p : ℕ} {a b : Arbiter} → Same p a b → Same p b a
same_sym s = record { frame = sym s.frame; registers_same = sym s.registers_same }

pub same_path : {p : ℕ} {a b : Arbiter} → a ≡ b → Same p a b
same_path {p} {a} {b} e = subst (λ (c : Arbiter). Same p a c) e (same_refl p a)

-- a call that is not core p's own write, no tick and no reset
pub other : (p : ℕ) (c : Call) (a : Arbiter) → concerns p c ≡ false → Same p (after c a) a
other p (Read q n) a e = same_path (read_leaves q n a)
other p (Line q) a e = same_path (line_leaves q a)
other p (Write q n v) a e =
    let w = wrote q n v a in
    record { frame = wrote_frame q a (after (Write q n v) a) w; registers_same = wrote_other p q a (after (Write q n v) a) (λ i. eqb-false q p e (sym i)) w }
other p Tick a e = absurd (false≢true (sym e))
other p (Reset cores slot) a e = absurd (false≢true (sym e))

-- what is put there is had there, if the list is long enough
put_same : (p : ℕ) (a b : Arbiter) (r : Registers) → length a.registers ≡ length b.registers → registers_of (with_registers a p r) p ≡ registers_of (with_registers b p r) p
put_same p a b r e =
    split (length a.registers) p
    (λ h. get_or-eq_default (set a.registers p r) clear (long a.registers h) ∙ sym (get_or-eq_default (set b.registers p r) clear (long b.registers (rw e at h))))
    (λ h. get_or-set_same a.registers p r clear h ∙ sym (get_or-set_same b.registers p r clear (rw e at h)))
  where
    long : (rs : List Registers) → length rs ≤ p → length (set rs p r) ≤ p
    long rs h = rw (length-set rs p r) h

usable_same : {p : ℕ} {a b : Arbiter} → Same p a b → usable a p ≡ usable b p
unfolding usable
usable_same {p} {a} {b} s = ap (λ (f : Frame). f.in_range && ltb p f.cores) s.frame

takes_same : (p n v : ℕ) {a b : Arbiter} → Same p a b → usable a p && writable a.slot n v ≡ usable b p && writable b.slot n v
takes_same p n v s = ap₂ (λ (t : Bool) (l : ℕ). t && writable l n v) (usable_same s) (ap (λ (f : Frame). f.slot) s.frame)

written_same : (p n v : ℕ) (a b : Arbiter) → Same p a b → registers_of (written p n v a).state p ≡ registers_of (written p n v b).state p
unfolding written
written_same p n v a b s =
    let l : length a.registers ≡ length b.registers = ap (λ (f : Frame). f.many) s.frame in
    either (eqb n 0)
    (λ z. rw (z, s.registers_same)
    (either (busy (registers_of b p)) (λ t. rw t s.registers_same) (λ t. rw t (put_same p a b _ l))))
    (λ z. rw (z, s.registers_same) (put_same p a b _ l))

write_registers : (p n v : ℕ) (a b : Arbiter) → Same p a b → registers_of (after (Write p n v) a) p ≡ registers_of (after (Write p n v) b) p
unfolding outcome
write_registers p n v a b s =
    cond_both (λ (x y : Outcome). registers_of x.state p ≡ registers_of y.state p) (takes_same p n v s) (written_same p n v a b s) s.registers_same

ticked_frame : (a b : Arbiter) → frame_of a ≡ frame_of b → formed a ≡ true → formed b ≡ true → frame_of (ticked a) ≡ frame_of (ticked b)
unfolding ticked
ticked_frame a b e g f =
    let in_range : formed (ticked a) ≡ formed (ticked b) = ticked_formed a g ∙ sym (ticked_formed b f) in
    let many : length (ticked a).registers ≡ length (ticked b).registers = ticked_length a ∙ ap (λ (x : Frame). x.many) e ∙ sym (ticked_length b) in
    λ i. record {
      cores = (e i).cores;
      slot = (e i).slot;
      offset = ((e i).offset + 1) % ((e i).cores * (e i).slot);
      in_range = in_range i;
      many = many i;
    }

ticked_same : (p : ℕ) (a b : Arbiter) → Same p a b → formed a ≡ true → formed b ≡ true → Same p (ticked a) (ticked b)
ticked_same p a b s g f = record {
  frame = ticked_frame a b s.frame g f;
  registers_same =
      ticked_registers a p
      ∙ ap₂ (λ (x : Frame) (r : Registers). stepped (record { cores = x.cores; slot = x.slot; core = p }) x.offset r) s.frame s.registers_same
      ∙ sym (ticked_registers b p);
}

tick_same : {p : ℕ} {a b : Arbiter} → Same p a b → Same p (after Tick a) (after Tick b)
tick_same {p} {a} {b} s =
    either (formed b)
    (λ f. let g = ap (λ (x : Frame). x.in_range) s.frame ∙ f in rw (tick_leaves a g, tick_leaves b f) (ticked_same p a b s g f))
    (λ f. let g = ap (λ (x : Frame). x.in_range) s.frame ∙ f in rw (tick_refused a g, tick_refused b f) s)

-- an own write, a tick or a reset in both
pub each : (p : ℕ) (c : Call) (a b : Arbiter) → concerns p c ≡ true → Same p a b → Same p (after c a) (after c b)
each p (Read q n) a b e s = absurd (false≢true e)
each p (Line q) a b e s = absurd (false≢true e)
each p (Write q n v) a b e s =
    rw (eqb-true q p e) record {
      frame = wrote_frame p a (after (Write p n v) a) (wrote p n v a) ∙ s.frame ∙ sym (wrote_frame p b (after (Write p n v) b) (wrote p n v b));
      registers_same = write_registers p n v a b s;
    }
each p Tick a b e s = tick_same s
each p (Reset cores slot) a b e s =
    either (sized cores slot)
    (λ z. rw (reset_leaves cores slot a z, reset_leaves cores slot b z) (same_refl p (cleared cores slot)))
    (λ z. rw (reset_refused cores slot a z, reset_refused cores slot b z) s)

-- calls lead to the same as those among them that concern the core
reduced : (p : ℕ) (cs : List Call) (a b : Arbiter) → Same p a b → Same p (after_all cs a) (after_all (concerning p cs) b)
unfolding after_all concerning
reduced p [] a b s = s
reduced p (c ∷ cs) a b s =
    either (concerns p c)
    (λ m. rw m (reduced p cs (after c a) (after c b) (each p c a b m s)))
    (λ m. rw m (reduced p cs (after c a) b (same_trans (other p c a m) s)))

pub apart : (p : ℕ) (a : Arbiter) (cs ds : List Call) → concerning p cs ≡ concerning p ds → Same p (after_all cs a) (after_all ds a)
apart p a cs ds e =
    same_trans (reduced p cs a a (same_refl p a))
    (subst (λ (es : List Call). Same p (after_all es a) (after_all ds a)) (sym e) (same_sym (reduced p ds a a (same_refl p a))))

pub read_same : (p n : ℕ) (a b : Arbiter) → Same p a b → answer (Read p n) a ≡ answer (Read p n) b
unfolding outcome
read_same p n a b s =
    cond_both (λ (x y : Outcome). x.reply ≡ y.reply) (ap (λ (t : Bool). t && ltb n 3) (usable_same s)) (ap (λ (r : Registers). Ok (Some (register_at n r))) s.registers_same) refl

pub line_same : (p : ℕ) (a b : Arbiter) → Same p a b → answer (Line p) a ≡ answer (Line p) b
unfolding outcome
line_same p a b s = cond_both (λ (x y : Outcome). x.reply ≡ y.reply) (usable_same s) (ap (λ (r : Registers). Ok (Some (line_of r))) s.registers_same) refl

written_same_reply : (p n v : ℕ) (a b : Arbiter) → Same p a b → (written p n v a).reply ≡ (written p n v b).reply
unfolding written
written_same_reply p n v a b s =
    either (eqb n 0)
    (λ z. rw (z, s.registers_same) (either (busy (registers_of b p)) (λ t. rw t refl) (λ t. rw t refl)))
    (λ z. rw z refl)

pub write_same : (p n v : ℕ) (a b : Arbiter) → Same p a b → answer (Write p n v) a ≡ answer (Write p n v) b
unfolding outcome
write_same p n v a b s = cond_both (λ (x y : Outcome). x.reply ≡ y.reply) (takes_same p n v s) (written_same_reply p n v a b s) refl

pub alike : (p : ℕ) (a b : Arbiter) → Same p a b → Alike p a b
alike p a b s = record { registers = s.registers_same; reads = λ n. read_same p n a b s; line_reads = line_same p a b s }

-- W7: "From one state, with this core's own writes and all ticks and resets equal and in the same order, the other cores' writes never alter this core's registers or line."
pub undisturbed : (p : ℕ) (a : Arbiter) (cs ds : List Call) → concerning p cs ≡ concerning p ds → Alike p (after_all cs a) (after_all ds a)
undisturbed p a cs ds e = alike p (after_all cs a) (after_all ds a) (apart p a cs ds e)
