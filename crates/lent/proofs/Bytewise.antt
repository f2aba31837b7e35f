-- A call on the bytes is the call on the state that they say, and so are calls one after the other.
use borrow.Author.Tests.{leb-true, eqb-true, le-leb, eq-eqb}
use native.Mathlib.Omega.{arith}
use mathlib.Core.Path.{◌≡◌, refl, sym, ◌∙◌, ap, ap₂, subst}
use mathlib.Core.Bool.{true, false}
use mathlib.Core.List.{List, [], ◌∷◌}
use lib.ListN.{length, get_or, drop}
use lib.Dec.{leb, eqb}
use Prim.Native.Nat.{ℕ, ◌≤◌, ◌<◌}
use Rattle.schedule.proofs.Numbers.{both}
use Rattle.arbiter.specs.declared.Call.{Call}
use Rattle.arbiter.specs.Calls.{Reply, after, answer, Told, done, refused, told}
use Rattle.callers.specs.Callers.{outcome_by, after_by, answer_by, after_all_by, answers_to, concerning_by}
use Rattle.device.specs.Device.{sized}
use Rattle.callers.specs.Conditions.{RefusedBy}
use Rattle.callers.specs.Promise.{Answers}
use Rattle.arbiter.specs.Sequences.{Reached}
use Rattle.callers.proofs.Rights.{promised, not_refused, sixteen_by, reached_from}
use Rattle.callers.proofs.Unseen.{same_answers}
use Rattle.runs.proofs.Cases.{either}
use Rattle.lent.proofs.Packing.{state_again, there_and_back, bytes_length, cores_length}
use Rattle.lent.specs.Bytes.{bytes_of, state_of}
use Rattle.device.specs.declared.Arbiter.{Arbiter}
use Rattle.arbiter.specs.declared.Outcome.{Outcome}
use Rattle.lent.specs.Answers.{beside}
use Rattle.lent.specs.OnBytes.{told_into, room, arbiter_into, arbiter_call, Lends, WholeCall, Lending, reset_of, called_on, bytes_after, asked_of, AllMade, found_in, found_by}

pub has_room : (s lent : List ℕ) → room s lent ≡ true → (length s ≡ 51) × (2 ≤ length lent)
unfolding room
has_room s lent e =
    let p = both (leb 2 (length lent)) (eqb (length s) 51) e in
    (eqb-true (length s) 51 p.1, leb-true 2 (length lent) p.0)

module _ (k : ℕ) (c : Call) (s lent : List ℕ) where
  pub no_room : room s lent ≡ false → arbiter_call k c s lent ≡ (2, s, lent)
  unfolding arbiter_call
  no_room e = rw e

-- ---- what the program finds

module _ (k : ℕ) (c : Call) (s lent : List ℕ) (status : ℕ) (exit found : List ℕ) (is : arbiter_call k c s lent ≡ (status, exit, found)) where
  module _ (h : Lends s lent) where
    there : arbiter_into (outcome_by k c (state_of s)) lent ≡ (status, exit, found)
    unfolding arbiter_call room
    there = rw (le-leb 2 (length lent) (omega (arith, h.1)), eq-eqb (length s) 51 h.0) at is

    leads : exit ≡ bytes_of (after_by k c (state_of s))
    leads = sym (ap (λ (y : ℕ × List ℕ × List ℕ). y.1) there)

    -- by what is told
    telling : (t : Told) → told (answer_by k c (state_of s)) ≡ t → beside (bytes_of (after_by k c (state_of s))) (told_into t lent) ≡ (status, exit, found)
    telling t e = ap (λ (u : Told). beside (bytes_of (after_by k c (state_of s))) (told_into u lent)) (sym e) ∙ there

    abbrev promise : Answers k c (state_of s) (after_by k c (state_of s)) (answer_by k c (state_of s))
    promise = promised k c (state_of s) (outcome_by k c (state_of s)) refl

    refused_said : (n : ℕ) → RefusedBy k (state_of s) c n → (status ≡ 1) × (get_or found 0 0 ≡ n) × (get_or found 1 0 ≡ 0) × (exit ≡ s)
    refused_said n x =
        let e = promise.whenever n x in
        let t = telling (refused n 0) e in
        let f : n ∷ 0 ∷ drop 2 lent ≡ found = ap (λ (y : ℕ × List ℕ × List ℕ). y.2) t in (
          sym (ap (λ (y : ℕ × List ℕ × List ℕ). y.0) t),
          ap (λ (l : List ℕ). get_or l 0 0) (sym f),
          ap (λ (l : List ℕ). get_or l 1 0) (sym f),
          leads ∙ ap bytes_of (promise.because n 0 e).2 ∙ there_and_back s h.0,
        )

    -- what is no refusal puts 0 and the value
    done_told : (t : Told) → told (answer_by k c (state_of s)) ≡ t → ((n place : ℕ) → t ≡ refused n place → ⊥)
        → (status ≡ 0) × (get_or found 0 0 ≡ 0) × (t ≡ done (get_or found 1 0))
    done_told (done v) e none = let t = telling (done v) e in (
      sym (ap (λ (y : ℕ × List ℕ × List ℕ). y.0) t),
      ap (λ (y : ℕ × List ℕ × List ℕ). get_or y.2 0 0) (sym t),
      ap (λ (y : ℕ × List ℕ × List ℕ). done (get_or y.2 1 0)) t,
    )
    done_told (refused n place) e none = absurd (none n place refl)

    done_said : ((n : ℕ) → RefusedBy k (state_of s) c n → ⊥)
        → (status ≡ 0) × (get_or found 0 0 ≡ 0) × (told (answer c (state_of s)) ≡ done (get_or found 1 0)) × (state_of exit ≡ after c (state_of s))
    done_said free =
        let d = done_told (told (answer_by k c (state_of s))) refl (λ n place e. free n (promise.because n place e).0) in
        let i = not_refused k c (state_of s) free in (
          d.0,
          d.1,
          sym (ap (λ (o : Outcome). told o.reply) i) ∙ d.2,
          ap state_of leads ∙ state_again (after_by k c (state_of s)) ∙ ap (λ (o : Outcome). o.state) i,
        )

    refused_because : (t : Told) → told (answer_by k c (state_of s)) ≡ t → status ≡ 1 → RefusedBy k (state_of s) c (get_or found 0 0)
    refused_because (done v) e z = absurd (let w = ap (λ (y : ℕ × List ℕ × List ℕ). y.0) (telling (done v) e) in omega arith)
    refused_because (refused n place) e z =
        let x = (promise.because n place e).0 in
        subst (RefusedBy k (state_of s) c) (sym (refused_said n x).1) x

    none_refused : status ≡ 0 → (n : ℕ) → RefusedBy k (state_of s) c n → ⊥
    none_refused z n x = let w = (refused_said n x).0 in omega arith

  -- by what is lent
  not_lent : (Lends s lent → ⊥) → ◌≡◌ {A = ℕ × List ℕ × List ℕ} (2, s, lent) (status, exit, found)
  not_lent n = sym (no_room k c s lent (either (room s lent) (λ t. absurd (n (has_room s lent t))) (λ t. t))) ∙ is

  lent_if : (status ≡ 2 → ⊥) → Lends s lent
  lent_if n = either (room s lent) (has_room s lent) (λ t. absurd (n (sym (ap (λ (y : ℕ × List ℕ × List ℕ). y.0) (sym (no_room k c s lent t) ∙ is)))))

  pub whole_call : WholeCall k c s lent status exit found
  whole_call = record {
    when_refused = λ h n x. refused_said (omega (arith, h.0), omega (arith, h.1)) n x;
    when_done = λ h free. done_said (omega (arith, h.0), omega (arith, h.1)) free;
    because = λ z. let h = lent_if (λ e. omega arith) in (h, refused_because h (told (answer_by k c (state_of s))) refl z);
    possible = λ z. let h = lent_if (λ e. omega arith) in (h, none_refused h z);
    short = λ n. let e = not_lent n in (
      sym (ap (λ (y : ℕ × List ℕ × List ℕ). y.0) e),
      sym (ap (λ (y : ℕ × List ℕ × List ℕ). y.1) e),
      sym (ap (λ (y : ℕ × List ℕ × List ℕ). y.2) e),
    );
  }

-- ---- one call after the other

-- what is found where this is told
abbrev found_of : Told → ℕ × ℕ × ℕ
found_of t = found_in (beside [] (told_into t []))

found_is : (t : Told) (lent : List ℕ) → found_in (beside [] (told_into t lent)) ≡ found_of t
found_is (done v) lent = refl
found_is (refused n place) lent = refl

module _ (x : Lending) (s : List ℕ) (h : Lends s x.lent) where
  abbrev who : ℕ
  who = x.asked.caller

  abbrev what : Call
  what = x.asked.call

  -- the bytes of a call say the state that it leaves, and are 51
  call_leads : state_of (called_on x s).1 ≡ after_by who what (state_of s)
  call_leads = ap state_of (leads who what s x.lent _ _ _ refl h) ∙ state_again (after_by who what (state_of s))

  call_long : length (called_on x s).1 ≡ 51
  unfolding state_of
  call_long =
      ap (λ (t : List ℕ). length t) (leads who what s x.lent _ _ _ refl h)
      ∙ bytes_length (after_by who what (state_of s)) (sixteen_by who what (state_of s) (cores_length s h.0))

  call_tells : found_in (called_on x s) ≡ found_of (told (answer_by who what (state_of s)))
  call_tells = sym (ap found_in (there who what s x.lent _ _ _ refl h)) ∙ found_is (told (answer_by who what (state_of s))) x.lent

-- so do those of calls one after the other
pub bytes_lead : (xs : List Lending) (s : List ℕ) → AllMade xs → length s ≡ 51 → state_of (bytes_after xs s) ≡ after_all_by (asked_of xs) (state_of s)
unfolding bytes_after asked_of after_all_by
bytes_lead [] s m e = refl
bytes_lead (x ∷ xs) s m e =
    bytes_lead xs (called_on x s).1 m.1 (call_long x s (e, m.0))
    ∙ ap (after_all_by (asked_of xs)) (call_leads x s (e, m.0))

-- behind a reset that is accepted they are reached states: every law of `arbiter` about those holds of them
pub bytes_reached : (cores slot : ℕ) (lent : List ℕ) (xs : List Lending) (s : List ℕ) → sized cores slot ≡ true → 2 ≤ length lent → AllMade xs → length s ≡ 51
    → Reached (state_of (bytes_after (reset_of cores slot lent ∷ xs) s))
unfolding after_all_by asked_of
bytes_reached cores slot lent xs s z h m e =
    subst Reached (sym (bytes_lead (reset_of cores slot lent ∷ xs) s (h, m) e)) (reached_from cores slot (asked_of xs) (state_of s) z)

-- ---- what a core finds

found_all : List Reply → List (ℕ × ℕ × ℕ)
found_all [] = []
found_all (r ∷ rs) = found_of (told r) ∷ found_all rs

-- a core finds its answers
found_answers : (k : ℕ) (xs : List Lending) (s : List ℕ) → AllMade xs → length s ≡ 51 → found_by k xs s ≡ found_all (answers_to k (asked_of xs) (state_of s))
unfolding found_by asked_of answers_to found_all
found_answers k [] s m e = refl
found_answers k (x ∷ xs) s m e =
    let h : Lends s x.lent = (e, m.0) in
    let later = found_answers k xs (called_on x s).1 m.1 (call_long x s h) ∙ ap (λ (a : Arbiter). found_all (answers_to k (asked_of xs) a)) (call_leads x s h) in
    either (eqb x.asked.caller k)
    (λ t. rw t (ap₂ ◌∷◌ (call_tells x s h) later))
    (λ t. rw t later)

-- W8 on the bytes: from one reset on, with a core's own calls and the workshop's ticks and resets equal and in the same order, the core finds the same
pub bytes_same_answers : (k : ℕ) → k < 16 → (cores slot : ℕ) → sized cores slot ≡ true → (lent lent' s t : List ℕ) (xs ys : List Lending)
    → Lends s lent → Lends t lent' → AllMade xs → AllMade ys → concerning_by k (asked_of xs) ≡ concerning_by k (asked_of ys)
    → found_by k xs (called_on (reset_of cores slot lent) s).1 ≡ found_by k ys (called_on (reset_of cores slot lent') t).1
bytes_same_answers k core cores slot z lent lent' s t xs ys h i m n e =
    behind xs (reset_of cores slot lent) s h m
    ∙ ap found_all (same_answers k core cores slot z (state_of s) (state_of t) (asked_of xs) (asked_of ys) e)
    ∙ sym (behind ys (reset_of cores slot lent') t i n)
  where
    behind : (xs : List Lending) (x : Lending) (s : List ℕ) → Lends s x.lent → AllMade xs
        → found_by k xs (called_on x s).1 ≡ found_all (answers_to k (asked_of xs) (after_by x.asked.caller x.asked.call (state_of s)))
    behind xs x s h m = found_answers k xs (called_on x s).1 m (call_long x s h) ∙ ap (λ (a : Arbiter). found_all (answers_to k (asked_of xs) a)) (call_leads x s h)
