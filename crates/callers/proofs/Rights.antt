-- Who has the right to a call; that a caller's call is refused if and only if the condition for it holds, with 17 before 15 and 16; and that calls
-- with callers lead where the permitted ones lead.
use mathlib.Core.Path.{◌≡◌, refl, sym, ◌∙◌, ap, subst}
use mathlib.Core.Bool.{Bool, true, false, cond, ◌||◌, false≢true}
use mathlib.Core.List.{List, [], ◌∷◌}
use native.Mathlib.Omega.{arith}
use borrow.Author.Tests.{ltb-true, lt-ltb, ne_eqb, eq-eqb, eqb-true}
use lib.Dec.{ltb, eqb}
use lib.ListN.{length}
use Prim.Native.Nat.{ℕ, ◌<◌}
use Rattle.runs.proofs.Cases.{either}
use Rattle.refusals.specs.declared.Refusal.TheVariants.{Forbidden}
use Rattle.device.specs.declared.Arbiter.{Arbiter}
use Rattle.arbiter.specs.declared.Outcome.{Outcome}
use Rattle.arbiter.specs.declared.Call.{Call}
use Rattle.arbiter.specs.declared.Call.TheVariants.{Read, Line, Write, Tick, Reset}
use Rattle.device.specs.Device.{sized}
use Rattle.arbiter.specs.Calls.{outcome, refuse, after, after_all, refused, told}
use Rattle.callers.specs.Callers.{is_own, is_workshop, may_read, has_right, outcome_by, after_by, answer_by, Asked, after_all_by, permitted}
use Rattle.callers.specs.Conditions.{Right, own_register, own_line, own_write, every_register, every_line, workshop_ticks, workshop_resets, RefusedBy, forbidden, despite_right}
use Rattle.callers.specs.Promise.{Answers}
use Rattle.arbiter.specs.Sequences.{Reached, fresh}
use Rattle.device.proofs.Tests.{and_left, and_right, and_both}
use Rattle.arbiter.proofs.Reasons.{refused_because, refused_whenever}
use Rattle.arbiter.proofs.Kept.{sixteen}
use Rattle.arbiter.proofs.Reach.{reached_all}

-- ---- the right

-- a core's own number
pub own_is : (k p : ℕ) → is_own k p ≡ true → (k < 16) × (k ≡ p)
unfolding is_own
own_is k p e = (ltb-true k 16 (and_left (ltb k 16) _ e), eqb-true k p (and_right (ltb k 16) _ e))

is_own_lem : (k : ℕ) → k < 16 → is_own k k ≡ true
unfolding is_own
is_own_lem k l = and_both (lt-ltb k 16 l) (eq-eqb k k refl)

-- a right of the workshop
the_workshop : (k : ℕ) (c : Call) → Right 16 c → is_workshop k ≡ true → Right k c
the_workshop k c w e = subst (λ (j : ℕ). Right j c) (sym (eqb-true k 16 e)) w

-- or of a core, to its own
reader : (k p : ℕ) (c : Call) → Right 16 c → (k < 16 → k ≡ p → Right k c) → may_read k p ≡ true → Right k c
reader k p c w o e =
    either (eqb k 16)
    (λ t. the_workshop k c w t)
    (λ t. let i = own_is k p (ap (λ (u : Bool). u || is_own k p) (sym t) ∙ e) in o i.0 i.1)

pub right_if : (k : ℕ) (c : Call) → has_right k c ≡ true → Right k c
unfolding has_right
right_if k (Read p n) e = reader k p (Read p n) every_register (λ l i. subst (λ (q : ℕ). Right k (Read q n)) i (own_register l)) e
right_if k (Line p) e = reader k p (Line p) every_line (λ l i. subst (λ (q : ℕ). Right k (Line q)) i (own_line l)) e
right_if k (Write p n v) e = let o = own_is k p e in subst (λ (q : ℕ). Right k (Write q n v)) o.1 (own_write o.0)
right_if k Tick e = the_workshop k Tick workshop_ticks e
right_if k (Reset cores slot) e = the_workshop k (Reset cores slot) workshop_resets e

own_reads : (k : ℕ) → k < 16 → may_read k k ≡ true
own_reads k l = ap (λ (t : Bool). t || is_own k k) (ne_eqb k 16 (λ e. omega arith)) ∙ is_own_lem k l

pub if_right : (k : ℕ) (c : Call) → Right k c → has_right k c ≡ true
unfolding has_right
if_right k c (own_register l) = own_reads k l
if_right k c (own_line l) = own_reads k l
if_right k c (own_write l) = is_own_lem k l
if_right k c every_register = refl
if_right k c every_line = refl
if_right k c workshop_ticks = refl
if_right k c workshop_resets = refl

-- ---- a caller's call

module _ (k : ℕ) (c : Call) (a : Arbiter) where
  -- with the right it is the call itself
  pub with_right : has_right k c ≡ true → outcome_by k c a ≡ outcome c a
  unfolding outcome_by
  with_right e = ap (λ (t : Bool). cond t (outcome c a) (refuse Forbidden a)) e

  pub without_right : has_right k c ≡ false → outcome_by k c a ≡ refuse Forbidden a
  unfolding outcome_by
  without_right e = ap (λ (t : Bool). cond t (outcome c a) (refuse Forbidden a)) e

  no_right : has_right k c ≡ false → Right k c → ⊥
  no_right e w = false≢true (sym e ∙ if_right k c w)

  because : (n place : ℕ) → told (answer_by k c a) ≡ refused n place → RefusedBy k a c n × (place ≡ 0) × (after_by k c a ≡ a)
  because n place e =
      either (has_right k c)
      (λ t.
      let b = refused_because c a n place (sym (ap (λ (o : Outcome). told o.reply) (with_right t)) ∙ e) in
      (despite_right (right_if k c t) b.0, b.1, ap (λ (o : Outcome). o.state) (with_right t) ∙ b.2))
      (λ t.
      let w : refused 17 0 ≡ refused n place = sym (ap (λ (o : Outcome). told o.reply) (without_right t)) ∙ e in
      let f : ◌≡◌ {A = ℕ} 17 n = cc in
      let g : ◌≡◌ {A = ℕ} 0 place = cc in
      (subst (RefusedBy k a c) f (forbidden (no_right t)), sym g, ap (λ (o : Outcome). o.state) (without_right t)))

  whenever : (n : ℕ) → RefusedBy k a c n → told (answer_by k c a) ≡ refused n 0
  whenever n (forbidden f) = ap (λ (o : Outcome). told o.reply) (without_right (either (has_right k c) (λ t. absurd (f (right_if k c t))) (λ t. t)))
  whenever n (despite_right w x) = ap (λ (o : Outcome). told o.reply) (with_right (if_right k c w)) ∙ refused_whenever c a n x

  -- one that is not refused is the call itself
  pub not_refused : ((n : ℕ) → RefusedBy k a c n → ⊥) → outcome_by k c a ≡ outcome c a
  not_refused free = with_right (either (has_right k c) (λ t. t) (λ t. absurd (free 17 (forbidden (no_right t)))))

  pub sixteen_by : length a.registers ≡ 16 → length (after_by k c a).registers ≡ 16
  sixteen_by e =
      either (has_right k c)
      (λ t. ap (λ (o : Outcome). length o.state.registers) (with_right t) ∙ sixteen c a e)
      (λ t. ap (λ (o : Outcome). length o.state.registers) (without_right t) ∙ e)

-- what an entry promises, of the outcome that the caller's call has
pub promised : (k : ℕ) (c : Call) (a : Arbiter) (o : Outcome) → o ≡ outcome_by k c a → Answers k c a o.state o.reply
promised k c a o e =
    subst (λ (u : Outcome). Answers k c a u.state u.reply) (sym e) (record { answers = refl; leaves = refl; because = because k c a; whenever = whenever k c a })

-- ---- one call after the other

-- Calls with callers lead where the permitted ones among them lead, so that the laws about calls hold of them ..
pub permitted_lead : (xs : List Asked) (a : Arbiter) → after_all_by xs a ≡ after_all (permitted xs) a
unfolding after_all_by permitted after_all
permitted_lead [] a = refl
permitted_lead (x ∷ xs) a =
    let to : Outcome → Arbiter = λ o. after_all_by xs o.state in
    either (has_right x.caller x.call)
    (λ t. ap to (with_right x.caller x.call a t) ∙ rw t (permitted_lead xs (after x.call a)))
    (λ t. ap to (without_right x.caller x.call a t) ∙ rw t (permitted_lead xs a))

-- the workshop's reset is a reset
pub reset_by : (cores slot : ℕ) (a : Arbiter) → after_by 16 (Reset cores slot) a ≡ after (Reset cores slot) a
reset_by cores slot a = ap (λ (o : Outcome). o.state) (with_right 16 (Reset cores slot) a (if_right 16 (Reset cores slot) workshop_resets))

-- .. those about reached states too
pub reached_by : (xs : List Asked) {a : Arbiter} → Reached a → Reached (after_all_by xs a)
reached_by xs {a} r = subst Reached (sym (permitted_lead xs a)) (reached_all (permitted xs) r)

pub reached_from : (cores slot : ℕ) (xs : List Asked) (a : Arbiter) → sized cores slot ≡ true → Reached (after_all_by xs (after_by 16 (Reset cores slot) a))
reached_from cores slot xs a z = reached_by xs (subst Reached (sym (reset_by cores slot a)) (fresh a cores slot z))
