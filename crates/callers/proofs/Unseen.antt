-- What a core is answered goes by its own calls and the workshop's ticks and resets alone: all other calls are unseen.
use mathlib.Core.Path.{◌≡◌, refl, sym, ◌∙◌, ap, ap₂, subst}
use mathlib.Core.Bool.{Bool, true, false, cond, ◌&&◌, false≢true}
use mathlib.Core.List.{List, [], ◌∷◌}
use native.Mathlib.Omega.{arith}
use borrow.Author.Tests.{eqb-true, eq-eqb, ne_eqb}
use lib.Dec.{eqb}
use Prim.Native.Nat.{ℕ, ◌<◌}
use Rattle.runs.proofs.Cases.{either}
use Rattle.refusals.specs.declared.Refusal.TheVariants.{Forbidden}
use Rattle.device.specs.declared.Arbiter.{Arbiter}
use Rattle.arbiter.specs.declared.Call.{Call}
use Rattle.arbiter.specs.declared.Call.TheVariants.{Reset}
use Rattle.arbiter.specs.declared.Outcome.{Outcome}
use Rattle.device.specs.Device.{sized, cleared}
use Rattle.arbiter.specs.Calls.{Reply, outcome, after, answer, refuse}
use Rattle.callers.specs.Callers.{has_right, outcome_by, after_by, answer_by, Asked, answers_to, drives, concerns_by, concerning_by}
use Rattle.callers.specs.Conditions.{Right, own_register, own_line, own_write, every_register, every_line, workshop_ticks, workshop_resets}
use Rattle.device.proofs.Tests.{or_right, or_first, same}
use Rattle.arbiter.proofs.Kept.{read_leaves, line_leaves, reset_leaves}
use Rattle.arbiter.proofs.Apart.{Same, same_refl, same_trans, same_sym, same_path, other, each, read_same, line_same, write_same}
use Rattle.callers.proofs.Rights.{right_if, with_right, without_right, reset_by}

-- a caller's call has the outcome of the call, or leaves the state and answers 17
by_right {ℓ} : (P : Outcome → Outcome → Type ℓ) (j : ℕ) (c : Call) (a b : Arbiter)
    → (Right j c → P (outcome c a) (outcome c b)) → P (refuse Forbidden a) (refuse Forbidden b) → P (outcome_by j c a) (outcome_by j c b)
by_right P j c a b f g =
    either (has_right j c)
    (λ t. rw (with_right j c a t, with_right j c b t) (f (right_if j c t)))
    (λ t. rw (without_right j c a t, without_right j c b t) g)

-- a core is answered by what it has
told_right : (k : ℕ) (c : Call) (a b : Arbiter) → k < 16 → Same k a b → Right k c → answer c a ≡ answer c b
told_right k c a b core s (own_register l) = read_same k _ a b s
told_right k c a b core s (own_line l) = line_same k a b s
told_right k c a b core s (own_write l) = write_same k _ _ a b s
told_right k c a b core s every_register = absurd (omega arith)
told_right k c a b core s every_line = absurd (omega arith)
told_right k c a b core s workshop_ticks = absurd (omega arith)
told_right k c a b core s workshop_resets = absurd (omega arith)

module _ (k : ℕ) where
  -- a call that is not core k's own, and no tick or reset of the workshop
  unseen_right : (j : ℕ) (c : Call) (a : Arbiter) → (j ≡ k → ⊥) → (j ≡ 16 → drives c ≡ false) → Right j c → Same k (after c a) a
  unseen_right j c a n d (own_register l) = same_path (read_leaves j _ a)
  unseen_right j c a n d (own_line l) = same_path (line_leaves j a)
  unseen_right j c a n d (own_write l) = other k c a (ne_eqb j k n)
  unseen_right j c a n d every_register = same_path (read_leaves _ _ a)
  unseen_right j c a n d every_line = same_path (line_leaves _ a)
  unseen_right j c a n d workshop_ticks = absurd (false≢true (sym (d refl)))
  unseen_right j c a n d workshop_resets = absurd (false≢true (sym (d refl)))

  own_concerns : (x : Asked) → x.caller ≡ k → concerns_by k x ≡ false → ⊥
  unfolding concerns_by
  own_concerns x i e = false≢true (sym e ∙ or_first (eqb x.caller k) _ (eq-eqb x.caller k i))

  unseen : (x : Asked) (a : Arbiter) → concerns_by k x ≡ false → Same k (after_by x.caller x.call a) a
  unfolding concerns_by
  unseen x a e =
      by_right (λ (o u : Outcome). Same k o.state a) x.caller x.call a a
      (unseen_right x.caller x.call a
      (λ i. own_concerns x i e)
      (λ i. ap (λ (t : Bool). t && drives x.call) (sym (eq-eqb x.caller 16 i)) ∙ or_right (eqb x.caller k) _ e))
      (same_refl k a)

  left_alone : {a a' b b' : Arbiter} → a' ≡ a → b' ≡ b → Same k a b → Same k a' b'
  left_alone p q s = same_trans (same_path p) (same_trans s (same_path (sym q)))

  -- the same call, of whatever caller, in two states that are the same for core k
  both_right : (j : ℕ) (c : Call) (a b : Arbiter) → Same k a b → Right j c → Same k (after c a) (after c b)
  both_right j c a b s (own_write l) =
      same j k
      (λ i. each k c a b (eq-eqb j k i) s)
      (λ n. same_trans (other k c a (ne_eqb j k n)) (same_trans s (same_sym (other k c b (ne_eqb j k n)))))
  both_right j c a b s (own_register l) = left_alone (read_leaves j _ a) (read_leaves j _ b) s
  both_right j c a b s (own_line l) = left_alone (line_leaves j a) (line_leaves j b) s
  both_right j c a b s every_register = left_alone (read_leaves _ _ a) (read_leaves _ _ b) s
  both_right j c a b s every_line = left_alone (line_leaves _ a) (line_leaves _ b) s
  both_right j c a b s workshop_ticks = each k c a b refl s
  both_right j c a b s workshop_resets = each k c a b refl s

  both_leave : (j : ℕ) (c : Call) (a b : Arbiter) → Same k a b → Same k (after_by j c a) (after_by j c b)
  both_leave j c a b s = by_right (λ (o u : Outcome). Same k o.state u.state) j c a b (both_right j c a b s) s

  module _ (core : k < 16) where
    -- what core k is answered
    told : (c : Call) (a b : Arbiter) → Same k a b → answer_by k c a ≡ answer_by k c b
    told c a b s = by_right (λ (o u : Outcome). o.reply ≡ u.reply) k c a b (told_right k c a b core s) refl

    heard : (x : Asked) (a b : Arbiter) (rs qs : List Reply) → Same k a b → rs ≡ qs
        → cond (eqb x.caller k) (answer_by x.caller x.call a ∷ rs) rs ≡ cond (eqb x.caller k) (answer_by x.caller x.call b ∷ qs) qs
    heard x a b rs qs s e =
        either (eqb x.caller k)
        (λ t. rw t (ap₂ ◌∷◌ (subst (λ (j : ℕ). answer_by j x.call a ≡ answer_by j x.call b) (sym (eqb-true x.caller k t)) (told x.call a b s)) e))
        (λ t. rw t e)

    -- the answers are those to the calls that concern the core
    reduced : (xs : List Asked) (a b : Arbiter) → Same k a b → answers_to k xs a ≡ answers_to k (concerning_by k xs) b
    unfolding answers_to concerning_by
    reduced [] a b s = refl
    reduced (x ∷ xs) a b s =
        either (concerns_by k x)
        (λ m. rw m (heard x a b _ _ s (reduced xs _ _ (both_leave x.caller x.call a b s))))
        (λ m. rw (m, not_own x m) (reduced xs _ b (same_trans (unseen x a m) s)))
      where
        not_own : (x : Asked) → concerns_by k x ≡ false → eqb x.caller k ≡ false
        not_own x m = ne_eqb x.caller k (λ i. own_concerns x i m)

    equal_answers : (xs ys : List Asked) (a b : Arbiter) → concerning_by k xs ≡ concerning_by k ys → Same k a b → answers_to k xs a ≡ answers_to k ys b
    equal_answers xs ys a b e s =
        reduced xs a b s ∙ ap (λ (zs : List Asked). answers_to k zs b) e ∙ sym (reduced ys b b (same_refl k b))

-- W8: "From one reset on, with a core's own calls and the workshop's ticks and resets equal and in the same order, every answer to that core is equal."
-- Whatever the two states before that reset, and whatever else is called.
pub same_answers : (k : ℕ) → k < 16 → (cores slot : ℕ) → sized cores slot ≡ true → (a b : Arbiter) (xs ys : List Asked) → concerning_by k xs ≡ concerning_by k ys
    → answers_to k xs (after_by 16 (Reset cores slot) a) ≡ answers_to k ys (after_by 16 (Reset cores slot) b)
same_answers k core cores slot z a b xs ys e = equal_answers k core xs ys _ _ e (same_path (fresh_state a ∙ sym (fresh_state b)))
  where
    fresh_state : (d : Arbiter) → after_by 16 (Reset cores slot) d ≡ cleared cores slot
    fresh_state d = reset_by cores slot d ∙ reset_leaves cores slot d z
