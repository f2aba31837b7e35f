-- An equal schedule written either way: the same period, the same longest access, accesses that may start at the same offsets, the same waits.
use mathlib.Core.Path.{◌≡◌, refl, sym, ◌∙◌, ap, subst}
use mathlib.Core.Bool.{Bool, true, false, false≢true}
use borrow.Author.Tests.{eq-eqb, ne_eqb}
use native.Mathlib.Nat.{mod-eq_of_lt, mod-lt, add-mod_right, add-zero, zero-add, mul-le-mul_right, not-suc-le-zero}
use native.Mathlib.Omega.{arith}
use mathlib.Core.List.{List, ◌∷◌}
use lib.Dec.{eqb}
use Prim.Native.Nat.{ℕ, zero, suc, ◌+◌, ◌-◌, ◌*◌, ◌%◌, ◌≤◌, ◌<◌}
use Rattle.runs.specs.Bus.{SameBus}
use Rattle.runs.specs.Slots.{Slots, first, period_of, equal_slots, HasSlot}
use Rattle.runs.specs.Schedules.{Turn, total, owns, owns_next, turns_from, even, unequal_slots, owning}
use Rattle.runs.proofs.Cases.{split}
use Rattle.runs.proofs.Waits.{first_one, first_same}
use Rattle.runs.proofs.SlotsLaws.{equal_lawful, slot_in, may_in, may_before, may_after}
use Rattle.runs.proofs.SchedulesLaws.{next_at, next_of, most_least, most_fits, owning_lawful}

pub total_even : (k n len : ℕ) → total (turns_from k n len) ≡ n * len
unfolding total turns_from
total_even k zero len = omega arith
total_even k (suc n) len = omega (arith, total_even (suc k) n len)

-- whose an offset is: of the first slot, or of what is behind it
in_first : (c : ℕ) (x : Turn) (xs : List Turn) (o : ℕ) → o < x.length → owns c (x ∷ xs) o ≡ eqb x.core c
unfolding owns
in_first c x xs o l = grind arith

behind : (c : ℕ) (x : Turn) (xs : List Turn) (o : ℕ) → x.length ≤ o → owns c (x ∷ xs) o ≡ owns c xs (o - x.length)
unfolding owns
behind c x xs o l = grind arith

owns_none : (c k n len o : ℕ) → c < k → owns c (turns_from k n len) o ≡ false
unfolding owns turns_from
owns_none c k zero len o h = refl
owns_none c k (suc n) len o h =
    split len o
    (λ l. behind c _ _ o l ∙ owns_none c (suc k) n len (o - len) (omega arith))
    (λ l. in_first c _ _ o l ∙ ne_eqb k c (λ e. omega arith))

owns_in : (j k n len o : ℕ) → j < n → j * len ≤ o → o < j * len + len → owns (k + j) (turns_from k n len) o ≡ true
unfolding owns turns_from
owns_in j k zero len o h l m = absurd (not-suc-le-zero h)
owns_in zero k (suc n) len o h l m = in_first (k + 0) _ _ o (omega arith) ∙ eq-eqb k (k + 0) (omega arith)
owns_in (suc j) k (suc n) len o h l m =
    let e : k + suc j ≡ suc k + j = omega arith in
    behind (k + suc j) _ _ o (omega arith)
    ∙ subst (λ (x : ℕ). owns x (turns_from (suc k) n len) (o - len) ≡ true) (sym e) (owns_in j (suc k) n len (o - len) (omega arith) (omega arith) (omega arith))

owns_before : (j k n len o : ℕ) → o < j * len → owns (k + j) (turns_from k n len) o ≡ false
unfolding owns turns_from
owns_before j k zero len o h = refl
owns_before zero k (suc n) len o h = let z : 1 ≤ 0 = omega arith in absurd (not-suc-le-zero z)
owns_before (suc j) k (suc n) len o h =
    let e : k + suc j ≡ suc k + j = omega arith in
    split len o
    (λ l. behind (k + suc j) _ _ o l
    ∙ subst (λ (x : ℕ). owns x (turns_from (suc k) n len) (o - len) ≡ false) (sym e) (owns_before j (suc k) n len (o - len) (omega arith)))
    (λ l. in_first (k + suc j) _ _ o l ∙ ne_eqb k (k + suc j) (λ z. omega arith))

owns_after : (j k n len o : ℕ) → j * len + len ≤ o → owns (k + j) (turns_from k n len) o ≡ false
unfolding owns turns_from
owns_after j k zero len o h = refl
owns_after zero k (suc n) len o h = behind (k + 0) _ _ o (omega arith) ∙ owns_none (k + 0) (suc k) n len (o - len) (omega arith)
owns_after (suc j) k (suc n) len o h =
    let e : k + suc j ≡ suc k + j = omega arith in
    behind (k + suc j) _ _ o (omega arith)
    ∙ subst (λ (x : ℕ). owns x (turns_from (suc k) n len) (o - len) ≡ false) (sym e) (owns_after j (suc k) n len (o - len) (omega arith))

pub bool_same : (s t : Bool) → (s ≡ true → t ≡ true) → (t ≡ true → s ≡ true) → s ≡ t
bool_same true t f g = sym (f refl)
bool_same false true f g = g refl
bool_same false false f g = refl

module _ (v : Slots) (ok : HasSlot v) (two : 2 ≤ v.cores) where
  abbrev pub own : ℕ → Bool
  own = owns v.core (turns_from 0 v.cores v.slot)

  two_in : v.slot + v.slot ≤ period_of v
  two_in = omega (arith, mul-le-mul_right v.slot two)

  -- "Core p owns offsets p × slot to (p + 1) × slot − 1."
  pub owns_slot : (o : ℕ) → first v ≤ o → o < first v + v.slot → own o ≡ true
  owns_slot o h k = rw zero-add at (owns_in v.core 0 v.cores v.slot o ok.core_lt h k)

  pub owns_only : (o : ℕ) → own o ≡ true → (first v ≤ o) × (o < first v + v.slot)
  owns_only o h =
      split (first v) o
      (λ l. split (first v + v.slot) o
      (λ m. absurd (false≢true (sym (rw zero-add at (owns_after v.core 0 v.cores v.slot o m)) ∙ h)))
      (λ m. (l, m)))
      (λ l. absurd (false≢true (sym (rw zero-add at (owns_before v.core 0 v.cores v.slot o l)) ∙ h)))

  -- Two cores at least: stretches counted round the period do not reach from the core's slot to its next.
  next_only : (e o : ℕ) → 1 ≤ e → e ≤ suc v.slot → o < period_of v → owns_next (period_of v) own e o ≡ true → (first v ≤ o) × (o + e ≤ first v + v.slot)
  next_only e o pos le lt h =
      let all = next_at (period_of v) own e o h in
      let here : (o + 0) % period_of v ≡ o = rw add-zero (mod-eq_of_lt lt) in
      let (a, c) = owns_only o (rw here at (all 0 pos)) in
      split (period_of v) (o + (e - 1))
      (λ m.
      let w : (o + (e - 1)) % period_of v ≡ o + (e - 1) - period_of v =
      (let z : o + (e - 1) ≡ (o + (e - 1) - period_of v) + period_of v = omega arith in
      ap (λ (n : ℕ). n % period_of v) z ∙ add-mod_right (o + (e - 1) - period_of v) (period_of v) ∙ mod-eq_of_lt (omega (arith, slot_in v ok, two_in))) in
      let (a', c') = owns_only (o + (e - 1) - period_of v) (rw w at (all (e - 1) (omega arith))) in
      let z : 1 ≤ 0 = omega (arith, two_in) in absurd (not-suc-le-zero z))
      (λ m. let (a', c') = owns_only (o + (e - 1)) (rw (mod-eq_of_lt m) at (all (e - 1) (omega arith))) in (a, omega arith))

  next_in : (e o : ℕ) → first v ≤ o → o + e ≤ first v + v.slot → owns_next (period_of v) own e o ≡ true
  next_in e o h k =
      next_of (period_of v) own e o (λ i l.
      rw (mod-eq_of_lt (let z : o + i < period_of v = omega (arith, slot_in v ok) in z)) (owns_slot (o + i) (omega arith) (omega arith)))

  pub may_same : (e o : ℕ) → 1 ≤ e → e ≤ v.slot → o < period_of v → owns_next (period_of v) own e o ≡ (equal_slots v).may_start e o
  may_same e o pos le lt =
      bool_same (owns_next (period_of v) own e o) ((equal_slots v).may_start e o)
      (λ h. let (a, c) = next_only e o pos (omega arith) lt h in may_in v e o a c)
      (λ h. split (first v) o
      (λ l. split (o + e) (first v + v.slot)
      (λ m. next_in e o l m)
      (λ m. absurd (false≢true (sym (may_after v e o l m) ∙ h))))
      (λ l. absurd (false≢true (sym (may_before v e o l) ∙ h))))

  most_same : (owning (period_of v) own).most ≡ v.slot
  most_same =
      let up : v.slot ≤ (owning (period_of v) own).most =
      most_least (period_of v) own v.slot (first v) (omega (arith, slot_in v ok)) (omega (arith, slot_in v ok, ok.slot_pos)) (next_in v.slot (first v) (omega arith) (omega arith)) in
      split (owning (period_of v) own).most v.slot
      (λ l. omega arith)
      (λ l. let (o, i, h) = most_fits (period_of v) own (suc v.slot) (omega arith) l in
      let (a, c) = next_only (suc v.slot) o (omega arith) (omega arith) i h in
      omega arith)

  wait_same : (e o : ℕ) → 1 ≤ e → e ≤ v.slot → o < period_of v → (owning (period_of v) own).wait e o ≡ (equal_slots v).wait e o
  unfolding equal_slots owning
  wait_same e o pos le lt =
      first_one (λ i. (equal_slots v).may_start e ((o + i) % period_of v)) ((owning (period_of v) own).wait e o) ((equal_slots v).wait e o)
      (first_same (λ i. owns_next (period_of v) own e ((o + i) % period_of v)) (λ i. (equal_slots v).may_start e ((o + i) % period_of v)) ((owning (period_of v) own).wait e o)
      (λ i. may_same e ((o + i) % period_of v) pos le (mod-lt _ (omega (arith, slot_in v ok, ok.slot_pos))))
      ((owning_lawful (period_of v) own (omega (arith, slot_in v ok, ok.slot_pos))).least e o pos (rw most_same le) lt))
      ((equal_lawful v ok).least e o pos le lt)

  pub even_owning : SameBus (owning (period_of v) own) (equal_slots v)
  unfolding equal_slots owning
  even_owning = record {
    period = refl;
    most = most_same;
    may = λ e o p l m. may_same e o p (rw most_same at l) m;
    wait = λ e o p l m. wait_same e o p (rw most_same at l) m;
  }

  -- "An accepted image whose equal schedule is written either way": both are the same bus.
  pub either_way : SameBus (unequal_slots (even v)) (equal_slots v)
  either_way = rw (total_even 0 v.cores v.slot) even_owning
