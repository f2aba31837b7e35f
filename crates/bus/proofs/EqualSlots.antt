-- The bus of equal slots as owned offsets: one stretch, and the same bus as by Equation 7.
use mathlib.Core.Path.{◌≡◌, refl, sym, ◌∙◌, ap, subst}
use mathlib.Core.Bool.{Bool, true, false, not}
use mathlib.Core.List.{List}
use native.Mathlib.Nat.{mod-eq_of_lt, mod-lt, add-mod_right, mul-le-mul_right, not-suc-le-zero, lt_of_lt_of_le}
use native.Mathlib.Omega.{arith}
use lib.ListN.{length}
use lib.Pow.{pow_pos, pow_mono}
use Prim.Native.Nat.{ℕ, ◌+◌, ◌-◌, ◌%◌, ◌^◌, ◌≤◌, ◌<◌}
use Rattle.runs.specs.Bus.{SameBus}
use Rattle.runs.specs.Slots.{Slots, first, period_of, equal_slots, HasSlot}
use Rattle.runs.specs.Stretches.{IsRun, Begins, NextStretch}
use Rattle.runs.proofs.Cases.{split, either}
use Rattle.runs.proofs.SlotsLaws.{slot_in}
use Rattle.runs.proofs.OwningSame.{owning_same}
use Rattle.runs.proofs.EvenSchedules.{own, owns_slot, owns_only, bool_same, even_owning}
use Rattle.offsets.specs.declared.Set.{Set}
use Rattle.offsets.specs.Sets.{value, has, turned_by}
use Rattle.offsets.proofs.Members.{has_lt, has_ones}
use Rattle.offsets.proofs.Turns.{in_turned, from_turned, turned_lt}
use Rattle.std.specs.Prelude.{Some}
use Rattle.bus.specs.declared.Bus.{Bus}
use Rattle.bus.specs.declared.Span.{Span}
use Rattle.bus.specs.Stretches.{span_at, after, InTurn}
use Rattle.bus.specs.Owning.{owns, bus_meant, Fit, Slotted}
use Rattle.bus.proofs.Turned.{wrapped}

-- Both are the same bus where it matters.
pub slotted_bus : (v : Slots) → HasSlot v → 2 ≤ v.cores → (b : Bus) → Slotted v b → SameBus (bus_meant b) (equal_slots v)
slotted_bus v ok two b x =
    let same : (o : ℕ) → o < period_of v → owns b o ≡ own v ok two o =
    λ o l. bool_same (owns b o) (own v ok two o)
    (λ h. let (i, j) = x.only_those o (omega (arith, x.period)) h in owns_slot v ok two o i j)
    (λ h. let (i, j) = owns_only v ok two o h in x.inside o i j) in
    rw x.period (subst (λ (B : _). SameBus B (equal_slots v)) (sym (owning_same (period_of v) (omega (arith, slot_in v ok, ok.slot_pos)) (owns b) (own v ok two) same)) (even_owning v ok two))

-- ---- n offsets from f on, turned round the period P

ones_lt : (n : ℕ) → 2 ^ n - 1 < 2 ^ n
ones_lt n = omega (arith, pow_pos n)

pub ones_in : (n P : ℕ) → n ≤ P → 2 ^ n - 1 < 2 ^ P
ones_in n P l = lt_of_lt_of_le (ones_lt n) (pow_mono l)

module _ (P f n : ℕ) (fits : n ≤ P) where
  abbrev turned : ℕ
  turned = turned_by P f (2 ^ n - 1)

  has_turned : (i : ℕ) → i < n → has turned ((f + i) % P) ≡ true
  has_turned i l =
      subst (λ (x : ℕ). has turned (x % P) ≡ true) (let z : i + f ≡ f + i = omega arith in z) (in_turned P f (2 ^ n - 1) i (omega arith) (has_ones n i l))

  turned_has : (o : ℕ) → has turned o ≡ true → (i : ℕ) × (i < n) × ((f + i) % P ≡ o)
  turned_has o h =
      let (i, k, t, e) = from_turned P f (2 ^ n - 1) o h in
      (i, has_lt (2 ^ n - 1) n i (ones_lt n) t, ap (λ (x : ℕ). x % P) (let z : f + i ≡ i + f = omega arith in z) ∙ e)

no_way : {A : Type 0} → 1 ≤ 0 → A
no_way h = absurd (not-suc-le-zero h)

false_of : (t : Bool) → (t ≡ true → 1 ≤ 0) → t ≡ false
false_of t h = either t (λ e. no_way (h e)) (λ e. e)

module _ (v : Slots) (ok : HasSlot v) (two : 2 ≤ v.cores) (short : period_of v ≤ 256) (mine rest : Set)
    (em : value mine ≡ turned_by (period_of v) (first v) (2 ^ v.slot - 1))
    (er : value rest ≡ turned_by (period_of v) (first v + v.slot) (2 ^ (period_of v - v.slot) - 1)) (spans : List Span) (long : length spans ≡ 16)
    (at_slot : span_at spans 0 ≡ (record { begin = first v; len = v.slot })) where
  abbrev P : ℕ
  P = period_of v

  abbrev f : ℕ
  f = first v

  abbrev pub made : Bus
  made = record { period = P; most = v.slot; own = mine; rest = rest; first = f; only = Some v.slot; longest = 0; stretches = record { count = 1; spans = spans } }

  in_period : f + v.slot ≤ P
  in_period = slot_in v ok

  two_in : v.slot + v.slot ≤ P
  two_in = omega (arith, mul-le-mul_right v.slot two)

  pos : 0 < P
  pos = omega (arith, in_period, ok.slot_pos)

  at_first : (i : ℕ) → i < v.slot → owns made ((f + i) % P) ≡ true
  at_first i l = rw em (has_turned P f v.slot (omega (arith, in_period)) i l)

  pub slotted : Slotted v made
  slotted = record {
    period = refl;
    most = refl;
    inside = λ o l m.
        let e : (f + (o - f)) % P ≡ o = ap (λ (n : ℕ). n % P) (let z : f + (o - f) ≡ o = omega arith in z) ∙ mod-eq_of_lt (omega (arith, in_period)) in
        subst (λ (n : ℕ). owns made n ≡ true) e (at_first (o - f) (omega arith));
    only_those = λ o l h.
        let (i, j, e) = turned_has P f v.slot (omega (arith, in_period)) o (rw em at h) in
        let z : (f + i) % P ≡ f + i = mod-eq_of_lt (omega (arith, in_period)) in
        (omega (arith, z, e), omega (arith, z, e, j));
  }

  others : (o : ℕ) → o < P → ((f ≤ o) → o < f + v.slot → 1 ≤ 0) → owns made o ≡ false
  others o l h = false_of (owns made o) (λ e. let (i, j) = slotted.only_those o l e in h i j)

  after_it : (i : ℕ) → v.slot ≤ i → i < P → owns made ((f + i) % P) ≡ false
  after_it i l m =
      others ((f + i) % P) (mod-lt _ pos) (λ j k.
      split P (f + i)
      (λ u. omega (arith, wrapped P (f + i) u (omega (arith, in_period))))
      (λ u. let z : (f + i) % P ≡ f + i = mod-eq_of_lt u in omega (arith, z)))

  rest_has : (o i : ℕ) → i < P - v.slot → (f + v.slot + i) % P ≡ o → has (value rest) o ≡ true
  rest_has o i l e = rw er (subst (λ (n : ℕ). has (turned_by P (f + v.slot) (2 ^ (P - v.slot) - 1)) n ≡ true) e (has_turned P (f + v.slot) (P - v.slot) (omega arith) i l))

  rest_not : (o : ℕ) → f ≤ o → o < f + v.slot → has (value rest) o ≡ false
  rest_not o l m =
      false_of (has (value rest) o) (λ h.
      let (i, j, e) = turned_has P (f + v.slot) (P - v.slot) (omega arith) o (rw er at h) in
      split P (f + v.slot + i)
      (λ u. omega (arith, wrapped P (f + v.slot + i) u (omega (arith, in_period)), e, j))
      (λ u. let z : (f + v.slot + i) % P ≡ f + v.slot + i = mod-eq_of_lt u in omega (arith, z, e)))

  apart : (o : ℕ) → o < P → has (value rest) o ≡ not (owns made o)
  apart o l =
      split f o
      (λ h. split (f + v.slot) o
      (λ k. rw (others o l (λ i j. omega arith))
      (rest_has o (o - (f + v.slot)) (omega (arith, in_period)) (ap (λ (n : ℕ). n % P) (let z : f + v.slot + (o - (f + v.slot)) ≡ o = omega arith in z) ∙ mod-eq_of_lt l)))
      (λ k. rw (slotted.inside o h k) (rest_not o h k)))
      (λ h. rw (others o l (λ i j. omega arith))
      (rest_has o (o + P - (f + v.slot)) (omega (arith, in_period))
      (ap (λ (n : ℕ). n % P) (let z : f + v.slot + (o + P - (f + v.slot)) ≡ o + P = omega (arith, in_period) in z) ∙ add-mod_right o P ∙ mod-eq_of_lt l)))

  most_is : (equal_slots v).most ≡ v.slot
  unfolding equal_slots
  most_is = refl

  begins : Begins P (owns made) f
  begins = record {
    low = omega (arith, in_period, ok.slot_pos);
    here = slotted.inside f (omega arith) (omega (arith, ok.slot_pos));
    before = ap (λ (n : ℕ). owns made (n % P)) (let z : f + P - 1 ≡ f + (P - 1) = omega (arith, pos) in z)
        ∙ after_it (P - 1) (omega (arith, two_in, ok.slot_pos)) (omega (arith, pos));
  }

  run : IsRun P (owns made) f v.slot
  run = record { owned = at_first; ends = after_it v.slot (omega arith) (omega (arith, two_in, ok.slot_pos)) }

  -- the slot is the only stretch, and the next is the same a period on
  round : NextStretch P (owns made) f v.slot (P - v.slot) f
  round =
      let z : f + (v.slot + (P - v.slot)) ≡ f + P = omega (arith, in_period) in
      record {
        begins = begins;
        run = run;
        free = λ i l. after_it (v.slot + i) (omega arith) (omega arith);
        place = sym (ap (λ (n : ℕ). n % P) z ∙ add-mod_right f P ∙ mod-eq_of_lt begins.low);
        next = begins.here;
        fits = omega (arith, in_period);
      }

  in_turn : InTurn P (owns made) made.stretches
  unfolding after
  in_turn = record {
    long = long;
    few = omega arith;
    next = λ i l. let z : i ≡ 0 = omega arith in rw (z, at_slot) (P - v.slot, round);
  }

  pub fit : Fit made
  fit = record {
    least = pos;
    most = short;
    own_in = rw em (turned_lt P f (2 ^ v.slot - 1) pos);
    rest_in = rw er (turned_lt P (f + v.slot) (2 ^ (P - v.slot) - 1) pos);
    apart = apart;
    longest = sym ((slotted_bus v ok two made slotted).most ∙ most_is);
    begins = λ l. begins;
    run = λ l. run;
    nth = λ l. (omega arith, ap (λ (x : Span). x.begin) at_slot, ap (λ (x : Span). x.len) at_slot);
    in_turn = λ l. in_turn;
    lone = record { some = ok.slot_pos; low = begins.low; less = omega (arith, two_in, ok.slot_pos); held = at_first; free = after_it };
    some = (f, begins.low, begins.here);
  }
