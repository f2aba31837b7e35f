-- What field 1 says, by its tag: the period, the longest access, and a bus of which the laws hold.
use mathlib.Core.Path.{◌≡◌, refl, sym, ◌∙◌, ap, subst}
use mathlib.Core.Bool.{true, cond, ◌&&◌}
use mathlib.Core.Logic.{◌⊎◌, inl, inr, ⊎_elim}
use mathlib.Core.List.{List, [], ◌∷◌}
use Prim.Native.Nat.{ℕ, ◌+◌, ◌-◌, ◌*◌, ◌%◌, ◌≤◌, ◌<◌}
use native.Mathlib.Omega.{arith}
use lib.Dec.{eqb, leb, ltb}
use lib.ListN.{length}
use borrow.Author.Tests.{ltb-true, leb-true, eq-eqb, ne_eqb, le-leb, lt-ltb, le-ltb}
use Rattle.runs.specs.Bus.{Bus, First, Lawful, SameBus}
use Rattle.runs.specs.Slots.{equation7, equal_slots}
use Rattle.runs.specs.Schedules.{Turn, Schedule, total, owns, owns_next, owning, unequal_slots}
use Rattle.runs.proofs.SlotsLaws.{equal_lawful}
use Rattle.runs.proofs.SchedulesLaws.{owning_lawful, most_le}
use Rattle.bus.specs.Waits.{Ranges}
use Rattle.bus.specs.declared.Slots.{Slots}
use Rattle.bus.specs.declared.Bus.{Bus as OwnedBus}
use Rattle.bus.specs.Owning.{bus_meant, Slotted}
use Rattle.bus.proofs.EqualSlots.{slotted_bus}
use Rattle.bus.proofs.Ranges.{has_slot}
use Rattle.image_bytes.specs.Bytes.{byte_at}
use Rattle.schedule.specs.Said.{within, bus_ok, slots_at, schedule_at, turns_ok, has_pair, schedule_ok, said, Turns, HasPair, Scheduled, Ranged, slots, turns}
use Rattle.schedule.proofs.Numbers.{eq_or_ne, both, or_true, is_within}

-- ---- by the tag

module _ (s : List ℕ) where
  pub said_slots : byte_at s 0 ≡ 1 → said s ≡ equal_slots (slots_at s)
  unfolding said
  said_slots e = ap (λ t. cond t (unequal_slots (schedule_at s)) (equal_slots (slots_at s))) (ne_eqb (byte_at s 0) 9 (λ q. omega arith))

  pub said_turns : byte_at s 0 ≡ 9 → said s ≡ unequal_slots (schedule_at s)
  unfolding said
  said_turns e = ap (λ t. cond t (unequal_slots (schedule_at s)) (equal_slots (slots_at s))) (eq-eqb (byte_at s 0) 9 e)

  pub slots_period : byte_at s 0 ≡ 1 → (said s).period ≡ byte_at s 3 * byte_at s 4
  unfolding equal_slots
  slots_period e = ap (λ (b : Bus). b.period) (said_slots e)

  pub slots_most : byte_at s 0 ≡ 1 → (said s).most ≡ byte_at s 4
  unfolding equal_slots
  slots_most e = ap (λ (b : Bus). b.most) (said_slots e)

  pub turns_period : byte_at s 0 ≡ 9 → (said s).period ≡ total (schedule_at s).turns
  unfolding owning
  turns_period e = ap (λ (b : Bus). b.period) (said_turns e)

  -- a field whose tag is not 9 has tag 1
  pub slots_tag : Ranged s → ¬ (byte_at s 0 ≡ 9) → byte_at s 0 ≡ 1
  slots_tag (slots e r) n = e
  slots_tag (turns e h) n = absurd (n e)

  pub turns_ranged : Ranged s → byte_at s 0 ≡ 9 → Scheduled (schedule_at s)
  turns_ranged (slots e r) n = absurd (let z : 1 ≡ 9 = sym e ∙ n in omega arith)
  turns_ranged (turns e h) n = h

  pub slots_ranged : Ranged s → ¬ (byte_at s 0 ≡ 9) → Ranges (record { cores = (slots_at s).cores; slot = (slots_at s).slot; core = (slots_at s).core })
  slots_ranged (slots e r) n = r
  slots_ranged (turns e h) n = absurd (n e)

  -- the bus of owned offsets of equal slots is the one that the field says
  pub slots_same : Ranged s → byte_at s 0 ≡ 1 → (b : OwnedBus) → Slotted (slots_at s) b → SameBus (bus_meant b) (said s)
  slots_same r e b x =
      let h = slots_ranged r (λ q. omega (arith, e, q)) in
      rw (said_slots e) (slotted_bus (slots_at s) (has_slot _ h) h.cores_least b x)

-- ---- the rules, from the tests

pub ranges_kept : (v : Slots) → bus_ok v.cores v.slot v.core ≡ true → Ranges v
unfolding bus_ok
ranges_kept v e =
    let n = v.cores in
    let l = v.slot in
    let p = both (within 2 16 n) (within 1 128 l && (ltb v.core n && leb (n * l) 256)) e in
    let q = both (within 1 128 l) (ltb v.core n && leb (n * l) 256) p.1 in
    let r = both (ltb v.core n) (leb (n * l) 256) q.1 in
    let c = is_within 2 16 n p.0 in
    let d = is_within 1 128 l q.0 in
    record {
      cores_least = c.0;
      cores_most = c.1;
      slot_least = d.0;
      slot_most = d.1;
      core_lt = ltb-true _ _ r.0;
      period_most = leb-true _ _ r.1;
    }

pub kept_ranges : (v : Slots) → Ranges v → bus_ok v.cores v.slot v.core ≡ true
unfolding bus_ok
kept_ranges v h = simp (
  le-leb 2 v.cores h.cores_least,
  le-leb v.cores 16 h.cores_most,
  le-leb 1 v.slot h.slot_least,
  le-leb v.slot 128 h.slot_most,
  lt-ltb v.core v.cores h.core_lt,
  le-leb (v.cores * v.slot) 256 h.period_most,
)

turns_kept : (xs : List Turn) → turns_ok xs ≡ true → Turns xs
unfolding turns_ok Turns
turns_kept [] e = tt
turns_kept (x ∷ xs) e =
    let p = both (leb x.core 15) (within 1 128 x.length && turns_ok xs) e in
    let q = both (within 1 128 x.length) (turns_ok xs) p.1 in
    let w = is_within 1 128 x.length q.0 in
    (leb-true _ _ p.0, w.0, w.1, turns_kept xs q.1)

named_kept : (c : ℕ) (xs : List Turn) → has_pair c xs ≡ true → HasPair c xs
unfolding has_pair HasPair
named_kept c [] e = absurd (let z : ◌≡◌ {A = ℕ} 0 1 = cc in omega arith)
named_kept c (x ∷ xs) e = ⊎_elim (λ q. inl q) (λ q. inr (named_kept c xs (rw (ne_eqb x.core c q) at e))) (eq_or_ne x.core c)

pub schedule_kept : (v : Schedule) → length v.turns ≤ 32 → schedule_ok v ≡ true → Scheduled v
unfolding schedule_ok
schedule_kept v few e =
    let p = both (turns_ok v.turns) (leb (total v.turns) 256 && has_pair v.core v.turns) e in
    let q = both (leb (total v.turns) 256) (has_pair v.core v.turns) p.1 in
    record { turns = turns_kept v.turns p.0; few = few; period_most = leb-true _ _ q.0; named = named_kept v.core v.turns q.1 }

-- and the tests, from the rules
kept_turns : (xs : List Turn) → Turns xs → turns_ok xs ≡ true
unfolding turns_ok Turns
kept_turns [] t = refl
kept_turns (x ∷ xs) t = simp (le-leb x.core 15 t.0, le-leb 1 x.length t.1, le-leb x.length 128 t.2, kept_turns xs t.3)

kept_named : (c : ℕ) (xs : List Turn) → HasPair c xs → has_pair c xs ≡ true
unfolding has_pair HasPair
kept_named c [] n = absurd n
kept_named c (x ∷ xs) (inl e) = simp (eq-eqb x.core c e)
kept_named c (x ∷ xs) (inr n) = or_true (eqb x.core c) (has_pair c xs) (kept_named c xs n)

pub kept_schedule : (v : Schedule) → Scheduled v → schedule_ok v ≡ true
unfolding schedule_ok
kept_schedule v h = simp (kept_turns v.turns h.turns, le-leb (total v.turns) 256 h.period_most, kept_named v.core v.turns h.named)

-- ---- an owned offset

-- where a core that has a pair owns an offset
pub named_owns : (c : ℕ) (xs : List Turn) → Turns xs → HasPair c xs → (o : ℕ) × (o < total xs) × (owns c xs o ≡ true)
unfolding Turns HasPair total owns
named_owns c [] t n = absurd n
named_owns c (x ∷ xs) t (inl e) = (0, omega (arith, t.1), rw (lt-ltb 0 x.length t.1) (eq-eqb x.core c e))
named_owns c (x ∷ xs) t (inr n) =
    let (o, l, h) = named_owns c xs t.3 n in
    let z : x.length + o - x.length ≡ o = omega arith in
    (x.length + o, omega arith, rw (le-ltb (x.length + o) x.length (omega arith), z) h)

-- ---- what holds of the bus

period_pos : (v : Schedule) → Scheduled v → 0 < total v.turns
period_pos v h = let (o, l, e) = named_owns v.core v.turns h.turns h.named in omega (arith, l)

module _ (s : List ℕ) where
  pub said_lawful : Ranged s → Lawful (said s)
  said_lawful (slots e r) = rw (said_slots s e) (equal_lawful (slots_at s) (has_slot _ r))
  said_lawful (turns e h) = rw (said_turns s e) (owning_lawful (total (schedule_at s).turns) (owns (schedule_at s).core (schedule_at s).turns) (period_pos (schedule_at s) h))

  pub said_small : Ranged s → ((said s).period ≤ 256) × ((said s).most ≤ 256)
  said_small (slots e r) = (omega (arith, slots_period s e, r.period_most), omega (arith, slots_most s e, r.slot_most))
  said_small (turns e h) =
      (omega (arith, turns_period s e, h.period_most), rw (said_turns s e) (let z = most_le (total (schedule_at s).turns) (owns (schedule_at s).core (schedule_at s).turns) in omega (arith, z, h.period_most)))

  -- the tag of a field that keeps its rules
  pub first_tag : Ranged s → (byte_at s 0 ≡ 1) ⊎ (byte_at s 0 ≡ 9)
  first_tag (slots e r) = inl e
  first_tag (turns e h) = inr e

  -- the wait: Equation 7, or the least number of cycles after which the core owns e consecutive ones
  pub slots_wait : byte_at s 0 ≡ 1 → (e o : ℕ) → (said s).wait e o ≡ equation7 (slots_at s) e o
  unfolding equal_slots
  slots_wait t e o = ap (λ (b : Bus). b.wait e o) (said_slots s t)

  pub turns_wait : Ranged s → byte_at s 0 ≡ 9 → (e o : ℕ) → 1 ≤ e → e ≤ (said s).most → o < total (schedule_at s).turns
      → First (λ w. owns_next (total (schedule_at s).turns) (owns (schedule_at s).core (schedule_at s).turns) e ((o + w) % total (schedule_at s).turns)) ((said s).wait e o)
  unfolding owning
  turns_wait r t e o p l k =
      subst (λ (b : Bus). First (λ w. b.may_start e ((o + w) % b.period)) ((said s).wait e o)) (said_turns s t)
      ((said_lawful r).least e o p l (omega (arith, k, turns_period s t)))
