-- Field 1 as bytes, and what two images that agree on it say.
use mathlib.Core.Path.{◌≡◌, refl, sym, ◌∙◌, ap, ap₂}
use mathlib.Core.Logic.{⊎_elim}
use mathlib.Core.Bool.{true}
use mathlib.Core.List.{List, [], ◌∷◌, ◌++◌}
use native.Mathlib.Nat.{zero-add}
use native.Mathlib.Omega.{arith}
use lib.ListN.{length}
use borrow.Author.Tests.{le-leb, eq-eqb, ne_eqb}
use Prim.Native.Nat.{ℕ, zero, suc, ◌+◌, ◌*◌, ◌/◌, ◌≤◌, ◌<◌}
use Rattle.runs.specs.Bus.{SameBus}
use Rattle.runs.specs.Slots.{equal_slots}
use Rattle.runs.specs.Schedules.{Turn, Schedule, turns_from, even, unequal_slots}
use Rattle.runs.proofs.EvenSchedules.{total_even, either_way}
use Rattle.bus.specs.Waits.{slots_of, Ranges}
use Rattle.bus.specs.declared.Slots.{Slots}
use Rattle.bus.proofs.Ranges.{has_slot}
use Rattle.image_bytes.specs.Bytes.{byte_at, word_at}
use Rattle.image_bytes.proofs.Agreeing.{Agree, agree_part, agree_here, agree_word, behind}
use Rattle.schedule.specs.Said.{turns_at, schedule_at, turns_ok, has_pair, schedule_ok, said}
use Rattle.schedule.specs.Written.{pairs, turns_field}
use Rattle.schedule.proofs.Numbers.{eq_or_ne}

module _ (s e : List ℕ) where
  pub agree_turns : (p q n : ℕ) → Agree s e p q (2 * n) → turns_at e q n ≡ turns_at s p n
  unfolding turns_at
  agree_turns p q zero h = refl
  agree_turns p q (suc n) h =
      ap₂ ◌∷◌ (ap₂ (λ (c l : ℕ). record { core = c; length = l }) (agree_here s e p q (2 * suc n) h (omega arith)) (h 1 (omega arith)))
      (agree_turns (p + 2) (q + 2) n (agree_part s e p q (2 * suc n) 2 (2 * n) h (omega arith)))

-- where the two agree on all of field 1, they say the same bus
pub agree_said : (s e : List ℕ) → Agree s e 0 0 (6 + word_at s 1) → said e ≡ said s
unfolding said
agree_said s e h =
    let n = 6 + word_at s 1 in
    let w : word_at e 1 ≡ word_at s 1 = agree_word s e 0 0 n 1 h (omega arith) in
    let t : turns_at e 4 (word_at s 1 / 2) ≡ turns_at s 4 (word_at s 1 / 2) =
    agree_turns s e 4 4 (word_at s 1 / 2) (agree_part s e 0 0 n 4 (2 * (word_at s 1 / 2)) h (omega arith)) in
    rw (w, t, agree_here s e 0 0 n h (omega arith), h 3 (omega arith), h 4 (omega arith), h 5 (omega arith))

-- ---- a schedule that is written is the one that is read

pub pairs_long : (xs : List Turn) → length (pairs xs) ≡ 2 * length xs
unfolding pairs
pairs_long [] = refl
pairs_long (x ∷ xs) = omega (arith, pairs_long xs)

pairs_read : (xs : List Turn) (rest : List ℕ) → turns_at (pairs xs ++ rest) 0 (length xs) ≡ xs
unfolding pairs turns_at
pairs_read [] rest = refl
pairs_read (x ∷ xs) rest =
    let r = pairs xs ++ rest in
    ap (λ (l : List Turn). x ∷ l)
    (agree_turns r (x.core ∷ x.length ∷ r) 0 2 (length xs) (λ i l. behind (x.core ∷ x.length ∷ []) r i ∙ ap (byte_at r) (sym (zero-add i))) ∙ pairs_read xs rest)

module _ (v : Schedule) (few : length v.turns < 128) (rest : List ℕ) where
  abbrev written : List ℕ
  written = turns_field v ++ rest

  pub written_length : word_at written 1 ≡ 1 + 2 * length v.turns
  unfolding word_at
  written_length = omega arith

  pub written_read : schedule_at written ≡ v
  written_read =
      let r = pairs v.turns ++ rest in
      let half : (1 + 2 * length v.turns) / 2 ≡ length v.turns = omega arith in
      rw (written_length, half)
      (ap (λ (l : List Turn). record { core = v.core; turns = l })
      (agree_turns r written 0 4 (length v.turns) (λ i l. behind (9 ∷ 0 ∷ (1 + 2 * length v.turns) ∷ v.core ∷ []) r i ∙ ap (byte_at r) (sym (zero-add i))) ∙ pairs_read v.turns rest))

-- ---- equal slots written either way

count_even : (k n len : ℕ) → length (turns_from k n len) ≡ n
unfolding turns_from
count_even k zero len = refl
count_even k (suc n) len = ap suc (count_even (suc k) n len)

even_turns : (k n len : ℕ) → k + n ≤ 16 → 1 ≤ len → len ≤ 128 → turns_ok (turns_from k n len) ≡ true
unfolding turns_ok turns_from
even_turns k zero len few some most = refl
even_turns k (suc n) len few some most =
    simp (le-leb k 15 (omega arith), le-leb 1 len some, le-leb len 128 most, even_turns (suc k) n len (omega arith) some most)

even_named : (c k n len : ℕ) → k ≤ c → c < k + n → has_pair c (turns_from k n len) ≡ true
unfolding has_pair turns_from
even_named c k zero len lo hi = absurd (omega arith)
even_named c k (suc n) len lo hi =
    ⊎_elim (λ e. rw (eq-eqb k c e)) (λ d. rw (ne_eqb k c d) (even_named c (suc k) n len (omega (arith, d)) (omega arith))) (eq_or_ne k c)

-- of numbers in the ranges of tag 1
module _ (v : Slots) (h : Ranges v) where
  abbrev pub evenly : Schedule
  evenly = even (slots_of v)

  pub even_count : length evenly.turns ≡ v.cores
  even_count = count_even 0 v.cores v.slot

  pub even_ok : schedule_ok evenly ≡ true
  unfolding schedule_ok
  even_ok = simp (
    even_turns 0 v.cores v.slot (omega (arith, h.cores_most)) h.slot_least h.slot_most,
    total_even 0 v.cores v.slot,
    le-leb (v.cores * v.slot) 256 h.period_most,
    even_named v.core 0 v.cores v.slot (omega arith) (omega (arith, h.core_lt)),
  )

  pub even_same : SameBus (unequal_slots evenly) (equal_slots (slots_of v))
  even_same = either_way (slots_of v) (has_slot v h) h.cores_least
