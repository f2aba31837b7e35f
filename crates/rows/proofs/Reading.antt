-- What a field says depends on its own bytes, and on the bus: where two images agree on these, wherever the field stands in each, the row's tests are the same
-- (its node too: proofs/Reading.antt of crate nodes).
use mathlib.Core.Path.{◌≡◌, refl, ap}
use mathlib.Core.Bool.{Bool, true, false, cond, ◌&&◌}
use mathlib.Core.List.{List}
use lib.Dec.{eqb, leb, ltb}
use borrow.Author.Tests.{eqb-true}
use native.Mathlib.Omega.{arith}
use Prim.Native.Nat.{ℕ, zero, suc, ◌+◌, ◌*◌, ◌/◌, ◌%◌, ◌≤◌}
use Rattle.image_bytes.specs.Bytes.{byte_at, word_at}
use Rattle.image_bytes.proofs.Agreeing.{Agree, agree_part, agree_first, agree_here, word_here, agree_word}
use Rattle.schedule.specs.Said.{within, said}
use Rattle.schedule.proofs.Numbers.{both}
use Rattle.schedule.proofs.Writings.{agree_turns}
use Rattle.rows.specs.Tests.{node_length_ok, length_ok, starts_ok, node_value_ok, value_ok, below, children_ok, entry_ok}

-- the first m bytes are all that the row's rules, and the node, read of a body of n bytes
pub record Covers (tag n m : ℕ) : Type 0 where
  pub whole : n ≤ m
  pub bus : eqb tag 1 ≡ true → 3 ≤ m
  pub plain : eqb tag 3 ≡ true → 4 ≤ m
  pub block : eqb tag 4 ≡ true → 3 ≤ m
  pub loop : eqb tag 7 ≡ true → 8 ≤ m
  pub entry : eqb tag 8 ≡ true → 2 ≤ m
  pub turns : eqb tag 9 ≡ true → 1 + 2 * (n / 2) ≤ m
  pub once : eqb tag 10 ≡ true → 5 ≤ m

-- eight bytes more are enough, whatever the tag and the length
pub covers_more : (tag n : ℕ) → Covers tag n (8 + n)
covers_more tag n = record {
  whole = omega arith;
  bus = λ is. omega arith;
  plain = λ is. omega arith;
  block = λ is. omega arith;
  loop = λ is. omega arith;
  entry = λ is. omega arith;
  turns = λ is. omega arith;
  once = λ is. omega arith;
}

-- the body itself is enough, where its length is in the tag's row
module _ (tag n : ℕ) (len : length_ok tag n ≡ true) where
  at_tag : (t : ℕ) → eqb tag t ≡ true → length_ok t n ≡ true
  at_tag t is = rw (eqb-true tag t is) at len

  pub covers_row : Covers tag n n
  unfolding length_ok node_length_ok
  covers_row = record {
    whole = omega arith;
    bus = λ is. omega (arith, eqb-true n 3 (at_tag 1 is));
    plain = λ is. omega (arith, eqb-true n 4 (at_tag 3 is));
    block = λ is. omega (arith, eqb-true n 3 (at_tag 4 is));
    loop = λ is. omega (arith, eqb-true n 8 (at_tag 7 is));
    entry = λ is. omega (arith, eqb-true n 2 (at_tag 8 is));
    turns = λ is. omega (arith, eqb-true (n % 2) 1 (both (within 3 65 n) (eqb (n % 2) 1) (at_tag 9 is)).1);
    once = λ is. omega (arith, eqb-true n 5 (at_tag 10 is));
  }

pub by_both : {A B : Type 0} (P : A → B → Type 0) (t : Bool) (a b : A) (c d : B) → (t ≡ true → P a c) → (t ≡ false → P b d) → P (cond t a b) (cond t c d)
by_both P true a b c d f g = f refl
by_both P false a b c d f g = g refl

module _ (s e : List ℕ) where
  agree_starts : (p q n least period : ℕ) → Agree s e p q n → starts_ok e q n least period ≡ starts_ok s p n least period
  unfolding starts_ok
  agree_starts p q zero least period h = refl
  agree_starts p q (suc n) least period h =
      rw (agree_here s e p q (suc n) h (omega arith))
      (ap (λ (t : Bool). leb least (byte_at s p) && (ltb (byte_at s p) period && t))
      (agree_starts (p + 1) (q + 1) n (byte_at s p + 1) period (agree_part s e p q (suc n) 1 n h (omega arith))))

  agree_below : (p q n index : ℕ) → Agree s e p q (2 * n) → below e q n index ≡ below s p n index
  unfolding below
  agree_below p q zero index h = refl
  agree_below p q (suc n) index h =
      rw (word_here s e p q (2 * suc n) h (omega arith))
      (ap (λ (t : Bool). ltb (word_at s p + 2) index && t)
      (agree_below (p + 2) (q + 2) n index (agree_part s e p q (2 * suc n) 2 (2 * n) h (omega arith))))

  -- one field: its body of n bytes stands at p in s and at q in e, and they agree on all that the tag's row reads
  module _ (tag p q n m : ℕ) (c : Covers tag n m) (h : Agree s e p q m) where
    -- the buses have the same period and longest access
    pub agree_value : (said e).period ≡ (said s).period → (said e).most ≡ (said s).most → value_ok e tag q n ≡ value_ok s tag p n
    unfolding value_ok node_value_ok
    agree_value period most =
        by_both ◌≡◌ (eqb tag 1) _ _ _ _
        (λ is. let l = c.bus is in rw (agree_here s e p q m h (omega arith), h 1 (omega arith), h 2 (omega arith)))
        (λ n1. by_both ◌≡◌ (eqb tag 2) _ _ _ _
        (λ is. rw period (agree_starts p q n 0 (said s).period (agree_first s e p q m n h c.whole)))
        (λ n2. by_both ◌≡◌ (within 3 7 tag) _ _ _ _
        (λ w. by_both ◌≡◌ (eqb tag 3) _ _ _ _
        (λ is. let l = c.plain is in rw (word_here s e p q m h (omega arith), agree_word s e p q m 2 h (omega arith)))
        (λ n3. by_both ◌≡◌ (eqb tag 4) _ _ _ _
        (λ is. let l = c.block is in rw (most, agree_here s e p q m h (omega arith), h 1 (omega arith), h 2 (omega arith)))
        (λ n4. by_both ◌≡◌ (within 5 6 tag) _ _ _ _ (λ is. refl)
        (λ n5. by_both ◌≡◌ (eqb tag 7) _ _ _ _
        (λ is. let l = c.loop is in rw (word_here s e p q m h (omega arith), agree_word s e p q m 2 h (omega arith)))
        (λ n7. refl)))))
        (λ w. by_both ◌≡◌ (eqb tag 8) _ _ _ _ (λ is. refl)
        (λ n8. by_both ◌≡◌ (eqb tag 9) _ _ _ _
        (λ is. let l = c.turns is in rw (agree_here s e p q m h (omega arith), agree_turns s e (p + 1) (q + 1) (n / 2) (agree_part s e p q m 1 (2 * (n / 2)) h (omega arith))))
        (λ n9. by_both ◌≡◌ (eqb tag 10) _ _ _ _
        (λ is. let l = c.once is in rw (most, agree_here s e p q m h (omega arith), h 1 (omega arith), h 2 (omega arith), agree_word s e p q m 3 h (omega arith)))
        (λ n10. refl))))))

    pub agree_children : (index : ℕ) → children_ok e tag q n index ≡ children_ok s tag p n index
    unfolding children_ok
    agree_children index =
        by_both ◌≡◌ (within 5 6 tag) _ _ _ _
        (λ is. agree_below p q (n / 2) index (agree_first s e p q m (2 * (n / 2)) h (omega (arith, c.whole))))
        (λ n5. by_both ◌≡◌ (eqb tag 7) _ _ _ _
        (λ is. let l = c.loop is in agree_below (p + 4) (q + 4) 2 index (agree_part s e p q m 4 4 h (omega arith)))
        (λ n7. refl))

    pub agree_entry : (index : ℕ) → entry_ok e tag q index ≡ entry_ok s tag p index
    unfolding entry_ok
    agree_entry index = by_both ◌≡◌ (eqb tag 8) _ _ _ _ (λ is. let l = c.entry is in rw (word_here s e p q m h (omega arith))) (λ n8. refl)
