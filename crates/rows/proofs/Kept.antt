-- What a good field says keeps the rules of its row: the tag of a node field, the bus of field 1, the starts of field 2.
use mathlib.Core.Path.{◌≡◌, refl}
use mathlib.Core.Logic.{◌⊎◌, inl, inr, ⊎_elim}
use mathlib.Core.Bool.{Bool, true, false}
use mathlib.Core.List.{List}
use Prim.Native.Nat.{ℕ, ◌+◌, ◌≤◌, ◌<◌}
use native.Mathlib.Omega.{arith}
use lib.ListN.{length}
use Rattle.image_bytes.specs.Bytes.{byte_at, word_at}
use Rattle.schedule.specs.Said.{said, Ranged, slots, turns}
use Rattle.schedule.proofs.Numbers.{is_within}
use Rattle.rows.specs.Rules.{TagRule, RoomRule, LengthRule, Starts, ValueRule}
use Rattle.rows.specs.Tests.{tag_ok, length_ok}
use Rattle.rows.specs.Fields.{field_at, tag_at, length_at, body_at, closed_at, GoodField}
use Rattle.rows.proofs.Rules.{tag_rule, length_here}

-- ---- the rules of a good field, one by one

module _ (s : List ℕ) (k : ℕ) (g : GoodField s k) where
  pub good_head : field_at s k + 3 ≤ length s
  good_head = g.0.0.0.0.0.0

  pub good_room : RoomRule k (tag_at s k)
  good_room = g.0.0.0.0.1

  pub good_tag : TagRule k (closed_at s k) (tag_at s k)
  good_tag = g.0.0.0.0.0.1

  pub good_length : LengthRule (tag_at s k) (length_at s k)
  good_length = g.0.0.0.1

  pub good_body : body_at s k + length_at s k ≤ length s
  good_body = g.0.0.1

  pub good_value : ValueRule s (tag_at s k) (body_at s k) (length_at s k)
  good_value = g.0.1

-- ---- a node field

-- its tag
pub node_tag : (own : ℕ) (c : Bool) (t : ℕ) → (t ≡ 8 → ⊥) → TagRule (own + 2) c t → (t ≡ 10) ⊎ ((3 ≤ t) × (t ≤ 7))
node_tag own c t ne (TagRule.bus i e) = absurd (omega arith)
node_tag own c t ne (TagRule.schedule i e) = absurd (omega arith)
node_tag own c t ne (TagRule.starts i e) = absurd (omega arith)
node_tag own c t ne (TagRule.node i o lo hi) = inr (lo, hi)
node_tag own c t ne (TagRule.once i o e) = inl e
node_tag own c t ne (TagRule.entry i o e) = absurd (ne e)

-- there are at most 256
pub node_room : (k t : ℕ) → (t ≡ 8 → ⊥) → RoomRule k t → k < 258
node_room k t ne (RoomRule.room l) = l
node_room k t ne (RoomRule.entry e) = absurd (ne e)

-- behind field 2 no field stands behind one that closes the image
pub later_tag : (k : ℕ) (c : Bool) (t : ℕ) → 2 ≤ k → TagRule k c t → c ≡ false
later_tag k c t l (TagRule.bus i e) = absurd (omega arith)
later_tag k c t l (TagRule.schedule i e) = absurd (omega arith)
later_tag k c t l (TagRule.starts i e) = absurd (omega arith)
later_tag k c t l (TagRule.node i o lo hi) = o
later_tag k c t l (TagRule.once i o e) = o
later_tag k c t l (TagRule.entry i o e) = o

-- ---- field 1, rows 1 and 9

-- where it ends
pub first_end : (s : List ℕ) → field_at s 1 ≡ 3 + word_at s 1
unfolding field_at
first_end s = refl

first_tag : (c : Bool) (t : ℕ) → TagRule 0 c t → (t ≡ 1) ⊎ (t ≡ 9)
first_tag c t (TagRule.bus i e) = inl e
first_tag c t (TagRule.schedule i e) = inr e
first_tag c t (TagRule.starts i e) = absurd (omega arith)
first_tag c t (TagRule.node i o lo hi) = absurd (omega arith)
first_tag c t (TagRule.once i o e) = absurd (omega arith)
first_tag c t (TagRule.entry i o e) = absurd (omega arith)

-- with tag 1 its body has three bytes, with tag 9 at most 65
slots_length : (n : ℕ) → LengthRule 1 n → n ≡ 3
slots_length n (LengthRule.bus e l) = l
slots_length n (LengthRule.starts e l h) = absurd (omega arith)
slots_length n (LengthRule.plain e l) = absurd (omega arith)
slots_length n (LengthRule.block e l) = absurd (omega arith)
slots_length n (LengthRule.sequence e l h w) = absurd (omega arith)
slots_length n (LengthRule.branch e l h w) = absurd (omega arith)
slots_length n (LengthRule.loop e l) = absurd (omega arith)
slots_length n (LengthRule.entry e l) = absurd (omega arith)
slots_length n (LengthRule.schedule e l h w) = absurd (omega arith)
slots_length n (LengthRule.once e l) = absurd (omega arith)

header_most : (t n : ℕ) → (t ≡ 1) ⊎ (t ≡ 9) → LengthRule t n → n ≤ 65
header_most t n r (LengthRule.starts e l h) = absurd (⊎_elim (λ q. omega arith) (λ q. omega arith) r)
header_most t n r (LengthRule.bus e l) = omega arith
header_most t n r (LengthRule.plain e l) = omega arith
header_most t n r (LengthRule.block e l) = omega arith
header_most t n r (LengthRule.sequence e l h w) = omega arith
header_most t n r (LengthRule.branch e l h w) = omega arith
header_most t n r (LengthRule.loop e l) = omega arith
header_most t n r (LengthRule.entry e l) = omega arith
header_most t n r (LengthRule.schedule e l h w) = omega arith
header_most t n r (LengthRule.once e l) = omega arith

module _ (s : List ℕ) (g : GoodField s 0) where
  pub slots_row : byte_at s 0 ≡ 1 → (6 ≤ length s) × (word_at s 1 ≡ 3)
  unfolding field_at
  slots_row tag = let three = slots_length (word_at s 1) (rw tag at (good_length s 0 g)) in (omega (arith, good_body s 0 g, three), three)

  pub first_most : word_at s 1 ≤ 65
  unfolding field_at
  first_most = header_most (byte_at s 0) (word_at s 1) (first_tag false (byte_at s 0) (good_tag s 0 g)) (good_length s 0 g)

  -- it does not close the image
  pub first_open : tag_at s 0 ≡ 8 → ⊥
  first_open e = ⊎_elim (λ q. omega arith) (λ q. omega arith) (first_tag false (tag_at s 0) (good_tag s 0 g))

  -- its numbers are in their ranges
  pub first_fine : Ranged s
  unfolding field_at
  first_fine = by_row (first_tag false (byte_at s 0) (good_tag s 0 g)) (good_value s 0 g)
    where
      by_row : (byte_at s 0 ≡ 1) ⊎ (byte_at s 0 ≡ 9) → ValueRule s (byte_at s 0) 3 (word_at s 1) → Ranged s
      by_row r (ValueRule.bus e h) = slots e h
      by_row r (ValueRule.schedule e h) = turns e h
      by_row r (ValueRule.starts e h) = absurd (⊎_elim (λ q. omega arith) (λ q. omega arith) r)
      by_row r (ValueRule.plain e h) = absurd (⊎_elim (λ q. omega arith) (λ q. omega arith) r)
      by_row r (ValueRule.block e k h) = absurd (⊎_elim (λ q. omega arith) (λ q. omega arith) r)
      by_row r (ValueRule.children lo hi) = absurd (⊎_elim (λ q. omega arith) (λ q. omega arith) r)
      by_row r (ValueRule.loop e h) = absurd (⊎_elim (λ q. omega arith) (λ q. omega arith) r)
      by_row r (ValueRule.entry e) = absurd (⊎_elim (λ q. omega arith) (λ q. omega arith) r)
      by_row r (ValueRule.once e h) = absurd (⊎_elim (λ q. omega arith) (λ q. omega arith) r)

-- a field with tag 1 or 9 is the first
pub later_field : (index : ℕ) (closed : Bool) (tag : ℕ) → tag_ok index closed tag ≡ true → ¬ (tag ≡ 1) → ¬ (tag ≡ 9) → 1 ≤ index
later_field index closed tag e n m = by_rule ((tag_rule index closed tag).holds e)
  where
    by_rule : TagRule index closed tag → 1 ≤ index
    by_rule (TagRule.bus i e) = absurd (n e)
    by_rule (TagRule.schedule i e) = absurd (m e)
    by_rule (TagRule.starts i e) = omega arith
    by_rule (TagRule.node i o lo hi) = omega arith
    by_rule (TagRule.once i o e) = omega arith
    by_rule (TagRule.entry i o e) = omega arith

-- ---- field 2

second_tag : (c : Bool) (t : ℕ) → TagRule 1 c t → t ≡ 2
second_tag c t (TagRule.bus i e) = absurd (omega arith)
second_tag c t (TagRule.schedule i e) = absurd (omega arith)
second_tag c t (TagRule.starts i e) = e
second_tag c t (TagRule.node i o lo hi) = absurd (omega arith)
second_tag c t (TagRule.once i o e) = absurd (omega arith)
second_tag c t (TagRule.entry i o e) = absurd (omega arith)

module _ (s : List ℕ) (g : GoodField s 1) where
  pub starts_count : (1 ≤ length_at s 1) × (length_at s 1 ≤ 256)
  unfolding length_ok
  starts_count = is_within 1 256 (length_at s 1) (rw (second_tag (closed_at s 1) (tag_at s 1) (good_tag s 1 g)) at ((length_here s 1).passes (good_length s 1 g)))

  pub starts_fine : Starts s (body_at s 1) (length_at s 1) (said s).period
  starts_fine = by_row (tag_at s 1) (second_tag (closed_at s 1) (tag_at s 1) (good_tag s 1 g)) (good_value s 1 g)
    where
      by_row : (t : ℕ) → t ≡ 2 → ValueRule s t (body_at s 1) (length_at s 1) → Starts s (body_at s 1) (length_at s 1) (said s).period
      by_row t r (ValueRule.starts e h) = h
      by_row t r (ValueRule.bus e h) = absurd (omega arith)
      by_row t r (ValueRule.plain e h) = absurd (omega arith)
      by_row t r (ValueRule.block e k h) = absurd (omega arith)
      by_row t r (ValueRule.children lo hi) = absurd (omega arith)
      by_row t r (ValueRule.loop e h) = absurd (omega arith)
      by_row t r (ValueRule.entry e) = absurd (omega arith)
      by_row t r (ValueRule.schedule e h) = absurd (omega arith)
      by_row t r (ValueRule.once e h) = absurd (omega arith)
