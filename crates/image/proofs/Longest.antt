-- "a valid image has at most" so many bytes, "since node 0 must be a block" (document 01; with W9 that block may have tag 10, and one byte more; with W5
-- field 1 has up to 62 bytes more, and with W1 a field of 5 bytes may close it).
use mathlib.Core.Path.{◌≡◌}
use mathlib.Core.Logic.{⊎_elim}
use mathlib.Core.Bool.{Bool}
use mathlib.Core.List.{List}
use lib.ListN.{length}
use native.Mathlib.Nat.{not-suc-le-zero}
use native.Mathlib.Omega.{arith}
use Prim.Native.Nat.{ℕ, zero, suc, ◌+◌, ◌-◌, ◌*◌, ◌≤◌}
use Rattle.rows.specs.Rules.{TagRule, LengthRule, ChildRule}
use Rattle.rows.specs.Fields.{field_at, tag_at, length_at, body_at, closed_at, GoodField}
use Rattle.rows.specs.Unclosed.{Unclosed}
use Rattle.image.specs.Conditions.{Accepting, longest_image}
use Rattle.image.specs.declared.Outline.{Outline}
use Rattle.image.proofs.Endings.{nodes_stand, entry_low, length_most}
use Rattle.rows.proofs.Standing.{next_at, unclosed_few, unclosed_fewer}
use Rattle.rows.proofs.Kept.{good_tag, good_length, node_tag, first_end, first_most, starts_count}

-- a node field's tag is none of fields 1 and 2
header_none : (own : ℕ) (c : Bool) (t : ℕ) → (t ≡ 8 → ⊥) → TagRule (own + 2) c t → (3 ≤ t) × (t ≡ 9 → ⊥)
header_none own c t ne r = ⊎_elim (λ e. (omega arith, λ q. omega arith)) (λ (lo, hi). (lo, λ q. omega arith)) (node_tag own c t ne r)

-- the longest body of a node field
body_most : (t n : ℕ) → 3 ≤ t → (t ≡ 9 → ⊥) → LengthRule t n → n ≤ 32
body_most t n lo ne (LengthRule.bus e l) = omega arith
body_most t n lo ne (LengthRule.starts e l h) = absurd (omega arith)
body_most t n lo ne (LengthRule.plain e l) = omega arith
body_most t n lo ne (LengthRule.block e l) = omega arith
body_most t n lo ne (LengthRule.sequence e l h w) = h
body_most t n lo ne (LengthRule.branch e l h w) = omega arith
body_most t n lo ne (LengthRule.loop e l) = omega arith
body_most t n lo ne (LengthRule.entry e l) = omega arith
body_most t n lo ne (LengthRule.schedule e l h w) = absurd (ne e)
body_most t n lo ne (LengthRule.once e l) = omega arith

-- node 0 names no child
block_most : (s : List ℕ) (b t n : ℕ) → 3 ≤ t → (t ≡ 9 → ⊥) → ChildRule s t b n 0 → LengthRule t n → n ≤ 5
block_most s b t n lo ne c (LengthRule.bus e l) = omega arith
block_most s b t n lo ne c (LengthRule.starts e l h) = absurd (omega arith)
block_most s b t n lo ne c (LengthRule.plain e l) = omega arith
block_most s b t n lo ne c (LengthRule.block e l) = omega arith
block_most s b t n lo ne c (LengthRule.sequence e l h w) = absurd (not-suc-le-zero (c.children (omega arith) (omega arith) 0 (omega arith)))
block_most s b t n lo ne c (LengthRule.branch e l h w) = absurd (not-suc-le-zero (c.children (omega arith) (omega arith) 0 (omega arith)))
block_most s b t n lo ne c (LengthRule.loop e l) = absurd (not-suc-le-zero (c.loop e 0 (omega arith)))
block_most s b t n lo ne c (LengthRule.entry e l) = omega arith
block_most s b t n lo ne c (LengthRule.schedule e l h w) = absurd (ne e)
block_most s b t n lo ne c (LengthRule.once e l) = omega arith

module _ (s : List ℕ) where
  node_most : (k : ℕ) → GoodField s (k + 2) × (tag_at s (k + 2) ≡ 8 → ⊥) → length_at s (k + 2) ≤ 32
  node_most k (g, o) =
      let (lo, ne) = header_none k (closed_at s (k + 2)) (tag_at s (k + 2)) o (good_tag s (k + 2) g) in
      body_most (tag_at s (k + 2)) (length_at s (k + 2)) lo ne (good_length s (k + 2) g)

  first_node : GoodField s 2 × (tag_at s 2 ≡ 8 → ⊥) → length_at s 2 ≤ 5
  first_node (g, o) =
      let (lo, ne) = header_none 0 (closed_at s 2) (tag_at s 2) o (good_tag s 2 g) in
      block_most s (body_at s 2) (tag_at s 2) (length_at s 2) lo ne g.1 (good_length s 2 g)

  -- node j ends before 335 + 35 × j
  ends_most : (j : ℕ) → Unclosed s (j + 3) → field_at s (j + 3) ≤ 335 + 35 * j
  ends_most zero p =
      let w = (starts_count s (p 1 (omega arith)).0).1 in
      rw (next_at s 2) (omega (arith, first_end s, first_most s (p 0 (omega arith)).0, next_at s 1, w, first_node (p 2 (omega arith))))
  ends_most (suc j) p =
      let e : suc j + 3 ≡ suc (j + 3) = omega arith in
      let q : j + 3 ≡ suc j + 2 = omega arith in
      let m : length_at s (j + 3) ≤ 32 = rw q (node_most (suc j) (p (suc j + 2) (omega arith))) in
      rw (e, next_at s (j + 3)) (omega (arith, ends_most j (unclosed_fewer s (j + 3) (suc j + 3) (omega arith) p)))

  pub longest : (t : Outline) → Accepting s t → length s ≤ longest_image
  longest t a =
      let low = entry_low s t.nodes t.entry a.ending in
      let n : t.nodes + 2 ≡ t.nodes - 1 + 3 = omega arith in
      let p = nodes_stand s t.nodes t.entry a.ending in
      let m = rw (← n) at (ends_most (t.nodes - 1) (rw n at p)) in
      omega (arith, unclosed_few s (t.nodes + 2) p, m, length_most s t.nodes t.entry a.ending)
