-- The node of a good field keeps the rules of its row.
use mathlib.Core.Path.{◌≡◌}
use mathlib.Core.Logic.{◌⊎◌, ⊎_elim}
use mathlib.Core.List.{List}
use Prim.Native.Nat.{ℕ, ◌+◌, ◌-◌, ◌*◌, ◌/◌, ◌≤◌}
use native.Mathlib.Omega.{arith}
use lib.ListN.{length}
use Rattle.rows.specs.Rules.{LengthRule, ValueRule, NamesBelow, ChildRule}
use Rattle.rows.specs.Fields.{field_at, tag_at, length_at, body_at, closed_at, GoodField}
use Rattle.nodes.specs.Nodes.{node_from, node_of}
use Rattle.nodes.specs.Fine.{Fine}
use Rattle.rows.proofs.Kept.{good_tag, good_length, good_body, good_value, node_tag}

-- for the node `own` whose body of n bytes stands at b
module _ (s : List ℕ) (b own : ℕ) where
  parent_fine : (t n : ℕ) → b + n ≤ length s → 5 ≤ t → t ≤ 6 → NamesBelow s b (n / 2) own → LengthRule t n → Fine s own (node_from s t b n)
  unfolding node_from Fine
  parent_fine t n inside lo hi c (LengthRule.sequence e l h (m, w)) = rw e (omega arith, omega arith, omega arith, c)
  parent_fine t n inside lo hi c (LengthRule.branch e l h (m, w)) = rw e (omega arith, omega arith, omega arith, c)
  parent_fine t n inside lo hi c (LengthRule.bus e l) = absurd (omega arith)
  parent_fine t n inside lo hi c (LengthRule.starts e l h) = absurd (omega arith)
  parent_fine t n inside lo hi c (LengthRule.plain e l) = absurd (omega arith)
  parent_fine t n inside lo hi c (LengthRule.block e l) = absurd (omega arith)
  parent_fine t n inside lo hi c (LengthRule.loop e l) = absurd (omega arith)
  parent_fine t n inside lo hi c (LengthRule.entry e l) = absurd (omega arith)
  parent_fine t n inside lo hi c (LengthRule.schedule e l h (m, w)) = absurd (omega arith)
  parent_fine t n inside lo hi c (LengthRule.once e l) = absurd (omega arith)

  fine_by : (t n : ℕ) → (t ≡ 10) ⊎ ((3 ≤ t) × (t ≤ 7)) → b + n ≤ length s → LengthRule t n → ChildRule s t b n own → ValueRule s t b n → Fine s own (node_from s t b n)
  unfolding node_from Fine
  fine_by t n r inside l c (ValueRule.plain e h) = rw e h
  fine_by t n r inside l c (ValueRule.block e k h) = rw e h
  fine_by t n r inside l c (ValueRule.children lo hi) = parent_fine t n inside lo hi (c.children lo hi) l
  fine_by t n r inside l c (ValueRule.loop e h) =
      let first : b + 4 + 2 * 0 ≡ b + 4 = omega arith in
      let second : b + 4 + 2 * 1 ≡ b + 6 = omega arith in
      rw e (h, rw first at (c.loop e 0 (omega arith)), rw second at (c.loop e 1 (omega arith)))
  fine_by t n r inside l c (ValueRule.once e h) = rw e h
  fine_by t n r inside l c (ValueRule.bus e h) = absurd (⊎_elim (λ q. omega arith) (λ (lo, hi). omega arith) r)
  fine_by t n r inside l c (ValueRule.entry e) = absurd (⊎_elim (λ q. omega arith) (λ (lo, hi). omega arith) r)
  fine_by t n r inside l c (ValueRule.starts e h) = absurd (⊎_elim (λ q. omega arith) (λ (lo, hi). omega arith) r)
  fine_by t n r inside l c (ValueRule.schedule e h) = absurd (⊎_elim (λ q. omega arith) (λ (lo, hi). omega arith) r)

pub node_fine : (s : List ℕ) (own : ℕ) → GoodField s (own + 2) × (tag_at s (own + 2) ≡ 8 → ⊥) → Fine s own (node_of s (field_at s (own + 2)))
node_fine s own (g, ne) =
    let k = own + 2 in
    let e : k - 2 ≡ own = omega arith in
    fine_by s (body_at s k) own (tag_at s k) (length_at s k) (node_tag own (closed_at s k) (tag_at s k) ne (good_tag s k g)) (good_body s k g) (good_length s k g) (rw e at g.1) (good_value s k g)
