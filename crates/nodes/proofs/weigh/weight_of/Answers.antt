use Rattle.runs.specs.Nodes.{tree_by, depth, deepest, visits as visited, visits_all}
use Rattle.rows.specs.Rules.{NamesBelow}
use Rattle.nodes.specs.Nodes.{node_of, meant, tree_at, child_trees}
use Rattle.nodes.specs.Fine.{Fine, Standing}
use Rattle.nodes.specs.declared.Node.{Node}
use Rattle.nodes.specs.declared.Node.TheVariants.{Plain, Bus as Block, Once, Sequence, Branch}
use Rattle.nodes.specs.declared.Children.{Children}
use Rattle.nodes.proofs.Levels.{few_here, fine_here, tree_here}
use mathlib.Core.Path.{◌≡◌, sym, ◌∙◌}
use mathlib.Core.Logic.{◌⊎◌, ⊎_elim}
use mathlib.Core.List.{List}
use Prim.Native.Nat.{ℕ, ◌+◌, ◌*◌, ◌≤◌}
use lib.ListN.{length}
use native.Mathlib.Omega.{arith}
use Rattle.nodes.proofs.weigh.weight_of.Goals as goal

-- Kind by kind: the node's tree is made of its children's, whose depth and visits the table has.
-- a sequence or a branch
module _ (s : List ℕ) (n at : ℕ) (h : Standing s n at) (c : Children) (is : (node_of s at ≡ Sequence c) ⊎ (node_of s at ≡ Branch c)) where
  named : (c.count ≤ 16) × (c.place + 2 * c.count ≤ length s) × NamesBelow s c.place c.count n
  unfolding Fine
  named =
      ⊎_elim
      (λ e. let f = fine_here s n at h (Sequence c) e in (f.1, f.2, f.3))
      (λ e. let f = fine_here s n at h (Branch c) e in (omega (arith, f.1), f.2, f.3))
      is

  one_more : (depth (tree_at s n) ≡ 1 + deepest (child_trees s c.place c.count)) × (visited (tree_at s n) ≡ 1 + visits_all (child_trees s c.place c.count))
  unfolding tree_by meant depth visited
  one_more =
      ⊎_elim
      (λ e. let t = tree_here s n at h (Sequence c) e in (rw t, rw t))
      (λ e. let t = tree_here s n at h (Branch c) e in (rw t, rw t))
      is

pub over_turns-requires : goal.over_turns-requires
unfolding Fine
over_turns-requires c =
    let f = fine_here _ _ _ c.requires.0 _ (sym c.in-Loop.ensures) in
    (f.0.most, f.1, f.2, omega (arith, few_here _ _ _ c.requires.0), c.requires.1)

pub over_children-requires : goal.over_children-requires
over_children-requires c =
    let p = named _ _ _ c.requires.0 c.in-Sequence.c (rw c.node_at.ensures at c.in-Sequence.is) in
    (omega (arith, p.1), p.0, omega (arith, few_here _ _ _ c.requires.0), p.2, c.requires.1)

pub above-requires-in-Sequence : goal.above-requires-in-Sequence
above-requires-in-Sequence c =
    let p = named _ _ _ c.requires.0 c.in-Sequence.c (rw c.node_at.ensures at c.in-Sequence.is) in
    let w = c.over_children.ensures in
    (omega (arith, w.deep), omega (arith, w.most, p.0))

pub returns-in-Plain : goal.returns-in-Plain
unfolding tree_by meant depth visited
returns-in-Plain c =
    let d : c.above.result.depth ≡ 1 = omega arith in
    let v : c.above.result.visits ≡ 1 = omega arith in
    let tree = λ (x : Node) (e : c.node_at.result ≡ x). tree_here _ _ _ c.requires.0 x (sym c.node_at.ensures ∙ e) in
    ⊎_elim
    (λ (x, e). let t = tree (Plain x) e in record { deep = rw t d; long = rw t v })
    (⊎_elim (λ (x, e). let t = tree (Block x) e in record { deep = rw t d; long = rw t v }) (λ (x, e). let t = tree (Once x) e in record { deep = rw t d; long = rw t v }))
    c.in-Plain.is

pub returns-in-Loop : goal.returns-in-Loop
unfolding tree_by meant depth visited
returns-in-Loop c =
    let t = tree_here _ _ _ c.requires.0 _ (sym c.in-Loop.ensures) in
    let w = c.over_turns.ensures in
    record { deep = rw t (omega (arith, c.above-in-Loop.ensures.0, w.deep)); long = rw t (omega (arith, c.above-in-Loop.ensures.1, w.long)) }

pub returns-in-Sequence : goal.returns-in-Sequence
returns-in-Sequence c =
    let m = one_more _ _ _ c.requires.0 c.in-Sequence.c (rw c.node_at.ensures at c.in-Sequence.is) in
    let w = c.over_children.ensures in
    record { deep = omega (arith, m.0, w.deep); long = omega (arith, m.1, w.long) }
