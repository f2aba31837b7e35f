-- Depth and visits of a node come from its children's: a child's number is smaller, so its tree is known (`tree_is` of crate `runs`).
use mathlib.Core.Path.{◌≡◌, refl, ◌∙◌, ap, subst}
use mathlib.Core.List.{List}
use Prim.Native.Nat.{ℕ, suc, ◌+◌, ◌-◌, ◌*◌, ◌≤◌, ◌<◌, max}
use native.Mathlib.Nat.{not-suc-le-zero}
use native.Mathlib.Omega.{arith}
use lib.ListN.{length, get_or, set, length-set, replicate}
use lib.Seq.{get_or-set_same, get_or-set_other}
use borrow.Author.Count.{below_more}
use Rattle.runs.specs.Nodes.{trees, tree_by, Children as Named, depth, deepest, visits, visits_all}
use Rattle.runs.proofs.Trees.{tree_is}
use Rattle.image_bytes.specs.Bytes.{word_at}
use Rattle.rows.specs.Fields.{field_at}
use Rattle.rows.specs.Unclosed.{Unclosed}
use Rattle.nodes.specs.Nodes.{node_of, meant, node_at, tree_at, child_trees}
use Rattle.nodes.specs.Fine.{Fine, Standing}
use Rattle.nodes.specs.Weights.{no_weight, Weighs, Weighed}
use Rattle.nodes.specs.declared.weigh.Weight.{Weight}
use Rattle.nodes.specs.declared.Node.{Node}
use Rattle.nodes.specs.declared.Node.TheVariants.{Plain, Bus as Block, Once, Sequence, Branch, Loop}
use Rattle.nodes.proofs.Lists.{words_step, words_none, all_words}
use Rattle.rows.proofs.Kept.{good_head}
use Rattle.rows.proofs.Standing.{unclosed_few}
use Rattle.nodes.proofs.Kept.{node_fine}

names : (s : List ℕ) (own : ℕ) (x : Node) → Fine s own x → Named (λ i. i < own) (meant s x)
unfolding meant Fine
names s own (Plain p) f = tt
names s own (Block b) f = tt
names s own (Once x) f = tt
names s own (Sequence c) f = all_words (λ i. i < own) s c.place c.count f.3
names s own (Branch c) f = all_words (λ i. i < own) s c.place c.count f.3
names s own (Loop l) f = (f.1, f.2)

-- "a child's number is smaller than that of the node naming it", for the nodes 0 to n
pub falls : (s : List ℕ) (n : ℕ) → Unclosed s (n + 3) → (k : ℕ) → k < suc n → Named (λ i. i < k) (node_at s k)
unfolding node_at
falls s n p k l = names s k (node_of s (field_at s (k + 2))) (node_fine s k (p (k + 2) (omega arith)))

module _ (s : List ℕ) (n at : ℕ) (h : Standing s n at) where
  pub inside_here : at ≤ length s
  inside_here = omega (arith, h.place, good_head s (n + 2) (h.passed (n + 2) (omega arith)).0)

  pub few_here : n < 256
  few_here = omega (arith, unclosed_few s (n + 3) h.passed)

  -- the rules of the row of what stands in its field
  pub fine_here : (x : Node) → node_of s at ≡ x → Fine s n x
  fine_here x e = subst (Fine s n) e (rw h.place (node_fine s n (h.passed (n + 2) (omega arith))))

  -- the node, and its tree, by what stands in its field
  pub node_here : (x : Node) → node_of s at ≡ x → node_at s n ≡ meant s x
  unfolding node_at
  node_here x e = ap (meant s) (rw (← h.place) e)

  pub tree_here : (x : Node) → node_of s at ≡ x → tree_at s n ≡ tree_by (λ k. tree_at s k) (meant s x)
  tree_here x e = tree_is (node_at s) (suc n) (falls s n h.passed) n (omega arith) ∙ ap (tree_by (λ k. tree_at s k)) (node_here x e)

-- child i, and those after it
module _ (s : List ℕ) (p n i : ℕ) where
  pub deepest_step : i < n → deepest (child_trees s (p + 2 * i) (n - i))
      ≡ max (depth (tree_at s (word_at s (p + 2 * i)))) (deepest (child_trees s (p + 2 * (i + 1)) (n - (i + 1))))
  unfolding trees deepest
  deepest_step h = rw (words_step s p n i h)

  pub deepest_none : n ≤ i → deepest (child_trees s (p + 2 * i) (n - i)) ≡ 0
  unfolding trees deepest
  deepest_none h = rw (words_none s p n i h)

  pub visits_step : i < n → visits_all (child_trees s (p + 2 * i) (n - i))
      ≡ visits (tree_at s (word_at s (p + 2 * i))) + visits_all (child_trees s (p + 2 * (i + 1)) (n - (i + 1)))
  unfolding trees visits_all
  visits_step h = rw (words_step s p n i h)

  pub visits_none : n ≤ i → visits_all (child_trees s (p + 2 * i) (n - i)) ≡ 0
  unfolding trees visits_all
  visits_none h = rw (words_none s p n i h)

-- a table of 256 places, with the weights of the nodes before n
pub record Table (s : List ℕ) (n : ℕ) (t : List Weight) : Type 0 where
  pub long : length t ≡ 256
  pub right : Weighed s n t

pub table_first : (s : List ℕ) → Table s 0 (replicate 256 no_weight)
table_first s = record { long = refl; right = λ k h. absurd (not-suc-le-zero h) }

pub table_more : (s : List ℕ) (n : ℕ) (w : Weight) (t : List Weight) → Table s n t → n < 256 → Weighs s n w → Table s (n + 1) (set t n w)
table_more s n w t h few e =
    record {
      long = length-set t n w ∙ h.long;
      right = below_more (λ k. Weighs s k (get_or (set t n w) k no_weight)) n
          (λ k b. rw (get_or-set_other t n k w no_weight (λ q. omega arith)) (h.right k b))
          (rw (get_or-set_same t n w no_weight (omega (arith, h.long))) e);
    }
