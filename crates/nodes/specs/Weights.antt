-- What the functions that weigh nodes promise each other; no other crate needs it. Definitions only.
use Rattle.std.specs.Prelude.{◌≡◌, List, ℕ, ◌+◌, ◌*◌, ◌≤◌, ◌<◌, min, max, get_or}
use Rattle.runs.specs.Nodes.{depth, deepest, visits as visited, visits_all}
use Rattle.nodes.specs.Nodes.{tree_at, child_trees}
use Rattle.nodes.specs.declared.weigh.Weight.{Weight}
use Rattle.nodes.specs.declared.Loop.{Loop}

-- r is the depth, up to 25, and the visits, up to 100,001, of node n
pub record Weighs (s : List ℕ) (n : ℕ) (r : Weight) : Type 0 where
  pub deep : r.depth ≡ min 25 (depth (tree_at s n))
  pub long : r.visits ≡ min 100001 (visited (tree_at s n))

-- what stands behind the last node of a table
abbrev pub no_weight : Weight
no_weight = record { depth = 0; visits = 0 }

-- the table has the weights of the nodes before n
abbrev pub Weighed : List ℕ → ℕ → List Weight → Type 0
Weighed s n known = (k : ℕ) → k < n → Weighs s k (get_or known k no_weight)

-- r is the greatest depth of the children that a place names, and their visits together, exact up to 100,000
pub record Together (s : List ℕ) (place count : ℕ) (r : Weight) : Type 0 where
  pub deep : r.depth ≡ min 25 (deepest (child_trees s place count))
  pub long : min 100001 r.visits ≡ min 100001 (visits_all (child_trees s place count))
  pub most : r.visits ≤ 100001 * count

-- r is the greater depth of a loop's body and test, up to 25, and the visits of all its iterations and of all its tests, the first included, exact up to
-- 100,000
pub record OverTurns (s : List ℕ) (l : Loop) (r : Weight) : Type 0 where
  pub deep : r.depth ≡ min 25 (max (depth (tree_at s l.body)) (depth (tree_at s l.test)))
  pub long : min 100001 r.visits
      ≡ min 100001 (l.greatest * (visited (tree_at s l.body) + visited (tree_at s l.test)) + visited (tree_at s l.test))
  pub most : r.visits ≤ 2000120001
