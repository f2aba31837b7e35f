-- Two tasks whose nodes are the same, but for the durations of plain blocks, have trees of the same depth and visits, and as many lines.
use mathlib.Core.Path.{◌≡◌, refl, ap, ap₂}
use mathlib.Core.List.{List, [], ◌∷◌}
use native.Mathlib.Omega.{arith}
use native.Mathlib.Nat.{not-suc-le-zero}
use Prim.Native.Nat.{ℕ, zero, suc, ◌+◌, ◌*◌, ◌<◌, max}
use Rattle.runs.specs.Nodes.{Node, Tree, trees, tree_by, tree, All, Children, depth, deepest, visits, visits_all, node_lines, lines_to}
use Rattle.runs.proofs.Trees.{tree_is, children_map}
use Rattle.nodes.proofs.Fetches.{lines_alike}

-- the same weight
pub record Equally (t u : Tree) : Type 0 where
  pub deep : depth t ≡ depth u
  pub long : visits t ≡ visits u

-- the same node, or two plain blocks
pub data Alike : Node → Node → Type 0 where
  same : (x : Node) → Alike x x
  plains : (lo hi lo' hi' : ℕ) → Alike (Node.plain lo hi) (Node.plain lo' hi')

module _ (f g : ℕ → Tree) where
  deepest_same : (ns : List ℕ) → All (λ i. Equally (f i) (g i)) ns → deepest (trees f ns) ≡ deepest (trees g ns)
  unfolding trees deepest
  deepest_same [] h = refl
  deepest_same (n ∷ ns) h = ap₂ max h.0.deep (deepest_same ns h.1)

  visits_same : (ns : List ℕ) → All (λ i. Equally (f i) (g i)) ns → visits_all (trees f ns) ≡ visits_all (trees g ns)
  unfolding trees visits_all
  visits_same [] h = refl
  visits_same (n ∷ ns) h = ap₂ ◌+◌ h.0.long (visits_same ns h.1)

  node_same : (x : Node) → Children (λ i. Equally (f i) (g i)) x → Equally (tree_by f x) (tree_by g x)
  unfolding tree_by depth visits
  node_same (Node.plain lo hi) h = record { deep = refl; long = refl }
  node_same (Node.bus kind lo hi) h = record { deep = refl; long = refl }
  node_same (Node.once x lo hi hit) h = record { deep = refl; long = refl }
  node_same (Node.sequence ns) h = record { deep = ap (λ (n : ℕ). 1 + n) (deepest_same ns h); long = ap (λ (n : ℕ). 1 + n) (visits_same ns h) }
  node_same (Node.branch ns) h = record { deep = ap (λ (n : ℕ). 1 + n) (deepest_same ns h); long = ap (λ (n : ℕ). 1 + n) (visits_same ns h) }
  node_same (Node.loop least greatest body test) h = record {
    deep = ap₂ (λ (n m : ℕ). 1 + max n m) h.0.deep h.1.deep;
    long = ap₂ (λ (n m : ℕ). 1 + greatest * (n + m) + m) h.0.long h.1.long;
  }

  alike_same : (x y : Node) → Alike x y → Children (λ i. Equally (f i) (g i)) x → Equally (tree_by f x) (tree_by g y)
  unfolding tree_by depth visits
  alike_same _ _ (same x) h = node_same x h
  alike_same _ _ (plains lo hi lo' hi') h = record { deep = refl; long = refl }

alike_children : (P : ℕ → Type 0) (x y : Node) → Alike x y → Children P x → Children P y
alike_children P _ _ (same x) h = h
alike_children P _ _ (plains lo hi lo' hi') h = tt

module _ (a b : ℕ → Node) (size : ℕ) (falls : (n : ℕ) → n < size → Children (λ i. i < n) (a n))
    (alike : (n : ℕ) → n < size → Alike (a n) (b n)) where
  falls_too : (n : ℕ) → n < size → Children (λ i. i < n) (b n)
  falls_too n l = alike_children (λ i. i < n) (a n) (b n) (alike n l) (falls n l)

  equally_below : (k n : ℕ) → n < k → n < size → Equally (tree a n) (tree b n)
  equally_below zero n h l = absurd (not-suc-le-zero h)
  equally_below (suc k) n h l =
      rw (tree_is a size falls n l, tree_is b size falls_too n l)
      (alike_same (λ i. tree a i) (λ i. tree b i) (a n) (b n) (alike n l)
      (children_map (λ i. i < n) _ (λ i m. equally_below k i (omega arith) (omega arith)) (a n) (falls n l)))

  pub equally : (n : ℕ) → n < size → Equally (tree a n) (tree b n)
  equally n l = equally_below (suc n) n (omega arith) l

-- and they have as many lines
line_same : (x y : Node) → Alike x y → node_lines x ≡ node_lines y
line_same _ _ (same x) = refl
line_same _ _ (plains lo hi lo' hi') = refl

pub lines_same : (a b : ℕ → Node) (n : ℕ) → ((i : ℕ) → i < n → Alike (a i) (b i)) → lines_to a n ≡ lines_to b n
lines_same a b n h = lines_alike a b n (λ i l. line_same (a i) (b i) (h i l))
