-- One child of a sequence or a branch: the walk may be asked of it, and the rest goes on from it.
use mathlib.Core.Path.{◌≡◌, sym, ◌∙◌, ap}
use mathlib.Core.Bool.{Bool, false, ◌||◌}
use mathlib.Core.List.{List}
use lib.ListN.{get_or}
use lib.Bits.{bit_or}
use native.Mathlib.Omega.{arith}
use Prim.Native.Nat.{ℕ, ◌+◌, ◌-◌, ◌*◌, ◌≤◌, ◌<◌, max}
use Rattle.runs.specs.Nodes.{visits, visits_all}
use Rattle.runs.specs.Figures.{cost_all, cost_any}
use Rattle.runs.proofs.Joins.{or_joins}
use Rattle.runs.proofs.Bounds.{cost_bounded}
use Rattle.bus.specs.Owning.{bus_meant}
use Rattle.offsets.specs.declared.Set.{Set}
use Rattle.offsets.specs.Sets.{value}
use Rattle.image_bytes.specs.Bytes.{word_at}
use Rattle.nodes.specs.Nodes.{tree_at, child_trees}
use Rattle.image.specs.Walks.{Walkable, NamedChildren}
use Rattle.image.specs.declared.Walk.{Walk}
use Rattle.image.proofs.Walks.{all_more, any_more, walk_lawful, walk_small, valid_at}
use Rattle.nodes.proofs.Levels.{visits_step}
use Rattle.exits.specs.Exits.{Within}
use Rattle.published.specs.Steps.{bits, after_all, after_any, Ready, Published}
use Rattle.published.specs.declared.Outcome.{Outcome}
use Rattle.published.proofs.Joins.{join_at}
use Rattle.published.proofs.Parts.{cost_all_more, cost_any_more}

-- a node's cost is at most 65,535 for each visit
pub outcome_small : (s : List ℕ) (k : Walk) (places : List ℕ) → Walkable s k places → (node : ℕ) → node ≤ k.outline.entry → (x : Set) (r : Outcome)
    → Published k.bus (tree_at s node) x r → r.cost ≤ 65535 * visits (tree_at s node)
outcome_small s k places w node low x r h =
    rw h.costs
    (cost_bounded (bus_meant k.bus) (walk_lawful s k places w) (walk_small s k places w) (tree_at s node) (valid_at s k places w node low) (bits k.bus x))

module _ (s : List ℕ) (k : Walk) (places : List ℕ) (w : Walkable s k places) (node : ℕ) (low : node ≤ k.outline.entry)
    (p n : ℕ) (named : NamedChildren s p n node) (i : ℕ) (h : i < n) (child : ℕ) (is : child ≡ word_at s (p + 2 * i)) where
  -- the visits of the children from j on
  abbrev ahead : ℕ → ℕ
  ahead j = visits_all (child_trees s (p + 2 * j) (n - j))

  pub child_low : child < node
  child_low = rw is (named.below i h)

  pub visits_split : ahead i ≡ visits (tree_at s child) + ahead (i + 1)
  visits_split = rw is (visits_step s p n i h)

  pub child_ready : (x : Set) → ahead i ≤ 100000 → Within k.bus.period x → Ready s k places child x
  child_ready x few within = record {
    walkable = w;
    low = omega (arith, child_low);
    few = omega (arith, visits_split);
    within = within;
  }

  pub child_small : (x : Set) (r : Outcome) → Published k.bus (tree_at s child) x r → r.cost ≤ 65535 * visits (tree_at s child)
  child_small x r e = outcome_small s k places w child (omega (arith, child_low)) x r e

  -- a sequence goes on from what the child left
  module _ (x : Set) (r : Outcome) (e : Published k.bus (tree_at s child) x r) where
    pub next_in_order :
        after_all k.bus (child_trees s (p + 2 * (i + 1)) (n - (i + 1))) (bits k.bus r.exits)
        ≡ after_all k.bus (child_trees s (p + 2 * i) (n - i)) (bits k.bus x)
    next_in_order =
        ap (λ (X : List Bool). after_all k.bus (child_trees s (p + 2 * (i + 1)) (n - (i + 1))) X) (rw is at e.exited.bits)
        ∙ sym (all_more _ _ false ◌||◌ (λ d v. v) s p n i h (bits k.bus x))

    pub next_cost :
        cost_all (bus_meant k.bus) (child_trees s (p + 2 * i) (n - i)) (bits k.bus x)
        ≡ r.cost + cost_all (bus_meant k.bus) (child_trees s (p + 2 * (i + 1)) (n - (i + 1))) (bits k.bus r.exits)
    next_cost =
        cost_all_more (bus_meant k.bus) s p n i h (bits k.bus x)
        ∙ sym (rw (e.costs, e.exited.bits, is))

    -- a branch has one arm more
    pub next_arm : (out both : Set) → value both ≡ bit_or (value out) (value r.exits) → (o : ℕ) → o < k.bus.period
        → (get_or (bits k.bus both) o false || after_any k.bus (child_trees s (p + 2 * (i + 1)) (n - (i + 1))) (bits k.bus x) o)
        ≡ (get_or (bits k.bus out) o false || after_any k.bus (child_trees s (p + 2 * i) (n - i)) (bits k.bus x) o)
    next_arm out both j o l =
        ap (λ (z : Bool). z || after_any k.bus (child_trees s (p + 2 * (i + 1)) (n - (i + 1))) (bits k.bus x) o)
        (join_at k.bus out r.exits both j o l)
        ∙ or_joins.assoc (get_or (bits k.bus out) o false) (get_or (bits k.bus r.exits) o false)
        (after_any k.bus (child_trees s (p + 2 * (i + 1)) (n - (i + 1))) (bits k.bus x) o)
        ∙ ap (λ (z : Bool). get_or (bits k.bus out) o false || z)
        (ap (λ (X : List Bool). get_or X o false || after_any k.bus (child_trees s (p + 2 * (i + 1)) (n - (i + 1))) (bits k.bus x) o) (rw is at e.exited.bits)
        ∙ sym (any_more _ _ false ◌||◌ (λ d v. v) s p n i h (bits k.bus x) o))

    pub next_arm_cost :
        cost_any (bus_meant k.bus) (child_trees s (p + 2 * i) (n - i)) (bits k.bus x)
        ≡ max r.cost (cost_any (bus_meant k.bus) (child_trees s (p + 2 * (i + 1)) (n - (i + 1))) (bits k.bus x))
    next_arm_cost =
        cost_any_more (bus_meant k.bus) s p n i h (bits k.bus x)
        ∙ sym (rw (e.costs, is))
