-- From a node that may be walked to what its kind of step asks, and from the step's promise to the node's.
use mathlib.Core.Path.{◌≡◌}
use mathlib.Core.List.{List}
use lib.ListN.{length, get_or}
use native.Mathlib.Omega.{arith}
use native.Mathlib.Nat.{mul_left_comm}
use Prim.Native.Nat.{ℕ, ◌+◌, ◌*◌, ◌≤◌, ◌<◌}
use Rattle.runs.specs.Nodes.{Tree, visits, visits_all}
use Rattle.runs.proofs.Bounds.{cost_all_lem, sum_le}
use Rattle.bus.specs.Owning.{bus_meant}
use Rattle.offsets.specs.declared.Set.{Set}
use Rattle.nodes.specs.Nodes.{node_of, kind_meant, tree_at, child_trees, turn_trees}
use Rattle.image.specs.declared.Walk.{Walk}
use Rattle.nodes.specs.declared.Node.TheVariants.{Plain, Bus as Block, Once, Sequence, Branch, Loop}
use Rattle.nodes.specs.declared.Plain.{Plain as PlainNumbers}
use Rattle.nodes.specs.declared.BusBlock.{BusBlock}
use Rattle.nodes.specs.declared.Once.{Once as OnceNumbers}
use Rattle.nodes.specs.declared.Children.{Children}
use Rattle.nodes.specs.declared.Loop.{Loop as LoopNumbers}
use Rattle.image.proofs.Walks.{walk_lawful, walk_small, turn_valid, node_place, as_plain, as_block, as_once, as_sequence, as_branch, as_loop as loop-node}
use Rattle.exits.specs.Exits.{PlainReady, BusReady}
use Rattle.published.specs.declared.Outcome.{Outcome}
use Rattle.published.specs.Steps.{bits, charge, Ready, ReadyAll, ReadyRepeat, Published, PublishedAll, PublishedAny, Repeated}
use Rattle.published.proofs.Parts.{as_all, as_any}
use Rattle.published.proofs.Children.{outcome_small}

module _ (s : List ℕ) (k : Walk) (places : List ℕ) (node : ℕ) (x : Set) (r : Ready s k places node x) where
  pub in_image : get_or places node 0 ≤ length s
  in_image = (node_place s k places r.walkable node r.low).0

  pub in_places : node < 256
  in_places = (node_place s k places r.walkable node r.low).1

  -- plain blocks
  module _ (p : PlainNumbers) (e : node_of s (get_or places node 0) ≡ Plain p) where
    pub plain_ready : PlainReady k.bus p.lowest p.highest x
    plain_ready =
        let h = as_plain s k places r.walkable node r.low p e in
        record { fit = r.walkable.fit; ordered = h.1; most = h.2; within = r.within }

    pub plain_done : (q : Outcome) → Published k.bus (Tree.plain p.lowest p.highest) x q → Published k.bus (tree_at s node) x q
    plain_done q h = rw (as_plain s k places r.walkable node r.low p e).0 h

  -- bus blocks
  module _ (y : BusBlock) (e : node_of s (get_or places node 0) ≡ Block y) where
    pub block_ready : BusReady k.bus y.lowest y.highest x
    block_ready =
        let h = as_block s k places r.walkable node r.low y e in
        record { fit = r.walkable.fit; least = h.1; ordered = h.2; most = h.3; within = r.within }

    pub block_done : (q : Outcome) → Published k.bus (Tree.bus (kind_meant y.kind) y.lowest y.highest) x q → Published k.bus (tree_at s node) x q
    block_done q h = rw (as_block s k places r.walkable node r.low y e).0 h

  -- blocks fetched once
  module _ (y : OnceNumbers) (e : node_of s (get_or places node 0) ≡ Once y) where
    pub once_ready : BusReady k.bus y.lowest y.highest x × (y.hit ≤ 65535)
    once_ready =
        let h = as_once s k places r.walkable node r.low y e in
        (record { fit = r.walkable.fit; least = h.1; ordered = h.2; most = h.3; within = r.within }, h.4)

    pub once_done : (q : Outcome) → Published k.bus (Tree.once y.line y.lowest y.highest y.hit) x q → Published k.bus (tree_at s node) x q
    once_done q h = rw (as_once s k places r.walkable node r.low y e).0 h

  -- sequences
  module _ (c : Children) (e : node_of s (get_or places node 0) ≡ Sequence c) where
    pub sequence_ready : ReadyAll s k places node c.place c.count x
    unfolding visits
    sequence_ready =
        let h = as_sequence s k places r.walkable node r.low c e in
        record { walkable = r.walkable; low = r.low; named = h.1; few = omega (arith, rw h.0 at r.few); within = r.within }

    pub sequence_done : (q : Outcome) → PublishedAll k.bus (child_trees s c.place c.count) x q → Published k.bus (tree_at s node) x q
    sequence_done q h = as_all k.bus (tree_at s node) x _ q (as_sequence s k places r.walkable node r.low c e).0 h

  -- branches
  module _ (c : Children) (e : node_of s (get_or places node 0) ≡ Branch c) where
    pub branch_ready : ReadyAll s k places node c.place c.count x
    unfolding visits
    branch_ready =
        let h = as_branch s k places r.walkable node r.low c e in
        record { walkable = r.walkable; low = r.low; named = h.1; few = omega (arith, rw h.0 at r.few); within = r.within }

    pub branch_done : (q : Outcome) → PublishedAny k.bus (child_trees s c.place c.count) x q → Published k.bus (tree_at s node) x q
    branch_done q h = as_any k.bus (tree_at s node) x _ q (as_branch s k places r.walkable node r.low c e).0 h

  -- loops
  module _ (l : LoopNumbers) (e : node_of s (get_or places node 0) ≡ Loop l) where
    pub repeat_ready : ReadyRepeat s k places node l (visits (tree_at s l.test)) x
    unfolding visits
    repeat_ready =
        let h = loop-node s k places r.walkable node r.low l e in
        record {
          walkable = r.walkable;
          low = r.low;
          below = h.1;
          below_test = h.2;
          many = h.4;
          few = omega (arith, rw h.0 at r.few);
          within = r.within;
        }

    pub repeat_done : (q : Outcome) → Published k.bus (Tree.loop l.least l.greatest (tree_at s l.body) (tree_at s l.test)) x q
        → Published k.bus (tree_at s node) x q
    repeat_done q h = rw (loop-node s k places r.walkable node r.low l e).0 h

-- a loop's first test, and what is to come then
module _ (s : List ℕ) (k : Walk) (places : List ℕ) (node : ℕ) (l : LoopNumbers) (x : Set)
    (r : ReadyRepeat s k places node l (visits (tree_at s l.test)) x) where
  test_low : l.test ≤ k.outline.entry
  test_low = omega (arith, r.low, r.below_test)

  pub first_ready : Ready s k places l.test x
  first_ready = record { walkable = r.walkable; low = test_low; few = omega (arith, r.few); within = r.within }

  module _ (n : Outcome) (first : Published k.bus (tree_at s l.test) x n) where
    pub turns_ready : ReadyRepeat s k places node l 0 n.exits
    turns_ready = record {
      walkable = r.walkable;
      low = r.low;
      below = r.below;
      below_test = r.below_test;
      many = r.many;
      few = omega (arith, r.few);
      within = first.exited.within;
    }

    -- both costs are at most 65,535 for each visit
    pub turns_small : (q : Outcome) → Repeated k.bus (turn_trees s l.body l.test) l.least l.greatest n.exits q → n.cost + q.cost ≤ 6553500000
    turns_small q h =
        let xs = turn_trees s l.body l.test in
        let valid = turn_valid s k places r.walkable l.body l.test (omega (arith, r.low, r.below)) test_low in
        let most = sum_le l.greatest (charge k.bus xs (bits k.bus n.exits)) (65535 * visits_all xs)
        (λ i. cost_all_lem (bus_meant k.bus) (walk_lawful s k places r.walkable) (walk_small s k places r.walkable) xs valid _) in
        omega (
          arith,
          outcome_small s k places r.walkable l.test test_low x n first,
          h.costs,
          most,
          mul_left_comm l.greatest 65535 (visits_all xs),
          r.few,
        )
