-- From a node that may be walked to what its kind of step asks, and from the step's promise to the node's.
use mathlib.Core.Path.{◌≡◌}
use mathlib.Core.List.{List}
use lib.ListN.{length, get_or}
use native.Mathlib.Omega.{arith}
use native.Mathlib.Nat.{mul-le-mul_right, mul_comm}
use Prim.Native.Nat.{ℕ, ◌≤◌, ◌<◌}
use Rattle.runs.specs.Lines.{power}
use Rattle.runs.specs.Nodes.{Tree, visits}
use Rattle.nodes.specs.Nodes.{node_of, kind_meant, tree_at, child_trees}
use Rattle.image.specs.Walks.{Walkable}
use Rattle.image.specs.declared.Walk.{Walk}
use Rattle.nodes.specs.declared.Node.TheVariants.{Plain, Bus as Block, Once, Sequence, Branch, Loop}
use Rattle.nodes.specs.declared.Plain.{Plain as PlainNumbers}
use Rattle.nodes.specs.declared.BusBlock.{BusBlock}
use Rattle.nodes.specs.declared.Once.{Once as OnceNumbers}
use Rattle.nodes.specs.declared.Children.{Children}
use Rattle.nodes.specs.declared.Loop.{Loop as LoopNumbers}
use Rattle.image.proofs.Walks.{period_same, node_place, valid_at, as_plain, as_block, as_once, as_sequence, as_branch, as_loop as loop-node}
use Rattle.nodes.proofs.Fetches.{few_sets}
use Rattle.tight.specs.Steps.{size_of, table, after_all, Walked, Sized, Steppable, PlainReady, BusReady, OnceReady, Ready, ReadyAll, ReadyRepeat, Branched}
use Rattle.tight.proofs.Rooms.{room_less, room_fits, room_after}
use Rattle.tight.proofs.Parts.{as_all, as_any}

-- the sizes of an accepted task's tables
module _ (s : List ℕ) (k : Walk) (places : List ℕ) (w : Walkable s k places) where
  pub sized : Sized k
  sized = record {
    fit = w.fit;
    sets_is = w.sound.accepting.sets;
    few = rw w.sound.accepting.sets (few_sets k.outline.lines w.sound.lines_few);
  }

  pub wide_size : size_of k ≤ 1024
  wide_size = rw (← w.sound.accepting.sets, period_same s k places w) (omega (arith, w.sound.accepting.narrow, mul_comm k.outline.period k.outline.sets))

  pub narrow_size : k.outline.sets ≤ 1 → size_of k ≤ 256
  narrow_size h =
      let m : power k.outline.lines ≤ 1 = omega (arith, w.sound.accepting.sets) in
      omega (arith, w.fit.most, mul-le-mul_right k.bus.period m)

module _ (s : List ℕ) (k : Walk) (places : List ℕ) (node : ℕ) (t : List ℕ) (r : Ready s k places node t) where
  pub in_image : get_or places node 0 ≤ length s
  in_image = (node_place s k places r.walkable node r.low).0

  pub in_places : node < 256
  in_places = (node_place s k places r.walkable node r.low).1

  pub held : Steppable k t
  held = record { sized = sized s k places r.walkable; size = r.size; fits = room_fits k _ t r.room }

  -- plain blocks
  module _ (p : PlainNumbers) (e : node_of s (get_or places node 0) ≡ Plain p) where
    pub plain_ready : PlainReady k p.lowest p.highest t
    plain_ready =
        let h = as_plain s k places r.walkable node r.low p e in
        (record { fit = r.walkable.fit; order = h.1; in_row = (omega (arith, h.3), h.2) }, held)

    pub plain_done : (q : List ℕ) → Walked k (Tree.plain p.lowest p.highest) t q → Walked k (tree_at s node) t q
    plain_done q h = rw (as_plain s k places r.walkable node r.low p e).0 h

  -- bus blocks
  module _ (x : BusBlock) (e : node_of s (get_or places node 0) ≡ Block x) where
    pub block_ready : BusReady k x.lowest x.highest t
    block_ready =
        let h = as_block s k places r.walkable node r.low x e in
        (record { fit = r.walkable.fit; order = h.2; in_row = (h.1, h.4, h.3) }, held)

    pub block_done : (q : List ℕ) → Walked k (Tree.bus (kind_meant x.kind) x.lowest x.highest) t q → Walked k (tree_at s node) t q
    block_done q h = rw (as_block s k places r.walkable node r.low x e).0 h

  -- blocks fetched once
  module _ (x : OnceNumbers) (e : node_of s (get_or places node 0) ≡ Once x) where
    pub once_ready : OnceReady k x.line x.lowest x.highest x.hit t
    once_ready =
        let h = as_once s k places r.walkable node r.low x e in
        record {
          access = record { fit = r.walkable.fit; order = h.2; in_row = (h.1, h.6, h.3) };
          short = h.4;
          line_lt = h.5;
          lines_few = r.walkable.sound.lines_few;
          held = held;
        }

    pub once_done : (q : List ℕ) → Walked k (Tree.once x.line x.lowest x.highest x.hit) t q → Walked k (tree_at s node) t q
    once_done q h = rw (as_once s k places r.walkable node r.low x e).0 h

  -- sequences
  module _ (c : Children) (e : node_of s (get_or places node 0) ≡ Sequence c) where
    pub sequence_ready : ReadyAll s k places node c.place c.count t
    unfolding visits
    sequence_ready =
        let h = as_sequence s k places r.walkable node r.low c e in
        record {
          walkable = r.walkable;
          low = r.low;
          named = h.1;
          size = r.size;
          room = room_less k _ _ (table k t) (omega arith) (rw h.0 at r.room);
        }

    pub sequence_done : (q : List ℕ) → length q ≡ length t → table k q ≡ after_all k (child_trees s c.place c.count) (table k t)
        → Walked k (tree_at s node) t q
    sequence_done q size h = record { size = size; steps = as_all k (tree_at s node) t _ q (as_sequence s k places r.walkable node r.low c e).0 h }

  -- branches
  module _ (c : Children) (e : node_of s (get_or places node 0) ≡ Branch c) where
    pub branch_ready : ReadyAll s k places node c.place c.count t
    unfolding visits
    branch_ready =
        let h = as_branch s k places r.walkable node r.low c e in
        record {
          walkable = r.walkable;
          low = r.low;
          named = h.1;
          size = r.size;
          room = room_less k _ _ (table k t) (omega arith) (rw h.0 at r.room);
        }

    pub branch_done : (q : List ℕ) → length q ≡ length t → Branched k (child_trees s c.place c.count) t q → Walked k (tree_at s node) t q
    branch_done q size h = record { size = size; steps = as_any k (tree_at s node) t _ q (as_branch s k places r.walkable node r.low c e).0 h }

  -- loops
  module _ (l : LoopNumbers) (e : node_of s (get_or places node 0) ≡ Loop l) where
    pub repeat_ready : ReadyRepeat s k places node l (visits (tree_at s l.test)) t
    unfolding visits
    repeat_ready =
        let h = loop-node s k places r.walkable node r.low l e in
        record {
          walkable = r.walkable;
          low = r.low;
          below = h.1;
          below_test = h.2;
          few = h.4;
          size = r.size;
          room = room_less k _ _ (table k t) (omega arith) (rw h.0 at r.room);
        }

    pub repeat_done : (q : List ℕ) → Walked k (Tree.loop l.least l.greatest (tree_at s l.body) (tree_at s l.test)) t q → Walked k (tree_at s node) t q
    repeat_done q h = rw (loop-node s k places r.walkable node r.low l e).0 h

-- a loop's first test, and what is to come then
module _ (s : List ℕ) (k : Walk) (places : List ℕ) (node : ℕ) (l : LoopNumbers) (t : List ℕ)
    (r : ReadyRepeat s k places node l (visits (tree_at s l.test)) t) where
  test_low : l.test ≤ k.outline.entry
  test_low = omega (arith, r.low, r.below_test)

  pub first_ready : Ready s k places l.test t
  first_ready = record { walkable = r.walkable; low = test_low; size = r.size; room = room_less k _ _ (table k t) (omega arith) r.room }

  pub turns_ready : (t₁ : List ℕ) → Walked k (tree_at s l.test) t t₁ → ReadyRepeat s k places node l 0 t₁
  turns_ready t₁ h = record {
    walkable = r.walkable;
    low = r.low;
    below = r.below;
    below_test = r.below_test;
    few = r.few;
    size = omega (arith, h.size, r.size);
    room =
        rw h.steps
        (room_after s k places r.walkable (tree_at s l.test) (valid_at s k places r.walkable l.test test_low) _ (table k t)
        (room_less k _ _ (table k t) (omega arith) r.room));
  }
