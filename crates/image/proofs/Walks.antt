-- What a walk learns of a node of an accepted image from its decoding: its tree, the ranges of its numbers, and its children one by one.
use mathlib.Core.Path.{◌≡◌, sym, ◌∙◌, ap}
use mathlib.Core.List.{List}
use lib.ListN.{length, get_or}
use native.Mathlib.Omega.{arith}
use Prim.Native.Nat.{ℕ, ◌+◌, ◌-◌, ◌*◌, ◌≤◌, ◌<◌}
use Rattle.runs.specs.Bus.{Bus, Lawful}
use Rattle.runs.proofs.SchedulesLaws.{owning_lawful}
use Rattle.runs.specs.Schedules.{owning}
use Rattle.runs.specs.Clock.{Places}
use Rattle.runs.specs.Nodes.{Tree, Trees, none, more, tree_by, trees, node_lines}
use Rattle.runs.specs.Carried.{carried, carried_all, carried_any}
use Rattle.runs.proofs.Executions.{Valid, Valids}
use Rattle.runs.proofs.Whole.{node_valid}
use Rattle.bus.specs.Owning.{owns, bus_meant}
use Rattle.image_bytes.specs.Bytes.{word_at}
use Rattle.schedule.specs.Said.{said}
use Rattle.nodes.specs.Nodes.{node_of, meant, kind_meant, tree_at, child_trees, turn_trees}
use Rattle.image.specs.Tasks.{task_of}
use Rattle.nodes.specs.Fine.{Fine, Standing}
use Rattle.image.specs.Walks.{Walkable, NamedChildren}
use Rattle.image.specs.declared.Walk.{Walk}
use Rattle.nodes.specs.declared.Node.TheVariants.{Plain, Bus as Block, Once, Sequence, Branch, Loop}
use Rattle.nodes.specs.declared.Plain.{Plain as PlainNumbers}
use Rattle.nodes.specs.declared.BusBlock.{BusBlock}
use Rattle.nodes.specs.declared.Once.{Once as OnceNumbers}
use Rattle.nodes.specs.declared.Children.{Children}
use Rattle.nodes.specs.declared.Loop.{Loop as LoopNumbers}
use Rattle.nodes.proofs.Lists.{words_step, words_none}
use Rattle.nodes.proofs.Levels.{inside_here, few_here, fine_here, node_here, tree_here}
use Rattle.nodes.proofs.Fetches.{line_below}
use Rattle.image.proofs.Sounds.{standing}

-- ---- children: child i, and those after it

pub trees_more : (s : List ℕ) (p n i : ℕ) → i < n
    → child_trees s (p + 2 * i) (n - i) ≡ more (tree_at s (word_at s (p + 2 * i))) (child_trees s (p + 2 * (i + 1)) (n - (i + 1)))
unfolding trees
trees_more s p n i h = rw (words_step s p n i h)

pub trees_none : (s : List ℕ) (p n i : ℕ) → n ≤ i → child_trees s (p + 2 * i) (n - i) ≡ none
unfolding trees
trees_none s p n i h = rw (words_none s p n i h)

-- what is carried through the children, one after the other, and through any one of them
module _ (b : Bus) (q : Places) {X : Type 0} (empty : X) (join : X → X → X) (later : ℕ → X → X) (s : List ℕ) (p n i : ℕ) where
  pub all_more : i < n → (T : List X)
      → carried_all b q empty join later (child_trees s (p + 2 * i) (n - i)) T
      ≡ carried_all b q empty join later (child_trees s (p + 2 * (i + 1)) (n - (i + 1))) (carried b q empty join later (tree_at s (word_at s (p + 2 * i))) T)
  unfolding carried
  all_more h T = ap (λ (x : Trees). carried_all b q empty join later x T) (trees_more s p n i h)

  pub any_more : i < n → (T : List X) (o : ℕ)
      → carried_any b q empty join later (child_trees s (p + 2 * i) (n - i)) T o
      ≡ join (get_or (carried b q empty join later (tree_at s (word_at s (p + 2 * i))) T) o empty)
      (carried_any b q empty join later (child_trees s (p + 2 * (i + 1)) (n - (i + 1))) T o)
  unfolding carried
  any_more h T o = ap (λ (x : Trees). carried_any b q empty join later x T o) (trees_more s p n i h)

  pub all_done : n ≤ i → (T : List X) → carried_all b q empty join later (child_trees s (p + 2 * i) (n - i)) T ≡ T
  unfolding carried
  all_done h T = ap (λ (x : Trees). carried_all b q empty join later x T) (trees_none s p n i h)

  pub any_done : n ≤ i → (T : List X) (o : ℕ) → carried_any b q empty join later (child_trees s (p + 2 * i) (n - i)) T o ≡ empty
  unfolding carried
  any_done h T o = ap (λ (x : Trees). carried_any b q empty join later x T o) (trees_none s p n i h)

-- ---- nodes

module _ (s : List ℕ) (k : Walk) (places : List ℕ) (w : Walkable s k places) where
  -- the laws about runs hold of the walk's bus
  pub walk_lawful : Lawful (bus_meant k.bus)
  walk_lawful = owning_lawful k.bus.period (owns k.bus) w.fit.least

  pub walk_small : (bus_meant k.bus).period + (bus_meant k.bus).most ≤ 65535
  walk_small = omega (arith, w.same.period, w.same.most, w.accepted.small)

  -- the bus and the task have the same period
  pub period_same : k.bus.period ≡ k.outline.period
  unfolding owning
  period_same = w.same.period ∙ sym w.sound.accepting.period

  -- the longest access is the one that the image says
  most_is : k.bus.most ≡ (said s).most
  most_is = w.fit.longest ∙ w.same.most

  module _ (n : ℕ) (low : n ≤ k.outline.entry) where
    pub valid_at : Valid (bus_meant k.bus).most (tree_at s n)
    valid_at = rw w.same.most (node_valid (task_of s k.outline) w.accepted n (omega arith))

    here : Standing s n (get_or places n 0)
    here = standing s k.outline places w.sound n (omega (arith, w.sound.entry))

    pub node_place : (get_or places n 0 ≤ length s) × (n < 256)
    node_place = (inside_here s n _ here, few_here s n _ here)

    -- the tree of the node that is decoded, and the ranges of its numbers
    pub as_plain : (p : PlainNumbers) → node_of s (get_or places n 0) ≡ Plain p
        → (tree_at s n ≡ Tree.plain p.lowest p.highest) × (p.lowest ≤ p.highest) × (p.highest ≤ 65535) × (p.highest ≤ p.lowest + 63)
    unfolding meant tree_by Fine
    as_plain p e = let f = fine_here s n _ here (Plain p) e in (tree_here s n _ here (Plain p) e, f.order, f.most, omega (arith, f.order, f.near))

    pub as_block : (b : BusBlock) → node_of s (get_or places n 0) ≡ Block b
        → (tree_at s n ≡ Tree.bus (kind_meant b.kind) b.lowest b.highest) × (1 ≤ b.lowest) × (b.lowest ≤ b.highest) × (b.highest ≤ k.bus.most)
        × (b.highest ≤ 255)
    unfolding meant tree_by Fine
    as_block b e =
        let f = fine_here s n _ here (Block b) e in
        (tree_here s n _ here (Block b) e, f.some, f.order, omega (arith, f.most, most_is), f.byte)

    pub as_once : (x : OnceNumbers) → node_of s (get_or places n 0) ≡ Once x
        → (tree_at s n ≡ Tree.once x.line x.lowest x.highest x.hit) × (1 ≤ x.lowest) × (x.lowest ≤ x.highest)
        × (x.highest ≤ k.bus.most) × (x.hit ≤ 65535) × (x.line < k.outline.lines) × (x.highest ≤ 255)
    unfolding meant tree_by Fine
    as_once x e =
        let f = fine_here s n _ here (Once x) e in
        let l : x.line + 1 ≤ k.outline.lines = rw (w.sound.accepting.lines, ← ap node_lines (node_here s n _ here (Once x) e)) (line_below s n k.outline.nodes (omega (arith, w.sound.entry))) in
        (tree_here s n _ here (Once x) e, f.access.some, f.access.order, omega (arith, f.access.most, most_is), f.hit_most, omega arith, f.access.byte)

    pub as_sequence : (c : Children) → node_of s (get_or places n 0) ≡ Sequence c
        → (tree_at s n ≡ Tree.sequence (child_trees s c.place c.count)) × NamedChildren s c.place c.count n
    unfolding meant tree_by Fine
    as_sequence c e =
        let f = fine_here s n _ here (Sequence c) e in
        (tree_here s n _ here (Sequence c) e, record { few = f.1; inside = f.2; below = f.3 })

    pub as_branch : (c : Children) → node_of s (get_or places n 0) ≡ Branch c
        → (tree_at s n ≡ Tree.branch (child_trees s c.place c.count)) × NamedChildren s c.place c.count n
    unfolding meant tree_by Fine
    as_branch c e =
        let f = fine_here s n _ here (Branch c) e in
        (tree_here s n _ here (Branch c) e, record { few = omega (arith, f.1); inside = f.2; below = f.3 })

    pub as_loop : (l : LoopNumbers) → node_of s (get_or places n 0) ≡ Loop l
        → (tree_at s n ≡ Tree.loop l.least l.greatest (tree_at s l.body) (tree_at s l.test))
        × (l.body < n) × (l.test < n) × (l.least ≤ l.greatest) × (l.greatest ≤ 10000)
    unfolding meant tree_by Fine
    as_loop l e = let f = fine_here s n _ here (Loop l) e in (tree_here s n _ here (Loop l) e, f.1, f.2, f.0.order, f.0.most)

  -- the body and the test of a loop
  pub turn_valid : (body test : ℕ) → body ≤ k.outline.entry → test ≤ k.outline.entry → Valids (bus_meant k.bus).most (turn_trees s body test)
  unfolding Valid
  turn_valid body test l m = (valid_at body l, (valid_at test m, tt))
