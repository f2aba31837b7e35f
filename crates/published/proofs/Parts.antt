-- A node's exits and cost from its children's: a sequence, a branch, a loop; and the costs of children one by one.
use mathlib.Core.Path.{◌≡◌, refl, sym, ◌∙◌, ap, ap₂}
use mathlib.Core.Bool.{Bool, false, ◌||◌}
use mathlib.Core.List.{List}
use native.Mathlib.Omega.{arith}
use native.Mathlib.Nat.{add-zero, zero-add}
use Prim.Native.Nat.{ℕ, ◌+◌, ◌-◌, ◌*◌, ◌≤◌, ◌<◌, max}
use Rattle.runs.specs.Bus.{Bus as RunBus}
use Rattle.runs.specs.Schedules.{owning}
use Rattle.runs.specs.Nodes.{Tree, Trees, none, more}
use Rattle.runs.specs.Carried.{iterate, carried}
use Rattle.runs.specs.Figures.{exits, cost, cost_all, cost_any, sum}
use Rattle.runs.proofs.Joins.{or_joins, iterate_split, sum_same, sum_split}
use Rattle.runs.proofs.Loops.{unrolled_none, unrolled_one, unrolled_both, unrolled_all}
use Rattle.bus.specs.declared.Bus.{Bus}
use Rattle.bus.specs.Owning.{bus_meant}
use Rattle.offsets.specs.declared.Set.{Set}
use Rattle.image_bytes.specs.Bytes.{word_at}
use Rattle.nodes.specs.Nodes.{tree_at, child_trees}
use Rattle.image.proofs.Walks.{trees_more, trees_none}
use Rattle.exits.specs.Exits.{Within}
use Rattle.exits.proofs.Bits.{bits_at, bits_row}
use Rattle.published.specs.Steps.{bits, after, after_all, charge, Published, PublishedAll, PublishedAny, Repeated, BegunAt, TurnedAt, UnrolledAt}
use Rattle.published.specs.declared.Outcome.{Outcome}
use Rattle.published.specs.declared.Pass.{Pass}

-- ---- costs of children

module _ (b : RunBus) (s : List ℕ) (p n i : ℕ) where
  pub cost_all_more : i < n → (X : List Bool)
      → cost_all b (child_trees s (p + 2 * i) (n - i)) X
      ≡ cost b (tree_at s (word_at s (p + 2 * i))) X
      + cost_all b (child_trees s (p + 2 * (i + 1)) (n - (i + 1))) (exits b (tree_at s (word_at s (p + 2 * i))) X)
  unfolding cost
  cost_all_more h X = ap (λ (xs : Trees). cost_all b xs X) (trees_more s p n i h)

  pub cost_any_more : i < n → (X : List Bool)
      → cost_any b (child_trees s (p + 2 * i) (n - i)) X
      ≡ max (cost b (tree_at s (word_at s (p + 2 * i))) X) (cost_any b (child_trees s (p + 2 * (i + 1)) (n - (i + 1))) X)
  unfolding cost
  cost_any_more h X = ap (λ (xs : Trees). cost_any b xs X) (trees_more s p n i h)

  pub cost_all_done : n ≤ i → (X : List Bool) → cost_all b (child_trees s (p + 2 * i) (n - i)) X ≡ 0
  unfolding cost
  cost_all_done h X = ap (λ (xs : Trees). cost_all b xs X) (trees_none s p n i h)

  pub cost_any_done : n ≤ i → (X : List Bool) → cost_any b (child_trees s (p + 2 * i) (n - i)) X ≡ 0
  unfolding cost
  cost_any_done h X = ap (λ (xs : Trees). cost_any b xs X) (trees_none s p n i h)

-- ---- nodes

module _ (b : Bus) (x : Tree) (s : Set) where
  pub as_all : (xs : Trees) (r : Outcome) → x ≡ Tree.sequence xs → PublishedAll b xs s r → Published b x s r
  unfolding carried cost
  as_all xs r e h = record {
    exited = record { bits = rw e h.exited; within = h.within };
    costs = rw e h.costs;
  }

  pub as_any : (xs : Trees) (r : Outcome) → x ≡ Tree.branch xs → PublishedAny b xs s r → Published b x s r
  unfolding carried cost owning
  as_any xs r e h = record {
    exited = record {
      bits = rw e (bits_row b.period r.exits _ (λ o l. sym (bits_at b.period r.exits o l) ∙ h.exited o l));
      within = h.within;
    };
    costs = rw e h.costs;
  }

  -- the test, and then the iterations, a test after each
  pub as_loop : (body test : Tree) (least greatest : ℕ) (n r : Outcome) → x ≡ Tree.loop least greatest body test → Published b test s n
      → Repeated b (more body (more test none)) least greatest n.exits r → Published b x s (record { cost = n.cost + r.cost; exits = r.exits })
  unfolding carried cost owning
  as_loop body test least greatest n r e first u = record {
    exited = record {
      bits = rw e (rw first.exited.bits at (bits_row b.period r.exits _ (λ o l. sym (bits_at b.period r.exits o l) ∙ u.exited o l)));
      within = u.within;
    };
    costs =
        rw e
        (ap₂ ◌+◌ first.costs
        (u.costs
        ∙ sum_same greatest _ _ (λ i l. ap₂ ◌+◌ refl (add-zero _))
        ∙ ap (λ (X : List Bool). sum greatest (λ i. turn (iterate (λ U. after b test (after b body U)) i X))) first.exited.bits));
  }
    where
      turn : List Bool → ℕ
      turn Y = cost (bus_meant b) body Y + cost (bus_meant b) test (after b body Y)

-- ---- parts of a loop

module _ (b : Bus) (xs : Trees) (least done : ℕ) where
  pub none_left : (p : Pass) → Within b.period p.cur → Within b.period p.out → UnrolledAt b xs least done 0 p p
  unfolding sum
  none_left p h g = record {
    unrolled = unrolled_none false ◌||◌ or_joins b.period (after_all b xs) least done _ _;
    within = h;
    within_out = g;
    costs = sym (add-zero _);
  }

  pub one_left : (p : Pass) (n : Outcome) (r : Pass) → Within b.period p.out → PublishedAll b xs p.cur n → TurnedAt b least done p n r
      → UnrolledAt b xs least done 1 p r
  unfolding sum iterate
  one_left p n r g e t = record {
    unrolled = unrolled_one false ◌||◌ or_joins b.period (after_all b xs) least done _ _ (bits b n.exits) _ _ e.exited t.turned;
    within = t.within e.within;
    within_out = t.within_out e.within g;
    costs = t.costs ∙ ap (λ (m : ℕ). p.cost + m) (e.costs ∙ sym (zero-add _));
  }

  pub both_left : (h k : ℕ) (p a r : Pass) → UnrolledAt b xs least done h p a → UnrolledAt b xs least (done + h) k a r → UnrolledAt b xs least done (h + k) p r
  both_left h k p a r u v = record {
    unrolled = unrolled_both false ◌||◌ or_joins b.period (after_all b xs) least done h k _ _ _ _ _ _ u.unrolled v.unrolled;
    within = v.within;
    within_out = v.within_out;
    costs =
        let e : sum k (charge b xs (bits b a.cur)) ≡ sum k (λ i. charge b xs (bits b p.cur) (h + i)) =
        sum_same k _ _ (λ i l. ap (cost_all (bus_meant b) xs)
        (ap (iterate (after_all b xs) i) u.unrolled.cur ∙ sym (iterate_split (after_all b xs) h i (bits b p.cur)))) in
        omega (arith, v.costs, u.costs, e, sum_split h k (charge b xs (bits b p.cur)));
  }

-- all iterations
pub all_turns : (b : Bus) (xs : Trees) (s : Set) (least greatest : ℕ) (p r : Pass) → BegunAt b least s p → UnrolledAt b xs least 0 greatest p r
    → Repeated b xs least greatest s (record { cost = r.cost; exits = r.out })
all_turns b xs s least greatest p r g u = record {
  exited = unrolled_all false ◌||◌ or_joins b.period (after_all b xs) least greatest (bits b s) _ _ _ _ g.begun u.unrolled;
  within = u.within_out;
  costs = u.costs ∙ ap₂ ◌+◌ g.costs (ap (λ (X : List Bool). sum greatest (charge b xs X)) g.begun.cur) ∙ zero-add _;
}
