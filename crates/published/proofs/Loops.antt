-- Inside a loop: what the unroller may be asked, and how its parts make the whole.
use mathlib.Core.Path.{◌≡◌, refl, sym, ◌∙◌, ap, ap₂}
use mathlib.Core.Bool.{Bool, true, false, ◌||◌}
use mathlib.Core.List.{List}
use native.Mathlib.Omega.{arith}
use native.Mathlib.Nat.{add-zero, mul-le-mul_left, mul-le-mul_right, add-mul, mul_left_comm, zero-mul, sub_self}
use Prim.Native.Nat.{ℕ, ◌+◌, ◌-◌, ◌*◌, ◌≤◌}
use Rattle.runs.specs.Nodes.{Trees, visits, visits_all}
use Rattle.runs.specs.Carried.{iterate, carried}
use Rattle.runs.specs.Figures.{cost, cost_all, sum}
use Rattle.runs.specs.Parts.{Unrolled}
use Rattle.runs.proofs.Cases.{split}
use Rattle.runs.proofs.Executions.{Valids}
use Rattle.runs.proofs.Bounds.{cost_all_lem, sum_le}
use Rattle.runs.proofs.Joins.{iterate_split, sum_same, sum_split}
use Rattle.bus.specs.declared.Bus.{Bus}
use Rattle.bus.specs.Owning.{bus_meant}
use Rattle.offsets.specs.declared.Set.{Set}
use Rattle.nodes.specs.Nodes.{tree_at, turn_trees}
use Rattle.image.specs.declared.Walk.{Walk}
use Rattle.nodes.specs.declared.Loop.{Loop}
use Rattle.image.proofs.Walks.{walk_lawful, walk_small, turn_valid}
use Rattle.cycles.specs.Cycles.{finds, length_of, gain_of, fresh}
use Rattle.cycles.proofs.Watching.{goes_none, goes_one, goes_both, whole, skips_small, skips_ends, fresh_small, fresh_watches, off_watches}
use Rattle.published.specs.declared.Outcome.{Outcome}
use Rattle.published.specs.declared.Pass.{Pass}
use Rattle.published.specs.declared.Turns.{Turns}
use Rattle.published.specs.Steps.{bits, after, after_all, charge, state, next, charged, Cyclic, Ready, ReadyTurn, ReadyRepeat, ReadyLoop, Published, PublishedAll, Repeated, BegunAt, TurnedAt, UnrolledAt, WatchedBy, SkippedBy, Unrolls}
use Rattle.published.proofs.Parts.{none_left, one_left, both_left, all_turns}
use Rattle.published.proofs.Children.{outcome_small}
use Rattle.published.proofs.Watching.{pair, multiple, multiple_cost, unrolled_skip, cyclic_of}

-- ---- parts of an unrolled loop

module _ (s : List ℕ) (k : Walk) (places : List ℕ) (body test left : ℕ) (t : Turns) (r : ReadyLoop s k places body test left t) where
  abbrev xs : Trees
  xs = turn_trees s body test

  valid : Valids (bus_meant k.bus).most xs
  valid = turn_valid s k places r.walkable body test r.low r.low_test

  pub one_ready : left ≡ 1 → ReadyTurn s k places body test t.pass.cur
  one_ready e = record { walkable = r.walkable; low = r.low; low_test = r.low_test; few = omega (arith, rw e at r.few); within = r.within }

  pub half_ready : (h : ℕ) → h ≤ left → ReadyLoop s k places body test h t
  half_ready h l = record {
    walkable = r.walkable;
    low = r.low;
    low_test = r.low_test;
    many = omega (arith, r.many);
    few = omega (arith, r.few, mul-le-mul_left 65535 (mul-le-mul_right (visits_all xs) l));
    within = r.within;
    within_out = r.within_out;
    spent = r.spent;
    small = r.small;
    watches = r.watches;
  }

  -- what m iterations cost at most, and n more after them
  pub later_few : (m n total : ℕ) → m + n ≤ left → total ≡ t.pass.cost + sum m (charge k.bus xs (bits k.bus t.pass.cur))
      → total + 65535 * (n * visits_all xs) ≤ 6553500000
  later_few m n total l e =
      let most = sum_le m (charge k.bus xs (bits k.bus t.pass.cur)) (65535 * visits_all xs)
      (λ i. cost_all_lem (bus_meant k.bus) (walk_lawful s k places r.walkable) (walk_small s k places r.walkable) xs valid _) in
      let f : (m + n) * visits_all xs ≡ m * visits_all xs + n * visits_all xs = add-mul m n (visits_all xs) in
      let g : m * (65535 * visits_all xs) ≡ 65535 * (m * visits_all xs) = mul_left_comm m 65535 (visits_all xs) in
      omega (arith, f, g, mul-le-mul_right (visits_all xs) l, e, most, r.few)

  pub other_ready : (least h : ℕ) → h ≤ left → (a : Turns) → Unrolls k.bus xs least h t a → ReadyLoop s k places body test (left - h) a
  other_ready least h l a u = record {
    walkable = r.walkable;
    low = r.low;
    low_test = r.low_test;
    many = omega (arith, r.many, u.goes.most);
    few = later_few (a.watch.done - t.watch.done) (left - h) a.pass.cost (omega (arith, u.goes.most, u.goes.more)) u.unrolled.costs;
    within = u.unrolled.within;
    within_out = u.unrolled.within_out;
    spent = u.spent;
    small = u.goes.small;
    watches = u.watches;
  }

  -- no iteration: none is left, or a cycle is known
  pub none_unrolls : (least : ℕ) → (finds t.watch.search ≡ false → left ≡ 0) → Unrolls k.bus xs least left t t
  none_unrolls least stop = record {
    goes = goes_none left t.watch r.small stop;
    unrolled = rw (sub_self t.watch.done) (none_left k.bus xs least t.watch.done t.pass r.within r.within_out);
    spent = r.spent;
    watches = r.watches;
  }

  -- one
  pub one_cheap : left ≡ 1 → (n : Outcome) → PublishedAll k.bus xs t.pass.cur n → t.pass.cost + n.cost ≤ 6553500000
  one_cheap e n step =
      let cheap : n.cost ≤ 65535 * visits_all xs =
      rw step.costs (cost_all_lem (bus_meant k.bus) (walk_lawful s k places r.walkable) (walk_small s k places r.walkable) xs valid _) in
      omega (arith, cheap, rw e at r.few)

  module _ (least : ℕ) (e : left ≡ 1) (n : Outcome) (p : Pass) (step : PublishedAll k.bus xs t.pass.cur n) (turned : TurnedAt k.bus least t.watch.done t.pass n p) where
    pub one_asks : (t.watch.done ≤ 9999) × (t.kept.spent ≤ p.cost) × (p.cost ≤ 6553500000)
    one_asks = (omega (arith, r.many), omega (arith, r.spent, turned.costs), omega (arith, turned.costs, one_cheap e n step))

    pub one_unrolls : finds t.watch.search ≡ false → (a : Turns) → WatchedBy p t.kept t.watch a → Unrolls k.bus xs least left t a
    one_unrolls none_yet a seen =
        let one : a.watch.done - t.watch.done ≡ 1 = omega (arith, seen.counts.done) in
        record {
          goes = goes_one left t.watch a.watch e none_yet seen.counts;
          unrolled = rw (one, seen.pass) (one_left k.bus xs least t.watch.done t.pass n p r.within_out step turned);
          spent = rw seen.pass seen.spent;
          watches = rw seen.pass (seen.watches k.bus xs (state k.bus t.pass.cur t.pass.cost) r.watches led);
        }
      where
        led : state k.bus p.cur p.cost ≡ next k.bus xs (state k.bus t.pass.cur t.pass.cost)
        led = ap₂ pair (turned.turned.cur ∙ step.exited) (turned.costs ∙ ap (λ (m : ℕ). t.pass.cost + m) step.costs)

-- two parts
pub both_unroll : (b : Bus) (xs : Trees) (least left h : ℕ) → h ≤ left → (t a q : Turns) → Unrolls b xs least h t a → Unrolls b xs least (left - h) a q
    → Unrolls b xs least left t q
both_unroll b xs least left h l t a q u v =
    let all : (a.watch.done - t.watch.done) + (q.watch.done - a.watch.done) ≡ q.watch.done - t.watch.done = omega (arith, u.goes.more, v.goes.more) in
    let mid : t.watch.done + (a.watch.done - t.watch.done) ≡ a.watch.done = omega (arith, u.goes.more) in
    record {
      goes = goes_both left h l t.watch a.watch q.watch u.goes v.goes;
      unrolled =
          rw (← all)
          (both_left b xs least t.watch.done (a.watch.done - t.watch.done) (q.watch.done - a.watch.done) t.pass a.pass q.pass
          u.unrolled (rw mid v.unrolled));
      spent = v.spent;
      watches = v.watches;
    }

-- ---- one iteration

module _ (s : List ℕ) (k : Walk) (places : List ℕ) (body test : ℕ) (x : Set) (r : ReadyTurn s k places body test x) where
  pub body_ready : Ready s k places body x
  unfolding visits
  body_ready = record { walkable = r.walkable; low = r.low; few = omega (arith, r.few); within = r.within }

  module _ (n : Outcome) (first : Published k.bus (tree_at s body) x n) where
    pub test_ready : Ready s k places test n.exits
    unfolding visits
    test_ready = record { walkable = r.walkable; low = r.low_test; few = omega (arith, r.few); within = first.exited.within }

    module _ (q : Outcome) (then : Published k.bus (tree_at s test) n.exits q) where
      pub turn_small : n.cost + q.cost ≤ 6553500000
      unfolding visits
      turn_small =
          omega (
            arith,
            outcome_small s k places r.walkable body r.low x n first,
            outcome_small s k places r.walkable test r.low_test n.exits q then,
            r.few,
          )

      pub turn_published : PublishedAll k.bus (turn_trees s body test) x (record { cost = n.cost + q.cost; exits = q.exits })
      unfolding carried cost
      turn_published = record {
        exited = then.exited.bits ∙ ap (after k.bus (tree_at s test)) first.exited.bits;
        within = then.exited.within;
        costs = ap₂ ◌+◌ first.costs (then.costs ∙ ap (cost (bus_meant k.bus) (tree_at s test)) first.exited.bits ∙ sym (add-zero _));
      }

-- ---- whole loops

-- unrolling is the same from equal numbers and equal sets
same_from : (b : Bus) (xs : Trees) (least d d' m m' : ℕ) (C C' E E' X Y : List Bool) → d' ≡ d → m' ≡ m → C' ≡ C → E' ≡ E
    → Unrolled false ◌||◌ b.period (after_all b xs) least d' m' C' E' X Y → Unrolled false ◌||◌ b.period (after_all b xs) least d m C E X Y
same_from b xs least d d' m m' C C' E E' X Y h i j g v = rw (h, i, j, g) at v

module _ (s : List ℕ) (k : Walk) (places : List ℕ) (node : ℕ) (l : Loop) (x₀ : Set) (r : ReadyRepeat s k places node l 0 x₀)
    (p : Pass) (g : BegunAt k.bus l.least x₀ p) where
  abbrev ys : Trees
  ys = turn_trees s l.body l.test

  abbrev begun : Turns
  begun = record {
    pass = p;
    kept = record { set = x₀; spent = 0 };
    watch = fresh true;
  }

  pub begun_ready : ReadyLoop s k places l.body l.test l.greatest begun
  begun_ready = record {
    walkable = r.walkable;
    low = omega (arith, r.low, r.below);
    low_test = omega (arith, r.low, r.below_test);
    many = omega (arith, r.many);
    few = omega (arith, g.costs, r.few);
    within = g.within r.within;
    within_out = g.within_out r.within;
    spent = omega arith;
    small = fresh_small true;
    watches = fresh_watches (next k.bus ys) charged _ _ true (λ e. ap₂ pair g.begun.cur g.costs);
  }

  module _ (a : Turns) (u : Unrolls k.bus ys l.least l.greatest begun a) where
    pub seen_few : a.watch.done ≤ l.greatest
    seen_few = omega (arith, u.goes.most)

    pub seen_ready : ReadyLoop s k places l.body l.test (l.greatest - a.watch.done) a
    seen_ready =
        let b = begun_ready in
        record {
          walkable = r.walkable;
          low = b.low;
          low_test = b.low_test;
          many = omega (arith, r.many, u.goes.most);
          few =
              later_few s k places l.body l.test l.greatest begun b (a.watch.done - 0) (l.greatest - a.watch.done) a.pass.cost
              (omega (arith, u.goes.most)) u.unrolled.costs;
          within = u.unrolled.within;
          within_out = u.unrolled.within_out;
          spent = u.spent;
          small = u.goes.small;
          watches = u.watches;
        }

    pub seen_cheap : a.pass.cost ≤ 6553500000
    seen_cheap = omega (arith, seen_ready.few)

    module _ (q : Turns) (e : SkippedBy (l.greatest - a.watch.done) a q) where
      abbrev n : ℕ
      n = e.skips.0

      fits : n * length_of a.watch.search ≤ l.greatest - a.watch.done
      fits = whole (l.greatest - a.watch.done) a.watch n seen_ready.many e.skips.1.jumps

      pub skip_few : q.watch.done ≤ l.greatest
      skip_few = omega (arith, fits, e.skips.1.done, u.goes.most)

      cycle : 1 ≤ n → Cyclic k.bus ys (length_of a.watch.search) (gain_of a.watch.search) (bits k.bus a.pass.cur)
      cycle m = cyclic_of k.bus ys (length_of a.watch.search) (gain_of a.watch.search) _ (u.watches.cyclic (e.skips.1.jumps.room m).0)

      -- the set behind the skipped cycles, and their cost
      skip_set : iterate (after_all k.bus ys) (n * length_of a.watch.search) (bits k.bus a.pass.cur) ≡ bits k.bus q.pass.cur
      unfolding iterate
      skip_set =
          split 1 n
          (λ m. multiple k.bus ys (length_of a.watch.search) (gain_of a.watch.search) _ (cycle m) n)
          (λ m. let z : n ≡ 0 = omega arith in rw (z, zero-mul (length_of a.watch.search)))
          ∙ ap (bits k.bus) (sym e.cur)

      paid : q.pass.cost ≡ a.pass.cost + sum (n * length_of a.watch.search) (charge k.bus ys (bits k.bus a.pass.cur))
      unfolding sum
      paid =
          e.skips.2
          ∙ ap (λ (m : ℕ). a.pass.cost + m)
          (split 1 n
          (λ m. sym (multiple_cost k.bus ys (length_of a.watch.search) (gain_of a.watch.search) _ (cycle m) n))
          (λ m. let z : n ≡ 0 = omega arith in rw (z, zero-mul (gain_of a.watch.search), zero-mul (length_of a.watch.search))))

      pub rest_ready : ReadyLoop s k places l.body l.test (l.greatest - q.watch.done) q
      rest_ready = record {
        walkable = r.walkable;
        low = seen_ready.low;
        low_test = seen_ready.low_test;
        many = omega (arith, r.many, skip_few);
        few =
            later_few s k places l.body l.test (l.greatest - a.watch.done) a seen_ready (n * length_of a.watch.search) (l.greatest - q.watch.done) q.pass.cost
            (omega (arith, fits, e.skips.1.done)) paid;
        within = rw e.cur u.unrolled.within;
        within_out = rw e.out u.unrolled.within_out;
        spent = rw e.kept (omega (arith, u.spent, e.skips.2));
        small = skips_small _ a.watch n q.watch e.skips.1;
        watches = off_watches (next k.bus ys) charged _ _ q.watch e.skips.1.off;
      }

      -- unrolling the rest is unrolling all that was left
      skip_unrolled : (w : Pass) → UnrolledAt k.bus ys l.least (a.watch.done + n * length_of a.watch.search) (l.greatest - a.watch.done - n * length_of a.watch.search) q.pass w
          → UnrolledAt k.bus ys l.least a.watch.done (l.greatest - a.watch.done) a.pass w
      skip_unrolled w v = record {
        unrolled =
            split 1 n
            (λ m. let j = e.skips.1.jumps.room m in
            unrolled_skip k.bus ys k.bus.period (length_of a.watch.search) (gain_of a.watch.search) _ (cycle m) j.0 l.least a.watch.done
            (l.greatest - a.watch.done) n j.1 _ _ _
            (same_from k.bus ys l.least _ _ _ _ _ _ _ _ _ _ refl refl (ap (bits k.bus) e.cur) (ap (bits k.bus) e.out) v.unrolled))
            (λ m. let z : n ≡ 0 = omega arith in
            let none : n * length_of a.watch.search ≡ 0 = rw z (zero-mul (length_of a.watch.search)) in
            same_from k.bus ys l.least _ _ _ _ _ _ _ _ _ _ (omega arith) (omega arith) (ap (bits k.bus) e.cur) (ap (bits k.bus) e.out) v.unrolled);
        within = v.within;
        within_out = v.within_out;
        costs = costs;
      }
        where
          costs : w.cost ≡ a.pass.cost + sum (l.greatest - a.watch.done) (charge k.bus ys (bits k.bus a.pass.cur))
          costs =
              let m = n * length_of a.watch.search in
              let o = l.greatest - a.watch.done in
              let parts : sum (m + (o - m)) (charge k.bus ys (bits k.bus a.pass.cur))
              ≡ sum m (charge k.bus ys (bits k.bus a.pass.cur)) + sum (o - m) (λ i. charge k.bus ys (bits k.bus a.pass.cur) (m + i)) =
              sum_split m (o - m) (charge k.bus ys (bits k.bus a.pass.cur)) in
              let all : sum (m + (o - m)) (charge k.bus ys (bits k.bus a.pass.cur)) ≡ sum o (charge k.bus ys (bits k.bus a.pass.cur)) =
              ap (λ (c : ℕ). sum c (charge k.bus ys (bits k.bus a.pass.cur))) (omega (arith, fits)) in
              let rest : sum (o - m) (λ i. charge k.bus ys (bits k.bus a.pass.cur) (m + i)) ≡ sum (o - m) (charge k.bus ys (bits k.bus q.pass.cur)) =
              sum_same (o - m) _ _ (λ i h.
              ap (cost_all (bus_meant k.bus) ys) (iterate_split (after_all k.bus ys) m i _ ∙ ap (iterate (after_all k.bus ys) i) skip_set)) in
              omega (arith, v.costs, paid, parts, all, rest)

      counted : (w : Pass) (d d' m m' : ℕ) → d ≡ d' → m ≡ m' → UnrolledAt k.bus ys l.least d m q.pass w → UnrolledAt k.bus ys l.least d' m' q.pass w
      counted w d d' m m' h g v = rw (h, g) at v

      pub repeat_published : (z : Turns) → Unrolls k.bus ys l.least (l.greatest - q.watch.done) q z
          → Repeated k.bus ys l.least l.greatest x₀ (record { cost = z.pass.cost; exits = z.pass.out })
      repeat_published z v =
          let ends : z.watch.done ≡ q.watch.done + (l.greatest - q.watch.done) = skips_ends _ a.watch n q.watch e.skips.1 _ z.watch v.goes in
          let left : z.watch.done - q.watch.done ≡ l.greatest - a.watch.done - n * length_of a.watch.search = omega (arith, ends, e.skips.1.done, skip_few) in
          let rest = skip_unrolled z.pass (counted z.pass q.watch.done _ (z.watch.done - q.watch.done) _ e.skips.1.done left v.unrolled) in
          let whole-count : (a.watch.done - 0) + (l.greatest - a.watch.done) ≡ l.greatest = omega (arith, u.goes.most) in
          let from : 0 + (a.watch.done - 0) ≡ a.watch.done = omega arith in
          all_turns k.bus ys x₀ l.least l.greatest p z.pass g
          (rw (← whole-count) (both_left k.bus ys l.least 0 (a.watch.done - 0) (l.greatest - a.watch.done) p a.pass z.pass u.unrolled (rw from rest)))
