-- Inside a loop: what the unroller may be asked, and how its parts make the whole.
use mathlib.Core.Path.{◌≡◌, refl, sym, ◌∙◌, ap}
use mathlib.Core.Bool.{Bool, false}
use mathlib.Core.Option.{none}
use mathlib.Core.List.{List}
use lib.ListN.{length, get_or}
use native.Mathlib.Omega.{arith}
use native.Mathlib.Nat.{mul-le-mul_left, mul-le-mul_right, add-mul, add-zero, sub-zero, zero-mul, sub_self}
use Prim.Native.Nat.{ℕ, ◌+◌, ◌-◌, ◌*◌, ◌≤◌}
use Rattle.runs.specs.Nodes.{Trees, visits, visits_all}
use Rattle.runs.specs.Carried.{iterate, carried}
use Rattle.runs.specs.Figures.{Time, longer}
use Rattle.runs.specs.Parts.{shifted}
use Rattle.runs.proofs.Cases.{split}
use Rattle.runs.proofs.Joins.{longer_joins}
use Rattle.runs.proofs.Loops.{unrolled_none, unrolled_one, unrolled_both, unrolled_all}
use Rattle.runs.proofs.Shifted.{shifted_zero, multiple, cycles_skip, all_shifted}
use Rattle.nodes.specs.Nodes.{tree_at, turn_trees}
use Rattle.image.specs.declared.Walk.{Walk}
use Rattle.nodes.specs.declared.Loop.{Loop}
use Rattle.image.proofs.Walks.{valid_at, turn_valid}
use Rattle.times.specs.Arrays.{table_of, Fits}
use Rattle.cycles.specs.declared.Watch.{Watch}
use Rattle.cycles.specs.Cycles.{finds, length_of, gain_of, fresh}
use Rattle.cycles.proofs.Watching.{goes_none, goes_one, goes_both, whole, skips_small, skips_ends, fresh_small, fresh_watches, off_watches}
use Rattle.iterations.specs.Iterations.{WatchedBy, SkippedBy, KeptBy}
use Rattle.tight.specs.Steps.{size_of, table, after, after_all, Roomy, Walked, WalkedAll, Ready, ReadyRepeat, ReadyTurn, ReadyLoop, BegunAt, TurnedAt, UnrolledAt, Unrolls, Repeated}
use Rattle.tight.proofs.Rooms.{room_less, room_fits, room_after, room_times}

-- an iteration commutes with more cycles at every time
commutes : (k : Walk) (xs : Trees) (q : ℕ) (T : List Time) → after_all k xs (shifted q T) ≡ shifted q (after_all k xs T)
commutes k xs q T = all_shifted _ _ q xs T

-- ---- parts of an unrolled loop

module _ (s : List ℕ) (k : Walk) (places : List ℕ) (body test left : ℕ) (w : Watch) (cur out old : List ℕ)
    (r : ReadyLoop s k places body test left w cur out old) where
  abbrev xs : Trees
  xs = turn_trees s body test

  pub one_ready : left ≡ 1 → ReadyTurn s k places body test cur
  one_ready e = record {
    walkable = r.walkable;
    low = r.low;
    low_test = r.low_test;
    size = r.size;
    room = room_less k _ _ (table k cur) (omega arith) (rw e at r.room);
  }

  pub half_ready : (h : ℕ) → h ≤ left → ReadyLoop s k places body test h w cur out old
  half_ready h l = record {
    walkable = r.walkable;
    low = r.low;
    low_test = r.low_test;
    few = omega (arith, r.few);
    size = r.size;
    size_out = r.size_out;
    size_old = r.size_old;
    room = room_less k _ _ (table k cur) (mul-le-mul_left 65535 (mul-le-mul_right (visits_all xs) l)) r.room;
    small = r.small;
    watches = r.watches;
  }

  -- room for n iterations after m others
  pub later_room : (m n : ℕ) → m + n ≤ left → (T : List Time) → T ≡ iterate (after_all k xs) m (table k cur)
      → Roomy k (65535 * (n * visits_all xs)) T
  later_room m n l T e =
      rw e
      (room_times s k places r.walkable xs (turn_valid s k places r.walkable body test r.low r.low_test) m _ (table k cur)
      (room_less k _ _ (table k cur) fits r.room))
    where
      fits : 65535 * (m * visits_all xs) + 65535 * (n * visits_all xs) ≤ 65535 * (left * visits_all xs)
      fits =
          let f : (m + n) * visits_all xs ≡ m * visits_all xs + n * visits_all xs = add-mul m n (visits_all xs) in
          omega (arith, f, mul-le-mul_right (visits_all xs) l)

  pub other_ready : (least h : ℕ) → h ≤ left → (a : Watch) (cur' out' old' : List ℕ) → Unrolls k xs least h w cur out old a cur' out' old'
      → ReadyLoop s k places body test (left - h) a cur' out' old'
  other_ready least h l a cur' out' old' u = record {
    walkable = r.walkable;
    low = r.low;
    low_test = r.low_test;
    few = omega (arith, r.few, u.goes.most);
    size = omega (arith, u.size, r.size);
    size_out = omega (arith, u.size_out, r.size_out);
    size_old = omega (arith, u.size_old, r.size_old);
    room = later_room (a.done - w.done) (left - h) (omega (arith, u.goes.most, u.goes.more)) _ u.unrolled.cur;
    small = u.goes.small;
    watches = u.watches;
  }

  -- no iteration: none is left, or a cycle is known
  pub none_unrolls : (least : ℕ) → (finds w.search ≡ false → left ≡ 0) → Unrolls k xs least left w cur out old w cur out old
  none_unrolls least stop = record {
    goes = goes_none left w r.small stop;
    size = refl;
    size_out = refl;
    size_old = refl;
    unrolled = rw (sub_self w.done) (unrolled_none none longer longer_joins (size_of k) (after_all k xs) least w.done _ _);
    watches = r.watches;
  }

  -- one
  pub one_unrolls : (least : ℕ) → left ≡ 1 → finds w.search ≡ false → (cur' out' old' : List ℕ) (a : Watch) → WalkedAll k xs cur cur'
      → length out' ≡ length out → TurnedAt k least w.done out cur' out' → (P : ℕ) → P ≡ size_of k → WatchedBy P cur' old w old' a
      → Unrolls k xs least left w cur out old a cur' out' old'
  one_unrolls least e none_yet cur' out' old' a step size turned P is seen =
      let one : a.done - w.done ≡ 1 = omega (arith, seen.counts.done) in
      record {
        goes = goes_one left w a e none_yet seen.counts;
        size = step.size;
        size_out = size;
        size_old = seen.size;
        unrolled = rw one (unrolled_one none longer longer_joins (size_of k) (after_all k xs) least w.done _ _ _ _ _ step.steps turned);
        watches = WatchedBy.watches (rw is at seen) (after_all k xs) (commutes k xs) (table k cur) r.watches step.steps;
      }

-- two parts
pub both_unroll : (k : Walk) (xs : Trees) (least left h : ℕ) → h ≤ left → (w a q : Watch) (cur out old cur₁ out₁ old₁ cur' out' old' : List ℕ)
    → Unrolls k xs least h w cur out old a cur₁ out₁ old₁ → Unrolls k xs least (left - h) a cur₁ out₁ old₁ q cur' out' old'
    → Unrolls k xs least left w cur out old q cur' out' old'
both_unroll k xs least left h l w a q cur out old cur₁ out₁ old₁ cur' out' old' u v =
    let all : (a.done - w.done) + (q.done - a.done) ≡ q.done - w.done = omega (arith, u.goes.more, v.goes.more) in
    let mid : w.done + (a.done - w.done) ≡ a.done = omega (arith, u.goes.more) in
    record {
      goes = goes_both left h l w a q u.goes v.goes;
      size = v.size ∙ u.size;
      size_out = v.size_out ∙ u.size_out;
      size_old = v.size_old ∙ u.size_old;
      unrolled =
          rw (← all)
          (unrolled_both none longer longer_joins (size_of k) (after_all k xs) least w.done (a.done - w.done) (q.done - a.done) _ _ _ _ _ _
          u.unrolled (rw mid v.unrolled));
      watches = v.watches;
    }

-- ---- one iteration

module _ (s : List ℕ) (k : Walk) (places : List ℕ) (body test : ℕ) (cur : List ℕ) (r : ReadyTurn s k places body test cur) where
  pub body_ready : Ready s k places body cur
  unfolding visits
  body_ready = record { walkable = r.walkable; low = r.low; size = r.size; room = room_less k _ _ (table k cur) (omega arith) r.room }

  pub test_ready : (cur₁ : List ℕ) → Walked k (tree_at s body) cur cur₁ → Ready s k places test cur₁
  unfolding visits
  test_ready cur₁ h = record {
    walkable = r.walkable;
    low = r.low_test;
    size = omega (arith, h.size, r.size);
    room =
        rw h.steps
        (room_after s k places r.walkable (tree_at s body) (valid_at s k places r.walkable body r.low) _ (table k cur)
        (room_less k _ _ (table k cur) (omega arith) r.room));
  }

  pub turn_steps : (cur₁ cur₂ : List ℕ) → Walked k (tree_at s body) cur cur₁ → Walked k (tree_at s test) cur₁ cur₂ → WalkedAll k (turn_trees s body test) cur cur₂
  unfolding carried
  turn_steps cur₁ cur₂ h g = record { size = g.size ∙ h.size; steps = g.steps ∙ ap (after k (tree_at s test)) h.steps }

-- ---- whole loops

module _ (s : List ℕ) (k : Walk) (places : List ℕ) (node : ℕ) (l : Loop) (t : List ℕ) (r : ReadyRepeat s k places node l 0 t) where
  abbrev ys : Trees
  ys = turn_trees s l.body l.test

  pub begun_ready : (out₀ out old old' : List ℕ) (keeps : Bool) → size_of k ≤ length out₀ → length out ≡ length out₀ → size_of k ≤ length old → (P : ℕ) → P ≡ size_of k
      → KeptBy P t old old' keeps → ReadyLoop s k places l.body l.test l.greatest (fresh keeps) t out old'
  begun_ready out₀ out old old' keeps long size size_old P is b = record {
    walkable = r.walkable;
    low = omega (arith, r.low, r.below);
    low_test = omega (arith, r.low, r.below_test);
    few = omega (arith, r.few);
    size = r.size;
    size_out = omega arith;
    size_old = omega (arith, b.size);
    room = room_less k _ _ (table k t) (omega arith) r.room;
    small = fresh_small keeps;
    watches = fresh_watches (after_all k ys) shifted _ _ keeps (λ m. sym (rw is at (b.kept m)));
  }

  module _ (out₀ out old old' : List ℕ) (keeps : Bool) (long : size_of k ≤ length out₀) (size : length out ≡ length out₀) (size_old : size_of k ≤ length old)
      (P : ℕ) (is : P ≡ size_of k) (b : KeptBy P t old old' keeps) (a : Watch) (cur₁ out₁ old₁ : List ℕ) (u : Unrolls k ys l.least l.greatest (fresh keeps) t out old' a cur₁ out₁ old₁) where
    pub seen_few : a.done ≤ l.greatest
    seen_few = omega (arith, u.goes.most)

    pub seen_ready : ReadyLoop s k places l.body l.test (l.greatest - a.done) a cur₁ out₁ old₁
    seen_ready =
        let g = begun_ready out₀ out old old' keeps long size size_old P is b in
        record {
          walkable = r.walkable;
          low = g.low;
          low_test = g.low_test;
          few = omega (arith, r.few, u.goes.most);
          size = omega (arith, u.size, g.size);
          size_out = omega (arith, u.size_out, g.size_out);
          size_old = omega (arith, u.size_old, g.size_old);
          room =
              later_room s k places l.body l.test l.greatest (fresh keeps) t out old' g (a.done - 0) (l.greatest - a.done) (omega (arith, u.goes.most)) _ u.unrolled.cur;
          small = u.goes.small;
          watches = u.watches;
        }

    pub seen_fits : Fits P cur₁
    seen_fits = rw is (room_fits k _ cur₁ seen_ready.room)

    pub seen_long : P ≤ length cur₁
    seen_long = omega (arith, seen_ready.size)

    module _ (q : Watch) (cur₂ : List ℕ) (e : SkippedBy P (l.greatest - a.done) a cur₁ cur₂ q) where
      abbrev n : ℕ
      n = e.skips.0

      by_gain : table k cur₂ ≡ shifted (n * gain_of a.search) (table k cur₁)
      by_gain = rw is at e.skips.2

      fits : n * length_of a.search ≤ l.greatest - a.done
      fits = whole (l.greatest - a.done) a n seen_ready.few e.skips.1.jumps

      pub skip_few : q.done ≤ l.greatest
      skip_few = omega (arith, fits, e.skips.1.done, u.goes.most)

      -- the table behind the skipped cycles
      skip_cur : table k cur₂ ≡ iterate (after_all k ys) (n * length_of a.search) (table k cur₁)
      unfolding iterate
      skip_cur =
          split 1 n
          (λ m. by_gain ∙ sym (multiple (after_all k ys) (commutes k ys) (length_of a.search) (gain_of a.search) _ (u.watches.cyclic (e.skips.1.jumps.room m).0) n))
          (λ m. let z : n ≡ 0 = omega arith in
          by_gain ∙ rw (z, zero-mul (gain_of a.search), zero-mul (length_of a.search)) (shifted_zero (table k cur₁)))

      pub rest_ready : ReadyLoop s k places l.body l.test (l.greatest - q.done) q cur₂ out₁ old₁
      rest_ready = record {
        walkable = r.walkable;
        low = seen_ready.low;
        low_test = seen_ready.low_test;
        few = omega (arith, r.few, skip_few);
        size = omega (arith, e.size, seen_ready.size);
        size_out = seen_ready.size_out;
        size_old = seen_ready.size_old;
        room =
            later_room s k places l.body l.test (l.greatest - a.done) a cur₁ out₁ old₁ seen_ready (n * length_of a.search) (l.greatest - q.done)
            (omega (arith, fits, e.skips.1.done)) _ skip_cur;
        small = skips_small _ a n q e.skips.1;
        watches = off_watches (after_all k ys) shifted _ _ q e.skips.1.off;
      }

      -- unrolling the rest is unrolling all that was left
      skip_unrolled : (cur' out' : List ℕ) → UnrolledAt k ys l.least (a.done + n * length_of a.search) (l.greatest - a.done - n * length_of a.search) cur₂ out₁ cur' out'
          → UnrolledAt k ys l.least a.done (l.greatest - a.done) cur₁ out₁ cur' out'
      skip_unrolled cur' out' v =
          split 1 n
          (λ m. let j = e.skips.1.jumps.room m in
          cycles_skip (after_all k ys) (commutes k ys) (length_of a.search) (gain_of a.search) _ (u.watches.cyclic j.0) j.0 (size_of k)
          l.least a.done (l.greatest - a.done) n j.1 _ _ _ _ (by_gain) v)
          (λ m. let z : n ≡ 0 = omega arith in
          let same : table k cur₂ ≡ table k cur₁ =
          by_gain ∙ rw (z, zero-mul (gain_of a.search)) (shifted_zero (table k cur₁)) in
          rw same at (rw (z, zero-mul (length_of a.search), add-zero, sub-zero) at v))

      counted : (cur' out' : List ℕ) (d d' m m' : ℕ) → d ≡ d' → m ≡ m' → UnrolledAt k ys l.least d m cur₂ out₁ cur' out'
          → UnrolledAt k ys l.least d' m' cur₂ out₁ cur' out'
      counted cur' out' d d' m m' h g v = rw (h, g) at v

      -- the arrays are long enough to be copied
      pub ends_long : (z : Watch) (cur' out' old₂ : List ℕ) → Unrolls k ys l.least (l.greatest - q.done) q cur₂ out₁ old₁ z cur' out' old₂
          → (P ≤ length cur') × (P ≤ length out')
      ends_long z cur' out' old₂ v = (omega (arith, v.size, rest_ready.size), omega (arith, v.size_out, rest_ready.size_out))

      pub repeat_steps : (z : Watch) (cur' out' old₂ t' : List ℕ) → BegunAt k l.least t out
          → Unrolls k ys l.least (l.greatest - q.done) q cur₂ out₁ old₁ z cur' out' old₂
          → length t' ≡ length cur' → table_of P t' ≡ table_of P out' → Repeated k ys l.least l.greatest t t'
      repeat_steps z cur' out' old₂ t' g v same copied =
          let ends : z.done ≡ q.done + (l.greatest - q.done) = skips_ends _ a n q e.skips.1 _ z v.goes in
          let left : z.done - q.done ≡ l.greatest - a.done - n * length_of a.search = omega (arith, ends, e.skips.1.done, skip_few) in
          let rest = skip_unrolled cur' out' (counted cur' out' q.done _ (z.done - q.done) _ e.skips.1.done left v.unrolled) in
          let first = u.unrolled in
          let whole-count : (a.done - 0) + (l.greatest - a.done) ≡ l.greatest = omega (arith, u.goes.most) in
          let from : 0 + (a.done - 0) ≡ a.done = omega arith in
          record {
            size = same ∙ v.size ∙ e.size ∙ u.size;
            joins = λ o h.
                ap (λ (T : List Time). get_or T o none) (rw is at copied)
                ∙ unrolled_all none longer longer_joins (size_of k) (after_all k ys) l.least l.greatest (table k t) _ _ (table k cur') (table k out') g
                (rw (← whole-count)
                (unrolled_both none longer longer_joins (size_of k) (after_all k ys) l.least 0 (a.done - 0) (l.greatest - a.done)
                _ _ _ _ _ _ first (rw from rest))) o h;
          }
