-- A loop whose test is a plain block of duration 0 has the runs, times, exits and cost of the loop without a test (document 02, W3: "The loop tasks of
-- document 01 hold with a plain block of duration 0 as test").
use mathlib.Core.Path.{◌≡◌, refl, sym, ◌∙◌, ap, ap₂, subst}
use mathlib.Core.List.{List, [], ◌∷◌}
use mathlib.Core.Bool.{Bool, false, cond, ◌||◌}
use mathlib.Core.Option.{none as no_time}
use lib.ListN.{get_or, length}
use lib.Dec.{eqb}
use borrow.Author.Tests.{eq-eqb, ne_eqb}
use native.Mathlib.Omega.{arith}
use native.Mathlib.Nat.{add-zero, zero-add, not-suc-le-zero}
use Prim.Native.Nat.{ℕ, zero, suc, ◌+◌, ◌-◌, ◌<◌}
use Rattle.runs.specs.Bus.{Bus}
use Rattle.runs.specs.Clock.{Places, State, Turning, offsets, with_lines, pass}
use Rattle.runs.specs.Nodes.{Node, Tree, Trees, plain, bus, once, sequence, branch, loop, none as done, more}
use Rattle.runs.specs.Runs.{Does, DoesTimes, passes, may_pass, accesses, first_time, later_time, in_order, one_of, repeats, enough, again}
use Rattle.runs.specs.Carried.{row, iterate, join_below, join_from, moved, carried, carried_all}
use Rattle.runs.specs.Figures.{Time, later, longer, times, exits, cost}
use Rattle.runs.specs.Untested.{Iterates, none, again as once_more, Untested, untested, untested_cost}
use Rattle.runs.proofs.Cases.{split}
use Rattle.runs.proofs.OffsetsLaws.{offsets_turn}
use Rattle.runs.proofs.LinesLaws.{lines_turn}
use Rattle.runs.proofs.Joins.{Joining, longer_joins, or_joins, row_length, row_same, below_same, below_one, below_empty, sum_same}
use Rattle.runs.proofs.Shifted.{later_zero}

-- a plain block of duration 0
abbrev idle : Tree
idle = Tree.plain 0 0

-- ---- runs

abbrev IsPlain : Node → Type 0
IsPlain (Node.plain lo hi) = Unit {0}
IsPlain (Node.bus kind lo hi) = ⊥
IsPlain (Node.once x lo hi hit) = ⊥
IsPlain (Node.sequence ns) = ⊥
IsPlain (Node.branch ns) = ⊥
IsPlain (Node.loop least greatest body test) = ⊥

abbrev IsLoop : Node → Type 0
IsLoop (Node.plain lo hi) = ⊥
IsLoop (Node.bus kind lo hi) = ⊥
IsLoop (Node.once x lo hi hit) = ⊥
IsLoop (Node.sequence ns) = ⊥
IsLoop (Node.branch ns) = ⊥
IsLoop (Node.loop least greatest body test) = Unit {0}

module _ (b : Bus) (q : Places) (node_at : ℕ → Node) (n least greatest body test : ℕ) (is : node_at n ≡ Node.loop least greatest body test)
    (still : node_at test ≡ Node.plain 0 0) where
  only_plain : {x : Node} → node_at test ≡ x → IsPlain x
  only_plain e = subst IsPlain (sym still ∙ e) tt

  only_loop : {x : Node} → node_at n ≡ x → IsLoop x
  only_loop e = subst IsLoop (sym is ∙ e) tt

  -- the test leaves the state as it is
  tested : {s s' : State} → Does b q node_at test s s' → s' ≡ s
  unfolding pass
  tested {s} (passes lo hi d e i j r) = let top : hi ≡ 0 = cc in let z : d ≡ 0 = omega arith in r ∙ ap (λ (d : ℕ). pass q d s) z
  tested (may_pass lo hi d e i j r) = absurd (only_plain e)
  tested (accesses kind lo hi d e i j r) = absurd (only_plain e)
  tested (first_time x lo hi hit d e m i j r f) = absurd (only_plain e)
  tested (later_time x lo hi hit e h r) = absurd (only_plain e)
  tested (in_order ns e r) = absurd (only_plain e)
  tested (one_of ns m e i r) = absurd (only_plain e)
  tested (repeats l g o t k e i j r) = absurd (only_plain e)

  testing : (s : State) → Does b q node_at test s s
  unfolding pass
  testing s = passes 0 0 0 still (omega arith) (omega arith) refl

  untested_times : {k : ℕ} {s s' : State} → DoesTimes b q node_at k body test s s' → Iterates b q node_at body k s s'
  untested_times (enough r) = rw (tested r) none
  untested_times {k} {s} (again rs r u) = rw (tested u) (once_more (untested_times rs) r)

  tested_times : {k : ℕ} {s s' : State} → Iterates b q node_at body k s s' → DoesTimes b q node_at k body test s s'
  tested_times none = enough (testing _)
  tested_times (once_more rs r) = again (tested_times rs) r (testing _)

  -- its runs are those of the loop without a test
  pub untested_runs : (s s' : State) → Does b q node_at n s s' → Untested b q node_at least greatest body s s'
  untested_runs s s' (repeats l g o t k e i j r) =
      let low : l ≡ least = cc in
      let high : g ≡ greatest = cc in
      let inner : o ≡ body = cc in
      let head : t ≡ test = cc in
      (k, omega (arith, i, low), omega (arith, j, high), untested_times (rw (inner, head) at r))
  untested_runs s s' (passes lo hi d e i j r) = absurd (only_loop e)
  untested_runs s s' (may_pass lo hi d e i j r) = absurd (only_loop e)
  untested_runs s s' (accesses kind lo hi d e i j r) = absurd (only_loop e)
  untested_runs s s' (first_time x lo hi hit d e m i j r f) = absurd (only_loop e)
  untested_runs s s' (later_time x lo hi hit e h r) = absurd (only_loop e)
  untested_runs s s' (in_order ns e r) = absurd (only_loop e)
  untested_runs s s' (one_of ns m e i r) = absurd (only_loop e)

  pub tested_runs : (s s' : State) → Untested b q node_at least greatest body s s' → Does b q node_at n s s'
  tested_runs s s' (k, i, j, r) = repeats least greatest body test k is i j (tested_times r)

-- ---- tables, of times and of offsets, of one value for each place, as all tables of a walk are

row_self : {X : Type 0} (empty : X) (T : List X) → row (length T) (λ p. get_or T p empty) ≡ T
unfolding row
row_self empty [] = refl
row_self empty (v ∷ T) = ap (λ (U : List _). v ∷ U) (row_self empty T)

module _ {X : Type 0} (empty : X) (join : X → X → X) (law : Joining empty join) where
  -- of a join in which one place counts, that place's value is left
  below_single : (n o : ℕ) (f : ℕ → X) → o < n → join_below empty join n (λ p. cond (eqb p o) (f p) empty) ≡ f o
  unfolding join_below
  below_single zero o f h = absurd (not-suc-le-zero h)
  below_single (suc n) o f h =
      split n o
      (λ l. let e : o ≡ n = omega arith in
      rw (e, eq-eqb n n refl)
      (ap (λ (v : X). join v (f n)) (below_empty empty join law n _ (λ i m. ap (λ (t : Bool). cond t (f i) empty) (ne_eqb i n (λ z. omega arith))))
      ∙ law.left (f n)))
      (λ l. rw (ne_eqb n o (λ z. omega arith)) (law.right _ ∙ below_single n o f l))

module _ (b : Bus) (q : Places) (turn : Turning b.period q) {X : Type 0} (empty : X) (join : X → X → X) (law : Joining empty join)
    (later : ℕ → X → X) (now : (v : X) → later 0 v ≡ v) where
  -- what is carried has as many places
  mutual
    unfolding carried

    long : (t : Tree) (T : List X) → length T ≡ q.size → length (carried b q empty join later t T) ≡ q.size
    long (plain lo hi) T h = row_length q.size _
    long (bus kind lo hi) T h = row_length q.size _
    long (once x lo hi hit) T h = row_length q.size _
    long (sequence ts) T h = long_all ts T h
    long (branch ts) T h = row_length q.size _
    long (loop least greatest body test) T h = row_length q.size _

    long_all : (ts : Trees) (T : List X) → length T ≡ q.size → length (carried_all b q empty join later ts T) ≡ q.size
    long_all done T h = h
    long_all (more t ts) T h = long_all ts (carried b q empty join later t T) (long t T h)

  -- a plain block of duration 0 leaves the table as it is
  left_alone : (T : List X) → length T ≡ q.size → carried b q empty join later idle T ≡ T
  unfolding carried moved join_from
  left_alone T h =
      row_same q.size _ (λ o. get_or T o empty) (λ o l.
      below_same empty join law q.size _ (λ p. cond (eqb p o) (get_or T p empty) empty)
      (λ p m.
      below_one empty join law (λ i. cond (eqb (q.goes (0 + i) p) o) (later (0 + i) (get_or T p empty)) empty)
      ∙ ap₂ (λ (z : ℕ) (v : X). cond (eqb z o) v empty) (turn.goes_zero p m) (now (get_or T p empty)))
      ∙ below_single empty join law q.size o (λ p. get_or T p empty) l)
      ∙ ap (λ (n : ℕ). row n (λ o. get_or T o empty)) (sym h) ∙ row_self empty T

  module _ (body : Tree) (T : List X) (h : length T ≡ q.size) where
    abbrev F : List X → List X
    F U = carried b q empty join later body U

    abbrev G : List X → List X
    G U = carried b q empty join later idle (carried b q empty join later body U)

    -- so the tables after k iterations are the same
    pub turns_untested : (k : ℕ) → (iterate G k (carried b q empty join later idle T) ≡ iterate F k T) × (length (iterate F k T) ≡ q.size)
    unfolding iterate
    turns_untested zero = (left_alone T h, h)
    turns_untested (suc k) =
        let (e, l) = turns_untested k in
        let m = long body (iterate F k T) l in
        (ap G e ∙ left_alone (F (iterate F k T)) m, m)

    pub carried_untested : (least greatest : ℕ)
        → carried b q empty join later (Tree.loop least greatest body idle) T ≡ untested b q empty join later least greatest body T
    unfolding carried join_from
    carried_untested least greatest =
        row_same q.size _ _ (λ o l.
        below_same empty join law (suc greatest - least) _ _ (λ i m. ap (λ (U : List X). get_or U o empty) (turns_untested (least + i)).0))

-- the times
module _ (b : Bus) (pos : 0 < b.period) (n : ℕ) where
  abbrev q : Places
  q = with_lines b.period n

  pub times_long : (t : Tree) (T : List Time) → length T ≡ q.size → length (times b q t T) ≡ q.size
  times_long t T h = long b q (lines_turn b.period pos n) no_time longer longer_joins later later_zero t T h

  pub times_idle : (T : List Time) → length T ≡ q.size → times b q idle T ≡ T
  times_idle T h = left_alone b q (lines_turn b.period pos n) no_time longer longer_joins later later_zero T h

  pub times_untested : (least greatest : ℕ) (body : Tree) (T : List Time) → length T ≡ q.size
      → times b q (Tree.loop least greatest body idle) T ≡ untested b q no_time longer later least greatest body T
  times_untested least greatest body T h =
      carried_untested b q (lines_turn b.period pos n) no_time longer longer_joins later later_zero body T h least greatest

-- the published exits, and the cost
module _ (b : Bus) (pos : 0 < b.period) (least greatest : ℕ) (body : Tree) (X : List Bool) (h : length X ≡ b.period) where
  pub exits_untested : exits b (Tree.loop least greatest body idle) X ≡ untested b (offsets b.period) false ◌||◌ (λ d v. v) least greatest body X
  exits_untested = carried_untested b (offsets b.period) (offsets_turn b.period pos) false ◌||◌ or_joins (λ d v. v) (λ v. refl) body X h least greatest

  pub cost_untested : cost b (Tree.loop least greatest body idle) X ≡ untested_cost b greatest body X
  unfolding cost
  cost_untested =
      zero-add _
      ∙ sum_same greatest _ _ (λ i l.
      add-zero _
      ∙ ap (cost b body)
      (turns_untested b (offsets b.period) (offsets_turn b.period pos) false ◌||◌ or_joins (λ d v. v) (λ v. refl) body X h i).0)
