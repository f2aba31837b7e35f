-- Two buses that are the same where it matters give the same tables, costs and pairs, so the same answers.
use mathlib.Core.Path.{◌≡◌, refl, ◌∙◌, ap, ap₂}
use mathlib.Core.List.{List}
use mathlib.Core.Option.{none, some}
use mathlib.Core.Bool.{Bool, false, cond, ◌||◌, ◌&&◌}
use lib.ListN.{get_or}
use lib.Dec.{eqb, ltb}
use native.Mathlib.Omega.{arith}
use Prim.Native.Nat.{ℕ, zero, suc, ◌+◌, ◌-◌, ◌≤◌, ◌<◌, max}
use Rattle.runs.specs.Bus.{Bus, SameBus}
use Rattle.runs.specs.Clock.{Places, offsets, with_lines}
use Rattle.runs.specs.Nodes.{Kind, may, always, Tree, Trees, plain, bus, once, sequence, branch, loop, none as done, more}
use Rattle.runs.specs.Runs.{is_start}
use Rattle.runs.specs.Carried.{row, iterate, join_below, join_from, moved, keep, blocked, fetched_once, carried, carried_all, carried_any}
use Rattle.runs.specs.Figures.{Time, longer, later, exits, times, largest, sum, access_cost, cost, cost_all, cost_any, start_times, start_set}
use Rattle.runs.specs.Pairs.{pairs, pairs_all, pairs_any}
use Rattle.runs.proofs.Executions.{Valid, Valids}
use Rattle.runs.proofs.Joins.{sum_same as sums_same}
use Rattle.runs.proofs.LinesLaws.{lines_turn}

below_same : {X : Type 0} (empty : X) (join : X → X → X) (n : ℕ) (f g : ℕ → X) → ((i : ℕ) → i < n → f i ≡ g i) → join_below empty join n f ≡ join_below empty join n g
unfolding join_below
below_same empty join zero f g h = refl
below_same empty join (suc n) f g h = ap₂ join (below_same empty join n f g (λ i l. h i (omega arith))) (h n (omega arith))

from_same : {X : Type 0} (empty : X) (join : X → X → X) (lo hi : ℕ) (f g : ℕ → X) → ((d : ℕ) → lo ≤ d → d ≤ hi → f d ≡ g d) → join_from empty join lo hi f ≡ join_from empty join lo hi g
unfolding join_from
from_same empty join lo hi f g h = below_same empty join (suc hi - lo) (λ i. f (lo + i)) (λ i. g (lo + i)) (λ i l. h (lo + i) (omega arith) (omega arith))

iterate_same : {A : Type 0} (f g : A → A) → ((a : A) → f a ≡ g a) → (k : ℕ) (a : A) → iterate f k a ≡ iterate g k a
unfolding iterate
iterate_same f g h zero a = refl
iterate_same f g h (suc k) a = h (iterate f k a) ∙ ap g (iterate_same f g h k a)

module _ (b b' : Bus) (most : ℕ) (same : (e o : ℕ) → 1 ≤ e → e ≤ most → o < b.period → b.wait e o ≡ b'.wait e o)
    (q : Places) (inside : (p : ℕ) → p < q.size → q.offset p < b.period) {X : Type 0} (empty : X) (join : X → X → X) (later : ℕ → X → X) where
  moved_same : (lo hi : ℕ) (to : ℕ → ℕ → ℕ) (T : List X) (p : ℕ) → 1 ≤ lo → hi ≤ most
      → moved empty join later q.size lo hi (λ d p. b.wait d (q.offset p) + d) to T p ≡ moved empty join later q.size lo hi (λ d p. b'.wait d (q.offset p) + d) to T p
  unfolding moved
  moved_same lo hi to T p' pos le =
      below_same empty join q.size _ _ (λ p l. from_same empty join lo hi _ _
      (λ d i j. ap (λ (w : ℕ). cond (eqb (to (w + d) p) p') (later (w + d) (get_or T p empty)) empty) (same d (q.offset p) (omega arith) (omega arith) (inside p l))))

  blocked_same : (kind : Kind) (lo hi : ℕ) (T : List X) (p : ℕ) → 1 ≤ lo → hi ≤ most → blocked b q empty join later kind lo hi T p ≡ blocked b' q empty join later kind lo hi T p
  unfolding blocked
  blocked_same may lo hi T p pos le = ap (join _) (moved_same lo hi q.goes T p pos le)
  blocked_same always lo hi T p pos le = moved_same lo hi q.goes T p pos le

  once_same : (x lo hi hit : ℕ) (T : List X) (p : ℕ) → 1 ≤ lo → hi ≤ most
      → fetched_once b q empty join later x lo hi hit T p ≡ fetched_once b' q empty join later x lo hi hit T p
  unfolding fetched_once
  once_same x lo hi hit T p pos le =
      ap (λ (v : X). join v (moved empty join later q.size hit hit (λ d p. d) q.goes (keep empty q.size (q.hits x) T) p))
      (moved_same lo hi (λ c p. q.fetch x (q.goes c p)) (keep empty q.size (q.misses x) T) p pos le)

  mutual
    unfolding carried Valid

    pub carried_same : (t : Tree) → Valid most t → (T : List X) → carried b q empty join later t T ≡ carried b' q empty join later t T
    carried_same (plain lo hi) v T = refl
    carried_same (bus kind lo hi) v T = ap (row q.size) (λ i p. blocked_same kind lo hi T p v.0 v.1 i)
    carried_same (once x lo hi hit) v T = ap (row q.size) (λ i p. once_same x lo hi hit T p v.0 v.1 i)
    carried_same (sequence ts) v T = all_same ts v T
    carried_same (branch ts) v T = ap (row q.size) (λ i p. any_same ts v.0 T p i)
    carried_same (loop least greatest body test) v T =
        let F : List X → List X = λ U. carried b q empty join later test (carried b q empty join later body U) in
        let F' : List X → List X = λ U. carried b' q empty join later test (carried b' q empty join later body U) in
        let same : (U : List X) → F U ≡ F' U =
        λ U. carried_same test v.1 (carried b q empty join later body U) ∙ ap (carried b' q empty join later test) (carried_same body v.0 U) in
        ap (row q.size) (λ i p. from_same empty join least greatest
        (λ k. get_or (iterate F k (carried b q empty join later test T)) p empty)
        (λ k. get_or (iterate F' k (carried b' q empty join later test T)) p empty)
        (λ k l m. ap (λ (T : List X). get_or T p empty)
        (iterate_same F F' same k (carried b q empty join later test T) ∙ ap (iterate F' k) (carried_same test v.1 T))) i)

    pub all_same : (ts : Trees) → Valids most ts → (T : List X) → carried_all b q empty join later ts T ≡ carried_all b' q empty join later ts T
    all_same done v T = refl
    all_same (more t ts) v T = all_same ts v.1 (carried b q empty join later t T) ∙ ap (λ T. carried_all b' q empty join later ts T) (carried_same t v.0 T)

    pub any_same : (ts : Trees) → Valids most ts → (T : List X) (p : ℕ) → carried_any b q empty join later ts T p ≡ carried_any b' q empty join later ts T p
    any_same done v T p = refl
    any_same (more t ts) v T p = ap₂ join (ap (λ (T : List X). get_or T p empty) (carried_same t v.0 T)) (any_same ts v.1 T p)

-- ---- the published cost

module _ (b b' : Bus) (most : ℕ) (same : (e o : ℕ) → 1 ≤ e → e ≤ most → o < b.period → b.wait e o ≡ b'.wait e o) (period : b.period ≡ b'.period) where
  pub exits_same : (t : Tree) → Valid most t → (X : List Bool) → exits b t X ≡ exits b' t X
  exits_same t v X =
      ap (λ (P : ℕ). carried b (offsets P) false ◌||◌ (λ d v. v) t X) period
      ∙ carried_same b b' most same (offsets b'.period) (λ p l. omega (arith, period)) false ◌||◌ (λ d v. v) t v X

  largest_same : (n : ℕ) (f g : ℕ → ℕ) → ((i : ℕ) → i < n → f i ≡ g i) → largest n f ≡ largest n g
  unfolding largest
  largest_same zero f g h = refl
  largest_same (suc n) f g h = ap₂ max (largest_same n f g (λ i l. h i (omega arith))) (h n (omega arith))

  sum_same : (n : ℕ) (f g : ℕ → ℕ) → ((i : ℕ) → f i ≡ g i) → sum n f ≡ sum n g
  unfolding sum
  sum_same zero f g h = refl
  sum_same (suc n) f g h = ap₂ ◌+◌ (sum_same n f g h) (h n)

  access_same : (lo hi : ℕ) (X : List Bool) → 1 ≤ lo → hi ≤ most → access_cost b lo hi X ≡ access_cost b' lo hi X
  unfolding access_cost
  access_same lo hi X pos le =
      ap (λ (P : ℕ). largest P (λ o. cond (get_or X o false) (largest (suc hi - lo) (λ i. b.wait (lo + i) o + (lo + i))) 0)) period
      ∙ largest_same b'.period _ _ (λ o l. ap (λ (n : ℕ). cond (get_or X o false) n 0)
      (largest_same (suc hi - lo) (λ i. b.wait (lo + i) o + (lo + i)) (λ i. b'.wait (lo + i) o + (lo + i))
      (λ i j. ap (λ (n : ℕ). n + (lo + i)) (same (lo + i) o (omega arith) (omega arith) (omega (arith, period))))))

  mutual
    unfolding cost Valid

    pub cost_same : (t : Tree) → Valid most t → (X : List Bool) → cost b t X ≡ cost b' t X
    cost_same (plain lo hi) v X = refl
    cost_same (bus kind lo hi) v X = access_same lo hi X v.0 v.1
    cost_same (once x lo hi hit) v X = ap (λ (n : ℕ). max n hit) (access_same lo hi X v.0 v.1)
    cost_same (sequence ts) v X = cost_all_same ts v X
    cost_same (branch ts) v X = cost_any_same ts v.0 X
    cost_same (loop least greatest body test) v X =
        let F : List Bool → List Bool = λ U. exits b test (exits b body U) in
        let F' : List Bool → List Bool = λ U. exits b' test (exits b' body U) in
        let same_step : (U : List Bool) → F U ≡ F' U = λ U. exits_same test v.1 (exits b body U) ∙ ap (exits b' test) (exits_same body v.0 U) in
        let turn : List Bool → ℕ = λ Y. cost b body Y + cost b test (exits b body Y) in
        let turn' : List Bool → ℕ = λ Y. cost b' body Y + cost b' test (exits b' body Y) in
        let same_turn : (Y : List Bool) → turn Y ≡ turn' Y =
        λ Y. ap₂ ◌+◌ (cost_same body v.0 Y) (cost_same test v.1 (exits b body Y) ∙ ap (cost b' test) (exits_same body v.0 Y)) in
        ap₂ ◌+◌ (cost_same test v.1 X)
        (sum_same greatest (λ i. turn (iterate F i (exits b test X))) (λ i. turn' (iterate F' i (exits b' test X)))
        (λ i. same_turn (iterate F i (exits b test X))
        ∙ ap turn' (iterate_same F F' same_step i (exits b test X) ∙ ap (iterate F' i) (exits_same test v.1 X))))

    cost_all_same : (ts : Trees) → Valids most ts → (X : List Bool) → cost_all b ts X ≡ cost_all b' ts X
    cost_all_same done v X = refl
    cost_all_same (more t ts) v X = ap₂ ◌+◌ (cost_same t v.0 X) (cost_all_same ts v.1 (exits b t X) ∙ ap (cost_all b' ts) (exits_same t v.0 X))

    cost_any_same : (ts : Trees) → Valids most ts → (X : List Bool) → cost_any b ts X ≡ cost_any b' ts X
    cost_any_same done v X = refl
    cost_any_same (more t ts) v X = omega (arith, cost_same t v.0 X, cost_any_same ts v.1 X)

-- ---- pairs

module _ (b b' : Bus) (most : ℕ) (same : (e o : ℕ) → 1 ≤ e → e ≤ most → o < b.period → b.wait e o ≡ b'.wait e o)
    (q : Places) (inside : (p : ℕ) → p < q.size → q.offset p < b.period) where
  steps_same : (t : Tree) → Valid most t → (T : List Time) → times b q t T ≡ times b' q t T
  steps_same t v T = carried_same b b' most same q inside none longer later t v T

  mutual
    unfolding pairs Valid

    pub pairs_same : (t : Tree) → Valid most t → (T : List Time) → pairs b q t T ≡ pairs b' q t T
    pairs_same (plain lo hi) v T = refl
    pairs_same (bus kind lo hi) v T = refl
    pairs_same (once x lo hi hit) v T = refl
    pairs_same (sequence ts) v T = pairs_all_same ts v T
    pairs_same (branch ts) v T = pairs_any_same ts v.0 T
    pairs_same (loop least greatest body test) v T =
        let F : List Time → List Time = λ U. times b q test (times b q body U) in
        let F' : List Time → List Time = λ U. times b' q test (times b' q body U) in
        let same_step : (U : List Time) → F U ≡ F' U = λ U. steps_same test v.1 (times b q body U) ∙ ap (times b' q test) (steps_same body v.0 U) in
        let turn : List Time → ℕ = λ U. pairs b q body U + pairs b q test (times b q body U) in
        let turn' : List Time → ℕ = λ U. pairs b' q body U + pairs b' q test (times b' q body U) in
        let same_turn : (U : List Time) → turn U ≡ turn' U =
        λ U. ap₂ ◌+◌ (pairs_same body v.0 U) (pairs_same test v.1 (times b q body U) ∙ ap (pairs b' q test) (steps_same body v.0 U)) in
        ap₂ ◌+◌ (pairs_same test v.1 T)
        (sums_same greatest (λ i. turn (iterate F i (times b q test T))) (λ i. turn' (iterate F' i (times b' q test T)))
        (λ i l. same_turn (iterate F i (times b q test T))
        ∙ ap turn' (iterate_same F F' same_step i (times b q test T) ∙ ap (iterate F' i) (steps_same test v.1 T))))

    pairs_all_same : (ts : Trees) → Valids most ts → (T : List Time) → pairs_all b q ts T ≡ pairs_all b' q ts T
    pairs_all_same done v T = refl
    pairs_all_same (more t ts) v T = ap₂ ◌+◌ (pairs_same t v.0 T) (pairs_all_same ts v.1 (times b q t T) ∙ ap (pairs_all b' q ts) (steps_same t v.0 T))

    pairs_any_same : (ts : Trees) → Valids most ts → (T : List Time) → pairs_any b q ts T ≡ pairs_any b' q ts T
    pairs_any_same done v T = refl
    pairs_any_same (more t ts) v T = ap₂ ◌+◌ (pairs_same t v.0 T) (pairs_any_same ts v.1 T)

-- ---- of trees and starts

module _ (b b' : Bus) (same : SameBus b b') (x : Tree) (v : Valid b.most x) (starts : List ℕ) where
  pub times_same : (n : ℕ) → 0 < b.period
      → times b (with_lines b.period n) x (start_times b (with_lines b.period n) starts)
      ≡ times b' (with_lines b'.period n) x (start_times b' (with_lines b'.period n) starts)
  unfolding start_times
  times_same n pos =
      carried_same b b' b.most same.wait (with_lines b.period n) (lines_turn b.period pos n).offset_in none longer later x v _
      ∙ ap (λ (P : ℕ). times b' (with_lines P n) x (row (with_lines P n).size (λ p. cond (ltb p P && is_start starts p) (some 0) none))) same.period

  pub work_same : (n : ℕ) → 0 < b.period
      → pairs b (with_lines b.period n) x (start_times b (with_lines b.period n) starts)
      ≡ pairs b' (with_lines b'.period n) x (start_times b' (with_lines b'.period n) starts)
  unfolding start_times
  work_same n pos =
      pairs_same b b' b.most same.wait (with_lines b.period n) (lines_turn b.period pos n).offset_in x v _
      ∙ ap (λ (P : ℕ). pairs b' (with_lines P n) x (row (with_lines P n).size (λ p. cond (ltb p P && is_start starts p) (some 0) none))) same.period

  pub published_same : cost b x (start_set b starts) ≡ cost b' x (start_set b' starts)
  unfolding start_set
  published_same =
      cost_same b b' b.most same.wait same.period x v (start_set b starts)
      ∙ ap (λ (P : ℕ). cost b' x (row P (λ o. is_start starts o))) same.period

  pub set_same : exits b x (start_set b starts) ≡ exits b' x (start_set b' starts)
  unfolding start_set
  set_same =
      exits_same b b' b.most same.wait same.period x v (start_set b starts)
      ∙ ap (λ (P : ℕ). exits b' x (row P (λ o. is_start starts o))) same.period
