-- Laws of pairs (document 02, W6): they are the same q cycles later, so each of the cycles of a loop that has become periodic counts alike; and they
-- are at most 512 for each visit and place, where no range has more than 256 durations.
use mathlib.Core.Path.{◌≡◌, refl, ◌∙◌, ap, ap₂}
use mathlib.Core.Option.{none, some}
use mathlib.Core.List.{List}
use mathlib.Core.Bool.{Bool, true, false, cond, not}
use lib.ListN.{get_or}
use native.Mathlib.Omega.{arith}
use native.Mathlib.Nat.{add-zero, zero-add, mul-le-mul}
use Prim.Native.Nat.{ℕ, zero, suc, ◌+◌, ◌-◌, ◌*◌, ◌≤◌}
use Rattle.runs.specs.Bus.{Bus}
use Rattle.runs.specs.Clock.{Places}
use Rattle.runs.specs.Nodes.{Kind, may, always, Tree, Trees, plain, bus, once, sequence, branch, loop, none as done, more, visits, visits_all}
use Rattle.runs.specs.Carried.{iterate, keep}
use Rattle.runs.specs.Figures.{Time, later, held, times, sum, reached}
use Rattle.runs.specs.Parts.{shifted}
use Rattle.runs.specs.Pairs.{ways, entered, pairs, pairs_all, pairs_any}
use Rattle.runs.proofs.Joins.{iterate_swap, sum_same}
use Rattle.runs.proofs.Meanings.{row_at_lem}
use Rattle.runs.proofs.Shifted.{shifted_at, keep_shifted, times_shifted}
use Rattle.runs.proofs.Bounds.{sum_le}

-- ---- q cycles later

held_later : (q : ℕ) (v : Time) → held (later q v) ≡ held v
unfolding held later
held_later q none = refl
held_later q (some t) = refl

pub reached_shifted : (q n : ℕ) (T : List Time) → reached n (shifted q T) ≡ reached n T
reached_shifted q n T =
    sum_same n _ _ (λ p l. ap (λ (b : Bool). cond b 1 0) (ap held (shifted_at q T p) ∙ held_later q (get_or T p none)))

module _ (b : Bus) (s : Places) (q : ℕ) where
  kept_shifted : (f : ℕ → Bool) (T : List Time) → entered b s (keep none s.size f (shifted q T)) ≡ entered b s (keep none s.size f T)
  kept_shifted f T = ap (λ (U : List Time). entered b s U) (keep_shifted b s q f T) ∙ reached_shifted q s.size (keep none s.size f T)

  mutual
    unfolding pairs

    pub pairs_shifted : (t : Tree) (T : List Time) → pairs b s t (shifted q T) ≡ pairs b s t T
    pairs_shifted (plain lo hi) T = ap (λ (n : ℕ). n * (suc hi - lo)) (reached_shifted q s.size T)
    pairs_shifted (bus kind lo hi) T = ap (λ (n : ℕ). ways kind * (n * (suc hi - lo))) (reached_shifted q s.size T)
    pairs_shifted (once x lo hi hit) T =
        ap₂ (λ (n m : ℕ). n + m * (suc hi - lo)) (kept_shifted (s.hits x) T) (kept_shifted (s.misses x) T)
    pairs_shifted (sequence ts) T = pairs_all_shifted ts T
    pairs_shifted (branch ts) T = pairs_any_shifted ts T
    pairs_shifted (loop least greatest body test) T =
        let F : List Time → List Time = λ U. times b s test (times b s body U) in
        let turn : (U : List Time) → pairs b s body (shifted q U) + pairs b s test (times b s body (shifted q U)) ≡ pairs b s body U + pairs b s test (times b s body U) =
        λ U. ap₂ ◌+◌ (pairs_shifted body U) (ap (pairs b s test) (times_shifted b s q body U) ∙ pairs_shifted test (times b s body U)) in
        ap₂ ◌+◌ (pairs_shifted test T)
        (sum_same greatest _ _ (λ i l.
        ap (λ (U : List Time). pairs b s body U + pairs b s test (times b s body U))
        (ap (iterate F i) (times_shifted b s q test T)
        ∙ iterate_swap F (shifted q) (λ U. ap (times b s test) (times_shifted b s q body U) ∙ times_shifted b s q test (times b s body U)) i (times b s test T))
        ∙ turn (iterate F i (times b s test T))))

    pub pairs_all_shifted : (ts : Trees) (T : List Time) → pairs_all b s ts (shifted q T) ≡ pairs_all b s ts T
    pairs_all_shifted done T = refl
    pairs_all_shifted (more t ts) T =
        ap₂ ◌+◌ (pairs_shifted t T) (ap (pairs_all b s ts) (times_shifted b s q t T) ∙ pairs_all_shifted ts (times b s t T))

    pairs_any_shifted : (ts : Trees) (T : List Time) → pairs_any b s ts (shifted q T) ≡ pairs_any b s ts T
    pairs_any_shifted done T = refl
    pairs_any_shifted (more t ts) T = ap₂ ◌+◌ (pairs_shifted t T) (pairs_any_shifted ts T)

-- ---- parts of a table

sum_add : (n : ℕ) (f g : ℕ → ℕ) → sum n f + sum n g ≡ sum n (λ i. f i + g i)
unfolding sum
sum_add zero f g = refl
sum_add (suc n) f g = omega (arith, sum_add n f g)

held_parts : (t : Bool) (v : Time) → cond (held (cond t v none)) 1 0 + cond (held (cond (not t) v none)) 1 0 ≡ cond (held v) 1 0
unfolding held
held_parts true v = add-zero _
held_parts false v = zero-add _

-- the places where f holds and those where it does not
pub kept_parts : (n : ℕ) (f g : ℕ → Bool) → ((p : ℕ) → g p ≡ not (f p)) → (T : List Time)
    → reached n (keep none n f T) + reached n (keep none n g T) ≡ reached n T
unfolding keep
kept_parts n f g is T =
    sum_add n _ _
    ∙ sum_same n _ _ (λ p l.
    ap₂ (λ (v w : Time). cond (held v) 1 0 + cond (held w) 1 0)
    (row_at_lem n (λ p. cond (f p) (get_or T p none) none) p none l)
    (row_at_lem n (λ p. cond (g p) (get_or T p none) none) p none l ∙ ap (λ (t : Bool). cond t (get_or T p none) none) (is p))
    ∙ held_parts (f p) (get_or T p none))

-- ---- how many

one_le : (v : Time) → cond (held v) 1 0 ≤ 1
unfolding held
one_le none = omega arith
one_le (some t) = omega arith

pub reached_le : (n : ℕ) (T : List Time) → reached n T ≤ n
reached_le n T = omega (arith, sum_le n (λ p. cond (held (get_or T p none)) 1 0) 1 (λ p. one_le (get_or T p none)))

-- no range of the tree has more than 256 durations
unfoldable mutual
  pub Narrow : Tree → Type 0
  Narrow (plain lo hi) = hi ≤ lo + 255
  Narrow (bus kind lo hi) = hi ≤ lo + 255
  Narrow (once x lo hi hit) = hi ≤ lo + 255
  Narrow (sequence ts) = Narrows ts
  Narrow (branch ts) = Narrows ts
  Narrow (loop least greatest body test) = Narrow body × Narrow test

  pub Narrows : Trees → Type 0
  Narrows done = Unit {0}
  Narrows (more t ts) = Narrow t × Narrows ts

module _ (b : Bus) (q : Places) where
  -- the most that one visit counts
  abbrev pub each : ℕ
  each = 512 * q.size

  visit_le : (T : List Time) (n : ℕ) → n ≤ 256 → entered b q T * n ≤ q.size * 256
  visit_le T n h = mul-le-mul (reached_le q.size T) h

  ways_le : (kind : Kind) (n : ℕ) → ways kind * n ≤ n + n
  ways_le may n = omega arith
  ways_le always n = omega arith

  mutual
    unfolding pairs visits Narrow

    pub pairs_bounded : (t : Tree) → Narrow t → (T : List Time) → pairs b q t T ≤ visits t * each
    pairs_bounded (plain lo hi) v T = omega (arith, visit_le T (suc hi - lo) (omega (arith, v)))
    pairs_bounded (bus kind lo hi) v T =
        omega (arith, visit_le T (suc hi - lo) (omega (arith, v)), ways_le kind (entered b q T * (suc hi - lo)))
    pairs_bounded (once x lo hi hit) v T =
        omega (
          arith,
          visit_le (keep none q.size (q.misses x) T) (suc hi - lo) (omega (arith, v)),
          reached_le q.size (keep none q.size (q.hits x) T),
        )
    pairs_bounded (sequence ts) v T = omega (arith, pairs_all_bounded ts v T)
    pairs_bounded (branch ts) v T = omega (arith, pairs_any_bounded ts v T)
    pairs_bounded (loop least greatest body test) v T =
        let F : List Time → List Time = λ U. times b q test (times b q body U) in
        omega (
          arith,
          pairs_bounded test v.1 T,
          sum_le greatest
              (λ i. let U : List Time = iterate F i (times b q test T) in pairs b q body U + pairs b q test (times b q body U))
              ((visits body + visits test) * each)
              (λ i. omega (arith, pairs_bounded body v.0 (iterate F i (times b q test T)), pairs_bounded test v.1 (times b q body (iterate F i (times b q test T))))),
        )

    pub pairs_all_bounded : (ts : Trees) → Narrows ts → (T : List Time) → pairs_all b q ts T ≤ visits_all ts * each
    pairs_all_bounded done v T = omega arith
    pairs_all_bounded (more t ts) v T = omega (arith, pairs_bounded t v.0 T, pairs_all_bounded ts v.1 (times b q t T))

    pairs_any_bounded : (ts : Trees) → Narrows ts → (T : List Time) → pairs_any b q ts T ≤ visits_all ts * each
    pairs_any_bounded done v T = omega arith
    pairs_any_bounded (more t ts) v T = omega (arith, pairs_bounded t v.0 T, pairs_any_bounded ts v.1 T)
