-- A schedule of at most 32 slots has at most 16 stretches of owned offsets: from one begin to the next the owner changes twice.
use mathlib.Core.Path.{◌≡◌, refl, sym, ◌∙◌, ap}
use mathlib.Core.Bool.{Bool, true, false, not, cond, ◌&&◌, false≢true}
use mathlib.Core.List.{List, [], ◌∷◌}
use native.Mathlib.Nat.{mod-lt, mod-eq_of_lt, add-mod_right}
use native.Mathlib.Omega.{arith}
use lib.ListN.{length}
use borrow.Author.Tests.{lt-ltb, le-ltb}
use Prim.Native.Nat.{ℕ, zero, suc, ◌+◌, ◌-◌, ◌*◌, ◌%◌, ◌≤◌, ◌<◌}
use Rattle.runs.specs.Schedules.{Turn, total, owns}
use Rattle.runs.proofs.Cases.{split}
use Rattle.bus.specs.Stretches.{begun}

-- the same offsets begin as many
pub begun_same : (P : ℕ) (own own' : ℕ → Bool) → ((o : ℕ) → o < P → own o ≡ own' o) → (k : ℕ) → k ≤ P → begun P own k ≡ begun P own' k
unfolding begun
begun_same P own own' h zero l = refl
begun_same P own own' h (suc k) l =
    rw (begun_same P own own' h k (omega arith), h k (omega arith), h ((k + P - 1) % P) (mod-lt (k + P - 1) (omega arith))) refl

-- ---- any count that does not fall, and rises where the owner changes

-- from an offset to the next: u and t tell whether they are owned
step : (t u : Bool) (b r r' : ℕ) → 2 * b ≤ r + cond u 1 0 → r ≤ r' → (¬ (t ≡ u) → r + 1 ≤ r') → 2 * (b + cond (t && not u) 1 0) ≤ r' + cond t 1 0
step true true b r r' h le more = omega arith
step true false b r r' h le more = let z = more (λ e. absurd (false≢true (sym e))) in omega arith
step false true b r r' h le more = let z = more (λ e. absurd (false≢true e)) in omega arith
step false false b r r' h le more = omega arith

module _ (P : ℕ) (own : ℕ → Bool) (rank : ℕ → ℕ) (first : 1 ≤ rank 1) (up : (o : ℕ) → rank o ≤ rank (suc o))
    (more : (o : ℕ) → suc o < P → ¬ (own (suc o) ≡ own o) → rank (suc o) + 1 ≤ rank (suc (suc o))) where
  twice : (k : ℕ) → suc k ≤ P → 2 * begun P own (suc k) ≤ rank (suc k) + cond (own k) 1 0
  unfolding begun
  twice zero l = begin (own 0) (not (own ((0 + P - 1) % P)))
    where
      begin : (t u : Bool) → 2 * (0 + cond (t && u) 1 0) ≤ rank 1 + cond t 1 0
      begin true true = omega (arith, first)
      begin true false = omega arith
      begin false u = omega arith
  twice (suc k) l =
      let e : (suc k + P - 1) % P ≡ k = ap (λ (n : ℕ). n % P) (let z : suc k + P - 1 ≡ k + P = omega arith in z) ∙ add-mod_right k P ∙ mod-eq_of_lt (omega arith) in
      rw e (step (own (suc k)) (own k) (begun P own (suc k)) (rank (suc k)) (rank (suc (suc k))) (twice k (omega arith)) (up (suc k)) (more k l))

  half : (k : ℕ) → k ≡ P → 2 * begun P own k ≤ rank k + 1
  unfolding begun
  half zero e = omega arith
  half (suc k) e = let z : cond {A = ℕ} (own k) 1 0 ≤ 1 = one (own k) in omega (arith, twice k (omega arith), z)
    where
      one : (t : Bool) → cond {A = ℕ} t 1 0 ≤ 1
      one true = omega arith
      one false = omega arith

-- ---- the slots that begin before an offset

rank : List Turn → ℕ → ℕ
rank [] g = 0
rank (x ∷ xs) zero = 0
rank (x ∷ xs) (suc g) = 1 + rank xs (suc g - x.length)

rank_none : (xs : List Turn) → rank xs 0 ≡ 0
unfolding rank
rank_none [] = refl
rank_none (x ∷ xs) = refl

rank_most : (xs : List Turn) (g : ℕ) → rank xs g ≤ length xs
unfolding rank
rank_most [] g = omega arith
rank_most (x ∷ xs) zero = omega arith
rank_most (x ∷ xs) (suc g) = omega (arith, rank_most xs (suc g - x.length))

rank_first : (xs : List Turn) → 0 < total xs → 1 ≤ rank xs 1
unfolding total rank
rank_first [] h = absurd (omega arith)
rank_first (x ∷ xs) h = omega arith

rank_up : (xs : List Turn) (o : ℕ) → rank xs o ≤ rank xs (suc o)
unfolding rank
rank_up [] o = omega arith
rank_up (x ∷ xs) zero = omega arith
rank_up (x ∷ xs) (suc o) =
    split x.length (suc o)
    (λ l. let z : suc (suc o) - x.length ≡ suc (suc o - x.length) = omega arith in rw z (omega (arith, rank_up xs (suc o - x.length))))
    (λ l. let z : suc o - x.length ≡ 0 = omega arith in rw z (omega (arith, rank_none xs)))

rank_more : (c : ℕ) (xs : List Turn) (o : ℕ) → suc o < total xs → ¬ (owns c xs (suc o) ≡ owns c xs o) → rank xs (suc o) + 1 ≤ rank xs (suc (suc o))
unfolding total owns rank
rank_more c [] o l n = absurd (omega arith)
rank_more c (x ∷ xs) o l n =
    split x.length o
    (λ k.
    let y : suc o - x.length ≡ suc (o - x.length) = omega arith in
    let z : suc (suc o) - x.length ≡ suc (suc (o - x.length)) = omega arith in
    let on : ¬ (owns c xs (suc (o - x.length)) ≡ owns c xs (o - x.length)) = λ e. n (rw (le-ltb (suc o) x.length (omega arith), le-ltb o x.length k, y) e) in
    rw (y, z) (omega (arith, rank_more c xs (o - x.length) (omega arith) on)))
    (λ k. split x.length (suc o)
    (λ m.
    let y : suc o - x.length ≡ 0 = omega arith in
    let z : suc (suc o) - x.length ≡ 1 = omega arith in
    rw (y, z) (omega (arith, rank_none xs, rank_first xs (omega arith))))
    (λ m. absurd (n (rw (lt-ltb (suc o) x.length m, lt-ltb o x.length k) refl))))

pub few_begun : (c : ℕ) (xs : List Turn) → 0 < total xs → length xs ≤ 32 → begun (total xs) (owns c xs) (total xs) ≤ 16
few_begun c xs pos few =
    omega (arith, half (total xs) (owns c xs) (rank xs) (rank_first xs pos) (rank_up xs) (rank_more c xs) (total xs) refl, rank_most xs (total xs))
