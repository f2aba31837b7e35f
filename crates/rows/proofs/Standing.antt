-- Where the fields of an image stand, one behind the other; only the last of those that are good may have closed it.
use mathlib.Core.Path.{◌≡◌, refl}
use mathlib.Core.List.{List}
use Prim.Native.Nat.{ℕ, zero, suc, ◌+◌, ◌≤◌}
use native.Mathlib.Numerals.{add-one}
use native.Mathlib.Omega.{arith}
use lib.ListN.{length}
use borrow.Author.Count.{below_more}
use borrow.Author.Tests.{eqb-false}
use Rattle.rows.specs.Fields.{field_at, tag_at, length_at, GoodField, Passed}
use Rattle.rows.specs.Unclosed.{Unclosed}
use Rattle.rows.proofs.Kept.{good_tag, good_room, good_body, node_room, later_tag, first_open}

module _ (s : List ℕ) where
  pub next_at : (k : ℕ) → field_at s (suc k) ≡ field_at s k + 3 + length_at s k
  unfolding field_at
  next_at k = refl

  pub first_at : field_at s 0 ≡ 0
  unfolding field_at
  first_at = refl

  pub fewer : (m n : ℕ) → m ≤ n → Passed s n → Passed s m
  fewer m n h p k l = p k (omega arith)

  pub inside : (n : ℕ) → Passed s n → field_at s n ≤ length s
  inside zero p = rw first_at (omega arith)
  inside (suc n) p = rw (next_at n) (good_body s n (p n (omega arith)))

  -- one more good field
  pub passed_more : (n : ℕ) → Passed s n → GoodField s n → Passed s (n + 1)
  passed_more n p g = below_more (GoodField s) n p g

  -- ---- fields that have not closed it

  -- every good field but the last
  pub open_below : (k : ℕ) → GoodField s k → GoodField s (suc k) → tag_at s k ≡ 8 → ⊥
  open_below zero g h e = first_open s g e
  open_below (suc k) g h e = eqb-false (tag_at s (suc k)) 8 (later_tag (suc (suc k)) _ _ (omega arith) (good_tag s (suc (suc k)) h)) e

  pub unclosed_below : (n : ℕ) → Passed s (suc n) → Unclosed s n
  unclosed_below n p k l = (p k (omega arith), open_below k (p k (omega arith)) (p (suc k) (omega arith)))

  -- and the last too, where it has another tag
  pub unclosed_all : (n : ℕ) → Passed s (suc n) → (tag_at s n ≡ 8 → ⊥) → Unclosed s (suc n)
  unclosed_all n p ne = rw (add-one n) at (below_more (λ k. GoodField s k × (tag_at s k ≡ 8 → ⊥)) n (unclosed_below n p) (p n (omega arith), ne))

  pub unclosed_passed : (n : ℕ) → Unclosed s n → Passed s n
  unclosed_passed n p k l = (p k l).0

  pub unclosed_fewer : (m n : ℕ) → m ≤ n → Unclosed s n → Unclosed s m
  unclosed_fewer m n h p k l = p k (omega arith)

  -- 258 of them at most, and one more that closes it
  pub unclosed_few : (n : ℕ) → Unclosed s n → n ≤ 258
  unclosed_few zero p = omega arith
  unclosed_few (suc n) p = let (g, ne) = p n (omega arith) in omega (arith, node_room n (tag_at s n) ne (good_room s n g))

  pub few : (n : ℕ) → Passed s n → n ≤ 259
  few zero p = omega arith
  few (suc n) p = omega (arith, unclosed_few n (unclosed_below n p))
