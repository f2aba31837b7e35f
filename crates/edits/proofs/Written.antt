-- The image whose four bytes are two durations: those bytes, all others, and what a copy of it is.
use borrow.Rule.Slice.PartMut.{put_mid}
use mathlib.Core.Path.{◌≡◌, refl, ◌∙◌, ap, subst}
use mathlib.Core.List.{List, [], ◌∷◌, ◌++◌}
use lib.ListN.{length, set, take, length-set}
use lib.Seq.{get_or-set_same, get_or-set_other, set-append_left, take_at, ext_get_or}
use native.Mathlib.Omega.{arith}
use Prim.Native.Nat.{ℕ, zero, suc, ◌+◌, ◌/◌, ◌%◌, ◌≤◌, ◌<◌}
use Rattle.runs.proofs.Cases.{split}
use Rattle.image_bytes.specs.Bytes.{byte_at, word_at}
use Rattle.edits.specs.Edits.{with_durations}

-- one store, two and three
abbrev pub one : List ℕ → ℕ → ℕ → List ℕ
one s b lo = set s b (lo / 256)

abbrev pub two : List ℕ → ℕ → ℕ → List ℕ
two s b lo = set (one s b lo) (b + 1) (lo % 256)

abbrev pub three : List ℕ → ℕ → ℕ → ℕ → List ℕ
three s b lo hi = set (two s b lo) (b + 2) (hi / 256)

-- two bytes copied to a place are two bytes set
pub pair_set : (s : List ℕ) (b x y : ℕ) → b + 2 ≤ length s → put_mid b 2 s (x ∷ y ∷ []) ≡ set (set s b x) (b + 1) y
pair_set [] b x y h = absurd (omega arith)
pair_set (u ∷ []) b x y h = absurd (omega arith)
pair_set (u ∷ v ∷ s) zero x y h = refl
pair_set (u ∷ v ∷ s) (suc b) x y h =
    let e : suc b + 1 ≡ suc (b + 1) = omega arith in
    rw e (ap (λ (l : List ℕ). u ∷ l) (pair_set (v ∷ s) b x y (omega arith)))

module _ (s : List ℕ) (b lo hi : ℕ) where
  pub written_length : length (with_durations s b lo hi) ≡ length s
  unfolding with_durations
  written_length = simp length-set

  other : (i : ℕ) → (i ≡ b → ⊥) → (i ≡ b + 1 → ⊥) → (i ≡ b + 2 → ⊥) → (i ≡ b + 3 → ⊥) → byte_at (with_durations s b lo hi) i ≡ byte_at s i
  unfolding with_durations
  other i n0 n1 n2 n3 =
      get_or-set_other (three s b lo hi) (b + 3) i (hi % 256) 0 n3
      ∙ get_or-set_other (two s b lo) (b + 2) i (hi / 256) 0 n2
      ∙ get_or-set_other (one s b lo) (b + 1) i (lo % 256) 0 n1
      ∙ get_or-set_other s b i (lo / 256) 0 n0

  -- "and alters no others"
  pub written_before : (i : ℕ) → i < b → byte_at (with_durations s b lo hi) i ≡ byte_at s i
  written_before i h = other i (λ q. omega arith) (λ q. omega arith) (λ q. omega arith) (λ q. omega arith)

  pub written_behind : (i : ℕ) → b + 4 ≤ i → byte_at (with_durations s b lo hi) i ≡ byte_at s i
  written_behind i h = other i (λ q. omega arith) (λ q. omega arith) (λ q. omega arith) (λ q. omega arith)

  module _ (inside : b + 4 ≤ length s) where
    in_one : b + 4 ≤ length (one s b lo)
    in_one = simp length-set inside

    in_two : b + 4 ≤ length (two s b lo)
    in_two = simp length-set inside

    in_three : b + 4 ≤ length (three s b lo hi)
    in_three = simp length-set inside

    first : byte_at (with_durations s b lo hi) b ≡ lo / 256
    unfolding with_durations
    first =
        get_or-set_other (three s b lo hi) (b + 3) b (hi % 256) 0 (λ q. omega arith)
        ∙ get_or-set_other (two s b lo) (b + 2) b (hi / 256) 0 (λ q. omega arith)
        ∙ get_or-set_other (one s b lo) (b + 1) b (lo % 256) 0 (λ q. omega arith)
        ∙ get_or-set_same s b (lo / 256) 0 (omega arith)

    second : byte_at (with_durations s b lo hi) (b + 1) ≡ lo % 256
    unfolding with_durations
    second =
        get_or-set_other (three s b lo hi) (b + 3) (b + 1) (hi % 256) 0 (λ q. omega arith)
        ∙ get_or-set_other (two s b lo) (b + 2) (b + 1) (hi / 256) 0 (λ q. omega arith)
        ∙ get_or-set_same (one s b lo) (b + 1) (lo % 256) 0 (omega (arith, in_one))

    third : byte_at (with_durations s b lo hi) (b + 2) ≡ hi / 256
    unfolding with_durations
    third =
        get_or-set_other (three s b lo hi) (b + 3) (b + 2) (hi % 256) 0 (λ q. omega arith)
        ∙ get_or-set_same (two s b lo) (b + 2) (hi / 256) 0 (omega (arith, in_two))

    fourth : byte_at (with_durations s b lo hi) (b + 3) ≡ hi % 256
    unfolding with_durations
    fourth = get_or-set_same (three s b lo hi) (b + 3) (hi % 256) 0 (omega (arith, in_three))

    -- the two numbers that stand there
    pub written_lowest : word_at (with_durations s b lo hi) b ≡ lo
    unfolding word_at
    written_lowest = rw (first, second) (omega arith)

    pub written_highest : word_at (with_durations s b lo hi) (b + 2) ≡ hi
    unfolding word_at
    written_highest = let e : b + 2 + 1 ≡ b + 3 = omega arith in rw (e, third, fourth) (omega arith)

    -- the same bytes of a longer list: an image at the front of a copy
    pub written_front : (rest : List ℕ) → with_durations (s ++ rest) b lo hi ≡ with_durations s b lo hi ++ rest
    unfolding with_durations
    written_front rest =
        rw (
          set-append_left s rest b (lo / 256) (omega arith),
          set-append_left (one s b lo) rest (b + 1) (lo % 256) (omega (arith, in_one)),
          set-append_left (two s b lo) rest (b + 2) (hi / 256) (omega (arith, in_two)),
          set-append_left (three s b lo hi) rest (b + 3) (hi % 256) (omega (arith, in_three)),
        )

    pub written_copy : (rest : List ℕ) → take (length s) (with_durations (s ++ rest) b lo hi) ≡ with_durations s b lo hi
    written_copy rest = rw (written_front rest) (take_at (with_durations s b lo hi) rest (length s) written_length)

by_place : (P : ℕ → Type 0) (b : ℕ) → ((i : ℕ) → i < b → P i) → P b → P (b + 1) → P (b + 2) → P (b + 3) → ((i : ℕ) → b + 4 ≤ i → P i)
    → (i : ℕ) → P i
by_place P b before p0 p1 p2 p3 behind i =
    split (b + 4) i (behind i)
    (λ l4. split b i
    (λ l0. split (b + 1) i
    (λ l1. split (b + 2) i
    (λ l2. split (b + 3) i
    (λ l3. let e : b + 3 ≡ i = omega arith in subst P e p3)
    (λ g. let e : b + 2 ≡ i = omega arith in subst P e p2))
    (λ g. let e : b + 1 ≡ i = omega arith in subst P e p1))
    (λ g. let e : b ≡ i = omega arith in subst P e p0))
    (before i))

-- setting what stood there before restores the bytes
module _ (s : List ℕ) (b lo hi : ℕ) (inside : b + 4 ≤ length s) (small : (i : ℕ) → byte_at s i < 256) where
  abbrev there : List ℕ
  there = with_durations s b lo hi

  abbrev back : List ℕ
  back = with_durations (with_durations s b lo hi) b (word_at s b) (word_at s (b + 2))

  room : b + 4 ≤ length (with_durations s b lo hi)
  room = rw (written_length s b lo hi) inside

  same_byte : (i : ℕ) → byte_at back i ≡ byte_at s i
  unfolding word_at
  same_byte =
      by_place (λ i. byte_at back i ≡ byte_at s i) b
      (λ i l. written_before there b (word_at s b) (word_at s (b + 2)) i l ∙ written_before s b lo hi i l)
      (first there b (word_at s b) (word_at s (b + 2)) room ∙ omega (arith, small (b + 1)))
      (second there b (word_at s b) (word_at s (b + 2)) room ∙ omega (arith, small (b + 1)))
      (third there b (word_at s b) (word_at s (b + 2)) room ∙ (let e : b + 2 + 1 ≡ b + 3 = omega arith in rw e (omega (arith, small (b + 3)))))
      (fourth there b (word_at s b) (word_at s (b + 2)) room ∙ (let e : b + 2 + 1 ≡ b + 3 = omega arith in rw e (omega (arith, small (b + 3)))))
      (λ i l. written_behind there b (word_at s b) (word_at s (b + 2)) i l ∙ written_behind s b lo hi i l)

  pub written_back : back ≡ s
  written_back =
      ext_get_or 0 back s (written_length there b (word_at s b) (word_at s (b + 2)) ∙ written_length s b lo hi) (λ i l. same_byte i)
