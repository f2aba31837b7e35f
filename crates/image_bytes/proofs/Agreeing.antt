-- Two lists of bytes that agree on a part, wherever it stands in each: the same numbers stand there.
use mathlib.Core.Path.{◌≡◌, refl, sym, ◌∙◌, ap, ap₂}
use mathlib.Core.List.{List, [], ◌∷◌, ◌++◌}
use native.Mathlib.Nat.{zero-add, suc-add, not-suc-le-zero}
use native.Mathlib.Omega.{arith}
use Prim.Native.Nat.{ℕ, zero, suc, ◌+◌, ◌*◌, ◌≤◌, ◌<◌}
use lib.ListN.{length, drop}
use Rattle.image_bytes.specs.Bytes.{byte_at, word_at, bytes, words}

-- the n bytes of s from p on are those of e from q on
abbrev pub Agree : List ℕ → List ℕ → ℕ → ℕ → ℕ → Type 0
Agree s e p q n = (i : ℕ) → i < n → byte_at e (q + i) ≡ byte_at s (p + i)

module _ (s e : List ℕ) where
  -- m of them, i behind the first
  pub agree_part : (p q n i m : ℕ) → Agree s e p q n → i + m ≤ n → Agree s e (p + i) (q + i) m
  agree_part p q n i m h l k r =
      let x : q + i + k ≡ q + (i + k) = omega arith in
      let y : p + i + k ≡ p + (i + k) = omega arith in
      rw (x, y) (h (i + k) (omega arith))

  pub agree_first : (p q n m : ℕ) → Agree s e p q n → m ≤ n → Agree s e p q m
  agree_first p q n m h l k r = h k (omega arith)

  pub agree_here : (p q n : ℕ) → Agree s e p q n → 0 < n → byte_at e q ≡ byte_at s p
  agree_here p q n h l = let x : q + 0 ≡ q = omega arith in let y : p + 0 ≡ p = omega arith in rw (x, y) at (h 0 l)

  pub word_here : (p q n : ℕ) → Agree s e p q n → 2 ≤ n → word_at e q ≡ word_at s p
  unfolding word_at
  word_here p q n h l = rw (agree_here p q n h (omega arith), h 1 l)

  pub agree_word : (p q n i : ℕ) → Agree s e p q n → i + 2 ≤ n → word_at e (q + i) ≡ word_at s (p + i)
  agree_word p q n i h l = word_here (p + i) (q + i) 2 (agree_part p q n i 2 h l) (omega arith)

  pub agree_bytes : (p q n : ℕ) → Agree s e p q n → bytes e q n ≡ bytes s p n
  unfolding bytes
  agree_bytes p q zero h = refl
  agree_bytes p q (suc n) h =
      ap₂ ◌∷◌ (agree_here p q (suc n) h (omega arith)) (agree_bytes (p + 1) (q + 1) n (agree_part p q (suc n) 1 n h (omega arith)))

  pub agree_words : (p q n : ℕ) → Agree s e p q (2 * n) → words e q n ≡ words s p n
  unfolding words
  agree_words p q zero h = refl
  agree_words p q (suc n) h =
      ap₂ ◌∷◌ (word_here p q (2 * suc n) h (omega arith)) (agree_words (p + 2) (q + 2) n (agree_part p q (2 * suc n) 2 (2 * n) h (omega arith)))

-- what stands behind a, i bytes on
pub behind : (a b : List ℕ) (i : ℕ) → byte_at (a ++ b) (length a + i) ≡ byte_at b i
behind [] b i = rw (zero-add i)
behind (x ∷ xs) b i = rw (suc-add (length xs) i) (behind xs b i)

-- and what stands in a, whatever is behind it
pub ahead : (a b : List ℕ) (i : ℕ) → i < length a → byte_at (a ++ b) i ≡ byte_at a i
ahead [] b i l = absurd (not-suc-le-zero l)
ahead (x ∷ xs) b zero l = refl
ahead (x ∷ xs) b (suc i) l = ahead xs b i (omega arith)

-- a list is its first n bytes and the rest
pub front : (n : ℕ) (s : List ℕ) → n ≤ length s → bytes s 0 n ++ drop n s ≡ s
unfolding bytes
front zero s l = refl
front (suc n) [] l = absurd (omega arith)
front (suc n) (x ∷ xs) l =
    let e : bytes (x ∷ xs) 1 n ≡ bytes xs 0 n = agree_bytes xs (x ∷ xs) 0 1 n (λ i l. behind (x ∷ []) xs i ∙ ap (byte_at xs) (sym (zero-add i))) in
    ap (λ (r : List ℕ). x ∷ r) (ap (λ (r : List ℕ). r ++ drop n xs) e ∙ front n xs (omega arith))
