-- Maxima over windows: the largest over a window is the larger of those over its two parts.
use mathlib.Core.Path.{◌≡◌, refl, sym, ◌∙◌, ap, ap₂}
use mathlib.Core.Logic.{◌⊎◌, inl, inr}
use mathlib.Core.List.{List}
use lib.ListN.{get_or}
use native.Mathlib.Omega.{arith}
use native.Mathlib.Nat.{not-suc-le-zero, add-zero, add-suc, add_assoc}
use Prim.Native.Nat.{ℕ, zero, suc, ◌+◌, ◌-◌, ◌≤◌, ◌<◌, max, min}
use Rattle.runs.proofs.Cases.{split}
use Rattle.windows.specs.Windows.{top, Suffixes, Prefixes}

module _ (k : List ℕ) where
  pub top_split : (a m n : ℕ) → top k a (m + n) ≡ max (top k a m) (top k (a + m) n)
  unfolding top
  top_split a m zero = rw add-zero (omega arith)
  top_split a m (suc n) = rw (add-suc, top_split a m n, add_assoc) (omega arith)

  pub top_zero : (a : ℕ) → top k a 0 ≡ 0
  unfolding top
  top_zero a = refl

  pub top_one : (a : ℕ) → top k a 1 ≡ get_or k a 0
  unfolding top
  top_one a = rw add-zero (omega arith)

  pub top_front : (a n : ℕ) → top k a (suc n) ≡ max (get_or k a 0) (top k (a + 1) n)
  top_front a n = let e : suc n ≡ 1 + n = omega arith in rw (e, top_split a 1 n, top_one)

  pub top_has : (a n i : ℕ) → i < n → get_or k (a + i) 0 ≤ top k a n
  unfolding top
  top_has a zero i h = absurd (not-suc-le-zero h)
  top_has a (suc n) i h =
      split n i
      (λ l. let e : i ≡ n = omega arith in rw e (omega arith))
      (λ l. omega (arith, top_has a n i l))

  pub top_is : (a n : ℕ) → (top k a n ≡ 0) ⊎ ((i : ℕ) × (i < n) × (top k a n ≡ get_or k (a + i) 0))
  unfolding top
  top_is a zero = inl refl
  top_is a (suc n) =
      split (get_or k (a + n) 0) (top k a n)
      (λ l. elim (top_is a n) [ inl e ↦ inl (omega arith) | inr (i, m, e) ↦ inr (i, omega arith, omega arith) ])
      (λ l. inr (n, omega arith, omega arith))

  -- the steps of the two passes
  pub top_back : (a m l : ℕ) → 1 ≤ a → l ≡ suc m → max (get_or k (a - 1) 0) (top k a m) ≡ top k (a - 1) l
  top_back a m l h e = let f : a ≡ a - 1 + 1 = omega arith in rw e (ap (λ (x : ℕ). max (get_or k (a - 1) 0) (top k x m)) f ∙ sym (top_front (a - 1) m))

  pub top_step : (a i : ℕ) → 1 ≤ i → max (top k a (i - 1)) (get_or k (a + i - 1) 0) ≡ top k a i
  unfolding top
  top_step a i h =
      let f : a + i - 1 ≡ a + (i - 1) = omega arith in
      let g : suc (i - 1) ≡ i = omega arith in
      ap (λ (x : ℕ). max (top k a (i - 1)) (get_or k x 0)) f ∙ ap (λ (x : ℕ). top k a x) g

  pub top_meet : (s n i : ℕ) → i ≤ n → max (top k (s + i) (s + n - (s + i))) (top k (s + n) i) ≡ top k (s + i) n
  top_meet s n i h =
      let f : s + n - (s + i) ≡ n - i = omega arith in
      let g : s + n ≡ s + i + (n - i) = omega arith in
      let e : n - i + i ≡ n = omega arith in
      ap₂ max (ap (λ (x : ℕ). top k (s + i) x) f) (ap (λ (x : ℕ). top k x i) g) ∙ sym (top_split (s + i) (n - i) i) ∙ ap (λ (x : ℕ). top k (s + i) x) e

top_same : (k w : List ℕ) (a n : ℕ) → ((i : ℕ) → a ≤ i → i < a + n → get_or w i 0 ≡ get_or k i 0) → top w a n ≡ top k a n
unfolding top
top_same k w a zero h = refl
top_same k w a (suc n) h = ap₂ max (top_same k w a n (λ i l m. h i l (omega arith))) (h (a + n) (omega arith) (omega arith))

-- One turn of the two passes, over the n places from s on: before it the windows below s are done and the rest below len is as in k.
module _ (k w w₁ w₂ : List ℕ) (len n s stop : ℕ) (done : (a : ℕ) → a < s → a + n ≤ len → get_or w a 0 ≡ top k a n)
    (rest : (a : ℕ) → s ≤ a → a < len → get_or w a 0 ≡ get_or k a 0) (pos : 1 ≤ n) (room : s + n ≤ len)
    (is : stop ≡ min n (len + 1 - (s + n))) (one : Suffixes w s n w₁) (two : Prefixes k w₁ s (s + n) stop w₂) where
  suffix : (a : ℕ) → s ≤ a → a < s + n → get_or w₁ a 0 ≡ top k a (s + n - a)
  suffix a h l = one.inside a h l ∙ top_same k w a (s + n - a) (λ i g u. rest i (omega arith) (omega arith))

  pub turn_done : (a : ℕ) → a < s + n → a + n ≤ len → get_or w₂ a 0 ≡ top k a n
  turn_done a h l =
      split a s
      (λ g. two.before a g ∙ split s a
      (λ u. let e : s + n - a ≡ n = omega arith in suffix a u (omega arith) ∙ ap (λ (x : ℕ). top k a x) e)
      (λ u. one.before a u ∙ done a u l))
      (λ g. let e : s + (a - s) ≡ a = omega arith in
      two.inside a g (omega arith) ∙ ap (λ (x : ℕ). max x (top k (s + n) (a - s))) (suffix a (omega arith) h)
      ∙ rw e at (top_meet k s n (a - s) (omega arith)))

  pub turn_rest : (a : ℕ) → s + n ≤ a → a < len → get_or w₂ a 0 ≡ get_or k a 0
  turn_rest a h l = two.after a (omega arith) ∙ one.after a h ∙ rest a (omega arith) l
