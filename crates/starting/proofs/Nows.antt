-- The entries that start at once within a stretch: the window of an end is cut at the stretch's begin, so it is a prefix there.
use mathlib.Core.Path.{◌≡◌, refl, sym, ◌∙◌, ap, subst}
use mathlib.Core.Logic.{◌⊎◌, inl, inr}
use mathlib.Core.Option.{none, some}
use mathlib.Core.List.{List}
use lib.ListN.{get_or, length, set}
use lib.Seq.{get_or-set_same, get_or-set_other}
use native.Mathlib.Omega.{arith}
use native.Mathlib.Decide.{ℕ_discrete}
use native.Mathlib.Nat.{mod-lt, not-suc-le-zero}
use Prim.Native.Nat.{ℕ, suc, ◌+◌, ◌-◌, ◌%◌, ◌≤◌, ◌<◌, min, max}
use Rattle.runs.specs.Figures.{longer}
use Rattle.runs.specs.Exact.{Longest, nothing, reached}
use Rattle.runs.proofs.Cases.{split}
use Rattle.runs.proofs.TimesExact.{longest_same, times_mean}
use Rattle.times.specs.Arrays.{no_time, time_of, table_of, Fits, LongerOf}
use Rattle.windows.specs.Windows.{top, Windowed, key_of, time_at, Turns}
use Rattle.starting.specs.Starting.{KeyedIn, EndsAt, NowTo, NowIn}
use Rattle.times.proofs.Tables.{time_none, time_some, time_inv, table_of_at}
use Rattle.times.proofs.Ends.{self}
use Rattle.windows.proofs.Tops.{top_has, top_is}
use Rattle.windows.proofs.Passes.{key_some, key_none, at_none, at_some}

-- a running maximum, and a window's, are the same kind of maximum
pub window_top : (k w : List ℕ) (len lo hi y run x : ℕ) → 1 ≤ lo → lo ≤ hi → lo ≤ y → y ≤ len → run ≡ top k 0 (suc (y - lo)) → Windowed k len (hi - lo + 1) w
    → (y < hi → x ≡ run) → (hi ≤ y → x ≡ get_or w (y - hi) 0) → x ≡ top k (y - hi) (min y hi + 1 - lo)
unfolding Windowed
window_top k w len lo hi y run x p l m n r win f g =
    split hi y
    (λ h. let z : min y hi + 1 - lo ≡ hi - lo + 1 = omega arith in
    rw z (g h ∙ win (y - hi) (omega arith)))
    (λ h. let z : min y hi + 1 - lo ≡ suc (y - lo) = omega arith in
    let u : y - hi ≡ 0 = omega arith in
    subst (λ (m : ℕ). x ≡ top k (y - hi) m) (sym z) (subst (λ (v : ℕ). x ≡ top k v (suc (y - lo))) (sym u) (f h ∙ r)))

inside : (y hi lo j : ℕ) → lo ≤ hi → lo ≤ y → j < min y hi + 1 - lo → (d : ℕ) × (lo ≤ d) × (d ≤ hi) × (y - hi + j + d ≡ y)
inside y hi lo j l m h =
    split hi y
    (λ k. (hi - j, omega arith, omega arith, omega arith))
    (λ k. (y - j, omega arith, omega arith, omega arith))

module _ (P : ℕ) (pos : 0 < P) (t k : List ℕ) (a len lo hi : ℕ) (small : len ≤ 256) (least : 1 ≤ lo) (order : lo ≤ hi) (fits : Fits P t) (keyed : KeyedIn P t a len k)
    (y : ℕ) (y₁ : lo ≤ y) (y₂ : y ≤ len) (x : ℕ) (is_top : x ≡ top k (y - hi) (min y hi + 1 - lo)) where
  above : (i d c : ℕ) → lo ≤ d → d ≤ hi → i + d ≡ y → get_or (table_of P t) ((a + i) % P) none ≡ some c → (1 ≤ x) × (c + d + 384 ≤ x + y)
  unfolding KeyedIn
  above i d c l m e g =
      let o = (a + i) % P in
      let v = time_inv (get_or t o 0) c (sym (table_of_at P t o (mod-lt (a + i) pos)) ∙ g) in
      let j = i - (y - hi) in
      let at : y - hi + j ≡ i = omega arith in
      let key : get_or k (y - hi + j) 0 ≡ get_or t o 0 + (384 - i) = rw at (keyed i (omega arith) ∙ key_some _ _ v.1) in
      omega (arith, top_has k (y - hi) (min y hi + 1 - lo) j (omega arith), is_top, key, v.0)

  abbrev Found : Type 0
  Found = (i : ℕ) × (d : ℕ) × (c : ℕ) × (lo ≤ d) × (d ≤ hi) × (i + d ≡ y) × (get_or (table_of P t) ((a + i) % P) none ≡ some c) × (c ≤ 1152921504606846976) × (x + y ≡ c + d + 384)

  found_at : (i d : ℕ) → lo ≤ d → d ≤ hi → i + d ≡ y → ¬ (x ≡ 0) → x ≡ get_or k i 0 → Found
  unfolding KeyedIn Fits
  found_at i d l m s h e =
      let o = (a + i) % P in
      let key : get_or k i 0 ≡ key_of (get_or t o 0) i = keyed i (omega arith) in
      let some' : ¬ (get_or t o 0 ≡ no_time) = (λ z. h (e ∙ key ∙ key_none _ i z)) in
      let key' = key ∙ key_some (get_or t o 0) i some' in
      (i, d, get_or t o 0, l, m, s, table_of_at P t o (mod-lt (a + i) pos) ∙ time_some _ some', fits o (mod-lt (a + i) pos) some', omega (arith, key', e))

  found : ¬ (x ≡ 0) → Found
  found h =
      elim (top_is k (y - hi) (min y hi + 1 - lo)) [
        | inl e ↦ absurd (h (is_top ∙ e))
        | inr (j, m, e) ↦ (let (d, l, n, s) = inside y hi lo j order y₁ m in found_at (y - hi + j) d l n s h (is_top ∙ e))
      ]

  turns : Turns x y
  turns =
      elim (ℕ_discrete x 0) [
        | yes e ↦ inl e
        | no n ↦ (let (i, d, c, l, m, e, g, u, v) = found n in inr (omega arith, omega arith))
      ]

  longest_at : (r : ℕ) → r ≡ time_at x y → Longest (EndsAt P (table_of P t) a lo hi y) (time_of r)
  longest_at r e =
      elim (ℕ_discrete x 0) [
        | yes z ↦ rw (time_none r (e ∙ at_none _ _ z)) (nothing (λ c' (i, d, l, m, q, (c, g, h)). omega (arith, above i d c l m q g, z)))
        | no z ↦
            (let (i, d, c, l, m, q, g, u, v) = found z in
            let is : r ≡ c + d = e ∙ at_some _ _ z ∙ omega arith in
            rw (is, time_some (c + d) (λ k. omega arith))
            (reached (i, d, l, m, q, (c, g, refl)) (λ c' (i, d, l, m, q, (c, g, h)). omega (arith, above i d c l m q g))))
      ]

  -- the largest key of the window that ends at y gives a time there, and that is the longest with which an entry ends there
  pub ends_at : Turns x y × ((r : ℕ) → r ≡ time_at x y → Longest (EndsAt P (table_of P t) a lo hi y) (time_of r))
  ends_at = (turns, longest_at)

unfoldable pub NowUp : ℕ → List ℕ → ℕ → ℕ → ℕ → ℕ → List ℕ → List ℕ → Type 0
NowUp P t a n lo hi o r = (q : ℕ) → q < P → Longest (λ c. (time_of (get_or o q 0) ≡ some c) ⊎ NowTo P (table_of P t) a n lo hi q c) (time_of (get_or r q 0))

pub now_none : (P : ℕ) (t : List ℕ) (a n lo hi : ℕ) (o : List ℕ) → n ≤ lo → NowUp P t a n lo hi o o
unfolding NowUp
now_none P t a n lo hi o h q l =
    longest_same _ _ _ (λ c x. inl x)
    (λ c. elim [ inl x ↦ x | inr (y, m, g, (i, d, u, v, e, x)) ↦ absurd (let z : 1 ≤ 0 = omega arith in not-suc-le-zero z) ])
    (self (time_of (get_or o q 0)))

pub now_more : (P : ℕ) (t : List ℕ) (a lo hi y n : ℕ) (o r : List ℕ) (at v z : ℕ) → n ≡ suc y → at ≡ (a + y) % P → at < length r
    → NowUp P t a y lo hi o r → Longest (EndsAt P (table_of P t) a lo hi y) (time_of v) → LongerOf (get_or r at 0) v z → NowUp P t a n lo hi o (set r at z)
unfolding NowUp LongerOf
now_more P t a lo hi y n o r at v z en ea len up ends j q l =
    elim (ℕ_discrete q at) [
      | yes e ↦
          (let got : get_or (set r at z) q 0 ≡ z = ap (λ (x : ℕ). get_or (set r at z) x 0) e ∙ get_or-set_same r at z 0 len in
          let j' : time_of z ≡ longer (time_of (get_or r q 0)) (time_of v) = j ∙ ap (λ (x : ℕ). longer (time_of (get_or r x 0)) (time_of v)) (sym e) in
          rw (got, j')
          (longest_same _ _ _
          (λ c. elim [
            | inl x ↦ elim x [ inl g ↦ inl g | inr (y', m, g, x) ↦ inr (y', omega arith, g, x) ]
            | inr x ↦ inr (y, omega arith, sym ea ∙ sym e, x)
          ])
          (λ c. elim [
            | inl g ↦ inl (inl g)
            | inr (y', m, g, x) ↦
                split y y'
                (λ u. let is : y' ≡ y = omega arith in inr (subst (λ (w : ℕ). EndsAt P (table_of P t) a lo hi w c) is x))
                (λ u. inl (inr (y', u, g, x)))
          ])
          (times_mean.is_join _ _ _ _ (up q l) ends)))
      | no e ↦
          rw (get_or-set_other r at q z 0 e)
          (longest_same _ _ _
          (λ c. elim [ inl g ↦ inl g | inr (y', m, g, x) ↦ inr (y', omega arith, g, x) ])
          (λ c. elim [
            | inl g ↦ inl g
            | inr (y', m, g, x) ↦
                split y y'
                (λ u. let is : y' ≡ y = omega arith in absurd (e (sym g ∙ ap (λ (w : ℕ). (a + w) % P) is ∙ sym ea)))
                (λ u. inr (y', u, g, x))
          ])
          (up q l))
    ]

pub now_done : (P : ℕ) (t : List ℕ) (a len lo hi n : ℕ) (o r : List ℕ) → n ≡ suc len → NowUp P t a n lo hi o r → NowIn P t a len lo hi o r
unfolding NowUp NowIn
now_done P t a len lo hi n o r e up = rw e at up

pub top_next : (k : List ℕ) (n r x : ℕ) → r ≡ top k 0 n → x ≡ max r (get_or k n 0) → x ≡ top k 0 (suc n)
unfolding top
top_next k n r x e f = let z : 0 + n ≡ n = omega arith in rw z (f ∙ ap (λ (y : ℕ). max y (get_or k n 0)) e)
