-- The entries that start at once, from stretch to stretch once round the period; every entry that starts at once stands in a stretch.
use mathlib.Core.Path.{◌≡◌, refl, sym, ◌∙◌, ap, subst}
use mathlib.Core.Logic.{◌⊎◌, inl, inr}
use mathlib.Core.Option.{none, some}
use mathlib.Core.List.{List}
use mathlib.Core.Bool.{Bool}
use lib.ListN.{get_or}
use native.Mathlib.Omega.{arith}
use native.Mathlib.Nat.{not-suc-le-zero, mod-lt, mod-add-mod}
use Prim.Native.Nat.{ℕ, suc, ◌+◌, ◌%◌, ◌≤◌, ◌<◌}
use Rattle.runs.specs.Figures.{Time}
use Rattle.runs.specs.Exact.{Longest}
use Rattle.runs.specs.Stretches.{IsRun, Begins, NextStretch}
use Rattle.runs.proofs.Cases.{split}
use Rattle.runs.proofs.SchedulesLaws.{next_at, next_of}
use Rattle.runs.proofs.Nexts.{run_holds, run_fits}
use Rattle.runs.proofs.BeginsLaws.{in_stretch}
use Rattle.runs.proofs.Forward as forward
use Rattle.runs.proofs.TimesExact.{longest_same}
use Rattle.times.specs.Arrays.{no_time, time_of, table_of}
use Rattle.starting.specs.Starting.{NowTo, NowIn, NowOf, Now, StartedAll}
use Rattle.times.proofs.Ends.{self, left_means}
use Rattle.times.proofs.Tables.{time_none}

-- ---- of one stretch

-- to end within the len owned cycles from a on, and to end so long as the core owns the cycles from a on, are the same
module _ (P : ℕ) (own : ℕ → Bool) (T : List Time) (a lo hi len : ℕ) (run : IsRun P own a len) (q c : ℕ) where
  of_in : NowTo P T a (suc len) lo hi q c → NowOf P own T a lo hi q c
  of_in (y, m, g, x) = (y, run_holds P own a len y run (omega arith), g, x)

  in_of : NowOf P own T a lo hi q c → NowTo P T a (suc len) lo hi q c
  in_of (y, s, g, x) = (y, omega (arith, run_fits P own a len y run s), g, x)

-- ---- of those that begin less than n cycles after f

abbrev pub NowsUp : (P : ℕ) (own : ℕ → Bool) (T : List Time) (f n lo hi q c : ℕ) → Type 0
NowsUp P own T f n lo hi q c = (i : ℕ) × (i < n) × Begins P own ((f + i) % P) × NowOf P own T ((f + i) % P) lo hi q c

unfoldable pub StartedUp : ℕ → (ℕ → Bool) → List ℕ → ℕ → ℕ → ℕ → ℕ → List ℕ → List ℕ → Type 0
StartedUp P own t f n lo hi o r =
    (q : ℕ) → q < P → Longest (λ c. (time_of (get_or o q 0) ≡ some c) ⊎ NowsUp P own (table_of P t) f n lo hi q c) (time_of (get_or r q 0))

module _ (P : ℕ) (own : ℕ → Bool) (t : List ℕ) (f lo hi : ℕ) (first : Begins P own f) where
  pub up_none : (o : List ℕ) → StartedUp P own t f 0 lo hi o o
  unfolding StartedUp
  up_none o q l =
      longest_same _ _ _ (λ c x. inl x) (λ c. elim [ inl x ↦ x | inr (i, m, b, y) ↦ absurd (not-suc-le-zero m) ]) (self (time_of (get_or o q 0)))

  -- with those of the stretch that begins w cycles after f, up to the next
  pub up_more : (w x len gap y at m : ℕ) → w < P → x ≡ (f + w) % P → NextStretch P own x len gap y → (o r r' : List ℕ)
      → StartedUp P own t f w lo hi o r → NowIn P t at m lo hi r r' → at ≡ x → m ≡ len → StartedUp P own t f (w + (len + gap)) lo hi o r'
  unfolding StartedUp NowIn
  up_more w x len gap y at m few place c o r r' up in' ea em q lt =
      let T = table_of P t in
      let some' = forward.some_len P own x len gap y c in
      longest_same _ _ _
      (λ n. elim [
        | inl z ↦ elim z [ inl u ↦ inl u | inr (i, m, b, u) ↦ inr (i, omega arith, b, u) ]
        | inr z ↦ inr (
          w,
          omega arith,
          subst (λ (a : ℕ). Begins P own a) place c.begins,
          subst (λ (a : ℕ). NowOf P own T a lo hi q n) place (of_in P own T x lo hi len c.run q n z),
        )
      ])
      (λ n. elim [
        | inl z ↦ inl (inl z)
        | inr (i, m, b, z) ↦
            split w i
            (λ u. split i w
            (λ v. let e : i ≡ w = omega arith in
            inr (in_of P own T x lo hi len c.run q n (subst (λ (a : ℕ). NowOf P own T a lo hi q n) (ap (λ (j : ℕ). (f + j) % P) e ∙ sym place) z)))
            (λ v. absurd (forward.none_between P own f first w x len gap y few place c i v m b)))
            (λ u. inl (inr (i, u, b, z)))
      ])
      (left_means _ _ _ _ (up q lt) (rw (ea, em) at (in' q lt)))

  -- every offset is less than a period after f
  after : (a : ℕ) → a < P → (i : ℕ) × (i < P) × ((f + i) % P ≡ a)
  after a l =
      let (i, h, m, e) = forward.index P own f first a l in
      split P i
      (λ u. let z : P ≡ i = omega arith in
      (0, omega arith, forward.from_none P own f first ∙ sym (forward.once_round P own f first) ∙ ap (λ (j : ℕ). (f + j) % P) z ∙ e))
      (λ u. (i, u, e))

  pub up_all : (n : ℕ) (o r : List ℕ) → n ≡ P → StartedUp P own t f n lo hi o r → StartedAll P own t lo hi o r
  unfolding StartedUp StartedAll
  up_all n o r en up q lt =
      longest_same _ _ _
      (λ c. elim [ inl y ↦ inl y | inr (i, m, b, z) ↦ inr ((f + i) % P, b, z) ])
      (λ c. elim [
        | inl y ↦ inl y
        | inr (a, b, z) ↦
            (let (i, m, e) = after a b.low in
            inr (i, omega arith, subst (λ (a : ℕ). Begins P own a) (sym e) b, subst (λ (a : ℕ). NowOf P own (table_of P t) a lo hi q c) (sym e) z))
      ])
      (up q lt)

-- ---- every entry that starts at once stands in a stretch

module _ (P : ℕ) (own : ℕ → Bool) (f : ℕ) (first : Begins P own f) where
  pub now_all : (t : List ℕ) (lo hi : ℕ) (o r : List ℕ) → 1 ≤ lo → ((q : ℕ) → q < P → get_or o q 0 ≡ no_time) → StartedAll P own t lo hi o r
      → (q : ℕ) → q < P → Longest (Now P own (table_of P t) lo hi q) (time_of (get_or r q 0))
  unfolding StartedAll
  now_all t lo hi o r least empty h q l =
      longest_same _ _ _
      (λ c. elim [
        | inl x ↦ absurd (let y = sym (time_none (get_or o q 0) (empty q l)) ∙ x in let z : ◌≡◌ {A = ℕ} 0 1 = cc in omega arith)
        | inr (a, b, (y, s, g, (i, d, m, n, e, (c₀, x, u)))) ↦ (
          (a + i) % P,
          mod-lt (a + i) (pos b),
          (
            d,
            m,
            n,
            next_of P own d ((a + i) % P) (λ j k. ap own (mod-add-mod (a + i) P j ∙ ap (λ (x : ℕ). x % P) (let z : a + i + j ≡ a + (i + j) = omega arith in z)) ∙ next_at P own y a s (i + j) (omega arith)),
            mod-add-mod (a + i) P d ∙ ap (λ (x : ℕ). x % P) (let z : a + i + d ≡ a + y = omega arith in z) ∙ g,
            (c₀, x, u),
          ),
        )
      ])
      (λ c (x, k, (d, m, n, s, g, (c₀, u, v))).
      let (a, i, b, e, all) = in_stretch P own f first d x (omega arith) k s in
      inr (
        a,
        b,
        (
          i + d,
          all,
          ap (λ (x : ℕ). x % P) (let z : a + (i + d) ≡ a + i + d = omega arith in z) ∙ sym (mod-add-mod (a + i) P d) ∙ ap (λ (x : ℕ). (x + d) % P) e ∙ g,
          (i, d, m, n, refl, (c₀, ap (λ (x : ℕ). get_or (table_of P t) x none) e ∙ u, v)),
        ),
      ))
      (h q l)
    where
      pos : {a : ℕ} → Begins P own a → 0 < P
      pos b = omega (arith, b.low)
