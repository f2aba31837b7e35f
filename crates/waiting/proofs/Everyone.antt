-- The entries that wait, from stretch to stretch round the period.
use mathlib.Core.Path.{◌≡◌, refl, sym, ◌∙◌, ap, subst}
use mathlib.Core.Logic.{◌⊎◌, inl, inr}
use mathlib.Core.Option.{none, some}
use mathlib.Core.List.{List}
use mathlib.Core.Bool.{Bool, true, false≢true}
use lib.ListN.{get_or}
use borrow.Author.Tests.{le-leb, lt-leb}
use native.Mathlib.Omega.{arith}
use Prim.Native.Nat.{ℕ, ◌+◌, ◌-◌, ◌%◌, ◌≤◌, ◌<◌, min, max}
use Rattle.runs.specs.Figures.{Time, longer}
use Rattle.runs.specs.Exact.{Longest, nothing, reached}
use Rattle.runs.specs.Schedules.{owns_next}
use Rattle.runs.specs.Stretches.{IsRun, Begins, Open, NextStretch}
use Rattle.runs.proofs.Cases.{split}
use Rattle.runs.proofs.StretchesLaws.{run_may}
use Rattle.runs.proofs.Forward as forward
use Rattle.runs.proofs.TimesExact.{longest_same, longest_some, times_mean}
use Rattle.times.specs.Arrays.{time_of, table_of, Fits}
use Rattle.times.proofs.Ends.{self, left_means}
use Rattle.waiting.specs.Waiting.{Comes, Later, kept_time, ComeLater, Pends, LeavesOf, LeftOf, LeftAll, among, Shorter, WaitsOn, Pended, LeftBy}
use Rattle.waiting.proofs.Coming.{entry_small}
use Rattle.waiting.proofs.Pending.{among_both, among_room, among_on}

-- ---- from a stretch to the next

-- run and p have what waits for a stretch of len cycles that begins at x, with each duration that it has no room for: n cycles later
abbrev pub Waiting : (P : ℕ) (own : ℕ → Bool) (t : List ℕ) (x w len n lo hi run : ℕ) (p : List ℕ) → Type 0
Waiting P own t x w len n lo hi run p =
    (e : ℕ) → lo ≤ e → e ≤ hi → len < e → Longest (Later n (Pends P own (table_of P t) x w e)) (longer (kept_time run) (among p (max lo (len + 1)) (e + 1)))

module _ (P : ℕ) (own : ℕ → Bool) (t : List ℕ) (x len gap y : ℕ) (c : NextStretch P own x len gap y) (w : ℕ) (fits : w + (len + gap) ≤ P) where
  -- with a duration that it has room for, those that come from so near wait
  pends_room : (e n : ℕ) (v : Time) → 1 ≤ e → e ≤ len → Longest (Later n (Comes P (table_of P t) y (gap + e - 1))) v
      → Longest (Later n (Pends P own (table_of P t) y (w + (len + gap)) e)) v
  pends_room e n v pos le h =
      longest_same _ _ _
      (λ k (m, (i, l, u), z). (m, (i, omega arith, forward.opens P own x len gap y c e i pos (omega arith) (omega arith), u), z))
      (λ k (m, (i, l, o, u), z). (m, (i, (let a = forward.closes P own x len gap y c e i pos le o in omega arith), u), z))
      h

  -- with a longer one, all that come since, and those that waited for it
  pends_no_room : (e n n' best : ℕ) (v : Time) → 1 ≤ e → len < e → n ≡ n' + (len + gap) → ComeLater P t y (gap + len) n' best
      → Longest (Later n (Pends P own (table_of P t) x w e)) v → Longest (Later n' (Pends P own (table_of P t) y (w + (len + gap)) e)) (longer (kept_time best) v)
  pends_no_room e n n' best v pos lt en h k =
      longest_same (λ j. Later n' (Comes P (table_of P t) y (gap + len)) j ⊎ Later n (Pends P own (table_of P t) x w e) j) _ _
      (λ j. elim [
        | inl (m, (i, l, u), z) ↦ (m, (i, omega arith, forward.opens P own x len gap y c e i pos (omega arith) (omega arith), u), z)
        | inr (m, (i, l, o, (c₀, g, u)), z) ↦ (
          m + (len + gap),
          (
            len + gap + i,
            omega arith,
            forward.opens_past P own x len gap y c e i pos lt (omega arith) o,
            (c₀, ap (λ (j : ℕ). get_or (table_of P t) j none) (forward.back_past P own x len gap y c i (omega arith)) ∙ g, omega arith),
          ),
          omega arith,
        )
      ])
      (λ j (m, (i, l, o, (c₀, g, u)), y').
      split i (gap + len)
      (λ a. inl (m, (i, a, (c₀, g, u)), y'))
      (λ a.
      let z : len + gap + (i - (len + gap)) ≡ i = omega arith in
      let o' : Open P own e y (len + gap + (i - (len + gap))) = subst (λ (j : ℕ). Open P own e y j) (sym z) o in
      let g' : get_or (table_of P t) ((x + P - (i - (len + gap))) % P) none ≡ some c₀ =
      ap (λ (j : ℕ). get_or (table_of P t) j none) (sym (forward.back_past P own x len gap y c (i - (len + gap)) (omega arith))
      ∙ ap (λ (j : ℕ). (y + P - j) % P) z) ∙ g in
      inr (c₀ + (i - (len + gap)), (i - (len + gap), omega arith, forward.from_past P own x len gap y c e (i - (len + gap)) (omega arith) o', (c₀, g', refl)), omega arith)))
      (times_mean.is_join _ _ _ _ h k)

  -- so for each duration, where for those without room it was known
  pub pends_next : (lo hi top over n n' run best : ℕ) (p q r : List ℕ) → 1 ≤ lo → top ≡ min hi len → over ≡ max lo (len + 1) → n ≡ n' + (len + gap)
      → Waiting P own t x w len n lo hi run p → ComeLater P t y (gap + top) n' best → Shorter P t y gap n' lo (max lo (top + 1)) p q → WaitsOn over hi run best q r
      → (e : ℕ) → lo ≤ e → e ≤ hi → Longest (Later n' (Pends P own (table_of P t) y (w + (len + gap)) e)) (among r lo (e + 1))
  pends_next lo hi top over n n' run best p q r pos is_top is-over en before h short on e a b =
      split e len
      (λ l. pends_room e n' _ (omega arith) l (among_room P t y gap n' lo top over hi run best p q r (omega arith) (omega arith) short on e a (omega arith)))
      (λ l.
      let same : top ≡ len = omega arith in
      rw (among_on P t y gap n' lo top over hi run best p q r (omega arith) (omega arith) short on (omega arith) h e (omega arith) b)
      (pends_no_room e n n' best _ (omega arith) l en (subst (λ (k : ℕ). ComeLater P t y (gap + k) n' best) same h)
      (subst (λ (k : ℕ). Longest (Later n (Pends P own (table_of P t) x w e)) (longer (kept_time run) (among p k (e + 1)))) (sym is-over) (before e a b l))))

-- what is pending for the durations that a stretch has room for waits on with the longer ones
pub waits_still : (P : ℕ) (own : ℕ → Bool) (t : List ℕ) (x w len n lo hi top run : ℕ) (p : List ℕ) → top ≡ min hi len → kept_time run ≡ among p lo (max lo (top + 1))
    → ((e : ℕ) → lo ≤ e → e ≤ hi → Longest (Later n (Pends P own (table_of P t) x w e)) (among p lo (e + 1))) → Waiting P own t x w len n lo hi run p
waits_still P own t x w len n lo hi top run p is_top is-run means e a b l =
    let same : top ≡ len = omega arith in
    let whole : longer (kept_time run) (among p (max lo (len + 1)) (e + 1)) ≡ among p lo (e + 1) =
    ap (λ (u : Time). longer u (among p (max lo (len + 1)) (e + 1))) (is-run ∙ ap (λ (k : ℕ). among p lo (max lo (k + 1))) same)
    ∙ among_both p lo (max lo (len + 1)) (e + 1) (omega arith) (omega arith) in
    rw whole (means e a b)

-- the times that are pending are far below 2^64
pub pends_small : (P : ℕ) (own : ℕ → Bool) (t : List ℕ) (a w e n r : ℕ) (v : Time) → Fits P t → 0 < P → Longest (Later n (Pends P own (table_of P t) a w e)) v → v ≡ some r
    → (n ≤ r) × (r ≤ 1152921504606846976 + w + n)
pends_small P own t a w e n r v fits pos h is =
    let ((m, (i, l, o, (c₀, g, u)), z), k) = longest_some h r is in
    (omega arith, omega (arith, entry_small P t (a + P - i) i c₀ m fits pos g u, l))

-- ---- where it begins

-- there is a longest of what there is
some_of : {X : ℕ → Type 0} {v : Time} {Y : Type 0} (c₀ : ℕ) → Longest X v → X c₀ → ((t : ℕ) → v ≡ some t → c₀ ≤ t → Y) → Y
some_of c₀ (nothing h) x f = absurd (h c₀ x)
some_of c₀ (reached {t = t} y k) x f = f t refl (k c₀ x)

-- what a pending time means, instead of its value
pended_means : (P : ℕ) (p : List ℕ) (a rest lo top q : ℕ) (D : ℕ → Type 0) (X : ℕ → ℕ → Type 0) (v : Time)
    → ((e : ℕ) → lo ≤ e → e < top → Longest (Later rest (X e)) (among p lo (e + 1))) → Longest (λ c. D c ⊎ Pended P p a rest lo top q c) v
    → Longest (λ c. D c ⊎ ((e : ℕ) × (lo ≤ e) × (e < top) × ((a + e) % P ≡ q) × Later e (X e) c)) v
pended_means P p a rest lo top q D X v means (nothing h) =
    nothing (λ c. elim [
      | inl d ↦ h c (inl d)
      | inr (e, l, m, g, (c₀, x, u)) ↦ some_of (c₀ + rest) (means e l m) (c₀, x, refl) (λ t z n. h (t + e - rest) (inr (e, l, m, g, (t, z, omega arith))))
    ])
pended_means P p a rest lo top q D X v means (reached {t = t} g k) =
    reached {t = t}
    (elim g [
      | inl d ↦ inl d
      | inr (e, l, m, g, (c₀, z, u)) ↦ (let (c₁, x, w) = (longest_some (means e l m) c₀ z).0 in inr (e, l, m, g, (c₁, x, omega arith)))
    ])
    (λ c. elim [
      | inl d ↦ k c (inl d)
      | inr (e, l, m, g, (c₀, x, u)) ↦
          some_of (c₀ + rest) (means e l m) (c₀, x, refl) (λ s z n. omega (arith, k (s + e - rest) (inr (e, l, m, g, (s, z, omega arith)))))
    ])

module _ (P : ℕ) (own : ℕ → Bool) (t : List ℕ) (a w lo hi len : ℕ) (run : IsRun P own a len) (some-way : 1 ≤ w) (few : w ≤ P)
    (starts : (e : ℕ) → e ≤ hi → owns_next P own e ((a + P - w) % P) ≡ true) where
  -- none comes from further back than where each may start
  within : (e i : ℕ) → e ≤ hi → Open P own e a i → i < w
  within e i l o = split w i (λ m. absurd (false≢true (sym (o w some-way m) ∙ starts e l))) (λ m. m)

  pub left_of : (p o r : List ℕ) (rest top : ℕ) → top ≡ min hi len
      → ((e : ℕ) → lo ≤ e → e ≤ hi → Longest (Later rest (Pends P own (table_of P t) a w e)) (among p lo (e + 1))) → LeftBy P p a rest lo (max lo (top + 1)) o r
      → LeftOf P own t a lo hi o r
  unfolding LeftOf LeftBy
  left_of p o r rest top is_top means left q l =
      longest_same _ _ _
      (λ c. elim [
        | inl g ↦ inl g
        | inr (e, i, j, g, (c₀, (k, m, u, (c₁, h, x)), y)) ↦
            (let z : e ≤ hi = omega arith in
            inr (e, i, z, run_may P own a len e run ∙ le-leb e len (omega arith), g, (k, (let s = within e k z u in omega arith), u, (c₁, h, omega arith))))
      ])
      (λ c. elim [
        | inl g ↦ inl g
        | inr (e, i, j, s, g, (k, m, u, (c₁, h, x))) ↦
            (let v : e ≤ len = split e len (λ n. n) (λ n. absurd (false≢true (sym (lt-leb e len n) ∙ sym (run_may P own a len e run) ∙ s))) in
            inr (e, i, omega arith, g, (c₁ + k, (k, (let n = within e k j u in omega arith), u, (c₁, h, refl)), omega arith)))
      ])
      (pended_means P p a rest lo (max lo (top + 1)) q _ (λ e c. Pends P own (table_of P t) a w e c) _ (λ e i j. means e i (omega arith)) (left q l))

-- ---- of those that begin up to n cycles after f

abbrev pub LeavesUp : (P : ℕ) (own : ℕ → Bool) (T : List Time) (f n lo hi q c : ℕ) → Type 0
LeavesUp P own T f n lo hi q c = (i : ℕ) × (1 ≤ i) × (i ≤ n) × Begins P own ((f + i) % P) × LeavesOf P own T ((f + i) % P) lo hi q c

unfoldable pub LeftUp : ℕ → (ℕ → Bool) → List ℕ → ℕ → ℕ → ℕ → ℕ → List ℕ → List ℕ → Type 0
LeftUp P own t f n lo hi o r =
    (q : ℕ) → q < P → Longest (λ c. (time_of (get_or o q 0) ≡ some c) ⊎ LeavesUp P own (table_of P t) f n lo hi q c) (time_of (get_or r q 0))

module _ (P : ℕ) (own : ℕ → Bool) (t : List ℕ) (f lo hi : ℕ) (first : Begins P own f) where
  pub up_none : (o : List ℕ) → LeftUp P own t f 0 lo hi o o
  unfolding LeftUp
  up_none o q l =
      longest_same _ _ _ (λ c x. inl x) (λ c. elim [ inl x ↦ x | inr (i, m, n, b, y) ↦ absurd (omega arith) ]) (self (time_of (get_or o q 0)))

  pub up_more : (w x len gap y n : ℕ) → w < P → x ≡ (f + w) % P → NextStretch P own x len gap y → n ≡ w + (len + gap) → (o r r' : List ℕ)
      → LeftUp P own t f w lo hi o r → LeftOf P own t y lo hi r r' → LeftUp P own t f n lo hi o r'
  unfolding LeftUp LeftOf
  up_more w x len gap y n few place s en o r r' up of q lt =
      let begin = forward.next_begins P own x len gap y s in
      let at : y ≡ (f + n) % P = forward.next_place P own f first w x len gap y few place s ∙ ap (λ (k : ℕ). (f + k) % P) (sym en) in
      longest_same _ _ _
      (λ c. elim [
        | inl u ↦ elim u [ inl z ↦ inl z | inr (i, m, k, b, z) ↦ inr (i, m, omega arith, b, z) ]
        | inr z ↦ inr (n, omega (arith, forward.some_len P own x len gap y s), omega arith, subst (λ (a : ℕ). Begins P own a) at begin, subst (λ (a : ℕ). LeavesOf P own (table_of P t) a lo hi q c) at z)
      ])
      (λ c. elim [
        | inl z ↦ inl (inl z)
        | inr (i, m, k, b, z) ↦
            split i w
            (λ u. inl (inr (i, m, u, b, z)))
            (λ u. split n i
            (λ v. let e : i ≡ n = omega arith in
            inr (subst (λ (a : ℕ). LeavesOf P own (table_of P t) a lo hi q c) (ap (λ (j : ℕ). (f + j) % P) e ∙ sym at) z))
            (λ v. absurd (forward.none_between P own f first w x len gap y few place s i u (omega arith) b)))
      ])
      (left_means _ _ _ _ (up q lt) (of q lt))

  pub up_all : (n : ℕ) (o r : List ℕ) → n ≡ P → LeftUp P own t f n lo hi o r → LeftAll P own t lo hi o r
  unfolding LeftUp LeftAll
  up_all n o r en up q lt =
      longest_same _ _ _
      (λ c. elim [ inl y ↦ inl y | inr (i, m, k, b, z) ↦ inr ((f + i) % P, b, z) ])
      (λ c. elim [
        | inl y ↦ inl y
        | inr (a, b, z) ↦
            (let (i, m, k, e) = forward.index P own f first a b.low in
            inr (i, m, omega arith, subst (λ (a : ℕ). Begins P own a) (sym e) b, subst (λ (a : ℕ). LeavesOf P own (table_of P t) a lo hi q c) (sym e) z))
      ])
      (up q lt)
