-- What is pending for each duration, one duration after the other, and what leaves of it.
use mathlib.Core.Path.{◌≡◌, refl, sym, ◌∙◌, ap, subst}
use mathlib.Core.Logic.{◌⊎◌, inl, inr}
use mathlib.Core.Option.{none, some}
use mathlib.Core.List.{List}
use lib.ListN.{get_or, length, set}
use lib.Seq.{get_or-set_same, get_or-set_other}
use native.Mathlib.Omega.{arith}
use native.Mathlib.Decide.{ℕ_discrete}
use Prim.Native.Nat.{ℕ, ◌+◌, ◌-◌, ◌%◌, ◌≤◌, ◌<◌, max}
use Rattle.runs.specs.Figures.{Time, later, longer}
use Rattle.runs.specs.Exact.{Longest, nothing, reached}
use Rattle.runs.proofs.Cases.{split}
use Rattle.runs.proofs.Meanings.{is_below}
use Rattle.runs.proofs.TimesExact.{longest_same, longest_one, times_mean}
use Rattle.times.specs.Arrays.{no_time, time_of, table_of, LongerOf}
use Rattle.times.proofs.Tables.{time_none, time_some}
use Rattle.times.proofs.Ends.{self}
use Rattle.waiting.specs.Waiting.{Comes, Later, kept_time, ComeLater, among, Shorter, WaitsOn, Ended, LeftBy}
use Rattle.waiting.proofs.Keeping.{kept_none, kept_some, kept_inv, kept_max}

-- ---- the longest of some durations' times

pub among_means : (p : List ℕ) (lo e : ℕ) (X : ℕ → ℕ → Type 0) → ((d : ℕ) → lo ≤ d → d < e → Longest (X d) (kept_time (get_or p d 0)))
    → Longest (λ c. (d : ℕ) × (lo ≤ d) × (d < e) × X d c) (among p lo e)
unfolding among
among_means p lo e X h =
    longest_same _ _ _
    (λ c (i, l, x). (lo + i, omega arith, omega arith, x))
    (λ c (d, l, m, x). (d - lo, omega arith, subst (λ (k : ℕ). X k c) (omega arith) x))
    (is_below 0 none longer later Longest times_mean (e - lo) (λ i l. h (lo + i) (omega arith) (omega arith)))

-- its own times
among_self : (p : List ℕ) (lo e : ℕ) → Longest (λ c. (d : ℕ) × (lo ≤ d) × (d < e) × (kept_time (get_or p d 0) ≡ some c)) (among p lo e)
among_self p lo e = among_means p lo e (λ d c. kept_time (get_or p d 0) ≡ some c) (λ d l m. self (kept_time (get_or p d 0)))

pub among_none : (p : List ℕ) (lo : ℕ) → kept_time 0 ≡ among p lo lo
among_none p lo = kept_none ∙ longest_one (nothing (λ c (d, l, m, x). omega arith)) (among_self p lo lo)

-- up to a duration, and from there on
pub among_both : (p : List ℕ) (lo m e : ℕ) → lo ≤ m → m ≤ e → longer (among p lo m) (among p m e) ≡ among p lo e
among_both p lo m e l k =
    longest_one
    (longest_same _ _ _
    (λ c. elim [ inl (d, i, j, x) ↦ (d, i, omega arith, x) | inr (d, i, j, x) ↦ (d, omega arith, j, x) ])
    (λ c (d, i, j, x). split m d (λ z. inr (d, z, j, x)) (λ z. inl (d, i, z, x)))
    (times_mean.is_join _ _ _ _ (among_self p lo m) (among_self p m e)))
    (among_self p lo e)

pub among_more : (p : List ℕ) (lo e run r : ℕ) → lo ≤ e → kept_time run ≡ among p lo e → r ≡ max run (get_or p e 0) → kept_time r ≡ among p lo (e + 1)
among_more p lo e run r l h k =
    let one : kept_time (get_or p e 0) ≡ among p e (e + 1) =
    longest_one (self (kept_time (get_or p e 0)))
    (longest_same _ _ _
    (λ c (d, i, j, x). let z : d ≡ e = omega arith in subst (λ (k : ℕ). kept_time (get_or p k 0) ≡ some c) z x)
    (λ c x. (e, omega arith, omega arith, x))
    (among_self p e (e + 1))) in
    kept_max run (get_or p e 0) r k ∙ ap (λ (u : Time). longer u (kept_time (get_or p e 0))) h ∙ ap (longer (among p lo e)) one ∙ among_both p lo e (e + 1) l (omega arith)

-- ---- durations that the stretch has room for

pub shorter_none : (P : ℕ) (t : List ℕ) (y gap rest lo : ℕ) (p : List ℕ) → Shorter P t y gap rest lo lo p p
shorter_none P t y gap rest lo p = record { comes = λ e l m. absurd (omega arith); above = λ e l. refl }

pub shorter_more : (P : ℕ) (t : List ℕ) (y gap rest lo e best : ℕ) (p q : List ℕ) → e < length q → ComeLater P t y (gap + e - 1) rest best → Shorter P t y gap rest lo e p q
    → Shorter P t y gap rest lo (e + 1) p (set q e best)
shorter_more P t y gap rest lo e best p q long h x = record {
  comes = λ k l m.
      split e k
      (λ a. let z : e ≡ k = omega arith in
      subst (λ (j : ℕ). ComeLater P t y (gap + j - 1) rest (get_or (set q e best) j 0)) z (rw (get_or-set_same q e best 0 long) h))
      (λ a. rw (get_or-set_other q e k best 0 (λ z. omega arith)) (x.comes k l a));
  above = λ k l. get_or-set_other q e k best 0 (λ z. omega arith) ∙ x.above k (omega arith);
}

module _ (P : ℕ) (t : List ℕ) (y gap rest lo top over hi run best : ℕ) (p q r : List ℕ) (from : lo ≤ over) (beyond : top < over)
    (short : Shorter P t y gap rest lo (max lo (top + 1)) p q) (on : WaitsOn over hi run best q r) where
  came : (d : ℕ) → lo ≤ d → d ≤ top → ComeLater P t y (gap + d - 1) rest (get_or r d 0)
  came d l m = rw (on.others d (λ z. omega arith)) (short.comes d l (omega arith))

  -- for each what comes with it, which has all that comes with a shorter one
  pub among_room : (e : ℕ) → lo ≤ e → e ≤ top → Longest (Later rest (Comes P (table_of P t) y (gap + e - 1))) (among r lo (e + 1))
  among_room e l m =
      longest_same _ _ _
      (λ c (d, i, j, (c₀, (k, n, x), z)). (c₀, (k, omega arith, x), z))
      (λ c x. (e, l, omega arith, x))
      (among_means r lo (e + 1) (λ d. Later rest (Comes P (table_of P t) y (gap + d - 1))) (λ d i j. came d i (omega arith)))

  -- ---- durations that it has no room for

  -- what is pending for d: what comes, what waits on, or what was
  abbrev Kept : ℕ → ℕ → Type 0
  Kept d c =
      ((d ≤ top) × Later rest (Comes P (table_of P t) y (gap + d - 1)) c)
      ⊎ (((d ≡ over) × ((kept_time run ≡ some c) ⊎ Later rest (Comes P (table_of P t) y (gap + top)) c)) ⊎ ((over ≤ d) × (kept_time (get_or p d 0) ≡ some c)))

  kept : over ≤ max lo (top + 1) → ComeLater P t y (gap + top) rest best → (d : ℕ) → lo ≤ d → d ≤ hi → Longest (Kept d) (kept_time (get_or r d 0))
  kept first h d l m =
      split d top
      (λ a.
      longest_same (λ c. Later rest (Comes P (table_of P t) y (gap + d - 1)) c) (λ c. Kept d c) _
      (λ c x. inl (a, x))
      (λ c. elim [ inl x ↦ x.1 | inr u ↦ elim u [ inl x ↦ absurd (omega (arith, x.0)) | inr x ↦ absurd (omega (arith, x.0)) ] ])
      (came d l a))
      (λ a.
      let same : get_or q d 0 ≡ get_or p d 0 = short.above d (omega arith) in
      elim (ℕ_discrete d over) [
        | yes z ↦
            (let is : kept_time (get_or r d 0) ≡ longer (kept_time (get_or p d 0)) (longer (kept_time run) (kept_time best)) =
            ap (λ (k : ℕ). kept_time (get_or r k 0)) z ∙ on.joins (omega arith) ∙ ap (λ (k : ℕ). longer (kept_time k) (longer (kept_time run) (kept_time best))) (ap (λ (k : ℕ). get_or q k 0) (sym z) ∙ same) in
            rw is
            (longest_same _ (λ c. Kept d c) _
            (λ c. elim [ inl x ↦ inr (inr (omega arith, x)) | inr x ↦ inr (inl (z, x)) ])
            (λ c. elim [ inl x ↦ absurd (omega (arith, x.0)) | inr u ↦ elim u [ inl x ↦ inr x.1 | inr x ↦ inl x.1 ] ])
            (times_mean.is_join _ _ _ _ (self (kept_time (get_or p d 0))) (times_mean.is_join _ _ _ _ (self (kept_time run)) h))))
        | no z ↦
            rw (on.others d z, same)
            (longest_same _ (λ c. Kept d c) _
            (λ c x. inr (inr (omega arith, x)))
            (λ c. elim [ inl x ↦ absurd (omega (arith, x.0)) | inr u ↦ elim u [ inl x ↦ absurd (z x.0) | inr x ↦ x.1 ] ])
            (self (kept_time (get_or p d 0))))
      ])

  -- the longest of what has come since and of what waited before
  pub among_on : over ≤ max lo (top + 1) → ComeLater P t y (gap + top) rest best → (e : ℕ) → over ≤ e → e ≤ hi
      → among r lo (e + 1) ≡ longer (kept_time best) (longer (kept_time run) (among p over (e + 1)))
  among_on first h e l m =
      longest_one
      (longest_same _ _ _
      (λ c (d, i, j, k). elim k [
        | inl (a, (c₀, (n, b, x), z)) ↦ inl (c₀, (n, omega arith, x), z)
        | inr u ↦ elim u [ inl (a, x) ↦ elim x [ inl g ↦ inr (inl g) | inr g ↦ inl g ] | inr (a, x) ↦ inr (inr (d, a, j, x)) ]
      ])
      (λ c. elim [
        | inl x ↦ (over, omega arith, omega arith, inr (inl (refl, inr x)))
        | inr u ↦ elim u [ inl g ↦ (over, omega arith, omega arith, inr (inl (refl, inl g))) | inr (d, i, j, x) ↦ (d, omega arith, j, inr (inr (i, x))) ]
      ])
      (among_means r lo (e + 1) Kept (λ d i j. kept first h d i (omega arith))))
      (times_mean.is_join _ _ _ _ h (times_mean.is_join _ _ _ _ (self (kept_time run)) (among_self p over (e + 1))))

-- that is written at one duration
pub waits_on : (over hi run best v r : ℕ) (p : List ℕ) → over < length p → v ≡ max run best → r ≡ max (get_or p over 0) v → WaitsOn over hi run best p (set p over r)
waits_on over hi run best v r p long h k = record {
  joins = λ l. ap kept_time (get_or-set_same p over r 0 long) ∙ kept_max (get_or p over 0) v r k ∙ ap (longer (kept_time (get_or p over 0))) (kept_max run best v h);
  others = λ e n. get_or-set_other p over e r 0 n;
}

-- ---- what leaves

pub ended_none : (v rest e r : ℕ) → v ≡ 0 → r ≡ no_time → Ended v rest e r
ended_none v rest e r z n = subst (Longest _) (sym (time_none r n)) (nothing (λ c (k, x, y). omega (arith, kept_inv v k x)))

pub ended_some : (v rest e r : ℕ) → 0 < v → r + rest + 1 ≡ v + e → ¬ (r ≡ no_time) → Ended v rest e r
ended_some v rest e r n z m =
    subst (Longest _) (sym (time_some r m))
    (reached (v - 1, kept_some v n, omega arith) (λ c (k, x, y). omega (arith, kept_inv v k x)))

pub left_none : (P : ℕ) (p : List ℕ) (a rest lo : ℕ) (o : List ℕ) → LeftBy P p a rest lo lo o o
unfolding LeftBy
left_none P p a rest lo o q l =
    longest_same _ _ _ (λ c x. inl x) (λ c. elim [ inl x ↦ x | inr (e, i, j, g, x) ↦ absurd (omega arith) ]) (self (time_of (get_or o q 0)))

pub left_more : (P : ℕ) (p : List ℕ) (a rest lo e at run v y : ℕ) (o r : List ℕ) → lo ≤ e → at ≡ (a + e) % P → at < length r → kept_time run ≡ among p lo (e + 1)
    → Ended run rest e v → LongerOf (get_or r at 0) v y → LeftBy P p a rest lo e o r → LeftBy P p a rest lo (e + 1) o (set r at y)
unfolding LeftBy LongerOf
left_more P p a rest lo e at run v y o r le ea long is-run k j left q l =
    elim (ℕ_discrete q at) [
      | yes z ↦
          (let got : get_or (set r at y) q 0 ≡ y = ap (λ (x : ℕ). get_or (set r at y) x 0) z ∙ get_or-set_same r at y 0 long in
          let j' : time_of y ≡ longer (time_of (get_or r q 0)) (time_of v) = j ∙ ap (λ (x : ℕ). longer (time_of (get_or r x 0)) (time_of v)) (sym z) in
          rw (got, j')
          (longest_same _ _ _
          (λ c. elim [
            | inl x ↦ elim x [ inl g ↦ inl g | inr (d, m, n, g, u) ↦ inr (d, m, omega arith, g, u) ]
            | inr (c₀, g, x) ↦ inr (e, le, omega arith, sym ea ∙ sym z, (c₀, sym is-run ∙ g, x))
          ])
          (λ c. elim [
            | inl g ↦ inl (inl g)
            | inr (d, m, n, g, (c₀, u, x)) ↦
                split e d
                (λ w. let is : d ≡ e = omega arith in inr (c₀, is-run ∙ subst (λ (i : ℕ). among p lo (i + 1) ≡ some c₀) is u, omega arith))
                (λ w. inl (inr (d, m, w, g, (c₀, u, x))))
          ])
          (times_mean.is_join _ _ _ _ (left q l) k)))
      | no z ↦
          rw (get_or-set_other r at q y 0 z)
          (longest_same _ _ _
          (λ c. elim [ inl g ↦ inl g | inr (d, m, n, g, x) ↦ inr (d, m, omega arith, g, x) ])
          (λ c. elim [
            | inl g ↦ inl g
            | inr (d, m, n, g, x) ↦
                split e d
                (λ w. let is : d ≡ e = omega arith in absurd (z (sym g ∙ ap (λ (i : ℕ). (a + i) % P) is ∙ sym ea)))
                (λ w. inr (d, m, w, g, x))
          ])
          (left q l))
    ]
