-- Every owned offset stands in a stretch that begins somewhere, unless every offset is owned; and the longest access is the longest of these stretches.
use mathlib.Core.Path.{◌≡◌, refl, sym, ◌∙◌, ap, subst}
use mathlib.Core.Bool.{Bool, true, false, false≢true}
use native.Mathlib.Nat.{not-suc-le-zero, mod-lt, mod-eq_of_lt, add-mod_right, mod-add-mod, add-zero}
use native.Mathlib.Omega.{arith}
use Prim.Native.Nat.{ℕ, zero, suc, ◌+◌, ◌-◌, ◌%◌, ◌≤◌, ◌<◌}
use Rattle.runs.specs.Schedules.{owns_next, owning}
use Rattle.runs.specs.Stretches.{IsRun, Begins}
use Rattle.runs.proofs.Cases.{split, either}
use Rattle.runs.proofs.SchedulesLaws.{next_at, next_of, most_least, most_fits}
use Rattle.runs.proofs.StretchesLaws.{lands, lands_begin}

-- a stretch begins at a, and i cycles later is o, so far all owned
abbrev pub From : (P : ℕ) (own : ℕ → Bool) (o : ℕ) → Type 0
From P own o = (a : ℕ) × (i : ℕ) × Begins P own a × ((a + i) % P ≡ o) × ((j : ℕ) → j < i → own ((a + j) % P) ≡ true)

module _ (P : ℕ) (own : ℕ → Bool) (f : ℕ) (first : Begins P own f) where
  from : (m : ℕ) → own ((f + m) % P) ≡ true → From P own ((f + m) % P)
  from zero h = (f, 0, first, refl, λ j l. absurd (not-suc-le-zero l))
  from (suc m) h =
      either (own ((f + m) % P))
      (λ t. let (a, i, b, e, all) = from m t in (
        a,
        i + 1,
        b,
        ap (λ (x : ℕ). x % P) (let z : a + (i + 1) ≡ a + i + 1 = omega arith in z) ∙ sym (mod-add-mod (a + i) P 1) ∙ ap (λ (x : ℕ). (x + 1) % P) e ∙ mod-add-mod (f + m) P 1
            ∙ ap (λ (x : ℕ). x % P) (let z : f + m + 1 ≡ f + suc m = omega arith in z),
        λ j l. split i j (λ k. let z : j ≡ i = omega arith in rw (z, e) t) (λ k. all j k),
      ))
      (λ t. (
        (f + suc m) % P,
        0,
        record {
          low = mod-lt (f + suc m) pos;
          here = h;
          before =
              (let y : (f + suc m) % P + P - 1 ≡ (f + suc m) % P + (P - 1) = omega (arith, pos) in
              let z : f + suc m + (P - 1) ≡ f + m + P = omega (arith, pos) in
              ap own (ap (λ (x : ℕ). x % P) y ∙ mod-add-mod (f + suc m) P (P - 1) ∙ ap (λ (x : ℕ). x % P) z ∙ add-mod_right (f + m) P) ∙ t);
        },
        rw add-zero (mod-eq_of_lt (mod-lt (f + suc m) pos)),
        λ j l. absurd (not-suc-le-zero l),
      ))
    where
      pos : 0 < P
      pos = omega (arith, first.low)

  pub begin_of_lem : (o : ℕ) → o < P → own o ≡ true → From P own o
  begin_of_lem o l h =
      split f o
      (λ k. let e : (f + (o - f)) % P ≡ o = (let z : f + (o - f) ≡ o = omega arith in rw z (mod-eq_of_lt l)) in
      subst (λ (x : ℕ). From P own x) e (from (o - f) (ap own e ∙ h)))
      (λ k. let e : (f + (o + P - f)) % P ≡ o = (let z : f + (o + P - f) ≡ o + P = omega (arith, first.low) in rw (z, add-mod_right) (mod-eq_of_lt l)) in
      subst (λ (x : ℕ). From P own x) e (from (o + P - f) (ap own e ∙ h)))

  -- an access that may start somewhere lies in a stretch, from where that begins on
  pub in_stretch : (d o : ℕ) → 1 ≤ d → o < P → owns_next P own d o ≡ true → (a : ℕ) × (i : ℕ) × Begins P own a × ((a + i) % P ≡ o) × (owns_next P own (i + d) a ≡ true)
  in_stretch d o p l s =
      let here : (o + 0) % P ≡ o = rw add-zero (mod-eq_of_lt l) in
      let (a, i, b, e, all) = begin_of_lem o l (sym (ap own here) ∙ next_at P own d o s 0 (omega arith)) in (
        a,
        i,
        b,
        e,
        next_of P own (i + d) a (λ j w. split i j
            (λ y. let z : a + i + (j - i) ≡ a + j = omega arith in
            sym (ap own (ap (λ (x : ℕ). (x + (j - i)) % P) (sym e) ∙ mod-add-mod (a + i) P (j - i) ∙ ap (λ (x : ℕ). x % P) z)) ∙ next_at P own d o s (j - i) (omega arith))
            (λ y. all j y)),
      )

  -- m is the longest access where a stretch has m cycles and none has more
  pub longest_begins : (m : ℕ) → m ≤ P → ((a : ℕ) × Begins P own a × (owns_next P own m a ≡ true))
      → ((a : ℕ) → Begins P own a → owns_next P own (suc m) a ≡ true → ⊥) → (owning P own).most ≡ m
  longest_begins m fits (a, b, s) none =
      let up = most_least P own m a fits b.low s in
      split (owning P own).most m
      (λ l. omega (arith, l, up))
      (λ l. let (o, k, h) = most_fits P own (suc m) (omega arith) l in
      let (x, i, y, e, u) = in_stretch (suc m) o (omega arith) k h in
      absurd (none x y (next_of P own (suc m) x (λ j w. next_at P own (i + suc m) x u j (omega arith)))))

  -- ---- the only stretch

  back : (i : ℕ) → i < P → ((f + i) % P + (P - f)) % P ≡ i
  back i l = let z : f + i + (P - f) ≡ i + P = omega (arith, first.low) in mod-add-mod (f + i) P (P - f) ∙ ap (λ (x : ℕ). x % P) z ∙ add-mod_right i P ∙ mod-eq_of_lt l

  -- where no other stretch begins, nothing is owned from its end on
  pub lone_free : (r : ℕ) → IsRun P own f r → ((a : ℕ) → Begins P own a → a ≡ f) → (i : ℕ) → r ≤ i → i < P → own ((f + i) % P) ≡ false
  lone_free r run one i l m =
      either (own ((f + i) % P))
      (λ t.
      let (a, j, b, e, all) = begin_of_lem ((f + i) % P) (mod-lt (f + i) (omega arith)) t in
      let e' : (f + j) % P ≡ (f + i) % P = ap (λ (x : ℕ). (x + j) % P) (sym (one a b)) ∙ e in
      split j r
      (λ k.
      let z : j ≡ i = sym (back j (omega arith)) ∙ ap (λ (x : ℕ). (x + (P - f)) % P) e' ∙ back i m in
      let y : i ≡ r = omega arith in
      absurd (false≢true (sym run.ends ∙ ap (λ (x : ℕ). own ((f + x) % P)) (sym y) ∙ t)))
      (λ k. absurd (false≢true (sym run.ends ∙ ap (λ (x : ℕ). own ((x + r) % P)) (sym (one a b)) ∙ all r k))))
      (λ t. t)

-- where no stretch begins, every offset is owned, if one is
pub all_owned : (P : ℕ) (own : ℕ → Bool) → ((o : ℕ) × (o < P) × (own o ≡ true)) → ((a : ℕ) → Begins P own a → ⊥) → (o : ℕ) → o < P → own o ≡ true
all_owned P own (x, l, h) none o m =
    let pos : 0 < P = omega arith in
    let s : owns_next P own 1 x ≡ true = next_of P own 1 x (λ i k. let z : x + i ≡ x = omega arith in rw z (ap own (mod-eq_of_lt l) ∙ h)) in
    let w = (owning P own).wait 1 o in
    let t = lands P own pos 1 o (omega arith) (most_least P own 1 x pos l s) m in
    split 1 w
    (λ k. absurd (none ((o + w) % P) (lands_begin P own pos 1 o w (omega arith) k t)))
    (λ k.
    let z : o + w + 0 ≡ o = omega arith in
    sym (ap own (mod-add-mod (o + w) P 0 ∙ ap (λ (y : ℕ). y % P) z ∙ mod-eq_of_lt m)) ∙ next_at P own 1 ((o + w) % P) t.starts 0 (omega arith))
