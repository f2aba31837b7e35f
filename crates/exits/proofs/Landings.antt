-- An access starts at once, or waits and starts where a stretch begins.
use mathlib.Core.Path.{◌≡◌, sym, ap, ◌∙◌}
use mathlib.Core.Logic.{◌⊎◌, inl, inr}
use mathlib.Core.Bool.{Bool, true}
use native.Mathlib.Nat.{add-mod_right, mod-add-mod, mod-lt, mod-eq_of_lt}
use native.Mathlib.Omega.{arith}
use Prim.Native.Nat.{ℕ, ◌+◌, ◌-◌, ◌%◌, ◌≤◌, ◌<◌}
use Rattle.runs.specs.Schedules.{owns_next, owning}
use Rattle.runs.proofs.Cases.{split}
use Rattle.runs.proofs.SchedulesLaws.{next_of}
use Rattle.runs.proofs.StretchesLaws.{wait_to, lands, lands_begin}
use Rattle.runs.proofs.Nexts.{wait_none}
use Rattle.offsets.specs.Sets.{has}
use Rattle.exits.specs.Exits.{Reaches, StartsNow, Waits}

-- where every offset is owned, an access may start anywhere
pub all_own : (P : ℕ) (own : ℕ → Bool) → 0 < P → ((o : ℕ) → o < P → own o ≡ true) → (d o : ℕ) → owns_next P own d o ≡ true
all_own P own pos whole d o = next_of P own d o (λ i m. whole ((o + i) % P) (mod-lt (o + i) pos))

abbrev pub Accesses : (P : ℕ) (own : ℕ → Bool) (n lo hi j : ℕ) → Type 0
Accesses P own n lo hi j = Reaches P (λ d o. (owning P own).wait d o + d) n lo hi j

abbrev pub Passes : (P n lo hi j : ℕ) → Type 0
Passes P n lo hi j = Reaches P (λ d o. d) n lo hi j

module _ (P : ℕ) (pos : 0 < P) (own : ℕ → Bool) (n lo hi : ℕ) (least : 1 ≤ lo) (fit : hi ≤ (owning P own).most) where
  from_waiting : (j : ℕ) → Waits P own n lo hi j → Accesses P own n lo hi j
  from_waiting j (a, b, (d, w, k, l, h, m, s, t, x, q)) =
      let is = wait_to P own pos d a w (omega arith) (omega arith) b.low m s x in
      let z : (a + P - w) + (w + d) ≡ a + d + P = omega (arith, b.low) in (
        d,
        (a + P - w) % P,
        k,
        l,
        mod-lt (a + P - w) pos,
        t,
        ap (λ (y : ℕ). ((a + P - w) % P + (y + d)) % P) is ∙ mod-add-mod (a + P - w) P (w + d) ∙ ap (λ (y : ℕ). y % P) z ∙ add-mod_right (a + d) P ∙ q,
      )

  from_now : (j : ℕ) → StartsNow P own n lo hi j → Accesses P own n lo hi j
  from_now j (d, o, k, l, i, t, s, q) =
      let is = wait_none P own pos d o (omega arith) (omega arith) i s in
      (d, o, k, l, i, t, ap (λ (y : ℕ). (o + (y + d)) % P) is ∙ ap (λ (y : ℕ). y % P) (let z : o + (0 + d) ≡ o + d = omega arith in z) ∙ q)

  -- ---- a block that always accesses

  pub always_to : (j : ℕ) → Accesses P own n lo hi j → StartsNow P own n lo hi j ⊎ Waits P own n lo hi j
  always_to j (d, o, k, l, i, t, q) =
      let w = (owning P own).wait d o in
      let x = lands P own pos d o (omega arith) (omega arith) i in
      split 1 w
      (λ h. inr (
        (o + w) % P,
        lands_begin P own pos d o w (omega arith) h x,
        (
          d,
          w,
          k,
          l,
          h,
          x.few,
          x.starts,
          ap (has n) x.from ∙ t,
          x.opens,
          mod-add-mod (o + w) P d ∙ ap (λ (y : ℕ). y % P) (let z : o + w + d ≡ o + (w + d) = omega arith in z) ∙ q,
        ),
      ))
      (λ h. let z : o + (w + d) ≡ o + d = omega arith in
      let y : (o + w) % P ≡ o = (let u : o + w ≡ o = omega arith in rw u (mod-eq_of_lt i)) in
      inl (d, o, k, l, i, t, ap (owns_next P own d) (sym y) ∙ x.starts, ap (λ (y : ℕ). y % P) (sym z) ∙ q))

  pub always_from : (j : ℕ) → StartsNow P own n lo hi j ⊎ Waits P own n lo hi j → Accesses P own n lo hi j
  always_from j = elim [ inl x ↦ from_now j x | inr y ↦ from_waiting j y ]

  -- ---- a block that may access: those that start at once pass

  pub may_to : (j : ℕ) → Passes P n lo hi j ⊎ Accesses P own n lo hi j → Passes P n lo hi j ⊎ Waits P own n lo hi j
  may_to j = elim [
    | inl x ↦ inl x
    | inr x ↦ elim (always_to j x) [ inl (d, o, k, l, i, t, s, q) ↦ inl (d, o, k, l, i, t, q) | inr y ↦ inr y ]
  ]

  pub may_from : (j : ℕ) → Passes P n lo hi j ⊎ Waits P own n lo hi j → Passes P n lo hi j ⊎ Accesses P own n lo hi j
  may_from j = elim [ inl x ↦ inl x | inr y ↦ inr (from_waiting j y) ]

  -- ---- where every offset is owned

  module _ (whole : (o : ℕ) → o < P → own o ≡ true) where
    pub whole_to : (j : ℕ) → Accesses P own n lo hi j → Passes P n lo hi j
    whole_to j (d, o, k, l, i, t, q) =
        let is = wait_none P own pos d o (omega arith) (omega arith) i (all_own P own pos whole d o) in
        (d, o, k, l, i, t, ap (λ (y : ℕ). y % P) (let z : o + d ≡ o + ((owning P own).wait d o + d) = omega (arith, is) in z) ∙ q)

    pub whole_from : (j : ℕ) → Passes P n lo hi j → Accesses P own n lo hi j
    whole_from j (d, o, k, l, i, t, q) = from_now j (d, o, k, l, i, t, all_own P own pos whole d o, q)
