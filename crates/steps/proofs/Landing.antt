-- An access on any bus of owned offsets collapses into two cases: an entry that starts at once passes like a plain block, and an entry that waits
-- starts where a stretch begins. So a bus block's step is the longest of these counts.
use mathlib.Core.Path.{◌≡◌, sym, ◌∙◌, ap, subst}
use mathlib.Core.Logic.{◌⊎◌, inl, inr}
use mathlib.Core.Option.{none}
use mathlib.Core.List.{List}
use mathlib.Core.Bool.{Bool, true}
use lib.ListN.{get_or}
use borrow.Author.Tests.{eqb-true, eq-eqb}
use native.Mathlib.Omega.{arith}
use native.Mathlib.Nat.{add-mod_right, mod-add-mod, mod-lt, mod-eq_of_lt, not-suc-le-zero}
use Prim.Native.Nat.{ℕ, ◌+◌, ◌-◌, ◌%◌, ◌≤◌, ◌<◌}
use Rattle.runs.specs.Schedules.{owns_next, owning}
use Rattle.runs.specs.Clock.{offsets}
use Rattle.runs.specs.Nodes.{may}
use Rattle.runs.specs.Carried.{moved, blocked}
use Rattle.runs.specs.Figures.{Time, later, longer}
use Rattle.runs.specs.Exact.{Longest}
use Rattle.runs.proofs.Cases.{split}
use Rattle.runs.proofs.SchedulesLaws.{owning_lawful}
use Rattle.runs.proofs.StretchesLaws.{wait_to, lands, lands_begin}
use Rattle.runs.proofs.Waits.{wait_only, here}
use Rattle.runs.proofs.TimesExact.{longest_same, times_mean}
use Rattle.starting.specs.Starting.{Now}
use Rattle.waiting.specs.Waiting.{Leaves}
use Rattle.times.proofs.Ends.{Ends, moved_ends}

module _ (P : ℕ) (pos : 0 < P) (own : ℕ → Bool) (lo hi : ℕ) (least : 1 ≤ lo) (fit : hi ≤ (owning P own).most) (T : List Time) (q : ℕ) where
  abbrev Wait : ℕ → ℕ → ℕ
  Wait d o = (owning P own).wait d o

  -- an access that may start at once does not wait
  no_wait : (d o : ℕ) → lo ≤ d → d ≤ hi → o < P → owns_next P own d o ≡ true → Wait d o ≡ 0
  unfolding owning
  no_wait d o l m n t =
      wait_only (owning P own) (owning_lawful P own pos) d (omega arith) (omega arith) o n 0
      (ap (owns_next P own d) (here (owning P own) (owning_lawful P own pos) o n) ∙ t, λ i k. absurd (not-suc-le-zero k))

  to : (c : ℕ) → Ends P lo hi (λ d o. Wait d o + d) T q c → Now P own T lo hi q c ⊎ Leaves P own T lo hi q c
  to c' (o, l, (d, m, n, (e, (c, g, h)))) =
      let x = lands P own pos d o (omega arith) (omega arith) l in
      split 1 (Wait d o)
      (λ w. inr (
        (o + Wait d o) % P,
        lands_begin P own pos d o (Wait d o) (omega arith) w x,
        (
          d,
          m,
          n,
          x.starts,
          mod-add-mod (o + Wait d o) P d ∙ ap (λ (n : ℕ). n % P) (omega arith) ∙ eqb-true _ _ e,
          (Wait d o, x.few, x.opens, (c, ap (λ (y : ℕ). get_or T y none) x.from ∙ g, omega arith)),
        ),
      ))
      (λ w. let z : o + (Wait d o + d) ≡ o + d = omega arith in
      let y : (o + Wait d o) % P ≡ o = (let u : o + Wait d o ≡ o = omega arith in rw u (mod-eq_of_lt l)) in
      inl (o, l, (d, m, n, subst (λ (y : ℕ). owns_next P own d y ≡ true) y x.starts, ap (λ (n : ℕ). n % P) (sym z) ∙ eqb-true _ _ e, (c, g, omega arith))))

  from_leaves : (c : ℕ) → Leaves P own T lo hi q c → Ends P lo hi (λ d o. Wait d o + d) T q c
  from_leaves c' (a, b, (d, m, n, t, e, (w, k, shut, (c, g, h)))) =
      let is = wait_to P own pos d a w (omega arith) (omega arith) b.low k t shut in
      let z : (a + P - w) + (w + d) ≡ a + d + P = omega (arith, b.low) in
      let r : ((a + P - w) % P + (w + d)) % P ≡ q = mod-add-mod (a + P - w) P (w + d) ∙ ap (λ (n : ℕ). n % P) z ∙ add-mod_right (a + d) P ∙ e in (
        (a + P - w) % P,
        mod-lt _ pos,
        (
          d,
          m,
          n,
          (
            eq-eqb _ _ (subst (λ (x : ℕ). ((a + P - w) % P + (x + d)) % P ≡ q) (sym is) r),
            (c, g, omega (arith, is)),
          ),
        ),
      )

  from : (c : ℕ) → Now P own T lo hi q c ⊎ Leaves P own T lo hi q c → Ends P lo hi (λ d o. Wait d o + d) T q c
  from c' (inl (o, l, (d, m, n, t, e, (c, g, h)))) =
      let is = no_wait d o m n l t in
      let z : o + (Wait d o + d) ≡ o + d = omega (arith, is) in
      (o, l, (d, m, n, (eq-eqb _ _ (ap (λ (x : ℕ). x % P) z ∙ e), (c, g, omega (arith, is)))))
  from c' (inr x) = from_leaves c' x

  pub access_collapses : Longest (λ c. Now P own T lo hi q c ⊎ Leaves P own T lo hi q c) (moved none longer later P lo hi (λ d o. Wait d o + d) (λ d o. (o + d) % P) T q)
  access_collapses = longest_same _ _ _ to from (moved_ends P lo hi (λ d o. Wait d o + d) T q)

  -- those that start at once pass, so a may-access block is the plain one with those that wait
  pub may_collapses : Longest (λ c. Ends P lo hi (λ d o. d) T q c ⊎ Leaves P own T lo hi q c) (blocked (owning P own) (offsets P) none longer later may lo hi T q)
  unfolding blocked owning
  may_collapses =
      longest_same _ _ _
      (λ c. elim [
        | inl x ↦ inl x
        | inr x ↦ elim (to c x) [
          | inl (o, l, (d, m, n, t, e, y)) ↦ inl (o, l, (d, m, n, (eq-eqb _ _ e, y)))
          | inr y ↦ inr y
        ]
      ])
      (λ c. elim [ inl x ↦ inl x | inr x ↦ inr (from_leaves c x) ])
      (times_mean.is_join _ _ _ _ (moved_ends P lo hi (λ d o. d) T q) (moved_ends P lo hi (λ d o. Wait d o + d) T q))
