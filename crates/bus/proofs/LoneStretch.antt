-- The one stretch of a bus, from any offset on, and the gap after it.
use mathlib.Core.Path.{◌≡◌, sym, ◌∙◌, ap}
use mathlib.Core.Bool.{true, false}
use native.Mathlib.Nat.{not-suc-le-zero, add-mod_right, mod-add-mod}
use native.Mathlib.Omega.{arith}
use Prim.Native.Nat.{ℕ, ◌+◌, ◌-◌, ◌%◌, ◌≤◌, ◌<◌}
use Rattle.runs.specs.Stretches.{Stretched}
use Rattle.offsets.specs.Sets.{value}
use Rattle.std.specs.Prelude.{Some}
use Rattle.std.proofs.lemmas.Option.{MatchOption-at_some}
use Rattle.bus.specs.declared.Bus.{Bus}
use Rattle.bus.specs.Aheads.{Ahead}
use Rattle.bus.specs.Owning.{owns, Fit, Alone}

-- what `only` says of the bus
pub alone : (b : Bus) → Fit b → (only : ℕ) → b.only ≡ Some only → Alone b only
alone b fit only is = MatchOption-at_some _ _ only is fit.lone

module _ (b : Bus) (only : ℕ) (x : Alone b only) where
  abbrev P : ℕ
  P = b.period

  -- the offset o is g cycles after `first`
  module _ (o g : ℕ) (few : g < P) (place : (b.first + g) % P ≡ o) where
    on : (i : ℕ) → (o + i) % P ≡ (b.first + (g + i)) % P
    on i =
        let z : b.first + g + i ≡ b.first + (g + i) = omega arith in
        ap (λ (n : ℕ). (n + i) % P) (sym place) ∙ mod-add-mod (b.first + g) P i ∙ ap (λ (n : ℕ). n % P) z

    pub on_in : (i : ℕ) → g + i < only → owns b ((o + i) % P) ≡ true
    on_in i l = ap (owns b) (on i) ∙ x.held (g + i) l

    pub on_out : (i : ℕ) → only ≤ g + i → g + i < P → owns b ((o + i) % P) ≡ false
    on_out i l m = ap (owns b) (on i) ∙ x.free (g + i) l m

    pub left : Stretched P (owns b) o (only - g)
    left =
        let s = x.less in
        record {
          run = λ m. record { owned = λ i k. on_in i (omega arith); ends = on_out (only - g) (omega arith) (omega arith) };
          all = λ m. absurd (omega arith);
        }

    pub gap_inside : g < only → (0 < P) × Ahead P (value b.own) o 0
    gap_inside l = (omega arith, record { most = omega arith; passed = λ i k. absurd (not-suc-le-zero k); found = λ m. on_in 0 (omega arith) })

    -- round to where it begins
    pub gap_outside : only ≤ g → (P - g < P) × Ahead P (value b.own) o (P - g)
    gap_outside l =
        let z : b.first + (g + (P - g)) ≡ b.first + 0 + P = omega arith in (
          omega arith,
          record {
            most = omega arith;
            passed = λ i k. on_out i (omega arith) (omega arith);
            found = λ m. ap (owns b) (on (P - g) ∙ ap (λ (n : ℕ). n % P) z ∙ add-mod_right (b.first + 0) P) ∙ x.held 0 x.some;
          },
        )
