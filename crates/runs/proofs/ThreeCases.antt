-- Request W2, the wait as three cases: for every core p, every offset o below P and every e from 1 to slot exactly one case of Equation 7 holds
-- (there is one, and any two are the same), with its wait: the number that Equation 7 gives and that the clock takes.
use mathlib.Core.Path.{◌≡◌, sym, ◌∙◌, ap, ap₂, subst}
use native.Mathlib.Bridge.{le_prop}
use native.Mathlib.Nat.{add-mul, one-mul}
use native.Mathlib.Omega.{arith}
use Prim.Native.Nat.{ℕ, ◌+◌, ◌-◌, ◌*◌, ◌≤◌, ◌<◌}
use Rattle.runs.specs.Bus.{IsWait}
use Rattle.runs.specs.Slots.{Slots, first, period_of, equation7, WaitCase, before, inside, after, equal_slots, HasSlot}
use Rattle.runs.proofs.SlotsLaws.{by-case, equation7_is}

-- a case that holds, with its wait
abbrev pub SomeCase : Slots → ℕ → ℕ → Type 0
SomeCase v e o = (w : ℕ) × WaitCase v e o w

-- exactly one case holds, with its wait
pub record OneCase (v : Slots) (e o : ℕ) : Type 0 where
  -- there is one, and its wait is Equation 7's
  pub one : WaitCase v e o (equation7 v e o)
  -- any two are the same: no two cases hold, and no two waits
  pub only : (c d : SomeCase v e o) → c ≡ d
  -- and its wait is the least number of cycles after which the access may start
  pub clock : (w : ℕ) → WaitCase v e o w → IsWait (equal_slots v) e o w

-- (p + 1) × slot is where the core's slot ends
pub slot_ends : (v : Slots) → (v.core + 1) * v.slot ≡ first v + v.slot
slot_ends v = add-mul v.core 1 v.slot ∙ ap (λ (n : ℕ). first v + n) (one-mul v.slot)

module _ (v : Slots) (e : ℕ) (le : e ≤ v.slot) (o : ℕ) where
  -- one holds
  exists : WaitCase v e o (equation7 v e o)
  exists =
      by-case v e o
      (λ h q m. subst (WaitCase v e o) (sym q) (before (omega arith)))
      (λ h k q m. subst (WaitCase v e o) (sym q) (inside (omega arith) (omega (arith, slot_ends v))))
      (λ h k q m. subst (WaitCase v e o) (sym q) (after (omega (arith, slot_ends v))))

  -- no two do: two of one kind are the same, and two of different kinds cannot both be
  same : {w x : ℕ} (c : WaitCase v e o w) (d : WaitCase v e o x) → ◌≡◌ {A = SomeCase v e o} (w, c) (x, d)
  same (before h) (before k) = ap (λ z. (first v - o, before z)) (le_prop h k)
  same (before h) (inside k l) = absurd (omega arith)
  same (before h) (after k) = absurd (omega (arith, slot_ends v))
  same (inside h i) (before k) = absurd (omega arith)
  same (inside h i) (inside k l) = ap₂ (λ y z. (0, inside y z)) (le_prop h k) (le_prop i l)
  same (inside h i) (after k) = absurd (omega arith)
  same (after h) (before k) = absurd (omega (arith, slot_ends v))
  same (after h) (inside k l) = absurd (omega arith)
  same (after h) (after k) = ap (λ z. (first v + period_of v - o, after z)) (le_prop h k)

-- The theorem, for every bus with a slot of at least 1 cycle and a core number below the cores.
pub three_cases : (v : Slots) → HasSlot v → (e : ℕ) → 1 ≤ e → e ≤ v.slot → (o : ℕ) → o < period_of v → OneCase v e o
three_cases v ok e pos le o lt = record {
  one = exists v e le o;
  only = λ c d. same v e le o c.1 d.1;
  clock = λ w c. subst (λ (x : SomeCase v e o). IsWait (equal_slots v) e o x.0) (same v e le o (exists v e le o) c) (equation7_is v ok e pos le o lt).0;
}
