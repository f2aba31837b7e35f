use mathlib.Core.Path.{◌≡◌, sym, ◌∙◌, ap}
use native.Mathlib.Omega.{arith}
use native.Mathlib.Nat.{not-suc-le-zero, suc-mul, le-div_iff_mul-le, div-le_self, div-mul-le_self}
use Prim.Native.Nat.{ℕ, suc, ◌+◌, ◌-◌, ◌*◌, ◌/◌, ◌≤◌}
use Rattle.cycles.specs.Cycles.{Jumps}
use Rattle.cycles.proofs.jumps.Goals as goal

-- All whole cycles but the last, where there are two or more.
some : (cycle left : ℕ) → 1 ≤ cycle → 2 * cycle ≤ left → (1 ≤ left / cycle) × Jumps cycle left (left / cycle - 1)
some cycle left pos room =
    let two : 2 ≤ left / cycle = (le-div_iff_mul-le pos).1 room in
    let less : (left / cycle - 1) * cycle + cycle ≡ left / cycle * cycle = one_less (left / cycle) cycle (omega arith) in (
      omega arith,
      record { most = omega (arith, div-le_self left cycle); room = λ l. (pos, omega (arith, div-mul-le_self left cycle)) },
    )
  where
    one_less : (n c : ℕ) → 1 ≤ n → (n - 1) * c + c ≡ n * c
    one_less n c h = let e : n ≡ suc (n - 1) = omega arith in sym (ap (λ (x : ℕ). x * c) e ∙ suc-mul (n - 1) c)

none : (cycle left : ℕ) → Jumps cycle left 0
none cycle left = record { most = omega arith; room = λ l. absurd (not-suc-le-zero l) }

pub returns-then-cycle-eq0 : goal.returns-then-cycle-eq0
returns-then-cycle-eq0 c = none c.args.cycle c.args.left

pub returns-then-left-cycle : goal.returns-then-left-cycle
returns-then-left-cycle c = none c.args.cycle c.args.left

pub overflow_sub-result : goal.overflow_sub-result
overflow_sub-result c = (some c.args.cycle c.args.left (omega arith) (omega arith)).0

pub returns : goal.returns
returns c = (some c.args.cycle c.args.left (omega arith) (omega arith)).1
