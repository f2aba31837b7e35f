use mathlib.Core.Path.{◌≡◌, ◌∙◌, ap, subst}
use native.Mathlib.Nat.{zero-add}
use native.Mathlib.Omega.{arith}
use lib.Count.{count_trailing_zeros}
use Prim.Native.Nat.{ℕ, ◌+◌, ◌*◌, ◌/◌, ◌^◌}
use Rattle.offsets.specs.Sets.{four, value, Lowest}
use Rattle.offsets.proofs.Extremes.{lowest_none, lowest_zeros, lowest_here, lowest_above, lowest_from}
use borrow.Author.Rules.{rules}
use Rattle.offsets.proofs.lowest.Goals as goal

pub returns-then-near-lt64 : goal.returns-then-near-lt64
unfolding four
returns-then-near-lt64 c =
    let a = c.args in
    let down = c.down-t in
    let t = down.result in
    let here = count_trailing_zeros 64 t.w0 in
    lowest_from (value a.s) a.k 256 here
    (subst (λ (n : ℕ). Lowest n 0 256 here) down.ensures (lowest_here 64 ((t.w3 * 2 ^ 64 + t.w2) * 2 ^ 64 + t.w1) t.w0 192 here (omega arith) (lowest_zeros 64 t.w0)))

pub returns : goal.returns
unfolding four
returns c =
    let a = c.args in
    let down = c.down-t in
    let t = down.result in
    let B = 2 ^ 64 in
    let h = (0 + t.w3) * B + t.w2 in
    let here = count_trailing_zeros 64 t.w0 in
    let x₃ = c.zeros.ensures.1 0 0 (lowest_none 0) in
    let x₂ = c.zeros-2.ensures.1 (0 + t.w3) 64 x₃ in
    let x₁ = c.zeros-3.ensures.1 h 128 x₂ in
    let e : (h * B + t.w1) * B + t.w0 ≡ value a.s / 2 ^ a.k =
    ap (λ (x : ℕ). ((x * B + t.w2) * B + t.w1) * B + t.w0) (zero-add t.w3) ∙ down.ensures in
    let x₀ = lowest_above 64 (h * B + t.w1) t.w0 192 c.zeros-3.result here (search rules) (omega arith) (lowest_zeros 64 t.w0) x₁ in
    lowest_from (value a.s) a.k 256 (c.zeros-3.result + 64) (subst (λ (n : ℕ). Lowest n 0 256 (c.zeros-3.result + 64)) e x₀)
