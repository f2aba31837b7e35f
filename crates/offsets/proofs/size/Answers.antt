use mathlib.Core.Path.{subst}
use native.Mathlib.Nat.{zero-add}
use native.Mathlib.Omega.{arith}
use Prim.Native.Nat.{ℕ, ◌+◌, ◌*◌, ◌^◌}
use Rattle.offsets.specs.Sets.{four, Sized}
use Rattle.offsets.proofs.Extremes.{sized_none}
use Rattle.offsets.proofs.size.Goals as goal

pub returns : goal.returns
unfolding four
returns c =
    let s = c.args.s in
    let B = 2 ^ 64 in
    let x₃ = c.bits.ensures.1 0 sized_none in
    let x₂ = c.bits-2.ensures.1 (0 + s.w3) x₃ in
    let x₁ = c.bits-3.ensures.1 ((0 + s.w3) * B + s.w2) x₂ in
    let x₀ = c.bits-4.ensures.1 (((0 + s.w3) * B + s.w2) * B + s.w1) x₁ in
    (omega arith, subst (λ (x : ℕ). Sized (((x * B + s.w2) * B + s.w1) * B + s.w0) c.bits-4.result) (zero-add s.w3) x₀)
