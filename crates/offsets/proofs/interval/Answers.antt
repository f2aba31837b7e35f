use mathlib.Core.Path.{sym, ◌∙◌, ap, ap₂, subst}
use native.Mathlib.Omega.{arith}
use lib.Bits.{bit_or}
use Prim.Native.Nat.{ℕ, ◌*◌, ◌%◌, ◌^◌}
use Rattle.offsets.specs.Sets.{Interval}
use Rattle.offsets.proofs.Intervals.{interval_here, interval_round}
use Rattle.offsets.proofs.interval.Goals as goal

pub returns-then-k-n : goal.returns-then-k-n
returns-then-k-n c =
    let a = c.args in
    let e = c.up.ensures ∙ ap (λ (x : ℕ). (x * 2 ^ a.k) % 2 ^ 256) c.below.ensures in
    subst (Interval a.p a.k a.n) (sym e) (interval_here a.p a.k a.n c.requires.0 (omega (arith, c.if-k-n.true)) c.requires.2)

pub returns : goal.returns
returns c =
    let a = c.args in
    let e = c.join.ensures
    ∙ ap₂ bit_or (c.up-2.ensures ∙ ap (λ (x : ℕ). (x * 2 ^ a.k) % 2 ^ 256) c.below-2.ensures) c.below-3.ensures in
    subst (Interval a.p a.k a.n) (sym e) (interval_round a.p a.k a.n c.requires.0 c.requires.1 (omega (arith, c.if-k-n.false)) c.requires.2)
