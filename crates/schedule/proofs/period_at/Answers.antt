use mathlib.Core.Path.{◌≡◌, sym, ◌∙◌}
use native.Mathlib.Omega.{arith}
use Prim.Native.Nat.{◌*◌}
use Rattle.schedule.specs.Said.{said}
use Rattle.schedule.proofs.Sayings.{turns_period, slots_period, slots_tag, said_small}
use Rattle.schedule.proofs.period_at.Goals as goal

pub returns-then-byte-eq9 : goal.returns-then-byte-eq9
returns-then-byte-eq9 c =
    let e = sym c.byte.ensures.0 ∙ c.if-byte-eq9.true in
    let z = rw c.word.ensures.0 at c.sum_of.ensures ∙ sym (turns_period c.args.image.now e) in
    (z, omega (arith, z, (said_small c.args.image.now c.requires).0))

pub returns : goal.returns
returns c =
    let e = slots_tag c.args.image.now c.requires (λ q. c.if-byte-eq9.false (c.byte.ensures.0 ∙ q)) in
    let z : c.byte-2.result * c.byte-3.result ≡ (said c.args.image.now).period = rw (c.byte-2.ensures.0, c.byte-3.ensures.0) (sym (slots_period c.args.image.now e)) in
    (z, omega (arith, z, (said_small c.args.image.now c.requires).0))
