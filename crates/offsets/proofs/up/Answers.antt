use mathlib.Core.Path.{◌≡◌, ◌∙◌}
use native.Mathlib.Omega.{arith}
use Prim.Native.Nat.{◌+◌, ◌-◌, ◌*◌}
use Rattle.offsets.specs.Sets.{value}
use Rattle.offsets.proofs.Shifts.{up_again}
use Rattle.offsets.proofs.up.Goals as goal

pub loop-preserved : goal.loop-preserved
loop-preserved c =
    let l = c.loop in
    let left = c.args.k - 64 * l.counter in
    let e : c.args.k - 64 * (l.counter + 1) ≡ left - 64 = omega arith in
    rw (c.up_word-t.ensures, e) (up_again (value l.t) left (omega arith) ∙ l.invariant)
