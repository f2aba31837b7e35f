use mathlib.Core.Path.{◌≡◌, sym, ◌∙◌}
use native.Mathlib.Nat.{mod-lt}
use native.Mathlib.Omega.{arith}
use lib.ListN.{length, length-set}
use Prim.Native.Nat.{◌+◌, ◌*◌, ◌<◌}
use Rattle.device.specs.Device.{stepped_from, ticked}
use Rattle.device.proofs.Formed.{formed_true}
use Rattle.device.proofs.Sweeps.{swept_more, swept_all}
use Rattle.device.proofs.ticks.ticked_state.Goals as goal

pub invariant_of-cycle : goal.invariant_of-cycle
invariant_of-cycle c =
    let f = formed_true c.args.s c.requires in
    record { slot_most = f.size.slot_most; core_lt = omega arith; offset_lt = omega (arith, f.offset_lt, f.size.period_most) }

pub loop-core-preserved : goal.loop-core-preserved
loop-core-preserved c =
    let rs = c.loop-core.r-items in
    let h : c.loop-core.core < length rs = omega (arith, c.loop-core.invariant.0) in
    (length-set rs c.loop-core.core _ ∙ c.loop-core.invariant.0, rw c.step.ensures (swept_more c.args.s rs c.loop-core.core h) ∙ c.loop-core.invariant.1)

pub nonzero_rem-next : goal.nonzero_rem-next
nonzero_rem-next c = omega (arith, (formed_true c.args.s c.requires).offset_lt)

pub overflow_cast-result : goal.overflow_cast-result
overflow_cast-result c =
    let s = c.args.s in
    let f = formed_true s c.requires in
    let pos : 0 < s.cores * s.slot = omega (arith, f.offset_lt) in
    omega (arith, mod-lt (s.offset + 1) pos, f.size.period_most)

pub returns : goal.returns
unfolding ticked
returns c =
    let s = c.args.s in
    let e : c.loop-core.r-items ≡ stepped_from s 0 s.registers =
    sym (swept_all s c.loop-core.r-items c.loop-core.core (omega arith)) ∙ c.loop-core.invariant.1 in
    rw e
