use mathlib.Core.Path.{◌≡◌, sym, ◌∙◌}
use mathlib.Core.List.{append-nil}
use native.Mathlib.Omega.{arith}
use borrow.Author.Rules.{rules}
use lib.ListN.{length, get_or, take}
use Prim.Native.Nat.{◌+◌, ◌*◌}
use Rattle.device.specs.Device.{clear}
use Rattle.lent.specs.Bytes.{flat}
use Rattle.lent.proofs.Packing.{three, length_three, core_set, all_set}
use Rattle.lent.proofs.state_bytes.put_state.Goals as goal

pub loop-i-init : goal.loop-i-init
unfolding flat
loop-i-init c =
    let s = c.args.s in
    let e = c.put_three.ensures in
    let long : length s.registers ≡ 16 = search rules in
    (long, rw e (length_three c.args.bytes.now 0 s.cores s.slot s.offset ∙ c.requires), sym (append-nil _))

pub loop-i-preserved : goal.loop-i-preserved
loop-i-preserved c =
    let rs = c.args.s.registers in
    let b = c.loop-i.bytes in
    let i = c.loop-i.i in
    let r = get_or rs i clear in
    let e : c.put_three-in-loop-i.new.bytes ≡ three b (3 + 3 * i) r.length r.flags r.mask = c.put_three-in-loop-i.ensures in (
      c.loop-i.invariant.0,
      rw e (length_three b (3 + 3 * i) r.length r.flags r.mask ∙ c.loop-i.invariant.1),
      rw e (core_set (take 3 c.put_three.new.bytes) b rs i (omega (arith, c.loop-i.invariant.0)) (omega (arith, c.loop-i.invariant.1)) c.loop-i.invariant.2),
    )

pub returns : goal.returns
returns c =
    let s = c.args.s in
    let p = c.put_three in
    all_set s c.args.bytes.now p.new.bytes c.loop-i.bytes c.loop-i.i p.ensures (omega (arith, c.requires))
    c.loop-i.invariant.0 c.loop-i.invariant.1 (omega (arith, c.loop-i.invariant.0)) c.loop-i.invariant.2
