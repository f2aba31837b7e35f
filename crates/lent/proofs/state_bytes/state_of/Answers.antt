use mathlib.Core.Path.{◌≡◌, sym, ◌∙◌, ap, ap₂}
use native.Mathlib.Omega.{arith}
use lib.ListN.{get_or, set, take, drop, length-set}
use lib.Seq.{take_all}
use Prim.Native.Nat.{ℕ, ◌+◌, ◌*◌}
use Rattle.device.specs.declared.Registers.{Registers}
use Rattle.device.specs.Device.{clear}
use Rattle.lent.specs.Bytes.{registers_in, state_of}
use Rattle.lent.proofs.Packing.{core_at, cores_length, core_said, taken_set}
use Rattle.lent.proofs.state_bytes.state_of.Goals as goal

pub loop-i-preserved : goal.loop-i-preserved
loop-i-preserved c =
    let s = c.args.bytes.now in
    let rs = c.loop-i.r-items in
    let i = c.loop-i.i in
    let e : core_at s (3 + 3 * i) ≡ get_or (registers_in (drop 3 s)) i clear = sym (core_said s c.requires i (omega (arith, c.loop-i.invariant.0))) in (
      length-set rs i _ ∙ c.loop-i.invariant.0,
      ap (λ (x : Registers). take (i + 1) (set rs i x))
          (ap₂ (λ (x y : ℕ). record { length = get_or s (3 + 3 * i) 0; flags = get_or s x 0; mask = get_or s y 0 }) (omega arith) (omega arith) ∙ e)
          ∙ taken_set rs (registers_in (drop 3 s)) i (omega (arith, c.loop-i.invariant.0)) (omega (arith, cores_length s c.requires)) c.loop-i.invariant.1,
    )

pub returns : goal.returns
unfolding state_of
returns c =
    let s = c.args.bytes.now in
    let e : c.loop-i.r-items ≡ registers_in (drop 3 s) =
    sym (take_all c.loop-i.i c.loop-i.r-items (omega (arith, c.loop-i.invariant.0)))
    ∙ c.loop-i.invariant.1 ∙ take_all c.loop-i.i (registers_in (drop 3 s)) (omega (arith, cores_length s c.requires)) in
    rw e
