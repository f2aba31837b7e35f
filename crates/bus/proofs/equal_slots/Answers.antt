use mathlib.Core.Path.{refl, sym, ◌∙◌, ap, subst}
use native.Mathlib.Omega.{arith}
use Prim.Native.Nat.{ℕ, ◌+◌, ◌-◌, ◌*◌, ◌^◌, ◌<◌}
use Rattle.offsets.specs.Sets.{turned_by}
use Rattle.bus.specs.Waits.{slots_of}
use Rattle.bus.proofs.Ranges.{has_slot, within}
use Rattle.bus.proofs.EqualSlots.{ones_in, fit, slotted}
use Rattle.bus.proofs.equal_slots.Goals as goal

-- The slot's offsets, and the others, turned to where they are: the bus of EqualSlots.
pub turn-own-requires : goal.turn-own-requires
turn-own-requires c =
    let v = c.args.v in
    let w = within v c.requires in
    (omega (arith, w, c.requires.slot_least), c.requires.period_most, subst (λ (n : ℕ). n < 2 ^ (v.cores * v.slot)) (sym c.below.ensures) (ones_in v.slot (v.cores * v.slot) (omega (arith, w))))

pub turn-rest-requires : goal.turn-rest-requires
turn-rest-requires c =
    let v = c.args.v in
    let w = within v c.requires in
    (omega (arith, w, c.requires.slot_least), c.requires.period_most, subst (λ (n : ℕ). n < 2 ^ (v.cores * v.slot)) (sym c.below-2.ensures) (ones_in (v.cores * v.slot - v.slot) (v.cores * v.slot) (omega arith)))

pub returns : goal.returns
returns c =
    let v = c.args.v in
    let ok = has_slot v c.requires in
    let own = c.turn-own.ensures ∙ ap (λ (n : ℕ). turned_by (v.cores * v.slot) (v.core * v.slot) n) c.below.ensures in
    let rest = c.turn-rest.ensures ∙ ap (λ (n : ℕ). turned_by (v.cores * v.slot) (v.core * v.slot + v.slot) n) c.below-2.ensures in (
      fit (slots_of v) ok c.requires.cores_least c.requires.period_most _ _ own rest _ refl refl,
      slotted (slots_of v) ok c.requires.cores_least c.requires.period_most _ _ own rest _ refl refl,
    )
