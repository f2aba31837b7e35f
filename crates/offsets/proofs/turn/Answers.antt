use mathlib.Core.Path.{◌∙◌, ap, ap₂}
use Prim.Native.Nat.{ℕ, ◌%◌, ◌^◌}
use lib.Bits.{bit_or}
use Rattle.offsets.specs.Sets.{value}
use Rattle.offsets.proofs.Rotation.{turn_rotated, rotated_turned}
use Rattle.offsets.proofs.turn.Goals as goal

pub returns : goal.returns
returns c =
    let a = c.args in
    c.join.ensures
    ∙ ap₂ bit_or
    (c.cut.ensures ∙ ap (λ (x : ℕ). x % 2 ^ a.p) c.up.ensures)
    c.down.ensures
    ∙ turn_rotated a.p a.d (value a.s) c.requires.0 c.requires.1 c.requires.2
    ∙ rotated_turned a.p a.d (value a.s) c.requires.0 c.requires.2
