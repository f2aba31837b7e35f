use mathlib.Core.List.{[], ◌∷◌}
use Prim.Native.Nat.{◌≤◌}
use lib.ListN.{length}
use native.Mathlib.Omega.{arith}
use Rattle.text.specs.Text.{decimal, last_item}
use Rattle.text.proofs.Lines.{last_length}
use Rattle.text.proofs.Puts.{puts_both}
use Rattle.text.proofs.Page.last.Goals as goal

-- The space, the digits and the line feed are put one after the other, and together they are `last_item`; the room asked is their length.
pub text-requires : goal.text-requires
text-requires c = omega (arith, last_length c.args.n)

pub number-requires : goal.number-requires
number-requires c = omega (arith, last_length c.args.n)

pub text-requires-2 : goal.text-requires-2
text-requires-2 c = omega (arith, last_length c.args.n)

pub returns : goal.returns
unfolding last_item
returns c =
    let p = c.args.self.now in
    let h : p.at ≤ length p.out.now = omega (arith, last_length c.args.n) in
    let n = decimal c.args.n in
    puts_both (32 ∷ n) (10 ∷ []) h (puts_both (32 ∷ []) n h c.text.ensures c.number.ensures) c.text-2.ensures
