use native.Mathlib.Omega.{arith}
use mathlib.Core.List.{◌++◌}
use Prim.Native.Nat.{◌≤◌}
use lib.ListN.{length}
use Rattle.text.specs.Text.{codes, decimal, last_item, refused_line}
use Rattle.text.proofs.Lines.{last_length, refused_length}
use Rattle.text.proofs.Puts.{puts_both}
use Rattle.text.proofs.Page.refused.Goals as goal

-- The word with its space, the number and the last item are put one after the other, and together they are the refusal's line.
pub text-requires : goal.text-requires
text-requires c = let a = c.args in omega (arith, refused_length a.number a.place)

pub number-requires : goal.number-requires
number-requires c = let a = c.args in omega (arith, refused_length a.number a.place)

pub last-requires : goal.last-requires
last-requires c = let a = c.args in omega (arith, refused_length a.number a.place, last_length a.place)

pub returns : goal.returns
unfolding refused_line
returns c =
    let a = c.args in
    let p = a.self.now in
    let h : p.at ≤ length p.out.now = omega (arith, refused_length a.number a.place) in
    let n = decimal a.number in
    puts_both (codes "refused " ++ n) (last_item a.place) h (puts_both (codes "refused ") n h c.text.ensures c.number.ensures) c.last.ensures
