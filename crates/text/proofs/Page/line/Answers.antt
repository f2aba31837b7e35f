use native.Mathlib.Omega.{arith}
use Prim.Native.Nat.{◌≤◌}
use lib.ListN.{length}
use Rattle.text.specs.Text.{last_item, line}
use Rattle.text.proofs.Lines.{last_length, line_length}
use Rattle.text.proofs.Puts.{puts_both}
use Rattle.text.proofs.Page.line.Goals as goal

-- The word and the last item are put one after the other, and together they are the line; the room asked is their length.
pub text-requires : goal.text-requires
text-requires c = let a = c.args in omega (arith, line_length a.word.now a.n)

pub last-requires : goal.last-requires
last-requires c = let a = c.args in omega (arith, line_length a.word.now a.n, last_length a.n)

pub returns : goal.returns
unfolding line
returns c =
    let a = c.args in
    let p = a.self.now in
    let h : p.at ≤ length p.out.now = omega (arith, line_length a.word.now a.n) in
    puts_both a.word.now (last_item a.n) h c.text.ensures c.last.ensures
