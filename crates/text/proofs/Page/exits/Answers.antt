use native.Mathlib.Numerals.{add-one}
use mathlib.Core.Path.{◌≡◌}
use Prim.Native.Nat.{◌≤◌}
use lib.ListN.{length, get_or}
use native.Mathlib.Omega.{arith}
use Rattle.text.specs.Text.{exit_lines, exit_line}
use Rattle.text.proofs.Lines.{exit_most}
use Rattle.text.proofs.Puts.{puts_none, puts_both}
use Rattle.text.proofs.Page.exits.Goals as goal

pub loop-o-init : goal.loop-o-init
unfolding exit_lines
loop-o-init c = record { short = omega arith; put = puts_none c.args.self.now }

pub loop-o-preserved : goal.loop-o-preserved
unfolding exit_lines
loop-o-preserved c =
    let a = c.args in
    let l = c.loop-o in
    let time = get_or a.table.now l.o 0 in
    let short : length (exit_line l.o time) ≤ 25 = exit_most l.o time (omega arith) (omega arith) in
    record {
      short = omega arith;
      put = rw add-one (puts_both (exit_lines l.o a.table.now) (exit_line l.o time) (omega arith) l.invariant.put c.exit.ensures);
    }

pub returns : goal.returns
returns c =
    let e : c.loop-o.o ≡ c.args.period = omega arith in
    rw e at c.loop-o.invariant.put
