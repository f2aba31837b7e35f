use native.Mathlib.Omega.{arith}
use Prim.Native.Nat.{◌≤◌}
use lib.ListN.{length}
use Rattle.text.specs.Text.{decimal, last_item, line}
use Rattle.text.proofs.Decimal.{decimal_most, offset_most}
use Rattle.text.proofs.Lines.{exit_none, exit_some, last_length}
use Rattle.text.proofs.Puts.{puts_none, puts_both}
use Rattle.text.proofs.Page.exit.Goals as goal

-- A place with no time puts nothing, which is its `exit_line`; any other puts the offset and the last item. At most 3 digits, 20 digits and 2 bytes: 25.
pub number-requires : goal.number-requires
number-requires c = omega (arith, offset_most c.args.offset c.requires.0)

pub last-requires : goal.last-requires
last-requires c =
    let a = c.args in
    omega (arith, offset_most a.offset c.requires.0, decimal_most a.time c.ranges.time.fits, last_length a.time)

pub returns : goal.returns
unfolding line
returns c =
    let a = c.args in
    let p = a.self.now in
    let h : p.at ≤ length p.out.now = omega arith in
    rw (exit_some a.offset a.time (λ q. omega arith))
    (puts_both (decimal a.offset) (last_item a.time) h c.number.ensures c.last.ensures)

pub returns-then-time-eq-NO_TIME : goal.returns-then-time-eq-NO_TIME
returns-then-time-eq-NO_TIME c =
    let a = c.args in
    rw (exit_none a.offset a.time (omega arith)) (puts_none a.self.now)
