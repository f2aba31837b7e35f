use Rattle.offsets.specs.Sets.{value}
use Rattle.bus.proofs.Aheads.{ahead_here, ahead_again}
use native.Mathlib.Omega.{arith}
use Rattle.bus.proofs.ahead.Goals as goal

pub returns-then-here-period : goal.returns-then-here-period
returns-then-here-period c = (ahead_here c.args.period (value c.args.s) c.args.x c.lowest-here.result c.requires.0 c.requires.1 c.lowest-here.ensures c.if-here-period.true).1

pub returns : goal.returns
returns c =
    let low = c.lowest-here in
    ahead_again c.args.period (value c.args.s) c.args.x low.result c.requires.0 c.requires.1 low.ensures
    (omega (arith, c.if-here-period.false)) c.lowest-again.result c.lowest-again.ensures (omega (arith, c.if-x-again.false)) _ (omega (arith, c.requires.0))
