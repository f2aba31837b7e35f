use Rattle.bus.proofs.Aheads.{parted, gap_in}
use Rattle.bus.proofs.LoneStretch.{alone, gap_inside, gap_outside}
use native.Mathlib.Omega.{arith}
use Rattle.bus.proofs.gap.Goals as goal

-- Round to the begin of the one stretch, or to the first owned offset; there is one.
pub returns-then-gone-only : goal.returns-then-gone-only
returns-then-gone-only c =
    let since = c.since-gone in
    gap_inside c.args.b _ (alone c.args.b c.requires.0 _ c.in-Some.is) c.args.a since.result since.ensures.0 since.ensures.1 (omega (arith, c.if-gone-only.true))

pub returns-else-gone-only : goal.returns-else-gone-only
returns-else-gone-only c =
    let since = c.since-gone in
    gap_outside c.args.b _ (alone c.args.b c.requires.0 _ c.in-Some.is) c.args.a since.result since.ensures.0 since.ensures.1 (omega (arith, c.if-gone-only.false))

pub returns : goal.returns
returns c = (gap_in (parted c.args.b c.requires.0) c.args.a c.ahead.result c.requires.1 c.ahead.ensures, c.ahead.ensures)
