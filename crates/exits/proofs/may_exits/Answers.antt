use Rattle.exits.proofs.Ready.{hi_small}
use Rattle.exits.proofs.Blocks.{may_exited, whole_may}
use native.Mathlib.Omega.{arith}
use Rattle.exits.proofs.may_exits.Goals as goal
use Rattle.exits.proofs.may_exits.Goals.{Start}

-- The join of a plain block's exits and the ends of the accesses that wait (`may_exited`); where every offset is owned none waits.
pub turn_range-passed-requires : goal.turn_range-passed-requires
turn_range-passed-requires c =
    let s : Start = c in
    let a = s.args in
    let r = s.requires in
    (r.fit.least, r.fit.most, r.within, r.ordered, omega (arith, hi_small a.b a.lo a.hi a.s r))

pub returns-then-b : goal.returns-then-b
returns-then-b c =
    let a = c.args in
    let passed = c.turn_range-passed in
    may_exited a.b a.lo a.hi a.s c.requires passed.result c.waiting.result c.join.result c.join.ensures passed.ensures c.waiting.ensures

pub returns : goal.returns
returns c =
    let a = c.args in
    let passed = c.turn_range-passed in
    whole_may a.b a.lo a.hi a.s c.requires passed.result (omega (arith, c.if-b.false)) passed.ensures
