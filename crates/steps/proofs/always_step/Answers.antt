use native.Mathlib.Omega.{arith}
use lib.ListN.{get_or-replicate}
use Prim.Native.Nat.{◌<◌}
use Rattle.runs.proofs.SchedulesLaws.{most_le}
use Rattle.bus.specs.Owning.{owns}
use Rattle.times.specs.Arrays.{no_time}
use Rattle.steps.proofs.Steps.{always_on, whole_always}
use Rattle.starting.proofs.EveryNow.{now_all}
use borrow.Author.Rules.{rules}
use Rattle.steps.proofs.always_step.Goals as goal

-- What starts at once, with what waits; where the core owns every offset, every access starts at once.
-- a bus whose longest access is not the period has an offset that is not owned
pub returns-then-b : goal.returns-then-b
returns-then-b c =
    let a = c.args in
    whole_always a.b a.lo a.hi _ c.requires (omega (arith, c.if-b.true)) _ c.plain_wide.ensures.1

pub now_all-requires : goal.now_all-requires
now_all-requires c =
    let a = c.args in
    let p = c.requires in
    let less : a.b.most < a.b.period = omega (arith, p.fit.longest, most_le a.b.period (owns a.b), c.if-b.false) in
    (p.fit, less, p.least, p.order, omega (arith, p.short), p.fits, search rules, p.long)

pub arrive_all-requires : goal.arrive_all-requires
arrive_all-requires c =
    let a = c.args in
    let p = c.requires in
    let less : a.b.most < a.b.period = omega (arith, p.fit.longest, most_le a.b.period (owns a.b), c.if-b.false) in
    (p.fit, less, p.least, p.order, omega (arith, p.short), p.fits, c.now_all.ensures.0, p.long)

pub returns : goal.returns
returns c =
    let a = c.args in
    let p = c.requires in
    let less : a.b.most < a.b.period = omega (arith, p.fit.longest, most_le a.b.period (owns a.b), c.if-b.false) in
    always_on a.b a.lo a.hi _ p _ _
    (now_all a.b.period (owns a.b) a.b.first (p.fit.begins less) _ a.lo a.hi _ _ p.least (λ q l. get_or-replicate 256 q no_time 0 (omega (arith, p.fit.most)))
    c.now_all.ensures.1)
    c.arrive_all.ensures.1
