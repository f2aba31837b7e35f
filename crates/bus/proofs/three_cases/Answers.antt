use mathlib.Core.Path.{sym}
use native.Mathlib.Omega.{arith}
use Rattle.bus.proofs.LoneWaits.{lone_most, case_before, case_inside, case_after}
use Rattle.bus.proofs.three_cases.Goals as goal

pub returns-then-o-first : goal.returns-then-o-first
returns-then-o-first c =
    let p = c.requires in
    sym (case_before c.args.b p.0 c.args.only p.1 c.args.e c.args.o p.3 p.4 p.5 p.2 (omega (arith, c.if-o-first.true)))

pub overflow_sub-next : goal.overflow_sub-next
overflow_sub-next c = omega (arith, lone_most c.args.b c.requires.0 c.args.only c.requires.1 c.args.e c.requires.3 c.requires.4)

pub returns-then-o-next : goal.returns-then-o-next
returns-then-o-next c =
    let p = c.requires in
    sym (case_inside c.args.b p.0 c.args.only p.1 c.args.e c.args.o p.3 p.4 p.5 p.2 (omega (arith, c.if-o-first.false)) (omega (arith, c.if-o-next.true)))

pub returns : goal.returns
returns c =
    let p = c.requires in
    sym (case_after c.args.b p.0 c.args.only p.1 c.args.e c.args.o p.3 p.4 p.5 p.2 (omega (arith, c.if-o-next.false)))
