use Prim.Native.Nat.{◌<◌}
use Rattle.exits.proofs.Ready.{most_in}
use Rattle.exits.proofs.Blocks.{always_exited, whole_always}
use native.Mathlib.Omega.{arith}
use Rattle.exits.proofs.access_exits.Goals as goal
use Rattle.exits.proofs.access_exits.Goals.{Else-b}

-- some offset is not owned
part : (c : Else-b) → (let b = c.args.b in b.most < b.period)
part c =
    let a = c.args in
    omega (arith, most_in a.b a.lo a.hi a.s c.requires, c.if-b.false)

pub returns-then-b : goal.returns-then-b
returns-then-b c =
    let a = c.args in
    whole_always a.b a.lo a.hi a.s c.requires c.turn_range.result (omega (arith, c.if-b.true)) c.turn_range.ensures

pub starting-requires : goal.starting-requires
starting-requires c = (c.requires, part c)

pub waiting-requires : goal.waiting-requires
waiting-requires c = (c.requires, part c.before)

pub returns : goal.returns
returns c =
    let a = c.args in
    let now = c.starting in
    let later = c.waiting in
    always_exited a.b a.lo a.hi a.s c.requires now.result later.result c.join.result c.join.ensures now.ensures later.ensures
