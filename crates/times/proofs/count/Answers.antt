use native.Mathlib.Omega.{arith}
use mathlib.Core.Path.{◌≡◌}
use Prim.Native.Nat.{◌<◌}
use native.Mathlib.Numerals.{add-one}
use Rattle.std.proofs.lemmas.List.{get_or-take, length-take-le}
use Rattle.times.specs.Arrays.{table_of}
use Rattle.times.proofs.Counts.{reached_none, reached_more}
use Rattle.times.proofs.count.Goals as goal

pub loop-x-init : goal.loop-x-init
loop-x-init c = (omega arith, omega (arith, reached_none (table_of c.args.n c.args.t.now)))

pub loop-x-preserved : goal.loop-x-preserved
loop-x-preserved c =
    let a = c.args in
    let l = c.loop-x in
    let low : l.x-index < a.n = omega (arith, length-take-le a.n a.t.now c.requires.0) in
    let more = reached_more a.n a.t.now l.x-index l.without low c.requires.1 l.invariant.1 in
    rw (get_or-take a.n a.t.now l.x-index 0 low) (omega (arith, more), rw add-one more)

pub returns : goal.returns
returns c =
    let a = c.args in
    let l = c.loop-x in
    let all : l.x-index ≡ a.n = omega (arith, length-take-le a.n a.t.now c.requires.0) in
    omega (arith, rw all at l.invariant.1)
