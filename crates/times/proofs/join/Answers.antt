use mathlib.Core.Path.{◌≡◌}
use native.Mathlib.Omega.{arith}
use lib.ListN.{get_or, take, drop}
use mathlib.Core.List.{◌++◌}
use Rattle.std.proofs.lemmas.Grind.{common_steps}
use Rattle.std.proofs.lemmas.List.{get_or-take, length-take-le}
use Rattle.times.proofs.Tables.{joined_all}
use Rattle.times.proofs.join.Goals as goal

pub returns : goal.returns
returns c =
    let a = c.args in
    let l = c.loop-o in
    let many = length-take-le a.n a.out.now c.requires.0 in (
      grind (arith, common_steps),
      joined_all a.n a.out.now a.b.now (l.x-items ++ drop a.n a.out.now) (λ i h.
          let here : get_or (l.x-items ++ drop a.n a.out.now) i 0 ≡ get_or l.x-items i 0 = grind (arith, common_steps) in
          let was : get_or (take a.n a.out.now) i 0 ≡ get_or a.out.now i 0 = get_or-take a.n a.out.now i 0 h in
          rw (here, ← was) (l.invariant.0 i (omega (arith, many)))),
    )
