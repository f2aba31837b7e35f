use mathlib.Core.Path.{◌≡◌, ◌∙◌}
use Prim.Native.Nat.{◌<◌}
use native.Mathlib.Omega.{arith}
use lib.ListN.{get_or, take, drop}
use mathlib.Core.List.{◌++◌}
use Rattle.std.proofs.lemmas.Grind.{common_steps}
use Rattle.std.proofs.lemmas.List.{get_or-take, length-take-le}
use Rattle.times.specs.Arrays.{Fits}
use Rattle.times.proofs.Tables.{shifted_all}
use Rattle.times.proofs.all_later.Goals as goal

pub later_by-requires : goal.later_by-requires
unfolding Fits
later_by-requires c =
    let a = c.args in
    let l = c.loop-x in
    let low : l.x-index < a.n = omega (arith, length-take-le a.n a.t.now c.requires.0) in
    let e : get_or l.x-items l.x-index 0 ≡ get_or a.t.now l.x-index 0 = l.invariant.1 l.x-index (omega arith) ∙ get_or-take a.n a.t.now l.x-index 0 low in
    (omega arith, (λ m. omega (arith, e, c.requires.2 l.x-index low (λ z. m (e ∙ z)))))

pub returns : goal.returns
returns c =
    let a = c.args in
    let l = c.loop-x in
    let many = length-take-le a.n a.t.now c.requires.0 in (
      grind (arith, common_steps),
      shifted_all a.n a.t.now a.q (l.x-items ++ drop a.n a.t.now) (λ i h.
          let here : get_or (l.x-items ++ drop a.n a.t.now) i 0 ≡ get_or l.x-items i 0 = grind (arith, common_steps) in
          let was : get_or (take a.n a.t.now) i 0 ≡ get_or a.t.now i 0 = get_or-take a.n a.t.now i 0 h in
          rw (here, ← was) (l.invariant.0 i (omega (arith, many)))),
    )
