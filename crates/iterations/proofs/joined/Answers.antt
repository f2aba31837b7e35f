use mathlib.Core.Path.{refl}
use Rattle.iterations.proofs.Exits.{turned_joined, turned_only}
use Rattle.iterations.proofs.joined.Goals as goal

pub returns-then-least-done : goal.returns-then-least-done
returns-then-least-done c =
    let a = c.args in
    (c.join.ensures.0, (turned_joined a.n a.least a.done a.out.now a.next.now _ c.if-least-done.true c.join.ensures.1))

pub returns-else-least-done : goal.returns-else-least-done
returns-else-least-done c =
    let a = c.args in
    (refl, (turned_only a.n a.least a.done a.out.now a.next.now c.if-least-done.false))
