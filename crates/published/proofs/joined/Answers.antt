use Rattle.published.proofs.Joins.{turned_joined, turned_only}
use Rattle.published.proofs.joined.Goals as goal

pub returns-then-least-done : goal.returns-then-least-done
returns-then-least-done c =
    let a = c.args in
    λ b. turned_joined b a.least a.done a.p a.n c.join.result c.if-least-done.true c.join.ensures

pub returns : goal.returns
returns c = let a = c.args in λ b. turned_only b a.least a.done a.p a.n c.if-least-done.false
