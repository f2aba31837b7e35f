use Rattle.std.proofs.Common.{◌≡◌, get_or, max}
use Rattle.runs.specs.Figures.{largest}
use Rattle.graph.proofs.latest.Given as goal

-- Before each turn `best` is the latest of the ends so far and of `previous`.
abbrev pub invariant-loop-w : goal.invariant-loop-w
invariant-loop-w l = l.best ≡ max (largest l.w-index (λ k. get_or l.ends (get_or l.waits k 0) 0)) l.previous
