use Rattle.runs.specs.Nodes.{deepest, visits_all}
use Rattle.nodes.specs.Nodes.{child_trees}
use mathlib.Core.Path.{◌≡◌}
use Prim.Native.Nat.{◌+◌, ◌-◌, ◌*◌, ◌≤◌, min, max}
use Rattle.nodes.proofs.weigh.over_children.Given as goal

-- The invariant: the greatest depth so far, with what is left, is the greatest of all, and the sum so far, with what is left, the whole sum; both
-- up to the caps.
abbrev pub invariant-loop-i : goal.invariant-loop-i
invariant-loop-i l =
    (l.best ≤ 25) × (l.sum ≤ 100001 * l.i)
    × (max l.best (min 25 (deepest (child_trees l.image (l.c.place + 2 * l.i) (l.c.count - l.i)))) ≡ min 25 (deepest (child_trees l.image l.c.place l.c.count)))
    × (min 100001 (l.sum + visits_all (child_trees l.image (l.c.place + 2 * l.i) (l.c.count - l.i))) ≡ min 100001 (visits_all (child_trees l.image l.c.place l.c.count)))
