use Prim.Native.Nat.{ℕ, ◌+◌, ◌-◌, ◌*◌, ◌≤◌, ◌<◌, max}
use mathlib.Core.Path.{◌≡◌}
use mathlib.Core.Bool.{false, ◌||◌}
use lib.ListN.{get_or}
use Rattle.runs.specs.Nodes.{visits_all}
use Rattle.runs.specs.Figures.{cost_all, cost_any}
use Rattle.bus.specs.Owning.{bus_meant}
use Rattle.nodes.specs.Nodes.{child_trees}
use Rattle.exits.specs.Exits.{Within}
use Rattle.published.specs.Steps.{bits, after_all, after_any}
use Rattle.published.proofs.+walk.Given as goal

-- The node number, and of a loop the larger of body's and test's with the iterations left.
abbrev pub decreases-branch : goal.decreases-branch
decreases-branch l = 32768 * l.node

abbrev pub decreases-iteration : goal.decreases-iteration
decreases-iteration l = 32768 * max l.body l.test + 3

abbrev pub decreases-iterations : goal.decreases-iterations
decreases-iterations l = 32768 * l.node

abbrev pub decreases-repeat : goal.decreases-repeat
decreases-repeat l = 32768 * l.node + 1

abbrev pub decreases-sequence : goal.decreases-sequence
decreases-sequence l = 32768 * l.node

abbrev pub decreases-unroll : goal.decreases-unroll
decreases-unroll l = 32768 * max l.body l.test + 4 + l.left

abbrev pub decreases-walk : goal.decreases-walk
decreases-walk l = 32768 * l.node + 2

-- ---- branch
abbrev pub invariant-branch-loop-i : goal.invariant-branch-loop-i
invariant-branch-loop-i l =
    (visits_all (child_trees l.task.image.now (l.place + 2 * l.i) (l.count - l.i)) ≤ 100000)
    × Within l.task.walk.bus.period l.out
    × ((o : ℕ) → o < l.task.walk.bus.period
    → (get_or (bits l.task.walk.bus l.out) o false || after_any l.task.walk.bus (child_trees l.task.image.now (l.place + 2 * l.i) (l.count - l.i)) (bits l.task.walk.bus l.s) o)
    ≡ after_any l.task.walk.bus (child_trees l.task.image.now l.place l.count) (bits l.task.walk.bus l.s) o)
    × (max l.cost (cost_any (bus_meant l.task.walk.bus) (child_trees l.task.image.now (l.place + 2 * l.i) (l.count - l.i)) (bits l.task.walk.bus l.s))
    ≡ cost_any (bus_meant l.task.walk.bus) (child_trees l.task.image.now l.place l.count) (bits l.task.walk.bus l.s))

-- ---- sequence
abbrev pub invariant-sequence-loop-i : goal.invariant-sequence-loop-i
invariant-sequence-loop-i l =
    (l.cost + 65535 * visits_all (child_trees l.task.image.now (l.place + 2 * l.i) (l.count - l.i)) ≤ 6553500000)
    × Within l.task.walk.bus.period l.cur
    × (after_all l.task.walk.bus (child_trees l.task.image.now (l.place + 2 * l.i) (l.count - l.i)) (bits l.task.walk.bus l.cur) ≡ after_all l.task.walk.bus (child_trees l.task.image.now l.place l.count) (bits l.task.walk.bus l.initial.cur))
    × (l.cost + cost_all (bus_meant l.task.walk.bus) (child_trees l.task.image.now (l.place + 2 * l.i) (l.count - l.i)) (bits l.task.walk.bus l.cur)
    ≡ cost_all (bus_meant l.task.walk.bus) (child_trees l.task.image.now l.place l.count) (bits l.task.walk.bus l.initial.cur))
