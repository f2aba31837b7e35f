use Prim.Native.Nat.{ℕ, ◌+◌, ◌-◌, ◌*◌, ◌<◌, max}
use mathlib.Core.Path.{◌≡◌}
use mathlib.Core.Option.{none}
use lib.ListN.{length, get_or}
use Rattle.runs.specs.Nodes.{visits_all}
use Rattle.runs.specs.Figures.{longer}
use Rattle.nodes.specs.Nodes.{child_trees}
use Rattle.tight.specs.Steps.{size_of, table, after_all, after_any, Roomy}
use Rattle.tight.proofs.+walk.Given as goal

-- The node number, and of a loop the larger of body's and test's with the iterations left.
abbrev pub decreases-arms : goal.decreases-arms
decreases-arms l = 32768 * l.node

abbrev pub decreases-branch : goal.decreases-branch
decreases-branch l = 32768 * l.node + 2

abbrev pub decreases-iteration : goal.decreases-iteration
decreases-iteration l = 32768 * max l.body l.test + 4

abbrev pub decreases-repeat : goal.decreases-repeat
decreases-repeat l = 32768 * l.node + 2

abbrev pub decreases-sequence : goal.decreases-sequence
decreases-sequence l = 32768 * l.node

abbrev pub decreases-turns : goal.decreases-turns
decreases-turns l = 32768 * l.node

abbrev pub decreases-unroll : goal.decreases-unroll
decreases-unroll l = 32768 * max l.body l.test + 5 + l.left

abbrev pub decreases-walk : goal.decreases-walk
decreases-walk l = 32768 * l.node + 3

abbrev pub decreases-wide_branch : goal.decreases-wide_branch
decreases-wide_branch l = 32768 * l.node + 1

abbrev pub decreases-wide_turns : goal.decreases-wide_turns
decreases-wide_turns l = 32768 * l.node + 1

-- ---- arms
abbrev pub invariant-arms-loop-i : goal.invariant-arms-loop-i
invariant-arms-loop-i l =
    (length l.out ≡ length l.initial.out) × (length l.arm ≡ length l.initial.arm)
    × Roomy l.task.walk (65535 * visits_all (child_trees l.task.image.now (l.place + 2 * l.i) (l.count - l.i))) (table l.task.walk l.t)
    × ((o : ℕ) → o < size_of l.task.walk
    → longer (get_or (table l.task.walk l.out) o none) (after_any l.task.walk (child_trees l.task.image.now (l.place + 2 * l.i) (l.count - l.i)) (table l.task.walk l.t) o)
    ≡ after_any l.task.walk (child_trees l.task.image.now l.place l.count) (table l.task.walk l.t) o)

-- ---- sequence
abbrev pub invariant-sequence-loop-i : goal.invariant-sequence-loop-i
invariant-sequence-loop-i l =
    (length l.t ≡ length l.initial.t)
    × Roomy l.task.walk (65535 * visits_all (child_trees l.task.image.now (l.place + 2 * l.i) (l.count - l.i))) (table l.task.walk l.t)
    × (after_all l.task.walk (child_trees l.task.image.now (l.place + 2 * l.i) (l.count - l.i)) (table l.task.walk l.t) ≡ after_all l.task.walk (child_trees l.task.image.now l.place l.count) (table l.task.walk l.initial.t))
