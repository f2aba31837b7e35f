use native.Mathlib.Omega.{arith}
use mathlib.Core.Path.{◌≡◌, refl}
use lib.ListN.{length-set}
use Prim.Native.Nat.{◌+◌}
use Rattle.graph.specs.Graph.{Permitted, finish}
use Rattle.graph.specs.Table.{graph_of}
use Rattle.graph.proofs.Schedules.{finish_most}
use Rattle.graph.proofs.Tables.{finishes_are}
use Rattle.graph.proofs.Filling.{empty, one_more, latest_is, end_is}
use Rattle.graph.proofs.ends_of.Goals as goal
use Rattle.graph.proofs.ends_of.Goals.{After-latest}

-- where `latest` has answered: the entry in hand, and that its time and that answer make its finish
in_hand : (c : After-latest) → Permitted c.loop-i.i (graph_of c.args.table.now c.loop-i.i)
in_hand c = c.requires.entries c.loop-i.i (omega arith)

sum_is : (c : After-latest)
    → (graph_of c.args.table.now c.loop-i.i).time + c.latest.result ≡ finish (graph_of c.args.table.now) c.loop-i.i
sum_is c =
    let l = c.loop-i in
    let s = c.args.table.now in
    end_is (graph_of s) l.i l.ends l.last l.invariant.filled c.args.n c.requires.entries (omega arith) c.latest.result
    (latest_is s l.ends _ (graph_of s l.i).count _ c.latest.result (omega (arith, (in_hand c).few)) c.latest.ensures)

pub loop-i-init : goal.loop-i-init
loop-i-init c =
    let size = c.requires.size in
    record { most = size.most; rows = omega (arith, size.rows); ends_long = refl; last_long = refl; filled = empty _ }

-- so the sum does not wrap
pub overflow_add-end-in-loop-i : goal.overflow_add-end-in-loop-i
overflow_add-end-in-loop-i c =
    omega (arith, sum_is c, finish_most (graph_of c.args.table.now) c.args.n c.requires.entries c.loop-i.i (omega arith))

pub loop-i-preserved : goal.loop-i-preserved
loop-i-preserved c =
    let l = c.loop-i in
    record {
      most = l.invariant.most;
      rows = l.invariant.rows;
      ends_long = simp length-set l.invariant.ends_long;
      last_long = simp length-set l.invariant.last_long;
      filled =
          one_more _ l.i l.ends l.last l.invariant.filled _ l.invariant.ends_long l.invariant.last_long (omega arith)
          (omega (arith, (in_hand c).core_most)) (sum_is c);
    }

pub returns : goal.returns
returns c =
    let l = c.loop-i in
    finishes_are c.args.table.now c.args.n c.requires l.ends l.invariant.ends_long
    (λ i h. l.invariant.filled.done i (omega arith)) (λ i h m. l.invariant.filled.rest i (omega arith) m)
