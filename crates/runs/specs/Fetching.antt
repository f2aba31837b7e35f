-- Which lines an execution executes (document 02, W9: "counted over all nodes with that line"). Definitions only. That these are the lines that a
-- state has as fetched is proved in proofs/Fetched.antt.
use Rattle.std.specs.Prelude.{Bool, false, ◌||◌, List, eqb, ℕ}
use Rattle.runs.specs.Bus.{Bus}
use Rattle.runs.specs.Clock.{Places, State}
use Rattle.runs.specs.Nodes.{Node}
use Rattle.runs.specs.Runs.{Task, places_of, Does, DoesAll, DoesTimes, passes, may_pass, accesses, first_time, later_time, in_order, one_of, repeats, end, next, enough, again}

-- whether line x is fetched in a state
abbrev pub is_fetched : Task → ℕ → State → Bool
is_fetched t x s = (places_of t).hits x s.at

-- whether a node with line x is executed
module _ {b : Bus} {q : Places} {node_at : ℕ → Node} (x : ℕ) where
  unfoldable mutual
    pub executes : {n : ℕ} {s s' : State} → Does b q node_at n s s' → Bool
    executes (passes lo hi d e i j r) = false
    executes (may_pass lo hi d e i j r) = false
    executes (accesses kind lo hi d e i j r) = false
    executes (first_time y lo hi hit d e m i j r f) = eqb y x
    executes (later_time y lo hi hit e h r) = eqb y x
    executes (in_order ns e r) = executes_all r
    executes (one_of ns m e i r) = executes r
    executes (repeats least greatest body test k e i j r) = executes_times r

    pub executes_all : {ns : List ℕ} {s s' : State} → DoesAll b q node_at ns s s' → Bool
    executes_all end = false
    executes_all (next r rs) = executes r || executes_all rs

    pub executes_times : {k body test : ℕ} {s s' : State} → DoesTimes b q node_at k body test s s' → Bool
    executes_times (enough r) = executes r
    executes_times (again rs r t) = executes_times rs || (executes r || executes t)
