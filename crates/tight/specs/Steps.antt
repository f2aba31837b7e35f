-- What the functions of the tight walk ask and promise each other. Definitions only.
use Rattle.std.specs.Prelude.{◌≡◌, List, length, get_or, ℕ, ◌+◌, ◌-◌, ◌*◌, ◌≤◌, ◌<◌}
use Rattle.std.proofs.Math.Option.{none, some}
use Rattle.runs.specs.Lines.{power}
use Rattle.runs.specs.Clock.{with_lines}
use Rattle.runs.specs.Nodes.{Tree, Trees, visits, visits_all}
use Rattle.runs.specs.Carried.{iterate, join_from, carried_all, carried_any}
use Rattle.runs.specs.Figures.{Time, longer, later, times}
use Rattle.runs.specs.Parts.{Unrolled, shifted}
use Rattle.bus.specs.Owning.{bus_meant, Fit}
use Rattle.nodes.specs.Nodes.{tree_at, child_trees, turn_trees}
use Rattle.image.specs.Walks.{Walkable, NamedChildren}
use Rattle.image.specs.declared.Walk.{Walk}
use Rattle.nodes.specs.declared.Loop.{Loop}
use Rattle.times.specs.Arrays.{table_of, Fits}
use Rattle.lined.specs.Lined.{Numbers, SteppedAll}
use Rattle.lined.specs.declared.Step.TheVariants.{Plain, Always}
use Rattle.cycles.specs.Cycles.{Small, Goes, Watches}
use Rattle.cycles.specs.declared.Watch.{Watch}
use Rattle.iterations.specs.Iterations.{BegunBy, TurnedBy}

-- how many places a task's tables have: a row of a period for each set of lines
abbrev pub size_of : Walk → ℕ
size_of k = power k.outline.lines * k.bus.period

-- an array's table; the table after a tree
abbrev pub table : Walk → List ℕ → List Time
table k t = table_of (size_of k) t

abbrev pub after : Walk → Tree → List Time → List Time
after k x T = times (bus_meant k.bus) (with_lines k.bus.period k.outline.lines) x T

abbrev pub Stepped : Walk → Tree → List ℕ → List ℕ → Type 0
Stepped k x t r = table k r ≡ after k x (table k t)

-- the tables after the trees in order, and after any one of them at a place
abbrev pub after_all : Walk → Trees → List Time → List Time
after_all k xs T = carried_all (bus_meant k.bus) (with_lines k.bus.period k.outline.lines) none longer later xs T

abbrev pub after_any : Walk → Trees → List Time → ℕ → Time
after_any k xs T o = carried_any (bus_meant k.bus) (with_lines k.bus.period k.outline.lines) none longer later xs T o

-- every time of the table may grow by m and stays at most 2^60
pub record Roomy (k : Walk) (m : ℕ) (T : List Time) : Type 0 where
  pub most : m ≤ 1152921504606846976
  pub grows : (o c : ℕ) → o < size_of k → get_or T o none ≡ some c → c + m ≤ 1152921504606846976

-- an array as long as t whose table is t's after the tree
abbrev pub Walked : Walk → Tree → List ℕ → List ℕ → Type 0
Walked k x t r = SteppedAll k.bus k.outline.lines x t r

-- the task's numbers of lines and sets fit each other
pub record Sized (k : Walk) : Type 0 where
  pub fit : Fit k.bus
  pub sets_is : k.outline.sets ≡ power k.outline.lines
  pub few : k.outline.sets ≤ 16

-- an array that a block's step may be taken on
pub record Steppable (k : Walk) (t : List ℕ) : Type 0 where
  pub sized : Sized k
  pub size : size_of k ≤ length t
  pub fits : Fits (size_of k) t

-- what the blocks' steps ask of their numbers and of the array
abbrev pub PlainReady : Walk → ℕ → ℕ → List ℕ → Type 0
PlainReady k lo hi t = Numbers k.bus Plain lo hi × Steppable k t

abbrev pub BusReady : Walk → ℕ → ℕ → List ℕ → Type 0
BusReady k lo hi t = Numbers k.bus Always lo hi × Steppable k t

pub record OnceReady (k : Walk) (line lo hi hit : ℕ) (t : List ℕ) : Type 0 where
  pub access : Numbers k.bus Always lo hi
  pub short : hit ≤ 65535
  pub line_lt : line < k.outline.lines
  pub lines_few : k.outline.lines ≤ 4
  pub held : Steppable k t

-- the walk of a node from an array
pub record Ready (s : List ℕ) (k : Walk) (places : List ℕ) (node : ℕ) (t : List ℕ) : Type 0 where
  pub walkable : Walkable s k places
  pub low : node ≤ k.outline.entry
  pub size : size_of k ≤ length t
  pub room : Roomy k (65535 * visits (tree_at s node)) (table k t)

-- the walk of a node's children
pub record ReadyAll (s : List ℕ) (k : Walk) (places : List ℕ) (node place count : ℕ) (t : List ℕ) : Type 0 where
  pub walkable : Walkable s k places
  pub low : node ≤ k.outline.entry
  pub named : NamedChildren s place count node
  pub size : size_of k ≤ length t
  pub room : Roomy k (65535 * visits_all (child_trees s place count)) (table k t)

-- the walk of a loop: its iterations are to come, and before them `first` visits of its test
pub record ReadyRepeat (s : List ℕ) (k : Walk) (places : List ℕ) (node : ℕ) (l : Loop) (first : ℕ) (t : List ℕ) : Type 0 where
  pub walkable : Walkable s k places
  pub low : node ≤ k.outline.entry
  pub below : l.body < node
  pub below_test : l.test < node
  pub few : l.greatest ≤ 10000
  pub size : size_of k ≤ length t
  pub room : Roomy k (65535 * (l.greatest * visits_all (turn_trees s l.body l.test) + first)) (table k t)

-- ---- loops

-- the unroller's tables: the exits before the first iteration, those after one more, and all after n more
abbrev pub BegunAt : Walk → ℕ → List ℕ → List ℕ → Type 0
BegunAt k least t out = BegunBy (size_of k) least t out

abbrev pub TurnedAt : Walk → ℕ → ℕ → List ℕ → List ℕ → List ℕ → Type 0
TurnedAt k least done out next out' = TurnedBy (size_of k) least done out next out'

abbrev pub UnrolledAt : Walk → Trees → ℕ → ℕ → ℕ → List ℕ → List ℕ → List ℕ → List ℕ → Type 0
UnrolledAt k xs least done n cur out cur' out' =
    Unrolled none longer (size_of k) (after_all k xs) least done n (table k cur) (table k out) (table k cur') (table k out')

-- what is seen of a loop is true of the table now and of the kept one
abbrev pub WatchesAt : Walk → Trees → List ℕ → List ℕ → Watch → Type 0
WatchesAt k xs cur old w = Watches (after_all k xs) shifted (table k cur) (table k old) w

-- an iteration of a loop is to come
pub record ReadyTurn (s : List ℕ) (k : Walk) (places : List ℕ) (body test : ℕ) (cur : List ℕ) : Type 0 where
  pub walkable : Walkable s k places
  pub low : body ≤ k.outline.entry
  pub low_test : test ≤ k.outline.entry
  pub size : size_of k ≤ length cur
  pub room : Roomy k (65535 * visits_all (turn_trees s body test)) (table k cur)

-- an array as long as t whose table is t's after the trees in order
pub record WalkedAll (k : Walk) (xs : Trees) (t r : List ℕ) : Type 0 where
  pub size : length r ≡ length t
  pub steps : table k r ≡ after_all k xs (table k t)

-- `left` iterations of a loop are to come
pub record ReadyLoop (s : List ℕ) (k : Walk) (places : List ℕ) (body test left : ℕ) (w : Watch) (cur out old : List ℕ) : Type 0 where
  pub walkable : Walkable s k places
  pub low : body ≤ k.outline.entry
  pub low_test : test ≤ k.outline.entry
  pub few : w.done + left ≤ 10000
  pub size : size_of k ≤ length cur
  pub size_out : size_of k ≤ length out
  pub size_old : size_of k ≤ length old
  pub room : Roomy k (65535 * (left * visits_all (turn_trees s body test))) (table k cur)
  pub small : Small w
  pub watches : WatchesAt k (turn_trees s body test) cur old w

-- those that were done: all, or, once a cycle is found, some of them
pub record Unrolls (k : Walk) (xs : Trees) (least left : ℕ) (w : Watch) (cur out old : List ℕ) (r : Watch) (cur' out' old' : List ℕ) : Type 0 where
  pub goes : Goes left w r
  pub size : length cur' ≡ length cur
  pub size_out : length out' ≡ length out
  pub size_old : length old' ≡ length old
  pub unrolled : UnrolledAt k xs least w.done (r.done - w.done) cur out cur' out'
  pub watches : WatchesAt k xs cur' old' r

-- an array as long as t that holds at each place what the permitted counts of iterations join there
pub record Repeated (k : Walk) (xs : Trees) (least greatest : ℕ) (t r : List ℕ) : Type 0 where
  pub size : length r ≡ length t
  pub joins : (o : ℕ) → o < size_of k
      → get_or (table k r) o none ≡ join_from none longer least greatest (λ i. get_or (iterate (after_all k xs) i (table k t)) o none)

-- an array that holds at each place what the arms of a branch join there
abbrev pub Branched : Walk → Trees → List ℕ → List ℕ → Type 0
Branched k xs t r = (o : ℕ) → o < size_of k → get_or (table k r) o none ≡ after_any k xs (table k t) o
