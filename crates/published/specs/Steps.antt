-- What the functions of the published walk ask and promise each other. Definitions only.
use Rattle.std.specs.Prelude.{◌≡◌, Bool, false, ◌||◌, List, get_or, ℕ, ◌+◌, ◌-◌, ◌*◌, ◌≤◌, ◌<◌}
use Rattle.runs.specs.Clock.{offsets}
use Rattle.runs.specs.Nodes.{Tree, Trees, visits, visits_all}
use Rattle.runs.specs.Carried.{iterate, join_from, carried_all, carried_any}
use Rattle.runs.specs.Figures.{exits, cost, cost_all, cost_any, sum}
use Rattle.runs.specs.Parts.{Begun, Turned, Unrolled}
use Rattle.bus.specs.declared.Bus.{Bus}
use Rattle.bus.specs.Owning.{bus_meant}
use Rattle.offsets.specs.declared.Set.{Set}
use Rattle.nodes.specs.Nodes.{tree_at, child_trees, turn_trees}
use Rattle.image.specs.Walks.{Walkable, NamedChildren}
use Rattle.image.specs.declared.Walk.{Walk}
use Rattle.nodes.specs.declared.Loop.{Loop}
use Rattle.cycles.specs.Cycles.{gain_of, Small, Counts, Goes, Skips, Watches}
use Rattle.cycles.specs.declared.Watch.{Watch}
use Rattle.exits.specs.Exits.{bits_of, Within, Exited}
use Rattle.published.specs.declared.Outcome.{Outcome}
use Rattle.published.specs.declared.Pass.{Pass}
use Rattle.published.specs.declared.Kept.{Kept}
use Rattle.published.specs.declared.Turns.{Turns}

-- a set's bits on a bus; the bits after a tree, after the trees in order, and after any one of them at an offset
abbrev pub bits : Bus → Set → List Bool
bits b s = bits_of b.period s

abbrev pub after : Bus → Tree → List Bool → List Bool
after b x X = exits (bus_meant b) x X

abbrev pub after_all : Bus → Trees → List Bool → List Bool
after_all b xs X = carried_all (bus_meant b) (offsets (bus_meant b).period) false ◌||◌ (λ d v. v) xs X

abbrev pub after_any : Bus → Trees → List Bool → ℕ → Bool
after_any b xs X o = carried_any (bus_meant b) (offsets (bus_meant b).period) false ◌||◌ (λ d v. v) xs X o

-- the walk of a node from a set
pub record Ready (s : List ℕ) (k : Walk) (places : List ℕ) (node : ℕ) (x : Set) : Type 0 where
  pub walkable : Walkable s k places
  pub low : node ≤ k.outline.entry
  pub few : visits (tree_at s node) ≤ 100000
  pub within : Within k.bus.period x

-- the walk of a node's children
pub record ReadyAll (s : List ℕ) (k : Walk) (places : List ℕ) (node place count : ℕ) (x : Set) : Type 0 where
  pub walkable : Walkable s k places
  pub low : node ≤ k.outline.entry
  pub named : NamedChildren s place count node
  pub few : visits_all (child_trees s place count) ≤ 100000
  pub within : Within k.bus.period x

-- what Algorithms 1 to 3 give for a node: its exits and its cost
pub record Published (b : Bus) (x : Tree) (s : Set) (r : Outcome) : Type 0 where
  pub exited : Exited b x s r.exits
  pub costs : r.cost ≡ cost (bus_meant b) x (bits b s)

-- for children in order, and for any one of them
pub record PublishedAll (b : Bus) (xs : Trees) (s : Set) (r : Outcome) : Type 0 where
  pub exited : bits b r.exits ≡ after_all b xs (bits b s)
  pub within : Within b.period r.exits
  pub costs : r.cost ≡ cost_all (bus_meant b) xs (bits b s)

pub record PublishedAny (b : Bus) (xs : Trees) (s : Set) (r : Outcome) : Type 0 where
  pub exited : (o : ℕ) → o < b.period → get_or (bits b r.exits) o false ≡ after_any b xs (bits b s) o
  pub within : Within b.period r.exits
  pub costs : r.cost ≡ cost_any (bus_meant b) xs (bits b s)

-- what iteration i from the set C on costs, on a bus
abbrev pub charge : Bus → Trees → List Bool → ℕ → ℕ
charge b xs C i = cost_all (bus_meant b) xs (iterate (after_all b xs) i C)

-- before the first iteration, on every bus
pub record BegunAt (b : Bus) (least : ℕ) (s : Set) (r : Pass) : Type 0 where
  pub begun : Begun false ◌||◌ b.period least (bits b s) (bits b r.cur) (bits b r.out)
  pub within : Within b.period s → Within b.period r.cur
  pub within_out : Within b.period s → Within b.period r.out
  pub costs : r.cost ≡ 0

-- after one more iteration, whose outcome is n
pub record TurnedAt (b : Bus) (least done : ℕ) (p : Pass) (n : Outcome) (r : Pass) : Type 0 where
  pub turned : Turned false ◌||◌ b.period least done (bits b p.out) (bits b n.exits) (bits b r.cur) (bits b r.out)
  pub within : Within b.period n.exits → Within b.period r.cur
  pub within_out : Within b.period n.exits → Within b.period p.out → Within b.period r.out
  pub costs : r.cost ≡ p.cost + n.cost

-- after `left` more
pub record UnrolledAt (b : Bus) (xs : Trees) (least done left : ℕ) (p r : Pass) : Type 0 where
  pub unrolled :
      Unrolled false ◌||◌ b.period (after_all b xs) least done left (bits b p.cur) (bits b p.out) (bits b r.cur) (bits b r.out)
  pub within : Within b.period r.cur
  pub within_out : Within b.period r.out
  pub costs : r.cost ≡ p.cost + sum left (charge b xs (bits b p.cur))

-- an iteration of a loop is to come
pub record ReadyTurn (s : List ℕ) (k : Walk) (places : List ℕ) (body test : ℕ) (x : Set) : Type 0 where
  pub walkable : Walkable s k places
  pub low : body ≤ k.outline.entry
  pub low_test : test ≤ k.outline.entry
  pub few : visits_all (turn_trees s body test) ≤ 100000
  pub within : Within k.bus.period x

-- the walk of a loop: its iterations are to come, and before them `first` visits of its test
pub record ReadyRepeat (s : List ℕ) (k : Walk) (places : List ℕ) (node : ℕ) (l : Loop) (first : ℕ) (x : Set) : Type 0 where
  pub walkable : Walkable s k places
  pub low : node ≤ k.outline.entry
  pub below : l.body < node
  pub below_test : l.test < node
  pub many : l.greatest ≤ 10000
  pub few : l.greatest * visits_all (turn_trees s l.body l.test) + first ≤ 100000
  pub within : Within k.bus.period x

-- what the iterations of a loop give: the exits after the permitted counts joined, and the cost of the greatest
pub record Repeated (b : Bus) (xs : Trees) (least greatest : ℕ) (s : Set) (r : Outcome) : Type 0 where
  pub exited : (o : ℕ) → o < b.period
      → get_or (bits b r.exits) o false ≡ join_from false ◌||◌ least greatest (λ i. get_or (iterate (after_all b xs) i (bits b s)) o false)
  pub within : Within b.period r.exits
  pub costs : r.cost ≡ sum greatest (charge b xs (bits b s))

-- ---- loops that have become periodic

-- the bits of a set and the cost so far; what an iteration makes of them; and g more cost
pub record State : Type 0 where
  pub set : List Bool
  pub total : ℕ

abbrev pub state : Bus → Set → ℕ → State
state b s n = record { set = bits b s; total = n }

abbrev pub next : Bus → Trees → State → State
next b xs c = record { set = after_all b xs c.set; total = c.total + cost_all (bus_meant b) xs c.set }

abbrev pub charged : ℕ → State → State
charged g c = record { set = c.set; total = c.total + g }

-- c iterations from C on lead to C again, and cost g
pub record Cyclic (b : Bus) (xs : Trees) (c g : ℕ) (C : List Bool) : Type 0 where
  pub again : iterate (after_all b xs) c C ≡ C
  pub costs : sum c (charge b xs C) ≡ g

-- what is seen of a loop is true of where it stands now and of what is kept
abbrev pub WatchesAt : Bus → Trees → Pass → Kept → Watch → Type 0
WatchesAt b xs p kept w = Watches (next b xs) charged (state b p.cur p.cost) (state b kept.set kept.spent) w

-- one more iteration, which led to p, is seen, on every bus and whatever an iteration is
pub record WatchedBy (p : Pass) (kept : Kept) (w : Watch) (r : Turns) : Type 0 where
  pub pass : r.pass ≡ p
  pub counts : Counts w r.watch
  pub spent : r.kept.spent ≤ p.cost
  pub watches : (b : Bus) (xs : Trees) (C : State) → Watches (next b xs) charged C (state b kept.set kept.spent) w
      → state b p.cur p.cost ≡ next b xs C → WatchesAt b xs p r.kept r.watch

-- n whole cycles of `left` iterations are skipped
pub record SkippedBy (left : ℕ) (t r : Turns) : Type 0 where
  pub cur : r.pass.cur ≡ t.pass.cur
  pub out : r.pass.out ≡ t.pass.out
  pub kept : r.kept ≡ t.kept
  pub skips : (n : ℕ) × Skips left t.watch n r.watch × (r.pass.cost ≡ t.pass.cost + n * gain_of t.watch.search)

-- `left` iterations of a loop are to come
pub record ReadyLoop (s : List ℕ) (k : Walk) (places : List ℕ) (body test left : ℕ) (t : Turns) : Type 0 where
  pub walkable : Walkable s k places
  pub low : body ≤ k.outline.entry
  pub low_test : test ≤ k.outline.entry
  pub many : t.watch.done + left ≤ 10000
  pub few : t.pass.cost + 65535 * (left * visits_all (turn_trees s body test)) ≤ 6553500000
  pub within : Within k.bus.period t.pass.cur
  pub within_out : Within k.bus.period t.pass.out
  pub spent : t.kept.spent ≤ t.pass.cost
  pub small : Small t.watch
  pub watches : WatchesAt k.bus (turn_trees s body test) t.pass t.kept t.watch

-- those that were done: all, or, once a cycle is found, some of them
pub record Unrolls (b : Bus) (xs : Trees) (least left : ℕ) (t r : Turns) : Type 0 where
  pub goes : Goes left t.watch r.watch
  pub unrolled : UnrolledAt b xs least t.watch.done (r.watch.done - t.watch.done) t.pass r.pass
  pub spent : r.kept.spent ≤ r.pass.cost
  pub watches : WatchesAt b xs r.pass r.kept r.watch
