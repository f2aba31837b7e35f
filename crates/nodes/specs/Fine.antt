-- A node field that is good: what holds of its node, and where it stands. Definitions only.
use Rattle.std.specs.Prelude.{◌≡◌, List, ℕ, ◌+◌, ◌*◌, ◌≤◌, ◌<◌, length, get_or}
use Rattle.schedule.specs.Said.{said}
use Rattle.rows.specs.Fields.{field_at}
use Rattle.rows.specs.Unclosed.{Unclosed}
use Rattle.rows.specs.Rules.{Durations, Accesses, LoopCounts, Fetches, NamesBelow}
use Rattle.nodes.specs.declared.Node.{Node}
use Rattle.nodes.specs.declared.Node.TheVariants.{Plain, Bus as Block, Once, Sequence, Branch, Loop}

-- the rules of rows 3 to 7 and 10, of the node with the number `own`
unfoldable pub Fine : List ℕ → ℕ → Node → Type 0
Fine s own (Plain p) = Durations p.lowest p.highest
Fine s own (Block b) = Accesses b.lowest b.highest (said s).most
Fine s own (Once x) = Fetches x.line x.lowest x.highest x.hit (said s).most
Fine s own (Sequence c) = (1 ≤ c.count) × (c.count ≤ 16) × (c.place + 2 * c.count ≤ length s) × NamesBelow s c.place c.count own
Fine s own (Branch c) = (2 ≤ c.count) × (c.count ≤ 8) × (c.place + 2 * c.count ≤ length s) × NamesBelow s c.place c.count own
Fine s own (Loop l) = LoopCounts l.least l.greatest × (l.body < own) × (l.test < own)

-- node n's field stands at a place, it and all before it are good, and none of them has closed the image
pub record Standing (s : List ℕ) (n at : ℕ) : Type 0 where
  pub passed : Unclosed s (n + 3)
  pub place : at ≡ field_at s (n + 2)

-- the first n nodes' fields stand at these places
abbrev pub Placed : List ℕ → ℕ → List ℕ → Type 0
Placed s n places = (k : ℕ) → k < n → get_or places k 0 ≡ field_at s (k + 2)
