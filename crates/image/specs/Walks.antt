-- What the layers above ask of an accepted image, and a walk over its nodes; no promise of judging. Definitions only.
use Rattle.std.specs.Prelude.{List, ℕ, ◌+◌, ◌*◌, ◌≤◌, ◌<◌, length, get_or, ◌≡◌}
use Rattle.runs.specs.Bus.{SameBus}
use Rattle.runs.specs.Exact.{ValidTask}
use Rattle.bus.specs.Owning.{bus_meant, Fit}
use Rattle.schedule.specs.Said.{said, Ranged}
use Rattle.rows.specs.Rules.{NamesBelow, Starts}
use Rattle.image.specs.Tasks.{task_of}
use Rattle.image.specs.declared.Walk.{Walk}
use Rattle.rows.specs.Fields.{field_at, body_at}
use Rattle.nodes.specs.Nodes.{node_of}
use Rattle.image.specs.Conditions.{Accepting}
use Rattle.image.specs.declared.Outline.{Outline}
use Rattle.nodes.specs.Fine.{Fine}

-- what follows of an accepted image and the places beside its verdict, as the layers above ask it
pub record Sound (s : List ℕ) (t : Outline) (places : List ℕ) : Type 0 where
  pub accepting : Accepting s t
  pub ranged : Ranged s
  pub starts_some : 1 ≤ t.starts
  pub starts_few : t.starts ≤ 256
  pub starts : Starts s (body_at s 1) t.starts (said s).period
  pub entry : t.entry < t.nodes
  pub few : t.nodes ≤ 256
  pub placed : (k : ℕ) → k < t.nodes → get_or places k 0 ≡ field_at s (k + 2)
  pub inside : (k : ℕ) → k < t.nodes → field_at s (k + 2) ≤ length s
  pub fine : (k : ℕ) → k < t.nodes → Fine s k (node_of s (field_at s (k + 2)))
  pub lines_few : t.lines ≤ 4

-- what judging has shown of the image, its task and the places of its nodes; and the bus is the one that the image says
pub record Walkable (s : List ℕ) (k : Walk) (places : List ℕ) : Type 0 where
  pub sound : Sound s k.outline places
  pub accepted : ValidTask (task_of s k.outline)
  pub fit : Fit k.bus
  pub same : SameBus (bus_meant k.bus) (said s)

-- n child numbers from a place on stand in the image, and are below `own`
pub record NamedChildren (s : List ℕ) (place n own : ℕ) : Type 0 where
  pub few : n ≤ 16
  pub inside : place + 2 * n ≤ length s
  pub below : NamesBelow s place n own
