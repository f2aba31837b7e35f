-- Tasks of a graph that are images: runs begun at any cycle of the bus clock, and tight figures as times. Definitions only.
use Rattle.std.specs.Prelude.{◌≡◌, true, List, ℕ, ◌+◌, ◌%◌, ◌≤◌, ◌<◌, Ok}
use Rattle.runs.specs.Clock.{State, on}
use Rattle.runs.specs.Runs.{Task, places_of, is_start, Does}
use Rattle.image.specs.Tasks.{task_of}
use Rattle.image.specs.Judged.{judged}
use Rattle.image.specs.declared.Outline.{Outline}
use Rattle.answers.specs.Answers.{answer as figuresAnswer, given}
use Rattle.graph.specs.Graph.{Graph, AsSoon}

-- "each image must list every offset as a start"
abbrev pub EveryOffset : Task → Type 0
EveryOffset t = (o : ℕ) → o < t.bus.period → is_start t.starts o ≡ true

-- The task, begun at the cycle c of the bus clock, takes d cycles: its entry is executed from the offset of that cycle ("An offset is a cycle
-- number modulo P"), listed as a start or not, with no line fetched, and `final` is the state that it leaves.
pub record Takes (t : Task) (c d : ℕ) : Type 0 where
  pub final : State
  pub does : Does t.bus (places_of t) t.node_at t.entry (on (c % t.bus.period) 0) final
  pub cycles : final.count ≡ d

-- an accepted image that lists every offset, and whose tight figure is at most the given time, whatever table was lent for it; k is what judging
-- keeps of its bytes s
pub record Quoted (s : List ℕ) (k : Outline) (time : ℕ) : Type 0 where
  pub accepted : judged s ≡ Ok k
  pub every : EveryOffset (task_of s k)
  pub lent : List ℕ
  pub tight : ℕ
  pub published : ℕ
  pub exits : ℕ
  pub figure : figuresAnswer s lent ≡ given tight published exits
  pub covers : tight ≤ time

-- "For tight figures as times": every task of the graph is such an image, and its time is the tight figure or more
abbrev pub Imaged : Graph → ℕ → (ℕ → List ℕ) → (ℕ → Outline) → Type 0
Imaged g n image kept = (i : ℕ) → i < n → Quoted (image i) (kept i) (g i).time

-- n images run on one bus clock, the whole begun at the cycle `origin` of it: each starts as soon as those have ended that it waits for and
-- the previous one on its core, and ends when its run does. Each accesses the bus in the slot of its image's core: that images with the same
-- slot stand on one core of the table is the table's maker's to see, since only then they run one after the other.
pub record Ran (g : Graph) (n : ℕ) (image : ℕ → List ℕ) (kept : ℕ → Outline) (origin : ℕ) (start end : ℕ → ℕ) : Type 0 where
  pub starts : (i : ℕ) → i < n → AsSoon g start end i
  pub runs : (i : ℕ) → i < n → (d : ℕ) × Takes (task_of (image i) (kept i)) (origin + start i) d × (end i ≡ start i + d)
