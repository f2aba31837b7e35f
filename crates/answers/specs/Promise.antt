-- The three parts of the promise of `figures`, over the image s, the table at entry, the answer and the table at exit. Definitions only.
use Rattle.std.specs.Prelude.{◌≡◌, List, ◌⊎◌, length, ℕ, ◌+◌, ◌≤◌, ◌<◌, Result, Ok}
use Rattle.runs.specs.Clock.{State}
use Rattle.runs.specs.Runs.{places_of}
use Rattle.runs.specs.Slots.{equation7}
use Rattle.runs.specs.Figures.{published}
use Rattle.image_bytes.specs.Bytes.{byte_at}
use Rattle.schedule.specs.Said.{slots_at, schedule_at}
use Rattle.image.specs.Tasks.{task_of}
use Rattle.image.specs.Judged.{judged}
use Rattle.image.specs.declared.Outline.{Outline}
use Rattle.answers.specs.declared.Totals.{Totals}
use Rattle.refusals.specs.declared.Refused.{Refused}
use Rattle.answers.specs.Answers.{result_of, answer, table_after}
use Rattle.answers.specs.WholeRuns.{WholeRuns}
use Rattle.answers.specs.Accesses.{AccessTakes, LeastOwned}

-- 1, equality: the answer and the table at exit are those of the definitions, for refused inputs too
pub record Equal (s before : List ℕ) (r : Result Totals Refused) (after : List ℕ) : Type 0 where
  pub result : result_of r ≡ answer s before
  pub table : after ≡ table_after s before

-- 2, demand 3: an accepted image with a place for each offset is given figures, and they are those of all whole runs of the task that its bytes say
abbrev pub Demand3 : List ℕ → List ℕ → Result Totals Refused → List ℕ → Type 0
Demand3 s before r after = (k : Outline) → judged s ≡ Ok k → k.period ≤ length before
    → (f : Totals) × (r ≡ Ok f) × WholeRuns (task_of s k) f.tight f.published f.exits after

-- 3, demand 2: of the figures f of the task that the image's bytes say
pub record ByAlgorithms (s : List ℕ) (k : Outline) (f : Totals) : Type 0 where
  -- the published figure is that of its Algorithms 1 to 3
  pub figure : f.published ≡ published (task_of s k)
  -- the wait of each access is Equation 7, on the image's own cores, slot and core number: from each state it takes that and its own cycles
  pub wait : byte_at s 0 ≡ 1 → (e : ℕ) (x : State) → 1 ≤ e → e ≤ (slots_at s).slot → x.at < (places_of (task_of s k)).size
      → AccessTakes (task_of s k) e x (equation7 (slots_at s) e ((places_of (task_of s k)).offset x.at) + e)
  -- where a schedule stands in their place (W5, tag 9), the wait of both figures is the least number of cycles after which the core owns as many, and an
  -- access takes that and its own
  pub unequal_wait : byte_at s 0 ≡ 9 → (e : ℕ) (x : State) → 1 ≤ e → e ≤ (task_of s k).bus.most → x.at < (places_of (task_of s k)).size
      → LeastOwned (schedule_at s) e ((places_of (task_of s k)).offset x.at) ((task_of s k).bus.wait e ((places_of (task_of s k)).offset x.at))
      × AccessTakes (task_of s k) e x ((task_of s k).bus.wait e ((places_of (task_of s k)).offset x.at) + e)
  -- there is no third
  pub first_tag : (byte_at s 0 ≡ 1) ⊎ (byte_at s 0 ≡ 9)

-- an accepted image with a place for each offset is given figures, and they are such
abbrev pub Demand2 : List ℕ → List ℕ → Result Totals Refused → Type 0
Demand2 s before r = (k : Outline) → judged s ≡ Ok k → k.period ≤ length before → (f : Totals) × (r ≡ Ok f) × ByAlgorithms s k f
