-- What the functions between judging and the answer promise each other; no other crate needs it. Definitions only.
use Rattle.std.specs.Prelude.{◌≡◌, cond, not, List, length, get_or, eqb, ℕ, ◌<◌, Result, Ok}
use Rattle.runs.specs.Clock.{with_lines}
use Rattle.runs.specs.Runs.{is_start}
use Rattle.runs.specs.Figures.{no_time, start_times, exit_times, sum}
use Rattle.runs.specs.Exact.{ValidTask}
use Rattle.bus.specs.Owning.{bus_meant}
use Rattle.offsets.specs.declared.Set.{Set}
use Rattle.offsets.specs.Sets.{value, has}
use Rattle.image.specs.Tasks.{starts_of, task_of}
use Rattle.schedule.specs.Said.{said}
use Rattle.image.specs.Walks.{Sound}
use Rattle.image.specs.declared.Outline.{Outline}
use Rattle.image.specs.declared.Walk.{Walk}
use Rattle.times.specs.Arrays.{table_of}
use Rattle.tight.specs.Steps.{table}
use Rattle.exits.specs.Exits.{Within}
use Rattle.refusals.specs.declared.Refused.{Refused}
use Rattle.answers.specs.declared.Totals.{Totals}
use Rattle.answers.specs.Answers.{result_of, after_judging, table_for}

-- what judging has shown of an accepted image
pub record Answerable (s : List ℕ) (k : Outline) (places : List ℕ) : Type 0 where
  pub sound : Sound s k places
  pub accepted : ValidTask (task_of s k)

-- the array that holds the time 0 at each of the starts, and no time at another offset below P; and the table that the walk starts from
abbrev pub Started : List ℕ → ℕ → List ℕ → Type 0
Started starts P r = (o : ℕ) → o < P → get_or r o 0 ≡ cond (is_start starts o) 0 no_time

abbrev pub StartedAt : List ℕ → Walk → List ℕ → Type 0
StartedAt s w t = table w t ≡ start_times (bus_meant w.bus) (with_lines w.bus.period w.outline.lines) (starts_of s)

-- the set of the starts, which are within every period that each of them is below
pub record StartedSet (starts : List ℕ) (r : Set) : Type 0 where
  pub members : (o : ℕ) → has (value r) o ≡ is_start starts o
  pub within : (P : ℕ) → ((j : ℕ) → j < length starts → get_or starts j 0 < P) → Within P r

-- the array that holds the exit times
abbrev pub Ended : List ℕ → Outline → List ℕ → Type 0
Ended s k r = table_of (said s).period r ≡ exit_times (task_of s k)

-- how many places below n of an array hold a time
abbrev pub holding : List ℕ → ℕ → ℕ
holding t n = sum n (λ o. cond (eqb (get_or t o 0) no_time) 0 1)

-- the set of the places below n of an array that hold a time
pub record Holding (t : List ℕ) (n : ℕ) (r : Set) : Type 0 where
  pub within : Within n r
  pub members : (o : ℕ) → o < n → has (value r) o ≡ not (eqb (get_or t o 0) no_time)

-- the answer for an accepted image
pub record Answered (s : List ℕ) (k : Outline) (before : List ℕ) (r : Result Totals Refused) (after : List ℕ) : Type 0 where
  pub result : result_of r ≡ after_judging s before (Ok k)
  pub table : after ≡ table_for s before (Ok k)
