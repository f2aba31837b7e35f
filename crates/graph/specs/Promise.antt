-- The three parts of the promise of `finishes`, over the lent table s and the answer. Definitions only.
use Rattle.std.specs.Prelude.{◌≡◌, List, get_or, ℕ, ◌+◌, ◌≤◌, ◌<◌, Ok, Err}
use Rattle.image.specs.declared.Outline.{Outline}
use Rattle.graph.specs.declared.Answer.{Answer}
use Rattle.graph.specs.Graph.{Graph, latest, InTime, OnTime}
use Rattle.graph.specs.Table.{graph_of, result_of, answer}
use Rattle.graph.specs.Conditions.{AcceptedTable, Condition}
use Rattle.graph.specs.Images.{Imaged, Ran}

-- 1, equality: the answer is that of the definition, for refused tables too
abbrev pub Equal : List ℕ → Answer → Type 0
Equal s r = result_of r ≡ answer s

-- 2, refused if and only if the condition for it holds, and accepted only where the size and every entry are permitted
pub record Because (s : List ℕ) (r : Answer) : Type 0 where
  pub because : (place : ℕ) → r.verdict ≡ Err place → Condition s place
  pub whenever : (place : ℕ) → Condition s place → r.verdict ≡ Err place
  pub accepted : r.verdict ≡ Ok tt → (n : ℕ) × AcceptedTable s n

-- task i starts by its finish less its time, and ends by its finish, f being the finishes
pub record Meets (g : Graph) (f : List ℕ) (start end : ℕ → ℕ) (i : ℕ) : Type 0 where
  pub starts_by : start i + (g i).time ≤ get_or f i 0
  pub ends_by : end i ≤ get_or f i 0

-- what the numbers f are, and what they say of all starts and ends of the n tasks of the table s
pub record Finishing (s : List ℕ) (n : ℕ) (f : List ℕ) : Type 0 where
  -- "A task's finish is its time plus the largest finish among those it waits for and the previous task on its core, or 0."
  pub each : (i : ℕ) → i < n → get_or f i 0 ≡ (graph_of s i).time + latest (graph_of s) (λ j. get_or f j 0) i
  -- "If every task starts as soon as those have ended and takes no longer than its time, none ends after its finish."
  pub none_late : (start end : ℕ → ℕ) → InTime (graph_of s) n start end → (i : ℕ) → i < n → Meets (graph_of s) f start end i
  -- where each takes exactly its time each ends at its finish, and there are such starts and ends
  pub reached : (start end : ℕ → ℕ) → OnTime (graph_of s) n start end → (i : ℕ) → i < n → end i ≡ get_or f i 0
  pub some_schedule : (start end : ℕ → ℕ) × OnTime (graph_of s) n start end
  -- "For tight figures as times, each image must list every offset as a start": then no whole run on the bus clock ends after its finish,
  -- at whatever cycle the whole begins; and there are such runs
  pub whole_runs : (image : ℕ → List ℕ) (kept : ℕ → Outline) → Imaged (graph_of s) n image kept → (origin : ℕ) (start end : ℕ → ℕ)
      → Ran (graph_of s) n image kept origin start end → (i : ℕ) → i < n → Meets (graph_of s) f start end i
  pub some_runs : (image : ℕ → List ℕ) (kept : ℕ → Outline) → Imaged (graph_of s) n image kept → (origin : ℕ)
      → (start end : ℕ → ℕ) × Ran (graph_of s) n image kept origin start end

-- 3, of an accepted table: it is answered, and with such numbers
abbrev pub Waiting : List ℕ → Answer → Type 0
Waiting s r = (n : ℕ) → AcceptedTable s n → (r.verdict ≡ Ok tt) × Finishing s n r.finishes
