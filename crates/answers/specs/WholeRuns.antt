-- Demand 3: one statement about all whole runs of a task, the numbers of the answer and the table. Only runs (crates/runs/specs/Runs.antt),
-- the answer and the table occur in it: nothing that works a figure out. Definitions only.
use Rattle.std.specs.Prelude.{◌≡◌, List, get_or, ℕ, zero, suc, ◌≤◌, ◌<◌}
use Rattle.runs.specs.Clock.{State}
use Rattle.runs.specs.Runs.{Task, places_of, Run, final_offset, Ends}
use Rattle.runs.specs.Figures.{no_time}

-- "An offset o below P is listed when place o holds a time and not that number."
abbrev pub Listed : List ℕ → ℕ → Type 0
Listed table o = get_or table o 0 ≡ no_time → ⊥

-- Counted Q n m: of the numbers below n exactly m satisfy Q
pub data Counted (Q : ℕ → Type 0) : ℕ → ℕ → Type 0 where
  none : Counted Q zero zero
  one_more : {n m : ℕ} → Counted Q n m → Q n → Counted Q (suc n) (suc m)
  no_more : {n m : ℕ} → Counted Q n m → (Q n → ⊥) → Counted Q (suc n) m

-- some run ends at the offset o
abbrev pub EndsAt : Task → ℕ → Type 0
EndsAt t o = (c : ℕ) × Ends t o c

pub record WholeRuns (t : Task) (tight published exits : ℕ) (table : List ℕ) : Type 0 where
  -- there is a run
  pub some_run : (s : State) × Run t s
  -- its final offset is listed and its cycles exceed neither the time listed there nor the tight figure
  pub inside : (s : State) → Run t s → s.at < (places_of t).size
  pub listed : (s : State) → Run t s → Listed table (final_offset t s)
  pub within_time : (s : State) → Run t s → s.count ≤ get_or table (final_offset t s) 0
  pub within_tight : (s : State) → Run t s → s.count ≤ tight
  -- Each listed time is reached by a run that ends at its offset.
  pub reached : (o : ℕ) → o < t.bus.period → Listed table o → Ends t o (get_or table o 0)
  -- The exit count is the number of offsets at which runs end.
  pub counted : Counted (EndsAt t) t.bus.period exits
  -- Tight = the largest listed time ≤ published.
  pub largest : (o : ℕ) × (o < t.bus.period) × (Listed table o) × (get_or table o 0 ≡ tight)
  pub no_larger : (o : ℕ) → o < t.bus.period → Listed table o → get_or table o 0 ≤ tight
  pub below_published : tight ≤ published
