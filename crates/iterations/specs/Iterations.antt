-- What happens between the iterations of a loop, over tables of n places. Definitions only.
use Rattle.std.specs.Prelude.{◌≡◌, Bool, true, List, length, get_or, ℕ, ◌*◌, ◌≤◌, ◌<◌}
use Rattle.std.proofs.Math.Option.{none}
use Rattle.runs.specs.Figures.{Time, longer}
use Rattle.runs.specs.Parts.{Begun, Turned, shifted}
use Rattle.times.specs.Arrays.{table_of, Shifted}
use Rattle.cycles.specs.Cycles.{gain_of, Counts, Skips, Watches}
use Rattle.cycles.specs.declared.Watch.{Watch}

-- an array that holds no time at its first n places
pub record Empty (n : ℕ) (out : List ℕ) : Type 0 where
  pub size : n ≤ length out
  pub none_at : (o : ℕ) → o < n → get_or (table_of n out) o none ≡ none

-- the exits before the first iteration, and those after one more, which left the times `next`
abbrev pub BegunBy : ℕ → ℕ → List ℕ → List ℕ → Type 0
BegunBy n least t out = Begun none longer n least (table_of n t) (table_of n t) (table_of n out)

abbrev pub TurnedBy : ℕ → ℕ → ℕ → List ℕ → List ℕ → List ℕ → Type 0
TurnedBy n least done out next out' = Turned none longer n least done (table_of n out) (table_of n next) (table_of n next) (table_of n out')

-- one more iteration, which led to `cur`, is seen, whatever step an iteration is that commutes with more cycles at every time
pub record WatchedBy (n : ℕ) (cur old : List ℕ) (w : Watch) (old' : List ℕ) (r : Watch) : Type 0 where
  pub counts : Counts w r
  pub size : length old' ≡ length old
  pub watches : (step : List Time → List Time) → ((q : ℕ) (T : List Time) → step (shifted q T) ≡ shifted q (step T)) → (before : List Time)
      → Watches step shifted before (table_of n old) w → table_of n cur ≡ step before → Watches step shifted (table_of n cur) (table_of n old') r

-- m whole cycles of `left` iterations are skipped
pub record SkippedBy (n left : ℕ) (w : Watch) (cur cur' : List ℕ) (r : Watch) : Type 0 where
  pub size : length cur' ≡ length cur
  pub skips : (m : ℕ) × Skips left w m r × Shifted n cur (m * gain_of w.search) cur'

-- what is kept before the first iteration: what stands then, or nothing
pub record KeptBy (n : ℕ) (t old old' : List ℕ) (keeps : Bool) : Type 0 where
  pub size : length old' ≡ length old
  pub kept : keeps ≡ true → table_of n old' ≡ table_of n t
