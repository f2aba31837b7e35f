-- What demand 2 says of accesses: the cycles that one takes, and the wait where slots are unequal. Definitions only.
use Rattle.std.specs.Prelude.{◌≡◌, ℕ, ◌+◌, ◌%◌}
use Rattle.runs.specs.Bus.{First}
use Rattle.runs.specs.Clock.{State, pass, Access}
use Rattle.runs.specs.Runs.{Task, places_of}
use Rattle.runs.specs.Schedules.{Schedule, total, owns, owns_next}

-- every access of e cycles from the state x takes n cycles: it ends in a state if and only if that is x after n passed cycles
pub record AccessTakes (t : Task) (e : ℕ) (x : State) (n : ℕ) : Type 0 where
  pub only : (y : State) → Access t.bus (places_of t) e x y → y ≡ pass (places_of t) n x
  pub ends : Access t.bus (places_of t) e x (pass (places_of t) n x)

-- from the offset o, w is "the least number of cycles after which that core owns e consecutive cycles, counted round the period" (W5)
abbrev pub LeastOwned : Schedule → ℕ → ℕ → ℕ → Type 0
LeastOwned v e o w = First (λ i. owns_next (total v.turns) (owns v.core v.turns) e ((o + i) % total v.turns)) w
