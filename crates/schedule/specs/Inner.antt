-- What the functions of this crate promise each other; no other crate needs it. Definitions only.
use Rattle.std.specs.Prelude.{◌≡◌, List, ℕ, ◌≤◌, ◌<◌}
use Rattle.runs.specs.Schedules.{total, owns}
use Rattle.offsets.specs.Sets.{value, has}
use Rattle.bus.specs.Owning.{Parted}
use Rattle.bus.specs.Stretches.{begun}
use Rattle.schedule.specs.Said.{schedule_at}
use Rattle.schedule.specs.declared.Divided.{Divided}

-- the offsets that the analysed core owns, and the others, of the period that the schedule has
pub record Divides (s : List ℕ) (r : Divided) : Type 0 where
  pub parted : Parted r.own r.rest r.period
  pub few : begun r.period (has (value r.own)) r.period ≤ 16
  pub period : r.period ≡ total (schedule_at s).turns
  pub own : (o : ℕ) → o < r.period → has (value r.own) o ≡ owns (schedule_at s).core (schedule_at s).turns o
