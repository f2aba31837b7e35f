-- Both walks go by the bus as owned offsets, and the answer speaks of the bus that field 1 says. The two are the same where it matters, so the
-- times and the cost are.
use mathlib.Core.Path.{◌≡◌, ap₂}
use mathlib.Core.List.{List}
use native.Mathlib.Nat.{le_refl}
use Prim.Native.Nat.{ℕ, ◌+◌, ◌≤◌}
use Rattle.runs.specs.Schedules.{owning}
use Rattle.runs.specs.Clock.{with_lines}
use Rattle.runs.specs.Runs.{is_start}
use Rattle.runs.specs.Nodes.{Tree}
use Rattle.runs.specs.Carried.{row}
use Rattle.runs.specs.Figures.{Time, start_times, start_set, times, cost, at_offsets, exit_times, published}
use Rattle.runs.proofs.Executions.{Valid}
use Rattle.runs.proofs.SameBuses.{times_same, published_same}
use Rattle.bus.specs.declared.Bus.{Bus}
use Rattle.bus.specs.Owning.{bus_meant, Fit}
use Rattle.runs.specs.Bus.{SameBus}
use Rattle.schedule.specs.Said.{said}
use Rattle.image.specs.Tasks.{starts_of, task_of}
use Rattle.nodes.specs.Nodes.{tree_at}
use Rattle.rows.specs.Fields.{length_at, body_at}
use Rattle.rows.proofs.Kept.{good_body}
use Rattle.image.proofs.Sounds.{stand}
use lib.ListN.{length}
use native.Mathlib.Omega.{arith}
use Rattle.image.specs.Walks.{Walkable}
use Rattle.image.specs.declared.Outline.{Outline}
use Rattle.image.specs.declared.Walk.{Walk}
use Rattle.schedule.proofs.Sayings.{said_small}
use Rattle.image.proofs.Walks.{valid_at}
use Rattle.figures.specs.Steps.{Answerable}

-- the period of an accepted image is at most 256
pub period_most : (s : List ℕ) (k : Outline) (places : List ℕ) → Answerable s k places → k.period ≤ 256
period_most s k places a = rw a.sound.accepting.period (said_small s a.sound.ranged).0

-- what judging has shown of an image, with the bus that it says, is what both walks ask
pub walkable : (s : List ℕ) (k : Outline) (places : List ℕ) → Answerable s k places → (b : Bus) → Fit b × SameBus (bus_meant b) (said s)
    → Walkable s (record { bus = b; outline = k }) places
walkable s k places a b h = record { sound = a.sound; accepted = a.accepted; fit = h.0; same = h.1 }

module _ (s : List ℕ) (w : Walk) (places : List ℕ) (h : Walkable s w places) where
  abbrev entry : Tree
  entry = tree_at s w.outline.entry

  abbrev P : ℕ
  P = w.bus.period

  pub period_said : w.bus.period ≡ (said s).period
  unfolding owning
  period_said = h.same.period

  -- field 2 lists as many starts as the outline says, inside the image
  pub listing : (w.outline.starts ≡ length_at s 1) × (body_at s 1 + w.outline.starts ≤ length s)
  listing =
      let a = h.sound.accepting in
      (a.starts, omega (arith, a.starts, good_body s 1 (stand s w.outline a 1 (omega arith)).0))

  valid : Valid (bus_meant w.bus).most entry
  valid = valid_at s w places h w.outline.entry (le_refl w.outline.entry)

  -- the times at the offsets
  pub times_said :
      at_offsets (with_lines P w.outline.lines) P
      (times (bus_meant w.bus) (with_lines P w.outline.lines) entry (start_times (bus_meant w.bus) (with_lines P w.outline.lines) (starts_of s)))
      ≡ exit_times (task_of s w.outline)
  unfolding owning
  times_said =
      ap₂ (λ (n : ℕ) (T : List Time). at_offsets (with_lines n w.outline.lines) n T) period_said
      (times_same (bus_meant w.bus) (said s) h.same entry valid (starts_of s) w.outline.lines h.fit.least)

  -- the cost
  pub cost_said : cost (bus_meant w.bus) entry (row P (λ o. is_start (starts_of s) o)) ≡ published (task_of s w.outline)
  unfolding owning start_set
  cost_said = published_same (bus_meant w.bus) (said s) h.same entry valid (starts_of s)
