-- Demand 2: an access takes the wait of its bus and its own cycles, and that wait is the one that field 1 says.
use mathlib.Core.Path.{◌≡◌}
use mathlib.Core.List.{List}
use native.Mathlib.Omega.{arith}
use Prim.Native.Nat.{ℕ, ◌+◌, ◌≤◌, ◌<◌}
use Rattle.runs.specs.Bus.{Lawful}
use Rattle.runs.specs.Clock.{State, Turning}
use Rattle.runs.specs.Runs.{Task, places_of}
use Rattle.runs.specs.Figures.{published}
use Rattle.runs.proofs.LinesLaws.{lines_turn}
use Rattle.runs.proofs.Accesses.{access_only, access_ends}
use Rattle.schedule.specs.Said.{Ranged}
use Rattle.schedule.proofs.Sayings.{slots_most, slots_wait, turns_period, turns_wait, said_lawful, first_tag}
use Rattle.image.specs.Tasks.{task_of}
use Rattle.image.specs.declared.Outline.{Outline}
use Rattle.answers.specs.declared.Totals.{Totals}
use Rattle.answers.specs.Accesses.{AccessTakes}
use Rattle.answers.specs.Promise.{ByAlgorithms}

module _ (t : Task) (law : Lawful t.bus) (x : State) (l : x.at < (places_of t).size) where
  turn : Turning t.bus.period (places_of t)
  turn = lines_turn t.bus.period law.period_pos t.lines

  offset_below : (places_of t).offset x.at < t.bus.period
  offset_below = turn.offset_in x.at l

  access_takes : (e : ℕ) → 1 ≤ e → e ≤ t.bus.most → (n : ℕ) → n ≡ t.bus.wait e ((places_of t).offset x.at) + e → AccessTakes t e x n
  access_takes e pos le n is = rw is (record {
    only = λ y r. access_only t.bus law (places_of t) turn e pos le r l;
    ends = access_ends t.bus law (places_of t) turn e pos le x l;
  })

-- of an image whose field 1 keeps the rules of its row
pub by_algorithms : (s : List ℕ) (k : Outline) (f : Totals) → Ranged s → f.published ≡ published (task_of s k) → ByAlgorithms s k f
by_algorithms s k f ok costs =
    let law = said_lawful s ok in
    record {
      figure = costs;
      wait = λ tag e x pos le l.
          access_takes (task_of s k) law x l e (omega (arith, pos)) (omega (arith, slots_most s tag, le)) _
          (omega (arith, slots_wait s tag e ((places_of (task_of s k)).offset x.at)));
      unequal_wait = λ tag e x pos le l.
          let o = (places_of (task_of s k)).offset x.at in (
            turns_wait s ok tag e o (omega (arith, pos)) (omega (arith, le)) (omega (arith, turns_period s tag, offset_below (task_of s k) law x l)),
            access_takes (task_of s k) law x l e (omega (arith, pos)) (omega (arith, le)) _ (omega arith),
          );
      first_tag = first_tag s ok;
    }
