-- A table with room for the visits of what comes keeps room for the rest: times grow by at most 65,535 for each visit.
use mathlib.Core.Path.{◌≡◌, ◌∙◌, ap}
use mathlib.Core.Bool.{cond}
use mathlib.Core.Option.{none, some}
use mathlib.Core.List.{List}
use lib.ListN.{get_or}
use borrow.Author.Tests.{ne_eqb}
use native.Mathlib.Omega.{arith}
use Prim.Native.Nat.{ℕ, zero, suc, ◌+◌, ◌-◌, ◌*◌, ◌≤◌}
use Rattle.runs.specs.Schedules.{owning}
use Rattle.runs.specs.Clock.{Turning, with_lines}
use Rattle.runs.specs.Nodes.{Tree, Trees, none as done, more, visits, visits_all}
use Rattle.runs.specs.Carried.{iterate, carried}
use Rattle.runs.specs.Figures.{Time}
use Rattle.runs.proofs.LinesLaws.{lines_turn}
use Rattle.runs.proofs.Executions.{Valid, Valids}
use Rattle.runs.proofs.Bounds.{times_bounded}
use Rattle.bus.specs.Owning.{bus_meant}
use Rattle.image.specs.Walks.{Walkable}
use Rattle.image.specs.declared.Walk.{Walk}
use Rattle.image.proofs.Walks.{walk_lawful, walk_small}
use Rattle.times.specs.Arrays.{no_time, time_of, Fits}
use Rattle.tight.specs.Steps.{size_of, table, after, after_all, Roomy}
use Rattle.tight.proofs.Tables.{table_at}

pub room_less : (k : Walk) (m n : ℕ) (T : List Time) → m ≤ n → Roomy k n T → Roomy k m T
room_less k m n T h r = record { most = omega (arith, r.most); grows = λ o c l e. omega (arith, r.grows o c l e) }

-- room for some time is what the steps ask
pub room_fits : (k : Walk) (m : ℕ) (t : List ℕ) → Roomy k m (table k t) → Fits (size_of k) t
unfolding Fits time_of
room_fits k m t r o l n =
    let e : get_or (table k t) o none ≡ some (get_or t o 0) =
    table_at k t o l ∙ ap (λ (z : _). cond z none (some (get_or t o 0))) (ne_eqb (get_or t o 0) no_time n) in
    omega (arith, r.grows o (get_or t o 0) l e)

module _ (s : List ℕ) (k : Walk) (places : List ℕ) (w : Walkable s k places) where
  turn : Turning k.bus.period (with_lines k.bus.period k.outline.lines)
  turn = lines_turn k.bus.period w.fit.least k.outline.lines

  pub room_after : (x : Tree) → Valid (bus_meant k.bus).most x → (m : ℕ) (T : List Time)
      → Roomy k (65535 * visits x + m) T → Roomy k m (after k x T)
  unfolding with_lines owning
  room_after x v m T r = record {
    most = omega (arith, r.most);
    grows = λ o c l e.
        omega (
          arith,
          r.most,
          times_bounded (bus_meant k.bus) (walk_lawful s k places w) (walk_small s k places w) (with_lines k.bus.period k.outline.lines) turn x v T
              (1152921504606846976 - (65535 * visits x + m)) (λ p c l e. omega (arith, r.grows p c l e)) o c l e,
        );
  }

  -- after trees in order, and after n times all of them
  room_all : (xs : Trees) → Valids (bus_meant k.bus).most xs → (m : ℕ) (T : List Time) → Roomy k (65535 * visits_all xs + m) T → Roomy k m (after_all k xs T)
  unfolding Valid visits carried
  room_all done v m T r = room_less k m _ T (omega arith) r
  room_all (more x xs) v m T r = room_all xs v.1 m (after k x T) (room_after x v.0 _ T (room_less k _ _ T (omega arith) r))

  pub room_times : (xs : Trees) → Valids (bus_meant k.bus).most xs → (n m : ℕ) (T : List Time)
      → Roomy k (65535 * (n * visits_all xs) + m) T → Roomy k m (iterate (after_all k xs) n T)
  unfolding iterate
  room_times xs v zero m T r = room_less k m _ T (omega arith) r
  room_times xs v (suc n) m T r =
      room_all xs v m (iterate (after_all k xs) n T)
      (room_times xs v n (65535 * visits_all xs + m) T (room_less k _ _ T (omega arith) r))
