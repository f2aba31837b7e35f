-- A run keeps to the clock: begun at the cycle c, its offset is (c + count) mod P after whatever it executed. So on one bus a task that starts
-- when another ends starts at the offset that the other left.
use mathlib.Core.Path.{◌≡◌, ◌∙◌, ap}
use mathlib.Core.List.{List}
use native.Mathlib.Nat.{mod-add-mod}
use native.Mathlib.Omega.{arith}
use Prim.Native.Nat.{ℕ, zero, suc, ◌+◌, ◌%◌, ◌<◌}
use Rattle.runs.specs.Clock.{State, with_lines, tick, pass, fetched, Access, start, hold}
use Rattle.runs.specs.Runs.{Task, places_of, final_offset, Does, DoesAll, DoesTimes, passes, may_pass, accesses, first_time, later_time, in_order, one_of, repeats, end, next, enough, again}
use Rattle.runs.proofs.Simulates.{lines_forgotten}

module _ (t : Task) (pos : 0 < t.bus.period) (c : ℕ) where
  -- the offset is that of the clock
  abbrev pub OnClock : State → Type 0
  OnClock s = final_offset t s ≡ (c + s.count) % t.bus.period

  tick_on : (s : State) → OnClock s → OnClock (tick (places_of t) s)
  unfolding tick with_lines
  tick_on s h =
      (lines_forgotten t.bus.period t.lines pos).same_goes s.at
      ∙ ap (λ (o : ℕ). (o + 1) % t.bus.period) h ∙ mod-add-mod (c + s.count) t.bus.period 1
      ∙ ap (λ (n : ℕ). n % t.bus.period) (omega arith)

  -- a fetch takes no cycle
  fetched_on : (x : ℕ) (s : State) → OnClock s → OnClock (fetched (places_of t) x s)
  unfolding with_lines
  fetched_on x s h = (lines_forgotten t.bus.period t.lines pos).same_fetch x s.at ∙ h

  pass_on : (d : ℕ) (s : State) → OnClock s → OnClock (pass (places_of t) d s)
  unfolding pass
  pass_on zero s h = h
  pass_on (suc d) s h = pass_on d (tick (places_of t) s) (tick_on s h)

  access_on : {e : ℕ} {s s' : State} → Access t.bus (places_of t) e s s' → OnClock s → OnClock s'
  access_on {e} {s} (start m) h = pass_on e s h
  access_on {e} {s} (hold m a) h = access_on a (tick_on s h)

  mutual
    pub does_on : {n : ℕ} {s s' : State} → Does t.bus (places_of t) t.node_at n s s' → OnClock s → OnClock s'
    does_on {n} {s} (passes lo hi d x a b e) h = rw e (pass_on d s h)
    does_on {n} {s} (may_pass lo hi d x a b e) h = rw e (pass_on d s h)
    does_on (accesses kind lo hi d x a b r) h = access_on r h
    does_on (first_time {m = m} x lo hi hit d y u a b r e) h = rw e (fetched_on x m (access_on r h))
    does_on {n} {s} (later_time x lo hi hit y u e) h = rw e (pass_on hit s h)
    does_on (in_order ns x r) h = all_on r h
    does_on (one_of ns m x a r) h = does_on r h
    does_on (repeats least greatest body test k x a b r) h = times_on r h

    all_on : {ns : List ℕ} {s s' : State} → DoesAll t.bus (places_of t) t.node_at ns s s' → OnClock s → OnClock s'
    all_on end h = h
    all_on (next r rs) h = all_on rs (does_on r h)

    times_on : {k body test : ℕ} {s s' : State} → DoesTimes t.bus (places_of t) t.node_at k body test s s' → OnClock s → OnClock s'
    times_on (enough r) h = does_on r h
    times_on (again rs r u) h = does_on u (does_on r (times_on rs h))
