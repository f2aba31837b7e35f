-- "Its first execution in a run, counted over all nodes with that line, always accesses; later ones pass the hit time" (document 02, W9): after
-- an execution a line is fetched if and only if it was before, or a node with it was executed; and at the start of a run none is.
use mathlib.Core.Path.{◌≡◌, refl, sym, ◌∙◌, ap}
use mathlib.Core.Bool.{Bool, true, false, not, ◌||◌}
use mathlib.Core.List.{List}
use lib.Dec.{eqb}
use borrow.Author.Tests.{ne_eqb, eqb-true, eqb-false, le-ltb}
use native.Mathlib.Omega.{arith}
use Prim.Native.Nat.{ℕ, zero, suc, ◌/◌, ◌<◌}
use Rattle.runs.specs.Lines.{has, add}
use Rattle.runs.specs.Clock.{State, on, with_lines, tick, pass, fetched, Access, start, hold}
use Rattle.runs.specs.Runs.{Task, places_of, Run, Does, DoesAll, DoesTimes, passes, may_pass, accesses, first_time, later_time, in_order, one_of, repeats, end, next, enough, again}
use Rattle.runs.specs.Fetching.{is_fetched, executes, executes_all, executes_times}
use Rattle.runs.proofs.Cases.{split, either}
use Rattle.runs.proofs.Joins.{or_joins}
use Rattle.runs.proofs.LinesLaws.{lines_stay, lines_grow, lines_none, has_add, has_other}

or_true : (b : Bool) → (b || true) ≡ true
or_true true = refl
or_true false = refl

or_held : (b c : Bool) → (c ≡ true → b ≡ true) → b ≡ (b || c)
or_held true c h = refl
or_held false true h = h refl
or_held false false h = refl

module _ (t : Task) (pos : 0 < t.bus.period) (x : ℕ) (line : x < t.lines) where
  tick_in : (s : State) → is_fetched t x (tick (places_of t) s) ≡ is_fetched t x s
  unfolding tick with_lines
  tick_in s = ap (has x) (lines_stay t.bus.period pos t.lines 1 s.at)

  pass_in : (d : ℕ) (s : State) → is_fetched t x (pass (places_of t) d s) ≡ is_fetched t x s
  unfolding pass
  pass_in zero s = refl
  pass_in (suc d) s = pass_in d (tick (places_of t) s) ∙ tick_in s

  access_in : {e : ℕ} {s s' : State} → Access t.bus (places_of t) e s s' → is_fetched t x s' ≡ is_fetched t x s
  access_in {e} {s} (start m) = pass_in e s
  access_in {e} {s} (hold m a) = access_in a ∙ tick_in s

  -- a fetch adds its line, and no other
  fetched_in : (y : ℕ) (s : State) → is_fetched t x (fetched (places_of t) y s) ≡ (is_fetched t x s || eqb y x)
  unfolding with_lines
  fetched_in y s =
      split t.lines y
      (λ k. rw (le-ltb y t.lines k, ne_eqb y x (λ e. omega arith)) (sym (or_joins.right (has x (s.at / t.bus.period)))))
      (λ k. ap (has x) (lines_grow t.bus.period pos t.lines y s.at k).1 ∙ added (s.at / t.bus.period))
    where
      added : (m : ℕ) → has x (add y m) ≡ (has x m || eqb y x)
      added m =
          either (eqb y x)
          (λ e. let same : y ≡ x = eqb-true y x e in rw (e, same) (has_add x m ∙ sym (or_true (has x m))))
          (λ e. rw e (has_other y x m (eqb-false y x e) ∙ sym (or_joins.right (has x m))))

  mutual
    unfolding executes

    pub met : {n : ℕ} {s s' : State} (r : Does t.bus (places_of t) t.node_at n s s') → is_fetched t x s' ≡ (is_fetched t x s || executes x r)
    met {n} {s} (passes lo hi d e i j f) = rw f (pass_in d s ∙ sym (or_joins.right (is_fetched t x s)))
    met {n} {s} (may_pass lo hi d e i j f) = rw f (pass_in d s ∙ sym (or_joins.right (is_fetched t x s)))
    met {n} {s} (accesses kind lo hi d e i j a) = access_in a ∙ sym (or_joins.right (is_fetched t x s))
    met (first_time {m = m} y lo hi hit d e u i j a f) = rw f (fetched_in y m ∙ ap (λ (z : Bool). z || eqb y x) (access_in a))
    met {n} {s} (later_time y lo hi hit e h f) =
        rw f (pass_in hit s ∙ or_held (is_fetched t x s) (eqb y x) (λ q. let same : y ≡ x = eqb-true y x q in rw same at h))
    met (in_order ns e r) = met_all r
    met (one_of ns m e i r) = met r
    met (repeats least greatest body test k e i j r) = met_times r

    met_all : {ns : List ℕ} {s s' : State} (r : DoesAll t.bus (places_of t) t.node_at ns s s') → is_fetched t x s' ≡ (is_fetched t x s || executes_all x r)
    met_all {ns} {s} end = sym (or_joins.right (is_fetched t x s))
    met_all {ns} {s} (next r rs) = met_all rs ∙ ap (λ (z : Bool). z || executes_all x rs) (met r) ∙ or_joins.assoc (is_fetched t x s) (executes x r) (executes_all x rs)

    met_times : {k body test : ℕ} {s s' : State} (r : DoesTimes t.bus (places_of t) t.node_at k body test s s')
        → is_fetched t x s' ≡ (is_fetched t x s || executes_times x r)
    met_times (enough r) = met r
    met_times {k} {body} {test} {s} (again {m = m} rs r u) =
        met u ∙ ap (λ (z : Bool). z || executes x u) (met r) ∙ or_joins.assoc (is_fetched t x m) (executes x r) (executes x u)
        ∙ ap (λ (z : Bool). z || (executes x r || executes x u)) (met_times rs)
        ∙ or_joins.assoc (is_fetched t x s) (executes_times x rs) (executes x r || executes x u)

  -- "at first none": so at the end of a run the lines fetched are those of the nodes executed
  pub run_met : {s : State} (r : Run t s) → is_fetched t x s ≡ executes x r.does
  unfolding with_lines
  run_met r = met r.does ∙ ap (λ (z : Bool). z || executes x r.does) (not_yet (is_fetched t x (on r.from 0)) (lines_none t.bus.period pos t.lines x r.from r.inside))
    where
      not_yet : (b : Bool) → not b ≡ true → b ≡ false
      not_yet true e = sym e
      not_yet false e = refl
