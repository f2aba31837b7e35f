-- Demand 3 from the theorem about runs: what the table lists are the longest times, and they are numbers that differ from that of no time.
use mathlib.Core.Path.{◌≡◌, refl, ◌∙◌, ap}
use mathlib.Core.Bool.{cond}
use mathlib.Core.Option.{none, some}
use mathlib.Core.List.{List, ◌++◌}
use lib.ListN.{get_or, get_or-append}
use native.Mathlib.Numerals.{add-one}
use native.Mathlib.Nat.{add-zero, mul-le-mul_left}
use native.Mathlib.Omega.{arith}
use Prim.Native.Nat.{ℕ, zero, suc, ◌+◌, ◌≤◌, ◌<◌}
use Rattle.runs.specs.Clock.{State}
use Rattle.runs.specs.Nodes.{visits}
use Rattle.runs.specs.Runs.{Task, Run, final_offset, Ends}
use Rattle.runs.specs.Carried.{row}
use Rattle.runs.specs.Figures.{Time, no_time, entry_of, held, sum, tree_of, exit_times, exit_count, tight, published}
use Rattle.runs.specs.Exact.{Longest, nothing, reached, ValidTask, Exact}
use Rattle.runs.proofs.Joins.{row_length}
use Rattle.runs.proofs.Meanings.{row_at_lem}
use Rattle.runs.proofs.TimesExact.{longest_some}
use Rattle.runs.proofs.Whole.{whole_exact, tight_number, run_inside}
use Rattle.answers.specs.WholeRuns.{Listed, Counted, none as no-numbers, one_more, no_more, EndsAt, WholeRuns}

-- a longest time is none only where there is no count
longest_has : {C : ℕ → Type 0} {v : Time} → Longest C v → (c : ℕ) → C c → (m : ℕ) × (v ≡ some m) × (c ≤ m)
longest_has (nothing h) c x = absurd (h c x)
longest_has (reached {t = t} y h) c x = (t, refl, h c x)

module _ (t : Task) (ok : ValidTask t) (few : visits (tree_of t) ≤ 100000) (rest : List ℕ) where
  abbrev P : ℕ
  P = t.bus.period

  -- the table at exit
  abbrev table : List ℕ
  table = row t.bus.period (λ o. entry_of (get_or (exit_times t) o none)) ++ rest

  exact : Exact t
  exact = whole_exact t ok

  place : (o : ℕ) → o < t.bus.period → get_or table o 0 ≡ entry_of (get_or (exit_times t) o none)
  place o l =
      get_or-append (row t.bus.period (λ o. entry_of (get_or (exit_times t) o none))) rest 0 o
      (rw (row_length t.bus.period (λ o. entry_of (get_or (exit_times t) o none))) l)
      ∙ row_at_lem t.bus.period (λ o. entry_of (get_or (exit_times t) o none)) o 0 l

  -- a time is a number, and not that of no time
  held_place : (o m : ℕ) → o < t.bus.period → get_or (exit_times t) o none ≡ some m → (get_or table o 0 ≡ m) × (m < no_time)
  unfolding entry_of
  held_place o m l e = (
    place o l ∙ ap entry_of e,
    omega (arith, exact.bounded o m l e, mul-le-mul_left 65535 few),
  )

  free_place : (o : ℕ) → o < t.bus.period → get_or (exit_times t) o none ≡ none → get_or table o 0 ≡ no_time
  unfolding entry_of
  free_place o l e = place o l ∙ ap entry_of e

  -- where a run ends a time stands that it does not exceed
  at_end : (o c : ℕ) → o < t.bus.period → Ends t o c → (m : ℕ) × (get_or (exit_times t) o none ≡ some m) × (c ≤ m)
  at_end o c l e = longest_has (exact.table o l) c e

  at_run : (s : State) → Run t s → (m : ℕ) × (get_or (exit_times t) (final_offset t s) none ≡ some m) × (s.count ≤ m)
  at_run s r = at_end (final_offset t s) s.count (run_inside t ok s r) (s.at, refl, r)

  -- what is listed is a time, which a run reaches
  at_listed : (o : ℕ) → o < t.bus.period → Listed table o → (m : ℕ) × (get_or (exit_times t) o none ≡ some m) × (get_or table o 0 ≡ m) × Ends t o m
  at_listed o l h = go (get_or (exit_times t) o none) refl
    where
      go : (v : Time) → get_or (exit_times t) o none ≡ v → (m : ℕ) × (get_or (exit_times t) o none ≡ some m) × (get_or table o 0 ≡ m) × Ends t o m
      go none e = absurd (h (free_place o l e))
      go (some m) e = (m, e, (held_place o m l e).0, (longest_some (exact.table o l) m e).0)

  -- the offsets at which runs end, counted
  count_below : (n : ℕ) → n ≤ t.bus.period → Counted (EndsAt t) n (sum n (λ o. cond (held (get_or (exit_times t) o none)) 1 0))
  unfolding sum held
  count_below zero l = no-numbers
  count_below (suc n) l = go (count_below n (omega arith)) (get_or (exit_times t) n none) refl
    where
      go : Counted (EndsAt t) n (sum n (λ o. cond (held (get_or (exit_times t) o none)) 1 0)) → (v : Time) → get_or (exit_times t) n none ≡ v
          → Counted (EndsAt t) (suc n) (sum n (λ o. cond (held (get_or (exit_times t) o none)) 1 0) + cond (held (get_or (exit_times t) n none)) 1 0)
      go before none e = rw (e, add-zero) (no_more before (λ (c, r). let (m, f, b) = at_end n c (omega arith) r in let z : ◌≡◌ {A = ℕ} 0 1 = cc (e, f) in omega arith))
      go before (some m) e = rw (e, add-one) (one_more before (m, (longest_some (exact.table n (omega arith)) m e).0))

  pub whole_runs : WholeRuns t (entry_of (tight t)) (published t) (exit_count t) table
  unfolding entry_of
  whole_runs = let (m, e) = tight_number t ok in rw e (runs m e)
    where
      tightest : (m : ℕ) → tight t ≡ some m → (s : State) → Run t s → s.count ≤ m
      tightest m e s r = (longest_some exact.longest m e).1 s.count (final_offset t s, run_inside t ok s r, (s.at, refl, r))

      no_later : (m : ℕ) → tight t ≡ some m → (o n : ℕ) → o < t.bus.period → Ends t o n → n ≤ m
      no_later m e o n l r = (longest_some exact.longest m e).1 n (o, l, r)

      highest : (m : ℕ) → tight t ≡ some m → (o : ℕ) × (o < t.bus.period) × Listed table o × (get_or table o 0 ≡ m)
      highest m e =
          let (o, l, r) = (longest_some exact.longest m e).0 in
          let (n, f, b) = at_end o m l r in
          let h = held_place o n l f in
          let top = no_later m e o n l (longest_some (exact.table o l) n f).0 in
          (o, l, (λ z. omega (arith, h.0, h.1, z)), omega (arith, h.0))

      runs : (m : ℕ) → tight t ≡ some m → WholeRuns t m (published t) (exit_count t) table
      runs m e = record {
        some_run = exact.some_run;
        inside = exact.inside;
        listed = λ s r. let (n, f, b) = at_run s r in let h = held_place (final_offset t s) n (run_inside t ok s r) f in (λ z. omega (arith, h.0, h.1, z));
        within_time = λ s r. let (n, f, b) = at_run s r in omega (arith, (held_place (final_offset t s) n (run_inside t ok s r) f).0);
        within_tight = tightest m e;
        reached = λ o l h. let (n, f, p, r) = at_listed o l h in rw p r;
        counted = count_below t.bus.period (omega arith);
        largest = highest m e;
        no_larger = λ o l h. let (n, f, p, r) = at_listed o l h in omega (arith, p, no_later m e o n l r);
        below_published = exact.tight_below m e;
      }
