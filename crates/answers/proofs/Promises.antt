-- The three parts of the entry's promise: equality, of a refusal by judging; both demands, from equality alone.
use mathlib.Core.Path.{◌≡◌, refl, ap}
use mathlib.Core.Bool.{Bool, true, false, cond}
use mathlib.Core.List.{List}
use Rattle.std.specs.Prelude.{Result as Outcome, Ok, Err}
use lib.ListN.{length}
use lib.Dec.{ltb}
use borrow.Author.Tests.{le-ltb}
use native.Mathlib.Nat.{mul-le-mul_left}
use native.Mathlib.Omega.{arith}
use Prim.Native.Nat.{ℕ, ◌≤◌}
use Rattle.runs.specs.Runs.{Task}
use Rattle.runs.specs.Figures.{entry_of, tight, published, exit_count}
use Rattle.runs.proofs.Whole.{whole_exact}
use Rattle.image.specs.Tasks.{task_of}
use Rattle.image.specs.Judged.{judged}
use Rattle.image.specs.declared.Outline.{Outline}
use Rattle.image.proofs.Reasons.{when_accepted}
use Rattle.image.proofs.Sounds.{ranged_kept, accepted}
use Rattle.answers.specs.declared.Totals.{Totals}
use Rattle.refusals.specs.declared.Refused.{Refused}
use Rattle.answers.specs.Answers.{Result, result_of, answer, given, refused, figures_of, filled, after_judging, table_for}
use Rattle.answers.specs.WholeRuns.{WholeRuns}
use Rattle.answers.specs.Promise.{Equal, Demand3, Demand2}
use Rattle.answers.proofs.Whole.{whole_runs}
use Rattle.answers.proofs.Accesses.{by_algorithms}

pub refused_equal : (s before : List ℕ) (r : Refused) → judged s ≡ Err r → Equal s before (Err r) before
refused_equal s before r e = record { result = rw e; table = rw e }

-- ---- an accepted image

-- numbers that are given are those of a table that is long enough
record Whole (t : Task) (P : ℕ) (before : List ℕ) (tightest most exits : ℕ) (after : List ℕ) : Type 0 where
  first : tightest ≡ entry_of (tight t)
  second : most ≡ published t
  third : exits ≡ exit_count t
  table : after ≡ filled t P before

whole : (z : Bool) (t : Task) (P n place : ℕ) (before : List ℕ) (tightest most exits : ℕ) (after : List ℕ)
    → given tightest most exits ≡ cond z (refused n place) (figures_of t) → after ≡ cond z before (filled t P before)
    → Whole t P before tightest most exits after
whole true t P n place before tightest most exits after e h = absurd (let z : ◌≡◌ {A = ℕ} 0 1 = cc in omega arith)
whole false t P n place before tightest most exits after e h = record { first = cc; second = cc; third = ap counted e; table = h }
  where
    counted : Result → ℕ
    counted (given tight published exits) = exits
    counted (refused number place) = 0

module _ (s before : List ℕ) (k : Outline) (e : judged s ≡ Ok k) where
  -- with a place for each offset the answer is the figures of the task
  pub figures_given : k.period ≤ length before → answer s before ≡ figures_of (task_of s k)
  figures_given room = rw (e, le-ltb (length before) k.period room)

  -- of numbers and a table that the definitions give
  totals : (tightest most exits : ℕ) (after : List ℕ) → given tightest most exits ≡ after_judging s before (Ok k) → after ≡ table_for s before (Ok k)
      → Whole (task_of s k) k.period before tightest most exits after
  totals tightest most exits after g h =
      whole (ltb (length before) k.period) (task_of s k) k.period _ (length s) before tightest most exits after g h

  -- demand 3 of them
  pub runs : (tightest most exits : ℕ) (after : List ℕ) → given tightest most exits ≡ after_judging s before (Ok k) → after ≡ table_for s before (Ok k)
      → WholeRuns (task_of s k) tightest most exits after
  runs tightest most exits after g h =
      let t = totals tightest most exits after g h in
      rw (t.first, t.second, t.third, t.table, (when_accepted s k e).period)
      (whole_runs (task_of s k) (accepted s k e) (when_accepted s k e).short _)

  -- and they are at most 65,535 for each of at most 100,000 visits
  pub figures_most : (tightest most exits : ℕ) (after : List ℕ) → given tightest most exits ≡ after_judging s before (Ok k) → after ≡ table_for s before (Ok k)
      → (tightest ≤ 6553500000) × (most ≤ 6553500000)
  figures_most tightest most exits after g h =
      let ok = accepted s k e in
      let short = mul-le-mul_left 65535 (when_accepted s k e).short in
      let cost = (whole_exact (task_of s k) ok).cost_bounded in
      let is = (totals tightest most exits after g h).second in
      let below = (runs tightest most exits after g h).below_published in
      (omega arith, omega arith)

-- ---- demands 3 and 2, from the equality alone

module _ (s before : List ℕ) (r : Outcome Totals Refused) (after : List ℕ) (q : Equal s before r after) where
  -- an accepted image with a place for each offset is given figures
  numbers : (k : Outline) → judged s ≡ Ok k → k.period ≤ length before
      → (f : Totals) × (r ≡ Ok f) × (given f.tight f.published f.exits ≡ after_judging s before (Ok k))
  numbers k e room = by_answer r refl (rw e at q.result)
    where
      by_answer : (x : Outcome Totals Refused) → r ≡ x → result_of x ≡ after_judging s before (Ok k)
          → (f : Totals) × (r ≡ Ok f) × (given f.tight f.published f.exits ≡ after_judging s before (Ok k))
      by_answer (Ok f) g h = (f, g, h)
      by_answer (Err x) g h =
          absurd (let w = rw (le-ltb (length before) k.period room) at h in let z : ◌≡◌ {A = ℕ} 0 1 = cc in omega arith)

  pub demand3 : Demand3 s before r after
  demand3 k e room =
      let (f, g, h) = numbers k e (omega (arith, room)) in
      (f, g, runs s before k e f.tight f.published f.exits after h (rw e at q.table))

  pub demand2 : Demand2 s before r
  demand2 k e room =
      let (f, g, h) = numbers k e (omega (arith, room)) in
      let costs = (totals s before k e f.tight f.published f.exits after h (rw e at q.table)).second in
      (f, g, by_algorithms s k f (ranged_kept s k (when_accepted s k e)) costs)
