use mathlib.Core.Bool.{true}
use mathlib.Core.Path.{◌≡◌, subst}
use Prim.Native.Nat.{ℕ, ◌+◌, ◌≤◌, ◌<◌}
use Rattle.runs.specs.Stretches.{IsRun}
use Rattle.runs.specs.Schedules.{owns_next}
use Rattle.runs.proofs.SchedulesLaws.{most_le}
use Rattle.runs.proofs.StretchesLaws.{lands}
use Rattle.runs.proofs.Nexts.{on_two, stretched_may, wait_le, wait_skips}
use Rattle.bus.specs.declared.Bus.{Bus}
use Rattle.bus.specs.Owning.{owns, bus_meant, Fit}
use Rattle.bus.proofs.Aheads.{parted, gap_free, gap_some}
use native.Mathlib.Omega.{arith}
use Rattle.bus.proofs.wait.Goals as goal
use Rattle.bus.proofs.wait.Goals.{After-turn_by-x}

-- no access is longer than the definition's longest
permitted : (b : Bus) → Fit b → (e : ℕ) → e ≤ b.most → e ≤ (bus_meant b).most
permitted b fit e = subst (λ (n : ℕ). e ≤ n) fit.longest

-- a run that is too short is within the period
few_in : (b : Bus) → Fit b → (e run : ℕ) → e ≤ b.most → run < e → run < b.period
few_in b fit e run le few = omega (arith, few, permitted b fit e le, most_le b.period (owns b))

-- what a turn passes
turned : (c : After-turn_by-x) → (
    let a = c.args in
    let l = c.loop-run in
    (1 ≤ c.gap-free.result) × (l.gone + (l.run + c.gap-free.result) ≤ (bus_meant a.b).wait a.e a.o)
    × ((bus_meant a.b).wait a.e a.o < a.b.period))
turned c =
    let a = c.args in
    let b = a.b in
    let l = c.loop-run in
    let end = c.turn_by-end in
    let free = c.gap-free in
    let few : l.run < a.e = omega (arith, c.loop-run-test.true, c.requires.1) in
    let run : IsRun b.period (owns b) l.x l.run = l.invariant.3.run (few_in b c.requires.0 a.e _ c.requires.2 few) in (
      gap_some (parted b c.requires.0) l.x l.run end.result free.result end.ensures.1 free.ensures.1 run.ends free.ensures.0,
      wait_skips b.period (owns b) c.requires.0.least a.e a.o l.gone l.x l.run free.result c.requires.1 (permitted c.args.b c.requires.0 c.args.e c.requires.2) c.requires.3 l.invariant.1 l.invariant.2 run few
          (gap_free (parted b c.requires.0) l.x l.run end.result free.result end.ensures.1 free.ensures.1),
      (lands b.period (owns b) c.requires.0.least a.e a.o c.requires.1 (permitted c.args.b c.requires.0 c.args.e c.requires.2) c.requires.3).few,
    )

pub turn_by-end-requires : goal.turn_by-end-requires
turn_by-end-requires c =
    (c.loop-run.invariant.0, omega (arith, few_in c.args.b c.requires.0 c.args.e c.loop-run.run c.requires.2 (omega (arith, c.loop-run-test.true, c.requires.1))), c.requires.0.most)

pub overflow_add-gone : goal.overflow_add-gone
overflow_add-gone c =
    let (h, k, m) = turned c in
    omega (arith, c.requires.0.most)

pub overflow_add-gone-in-loop-run : goal.overflow_add-gone-in-loop-run
overflow_add-gone-in-loop-run c =
    let (h, k, m) = turned c in
    omega (arith, c.requires.0.most)

pub loop-run-smaller : goal.loop-run-smaller
loop-run-smaller c = let (h, k, m) = turned c.before in omega arith

pub loop-run-preserved : goal.loop-run-preserved
loop-run-preserved c =
    let l = c.loop-run in
    let a = c.args in
    let (h, k, m) = turned c.before in (
      c.turn_by-x.ensures.0,
      on_two a.b.period a.o l.gone l.x l.run _ _ _ l.invariant.1 c.turn_by-end.ensures.1 c.turn_by-x.ensures.1,
      k,
      c.run_from-run-in-loop-run.ensures,
    )

pub returns : goal.returns
returns c =
    let a = c.args in
    let b = a.b in
    let l = c.loop-run in
    let most = most_le b.period (owns b) in
    let t : owns_next b.period (owns b) a.e l.x ≡ true = stretched_may b.period (owns b) l.x l.run a.e l.invariant.3 (omega (arith, c.loop-run-test.false)) (omega (arith, permitted c.args.b c.requires.0 c.args.e c.requires.2)) in
    let h = wait_le b.period (owns b) c.requires.0.least a.e a.o l.gone c.requires.1 (permitted c.args.b c.requires.0 c.args.e c.requires.2) c.requires.3 (subst (λ (y : ℕ). owns_next b.period (owns b) a.e y ≡ true) l.invariant.1 t) in
    omega (arith, l.invariant.2, h)
