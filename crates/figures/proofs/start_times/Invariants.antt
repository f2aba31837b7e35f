use mathlib.Core.Path.{◌≡◌}
use mathlib.Core.Bool.{cond}
use lib.ListN.{length, get_or, take}
use Prim.Native.Nat.{ℕ, ◌<◌}
use Rattle.runs.specs.Runs.{is_start}
use Rattle.runs.specs.Figures.{no_time}
use Rattle.figures.proofs.start_times.Given as goal

abbrev pub invariant-loop-o : goal.invariant-loop-o
invariant-loop-o l = (length l.out ≡ 256) × ((o : ℕ) → o < 256 → get_or l.out o 0 ≡ cond (is_start (take l.o-index l.starts) o) 0 no_time)
