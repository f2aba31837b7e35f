use mathlib.Core.Path.{◌≡◌}
use lib.ListN.{length, get_or, take}
use Prim.Native.Nat.{ℕ, ◌^◌, ◌<◌}
use Rattle.runs.specs.Runs.{is_start}
use Rattle.offsets.specs.Sets.{value, has}
use Rattle.figures.proofs.start_set.Given as goal

abbrev pub invariant-loop-o : goal.invariant-loop-o
invariant-loop-o l =
    ((o : ℕ) → has (value l.out) o ≡ is_start (take l.o-index l.starts) o)
    × ((P : ℕ) → ((j : ℕ) → j < length l.starts → get_or l.starts j 0 < P) → value l.out < 2 ^ P)
