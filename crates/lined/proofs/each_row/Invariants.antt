use mathlib.Core.Path.{◌≡◌}
use mathlib.Core.Option.{none}
use lib.ListN.{length, get_or}
use Prim.Native.Nat.{ℕ, ◌+◌, ◌*◌, ◌≤◌, ◌<◌}
use Rattle.times.specs.Arrays.{time_of}
use Rattle.lined.specs.Lined.{block_of, row_at}
use Rattle.lined.proofs.RowLaws.{flat}
use Rattle.lined.proofs.each_row.Given as goal

-- Before each turn the rows below m are stepped, and all places from there on are as they were.
abbrev pub invariant-loop-m : goal.invariant-loop-m
invariant-loop-m l =
    (length l.t ≡ length l.initial.t)
    × ((j o : ℕ) → j < l.m → o < l.b.period → time_of (get_or l.t (j * l.b.period + o) 0) ≡ get_or (flat l.b (block_of l.s l.lo l.hi) (row_at l.b.period (j * l.b.period) l.initial.t)) o none)
    × ((p : ℕ) → l.m * l.b.period ≤ p → get_or l.t p 0 ≡ get_or l.initial.t p 0)
