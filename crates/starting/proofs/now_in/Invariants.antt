use mathlib.Core.Path.{◌≡◌}
use Prim.Native.Nat.{◌+◌, ◌-◌, ◌%◌, ◌<◌}
use lib.ListN.{length}
use Rattle.windows.specs.Windows.{top, Windowed}
use Rattle.starting.specs.Starting.{KeyedIn}
use Rattle.starting.proofs.Nows.{NowUp}
use Rattle.starting.proofs.now_in.Given as goal

-- Before each turn the entries that end less than y cycles after a are in `out`; `run` is the largest key of the prefix that ends there.
abbrev pub invariant-loop-y : goal.invariant-loop-y
invariant-loop-y l =
    (length l.k ≡ 256) × (length l.w ≡ 256) × (length l.out ≡ 256) × (l.q < l.period) × (l.q ≡ (l.a + l.y) % l.period) × KeyedIn l.period l.t l.a l.len l.k
    × Windowed l.k l.len (l.hi - l.lo + 1) l.w × (l.run ≡ top l.k 0 (l.y - l.lo)) × NowUp l.period l.t l.a l.y l.lo l.hi l.initial.out l.out
