-- What is seen of a loop stays true from iteration to iteration.
use mathlib.Core.Path.{◌≡◌, refl}
use mathlib.Core.Bool.{Bool, true, false}
use mathlib.Core.List.{List}
use lib.ListN.{length}
use Prim.Native.Nat.{ℕ}
use Rattle.runs.specs.Parts.{shifted}
use Rattle.times.specs.Arrays.{table_of, Shifted}
use Rattle.cycles.specs.Cycles.{looks, renews, Seen}
use Rattle.cycles.specs.declared.Watch.{Watch}
use Rattle.cycles.proofs.Watching.{watches_next, off_watches}
use Rattle.iterations.specs.Iterations.{WatchedBy}

-- what is kept then is `cur` or `old`, as the watch says
pub watched_by : (n : ℕ) (cur old old' : List ℕ) (w : Watch) (same : Bool) (gain : ℕ) (r : Watch) → Seen w same gain r → length old' ≡ length old
    → (same ≡ true → Shifted n old gain cur) → (renews r.search ≡ true → table_of n old' ≡ table_of n cur)
    → (renews r.search ≡ false → table_of n old' ≡ table_of n old) → WatchedBy n cur old w old' r
watched_by n cur old old' w same gain r seen size is renewed kept = record {
  counts = seen.counts;
  size = size;
  watches = λ step commutes before h s.
      watches_next step shifted commutes w same gain r seen before (table_of n old) (table_of n cur) (table_of n old') h s is renewed kept;
}

-- once nothing is looked for, nothing is seen
pub watched_off : (n : ℕ) (cur old : List ℕ) (w : Watch) (same : Bool) (gain : ℕ) (r : Watch) → looks w.search ≡ false → Seen w same gain r → WatchedBy n cur old w old r
watched_off n cur old w same gain r e seen = record {
  counts = seen.counts;
  size = refl;
  watches = λ step commutes before h s. off_watches step shifted _ _ r (seen.counts.off e);
}
