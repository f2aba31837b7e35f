-- A plain block of duration 0 leaves the array as it is; what a block that is fetched once asks of the rows.
use mathlib.Core.Path.{◌≡◌, refl, sym}
use mathlib.Core.List.{List}
use native.Mathlib.Omega.{arith}
use Prim.Native.Nat.{ℕ, suc, ◌+◌, ◌*◌, ◌/◌, ◌%◌, ◌≤◌, ◌<◌}
use Rattle.runs.specs.Lines.{power, add}
use Rattle.runs.specs.Schedules.{owning}
use Rattle.runs.specs.Clock.{with_lines}
use Rattle.runs.specs.Nodes.{Tree}
use Rattle.runs.proofs.Joins.{row_length}
use Rattle.runs.proofs.LinesLaws.{power_pos, add_in}
use Rattle.runs.proofs.Untested.{times_idle}
use Rattle.bus.specs.Owning.{bus_meant}
use Rattle.image.specs.declared.Walk.{Walk}
use Rattle.nodes.proofs.Fetches.{few_sets}
use Rattle.times.specs.Arrays.{table_of, Fits}
use Rattle.lined.specs.Lined.{FitsFrom, RowsReady}
use Rattle.lined.proofs.RowLaws.{half_has, row_fits}
use Rattle.tight.specs.Steps.{size_of, table, Walked, Steppable, PlainReady, OnceReady}

pub idle_walks : (k : Walk) (lo hi : ℕ) (t : List ℕ) → PlainReady k lo hi t → hi ≡ 0 → Walked k (Tree.plain lo hi) t t
unfolding table_of with_lines owning
idle_walks k lo hi t (n, h) e =
    let z : lo ≡ 0 = omega (arith, n.order) in
    record {
      size = refl;
      steps =
          rw (z, e)
          (sym (times_idle (bus_meant k.bus) h.sized.fit.least k.outline.lines (table k t) (row_length (size_of k) _)));
    }

-- a set without a line has one with it
paired : (n x j : ℕ) → x < n → j < power n → j / power x % 2 ≡ 0 → j + power x < power n
unfolding add
paired n x j h l e = let g : add x j < power n = add_in n x j h l in rw (half_has x j e) at g

light : (x : ℕ) → x ≤ 3 → power x ≤ 8
unfolding power
light x h = omega (arith, few_sets (suc x) (omega arith))

module _ (k : Walk) (t : List ℕ) (h : Steppable k t) where
  pub sets_fit : Fits (k.outline.sets * k.bus.period) t
  sets_fit = rw h.sized.sets_is h.fits

  row_fit : (j : ℕ) → j < k.outline.sets → FitsFrom (j * k.bus.period) k.bus.period t
  row_fit j l = row_fits k.bus k.outline.sets j t t l sets_fit (λ p m. refl)

  pub once_asks : (line lo hi hit w : ℕ) → OnceReady k line lo hi hit t → w ≡ power line → RowsReady k.bus lo hi hit w k.outline.sets 0 t
  once_asks line lo hi hit w r e =
      let pairs : (j : ℕ) → j < k.outline.sets → j / w % 2 ≡ 0 → j + w < k.outline.sets =
      λ j l m. rw (e, h.sized.sets_is) (paired k.outline.lines line j r.line_lt (rw h.sized.sets_is at l) (rw e at m)) in
      record {
        access = r.access;
        short = r.short;
        weight_pos = rw e (power_pos line);
        light = rw e (light line (omega (arith, r.line_lt, r.lines_few)));
        few = h.sized.few;
        paired = pairs;
        long = rw h.sized.sets_is h.size;
        fits = λ j m l q. (row_fit j l, row_fit (j + w) (pairs j l q));
      }
