use mathlib.Core.Path.{◌≡◌, ◌∙◌, ap}
use mathlib.Core.List.{List}
use lib.Pow.{pow_pos}
use lib.Bits.{bit_or}
use lib.ListN.{length, get_or, take}
use native.Mathlib.Omega.{arith}
use Prim.Native.Nat.{ℕ, ◌+◌, ◌^◌, ◌<◌}
use Rattle.runs.specs.Runs.{is_start}
use Rattle.offsets.specs.Sets.{value, has}
use Rattle.offsets.proofs.Members.{has_none}
use Rattle.figures.proofs.Listed.{one_more}
use Rattle.figures.proofs.OneMore.{has_more, more_lt}
use Rattle.figures.proofs.start_set.Goals as goal

-- Before each turn the set has just the starts so far, and it stays below every period that the starts are below.
-- one more start is joined
joined : (l : List ℕ) (i m o : ℕ) → i < length l → has m o ≡ is_start (take i l) o
    → has (bit_or m (2 ^ get_or l i 0)) o ≡ is_start (take (i + 1) l) o
joined l i m o lt h = rw (has_more m (get_or l i 0) o, one_more l i o lt, h)

pub loop-o-preserved : goal.loop-o-preserved
loop-o-preserved c =
    let l = c.loop-o in
    let starts = c.args.starts.now in
    let is = c.join-out.ensures ∙ ap (bit_or (value l.out)) (c.single.ensures ∙ ap (λ (k : ℕ). 2 ^ k) c.from.ensures) in (
      (λ o. rw is (joined starts l.o-index (value l.out) o (omega arith) (l.invariant.0 o))),
      (λ P h. rw is (more_lt (value l.out) (get_or starts l.o-index 0) P (l.invariant.1 P h) (h l.o-index (omega arith)))),
    )

pub loop-o-init : goal.loop-o-init
unfolding is_start
loop-o-init c = ((λ o. rw c.empty-out.ensures (has_none o)), (λ P h. rw c.empty-out.ensures (pow_pos P)))
