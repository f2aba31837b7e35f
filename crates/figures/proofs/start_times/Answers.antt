use mathlib.Core.Path.{◌≡◌, sym, ◌∙◌, refl}
use mathlib.Core.Bool.{cond, or-true, or-false}
use mathlib.Core.List.{List}
use lib.Dec.{eqb}
use lib.ListN.{length, get_or, set, take, length-set, get_or-replicate}
use lib.Seq.{get_or-set_same, get_or-set_other, take-length}
use borrow.Author.Tests.{eqb-true, eqb-false}
use native.Mathlib.Omega.{arith}
use Prim.Native.Nat.{ℕ, ◌+◌, ◌<◌}
use Rattle.runs.specs.Runs.{is_start}
use Rattle.runs.specs.Figures.{no_time}
use Rattle.runs.proofs.Cases.{either}
use Rattle.figures.proofs.Listed.{one_more}
use Rattle.figures.proofs.start_times.Goals as goal

-- Before each turn a place holds 0 where it is one of the starts so far, and no time elsewhere; so after the last the array holds the start table.
-- one more start is written
written : (l out : List ℕ) (i o : ℕ) → i < length l → get_or l i 0 < length out → get_or out o 0 ≡ cond (is_start (take i l) o) 0 no_time
    → get_or (set out (get_or l i 0) 0) o 0 ≡ cond (is_start (take (i + 1) l) o) 0 no_time
written l out i o lt room h =
    either (eqb (get_or l i 0) o)
    (λ q. let same : o ≡ get_or l i 0 = sym (eqb-true (get_or l i 0) o q) in rw (one_more l i o lt, q, or-true, same) (get_or-set_same out (get_or l i 0) 0 0 room))
    (λ q. rw (one_more l i o lt, q, or-false) (get_or-set_other out (get_or l i 0) o 0 0 (λ z. eqb-false (get_or l i 0) o q (sym z)) ∙ h))

pub loop-o-init : goal.loop-o-init
unfolding is_start
loop-o-init c = (refl, λ o h. get_or-replicate 256 o no_time 0 h)

pub loop-o-preserved : goal.loop-o-preserved
loop-o-preserved c =
    let l = c.loop-o in
    (simp length-set l.invariant.0, λ o h. written c.args.starts.now l.out l.o-index o (omega arith) (omega arith) (l.invariant.1 o h))

pub returns : goal.returns
returns c =
    let l = c.loop-o in
    let e : l.o-index ≡ length c.args.starts.now = omega arith in
    (l.invariant.0, λ o h. rw (e, take-length c.args.starts.now) at (l.invariant.1 o h))
