use borrow.Author.Count.{below_more}
use mathlib.Core.Path.{◌≡◌, ◌∙◌, ap}
use Prim.Native.Nat.{ℕ, ◌+◌, ◌-◌, ◌%◌}
use native.Mathlib.Nat.{mod-lt, mod-add-mod}
use native.Mathlib.Omega.{arith}
use lib.ListN.{get_or, length-set}
use lib.Seq.{get_or-set_same, get_or-set_other}
use Rattle.times.specs.Arrays.{Fits, LaterOf}
use Rattle.windows.proofs.Passes.{one_passed}
use Rattle.windows.specs.Windows.{start}
use Rattle.windows.proofs.plain_one.Goals as goal

pub later_by-requires : goal.later_by-requires
unfolding Fits
later_by-requires c = (omega arith, (λ n. omega (arith, c.requires.1.fits c.loop-q.j c.loop-q.invariant.0 n)))

pub loop-q-preserved : goal.loop-q-preserved
loop-q-preserved c =
    let l = c.loop-q in
    let a = c.args in
    let p = a.period in
    let e : l.q + (p - a.d % p) + 1 ≡ l.q + 1 + (p - a.d % p) = omega arith in
    let got : LaterOf (get_or a.t.now (start p a.d l.q) 0) a.d c.later_by.result = rw l.invariant.1 at c.later_by.ensures in (
      omega (arith, c.turn-j.ensures, mod-lt (l.j + 1) {m = p} (omega arith)),
      c.turn-j.ensures ∙ ap (λ (x : ℕ). (x + 1) % p) l.invariant.1 ∙ mod-add-mod (l.q + (p - a.d % p)) p 1 ∙ ap (λ (x : ℕ). x % p) e,
      simp length-set (omega arith),
      below_more _ _ (λ i h. rw (get_or-set_other l.out l.q i c.later_by.result 0 (λ z. omega arith)) (l.invariant.3 i h))
          (rw (get_or-set_same l.out l.q c.later_by.result 0 (omega arith)) got),
    )

pub returns : goal.returns
returns c = one_passed _ _ _ _ (omega arith) (λ i h. c.loop-q.invariant.3 i (omega arith))
