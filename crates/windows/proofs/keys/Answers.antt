use borrow.Author.Count.{below_more}
use mathlib.Core.Path.{◌∙◌, ap}
use Prim.Native.Nat.{ℕ, ◌+◌, ◌%◌}
use native.Mathlib.Nat.{mod-lt, mod-add-mod}
use native.Mathlib.Omega.{arith}
use lib.ListN.{length-set}
use lib.Seq.{get_or-set_same, get_or-set_other}
use Rattle.times.specs.Arrays.{Fits}
use Rattle.windows.specs.Windows.{Keyed}
use Rattle.windows.proofs.keys.Goals as goal

pub key-requires : goal.key-requires
unfolding Fits
key-requires c = (omega arith, (λ h. c.requires.1.fits c.loop-m.o c.loop-m.invariant.0 h))

pub loop-m-preserved : goal.loop-m-preserved
loop-m-preserved c =
    let l = c.loop-m in
    let p = c.args.period in (
      (let e = c.turn-o.ensures in omega (arith, mod-lt (l.o + 1) {m = p} (omega arith))),
      c.turn-o.ensures ∙ ap (λ (x : ℕ). (x + 1) % p) l.invariant.1 ∙ mod-add-mod l.m p 1,
      simp length-set (omega arith),
      below_more _ _ (λ i h. get_or-set_other l.k l.m i _ 0 (λ e. omega arith) ∙ l.invariant.3 i h)
          (get_or-set_same l.k l.m _ 0 (omega arith) ∙ c.key.ensures ∙ rw l.invariant.1),
    )

pub returns : goal.returns
unfolding Keyed
returns c = λ i h. c.loop-m.invariant.3 i (omega arith)
