use borrow.Author.Count.{below_more}
use mathlib.Core.Path.{◌≡◌, ◌∙◌, sym, ap}
use Prim.Native.Nat.{ℕ, ◌+◌, ◌%◌}
use native.Mathlib.Nat.{mod-lt, mod-add-mod}
use lib.ListN.{length-set}
use lib.Seq.{get_or-set_same, get_or-set_other}
use Rattle.times.specs.Arrays.{Fits}
use Rattle.starting.specs.Starting.{KeyedIn}
use native.Mathlib.Omega.{arith}
use Rattle.starting.proofs.keys_in.Goals as goal

pub key-x-requires : goal.key-x-requires
unfolding Fits
key-x-requires c =
    let l = c.loop-i in
    (omega arith, (λ h. c.requires.1.fits l.o l.invariant.0 h))

pub loop-i-preserved : goal.loop-i-preserved
loop-i-preserved c =
    let l = c.loop-i in
    let a = c.args in
    let p = a.period in
    let on : a.a + l.i + 1 ≡ a.a + (l.i + 1) = omega arith in (
      omega (arith, c.turn-o.ensures, mod-lt (l.o + 1) {m = p} (omega arith)),
      c.turn-o.ensures ∙ ap (λ (x : ℕ). (x + 1) % p) l.invariant.1 ∙ mod-add-mod (a.a + l.i) p 1 ∙ ap (λ (x : ℕ). x % p) on,
      simp length-set (omega arith),
      simp length-set (omega arith),
      below_more _ _ (λ j h. get_or-set_other l.k l.i j _ 0 (λ e. omega arith) ∙ l.invariant.4 j h)
          (get_or-set_same l.k l.i _ 0 (omega arith) ∙ c.key-x.ensures ∙ rw l.invariant.1),
      below_more _ _ (λ j h. get_or-set_other l.w l.i j _ 0 (λ e. omega arith) ∙ l.invariant.5 j h ∙ sym (get_or-set_other l.k l.i j _ 0 (λ e. omega arith)))
          (get_or-set_same l.w l.i _ 0 (omega arith) ∙ sym (get_or-set_same l.k l.i _ 0 (omega arith))),
    )

pub returns : goal.returns
unfolding KeyedIn
returns c =
    let v = c.loop-i.invariant in
    (v.2, v.3, (λ j h. v.4 j (omega arith)), (λ j h. v.5 j (omega arith)))
