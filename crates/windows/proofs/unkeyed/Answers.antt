use borrow.Author.Count.{below_more}
use mathlib.Core.Path.{◌≡◌, ◌∙◌, ap}
use Prim.Native.Nat.{ℕ, ◌+◌, ◌-◌, ◌%◌}
use native.Mathlib.Nat.{mod-lt, mod-add-mod}
use native.Mathlib.Omega.{arith}
use lib.ListN.{length-set}
use lib.Seq.{get_or-set_same, get_or-set_other}
use Rattle.windows.specs.Windows.{Unkeyed, Room}
use Rattle.windows.proofs.unkeyed.Goals as goal

pub unkey-requires : goal.unkey-requires
unfolding Room
unkey-requires c = (c.requires.3 c.loop-q.j c.loop-q.invariant.0, omega arith)

pub loop-q-preserved : goal.loop-q-preserved
loop-q-preserved c =
    let l = c.loop-q in
    let a = c.args in
    let p = a.period in
    let e : l.q + (p - a.hi % p) + 1 ≡ l.q + 1 + (p - a.hi % p) = omega arith in (
      omega (arith, c.turn-j.ensures, mod-lt (l.j + 1) {m = p} (omega arith)),
      c.turn-j.ensures ∙ ap (λ (x : ℕ). (x + 1) % p) l.invariant.1 ∙ mod-add-mod (l.q + (p - a.hi % p)) p 1 ∙ ap (λ (x : ℕ). x % p) e,
      simp length-set (omega arith),
      below_more _ _ (λ i h. get_or-set_other l.out l.q i _ 0 (λ e. omega arith) ∙ l.invariant.3 i h)
          (get_or-set_same l.out l.q _ 0 (omega arith) ∙ c.unkey.ensures ∙ rw l.invariant.1),
    )

pub returns : goal.returns
unfolding Unkeyed
returns c = λ i h. c.loop-q.invariant.3 i (omega arith)
