use mathlib.Core.Path.{◌≡◌, refl, sym, ◌∙◌, ap, subst}
use Prim.Native.Nat.{ℕ, ◌+◌, ◌-◌}
use native.Mathlib.Omega.{arith}
use Rattle.runs.specs.Stretches.{NextStretch}
use Rattle.bus.specs.Owning.{owns}
use Rattle.bus.specs.Stretches.{after, begin_of}
use Rattle.bus.proofs.Listing.{after_in, after_next, after_last}
use Rattle.bus.proofs.Nexts.{gap_fits, gap_on, gap_round}
use Rattle.bus.proofs.next_stretch.Goals as goal
use Rattle.bus.proofs.next_stretch.Goals.{then-s-v, else-s-v, then-end-at, else-end-at, Joined-s-v, Start}

-- The next in the list, and the gap before it.

-- the stretch after the one with the number i, as the list has it
step : (s : Start)
    → let b = s.args.b in (gap : ℕ) × NextStretch b.period (owns b) s.args.s.at s.args.s.len gap (begin_of b.stretches (after b.stretches.count s.args.s.i))
step s =
    let b = s.args.b in
    let (lt, is_x, is-len) = s.requires.2 in
    let (gap, n) = (s.requires.0.in_turn s.requires.1).next s.args.s.i lt in (
      gap,
      subst (λ (x : ℕ). NextStretch b.period (owns b) x s.args.s.len gap (begin_of b.stretches (after b.stretches.count s.args.s.i))) is_x
          (subst (λ (len : ℕ). NextStretch b.period (owns b) (begin_of b.stretches s.args.s.i) len gap (begin_of b.stretches (after b.stretches.count s.args.s.i))) is-len n),
    )

-- its number
number : (c : Joined-s-v) → c.if-s-v.i ≡ after c.args.b.stretches.count c.args.s.i
number c =
    elim c.if-s-v.branch [
      | then-s-v w ↦ w.i-is ∙ sym (after_next c.args.b.stretches.count c.args.s.i (omega (arith, w.if-s-v.true)))
      | else-s-v w ↦ w.i-is ∙ sym (after_last c.args.b.stretches.count c.args.s.i (omega (arith, w.if-s-v.false)))
    ]

at_next : (c : Joined-s-v)
    → begin_of c.args.b.stretches c.if-s-v.i ≡ begin_of c.args.b.stretches (after c.args.b.stretches.count c.args.s.i)
at_next c = ap (begin_of c.args.b.stretches) (number c)

pub overflow_add-end : goal.overflow_add-end
overflow_add-end c =
    let s = (goal.at.overflow_add-end c).Start in
    let (gap, n) = step s in
    omega (arith, n.begins.low, n.fits, s.requires.0.most)

pub overflow_sub-gap-else-end-at : goal.overflow_sub-gap-else-end-at
overflow_sub-gap-else-end-at c =
    let s = (goal.at.overflow_sub-gap-else-end-at c).Start in
    let (gap, n) = step s in
    omega (arith, at_next (goal.at.overflow_sub-gap-else-end-at c).Joined-s-v, gap_fits s.args.b.period (owns s.args.b) s.args.s.at s.args.s.len gap _ n)

pub returns : goal.returns
returns c =
    let s = (goal.at.returns c).Start in
    let j = (goal.at.returns c).Joined-s-v in
    let b = s.args.b in
    let v = b.stretches in
    let x = s.args.s.at in
    let len = s.args.s.len in
    let P = b.period in
    let (gap, n) = step s in
    let lt = after_in v.count s.args.s.i s.requires.2.0 in
    let (gap', n') = (s.requires.0.in_turn s.requires.1).next (after v.count s.args.s.i) lt in
    let is : c.if-end-at.gap ≡ gap =
    elim c.if-end-at.branch [
      | then-end-at w ↦ w.gap-is ∙ ap (λ (k : ℕ). k - (x + len)) (at_next j) ∙ sym (gap_on P (owns b) x len gap _ n (omega (arith, at_next j, w.if-end-at.true)))
      | else-end-at w ↦ w.gap-is ∙ ap (λ (k : ℕ). k + P - (x + len)) (at_next j) ∙ sym (gap_round P (owns b) x len gap _ n (omega (arith, at_next j, w.if-end-at.false)))
    ] in
    rw (is, number j) (n, n'.run, (lt, refl, refl))
