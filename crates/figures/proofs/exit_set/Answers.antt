use mathlib.Core.Path.{◌≡◌, refl, ◌∙◌, ap}
use mathlib.Core.Bool.{Bool, ◌||◌, or-false}
use mathlib.Core.List.{List}
use lib.ListN.{get_or}
use lib.Pow.{pow_pos, pow_mono}
use lib.Bits.{bit_or}
use borrow.Author.Tests.{eq-eqb, ne_eqb}
use native.Mathlib.Nat.{le_refl, lt_of_lt_of_le}
use native.Mathlib.Omega.{arith}
use Prim.Native.Nat.{ℕ, ◌+◌, ◌^◌}
use Rattle.runs.specs.Figures.{no_time}
use Rattle.runs.proofs.Cases.{split}
use Rattle.offsets.specs.Sets.{value, has}
use Rattle.offsets.proofs.Members.{has_above}
use Rattle.figures.proofs.OneMore.{has_more, more_lt}
use Rattle.figures.proofs.exit_set.Goals as goal
use Rattle.figures.proofs.exit_set.Goals.{then-t-o, else-t-o}
use Rattle.figures.proofs.exit_set.Invariants.{Below}

none_yet : (t : List ℕ) (m : ℕ) → m ≡ 0 → Below t 0 m
none_yet t m e = record { within = rw e (pow_pos 0); members = λ j h. absurd (omega arith) }

kept : (t : List ℕ) (o m : ℕ) → get_or t o 0 ≡ no_time → Below t o m → Below t (o + 1) m
kept t o m e h = record {
  within = lt_of_lt_of_le h.within (pow_mono (omega arith));
  members = λ j l.
      split o j
      (λ g. let q : j ≡ o = omega arith in rw (q, has_above m o o h.within (le_refl o), eq-eqb (get_or t o 0) no_time e))
      (λ g. h.members j g);
}

joined : (t : List ℕ) (o m : ℕ) → (get_or t o 0 ≡ no_time → ⊥) → Below t o m → Below t (o + 1) (bit_or m (2 ^ o))
joined t o m e h = record {
  within = more_lt m o (o + 1) (lt_of_lt_of_le h.within (pow_mono (omega arith))) (omega arith);
  members = λ j l.
      split o j
      (λ g. let q : j ≡ o = omega arith in
      rw (q, has_more m o o, has_above m o o h.within (le_refl o), eq-eqb o o refl, ne_eqb (get_or t o 0) no_time e))
      (λ g. has_more m o j ∙ ap (λ (b : Bool). has m j || b) (ne_eqb o j (λ q. omega arith)) ∙ or-false (has m j) ∙ h.members j g);
}

pub loop-o-init : goal.loop-o-init
loop-o-init c = none_yet _ _ c.empty-out.ensures

pub loop-o-preserved : goal.loop-o-preserved
loop-o-preserved c =
    let l = c.loop-o in
    let t = c.args.t.now in
    elim c.if-t-o.branch [
      | then-t-o w ↦
          let is = ap value w.out-is ∙ w.join-out.ensures ∙ ap (bit_or (value l.out)) w.single.ensures in
          rw is (joined t l.o (value l.out) w.if-t-o.true l.invariant)
      | else-t-o w ↦ rw (ap value w.out-is) (kept t l.o (value l.out) w.if-t-o.false l.invariant)
    ]

pub returns : goal.returns
returns c =
    let l = c.loop-o in
    let a = c.args in
    let e : l.o ≡ a.n = omega arith in
    let h = rw e at l.invariant in
    record { within = h.within; members = h.members }
