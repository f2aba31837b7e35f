use mathlib.Core.Path.{◌≡◌, ◌∙◌, refl, sym, subst}
use native.Mathlib.Numerals.{add-one}
use Prim.Native.Nat.{ℕ, ◌+◌, ◌*◌, ◌-◌}
use lib.ListN.{get_or, get_or-replicate}
use Rattle.times.specs.Arrays.{no_time, time_of}
use Rattle.times.proofs.Tables.{time_none}
use Rattle.lined.proofs.RowLaws.{over, over_none, over_more, over_all, period_pos}
use native.Mathlib.Omega.{arith}
use Rattle.lined.proofs.at_offsets.Goals as goal

pub loop-m-init : goal.loop-m-init
loop-m-init c =
    let a = c.args in
    (refl, (λ o l. time_none _ (get_or-replicate 256 o no_time 0 (omega (arith, l, c.requires.fit.most))) ∙ sym (over_none a.b a.t.now o)))

pub loop-m-preserved : goal.loop-m-preserved
loop-m-preserved c =
    let a = c.args in
    let l = c.loop-m in
    let q = a.b.period in (
      c.join.ensures.0 ∙ l.invariant.0,
      rw add-one (over_more a.b (l.m * q + q - l.m * q) l.m (l.m * q) a.t.now l.out c.join.new.out (omega arith) refl c.join.ensures.1 l.invariant.1),
    )

pub returns : goal.returns
returns c =
    let a = c.args in
    let l = c.loop-m in
    λ n e. over_all a.b n (period_pos a.b c.requires.fit) a.t.now l.out
    (λ o h. subst (λ (m : ℕ). time_of (get_or l.out o 0) ≡ over a.b m a.t.now o) (let z : l.m ≡ _ = omega (arith, e) in z) (l.invariant.1 o h))
