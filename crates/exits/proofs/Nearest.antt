-- The nearest offset of a set before a stretch decides which durations wait for it; and their ends.
use mathlib.Core.Path.{◌≡◌, sym, ap, ◌∙◌, subst}
use mathlib.Core.Bool.{Bool, true, false≢true}
use native.Mathlib.Omega.{arith}
use Prim.Native.Nat.{ℕ, ◌+◌, ◌-◌, ◌%◌, ◌≤◌, ◌<◌, max, min}
use Rattle.runs.specs.Stretches.{Open, NextStretch}
use Rattle.runs.proofs.Cases.{split}
use Rattle.runs.proofs.Nexts.{run_fits, run_holds}
use Rattle.runs.proofs.Forward.{opens, closes, opens_past, from_past, back_past}
use Rattle.bus.specs.declared.Bus.{Bus}
use Rattle.bus.specs.Aheads.{Behind}
use Rattle.bus.specs.Owning.{owns}
use Rattle.offsets.specs.declared.Set.{Set}
use Rattle.offsets.specs.Sets.{value, has}
use Rattle.exits.specs.Exits.{BusReady, SetOf, EndsFrom, WaitsAt, Waited}
use Rattle.exits.proofs.Ready.{hi_small}
use Rattle.exits.proofs.SetOfs.{set_same}
use Rattle.exits.proofs.Served.{Met, none_past}

-- nothing is gone, and no duration is above 256
pub waited_none : (P : ℕ) (own : ℕ → Bool) (n y k : ℕ) → 256 < k → Waited P own n y 0 k
waited_none P own n y k l = record {
  waits = λ d h m. absurd (omega arith);
  starts = λ d w h m i j t o. omega arith;
}

-- ---- from the stretch at x on to the one at y

module _ (P : ℕ) (own : ℕ → Bool) (n x len gap y near before gone : ℕ) (c : NextStretch P own x len gap y) (b : Behind P n y near)
    (fits : gone + (len + gap) ≤ P) (so : Waited P own n x gone before) where
  nearest : (w : ℕ) → 1 ≤ w → w ≤ gone + (len + gap) → has n ((y + P - w) % P) ≡ true → near ≤ w
  nearest w l m t = split near w (λ k. k) (λ k. absurd (false≢true (sym (b.passed w l k (omega arith)) ∙ t)))

  -- it stands in the gap or in the stretch before, of which so many cycles are left
  pub near_waits : (k : ℕ) → near ≤ gap + len → k ≡ near - gap + 1 → Waited P own n y (gone + (len + gap)) k
  near_waits k l e = record {
    waits = λ d i j. (near, b.some, omega arith, b.found (omega arith), opens P own x len gap y c d near (omega arith) l (omega arith));
    starts = λ d w i j p m t o.
        let h = closes P own x len gap y c d w i (omega arith) o in
        let g = nearest w p m t in
        omega arith;
  }

  -- it stands further back
  pub far_waits : (k : ℕ) → gap + len < near → k ≡ max before (len + 1) → Waited P own n y (gone + (len + gap)) k
  far_waits k l e = record {
    waits = λ d i j.
        let (w, p, m, t, o) = so.waits d (omega arith) j in (
          len + gap + w,
          omega arith,
          omega arith,
          ap (has n) (back_past P own x len gap y c w (omega arith)) ∙ t,
          opens_past P own x len gap y c d w (omega arith) (omega arith) (omega arith) o,
        );
    starts = λ d w i j p m t o.
        let g = nearest w p m t in
        let z : len + gap + (w - (len + gap)) ≡ w = omega arith in
        split d len
        (λ h. let u = closes P own x len gap y c d w i h o in omega arith)
        (λ h. so.starts d (w - (len + gap)) i (omega arith) (omega arith) (omega arith)
        (sym (ap (has n) (back_past P own x len gap y c (w - (len + gap)) (omega arith))) ∙ subst (λ (v : ℕ). has n ((y + P - v) % P) ≡ true) (sym z) t)
        (from_past P own x len gap y c d (w - (len + gap)) (omega arith) (subst (λ (v : ℕ). Open P own d y v) (sym z) o)));
  }

-- ---- the ends of those that wait for the stretch that is met at y

module _ (b : Bus) (lo hi : ℕ) (s : Set) (ready : BusReady b lo hi s) (less : b.most < b.period) (y len gone : ℕ) (met : Met b y len gone) (some : 1 ≤ gone) where
  abbrev P : ℕ
  P = b.period

  pub waits_at : (k from top m : ℕ) → Waited P (owns b) (value s) y gone k → from ≡ max lo k → top ≡ min hi len → SetOf P (EndsFrom P y from top) m
      → SetOf P (WaitsAt P (owns b) (value s) lo hi y) m
  waits_at k from top m x e u =
      let g = met.within in
      let c = hi_small b lo hi s ready in
      let i = ready.least in
      set_same P m (EndsFrom P y from top) (WaitsAt P (owns b) (value s) lo hi y)
      (λ j (d, l, h, q).
      let (w, p, n, t, o) = x.waits d (omega arith) (omega arith) in
      let v = none_past b ready.fit less y len gone d w met some (omega (arith, ready.most)) o in
      (d, w, omega arith, omega arith, p, omega arith, run_holds P (owns b) y len d met.run (omega arith), t, o, q))
      (λ j (d, w, l, h, p, n, a, t, o, q).
      let v = none_past b ready.fit less y len gone d w met some (omega (arith, ready.most)) o in
      let r = run_fits P (owns b) y len d met.run a in
      split k d
      (λ z. (d, omega arith, omega arith, q))
      (λ z. absurd (x.starts d w (omega arith) z p (omega arith) t o)))
