-- The longest wait for each stretch, from one to the next; and the offset with the longest wait for any that has room.
use mathlib.Core.Path.{◌≡◌, sym, ap, ◌∙◌, subst}
use mathlib.Core.Bool.{Bool, true, false≢true}
use native.Mathlib.Nat.{mod-add-mod, mod-lt}
use native.Mathlib.Omega.{arith}
use Prim.Native.Nat.{ℕ, ◌+◌, ◌-◌, ◌%◌, ◌≤◌, ◌<◌}
use Rattle.runs.specs.Schedules.{owns_next}
use Rattle.runs.specs.Stretches.{Begins, Open, NextStretch}
use Rattle.runs.proofs.Cases.{split}
use Rattle.runs.proofs.SchedulesLaws.{most_whole}
use Rattle.runs.proofs.StretchesLaws.{wait_to, lands, lands_begin}
use Rattle.runs.proofs.Nexts.{run_fits, run_holds, wait_none}
use Rattle.runs.proofs.Forward.{some_len, opens, closes, opens_past, from_past, back_over, back_past, index, none_between}
use Rattle.bus.specs.declared.Bus.{Bus}
use Rattle.bus.specs.Aheads.{Ahead}
use Rattle.bus.specs.Owning.{owns, bus_meant, Fit}
use Rattle.offsets.specs.declared.Set.{Set}
use Rattle.offsets.specs.Sets.{value, has}
use Rattle.costs.specs.Costs.{LongestWait, Slowest}
use Rattle.exits.proofs.Landings.{all_own}
use Rattle.exits.proofs.Served.{Met, none_past}

-- ---- from the stretch at x on to the one at y

module _ (P : ℕ) (own : ℕ → Bool) (n e x len gap y before gone : ℕ) (c : NextStretch P own x len gap y) (some : 1 ≤ e)
    (fits : gone + (len + gap) ≤ P) (few : before ≤ gone) (so : len < e → LongestWait P own n e 0 x gone before) where
  -- who stands before the stretch at x waits on only if that has no room
  further : (w : ℕ) → len + gap < w → w ≤ gone + (len + gap) → has n ((y + P - w) % P) ≡ true → Open P own e y w → (len < e) × (w ≤ len + gap + before)
  further w l m t o =
      let k = w - (len + gap) in
      let z : len + gap + k ≡ w = omega arith in
      split e len
      (λ g. let u = closes P own x len gap y c e w some g o in absurd (omega arith))
      (λ g.
      let h = (so g).most k (omega arith) (omega arith)
      (sym (ap (has n) (back_past P own x len gap y c k (omega arith))) ∙ subst (λ (v : ℕ). has n ((y + P - v) % P) ≡ true) (sym z) t)
      (from_past P own x len gap y c e k (omega arith) (subst (λ (v : ℕ). Open P own e y v) (sym z) o)) in
      (g, omega arith))

  -- it has no room, and some wait for it
  pub longest_past : (floor k : ℕ) → len < e → 1 ≤ before → k ≡ before + (len + gap) → LongestWait P own n e floor y (gone + (len + gap)) k
  longest_past floor k l h q =
      record {
        within = omega arith;
        one = λ i.
            let (t, o) = (so l).one h in
            let z : len + gap + before ≡ k = omega arith in
            subst (λ (v : ℕ). (has n ((y + P - v) % P) ≡ true) × Open P own e y v) z
            (ap (has n) (back_past P own x len gap y c before (omega arith)) ∙ t, opens_past P own x len gap y c e before some l (omega arith) o);
        most = λ w i m t o. split w (len + gap) (λ j. omega arith) (λ j. let (u, v) = further w j m t o in omega arith);
      }

  -- it has room, and who waits for y stands nearer
  pub longest_few : (floor : ℕ) → e ≤ len → gap + e ≤ floor + 1 → LongestWait P own n e floor y (gone + (len + gap)) 0
  longest_few floor l h = record {
    within = omega arith;
    one = λ i. absurd (omega arith);
    most = λ w i m t o. let u = closes P own x len gap y c e w some l o in omega arith;
  }

  -- `past` offsets of it are passed over, and it is `free` cycles on to the next offset
  pub longest_near : (floor past at free k : ℕ) → past ≡ len + 1 - e → (len < e → before ≡ 0) → at ≡ (x + past) % P → Ahead P n at free → k ≡ len + gap - (past + free)
      → LongestWait P own n e floor y (gone + (len + gap)) k
  longest_near floor past at free k p none place a q = record {
    within = omega arith;
    one = λ h.
        let z : len + gap - k - past ≡ free = omega arith in (
          ap (has n) (at_back k (omega arith)) ∙ subst (λ (v : ℕ). has n ((at + v) % P) ≡ true) (sym z) (a.found (omega arith)),
          opens P own x len gap y c e k some (omega arith) (omega arith),
        );
    most = λ w i m t o.
        let l = near w m t o in
        split w k (λ h. omega arith)
        (λ h. absurd (false≢true (sym (a.passed (len + gap - w - past) (omega arith)) ∙ sym (ap (has n) (at_back w l)) ∙ t)));
  }
    where
      near : (w : ℕ) → w ≤ gone + (len + gap) → has n ((y + P - w) % P) ≡ true → Open P own e y w → w + past ≤ len + gap
      near w m t o =
          split w (len + gap)
          (λ l. split e len (λ h. let u = closes P own x len gap y c e w some h o in omega arith) (λ h. omega arith))
          (λ l. let (u, v) = further w l m t o in let z = none u in absurd (omega arith))

      at_back : (w : ℕ) → w + past ≤ len + gap → (y + P - w) % P ≡ (at + (len + gap - w - past)) % P
      at_back w l =
          let i = len + gap - w - past in
          let z : x + past + i ≡ x + (len + gap - w) = omega arith in
          back_over P own x len gap y c w (omega arith) ∙ sym (ap (λ (v : ℕ). (v + i) % P) place ∙ mod-add-mod (x + past) P i ∙ ap (λ (v : ℕ). v % P) z)

-- ---- the offset with the longest wait

-- with an access of e cycles, the offset of s that is w cycles before a waits for the stretch that begins there
abbrev pub WaitsFor : Bus → ℕ → Set → (a w : ℕ) → Type 0
WaitsFor b e s a w =
    Begins b.period (owns b) a × (owns_next b.period (owns b) e a ≡ true) × (1 ≤ w) × (has (value s) ((a + b.period - w) % b.period) ≡ true)
    × Open b.period (owns b) e a w

-- none waits longer than `best` for a stretch that is met within `gone` cycles, and from the offset `at` of s it waits no less
pub record Kept (b : Bus) (e : ℕ) (s : Set) (gone at best : ℕ) : Type 0 where
  pub low : at < b.period
  pub here : has (value s) at ≡ true
  pub waits : best ≤ (bus_meant b).wait e at
  pub most : (i w : ℕ) → 1 ≤ i → i ≤ gone → WaitsFor b e s ((b.first + i) % b.period) w → w ≤ best

module _ (b : Bus) (fit : Fit b) (e : ℕ) (some : 1 ≤ e) (fine : e ≤ b.most) (s : Set) where
  abbrev P : ℕ
  P = b.period

  permitted : e ≤ (bus_meant b).most
  permitted = omega (arith, fit.longest)

  -- where every offset is owned none waits
  pub slowest_any : (o : ℕ) → P ≤ b.most → o < P → has (value s) o ≡ true → Slowest b e s o
  slowest_any o whole l t = record {
    low = l;
    here = t;
    most = λ i h u.
        let z = wait_none P (owns b) fit.least e i some permitted h
        (all_own P (owns b) fit.least (most_whole P (owns b) fit.least (omega (arith, fit.longest))) e i) in
        omega arith;
  }

  module _ (less : b.most < P) where
    module _ (x len gap y len' gone floor far at best : ℕ) (is-floor : e ≤ len' → floor ≤ best) (few : gone < P) (met : Met b x len gone) (c : NextStretch P (owns b) x len gap y)
        (next : Met b y len' (gone + (len + gap))) (so : LongestWait P (owns b) (value s) e floor y (gone + (len + gap)) far) (kept : Kept b e s gone at best) where
      ahead : 1 ≤ gone + (len + gap)
      ahead = omega (arith, some_len P (owns b) x len gap y c)

      kept_next : (at' best' : ℕ) → at' < P → has (value s) at' ≡ true → best' ≤ (bus_meant b).wait e at' → best ≤ best' → (e ≤ len' → far ≤ best')
          → Kept b e s (gone + (len + gap)) at' best'
      kept_next at' best' low here waits le room = record {
        low = low;
        here = here;
        waits = waits;
        most = λ i w l m t.
            split i gone
            (λ h. let z = kept.most i w l h t in omega arith)
            (λ h. split (gone + (len + gap)) i
            (λ k.
            let z : gone + (len + gap) ≡ i = omega arith in
            let q : (b.first + i) % P ≡ y = sym (next.place ∙ ap (λ (v : ℕ). (b.first + v) % P) z) in
            let (g, u, p, n, o) = subst (λ (v : ℕ). WaitsFor b e s v w) q t in
            let v = none_past b fit less y len' (gone + (len + gap)) e w next ahead fine o in
            let r = so.most w p (omega arith) n o in
            let h = run_fits P (owns b) y len' e next.run u in
            omega (arith, room h, is-floor h))
            (λ k. absurd (none_between P (owns b) b.first (fit.begins less) gone x len gap y few met.place c i h k t.0)));
      }

      -- none waits longer than before
      pub kept_same : (e ≤ len' → far ≤ best) → Kept b e s (gone + (len + gap)) at best
      kept_same = kept_next at best kept.low kept.here kept.waits (omega arith)

      -- the offset with the longest wait for y waits longest
      pub kept_far : (at' : ℕ) → e ≤ len' → best < far → at' ≡ (y + P - far) % P → Kept b e s (gone + (len + gap)) at' far
      kept_far at' room l q =
          let (t, o) = so.one (omega (arith, is-floor room)) in
          let h = none_past b fit less y len' (gone + (len + gap)) e far next ahead fine o in
          let w : (bus_meant b).wait e at' ≡ far =
          ap (λ (v : ℕ). (bus_meant b).wait e v) q
          ∙ wait_to P (owns b) fit.least e y far some permitted next.begins.low (omega (arith, next.within)) (run_holds P (owns b) y len' e next.run room) o in
          kept_next at' far (subst (λ (v : ℕ). v < P) (sym q) (mod-lt (y + P - far) fit.least)) (ap (has (value s)) q ∙ t) (omega arith) (omega arith) (λ g. omega arith)

    -- once round the period
    pub slowest : (gone at best : ℕ) → P ≤ gone → Kept b e s gone at best → Slowest b e s at
    slowest gone at best past kept = record {
      low = kept.low;
      here = kept.here;
      most = λ o l t.
          let w = (bus_meant b).wait e o in
          let h = kept.waits in
          let x = lands P (owns b) fit.least e o some permitted l in
          split 1 w
          (λ k.
          let g = lands_begin P (owns b) fit.least e o w some k x in
          let (i, m, r, q) = index P (owns b) b.first (fit.begins less) ((o + w) % P) g.low in
          let z = kept.most i w m (omega arith) (subst (λ (v : ℕ). WaitsFor b e s v w) (sym q) (g, x.starts, k, ap (has (value s)) x.from ∙ t, x.opens)) in
          omega arith)
          (λ k. omega arith);
    }
