-- The accesses that start at once within a stretch: their last cycles, seen from where a longest stretch begins, and where they end.
use mathlib.Core.Path.{◌≡◌, sym, ap, ap₂, ◌∙◌, subst}
use mathlib.Core.Bool.{true, ◌&&◌}
use lib.Pow.{pow_pos, ones_lt}
use lib.Bits.{bit_and, and_le_r}
use native.Mathlib.Nat.{mod-lt, mod-add-mod, lt_of_le_of_lt}
use native.Mathlib.Omega.{arith}
use Prim.Native.Nat.{ℕ, ◌+◌, ◌-◌, ◌*◌, ◌%◌, ◌^◌, ◌≤◌, ◌<◌, min}
use Rattle.runs.specs.Schedules.{owns_next}
use Rattle.runs.specs.Stretches.{Begins}
use Rattle.runs.proofs.Cases.{split}
use Rattle.runs.proofs.SchedulesLaws.{next_at, next_of, and_both}
use Rattle.runs.proofs.Nexts.{run_fits, run_holds}
use Rattle.runs.proofs.BeginsLaws.{in_stretch}
use Rattle.runs.proofs.Forward.{index, from_none, once_round}
use Rattle.offsets.specs.Sets.{has, turned_by, Raised}
use Rattle.offsets.proofs.Members.{has_lt, has_ones, has_and}
use Rattle.offsets.proofs.Raises.{in_up, from_up}
use Rattle.offsets.proofs.Intervals.{low_lt}
use Rattle.bus.specs.declared.Bus.{Bus}
use Rattle.bus.specs.Owning.{owns, Fit}
use Rattle.bus.proofs.Turned.{turned_has}
use Rattle.exits.specs.Exits.{SetOf, LastIn, StartsNow}
use Rattle.exits.proofs.SetOfs.{set_same, set_wider, set_turn}
use Rattle.exits.proofs.Served.{Met, Among}

-- ---- the last cycles, within len places from `at` on

-- `mask` is these places, `inside` has the offsets of the stretch, `last` those with the cycles after them, and r what is in the stretch of these
module _ (m at len lo hi mask inside many last r : ℕ) (least : 1 ≤ lo) (fits : at + len ≤ 256)
    (places : mask ≡ ((2 ^ len - 1) * 2 ^ at) % 2 ^ 256) (within : inside ≡ bit_and m mask) (durations : many ≡ min hi len + 1 - lo)
    (on : Raised inside (lo - 1) many last) (is : r ≡ bit_and last mask) where
  in_mask : (o : ℕ) → at ≤ o → o < at + len → has mask o ≡ true
  in_mask o l h =
      let z : o - at + at ≡ o = omega arith in
      ap (λ (n : ℕ). has n o) places
      ∙ subst (λ (v : ℕ). has (((2 ^ len - 1) * 2 ^ at) % 2 ^ 256) v ≡ true) z (in_up (2 ^ len - 1) at (o - at) (omega arith) (has_ones len (o - at) (omega arith)))

  from_mask : (o : ℕ) → has mask o ≡ true → (at ≤ o) × (o < at + len)
  from_mask o t =
      let (i, u, e) = from_up (2 ^ len - 1) at o (sym (ap (λ (n : ℕ). has n o) places) ∙ t) in
      let l = has_lt (2 ^ len - 1) len i (ones_lt len) u in
      (omega arith, omega arith)

  -- what is in a set and in the mask
  in_both : (a s o : ℕ) → s ≡ bit_and a mask → has a o ≡ true → at ≤ o → o < at + len → has s o ≡ true
  in_both a s o e t l h = ap (λ (n : ℕ). has n o) e ∙ has_and a mask o ∙ ap₂ ◌&&◌ t (in_mask o l h)

  from_both : (a s o : ℕ) → s ≡ bit_and a mask → has s o ≡ true → (has a o ≡ true) × (at ≤ o) × (o < at + len)
  from_both a s o e t =
      let (u, v) = and_both (has a o) (has mask o) (sym (has_and a mask o) ∙ sym (ap (λ (n : ℕ). has n o) e) ∙ t) in
      let (l, h) = from_mask o v in
      (u, l, h)

  pub last_in : SetOf (at + len) (LastIn m at len lo hi) r
  last_in = record {
    within =
        let low : mask < 2 ^ (at + len) =
        low_lt 256 (at + len) mask fits (subst (λ (n : ℕ). n < 2 ^ 256) (sym places) (mod-lt _ (pow_pos 256))) (λ o t. (from_mask o t).1) in
        subst (λ (n : ℕ). n < 2 ^ (at + len)) (sym is) (lt_of_le_of_lt (and_le_r last mask) low);
    all = λ j (d, y, k, l, s, t, q).
        let z : at + y + (lo - 1 + (d - lo)) ≡ j = omega arith in
        let u : has inside (at + y) ≡ true = in_both m inside (at + y) within t (omega arith) (omega arith) in
        in_both last r j is (subst (λ (v : ℕ). has last v ≡ true) z (on.all (at + y) (d - lo) u (omega arith) (omega arith))) (omega arith) (omega arith);
    only = λ j t.
        let (u, l, h) = from_both last r j is t in
        let (o, i, k, v, q) = on.only j u in
        let (w, p, g) = from_both m inside o within v in
        let z : at + (o - at) ≡ o = omega arith in
        (lo + i, o - at, omega arith, omega arith, omega arith, ap (has m) z ∙ w, omega arith);
  }

-- ---- seen from `first`, where a longest stretch begins

-- j is the last cycle of an access of lo to hi cycles from an offset of n that starts at once in the stretch that is met after i cycles
abbrev pub LastAt : Bus → (n lo hi i j : ℕ) → Type 0
LastAt b n lo hi i j =
    (d y : ℕ) × (lo ≤ d) × (d ≤ hi) × (owns_next b.period (owns b) (y + d) ((b.first + i) % b.period) ≡ true)
    × (has n ((b.first + (i + y)) % b.period) ≡ true) × (i + (y + d) ≡ j + 1)

module _ (b : Bus) (fit : Fit b) (less : b.most < b.period) (n lo hi : ℕ) (least : 1 ≤ lo) where
  abbrev P : ℕ
  P = b.period

  abbrev f : ℕ
  f = b.first

  first : Begins P (owns b) f
  first = fit.begins less

  pub last_at : (m x len gone r : ℕ) → m ≡ turned_by P (P - f) n → Met b x len gone → gone + len ≤ P → SetOf (gone + len) (LastIn m gone len lo hi) r → SetOf P (LastAt b n lo hi gone) r
  last_at m x len gone r is met fits c =
      set_same P r (LastIn m gone len lo hi) (LastAt b n lo hi gone)
      (λ j (d, y, k, l, s, t, q). (d, y, k, l, ap (owns_next P (owns b) (y + d)) (sym met.place) ∙ run_holds P (owns b) x len (y + d) met.run s, sym (seen y (omega arith)) ∙ t, q))
      (λ j (d, y, k, l, s, t, q).
      let g = run_fits P (owns b) x len (y + d) met.run (ap (owns_next P (owns b) (y + d)) met.place ∙ s) in
      (d, y, k, l, g, seen y (omega arith) ∙ t, q))
      (set_wider (gone + len) P r (LastIn m gone len lo hi) fits c)
    where
      seen : (y : ℕ) → y < len → has m (gone + y) ≡ has n ((f + (gone + y)) % P)
      seen y l = ap (λ (v : ℕ). has v (gone + y)) is ∙ turned_has P f n (gone + y) first.low (omega arith)

  -- every stretch is met before the period is over
  nearer : (a : ℕ) → a < P → (i : ℕ) × (i < P) × ((f + i) % P ≡ a)
  nearer a l =
      let (i, h, k, e) = index P (owns b) f first a l in
      split P i
      (λ m. let z : i ≡ P = omega arith in
      (0, omega arith, from_none P (owns b) f first ∙ sym (once_round P (owns b) f first) ∙ ap (λ (v : ℕ). (f + v) % P) (sym z) ∙ e))
      (λ m. (i, m, e))

  pub all_start : (e m r : ℕ) → P ≤ e → r ≡ turned_by P (f + 1) m → SetOf P (Among b (LastAt b n lo hi) 0 e) m → SetOf P (StartsNow P (owns b) n lo hi) r
  all_start e m r past is c =
      set_same P r _ (StartsNow P (owns b) n lo hi)
      (λ o (j, (i, h, k, g, (d, y, l, u, s, t, q)), v).
      let z : f + (i + y) + d ≡ j + (f + 1) = omega arith in (
        d,
        (f + (i + y)) % P,
        l,
        u,
        mod-lt (f + (i + y)) (omega arith),
        t,
        next_of P (owns b) d ((f + (i + y)) % P) (λ w p.
            let a : f + (i + y) + w ≡ f + i + (y + w) = omega arith in
            ap (owns b) (mod-add-mod (f + (i + y)) P w ∙ ap (λ (x : ℕ). x % P) a ∙ sym (mod-add-mod (f + i) P (y + w)))
            ∙ next_at P (owns b) (y + d) ((f + i) % P) s (y + w) (omega arith)),
        mod-add-mod (f + (i + y)) P d ∙ ap (λ (x : ℕ). x % P) z ∙ v,
      ))
      (λ j (d, o, k, l, h, t, s, q).
      let (a, y, g, u, v) = in_stretch P (owns b) f first d o (omega arith) h s in
      let (i, w, p) = nearer a g.low in
      let here : (f + (i + y)) % P ≡ o =
      ap (λ (x : ℕ). x % P) (let z : f + (i + y) ≡ f + i + y = omega arith in z) ∙ sym (mod-add-mod (f + i) P y) ∙ ap (λ (x : ℕ). (x + y) % P) p ∙ u in
      let z : i + (y + d) - 1 + (f + 1) ≡ f + (i + y) + d = omega arith in (
        i + (y + d) - 1,
        (
          i,
          omega arith,
          omega arith,
          subst (λ (x : ℕ). Begins P (owns b) x) (sym p) g,
          (d, y, k, l, ap (owns_next P (owns b) (y + d)) p ∙ v, ap (has n) here ∙ t, omega arith),
        ),
        ap (λ (x : ℕ). x % P) z ∙ sym (mod-add-mod (f + (i + y)) P d) ∙ ap (λ (x : ℕ). (x + d) % P) here ∙ q,
      ))
      (set_turn P (f + 1) m r (Among b (LastAt b n lo hi) 0 e) fit.least is c)
