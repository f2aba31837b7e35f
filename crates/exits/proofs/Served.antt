-- Once round the period from stretch to stretch, from a longest one on: what holds for those that have been served, and at last for all.
use mathlib.Core.Path.{◌≡◌, sym, ◌∙◌, ap, subst}
use mathlib.Core.Logic.{◌⊎◌, inl, inr}
use mathlib.Core.Bool.{false≢true}
use lib.Bits.{bit_or}
use native.Mathlib.Omega.{arith}
use Prim.Native.Nat.{ℕ, ◌+◌, ◌-◌, ◌%◌, ◌≤◌, ◌<◌}
use Rattle.runs.specs.Schedules.{owns_next}
use Rattle.runs.specs.Stretches.{IsRun, Begins, Open, NextStretch}
use Rattle.runs.proofs.Cases.{split}
use Rattle.runs.proofs.Nexts.{run_holds}
use Rattle.runs.proofs.Forward.{from_none, back_again, index, some_len, none_between, round, next_begins, next_place}
use Rattle.bus.specs.declared.Bus.{Bus}
use Rattle.bus.specs.Owning.{owns, Fit}
use Rattle.exits.specs.Exits.{SetOf}
use Rattle.exits.proofs.SetOfs.{set_same, set_none, set_join}

-- `gone` cycles after `first` the stretch of len cycles is met that begins at x
pub record Met (b : Bus) (x len gone : ℕ) : Type 0 where
  pub place : x ≡ (b.first + gone) % b.period
  pub within : gone ≤ b.period
  pub begins : Begins b.period (owns b) x
  pub run : IsRun b.period (owns b) x len

-- for one of the stretches that are met after i cycles, i from k to below e, Q i holds of j
abbrev pub Among : Bus → (ℕ → ℕ → Type 0) → ℕ → ℕ → ℕ → Type 0
Among b Q k e j = (i : ℕ) × (k ≤ i) × (i < e) × Begins b.period (owns b) ((b.first + i) % b.period) × Q i j

pub none_served : (b : Bus) (Q : ℕ → ℕ → Type 0) (k e m : ℕ) → e ≤ k → m ≡ 0 → SetOf b.period (Among b Q k e) m
none_served b Q k e m l is = set_none b.period m _ is (λ j (i, h, n, x, q). omega arith)

module _ (b : Bus) (fit : Fit b) (less : b.most < b.period) where
  abbrev P : ℕ
  P = b.period

  first : Begins P (owns b) b.first
  first = fit.begins less

  pub met_first : Met b b.first b.most 0
  met_first = record { place = sym (from_none P (owns b) b.first first); within = omega arith; begins = first; run = fit.run less }

  -- none waits past `first`, where every access may start
  pub none_past : (y len gone d w : ℕ) → Met b y len gone → 1 ≤ gone → d ≤ b.most → Open P (owns b) d y w → w < gone
  none_past y len gone d w met some l o =
      let back : (y + P - gone) % P ≡ b.first =
      ap (λ (v : ℕ). (v + P - gone) % P) met.place ∙ back_again P (owns b) b.first first gone met.within in
      split gone w
      (λ m. absurd (false≢true (sym (o gone some m) ∙ ap (owns_next P (owns b) d) back ∙ run_holds P (owns b) b.first b.most d (fit.run less) l)))
      (λ m. m)

  -- on to the next
  module _ (x len gap y gone : ℕ) (few : gone < P) (met : Met b x len gone) (c : NextStretch P (owns b) x len gap y) where
    pub met_next : (len' : ℕ) → IsRun P (owns b) y len' → Met b y len' (gone + (len + gap))
    met_next len' run = record {
      place = next_place P (owns b) b.first first gone x len gap y few met.place c;
      within = round P (owns b) b.first first gone x len gap y few met.place c;
      begins = next_begins P (owns b) x len gap y c;
      run = run;
    }

    some : 1 ≤ len
    some = some_len P (owns b) x len gap y c

    none : (i : ℕ) → gone < i → i < gone + (len + gap) → Begins P (owns b) ((b.first + i) % P) → ⊥
    none = none_between P (owns b) b.first first gone x len gap y few met.place c

    module _ (Q : ℕ → ℕ → Type 0) (m n r : ℕ) (is : r ≡ bit_or m n) where
      -- the only one from e to below e' is served
      one_served : (k e e' i : ℕ) → k ≤ i → e ≤ i → i < e' → Begins P (owns b) ((b.first + i) % P)
          → ((h : ℕ) → e ≤ h → h < e' → Begins P (owns b) ((b.first + h) % P) → h ≡ i)
          → SetOf P (Among b Q k e) m → SetOf P (Q i) n → SetOf P (Among b Q k e') r
      one_served k e e' i l u v begins one s t =
          set_same P r (λ j. Among b Q k e j ⊎ Q i j) (Among b Q k e')
          (λ j. elim [ inl (h, o, p, g, q) ↦ (h, o, omega arith, g, q) | inr q ↦ (i, l, v, begins, q) ])
          (λ j (h, o, p, g, q).
          split e h
          (λ w. inr (subst (λ (z : ℕ). Q z j) (one h w p g) q))
          (λ w. inl (h, o, w, g, q)))
          (set_join P m n r (Among b Q k e) (Q i) is s t)

      -- the one at x
      pub here_served : SetOf P (Among b Q 0 gone) m → SetOf P (Q gone) n → SetOf P (Among b Q 0 (gone + (len + gap))) r
      here_served =
          one_served 0 gone (gone + (len + gap)) gone (omega arith) (omega arith) (omega (arith, some))
          (subst (λ (z : ℕ). Begins P (owns b) z) met.place met.begins)
          (λ h u v g. split h gone (λ z. omega arith) (λ z. absurd (none h z v g)))

      -- the one at y
      pub next_served : SetOf P (Among b Q 1 (gone + 1)) m → SetOf P (Q (gone + (len + gap))) n → SetOf P (Among b Q 1 (gone + (len + gap) + 1)) r
      next_served =
          one_served 1 (gone + 1) (gone + (len + gap) + 1) (gone + (len + gap)) (omega (arith, some)) (omega (arith, some)) (omega arith)
          (subst (λ (z : ℕ). Begins P (owns b) z) (next_place P (owns b) b.first first gone x len gap y few met.place c) (next_begins P (owns b) x len gap y c))
          (λ h u v g. split (gone + (len + gap)) h (λ z. omega arith) (λ z. absurd (none h (omega arith) z g)))

  -- every stretch is met within the period, `first` after it again
  pub all_served : (Q : ℕ → ℕ → Type 0) (e m : ℕ) → P < e → SetOf P (Among b (λ i. Q ((b.first + i) % P)) 1 e) m
      → SetOf P (λ j. (a : ℕ) × Begins P (owns b) a × Q a j) m
  all_served Q e m l =
      set_same P m _ _
      (λ j (i, h, k, x, q). ((b.first + i) % P, x, q))
      (λ j (a, x, q).
      let (i, h, k, u) = index P (owns b) b.first first a x.low in
      (i, h, omega arith, subst (λ (z : ℕ). Begins P (owns b) z) (sym u) x, subst (λ (z : ℕ). Q z j) (sym u) q))
