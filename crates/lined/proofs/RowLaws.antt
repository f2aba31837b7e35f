-- A row of a table, and all rows.
use mathlib.Core.Path.{◌≡◌, refl, sym, ◌∙◌, ap, ap₂, subst}
use mathlib.Core.Bool.{Bool, true, false, cond}
use mathlib.Core.Option.{none}
use mathlib.Core.List.{List, [], ◌∷◌}
use lib.ListN.{get_or, length, take, drop}
use lib.Dec.{eqb}
use borrow.Rule.Slice.PartMut.{put_mid}
use Rattle.std.proofs.lemmas.Grind.{common_steps}
use borrow.Author.Tests.{eqb-true, eqb-false, ne_eqb, eq-eqb}
use native.Mathlib.Nat.{add-div_right, div-eq_of_lt, div-eq-sub-div, zero-add, suc-add, not-suc-le-zero, le_of_suc-le-suc, mod-lt, div-add-mod', div-lt_iff_lt-mul, suc-mul, add-mul, one-mul, mul-le-mul_right}
use native.Mathlib.Omega.{arith}
use Prim.Native.Nat.{ℕ, zero, suc, ◌+◌, ◌*◌, ◌-◌, ◌/◌, ◌%◌, ◌≤◌, ◌<◌}
use Rattle.runs.specs.Schedules.{owning}
use Rattle.runs.specs.Lines.{power, has}
use Rattle.runs.specs.Clock.{offsets, with_lines}
use Rattle.runs.specs.Nodes.{Tree, may, always}
use Rattle.runs.specs.Carried.{join_below, carried}
use Rattle.runs.specs.Figures.{Time, later, longer, times, at_offsets}
use Rattle.runs.specs.Parts.{row_of}
use Rattle.runs.proofs.Joins.{longer_joins, row_same, below_same}
use Rattle.runs.proofs.Meanings.{row_at_lem}
use Rattle.runs.proofs.Cases.{split, either}
use Rattle.runs.proofs.LinesLaws.{within, low, power_pos}
use Rattle.runs.proofs.Rows.{below_rows, below_only, plain_row, bus_row, once_row, once_left, plain_still, bus_still}
use Rattle.bus.specs.declared.Bus.{Bus}
use Rattle.bus.specs.Owning.{bus_meant, Fit}
use Rattle.times.specs.Arrays.{no_time, time_of, table_of, Fits, Joined, Put}
use Rattle.steps.specs.Steps.{Stepped}
use Rattle.times.proofs.Tables.{time_none, table_of_at}
use Rattle.lined.specs.declared.Step.{Step}
use Rattle.lined.specs.declared.Step.TheVariants.{Plain, May, Always}
use Rattle.lined.specs.Lined.{block_of, row_at, FitsFrom, SteppedRow, lined, SteppedAll, Fetched, Visited, RowsReady}

-- the row m of at most 16 ends inside the table
pub row_ends : (m sets q n : ℕ) → m < sets → sets ≤ 16 → q ≤ 256 → sets * q ≤ n → (m * q + q ≤ n) × (m * q + q ≤ 4096)
row_ends m sets q n l few small long =
    let near = mul-le-mul_right q l in
    (omega (arith, near, suc-mul m q, long), omega (arith, near, suc-mul m q, mul-le-mul_right q few, small))

-- ---- a part of a list

at_take : (n : ℕ) (l : List ℕ) (o : ℕ) → o < n → get_or (take n l) o 0 ≡ get_or l o 0
at_take zero l o h = absurd (not-suc-le-zero h)
at_take (suc n) [] o h = refl
at_take (suc n) (x ∷ l) zero h = refl
at_take (suc n) (x ∷ l) (suc o) h = at_take n l o (le_of_suc-le-suc h)

at_drop : (i : ℕ) (l : List ℕ) (o : ℕ) → get_or (drop i l) o 0 ≡ get_or l (i + o) 0
at_drop zero l o = rw zero-add refl
at_drop (suc i) [] o = refl
at_drop (suc i) (x ∷ l) o = rw suc-add (at_drop i l o)

pub part_at : (n at : ℕ) (t : List ℕ) (o : ℕ) → o < n → get_or (take n (drop at t)) o 0 ≡ get_or t (at + o) 0
part_at n at t o h = at_take n (drop at t) o h ∙ at_drop at t o

low_half : (x m : ℕ) → has x m ≡ false → m / power x % 2 ≡ 0
unfolding has
low_half x m e =
    split 1 (m / power x % 2)
    (λ g. let z : m / power x % 2 ≡ 1 = omega (arith, g, mod-lt (m / power x) {m = 2} (omega arith)) in absurd (eqb-false _ _ e z))
    (λ g. omega (arith, g))

high_half : (x m : ℕ) → has x m ≡ true → (power x ≤ m) × ((m - power x) / power x % 2 ≡ 0)
unfolding has
high_half x m e =
    let f : m / power x % 2 ≡ 1 = eqb-true _ _ e in
    let l : power x ≤ m = split (power x) m (λ g. g) (λ g. let z : 1 ≤ 0 = omega (arith, f, div-eq_of_lt g) in absurd (not-suc-le-zero z)) in
    (l, omega (arith, f, div-eq-sub-div (power_pos x) l))

pub half_has : (x j : ℕ) → j / power x % 2 ≡ 0 → has x j ≡ false
unfolding has
half_has x j e = ne_eqb (j / power x % 2) 1 (λ z. let w : 1 ≤ 0 = omega (arith, e, z) in not-suc-le-zero w)

not_both : {j m : ℕ} → j < m → m ≤ j → ⊥
not_both h g = let z : 1 ≤ 0 = omega arith in not-suc-le-zero z

still : (d : ℕ) → later d none ≡ none
unfolding later
still d = refl

-- what stands in a part of a table after a write of ys there
pub written : (t ys : List ℕ) (at k n : ℕ) → k ≡ n → at + n ≤ length t → length ys ≡ n → Put t at n ys (put_mid at k t ys)
written t ys at k n e l h = record {
  size = grind (arith, common_steps);
  inside = λ o m. grind (arith, common_steps);
  before = λ p m. grind (arith, common_steps);
  after = λ p m. grind (arith, common_steps);
}

module _ (b : Bus) where
  abbrev P : ℕ
  P = b.period

  abbrev pub flat : Tree → List Time → List Time
  flat x T = times (bus_meant b) (offsets P) x T

  pub part_table : (n at : ℕ) (t : List ℕ) → n ≡ P → table_of P (take n (drop at t)) ≡ row_at P at t
  unfolding table_of
  part_table n at t e = row_same P _ _ (λ o l. ap time_of (part_at n at t o (omega arith)))

  pub part_fits : (n at : ℕ) (t : List ℕ) → n ≡ P → FitsFrom at P t → Fits P (take n (drop at t))
  unfolding Fits
  part_fits n at t e h = λ o l ne. rw (part_at n at t o (omega arith)) (h o l (λ z. ne (part_at n at t o (omega arith) ∙ z)))

  -- the row is stepped and put back
  pub stepped_row : (x : Tree) (n at : ℕ) (t next t' : List ℕ) → n ≡ P → Stepped b x (take n (drop at t)) next → Put t at P next t' → SteppedRow b x at t t'
  stepped_row x n at t next t' e h k = record {
    size = k.size;
    inside = λ o l.
        ap time_of (k.inside o l) ∙ sym (table_of_at P next o l)
        ∙ ap (λ (T : List Time). get_or T o none) (h ∙ ap (flat x) (part_table n at t e));
    before = k.before;
    after = k.after;
  }

  -- a row that holds nothing stays so
  row_none : (at : ℕ) (t : List ℕ) → ((o : ℕ) → o < P → get_or t (at + o) 0 ≡ no_time) → (o : ℕ) → o < P → get_or (row_at P at t) o none ≡ none
  row_none at t h o l = row_at_lem P (λ o. time_of (get_or t (at + o) 0)) o none l ∙ time_none _ (h o l)

  still_flat : (s : Step) (lo hi : ℕ) (T : List Time) → ((o : ℕ) → o < P → get_or T o none ≡ none) → (o : ℕ) → o < P → get_or (flat (block_of s lo hi) T) o none ≡ none
  still_flat Plain lo hi T h o l = plain_still none longer longer_joins later still (bus_meant b) (offsets P) lo hi T h o l
  still_flat May lo hi T h o l = bus_still none longer longer_joins later still (bus_meant b) (offsets P) may lo hi T h o l
  still_flat Always lo hi T h o l = bus_still none longer longer_joins later still (bus_meant b) (offsets P) always lo hi T h o l

  pub still_row : (s : Step) (lo hi n at : ℕ) (t : List ℕ) → n ≡ P → ((o : ℕ) → o < P → get_or (take n (drop at t)) o 0 ≡ no_time)
      → SteppedRow b (block_of s lo hi) at t t
  still_row s lo hi n at t e h =
      let none_at : (o : ℕ) → o < P → get_or t (at + o) 0 ≡ no_time = λ o l. sym (part_at n at t o (omega arith)) ∙ h o l in
      record {
        size = refl;
        inside = λ o l. time_none _ (none_at o l) ∙ sym (still_flat s lo hi (row_at P at t) (row_none at t none_at) o l);
        before = λ p l. refl;
        after = λ p l. refl;
      }

  pub period_pos : Fit b → 0 < P
  period_pos r = r.least

  -- ---- all rows

  -- rows that are the same before the step are the same after it
  pub row_moves : (at : ℕ) (t u : List ℕ) → ((o : ℕ) → o < P → get_or t (at + o) 0 ≡ get_or u (at + o) 0) → row_at P at t ≡ row_at P at u
  row_moves at t u h = row_same P _ _ (λ o l. ap time_of (h o l))

  module _ (n : ℕ) (pos : 0 < P) where
    row_of_lem : (t : List ℕ) (m : ℕ) → m < power n → row_of none P m (lined b n t) ≡ row_at P (m * P) t
    unfolding row_of
    row_of_lem t m l =
        row_same P _ _ (λ o k. table_of_at (power n * P) t (m * P + o) (inside m o l k))
      where
        inside : (m o : ℕ) → m < power n → o < P → m * P + o < power n * P
        inside m o l k = omega (arith, within P pos (power n) m o l k)

    all_at : (s : Step) (lo hi : ℕ) (t : List ℕ) (m o : ℕ) → m < power n → o < P
        → get_or (times (bus_meant b) (with_lines P n) (block_of s lo hi) (lined b n t)) (m * P + o) none ≡ get_or (flat (block_of s lo hi) (row_at P (m * P) t)) o none
    unfolding owning
    all_at s lo hi t m o l k = go s ∙ ap (λ (T : List Time). get_or (flat (block_of s lo hi) T) o none) (row_of_lem t m l)
      where
        go : (s : Step) → get_or (times (bus_meant b) (with_lines P n) (block_of s lo hi) (lined b n t)) (m * P + o) none
            ≡ get_or (flat (block_of s lo hi) (row_of none P m (lined b n t))) o none
        go Plain = plain_row none longer longer_joins later still (bus_meant b) pos n lo hi (lined b n t) m o l k
        go May = bus_row none longer longer_joins later still (bus_meant b) pos n may lo hi (lined b n t) m o l k
        go Always = bus_row none longer longer_joins later still (bus_meant b) pos n always lo hi (lined b n t) m o l k

    from_each : (s : Step) (lo hi : ℕ) (t r : List ℕ)
        → ((p : ℕ) → p < power n * P → time_of (get_or r p 0) ≡ get_or (times (bus_meant b) (with_lines P n) (block_of s lo hi) (lined b n t)) p none)
        → lined b n r ≡ times (bus_meant b) (with_lines P n) (block_of s lo hi) (lined b n t)
    unfolding carried table_of with_lines
    from_each Plain lo hi t r h = row_same (power n * P) _ _ (λ p l. h p l ∙ row_at_lem (power n * P) _ p none l)
    from_each May lo hi t r h = row_same (power n * P) _ _ (λ p l. h p l ∙ row_at_lem (power n * P) _ p none l)
    from_each Always lo hi t r h = row_same (power n * P) _ _ (λ p l. h p l ∙ row_at_lem (power n * P) _ p none l)

    -- every row is stepped, so the table is
    pub all_rows : (s : Step) (lo hi : ℕ) (t r : List ℕ) → length r ≡ length t
        → ((m o : ℕ) → m < power n → o < P → time_of (get_or r (m * P + o) 0) ≡ get_or (flat (block_of s lo hi) (row_at P (m * P) t)) o none)
        → SteppedAll b n (block_of s lo hi) t r
    all_rows s lo hi t r e h = record { size = e; steps = from_each s lo hi t r each }
      where
        each : (p : ℕ) → p < power n * P → time_of (get_or r p 0) ≡ get_or (times (bus_meant b) (with_lines P n) (block_of s lo hi) (lined b n t)) p none
        each p l =
            let m : p / P < power n = (div-lt_iff_lt-mul pos).1 l in
            let z : p / P * P + p % P ≡ p = div-add-mod' p P in
            subst (λ (i : ℕ). time_of (get_or r i 0) ≡ get_or (times (bus_meant b) (with_lines P n) (block_of s lo hi) (lined b n t)) i none) z
            (h (p / P) (p % P) m (mod-lt _ pos) ∙ sym (all_at s lo hi t (p / P) (p % P) m (mod-lt _ pos)))

  -- one row more
  pub rows_more : (s : Step) (lo hi m : ℕ) (t₀ t t' : List ℕ)
      → ((j o : ℕ) → j < m → o < P → time_of (get_or t (j * P + o) 0) ≡ get_or (flat (block_of s lo hi) (row_at P (j * P) t₀)) o none)
      → ((p : ℕ) → m * P ≤ p → get_or t p 0 ≡ get_or t₀ p 0)
      → SteppedRow b (block_of s lo hi) (m * P) t t'
      → ((j o : ℕ) → j < m + 1 → o < P → time_of (get_or t' (j * P + o) 0) ≡ get_or (flat (block_of s lo hi) (row_at P (j * P) t₀)) o none)
      × ((p : ℕ) → (m + 1) * P ≤ p → get_or t' p 0 ≡ get_or t₀ p 0)
  rows_more s lo hi m t₀ t t' done rest k = (
    (λ j o h l.
        split m j
        (λ g. let e : j ≡ m = omega arith in
        rw e (k.inside o l ∙ ap (λ (T : List Time). get_or (flat (block_of s lo hi) T) o none) (row_moves (m * P) t t₀ (λ o l. rest (m * P + o) (omega arith)))))
        (λ g. ap time_of (k.before (j * P + o) (omega (arith, suc-mul j P, mul-le-mul_right P g))) ∙ done j o g l)),
    (λ p h. let z : m * P + P ≤ p = omega (arith, add-mul m 1 P, one-mul P) in k.after p z ∙ rest p (omega arith)),
  )

  pub row_fits : (sets m : ℕ) (t₀ t : List ℕ) → m < sets → Fits (sets * P) t₀ → ((p : ℕ) → m * P ≤ p → get_or t p 0 ≡ get_or t₀ p 0) → FitsFrom (m * P) P t
  unfolding Fits
  row_fits sets m t₀ t l h rest = λ o k ne.
      let e = rest (m * P + o) (omega arith) in
      rw e (h (m * P + o) (omega (arith, suc-mul m P, mul-le-mul_right P l)) (λ z. ne (e ∙ z)))

  -- ---- a block fetched once, on its two rows

  module _ (lo hi hit at with : ℕ) (apart : at + P ≤ with) (t t₁ : List ℕ) (hits : SteppedRow b (Tree.plain hit hit) with t t₁) where
    -- the row without the line is as it was
    row_kept : row_at P at t₁ ≡ row_at P at t
    row_kept = row_moves at t₁ t (λ o l. hits.before (at + o) (omega arith))

    pub fetched_held : (n k : ℕ) (next next' nones t₂ t₃ : List ℕ) → n ≡ P → k ≡ P
        → Stepped b (Tree.bus always lo hi) (take n (drop at t₁)) next → Joined P next (take k (drop with t₁)) next'
        → ((o : ℕ) → o < P → get_or nones o 0 ≡ no_time) → Put t₁ with P next' t₂ → Put t₂ at P nones t₃ → Fetched b lo hi hit at with t t₃
    fetched_held n k next next' nones t₂ t₃ e e' steps joins none_at first second = record {
      size = second.size ∙ first.size ∙ hits.size;
      left = λ o l. second.inside o l ∙ none_at o l;
      inside = λ o l.
          ap time_of (second.after (with + o) (omega arith) ∙ first.inside o l)
          ∙ sym (table_of_at P next' o l)
          ∙ ap (λ (T : List Time). get_or T o none) joins
          ∙ row_at_lem P (λ o. longer (get_or (table_of P next) o none) (get_or (table_of P (take k (drop with t₁))) o none)) o none l
          ∙ ap₂ longer
          (ap (λ (T : List Time). get_or T o none) (steps ∙ ap (flat (Tree.bus always lo hi)) (part_table n at t₁ e ∙ row_kept)))
          (ap (λ (T : List Time). get_or T o none) (part_table k with t₁ e') ∙ row_at_lem P (λ o. time_of (get_or t₁ (with + o) 0)) o none l ∙ hits.inside o l);
      before = λ p l. second.before p l ∙ first.before p (omega arith) ∙ hits.before p (omega arith);
      between = λ p l h. second.after p l ∙ first.before p h ∙ hits.before p h;
      after = λ p l. second.after p (omega arith) ∙ first.after p l ∙ hits.after p l;
    }

    pub fetched_still : (n : ℕ) → n ≡ P → ((o : ℕ) → o < P → get_or (take n (drop at t₁)) o 0 ≡ no_time) → Fetched b lo hi hit at with t t₁
    fetched_still n e h =
        let none_at : (o : ℕ) → o < P → get_or t₁ (at + o) 0 ≡ no_time = λ o l. sym (part_at n at t₁ o (omega arith)) ∙ h o l in
        record {
          size = hits.size;
          left = none_at;
          inside = λ o l.
              hits.inside o l
              ∙ sym (ap (λ (v : Time). longer v (get_or (flat (Tree.plain hit hit) (row_at P with t)) o none))
              (ap (λ (T : List Time). get_or (flat (Tree.bus always lo hi) T) o none) (sym row_kept) ∙ still_flat Always lo hi (row_at P at t₁) (row_none at t₁ none_at) o l)
              ∙ longer_joins.left _);
          before = λ p l. hits.before p (omega arith);
          between = λ p l k. hits.before p k;
          after = hits.after;
        }

  pub kept_fits : (at with : ℕ) (x : Tree) (t t₁ : List ℕ) → at + P ≤ with → SteppedRow b x with t t₁ → FitsFrom at P t → FitsFrom at P t₁
  kept_fits at with x t t₁ l k h = λ o g ne.
      let e = k.before (at + o) (omega arith) in
      rw e (h o g (λ z. ne (e ∙ z)))

  -- ---- a block fetched once, on all rows

  -- a row that is neither of the two is as it was
  other_row : (lo hi hit m w i o : ℕ) (t r : List ℕ) → Fetched b lo hi hit (m * P) ((m + w) * P) t r → o < P → ¬ (i ≡ m) → ¬ (i ≡ m + w)
      → get_or r (i * P + o) 0 ≡ get_or t (i * P + o) 0
  other_row lo hi hit m w i o t r k l ne ne' =
      split m i
      (λ g. let above : m < i = strict m i g (λ z. ne (sym z)) in
      split (m + w) i
      (λ h. let past : m + w < i = strict (m + w) i h (λ z. ne' (sym z)) in
      k.after (i * P + o) (omega (arith, suc-mul (m + w) P, mul-le-mul_right P past)))
      (λ h. k.between (i * P + o) (omega (arith, suc-mul m P, mul-le-mul_right P above)) (omega (arith, suc-mul i P, mul-le-mul_right P h))))
      (λ g. k.before (i * P + o) (omega (arith, suc-mul i P, mul-le-mul_right P g)))
    where
      strict : (a c : ℕ) → a ≤ c → ¬ (a ≡ c) → a < c
      strict a c h n = split c a (λ g. let z : a ≡ c = omega arith in absurd (n z)) (λ g. g)

  flips : (w j : ℕ) → 0 < w → j / w % 2 ≡ 0 → (j + w) / w % 2 ≡ 0 → ⊥
  flips w j pos e f = let z : 1 ≤ 0 = omega (arith, add-div_right j pos) in not-suc-le-zero z

  module _ (lo hi hit w : ℕ) (t₀ : List ℕ) where
    -- the rows of the sets j and j + w are done, or as they were
    abbrev pub Done : List ℕ → ℕ → Type 0
    Done t j = (o : ℕ) → o < P → (get_or t (j * P + o) 0 ≡ no_time)
        × (time_of (get_or t ((j + w) * P + o) 0)
        ≡ longer (get_or (flat (Tree.bus always lo hi) (row_at P (j * P) t₀)) o none) (get_or (flat (Tree.plain hit hit) (row_at P ((j + w) * P) t₀)) o none))

    abbrev pub Kept : List ℕ → ℕ → Type 0
    Kept t j = (o : ℕ) → o < P → (get_or t (j * P + o) 0 ≡ get_or t₀ (j * P + o) 0) × (get_or t ((j + w) * P + o) 0 ≡ get_or t₀ ((j + w) * P + o) 0)

    pub visit_more : 0 < w → (m sets : ℕ) (t r : List ℕ) → m < sets → Visited b lo hi hit w m t r
        → ((j : ℕ) → j < m → j / w % 2 ≡ 0 → Done t j) → ((j : ℕ) → m ≤ j → j < sets → j / w % 2 ≡ 0 → Kept t j)
        → ((j : ℕ) → j < m + 1 → j / w % 2 ≡ 0 → Done r j) × ((j : ℕ) → m + 1 ≤ j → j < sets → j / w % 2 ≡ 0 → Kept r j)
    visit_more wpos m sets t r ms v done kept =
        either (eqb (m / w % 2) 0) (λ e. lower (eqb-true _ _ e)) (λ e. upper (λ z. eqb-false _ _ e z))
      where
        upper : ¬ (m / w % 2 ≡ 0) → ((j : ℕ) → j < m + 1 → j / w % 2 ≡ 0 → Done r j) × ((j : ℕ) → m + 1 ≤ j → j < sets → j / w % 2 ≡ 0 → Kept r j)
        upper ne = rw (v.with_it ne) (
          (λ j h e. split m j (λ g. let z : j ≡ m = omega arith in absurd (ne (subst (λ (i : ℕ). i / w % 2 ≡ 0) z e))) (λ g. done j g e)),
          (λ j h g e. kept j (omega arith) g e),
        )

        lower : m / w % 2 ≡ 0 → ((j : ℕ) → j < m + 1 → j / w % 2 ≡ 0 → Done r j) × ((j : ℕ) → m + 1 ≤ j → j < sets → j / w % 2 ≡ 0 → Kept r j)
        lower low =
            let k = v.without low in
            let here = kept m (omega arith) ms low in
            let same : (i o : ℕ) → o < P → ¬ (i ≡ m) → ¬ (i ≡ m + w) → get_or r (i * P + o) 0 ≡ get_or t (i * P + o) 0 =
            λ i o l ne ne'. other_row lo hi hit m w i o t r k l ne ne' in (
              (λ j h e. split m j
                  (λ g o l. let z : j ≡ m = omega arith in
                  rw z (
                    k.left o l,
                    k.inside o l ∙ ap₂ longer
                        (ap (λ (T : List Time). get_or (flat (Tree.bus always lo hi) T) o none) (row_moves (m * P) t t₀ (λ o l. (here o l).0)))
                        (ap (λ (T : List Time). get_or (flat (Tree.plain hit hit) T) o none) (row_moves ((m + w) * P) t t₀ (λ o l. (here o l).1))),
                  ))
                  (λ g o l. (
                    same j o l (λ z. not_both g (omega (arith, z))) (λ z. not_both g (omega (arith, z))) ∙ (done j g e o l).0,
                    ap time_of (same (j + w) o l (λ z. flips w j wpos e (subst (λ (i : ℕ). i / w % 2 ≡ 0) (sym z) low)) (λ z. not_both g (omega (arith, z)))) ∙ (done j g e o l).1,
                  ))),
              (λ j h g e o l. (
                same j o l (λ z. not_both {j = m} {m = j} (omega (arith, h)) (omega (arith, z))) (λ z. flips w m wpos low (subst (λ (i : ℕ). i / w % 2 ≡ 0) z e)) ∙ (kept j (omega arith) g e o l).0,
                same (j + w) o l (λ z. not_both {j = m} {m = j} (omega (arith, h)) (omega (arith, z))) (λ z. not_both {j = m} {m = j} (omega (arith, h)) (omega (arith, z))) ∙ (kept j (omega arith) g e o l).1,
              )),
            )

  -- every set is visited, so the table is the one after the block
  module _ (n : ℕ) (pos : 0 < P) (x : ℕ) (known : x < n) (lo hi hit : ℕ) (t₀ r : List ℕ)
      (done : (j : ℕ) → j < power n → j / power x % 2 ≡ 0 → Done lo hi hit (power x) t₀ r j) where
    abbrev Is : ℕ → Type 0
    Is p = time_of (get_or r p 0) ≡ get_or (times (bus_meant b) (with_lines P n) (Tree.once x lo hi hit) (lined b n t₀)) p none

    without_line : (m o : ℕ) → m < power n → o < P → has x m ≡ false → Is (m * P + o)
    unfolding owning
    without_line m o l k e =
        time_none _ (done m l (low_half x m e) o k).0
        ∙ sym (once_left none longer longer_joins later still (bus_meant b) pos n x known lo hi hit (lined b n t₀) m o l e k)

    with_line : (j o : ℕ) → j < power n → j + power x < power n → o < P → j / power x % 2 ≡ 0 → Is ((j + power x) * P + o)
    unfolding owning
    with_line j o l l' k e =
        (done j l e o k).1
        ∙ sym (once_row none longer longer_joins later still (bus_meant b) pos n x known lo hi hit (lined b n t₀) j o l (half_has x j e) k
        ∙ ap₂ longer
        (ap (λ (T : List Time). get_or (flat (Tree.bus always lo hi) T) o none) (row_of_lem n pos t₀ j l))
        (ap (λ (T : List Time). get_or (flat (Tree.plain hit hit) T) o none) (row_of_lem n pos t₀ (j + power x) l')))

    once_at : (m o : ℕ) → m < power n → o < P → Is (m * P + o)
    once_at m o l k =
        either (has x m)
        (λ e. let (g, f) = high_half x m e in
        let z : m - power x + power x ≡ m = omega (arith, g) in
        subst (λ (i : ℕ). Is (i * P + o)) z (with_line (m - power x) o (omega (arith, g, l)) (omega (arith, z, l)) k f))
        (λ e. without_line m o l k e)

    pub once_rows : length r ≡ length t₀ → SteppedAll b n (Tree.once x lo hi hit) t₀ r
    unfolding carried table_of with_lines
    once_rows e = record {
      size = e;
      steps = row_same (power n * P) _ _ (λ p l.
          let m : p / P < power n = (div-lt_iff_lt-mul pos).1 l in
          subst Is (div-add-mod' p P) (once_at (p / P) (p % P) m (mod-lt _ pos)) ∙ row_at_lem (power n * P) _ p none l);
    }

  pub once_ready : (lo hi hit w sets m : ℕ) (t₀ t : List ℕ) → RowsReady b lo hi hit w sets 0 t₀ → length t ≡ length t₀
      → ((j : ℕ) → m ≤ j → j < sets → j / w % 2 ≡ 0 → Kept lo hi hit w t₀ t j) → RowsReady b lo hi hit w sets m t
  once_ready lo hi hit w sets m t₀ t r e kept = record {
    access = r.access;
    short = r.short;
    weight_pos = r.weight_pos;
    light = r.light;
    few = r.few;
    paired = r.paired;
    long = omega (arith, r.long, e);
    fits = λ j h g low. (
      (λ o l ne. let z = (kept j h g low o l).0 in rw z ((r.fits j (omega arith) g low).0 o l (λ y. ne (z ∙ y)))),
      (λ o l ne. let z = (kept j h g low o l).1 in rw z ((r.fits j (omega arith) g low).1 o l (λ y. ne (z ∙ y)))),
    );
  }

  -- ---- the longest over all rows

  -- the join of the rows below m, at an offset
  abbrev pub over : ℕ → List ℕ → ℕ → Time
  over m t o = join_below none longer m (λ j. time_of (get_or t (j * P + o) 0))

  pub over_none : (t : List ℕ) (o : ℕ) → over 0 t o ≡ none
  unfolding join_below
  over_none t o = refl

  pub over_more : (k m at : ℕ) (t out out' : List ℕ) → k ≡ P → at ≡ m * P → Joined P out (take k (drop at t)) out'
      → ((o : ℕ) → o < P → time_of (get_or out o 0) ≡ over m t o) → (o : ℕ) → o < P → time_of (get_or out' o 0) ≡ over (suc m) t o
  unfolding join_below
  over_more k m at t out out' e f j h o l =
      sym (table_of_at P out' o l) ∙ ap (λ (T : List Time). get_or T o none) j
      ∙ row_at_lem P (λ o. longer (get_or (table_of P out) o none) (get_or (table_of P (take k (drop at t))) o none)) o none l
      ∙ ap₂ longer (table_of_at P out o l ∙ h o l)
      (ap (λ (T : List Time). get_or T o none) (part_table k at t e) ∙ row_at_lem P (λ o. time_of (get_or t (at + o) 0)) o none l
      ∙ ap (λ (i : ℕ). time_of (get_or t (i + o) 0)) f)

  module _ (n : ℕ) (pos : 0 < P) where
    -- at an offset each row has one place
    row_one : (t : List ℕ) (m o : ℕ) → m < power n → o < P
        → join_below none longer P (λ i. cond (eqb ((m * P + i) % P) o) (get_or (lined b n t) (m * P + i) none) none) ≡ time_of (get_or t (m * P + o) 0)
    row_one t m o l k =
        below_only none longer longer_joins P o (λ i. cond (eqb ((m * P + i) % P) o) (get_or (lined b n t) (m * P + i) none) none) k
        (λ i h ne. ap (λ (c : Bool). cond c (get_or (lined b n t) (m * P + i) none) none) (ne_eqb _ _ (λ z. ne (sym (low P pos m i h) ∙ z))))
        ∙ ap (λ (c : Bool). cond c (get_or (lined b n t) (m * P + o) none) none) (eq-eqb _ _ (low P pos m o k))
        ∙ table_of_at (power n * P) t (m * P + o) (within P pos (power n) m o l k)

    pub over_all : (t r : List ℕ) → ((o : ℕ) → o < P → time_of (get_or r o 0) ≡ over (power n) t o) → table_of P r ≡ at_offsets (with_lines P n) P (lined b n t)
    unfolding table_of at_offsets with_lines
    over_all t r h =
        row_same P _ _ (λ o l. h o l ∙ sym (below_rows none longer longer_joins P (power n) (λ p. cond (eqb (p % P) o) (get_or (lined b n t) p none) none)
        ∙ below_same none longer longer_joins (power n) _ _ (λ m k. row_one t m o k l)))
