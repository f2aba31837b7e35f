-- Where both walks begin: at the listed starts, with the time 0, no line and room for the visits of the entry; and where they end.
use mathlib.Core.Path.{◌≡◌, refl, sym, ◌∙◌, ap}
use mathlib.Core.Bool.{Bool, true, false, cond, ◌&&◌}
use mathlib.Core.Option.{none, some}
use mathlib.Core.List.{List}
use lib.ListN.{length, get_or, replicate, get_or-replicate, length-replicate}
use lib.Dec.{ltb}
use borrow.Author.Tests.{lt-ltb, le-ltb}
use native.Mathlib.Omega.{arith}
use native.Mathlib.Nat.{le_refl, mul-le-mul_left, mul-le-mul_right, not-suc-le-zero}
use Prim.Native.Nat.{ℕ, zero, suc, ◌+◌, ◌*◌, ◌≤◌, ◌<◌}
use Rattle.runs.specs.Schedules.{owning}
use Rattle.runs.specs.Lines.{power}
use Rattle.runs.specs.Clock.{with_lines}
use Rattle.runs.specs.Nodes.{Tree, visits}
use Rattle.runs.specs.Runs.{is_start}
use Rattle.runs.specs.Carried.{row, join_below}
use Rattle.runs.specs.Figures.{Time, no_time, longer, start_times, times, cost, at_offsets, published}
use Rattle.runs.proofs.Cases.{split}
use Rattle.runs.proofs.Joins.{row_same, longer_joins}
use Rattle.runs.proofs.LinesLaws.{power_pos}
use Rattle.runs.proofs.Meanings.{row_at_lem}
use Rattle.bus.specs.Owning.{bus_meant}
use Rattle.image.specs.Tasks.{starts_of, task_of}
use Rattle.nodes.specs.Nodes.{tree_at}
use Rattle.image.specs.Walks.{Walkable}
use Rattle.image.specs.declared.Walk.{Walk}
use Rattle.offsets.specs.declared.Set.{Set}
use Rattle.times.specs.Arrays.{time_of, table_of, Put}
use Rattle.times.proofs.Tables.{time_none, time_some}
use Rattle.lined.specs.Lined.{AtOffsets, JoinReady}
use Rattle.lined.proofs.RowLaws.{period_pos, over_none, over_all}
use Rattle.tight.specs.Steps.{size_of, table, Ready, Walked}
use Rattle.tight.proofs.Descents.{sized, wide_size}
use Rattle.published.specs.Steps.{Ready as SetReady, Published}
use Rattle.published.specs.declared.Outcome.{Outcome}
use Rattle.figures.specs.Steps.{Started, StartedAt, StartedSet, Ended}
use Rattle.image_bytes.specs.Bytes.{byte_at}
use Rattle.rows.specs.Fields.{length_at, body_at}
use Rattle.schedule.specs.Said.{said}
use Rattle.exits.specs.Exits.{bits_of, Within}
use Rattle.exits.proofs.Bits.{bits_row}
use Rattle.figures.proofs.Listed.{bytes_length, bytes_number}
use Rattle.figures.proofs.Bridge.{period_said, times_said, cost_said}

entry : (z : Bool) → time_of (cond z 0 no_time) ≡ cond z (some 0) none
entry true = time_some 0 (λ z. omega arith)
entry false = time_none no_time refl

-- one set of lines: no line
no_line : (n : ℕ) → power n ≤ 1 → n ≡ 0
unfolding power
no_line zero h = refl
no_line (suc n) h = let z : 1 ≤ 0 = omega (arith, power_pos n) in absurd (not-suc-le-zero z)

module _ (s : List ℕ) (w : Walk) (places : List ℕ) (ok : Walkable s w places) where
  few : visits (tree_at s w.outline.entry) ≤ 100000
  few = ok.sound.accepting.short

  abbrev P : ℕ
  P = w.bus.period

  -- the walk's table from its places
  start_table : (t : List ℕ) → ((p : ℕ) → p < size_of w → get_or t p 0 ≡ cond (ltb p P && is_start (starts_of s) p) 0 no_time) → StartedAt s w t
  unfolding table_of start_times with_lines owning
  start_table t h = row_same (size_of w) _ _ (λ p l. ap time_of (h p l) ∙ entry (ltb p P && is_start (starts_of s) p))

  low_start : (t : List ℕ) (p : ℕ) → p < P → get_or t p 0 ≡ cond (is_start (starts_of s) p) 0 no_time → get_or t p 0 ≡ cond (ltb p P && is_start (starts_of s) p) 0 no_time
  low_start t p l e = rw (lt-ltb p P l) e

  single : w.outline.sets ≤ 1 → w.outline.lines ≡ 0
  single h = no_line w.outline.lines (omega (arith, ok.sound.accepting.sets))

  -- one row: the array of the starts is the table; and else its places are the first row
  pub started_row : (t : List ℕ) → w.outline.sets ≤ 1 → Started (starts_of s) w.bus.period t → StartedAt s w t
  started_row t h e =
      let m : power w.outline.lines ≤ 1 = omega (arith, ok.sound.accepting.sets) in
      start_table t (λ p l. let b : p < P = omega (arith, mul-le-mul_right P m) in low_start t p b (e p b))

  pub started_rows : (start t : List ℕ) → Started (starts_of s) w.bus.period start → Put (replicate 1024 no_time) 0 w.bus.period start t → StartedAt s w t
  started_rows start t e u =
      start_table t
      (λ p l.
      split P p
      (λ h. rw (le-ltb p P h) (u.after p (omega arith) ∙ get_or-replicate 1024 p no_time 0 (omega (arith, wide_size s w places ok))))
      (λ h. let z : 0 + p ≡ p = omega arith in low_start t p h ((rw z at (u.inside p h)) ∙ e p h)))

  -- a start's time is 0
  zero_at : (t : List ℕ) → StartedAt s w t → (o c : ℕ) → o < size_of w → get_or (table w t) o none ≡ some c → c ≡ 0
  unfolding start_times with_lines owning
  zero_at t e o c l h =
      go (ltb o P && is_start (starts_of s) o)
      (sym (row_at_lem (size_of w) (λ p. cond (ltb p P && is_start (starts_of s) p) (some 0) none) o none l) ∙ sym (ap (λ (T : List Time). get_or T o none) e) ∙ h)
    where
      go : (z : Bool) → cond z (some 0) none ≡ some c → c ≡ 0
      go true p = cc
      go false p = let z : ◌≡◌ {A = ℕ} 0 1 = cc in omega arith

  pub start_ready : (t : List ℕ) → size_of w ≤ length t → StartedAt s w t → Ready s w places w.outline.entry t
  start_ready t size e = record {
    walkable = ok;
    low = le_refl w.outline.entry;
    size = size;
    room = record {
      most = omega (arith, mul-le-mul_left 65535 few);
      grows = λ o c l h. omega (arith, zero_at t e o c l h, mul-le-mul_left 65535 few);
    };
  }

  pub some_set : 1 ≤ w.outline.sets
  some_set = rw ok.sound.accepting.sets (power_pos w.outline.lines)

  -- the rows that the walk starts from, and those that it leaves
  module _ (start t : List ℕ) (e : Started (starts_of s) w.bus.period start) (u : Put (replicate 1024 no_time) 0 w.bus.period start t) where
    rows_long : size_of w ≤ length t
    rows_long = omega (arith, u.size, length-replicate 1024 no_time, wide_size s w places ok)

    pub rows_ready : Ready s w places w.outline.entry t
    rows_ready = start_ready t rows_long (started_rows start t e u)

    -- as many of its rows as there are, or fewer
    pub rows_joins : (x : Tree) (r : List ℕ) → Walked w x t r → (m : ℕ) → m ≤ w.outline.sets → JoinReady w.bus m r
    rows_joins x r h m l = record {
      fit = ok.fit;
      few = omega (arith, (sized s w places ok).few);
      long =
          let all : w.outline.sets * w.bus.period ≤ length r = rw ok.sound.accepting.sets (omega (arith, h.size, rows_long)) in
          omega (arith, mul-le-mul_right w.bus.period l);
    }

  -- the starts that are listed, each below the period
  module _ (starts : List ℕ) (is : starts ≡ starts_of s) where
    pub listed_times : (t : List ℕ) → Started starts 256 t → Started (starts_of s) w.bus.period t
    listed_times t e o l = rw is at (e o (omega (arith, ok.fit.most)))

    pub low : (j : ℕ) → j < length starts → get_or starts j 0 < w.bus.period
    low j l =
        let p = body_at s 1 in
        let n = length_at s 1 in
        let few : j < n = omega (arith, ap length is, bytes_length s p n) in
        let below : byte_at s (p + j) < (said s).period = ok.sound.starts.low j (omega (arith, ok.sound.accepting.starts)) in
        omega (arith, ap (λ (l : List ℕ). get_or l j 0) is, bytes_number s p n j few, period_said s w places ok)

    pub set_within : (x : Set) → StartedSet starts x → Within w.bus.period x
    set_within x e = e.within w.bus.period low

    pub set_bits : (x : Set) → StartedSet starts x → bits_of w.bus.period x ≡ row w.bus.period (is_start (starts_of s))
    set_bits x e = bits_row w.bus.period x (is_start (starts_of s)) (λ o l. e.members o ∙ ap (λ (l : List ℕ). is_start l o) is)

  pub set_ready : (x : Set) → Within w.bus.period x → SetReady s w places w.outline.entry x
  set_ready x within = record { walkable = ok; low = le_refl w.outline.entry; few = few; within = within }

  pub cost_ended : (x : Set) (r : Outcome) → bits_of w.bus.period x ≡ row w.bus.period (is_start (starts_of s))
      → Published w.bus (tree_at s w.outline.entry) x r → r.cost ≡ published (task_of s w.outline)
  cost_ended x r bits h = h.costs ∙ ap (cost (bus_meant w.bus) (tree_at s w.outline.entry)) bits ∙ cost_said s w places ok

  -- the rows joined are the exit times
  pub times_ended : (t r q : List ℕ) → StartedAt s w t → Walked w (tree_at s w.outline.entry) t r → AtOffsets w.bus w.outline.lines r q → Ended s w.outline q
  times_ended t r q e h j =
      ap (λ (n : ℕ). table_of n q) (sym (period_said s w places ok))
      ∙ j ∙ ap (at_offsets (with_lines P w.outline.lines) P)
      (h.steps ∙ ap (λ (T : List Time). times (bus_meant w.bus) (with_lines P w.outline.lines) (tree_at s w.outline.entry) T) e)
      ∙ times_said s w places ok

  -- and one row is
  pub row_joined : (r : List ℕ) → w.outline.sets ≤ 1 → AtOffsets w.bus w.outline.lines r r
  unfolding power join_below
  row_joined r h =
      rw (single h)
      (over_all w.bus 0 (period_pos w.bus ok.fit) r r
      (λ o l. let z : 0 * P + o ≡ o = omega arith in
      sym (ap (λ (v : Time). longer v (time_of (get_or r (0 * P + o) 0))) (over_none w.bus r o) ∙ longer_joins.left _ ∙ ap (λ (i : ℕ). time_of (get_or r i 0)) z)))
