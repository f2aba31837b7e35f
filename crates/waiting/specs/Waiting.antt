-- The entries of a table that wait for an access, on a bus whose core owns the offsets `own` of the period P: each waits for a stretch that the
-- core owns, and starts where that begins. Definitions only.
use Rattle.std.specs.Prelude.{◌≡◌, ◌⊎◌, List, Bool, true, get_or, ℕ, zero, suc, ◌+◌, ◌-◌, ◌%◌, ◌≤◌, ◌<◌}
use Rattle.std.proofs.Math.Option.{none, some}
use Rattle.runs.specs.Carried.{join_below}
use Rattle.runs.specs.Figures.{Time, longer}
use Rattle.runs.specs.Exact.{Longest}
use Rattle.runs.specs.Schedules.{owns_next}
use Rattle.runs.specs.Stretches.{Begins, Open}
use Rattle.times.specs.Arrays.{time_of, table_of}

-- c' is a count of an entry of T at an offset o from a to below z, base - o cycles later
abbrev pub Stretch : List Time → ℕ → ℕ → ℕ → ℕ → Type 0
Stretch T a z base c' = (o : ℕ) × (a ≤ o) × (o < z) × ((c : ℕ) × (get_or T o none ≡ some c) × (c' ≡ c + (base - o)))

-- r is the longest time of a stretch of t
abbrev pub Reach : ℕ → List ℕ → ℕ → ℕ → ℕ → ℕ → Type 0
Reach P t a z base r = Longest (Stretch (table_of P t) a z base) (time_of r)

-- c is a count with which an entry that is at most w cycles before a comes there; r is the longest of these
abbrev pub Comes : ℕ → List Time → ℕ → ℕ → ℕ → Type 0
Comes P T a w c = (i : ℕ) × (i ≤ w) × ((c₀ : ℕ) × (get_or T ((a + P - i) % P) none ≡ some c₀) × (c ≡ c₀ + i))

abbrev pub Come : ℕ → List ℕ → ℕ → ℕ → ℕ → Type 0
Come P t a w r = Longest (Comes P (table_of P t) a w) (time_of r)

-- c' is a count that is n more than one of C
abbrev pub Later : ℕ → (ℕ → Type 0) → ℕ → Type 0
Later n C c' = (c : ℕ) × C c × (c' ≡ c + n)

-- the time that is kept as a number: one less, or none for 0
unfoldable pub kept_time : ℕ → Time
kept_time zero = none
kept_time (suc t) = some t

-- the longest of what comes, n cycles later, is kept as r
abbrev pub ComeLater : ℕ → List ℕ → ℕ → ℕ → ℕ → ℕ → Type 0
ComeLater P t a w n r = Longest (Later n (Comes P (table_of P t) a w)) (kept_time r)

module _ (P : ℕ) (own : ℕ → Bool) (T : List Time) where
  -- c is a count with which an entry that is at most w cycles before a, and waits for it with an access of e cycles, comes there
  abbrev pub Pends : ℕ → ℕ → ℕ → ℕ → Type 0
  Pends a w e c = (i : ℕ) × (i ≤ w) × Open P own e a i × ((c₀ : ℕ) × (get_or T ((a + P - i) % P) none ≡ some c₀) × (c ≡ c₀ + i))

  -- c' is a count with which an entry that waits for a stretch that begins at a, or stands there, ends at q, after one of the durations from lo to
  -- hi that the stretch has room for
  abbrev pub LeavesOf : ℕ → ℕ → ℕ → ℕ → ℕ → Type 0
  LeavesOf a lo hi q c' =
      (d : ℕ) × (lo ≤ d) × (d ≤ hi) × (owns_next P own d a ≡ true) × ((a + d) % P ≡ q)
      × ((w : ℕ) × (w < P) × Open P own d a w × ((c : ℕ) × (get_or T ((a + P - w) % P) none ≡ some c) × (c' ≡ c + w + d)))

  -- the same of every stretch
  abbrev pub Leaves : ℕ → ℕ → ℕ → ℕ → Type 0
  Leaves lo hi q c' = (a : ℕ) × Begins P own a × LeavesOf a lo hi q c'

-- r is o with the entries of t that leave from a stretch's begin x; from every stretch's
unfoldable pub LeftOf : ℕ → (ℕ → Bool) → List ℕ → ℕ → ℕ → ℕ → List ℕ → List ℕ → Type 0
unfolding time_of table_of
LeftOf P own t x lo hi o r =
    (q : ℕ) → q < P → Longest (λ c. (time_of (get_or o q 0) ≡ some c) ⊎ LeavesOf P own (table_of P t) x lo hi q c) (time_of (get_or r q 0))

unfoldable pub LeftAll : ℕ → (ℕ → Bool) → List ℕ → ℕ → ℕ → List ℕ → List ℕ → Type 0
unfolding time_of table_of
LeftAll P own t lo hi o r =
    (q : ℕ) → q < P → Longest (λ c. (time_of (get_or o q 0) ≡ some c) ⊎ Leaves P own (table_of P t) lo hi q c) (time_of (get_or r q 0))

-- ---- what is pending for each duration

-- the longest time that is kept in p for the durations from lo to below e
unfoldable pub among : List ℕ → ℕ → ℕ → Time
unfolding join_below longer kept_time
among p lo e = join_below none longer (e - lo) (λ i. kept_time (get_or p (lo + i) 0))

-- these times are at least `rest` and far below 2^64, up to each of the durations from lo to hi
abbrev pub Small : List ℕ → ℕ → ℕ → ℕ → Type 0
Small p rest lo hi = (e c : ℕ) → lo ≤ e → e ≤ hi → among p lo (e + 1) ≡ some c → (rest ≤ c) × (c ≤ 1152921504606846976 + 512)

-- for the durations from lo to below top, p' has what comes to y from over the gap and from less than so many offsets before it, `rest` cycles
-- later; for longer ones p' is p
pub record Shorter (P : ℕ) (t : List ℕ) (y gap rest lo top : ℕ) (p p' : List ℕ) : Type 0 where
  pub comes : (e : ℕ) → lo ≤ e → e < top → ComeLater P t y (gap + e - 1) rest (get_or p' e 0)
  pub above : (e : ℕ) → top ≤ e → get_or p' e 0 ≡ get_or p e 0

-- for the duration `over`, if it is none beyond hi, p' has the longest of p's time, run and best; for others p' is p
pub record WaitsOn (over hi run best : ℕ) (p p' : List ℕ) : Type 0 where
  pub joins : over ≤ hi → kept_time (get_or p' over 0) ≡ longer (kept_time (get_or p over 0)) (longer (kept_time run) (kept_time best))
  pub others : (e : ℕ) → ¬ (e ≡ over) → get_or p' e 0 ≡ get_or p e 0

-- r is the time that is kept as v, less `rest` cycles and e more
abbrev pub Ended : ℕ → ℕ → ℕ → ℕ → Type 0
Ended v rest e r = Longest (λ c'. (c : ℕ) × (kept_time v ≡ some c) × (c' + rest ≡ c + e)) (time_of r)

-- c' is a count with which what is pending for one of the durations from lo to below top ends at q
abbrev pub Pended : ℕ → List ℕ → ℕ → ℕ → ℕ → ℕ → ℕ → ℕ → Type 0
Pended P p a rest lo top q c' =
    (e : ℕ) × (lo ≤ e) × (e < top) × ((a + e) % P ≡ q) × ((c : ℕ) × (among p lo (e + 1) ≡ some c) × (c' + rest ≡ c + e))

-- r is o with all that
unfoldable pub LeftBy : ℕ → List ℕ → ℕ → ℕ → ℕ → ℕ → List ℕ → List ℕ → Type 0
unfolding time_of among
LeftBy P p a rest lo top o r = (q : ℕ) → q < P → Longest (λ c. (time_of (get_or o q 0) ≡ some c) ⊎ Pended P p a rest lo top q c) (time_of (get_or r q 0))
