-- The entries of a table whose access starts at once, on a bus whose core owns the offsets `own` of the period P. Definitions only.
use Rattle.std.specs.Prelude.{◌≡◌, ◌⊎◌, List, Bool, true, get_or, ℕ, suc, ◌+◌, ◌%◌, ◌≤◌, ◌<◌}
use Rattle.std.proofs.Math.Option.{none, some}
use Rattle.runs.specs.Figures.{Time}
use Rattle.runs.specs.Exact.{Longest}
use Rattle.runs.specs.Schedules.{owns_next}
use Rattle.runs.specs.Stretches.{Begins}
use Rattle.times.specs.Arrays.{time_of, table_of}
use Rattle.windows.specs.Windows.{key_of}

-- c' is a count with which an entry that starts at once ends at q
abbrev pub Now : (P : ℕ) (own : ℕ → Bool) (T : List Time) → ℕ → ℕ → ℕ → ℕ → Type 0
Now P own T lo hi q c' =
    (o : ℕ) × (o < P) × ((d : ℕ) × (lo ≤ d) × (d ≤ hi) × (owns_next P own d o ≡ true) × ((o + d) % P ≡ q) × ((c : ℕ) × (get_or T o none ≡ some c) × (c' ≡ c + d)))

-- ---- those that start at once within len owned cycles from a on

-- place i of k has the key of t's entry i cycles after a
unfoldable pub KeyedIn : ℕ → List ℕ → ℕ → ℕ → List ℕ → Type 0
unfolding key_of
KeyedIn P t a len k = (i : ℕ) → i < len → get_or k i 0 ≡ key_of (get_or t ((a + i) % P) 0) i

-- c' is a count with which an entry ends y cycles after a
abbrev pub EndsAt : ℕ → List Time → ℕ → ℕ → ℕ → ℕ → ℕ → Type 0
EndsAt P T a lo hi y c' = (i : ℕ) × (d : ℕ) × (lo ≤ d) × (d ≤ hi) × (i + d ≡ y) × ((c : ℕ) × (get_or T ((a + i) % P) none ≡ some c) × (c' ≡ c + d))

-- c' is a count with which an entry ends at q, less than n cycles after a
abbrev pub NowTo : ℕ → List Time → ℕ → ℕ → ℕ → ℕ → ℕ → ℕ → Type 0
NowTo P T a n lo hi q c' = (y : ℕ) × (y < n) × ((a + y) % P ≡ q) × EndsAt P T a lo hi y c'

-- r is o with the entries of t that end at most len cycles after a
unfoldable pub NowIn : ℕ → List ℕ → ℕ → ℕ → ℕ → ℕ → List ℕ → List ℕ → Type 0
unfolding time_of table_of
NowIn P t a len lo hi o r =
    (q : ℕ) → q < P → Longest (λ c. (time_of (get_or o q 0) ≡ some c) ⊎ NowTo P (table_of P t) a (suc len) lo hi q c) (time_of (get_or r q 0))

-- c' is a count with which an entry that starts at once, in the stretch that begins at a, ends at q
abbrev pub NowOf : (P : ℕ) (own : ℕ → Bool) (T : List Time) (a lo hi q c' : ℕ) → Type 0
NowOf P own T a lo hi q c' = (y : ℕ) × (owns_next P own y a ≡ true) × ((a + y) % P ≡ q) × EndsAt P T a lo hi y c'

-- r is o with the entries of t that start at once, in any stretch
unfoldable pub StartedAll : ℕ → (ℕ → Bool) → List ℕ → ℕ → ℕ → List ℕ → List ℕ → Type 0
unfolding time_of table_of
StartedAll P own t lo hi o r =
    (q : ℕ) → q < P → Longest (λ c. (time_of (get_or o q 0) ≡ some c) ⊎ ((a : ℕ) × Begins P own a × NowOf P own (table_of P t) a lo hi q c)) (time_of (get_or r q 0))
