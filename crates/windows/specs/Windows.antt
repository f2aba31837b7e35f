-- Keys and their window maxima, by which the steps are worked out. Definitions only.
-- The key of a time at the place m is the time + (384 - m), and 0 for none. Then the longest time over durations from lo to hi is the largest
-- key of a window of hi - lo + 1 places: the window that begins at j ends at j + hi, and a key there stands for the time key + (j + hi) - 384.
use Rattle.std.specs.Prelude.{◌≡◌, ◌⊎◌, List, cond, get_or, length, eqb, ℕ, zero, suc, ◌+◌, ◌-◌, ◌%◌, ◌≤◌, ◌<◌, max}
use Rattle.std.proofs.Math.Option.{none}
use Rattle.runs.specs.Carried.{row, moved}
use Rattle.runs.specs.Figures.{later, longer}
use Rattle.times.specs.Arrays.{no_time, table_of}

-- the largest of n places of k from a on, or 0
unfoldable pub top : List ℕ → ℕ → ℕ → ℕ
top k a zero = 0
top k a (suc n) = max (top k a n) (get_or k (a + n) 0)

-- the first len places of w are the same as k's
abbrev pub Same : ℕ → List ℕ → List ℕ → Type 0
Same len k w = (j : ℕ) → j < len → get_or w j 0 ≡ get_or k j 0

-- at each place, r has the largest of n places of k from there on, so far as these lie below len
unfoldable pub Windowed : List ℕ → ℕ → ℕ → List ℕ → Type 0
unfolding top
Windowed k len n r = (j : ℕ) → j + n ≤ len → get_or r j 0 ≡ top k j n

-- r is w, but that each of the n places from s on has the largest of w from there to the last of them
pub record Suffixes (w : List ℕ) (s n : ℕ) (r : List ℕ) : Type 0 where
  pub size : length r ≡ length w
  pub inside : (a : ℕ) → s ≤ a → a < s + n → get_or r a 0 ≡ top w a (s + n - a)
  pub before : (a : ℕ) → a < s → get_or r a 0 ≡ get_or w a 0
  pub after : (a : ℕ) → s + n ≤ a → get_or r a 0 ≡ get_or w a 0

-- r is w, but that each place s + i below s + stop has the larger of w's and of the largest of k's first i places from e on
pub record Prefixes (k w : List ℕ) (s e stop : ℕ) (r : List ℕ) : Type 0 where
  pub size : length r ≡ length w
  pub inside : (a : ℕ) → s < a → a < s + stop → get_or r a 0 ≡ max (get_or w a 0) (top k e (a - s))
  pub before : (a : ℕ) → a ≤ s → get_or r a 0 ≡ get_or w a 0
  pub after : (a : ℕ) → s + stop ≤ a → get_or r a 0 ≡ get_or w a 0

unfoldable pub key_of : ℕ → ℕ → ℕ
key_of t m = cond (eqb t no_time) 0 (t + (384 - m))

-- place m of k has the key of t's entry at m mod P
unfoldable pub Keyed : List ℕ → ℕ → ℕ → List ℕ → Type 0
unfolding key_of
Keyed t P len k = (m : ℕ) → m < len → get_or k m 0 ≡ key_of (get_or t (m % P) 0) m

-- the time of the key x at the end e of its window
unfoldable pub time_at : ℕ → ℕ → ℕ
time_at x e = cond (eqb x 0) no_time (x + e - 384)

-- where the window that ends at q begins
abbrev pub start : ℕ → ℕ → ℕ → ℕ
start P hi q = (q + (P - hi % P)) % P

-- each place below P of r has the time of the window that ends there
unfoldable pub Unkeyed : List ℕ → ℕ → ℕ → List ℕ → Type 0
unfolding time_at
Unkeyed w P hi r = (q : ℕ) → q < P → get_or r q 0 ≡ time_at (get_or w (start P hi q) 0) (start P hi q + hi)

-- the key x is 0, or gives a time at e
abbrev pub Turns : ℕ → ℕ → Type 0
Turns x e = (x ≡ 0) ⊎ ((384 ≤ x + e) × (x + e < no_time))

-- every key that `unkeyed` reads gives a time
unfoldable pub Room : List ℕ → ℕ → ℕ → Type 0
Room w P hi = (j : ℕ) → j < P → Turns (get_or w j 0) (j + hi)

-- r's table is t's after a plain block of lo to hi cycles, at any period P
unfoldable pub Passed : List ℕ → ℕ → ℕ → ℕ → List ℕ → Type 0
unfolding table_of moved longer later
Passed t P lo hi r = table_of P r ≡ row P (λ p. moved none longer later P lo hi (λ d p. d) (λ d o. (o + d) % P) (table_of P t) p)
