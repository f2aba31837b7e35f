-- The stretches of owned offsets as a list, in the order of the offsets at which they begin. Definitions only.
use Rattle.std.specs.Prelude.{◌≡◌, List, Bool, true, false, not, cond, ◌&&◌, length, get_or, ltb, ℕ, zero, suc, ◌+◌, ◌-◌, ◌%◌, ◌≤◌, ◌<◌}
use Rattle.runs.specs.Stretches.{NextStretch}
use Rattle.offsets.specs.Sets.{has, members, Lowest}
use Rattle.bus.specs.Aheads.{Ahead}
use Rattle.bus.specs.declared.Span.{Span}
use Rattle.bus.specs.declared.Stretches.{Stretches}

-- how many stretches begin below the offset k, of those of the owned offsets of the period P
unfoldable pub begun : ℕ → (ℕ → Bool) → ℕ → ℕ
begun P own zero = 0
begun P own (suc k) = begun P own k + cond (own k && not (own ((k + P - 1) % P))) 1 0

-- the stretch with the number i; where it begins, and its length
abbrev pub span_at : List Span → ℕ → Span
span_at spans i = get_or spans i (record { begin = 0; len = 0 })

abbrev pub begin_of : Stretches → ℕ → ℕ
begin_of v i = (span_at v.spans i).begin

abbrev pub length_of : Stretches → ℕ → ℕ
length_of v i = (span_at v.spans i).len

-- the number of the one after it, of n, round the period
unfoldable pub after : ℕ → ℕ → ℕ
after n i = cond (ltb (i + 1) n) (i + 1) 0

-- the stretch with the number i begins at x and has len cycles
abbrev pub Nth : Stretches → ℕ → ℕ → ℕ → Type 0
Nth v i x len = (i < v.count) × (begin_of v i ≡ x) × (length_of v i ≡ len)

-- v is the list of the stretches of the owned offsets: from each it leads on to the next
pub record InTurn (P : ℕ) (own : ℕ → Bool) (v : Stretches) : Type 0 where
  pub long : length v.spans ≡ 16
  pub few : v.count ≤ 16
  pub next : (i : ℕ) → i < v.count → (gap : ℕ) × NextStretch P own (begin_of v i) (length_of v i) gap (begin_of v (after v.count i))

-- the stretch with the number r is a longest of the first n
pub record LongestOf (v : Stretches) (n r : ℕ) : Type 0 where
  pub below : r < n
  pub each : (i : ℕ) → i < n → length_of v i ≤ length_of v r

-- the set m has at most 16 offsets of the period, the lowest is f, and before each stands one of the set n
pub record Begun (P n m f : ℕ) : Type 0 where
  pub most : P ≤ 256
  pub lowest : Lowest m 0 256 f
  pub few : members m P ≤ 16
  pub before : (a : ℕ) → a < P → has m a ≡ true → has n ((a + P - 1) % P) ≡ true

-- the first `count` of `spans` begin at the offsets of the set m below a in their order, f the first, and each is as long as it is far to the next of
-- the set n
pub record Ordered (P n m f : ℕ) (spans : List Span) (count a : ℕ) : Type 0 where
  pub long : length spans ≡ 16
  pub few : count ≤ 16
  pub each : (i : ℕ) → i < count → ((span_at spans i).begin < P) × (has m (span_at spans i).begin ≡ true) × Ahead P n (span_at spans i).begin (span_at spans i).len
  pub first : 0 < count → (span_at spans 0).begin ≡ f
  pub next : (i : ℕ) → i + 1 < count → ((span_at spans i).begin < (span_at spans (i + 1)).begin) × ((o : ℕ) → (span_at spans i).begin < o → o < (span_at spans (i + 1)).begin → has m o ≡ false)
  pub last : 0 < count → ((span_at spans (count - 1)).begin < a) × ((o : ℕ) → (span_at spans (count - 1)).begin < o → o < a → has m o ≡ false)
  pub all : (o : ℕ) → o < a → has m o ≡ true → (i : ℕ) × (i < count) × ((span_at spans i).begin ≡ o)
