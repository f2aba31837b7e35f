-- What the functions of the crate promise each other; no other crate needs it. Definitions only.
use Rattle.std.specs.Prelude.{◌≡◌, true, false, List, length, ℕ, ◌*◌, ◌≤◌, ◌<◌, Option, Result, MatchOption, MatchResult}
use Rattle.std.proofs.Math.Option.{some}
use Rattle.graph.specs.Table.{graph_of, permitted, size_ok, refused_at}
use Rattle.graph.specs.Conditions.{TableOf, AcceptedTable}

-- n rows stand in the slice
pub record Rows (s : List ℕ) (n : ℕ) : Type 0 where
  pub few : n ≤ 64
  pub long : 11 * n ≤ length s

-- r is the size of the table, or none if that is outside 1 to 64
abbrev pub Sized : List ℕ → Option ℕ → Type 0
Sized s r = MatchOption r (size_ok s ≡ false) (TableOf s)

-- i is the first of n entries that is not permitted
pub record IsFirst (s : List ℕ) (n i : ℕ) : Type 0 where
  pub below : i < n
  pub before : (j : ℕ) → j < i → permitted j (graph_of s j) ≡ true
  pub there : permitted i (graph_of s i) ≡ false

-- r is the first of n entries that is not permitted, or none where all are
abbrev pub First : List ℕ → ℕ → Option ℕ → Type 0
First s n r = MatchOption r ((i : ℕ) → i < n → permitted i (graph_of s i) ≡ true) (IsFirst s n)

-- r is the size of an accepted table, or the place at which it is refused
abbrev pub Judged : List ℕ → Result ℕ ℕ → Type 0
Judged s r = MatchResult r (AcceptedTable s) (λ place. refused_at s ≡ some place)
