-- When a table is accepted, and when it is refused under 21, and at which place. No order of steps is in it: each condition names what comes
-- before it. The promise of `finishes` says that the answer is a refusal at a place if and only if `Condition s place`. Definitions only.
use Rattle.std.specs.Prelude.{◌≡◌, List, length, ℕ, ◌*◌, ◌≤◌, ◌<◌}
use Rattle.graph.specs.Graph.{Permitted}
use Rattle.graph.specs.Table.{graph_of}

-- the slice is a table of n tasks, "1 to 64"
pub record TableOf (s : List ℕ) (n : ℕ) : Type 0 where
  pub least : 1 ≤ n
  pub most : n ≤ 64
  pub rows : length s ≡ 11 * n

-- such a table with every number in range and every predecessor earlier
pub record AcceptedTable (s : List ℕ) (n : ℕ) : Type 0 where
  pub size : TableOf s n
  pub entries : (i : ℕ) → i < n → Permitted i (graph_of s i)

pub data Condition (s : List ℕ) : ℕ → Type 0 where
  -- "a table size outside 1 to 64, place 0"
  no_table : ((n : ℕ) → TableOf s n → ⊥) → Condition s 0
  -- "or else the first entry with a number out of range or a predecessor not earlier, place its index"
  bad_entry : {i : ℕ} (n : ℕ) → TableOf s n → i < n → ((j : ℕ) → j < i → Permitted j (graph_of s j)) → (Permitted i (graph_of s i) → ⊥) → Condition s i
