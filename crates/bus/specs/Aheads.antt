-- The nearest offset of a set, from an offset on and before one, round the period. Definitions only.
use Rattle.std.specs.Prelude.{◌≡◌, true, false, ℕ, ◌+◌, ◌-◌, ◌%◌, ◌≤◌, ◌<◌}
use Rattle.offsets.specs.Sets.{has}

-- r is the number of cycles from the offset x on to the first offset of the set n, round the period; where there is none, r is the period
pub record Ahead (P n x r : ℕ) : Type 0 where
  pub most : r ≤ P
  pub passed : (i : ℕ) → i < r → has n ((x + i) % P) ≡ false
  pub found : r < P → has n ((x + r) % P) ≡ true

-- r is the number of cycles back from the offset x to the first offset of the set n before it, round the period, x itself the last
pub record Behind (P n x r : ℕ) : Type 0 where
  pub some : 1 ≤ r
  pub passed : (i : ℕ) → 1 ≤ i → i < r → i ≤ P → has n ((x + P - i) % P) ≡ false
  pub found : r ≤ P → has n ((x + P - r) % P) ≡ true
