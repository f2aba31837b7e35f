-- What the functions of this crate promise each other; no other crate needs it. Definitions only.
use Rattle.std.specs.Prelude.{◌≡◌, List, ℕ, ◌≤◌, length, get_or, Result, Ok}
use Rattle.image.specs.Judged.{scan}
use Rattle.refusals.specs.declared.Refused.{Refused}
use Rattle.image.specs.declared.fields.Nodes.{Nodes}
use Rattle.nodes.specs.Fine.{Placed}

-- the places of n nodes, in an array that is 0 behind them
pub record PlacedAll (s : List ℕ) (n : ℕ) (places : List ℕ) : Type 0 where
  pub long : length places ≡ 256
  pub each : Placed s n places
  pub behind : (k : ℕ) → n ≤ k → get_or places k 0 ≡ 0

-- what a scan gives
pub record Scanned (s : List ℕ) (end : Result Nodes Refused) (places : List ℕ) : Type 0 where
  pub is : end ≡ scan s
  pub placed : (n : Nodes) → end ≡ Ok n → PlacedAll s n.count places
