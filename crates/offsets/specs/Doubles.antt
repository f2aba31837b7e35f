-- What a range of durations is made by. Definitions only.
use Rattle.std.specs.Prelude.{◌≡◌, ℕ, ◌+◌, ◌≤◌}
use Rattle.std.specs.Int.Bits.{bit_or}
use Rattle.offsets.specs.declared.Set.{Set}
use Rattle.offsets.specs.Sets.{value}

-- a set of k durations, from `first` on, which has one: each round joins what is there with what it is moved to, by as many as there are or fewer
pub data Doubled (Moved : Set → ℕ → Set → Type 0) (first : Set) : ℕ → Set → Type 0 where
  one : Doubled Moved first 1 first
  more : {k d : ℕ} {a m r : Set} → Doubled Moved first k a → d ≤ k → Moved a d m → value r ≡ bit_or (value a) (value m) → Doubled Moved first (k + d) r
