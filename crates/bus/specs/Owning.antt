-- A bus of the program as owned offsets: what it stands for, and what its functions promise. Definitions only.
use Rattle.std.specs.Prelude.{◌≡◌, Bool, true, false, not, ℕ, ◌+◌, ◌%◌, ◌^◌, ◌≤◌, ◌<◌, ⊤, MatchOption}
use Rattle.runs.specs.Bus.{Bus as RunBus}
use Rattle.runs.specs.Slots.{Slots, first, period_of}
use Rattle.runs.specs.Schedules.{owning}
use Rattle.runs.specs.Stretches.{IsRun, Begins}
use Rattle.offsets.specs.declared.Set.{Set}
use Rattle.offsets.specs.Sets.{value, has}
use Rattle.bus.specs.declared.Bus.{Bus}
use Rattle.bus.specs.Stretches.{Nth, InTurn}

-- whether the core owns an offset
abbrev pub owns : Bus → ℕ → Bool
owns b o = has (value b.own) o

-- the bus that the program's numbers stand for
abbrev pub bus_meant : Bus → RunBus
bus_meant b = owning b.period (owns b)

-- the offsets that the core owns are `only` ones from `first` on
pub record Alone (b : Bus) (only : ℕ) : Type 0 where
  pub some : 1 ≤ only
  pub low : b.first < b.period
  pub less : only < b.period
  pub held : (i : ℕ) → i < only → owns b ((b.first + i) % b.period) ≡ true
  pub free : (i : ℕ) → only ≤ i → i < b.period → owns b ((b.first + i) % b.period) ≡ false

-- what the offsets that a core owns and those that it does not are to each other
pub record Parted (own rest : Set) (P : ℕ) : Type 0 where
  pub least : 1 ≤ P
  pub most : P ≤ 256
  pub own_in : value own < 2 ^ P
  pub rest_in : value rest < 2 ^ P
  pub apart : (o : ℕ) → o < P → has (value rest) o ≡ not (has (value own) o)
  pub some : (o : ℕ) × (o < P) × (has (value own) o ≡ true)

-- what judging has shown of them
pub record Fit (b : Bus) : Type 0 where
  pub least : 1 ≤ b.period
  pub most : b.period ≤ 256
  pub own_in : value b.own < 2 ^ b.period
  pub rest_in : value b.rest < 2 ^ b.period
  pub apart : (o : ℕ) → o < b.period → has (value b.rest) o ≡ not (has (value b.own) o)
  pub longest : b.most ≡ (bus_meant b).most
  -- unless the core owns every offset, its stretches are listed, and a longest begins at `first`; `only` is its length where no other offset is owned
  pub begins : b.most < b.period → Begins b.period (owns b) b.first
  pub run : b.most < b.period → IsRun b.period (owns b) b.first b.most
  pub nth : b.most < b.period → Nth b.stretches b.longest b.first b.most
  pub in_turn : b.most < b.period → InTurn b.period (owns b) b.stretches
  pub lone : MatchOption b.only ⊤ (Alone b)
  pub some : (o : ℕ) × (o < b.period) × (has (value b.own) o ≡ true)

-- b is the bus of equal slots v: "Core p owns offsets p × slot to (p + 1) × slot − 1."
pub record Slotted (v : Slots) (b : Bus) : Type 0 where
  pub period : b.period ≡ period_of v
  pub most : b.most ≡ v.slot
  pub inside : (o : ℕ) → first v ≤ o → o < first v + v.slot → owns b o ≡ true
  pub only_those : (o : ℕ) → o < b.period → owns b o ≡ true → (first v ≤ o) × (o < first v + v.slot)

-- the set of the offsets at which a stretch begins, of those that the core owns
abbrev pub Beginnings : ℕ → Set → Set → Type 0
Beginnings P own s = (a : ℕ) → a < P → (has (value s) a ≡ true → Begins P (has (value own)) a) × (Begins P (has (value own)) a → has (value s) a ≡ true)
