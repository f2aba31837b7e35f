-- What the functions of this crate promise each other; no other crate needs it. Definitions only.
use Rattle.std.specs.Prelude.{◌≡◌, Bool, true, ℕ, ◌+◌, ◌-◌, ◌%◌, ◌≤◌, ◌<◌, max}
use Rattle.runs.specs.Stretches.{Open, NextStretch}
use Rattle.bus.specs.declared.Bus.{Bus}
use Rattle.bus.specs.Owning.{bus_meant}
use Rattle.offsets.specs.declared.Set.{Set}
use Rattle.offsets.specs.Sets.{value, has}

module _ (P : ℕ) (own : ℕ → Bool) (n e : ℕ) where
  -- k is the longest wait for y of an offset of n that is at most `gone` cycles before y, with an access of e cycles, if one waits longer than
  -- `floor`; else k is no more than that
  pub record LongestWait (floor y gone k : ℕ) : Type 0 where
    pub within : k ≤ gone
    pub one : floor < k → (has n ((y + P - k) % P) ≡ true) × Open P own e y k
    pub most : (w : ℕ) → 1 ≤ w → w ≤ gone → has n ((y + P - w) % P) ≡ true → Open P own e y w → w ≤ max floor k

  -- where k is the longest wait of all for the stretch of len cycles at x, or that has room, r is the longest above `floor` for the next one, which
  -- begins after `gap` offsets
  abbrev pub LongestWaitNext : (x len gap k floor r : ℕ) → Type 0
  LongestWaitNext x len gap k floor r =
      (y gone : ℕ) → NextStretch P own x len gap y → gone + (len + gap) ≤ P → k ≤ gone → (len < e → LongestWait 0 x gone k) → LongestWait floor y (gone + (len + gap)) r

-- from the offset o of s an access of e cycles waits no less than from any other
pub record Slowest (b : Bus) (e : ℕ) (s : Set) (o : ℕ) : Type 0 where
  pub low : o < b.period
  pub here : has (value s) o ≡ true
  pub most : (i : ℕ) → i < b.period → has (value s) i ≡ true → (bus_meant b).wait e i ≤ (bus_meant b).wait e o
