-- Stretches of owned offsets, counted round the period, for the promises of the functions that step over them. No promise of an entry cites
-- this. Definitions only.
use Rattle.std.specs.Prelude.{◌≡◌, Bool, true, false, ℕ, ◌+◌, ◌-◌, ◌%◌, ◌≤◌, ◌<◌}
use Rattle.runs.specs.Schedules.{owns_next}

module _ (P : ℕ) (own : ℕ → Bool) where
  -- from x on r cycles are owned, and the next is not
  pub record IsRun (x r : ℕ) : Type 0 where
    pub owned : (i : ℕ) → i < r → own ((x + i) % P) ≡ true
    pub ends : own ((x + r) % P) ≡ false

  -- a stretch begins at the offset a
  pub record Begins (a : ℕ) : Type 0 where
    pub low : a < P
    pub here : own a ≡ true
    pub before : own ((a + P - 1) % P) ≡ false

  -- an access of e cycles may start at none of the w offsets before a, so that from each of them it waits for a
  abbrev pub Open : ℕ → ℕ → ℕ → Type 0
  Open e a w = (i : ℕ) → 1 ≤ i → i ≤ w → owns_next P own e ((a + P - i) % P) ≡ false

  -- a stretch of len cycles begins at x; gap offsets that are not owned follow it, and then the next stretch begins, at y
  pub record NextStretch (x len gap y : ℕ) : Type 0 where
    pub begins : Begins x
    pub run : IsRun x len
    pub free : (i : ℕ) → i < gap → own ((x + (len + i)) % P) ≡ false
    pub place : y ≡ (x + (len + gap)) % P
    pub next : own y ≡ true
    pub fits : len + gap ≤ P

-- r is the number of owned cycles from a on, or r is not below the period and every offset is owned
pub record Stretched (P : ℕ) (own : ℕ → Bool) (a r : ℕ) : Type 0 where
  pub run : r < P → IsRun P own a r
  pub all : P ≤ r → (i : ℕ) → i < P → own ((a + i) % P) ≡ true
