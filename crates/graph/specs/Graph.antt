-- A graph of tasks that wait for tasks (request W12 of document 02; section 2.2 of 000): the finish of a task, and which starts and ends the
-- promise speaks of. Tasks are numbered from 0 in table order. Definitions only.
use Rattle.std.specs.Prelude.{◌≡◌, cond, ◌⊎◌, eqb, ℕ, zero, suc, ◌+◌, ◌≤◌, ◌<◌, max}
use Rattle.std.proofs.Math.Option.{Option, none, some}
use Rattle.runs.specs.Figures.{largest}

-- an entry of the table: "a core (0 to 15), a time of at most 6,553,500,000 cycles and up to 8 earlier tasks it waits for", which are
-- waits 0 .. waits (count - 1)
pub record Entry : Type 0 where
  pub core : ℕ
  pub time : ℕ
  pub count : ℕ
  pub waits : ℕ → ℕ

-- the entry of each task
abbrev pub Graph : Type 0
Graph = ℕ → Entry

-- the numbers of task i are in range, and every task that it waits for is earlier
pub record Permitted (i : ℕ) (e : Entry) : Type 0 where
  pub core_most : e.core ≤ 15
  pub time_most : e.time ≤ 6553500000
  pub few : e.count ≤ 8
  pub earlier : (k : ℕ) → k < e.count → e.waits k < i

-- ---- the finish

-- the last task below n on the core c, if there is one
unfoldable pub last_on : Graph → ℕ → ℕ → Option ℕ
last_on g c zero = none
last_on g c (suc n) = cond (eqb (g n).core c) (some n) (last_on g c n)

-- f of a task, 0 of none
abbrev pub or_zero : (ℕ → ℕ) → Option ℕ → ℕ
or_zero f none = 0
or_zero f (some j) = f j

-- "the largest .. among those it waits for and the previous task on its core, or 0", f being each task's finish
unfoldable pub latest : Graph → (ℕ → ℕ) → ℕ → ℕ
unfolding largest last_on
latest g f i = max (largest (g i).count (λ k. f ((g i).waits k))) (or_zero f (last_on g (g i).core i))

-- F f i says f of task i out of f of earlier tasks: f of each task, worked out down to k levels
unfoldable pub in_order : ((ℕ → ℕ) → ℕ → ℕ) → ℕ → ℕ → ℕ
in_order F zero i = 0
in_order F (suc k) i = F (λ j. in_order F k j) i

-- "A task's finish is its time plus the largest finish among those it waits for and the previous task on its core, or 0." These are all
-- earlier, so i + 1 levels are enough: `finish_is` of proofs/Schedules.antt is the equation that a reader expects,
-- finish g i ≡ g i .time + latest g (finish g) i.
unfoldable pub finish : Graph → ℕ → ℕ
unfolding in_order latest
finish g i = in_order (λ f j. (g j).time + latest g f j) (suc i) i

-- ---- starts and ends; nothing that works a finish out occurs here

-- Awaits g i j: task i starts only when task j has ended, since i waits for j, or since j is the previous task on its core ("Tasks on one
-- core run in table order")
pub data Awaits (g : Graph) (i : ℕ) : ℕ → Type 0 where
  waits_for : {j : ℕ} (k : ℕ) → k < (g i).count → (g i).waits k ≡ j → Awaits g i j
  previous : {j : ℕ} → j < i → (g j).core ≡ (g i).core → ((k : ℕ) → j < k → k < i → (g k).core ≡ (g i).core → ⊥) → Awaits g i j

-- "starts as soon as those have ended": all of them have ended when task i starts, and it starts where one of them ends, or at 0
pub record AsSoon (g : Graph) (start end : ℕ → ℕ) (i : ℕ) : Type 0 where
  pub ended : (j : ℕ) → Awaits g i j → end j ≤ start i
  pub at_once : (start i ≡ 0) ⊎ ((j : ℕ) × Awaits g i j × (start i ≡ end j))

-- n tasks of which each "starts as soon as those have ended and takes no longer than its time"
pub record InTime (g : Graph) (n : ℕ) (start end : ℕ → ℕ) : Type 0 where
  pub starts : (i : ℕ) → i < n → AsSoon g start end i
  pub takes : (i : ℕ) → i < n → end i ≤ start i + (g i).time

-- the same where each takes exactly its time
pub record OnTime (g : Graph) (n : ℕ) (start end : ℕ → ℕ) : Type 0 where
  pub starts : (i : ℕ) → i < n → AsSoon g start end i
  pub takes : (i : ℕ) → i < n → end i ≡ start i + (g i).time
