-- The table as it is lent, a slice of numbers, and the answer for any such slice. Definitions only.
--
-- An entry is a row of 11 numbers: core, time, how many tasks it waits for, and places for 8 task numbers, of which the first so many are
-- read. A slice is a table of n tasks when it has n rows.
use Rattle.std.specs.Prelude.{Bool, true, cond, ◌&&◌, List, length, get_or, eqb, leb, ltb, ℕ, zero, suc, ◌+◌, ◌*◌, ◌/◌, Result as Outcome, Ok, Err}
use Rattle.std.proofs.Math.Option.{Option, none, some}
use Rattle.runs.specs.Carried.{row}
use Rattle.graph.specs.Graph.{Entry, Graph, finish}
use Rattle.graph.specs.declared.Answer.{Answer}

-- the entries that the slice says
abbrev pub graph_of : List ℕ → Graph
graph_of s i = record { core = get_or s (11 * i) 0; time = get_or s (11 * i + 1) 0; count = get_or s (11 * i + 2) 0; waits = λ k. get_or s (11 * i + 3 + k) 0 }

-- ---- 21

-- the tasks of a slice, and whether they are "1 to 64" and no row is cut
abbrev pub size_of : List ℕ → ℕ
size_of s = length s / 11

unfoldable pub size_ok : List ℕ → Bool
size_ok s = leb 1 (size_of s) && (leb (size_of s) 64 && eqb (11 * size_of s) (length s))

-- w 0 .. w (n - 1) are each below i
unfoldable pub all_below : ℕ → (ℕ → ℕ) → ℕ → Bool
all_below zero w i = true
all_below (suc n) w i = all_below n w i && ltb (w n) i

-- no "number out of range or a predecessor not earlier" in the entry of task i
unfoldable pub permitted : ℕ → Entry → Bool
unfolding all_below
permitted i e = leb e.core 15 && (leb e.time 6553500000 && (leb e.count 8 && all_below e.count e.waits i))

-- the first of two, if there is one
abbrev pub or_else : Option ℕ → Option ℕ → Option ℕ
or_else none v = v
or_else (some i) v = some i

-- the first number below n at which f is not true
unfoldable pub first_not : ℕ → (ℕ → Bool) → Option ℕ
first_not zero f = none
first_not (suc n) f = or_else (first_not n f) (cond (f n) none (some n))

-- "a table size outside 1 to 64, place 0, or else the first entry with a number out of range or a predecessor not earlier, place its index"
unfoldable pub refused_at : List ℕ → Option ℕ
unfolding size_ok permitted first_not
refused_at s = cond (size_ok s) (first_not (size_of s) (λ i. permitted i (graph_of s i))) (some 0)

-- ---- the answer

-- the answer in the document's terms: 64 finishes, and the number and place where the table is refused
pub data Result : Type 0 where
  finished : (finishes : List ℕ) → Result
  refused : (number place : ℕ) (finishes : List ℕ) → Result

-- "21 task"
abbrev pub task_number : ℕ
task_number = 21

-- of what the program answers
abbrev pub result_by : Outcome (Unit {0}) ℕ → List ℕ → Result
result_by (Ok accepted) finishes = finished finishes
result_by (Err place) finishes = refused task_number place finishes

abbrev pub result_of : Answer → Result
result_of r = result_by r.verdict r.finishes

-- "The answer is 64 finishes, 0 past the table or if refused."
unfoldable pub finishes_of : List ℕ → List ℕ
unfolding row finish
finishes_of s = row 64 (λ i. cond (ltb i (size_of s)) (finish (graph_of s) i) 0)

-- of a table that is refused
unfoldable pub no_finishes : List ℕ
unfolding row
no_finishes = row 64 (λ i. 0)

-- where the table is refused at a place, or at none
abbrev pub answer_by : List ℕ → Option ℕ → Result
answer_by s none = finished (finishes_of s)
answer_by s (some place) = refused task_number place no_finishes

-- the answer for any slice
abbrev pub answer : List ℕ → Result
answer s = answer_by s (refused_at s)
