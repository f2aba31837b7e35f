-- Who calls the arbiter, and what each caller is answered (document 02, "Who may touch the arbiter"). Definitions only.
--
-- "Each call names its caller: a core number, or 16 for the workshop." A core number is 0 to 15, whatever the bus.
use Rattle.std.specs.Prelude.{Bool, true, false, cond, ◌&&◌, ◌||◌, List, [], ◌∷◌, ltb, eqb, ℕ}
use Rattle.refusals.specs.declared.Refusal.TheVariants.{Forbidden}
use Rattle.device.specs.declared.Arbiter.{Arbiter}
use Rattle.arbiter.specs.declared.Call.{Call}
use Rattle.arbiter.specs.declared.Call.TheVariants.{Read, Line, Write, Tick, Reset}
use Rattle.arbiter.specs.declared.Outcome.{Outcome}
use Rattle.arbiter.specs.Calls.{Reply, outcome, refuse}

-- "its own": the caller k is a core, and p is its number
unfoldable pub is_own : ℕ → ℕ → Bool
is_own k p = ltb k 16 && eqb k p

-- "16 for the workshop"
abbrev pub is_workshop : ℕ → Bool
is_workshop k = eqb k 16

-- who reads a core's registers and line: "The workshop reads everything", and a core "its own"
abbrev pub may_read : ℕ → ℕ → Bool
may_read k p = is_workshop k || is_own k p

-- "A core reads and writes its own registers and reads its own line. The workshop reads everything, ticks and resets, and writes no register."
unfoldable pub has_right : ℕ → Call → Bool
has_right k (Read p n) = may_read k p
has_right k (Line p) = may_read k p
has_right k (Write p n v) = is_own k p
has_right k Tick = is_workshop k
has_right k (Reset cores slot) = is_workshop k

-- "17 forbidden", "judged before 15, place 0; the state is unchanged". With the right, `outcome` of the call
unfoldable pub outcome_by : ℕ → Call → Arbiter → Outcome
outcome_by k c a = cond (has_right k c) (outcome c a) (refuse Forbidden a)

-- the state that a caller's call leaves
abbrev pub after_by : ℕ → Call → Arbiter → Arbiter
after_by k c a = (outcome_by k c a).state

-- what it answers
abbrev pub answer_by : ℕ → Call → Arbiter → Reply
answer_by k c a = (outcome_by k c a).reply

-- ---- one call after the other

-- a call, and who makes it
pub record Asked : Type 0 where
  pub caller : ℕ
  pub call : Call

-- the state after them, the first of the list first
unfoldable pub after_all_by : List Asked → Arbiter → Arbiter
after_all_by [] a = a
after_all_by (x ∷ xs) a = after_all_by xs (after_by x.caller x.call a)

-- the calls among them that their callers have the right to
unfoldable pub permitted : List Asked → List Call
permitted [] = []
permitted (x ∷ xs) = cond (has_right x.caller x.call) (x.call ∷ permitted xs) (permitted xs)

-- ---- what a core is answered

-- "every answer to that core", in order
unfoldable pub answers_to : ℕ → List Asked → Arbiter → List Reply
answers_to k [] a = []
answers_to k (x ∷ xs) a =
    let later = answers_to k xs (after_by x.caller x.call a) in
    cond (eqb x.caller k) (answer_by x.caller x.call a ∷ later) later

-- "ticks and resets"
abbrev pub drives : Call → Bool
drives (Read p n) = false
drives (Line p) = false
drives (Write p n v) = false
drives Tick = true
drives (Reset cores slot) = true

-- "a core's own calls and the workshop's ticks and resets"; its own calls are all that it makes, those without the right too
unfoldable pub concerns_by : ℕ → Asked → Bool
concerns_by k x = eqb x.caller k || (is_workshop x.caller && drives x.call)

-- those among the calls, in their order
unfoldable pub concerning_by : ℕ → List Asked → List Asked
concerning_by k [] = []
concerning_by k (x ∷ xs) = cond (concerns_by k x) (x ∷ concerning_by k xs) (concerning_by k xs)
