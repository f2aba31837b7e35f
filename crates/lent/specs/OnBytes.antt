-- Calls to the arbiter on the 51 bytes of its state (document 02, "The arbiter as a device", "Who may touch the arbiter"): what a program in C
-- or Rust finds after a call, the status and both lent slices at exit. Definitions only; the state and the answer are `outcome_by` of crate
-- `callers`.
--
-- Statuses: 0 done, 1 refused, 2 the answer has fewer than 2 places or the state is not 51 bytes long. With 2 both keep their contents.
use Rattle.std.specs.Prelude.{◌≡◌, Bool, cond, ◌&&◌, List, [], ◌∷◌, length, get_or, drop, leb, eqb, ℕ, ◌≤◌}
use Rattle.arbiter.specs.declared.Call.{Call}
use Rattle.arbiter.specs.declared.Call.TheVariants.{Reset}
use Rattle.arbiter.specs.Calls.{after, answer, Told, done, refused, told}
use Rattle.callers.specs.Callers.{outcome_by, Asked}
use Rattle.callers.specs.Conditions.{RefusedBy}
use Rattle.lent.specs.Bytes.{bytes_of, state_of}
use Rattle.arbiter.specs.declared.Outcome.{Outcome}
use Rattle.lent.specs.Answers.{refused_into, beside}

-- 0 and the value read, or 0 where nothing is read; or the number and the place
abbrev pub told_into : Told → List ℕ → ℕ × List ℕ
told_into (done v) lent = (0, 0 ∷ v ∷ drop 2 lent)
told_into (refused n place) lent = refused_into n place lent

-- the answer has 2 places, and the state 51 bytes
unfoldable pub room : List ℕ → List ℕ → Bool
room state lent = leb 2 (length lent) && eqb (length state) 51

-- the status, the bytes of the state that a call leaves, and the answer at exit
abbrev pub arbiter_into : Outcome → List ℕ → ℕ × List ℕ × List ℕ
arbiter_into o lent = beside (bytes_of o.state) (told_into (told o.reply) lent)

-- a caller's call on the state that the bytes say
unfoldable pub arbiter_call : ℕ → Call → List ℕ → List ℕ → ℕ × List ℕ × List ℕ
arbiter_call k c state lent = cond (room state lent) (arbiter_into (outcome_by k c (state_of state)) lent) (2, state, lent)

-- 51 bytes and two places or more
abbrev pub Lends : List ℕ → List ℕ → Type 0
Lends state lent = (length state ≡ 51) × (2 ≤ length lent)

-- what the program finds: a call that is refused says for what, and leaves every byte; any other is done, the answer has the value read, and the
-- bytes say the state that it leaves. Either status says so, and with less lent nothing is written
pub record WholeCall (k : ℕ) (c : Call) (state lent : List ℕ) (status : ℕ) (exit found : List ℕ) : Type 0 where
  pub when_refused : Lends state lent → (n : ℕ) → RefusedBy k (state_of state) c n
      → (status ≡ 1) × (get_or found 0 0 ≡ n) × (get_or found 1 0 ≡ 0) × (exit ≡ state)
  pub when_done : Lends state lent → ((n : ℕ) → RefusedBy k (state_of state) c n → ⊥)
      → (status ≡ 0) × (get_or found 0 0 ≡ 0) × (told (answer c (state_of state)) ≡ done (get_or found 1 0)) × (state_of exit ≡ after c (state_of state))
  pub because : status ≡ 1 → Lends state lent × RefusedBy k (state_of state) c (get_or found 0 0)
  pub possible : status ≡ 0 → Lends state lent × ((n : ℕ) → RefusedBy k (state_of state) c n → ⊥)
  pub short : (Lends state lent → ⊥) → (status ≡ 2) × (exit ≡ state) × (found ≡ lent)

-- ---- one call after the other

-- a caller's call, and the answer that is lent to it
pub record Lending : Type 0 where
  pub asked : Asked
  pub lent : List ℕ

-- the workshop's reset
abbrev pub reset_of : ℕ → ℕ → List ℕ → Lending
reset_of cores slot lent = record { asked = record { caller = 16; call = Reset cores slot }; lent = lent }

-- the status, the bytes and the answer that a call leaves
abbrev pub called_on : Lending → List ℕ → ℕ × List ℕ × List ℕ
called_on x s = arbiter_call x.asked.caller x.asked.call s x.lent

-- the bytes that calls leave, the first of the list first
unfoldable pub bytes_after : List Lending → List ℕ → List ℕ
bytes_after [] s = s
bytes_after (x ∷ xs) s = bytes_after xs (called_on x s).1

-- the calls and their callers alone
unfoldable pub asked_of : List Lending → List Asked
asked_of [] = []
asked_of (x ∷ xs) = x.asked ∷ asked_of xs

-- each with two places or more: with fewer there is no call
abbrev pub AllMade : List Lending → Type 0
AllMade [] = Unit {0}
AllMade (x ∷ xs) = (2 ≤ length x.lent) × AllMade xs

-- the status and the first two places of the answer
abbrev pub found_in : ℕ × List ℕ × List ℕ → ℕ × ℕ × ℕ
found_in y = (y.0, get_or y.2 0 0, get_or y.2 1 0)

-- "every answer to that core", in order
unfoldable pub found_by : ℕ → List Lending → List ℕ → List (ℕ × ℕ × ℕ)
found_by k [] s = []
found_by k (x ∷ xs) s = cond (eqb x.asked.caller k) (found_in (called_on x s) ∷ found_by k xs (called_on x s).1) (found_by k xs (called_on x s).1)
