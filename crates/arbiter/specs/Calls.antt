-- Calls to the arbiter, and what each answers and leaves (document 02, "The arbiter as a device"). Definitions only.
use Rattle.std.specs.Prelude.{cond, ◌&&◌, List, [], ◌∷◌, ltb, eqb, ℕ, Option, Some, None, Result, Ok, Err}
use Rattle.refusals.specs.Refusals.{number_of}
use Rattle.refusals.specs.declared.Refusal.{Refusal}
use Rattle.refusals.specs.declared.Refusal.TheVariants.{Register, Busy}
use Rattle.refusals.specs.declared.Refused.{Refused}
use Rattle.device.specs.Device.{sized, formed, usable, registers_of, with_registers, register_at, line_of, writable, busy, cleared, ticked}
use Rattle.device.specs.declared.Arbiter.{Arbiter}
use Rattle.arbiter.specs.declared.Call.{Call}
use Rattle.arbiter.specs.declared.Call.TheVariants.{Read, Line, Write, Tick, Reset}
use Rattle.arbiter.specs.declared.Outcome.{Outcome}

-- the answer to a call: the value read, `None` where nothing is, or the refusal
abbrev pub Reply : Type 0
Reply = Result (Option ℕ) Refused

-- "Both have place 0 .."
abbrev pub refused_for : Refusal → Reply
refused_for r = Err (record { refusal = r; place = 0 })

-- ".. and leave the state unchanged."
abbrev pub refuse : Refusal → Arbiter → Outcome
refuse r a = record { state = a; reply = refused_for r }

-- a value is read, and the state stays
abbrev pub tell : ℕ → Arbiter → Outcome
tell v a = record { state = a; reply = Ok (Some v) }

-- the call leaves another state
abbrev pub leave : Arbiter → Outcome
leave a = record { state = a; reply = Ok None }

-- A write that 15 does not refuse: a length is refused with 16 while waiting or running, and else "clears done and sets waiting".
unfoldable pub written : ℕ → ℕ → ℕ → Arbiter → Outcome
written p n v a =
    cond (eqb n 0)
    (cond (busy (registers_of a p)) (refuse Busy a) (leave (with_registers a p (record { length = v; flags = 1; mask = (registers_of a p).mask }))))
    (leave (with_registers a p (record { length = (registers_of a p).length; flags = (registers_of a p).flags; mask = v })))

-- What a call answers, and the state that it leaves. "15 register, judged first"; a reset asks nothing of the state.
unfoldable pub outcome : Call → Arbiter → Outcome
outcome (Read p n) a = cond (usable a p && ltb n 3) (tell (register_at n (registers_of a p)) a) (refuse Register a)
outcome (Line p) a = cond (usable a p) (tell (line_of (registers_of a p)) a) (refuse Register a)
outcome (Write p n v) a = cond (usable a p && writable a.slot n v) (written p n v a) (refuse Register a)
outcome Tick a = cond (formed a) (leave (ticked a)) (refuse Register a)
outcome (Reset cores slot) a = cond (sized cores slot) (leave (cleared cores slot)) (refuse Register a)

-- the state that a call leaves
abbrev pub after : Call → Arbiter → Arbiter
after c a = (outcome c a).state

-- what it answers
abbrev pub answer : Call → Arbiter → Reply
answer c a = (outcome c a).reply

-- an answer in the papers' numbers: the value read, 0 where nothing is, or the number and the place of a refusal
pub data Told : Type 0 where
  done : ℕ → Told
  refused : ℕ → ℕ → Told

-- each case of an answer, so told
abbrev pub told : Reply → Told
told (Ok None) = done 0
told (Ok (Some v)) = done v
told (Err e) = refused (number_of e.refusal) e.place

-- the state after calls, the first of the list first
unfoldable pub after_all : List Call → Arbiter → Arbiter
after_all [] a = a
after_all (c ∷ cs) a = after_all cs (after c a)
