-- Sequences of calls, and what document 02 says of them ("The arbiter as a device"). Definitions only.
use Rattle.std.specs.Prelude.{◌≡◌, Bool, true, false, cond, ◌&&◌, List, [], ◌∷◌, eqb, ℕ, ◌+◌, ◌*◌, ◌%◌, ◌≤◌, ◌<◌}
use Rattle.runs.specs.Slots.{equal_slots, equation7}
use Rattle.runs.specs.Clock.{State, on, offsets, Access}
use Rattle.device.specs.Device.{sized, registers_of, busy, writable, slots_of_core}
use Rattle.arbiter.specs.declared.Call.{Call}
use Rattle.arbiter.specs.declared.Call.TheVariants.{Read, Line, Write, Tick, Reset}
use Rattle.arbiter.specs.Calls.{after, answer, after_all}
use Rattle.device.specs.declared.Arbiter.{Arbiter}

-- "states reached by calls from a reset": a reset that is accepted, whatever the state before it, and then any calls, refused ones too
pub data Reached : Arbiter → Type 0 where
  fresh : (a : Arbiter) (cores slot : ℕ) → sized cores slot ≡ true → Reached (after (Reset cores slot) a)
  next : {a : Arbiter} → Reached a → (c : Call) → Reached (after c a)

-- whether a call resets: one that is refused does not
abbrev pub resets : Call → Bool
resets (Read p n) = false
resets (Line p) = false
resets (Write p n v) = false
resets Tick = false
resets (Reset cores slot) = sized cores slot

-- "no reset comes between"
pub data NoReset : List Call → Type 0 where
  none : NoReset []
  more : {c : Call} {cs : List Call} → resets c ≡ false → NoReset cs → NoReset (c ∷ cs)

-- 1 for a tick
abbrev pub one_if_tick : Call → ℕ
one_if_tick (Read p n) = 0
one_if_tick (Line p) = 0
one_if_tick (Write p n v) = 0
one_if_tick Tick = 1
one_if_tick (Reset cores slot) = 0

-- how many ticks there are. In states reached from a reset none is refused (`formed_still` in proofs/Kept.antt)
unfoldable pub ticks : List Call → ℕ
ticks [] = 0
ticks (c ∷ cs) = one_if_tick c + ticks cs

-- how a state is reached: the last reset that was accepted, and the calls since then
pub record Since (b : Arbiter) : Type 0 where
  pub before : Arbiter
  pub cores : ℕ
  pub slot : ℕ
  pub sized_is : sized cores slot ≡ true
  pub calls : List Call
  pub no_reset : NoReset calls
  pub leads : b ≡ after_all calls (after (Reset cores slot) before)

-- ---- when a length is done

-- whether a call writes a length to core p, one from 1 to the slot length: any other is refused, and changes nothing
abbrev pub writes_length : ℕ → ℕ → Call → Bool
writes_length slot p (Read q n) = false
writes_length slot p (Line q) = false
writes_length slot p (Write q n v) = eqb q p && (eqb n 0 && writable slot n v)
writes_length slot p Tick = false
writes_length slot p (Reset cores slot') = false

-- calls of which none does
pub data NoLength (slot p : ℕ) : List Call → Type 0 where
  none : NoLength slot p []
  more : {c : Call} {cs : List Call} → writes_length slot p c ≡ false → NoLength slot p cs → NoLength slot p (c ∷ cs)

-- A length e is written to core p in the state a, and the write is accepted. It is done after n ticks, "and no sooner, if no reset comes
-- between"; other calls, of every core, come in between as they like.
pub record DoneAfter (a : Arbiter) (p e n : ℕ) : Type 0 where
  pub least : 1 ≤ n
  -- with fewer ticks it is waiting or running
  pub no_sooner : (cs : List Call) → NoReset cs → ticks cs < n → busy (registers_of (after_all cs (after (Write p 0 e) a)) p) ≡ true
  -- with the n-th tick it is done, and stays so until a length is written to this core again
  pub done : (cs ds : List Call) → NoReset cs → ticks cs + 1 ≡ n → NoReset ds → NoLength a.slot p ds
      → (registers_of (after_all ds (after Tick (after_all cs (after (Write p 0 e) a)))) p).flags ≡ 4

-- "a length written at offset o is done after wait + length ticks": the wait is Equation 7 of 000, the one of both figures
abbrev pub DoneOnTime : Arbiter → ℕ → ℕ → Type 0
DoneOnTime a p e = DoneAfter a p e (equation7 (slots_of_core a p) e a.offset + e)

-- an access of e cycles by the clock of document 01, of core p from the arbiter's offset
abbrev pub AccessFrom : Arbiter → ℕ → ℕ → ℕ → State → Type 0
AccessFrom a p e count s = Access (equal_slots (slots_of_core a p)) (offsets (a.cores * a.slot)) e (on a.offset count) s

-- A wait of the clock is a wait of the device: an access of a run takes as many cycles as the device takes ticks from the write to done.
pub record AsTheClock (a : Arbiter) (p e : ℕ) : Type 0 where
  pub taken : ℕ
  -- every such access takes that many cycles, and ends where the arbiter then is; there is one
  pub cycles : (count : ℕ) (s : State) → AccessFrom a p e count s → (s.count ≡ count + taken) × (s.at ≡ (a.offset + taken) % (a.cores * a.slot))
  pub some : (count : ℕ) → (s : State) × AccessFrom a p e count s
  -- and the device that many ticks
  pub device : DoneAfter a p e taken

-- ---- what other cores do

-- what concerns core p: "this core's own writes and all ticks and resets"
abbrev pub concerns : ℕ → Call → Bool
concerns p (Read q n) = false
concerns p (Line q) = false
concerns p (Write q n v) = eqb q p
concerns p Tick = true
concerns p (Reset cores slot) = true

-- those among the calls, in their order
unfoldable pub concerning : ℕ → List Call → List Call
concerning p [] = []
concerning p (c ∷ cs) = cond (concerns p c) (c ∷ concerning p cs) (concerning p cs)

-- "this core's registers or line" in two states: the registers, and what every read of them and of the line answers
pub record Alike (p : ℕ) (a b : Arbiter) : Type 0 where
  pub registers : registers_of a p ≡ registers_of b p
  pub reads : (n : ℕ) → answer (Read p n) a ≡ answer (Read p n) b
  pub line_reads : answer (Line p) a ≡ answer (Line p) b
