-- Reading the input. Definitions only.
use Rattle.std.specs.Prelude.{List, cond, ℕ, zero, suc, ◌+◌, ◌<◌, ltb, length, take, Result, Ok, Err, IfOk}
use Rattle.std.specs.Io.{ReadsAtMost}
use Rattle.std.specs.Io.KnownBytes.{Consumes, IsAtEnd}
use Rattle.std.specs.declared.option.Option.{Option}
use Rattle.std.specs.declared.ops.ControlFlow.{ControlFlow}
use Rattle.std.specs.declared.ops.ControlFlow.TheVariants.{Continue, Break}

-- with so many bytes the buffer is full, or more may come
abbrev pub full_or_open : ℕ → ℕ → ControlFlow ℕ ℕ
full_or_open there size = cond (ltb there size) (Continue there) (Break there)

-- what an answer of a read makes of an input of which `done` bytes were there: an error says that the read failed, 0 that
-- the input has ended, and any other number how many bytes came behind those
abbrev pub after_read : {E : Type 0} → ℕ → Result ℕ E → ℕ → Result (ControlFlow ℕ ℕ) E
after_read done (Err e) size = Err e
after_read done (Ok zero) size = Ok (Break done)
after_read done (Ok (suc k)) size = Ok (full_or_open (done + suc k) size)

-- no more is read than the buffer has
abbrev pub Held : {E : Type 0} → Result ℕ E → List ℕ → Type 0
Held r buffer = ReadsAtMost r buffer

-- the input is the reader's first bytes, where those are known, and all of them where the buffer has room for more
abbrev pub Filled : {E : Type 0} → Option (List ℕ) → Option (List ℕ) → Result ℕ E → List ℕ → Type 0
Filled old new r buffer = IfOk r (λ n. Consumes old new (take n buffer) × (n < length buffer → IsAtEnd new))
