-- Laws of specs/Reading: the input after a read, by what it answered, and that what is held grows within the buffer.
use mathlib.Core.Path.{◌≡◌, refl, sym, subst}
use mathlib.Core.Bool.{Bool, true, false, cond}
use mathlib.Core.List.{List}
use Prim.Native.Nat.{ℕ, zero, suc, ◌+◌, ◌-◌, ◌≤◌, ◌<◌}
use native.Mathlib.Nat.{not-suc-le-zero}
use native.Mathlib.Omega.{arith}
use lib.Dec.{T, ltb}
use lib.IntN.{ℤ, pos, negsuc, nat_abs}
use lib.ListN.{length}
use lib.Seq.{length-take-le}
use lib.Signed.{lt_z, non_neg}
use borrow.Author.Tests.{ltb-true}
use Rattle.std.specs.Prelude.{Result, Ok, Err, IfOk}
use Rattle.std.specs.declared.ops.ControlFlow.{ControlFlow}
use Rattle.std.specs.declared.ops.ControlFlow.TheVariants.{Continue, Break}
use Rattle.input.specs.Reading.{full_or_open, after_read, Held}

-- ---- answers of a read as numbers, below 0 where it failed, which std's `read` gives as an error

-- what a read into a room of n bytes may answer: -1, or how many bytes it read, at most n
abbrev pub Moved : ℕ → ℤ → Type 0
Moved n (pos k) = k ≤ n
Moved n (negsuc k) = k ≡ 0

-- an answer that is not below 0
pub not_negative : (z : ℤ) → lt_z z (pos 0) ≡ false → T (non_neg z)
not_negative (pos k) h = tt
not_negative (negsuc k) h = subst T h tt

-- an answer within the room is no more than that
pub moved : (room : ℕ) (z : ℤ) → T (non_neg z) → Moved room z → nat_abs z ≤ room
moved room (pos k) h m = m
moved room (negsuc k) h m = absurd h

-- ---- the input after a read

-- how many bytes are there, whether more may come or not
abbrev pub bytes_of : ControlFlow ℕ ℕ → ℕ
bytes_of (Continue n) = n
bytes_of (Break n) = n

module _ (E : Type 0) (done size : ℕ) where
  -- an error
  pub failed : (e : E) → ◌≡◌ {A = Result (ControlFlow ℕ ℕ) E} (Err e) (after_read done (Err e) size)
  failed e = refl

  -- an answer of 0
  pub ended : (r : Result ℕ E) → r ≡ Ok 0 → Ok (Break done) ≡ after_read done r size
  ended r e = rw e refl

  -- an answer that is neither
  pub came : (n : ℕ) → 0 < n → ◌≡◌ {A = Result (ControlFlow ℕ ℕ) E} (Ok (full_or_open (done + n) size)) (after_read done (Ok n) size)
  came zero h = absurd (not-suc-le-zero h)
  came (suc k) h = refl

  -- an input of which more may come has grown and has room; one that is over is within the buffer
  abbrev pub Grows : Result (ControlFlow ℕ ℕ) E → Type 0
  Grows (Ok (Continue n)) = (done < n) × (n < size)
  Grows (Ok (Break n)) = n ≤ size
  Grows (Err e) = Unit {0}

  grows_filled : (there : ℕ) (full : Bool) → ltb there size ≡ full → done < there → there ≤ size → Grows (Ok (cond full (Continue there) (Break there)))
  grows_filled there true e h k = (h, ltb-true there size e)
  grows_filled there false e h k = k

  pub grows : (r : Result ℕ E) → done ≤ size → IfOk r (λ n. n ≤ size - done) → Grows (after_read done r size)
  grows (Err e) h m = tt
  grows (Ok zero) h m = h
  grows (Ok (suc k)) h m = grows_filled (done + suc k) (ltb (done + suc k) size) refl (omega arith) (omega (arith, m))

  -- and so no more is read than the buffer has
  pub held : (r : Result (ControlFlow ℕ ℕ) E) (buffer : List ℕ) → length buffer ≡ size → Grows r → IfOk r (λ c. let n : Result ℕ E = Ok (bytes_of c) in Held n buffer)
  held (Ok (Continue n)) buffer e g = (omega (arith, e, g), sym (length-take-le n buffer (omega (arith, e, g))))
  held (Ok (Break n)) buffer e g = (omega (arith, e, g), sym (length-take-le n buffer (omega (arith, e, g))))
  held (Err x) buffer e g = tt
