-- The bytes that are read one behind the other: those of the buffer so far and those that came are the reader's first.
use mathlib.Core.Path.{◌≡◌, refl, sym, ap, subst, ◌∙◌}
use mathlib.Core.Bool.{Bool, true, false, cond}
use mathlib.Core.List.{List, ◌++◌, append_assoc}
use Prim.Native.Nat.{ℕ, zero, suc, ◌+◌, ◌≤◌}
use native.Mathlib.Omega.{arith}
use lib.Dec.{ltb}
use lib.ListN.{length, take}
use lib.Seq.{length-take-le, take-append-add}
use Rattle.std.proofs.lemmas.List.{take-append-le}
use Rattle.std.specs.Prelude.{Result, Ok, Err}
use Rattle.std.specs.declared.option.Option.{Option}
use Rattle.std.specs.declared.option.Option.TheVariants.{None, Some}
use Rattle.std.specs.declared.ops.ControlFlow.{ControlFlow}
use Rattle.std.specs.declared.ops.ControlFlow.TheVariants.{Continue, Break}
use Rattle.std.specs.Io.{ReadsAtMost}
use Rattle.std.specs.Io.KnownBytes.{Consumes, ReadConsumes}
use Rattle.input.specs.Reading.{full_or_open, after_read}
use Rattle.input.proofs.Reading.{bytes_of}

-- what is taken first and then
both : (old mid new : Option (List ℕ)) (first then : List ℕ) → Consumes old mid first → Consumes mid new then → Consumes old new (first ++ then)
both None mid new first then p q = tt
both (Some xs) None new first then p q = absurd p
both (Some xs) (Some ys) None first then p q = absurd q
both (Some xs) (Some ys) (Some zs) first then p q = rw append_assoc (p ∙ ap (λ (l : List ℕ). first ++ l) q)

-- the first bytes of a buffer and n of those that were put behind them
front : (done n : ℕ) (buffer room rest : List ℕ) → done ≤ length buffer → n ≤ length room
    → take (done + n) (take done buffer ++ (room ++ rest)) ≡ take done buffer ++ take n room
front done n buffer room rest h k =
    subst (λ (m : ℕ). take (m + n) (take done buffer ++ (room ++ rest)) ≡ take done buffer ++ take n room) (length-take-le done buffer h)
    (rw (take-append-add (take done buffer) (room ++ rest) n, take-append-le n room rest k))

opened : (b : Bool) (there : ℕ) → bytes_of (cond b (Continue there) (Break there)) ≡ there
opened true there = refl
opened false there = refl

counted : {E : Type 0} (done size k : ℕ) (c : ControlFlow ℕ ℕ) → ◌≡◌ {A = Result (ControlFlow ℕ ℕ) E} (after_read done (Ok k) size) (Ok c) → bytes_of c ≡ done + k
counted done size zero c e = let q : Break done ≡ c = cc in rw (← q) (omega arith)
counted done size (suc k) c e =
    let q : full_or_open (done + suc k) size ≡ c = cc in
    rw (← q) (opened (ltb (done + suc k) size) (done + suc k))

-- the input after a read that did not fail
pub grown_bytes : {E : Type 0} {a : Result (ControlFlow ℕ ℕ) E} (old mid new : Option (List ℕ)) (done size : ℕ) (r : Result ℕ E) (c : ControlFlow ℕ ℕ)
    (buffer room rest : List ℕ) → done ≤ length buffer → ReadsAtMost r room → a ≡ after_read done r size → a ≡ Ok c → Consumes old mid (take done buffer)
    → ReadConsumes mid new r room → Consumes old new (take (bytes_of c) (take done buffer ++ (room ++ rest)))
grown_bytes old mid new done size (Err x) c buffer room rest h m e f p q = absurd (cc)
grown_bytes old mid new done size (Ok k) c buffer room rest h m e f p q =
    rw (counted done size k c (sym e ∙ f), front done k buffer room rest h m.0) (both old mid new (take done buffer) (take k room) p q.0)
