-- A set joined with one offset more has just that offset and what was there before.
use mathlib.Core.Path.{◌≡◌, sym, ◌∙◌, ap}
use mathlib.Core.Bool.{Bool, ◌||◌}
use lib.Dec.{eqb}
use lib.Pow.{pow-lt}
use lib.Bits.{bit_or, or_lt}
use borrow.Author.Tests.{eqb-true, eqb-false, eq-eqb, ne_eqb}
use Prim.Native.Nat.{ℕ, ◌^◌, ◌<◌}
use Rattle.runs.proofs.Cases.{either}
use Rattle.offsets.specs.Sets.{has}
use Rattle.offsets.proofs.Members.{has_or, has_single}

swap : (a b : ℕ) → eqb a b ≡ eqb b a
swap a b =
    either (eqb a b)
    (λ e. e ∙ sym (eq-eqb b a (sym (eqb-true a b e))))
    (λ e. e ∙ sym (ne_eqb b a (λ q. eqb-false a b e (sym q))))

-- the set n joined with the one offset k has what n has, and k
pub has_more : (n k o : ℕ) → has (bit_or n (2 ^ k)) o ≡ (has n o || eqb k o)
has_more n k o = has_or n (2 ^ k) o ∙ ap (λ (t : Bool). has n o || t) (has_single k o ∙ swap o k)

-- and stays below p where both are
pub more_lt : (n k p : ℕ) → n < 2 ^ p → k < p → bit_or n (2 ^ k) < 2 ^ p
more_lt n k p h l = or_lt p n (2 ^ k) h (pow-lt l)
