use mathlib.Core.Path.{◌≡◌, ◌∙◌}
use mathlib.Core.List.{List}
use Prim.Native.Nat.{ℕ}
use lib.ListN.{take}
use Rattle.io.specs.Digits.{last_digits, IsDigitCount}
use Rattle.text.specs.Text.{decimal}
use Rattle.text.proofs.Decimal.{decimal_digits}
use Rattle.text.proofs.Page.number.Goals as goal

-- io's `decimal` gives the fewest digits, which are those of the definition (`decimal_digits`), and `text` puts them.
-- the bytes that io's `decimal` makes
spelled : (n k : ℕ) (l : List ℕ) → IsDigitCount 10 1 n k → take k l ≡ last_digits 10 k n → take k l ≡ decimal n
spelled n k l e h = h ∙ decimal_digits n k e

pub text-requires : goal.text-requires
text-requires c =
    let d = c.decimal-k in
    rw (spelled c.args.n d.result d.new.out d.ensures.len d.ensures.digits) c.requires

pub returns : goal.returns
returns c =
    let d = c.decimal-k in
    rw (spelled c.args.n d.result d.new.out d.ensures.len d.ensures.digits) at c.text.ensures
