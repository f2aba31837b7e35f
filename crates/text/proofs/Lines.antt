-- The lines of a listing: when an exit offset has one, and how long each is. A line is its items, each a word, or a number of at most 20 digits (3 for an offset).
use mathlib.Core.Path.{◌≡◌}
use mathlib.Core.List.{List, [], ◌++◌}
use mathlib.Core.Bool.{Bool, true, false, cond}
use Prim.Native.Nat.{ℕ, zero, suc, ◌+◌, ◌*◌, ◌^◌, ◌≤◌, ◌<◌}
use native.Mathlib.Omega.{arith}
use lib.Dec.{eqb}
use borrow.Author.Tests.{eq-eqb, ne_eqb}
use lib.ListN.{length, get_or, length-append}
use Rattle.runs.specs.Figures.{no_time}
use Rattle.text.specs.Text.{codes, decimal, last_item, line, refused_line, exit_line, exit_lines, figure_lines}
use Rattle.text.proofs.Decimal.{decimal_most, offset_most}

-- an offset with no time has no line, and any other has its own
pub exit_none : (o time : ℕ) → time ≡ no_time → exit_line o time ≡ []
unfolding exit_line
exit_none o time h = rw (eq-eqb time no_time h)

pub exit_some : (o time : ℕ) → (time ≡ no_time → ⊥) → exit_line o time ≡ line (decimal o) time
unfolding exit_line
exit_some o time h = rw (ne_eqb time no_time h)

pub last_length : (n : ℕ) → length (last_item n) ≡ length (decimal n) + 2
unfolding last_item
last_length n = rw length-append (omega arith)

pub line_length : (item : List ℕ) (n : ℕ) → length (line item n) ≡ length item + (length (decimal n) + 2)
unfolding line
line_length item n = rw (length-append, last_length n)

pub line_most : (item : List ℕ) (n : ℕ) → n < 2 ^ 64 → length (line item n) ≤ length item + 22
line_most item n h = rw line_length (omega (arith, decimal_most n h))

pub refused_length : (number place : ℕ) → length (refused_line number place) ≡ 10 + length (decimal number) + length (decimal place)
unfolding refused_line
refused_length number place = rw (line_length (codes "refused " ++ decimal number) place) (omega arith)

pub refused_most : (number place : ℕ) → number < 2 ^ 64 → place < 2 ^ 64 → length (refused_line number place) ≤ 50
refused_most number place h g = rw refused_length (omega (arith, decimal_most number h, decimal_most place g))

cond_most : (b : Bool) (n : ℕ) (text : List ℕ) → length text ≤ n → length (cond b [] text) ≤ n
cond_most true n text h = omega arith
cond_most false n text h = h

pub exit_most : (o time : ℕ) → o < 256 → time < 2 ^ 64 → length (exit_line o time) ≤ 25
unfolding exit_line
exit_most o time h g =
    cond_most (eqb time no_time) 25 (line (decimal o) time) (rw line_length (omega (arith, offset_most o h, decimal_most time g)))

pub exits_most : (period : ℕ) (table : List ℕ) → period ≤ 256 → ((o : ℕ) → get_or table o 0 < 2 ^ 64) → length (exit_lines period table) ≤ 25 * period
unfolding exit_lines
exits_most zero table h g = omega arith
exits_most (suc o) table h g =
    rw length-append (omega (arith, exits_most o table (omega arith) g, exit_most o (get_or table o 0) (omega arith) (g o)))

-- no listing is longer
pub figures_most : (tight published exits period : ℕ) (table : List ℕ) → tight < 2 ^ 64 → published < 2 ^ 64 → exits < 2 ^ 64 → period ≤ 256
    → ((o : ℕ) → get_or table o 0 < 2 ^ 64) → length (figure_lines tight published exits period table) ≤ 6485
unfolding figure_lines
figures_most tight published exits period table t p e h g =
    simp length-append (omega (arith, decimal_most tight t, decimal_most published p, decimal_most exits e, exits_most period table h g))
