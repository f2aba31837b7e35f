-- Worked listings: each side computes to the same bytes.
use mathlib.Core.Path.{◌≡◌, refl}
use mathlib.Core.List.{List, [], ◌∷◌}
use Prim.Native.Nat.{ℕ}
use Rattle.runs.specs.Figures.{no_time}
use Rattle.text.specs.Text.{codes, decimal, refused_line, exit_lines, figure_lines}

zero_is_a_digit : decimal 0 ≡ 48 ∷ []
unfolding decimal
zero_is_a_digit = refl

ten : decimal 10 ≡ 49 ∷ 48 ∷ []
unfolding decimal
ten = refl

greatest : decimal 18446744073709551615 ≡ codes "18446744073709551615"
unfolding decimal
greatest = refl

-- document 01: an empty input
empty_input : refused_line 7 0 ≡ codes "refused 7 0\n"
unfolding refused_line
empty_input = refl

-- document 01: A2 twice from {3, 5}
table : List ℕ
table = no_time ∷ no_time ∷ 9 ∷ no_time ∷ 9 ∷ no_time ∷ no_time ∷ no_time ∷ no_time ∷ no_time ∷ []

a2_twice : figure_lines 9 14 2 10 table ≡ codes "tight 9\npublished 14\nexits 2\n2 9\n4 9\n"
unfolding figure_lines table
a2_twice = refl

-- the bytes of one line, written out
a2_line : exit_lines 3 table ≡ 50 ∷ 32 ∷ 57 ∷ 10 ∷ []
unfolding exit_lines table
a2_line = refl
