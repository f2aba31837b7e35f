-- The bytes that the program writes (document 01, "The program `figure` reads"). Definitions only.
use Rattle.std.specs.Prelude.{List, [], ◌∷◌, ◌++◌, Bool, true, false, cond, get_or, ltb, eqb, ℕ, zero, suc, ◌+◌, ◌/◌, ◌%◌}
use Prim.Native.Char.{code}
use Prim.Native.String.{String}
use Prim.Native.String as text
use Rattle.runs.specs.Figures.{no_time}

-- the ASCII codes of a text
abbrev pub codes : String → List ℕ
codes text.[] = []
codes (text.◌∷◌ c s) = code c ∷ codes s

-- the digits of n, the most significant first: one where n is below 10, and else those of n / 10 and one more, if k or fewer are all
unfoldable pub places : ℕ → ℕ → Bool → List ℕ
places zero n small = []
places (suc k) n true = (48 + n) ∷ []
places (suc k) n false = places k (n / 10) (ltb (n / 10) 10) ++ ((48 + n % 10) ∷ [])

-- "numbers are written in decimal": no zero in front, and 0 is one digit; n has no more than n + 1 digits
unfoldable pub decimal : ℕ → List ℕ
unfolding places
decimal n = places (suc n) n (ltb n 10)

-- "One space parts the items": a line's last item, with the space before it and the line feed after it
unfoldable pub last_item : ℕ → List ℕ
unfolding decimal
last_item n = 32 ∷ decimal n ++ (10 ∷ [])

-- a line of two items
unfoldable pub line : List ℕ → ℕ → List ℕ
unfolding last_item
line item n = item ++ last_item n

-- "For a refusal it writes one line: `refused`, the number, the place"
unfoldable pub refused_line : ℕ → ℕ → List ℕ
unfolding line decimal
refused_line number place = line (codes "refused " ++ decimal number) place

-- the line of an exit offset "with its longest time", and nothing for an offset that is no exit
unfoldable pub exit_line : ℕ → ℕ → List ℕ
unfolding line decimal
exit_line o time = cond (eqb time no_time) [] (line (decimal o) time)

-- "one line per exit offset, ascending": those of the offsets below o
unfoldable pub exit_lines : ℕ → List ℕ → List ℕ
unfolding exit_line
exit_lines zero table = []
exit_lines (suc o) table = exit_lines o table ++ exit_line o (get_or table o 0)

-- "The first two lines are the figures, the third is the count of exit offsets"
unfoldable pub figure_lines : ℕ → ℕ → ℕ → ℕ → List ℕ → List ℕ
unfolding line exit_lines
figure_lines tight published exits period table =
    line (codes "tight") tight ++ line (codes "published") published ++ line (codes "exits") exits ++ exit_lines period table
