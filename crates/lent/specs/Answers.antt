-- The first two places of a lent answer, and the status beside them. Definitions only.
use Rattle.std.specs.Prelude.{List, ◌∷◌, drop, ℕ}

-- the status and the answer at exit, where there is nothing to tell and where a call is refused; later places keep their contents
abbrev pub done_into : List ℕ → ℕ × List ℕ
done_into lent = (0, 0 ∷ 0 ∷ drop 2 lent)

abbrev pub refused_into : ℕ → ℕ → List ℕ → ℕ × List ℕ
refused_into number place lent = (1, number ∷ place ∷ drop 2 lent)

-- the status, another slice and the answer at exit
abbrev pub beside : List ℕ → ℕ × List ℕ → ℕ × List ℕ × List ℕ
beside after call = (call.0, after, call.1)
