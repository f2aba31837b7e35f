-- The listing of an image (document 01, "The program `figure` reads"). Definitions only.
use Rattle.std.specs.Prelude.{List, replicate, ℕ}
use Rattle.runs.specs.Figures.{no_time}
use Rattle.answers.specs.Answers.{Result, given, refused, answer, table_after}
use Rattle.text.specs.Text.{refused_line, figure_lines}

-- the lines of an answer and its table of 256 places: a refusal, or the figures, the count and each place that holds a time
abbrev pub text_of : Result → List ℕ → List ℕ
text_of (refused number place) table = refused_line number place
text_of (given tight published exits) table = figure_lines tight published exits 256 table

-- the table that is lent: 256 places, none of which holds a time
abbrev pub lent : List ℕ
lent = replicate 256 no_time

unfoldable pub listing_of : List ℕ → List ℕ
listing_of s = text_of (answer s lent) (table_after s lent)
