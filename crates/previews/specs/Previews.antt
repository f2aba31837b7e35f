-- The preview of an edit (document 02, "Trying a change before making it"): "what the edit on a copy and a fresh calculation would give", the
-- answer and the table at exit, over the image's bytes and the table at entry. The calculation judges 10, so "10 is judged last". Definitions only.
use Rattle.std.specs.Prelude.{List, ℕ}
use Rattle.answers.specs.Answers.{Result, answer, table_after}
use Rattle.edits.specs.Edits.{Change, done, refused, change, image_after}

-- the answer of the calculation on the copy, or the edit's refusal
abbrev pub preview_for : List ℕ → List ℕ → Change → Result
preview_for copy table done = answer copy table
preview_for copy table (refused number place) = Result.refused number place

-- the answer for any bytes, numbers and table
abbrev pub preview_of : List ℕ → ℕ → ℕ → ℕ → List ℕ → Result
preview_of s node lowest highest table = preview_for (image_after s node lowest highest) table (change s node lowest highest)

-- the table at exit: that of the calculation, and where there is none it keeps its contents
abbrev pub preview_table_for : List ℕ → List ℕ → Change → List ℕ
preview_table_for copy table done = table_after copy table
preview_table_for copy table (refused number place) = table

-- the table that a call leaves
abbrev pub preview_table : List ℕ → ℕ → ℕ → ℕ → List ℕ → List ℕ
preview_table s node lowest highest table = preview_table_for (image_after s node lowest highest) table (change s node lowest highest)
