-- A text in a lent buffer: what the inner functions do and what the public ones answer and leave. Definitions only.
use Rattle.std.specs.Prelude.{◌≡◌, List, ◌++◌, cond, ◌&&◌, length, take, drop, leb, ℕ, ◌+◌, Result, Ok, Err}
use Rattle.text.specs.declared.Unlisted.{Unlisted}
use Rattle.text.specs.Text.{refused_line, figure_lines}

-- the buffer with the text from place at on
unfoldable pub put : List ℕ → ℕ → List ℕ → List ℕ
put out at text = take at out ++ text ++ drop (at + length text) out

-- from place at on the buffer out became after: the text was put there, and ends before place end
pub record Wrote (out : List ℕ) (at : ℕ) (text after : List ℕ) (end : ℕ) : Type 0 where
  pub ends : end ≡ at + length text
  pub bytes : after ≡ put out at text

-- what the answer `Ok n` says: the text is the first n bytes of the buffer afterwards, and the rest is as it was
pub record Read (text out after : List ℕ) (n : ℕ) : Type 0 where
  pub count : n ≡ length text
  pub bytes : after ≡ text ++ drop (length text) out

-- the answer and the buffer afterwards: the text from the start, or no change where the buffer has fewer than 8192 places
unfoldable pub into_buffer : List ℕ → List ℕ → Result ℕ Unlisted × List ℕ
into_buffer text out = cond (leb 8192 (length out)) (Ok (length text), text ++ drop (length text) out) (Err Unlisted.Short, out)

-- the same of a refusal
abbrev pub refused_listed : ℕ → ℕ → List ℕ → Result ℕ Unlisted × List ℕ
refused_listed number place out = into_buffer (refused_line number place) out

-- the same of the figures, or no change where the period is above 256 or the table lacks a place below it
unfoldable pub figures_listed : ℕ → ℕ → ℕ → ℕ → List ℕ → List ℕ → Result ℕ Unlisted × List ℕ
unfolding into_buffer figure_lines
figures_listed tight published exits period table out =
    cond (leb period 256 && leb period (length table)) (into_buffer (figure_lines tight published exits period table) out) (Err Unlisted.NoTable, out)
