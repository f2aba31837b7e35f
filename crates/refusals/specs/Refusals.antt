-- Each refusal's number and word: the table of "When no figure is given" of document 01, and the new numbers of document 02. Definitions only.
use Rattle.std.specs.Prelude.{ℕ}
use Prim.Native.String.{String}
use Rattle.refusals.specs.declared.Refusal.{Refusal}
use Rattle.refusals.specs.declared.Refused.{Refused}
use Rattle.refusals.specs.declared.Refusal.TheVariants.{Cut, Tag, Full, Length, Value, Forward, Unfinished, Deep, Long, Table, Entry, Register, Busy, Forbidden, Lines, Block}

-- "Number"; those above 10 are new numbers of document 02
abbrev pub number_of : Refusal → ℕ
number_of Cut = 1
number_of Tag = 2
number_of Full = 3
number_of Length = 4
number_of Value = 5
number_of Forward = 6
number_of Unfinished = 7
number_of Deep = 8
number_of Long = 9
number_of Table = 10
number_of Entry = 11
number_of Register = 15
number_of Busy = 16
number_of Forbidden = 17
number_of Lines = 18
number_of Block = 19

-- "Word"
abbrev pub word_of : Refusal → String
word_of Cut = "cut"
word_of Tag = "tag"
word_of Full = "full"
word_of Length = "length"
word_of Value = "value"
word_of Forward = "forward"
word_of Unfinished = "unfinished"
word_of Deep = "deep"
word_of Long = "long"
word_of Table = "table"
word_of Entry = "entry"
word_of Register = "register"
word_of Busy = "busy"
word_of Forbidden = "forbidden"
word_of Lines = "lines"
word_of Block = "block"

-- a refusal at a place
abbrev pub refused_at : Refusal → ℕ → Refused
refused_at r place = record { refusal = r; place = place }
