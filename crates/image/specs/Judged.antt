-- The verdict on an image (document 01, "When no figure is given"): fields from the front, then 7, 8, 9 and 18. Definitions only.
use Rattle.std.specs.Prelude.{Bool, false, cond, not, List, ℕ, zero, suc, ◌+◌, ◌-◌, ◌*◌, length, eqb, leb, ltb, Result, Ok, Err}
use Prim.Native.String.{String}
use Rattle.runs.specs.Lines.{power}
use Rattle.runs.specs.Nodes.{depth, visits}
use Rattle.runs.specs.Runs.{Task}
use Rattle.image_bytes.specs.Bytes.{byte_at, word_at}
use Rattle.schedule.specs.Said.{said}
use Rattle.rows.specs.Tests.{tag_ok, room_ok, length_ok, value_ok, children_ok, entry_ok}
use Rattle.rows.specs.Fields.{field_at, body_at}
use Rattle.nodes.specs.Nodes.{tree_at, lines_of}
use Rattle.image.specs.Tasks.{task_of}
use Rattle.refusals.specs.declared.Refusal.TheVariants.{Cut, Tag, Full, Length, Value, Forward, Unfinished, Deep, Long, Entry, Lines}
use Rattle.image.specs.declared.fields.Nodes.{Nodes}
use Rattle.image.specs.declared.Outline.{Outline}
use Rattle.refusals.specs.declared.Refusal.{Refusal}
use Rattle.refusals.specs.declared.Refused.{Refused}
use Rattle.refusals.specs.Refusals.{number_of, word_of, refused_at}

-- "Within one the order is: head cut, 2, 3, 4, body cut, 5, 6", and 11 of a field that has neither number of 5 nor of 6 (W1). The field at a place, `index`
-- fields standing before it, the last of which has closed the image or not; a good one gives the place of the next
unfoldable pub field_of : List ℕ → ℕ → ℕ → Bool → Result ℕ Refusal
field_of s at index closed =
    cond (ltb (length s - at) 3) (Err Cut)
    (cond (not (tag_ok index closed (byte_at s at))) (Err Tag)
    (cond (not (room_ok index (byte_at s at))) (Err Full)
    (cond (not (length_ok (byte_at s at) (word_at s (at + 1)))) (Err Length)
    (cond (ltb (length s - at - 3) (word_at s (at + 1))) (Err Cut)
    (cond (not (value_ok s (byte_at s at) (at + 3) (word_at s (at + 1)))) (Err Value)
    (cond (not (children_ok s (byte_at s at) (at + 3) (word_at s (at + 1)) index)) (Err Forward)
    (cond (not (entry_ok s (byte_at s at) (at + 3) index)) (Err Entry)
    (Ok (at + 3 + word_at s (at + 1))))))))))

-- a field that is refused stops the scan at its place; a good one leads on to the next
abbrev pub on_field : ℕ → (ℕ → Result Nodes Refused) → Result ℕ Refusal → Result Nodes Refused
on_field at on (Ok next) = on next
on_field at on (Err r) = Err (refused_at r at)

-- so many nodes, and the number of the entry
abbrev pub holding : ℕ → ℕ → Nodes
holding n entry = record { count = n; entry = entry }

-- "Then 7": an image of `index` good fields ends before a node field, or it has nodes, of which the last is the entry, or with W1 the one that the field
-- closing it names
unfoldable pub end_of : List ℕ → ℕ → Bool → Result Nodes Refused
end_of s index closed =
    cond (ltb index 3) (Err (refused_at Unfinished (length s)))
    (cond closed (Ok (holding (index - 3) (word_at s (body_at s (index - 1))))) (Ok (holding (index - 2) (index - 3))))

-- "Fields are judged from the front": from a place on, `index` fields standing before it, the first that is refused or the end.
-- `fuel` is more than the fields that may still come: a 260th is refused, so it never runs out (`scan_says` of proofs/Says.antt).
unfoldable pub scan_from : ℕ → List ℕ → ℕ → ℕ → Bool → Result Nodes Refused
scan_from zero s at index closed = end_of s index closed
scan_from (suc fuel) s at index closed =
    cond (leb (length s) at) (end_of s index closed) (on_field at (λ next. scan_from fuel s next (index + 1) (eqb (byte_at s at) 8)) (field_of s at index closed))

unfoldable pub scan : List ℕ → Result Nodes Refused
scan s = scan_from 260 s 0 0 false

-- then 8 and 9, and with W9 18, of an image whose fields are all good: it has n nodes and this entry
unfoldable pub whole_of : List ℕ → ℕ → ℕ → Result Outline Refused
whole_of s n entry =
    cond (ltb 24 (depth (tree_at s entry))) (Err (refused_at Deep (length s)))
    (cond (ltb 100000 (visits (tree_at s entry))) (Err (refused_at Long (length s)))
    (cond (ltb 1024 ((said s).period * power (lines_of s n))) (Err (refused_at Lines (length s)))
    (Ok (record {
      period = (said s).period;
      starts = word_at s (field_at s 1 + 1);
      lines = lines_of s n;
      sets = power (lines_of s n);
      nodes = n;
      entry = entry;
    }))))

abbrev pub on_end : List ℕ → Result Nodes Refused → Result Outline Refused
on_end s (Err e) = Err e
on_end s (Ok n) = whole_of s n.count n.entry

-- the verdict
unfoldable pub judged : List ℕ → Result Outline Refused
judged s = on_end s (scan s)

-- the verdict in the document's terms: the task that the image says, or the number, the word and the place of a refusal
pub data Numbered : Type 0 where
  accepted : (task : Task) → Numbered
  refused : (number : ℕ) (word : String) (place : ℕ) → Numbered

abbrev pub numbered_of : List ℕ → Result Outline Refused → Numbered
numbered_of s (Ok t) = accepted (task_of s t)
numbered_of s (Err e) = refused (number_of e.refusal) (word_of e.refusal) e.place

abbrev pub numbered : List ℕ → Numbered
numbered s = numbered_of s (judged s)
