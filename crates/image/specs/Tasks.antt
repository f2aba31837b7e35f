-- The task that an image's bytes say, and where its nodes stand (document 01, "The task image"). The image's bytes are the only source of a task's nodes.
-- Definitions only.
use Rattle.std.specs.Prelude.{cond, List, ℕ, ◌+◌, ltb}
use Rattle.runs.specs.Runs.{Task}
use Rattle.runs.specs.Carried.{row}
use Rattle.image_bytes.specs.Bytes.{word_at, bytes}
use Rattle.schedule.specs.Said.{said}
use Rattle.image.specs.declared.Outline.{Outline}
use Rattle.rows.specs.Fields.{field_at}
use Rattle.nodes.specs.Nodes.{node_at}

-- where the fields of an image's n nodes stand, and 0 behind the last: the 256 places beside an accepted verdict
abbrev pub node_places : List ℕ → ℕ → List ℕ
node_places s n = row 256 (λ k. cond (ltb k n) (field_at s (k + 2)) 0)

-- field 2, which stands behind field 1, wherever that ends
abbrev pub starts_of : List ℕ → List ℕ
starts_of s = bytes s (field_at s 1 + 3) (word_at s (field_at s 1 + 1))

-- what an accepted image says: "The last node is the entry", or the one that a field with tag 8 names (W1)
abbrev pub task_of : List ℕ → Outline → Task
task_of s t = record { bus = said s; starts = starts_of s; lines = t.lines; node_at = node_at s; entry = t.entry }
