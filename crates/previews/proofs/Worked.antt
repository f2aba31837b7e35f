-- Worked previews of edits of "Branch of plain 3 and plain 7 from {9}" (document 01), by computation from the definitions.
use mathlib.Core.Path.{◌≡◌, refl}
use mathlib.Core.List.{[], ◌∷◌}
use lib.ListN.{replicate}
use Rattle.runs.specs.Slots.{equal_slots, equation7}
use Rattle.runs.specs.Lines.{power}
use Rattle.runs.specs.Clock.{with_lines}
use Rattle.runs.specs.Nodes.{trees, tree_by, tree_to, tree, depth, visits, lines_to}
use Rattle.runs.specs.Carried.{carried}
use Rattle.runs.specs.Figures.{no_time, start_times, start_set, longer, later, longest_of, at_offsets, cost, entry_of, held, sum}
use Rattle.image_bytes.specs.Bytes.{word_at, words, bytes}
use Rattle.schedule.specs.Said.{bus_ok, said}
use Rattle.rows.specs.Tests.{tag_ok, room_ok, node_length_ok, length_ok, starts_ok, plain_ok, access_ok, block_ok, loop_ok, node_value_ok, value_ok, below, children_ok, entry_ok}
use Rattle.image.specs.Judged.{field_of, end_of, scan_from, scan, whole_of, judged}
use Rattle.rows.specs.Fields.{field_at}
use Rattle.nodes.specs.Nodes.{node_from, meant, node_at}
use Rattle.answers.specs.Answers.{given, refused}
use Rattle.edits.specs.Edits.{with_durations, found}
use Rattle.edits.proofs.Worked.{arms}
use Rattle.previews.specs.Previews.{preview_of, preview_table}

record Worked : Type 0 where
  preview : preview_of (arms 3 7) 1 8 8 (replicate 10 0) ≡ given 8 8 2
  table : preview_table (arms 3 7) 1 8 8 (replicate 11 0)
      ≡ no_time ∷ no_time ∷ 3 ∷ no_time ∷ no_time ∷ no_time ∷ no_time ∷ 8 ∷ no_time ∷ no_time ∷ 0 ∷ []
  short_table : preview_of (arms 3 7) 1 8 8 (replicate 9 0) ≡ refused 10 31
  value_first : preview_of (arms 3 7) 1 8 7 (replicate 9 0) ≡ refused 5 17
  kept : preview_table (arms 3 7) 1 8 7 (replicate 9 0) ≡ replicate 9 0

worked : Worked
unfolding word_at words bytes tag_ok room_ok node_length_ok length_ok bus_ok said starts_ok plain_ok access_ok block_ok loop_ok node_value_ok value_ok below children_ok entry_ok field_of field_at node_from meant node_at trees tree_by tree_to tree depth visits power lines_to end_of scan_from scan whole_of judged equal_slots equation7 with_lines carried start_times start_set longer later longest_of at_offsets cost entry_of held sum with_durations found
worked = record {
  preview = refl;
  table = refl;
  short_table = refl;
  value_first = refl;
  kept = refl;
}
