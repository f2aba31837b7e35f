-- Worked edits of "Branch of plain 3 and plain 7 from {9}" (document 01), by computation from the definitions.
use mathlib.Core.Path.{◌≡◌, refl}
use mathlib.Core.List.{List, [], ◌∷◌}
use Prim.Native.Nat.{ℕ}
use Rattle.runs.specs.Slots.{equal_slots}
use Rattle.runs.specs.Lines.{power}
use Rattle.runs.specs.Nodes.{trees, tree_by, tree_to, tree, depth, visits, lines_to}
use Rattle.image_bytes.specs.Bytes.{word_at, words}
use Rattle.schedule.specs.Said.{bus_ok, said}
use Rattle.rows.specs.Tests.{tag_ok, room_ok, node_length_ok, length_ok, starts_ok, plain_ok, access_ok, block_ok, loop_ok, node_value_ok, value_ok, below, children_ok, entry_ok}
use Rattle.image.specs.Judged.{field_of, end_of, scan_from, scan, whole_of, judged}
use Rattle.rows.specs.Fields.{field_at}
use Rattle.nodes.specs.Nodes.{node_from, meant, node_at}
use Rattle.edits.specs.Edits.{Change, done, with_durations, found, change, image_after}
use Rattle.edits.specs.Promise.{Editable}
use Rattle.edits.proofs.Finds.{when_found}

-- the arms stand at 10 and 17, the branch at 24; the image has 31 bytes
abbrev pub arms : ℕ → ℕ → List ℕ
arms first second = 1 ∷ 0 ∷ 3 ∷ 2 ∷ 5 ∷ 0 ∷ 2 ∷ 0 ∷ 1 ∷ 9 ∷ 3 ∷ 0 ∷ 4 ∷ 0 ∷ first ∷ 0 ∷ first ∷ 3 ∷ 0 ∷ 4 ∷ 0 ∷ second ∷ 0 ∷ second ∷ 6 ∷ 0 ∷ 4 ∷ 0 ∷ 0 ∷ 0 ∷ 1 ∷ []

record Worked : Type 0 where
  is_done : change (arms 3 7) 1 8 8 ≡ done
  first_arm : image_after (arms 3 7) 0 8 8 ≡ arms 8 7
  second_arm : image_after (arms 3 7) 1 8 8 ≡ arms 3 8
  unaccepted : change (5 ∷ arms 3 7) 9 8 7 ≡ Change.refused 2 0
  no_node : change (arms 3 7) 3 8 8 ≡ Change.refused 19 31
  branch : change (arms 3 7) 2 8 8 ≡ Change.refused 19 31
  block_first : change (arms 3 7) 2 8 7 ≡ Change.refused 19 31
  reversed : change (arms 3 7) 1 8 7 ≡ Change.refused 5 17
  near : change (arms 3 7) 1 0 63 ≡ done
  apart : change (arms 3 7) 1 0 64 ≡ Change.refused 5 17
  most : change (arms 3 7) 0 65535 65535 ≡ done
  above : change (arms 3 7) 0 65536 65536 ≡ Change.refused 5 10
  untouched : image_after (arms 3 7) 1 8 7 ≡ arms 3 7

worked : Worked
unfolding word_at words tag_ok room_ok node_length_ok length_ok bus_ok said starts_ok plain_ok access_ok block_ok loop_ok node_value_ok value_ok below children_ok entry_ok field_of field_at node_from meant node_at trees tree_by tree_to tree depth visits power lines_to end_of scan_from scan whole_of judged equal_slots with_durations found
worked = record {
  is_done = refl;
  first_arm = refl;
  second_arm = refl;
  unaccepted = refl;
  no_node = refl;
  branch = refl;
  block_first = refl;
  reversed = refl;
  near = refl;
  apart = refl;
  most = refl;
  above = refl;
  untouched = refl;
}

-- so there are possible edits
possible : Editable (arms 3 7) 1 8 8
unfolding word_at words tag_ok room_ok node_length_ok length_ok bus_ok said starts_ok plain_ok access_ok block_ok loop_ok node_value_ok value_ok below children_ok entry_ok field_of field_at node_from meant node_at trees tree_by tree_to tree depth visits power lines_to end_of scan_from scan whole_of judged equal_slots found
possible = when_found (arms 3 7) 1 8 8 17 refl
