-- Worked tables, and an image whose tight figure may be a time, worked out from the definitions.
use mathlib.Core.Path.{◌≡◌, refl}
use mathlib.Core.Option.{none, some}
use mathlib.Core.List.{List, [], ◌∷◌, ◌++◌}
use lib.ListN.{replicate}
use native.Mathlib.Omega.{arith}
use Prim.Native.Nat.{ℕ}
use Rattle.runs.specs.Slots.{equal_slots, equation7}
use Rattle.runs.specs.Lines.{power}
use Rattle.runs.specs.Clock.{with_lines}
use Rattle.runs.specs.Nodes.{trees, tree_by, tree_to, tree, depth, visits, lines_to}
use Rattle.runs.specs.Carried.{carried}
use Rattle.runs.specs.Figures.{start_times, start_set, longer, later, longest_of, at_offsets, cost, entry_of, held, sum}
use Rattle.image_bytes.specs.Bytes.{word_at, words, bytes}
use Rattle.schedule.specs.Said.{bus_ok, said}
use Rattle.rows.specs.Tests.{tag_ok, room_ok, node_length_ok, length_ok, starts_ok, plain_ok, access_ok, block_ok, loop_ok, node_value_ok, value_ok, below, children_ok, entry_ok}
use Rattle.image.specs.Judged.{field_of, end_of, scan_from, scan, whole_of, judged}
use Rattle.rows.specs.Fields.{field_at}
use Rattle.nodes.specs.Nodes.{node_from, meant, node_at}
use Rattle.image.specs.declared.Outline.{Outline}
use Rattle.graph.specs.Graph.{finish}
use Rattle.graph.specs.Table.{graph_of, refused_at}
use Rattle.graph.specs.Images.{Quoted}
use Rattle.graph.proofs.OnTheBus.{lists_every}

-- a task's row: core, time, how many it waits for, and 8 places
abbrev task : ℕ → ℕ → ℕ → ℕ → ℕ → List ℕ
task core time count a b = core ∷ time ∷ count ∷ a ∷ b ∷ 0 ∷ 0 ∷ 0 ∷ 0 ∷ 0 ∷ 0 ∷ []

-- The position fix (task 0, core 0, 10 cycles), a beacon that waits for it (core 1, 5), a second task of core 0 (7) and one of core 1 that
-- waits for both of those (1).
abbrev beacon : List ℕ
beacon = task 0 10 0 0 0 ++ (task 1 5 1 0 0 ++ (task 0 7 0 0 0 ++ task 1 1 2 2 1))

record Worked : Type 0 where
  fix : finish (graph_of beacon) 0 ≡ 10
  after_fix : finish (graph_of beacon) 1 ≡ 15
  on_its_core : finish (graph_of beacon) 2 ≡ 17
  largest_not_last : finish (graph_of beacon) 3 ≡ 18
  accepted : refused_at beacon ≡ none
  empty : refused_at [] ≡ some 0
  cut : refused_at (0 ∷ beacon) ≡ some 0
  itself : refused_at (task 0 10 0 0 0 ++ task 0 1 1 1 0) ≡ some 1
  core_16 : refused_at (task 15 10 0 0 0 ++ task 16 1 0 0 0) ≡ some 1
  nine : refused_at (task 0 10 9 0 0) ≡ some 0
  time_over : refused_at (task 0 6553500001 0 0 0) ≡ some 0
  time_most : refused_at (task 0 6553500000 0 0 0) ≡ none

worked : Worked
unfolding finish refused_at
worked = record {
  fix = refl;
  after_fix = refl;
  on_its_core = refl;
  largest_not_last = refl;
  accepted = refl;
  empty = refl;
  cut = refl;
  itself = refl;
  core_16 = refl;
  nine = refl;
  time_over = refl;
  time_most = refl;
}

-- "A2 from all ten offsets": an access of 2 cycles takes at most 8, from wherever it begins. Such images there are.
abbrev a2 : List ℕ
a2 = 1 ∷ 0 ∷ 3 ∷ 2 ∷ 5 ∷ 0 ∷ 2 ∷ 0 ∷ 10 ∷ 0 ∷ 1 ∷ 2 ∷ 3 ∷ 4 ∷ 5 ∷ 6 ∷ 7 ∷ 8 ∷ 9 ∷ 4 ∷ 0 ∷ 3 ∷ 2 ∷ 2 ∷ 2 ∷ []

abbrev kept : Outline
kept = record { period = 10; starts = 10; lines = 0; sets = 1; nodes = 1; entry = 0 }

quoted : Quoted a2 kept 8
unfolding word_at words bytes tag_ok room_ok node_length_ok length_ok bus_ok said starts_ok plain_ok access_ok block_ok loop_ok node_value_ok value_ok below children_ok entry_ok field_of field_at node_from meant node_at trees tree_by tree_to tree depth visits power lines_to end_of scan_from scan whole_of judged equal_slots equation7 with_lines carried start_times start_set longer later longest_of at_offsets cost entry_of held sum
quoted = record {
  accepted = refl;
  every = lists_every a2 kept refl refl;
  lent = replicate 10 0;
  tight = 8;
  published = 8;
  exits = 4;
  figure = refl;
  covers = omega arith;
}
