-- Worked images of documents 01 and 02, by computation from the definitions.
use mathlib.Core.Path.{◌≡◌, refl}
use mathlib.Core.List.{List, [], ◌∷◌, ◌++◌}
use Prim.Native.Nat.{ℕ}
use Rattle.runs.specs.Slots.{equal_slots}
use Rattle.runs.specs.Schedules.{total, owns, any, last_of, owns_next, owning}
use Rattle.runs.specs.Lines.{power}
use Rattle.runs.specs.Nodes.{trees, tree_by, tree_to, tree, depth, visits, lines_to}
use Rattle.image_bytes.specs.Bytes.{word_at, words}
use Rattle.schedule.specs.Said.{bus_ok, turns_at, turns_ok, has_pair, schedule_ok, said}
use Rattle.rows.specs.Tests.{tag_ok, room_ok, node_length_ok, length_ok, starts_ok, plain_ok, access_ok, block_ok, once_ok, loop_ok, node_value_ok, value_ok, below, children_ok, entry_ok}
use Rattle.image.specs.Judged.{field_of, end_of, scan_from, scan, whole_of, judged, refused, numbered}
use Rattle.rows.specs.Fields.{field_at}
use Rattle.nodes.specs.Nodes.{node_from, meant, node_at}
use Rattle.std.specs.Prelude.{Ok}

-- "An empty image gives 7 at place 0"; one byte is a cut head.
empty : numbered [] ≡ refused 7 "unfinished" 0
unfolding end_of scan_from scan whole_of judged
empty = refl

one : numbered (255 ∷ []) ≡ refused 1 "cut" 0
unfolding end_of scan_from scan whole_of judged field_of
one = refl

-- A2 twice from {3, 5}
abbrev front : List ℕ
front = 1 ∷ 0 ∷ 3 ∷ 2 ∷ 5 ∷ 0 ∷ 2 ∷ 0 ∷ 2 ∷ 3 ∷ 5 ∷ 4 ∷ 0 ∷ 3 ∷ 2 ∷ 2 ∷ 2 ∷ []

twice : judged (front ++ 5 ∷ 0 ∷ 4 ∷ 0 ∷ 0 ∷ 0 ∷ 0 ∷ [])
    ≡ Ok (record { period = 10; starts = 2; lines = 0; sets = 1; nodes = 2; entry = 1 })
unfolding word_at words tag_ok room_ok node_length_ok length_ok bus_ok starts_ok plain_ok access_ok block_ok once_ok loop_ok node_value_ok value_ok below children_ok entry_ok field_of said equal_slots field_at node_from meant node_at trees tree_by tree_to tree depth visits power lines_to end_of scan_from scan whole_of judged
twice = refl

-- "16 cores × slot 16 is accepted, 16 × 17 gives 5"; the first ends after its bus.
square : numbered (1 ∷ 0 ∷ 3 ∷ 16 ∷ 16 ∷ 0 ∷ []) ≡ refused 7 "unfinished" 6
unfolding word_at tag_ok room_ok node_length_ok length_ok bus_ok node_value_ok value_ok children_ok entry_ok field_of said end_of scan_from scan whole_of judged
square = refl

wide : numbered (1 ∷ 0 ∷ 3 ∷ 16 ∷ 17 ∷ 0 ∷ []) ≡ refused 5 "value" 0
unfolding word_at tag_ok room_ok node_length_ok length_ok bus_ok node_value_ok value_ok field_of end_of scan_from scan whole_of judged
wide = refl

-- a child equal to the node's own number gives 6
self : numbered (front ++ 5 ∷ 0 ∷ 2 ∷ 0 ∷ 1 ∷ []) ≡ refused 6 "forward" 17
unfolding word_at tag_ok room_ok node_length_ok length_ok bus_ok starts_ok plain_ok access_ok block_ok once_ok loop_ok node_value_ok value_ok below children_ok entry_ok field_of said equal_slots end_of scan_from scan whole_of judged
self = refl

-- W3: a loop of 10,000 over A2, tested by A2 too, has 1 + 10,000 × (1 + 1) + 1 = 20,002 visits; a loop of n over that, tested by A2, 1 + n × (20,002 + 1) + 1:
-- 80,014 are accepted, 100,017 give 9
abbrev loop : ℕ → ℕ → ℕ → ℕ → List ℕ
loop high low body test = 7 ∷ 0 ∷ 8 ∷ 0 ∷ 0 ∷ high ∷ low ∷ 0 ∷ body ∷ 0 ∷ test ∷ []

abbrev loops : ℕ → List ℕ
loops n = front ++ loop 39 16 0 0 ++ loop 0 n 1 0

four_times : judged (loops 4) ≡ Ok (record { period = 10; starts = 2; lines = 0; sets = 1; nodes = 3; entry = 2 })
unfolding word_at words tag_ok room_ok node_length_ok length_ok bus_ok starts_ok plain_ok access_ok block_ok once_ok loop_ok node_value_ok value_ok below children_ok entry_ok field_of said equal_slots field_at node_from meant node_at trees tree_by tree_to tree depth visits power lines_to end_of scan_from scan whole_of judged
four_times = refl

five_times : numbered (loops 5) ≡ refused 9 "long" 39
unfolding word_at words tag_ok room_ok node_length_ok length_ok bus_ok starts_ok plain_ok access_ok block_ok once_ok loop_ok node_value_ok value_ok below children_ok entry_ok field_of said equal_slots field_at node_from meant node_at trees tree_by tree_to tree depth visits power lines_to end_of scan_from scan whole_of judged
five_times = refl

-- a body of 100,017 visits that is never executed costs nothing, but a test is executed once
never : judged (loops 5 ++ loop 0 0 2 0) ≡ Ok (record { period = 10; starts = 2; lines = 0; sets = 1; nodes = 4; entry = 3 })
unfolding word_at words tag_ok room_ok node_length_ok length_ok bus_ok starts_ok plain_ok access_ok block_ok once_ok loop_ok node_value_ok value_ok below children_ok entry_ok field_of said equal_slots field_at node_from meant node_at trees tree_by tree_to tree depth visits power lines_to end_of scan_from scan whole_of judged
never = refl

once : numbered (loops 5 ++ loop 0 0 0 2) ≡ refused 9 "long" 50
unfolding word_at words tag_ok room_ok node_length_ok length_ok bus_ok starts_ok plain_ok access_ok block_ok once_ok loop_ok node_value_ok value_ok below children_ok entry_ok field_of said equal_slots field_at node_from meant node_at trees tree_by tree_to tree depth visits power lines_to end_of scan_from scan whole_of judged
once = refl

-- "Tag 7 now has body length 8"; least above greatest gives 5 before either child number gives 6
six_bytes : numbered (front ++ 7 ∷ 0 ∷ 6 ∷ 0 ∷ 0 ∷ 0 ∷ 9 ∷ 0 ∷ 0 ∷ []) ≡ refused 4 "length" 17
unfolding word_at tag_ok room_ok node_length_ok length_ok bus_ok starts_ok plain_ok access_ok block_ok once_ok loop_ok node_value_ok value_ok below children_ok entry_ok field_of said equal_slots end_of scan_from scan whole_of judged
six_bytes = refl

counts_first : numbered (front ++ 7 ∷ 0 ∷ 8 ∷ 0 ∷ 1 ∷ 0 ∷ 0 ∷ 0 ∷ 1 ∷ 0 ∷ 1 ∷ []) ≡ refused 5 "value" 17
unfolding word_at tag_ok room_ok node_length_ok length_ok bus_ok starts_ok plain_ok access_ok block_ok once_ok loop_ok node_value_ok value_ok below children_ok entry_ok field_of said equal_slots end_of scan_from scan whole_of judged
counts_first = refl

own_body : numbered (front ++ loop 0 1 1 0) ≡ refused 6 "forward" 17
unfolding word_at tag_ok room_ok node_length_ok length_ok bus_ok starts_ok plain_ok access_ok block_ok once_ok loop_ok node_value_ok value_ok below children_ok entry_ok field_of said equal_slots end_of scan_from scan whole_of judged
own_body = refl

own_test : numbered (front ++ loop 0 1 0 1) ≡ refused 6 "forward" 17
unfolding word_at tag_ok room_ok node_length_ok length_ok bus_ok starts_ok plain_ok access_ok block_ok once_ok loop_ok node_value_ok value_ok below children_ok entry_ok field_of said equal_slots end_of scan_from scan whole_of judged
own_test = refl

-- W1: the same images, closed by a field that names the loop of 10,000, whatever stands behind it; number 3 is no node's, nor is there another field
abbrev naming : ℕ → List ℕ
naming n = 8 ∷ 0 ∷ 2 ∷ 0 ∷ n ∷ []

inner : judged (loops 5 ++ naming 1) ≡ Ok (record { period = 10; starts = 2; lines = 0; sets = 1; nodes = 3; entry = 1 })
unfolding word_at words tag_ok room_ok node_length_ok length_ok bus_ok starts_ok plain_ok access_ok block_ok once_ok loop_ok node_value_ok value_ok below children_ok entry_ok field_of said equal_slots field_at node_from meant node_at trees tree_by tree_to tree depth visits power lines_to end_of scan_from scan whole_of judged
inner = refl

outer : numbered (loops 5 ++ naming 2) ≡ refused 9 "long" 44
unfolding word_at words tag_ok room_ok node_length_ok length_ok bus_ok starts_ok plain_ok access_ok block_ok once_ok loop_ok node_value_ok value_ok below children_ok entry_ok field_of said equal_slots field_at node_from meant node_at trees tree_by tree_to tree depth visits power lines_to end_of scan_from scan whole_of judged
outer = refl

no_node : numbered (loops 5 ++ naming 3) ≡ refused 11 "entry" 39
unfolding word_at words tag_ok room_ok node_length_ok length_ok bus_ok starts_ok plain_ok access_ok block_ok once_ok loop_ok node_value_ok value_ok below children_ok entry_ok field_of said equal_slots field_at node_from meant node_at trees tree_by tree_to tree depth visits power lines_to end_of scan_from scan whole_of judged
no_node = refl

again : numbered (loops 4 ++ naming 1 ++ naming 1) ≡ refused 2 "tag" 44
unfolding word_at words tag_ok room_ok node_length_ok length_ok bus_ok starts_ok plain_ok access_ok block_ok once_ok loop_ok node_value_ok value_ok below children_ok entry_ok field_of said equal_slots field_at node_from meant node_at trees tree_by tree_to tree depth visits power lines_to end_of scan_from scan whole_of judged
again = refl

early : numbered (1 ∷ 0 ∷ 3 ∷ 2 ∷ 5 ∷ 0 ∷ 2 ∷ 0 ∷ 1 ∷ 0 ∷ naming 0) ≡ refused 2 "tag" 10
unfolding word_at words tag_ok room_ok node_length_ok length_ok bus_ok starts_ok plain_ok access_ok block_ok once_ok loop_ok node_value_ok value_ok below children_ok entry_ok field_of said equal_slots field_at node_from meant node_at trees tree_by tree_to tree depth visits power lines_to end_of scan_from scan whole_of judged
early = refl

-- W9: a block with line 1 gives two lines, so four sets; with line 2 a period of 256 gives 256 × 8 places, which is 18.
fetched : judged (front ++ 10 ∷ 0 ∷ 5 ∷ 1 ∷ 2 ∷ 3 ∷ 0 ∷ 9 ∷ [])
    ≡ Ok (record { period = 10; starts = 2; lines = 2; sets = 4; nodes = 2; entry = 1 })
unfolding word_at words tag_ok room_ok node_length_ok length_ok bus_ok starts_ok plain_ok access_ok block_ok once_ok loop_ok node_value_ok value_ok below children_ok entry_ok field_of said equal_slots field_at node_from meant node_at trees tree_by tree_to tree depth visits power lines_to end_of scan_from scan whole_of judged
fetched = refl

eighteen : numbered (1 ∷ 0 ∷ 3 ∷ 2 ∷ 128 ∷ 0 ∷ 2 ∷ 0 ∷ 1 ∷ 0 ∷ 10 ∷ 0 ∷ 5 ∷ 2 ∷ 1 ∷ 1 ∷ 0 ∷ 1 ∷ []) ≡ refused 18 "lines" 18
unfolding word_at words tag_ok room_ok node_length_ok length_ok bus_ok starts_ok plain_ok access_ok block_ok once_ok loop_ok node_value_ok value_ok below children_ok entry_ok field_of said equal_slots field_at node_from meant node_at trees tree_by tree_to tree depth visits power lines_to end_of scan_from scan whole_of judged
eighteen = refl

-- W5: core 0 has slots of 2, 2 and 1 in a period of 10, of which the last joins the first: an access of 3 cycles is accepted, one of 4 gives 5.
abbrev round : ℕ → List ℕ
round e = 9 ∷ 0 ∷ 11 ∷ 0 ∷ 0 ∷ 2 ∷ 1 ∷ 3 ∷ 0 ∷ 2 ∷ 1 ∷ 2 ∷ 0 ∷ 1 ∷ 2 ∷ 0 ∷ 1 ∷ 9 ∷ 4 ∷ 0 ∷ 3 ∷ 2 ∷ e ∷ e ∷ []

three : judged (round 3) ≡ Ok (record { period = 10; starts = 1; lines = 0; sets = 1; nodes = 1; entry = 0 })
unfolding word_at words tag_ok room_ok node_length_ok length_ok turns_at turns_ok has_pair schedule_ok total owns any last_of owns_next owning starts_ok access_ok block_ok node_value_ok value_ok below children_ok entry_ok field_of said field_at node_from meant node_at trees tree_by tree_to tree depth visits power lines_to end_of scan_from scan whole_of judged
three = refl

four : numbered (round 4) ≡ refused 5 "value" 18
unfolding word_at tag_ok room_ok node_length_ok length_ok turns_at turns_ok has_pair schedule_ok total owns any last_of owns_next owning starts_ok access_ok block_ok node_value_ok value_ok below children_ok entry_ok field_of said end_of scan_from scan whole_of judged
four = refl

-- a sum of 256 is accepted, one of 257 gives 5, and so does an analysed core without a pair; each ends after its bus
abbrev pair : ℕ → ℕ → List ℕ
pair core last = 9 ∷ 0 ∷ 7 ∷ core ∷ 0 ∷ 128 ∷ 15 ∷ 127 ∷ 0 ∷ last ∷ []

sum_256 : numbered (pair 15 1) ≡ refused 7 "unfinished" 10
unfolding word_at tag_ok room_ok node_length_ok length_ok turns_at turns_ok has_pair schedule_ok total node_value_ok value_ok children_ok entry_ok field_of end_of scan_from scan whole_of judged
sum_256 = refl

sum_257 : numbered (pair 15 2) ≡ refused 5 "value" 0
unfolding word_at tag_ok room_ok node_length_ok length_ok turns_at turns_ok has_pair schedule_ok total node_value_ok value_ok field_of end_of scan_from scan whole_of judged
sum_257 = refl

no_pair : numbered (pair 1 1) ≡ refused 5 "value" 0
unfolding word_at tag_ok room_ok node_length_ok length_ok turns_at turns_ok has_pair schedule_ok total node_value_ok value_ok field_of end_of scan_from scan whole_of judged
no_pair = refl
