-- The rows' tests, as the program makes them: each is true if and only if the rule of specs/Rules.antt holds (proofs/Rules.antt). Definitions only.
use Rattle.std.specs.Prelude.{Bool, true, false, cond, ◌&&◌, List, ℕ, zero, suc, ◌+◌, ◌-◌, ◌/◌, ◌%◌, eqb, leb, ltb}
use Rattle.image_bytes.specs.Bytes.{byte_at, word_at}
use Rattle.schedule.specs.Said.{within, bus_ok, schedule_of, schedule_ok, said}

-- n is from low to high, and even where `odd` is 0, odd where it is 1
abbrev pub parity_within : ℕ → ℕ → ℕ → ℕ → Bool
parity_within odd low high n = within low high n && eqb (n % 2) odd

-- "Field 1 comes first, field 2 second, then 1 to 256 node fields (tags 3 to 7)", with W5 tag 9 "in place of tag 1", with W9 tag 10, and with W1
-- tag 8 once, "after at least one node field": the tag of the field with `index` fields before it, of which the last has tag 8 where `closed` is true
unfoldable pub tag_ok : ℕ → Bool → ℕ → Bool
tag_ok index closed tag =
    cond (eqb index 0) (cond (eqb tag 9) true (eqb tag 1))
    (cond (eqb index 1) (eqb tag 2)
    (cond closed false
    (cond (eqb tag 8) (leb 3 index)
    (cond (eqb tag 10) true (within 3 7 tag)))))

-- no "257th node field": the node fields are those from index 2 on, but for one with tag 8
unfoldable pub room_ok : ℕ → ℕ → Bool
room_ok index tag = cond (ltb index 258) true (eqb tag 8)

-- "Body length", row by row: of node tags, and of all
unfoldable pub node_length_ok : ℕ → ℕ → Bool
node_length_ok tag n =
    cond (eqb tag 3) (eqb n 4)
    (cond (eqb tag 4) (eqb n 3)
    (cond (eqb tag 5) (parity_within 0 2 32 n)
    (cond (eqb tag 6) (parity_within 0 4 16 n)
    (cond (eqb tag 7) (eqb n 8) false))))

unfoldable pub length_ok : ℕ → ℕ → Bool
length_ok tag n =
    cond (eqb tag 1) (eqb n 3)
    (cond (eqb tag 2) (within 1 256 n)
    (cond (within 3 7 tag) (node_length_ok tag n)
    (cond (eqb tag 8) (eqb n 2)
    (cond (eqb tag 9) (parity_within 1 3 65 n)
    (cond (eqb tag 10) (eqb n 5) false)))))

-- row 2: "start offsets, one byte each, strictly ascending, each below P": the n bytes from a place on, the first of them at least `least`
unfoldable pub starts_ok : List ℕ → ℕ → ℕ → ℕ → ℕ → Bool
starts_ok s place zero least period = true
starts_ok s place (suc n) least period =
    leb least (byte_at s place) && (ltb (byte_at s place) period && starts_ok s (place + 1) n (byte_at s place + 1) period)

-- row 3: "0 to 65,535, lowest ≤ highest, difference at most 63"
unfoldable pub plain_ok : ℕ → ℕ → Bool
plain_ok lowest highest = leb highest 65535 && (leb lowest highest && leb (highest - lowest) 63)

-- rows 4 and 10: "1 ≤ lowest ≤ highest ≤ slot", a byte each; with W5 up to "the longest such stretch"
unfoldable pub access_ok : ℕ → ℕ → ℕ → Bool
access_ok lowest highest most = leb 1 lowest && (leb lowest highest && (leb highest 255 && leb highest most))

-- row 4: "kind (1 may access, 2 always accesses)"
unfoldable pub block_ok : ℕ → ℕ → ℕ → ℕ → Bool
block_ok kind lowest highest most = within 1 2 kind && access_ok lowest highest most

-- row 7: "least ≤ greatest ≤ 10,000"
unfoldable pub loop_ok : ℕ → ℕ → Bool
loop_ok least greatest = leb least greatest && leb greatest 10000

-- row 10 (W9): "a line number 0 to 3, lowest and highest bus duration as in tag 4, and a two-byte hit time"
unfoldable pub once_ok : ℕ → ℕ → ℕ → ℕ → ℕ → Bool
once_ok line lowest highest hit most = leb line 3 && (leb hit 65535 && access_ok lowest highest most)

-- the rules for the body of n bytes that stands at a place: of node tags, where rows 5 and 6 have child numbers alone, "left to 6", and of all;
-- the number of row 8 is left to 11
unfoldable pub node_value_ok : List ℕ → ℕ → ℕ → Bool
node_value_ok s tag body =
    cond (eqb tag 3) (plain_ok (word_at s body) (word_at s (body + 2)))
    (cond (eqb tag 4) (block_ok (byte_at s body) (byte_at s (body + 1)) (byte_at s (body + 2)) (said s).most)
    (cond (within 5 6 tag) true
    (cond (eqb tag 7) (loop_ok (word_at s body) (word_at s (body + 2))) false)))

unfoldable pub value_ok : List ℕ → ℕ → ℕ → ℕ → Bool
value_ok s tag body n =
    cond (eqb tag 1) (bus_ok (byte_at s body) (byte_at s (body + 1)) (byte_at s (body + 2)))
    (cond (eqb tag 2) (starts_ok s body n 0 (said s).period)
    (cond (within 3 7 tag) (node_value_ok s tag body)
    (cond (eqb tag 8) true
    (cond (eqb tag 9) (schedule_ok (schedule_of s body n))
    (cond (eqb tag 10) (once_ok (byte_at s body) (byte_at s (body + 1)) (byte_at s (body + 2)) (word_at s (body + 3)) (said s).most) false)))))

-- the n child numbers from a place on are each below that of the node naming them; node i is the field with i + 2 fields before it
unfoldable pub below : List ℕ → ℕ → ℕ → ℕ → Bool
below s place zero index = true
below s place (suc n) index = ltb (word_at s place + 2) index && below s (place + 2) n index

-- rows 5 and 6: the body is child numbers; row 7: its third and its fourth number
unfoldable pub children_ok : List ℕ → ℕ → ℕ → ℕ → ℕ → Bool
children_ok s tag body n index =
    cond (within 5 6 tag) (below s body (n / 2) index)
    (cond (eqb tag 7) (below s (body + 4) 2 index) true)

-- row 8 (W1): the number is that of a node, which has fewer than `index` fields before it
unfoldable pub entry_ok : List ℕ → ℕ → ℕ → ℕ → Bool
entry_ok s tag body index = cond (eqb tag 8) (ltb (word_at s body + 2) index) true
