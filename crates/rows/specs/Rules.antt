-- The rules of the rows: the table in "The task image" of document 01, and the rows that document 02 adds (8 of W1, 9 of W5, 10 of W9) or alters (7, W3), in
-- plain terms.
-- Numbers 2 to 6 and 11 say which rule a field breaks (specs/Conditions.antt of crate image); that the tests of specs/Tests.antt are true if and only if
-- these rules hold is proofs/Rules.antt. Definitions only.
use Rattle.std.specs.Prelude.{◌≡◌, ◌⊎◌, Bool, false, List, ℕ, ◌+◌, ◌-◌, ◌*◌, ◌/◌, ◌≤◌, ◌<◌}
use Rattle.bus.specs.Waits.{Ranges}
use Rattle.image_bytes.specs.Bytes.{byte_at, word_at}
use Rattle.schedule.specs.Said.{schedule_of, said, Scheduled}

-- 2: "Field 1 comes first, field 2 second, then 1 to 256 node fields (tags 3 to 7)"; tag 9 may stand "in place of tag 1" (W5), and 10 is a node's (W9).
-- W1: tag 8 "may close the image after at least one node field", and "A field after it has the wrong tag." The field has `index` fields before it, and `closed`
-- is true where the last of them has tag 8
pub data TagRule (index : ℕ) (closed : Bool) (tag : ℕ) : Type 0 where
  bus : index ≡ 0 → tag ≡ 1 → TagRule index closed tag
  schedule : index ≡ 0 → tag ≡ 9 → TagRule index closed tag
  starts : index ≡ 1 → tag ≡ 2 → TagRule index closed tag
  node : 2 ≤ index → closed ≡ false → 3 ≤ tag → tag ≤ 7 → TagRule index closed tag
  once : 2 ≤ index → closed ≡ false → tag ≡ 10 → TagRule index closed tag
  entry : 3 ≤ index → closed ≡ false → tag ≡ 8 → TagRule index closed tag

-- 3: no "257th node field", which would have 258 fields before it; one with tag 8 is no node's
pub data RoomRule (index tag : ℕ) : Type 0 where
  room : index < 258 → RoomRule index tag
  entry : tag ≡ 8 → RoomRule index tag

abbrev pub IsEven : ℕ → Type 0
IsEven n = (m : ℕ) × (n ≡ 2 * m)

abbrev pub IsOdd : ℕ → Type 0
IsOdd n = (m : ℕ) × (n ≡ 1 + 2 * m)

-- 4: "Body length", row by row; "Tag 7 now has body length 8" (W3)
pub data LengthRule (tag n : ℕ) : Type 0 where
  bus : tag ≡ 1 → n ≡ 3 → LengthRule tag n
  starts : tag ≡ 2 → 1 ≤ n → n ≤ 256 → LengthRule tag n
  plain : tag ≡ 3 → n ≡ 4 → LengthRule tag n
  block : tag ≡ 4 → n ≡ 3 → LengthRule tag n
  sequence : tag ≡ 5 → 2 ≤ n → n ≤ 32 → IsEven n → LengthRule tag n
  branch : tag ≡ 6 → 4 ≤ n → n ≤ 16 → IsEven n → LengthRule tag n
  loop : tag ≡ 7 → n ≡ 8 → LengthRule tag n
  entry : tag ≡ 8 → n ≡ 2 → LengthRule tag n
  schedule : tag ≡ 9 → 3 ≤ n → n ≤ 65 → IsOdd n → LengthRule tag n
  once : tag ≡ 10 → n ≡ 5 → LengthRule tag n

-- row 2: "start offsets, one byte each, strictly ascending, each below P": n of them from a place on
pub record Starts (s : List ℕ) (place n period : ℕ) : Type 0 where
  pub low : (i : ℕ) → i < n → byte_at s (place + i) < period
  pub ascend : (i j : ℕ) → i < j → j < n → byte_at s (place + i) < byte_at s (place + j)

-- row 3: "0 to 65,535, lowest ≤ highest, difference at most 63"
pub record Durations (lowest highest : ℕ) : Type 0 where
  pub most : highest ≤ 65535
  pub order : lowest ≤ highest
  pub near : highest - lowest ≤ 63

-- rows 4 and 10: "one byte each, 1 ≤ lowest ≤ highest ≤ slot"; with W5 the longest access of the bus, which of equal slots is the slot
pub record Accesses (lowest highest longest : ℕ) : Type 0 where
  pub some : 1 ≤ lowest
  pub order : lowest ≤ highest
  pub most : highest ≤ longest
  pub byte : highest ≤ 255

-- row 7: "least ≤ greatest ≤ 10,000"
pub record LoopCounts (least greatest : ℕ) : Type 0 where
  pub order : least ≤ greatest
  pub most : greatest ≤ 10000

-- row 10: "a line number 0 to 3, lowest and highest bus duration as in tag 4, and a two-byte hit time"
pub record Fetches (line lowest highest hit longest : ℕ) : Type 0 where
  pub line_most : line ≤ 3
  pub access : Accesses lowest highest longest
  pub hit_most : hit ≤ 65535

-- 5: the numbers of the body of n bytes at a place, row by row; of rows 5 and 6 there is none, since "child numbers are left to 6", and
-- the one of row 8 is left to 11
pub data ValueRule (s : List ℕ) (tag body n : ℕ) : Type 0 where
  -- "cores 2 to 16, slot 1 to 128, core number below cores, one byte each; cores × slot at most 256"
  bus : tag ≡ 1 → Ranges (record { cores = byte_at s body; slot = byte_at s (body + 1); core = byte_at s (body + 2) }) → ValueRule s tag body n
  starts : tag ≡ 2 → Starts s body n (said s).period → ValueRule s tag body n
  plain : tag ≡ 3 → Durations (word_at s body) (word_at s (body + 2)) → ValueRule s tag body n
  -- "kind (1 may access, 2 always accesses)"
  block : tag ≡ 4 → (byte_at s body ≡ 1) ⊎ (byte_at s body ≡ 2) → Accesses (byte_at s (body + 1)) (byte_at s (body + 2)) (said s).most → ValueRule s tag body n
  children : 5 ≤ tag → tag ≤ 6 → ValueRule s tag body n
  loop : tag ≡ 7 → LoopCounts (word_at s body) (word_at s (body + 2)) → ValueRule s tag body n
  entry : tag ≡ 8 → ValueRule s tag body n
  -- W5: pairs "of core (0 to 15) and slot length (1 to 128)", a sum of at most 256, and one of them the analysed core's
  schedule : tag ≡ 9 → Scheduled (schedule_of s body n) → ValueRule s tag body n
  once : tag ≡ 10 → Fetches (byte_at s body) (byte_at s (body + 1)) (byte_at s (body + 2)) (word_at s (body + 3)) (said s).most → ValueRule s tag body n

-- the n child numbers from a place on, two bytes each, are below that of the node naming them
abbrev pub NamesBelow : List ℕ → ℕ → ℕ → ℕ → Type 0
NamesBelow s place n own = (i : ℕ) → i < n → word_at s (place + 2 * i) < own

-- 6: "a child number not below the node's own": those that are the body of a sequence or a branch, and of a loop, behind "least, greatest", its
-- "body, and the child number of a test node" (W3)
pub record ChildRule (s : List ℕ) (tag body n own : ℕ) : Type 0 where
  pub children : 5 ≤ tag → tag ≤ 6 → NamesBelow s body (n / 2) own
  pub loop : tag ≡ 7 → NamesBelow s (body + 4) 2 own

-- 11 (W1): no "number in tag 8" that "is not that of a node", of which so many stand before it
abbrev pub EntryRule : List ℕ → ℕ → ℕ → ℕ → Type 0
EntryRule s tag body nodes = tag ≡ 8 → word_at s body < nodes
