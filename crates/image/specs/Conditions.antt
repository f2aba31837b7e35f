-- Numbers 1 to 9 of "When no figure is given" of document 01, 11 of W1 and 18 of W9, row by row: when an image is refused, for what and at which
-- place. No order of steps is in it: each condition names what comes before it. proofs/Reasons.antt proves that the verdict is a
-- refusal for r at a place if and only if `Condition s r place`. Definitions only.
use Rattle.std.specs.Prelude.{◌≡◌, List, ℕ, suc, ◌+◌, ◌-◌, ◌*◌, ◌≤◌, ◌<◌, length}
use Rattle.image_bytes.specs.Bytes.{word_at}
use Rattle.runs.specs.Lines.{power}
use Rattle.runs.specs.Nodes.{depth, visits}
use Rattle.schedule.specs.Said.{said}
use Rattle.rows.specs.Rules.{TagRule, RoomRule, LengthRule, ValueRule, ChildRule, EntryRule}
use Rattle.rows.specs.Fields.{field_at, tag_at, length_at, body_at, closed_at, UpToHead, UpToTag, UpToRoom, UpToLength, UpToBody, UpToValue, Passed}
use Rattle.nodes.specs.Nodes.{lines_of, tree_at}
use Rattle.image.specs.declared.Outline.{Outline}
use Rattle.refusals.specs.declared.Refusal.{Refusal}
use Rattle.refusals.specs.declared.Refusal.TheVariants.{Cut, Tag, Full, Length, Value, Forward, Unfinished, Deep, Long, Entry, Lines}

-- the n fields from the front are good, and they fill the image
pub record Complete (s : List ℕ) (n : ℕ) : Type 0 where
  pub passed : Passed s n
  pub ends : field_at s n ≡ length s

-- the good fields that fill the image are those of the bus, the starts and so many nodes, and "The last node is the entry"; or one with tag 8 closes it and
-- "holds the entry's node number" (W1)
pub data Ending (s : List ℕ) (nodes entry : ℕ) : Type 0 where
  last : Complete s (nodes + 2) → (tag_at s (nodes + 1) ≡ 8 → ⊥) → nodes ≡ suc entry → Ending s nodes entry
  named : Complete s (nodes + 3) → tag_at s (nodes + 2) ≡ 8 → entry ≡ word_at s (body_at s (nodes + 2)) → Ending s nodes entry

pub data Condition (s : List ℕ) : Refusal → ℕ → Type 0 where
  -- 1: "1 or 2 bytes left where a field's head should stand"
  head_cut : (k : ℕ) → Passed s k → field_at s k < length s → length s < field_at s k + 3 → Condition s Cut (field_at s k)
  -- 2: "the first field's tag is not 1, the second's not 2, or a later one's not 3 to 7", nor 8 of W1, 9 of W5 and 10 of W9; or the field stands behind tag 8
  wrong_tag : (k : ℕ) → Passed s k → UpToHead s k → (TagRule k (closed_at s k) (tag_at s k) → ⊥) → Condition s Tag (field_at s k)
  -- 3: "a 257th node field"
  one_more : (k : ℕ) → Passed s k → UpToTag s k → (RoomRule k (tag_at s k) → ⊥) → Condition s Full (field_at s k)
  -- 4: "body length not in the tag's row"
  wrong_length : (k : ℕ) → Passed s k → UpToRoom s k → (LengthRule (tag_at s k) (length_at s k) → ⊥) → Condition s Length (field_at s k)
  -- 1: "fewer bytes left than its length for its body"
  body_cut : (k : ℕ) → Passed s k → UpToLength s k → length s < body_at s k + length_at s k → Condition s Cut (field_at s k)
  -- 5: "a number that breaks its row's rules, order and products included; child numbers are left to 6"
  wrong_value : (k : ℕ) → Passed s k → UpToBody s k → (ValueRule s (tag_at s k) (body_at s k) (length_at s k) → ⊥) → Condition s Value (field_at s k)
  -- 6: "a child number not below the node's own"
  not_below : (k : ℕ) → Passed s k → UpToValue s k → (ChildRule s (tag_at s k) (body_at s k) (length_at s k) (k - 2) → ⊥) → Condition s Forward (field_at s k)
  -- 11 (W1): "the number in tag 8 is not that of a node, judged and placed in that field as 5 is"; k - 2 nodes stand before it
  no_entry : (k : ℕ) → Passed s k → UpToValue s k → (EntryRule s (tag_at s k) (body_at s k) (k - 2) → ⊥) → Condition s Entry (field_at s k)
  -- 7: "the image ends, between fields, before a node field"
  no_node : (n : ℕ) → Complete s n → n < 3 → Condition s Unfinished (length s)
  -- 8: "entry's depth above 24", of an image of n nodes
  too_deep : (n entry : ℕ) → Ending s n entry → 24 < depth (tree_at s entry) → Condition s Deep (length s)
  -- 9: "entry's visits above 100,000"
  too_long : (n entry : ℕ) → Ending s n entry → depth (tree_at s entry) ≤ 24 → 100000 < visits (tree_at s entry) → Condition s Long (length s)
  -- 18 (W9): "period × 2 to the number of lines exceeds 1,024, judged after 9 and before 10, with the image's length as place"
  too_wide : (n entry : ℕ) → Ending s n entry → depth (tree_at s entry) ≤ 24 → visits (tree_at s entry) ≤ 100000
      → 1024 < (said s).period * power (lines_of s n) → Condition s Lines (length s)

-- "an image is accepted when none holds": the good fields fill it, and the nodes, the entry and the task are what they say
pub record Accepting (s : List ℕ) (t : Outline) : Type 0 where
  pub ending : Ending s t.nodes t.entry
  pub shallow : depth (tree_at s t.entry) ≤ 24
  pub short : visits (tree_at s t.entry) ≤ 100000
  pub period : t.period ≡ (said s).period
  pub starts : t.starts ≡ length_at s 1
  pub lines : t.lines ≡ lines_of s t.nodes
  pub sets : t.sets ≡ power t.lines
  pub narrow : t.period * t.sets ≤ 1024

-- the longest valid image: 68 bytes for a bus of 32 pairs (W5), 259 for the starts, 8 for node 0, a block of tag 10 (W9), 35 for each of 255 more nodes,
-- and 5 for the field that names the entry (W1) (`longest` of proofs/Longest.antt)
abbrev pub longest_image : ℕ
longest_image = 9265
