-- An edit of one plain block's durations (document 02, "Trying a change before making it"): the answer and the image at exit, over the image's
-- bytes. Definitions only.
use Rattle.std.specs.Prelude.{Bool, cond, ◌&&◌, List, length, set, eqb, ltb, ℕ, ◌+◌, ◌/◌, ◌%◌, Result, Ok, Err, ⊤}
use Rattle.rows.specs.Tests.{plain_ok}
use Rattle.rows.specs.Fields.{field_at, tag_at, body_at}
use Rattle.image.specs.Judged.{judged}
use Rattle.refusals.specs.Refusals.{number_of, refused_at}
use Rattle.refusals.specs.declared.Refusal.TheVariants.{Value, Block}
use Rattle.image.specs.declared.Outline.{Outline}
use Rattle.refusals.specs.declared.Refused.{Refused}

-- where the field of a node stands: node n has n + 2 fields before it
abbrev pub place_of : List ℕ → ℕ → ℕ
place_of s node = field_at s (node + 2)

-- an image whose four bytes from a place on are "lowest and highest duration, two bytes each", the high byte first
unfoldable pub with_durations : List ℕ → ℕ → ℕ → ℕ → List ℕ
with_durations s place lowest highest =
    set (set (set (set s place (lowest / 256)) (place + 1) (lowest % 256)) (place + 2) (highest / 256)) (place + 3) (highest % 256)

-- "sets those four bytes of the lent image to the given durations and alters no others": the body of the block's field
abbrev pub image_with : List ℕ → ℕ → ℕ → ℕ → List ℕ
image_with s node lowest highest = with_durations s (body_at s (node + 2)) lowest highest

-- not 19: the node exists, and its field's tag is that of a plain block
abbrev pub is_plain : List ℕ → Outline → ℕ → Bool
is_plain s k node = ltb node k.nodes && eqb (tag_at s (node + 2)) 3

-- "Unaccepted images are refused first, by their own numbers"; then 19, "with the image's length as place", "judged before that 5", and
-- 5 "at that block's field". Else the place of the field.
abbrev pub found_for : List ℕ → ℕ → ℕ → ℕ → Result Outline Refused → Result ℕ Refused
found_for s node lowest highest (Err e) = Err e
found_for s node lowest highest (Ok k) =
    cond (is_plain s k node)
    (cond (plain_ok lowest highest) (Ok (place_of s node)) (Err (refused_at Value (place_of s node))))
    (Err (refused_at Block (length s)))

-- the same, the image judged
unfoldable pub found : List ℕ → ℕ → ℕ → ℕ → Result ℕ Refused
found s node lowest highest = found_for s node lowest highest (judged s)

-- ---- the edit

-- its answer in the document's terms
pub data Change : Type 0 where
  done : Change
  refused : (number place : ℕ) → Change

-- of what `edit` answers
abbrev pub change_of : Result ⊤ Refused → Change
change_of (Ok _) = done
change_of (Err e) = refused (number_of e.refusal) e.place

-- of what is found
abbrev pub change_for : Result ℕ Refused → Change
change_for (Ok place) = done
change_for (Err e) = refused (number_of e.refusal) e.place

-- done, or refused with a number at a place
abbrev pub change : List ℕ → ℕ → ℕ → ℕ → Change
change s node lowest highest = change_for (found s node lowest highest)

-- the image at exit: "A refused edit changes no byte."
abbrev pub image_for : List ℕ → ℕ → ℕ → ℕ → Change → List ℕ
image_for s node lowest highest done = image_with s node lowest highest
image_for s node lowest highest (refused number place) = s

-- the image that a call leaves
abbrev pub image_after : List ℕ → ℕ → ℕ → ℕ → List ℕ
image_after s node lowest highest = image_for s node lowest highest (change s node lowest highest)
