-- What `edit` promises, over the image s, the numbers, the answer and the image at exit. Definitions only.
use Rattle.std.specs.Prelude.{◌≡◌, ◌⊎◌, List, length, ℕ, ◌+◌, ◌≤◌, ◌<◌, Result, Ok, Err, ⊤}
use Rattle.runs.specs.Nodes.{Node, depth, visits}
use Rattle.image_bytes.specs.Bytes.{byte_at}
use Rattle.nodes.specs.Nodes.{node_at, tree_at}
use Rattle.image.specs.Tasks.{starts_of}
use Rattle.image.specs.Conditions.{Condition, Accepting}
use Rattle.rows.specs.Rules.{Durations}
use Rattle.image.specs.Judged.{judged}
use Rattle.refusals.specs.declared.Refusal.{Refusal}
use Rattle.refusals.specs.declared.Refusal.TheVariants.{Value, Block}
use Rattle.image.specs.declared.Outline.{Outline}
use Rattle.refusals.specs.declared.Refused.{Refused}
use Rattle.edits.specs.Edits.{place_of, change_of, change, image_after}

-- ---- when an edit is possible, and when it is refused

-- the node exists, and is plain
pub record PlainBlock (s : List ℕ) (k : Outline) (node : ℕ) : Type 0 where
  pub exists : node < k.nodes
  pub plain : (lowest highest : ℕ) × (node_at s node ≡ Node.plain lowest highest)

-- an edit is possible: an accepted image, such a block, and durations that keep its row's rule
pub record Editable (s : List ℕ) (node lowest highest : ℕ) : Type 0 where
  pub outline : Outline
  pub accepting : Accepting s outline
  pub block : PlainBlock s outline node
  pub durations : Durations lowest highest

-- for what an edit is refused, and at which place
pub data EditCondition (s : List ℕ) (node lowest highest : ℕ) : Refusal → ℕ → Type 0 where
  -- "Unaccepted images are refused first, by their own numbers"
  unaccepted : (r : Refusal) (place : ℕ) → Condition s r place → EditCondition s node lowest highest r place
  -- 19: "the node does not exist or is not plain"
  no_block : (k : Outline) → Accepting s k → (PlainBlock s k node → ⊥) → EditCondition s node lowest highest Block (length s)
  -- 5: "durations out of range get 5 at that block's field"
  out_of_range : (k : Outline) → Accepting s k → PlainBlock s k node → (Durations lowest highest → ⊥)
      → EditCondition s node lowest highest Value (place_of s node)

-- ---- `edit`, over the image at entry and at exit

-- equality, for refused edits too; refused if and only if the condition for it holds, and done only if it is possible
pub record Editing (s : List ℕ) (node lowest highest : ℕ) (r : Result ⊤ Refused) (after : List ℕ) : Type 0 where
  pub result : change_of r ≡ change s node lowest highest
  pub image : after ≡ image_after s node lowest highest
  pub because : (e : Refused) → r ≡ Err e → EditCondition s node lowest highest e.refusal e.place
  pub whenever : (e : Refused) → EditCondition s node lowest highest e.refusal e.place → r ≡ Err e
  pub possible : r ≡ Ok tt → Editable s node lowest highest

-- the durations l to h are possible in an edited image, and restore the bytes s
pub record Restores (s : List ℕ) (node l h : ℕ) (after : List ℕ) : Type 0 where
  pub possible : Editable after node l h
  pub bytes : image_after after node l h ≡ s

-- what an edit that is done leaves of the image s, whose outline is k
pub record Leaves (s : List ℕ) (k : Outline) (node lowest highest : ℕ) (after : List ℕ) : Type 0 where
  -- an accepted image: the same bus, number of starts, nodes and entry
  pub accepted : judged after ≡ Ok k
  -- "alters no others"
  pub long : length after ≡ length s
  pub outside : (i : ℕ) → (i < place_of s node + 3) ⊎ (place_of s node + 7 ≤ i) → byte_at after i ≡ byte_at s i
  -- that node has the durations; every other one, the starts, and each node's depth and visits are as they were
  pub says : node_at after node ≡ Node.plain lowest highest
  pub others : (n : ℕ) → n < k.nodes → (n ≡ node → ⊥) → node_at after n ≡ node_at s n
  pub starts : starts_of after ≡ starts_of s
  pub deep : (n : ℕ) → n < k.nodes → depth (tree_at after n) ≡ depth (tree_at s n)
  pub visited : (n : ℕ) → n < k.nodes → visits (tree_at after n) ≡ visits (tree_at s n)
  -- editing back restores the bytes
  pub back : (l h : ℕ) → node_at s node ≡ Node.plain l h → Restores s node l h after

-- an edit that is possible is done
abbrev pub EditDone : List ℕ → ℕ → ℕ → ℕ → Result ⊤ Refused → List ℕ → Type 0
EditDone s node lowest highest r after = (e : Editable s node lowest highest) → (r ≡ Ok tt) × Leaves s e.outline node lowest highest after
