-- What an image's node fields mean to crate `runs`: its nodes by number (document 01, "The task image").
-- The image's bytes are the only source of a task's nodes. Definitions only.
use Rattle.std.specs.Prelude.{cond, List, ℕ, ◌+◌, ◌/◌, eqb}
use Rattle.runs.specs.Nodes.{Kind as RunKind, may, always, Node as RunNode, Tree, Trees, none, more, tree, trees, lines_to}
use Rattle.image_bytes.specs.Bytes.{byte_at, word_at, words}
use Rattle.schedule.specs.Said.{within}
use Rattle.nodes.specs.declared.Kind.{Kind}
use Rattle.nodes.specs.declared.Kind.TheVariants.{May, Always}
use Rattle.nodes.specs.declared.Node.{Node}
use Rattle.nodes.specs.declared.Node.TheVariants.{Plain, Bus as Block, Once, Sequence, Branch, Loop}
use Rattle.rows.specs.Fields.{field_at}

-- "1 may access, 2 always accesses"
abbrev pub kind_of : ℕ → Kind
kind_of kind = cond (eqb kind 1) May Always

-- "Body", rows 3 to 7 and 10: the node of a tag whose body of n bytes stands at a place. No node field has another tag: that would be a sequence of no children
unfoldable pub node_from : List ℕ → ℕ → ℕ → ℕ → Node
node_from s tag body n =
    cond (eqb tag 3) (Plain (record { lowest = word_at s body; highest = word_at s (body + 2) }))
    (cond (eqb tag 4)
    (Block (record { kind = kind_of (byte_at s body); lowest = byte_at s (body + 1); highest = byte_at s (body + 2) }))
    (cond (within 5 6 tag)
    (cond (eqb tag 5) (Sequence (record { place = body; count = n / 2 })) (Branch (record { place = body; count = n / 2 })))
    (cond (eqb tag 7)
    (Loop (record { least = word_at s body; greatest = word_at s (body + 2); body = word_at s (body + 4); test = word_at s (body + 6) }))
    (cond (eqb tag 10)
    (Once (record { line = byte_at s body; lowest = byte_at s (body + 1); highest = byte_at s (body + 2); hit = word_at s (body + 3) }))
    (Sequence (record { place = body; count = 0 }))))))

-- the node whose field stands at a place, as the code has it: child numbers stay in the image
abbrev pub node_of : List ℕ → ℕ → Node
node_of s at = node_from s (byte_at s at) (at + 3) (word_at s (at + 1))

-- ---- in the words of `runs`

abbrev pub kind_meant : Kind → RunKind
kind_meant May = may
kind_meant Always = always

unfoldable pub meant : List ℕ → Node → RunNode
meant s (Plain p) = RunNode.plain p.lowest p.highest
meant s (Block b) = RunNode.bus (kind_meant b.kind) b.lowest b.highest
meant s (Once x) = RunNode.once x.line x.lowest x.highest x.hit
meant s (Sequence c) = RunNode.sequence (words s c.place c.count)
meant s (Branch c) = RunNode.branch (words s c.place c.count)
meant s (Loop l) = RunNode.loop l.least l.greatest l.body l.test

-- "node fields (tags 3 to 7), numbered from 0": node n has n + 2 fields before it
unfoldable pub node_at : List ℕ → ℕ → RunNode
node_at s n = meant s (node_of s (field_at s (n + 2)))

-- its tree, with depth and visits as `runs` has them; and the trees of n children whose numbers stand from a place on
abbrev pub tree_at : List ℕ → ℕ → Tree
tree_at s n = tree (node_at s) n

abbrev pub child_trees : List ℕ → ℕ → ℕ → Trees
child_trees s place n = trees (λ k. tree (node_at s) k) (words s place n)

-- those of one iteration of a loop tested at the head (W3): its body, and the test that follows
abbrev pub turn_trees : List ℕ → ℕ → ℕ → Trees
turn_trees s body test = more (tree_at s body) (more (tree_at s test) none)

-- "Lines are one more than the highest line number in the image, or 0" (W9), of an image of n nodes: those that the entry does not reach count too
abbrev pub lines_of : List ℕ → ℕ → ℕ
lines_of s n = lines_to (node_at s) n
