-- What a possible edit leaves, editing back included.
use mathlib.Core.Path.{◌≡◌, sym, ◌∙◌}
use mathlib.Core.Logic.{⊎_elim}
use mathlib.Core.Bool.{true}
use mathlib.Core.List.{List}
use native.Mathlib.Omega.{arith}
use Prim.Native.Nat.{ℕ, ◌+◌, ◌<◌}
use Rattle.runs.specs.Nodes.{Node}
use Rattle.image_bytes.specs.Bytes.{byte_at, word_at}
use Rattle.rows.specs.Tests.{plain_ok, node_value_ok, value_ok}
use Rattle.nodes.specs.Nodes.{node_at}
use Rattle.rows.proofs.Rules.{durations_kept, tested}
use Rattle.image.proofs.Sounds.{stand}
use Rattle.edits.specs.Edits.{done, place_of, image_with, change, image_after}
use Rattle.edits.specs.Promise.{Editable, Restores, Leaves}
use Rattle.edits.proofs.Plain.{node_was, tag_of}
use Rattle.edits.proofs.Written.{written_before, written_behind, written_back}
use Rattle.edits.proofs.Standing.{inside, long, place_same, starts_same, node_other, node_same, weight_same, still_accepting, still_accepted}
use Rattle.edits.proofs.Finds.{found_when}

module _ (s : List ℕ) (node lo hi : ℕ) (d : Editable s node lo hi) where
  -- an edit that is possible is done
  pub change_is : change s node lo hi ≡ done
  change_is = rw (found_when s node lo hi d)

  pub edit_is : image_after s node lo hi ≡ image_with s node lo hi
  edit_is = rw (found_when s node lo hi d)

-- of a list of bytes
module _ (s : List ℕ) (node lo hi : ℕ) (d : Editable s node lo hi) (small : (i : ℕ) → byte_at s i < 256) where
  -- the old durations are in range, so that the edit can be undone, and then restores the bytes
  module _ (l h : ℕ) (was : node_at s node ≡ Node.plain l h) where
    tag : byte_at s (place_of s node) ≡ 3
    tag = tag_of s node d.outline d.block

    old : Node.plain (word_at s (place_of s node + 3)) (word_at s (place_of s node + 3 + 2)) ≡ Node.plain l h
    old = sym (node_was s node tag) ∙ was

    low : l ≡ word_at s (place_of s node + 3)
    low = cc old

    high : h ≡ word_at s (place_of s node + 3 + 2)
    high = cc old

    old_range : plain_ok l h ≡ true
    unfolding value_ok node_value_ok
    old_range = rw (low, high) (rw tag at (tested s (node + 2) (stand s d.outline d.accepting (node + 2) (omega (arith, d.block.exists))).0).value)

    undoable : Editable (image_with s node lo hi) node l h
    undoable = record {
      outline = d.outline;
      accepting = still_accepting s node lo hi d;
      block = record { exists = d.block.exists; plain = (lo, hi, node_same s node lo hi d) };
      durations = durations_kept l h old_range;
    }

    back : image_with (image_with s node lo hi) node l h ≡ s
    back =
        rw (place_same s node lo hi d (node + 2), low, high)
        (written_back s (place_of s node + 3) lo hi (inside s node lo hi d) small)

    pub undone : Restores s node l h (image_with s node lo hi)
    undone = record { possible = undoable; bytes = edit_is (image_with s node lo hi) node l h undoable ∙ back }

  pub leaves : Leaves s d.outline node lo hi (image_with s node lo hi)
  leaves = record {
    accepted = still_accepted s node lo hi d;
    long = long s node lo hi d;
    outside = λ i. ⊎_elim (λ l. written_before s (place_of s node + 3) lo hi i (omega (arith, l))) (λ l. written_behind s (place_of s node + 3) lo hi i (omega (arith, l)));
    says = node_same s node lo hi d;
    others = λ n l other. node_other s node lo hi d n (omega (arith, l)) (λ q. other (omega (arith, q)));
    starts = starts_same s node lo hi d;
    deep = λ n l. sym (weight_same s node lo hi d n l).deep;
    visited = λ n l. sym (weight_same s node lo hi d n l).long;
    back = undone;
  }
