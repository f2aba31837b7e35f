-- A plain block, by its field's tag and by what the node says.
use borrow.Author.Tests.{lt-ltb, ltb-true, eq-eqb, eqb-true}
use mathlib.Core.Path.{◌≡◌, refl}
use mathlib.Core.Bool.{Bool, true, false, cond}
use mathlib.Core.List.{List}
use lib.Dec.{eqb, ltb}
use native.Mathlib.Omega.{arith}
use Prim.Native.Nat.{ℕ, ◌+◌}
use Rattle.runs.specs.Nodes.{Node as RunNode}
use Rattle.image_bytes.specs.Bytes.{byte_at, word_at}
use Rattle.nodes.specs.Nodes.{node_from, meant, node_at}
use Rattle.nodes.specs.declared.Node.TheVariants.{Plain, Bus, Once, Sequence, Branch, Loop}
use Rattle.nodes.specs.declared.Plain.{Plain as PlainNumbers}
use Rattle.nodes.specs.declared.BusBlock.{BusBlock}
use Rattle.nodes.specs.declared.Once.{Once as OnceNumbers}
use Rattle.nodes.specs.declared.Children.{Children}
use Rattle.nodes.specs.declared.Loop.{Loop as LoopNumbers}
use Rattle.image.specs.declared.Outline.{Outline}
use Rattle.schedule.specs.Said.{within}
use Rattle.schedule.proofs.Numbers.{both}
use Rattle.edits.specs.Edits.{place_of, is_plain}
use Rattle.edits.specs.Promise.{PlainBlock}

-- a node that is plain has tag 3
plain_tag : (s : List ℕ) (t3 t4 t56 t5 t7 t10 : Bool) (p : PlainNumbers) (b : BusBlock) (c d z : Children) (x : OnceNumbers) (l : LoopNumbers) (lo hi : ℕ)
    → meant s (cond t3 (Plain p) (cond t4 (Bus b) (cond t56 (cond t5 (Sequence c) (Branch d)) (cond t7 (Loop l) (cond t10 (Once x) (Sequence z)))))) ≡ RunNode.plain lo hi
    → t3 ≡ true
unfolding meant
plain_tag s true t4 t56 t5 t7 t10 p b c d z x l lo hi e = refl
plain_tag s false true t56 t5 t7 t10 p b c d z x l lo hi e = absurd (let o : ◌≡◌ {A = ℕ} 0 1 = cc in omega arith)
plain_tag s false false true true t7 t10 p b c d z x l lo hi e = absurd (let o : ◌≡◌ {A = ℕ} 0 1 = cc in omega arith)
plain_tag s false false true false t7 t10 p b c d z x l lo hi e = absurd (let o : ◌≡◌ {A = ℕ} 0 1 = cc in omega arith)
plain_tag s false false false t5 true t10 p b c d z x l lo hi e = absurd (let o : ◌≡◌ {A = ℕ} 0 1 = cc in omega arith)
plain_tag s false false false t5 false true p b c d z x l lo hi e = absurd (let o : ◌≡◌ {A = ℕ} 0 1 = cc in omega arith)
plain_tag s false false false t5 false false p b c d z x l lo hi e = absurd (let o : ◌≡◌ {A = ℕ} 0 1 = cc in omega arith)

module _ (s : List ℕ) (node : ℕ) where
  tag_plain : (lo hi : ℕ) → node_at s node ≡ RunNode.plain lo hi → byte_at s (place_of s node) ≡ 3
  unfolding node_at node_from
  tag_plain lo hi e =
      let t = byte_at s (place_of s node) in
      eqb-true t 3 (plain_tag s (eqb t 3) (eqb t 4) (within 5 6 t) (eqb t 5) (eqb t 7) (eqb t 10) _ _ _ _ _ _ _ lo hi e)

  -- what it says
  pub node_was : byte_at s (place_of s node) ≡ 3 → node_at s node ≡ RunNode.plain (word_at s (place_of s node + 3)) (word_at s (place_of s node + 3 + 2))
  unfolding node_at node_from meant
  node_was tag = rw tag

  module _ (k : Outline) where
    pub tag_of : PlainBlock s k node → byte_at s (place_of s node) ≡ 3
    tag_of p = tag_plain p.plain.0 p.plain.1 p.plain.2

    pub is_plain_lem : PlainBlock s k node → is_plain s k node ≡ true
    is_plain_lem p = simp (lt-ltb node k.nodes p.exists, eq-eqb (byte_at s (place_of s node)) 3 (tag_of p))

    pub plain_is : is_plain s k node ≡ true → PlainBlock s k node
    plain_is e =
        let p = both (ltb node k.nodes) (eqb (byte_at s (place_of s node)) 3) e in
        record { exists = ltb-true node k.nodes p.0; plain = (_, _, node_was (eqb-true _ 3 p.1)) }
