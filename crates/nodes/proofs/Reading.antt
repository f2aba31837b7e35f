-- The node of a field depends on its own bytes: where two images agree on these, wherever the field stands in each, it is the same.
use mathlib.Core.Path.{◌≡◌, ap}
use mathlib.Core.List.{List}
use lib.Dec.{eqb}
use native.Mathlib.Omega.{arith}
use Prim.Native.Nat.{ℕ, ◌+◌, ◌*◌, ◌/◌, ◌<◌}
use Rattle.runs.specs.Nodes.{Node as RunNode}
use Rattle.image_bytes.specs.Bytes.{words}
use Rattle.image_bytes.proofs.Agreeing.{Agree, agree_first, agree_here, word_here, agree_word, agree_words}
use Rattle.schedule.specs.Said.{within}
use Rattle.rows.specs.Fields.{field_at, tag_at, length_at, body_at, GoodField}
use Rattle.nodes.specs.Nodes.{node_from, meant, node_at}
use Rattle.rows.proofs.Rules.{tested}
use Rattle.rows.proofs.Reading.{Covers, covers_row, by_both}
use Rattle.rows.proofs.Unmoved.{place_same, tag_same, length_same}

module _ (s e : List ℕ) (tag p q n m : ℕ) (c : Covers tag n m) (h : Agree s e p q m) where
  named : words e q (n / 2) ≡ words s p (n / 2)
  named = agree_words s e p q (n / 2) (agree_first s e p q m (2 * (n / 2)) h (omega (arith, c.whole)))

  pub agree_node : meant e (node_from e tag q n) ≡ meant s (node_from s tag p n)
  unfolding node_from meant
  agree_node =
      by_both (λ x y. meant e x ≡ meant s y) (eqb tag 3) _ _ _ _
      (λ is. let l = c.plain is in rw (word_here s e p q m h (omega arith), agree_word s e p q m 2 h (omega arith)))
      (λ n3. by_both (λ x y. meant e x ≡ meant s y) (eqb tag 4) _ _ _ _
      (λ is. let l = c.block is in rw (agree_here s e p q m h (omega arith), h 1 (omega arith), h 2 (omega arith)))
      (λ n4. by_both (λ x y. meant e x ≡ meant s y) (within 5 6 tag) _ _ _ _
      (λ w. by_both (λ x y. meant e x ≡ meant s y) (eqb tag 5) _ _ _ _ (λ is. ap RunNode.sequence named) (λ n5. ap RunNode.branch named))
      (λ w. by_both (λ x y. meant e x ≡ meant s y) (eqb tag 7) _ _ _ _
      (λ is. let l = c.loop is in rw (word_here s e p q m h (omega arith), agree_word s e p q m 2 h (omega arith), agree_word s e p q m 4 h (omega arith), agree_word s e p q m 6 h (omega arith)))
      (λ n7. by_both (λ x y. meant e x ≡ meant s y) (eqb tag 10) _ _ _ _
      (λ is. let l = c.once is in rw (agree_here s e p q m h (omega arith), h 1 (omega arith), h 2 (omega arith), agree_word s e p q m 3 h (omega arith)))
      (λ n10. ap RunNode.sequence (agree_words s e p q 0 (agree_first s e p q m 0 h (omega arith))))))))

-- such as that of a good field with the same head and the same body, behind fields with the same heads
pub node_unmoved : (s e : List ℕ) (n : ℕ) → ((k : ℕ) → k < n + 3 → Agree s e (field_at s k) (field_at s k) 3) → GoodField s (n + 2)
    → Agree s e (body_at s (n + 2)) (body_at s (n + 2)) (length_at s (n + 2)) → node_at e n ≡ node_at s n
unfolding node_at
node_unmoved s e n heads g h =
    let k = n + 2 in
    let t = tag_at s k in
    let m = length_at s k in
    rw (place_same s e (n + 3) heads k (omega arith), tag_same s e (n + 3) heads k (omega arith), length_same s e (n + 3) heads k (omega arith))
    (agree_node s e t (body_at s k) (body_at s k) m m (covers_row t m (tested s k g).len) h)
