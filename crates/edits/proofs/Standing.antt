-- A possible edit leaves every field where it stands, and every other node as it was; the image stays accepted, with the same task.
use mathlib.Core.Path.{◌≡◌, sym, ◌∙◌, subst}
use mathlib.Core.List.{List}
use lib.ListN.{length}
use borrow.Author.Tests.{eqb-true}
use native.Mathlib.Nat.{not-suc-le-zero}
use native.Mathlib.Omega.{arith}
use Prim.Native.Nat.{ℕ, zero, suc, ◌+◌, ◌≤◌, ◌<◌}
use Rattle.runs.specs.Nodes.{Node}
use Rattle.runs.proofs.Cases.{split}
use Rattle.image_bytes.specs.Bytes.{byte_at, word_at}
use Rattle.image_bytes.proofs.Agreeing.{Agree, agree_part, agree_first, agree_word, agree_bytes}
use Rattle.schedule.specs.Said.{said}
use Rattle.schedule.proofs.Writings.{agree_said}
use Rattle.rows.specs.Tests.{node_length_ok, length_ok, node_value_ok, value_ok, children_ok, entry_ok}
use Rattle.rows.specs.Fields.{field_at, tag_at, length_at, body_at, GoodField}
use Rattle.nodes.specs.Nodes.{node_from, meant, node_at, tree_at}
use Rattle.image.specs.Tasks.{starts_of}
use Rattle.image.specs.Conditions.{Complete, Ending, last, named, Accepting}
use Rattle.image.specs.Judged.{judged}
use Rattle.std.specs.Prelude.{Ok}
use Rattle.rows.proofs.Standing.{next_at, unclosed_fewer}
use Rattle.rows.proofs.Unmoved as unmoved
use Rattle.rows.proofs.Kept.{first_end}
use Rattle.rows.proofs.Rules.{kept_durations, tested}
use Rattle.nodes.proofs.Levels.{falls}
use Rattle.nodes.proofs.Reading.{node_unmoved}
use Rattle.image.proofs.Sounds.{stand, entry_below}
use Rattle.image.proofs.Reasons.{accepted_when}
use Rattle.edits.specs.Edits.{place_of, image_with}
use Rattle.edits.specs.Promise.{Editable}
use Rattle.edits.proofs.Plain.{node_was, tag_of}
use Rattle.edits.proofs.Written.{written_length, written_before, written_behind, written_lowest, written_highest}
use Rattle.edits.proofs.Alike.{Alike, same, plains, Equally, equally, lines_same}

-- fields stand one behind the other
order : (s : List ℕ) (i j : ℕ) → i < j → field_at s i + 3 + length_at s i ≤ field_at s j
order s i zero l = absurd (not-suc-le-zero l)
order s i (suc j) l =
    rw (next_at s j)
    (split j i
    (λ g. let e : i ≡ j = omega arith in rw e (omega arith))
    (λ g. omega (arith, order s i j g)))

module _ (s : List ℕ) (node lo hi : ℕ) (d : Editable s node lo hi) where
  abbrev after : List ℕ
  after = image_with s node lo hi

  -- the n bytes from a place on are as they were
  abbrev Same : ℕ → ℕ → Type 0
  Same place n = Agree s after place place n

  good : (j : ℕ) → j < d.outline.nodes + 2 → GoodField s j
  good j l = (stand s d.outline d.accepting j l).0

  here : GoodField s (node + 2)
  here = good (node + 2) (omega (arith, d.block.exists))

  tag : byte_at s (place_of s node) ≡ 3
  tag = tag_of s node d.outline d.block

  four : length_at s (node + 2) ≡ 4
  unfolding length_ok node_length_ok
  four = eqb-true (length_at s (node + 2)) 4 (rw tag at (tested s (node + 2) here).len)

  pub inside : place_of s node + 3 + 4 ≤ length s
  inside = omega (arith, (tested s (node + 2) here).body, four)

  pub long : length after ≡ length s
  long = written_length s (place_of s node + 3) lo hi

  -- bytes of other fields, and of every head
  before : (j : ℕ) → j < node + 2 → Same (field_at s j) (3 + length_at s j)
  before j l i q = written_before s (place_of s node + 3) lo hi (field_at s j + i) (omega (arith, order s j (node + 2) l))

  behind : (j n : ℕ) → node + 2 < j → Same (field_at s j) n
  behind j n l i q = written_behind s (place_of s node + 3) lo hi (field_at s j + i) (omega (arith, order s (node + 2) j l, four))

  head : (j : ℕ) → Same (field_at s j) 3
  head j =
      split (node + 2) j
      (λ l. split j (node + 2)
      (λ m. let e : j ≡ node + 2 = omega arith in
      λ i q. written_before s (place_of s node + 3) lo hi (field_at s j + i) (rw e (omega arith)))
      (λ m. behind j 3 m))
      (λ l. agree_first s after (field_at s j) (field_at s j) (3 + length_at s j) 3 (before j l) (omega arith))

  -- so every field stands where it stood
  length_same : (j : ℕ) → word_at after (field_at s j + 1) ≡ length_at s j
  length_same j = unmoved.length_same s after (suc j) (λ k l. head k) j (omega arith)

  tag_same : (j : ℕ) → byte_at after (field_at s j) ≡ tag_at s j
  tag_same j = unmoved.tag_same s after (suc j) (λ k l. head k) j (omega arith)

  pub place_same : (j : ℕ) → field_at after j ≡ field_at s j
  place_same j = unmoved.place_same s after j (λ k l. head k) j (omega arith)

  -- and what is not the block's own has the same body
  body_before : (j : ℕ) → j < node + 2 → Same (body_at s j) (length_at s j)
  body_before j l = agree_part s after (field_at s j) (field_at s j) (3 + length_at s j) 3 (length_at s j) (before j l) (omega arith)

  body_behind : (j : ℕ) → node + 2 < j → Same (body_at s j) (length_at s j)
  body_behind j l = agree_part s after (field_at s j) (field_at s j) (3 + length_at s j) 3 (length_at s j) (behind j (3 + length_at s j) l) (omega arith)

  -- field 1, and field 2
  front : body_at s 1 + length_at s 1 ≤ place_of s node
  front = order s 1 (node + 2) (omega arith)

  early : Same 0 (body_at s 1 + length_at s 1)
  early i q = written_before s (place_of s node + 3) lo hi (0 + i) (omega (arith, front))

  bus_same : said after ≡ said s
  bus_same = agree_said s after (agree_first s after 0 0 (body_at s 1 + length_at s 1) (6 + word_at s 1) early (omega (arith, first_end s)))

  starts_word : length_at after 1 ≡ length_at s 1
  starts_word = rw (place_same 1) (length_same 1)

  pub starts_same : starts_of after ≡ starts_of s
  starts_same = rw (place_same 1, length_same 1) (agree_bytes s after (body_at s 1) (body_at s 1) (length_at s 1) (body_before 1 (omega arith)))

  -- one with the same body is good
  body_good : (j : ℕ) → GoodField s j → Same (body_at s j) (length_at s j) → GoodField after j
  body_good j g h = unmoved.body_good s after (suc j) (λ k l. head k) (omega (arith, long)) j (omega arith) g bus_same h

  -- and the block's own
  lowest : word_at after (place_of s node + 3) ≡ lo
  lowest = written_lowest s (place_of s node + 3) lo hi inside

  highest : word_at after (place_of s node + 3 + 2) ≡ hi
  highest = written_highest s (place_of s node + 3) lo hi inside

  own_good : GoodField after (node + 2)
  unfolding value_ok node_value_ok children_ok entry_ok
  own_good =
      unmoved.still_good s after (node + 3) (λ k l. head k) (omega (arith, long)) (node + 2) (omega arith) here
      (rw (tag, lowest, highest) (kept_durations lo hi d.durations)) (rw tag) (rw tag)

  all_good : (j : ℕ) → GoodField s j → GoodField after j
  all_good j x =
      split (node + 2) j
      (λ p. split j (node + 2)
      (λ m. let e : node + 2 ≡ j = omega arith in subst (GoodField after) e own_good)
      (λ m. body_good j x (body_behind j m)))
      (λ p. body_good j x (body_before j p))

  -- the same fields fill the image, and the same node is the entry
  complete_same : (n : ℕ) → Complete s n → Complete after n
  complete_same n c = record { passed = λ j l. all_good j (c.passed j l); ends = place_same n ∙ c.ends ∙ sym long }

  ending_same : (n entry : ℕ) → node < n → Ending s n entry → Ending after n entry
  ending_same n entry low (last c ne e) = last (complete_same (n + 2) c) (λ t. ne (rw (place_same (n + 1), tag_same (n + 1)) at t)) e
  ending_same n entry low (named c t e) =
      named (complete_same (n + 3) c) (rw (place_same (n + 2), tag_same (n + 2)) t)
      (e ∙ rw (place_same (n + 2)) (sym (agree_word s after (field_at s (n + 2)) (field_at s (n + 2)) 5 3 (behind (n + 2) 5 (omega arith)) (omega arith))))

  -- every other node says what it said
  pub node_other : (n : ℕ) → n < d.outline.nodes → (n ≡ node → ⊥) → node_at after n ≡ node_at s n
  node_other n l ne =
      node_unmoved s after n (λ k m. head k) (good (n + 2) (omega arith))
      (split node n
      (λ r. body_behind (n + 2) (let z : node < n = omega (arith, distinct r) in omega arith))
      (λ r. body_before (n + 2) (omega arith)))
    where
      distinct : node ≤ n → node < n
      distinct m = split n node (λ q. absurd (ne (omega arith))) (λ q. q)

  pub node_same : node_at after node ≡ Node.plain lo hi
  unfolding node_at node_from meant
  node_same = rw (place_same (node + 2), tag_same (node + 2), tag) (rw (lowest, highest))

  -- so depth, visits and lines stay
  alike : (n : ℕ) → n < d.outline.nodes → Alike (node_at s n) (node_at after n)
  alike n l =
      split node n
      (λ p. split n node
      (λ m. let e : node ≡ n = omega arith in subst (λ (i : ℕ). Alike (node_at s i) (node_at after i)) e (rw (node_was s node tag, node_same) (plains _ _ lo hi)))
      (λ m. other n l (λ q. omega arith)))
      (λ p. other n l (λ q. omega arith))
    where
      other : (n : ℕ) → n < d.outline.nodes → (n ≡ node → ⊥) → Alike (node_at s n) (node_at after n)
      other n l ne = rw (node_other n l ne) (same (node_at s n))

  pub weight_same : (n : ℕ) → n < d.outline.nodes → Equally (tree_at s n) (tree_at after n)
  weight_same n l =
      equally (node_at s) (node_at after) d.outline.nodes
      (λ k m. falls s k (unclosed_fewer s (k + 3) (d.outline.nodes + 2) (omega arith) (stand s d.outline d.accepting)) k (omega arith))
      alike n l

  -- and the image stays accepted
  pub still_accepting : Accepting after d.outline
  still_accepting =
      let a = d.accepting in
      let w = weight_same d.outline.entry (entry_below s d.outline a) in
      record {
        ending = ending_same d.outline.nodes d.outline.entry d.block.exists a.ending;
        shallow = rw (← w.deep) a.shallow;
        short = rw (← w.long) a.short;
        period = rw bus_same a.period;
        starts = a.starts ∙ sym starts_word;
        lines = a.lines ∙ lines_same (node_at s) (node_at after) d.outline.nodes alike;
        sets = a.sets;
        narrow = a.narrow;
      }

  pub still_accepted : judged after ≡ Ok d.outline
  still_accepted = accepted_when after d.outline still_accepting
