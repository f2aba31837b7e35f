-- An accepted image without the field that names the entry, and the same image closed by one that names its last node: both say the same.
use mathlib.Core.Path.{◌≡◌, sym, ◌∙◌, ap, subst}
use mathlib.Core.Bool.{false}
use mathlib.Core.List.{List, ◌++◌}
use lib.ListN.{length, length-append}
use native.Mathlib.Omega.{arith}
use borrow.Author.Tests.{ne_eqb}
use Prim.Native.Nat.{ℕ, suc, ◌+◌, ◌≤◌, ◌<◌}
use Rattle.runs.specs.Bus.{Bus}
use Rattle.runs.specs.Nodes.{node_lines}
use Rattle.runs.proofs.Trees.{tree_alike}
use Rattle.image_bytes.specs.Bytes.{byte_at, word_at}
use Rattle.image_bytes.proofs.Agreeing.{Agree, agree_bytes, ahead, behind}
use Rattle.schedule.specs.Said.{said}
use Rattle.schedule.proofs.Writings.{agree_said}
use Rattle.rows.specs.Rules.{TagRule, RoomRule, LengthRule, ValueRule}
use Rattle.rows.specs.Fields.{field_at, tag_at, length_at, body_at, closed_at, GoodField, Passed}
use Rattle.rows.proofs.Kept.{good_head, good_body, first_end}
use Rattle.rows.proofs.Standing.{next_at, passed_more, unclosed_fewer}
use Rattle.rows.proofs.Unmoved as unmoved
use Rattle.nodes.specs.Nodes.{node_at, tree_at}
use Rattle.nodes.proofs.Levels.{falls}
use Rattle.nodes.proofs.Fetches.{lines_alike}
use Rattle.nodes.proofs.Reading.{node_unmoved}
use Rattle.image.specs.Tasks.{starts_of}
use Rattle.image.specs.Judged.{judged}
use Rattle.image.specs.Conditions.{Complete, Ending, last, named, Accepting}
use Rattle.image.specs.Closed.{entry_field, EndsInANode}
use Rattle.image.specs.declared.Outline.{Outline}
use Rattle.std.specs.Prelude.{Ok}
use Rattle.image.proofs.Reasons.{accepted_when}
use Rattle.image.proofs.Sounds.{stand, entry_below}

module _ (s : List ℕ) (k : Outline) (a : Accepting s k) (none : EndsInANode s k) (m : ℕ) (last-node : k.nodes ≡ suc m) where
  abbrev n : ℕ
  n = k.nodes

  abbrev e : List ℕ
  e = s ++ entry_field m

  -- the last node is the entry
  last_is : Ending s n k.entry → (tag_at s (n + 1) ≡ 8 → ⊥) × (n ≡ suc k.entry)
  last_is (last c ne q) = (ne, q)
  last_is (named c t q) =
      let z : field_at s (n + 3) ≡ field_at s (suc (n + 2)) = ap (field_at s) (omega arith) in
      absurd (omega (arith, c.ends, z, next_at s (n + 2), none))

  open_last : tag_at s (n + 1) ≡ 8 → ⊥
  open_last = (last_is a.ending).0

  entry_is : n ≡ suc k.entry
  entry_is = (last_is a.ending).1

  good : (j : ℕ) → j < n + 2 → GoodField s j
  good j l = (stand s k a j l).0

  pub long : length e ≡ length s + 5
  long = length-append s (entry_field m)

  -- ---- what stands in the image is as it was

  agree : (p j : ℕ) → p + j ≤ length s → Agree s e p p j
  agree p j l i q = ahead s (entry_field m) (p + i) (omega arith)

  heads : (j : ℕ) → j < n + 2 → Agree s e (field_at s j) (field_at s j) 3
  heads j l = agree (field_at s j) 3 (good_head s j (good j l))

  bodies : (j : ℕ) → j < n + 2 → Agree s e (body_at s j) (body_at s j) (length_at s j)
  bodies j l = agree (body_at s j) (length_at s j) (good_body s j (good j l))

  place_same : (j : ℕ) → j ≤ n + 2 → field_at e j ≡ field_at s j
  place_same = unmoved.place_same s e (n + 2) heads

  pub said_same : said e ≡ said s
  said_same = agree_said s e (agree 0 (6 + word_at s 1) (omega (arith, first_end s, good_head s 1 (good 1 (omega arith)))))

  starts_many : length_at e 1 ≡ length_at s 1
  starts_many = rw (place_same 1 (omega arith)) (unmoved.length_same s e (n + 2) heads 1 (omega arith))

  pub starts_same : starts_of e ≡ starts_of s
  starts_same =
      rw (starts_many, place_same 1 (omega arith)) (agree_bytes s e (body_at s 1) (body_at s 1) (length_at s 1) (bodies 1 (omega arith)))

  node_same : (i : ℕ) → i < n → node_at e i ≡ node_at s i
  node_same i l = node_unmoved s e i (λ j q. heads j (omega arith)) (good (i + 2) (omega arith)) (bodies (i + 2) (omega arith))

  pub tree_same : tree_at e k.entry ≡ tree_at s k.entry
  tree_same =
      tree_alike (node_at s) (node_at e) n
      (λ i l. falls s i (unclosed_fewer s (i + 3) (n + 2) (omega arith) (stand s k a)) i (omega arith))
      node_same k.entry (entry_below s k a)

  -- ---- the field behind it is good, and names the last node

  here : field_at e (n + 2) ≡ length s
  here = place_same (n + 2) (omega arith) ∙ none

  own : (i : ℕ) → byte_at e (field_at e (n + 2) + i) ≡ byte_at (entry_field m) i
  own i = rw here (behind s (entry_field m) i)

  tag : tag_at e (n + 2) ≡ 8
  tag = let z : field_at e (n + 2) + 0 ≡ field_at e (n + 2) = omega arith in rw z at (own 0)

  two : length_at e (n + 2) ≡ 2
  unfolding word_at
  two = let z : field_at e (n + 2) + 1 + 1 ≡ field_at e (n + 2) + 2 = omega arith in rw (z, own 1, own 2)

  number : word_at e (body_at e (n + 2)) ≡ m
  unfolding word_at
  number = let z : field_at e (n + 2) + 3 + 1 ≡ field_at e (n + 2) + 4 = omega arith in rw (z, own 3, own 4) (omega arith)

  not_closed : closed_at e (n + 2) ≡ false
  not_closed =
      let z : n + 2 ≡ suc (n + 1) = omega arith in
      rw z
      (rw (place_same (n + 1) (omega arith), unmoved.tag_same s e (n + 2) heads (n + 1) (omega arith)) (ne_eqb (tag_at s (n + 1)) 8 open_last))

  closes : GoodField e (n + 2)
  closes =
      let f : field_at e (n + 2) + 3 + length_at e (n + 2) ≤ length e = omega (arith, here, two, long) in (
        (((((omega arith, TagRule.entry (omega (arith, entry_is)) not_closed tag), RoomRule.entry tag), LengthRule.entry tag two), f), ValueRule.entry tag),
        record { children = λ lo hi. absurd (omega (arith, tag)); loop = λ q. absurd (omega (arith, tag)) },
        λ t. omega (arith, number, last-node),
      )

  passed : Passed e (n + 2)
  passed j l = unmoved.body_good s e (n + 2) heads (omega (arith, long)) j l (good j l) said_same (bodies j l)

  complete : Complete e (n + 3)
  complete =
      let z : n + 3 ≡ n + 2 + 1 = omega arith in
      let q : field_at e (n + 3) ≡ field_at e (suc (n + 2)) = ap (field_at e) (omega arith) in
      record { passed = subst (Passed e) (sym z) (passed_more e (n + 2) passed closes); ends = omega (arith, q, next_at e (n + 2), here, two, long) }

  -- so the image is accepted, with the same outline
  accepting : Accepting e k
  accepting = record {
    ending = named complete tag (omega (arith, number, entry_is, last-node));
    shallow = rw tree_same a.shallow;
    short = rw tree_same a.short;
    period = a.period ∙ sym (ap (λ (b : Bus). b.period) said_same);
    starts = a.starts ∙ sym starts_many;
    lines = a.lines ∙ sym (lines_alike (node_at e) (node_at s) n (λ i l. ap node_lines (node_same i l)));
    sets = a.sets;
    narrow = a.narrow;
  }

  pub still_accepted : judged e ≡ Ok k
  still_accepted = accepted_when e k accepting
