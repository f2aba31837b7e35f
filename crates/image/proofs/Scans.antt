-- The scan of the code: the fields passed are good and the nodes' places stored, so the definition's scan ends as it does.
use mathlib.Core.Path.{◌≡◌, refl, sym, ◌∙◌, ap, subst}
use mathlib.Core.Logic.{⊎_elim}
use mathlib.Core.Bool.{Bool, true, false, cond}
use mathlib.Core.List.{List}
use Prim.Native.Nat.{ℕ, zero, suc, ◌+◌, ◌-◌, ◌≤◌, ◌<◌}
use native.Mathlib.Nat.{not-suc-le-zero, eq-or-lt_of_le, le_of_suc-le-suc}
use native.Mathlib.Numerals.{add-one}
use native.Mathlib.Omega.{arith}
use lib.ListN.{length, get_or, set, length-set, replicate, length-replicate}
use lib.Seq.{get_or-set_same, get_or-set_other}
use lib.Dec.{eqb, ltb}
use borrow.Author.Tests.{eqb-true, eqb-false}
use Rattle.runs.proofs.Cases.{split, either}
use Rattle.image_bytes.specs.Bytes.{byte_at, word_at}
use Rattle.image.specs.Judged.{field_of, end_of}
use Rattle.rows.specs.Fields.{field_at, tag_at, body_at, closed_at, GoodField, Passed}
use Rattle.image.specs.Inner.{PlacedAll, Scanned}
use Rattle.refusals.specs.declared.Refusal.{Refusal}
use Rattle.std.specs.Prelude.{Result, Ok, Err}
use Rattle.refusals.specs.declared.Refused.{Refused}
use Rattle.refusals.specs.Refusals.{refused_at}
use Rattle.image.specs.declared.fields.Nodes.{Nodes}
use Rattle.image.specs.Judged.{holding}
use Rattle.rows.proofs.Kept.{good_tag, good_room, node_room, later_tag}
use Rattle.rows.proofs.Standing.{next_at, first_at, inside, passed_more}
use Rattle.image.proofs.Endings.{two_bytes, same_nodes}
use Rattle.image.proofs.Passing.{stops, ends}
use Rattle.image.proofs.Says.{FieldSays, field_says}

-- of so many fields, the last of which has closed the image or not, these are nodes
abbrev pub nodes_of : ℕ → Bool → ℕ
nodes_of index closed = cond closed (index - 3) (index - 2)

-- what is known where the field with `index` fields before it should stand
pub record Here (s places : List ℕ) (index at : ℕ) (closed : Bool) : Type 0 where
  pub place : at ≡ field_at s index
  pub passed : Passed s index
  pub last : closed ≡ closed_at s index
  pub placed : PlacedAll s (nodes_of index closed) places

-- no field is passed yet: the places are all behind the last node
pub here_first : (s : List ℕ) (x : ℕ) → x ≡ 0 → Here s (replicate 256 x) 0 0 false
here_first s x e =
    record {
      place = sym (first_at s);
      passed = λ k h. absurd (not-suc-le-zero h);
      last = refl;
      placed = record { long = length-replicate {A = ℕ} 256 x; each = λ k h. absurd (omega arith); behind = λ k h. blank x e 256 k };
    }
  where
    blank : (x : ℕ) → x ≡ 0 → (n k : ℕ) → get_or (replicate n x) k 0 ≡ 0
    blank x e zero k = refl
    blank x e (suc n) zero = e
    blank x e (suc n) (suc k) = blank x e n k

-- one more node's place is stored
more_placed : (s places : List ℕ) (n at : ℕ) → PlacedAll s n places → n < 256 → at ≡ field_at s (n + 2) → PlacedAll s (suc n) (set places n at)
more_placed s places n at p few e =
    record {
      long = length-set places n at ∙ p.long;
      each = λ k b.
          ⊎_elim
          (λ q. let z : k ≡ n = q in rw z (get_or-set_same places n at 0 (omega (arith, p.long)) ∙ e))
          (λ l. get_or-set_other places n k at 0 (λ q. omega arith) ∙ p.each k l)
          (eq-or-lt_of_le (le_of_suc-le-suc b));
      behind = λ k b. get_or-set_other places n k at 0 (λ q. omega arith) ∙ p.behind k (omega arith);
    }

module _ (s places : List ℕ) (index at : ℕ) (closed : Bool) (h : Here s places index at closed) where
  pub here_good : (next : ℕ) → at < length s → field_of s at index closed ≡ Ok next → GoodField s index × (next ≡ field_at s (suc index))
  here_good next l e =
      subst (FieldSays s index) (rw (h.place, h.last) at e) (field_says s index h.passed (rw h.place at l))

  -- the field there is good
  module _ (next : ℕ) (l : at < length s) (e : field_of s at index closed ≡ Ok next) where
    good : GoodField s index
    good = (here_good next l e).0

    -- so the image was not closed before it
    so_far : nodes_of index closed ≡ index - 2
    so_far =
        split 2 index
        (λ m. ap (nodes_of index) (h.last ∙ later_tag index (closed_at s index) (tag_at s index) m (good_tag s index good)))
        (λ m. by closed m)
      where
        by : (c : Bool) → index < 2 → nodes_of index c ≡ index - 2
        by true m = omega arith
        by false m = refl

    stored : PlacedAll s (index - 2) places
    stored = subst (λ (n : ℕ). PlacedAll s n places) so_far h.placed

    -- it closes the image, is a node's, or stands before all nodes; t is its tag
    module _ (t : ℕ) (read : t ≡ byte_at s at) where
      next_here : (after : List ℕ) (n : ℕ) → nodes_of (index + 1) (eqb t 8) ≡ n → PlacedAll s n after → Here s after (index + 1) next (eqb t 8)
      next_here after n is p =
          record {
            place = rw (add-one index) (here_good next l e).1;
            passed = passed_more s index h.passed good;
            last = rw (add-one index) (ap (λ (x : ℕ). eqb x 8) (read ∙ ap (byte_at s) h.place));
            placed = subst (λ (m : ℕ). PlacedAll s m after) (sym is) p;
          }

      pub here_closed : eqb t 8 ≡ true → Here s places (index + 1) next (eqb t 8)
      here_closed q = next_here places (index - 2) (rw q (omega arith)) stored

      -- a node has room
      pub here_room : eqb t 8 ≡ false → index < 258
      here_room q = node_room index (tag_at s index) (λ is. eqb-false t 8 q (read ∙ ap (byte_at s) h.place ∙ is)) (good_room s index good)

      pub here_node : eqb t 8 ≡ false → 2 ≤ index → Here s (set places (index - 2) at) (index + 1) next (eqb t 8)
      here_node q m =
          let p : index ≡ index - 2 + 2 = omega arith in
          next_here (set places (index - 2) at) (suc (index - 2)) (rw q (omega arith))
          (more_placed s places (index - 2) at stored (omega (arith, here_room q)) (h.place ∙ ap (field_at s) p))

      pub here_front : eqb t 8 ≡ false → index < 2 → Here s places (index + 1) next (eqb t 8)
      here_front q m = next_here places (index - 2) (rw q (omega arith)) stored

  -- where the scan stops, and at the image's end
  pub here_stopped : (r : Refusal) → at < length s → field_of s at index closed ≡ Err r → Scanned s (Err (refused_at r at)) places
  here_stopped r l e =
      record {
        is = rw h.place (sym (stops s index r h.passed (rw h.place at l) (rw (h.place, h.last) at e)));
        placed = λ n q. absurd (let z : ◌≡◌ {A = ℕ} 0 1 = cc in omega arith);
      }

  -- at the image's end a field that has closed it is its last five bytes
  pub here_five : length s ≤ at → closed ≡ true → field_at s (index - 1) + 5 ≡ length s
  here_five l t = let e : at ≡ length s = omega (arith, h.place, inside s index h.passed) in by index h.passed (sym h.last ∙ t) (sym h.place ∙ e)
    where
      by : (k : ℕ) → Passed s k → closed_at s k ≡ true → field_at s k ≡ length s → field_at s (k - 1) + 5 ≡ length s
      by zero p c e = absurd (let z : ◌≡◌ {A = ℕ} 0 1 = cc in omega arith)
      by (suc k) p c e =
          let z : suc k - 1 ≡ k = omega arith in
          rw z (omega (arith, e, next_at s k, two_bytes s k (p k (omega arith)) (eqb-true (tag_at s k) 8 c)))

  -- the end has as many nodes as are stored
  as_many : (c : Bool) (n : Nodes) → end_of s index c ≡ Ok n → nodes_of index c ≡ n.count
  unfolding end_of
  as_many c n e = either (ltb index 3) (λ t. absurd (let f = rw t at e in let z : ◌≡◌ {A = ℕ} 0 1 = cc in omega arith)) (λ t. by c (rw t at e))
    where
      by : (c : Bool) → cond {A = Result Nodes Refused} c (Ok (holding (index - 3) (word_at s (body_at s (index - 1))))) (Ok (holding (index - 2) (index - 3))) ≡ Ok n → nodes_of index c ≡ n.count
      by true q = same_nodes _ n q
      by false q = same_nodes _ n q

  pub here_whole : length s ≤ at → (r : Result Nodes Refused) → r ≡ end_of s index closed → Scanned s r places
  here_whole l r e =
      record {
        is = e ∙ ap (end_of s index) h.last ∙ sym (ends s index (record { passed = h.passed; ends = omega (arith, h.place, inside s index h.passed) }));
        placed = λ n q. subst (λ (m : ℕ). PlacedAll s m places) (as_many closed n (sym e ∙ q)) h.placed;
      }
