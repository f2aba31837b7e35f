-- How an image of good fields ends: what that says of its nodes and its entry, and how the scan ends there.
use mathlib.Core.Path.{◌≡◌, sym, ◌∙◌, ap, subst}
use mathlib.Core.List.{List}
use Prim.Native.Nat.{ℕ, zero, suc, ◌+◌, ◌-◌, ◌≤◌, ◌<◌}
use native.Mathlib.Omega.{arith}
use lib.ListN.{length}
use lib.Dec.{eqb}
use borrow.Author.Tests.{ltb-true, ltb-false, le-ltb, eqb-true, eqb-false, eq-eqb, ne_eqb}
use Rattle.runs.proofs.Cases.{by_cond}
use Rattle.image_bytes.specs.Bytes.{word_at}
use Rattle.rows.specs.Tests.{length_ok}
use Rattle.rows.specs.Fields.{field_at, tag_at, length_at, body_at, closed_at, GoodField, Passed}
use Rattle.rows.specs.Unclosed.{Unclosed}
use Rattle.rows.proofs.Rules.{tested}
use Rattle.rows.proofs.Standing.{next_at, unclosed_below, unclosed_all}
use Rattle.image.specs.Conditions.{Complete, Ending, last, named, Condition, no_node}
use Rattle.image.specs.Judged.{end_of, scan}
use Rattle.std.specs.Prelude.{Result, Ok, Err}
use Rattle.refusals.specs.declared.Refused.{Refused}
use Rattle.image.specs.declared.fields.Nodes.{Nodes}
use Rattle.image.specs.Judged.{holding}
use Rattle.image.proofs.Passing.{ends}

module _ (s : List ℕ) where
  -- whether n fields have closed the image is a matter of the last one's tag
  closed_behind : (k n : ℕ) → n ≡ suc k → closed_at s n ≡ eqb (tag_at s k) 8
  closed_behind k n e = ap (closed_at s) e

  -- a field with tag 8 has a body of two bytes
  pub two_bytes : (k : ℕ) → GoodField s k → tag_at s k ≡ 8 → length_at s k ≡ 2
  unfolding length_ok
  two_bytes k g e = eqb-true (length_at s k) 2 (rw e at (tested s k g).len)

  -- ---- of an image that so ends: n nodes stand in it, and the entry is one of them
  module _ (n entry : ℕ) where
    pub nodes_stand : Ending s n entry → Unclosed s (n + 2)
    nodes_stand (last c ne e) =
        let q : n + 2 ≡ suc (n + 1) = omega arith in
        subst (Unclosed s) (sym q) (unclosed_all s (n + 1) (subst (Passed s) q c.passed) ne)
    nodes_stand (named c t e) =
        let q : n + 3 ≡ suc (n + 2) = omega arith in
        unclosed_below s (n + 2) (subst (Passed s) q c.passed)

    pub entry_low : Ending s n entry → entry < n
    entry_low (last c ne e) = omega arith
    entry_low (named c t e) = let l = (c.passed (n + 2) (omega arith)).2 t in omega arith

    -- behind them stand at most the five bytes that name it
    pub length_most : Ending s n entry → length s ≤ field_at s (n + 2) + 5
    length_most (last c ne e) = omega (arith, c.ends)
    length_most (named c t e) =
        let q : field_at s (n + 3) ≡ field_at s (suc (n + 2)) = ap (field_at s) (omega arith) in
        omega (arith, c.ends, q, next_at s (n + 2), two_bytes (n + 2) (c.passed (n + 2) (omega arith)) t)

    pub whole_scan : Ending s n entry → scan s ≡ Ok (holding n entry)
    unfolding end_of
    whole_scan (last c ne e) =
        let x : n + 2 - 2 ≡ n = omega arith in
        let y : n + 2 - 3 ≡ entry = omega arith in
        ends s (n + 2) c
        ∙ rw (closed_behind (n + 1) (n + 2) (omega arith), ne_eqb (tag_at s (n + 1)) 8 ne, le-ltb (n + 2) 3 (omega arith), x, y)
    whole_scan (named c t e) =
        let x : n + 3 - 3 ≡ n = omega arith in
        let y : n + 3 - 1 ≡ n + 2 = omega arith in
        ends s (n + 3) c
        ∙ rw (closed_behind (n + 2) (n + 3) (omega arith), eq-eqb (tag_at s (n + 2)) 8 t, le-ltb (n + 3) 3 (omega arith), x, y, e)

  -- ---- what the end of a scan says: the condition of a row of the table, or how the image ends

  abbrev pub EndSays : Result Nodes Refused → Type 0
  EndSays (Err e) = Condition s e.refusal e.place
  EndSays (Ok n) = Ending s n.count n.entry

  pub end_says : (n : ℕ) → Complete s n → EndSays (end_of s n (closed_at s n))
  unfolding end_of
  end_says zero c = no_node zero c (omega arith)
  end_says (suc k) c =
      by_cond EndSays _ _ _
      (λ e. no_node (suc k) c (ltb-true (suc k) 3 e))
      (λ e. let h = ltb-false (suc k) 3 e in
      by_cond EndSays (eqb (tag_at s k) 8) _ _
      (λ t. let x : k ≡ suc k - 3 + 2 = omega arith in
      let y : suc k ≡ suc k - 3 + 3 = omega arith in
      let z : suc k - 1 ≡ suc k - 3 + 2 = omega arith in
      named (subst (Complete s) y c) (subst (λ (j : ℕ). tag_at s j ≡ 8) x (eqb-true (tag_at s k) 8 t)) (ap (λ (j : ℕ). word_at s (body_at s j)) z))
      (λ t. let x : k ≡ suc k - 2 + 1 = omega arith in
      let y : suc k ≡ suc k - 2 + 2 = omega arith in
      last (subst (Complete s) y c) (subst (λ (j : ℕ). tag_at s j ≡ 8 → ⊥) x (eqb-false (tag_at s k) 8 t)) (omega arith)))

-- ends with the same nodes and entry
pub same_nodes : (m n : Nodes) → ◌≡◌ {A = Result Nodes Refused} (Ok m) (Ok n) → m.count ≡ n.count
same_nodes m n e = cc
