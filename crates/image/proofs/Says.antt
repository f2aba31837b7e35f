-- What a field, a scan and a verdict say: at each test either the condition of a row of the table holds, or judging goes on.
use mathlib.Core.Path.{◌≡◌, refl, sym, subst}
use mathlib.Core.Bool.{not}
use mathlib.Core.List.{List}
use Prim.Native.Nat.{ℕ, zero, suc, ◌+◌, ◌-◌, ◌≤◌, ◌<◌}
use native.Mathlib.Omega.{arith}
use native.Mathlib.Numerals.{add-one}
use lib.ListN.{length}
use lib.Dec.{eqb, leb, ltb}
use borrow.Author.Tests.{ltb-true, ltb-false, leb-true, leb-false, not-true, not-false}
use Rattle.rows.specs.Tests.{tag_ok, room_ok, length_ok, value_ok, children_ok, entry_ok}
use Rattle.image.specs.Judged.{field_of, on_field, end_of, scan_from, scan, whole_of, on_end, judged}
use Rattle.rows.specs.Fields.{field_at, tag_at, length_at, body_at, closed_at, UpToTag, UpToValue, GoodField, Passed}
use Rattle.runs.specs.Nodes.{depth, visits}
use Rattle.nodes.specs.Nodes.{tree_at}
use Rattle.image.specs.Conditions.{Ending, Condition, head_cut, wrong_tag, one_more, wrong_length, body_cut, wrong_value, not_below, no_entry, too_deep, too_long, too_wide, Accepting}
use Rattle.refusals.specs.declared.Refusal.TheVariants.{Cut, Tag, Full, Length, Value, Forward, Entry}
use Rattle.std.specs.Prelude.{Result, Ok, Err}
use Rattle.refusals.specs.declared.Refused.{Refused}
use Rattle.image.specs.declared.fields.Nodes.{Nodes}
use Rattle.image.specs.declared.Outline.{Outline}
use Rattle.refusals.specs.declared.Refusal.{Refusal}
use Rattle.runs.proofs.Cases.{either, by_cond}
use Rattle.image.proofs.Endings.{EndSays, end_says}
use Rattle.rows.proofs.Rules.{fails, tag_here, room_here, length_here, value_here, child_here, entry_here}
use Rattle.rows.proofs.Standing.{next_at, first_at, few, inside, passed_more}

module _ (s : List ℕ) where
  -- of the field with k fields before it
  abbrev pub FieldSays : ℕ → Result ℕ Refusal → Type 0
  FieldSays k (Ok next) = GoodField s k × (next ≡ field_at s (suc k))
  FieldSays k (Err r) = Condition s r (field_at s k)

  -- of the verdict
  abbrev pub VerdictSays : Result Outline Refused → Type 0
  VerdictSays (Err e) = Condition s e.refusal e.place
  VerdictSays (Ok t) = Accepting s t

  judged_as : (k : ℕ) (j : Result ℕ Refusal) → field_of s (field_at s k) k (closed_at s k) ≡ j → FieldSays k j → FieldSays k (field_of s (field_at s k) k (closed_at s k))
  judged_as k j e c = subst (FieldSays k) (sym e) c

  pub field_says : (k : ℕ) → Passed s k → field_at s k < length s → FieldSays k (field_of s (field_at s k) k (closed_at s k))
  unfolding field_of
  field_says k p l =
      let at = field_at s k in
      let t = tag_at s k in
      let w = length_at s k in
      let b = body_at s k in
      either (ltb (length s - at) 3)
      (λ e. judged_as k (Err Cut) (rw e) (head_cut k p l (omega (arith, ltb-true (length s - at) 3 e))))
      (λ e1. let h : at + 3 ≤ length s = omega (arith, ltb-false (length s - at) 3 e1) in
      either (not (tag_ok k (closed_at s k) t))
      (λ e. judged_as k (Err Tag) (rw (e1, e)) (wrong_tag k p h (fails _ (tag_here s k) (not-true _ e))))
      (λ e2. let u : UpToTag s k = (h, (tag_here s k).holds (not-false _ e2)) in
      either (not (room_ok k t))
      (λ e. judged_as k (Err Full) (rw (e1, e2, e)) (one_more k p u (fails _ (room_here s k) (not-true _ e))))
      (λ e3. let r = (room_here s k).holds (not-false _ e3) in
      either (not (length_ok t w))
      (λ e. judged_as k (Err Length) (rw (e1, e2, e3, e)) (wrong_length k p (u, r) (fails _ (length_here s k) (not-true _ e))))
      (λ e4. let n = (length_here s k).holds (not-false _ e4) in
      let d = value_here s k ((u, r), n) in
      either (ltb (length s - at - 3) w)
      (λ e. judged_as k (Err Cut) (rw (e1, e2, e3, e4, e)) (body_cut k p ((u, r), n) (omega (arith, ltb-true (length s - at - 3) w e))))
      (λ e5. let i : b + w ≤ length s = omega (arith, ltb-false (length s - at - 3) w e5) in
      either (not (value_ok s t b w))
      (λ e. judged_as k (Err Value) (rw (e1, e2, e3, e4, e5, e)) (wrong_value k p (((u, r), n), i) (fails _ d (not-true _ e))))
      (λ e6. let v : UpToValue s k = ((((u, r), n), i), d.holds (not-false _ e6)) in
      either (not (children_ok s t b w k))
      (λ e. judged_as k (Err Forward) (rw (e1, e2, e3, e4, e5, e6, e)) (not_below k p v (fails _ (child_here s k) (not-true _ e))))
      (λ e7. either (not (entry_ok s t b k))
      (λ e. judged_as k (Err Entry) (rw (e1, e2, e3, e4, e5, e6, e7, e)) (no_entry k p v (fails _ (entry_here s k) (not-true _ e))))
      (λ e8. judged_as k (Ok (b + w)) (rw (e1, e2, e3, e4, e5, e6, e7, e8)) ((v, (child_here s k).holds (not-false _ e7), (entry_here s k).holds (not-false _ e8)), sym (next_at s k))))))))))

  on_field_lem : (fuel k : ℕ) (j : Result ℕ Refusal) → (GoodField s k → EndSays s (scan_from fuel s (field_at s (k + 1)) (k + 1) (eqb (tag_at s k) 8))) → FieldSays k j
      → EndSays s (on_field (field_at s k) (λ next. scan_from fuel s next (k + 1) (eqb (tag_at s k) 8)) j)
  on_field_lem fuel k (Err r) f c = c
  on_field_lem fuel k (Ok next) f g = let e : next ≡ field_at s (k + 1) = rw (add-one k) g.1 in rw e (f g.0)

  -- the scan from the field with k fields before it; a 260th field is never passed, so the fuel does not run out
  from_field : (fuel k : ℕ) → fuel + k ≡ 260 → Passed s k → EndSays s (scan_from fuel s (field_at s k) k (closed_at s k))
  unfolding scan_from
  from_field zero k e p = absurd (omega (arith, few s k p))
  from_field (suc fuel) k e p =
      let at = field_at s k in
      let go = on_field at (λ next. scan_from fuel s next (k + 1) (eqb (tag_at s k) 8)) (field_of s at k (closed_at s k)) in
      by_cond (EndSays s) (leb (length s) at) (end_of s k (closed_at s k)) go
      (λ l. end_says s k (record { passed = p; ends = omega (arith, leb-true (length s) at l, inside s k p) }))
      (λ l. on_field_lem fuel k (field_of s at k (closed_at s k)) (λ g. rw (add-one k) (from_field fuel (suc k) (omega arith) (rw (add-one k) at (passed_more s k p g)))) (field_says k p (leb-false (length s) at l)))

  pub scan_says : EndSays s (scan s)
  unfolding scan
  scan_says = rw (first_at s) at (from_field 260 0 refl (λ k l. absurd (omega arith)))

  whole_says : (n entry : ℕ) → Ending s n entry → VerdictSays (whole_of s n entry)
  unfolding whole_of
  whole_says n entry h =
      by_cond VerdictSays _ _ _
      (λ e. too_deep n entry h (ltb-true 24 (depth (tree_at s entry)) e))
      (λ e2. let d = ltb-false 24 (depth (tree_at s entry)) e2 in
      by_cond VerdictSays _ _ _
      (λ e. too_long n entry h d (ltb-true 100000 (visits (tree_at s entry)) e))
      (λ e3. let v = ltb-false 100000 (visits (tree_at s entry)) e3 in
      by_cond VerdictSays _ _ _
      (λ e. too_wide n entry h d v (ltb-true 1024 _ e))
      (λ e4. record {
        ending = h;
        shallow = d;
        short = v;
        period = refl;
        starts = refl;
        lines = refl;
        sets = refl;
        narrow = ltb-false 1024 _ e4;
      })))

  pub says : VerdictSays (judged s)
  unfolding judged
  says = by_scan (scan s) scan_says
    where
      by_scan : (e : Result Nodes Refused) → EndSays s e → VerdictSays (on_end s e)
      by_scan (Err x) c = c
      by_scan (Ok n) c = whole_says n.count n.entry c
