-- Demand 1: an image is refused for a reason at a place if and only if the condition of that row of the table holds there, and accepted
-- if and only if none holds. Each way follows the fields that are good before: the scan passes them, and the next test decides.
use mathlib.Core.Path.{◌≡◌, refl, sym, ◌∙◌, subst}
use mathlib.Core.Logic.{◌⊎◌, inl, inr, ⊎_elim}
use mathlib.Core.Bool.{true, false}
use mathlib.Core.List.{List}
use Prim.Native.Nat.{ℕ, ◌+◌, ◌-◌, ◌*◌, ◌≤◌, ◌<◌}
use native.Mathlib.Omega.{arith}
use lib.ListN.{length}
use lib.Dec.{ltb}
use borrow.Author.Tests.{lt-ltb, le-ltb}
use Rattle.runs.specs.Lines.{power}
use Rattle.runs.specs.Nodes.{depth, visits}
use Rattle.schedule.specs.Said.{said}
use Rattle.image.specs.Judged.{field_of, end_of, scan, whole_of, judged}
use Rattle.refusals.specs.Refusals.{number_of}
use Rattle.rows.specs.Fields.{field_at, tag_at, length_at, body_at, closed_at, Passed}
use Rattle.nodes.specs.Nodes.{lines_of, tree_at}
use Rattle.image.specs.Conditions.{Complete, Ending, Condition, head_cut, wrong_tag, one_more, wrong_length, body_cut, wrong_value, not_below, no_entry, no_node, too_deep, too_long, too_wide, Accepting}
use Rattle.refusals.specs.declared.Refusal.{Refusal}
use Rattle.refusals.specs.declared.Refusal.TheVariants.{Cut, Tag, Full, Length, Value, Forward, Unfinished, Deep, Long, Entry, Lines, Table, Register, Busy, Forbidden, Block}
use Rattle.std.specs.Prelude.{Result, Ok, Err}
use Rattle.refusals.specs.declared.Refused.{Refused}
use Rattle.refusals.specs.Refusals.{refused_at}
use Rattle.image.specs.declared.fields.Nodes.{Nodes}
use Rattle.image.specs.declared.Outline.{Outline}
use Rattle.rows.proofs.Rules.{refused, tag_here, room_here, length_here, value_here, child_here, entry_here}
use Rattle.rows.specs.Rules.{EntryRule}
use Rattle.rows.specs.Tests.{children_ok}
use Rattle.schedule.proofs.Numbers.{eq_or_ne}
use Rattle.image.proofs.Passing.{stops, ends}
use Rattle.image.proofs.Endings.{whole_scan, EndSays}
use Rattle.image.proofs.Says.{VerdictSays, says, scan_says}

module _ (s : List ℕ) where
  stopped : (k : ℕ) (r : Refusal) → Passed s k → field_at s k < length s → field_of s (field_at s k) k (closed_at s k) ≡ Err r → judged s ≡ Err (refused_at r (field_at s k))
  unfolding judged
  stopped k r p l e = rw (stops s k r p l e)

  whole : (n entry : ℕ) → Ending s n entry → judged s ≡ whole_of s n entry
  unfolding judged
  whole n entry h = rw (whole_scan s n entry h)

  unfinished : (n : ℕ) → Complete s n → n < 3 → judged s ≡ Err (refused_at Unfinished (length s))
  unfolding judged end_of
  unfinished n c h = rw (ends s n c, lt-ltb n 3 h)

  -- the head stands; the body does
  head : (k : ℕ) → field_at s k + 3 ≤ length s → ltb (length s - field_at s k) 3 ≡ false
  head k h = le-ltb (length s - field_at s k) 3 (omega arith)

  body : (k : ℕ) → body_at s k + length_at s k ≤ length s → ltb (length s - field_at s k - 3) (length_at s k) ≡ false
  body k h = le-ltb (length s - field_at s k - 3) (length_at s k) (omega arith)

  -- a field that breaks the rule of tag 8 has tag 8, and so no child numbers
  childless : (k : ℕ) → (EntryRule s (tag_at s k) (body_at s k) (k - 2) → ⊥) → children_ok s (tag_at s k) (body_at s k) (length_at s k) k ≡ true
  unfolding children_ok
  childless k e = ⊎_elim (λ t. rw t) (λ ne. absurd (e (λ t. absurd (ne t)))) (eq_or_ne (tag_at s k) 8)

  pub refused_when : (r : Refusal) (place : ℕ) → Condition s r place → judged s ≡ Err (refused_at r place)
  unfolding field_of whole_of
  refused_when Table place c = elim c [ ]
  refused_when Register place c = elim c [ ]
  refused_when Busy place c = elim c [ ]
  refused_when Forbidden place c = elim c [ ]
  refused_when Block place c = elim c [ ]
  refused_when Cut _ (head_cut k p l h) = stopped k Cut p l (simp (lt-ltb (length s - field_at s k) 3 (omega arith)))
  refused_when Tag _ (wrong_tag k p h a) = stopped k Tag p (omega arith) (simp (head k h, refused _ (tag_here s k) a))
  refused_when Full _ (one_more k p (h, a) r) = stopped k Full p (omega arith) (simp (head k h, (tag_here s k).passes a, refused _ (room_here s k) r))
  refused_when Length _ (wrong_length k p ((h, a), r) n) =
      stopped k Length p (omega arith) (simp (head k h, (tag_here s k).passes a, (room_here s k).passes r, refused _ (length_here s k) n))
  refused_when Cut _ (body_cut k p (((h, a), r), n) c) =
      stopped k Cut p (omega arith)
      (simp (head k h, (tag_here s k).passes a, (room_here s k).passes r, (length_here s k).passes n, lt-ltb (length s - field_at s k - 3) (length_at s k) (omega arith)))
  refused_when Value _ (wrong_value k p ((((h, a), r), n), i) v) =
      stopped k Value p (omega arith)
      (simp (head k h, (tag_here s k).passes a, (room_here s k).passes r, (length_here s k).passes n, body k i, refused _ (value_here s k (((h, a), r), n)) v))
  refused_when Forward _ (not_below k p (((((h, a), r), n), i), v) c) =
      stopped k Forward p (omega arith)
      (simp (head k h, (tag_here s k).passes a, (room_here s k).passes r, (length_here s k).passes n, body k i, (value_here s k (((h, a), r), n)).passes v, refused _ (child_here s k) c))
  refused_when Entry _ (no_entry k p (((((h, a), r), n), i), v) e) =
      stopped k Entry p (omega arith)
      (simp (head k h, (tag_here s k).passes a, (room_here s k).passes r, (length_here s k).passes n, body k i, (value_here s k (((h, a), r), n)).passes v, childless k e, refused _ (entry_here s k) e))
  refused_when Unfinished _ (no_node n c h) = unfinished n c h
  refused_when Deep _ (too_deep n e x d) = whole n e x ∙ simp (lt-ltb 24 (depth (tree_at s e)) d)
  refused_when Long _ (too_long n e x d v) = whole n e x ∙ simp (le-ltb 24 (depth (tree_at s e)) d, lt-ltb 100000 (visits (tree_at s e)) v)
  refused_when Lines _ (too_wide n e x d v w) =
      whole n e x
      ∙ simp (
        le-ltb 24 (depth (tree_at s e)) d,
        le-ltb 100000 (visits (tree_at s e)) v,
        lt-ltb 1024 ((said s).period * power (lines_of s n)) w,
      )

  pub when_refused : (r : Refusal) (place : ℕ) → judged s ≡ Err (refused_at r place) → Condition s r place
  when_refused r place e = subst (VerdictSays s) e (says s)

  pub when_accepted : (t : Outline) → judged s ≡ Ok t → Accepting s t
  when_accepted t e = subst (VerdictSays s) e (says s)

  -- a whole scan ends with the image: its fuel never runs out
  pub whole_ends : (n : Nodes) → scan s ≡ Ok n → Ending s n.count n.entry
  whole_ends n e = subst (EndSays s) e (scan_says s)

  pub accepted_when : (t : Outline) → Accepting s t → judged s ≡ Ok t
  unfolding whole_of
  accepted_when t a =
      whole t.nodes t.entry a.ending
      ∙ simp (
        le-ltb 24 (depth (tree_at s t.entry)) a.shallow,
        le-ltb 100000 (visits (tree_at s t.entry)) a.short,
        sym a.lines,
        sym a.sets,
        sym a.period,
        le-ltb 1024 (t.period * t.sets) a.narrow,
        sym a.starts,
      )

  -- judging answers the first nine of the list, 11 and 18
  pub own_numbers : (r : Refusal) (place : ℕ) → judged s ≡ Err (refused_at r place) → (number_of r ≤ 9) ⊎ ((number_of r ≡ 11) ⊎ (number_of r ≡ 18))
  own_numbers r place e = own (when_refused r place e)
    where
      own : {r' : Refusal} {place' : ℕ} → Condition s r' place' → (number_of r' ≤ 9) ⊎ ((number_of r' ≡ 11) ⊎ (number_of r' ≡ 18))
      own (head_cut k p l h) = inl (omega arith)
      own (wrong_tag k p h t) = inl (omega arith)
      own (one_more k p u r) = inl (omega arith)
      own (wrong_length k p u l) = inl (omega arith)
      own (body_cut k p u b) = inl (omega arith)
      own (wrong_value k p u v) = inl (omega arith)
      own (not_below k p u c) = inl (omega arith)
      own (no_entry k p u e) = inr (inl refl)
      own (no_node n c h) = inl (omega arith)
      own (too_deep n e c h) = inl (omega arith)
      own (too_long n e c h v) = inl (omega arith)
      own (too_wide n e c h v w) = inr (inr refl)

  -- "The first that holds is returned; an image is accepted when none holds."
  pub accepted_if_none : ((r : Refusal) (place : ℕ) → Condition s r place → ⊥) → (t : Outline) × (judged s ≡ Ok t)
  accepted_if_none free = by_verdict (judged s) refl
    where
      by_verdict : (v : Result Outline Refused) → judged s ≡ v → (t : Outline) × (judged s ≡ Ok t)
      by_verdict (Ok t) e = (t, e)
      by_verdict (Err x) e = absurd (free x.refusal x.place (when_refused x.refusal x.place e))

  pub none_if_accepted : (t : Outline) → judged s ≡ Ok t → (r : Refusal) (place : ℕ) → Condition s r place → ⊥
  none_if_accepted t e r place c = let f = refused_when r place c in let z : ◌≡◌ {A = ℕ} 0 1 = cc in omega arith
