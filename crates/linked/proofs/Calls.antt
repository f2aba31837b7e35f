-- What each return of the calls leaves is what the definitions say.
use borrow.Author.Tests.{lt-ltb, le-ltb, ltb-false}
use mathlib.Core.Path.{◌≡◌, refl, sym, ◌∙◌, ap, ap₂, subst}
use mathlib.Core.Bool.{Bool, true, false, cond}
use mathlib.Core.List.{List, [], ◌∷◌, ◌++◌}
use lib.ListN.{length, drop, set, get_or-append}
use lib.Dec.{ltb}
use native.Mathlib.Omega.{arith}
use Prim.Native.Nat.{ℕ, ◌≤◌, ◌<◌}
use Rattle.image_bytes.specs.Bytes.{byte_at}
use Rattle.image.specs.Judged.{numbered_of, numbered}
use Rattle.refusals.specs.Refusals.{number_of}
use Rattle.image.specs.Promise.{Judging}
use Rattle.std.specs.Prelude.{Result as Outcome, Ok, Err, ⊤}
use Rattle.refusals.specs.declared.Refused.{Refused}
use Rattle.image.specs.declared.Outline.{Outline}
use Rattle.answers.specs.declared.Totals.{Totals}
use Rattle.answers.specs.Answers.{Result, result_of}
use Rattle.answers.proofs.Promises.{runs}
use Rattle.edits.specs.Edits.{found, change_for, change_of, image_with}
use Rattle.edits.specs.Promise.{Editable, Editing, Leaves}
use Rattle.edits.proofs.Standing.{still_accepted}
use Rattle.edits.proofs.Finds.{when_found}
use Rattle.edits.proofs.Laws.{edit_is, change_is, leaves}
use Rattle.previews.specs.Promise.{Previewing}
use Rattle.previews.proofs.Laws.{preview_is}
use Rattle.graph.specs.declared.Answer.{Answer as FinishesFound}
use Rattle.graph.specs.Table.{Result as FinishesResult, result_by as finishesBy, finishes_of, answer as finishesAnswer}
use Rattle.graph.specs.Promise.{Equal as FinishesEqual}
use Rattle.graph.proofs.Tables.{answer_given, finishes_length}
use Rattle.graph.proofs.Promises.{finishing}
use Rattle.lent.specs.Answers.{done_into, refused_into, beside}
use Rattle.linked.specs.Linked.{judged_into, judge_call, figures_into, answer_call, figures_call, WholeFigures, changed_into, edit_call, WholeEdit, preview_call, WholePreview, finishes_into, finishes_call, WholeFinishes}

-- ---- the first places of a slice

pub put_third : (s : List ℕ) (a b c : ℕ) → 3 ≤ length s → set (a ∷ b ∷ drop 2 s) 2 c ≡ a ∷ b ∷ c ∷ drop 3 s
put_third [] a b c h = absurd (omega arith)
put_third (x ∷ []) a b c h = absurd (omega arith)
put_third (x ∷ y ∷ []) a b c h = absurd (omega arith)
put_third (x ∷ y ∷ z ∷ s) a b c h = refl

-- ---- judging

module _ (s lent : List ℕ) where
  pub judge_short : length lent < 2 → judge_call s lent ≡ (2, lent)
  unfolding judge_call
  judge_short h = ap (λ (t : Bool). cond t (2, lent) (judged_into (numbered s) lent)) (lt-ltb (length lent) 2 h)

  module _ (long : 2 ≤ length lent) (v : Outcome Outline Refused) (places : List ℕ) (j : Judging s v places) where
    judge_is : judge_call s lent ≡ judged_into (numbered_of s v) lent
    unfolding judge_call
    judge_is =
        ap (λ (t : Bool). cond t (2, lent) (judged_into (numbered s) lent)) (le-ltb (length lent) 2 long)
        ∙ ap (λ (x : Outcome Outline Refused). judged_into (numbered_of s x) lent) (sym j.is)

    pub judge_accepted : (k : Outline) (after : List ℕ) → v ≡ Ok k → after ≡ 0 ∷ k.period ∷ drop 2 lent → judge_call s lent ≡ (0, after)
    judge_accepted k after e h =
        judge_is ∙ ap (λ (x : Outcome Outline Refused). judged_into (numbered_of s x) lent) e
        ∙ ap (λ (n : ℕ). (0, 0 ∷ n ∷ drop 2 lent)) (sym (j.accepted k e).period) ∙ ap (λ (l : List ℕ). (0, l)) (sym h)

    pub judge_refused : (r : Refused) (call : ℕ × List ℕ) → v ≡ Err r → refused_into (number_of r.refusal) r.place lent ≡ call
        → judge_call s lent ≡ call
    judge_refused r call e h = judge_is ∙ ap (λ (x : Outcome Outline Refused). judged_into (numbered_of s x) lent) e ∙ h

-- ---- an answer with figures

module _ (lent : List ℕ) (a : Outcome Totals Refused) where
  pub told_given : 3 ≤ length lent → (f : Totals) (after : List ℕ) → a ≡ Ok f → after ≡ f.tight ∷ f.published ∷ drop 2 lent
      → figures_into (result_of a) lent ≡ (0, set after 2 f.exits)
  told_given long f after g h =
      ap (λ (x : Outcome Totals Refused). figures_into (result_of x) lent) g
      ∙ ap (λ (l : List ℕ). (0, l)) (sym (put_third lent f.tight f.published f.exits long))
      ∙ ap (λ (l : List ℕ). (0, set l 2 f.exits)) (sym h)

  pub told_refused : (r : Refused) (call : ℕ × List ℕ) → a ≡ Err r → refused_into (number_of r.refusal) r.place lent ≡ call
      → figures_into (result_of a) lent ≡ call
  told_refused r call g h = ap (λ (x : Outcome Totals Refused). figures_into (result_of x) lent) g ∙ h

module _ (result : Result) (filled table lent : List ℕ) where
  pub told_short : length lent < 3 → answer_call result filled table lent ≡ (2, table, lent)
  unfolding answer_call
  told_short h = rw (lt-ltb (length lent) 3 h)

  pub told_call : 3 ≤ length lent → (a : Outcome Totals Refused) (after : List ℕ) → result_of a ≡ result → after ≡ filled → (status : ℕ) (found : List ℕ)
      → figures_into (result_of a) lent ≡ (status, found) → answer_call result filled table lent ≡ (status, after, found)
  unfolding answer_call
  told_call long a after e h status found t =
      rw (le-ltb (length lent) 3 long, h, ← e) (ap (beside filled) t)

-- ---- the figures: demand 3

-- what the program finds of an accepted image
pub whole_figures : (s before lent : List ℕ) (status : ℕ) (table said : List ℕ) → figures_call s before lent ≡ (status, table, said)
    → WholeFigures s before lent status table said
unfolding answer_call
whole_figures s before lent status table said is k e room long =
    let enough = le-ltb (length before) k.period (omega (arith, room)) in
    let q = rw (le-ltb (length lent) 3 (omega (arith, long)), e, enough) at is in
    let found = ap (λ (x : ℕ × List ℕ × List ℕ). x.2) q in
    let left = ap (λ (x : ℕ × List ℕ × List ℕ). x.1) q in
    (sym (ap (λ (x : ℕ × List ℕ × List ℕ). x.0) q), rw (← found, ← left) (runs s before k e _ _ _ _ (rw enough) (rw enough)))

-- ---- an edit

module _ (s : List ℕ) (node lo hi : ℕ) (lent : List ℕ) where
  pub edit_short : length lent < 2 → edit_call s node lo hi lent ≡ (2, s, lent)
  unfolding edit_call
  edit_short h = rw (lt-ltb (length lent) 2 h)

  pub edit_call_lem : 2 ≤ length lent → (r : Outcome ⊤ Refused) (image : List ℕ) → Editing s node lo hi r image → (x : Outcome ⊤ Refused) → r ≡ x
      → (status : ℕ) (found : List ℕ) → changed_into (change_of x) lent ≡ (status, found) → edit_call s node lo hi lent ≡ (status, image, found)
  unfolding edit_call
  edit_call_lem long r image e x q status found h =
      rw (le-ltb (length lent) 2 long, ← e.image, ← e.result, q) (ap (beside image) h)

  -- what the program finds
  pub whole_edit : ((i : ℕ) → byte_at s i < 256) → (status : ℕ) (image said : List ℕ) → edit_call s node lo hi lent ≡ (status, image, said)
      → WholeEdit s node lo hi lent status image
  unfolding edit_call
  whole_edit small status image said e =
      record { possible = λ z. let w = by_places (ltb (length lent) 2) (found s node lo hi) refl refl z in (w.0, omega (arith, w.1)); done = λ d long. when_possible d (omega (arith, long)) }
    where
      by_found : (f : Outcome ℕ Refused) → found s node lo hi ≡ f → (changed_into (change_for f) lent).0 ≡ 0 → Editable s node lo hi
      by_found (Ok place) q z = when_found s node lo hi place q
      by_found (Err r) q z = absurd (omega arith)

      by_places : (short : Bool) (f : Outcome ℕ Refused) → ltb (length lent) 2 ≡ short → found s node lo hi ≡ f → status ≡ 0
          → Editable s node lo hi × (2 ≤ length lent)
      by_places true f p q z = absurd (let w = ap (λ (x : ℕ × List ℕ × List ℕ). x.0) (rw p at e) in omega arith)
      by_places false f p q z = (by_found f q (ap (λ (x : ℕ × List ℕ × List ℕ). x.0) (rw (p, q) at e) ∙ z), omega (arith, ltb-false (length lent) 2 p))

      when_possible : (d : Editable s node lo hi) → 2 ≤ length lent → (status ≡ 0) × Leaves s d.outline node lo hi image
      when_possible d long =
          let q = rw (le-ltb (length lent) 2 long, edit_is s node lo hi d, change_is s node lo hi d) at e in (
            sym (ap (λ (x : ℕ × List ℕ × List ℕ). x.0) q),
            subst (Leaves s d.outline node lo hi) (ap (λ (x : ℕ × List ℕ × List ℕ). x.1) q) (leaves s node lo hi d small),
          )

-- ---- a preview: demand 3

module _ (s : List ℕ) (node lo hi : ℕ) (before lent : List ℕ) where
  -- the figures of the edited image
  fresh : Editable s node lo hi → figures_call (image_with s node lo hi) before lent ≡ preview_call s node lo hi before lent
  fresh d =
      let p = preview_is s node lo hi d before in
      ap₂ (λ (r : Result) (t : List ℕ). answer_call r t before lent) (sym p.0) (sym p.1)

  whole_preview : (status : ℕ) (table said : List ℕ) → preview_call s node lo hi before lent ≡ (status, table, said)
      → (status ≡ 0 → (d : Editable s node lo hi) × (d.outline.period ≤ length before) × (3 ≤ length lent))
      → WholePreview s node lo hi before lent status table said
  whole_preview status table said is p = record {
    possible = p;
    given = λ d room long.
        whole_figures (image_with s node lo hi) before lent status table said (fresh d ∙ is) d.outline (still_accepted s node lo hi d)
        (omega (arith, room)) (omega (arith, long));
    fresh = λ d. fresh d ∙ is;
  }

  pub no_preview : (table said : List ℕ) → preview_call s node lo hi before lent ≡ (2, table, said) → WholePreview s node lo hi before lent 2 table said
  no_preview table said is = whole_preview 2 table said is (λ z. absurd (omega arith))

  pub told_preview : 3 ≤ length lent → (a : Outcome Totals Refused) (status : ℕ) (table said : List ℕ) → Previewing s node lo hi before a table
      → figures_into (result_of a) lent ≡ (status, said) → preview_call s node lo hi before lent ≡ (status, table, said) → WholePreview s node lo hi before lent status table said
  told_preview enough a status table said p e is = whole_preview status table said is (λ z. by_answer a refl (ap (λ (x : ℕ × List ℕ). x.0) e ∙ z))
    where
      by_answer : (x : Outcome Totals Refused) → a ≡ x → (figures_into (result_of x) lent).0 ≡ 0
          → (d : Editable s node lo hi) × (d.outline.period ≤ length before) × (3 ≤ length lent)
      by_answer (Ok t) q z = let w = p.possible t q in (w.0, omega (arith, w.1), omega (arith, enough))
      by_answer (Err r) q z = absurd (omega arith)

-- ---- the finishes

module _ (table before lent : List ℕ) where
  pub answer_short : length lent < 2 → finishes_call table before lent ≡ (2, before, lent)
  unfolding finishes_call
  answer_short h = rw (lt-ltb (length lent) 2 h)

  pub finishes_short : 2 ≤ length lent → length before < 64 → finishes_call table before lent ≡ (2, before, lent)
  unfolding finishes_call
  finishes_short l h = rw (le-ltb (length lent) 2 l, lt-ltb (length before) 64 h)

  module _ (room : 64 ≤ length before) (long : 2 ≤ length lent) where
    -- with places enough it goes by the definition's answer
    finishes_by : (r : FinishesResult) → finishesAnswer table ≡ r → finishes_call table before lent ≡ finishes_into r before lent
    unfolding finishes_call
    finishes_by r e = rw (le-ltb (length lent) 2 long, le-ltb (length before) 64 room) (ap (λ (x : FinishesResult). finishes_into x before lent) e)

    module _ (a : FinishesFound) (e : FinishesEqual table a) (filled : List ℕ) (is : filled ≡ a.finishes ++ drop 64 before) where
      finishes_is : (v : Outcome ⊤ ℕ) → a.verdict ≡ v → finishes_call table before lent ≡ finishes_into (finishesBy v a.finishes) before lent
      finishes_is v q = finishes_by (finishesBy v a.finishes) (sym e ∙ ap (λ (x : Outcome ⊤ ℕ). finishesBy x a.finishes) q)

      pub finishes_given : (status : ℕ) (after : List ℕ) → a.verdict ≡ Ok tt → done_into lent ≡ (status, after)
          → finishes_call table before lent ≡ (status, filled, after)
      finishes_given status after v q = rw is (finishes_is (Ok tt) v ∙ ap (beside (a.finishes ++ drop 64 before)) q)

      pub finishes_refused : (place : ℕ) (after : List ℕ) → a.verdict ≡ Err place → after ≡ 21 ∷ place ∷ drop 2 lent
          → finishes_call table before lent ≡ (1, filled, after)
      finishes_refused place after v q = rw (is, q) (finishes_is (Err place) v)

  -- what the program finds of an accepted table
  pub whole_finishes : (status : ℕ) (after said : List ℕ) → finishes_call table before lent ≡ (status, after, said) → WholeFinishes table before lent status after
  whole_finishes status after said e n ok room long =
      let q = sym e ∙ finishes_by (omega (arith, room)) (omega (arith, long)) _ (answer_given table n ok) in
      let f : after ≡ finishes_of table ++ drop 64 before = ap (λ (x : ℕ × List ℕ × List ℕ). x.1) q in (
        ap (λ (x : ℕ × List ℕ × List ℕ). x.0) q,
        finishing table n ok after
            (λ i l. rw f (get_or-append (finishes_of table) (drop 64 before) 0 i (omega (arith, finishes_length table, ok.size.most)))),
      )
