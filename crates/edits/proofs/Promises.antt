-- What `edit` promises, from what `find` found.
use mathlib.Core.Path.{◌≡◌, refl, sym, ◌∙◌, ap, subst}
use mathlib.Core.List.{List}
use native.Mathlib.Omega.{arith}
use Prim.Native.Nat.{ℕ, ◌+◌, ◌<◌}
use Rattle.image_bytes.specs.Bytes.{byte_at}
use Rattle.std.specs.Prelude.{Result, Ok, Err}
use Rattle.refusals.specs.declared.Refused.{Refused}
use Rattle.edits.specs.Edits.{with_durations, image_with, found}
use Rattle.edits.specs.Promise.{Editable, Editing, Leaves, EditDone}
use Rattle.edits.specs.Steps.{Finding}
use Rattle.edits.proofs.Laws.{leaves}
use Rattle.edits.proofs.Finds.{edit_because, edit_whenever, found_when, when_found}

module _ (s : List ℕ) (node lo hi : ℕ) (f : Result ℕ Refused) (h : Finding s node lo hi f) where
  -- ---- the edit is refused

  module _ (r : Refused) (e : f ≡ Err r) where
    pub not_found : found s node lo hi ≡ Err r
    not_found = sym h.is ∙ e

    pub impossible : Editable s node lo hi → ⊥
    impossible d = let w = found_when s node lo hi d in let q = not_found in let z : ◌≡◌ {A = ℕ} 0 1 = cc in omega arith

    pub same_refusal : (x : Refused) → found s node lo hi ≡ Err x → r ≡ x
    same_refusal x w = let g : ◌≡◌ {A = Result ℕ Refused} (Err r) (Err x) = sym not_found ∙ w in cc

    pub edit_refused : Editing s node lo hi (Err r) s
    edit_refused = record {
      result = rw not_found;
      image = rw not_found;
      because = λ x c. let a : r ≡ x = cc in rw (← a) (edit_because s node lo hi r not_found);
      whenever = λ x c. rw (same_refusal x (edit_whenever s node lo hi x.refusal x.place c));
      possible = λ c. absurd (let z : ◌≡◌ {A = ℕ} 0 1 = cc in omega arith);
    }

    pub refused_done : EditDone s node lo hi (Err r) s
    refused_done d = absurd (impossible d)

  -- ---- the edit is possible

  module _ (place : ℕ) (e : f ≡ Ok place) where
    pub at_place : found s node lo hi ≡ Ok place
    at_place = sym h.is ∙ e

    pub there : with_durations s (place + 3) lo hi ≡ image_with s node lo hi
    there = ap (λ (n : ℕ). with_durations s (n + 3) lo hi) (h.at place e).0

    pub not_refused : (x : Refused) → found s node lo hi ≡ Err x → ⊥
    not_refused x w = let q = at_place in let z : ◌≡◌ {A = ℕ} 0 1 = cc in omega arith

    module _ (after : List ℕ) (w : after ≡ with_durations s (place + 3) lo hi) where
      pub edit_done : Editing s node lo hi (Ok tt) after
      edit_done = record {
        result = rw at_place;
        image = rw at_place (w ∙ there);
        because = λ x c. absurd (let z : ◌≡◌ {A = ℕ} 0 1 = cc in omega arith);
        whenever = λ x c. absurd (not_refused x (edit_whenever s node lo hi x.refusal x.place c));
        possible = λ c. when_found s node lo hi place at_place;
      }

      pub done_done : ((i : ℕ) → byte_at s i < 256) → EditDone s node lo hi (Ok tt) after
      done_done small d = (refl, subst (Leaves s d.outline node lo hi) (sym (w ∙ there)) (leaves s node lo hi d small))
