-- Which block an edit finds, test by test; and an edit is refused if and only if the condition for it holds.
use borrow.Author.Tests.{lt-ltb, le-ltb, eq-eqb, ne_eqb}
use mathlib.Core.Path.{◌≡◌, refl, sym, ◌∙◌, ap, subst}
use mathlib.Core.Bool.{Bool, true, false, cond}
use mathlib.Core.List.{List}
use lib.ListN.{length}
use native.Mathlib.Omega.{arith}
use Prim.Native.Nat.{ℕ, ◌≤◌, ◌<◌}
use Rattle.runs.proofs.Cases.{either}
use Rattle.image_bytes.specs.Bytes.{byte_at}
use Rattle.rows.specs.Tests.{plain_ok}
use Rattle.image.specs.Judged.{judged}
use Rattle.refusals.specs.declared.Refusal.{Refusal}
use Rattle.refusals.specs.declared.Refusal.TheVariants.{Value, Block}
use Rattle.image.specs.declared.Outline.{Outline}
use Rattle.std.specs.Prelude.{Result, Ok, Err}
use Rattle.refusals.specs.declared.Refused.{Refused}
use Rattle.refusals.specs.Refusals.{refused_at}
use Rattle.rows.proofs.Rules.{durations_kept, kept_durations}
use Rattle.image.proofs.Longest.{longest}
use Rattle.image.proofs.Reasons.{refused_when, when_refused, when_accepted, accepted_when}
use Rattle.edits.specs.Edits.{place_of, is_plain, found_for, found}
use Rattle.edits.specs.Promise.{EditCondition, unaccepted, no_block, out_of_range, Editable}
use Rattle.edits.specs.Steps.{Finding}
use Rattle.edits.proofs.Plain.{node_was, is_plain_lem, plain_is}
use Rattle.edits.proofs.Standing.{inside}

-- what `find` knows where it has read the tag of the node's field
pub record Tagged (s : List ℕ) (node : ℕ) (k : Outline) (at tag : ℕ) : Type 0 where
  pub judged_so : judged s ≡ Ok k
  pub exists : node < k.nodes
  pub place : at ≡ place_of s node
  pub read : tag ≡ byte_at s at

module _ (s : List ℕ) (node lo hi : ℕ) where
  -- ---- what `find` gives at each of its returns

  not_there : (x : Refused) → found s node lo hi ≡ Err x → Finding s node lo hi (Err x)
  not_there x e = record { is = sym e; at = λ p q. absurd (let z : ◌≡◌ {A = ℕ} 0 1 = cc in omega arith) }

  pub refused_found : (x : Refused) → judged s ≡ Err x → Finding s node lo hi (Err x)
  unfolding found
  refused_found x e = not_there x (rw e)

  pub none_found : (k : Outline) → judged s ≡ Ok k → k.nodes ≤ node → Finding s node lo hi (Err (refused_at Block (length s)))
  unfolding found
  none_found k e l = not_there (refused_at Block (length s)) (rw (e, le-ltb node k.nodes l))

  module _ (k : Outline) (at tag : ℕ) (t : Tagged s node k at tag) where
    tag_is : tag ≡ byte_at s (place_of s node)
    tag_is = t.read ∙ ap (byte_at s) t.place

    pub other_found : (tag ≡ 3 → ⊥) → Finding s node lo hi (Err (refused_at Block (length s)))
    unfolding found
    other_found n =
        not_there (refused_at Block (length s))
        (rw (t.judged_so, lt-ltb node k.nodes t.exists, ne_eqb (byte_at s (place_of s node)) 3 (λ q. n (tag_is ∙ q))))

    module _ (three : tag ≡ 3) where
      plain : byte_at s (place_of s node) ≡ 3
      plain = sym tag_is ∙ three

      by_range : (ok : Bool) → plain_ok lo hi ≡ ok → found s node lo hi ≡ cond ok (Ok at) (Err (refused_at Value at))
      unfolding found
      by_range ok p = rw (t.judged_so, lt-ltb node k.nodes t.exists, eq-eqb (byte_at s (place_of s node)) 3 plain, p, t.place)

      pub range_found : plain_ok lo hi ≡ false → Finding s node lo hi (Err (refused_at Value at))
      range_found p = not_there (refused_at Value at) (by_range false p)

      pub at_found : plain_ok lo hi ≡ true → Finding s node lo hi (Ok at)
      at_found p =
          let a = when_accepted s k t.judged_so in
          let r = durations_kept lo hi p in
          let d : Editable s node lo hi = record { outline = k; accepting = a; block = record { exists = t.exists; plain = (_, _, node_was s node plain) }; durations = r } in
          record {
            is = sym (by_range true p);
            at = λ place q.
                let here : at ≡ place = cc in
                let there = t.place in
                (sym here ∙ there, record { inside = omega (arith, inside s node lo hi d); low = omega (arith, r.order, r.most); high = r.most }, longest s k a);
          }

  -- ---- the conditions

  abbrev Because : Refused → Type 0
  Because x = EditCondition s node lo hi x.refusal x.place

  because_for : (v : Result Outline Refused) → judged s ≡ v → (x : Refused) → found_for s node lo hi v ≡ Err x → EditCondition s node lo hi x.refusal x.place
  because_for (Err y) e x q = let w : y ≡ x = cc in subst Because w (unaccepted y.refusal y.place (when_refused s y.refusal y.place e))
  because_for (Ok k) e x q =
      let a = when_accepted s k e in
      either (is_plain s k node)
      (λ t. either (plain_ok lo hi)
      (λ u. absurd (let f = rw (t, u) at q in let z : ◌≡◌ {A = ℕ} 0 1 = cc in omega arith))
      (λ u.
      let f = rw (t, u) at q in
      let w : refused_at Value (place_of s node) ≡ x = cc in
      subst Because w (out_of_range k a (plain_is s node k t) (λ d. never (sym (kept_durations lo hi d) ∙ u)))))
      (λ t.
      let f = rw t at q in
      let w : refused_at Block (length s) ≡ x = cc in
      subst Because w (no_block k a (λ d. never (sym (is_plain_lem s node k d) ∙ t))))
    where
      never : true ≡ false → ⊥
      never q = let z : ◌≡◌ {A = ℕ} 0 1 = cc in omega arith

  pub edit_because : (x : Refused) → found s node lo hi ≡ Err x → EditCondition s node lo hi x.refusal x.place
  unfolding found
  edit_because x q = because_for (judged s) refl x q

  pub edit_whenever : (r : Refusal) (place : ℕ) → EditCondition s node lo hi r place → found s node lo hi ≡ Err (refused_at r place)
  unfolding found
  edit_whenever r place (unaccepted _ _ c) = rw (refused_when s r place c)
  edit_whenever Block _ (no_block k a n) =
      rw (accepted_when s k a)
      (either (is_plain s k node) (λ t. absurd (n (plain_is s node k t))) (λ t. rw t))
  edit_whenever Value _ (out_of_range k a p n) =
      rw (accepted_when s k a, is_plain_lem s node k p)
      (either (plain_ok lo hi) (λ t. absurd (n (durations_kept lo hi t))) (λ t. rw t))

  -- the edit is done if and only if it is possible
  pub found_when : Editable s node lo hi → found s node lo hi ≡ Ok (place_of s node)
  unfolding found
  found_when d = rw (accepted_when s d.outline d.accepting, is_plain_lem s node d.outline d.block, kept_durations lo hi d.durations)

  pub when_found : (place : ℕ) → found s node lo hi ≡ Ok place → Editable s node lo hi
  unfolding found
  when_found place q = by_verdict (judged s) refl q
    where
      by_verdict : (v : Result Outline Refused) → judged s ≡ v → found_for s node lo hi v ≡ Ok place → Editable s node lo hi
      by_verdict (Err x) e q = absurd (let z : ◌≡◌ {A = ℕ} 0 1 = cc in omega arith)
      by_verdict (Ok k) e q =
          either (is_plain s k node)
          (λ t. either (plain_ok lo hi)
          (λ u. record { outline = k; accepting = when_accepted s k e; block = plain_is s node k t; durations = durations_kept lo hi u })
          (λ u. absurd (let f = rw (t, u) at q in let z : ◌≡◌ {A = ℕ} 0 1 = cc in omega arith)))
          (λ t. absurd (let f = rw t at q in let z : ◌≡◌ {A = ℕ} 0 1 = cc in omega arith))
