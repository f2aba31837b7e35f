-- What `judge` promises, from the end of the scan: the verdict is the definition's, so its conditions and its soundness are too.
use mathlib.Core.Path.{◌≡◌, sym, ◌∙◌, subst}
use mathlib.Core.List.{List}
use Prim.Native.Nat.{ℕ, ◌+◌}
use native.Mathlib.Omega.{arith}
use lib.ListN.{get_or}
use lib.Seq.{ext_get_or}
use borrow.Author.Tests.{lt-ltb, le-ltb}
use Rattle.runs.proofs.Cases.{split}
use Rattle.runs.proofs.Joins.{row_length}
use Rattle.runs.proofs.Meanings.{row_at_lem}
use Rattle.rows.specs.Fields.{field_at}
use Rattle.image.specs.Tasks.{node_places}
use Rattle.image.specs.Judged.{judged}
use Rattle.image.specs.Promise.{Judging}
use Rattle.image.specs.Walks.{Sound}
use Rattle.image.specs.Inner.{PlacedAll, Scanned}
use Rattle.std.specs.Prelude.{Result, Ok}
use Rattle.refusals.specs.declared.Refused.{Refused}
use Rattle.image.specs.Judged.{holding}
use Rattle.image.specs.declared.Outline.{Outline}
use Rattle.image.specs.declared.fields.Nodes.{Nodes}
use Rattle.rows.proofs.Standing.{unclosed_few}
use Rattle.image.proofs.Endings.{whole_scan, nodes_stand}
use Rattle.image.proofs.Reasons.{refused_when, when_refused, when_accepted}
use Rattle.image.proofs.Sounds.{sound}

-- the places of the nodes, where the scan ended with m of them
placed_is : (s places : List ℕ) (m : ℕ) → PlacedAll s m places → places ≡ node_places s m
placed_is s places m p =
    ext_get_or 0 places (node_places s m) (p.long ∙ sym (row_length 256 _))
    (λ k l. split m k
    (λ h. p.behind k h ∙ sym (row_at_lem 256 _ k 0 (omega (arith, p.long)) ∙ rw (le-ltb k m h)))
    (λ h. p.each k h ∙ sym (row_at_lem 256 _ k 0 (omega (arith, p.long)) ∙ rw (lt-ltb k m h))))

-- what the scan gives, and the definition's verdict
pub promised : (s places : List ℕ) (end : Result Nodes Refused) (v : Result Outline Refused) → Scanned s end places → v ≡ judged s → Judging s v places
promised s places end v f e =
    record {
      is = e;
      because = λ x q. when_refused s x.refusal x.place (sym e ∙ q);
      whenever = λ x c. e ∙ refused_when s x.refusal x.place c;
      accepted = λ t q. when_accepted s t (sym e ∙ q);
      placed = λ t q. placed_is s places t.nodes (f.placed (holding t.nodes t.entry) (f.is ∙ whole_scan s t.nodes t.entry (when_accepted s t (sym e ∙ q)).ending));
    }

-- so an accepted image is sound
pub judged_sound : (s places : List ℕ) (v : Result Outline Refused) (t : Outline) → Judging s v places → v ≡ Ok t → Sound s t places
judged_sound s places v t j e =
    sound s t (j.accepted t e) places
    (λ k l. subst (λ (xs : List ℕ). get_or xs k 0 ≡ field_at s (k + 2)) (sym (j.placed t e)) (row_at_lem 256 _ k 0 (omega (arith, unclosed_few s _ (nodes_stand s _ _ (j.accepted t e).ending))) ∙ rw (lt-ltb k t.nodes l)))
