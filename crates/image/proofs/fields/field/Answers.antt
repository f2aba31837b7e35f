use borrow.Author.Rules.{rules}
use Rattle.rows.proofs.Kept.{later_field}
use mathlib.Core.Path.{sym, ◌∙◌}
use Rattle.image.proofs.fields.field.Goals as goal

pub value_ok-kept-requires : goal.value_ok-kept-requires
value_ok-kept-requires c =
    let ok = sym c.tag_ok.ensures ∙ c.if-not-tag_ok.false in
    (search rules, search rules, λ n m. c.requires.1 (later_field _ _ _ ok n m))
