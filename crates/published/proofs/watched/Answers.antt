use mathlib.Core.Path.{◌≡◌, refl, sym, ◌∙◌, ap}
use mathlib.Core.Bool.{true, false, true≢false}
use borrow.Author.Rules.{rules}
use Rattle.offsets.specs.Sets.{value}
use Rattle.cycles.specs.Cycles.{renews}
use Rattle.published.proofs.Watching.{watched_by}
use Rattle.published.proofs.watched.Goals as goal

pub returns-then-is_due : goal.returns-then-is_due
returns-then-is_due c =
    let a = c.args in
    let due : renews c.seen-watch.result.search ≡ true = search rules in
    watched_by a.p a.kept _ a.w c.eq-same.result c.seen-watch.result c.requires.2 c.seen-watch.ensures
    (λ t. ap value (search rules)) (λ e. refl) (λ e. absurd (true≢false (sym due ∙ e)))

pub returns : goal.returns
returns c =
    let a = c.args in
    let not_due : renews c.seen-watch.result.search ≡ false = search rules in
    watched_by a.p a.kept a.kept a.w c.eq-same.result c.seen-watch.result c.requires.2 c.seen-watch.ensures
    (λ t. ap value (search rules)) (λ e. absurd (true≢false (sym e ∙ not_due))) (λ e. refl)
