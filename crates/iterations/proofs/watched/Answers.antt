use mathlib.Core.Path.{◌≡◌, refl, sym, ◌∙◌}
use mathlib.Core.Bool.{true, false, true≢false}
use borrow.Author.Rules.{rules}
use Rattle.cycles.specs.Cycles.{looks, renews}
use Rattle.iterations.proofs.Watching.{watched_by, watched_off}
use Rattle.iterations.proofs.watched.Goals as goal

-- What is kept after one more iteration is the table now where the watch says so, and else what was kept.
pub returns-then-is_due : goal.returns-then-is_due
returns-then-is_due c =
    let a = c.args in
    let due : renews c.seen-r.result.search ≡ true = search rules in
    watched_by a.n a.cur.now a.old.now _ a.w c.is_later-same.result c.rise-gain.result c.seen-r.result c.seen-r.ensures c.copy.ensures.0
    c.is_later-same.ensures (λ e. c.copy.ensures.1) (λ e. absurd (true≢false (sym due ∙ e)))

pub returns-else-is_due : goal.returns-else-is_due
returns-else-is_due c =
    let a = c.args in
    let not_due : renews c.seen-r.result.search ≡ false = search rules in
    watched_by a.n a.cur.now a.old.now a.old.now a.w c.is_later-same.result c.rise-gain.result c.seen-r.result c.seen-r.ensures refl
    c.is_later-same.ensures (λ e. absurd (true≢false (sym e ∙ not_due))) (λ e. refl)

pub returns-in_default : goal.returns-in_default
returns-in_default c =
    let a = c.args in
    let off : looks a.w.search ≡ false = search rules in
    watched_off a.n a.cur.now a.old.now a.w false 0 c.seen.result off c.seen.ensures
