use borrow.Author.Rules.{rules}
use mathlib.Core.Path.{◌∙◌}
use Rattle.text.specs.Text.{figure_lines}
use Rattle.text.proofs.Answers.{figures_long, figures_lacking, figures_listed_lem, listed_short, listed_bytes}
use Rattle.text.proofs.list_figures.Goals as goal
use Rattle.text.proofs.list_figures.Goals.{then-period-gt256-via-then-period-gt256, then-period-gt256-via-else-period-gt256+then-period-table}

-- Each way out is a case of `figures_listed`: a period above 256, a table that lacks places, a short buffer, or the listing put from place 0.
pub returns-then-period-gt256 : goal.returns-then-period-gt256
returns-then-period-gt256 c =
    let a = c.args in
    elim c.then-period-gt256.branch [
      | then-period-gt256-via-then-period-gt256 w ↦ figures_long a.tight a.published a.exits a.period a.table.now a.out.now w.if-period-gt256.true
      | then-period-gt256-via-else-period-gt256+then-period-table w ↦
          figures_lacking a.tight a.published a.exits a.period a.table.now a.out.now w.if-period-gt256.false w.if-period-table.true
    ]

pub returns-then-out-lt-ENOUGH : goal.returns-then-out-lt-ENOUGH
returns-then-out-lt-ENOUGH c =
    let a = c.args in
    figures_listed_lem a.tight a.published a.exits a.period a.table.now a.out.now c.if-period-gt256.false c.if-period-table.false
    ∙ listed_short (figure_lines a.tight a.published a.exits a.period a.table.now) a.out.now c.if-out-lt-ENOUGH.true

pub returns : goal.returns
returns c =
    let a = c.args in
    figures_listed_lem a.tight a.published a.exits a.period a.table.now a.out.now c.if-period-gt256.false c.if-period-table.false
    ∙ listed_bytes (figure_lines a.tight a.published a.exits a.period a.table.now) a.out.now c.if-out-lt-ENOUGH.false (search rules)
