-- W1: an accepted image without a field that names the entry, and the same image closed by one that names its last node, have equal answers and tables.
use mathlib.Core.Path.{◌≡◌, refl, sym, ◌∙◌}
use mathlib.Core.List.{List, ◌++◌}
use Prim.Native.Nat.{ℕ, suc}
use Rattle.runs.specs.Runs.{Task}
use Rattle.runs.specs.Nodes.{tree}
use Rattle.runs.specs.Figures.{exit_times}
use Rattle.schedule.specs.Said.{said}
use Rattle.nodes.specs.Nodes.{node_at}
use Rattle.image.specs.Tasks.{starts_of, task_of}
use Rattle.image.specs.Judged.{judged}
use Rattle.image.specs.Conditions.{Accepting}
use Rattle.image.specs.Closed.{entry_field, EndsInANode}
use Rattle.image.specs.declared.Outline.{Outline}
use Rattle.std.specs.Prelude.{Ok}
use Rattle.image.proofs.Reasons.{when_accepted}
use Rattle.image.proofs.Closing.{said_same, starts_same, tree_same, still_accepted}
use Rattle.answers.specs.Answers.{figures_of, filled}
use Rattle.answers.specs.EqualAnswers.{EqualAnswers}
use Rattle.answers.proofs.Promises.{figures_given}

-- all that an answer has of a task is its bus, its starts, its number of lines and the tree of its entry
module _ (t u : Task) (bus : t.bus ≡ u.bus) (starts : t.starts ≡ u.starts) (lines : t.lines ≡ u.lines)
    (trees : tree t.node_at t.entry ≡ tree u.node_at u.entry) where
  times_same : exit_times t ≡ exit_times u
  times_same = rw (bus, starts, lines, trees)

  figures_same : figures_of t ≡ figures_of u
  figures_same = rw (bus, starts, lines, trees)

  filled_same : (P : ℕ) (table : List ℕ) → filled t P table ≡ filled u P table
  filled_same P table = rw times_same

module _ (s table : List ℕ) (k : Outline) (ok : judged s ≡ Ok k) (none : EndsInANode s k) (m : ℕ) (last-node : k.nodes ≡ suc m) where
  abbrev e : List ℕ
  e = s ++ entry_field m

  accepting : Accepting s k
  accepting = when_accepted s k ok

  accepted : judged e ≡ Ok k
  accepted = still_accepted s k accepting none m last-node

  bus : said e ≡ said s
  bus = said_same s k accepting none m last-node

  starts : starts_of e ≡ starts_of s
  starts = starts_same s k accepting none m last-node

  trees : tree (node_at e) k.entry ≡ tree (node_at s) k.entry
  trees = tree_same s k accepting none m last-node

  pub closed_answers : EqualAnswers s k (s ++ entry_field m) table
  closed_answers = record {
    verdict = accepted;
    answers = λ l. figures_given e table k accepted l ∙ figures_same (task_of e k) (task_of s k) bus starts refl trees ∙ sym (figures_given s table k ok l);
    tables = rw (accepted, ok, filled_same (task_of e k) (task_of s k) bus starts refl trees k.period table);
  }
