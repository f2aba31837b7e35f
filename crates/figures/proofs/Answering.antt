-- The answer for an accepted image, and the promise of the entry from it.
use mathlib.Core.Path.{◌≡◌, ◌∙◌, sym}
use mathlib.Core.List.{List, ◌++◌}
use lib.ListN.{length, take, drop}
use borrow.Author.Tests.{lt-ltb, le-ltb}
use Prim.Native.Nat.{ℕ, ◌≤◌, ◌<◌}
use Rattle.runs.specs.Figures.{longest_of, published}
use Rattle.schedule.specs.Said.{said}
use Rattle.image.specs.Tasks.{task_of}
use Rattle.refusals.specs.declared.Refusal.TheVariants.{Table}
use Rattle.image.specs.declared.Outline.{Outline}
use Rattle.times.specs.Arrays.{time_of, table_of}
use Rattle.answers.specs.declared.Totals.{Totals}
use Rattle.std.specs.Prelude.{Result, Ok, Err}
use Rattle.refusals.specs.declared.Refused.{Refused}
use Rattle.figures.specs.Steps.{Ended, Answered, holding, Answerable}
use Rattle.figures.proofs.Entries.{tight_entry, count_entries, table_entries}
use Rattle.image.specs.Judged.{judged}
use Rattle.image.specs.Promise.{Judging}
use Rattle.image.proofs.Promises.{judged_sound}
use Rattle.image.proofs.Sounds.{accepted}
use Rattle.answers.specs.Promise.{Equal}

module _ (s : List ℕ) (k : Outline) (before : List ℕ) where
  -- fewer than P places lent
  pub answered_short : length before < k.period → Answered s k before (Err (record { refusal = Table; place = length s })) before
  answered_short h = record {
    result = rw (lt-ltb (length before) k.period h);
    table = rw (lt-ltb (length before) k.period h);
  }

  pub answered_given : (t after : List ℕ) (f : Totals) → k.period ≡ (said s).period → k.period ≤ length before → k.period ≤ length t → Ended s k t
      → after ≡ take k.period t ++ drop k.period before → time_of f.tight ≡ longest_of k.period (table_of k.period t)
      → f.published ≡ published (task_of s k) → f.exits ≡ holding t k.period → Answered s k before (Ok f) after
  answered_given t after f is long full ended filled' longest costs count = record {
    result =
        rw (le-ltb (length before) k.period long)
        (rw (tight_entry s k t ended f.tight (rw is at longest), costs, (rw is at count) ∙ count_entries s k t ended));
    table =
        rw (le-ltb (length before) k.period long)
        (rw is ((rw is at filled') ∙ table_entries s k t ended before (rw is at full)));
  }

-- what judging has shown is what the figures ask
pub answerable : (s places : List ℕ) (v : Result Outline Refused) (k : Outline) → Judging s v places → v ≡ Ok k → Answerable s k places
answerable s places v k j e =
    record { sound = judged_sound s places v k j e; accepted = accepted s k (sym j.is ∙ e) }

-- so the answer for an accepted image is the definition's
pub given_equal : (s before : List ℕ) (k : Outline) → judged s ≡ Ok k → (r : Result Totals Refused) (after : List ℕ) → Answered s k before r after → Equal s before r after
given_equal s before k e r after a = record { result = rw e a.result; table = rw e a.table }
