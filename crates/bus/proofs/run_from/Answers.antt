use Rattle.bus.proofs.LoneStretch.{alone, left}
use Rattle.bus.proofs.run_from.Goals as goal

-- What is left of the one stretch, or the first offset that is not owned.
pub returns-in-Some : goal.returns-in-Some
returns-in-Some c =
    let since = c.since in
    rw c.saturating_sub.ensures (left c.args.b _ (alone c.args.b c.requires.0 _ c.in-Some.is) c.args.a since.result since.ensures.0 since.ensures.1)
