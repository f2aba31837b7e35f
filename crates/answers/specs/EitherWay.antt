-- "An accepted image whose equal schedule is written either way gives equal answers, shown for every core and length together" (document 02, W5).
-- Definitions only.
use Rattle.std.specs.Prelude.{◌≡◌, List, ◌++◌, ℕ, ◌+◌, ◌-◌, ◌*◌}
use Rattle.runs.specs.Slots.{Slots}
use Rattle.runs.specs.Schedules.{even}
use Rattle.schedule.specs.Written.{slots_field, turns_field}
use Rattle.image.specs.Judged.{judged}
use Rattle.image.specs.Moved.{moved}
use Rattle.answers.specs.Answers.{Result, given, refused, answer, table_after}

-- the same figures, or the same refusal d bytes further on
abbrev pub answer_moved : ℕ → Result → Result
answer_moved d (given tight published exits) = given tight published exits
answer_moved d (refused number place) = refused number (place + d)

-- any rest behind field 1 with tag 1, and behind the field with tag 9 that says the same schedule: it is judged alike, the answers are the same but for
-- a refusal's place, since that field is longer, and so are the tables
pub record EitherWay (v : Slots) (rest table : List ℕ) : Type 0 where
  pub verdict : judged (turns_field (even v) ++ rest) ≡ moved (2 * v.cores - 2) (judged (slots_field v ++ rest))
  pub answers : answer (turns_field (even v) ++ rest) table ≡ answer_moved (2 * v.cores - 2) (answer (slots_field v ++ rest) table)
  pub tables : table_after (turns_field (even v) ++ rest) table ≡ table_after (slots_field v ++ rest) table
