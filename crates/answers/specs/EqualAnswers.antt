-- Two ways to write one task: an accepted image and another that says the same (document 02: "gives equal answers" of W5, and W1). Definitions only.
use Rattle.std.specs.Prelude.{◌≡◌, List, ℕ, ◌≤◌, length, Ok}
use Rattle.image.specs.Judged.{judged}
use Rattle.image.specs.declared.Outline.{Outline}
use Rattle.answers.specs.Answers.{answer, table_after}

-- of an accepted image s with the outline k, and the other: the same outline, the same figures where places enough are lent, the same table
pub record EqualAnswers (s : List ℕ) (k : Outline) (other table : List ℕ) : Type 0 where
  pub verdict : judged other ≡ Ok k
  pub answers : k.period ≤ length table → answer other table ≡ answer s table
  pub tables : table_after other table ≡ table_after s table
