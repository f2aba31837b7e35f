-- An image whose equal schedule is written either way: the same verdict, the same figures, the same table.
use mathlib.Core.Path.{◌≡◌, refl, sym, ◌∙◌, ap, ap₂}
use mathlib.Core.Bool.{Bool, true, false, cond}
use mathlib.Core.List.{List, ◌++◌}
use lib.ListN.{length, drop}
use lib.Dec.{ltb}
use native.Mathlib.Omega.{arith}
use Prim.Native.Nat.{ℕ, ◌+◌, ◌-◌, ◌*◌, ◌≤◌}
use Rattle.runs.specs.Nodes.{Node}
use Rattle.runs.proofs.EitherWay.{on_bus, SameAnswers, same_answers}
use Rattle.bus.specs.Waits.{slots_of, Ranges}
use Rattle.bus.specs.declared.Slots.{Slots}
use Rattle.image_bytes.specs.Bytes.{byte_at, word_at, bytes}
use Rattle.image_bytes.proofs.Agreeing.{front}
use Rattle.schedule.specs.Said.{slots_at, said}
use Rattle.schedule.specs.Written.{slots_field, turns_field, other_way}
use Rattle.schedule.proofs.Sayings.{slots_ranged}
use Rattle.schedule.proofs.Writings.{evenly}
use Rattle.image.specs.Tasks.{task_of}
use Rattle.image.specs.Judged.{judged}
use Rattle.image.specs.Moved.{moved}
use Rattle.image.specs.declared.Outline.{Outline}
use Rattle.std.specs.Prelude.{Result, Ok, Err}
use Rattle.refusals.specs.declared.Refused.{Refused}
use Rattle.image.proofs.SameRest.{long, judged_moved, nodes_same, starts_same}
use Rattle.image.proofs.EitherWay.{instead, same_said}
use Rattle.rows.proofs.Kept.{slots_row}
use Rattle.image.proofs.Reasons.{when_accepted}
use Rattle.image.proofs.Sounds.{stand, ranged_kept, accepted}
use Rattle.answers.specs.Answers.{given, refused, after_judging, answer, table_for, table_after}
use Rattle.answers.specs.EitherWay.{answer_moved, EitherWay}
use Rattle.answers.specs.EqualAnswers.{EqualAnswers}
use Rattle.answers.proofs.Promises.{figures_given}

module _ (v : Slots) (h : Ranges v) (rest table : List ℕ) where
  abbrev one : List ℕ
  one = slots_field (slots_of v) ++ rest

  abbrev nine : List ℕ
  nine = turns_field (evenly v h) ++ rest

  abbrev d : ℕ
  d = 2 * v.cores - 2

  verdicts : judged nine ≡ moved d (judged one)
  verdicts = judged_moved (slots_field (slots_of v)) (turns_field (evenly v h)) rest d (instead v h rest)

  -- the tasks differ in how the bus is written alone
  tasks : (k : Outline) → on_bus (said one) (task_of nine k) ≡ task_of one k
  tasks k =
      ap₂ (λ (f : ℕ → Node) (l : List ℕ). record { bus = said one; starts = l; lines = k.lines; node_at = f; entry = k.entry })
      (nodes_same (slots_field (slots_of v)) (turns_field (evenly v h)) rest d (instead v h rest))
      (starts_same (slots_field (slots_of v)) (turns_field (evenly v h)) rest d (instead v h rest))

  same : (k : Outline) → judged nine ≡ Ok k → SameAnswers (task_of nine k) (task_of one k)
  same k e = rw (tasks k) at (same_answers (task_of nine k) (said one) (accepted nine k e) (same_said v h rest))

  by_room : (t : Bool) (tight published exits place : ℕ)
      → cond t (refused 10 (place + d)) (given tight published exits) ≡ answer_moved d (cond t (refused 10 place) (given tight published exits))
  by_room true tight published exits place = refl
  by_room false tight published exits place = refl

  answers : (w : Result Outline Refused) → judged one ≡ w → after_judging nine table (moved d w) ≡ answer_moved d (after_judging one table w)
  answers (Err r) e = refl
  answers (Ok k) e =
      let a = same k (verdicts ∙ ap (moved d) e) in
      rw (a.tights, a.costs, a.counts, long (slots_field (slots_of v)) (turns_field (evenly v h)) rest d (instead v h rest))
      (by_room (ltb (length table) k.period) _ _ _ (length one))

  tables : (w : Result Outline Refused) → judged one ≡ w → table_for nine table (moved d w) ≡ table_for one table w
  tables (Err r) e = refl
  tables (Ok k) e = rw (same k (verdicts ∙ ap (moved d) e)).table

  -- of every rest behind field 1, accepted or not, and every table
  pub either_way : EitherWay (slots_of v) rest table
  either_way = record {
    verdict = verdicts;
    answers = ap (after_judging nine table) verdicts ∙ answers (judged one) refl;
    tables = ap (table_for nine table) verdicts ∙ tables (judged one) refl;
  }

-- ---- an accepted image with tag 1

-- it begins with the field of its slots
split_off : (s : List ℕ) → 6 ≤ length s → byte_at s 0 ≡ 1 → word_at s 1 ≡ 3 → slots_field (slots_at s) ++ drop 6 s ≡ s
unfolding word_at bytes
split_off s l e w =
    let b : byte_at s 1 ≡ 0 = omega arith in
    let c : byte_at s 2 ≡ 3 = omega arith in
    rw (e, b, c) at (front 6 s l)

module _ (s table : List ℕ) (k : Outline) (ok : judged s ≡ Ok k) (tag : byte_at s 0 ≡ 1) where
  abbrev slots : Slots
  slots = record { cores = byte_at s 3; slot = byte_at s 4; core = byte_at s 5 }

  ranges : Ranges slots
  ranges = slots_ranged s (ranged_kept s k (when_accepted s k ok)) (λ q. omega (arith, tag, q))

  both : EitherWay (slots_at s) (drop 6 s) table
  both = either_way slots ranges (drop 6 s) table

  same_image : slots_field (slots_at s) ++ drop 6 s ≡ s
  same_image =
      let (six, three) = slots_row s (stand s k (when_accepted s k ok) 0 (omega arith)).0 tag in
      split_off s six tag three

  pub equal_answers : EqualAnswers s k (other_way s) table
  equal_answers =
      let d = 2 * byte_at s 3 - 2 in
      record {
        verdict = both.verdict ∙ ap (λ (x : List ℕ). moved d (judged x)) same_image ∙ ap (moved d) ok;
        answers = λ l.
            both.answers ∙ ap (λ (x : List ℕ). answer_moved d (answer x table)) same_image ∙ ap (answer_moved d) (figures_given s table k ok l) ∙ sym (figures_given s table k ok l);
        tables = both.tables ∙ ap (λ (x : List ℕ). table_after x table) same_image;
      }
