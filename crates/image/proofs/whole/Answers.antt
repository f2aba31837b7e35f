use Rattle.runs.specs.Nodes.{depth, visits}
use Rattle.image_bytes.specs.Bytes.{word_at}
use Rattle.rows.specs.Fields.{field_at}
use Rattle.nodes.specs.Nodes.{tree_at, lines_of}
use Rattle.rows.proofs.Kept.{first_end, first_fine}
use Rattle.rows.proofs.Standing.{unclosed_fewer}
use Rattle.image.specs.Judged.{whole_of, judged}
use Rattle.image.specs.Conditions.{Ending}
use Rattle.image.proofs.Endings.{nodes_stand, entry_low}
use Rattle.image.proofs.Reasons.{whole_ends}
use Rattle.runs.specs.Lines.{power}
use Rattle.schedule.specs.Said.{said}
use Rattle.schedule.proofs.Numbers.{product_fits}
use Rattle.nodes.proofs.Fetches.{lines_few, few_sets}
use mathlib.Core.Path.{◌≡◌, sym, ◌∙◌, ap}
use mathlib.Core.List.{List}
use Prim.Native.Nat.{ℕ, ◌+◌, ◌*◌, ◌≤◌}
use native.Mathlib.Omega.{arith}
use borrow.Author.Tests.{le-ltb}
use Rattle.image.proofs.whole.Goals as goal

-- at most 4 lines
few_lines : (s : List ℕ) (n entry : ℕ) → Ending s n entry → lines_of s n ≤ 4
few_lines s n entry h = lines_few s n (nodes_stand s n entry h)

few_rows : (s : List ℕ) (n entry : ℕ) → Ending s n entry → power (lines_of s n) ≤ 4294967295
few_rows s n entry h = omega (arith, few_sets (lines_of s n) (few_lines s n entry h))

-- A cap above the limit decides the same as the exact number.
pub weights-w-requires : goal.weights-w-requires
weights-w-requires c =
    let n = c.in_ok-n.n in
    let h = whole_ends _ n (sym c.requires.is ∙ c.in_ok-n.was) in
    let low = entry_low _ n.count n.entry h in
    (unclosed_fewer _ (n.entry + 3) (n.count + 2) (omega arith) (nodes_stand _ _ _ h), λ k l. (c.requires.placed n c.in_ok-n.was).each k (omega arith))

pub period_at-period-requires : goal.period_at-period-requires
period_at-period-requires c =
    let h = whole_ends _ c.in_ok-n.n (sym c.requires.is ∙ c.in_ok-n.was) in
    first_fine c.args.image.now (nodes_stand _ _ _ h 0 (omega arith)).0

pub lines-lines-requires : goal.lines-lines-requires
lines-lines-requires c =
    let h = whole_ends _ c.in_ok-n.n (sym c.requires.is ∙ c.in_ok-n.was) in
    (nodes_stand _ _ _ h, (c.requires.placed _ c.in_ok-n.was).each)

pub power-sets-requires : goal.power-sets-requires
power-sets-requires c =
    let h = whole_ends _ c.in_ok-n.n (sym c.requires.is ∙ c.in_ok-n.was) in
    rw c.lines-lines.ensures (few_lines _ _ _ h)

pub overflow_mul-period : goal.overflow_mul-period
overflow_mul-period c =
    let h = whole_ends _ c.in_ok-n.n (sym c.requires.is ∙ c.in_ok-n.was) in
    product_fits _ _ (omega (arith, c.period_at-period.ensures.1)) (rw (c.power-sets.ensures, c.lines-lines.ensures) (few_rows _ _ _ h))

pub returns : goal.returns
unfolding whole_of judged
returns c =
    let s = c.args.image.now in
    let n = c.in_ok-n.n in
    let w = c.weights-w.ensures in
    let p = c.period_at-period.ensures.0 in
    let l = c.lines-lines.ensures in
    let x = c.power-sets.ensures ∙ ap power l in
    let narrow : (said s).period * power (lines_of s n.count) ≤ 1024 = rw (← p, ← x) (omega arith) in
    let place : 4 + c.word.result ≡ field_at s 1 + 1 = omega (arith, first_end s, c.word.ensures.0) in
    let starts = c.word-2.ensures.0 ∙ ap (word_at s) place in
    rw (sym c.requires.is ∙ c.in_ok-n.was, p, starts, x, l)
    (simp (
      le-ltb 24 (depth (tree_at s n.entry)) (omega (arith, w.deep)),
      le-ltb 100000 (visits (tree_at s n.entry)) (omega (arith, w.long)),
      le-ltb 1024 ((said s).period * power (lines_of s n.count)) narrow,
    ))
