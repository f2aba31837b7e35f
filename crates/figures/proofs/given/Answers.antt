use borrow.Author.Rules.{rules}
use mathlib.Core.Path.{◌≡◌, sym, ◌∙◌, ap}
use mathlib.Core.List.{List, ◌++◌}
use lib.ListN.{length, drop}
use lib.Seq.{length-take-le}
use Prim.Native.Nat.{ℕ, ◌≤◌}
use Rattle.image.specs.declared.Outline.{Outline}
use Rattle.figures.specs.Steps.{Answerable}
use native.Mathlib.Omega.{arith}
use Rattle.figures.proofs.Bridge.{period_most}
use Rattle.figures.proofs.Answering.{answered_short, answered_given}
use Rattle.figures.proofs.given.Goals as goal

-- Number 10 where the table is short; else the table takes the exit times, and the totals are those of the definitions.

-- an array of 256 places has one for each offset
held : (s : List ℕ) (k : Outline) (places : List ℕ) → Answerable s k places → (t : List ℕ) → length t ≡ 256 → k.period ≤ length t
held s k places p t long = omega (arith, period_most s k places p)

pub slice_bounds-times-end : goal.slice_bounds-times-end
slice_bounds-times-end c = held c.args.image.now c.args.k c.args.places.now c.requires _ (search rules)

pub slice_bounds-copy_from_slice-end-3 : goal.slice_bounds-copy_from_slice-end-3
slice_bounds-copy_from_slice-end-3 c =
    let a = c.args in
    sym (length-take-le a.k.period _ (held a.image.now a.k a.places.now c.requires _ (search rules)))

pub copy_from_slice-requires : goal.copy_from_slice-requires
copy_from_slice-requires c =
    let a = c.args in
    length-take-le a.k.period a.table.now (omega arith) ∙ sym (length-take-le a.k.period _ (held a.image.now a.k a.places.now c.requires _ (search rules)))

pub returns : goal.returns
returns c =
    let a = c.args in
    let t = c.exit_times-times in
    let rest : List ℕ = drop a.k.period a.table.now in
    answered_given a.image.now a.k a.table.now t.result (c.copy_from_slice.new.self ++ rest) _ c.requires.sound.accepting.period
    (omega arith) (held a.image.now a.k a.places.now c.requires t.result (search rules))
    t.ensures (ap (λ (l : List ℕ). l ++ rest) c.copy_from_slice.ensures.after) c.longest.ensures c.published_cost.ensures c.exit_count.ensures

pub returns-then-table-period : goal.returns-then-table-period
returns-then-table-period c =
    let a = c.args in
    answered_short a.image.now a.k a.table.now (omega arith)
