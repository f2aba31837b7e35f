use native.Mathlib.Omega.{arith}
use borrow.Author.Rules.{rules}
use lib.Count.{count_trailing_zeros}
use Rattle.offsets.proofs.Extremes.{lowest_zeros, lowest_here, lowest_above}
use Rattle.offsets.proofs.zeros.Goals as goal

pub returns-then-here-lt64 : goal.returns-then-here-lt64
returns-then-here-lt64 c =
    let a = c.args in
    let here = count_trailing_zeros 64 a.w in
    (omega arith, λ h k x. lowest_here 64 h a.w k here (omega arith) (lowest_zeros 64 a.w))

pub returns : goal.returns
returns c =
    let a = c.args in
    let here = count_trailing_zeros 64 a.w in
    (search rules, λ h k x. lowest_above 64 h a.w k a.rest here (search rules) (omega arith) (lowest_zeros 64 a.w) x)
