use borrow.Author.Rules.{rules}
use native.Mathlib.Omega.{arith}
use Rattle.text.specs.Text.{refused_line}
use Rattle.text.proofs.Lines.{refused_most}
use Rattle.text.proofs.Answers.{listed_short, listed_bytes}
use Rattle.text.proofs.list_refused.Goals as goal

-- Each way out is a case of `into_buffer`: too short, or the line put from place 0, which has at most 50 bytes.
pub returns-then-out-lt-ENOUGH : goal.returns-then-out-lt-ENOUGH
returns-then-out-lt-ENOUGH c = let a = c.args in listed_short (refused_line a.number a.place) a.out.now c.if-out-lt-ENOUGH.true

pub refused-requires : goal.refused-requires
refused-requires c = omega (arith, refused_most c.args.number c.args.place c.ranges.number.fits c.ranges.place.fits)

pub returns : goal.returns
returns c =
    let a = c.args in
    listed_bytes (refused_line a.number a.place) a.out.now c.if-out-lt-ENOUGH.false
    (record { ends = omega (arith, c.refused.ensures.wrote.ends); bytes = search rules })
