use native.Mathlib.Omega.{arith}
use mathlib.Core.List.{◌++◌}
use Prim.Native.Nat.{◌≤◌}
use lib.ListN.{length}
use Rattle.text.specs.Text.{codes, line, exit_lines, figure_lines}
use Rattle.text.proofs.Lines.{line_most}
use Rattle.text.proofs.Puts.{puts_both}
use Rattle.text.proofs.Page.figures.Goals as goal
use Rattle.text.proofs.Page.figures.Goals.{Start}

-- The four parts are put one after the other, and together they are the listing. The words' lines take at most 85 bytes and the exits' 6,400: 8,192 hold both.
-- the lines of the three words, at most
words : (s : Start)
    → (length (line (codes "tight") s.args.tight) ≤ 27) × (length (line (codes "published") s.args.published) ≤ 31) × (length (line (codes "exits") s.args.exits) ≤ 27)
words s = (
  line_most (codes "tight") s.args.tight s.ranges.tight.fits,
  line_most (codes "published") s.args.published s.ranges.published.fits,
  line_most (codes "exits") s.args.exits s.ranges.exits.fits,
)

pub line-requires : goal.line-requires
line-requires c = omega (arith, words (goal.at.line-requires c).Start)

pub line-requires-2 : goal.line-requires-2
line-requires-2 c = omega (arith, words (goal.at.line-requires-2 c).Start)

pub line-requires-3 : goal.line-requires-3
line-requires-3 c = omega (arith, words (goal.at.line-requires-3 c).Start)

pub exits-requires : goal.exits-requires
exits-requires c = omega (arith, words (goal.at.exits-requires c).Start)

pub returns : goal.returns
unfolding figure_lines
returns c =
    let a = c.args in
    let page = a.self.now in
    let h : page.at ≤ length page.out.now = omega arith in
    let t = line (codes "tight") a.tight in
    let p = line (codes "published") a.published in
    let e = line (codes "exits") a.exits in
    let two = puts_both t p h c.line.ensures c.line-2.ensures in
    let three = puts_both (t ++ p) e h two c.line-3.ensures in
    puts_both (t ++ p ++ e) (exit_lines a.period a.table.now) h three c.exits.ensures
