use mathlib.Core.Path.{◌∙◌}
use native.Mathlib.Omega.{arith}
use Rattle.lined.proofs.RowLaws.{period_pos, row_ends, all_rows, rows_more, row_fits}
use Rattle.lined.proofs.each_row.Goals as goal

pub one_row-requires : goal.one_row-requires
one_row-requires c =
    let a = c.args in
    let p = c.requires in
    let l = c.loop-m in
    let low = c.loop-m-test.true in
    let ends = row_ends l.m a.sets a.b.period _ low p.1 p.0.fit.most p.2 in
    (p.0, omega (arith, ends, l.invariant.0), omega (arith, ends), row_fits a.b a.sets l.m a.t.now l.t low p.3 l.invariant.2)

pub loop-m-preserved : goal.loop-m-preserved
loop-m-preserved c =
    let a = c.args in
    let l = c.loop-m in
    let s = c.one_row.ensures in
    let (done, rest) = rows_more a.b a.s a.lo a.hi l.m a.t.now l.t _ l.invariant.1 l.invariant.2 s in
    (s.size ∙ l.invariant.0, done, rest)

pub returns : goal.returns
returns c =
    let a = c.args in
    let l = c.loop-m in
    λ n e.
    all_rows a.b n (period_pos a.b c.requires.0.fit) a.s a.lo a.hi a.t.now l.t l.invariant.0 (λ m o h k. l.invariant.1 m o (omega arith) k)
