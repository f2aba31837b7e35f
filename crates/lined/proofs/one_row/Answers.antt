use Prim.Native.Nat.{◌+◌, ◌-◌}
use lib.ListN.{drop, length-take, length-drop}
use native.Mathlib.Omega.{arith}
use Rattle.lined.proofs.RowLaws.{part_fits, stepped_row, still_row}
use Rattle.lined.proofs.one_row.Goals as goal

pub stepped-next-requires : goal.stepped-next-requires
stepped-next-requires c =
    let a = c.args in
    let p = c.requires in
    let n = a.at + a.b.period - a.at in
    (p.0, part_fits a.b n a.at a.t.now (omega arith) p.3, omega (arith, length-take n (drop a.at a.t.now), length-drop a.at a.t.now))

pub returns-then-held : goal.returns-then-held
returns-then-held c =
    let a = c.args in
    stepped_row a.b _ (a.at + a.b.period - a.at) a.at a.t.now _ _ (omega arith) c.stepped-next.ensures c.put.ensures

pub returns-else-held : goal.returns-else-held
returns-else-held c =
    let a = c.args in
    still_row a.b a.s a.lo a.hi (a.at + a.b.period - a.at) a.at a.t.now (omega arith) (c.held.ensures c.if-held.false)
