use Prim.Native.Nat.{◌+◌, ◌-◌}
use lib.ListN.{drop, length-take, length-drop}
use native.Mathlib.Omega.{arith}
use Rattle.std.proofs.lemmas.Grind.{common_steps}
use Rattle.lined.proofs.RowLaws.{part_fits, kept_fits, written, fetched_held, fetched_still}
use Rattle.lined.proofs.fetched.Goals as goal

pub always_step-next-requires : goal.always_step-next-requires
always_step-next-requires c =
    let a = c.args in
    let p = c.requires in
    let k = c.one_row.ensures in
    let t = c.one_row.new.t in
    let n = a.at + a.b.period - a.at in
    record {
      fit = p.access.fit;
      least = p.access.in_row.0;
      order = p.access.order;
      short = p.access.in_row.1;
      most = p.access.in_row.2;
      fits = part_fits a.b n a.at t (omega arith) (kept_fits a.b a.at a.with _ a.t.now t p.order k p.fits);
      long = omega (arith, length-take n (drop a.at t), length-drop a.at t, k.size, p.long, p.order);
    }

pub returns-then-held : goal.returns-then-held
returns-then-held c =
    let a = c.args in
    let p = c.requires in
    let q = a.b.period in
    let t = c.put.new.t in
    fetched_held a.b a.lo a.hi a.hit a.at a.with p.order a.t.now c.one_row.new.t c.one_row.ensures
    (a.at + q - a.at) (a.with + q - a.with) c.always_step-next.result c.join.new.out c.fill.new.self t _
    (omega arith) (omega arith) c.always_step-next.ensures c.join.ensures.1
    (λ o l. grind (arith, common_steps)) c.put.ensures
    (written t c.fill.new.self a.at (a.at + q - a.at) q (omega arith) (omega (arith, p.order, p.long, c.one_row.ensures.size, c.put.ensures.size)) (grind (arith, common_steps)))

pub returns-else-held : goal.returns-else-held
returns-else-held c =
    let a = c.args in
    fetched_still a.b a.lo a.hi a.hit a.at a.with c.requires.order a.t.now c.one_row.new.t c.one_row.ensures
    (a.at + a.b.period - a.at) (omega arith) (c.held.ensures c.if-held.false)
