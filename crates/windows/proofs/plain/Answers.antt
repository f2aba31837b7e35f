use native.Mathlib.Numerals.{add-one}
use Rattle.windows.proofs.Passes.{room, passed}
use Rattle.windows.proofs.plain.Goals as goal

pub unkeyed-requires : goal.unkeyed-requires
unkeyed-requires c =
    let a = c.args in
    let p = c.requires in (
      p.0,
      p.1.most,
      p.4,
      room a.t.now c.keys-k.result c.two_pass.new.w a.period a.lo a.hi p.0 p.1.most p.2 p.3 p.4 p.1.fits
          c.keys-k.ensures (rw add-one at c.two_pass.ensures.1),
    )

pub returns : goal.returns
returns c =
    let a = c.args in
    let p = c.requires in
    passed a.t.now c.keys-k.result c.two_pass.new.w a.period a.lo a.hi p.0 p.1.most p.2 p.3 p.4 p.1.fits
    c.keys-k.ensures (rw add-one at c.two_pass.ensures.1) _ c.unkeyed.ensures
