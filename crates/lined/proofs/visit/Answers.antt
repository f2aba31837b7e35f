use native.Mathlib.Nat.{le_trans, le_of_lt, suc-mul, mul-le-mul_right}
use Prim.Native.Nat.{ℕ, ◌+◌, ◌<◌}
use native.Mathlib.Omega.{arith}
use Rattle.lined.proofs.visit.Goals as goal

-- A set without the line is taken with its other; another is left alone.
later_set : (m w : ℕ) → 0 < w → m < m + w
later_set m w h = omega arith

pub fetched-requires : goal.fetched-requires
fetched-requires c =
    let a = c.args in
    let p = c.requires in
    let low = c.if-m-weight-eq0.true in
    let f = p.1.fits a.m (omega arith) p.0 low in
    let q = a.b.period in
    let l : a.m + a.weight < a.sets = p.1.paired a.m p.0 low in
    record {
      access = p.1.access;
      short = p.1.short;
      order = omega (arith, suc-mul a.m q, mul-le-mul_right q (later_set a.m a.weight p.1.weight_pos));
      most = omega (arith, mul-le-mul_right q (le_trans (le_of_lt l) p.1.few), p.1.access.fit.most);
      long = omega (arith, suc-mul (a.m + a.weight) q, mul-le-mul_right q l, p.1.long);
      fits = f.0;
      fits_with = f.1;
    }
