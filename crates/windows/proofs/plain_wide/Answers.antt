use native.Mathlib.Omega.{arith}
use Prim.Native.Nat.{◌+◌}
use Rattle.windows.proofs.Parted.{passed_parts}
use borrow.Author.Rules.{rules}
use Rattle.windows.proofs.plain_wide.Goals as goal

pub returns-then-hi-lo-gt127 : goal.returns-then-hi-lo-gt127
returns-then-hi-lo-gt127 c =
    let a = c.args in
    let m = c.min in
    let far = c.if-hi-lo-gt127.true in (
      search rules,
      passed_parts a.period a.lo m.result (a.lo + 128) a.hi _ _ _ _ (omega (arith, m.ensures, far)) (omega (arith, m.ensures, far)) (omega (arith, m.ensures, far))
          c.plain-a.ensures c.plain-b.ensures c.join.ensures.1,
    )
