use Rattle.rows.specs.Tests.{starts_ok}
use Rattle.image_bytes.specs.Bytes.{byte_at}
use mathlib.Core.Path.{◌≡◌, sym, ◌∙◌}
use mathlib.Core.Bool.{true, ◌&&◌}
use mathlib.Core.List.{List}
use mathlib.Core.Logic.{⊎_elim}
use Prim.Native.Nat.{ℕ, suc, ◌+◌, ◌-◌, ◌≤◌, ◌<◌}
use native.Mathlib.Omega.{arith}
use lib.Dec.{leb, ltb}
use borrow.Author.Tests.{le-leb, lt-leb, lt-ltb, le-ltb}
use Rattle.rows.proofs.starts_ok.Goals as goal

-- one more start
more : (s : List ℕ) (p n i least period : ℕ) → i < n
    → starts_ok s (p + i) (n - i) least period
    ≡ (leb least (byte_at s (p + i)) && (ltb (byte_at s (p + i)) period && starts_ok s (p + (i + 1)) (n - (i + 1)) (byte_at s (p + i) + 1) period))
unfolding starts_ok
more s p n i least period h =
    let e : n - i ≡ suc (n - (i + 1)) = omega arith in
    let q : p + i + 1 ≡ p + (i + 1) = omega arith in
    rw (e, q)

done : (s : List ℕ) (p n i least period : ℕ) → n ≤ i → starts_ok s p (n - i) least period ≡ true
unfolding starts_ok
done s p n i least period h = let e : n - i ≡ 0 = omega arith in rw e

pub returns-then-start-least : goal.returns-then-start-least
returns-then-start-least c =
    let a = c.args in
    let l = c.loop-i in
    let h : l.i < a.count = omega arith in
    let e = more a.image.now a.place a.count l.i l.least a.period h in
    let read = sym c.byte-start.ensures.0 in
    let start = c.byte-start.result in
    ⊎_elim
    (λ (x : start < l.least). sym (e ∙ rw (read, lt-leb _ _ x)) ∙ l.invariant)
    (λ (x : (l.least ≤ start) × (a.period ≤ start)). sym (e ∙ rw (read, le-leb _ _ x.0, le-ltb _ _ x.1)) ∙ l.invariant)
    c.then-start-least.either

pub loop-i-preserved : goal.loop-i-preserved
loop-i-preserved c =
    let a = c.args in
    let l = c.loop-i in
    let h : l.i < a.count = omega arith in
    sym (more a.image.now a.place a.count l.i _ a.period h ∙ rw (sym c.byte-start.ensures.0, le-leb _ _ c.if-start-least.false, lt-ltb _ _ c.if-period-start.false)) ∙ l.invariant

pub returns : goal.returns
returns c = sym (done c.args.image.now _ c.args.count c.loop-i.i _ _ (omega arith)) ∙ c.loop-i.invariant
