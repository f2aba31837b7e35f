use Rattle.rows.specs.Tests.{below}
use Rattle.image_bytes.specs.Bytes.{word_at}
use mathlib.Core.Path.{◌≡◌, sym, ◌∙◌}
use mathlib.Core.Bool.{true, ◌&&◌}
use mathlib.Core.List.{List}
use Prim.Native.Nat.{ℕ, suc, ◌+◌, ◌-◌, ◌*◌, ◌≤◌, ◌<◌}
use native.Mathlib.Omega.{arith}
use lib.Dec.{ltb}
use borrow.Author.Tests.{lt-ltb, le-ltb}
use Rattle.rows.proofs.all_below.Goals as goal

-- one more child
more : (s : List ℕ) (p n i index : ℕ) → i < n
    → below s (p + 2 * i) (n - i) index ≡ (ltb (word_at s (p + 2 * i) + 2) index && below s (p + 2 * (i + 1)) (n - (i + 1)) index)
unfolding below
more s p n i index h =
    let e : n - i ≡ suc (n - (i + 1)) = omega arith in
    let q : p + 2 * i + 2 ≡ p + 2 * (i + 1) = omega arith in
    rw (e, q)

done : (s : List ℕ) (p n i index : ℕ) → n ≤ i → below s p (n - i) index ≡ true
unfolding below
done s p n i index h = let e : n - i ≡ 0 = omega arith in rw e

pub returns-then-index-word : goal.returns-then-index-word
returns-then-index-word c =
    let a = c.args in
    let i = c.loop-i.i in
    let h : i < a.count = omega arith in
    sym (rw (le-ltb (word_at a.image.now (a.place + 2 * i) + 2) a.index (omega (arith, c.word.ensures))) at (more a.image.now a.place a.count i a.index h)) ∙ c.loop-i.invariant

pub loop-i-preserved : goal.loop-i-preserved
loop-i-preserved c =
    let a = c.args in
    let i = c.loop-i.i in
    let h : i < a.count = omega arith in
    sym (more a.image.now a.place a.count i a.index h ∙ rw (lt-ltb (word_at a.image.now (a.place + 2 * i) + 2) a.index (omega (arith, c.word.ensures)))) ∙ c.loop-i.invariant

pub returns : goal.returns
returns c =
    let a = c.args in
    sym (done a.image.now _ a.count c.loop-i.i _ (omega arith)) ∙ c.loop-i.invariant
