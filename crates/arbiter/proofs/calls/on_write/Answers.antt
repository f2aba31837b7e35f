use mathlib.Core.Path.{◌≡◌, sym, ◌∙◌}
use mathlib.Core.Bool.{true}
use native.Mathlib.Omega.{arith}
use borrow.Author.Tests.{leb-true}
use lib.Dec.{leb, eqb}
use Prim.Native.Nat.{ℕ, ◌<◌}
use Rattle.runs.proofs.Cases.{either}
use Rattle.device.specs.declared.Arbiter.{Arbiter}
use Rattle.device.specs.Device.{usable, writable}
use Rattle.device.proofs.Tests.{and_right}
use Rattle.device.proofs.Formed.{formed_true, usable_formed}
use Rattle.arbiter.proofs.calls.on_write.Goals as goal

-- 15 is judged first: the state, the core and the value; what may be written is at most a slot, so it fits a byte.
a_byte : (a : Arbiter) (p n v : ℕ) → usable a p ≡ true → writable a.slot n v ≡ true → v < 256
unfolding writable
a_byte a p n v u w =
    let l = (formed_true a (usable_formed a p u)).size.slot_most in
    either (eqb n 0)
    (λ z. omega (arith, l, leb-true v a.slot (and_right (leb 1 v) _ (rw z at w))))
    (λ z. omega (arith, leb-true v 1 (and_right (eqb n 2) _ (rw z at w))))

pub overflow_cast-value : goal.overflow_cast-value
overflow_cast-value c =
    let a = c.args in
    let u = sym c.core_ok.ensures ∙ c.if-not-core_ok.false in
    omega (arith, a_byte a.s a.core a.register a.value u (sym c.value_ok.ensures ∙ c.if-not-value_ok.false))
