use mathlib.Core.Path.{sym, ◌∙◌}
use native.Mathlib.Omega.{arith}
use Rattle.device.proofs.Formed.{sized_true}
use Rattle.arbiter.proofs.calls.on_reset.Goals as goal

pub overflow_cast-cores : goal.overflow_cast-cores
overflow_cast-cores c =
    let a = c.args in
    omega (arith, (sized_true a.cores a.slot (sym c.bus_ok.ensures ∙ c.if-not-bus_ok.false)).cores_most)

pub overflow_cast-slot : goal.overflow_cast-slot
overflow_cast-slot c =
    let a = c.args in
    omega (arith, (sized_true a.cores a.slot (sym c.bus_ok.ensures ∙ c.if-not-bus_ok.false)).slot_most)
