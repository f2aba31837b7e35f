use mathlib.Core.Path.{◌≡◌}
use lib.ListN.{length}
use Rattle.device.specs.Device.{stepped_from}
use Rattle.device.proofs.Sweeps.{swept}
use Rattle.device.proofs.ticks.ticked_state.Given as goal

-- The invariant: the cores below `core` have stepped, and if the others step too, the registers are those after the tick.
abbrev pub invariant-loop-core : goal.invariant-loop-core
invariant-loop-core l = (length l.r-items ≡ 16) × (swept l.s l.core l.r-items ≡ stepped_from l.s 0 l.s.registers)
