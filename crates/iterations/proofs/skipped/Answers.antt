use mathlib.Core.Path.{refl, sym}
use native.Mathlib.Nat.{zero-mul}
use Rattle.runs.proofs.Shifted.{shifted_zero}
use Rattle.cycles.specs.Cycles.{gain_of}
use Rattle.cycles.proofs.Watching.{none_skipped}
use Rattle.iterations.proofs.skipped.Goals as goal

-- Where no cycle is found the times stay as they are, which is 0 cycles later.
pub returns-in_default : goal.returns-in_default
returns-in_default c =
    let a = c.args in
    record { size = refl; skips = (0, none_skipped a.left a.w, rw (zero-mul (gain_of a.w.search)) (sym (shifted_zero _))) }
