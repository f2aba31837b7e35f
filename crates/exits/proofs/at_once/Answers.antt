use mathlib.Core.Path.{◌∙◌, ap}
use Prim.Native.Nat.{ℕ, ◌*◌, ◌%◌, ◌^◌}
use Rattle.offsets.specs.Sets.{value}
use Rattle.exits.proofs.Lasts.{last_in}
use native.Mathlib.Omega.{arith}
use Rattle.exits.proofs.at_once.Goals as goal

pub returns : goal.returns
returns c =
    let a = c.args in
    let row = c.below in
    let mask = c.up-mask in
    let inside = c.meet-inside in
    let last = c.up_range-last in
    last_in (value a.seen) a.at a.len a.lo a.hi (value mask.result) (value inside.result) _ (value last.result) (value c.meet.result) c.requires.1 c.requires.0
    (mask.ensures ∙ ap (λ (m : ℕ). (m * 2 ^ a.at) % 2 ^ 256) row.ensures) inside.ensures
    (omega arith) last.ensures c.meet.ensures
