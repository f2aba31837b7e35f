use mathlib.Core.Path.{◌≡◌}
use Prim.Native.Nat.{ℕ, ◌<◌}
use Rattle.bus.specs.Owning.{owns}
use Rattle.offsets.specs.Sets.{value}
use Rattle.costs.proofs.LongestWaits.{longest_past, longest_few, longest_near}
use native.Mathlib.Omega.{arith}
use Rattle.costs.proofs.longest_wait.Goals as goal

pub returns-then-wait-floor : goal.returns-then-wait-floor
returns-then-wait-floor c =
    let a = c.args in
    λ y gone n l few so.
    longest_few a.b.period (owns a.b) (value a.s) a.e a.x.at a.x.len a.gap y a.before gone n c.requires.1 l few so a.floor
    (omega arith) (omega (arith, c.requires.1))

pub returns : goal.returns
returns c =
    let a = c.args in
    let less = c.saturating_sub-past in
    let at = c.turn_by in
    let free = c.ahead in
    let none : a.x.len < a.e → ◌≡◌ {A = ℕ} a.before 0 =
    λ h. grind arith in
    λ y gone n l few so.
    longest_near a.b.period (owns a.b) (value a.s) a.e a.x.at a.x.len a.gap y a.before gone n c.requires.1 l few so a.floor _ at.result free.result _
    (omega (arith, less.ensures)) none at.ensures.1 free.ensures (omega (arith, less.ensures, c.saturating_sub.ensures))

pub returns-then-before-gt0 : goal.returns-then-before-gt0
returns-then-before-gt0 c =
    let a = c.args in
    λ y gone n l few so.
    longest_past a.b.period (owns a.b) (value a.s) a.e a.x.at a.x.len a.gap y a.before gone n c.requires.1 l few so a.floor _
    (omega arith) (omega arith) (omega arith)
