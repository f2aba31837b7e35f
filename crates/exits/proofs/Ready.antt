-- What a bus block asks, in the numbers that its functions need.
use mathlib.Core.Path.{subst}
use native.Mathlib.Omega.{arith}
use Prim.Native.Nat.{ℕ, ◌≤◌}
use Rattle.runs.proofs.SchedulesLaws.{most_le}
use Rattle.bus.specs.declared.Bus.{Bus}
use Rattle.bus.specs.Owning.{owns, bus_meant}
use Rattle.offsets.specs.declared.Set.{Set}
use Rattle.exits.specs.Exits.{BusReady}

module _ (b : Bus) (lo hi : ℕ) (s : Set) (r : BusReady b lo hi s) where
  pub permitted : hi ≤ (bus_meant b).most
  permitted = subst (λ (n : ℕ). hi ≤ n) r.fit.longest r.most

  pub most_in : b.most ≤ b.period
  most_in = omega (arith, r.fit.longest, most_le b.period (owns b))

  pub hi_in : hi ≤ b.period
  hi_in = omega (arith, r.most, most_in)

  pub hi_small : hi ≤ 256
  hi_small = omega (arith, hi_in, r.fit.most)
