-- What a state of the arbiter may hold, in plain terms. Definitions only.
use Rattle.std.specs.Prelude.{◌≡◌, ◌⊎◌, ℕ, ◌*◌, ◌≤◌, ◌<◌}
use Rattle.bus.specs.Waits.{Ranges}
use Rattle.device.specs.Device.{registers_of}
use Rattle.device.specs.declared.Arbiter.{Arbiter}
use Rattle.device.specs.declared.Registers.{Registers}

-- "in the ranges of tag 1"
abbrev pub Sized : ℕ → ℕ → Type 0
Sized cores slot = Ranges (record { cores = cores; slot = slot; core = 0 })

-- waiting or running
abbrev pub IsBusy : Registers → Type 0
IsBusy r = (r.flags ≡ 1) ⊎ (r.flags ≡ 2)

-- one core's registers in range
pub record Fits (slot : ℕ) (r : Registers) : Type 0 where
  pub length_most : r.length ≤ slot
  pub mask_most : r.mask ≤ 1
  -- "flags not 0, 1, 2 or 4" are out of range
  pub flags_one : ((r.flags ≡ 0) ⊎ (r.flags ≡ 4)) ⊎ IsBusy r
  -- so is "a waiting or running length of 0"
  pub busy_length : IsBusy r → 1 ≤ r.length

-- a state with no number out of range; the registers of every core, used or not
pub record WellFormed (a : Arbiter) : Type 0 where
  pub size : Sized a.cores a.slot
  pub offset_lt : a.offset < a.cores * a.slot
  pub each_fit : (p : ℕ) → Fits a.slot (registers_of a p)
