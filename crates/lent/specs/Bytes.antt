-- The arbiter's state as 51 bytes, for programs that lend bytes: cores, slot, offset, then length, flags and mask of cores 0 to 15.
-- Definitions only.
use Rattle.std.specs.Prelude.{List, [], ◌∷◌, get_or, drop, ℕ}
use Rattle.device.specs.declared.Arbiter.{Arbiter}
use Rattle.device.specs.declared.Registers.{Registers}

-- three bytes for each core, one after the other
unfoldable pub flat : List Registers → List ℕ
flat [] = []
flat (r ∷ rs) = r.length ∷ r.flags ∷ r.mask ∷ flat rs

-- the bytes of a state
unfoldable pub bytes_of : Arbiter → List ℕ
bytes_of a = a.cores ∷ a.slot ∷ a.offset ∷ flat a.registers

-- the registers in bytes
unfoldable pub registers_in : List ℕ → List Registers
registers_in [] = []
registers_in (l ∷ []) = []
registers_in (l ∷ f ∷ []) = []
registers_in (l ∷ f ∷ m ∷ s) = record { length = l; flags = f; mask = m } ∷ registers_in s

-- the state in bytes: of 51 bytes `bytes_of` gives it back (`there_and_back` in proofs/Packing.antt)
unfoldable pub state_of : List ℕ → Arbiter
state_of s = record { cores = get_or s 0 0; slot = get_or s 1 0; offset = get_or s 2 0; registers = registers_in (drop 3 s) }
