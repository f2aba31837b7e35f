-- The arbiter's state, what its registers may hold, and a tick (document 02, "The arbiter as a device"). Definitions only.
use Rattle.std.specs.Prelude.{Bool, cond, ◌&&◌, ◌||◌, List, [], ◌∷◌, leb, ltb, eqb, get_or, set, replicate, ℕ, suc, ◌+◌, ◌-◌, ◌*◌, ◌%◌}
use Rattle.std.specs.List.{list_all}
use Rattle.runs.specs.Slots.{Slots, in_slot}
use Rattle.schedule.specs.Said.{bus_ok}
use Rattle.device.specs.declared.Arbiter.{Arbiter}
use Rattle.device.specs.declared.Registers.{Registers}

-- ---- what a state may hold

-- "cores and slot, in the ranges of tag 1": the row's rule, asked of core 0, which every bus has
abbrev pub sized : ℕ → ℕ → Bool
sized cores slot = bus_ok cores slot 0

-- "while waiting or running". Flags in range have one bit at most, so a bit is a number: "bit 0 waiting" is 1, "bit 1 running" is 2 and
-- "bit 2 done" is 4. Other flags are refused before this is asked
unfoldable pub busy : Registers → Bool
busy r = eqb r.flags 1 || eqb r.flags 2

-- "flags not 0, 1, 2 or 4, or a waiting or running length of 0" are out of range
unfoldable pub flags_fit : Registers → Bool
flags_fit r = (eqb r.flags 0 || eqb r.flags 4) || (busy r && leb 1 r.length)

-- one core's registers in range: a length of at most the slot length, "interrupt mask (0 or 1)", and the flags
unfoldable pub fits : ℕ → Registers → Bool
fits slot r = leb r.length slot && (leb r.mask 1 && flags_fit r)

-- those of every core
abbrev pub all_fit : ℕ → List Registers → Bool
all_fit slot rs = list_all (fits slot) rs

-- a state with no number out of range, "unused cores' registers, up to core 15, counted"
unfoldable pub formed : Arbiter → Bool
formed a = sized a.cores a.slot && (ltb a.offset (a.cores * a.slot) && all_fit a.slot a.registers)

-- such a state of a bus that has a core with the number p
unfoldable pub usable : Arbiter → ℕ → Bool
usable a p = formed a && ltb p a.cores

-- ---- the registers

-- all three 0
abbrev pub clear : Registers
clear = record { length = 0; flags = 0; mask = 0 }

-- the registers of core p; past core 15 they count as clear
abbrev pub registers_of : Arbiter → ℕ → Registers
registers_of a p = get_or a.registers p clear

-- the state with other registers of core p
abbrev pub with_registers : Arbiter → ℕ → Registers → Arbiter
with_registers a p r = record { cores = a.cores; slot = a.slot; offset = a.offset; registers = set a.registers p r }

-- the registers by number: "0 length", "1 flags", "2 interrupt mask"
unfoldable pub register_at : ℕ → Registers → ℕ
register_at n r = cond (eqb n 0) r.length (cond (eqb n 1) r.flags r.mask)

-- "The interrupt line is done together with the mask."
unfoldable pub line_of : Registers → ℕ
line_of r = cond (eqb r.flags 4 && eqb r.mask 1) 1 0

-- what may be written: "a length from 1 to the slot length", 0 or 1 to the mask, nothing to the flags
unfoldable pub writable : ℕ → ℕ → ℕ → Bool
writable slot n v = cond (eqb n 0) (leb 1 v && leb v slot) (eqb n 2 && leb v 1)

-- "clears all registers and the offset"
unfoldable pub cleared : ℕ → ℕ → Arbiter
cleared cores slot = record { cores = cores; slot = slot; offset = 0; registers = replicate 16 clear }

-- ---- a tick

-- the slots of the bus, seen from core p
abbrev pub slots_of_core : Arbiter → ℕ → Slots
slots_of_core a p = record { cores = a.cores; slot = a.slot; core = p }

-- a waiting core whose slot, at the offset o, holds its whole length: `in_slot` of document 01's bus
unfoldable pub starts_now : Slots → ℕ → Registers → Bool
starts_now v o r = eqb r.flags 1 && in_slot v r.length o

-- "a waiting core whose slot still holds its whole length turns from waiting to running"
unfoldable pub turned : Slots → ℕ → Registers → Registers
turned v o r = cond (starts_now v o r) (record { length = r.length; flags = 2; mask = r.mask }) r

-- one that is running: its length "falls by one, and at zero running gives way to done"
unfoldable pub count_down : Registers → Registers
count_down r = cond (leb r.length 1) (record { length = 0; flags = 4; mask = r.mask }) (record { length = r.length - 1; flags = 2; mask = r.mask })

-- "a running length, that one too"
unfoldable pub fallen : Registers → Registers
fallen r = cond (eqb r.flags 2) (count_down r) r

-- a core's registers after a tick
abbrev pub stepped : Slots → ℕ → Registers → Registers
stepped v o r = fallen (turned v o r)

-- those of each core, from core p on
unfoldable pub stepped_from : Arbiter → ℕ → List Registers → List Registers
stepped_from a p [] = []
stepped_from a p (r ∷ rs) = stepped (slots_of_core a p) a.offset r ∷ stepped_from a (suc p) rs

-- "then the offset moves on", from P − 1 to 0
unfoldable pub ticked : Arbiter → Arbiter
ticked a = record {
  cores = a.cores;
  slot = a.slot;
  offset = (a.offset + 1) % (a.cores * a.slot);
  registers = stepped_from a 0 a.registers;
}
