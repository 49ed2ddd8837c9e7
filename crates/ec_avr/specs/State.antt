-- The state of the machine and the places in it (Microchip AVR Instruction Set Manual and the data memory maps of the
-- ATmega328P and the ATmega1284P).
use Rattle.std.specs.Prelude.{◌≡◌, ℕ, ◌+◌, ◌*◌, ◌/◌, ◌%◌, nat_lt, nat_le, Bool, ◌&&◌, IsTrue, length}
use Rattle.std.specs.Prelude.{slice_index, slice_set}
use Rattle.std.specs.Int.{bit_at}
use Rattle.ec_space.specs.declared.Core.{Core}
use Rattle.ec_space.specs.Memory.{Memory}
pub use Rattle.ec_isa.specs.Addresses.{has_rampz, is_core_register, is_port, raised, lowered}

-- the core, both banks, and the program counter, which counts words. The registers are the first 32 data bytes
pub record State : Type 0 where
  pub core : Core
  pub mem : Memory
  pub pc : ℕ

-- the word of flash at a word address, and 0 past the flash
abbrev pub word_at : State → ℕ → ℕ
word_at s at = slice_index s.mem.flash (2 * at) + 256 * slice_index s.mem.flash (2 * at + 1)

-- both bytes of the word at a word address lie in flash
abbrev pub is_in_flash : State → ℕ → Bool
is_in_flash s at = nat_lt (2 * at + 1) (length s.mem.flash)

-- the byte at a data address
abbrev pub byte_at : State → ℕ → ℕ
byte_at s at = slice_index s.mem.data at

abbrev pub with_byte : State → ℕ → ℕ → State
with_byte s at byte = record s { mem = record s.mem { «data» = slice_set s.mem.data at byte } }

-- register Rd
abbrev pub register : State → ℕ → ℕ
register s d = byte_at s d

abbrev pub with_register : State → ℕ → ℕ → State
with_register s d byte = with_byte s d byte

-- the number in two neighbouring bytes, the low one first, as a pair of registers and SP have it
abbrev pub pair : State → ℕ → ℕ
pair s at = byte_at s at + 256 * byte_at s (at + 1)

abbrev pub with_pair : State → ℕ → ℕ → State
with_pair s at n = with_byte (with_byte s at (n % 256)) (at + 1) (n / 256)

-- the pointers X = R27:R26, Y = R29:R28 and Z = R31:R30
abbrev pub pointer_x : ℕ
pointer_x = 26

abbrev pub pointer_y : ℕ
pointer_y = 28

abbrev pub pointer_z : ℕ
pointer_z = 30

-- the data address of the register RAMPZ
abbrev pub rampz : ℕ
rampz = 0x5B

-- the number in RAMPZ:Z, of 24 bits
abbrev pub far_pointer : State → ℕ
far_pointer s = 65536 * byte_at s rampz + pair s pointer_z

abbrev pub with_far_pointer : State → ℕ → State
with_far_pointer s n = with_byte (with_pair s pointer_z (n % 65536)) rampz (n / 65536)

-- the next such number, by modulo 2 to the power of 24
abbrev pub raised_far : ℕ → ℕ
raised_far n = (n + 1) % 16777216

-- the stack pointer, in SPH:SPL
abbrev pub stack_pointer : State → ℕ
stack_pointer s = pair s 0x5D

abbrev pub with_stack_pointer : State → ℕ → State
with_stack_pointer s n = with_pair s 0x5D n

-- the status register
abbrev pub sreg : State → ℕ
sreg s = byte_at s 0x5F

abbrev pub with_sreg : State → ℕ → State
with_sreg s byte = with_byte s 0x5F byte

-- a flag of SREG, by its bit: 0 or 1
abbrev pub flag : State → ℕ → ℕ
flag s number = bit_at (sreg s) number

-- the SRAM goes from 0x0100 to the end of the data addresses
abbrev pub is_sram : State → ℕ → Bool
is_sram s at = nat_le 256 at && nat_lt at (length s.mem.data)

abbrev pub with_pc : State → ℕ → State
with_pc s to = record s { pc = to % 65536 }

-- the program counter goes on by so many words
abbrev pub passed : State → ℕ → State
passed s words = with_pc s (s.pc + words)

-- a core and a memory, and what they are later: the same core, flash, size of the data memory, and bytes at the
-- addresses of ports
pub record KeepsBoth (core : Core) (old : Memory) (later : Core) (new : Memory) : Type 0 where
  pub same : later ≡ core
  pub flash : new.flash ≡ old.flash
  pub size : length new.data ≡ length old.data
  pub ports : (at : ℕ) → IsTrue (is_port core at) → slice_index new.data at ≡ slice_index old.data at

-- what no step changes
abbrev pub Keeps : State → State → Type 0
Keeps old new = KeepsBoth old.core old.mem new.core new.mem
