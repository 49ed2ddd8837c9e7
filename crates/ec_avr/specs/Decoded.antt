-- The flash, decoded ahead.
use Rattle.std.specs.Prelude.{ℕ, ◌+◌, ◌*◌, ◌≡◌, ◌≤◌, List, length, Option, Some, slice_index, slice_get}
use Rattle.ec_space.specs.Memory.{Memory, flash_size, data_size}
use Rattle.ec_space.specs.declared.Core.{Core}
use Rattle.ec_isa.specs.declared.instructions.Instr.{Instr}
use Rattle.ec_isa.specs.Reading.{instruction_at}

-- the word of a flash at a word address, and 0 past its end
abbrev pub flash_word : List ℕ → ℕ → ℕ
flash_word flash at = slice_index flash (2 * at) + 256 * slice_index flash (2 * at + 1)

-- what stands at a word address, by the instruction table
abbrev pub decoded_at : List ℕ → ℕ → Option Instr
decoded_at flash at = instruction_at (flash_word flash at) (flash_word flash (at + 1))

-- each entry is what stands at its word address. There may be fewer than the flash has words
abbrev pub AreDecoded : List ℕ → List (Option Instr) → Type 0
AreDecoded flash entries =
    (at : ℕ) (found : Option Instr) → slice_get entries at ≡ Some found → found ≡ decoded_at flash at

-- the banks have the sizes of a core, which has all addresses of registers and ports, and the entries are what stands
-- in its flash
pub record IsMade (core : Core) (m : Memory) (entries : List (Option Instr)) : Type 0 where
  pub flash : length m.flash ≡ flash_size core
  pub sram : length m.data ≡ data_size core
  pub ports : 256 ≤ length m.data
  pub decoded : AreDecoded m.flash entries
