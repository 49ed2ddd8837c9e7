-- A memory as two lists of bytes, one for each bank.
use Rattle.std.specs.Prelude.{◌≡◌, ◌≢◌, ℕ, ◌+◌, ◌<◌, ◌≤◌, ◌⊎◌, IsTrue, List, ◌++◌, length, take, drop, slice_index}
use Rattle.std.specs.Prelude.{slice_range, All}
use Rattle.ec_space.specs.Bytes.{little_endian, number_of}
use Rattle.ec_space.specs.Spaces.{reaches}
use Rattle.ec_space.specs.declared.Core.{Core}
use Rattle.ec_space.specs.declared.Core.TheVariants.{Small, Large}
use Rattle.ec_space.specs.declared.space.Bank.{Bank}
use Rattle.ec_space.specs.declared.space.Bank.TheVariants.{Flash, Data}
use Rattle.ec_space.specs.declared.space.Place.{Place}
use Rattle.ec_space.specs.declared.space.SpaceId.{SpaceId}

-- the bytes of the two banks
pub record Memory : Type 0 where
  pub flash : List ℕ
  pub «data» : List ℕ

abbrev pub bank_bytes : Memory → Bank → List ℕ
bank_bytes m Flash = m.flash
bank_bytes m Data = m.data

-- how many bytes a core's banks have: flash, and the data addresses of registers, ports and SRAM (as the data sheet of
-- the ATmega328P has them)
abbrev pub flash_size : Core → ℕ
flash_size Small = 32_768
flash_size Large = 131_072

abbrev pub data_size : Core → ℕ
data_size Small = 2_304
data_size Large = 16_640

-- n bytes, each of them x. It is said by facts and not as one list, since a list of 32,768 numerals would be computed
pub record IsFilled (n x : ℕ) (bytes : List ℕ) : Type 0 where
  pub len : length bytes ≡ n
  pub items : All (λ byte. byte ≡ x) bytes

-- xs with ws written over it from index `from` on. What would pass the end of xs is cut off
abbrev pub overwrite : List ℕ → ℕ → List ℕ → List ℕ
overwrite xs from ws = take (length xs) (take from xs ++ (ws ++ drop (length ws) (drop from xs)))

abbrev pub with_bytes : Memory → Bank → ℕ → List ℕ → Memory
with_bytes m Flash from ws = record m { flash = overwrite m.flash from ws }
with_bytes m Data from ws = record m { «data» = overwrite m.data from ws }

-- the space holds the place's bank, and a value of `size` bytes at the place lies wholly in the bank
pub record HasCell (space : SpaceId) (m : Memory) (at : Place) (size : ℕ) : Type 0 where
  pub in_space : IsTrue (reaches space at.bank)
  pub in_bank : at.offset + size ≤ length (bank_bytes m at.bank)

-- the number in the `size` bytes from the place on, the lowest first
abbrev pub number_at : Memory → Place → ℕ → ℕ
number_at m at size = number_of (slice_range (bank_bytes m at.bank) at.offset (at.offset + size))

-- the memory with a number of `size` bytes at the place
abbrev pub with_number_at : Memory → Place → ℕ → ℕ → Memory
with_number_at m at size n = with_bytes m at.bank at.offset (little_endian size n)

-- each bank keeps its length
abbrev pub SameSizes : Memory → Memory → Type 0
SameSizes old new = (length new.flash ≡ length old.flash) × (length new.data ≡ length old.data)

-- every byte but the `size` bytes from the place on is in new as in old
abbrev pub SameOutside : Memory → Memory → Place → ℕ → Type 0
SameOutside old new at size = (bank : Bank) (i : ℕ) → (bank ≢ at.bank) ⊎ (i < at.offset) ⊎ (at.offset + size ≤ i)
    → slice_index (bank_bytes new bank) i ≡ slice_index (bank_bytes old bank) i
