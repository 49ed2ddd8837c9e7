-- Whole numbers as bytes, the lowest first. ISO/IEC 9899:1999, 6.2.6.1, leaves the order of a value's bytes to the
-- implementation.
use Rattle.std.specs.Prelude.{ℕ, zero, suc, ◌+◌, ◌*◌, ◌/◌, ◌%◌, ◌<◌, List, [], ◌∷◌, ◌++◌, ◌-◌, take, replicate}
use Rattle.std.specs.Prelude.{slice_index}

-- the n lowest bytes of a number, the lowest first
abbrev pub little_endian : ℕ → ℕ → List ℕ
little_endian zero x = []
little_endian (suc n) x = x % 256 ∷ little_endian n (x / 256)

-- the number that bytes make, the lowest first
abbrev pub number_of : List ℕ → ℕ
number_of [] = 0
number_of (byte ∷ bytes) = byte + 256 * number_of bytes

-- each item is a byte
abbrev pub AreBytes : List ℕ → Type 0
AreBytes bytes = (i : ℕ) → slice_index bytes i < 256

-- the eight bytes by which a value of `size` bytes is passed: its own, and zeros after them
abbrev pub cell_bytes : ℕ → ℕ → List ℕ
cell_bytes size x = little_endian size x ++ replicate (8 - size) 0

-- the number in the first `size` of them
abbrev pub cell_number : ℕ → List ℕ → ℕ
cell_number size bytes = number_of (take size bytes)
