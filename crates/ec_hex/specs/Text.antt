-- The Intel HEX text of an image.
use Rattle.std.specs.Prelude.{ℕ, zero, suc, ◌+◌, ◌-◌, ◌/◌, ◌%◌, if◌then◌else◌, Bool, Option, Some, None, List, [], ◌∷◌}
use Rattle.std.specs.Prelude.{◌++◌, ◌*◌, ◌≤◌, ◌==◌, min, length}
use Rattle.ec_avr.specs.Flash.{flash_size}
use Rattle.ec_avr.specs.declared.image.Image.{Image}
use Rattle.ec_hex.specs.Bytes.{digits_of, total}
use Rattle.ec_hex.specs.declared.line.RecordType.{RecordType}
use Rattle.ec_hex.specs.declared.line.RecordType.TheVariants.{Data, EndOfFile, LinearBase}

abbrev pub code_of : RecordType → ℕ
code_of Data = 0
code_of EndOfFile = 1
code_of LinearBase = 4

-- a record's bytes but the checksum: the number of data bytes, the offset, the type and the data
abbrev pub fields : RecordType → ℕ → List ℕ → List ℕ
fields kind offset bytes = length bytes ∷ offset / 256 ∷ offset % 256 ∷ code_of kind ∷ bytes

-- the byte that makes a sum 0 modulo 256
abbrev pub checksum : List ℕ → ℕ
checksum bytes = (256 - total bytes % 256) % 256

-- a record's line with its LF
abbrev pub record_line : RecordType → ℕ → List ℕ → List ℕ
record_line kind offset bytes =
    58 ∷ digits_of (fields kind offset bytes ++ checksum (fields kind offset bytes) ∷ []) ++ 10 ∷ []

-- each byte of a flash where it is written
abbrev pub contents : List ℕ → List Bool → List (Option ℕ)
contents [] written = []
contents (byte ∷ bytes) [] = []
contents (byte ∷ bytes) (flag ∷ written) = (if flag then Some byte else None) ∷ contents bytes written

-- the written bytes at the front, at most so many
abbrev pub run : ℕ → List (Option ℕ) → List ℕ
run most [] = []
run most (None ∷ cells) = []
run zero (Some byte ∷ cells) = []
run (suc most) (Some byte ∷ cells) = byte ∷ run most cells

-- a number of 16 bits as two bytes, the higher first
abbrev pub word_bytes : ℕ → List ℕ
word_bytes n = n / 256 ∷ n % 256 ∷ []

-- the line that makes the upper half of an address the base, where another base is in force
abbrev pub base_line : (base at : ℕ) → List ℕ
base_line base at = if at / 65536 == base then [] else record_line LinearBase 0 (word_bytes (at / 65536))

-- how many bytes a record may have behind its first, which stands at an address: up to 15, and none at the next
-- multiple of 65,536 or past it
abbrev pub more_at : ℕ → ℕ
more_at at = min 15 (65535 - at % 65536)

-- the text of what stands from an address on, where up to so many written bytes at the front are put out already: a
-- record begins at the lowest written byte that is not, behind the line of its base; the end record comes last
abbrev pub text_from : (base at out : ℕ) → List (Option ℕ) → List ℕ
text_from base at out [] = record_line EndOfFile 0 []
text_from base at out (None ∷ cells) = text_from base (at + 1) 0 cells
text_from base at zero (Some byte ∷ cells) =
    base_line base at
    ++ (record_line Data (at % 65536) (byte ∷ run (more_at at) cells) ++ text_from (at / 65536) (at + 1) (more_at at) cells)
text_from base at (suc out) (Some byte ∷ cells) = text_from base (at + 1) out cells

-- the base is 0 at the start
abbrev pub hex_text : List ℕ → List Bool → List ℕ
hex_text bytes written = text_from 0 0 0 (contents bytes written)

abbrev pub image_text : Image → List ℕ
image_text image = hex_text image.bytes.items image.written.items

-- the text of an image has at most 14 bytes for each byte of the flash, 16 for each 65,536 of them that others follow,
-- and 12 more
abbrev pub TextsAreShort : Type 0
TextsAreShort =
    (image : Image)
    → length (image_text image) ≤ 14 * flash_size image.core + 16 * ((flash_size image.core - 1) / 65536) + 12
