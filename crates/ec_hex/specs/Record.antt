-- The records of the Intel HEX format, as its lines tell them (Intel, Hexadecimal Object File Format Specification,
-- Revision A, 1988).
use Rattle.std.specs.Prelude.{ℕ, ◌+◌, ◌*◌, ◌%◌, ◌==◌, nat_le, ◌&&◌, if◌then◌else◌, Option, Some, None, List, [], ◌∷◌}
use Rattle.std.specs.Prelude.{length, take, slice_index}
use Rattle.std.specs.Option.{option_map_or}
use Rattle.ec_hex.specs.Bytes.{bytes_of, total}

pub data Record : Type 0 where
  -- type 00: these bytes stand from this offset on
  Data : (offset : ℕ) (bytes : List ℕ) → Record
  -- type 01: the file ends
  EndOfFile : Record
  -- types 02 and 04: from here on, this is added to the offsets of data
  Base : (base : ℕ) → Record
  -- types 03 and 05: where a program starts, of which an image knows nothing
  Start : Record

-- two bytes, the higher first
abbrev pub word_of : List ℕ → ℕ
word_of bytes = 256 * slice_index bytes 0 + slice_index bytes 1

-- the record of a type, an offset and data
abbrev pub record_of : ℕ → ℕ → List ℕ → Option Record
record_of kind offset bytes =
    if kind == 0 then Some (Data offset bytes)
    else (if (kind == 1) && (length bytes == 0) then Some EndOfFile
    else (if (kind == 2) && (length bytes == 2) then Some (Base (16 * word_of bytes))
    else (if (kind == 3) && (length bytes == 4) then Some Start
    else (if (kind == 4) && (length bytes == 2) then Some (Base (65536 * word_of bytes))
    else (if (kind == 5) && (length bytes == 4) then Some Start else None)))))

-- how a line of a text reads
pub data Reading : Type 0 where
  -- it has no character, not even a blank
  Empty : Reading
  -- it does not have the form of a record
  NoRecord : Reading
  -- it has that form, but its bytes do not sum to 0 modulo 256
  WrongSum : Reading
  Sound : (what : Record) → Reading

abbrev pub summed : ℕ → Option Record → Reading
summed sum None = NoRecord
summed sum (Some what) = if sum % 256 == 0 then Sound what else WrongSum

-- how a line of these bytes reads: the number of data bytes, the offset (the higher byte first), the type, the data and
-- the checksum. The number and the offset are at most 65,536 together, whatever the type
abbrev pub reading_of_bytes : List ℕ → Reading
reading_of_bytes (count ∷ high ∷ low ∷ kind ∷ more) =
    if (length more == count + 1) && nat_le (256 * high + low + count) 65536
    then summed (total (count ∷ high ∷ low ∷ kind ∷ more)) (record_of kind (256 * high + low) (take count more))
    else NoRecord
reading_of_bytes _ = NoRecord

-- how a line of these characters reads: a colon, and then bytes as digits
abbrev pub reading_of : List ℕ → Reading
reading_of [] = Empty
reading_of (c ∷ digits) = if c == 58 then option_map_or reading_of_bytes (bytes_of digits) NoRecord else NoRecord
