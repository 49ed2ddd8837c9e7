-- What an Intel HEX text denotes.
use Rattle.std.specs.Prelude.{ℕ, ◌+◌, ◌≡◌, ◌≢◌, ◌==◌, ◌<◌, if◌then◌else◌, Bool, Option, Some, None, option_map, is_some}
use Rattle.std.specs.Prelude.{unwrap_or, IsSomeAnd, List, [], ◌∷◌, ◌++◌, length, map, slice_get, All, AllPairs}
use Rattle.std.specs.Str.Lines.{lines}
use Rattle.ec_space.specs.declared.Core.{Core}
use Rattle.ec_avr.specs.Flash.{flash_size}
use Rattle.ec_hex.specs.Record.{Record, Data, EndOfFile, Base, Start, Reading, Empty, NoRecord, WrongSum, Sound}
use Rattle.ec_hex.specs.Record.{reading_of}

-- the records of lines up to the end record, which has to come; none where a line before it is no record or has a wrong
-- sum. Empty lines are passed over, and what follows the end record counts for nothing
abbrev pub records_of : List Reading → Option (List Record)
records_of [] = None
records_of (Empty ∷ more) = records_of more
records_of (NoRecord ∷ more) = None
records_of (WrongSum ∷ more) = None
records_of (Sound EndOfFile ∷ more) = Some []
records_of (Sound what ∷ more) = option_map (λ records. what ∷ records) (records_of more)

-- a text's lines end with LF or CRLF, and the last may stand without an end
abbrev pub records_in : List ℕ → Option (List Record)
records_in text = records_of (map reading_of (lines text))

-- bytes beside their addresses, which rise from one on
abbrev pub addressed : ℕ → List ℕ → List (ℕ × ℕ)
addressed at [] = []
addressed at (byte ∷ bytes) = (at, byte) ∷ addressed (at + 1) bytes

-- all data bytes of records beside their addresses, which are base, offset and place together; the base is given, up to
-- the first record that sets it
abbrev pub data_of : ℕ → List Record → List (ℕ × ℕ)
data_of base [] = []
data_of base (Data offset bytes ∷ more) = addressed (base + offset) bytes ++ data_of base more
data_of base (EndOfFile ∷ more) = []
data_of base (Base next ∷ more) = data_of next more
data_of base (Start ∷ more) = data_of base more

abbrev pub byte_at : ℕ → List (ℕ × ℕ) → Option ℕ
byte_at address [] = None
byte_at address (cell ∷ cells) = if cell.0 == address then Some cell.1 else byte_at address cells

-- a core's flash has just these bytes as written, and 0xFF elsewhere: all are in flash, and no address occurs twice
pub record HoldsJust (core : Core) (cells : List (ℕ × ℕ)) (bytes : List ℕ) (written : List Bool) : Type 0 where
  pub in_flash : All (λ cell. cell.0 < flash_size core) cells
  pub once : AllPairs (λ cell other. cell.0 ≢ other.0) cells
  pub sized : length bytes ≡ flash_size core
  pub flagged : length written ≡ flash_size core
  pub bytes_are : (k : ℕ) → k < flash_size core → slice_get bytes k ≡ Some (unwrap_or (byte_at k cells) 255)
  pub flags_are : (k : ℕ) → k < flash_size core → slice_get written k ≡ Some (is_some (byte_at k cells))

-- a text denotes the image of a core with these bytes and flags. No text denotes two
abbrev pub Denotes : Core → List ℕ → List ℕ → List Bool → Type 0
Denotes core text bytes written =
    IsSomeAnd (records_in text) (λ records. HoldsJust core (data_of 0 records) bytes written)
