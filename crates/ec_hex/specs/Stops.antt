-- Why a text denotes no image, and at which line.
use Rattle.std.specs.Prelude.{ℕ, ◌+◌, ◌<◌, ◌≡◌, ◌≢◌, Bool, true, false, List, [], ◌∷◌, Some, map, take, slice_get, All}
use Rattle.std.specs.Prelude.{AllPairs}
use Rattle.std.specs.Str.Lines.{lines}
use Rattle.ec_space.specs.declared.Core.{Core}
use Rattle.ec_avr.specs.Flash.{flash_size}
use Rattle.ec_hex.specs.Record.{Record, EndOfFile, Reading, Empty, NoRecord, WrongSum, Sound, reading_of}
use Rattle.ec_hex.specs.Denotes.{data_of}
use Rattle.ec_hex.specs.declared.read.HexStop.{HexStop}
use Rattle.ec_hex.specs.declared.read.HexStop.TheVariants as stops

-- how each line of a text reads
abbrev pub readings_of : List ℕ → List Reading
readings_of text = map reading_of (lines text)

-- the records that lines tell
abbrev pub told : List Reading → List Record
told [] = []
told (Sound what ∷ more) = what ∷ told more
told (_ ∷ more) = told more

-- the data bytes that lines tell, beside their addresses
abbrev pub data_in : List Reading → List (ℕ × ℕ)
data_in readings = data_of 0 (told readings)

-- all bytes are in flash
abbrev pub AreInFlash : Core → List (ℕ × ℕ) → Type 0
AreInFlash core cells = All (λ cell. cell.0 < flash_size core) cells

-- no address occurs twice
abbrev pub AreOnce : List (ℕ × ℕ) → Type 0
AreOnce cells = AllPairs (λ cell other. cell.0 ≢ other.0) cells

-- a line is empty, or a record other than the end record
abbrev pub is_passed : Reading → Bool
is_passed Empty = true
is_passed NoRecord = false
is_passed WrongSum = false
is_passed (Sound EndOfFile) = false
is_passed (Sound _) = true

-- lines without a fault, and without the end record
pub record IsClear (core : Core) (readings : List Reading) : Type 0 where
  pub passed : All (λ reading. is_passed reading ≡ true) readings
  pub in_flash : AreInFlash core (data_in readings)
  pub once : AreOnce (data_in readings)

-- the lines before a line, which is counted from 1, are clear, and the line itself, which is counted from 0, has a
-- fault
abbrev pub StopsAt : Core → List Reading → ℕ → (ℕ → Type 0) → Type 0
StopsAt core readings line HasFault = (n : ℕ) × ((line ≡ n + 1) × (IsClear core (take n readings) × HasFault n))

-- lines stop in this way. A line that is no record, or has a wrong sum, tells no data byte
abbrev pub StopsIn : Core → List Reading → HexStop → Type 0
StopsIn core readings (stops.BadRecord line) = StopsAt core readings line (λ n. slice_get readings n ≡ Some NoRecord)
StopsIn core readings (stops.BadSum line) = StopsAt core readings line (λ n. slice_get readings n ≡ Some WrongSum)
StopsIn core readings (stops.OutOfFlash line) =
    StopsAt core readings line (λ n. ¬ AreInFlash core (data_in (take (n + 1) readings)))
StopsIn core readings (stops.Twice line) =
    StopsAt core readings line (λ n. AreInFlash core (data_in (take (n + 1) readings))
    × ¬ AreOnce (data_in (take (n + 1) readings)))
StopsIn core readings stops.NoEnd = IsClear core readings
StopsIn core readings stops.NoMemory = Unit {0}

-- the reading of a text stops in this way: at the first line that has a fault, or because no end record stands there
abbrev pub HasStop : Core → List ℕ → HexStop → Type 0
HasStop core text stop = StopsIn core (readings_of text) stop
