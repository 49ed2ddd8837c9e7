-- What is known after some lines of a text.
use Rattle.std.specs.Prelude.{ℕ, ◌+◌, ◌≡◌, Bool, true, false, List, [], ◌∷◌, Some, Ok, Err, Result, take, slice_get}
use Rattle.ec_space.specs.declared.Core.{Core}
use Rattle.ec_avr.specs.declared.image.Image.{Image}
use Rattle.ec_hex.specs.Record.{Record, Data, EndOfFile, Base, Start, Reading, Sound}
use Rattle.ec_hex.specs.Denotes.{HoldsJust}
use Rattle.ec_hex.specs.Stops.{told, data_in, AreInFlash, AreOnce, IsClear, StopsIn}
use Rattle.ec_hex.specs.declared.read.HexStop.{HexStop}
use Rattle.ec_hex.specs.declared.read.HexStop.TheVariants as stops
use Rattle.ec_hex.specs.declared.read.Reader.{Reader}

-- the base after records, where another was set before them
abbrev pub base_after : ℕ → List Record → ℕ
base_after base [] = base
base_after base (Data offset bytes ∷ more) = base_after base more
base_after base (EndOfFile ∷ more) = base_after base more
base_after base (Base next ∷ more) = base_after next more
base_after base (Start ∷ more) = base_after base more

-- an image has just these bytes
abbrev pub Holds : Image → List (ℕ × ℕ) → Type 0
Holds image cells = HoldsJust image.core cells image.bytes.items image.written.items

-- these bytes are those of no image, and the line is told at which that shows
abbrev pub Misfit : Core → List (ℕ × ℕ) → ℕ → HexStop → Type 0
Misfit core cells line (stops.OutOfFlash n) = (n ≡ line) × ¬ AreInFlash core cells
Misfit core cells line (stops.Twice n) = (n ≡ line) × (AreInFlash core cells × ¬ AreOnce cells)
Misfit core cells line _ = ⊥

-- the lines are clear, and the image and the base are what they tell
pub record HasRead (readings : List Reading) (reader : Reader) : Type 0 where
  pub clear : IsClear reader.image.core readings
  pub image : Holds reader.image (data_in readings)
  pub base : reader.base ≡ base_after 0 (told readings)

-- line n, counted from 0, was read, where all lines before it are clear: it was the end record, or is passed, or stops
-- the reading
abbrev pub ReadsLine : Core → List Reading → ℕ → Result Bool HexStop → Reader → Type 0
ReadsLine core readings n (Ok true) reader =
    (slice_get readings n ≡ Some (Sound EndOfFile)) × Holds reader.image (data_in (take n readings))
ReadsLine core readings n (Ok false) reader = HasRead (take (n + 1) readings) reader
ReadsLine core readings n (Err stop) reader = StopsIn core readings stop

-- a line that reads like this is read, whichever lines stand before it
abbrev pub ReadsOn : Reading → ℕ → Reader → Result Bool HexStop → Reader → Type 0
ReadsOn reading line old result new =
    (readings : List Reading) (n : ℕ) → line ≡ n + 1 → slice_get readings n ≡ Some reading
    → HasRead (take n readings) old
    → ReadsLine old.image.core readings n result new
