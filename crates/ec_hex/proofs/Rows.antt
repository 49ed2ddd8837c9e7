-- Texts with what the definitions say of them, worked out by hand from the format.
use Rattle.std.specs.Prelude.{ℕ, ◌≡◌, List, [], ◌∷◌, true, false, Option, Some, None, option_map, map, codes, refl}
use Rattle.std.specs.Str.Lines.{lines}
use Rattle.ec_hex.specs.Record.{Data, EndOfFile, Reading, NoRecord, WrongSum, Sound, reading_of}
use Rattle.ec_hex.specs.Denotes.{records_in, data_of}
use Rattle.ec_hex.specs.Text.{hex_text, text_from}

-- the data bytes that a text tells beside their addresses
abbrev data_in : List ℕ → Option (List (ℕ × ℕ))
data_in text = option_map (data_of 0) (records_in text)

abbrev readings : List ℕ → List Reading
readings text = map reading_of (lines text)

break_alone : hex_text (152 ∷ 149 ∷ 255 ∷ []) (true ∷ true ∷ false ∷ []) ≡ codes ":020000009895D1\n:00000001FF\n"
break_alone = refl

nothing_written : hex_text (255 ∷ 255 ∷ []) (false ∷ false ∷ []) ≡ codes ":00000001FF\n"
nothing_written = refl

break_read : data_in (codes ":020000009895D1\n:00000001FF\n") ≡ Some ((0, 152) ∷ (1, 149) ∷ [])
break_read = refl

-- either case, CRLF, empty lines, a last line without an end
other_forms : data_in (codes "\n:020000009895d1\r\n\r\n:00000001fF") ≡ Some ((0, 152) ∷ (1, 149) ∷ [])
other_forms = refl

-- a start record is passed over
start_passed : data_in (codes ":0400000500000000F7\n:0400000300003800C1\n:020000009895D1\n:00000001FF\n") ≡ Some ((0, 152) ∷ (1, 149) ∷ [])
start_passed = refl

wrong_sum : readings (codes ":020000009895D2\n:00000001FF\n") ≡ WrongSum ∷ Sound EndOfFile ∷ []
wrong_sum = refl

no_end : records_in (codes ":020000009895D1\n") ≡ None
no_end = refl

out_of_flash : data_in (codes ":01800000007F\n:00000001FF\n") ≡ Some ((32768, 0) ∷ [])
out_of_flash = refl

twice : data_in (codes ":0100000000FF\n:0100000000FF\n:00000001FF\n") ≡ Some ((0, 0) ∷ (0, 0) ∷ [])
twice = refl

-- what follows the end record counts for nothing, not even its form
behind_the_end : data_in (codes ":00000001FF\nzz\n:0100000000FF\n") ≡ Some []
behind_the_end = refl

-- a carriage return belongs to a line's end only right before a line feed
lone_return : readings (codes ":00000001FF\r") ≡ NoRecord ∷ []
lone_return = refl

two_returns : readings (codes ":00000001FF\r\r\n\r\r\n") ≡ NoRecord ∷ NoRecord ∷ []
two_returns = refl

-- a segment's base is its word times 16, a linear base its word times 65,536; the later replaces the earlier
bases : data_in (codes ":020000021023C9\n:0100050001F9\n:020000040002F8\n:0100060002F7\n:00000001FF\n")
    ≡ Some ((66101, 1) ∷ (131078, 2) ∷ [])
bases = refl

-- no offset passes 65,536, whatever the type
offsets : readings (codes ":02FFFE000708F2\n:02FFFF000708F1\n:04FFFD0500000000FB\n:00ABCD0187\n")
    ≡ Sound (Data 65534 (7 ∷ 8 ∷ [])) ∷ NoRecord ∷ NoRecord ∷ Sound EndOfFile ∷ []
offsets = refl

-- a type that is none, and numbers of data bytes that are not the type's
no_records : readings (codes ":00000006FA\n:0100000100FE\n:0100000200FD\n:050000030000000000F8\n:0000000000\n")
    ≡ NoRecord ∷ NoRecord ∷ NoRecord ∷ NoRecord ∷ Sound (Data 0 []) ∷ []
no_records = refl

-- a digit too many or too few, a number of data bytes that is wrong, no colon, a character that is no digit
no_forms : readings (codes ":020000009895D1F\n:020000009895D\n:030000009895D0\n020000009895D1\n:02000000989GD1\n :00000001FF\n:\n")
    ≡ NoRecord ∷ NoRecord ∷ NoRecord ∷ NoRecord ∷ NoRecord ∷ NoRecord ∷ NoRecord ∷ []
no_forms = refl

-- a record ends at a multiple of 65,536, and the upper half of the next address is told before its record
over_the_half : text_from 0 65535 0 (Some 1 ∷ Some 2 ∷ []) ≡ codes ":01FFFF000100\n:020000040001F9\n:0100000002FD\n:00000001FF\n"
over_the_half = refl

half_read : data_in (codes ":01FFFF000100\n:020000040001F9\n:0100000002FD\n:00000001FF\n") ≡ Some ((65535, 1) ∷ (65536, 2) ∷ [])
half_read = refl
