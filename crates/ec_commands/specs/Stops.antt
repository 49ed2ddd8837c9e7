-- Why a command stops, its status and its line.
use Rattle.std.specs.Prelude.{ℕ, List, [], codes}
use Rattle.ec_commands.specs.declared.stop.Limit.{Limit}
use Rattle.ec_commands.specs.declared.stop.Limit.TheVariants.{Sources, SourceBytes, MapBytes, HexBytes, ScriptBytes}
use Rattle.ec_commands.specs.declared.stop.Limit.TheVariants.{Tokens, Nesting, Objects, Functions, ListingBytes}
use Rattle.ec_commands.specs.declared.stop.CommandError.{CommandError}
use Rattle.ec_commands.specs.declared.stop.CommandError.TheVariants.{Usage, CannotRead, CannotWrite, TooMany}
use Rattle.ec_commands.specs.declared.stop.CommandError.TheVariants.{NoMemory, BadRecord, BadSum, OutOfFlash, Twice}
use Rattle.ec_commands.specs.declared.stop.CommandError.TheVariants.{NoEnd}
use Rattle.ec_commands.specs.declared.stop.CommandError.TheVariants.{ScriptLine, AsmLine, Fault, StepsOut, NoNumber}
use Rattle.std.specs.Prelude.{◌<◌, ◌/◌, ◌%◌, ◌∷◌, ◌++◌, length, ⊤}
use Rattle.std.specs.Fmt.{decimal}
use Rattle.ec_avr.specs.declared.machine.FaultKind.{FaultKind}
use Rattle.ec_avr.specs.declared.machine.FaultKind.TheVariants.{Unsupported, PcOut, DataOut, StackOut}
use Rattle.ec_hex.specs.Bytes.{digits_of}
use Rattle.ec_commands.specs.Words.{Words, word}

abbrev pub number_of : Limit → ℕ
number_of Sources = 1
number_of SourceBytes = 2
number_of MapBytes = 3
number_of HexBytes = 4
number_of ScriptBytes = 5
number_of Tokens = 6
number_of Nesting = 7
number_of Objects = 8
number_of Functions = 9
number_of ListingBytes = 10

abbrev pub most_of : Limit → ℕ
most_of Sources = 16
most_of SourceBytes = 65536
most_of MapBytes = 16384
most_of HexBytes = 1048576
most_of ScriptBytes = 65536
most_of Tokens = 65535
most_of Nesting = 64
most_of Objects = 1024
most_of Functions = 256
most_of ListingBytes = 4194304

abbrev pub status_of : CommandError → ℕ
status_of Usage = 2
status_of (CannotRead i) = 3
status_of CannotWrite = 4
status_of (TooMany limit) = 10
status_of NoMemory = 11
status_of (BadRecord line) = 12
status_of (BadSum line) = 12
status_of (OutOfFlash line) = 12
status_of (Twice line) = 12
status_of NoEnd = 12
status_of (ScriptLine line rule) = 12
status_of (Fault kind pc) = 13
status_of StepsOut = 14
status_of NoNumber = 15
status_of (AsmLine line rule) = 18

-- the line of a stop that is told without a name or a number, and nothing for any other
abbrev pub text_of : CommandError → List ℕ
text_of Usage = codes "usage\n"
text_of CannotWrite = codes "cannot write\n"
text_of NoMemory = codes "no memory\n"
text_of NoEnd = codes "hex: no end\n"
text_of StepsOut = codes "steps out\n"
text_of stop = []

abbrev pub fault_name : FaultKind → List ℕ
fault_name Unsupported = codes "unsupported"
fault_name PcOut = codes "pc"
fault_name DataOut = codes "data"
fault_name StackOut = codes "stack"

-- four hexadecimal digits in upper case
abbrev pub four_digits : ℕ → List ℕ
four_digits n = digits_of (n / 256 ∷ n % 256 ∷ [])

-- the line that tells it
abbrev pub line_of : Words → CommandError → List ℕ
line_of words Usage = codes "usage\n"
line_of words (CannotRead i) = codes "cannot read " ++ word words i ++ codes "\n"
line_of words CannotWrite = codes "cannot write\n"
line_of words (TooMany limit) =
    codes "limit " ++ decimal (number_of limit) ++ codes " " ++ decimal (most_of limit) ++ codes "\n"
line_of words NoMemory = codes "no memory\n"
line_of words (BadRecord line) = codes "hex line " ++ decimal line ++ codes ": bad record\n"
line_of words (BadSum line) = codes "hex line " ++ decimal line ++ codes ": bad sum\n"
line_of words (OutOfFlash line) = codes "hex line " ++ decimal line ++ codes ": out of flash\n"
line_of words (Twice line) = codes "hex line " ++ decimal line ++ codes ": twice\n"
line_of words NoEnd = codes "hex: no end\n"
line_of words (ScriptLine line rule) =
    codes "script line " ++ decimal line ++ codes ": rule " ++ decimal rule ++ codes "\n"
line_of words (AsmLine line rule) = codes "asm line " ++ decimal line ++ codes ": rule " ++ decimal rule ++ codes "\n"
line_of words (Fault kind pc) = codes "fault " ++ fault_name kind ++ codes " at " ++ four_digits pc ++ codes "\n"
line_of words StepsOut = codes "steps out\n"
line_of words NoNumber = codes "no number " ++ word words 4 ++ codes " " ++ word words 5 ++ codes "\n"

-- the words that the line of a stop takes over are there: that of a file, or those of a number
abbrev pub IsNamed : Words → CommandError → Type 0
IsNamed words (CannotRead i) = i < length words
IsNamed words NoNumber = 5 < length words
IsNamed words _ = ⊤
