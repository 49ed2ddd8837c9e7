-- From the text of an instruction to the instruction: its pattern tells the opcode and where its numbers stand in the
-- words, and the instruction of these words is the one where it has this text.
use Rattle.std.specs.Prelude.{ℕ, ◌+◌, ◌-◌, ◌*◌, ◌/◌, ◌%◌, List, [], ◌∷◌, Option, Some, None, if◌then◌else◌, bytes_eq}
use Rattle.std.specs.Prelude.{option_and_then}
use Rattle.ec_isa.specs.declared.instructions.Instr.{Instr}
use Rattle.ec_isa.specs.Reading.{instruction_at}
use Rattle.ec_list.specs.declared.texts.Format.{Format}
use Rattle.ec_list.specs.declared.texts.Format.TheVariants.{Bare, Pairs, Two, Immediate, LoadDisplaced, StoreDisplaced}
use Rattle.ec_list.specs.declared.texts.Format.TheVariants.{LoadDirect, StoreDirect, One, Direct, PairImmediate, In, Out}
use Rattle.ec_list.specs.declared.texts.Format.TheVariants.{Relative, RelativeBack, Branch, BranchBack, Bit}
use Rattle.ec_list.specs.declared.reading.Form.{Form}
use Rattle.ec_list.specs.Scanning.{Scan, scanned}
use Rattle.ec_list.specs.Texts.{text, instruction_text}

-- the first word of an instruction with each pattern, whose fields are 0 but for the sign bit of a negative distance
unfoldable pub form_words : List ℕ
form_words =
    0x0000 ∷ 0x0100 ∷ 0x0400 ∷ 0x0800 ∷ 0x0C00 ∷ 0x1000 ∷ 0x1400 ∷ 0x1800 ∷ 0x1C00 ∷ 0x2000
    ∷ 0x2400 ∷ 0x2800 ∷ 0x2C00 ∷ 0x9C00 ∷ 0x3000 ∷ 0x4000 ∷ 0x5000 ∷ 0x6000 ∷ 0x7000 ∷ 0xE000
    ∷ 0x8000 ∷ 0x8008 ∷ 0x8200 ∷ 0x8208 ∷ 0x9000 ∷ 0x9200 ∷ 0x9001 ∷ 0x9002 ∷ 0x9009 ∷ 0x900A
    ∷ 0x900C ∷ 0x900D ∷ 0x900E ∷ 0x9201 ∷ 0x9202 ∷ 0x9209 ∷ 0x920A ∷ 0x920C ∷ 0x920D ∷ 0x920E
    ∷ 0x9004 ∷ 0x9005 ∷ 0x9006 ∷ 0x9007 ∷ 0x900F ∷ 0x920F ∷ 0x9400 ∷ 0x9401 ∷ 0x9402 ∷ 0x9403 ∷ 0x9405 ∷ 0x9406
    ∷ 0x9407 ∷ 0x940A ∷ 0x9408 ∷ 0x9488 ∷ 0x9409 ∷ 0x9509 ∷ 0x9508 ∷ 0x9598 ∷ 0x940C ∷ 0x940E
    ∷ 0x9600 ∷ 0x9700 ∷ 0xB000 ∷ 0xB800 ∷ 0xC000 ∷ 0xC800 ∷ 0xD000 ∷ 0xD800 ∷ 0xF000 ∷ 0xF200
    ∷ 0xF400 ∷ 0xF600 ∷ 0xF800 ∷ 0xFA00 ∷ 0xFC00 ∷ 0xFE00 ∷ []

-- the form of a pattern: a word of it, and its format
abbrev pub form_by : List ℕ → ℕ → Option Instr → Option Form
form_by pattern word None = None
form_by pattern word (Some i) =
    if bytes_eq (text i).pattern pattern then Some (record { word = word; format = (text i).format }) else None

abbrev pub form_at : List ℕ → ℕ → Option Form
form_at pattern word = form_by pattern word (instruction_at word 0)

abbrev pub or_else : Option Form → Option Form → Option Form
or_else None other = other
or_else (Some form) other = Some form

abbrev pub form_in : List ℕ → List ℕ → Option Form
form_in pattern [] = None
form_in pattern (word ∷ words) = or_else (form_at pattern word) (form_in pattern words)

-- the first word with the numbers n and m of the text, each taken into its field
abbrev pub first_by : Format → ℕ → ℕ → ℕ → ℕ
first_by Bare word n m = word
first_by Pairs word n m = word + n / 2 % 16 * 16 + m / 2 % 16
first_by Two word n m = word + m / 16 % 2 * 512 + n % 32 * 16 + m % 16
first_by Immediate word n m = word + m / 16 % 16 * 256 + n % 16 * 16 + m % 16
first_by LoadDisplaced word n m = word + m / 32 % 2 * 8192 + m / 8 % 4 * 1024 + n % 32 * 16 + m % 8
first_by StoreDisplaced word n m = word + n / 32 % 2 * 8192 + n / 8 % 4 * 1024 + m % 32 * 16 + n % 8
first_by LoadDirect word n m = word + n % 32 * 16
first_by StoreDirect word n m = word + m % 32 * 16
first_by One word n m = word + n % 32 * 16
first_by Direct word n m = word
first_by PairImmediate word n m = word + m / 16 % 4 * 64 + n % 8 / 2 * 16 + m % 16
first_by In word n m = word + m / 16 % 4 * 512 + n % 32 * 16 + m % 16
first_by Out word n m = word + n / 16 % 4 * 512 + m % 32 * 16 + n % 16
first_by Relative word n m = word + n % 4096
first_by RelativeBack word n m = word + (4096 - n % 4096) % 2048
first_by Branch word n m = word + m % 128 * 8 + n % 8
first_by BranchBack word n m = word + (128 - m % 128) % 64 * 8 + n % 8
first_by Bit word n m = word + n % 32 * 16 + m % 8

-- the second word; where there is none, it may be any
abbrev pub second_by : Format → ℕ → ℕ → ℕ
second_by LoadDirect n m = m
second_by StoreDirect n m = n
second_by Direct n m = n
second_by format n m = 0

abbrev pub instruction_by : ℕ → ℕ → Form → Option Instr
instruction_by n m form = instruction_at (first_by form.format form.word n m % 65536) (second_by form.format n m)

-- the instruction that a text may be of
abbrev pub guess_by : Scan → Option Instr
guess_by s = option_and_then (instruction_by s.first s.second) (form_in s.pattern form_words)

abbrev pub guess : List ℕ → Option Instr
guess line = guess_by (scanned line)

abbrev pub confirmed : Option Instr → List ℕ → Option Instr
confirmed None line = None
confirmed (Some i) line = if bytes_eq (instruction_text i) line then Some i else None

-- the instruction of a text
unfoldable pub instruction_of : List ℕ → Option Instr
instruction_of line = confirmed (guess line) line
