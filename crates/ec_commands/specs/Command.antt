-- The command that a row of words is.
use Rattle.std.specs.Prelude.{ℕ, ℤ, ◌≡◌, ◌↔◌, ◌&&◌, ◌==◌, nat_lt, nat_le, Bool, true, if◌then◌else◌, List, length}
use Rattle.std.specs.Prelude.{Option, Some, None, bytes_eq, codes}
use Rattle.std.specs.List.{list_all}
use Rattle.std.specs.Char.{digit_value}
use Rattle.std.specs.Str.Parse.{digits_value, signed_digits_value}
use Rattle.ec_emu_watch.specs.declared.compare.CompareOp.{CompareOp}
use Rattle.ec_space.specs.declared.Core.{Core}
use Rattle.ec_commands.specs.Words.{Words, word, is_build, is_bound, core_named, compare_named, without_minus}
use Rattle.ec_commands.specs.Words.{IsRun, IsExecRow, IsGen, IsList, IsAssemble, IsWatchRow}
use Rattle.ec_commands.specs.declared.words.Command.{Command}
use Rattle.ec_commands.specs.declared.words.Command.TheVariants.{Build, Run, Exec, Gen, List as ListImage, Assemble, Bound}
use Rattle.ec_commands.specs.declared.words.Command.TheVariants.{Watch, NoCommand}

-- 1 to 10 decimal digits, which stand for a number that is at most so great
abbrev pub is_number : List ℕ → ℕ → Bool
is_number digits most =
    nat_lt 0 (length digits)
    && (list_all (λ c. nat_lt (digit_value c) 10) digits
    && (nat_le (length digits) 10 && nat_le (digits_value 10 digits) most))

-- the number, where they are such
abbrev pub number : List ℕ → ℕ → Option ℕ
number digits most = if is_number digits most then Some (digits_value 10 digits) else None

-- an optional `-` and 1 to 20 decimal digits
abbrev pub is_value : List ℕ → Bool
is_value text =
    nat_lt 0 (length (without_minus text))
    && (list_all (λ c. nat_lt (digit_value c) 10) (without_minus text) && nat_le (length (without_minus text)) 20)

-- the number, where they are such
abbrev pub value : List ℕ → Option ℤ
value text = if is_value text then Some (signed_digits_value 10 text) else None

-- ---- the rows, each by its first word

-- build MAP OUT SRC...
abbrev pub build_row : Words → Command
build_row words = if nat_le 4 (length words) then Build else NoCommand

-- run HEX SCRIPT STEPS FILL
abbrev pub run_by : Option ℕ → Option ℕ → Command
run_by (Some steps) (Some fill) = Run steps fill
run_by steps fill = NoCommand

abbrev pub run_row : Words → Command
run_row words =
    if length words == 5 then run_by (number (word words 3) 4294967295) (number (word words 4) 255) else NoCommand

-- exec MAP SCRIPT STEPS SRC...
abbrev pub exec_by : Option ℕ → Command
exec_by (Some steps) = Exec steps
exec_by None = NoCommand

abbrev pub exec_row : Words → Command
exec_row words = if nat_le 5 (length words) then exec_by (number (word words 3) 4294967295) else NoCommand

-- gen N
abbrev pub gen_by : Option ℕ → Command
gen_by (Some n) = if nat_lt 0 n then Gen n else NoCommand
gen_by None = NoCommand

abbrev pub gen_row : Words → Command
gen_row words = if length words == 2 then gen_by (number (word words 1) 2000) else NoCommand

-- list CORE HEX
abbrev pub list_by : Option Core → Command
list_by (Some core) = ListImage core
list_by None = NoCommand

abbrev pub list_row : Words → Command
list_row words = if length words == 3 then list_by (core_named (word words 1)) else NoCommand

-- assemble CORE ASM OUT
abbrev pub assemble_by : Option Core → Command
assemble_by (Some core) = Assemble core
assemble_by None = NoCommand

abbrev pub assemble_row : Words → Command
assemble_row words = if length words == 4 then assemble_by (core_named (word words 1)) else NoCommand

-- bound MAP SRC...
abbrev pub bound_row : Words → Command
bound_row words = if nat_le 3 (length words) then Bound else NoCommand

-- watch MAP SCRIPT STEPS NAME LEAF OP VALUE SRC...
abbrev pub watch_by : Option ℕ → Option ℕ → Option CompareOp → Option ℤ → Command
watch_by (Some steps) (Some leaf) (Some op) (Some v) = Watch steps leaf (record { op = op; value = v })
watch_by steps leaf op v = NoCommand

abbrev pub watch_row : Words → Command
watch_row words =
    if nat_le 9 (length words)
    then watch_by (number (word words 3) 4294967295) (number (word words 5) 9999999999) (compare_named (word words 6))
    (value (word words 7))
    else NoCommand

abbrev pub row_of : List ℕ → Words → Command
row_of first words =
    if bytes_eq first (codes "build") then build_row words
    else if bytes_eq first (codes "run") then run_row words
    else if bytes_eq first (codes "exec") then exec_row words
    else if bytes_eq first (codes "gen") then gen_row words
    else if bytes_eq first (codes "list") then list_row words
    else if bytes_eq first (codes "assemble") then assemble_row words
    else if bytes_eq first (codes "bound") then bound_row words
    else if bytes_eq first (codes "watch") then watch_row words
    else NoCommand

abbrev pub command_of : Words → Command
command_of words = row_of (word words 0) words

-- ---- which rows they are

-- the words are the row of a command
abbrev pub IsRow : Command → Words → Type 0
IsRow Build words = is_build words ≡ true
IsRow (Run steps fill) words = IsRun words steps fill
IsRow (Exec steps) words = IsExecRow words steps
IsRow (Gen n) words = IsGen words n
IsRow (ListImage core) words = IsList words core
IsRow (Assemble core) words = IsAssemble words core
IsRow Bound words = is_bound words ≡ true
IsRow (Watch steps leaf rule) words = IsWatchRow words steps leaf rule
IsRow NoCommand words = ⊥

-- the words are no command
abbrev pub IsNoCommand : Words → Type 0
IsNoCommand words = (c : Command) → ¬ (IsRow c words)

-- the words are the row of a command, or no command
abbrev pub IsRowOf : Command → Words → Type 0
IsRowOf NoCommand words = IsNoCommand words
IsRowOf c words = IsRow c words

-- each command is read exactly from its rows, and none exactly from all other words
abbrev pub RowsAreCommands : Type 0
RowsAreCommands = (words : Words) (c : Command) → (command_of words ≡ c) ↔ IsRowOf c words
