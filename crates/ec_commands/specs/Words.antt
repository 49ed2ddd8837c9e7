-- The words of a command line, without the program's name.
use Rattle.std.specs.Prelude.{ℕ, ℤ}
use Rattle.ec_space.specs.declared.Core.{Core}
use Rattle.ec_space.specs.declared.Core.TheVariants.{Small, Large}
use Rattle.ec_commands.specs.declared.words.Compiling.{Compiling}
use Rattle.ec_commands.specs.declared.words.Compiling.TheVariants.{Build, Exec, Bound, Watch}
use Rattle.ec_emu_watch.specs.declared.compare.Compare.{Compare}
use Rattle.ec_emu_watch.specs.declared.compare.CompareOp.{CompareOp}
use Rattle.ec_emu_watch.specs.declared.compare.CompareOp.TheVariants.{Eq, Ne, Lt, Gt, Le, Ge}
use Rattle.std.specs.Prelude.{◌-◌, ◌≡◌, ◌≤◌, ◌&&◌, nat_le, Bool, true, List, [], length, map, drop, codes}
use Rattle.std.specs.Prelude.{option_map, Option, Some, None, if◌then◌else◌}
use Rattle.std.specs.Prelude.{unwrap_or, slice_get, String, string_bytes, bytes_eq}
use Rattle.std.specs.Str.Parse.{IsNumeral, digits_value, starts_with_minus, signed_digits_value}
use Rattle.std.specs.declared.alloc.Global.{Global}

-- the place of the first source, behind `build MAP OUT`, `exec MAP SCRIPT STEPS`, `bound MAP` and
-- `watch MAP SCRIPT STEPS NAME LEAF OP VALUE`
abbrev pub first_source : Compiling → ℕ
first_source Build = 3
first_source Exec = 4
first_source Bound = 2
first_source Watch = 8

abbrev pub Words : Type 0
Words = List (String Global)

-- the bytes of a word, none past the last
abbrev pub word : Words → ℕ → List ℕ
word words i = unwrap_or (option_map string_bytes (slice_get words i)) []

-- 1 to 10 decimal digits, leading zeros allowed, which stand for n, at most so great a number
pub record IsNumber (digits : List ℕ) (most n : ℕ) : Type 0 where
  pub numeral : IsNumeral 10 digits
  pub short : length digits ≤ 10
  pub value : digits_value 10 digits ≡ n
  pub small : n ≤ most

-- build MAP OUT SRC...
abbrev pub is_build : Words → Bool
is_build words = nat_le 4 (length words) && bytes_eq (word words 0) (codes "build")

abbrev pub map_name : Words → List ℕ
map_name words = word words 1

abbrev pub out_name : Words → List ℕ
out_name words = word words 2

-- how many words there are from this one on, and the names that they are
abbrev pub words_from : Words → ℕ → ℕ
words_from words first = length words - first

abbrev pub names_from : Words → ℕ → List (List ℕ)
names_from words first = map string_bytes (drop first words)

-- a build of at most 16 sources
pub record IsBuild (words : Words) : Type 0 where
  pub row : is_build words ≡ true
  pub few : words_from words 3 ≤ 16

-- exec MAP SCRIPT STEPS SRC...
pub record IsExecRow (words : Words) (steps : ℕ) : Type 0 where
  pub five : 5 ≤ length words
  pub row : bytes_eq (word words 0) (codes "exec") ≡ true
  pub steps_word : IsNumber (word words 3) 4294967295 steps

-- with at most 16 sources
pub record IsExec (words : Words) (steps : ℕ) : Type 0 where
  pub row : IsExecRow words steps
  pub few : words_from words 4 ≤ 16

-- run HEX SCRIPT STEPS FILL
pub record IsRun (words : Words) (steps fill : ℕ) : Type 0 where
  pub five : length words ≡ 5
  pub row : bytes_eq (word words 0) (codes "run") ≡ true
  pub steps_word : IsNumber (word words 3) 4294967295 steps
  pub fill_word : IsNumber (word words 4) 255 fill

abbrev pub hex_name : Words → List ℕ
hex_name words = word words 1

abbrev pub script_name : Words → List ℕ
script_name words = word words 2

-- gen N
pub record IsGen (words : Words) (n : ℕ) : Type 0 where
  pub two : length words ≡ 2
  pub row : bytes_eq (word words 0) (codes "gen") ≡ true
  pub number_word : IsNumber (word words 1) 2000 n
  pub some : 1 ≤ n

-- a core by its name
abbrev pub core_named : List ℕ → Option Core
core_named name =
    if bytes_eq name (codes "small") then Some Small else (if bytes_eq name (codes "large") then Some Large else None)

-- list CORE HEX
pub record IsList (words : Words) (core : Core) : Type 0 where
  pub three : length words ≡ 3
  pub row : bytes_eq (word words 0) (codes "list") ≡ true
  pub core_word : core_named (word words 1) ≡ Some core

abbrev pub listed_name : Words → List ℕ
listed_name words = word words 2

-- assemble CORE ASM OUT
pub record IsAssemble (words : Words) (core : Core) : Type 0 where
  pub four : length words ≡ 4
  pub row : bytes_eq (word words 0) (codes "assemble") ≡ true
  pub core_word : core_named (word words 1) ≡ Some core

abbrev pub listing_name : Words → List ℕ
listing_name words = word words 2

abbrev pub assembled_name : Words → List ℕ
assembled_name words = word words 3

-- bound MAP SRC...
abbrev pub is_bound : Words → Bool
is_bound words = nat_le 3 (length words) && bytes_eq (word words 0) (codes "bound")

-- ---- watch MAP SCRIPT STEPS NAME LEAF OP VALUE SRC...

-- what stands behind an optional `-`
abbrev pub without_minus : List ℕ → List ℕ
without_minus text = if starts_with_minus text then drop 1 text else text

-- an optional `-` and 1 to 20 decimal digits, leading zeros allowed, which stand for v
pub record IsValue (text : List ℕ) (v : ℤ) : Type 0 where
  pub numeral : IsNumeral 10 (without_minus text)
  pub short : length (without_minus text) ≤ 20
  pub value : signed_digits_value 10 text ≡ v

-- a comparison by its name
abbrev pub compare_named : List ℕ → Option CompareOp
compare_named name =
    if bytes_eq name (codes "eq") then Some Eq
    else if bytes_eq name (codes "ne") then Some Ne
    else if bytes_eq name (codes "lt") then Some Lt
    else if bytes_eq name (codes "gt") then Some Gt
    else if bytes_eq name (codes "le") then Some Le
    else if bytes_eq name (codes "ge") then Some Ge
    else None

-- LEAF is 1 to 10 digits; OP and VALUE are the rule
pub record IsWatchRow (words : Words) (steps leaf : ℕ) (rule : Compare) : Type 0 where
  pub nine : 9 ≤ length words
  pub row : bytes_eq (word words 0) (codes "watch") ≡ true
  pub steps_word : IsNumber (word words 3) 4294967295 steps
  pub leaf_word : IsNumber (word words 5) 9999999999 leaf
  pub op_word : compare_named (word words 6) ≡ Some rule.op
  pub value_word : IsValue (word words 7) rule.value
