-- Why a build or an exec stops, its status and its line, passed on.
use Rattle.std.specs.Prelude.{ℕ, ◌+◌, List, [], ◌++◌, codes}
use Rattle.std.specs.Fmt.{decimal}
use Rattle.ec_lex.specs.declared.stop.LexStop.{LexStop}
use Rattle.ec_lex.specs.declared.stop.LexStop.TheVariants as lexing
use Rattle.ec_parse.specs.declared.stop.ParseStop.{ParseStop}
use Rattle.ec_parse.specs.declared.stop.ParseStop.TheVariants as parsing
use Rattle.ec_check.specs.declared.checking.CheckStop.{CheckStop}
use Rattle.ec_check.specs.declared.checking.CheckStop.TheVariants as checking
use Rattle.ec_map.specs.declared.read.MapStop.{MapStop}
use Rattle.ec_map.specs.declared.read.MapStop.TheVariants as mapping
use Rattle.ec_locate.specs.declared.stop.RegionName.{RegionName}
use Rattle.ec_locate.specs.declared.stop.RegionName.TheVariants as regions
use Rattle.ec_locate.specs.declared.stop.PlaceStop.{PlaceStop}
use Rattle.ec_locate.specs.declared.stop.PlaceStop.TheVariants as placing
use Rattle.ec_build.specs.declared.stop.BuildStop.{BuildStop}
use Rattle.ec_build.specs.declared.stop.BuildStop.TheVariants as building
use Rattle.ec_commands.specs.Words.{Words, word}
use Rattle.ec_commands.specs.Stops as commands
use Rattle.ec_commands.specs.declared.stop.Limit.{Limit}
use Rattle.ec_commands.specs.declared.stop.Limit.TheVariants.{Tokens, Nesting, Objects, Functions}
use Rattle.ec_commands.specs.declared.stop.CommandError.TheVariants.{TooMany}
use Rattle.ec_commands_compile.specs.declared.stop.CompileStop.{CompileStop}
use Rattle.ec_commands_compile.specs.declared.stop.CompileStop.TheVariants.{Command, Build}

-- ---- statuses

abbrev pub map_status : MapStop → ℕ
map_status mapping.NotToml = 8
map_status (mapping.MapRule rule) = 8
map_status mapping.NoMemory = 11

abbrev pub lex_status : LexStop → ℕ
lex_status (lexing.BadByte at) = 5
lex_status (lexing.BadNumber at) = 5
lex_status (lexing.Unclosed at) = 5
lex_status (lexing.BadDirective at) = 5
lex_status lexing.TooManyTokens = 10
lex_status lexing.NoMemory = 11

abbrev pub parse_status : ParseStop → ℕ
parse_status (parsing.Syntax token) = 6
parse_status (parsing.TooDeep token) = 10
parse_status parsing.NoMemory = 11

abbrev pub check_status : CheckStop → ℕ
check_status checking.NoMemory = 11
check_status checking.TooManyObjects = 10
check_status checking.TooManyFunctions = 10
check_status (checking.Constraint unit token rule) = 7
check_status (checking.Recursion name) = 7

abbrev pub place_status : PlaceStop → ℕ
place_status (placing.TooSmall region needed available) = 9
place_status (placing.NoSuchObject name) = 9
place_status (placing.Clash name other) = 9
place_status placing.NoMemory = 11

abbrev pub build_status : BuildStop → ℕ
build_status (building.Map stop) = map_status stop
build_status (building.Lex unit stop) = lex_status stop
build_status (building.Parse unit stop) = parse_status stop
build_status (building.Check stop) = check_status stop
build_status (building.Place stop) = place_status stop
build_status building.NoMemory = 11

abbrev pub status_of : CompileStop → ℕ
status_of (Command stop) = commands.status_of stop
status_of (Build stop) = build_status stop

-- ---- lines

abbrev pub limit_line : Limit → List ℕ
limit_line limit = commands.line_of [] (TooMany limit)

abbrev pub memory_line : List ℕ
memory_line = codes "no memory\n"

abbrev pub map_line : MapStop → List ℕ
map_line mapping.NotToml = codes "map: not TOML\n"
map_line (mapping.MapRule rule) = codes "map: rule " ++ decimal rule ++ codes "\n"
map_line mapping.NoMemory = memory_line

-- of a text with this name
abbrev pub lex_line : List ℕ → LexStop → List ℕ
lex_line name (lexing.BadByte at) = name ++ codes " byte " ++ decimal at ++ codes ": bad byte\n"
lex_line name (lexing.BadNumber at) = name ++ codes " byte " ++ decimal at ++ codes ": bad number\n"
lex_line name (lexing.Unclosed at) = name ++ codes " byte " ++ decimal at ++ codes ": unclosed\n"
lex_line name (lexing.BadDirective at) = name ++ codes " byte " ++ decimal at ++ codes ": bad directive\n"
lex_line name lexing.TooManyTokens = limit_line Tokens
lex_line name lexing.NoMemory = memory_line

abbrev pub parse_line : List ℕ → ParseStop → List ℕ
parse_line name (parsing.Syntax token) = name ++ codes " token " ++ decimal token ++ codes ": syntax\n"
parse_line name (parsing.TooDeep token) = limit_line Nesting
parse_line name parsing.NoMemory = memory_line

abbrev pub constraint_line : List ℕ → (token rule : ℕ) → List ℕ
constraint_line name token rule =
    name ++ codes " token " ++ decimal token ++ codes ": constraint " ++ decimal rule ++ codes "\n"

-- the word that names the source of a unit, where that of unit 0 is this one
abbrev pub unit_name : Words → ℕ → ℕ → List ℕ
unit_name words first unit = word words (first + unit)

abbrev pub check_line : Words → ℕ → CheckStop → List ℕ
check_line words first checking.NoMemory = memory_line
check_line words first checking.TooManyObjects = limit_line Objects
check_line words first checking.TooManyFunctions = limit_line Functions
check_line words first (checking.Constraint unit token rule) =
    constraint_line (unit_name words first unit) token rule
check_line words first (checking.Recursion name) = codes "recursion " ++ name.items ++ codes "\n"

abbrev pub region_text : RegionName → List ℕ
region_text regions.Code = codes "code"
region_text regions.Tables = codes "tables"
region_text regions.Far = codes "far"
region_text regions.Data = codes "data"
region_text regions.Stack = codes "stack"

abbrev pub place_line : PlaceStop → List ℕ
place_line (placing.TooSmall region needed available) =
    codes "region " ++ region_text region ++ codes " needs " ++ decimal needed ++ codes " has " ++ decimal available
    ++ codes "\n"
place_line (placing.NoSuchObject name) = codes "no object " ++ name.items ++ codes "\n"
place_line (placing.Clash name other) = codes "clash " ++ name.items ++ codes " " ++ other.items ++ codes "\n"
place_line placing.NoMemory = memory_line

-- of a build whose sources are named from this word on
abbrev pub build_line : Words → ℕ → BuildStop → List ℕ
build_line words first (building.Map stop) = map_line stop
build_line words first (building.Lex unit stop) = lex_line (unit_name words first unit) stop
build_line words first (building.Parse unit stop) = parse_line (unit_name words first unit) stop
build_line words first (building.Check stop) = check_line words first stop
build_line words first (building.Place stop) = place_line stop
build_line words first building.NoMemory = memory_line

abbrev pub line_of : Words → ℕ → CompileStop → List ℕ
line_of words first (Command stop) = commands.line_of words stop
line_of words first (Build stop) = build_line words first stop

-- the word whose file a stop names is there
abbrev pub IsNamed : Words → CompileStop → Type 0
IsNamed words (Command stop) = commands.IsNamed words stop
IsNamed words (Build stop) = Unit {0}
