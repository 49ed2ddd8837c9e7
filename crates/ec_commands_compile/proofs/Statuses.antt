-- No stop has the status of work that was done.
use Rattle.std.proofs.Common.{◌≡◌, arith}
use Rattle.ec_lex.specs.declared.stop.LexStop.{LexStop}
use Rattle.ec_lex.specs.declared.stop.LexStop.TheVariants as lexing
use Rattle.ec_parse.specs.declared.stop.ParseStop.{ParseStop}
use Rattle.ec_parse.specs.declared.stop.ParseStop.TheVariants as parsing
use Rattle.ec_check.specs.declared.checking.CheckStop.{CheckStop}
use Rattle.ec_check.specs.declared.checking.CheckStop.TheVariants as checking
use Rattle.ec_map.specs.declared.read.MapStop.{MapStop}
use Rattle.ec_map.specs.declared.read.MapStop.TheVariants as mapping
use Rattle.ec_locate.specs.declared.stop.PlaceStop.{PlaceStop}
use Rattle.ec_locate.specs.declared.stop.PlaceStop.TheVariants as placing
use Rattle.ec_build.specs.declared.stop.BuildStop.{BuildStop}
use Rattle.ec_build.specs.declared.stop.BuildStop.TheVariants as building
use Rattle.ec_commands.specs.declared.stop.CommandError.{CommandError}
use Rattle.ec_commands.specs.declared.stop.CommandError.TheVariants as commands
use Rattle.ec_commands.specs.Stops as command_stops
use Rattle.ec_commands_compile.specs.Stops.{status_of, build_status, map_status, lex_status, parse_status, check_status}
use Rattle.ec_commands_compile.specs.Stops.{place_status}
use Rattle.ec_commands_compile.specs.declared.stop.CompileStop.{CompileStop}
use Rattle.ec_commands_compile.specs.declared.stop.CompileStop.TheVariants.{Command, Build}

map_not : (stop : MapStop) → map_status stop ≡ 0 → ⊥
map_not mapping.NotToml e = omega (arith, e)
map_not (mapping.MapRule rule) e = omega (arith, e)
map_not mapping.NoMemory e = omega (arith, e)

lex_not : (stop : LexStop) → lex_status stop ≡ 0 → ⊥
lex_not (lexing.BadByte at) e = omega (arith, e)
lex_not (lexing.BadNumber at) e = omega (arith, e)
lex_not (lexing.Unclosed at) e = omega (arith, e)
lex_not (lexing.BadDirective at) e = omega (arith, e)
lex_not lexing.TooManyTokens e = omega (arith, e)
lex_not lexing.NoMemory e = omega (arith, e)

parse_not : (stop : ParseStop) → parse_status stop ≡ 0 → ⊥
parse_not (parsing.Syntax token) e = omega (arith, e)
parse_not (parsing.TooDeep token) e = omega (arith, e)
parse_not parsing.NoMemory e = omega (arith, e)

check_not : (stop : CheckStop) → check_status stop ≡ 0 → ⊥
check_not checking.NoMemory e = omega (arith, e)
check_not checking.TooManyObjects e = omega (arith, e)
check_not checking.TooManyFunctions e = omega (arith, e)
check_not (checking.Constraint unit token rule) e = omega (arith, e)
check_not (checking.Recursion name) e = omega (arith, e)

place_not : (stop : PlaceStop) → place_status stop ≡ 0 → ⊥
place_not (placing.TooSmall region needed available) e = omega (arith, e)
place_not (placing.NoSuchObject name) e = omega (arith, e)
place_not (placing.Clash name other) e = omega (arith, e)
place_not placing.NoMemory e = omega (arith, e)

build_not : (stop : BuildStop) → build_status stop ≡ 0 → ⊥
build_not (building.Map stop) e = map_not stop e
build_not (building.Lex unit stop) e = lex_not stop e
build_not (building.Parse unit stop) e = parse_not stop e
build_not (building.Check stop) e = check_not stop e
build_not (building.Place stop) e = place_not stop e
build_not building.NoMemory e = omega (arith, e)

command_not : (stop : CommandError) → command_stops.status_of stop ≡ 0 → ⊥
command_not commands.Usage e = omega (arith, e)
command_not (commands.CannotRead i) e = omega (arith, e)
command_not commands.CannotWrite e = omega (arith, e)
command_not (commands.TooMany limit) e = omega (arith, e)
command_not commands.NoMemory e = omega (arith, e)
command_not (commands.BadRecord line) e = omega (arith, e)
command_not (commands.BadSum line) e = omega (arith, e)
command_not (commands.OutOfFlash line) e = omega (arith, e)
command_not (commands.Twice line) e = omega (arith, e)
command_not commands.NoEnd e = omega (arith, e)
command_not (commands.ScriptLine line rule) e = omega (arith, e)
command_not (commands.Fault kind pc) e = omega (arith, e)
command_not commands.StepsOut e = omega (arith, e)
command_not (commands.AsmLine line rule) e = omega (arith, e)
command_not commands.NoNumber e = omega (arith, e)

pub never_zero : (stop : CompileStop) → status_of stop ≡ 0 → ⊥
never_zero (Command stop) e = command_not stop e
never_zero (Build stop) e = build_not stop e
