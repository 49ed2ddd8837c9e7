-- An exec does not answer that its words are no command.
use Rattle.std.proofs.Common.{◌≡◌, ℕ, arith, inl, inr}
use Rattle.ec_io.specs.Views.{StoreView, SinkCall}
use Rattle.ec_lex.specs.declared.stop.LexStop.{LexStop}
use Rattle.ec_lex.specs.declared.stop.LexStop.TheVariants as lexing
use Rattle.ec_parse.specs.declared.stop.ParseStop.{ParseStop}
use Rattle.ec_parse.specs.declared.stop.ParseStop.TheVariants as parsing
use Rattle.ec_check.specs.declared.checking.CheckStop.{CheckStop}
use Rattle.ec_check.specs.declared.checking.CheckStop.TheVariants as checking
use Rattle.ec_map.specs.declared.read.MapStop.{MapStop}
use Rattle.ec_map.specs.declared.read.MapStop.TheVariants as mapping
use Rattle.ec_locate.specs.declared.stop.PlaceStop.{PlaceStop}
use Rattle.ec_locate.specs.declared.stop.PlaceStop.TheVariants as placing
use Rattle.ec_build.specs.declared.stop.BuildStop.{BuildStop}
use Rattle.ec_build.specs.declared.stop.BuildStop.TheVariants as building
use Rattle.ec_commands.specs.Runs.{Gives}
use Rattle.ec_commands.specs.Words.{Words}
use Rattle.ec_commands.specs.declared.stop.CommandError.TheVariants as commands
use Rattle.ec_commands.proofs.RunComplete.{shown_stop}
use Rattle.ec_commands_compile.specs.Execs.{ExecStops}
use Rattle.ec_commands_compile.specs.Stops.{status_of, build_status, map_status, lex_status, parse_status, check_status}
use Rattle.ec_commands_compile.specs.Stops.{place_status}
use Rattle.ec_commands_compile.specs.declared.stop.CompileStop.{CompileStop}
use Rattle.ec_commands_compile.specs.declared.stop.CompileStop.TheVariants.{Command, Build}

map_not : (stop : MapStop) → map_status stop ≡ 2 → ⊥
map_not mapping.NotToml e = omega (arith, e)
map_not (mapping.MapRule rule) e = omega (arith, e)
map_not mapping.NoMemory e = omega (arith, e)

lex_not : (stop : LexStop) → lex_status stop ≡ 2 → ⊥
lex_not (lexing.BadByte at) e = omega (arith, e)
lex_not (lexing.BadNumber at) e = omega (arith, e)
lex_not (lexing.Unclosed at) e = omega (arith, e)
lex_not (lexing.BadDirective at) e = omega (arith, e)
lex_not lexing.TooManyTokens e = omega (arith, e)
lex_not lexing.NoMemory e = omega (arith, e)

parse_not : (stop : ParseStop) → parse_status stop ≡ 2 → ⊥
parse_not (parsing.Syntax token) e = omega (arith, e)
parse_not (parsing.TooDeep token) e = omega (arith, e)
parse_not parsing.NoMemory e = omega (arith, e)

check_not : (stop : CheckStop) → check_status stop ≡ 2 → ⊥
check_not checking.NoMemory e = omega (arith, e)
check_not checking.TooManyObjects e = omega (arith, e)
check_not checking.TooManyFunctions e = omega (arith, e)
check_not (checking.Constraint unit token rule) e = omega (arith, e)
check_not (checking.Recursion name) e = omega (arith, e)

place_not : (stop : PlaceStop) → place_status stop ≡ 2 → ⊥
place_not (placing.TooSmall region needed available) e = omega (arith, e)
place_not (placing.NoSuchObject name) e = omega (arith, e)
place_not (placing.Clash name other) e = omega (arith, e)
place_not placing.NoMemory e = omega (arith, e)

pub build_not : (stop : BuildStop) → build_status stop ≡ 2 → ⊥
build_not (building.Map stop) e = map_not stop e
build_not (building.Lex unit stop) e = lex_not stop e
build_not (building.Parse unit stop) e = parse_not stop e
build_not (building.Check stop) e = check_not stop e
build_not (building.Place stop) e = place_not stop e
build_not building.NoMemory e = omega (arith, e)

pub no_usage : (words : Words) (steps : ℕ) (hooks : Gives) (old new : StoreView) (out : SinkCall) (stop : CompileStop)
    → ExecStops words steps hooks old new out stop
    → status_of stop ≡ 2 → ⊥
no_usage words steps hooks old new out (Command commands.Usage) (inl h) e =
    elim h.0.1 [ inl x ↦ x | inr y ↦ elim y [ inl x ↦ x | inr x ↦ x ] ]
no_usage words steps hooks old new out (Command commands.Usage) (inr h) e =
    elim (shown_stop out.before out.after h.1.report.end h.1.trace commands.Usage h.1.shows) [
      | inl same ↦ cc
      | inr left ↦ elim left [ inl x ↦ omega (arith, x) | inr y ↦ elim y [ inl x ↦ omega (arith, x) | inr x ↦ omega (arith, x) ] ]
    ]
no_usage words steps hooks old new out (Command (commands.CannotRead i)) h e = omega (arith, e)
no_usage words steps hooks old new out (Command commands.CannotWrite) h e = omega (arith, e)
no_usage words steps hooks old new out (Command (commands.TooMany limit)) h e = omega (arith, e)
no_usage words steps hooks old new out (Command commands.NoMemory) h e = omega (arith, e)
no_usage words steps hooks old new out (Command (commands.BadRecord line)) h e = omega (arith, e)
no_usage words steps hooks old new out (Command (commands.BadSum line)) h e = omega (arith, e)
no_usage words steps hooks old new out (Command (commands.OutOfFlash line)) h e = omega (arith, e)
no_usage words steps hooks old new out (Command (commands.Twice line)) h e = omega (arith, e)
no_usage words steps hooks old new out (Command commands.NoEnd) h e = omega (arith, e)
no_usage words steps hooks old new out (Command (commands.ScriptLine line rule)) h e = omega (arith, e)
no_usage words steps hooks old new out (Command (commands.Fault kind pc)) h e = omega (arith, e)
no_usage words steps hooks old new out (Command commands.StepsOut) h e = omega (arith, e)
no_usage words steps hooks old new out (Command (commands.AsmLine line rule)) h e = omega (arith, e)
no_usage words steps hooks old new out (Command commands.NoNumber) h e = omega (arith, e)
no_usage words steps hooks old new out (Build stop) h e = build_not stop e
