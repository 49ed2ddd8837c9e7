-- What contracts see of the code's own types.
use Rattle.std.specs.Prelude.{ℕ, List, map}
use Rattle.ec_grammar.specs.Tokens.{Lexeme, whole, fixed}
use Rattle.ec_lex.specs.declared.constants.Constant.{Constant}
use Rattle.ec_lex.specs.declared.constants.Constant.TheVariants as constants
use Rattle.ec_lex.specs.declared.constants.IntegerType as types
use Rattle.ec_lex.specs.declared.scope.Define.{Define}
use Rattle.ec_lex.specs.declared.scope.Scope.{Scope}
use Rattle.ec_lex.specs.declared.directives.Directed.{Directed as Told}
use Rattle.ec_lex.specs.declared.directives.Directed.TheVariants as told
use Rattle.ec_lex.specs.Constants.{IntegerType}
use Rattle.ec_lex.specs.Words.{Known}
use Rattle.ec_lex.specs.Directives.{Directed, include, define, set, ignored}

abbrev pub view_constant : Constant → Lexeme
view_constant (constants.Whole value signed bytes) = whole value signed bytes
view_constant (constants.Fixed kind n) = fixed kind n

abbrev pub view_type : types.IntegerType → IntegerType
view_type t = record { signed = t.signed; bytes = t.bytes }

abbrev pub view_define : Define → List ℕ × Lexeme
view_define d = (d.name.items, view_constant d.constant)

abbrev pub view_scope : Scope → Known
view_scope s =
    record {
      line_start = s.line_start;
      stdint = s.stdint;
      stdfix = s.stdfix;
      iohw = s.iohw;
      defines = map view_define s.defines.items;
    }

abbrev pub view_directed : Told → Directed
view_directed (told.Include h) = include h
view_directed (told.Define name constant) = define name.now (view_constant constant)
view_directed (told.Set which state) = set which state
view_directed told.Ignored = ignored
