-- What stands around a statement, and the overflow states that pragmas set (ISO/IEC TR 18037:2008, 4.1.3).
use Rattle.std.specs.Prelude.{ℕ, Bool, true, false, Option, option_map, List, [], ◌∷◌, length}
use Rattle.ec_grammar.specs.declared.token.PragmaKind.{PragmaKind}
use Rattle.ec_grammar.specs.declared.token.PragmaKind.TheVariants.{Precision, Fract, Accum}
use Rattle.ec_grammar.specs.declared.token.PragmaState.{PragmaState}
use Rattle.ec_grammar.specs.declared.token.PragmaState.TheVariants.{Sat}
use Rattle.ec_grammar.specs.declared.Pragma.{Pragma}
use Rattle.ec_core.specs.Plain.{PlainType, plain_type}
use Rattle.ec_check_operands.specs.declared.operands.Modes.{Modes}
use Rattle.ec_check_names.specs.Names.{Names, closed}
use Rattle.ec_check_declarations.specs.Scopes.{Context, Scope}
use Rattle.ec_check_statements.specs.declared.around.Around as around

-- the function and its unit, by number; whether a loop stands around; the type of the result, if its declaration breaks
-- no rule; and how many names of blocks there are before the innermost block
pub record Around : Type 0 where
  pub function : ℕ
  pub unit : ℕ
  pub in_loop : Bool
  pub result : Option PlainType
  pub first : ℕ

abbrev pub plain_around : around.Around → Around
plain_around r =
    record {
      function = r.function;
      unit = r.unit;
      in_loop = r.in_loop;
      result = option_map plain_type r.result.now;
      first = r.first;
    }

-- in the body of a loop
abbrev pub looping : Around → Around
looping r =
    record {
      function = r.function;
      unit = r.unit;
      in_loop = true;
      result = r.result;
      first = r.first;
    }

-- in a block that begins where these names are known
abbrev pub within : Around → Names → Around
within r names =
    record {
      function = r.function;
      unit = r.unit;
      in_loop = r.in_loop;
      result = r.result;
      first = length names.inside;
    }

-- behind a block that began where blocks had so many names: its names are forgotten, and its objects stay
abbrev pub ended : ℕ → Scope → Scope
ended first s = record { names = closed first s.names; objects = s.objects }

-- ---- pragmas

abbrev pub is_saturating : PragmaState → Bool
is_saturating Sat = true
is_saturating state = false

abbrev pub with_state : PragmaKind → (saturates : Bool) → Modes → Modes
with_state Precision saturates m = m
with_state Fract saturates m = record { fract = saturates; accum = m.accum }
with_state Accum saturates m = record { fract = m.fract; accum = saturates }

-- the overflow states behind a pragma
abbrev pub with_pragma : Pragma → Modes → Modes
with_pragma p m = with_state p.which (is_saturating p.state) m

abbrev pub with_pragmas : List Pragma → Modes → Modes
with_pragmas [] m = m
with_pragmas (p ∷ ps) m = with_pragmas ps (with_pragma p m)

-- what is known in a block that these pragmas begin
abbrev pub under : List Pragma → Context → Context
under ps c =
    record {
      tags = c.tags;
      structs = c.structs;
      ports = c.ports;
      modes = with_pragmas ps c.modes;
    }
