-- What is known between the external declarations of all units (ISO/IEC 9899:1999, 6.9).
use Rattle.std.specs.Prelude.{ℕ, Bool, true, false, List, [], ◌∷◌, ◌++◌, map, length}
use Rattle.std.specs.List.{AllByRecursion}
use Rattle.ec_iohw.specs.declared.table.IoTable.{IoTable}
use Rattle.ec_core.specs.Layout.{AreStructs}
use Rattle.ec_core.specs.Plain.{PlainStruct, plain_struct, PlainFunction, plain_function}
use Rattle.ec_check_operands.specs.declared.operands.Modes.{Modes}
use Rattle.ec_check_forms.specs.Accesses.{AreCounted}
use Rattle.ec_check_names.specs.Definitions.{Definition, plain_definitions}
use Rattle.ec_check_names.specs.Names.{no_names, Named, with_outside}
use Rattle.ec_check_names.specs.Tags.{Tags, plain_tags}
use Rattle.ec_check_expressions.specs.Known.{Known}
use Rattle.ec_check_initialisers.specs.Places.{IsNamedObject}
use Rattle.ec_check_declarations.specs.Scopes.{Context, Scope, plain_scope, known_in}
use Rattle.ec_check_file_scope.specs.declared.states.Setting as setting
use Rattle.ec_check_file_scope.specs.declared.states.State as state
use Rattle.ec_check_file_scope.specs.FileNames.{FileName, plain_file_name}

-- the definitions of all units by name, the ports, and the number of the unit
pub record Setting : Type 0 where
  pub definitions : List Definition
  pub ports : IoTable
  pub unit : ℕ

abbrev pub plain_setting : setting.Setting → Setting
plain_setting r = record { definitions = plain_definitions r.definitions.now; ports = r.ports.now; unit = r.unit }

-- names and objects; tags and structs; functions; the declarations at file scope; the overflow states; and whether all
-- that was declared so far has a meaning
pub record State : Type 0 where
  pub scope : Scope
  pub tags : Tags
  pub structs : List PlainStruct
  pub functions : List PlainFunction
  pub declared : List FileName
  pub modes : Modes
  pub whole : Bool

abbrev pub plain_state : state.State → State
plain_state s =
    record {
      scope = plain_scope s.scope;
      tags = plain_tags s.tags;
      structs = map plain_struct s.structs.items;
      functions = map plain_function s.functions.items;
      declared = map plain_file_name s.declared.items;
      modes = s.modes;
      whole = s.whole;
    }

abbrev pub context_of : IoTable → State → Context
context_of ports s = record { tags = s.tags; structs = s.structs; ports = ports; modes = s.modes }

abbrev pub known_of : IoTable → State → Known
known_of ports s = known_in (context_of ports s) s.scope.names

-- ---- the state, changed in one part

abbrev pub with_scope : Scope → State → State
with_scope scope s = record s { scope = scope }

-- not all has a meaning
abbrev pub broken : State → State
broken s = record s { whole = false }

abbrev pub with_modes : Modes → State → State
with_modes modes s = record s { modes = modes }

-- a name is declared, and stands for this
abbrev pub with_name : List ℕ → Named → FileName → State → State
with_name n what d s =
    record s {
      scope = record { names = with_outside n what s.scope.names; objects = s.scope.objects };
      declared = s.declared ++ d ∷ [];
    }

-- ---- where it begins

-- the overflow states before all pragmas
abbrev pub default_modes : Modes
default_modes = record { fract = false; accum = false }

abbrev pub nothing_declared : State
nothing_declared =
    record {
      scope = record { names = no_names; objects = [] };
      tags = [];
      structs = [];
      functions = [];
      declared = [];
      modes = default_modes;
      whole = true;
    }

-- a unit begins with no name, no tag and the default states
abbrev pub in_unit : State → State
in_unit s =
    record s {
      scope = record { names = no_names; objects = s.scope.objects };
      tags = [];
      modes = default_modes;
    }

-- ---- what always holds

-- the structs are those of a program, and the types of objects are types that objects can have
pub record IsSoundState (s : State) : Type 0 where
  pub structs : AreStructs s.structs
  pub counted : AreCounted s.structs
  pub named : AllByRecursion (λ e. IsNamedObject (length s.structs) e.1) s.scope.names.outside
