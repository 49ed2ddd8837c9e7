-- What a type name says (ISO/IEC 9899:1999, 6.7.6), and the rules that it can break.
use Rattle.std.specs.Prelude.{ℕ, true, false, if◌then◌else◌, Option, Some, None, List, ◌∷◌, length}
use Rattle.ec_grammar.specs.Trees as t
use Rattle.ec_core.specs.Plain.{PlainType, PlainStruct}
use Rattle.ec_check_operands.specs.Faults.{Judgement, rule}
use Rattle.ec_check_names.specs.Specifiers.{specified, void_at, specs_rules}
use Rattle.ec_check_names.specs.Stars.{declared_by, behind, star_rules}
use Rattle.ec_check_names.specs.Tags.{Tags}
use Rattle.ec_check_operands.specs.declared.operands.Modes.{Modes}
use Rattle.ec_check_forms.specs.Calls.{size_value}
use Rattle.ec_check_operands.specs.Operands.{Operand}
use Rattle.ec_check_expressions.specs.Types.{is_sized}
pub use Rattle.ec_check_expressions.specs.Types.{meant_type}

-- the type that it says, void and pointers to void among them
unfoldable pub said_type : Tags → t.TypeName → Option PlainType
said_type tags (t.type_name ss stars) = (behind (declared_by (specified tags ss)) stars).ty

-- where the word `void` stands in it
unfoldable pub void_said : Tags → t.TypeName → Option ℕ
void_said tags (t.type_name ss stars) = void_at (specified tags ss).types

-- 7: a type name may not say void
abbrev pub void_rules : Option ℕ → List Judgement → List Judgement
void_rules None rest = rest
void_rules (Some at) rest = rule 7 true at ∷ rest

-- the rules of its specifiers, of its stars, and of `void`
unfoldable pub type_name_rules : Tags → t.TypeName → List Judgement → List Judgement
type_name_rules tags (t.type_name ss stars) rest =
    specs_rules tags false ss (star_rules stars (void_rules (void_said tags (t.type_name ss stars)) rest))

-- the value of `sizeof` of a type name
abbrev pub size_of_type_name : Modes → List PlainStruct → Option PlainType → Option Operand
size_of_type_name m structs None = None
size_of_type_name m structs (Some ty) = if is_sized (length structs) ty then Some (size_value m structs ty) else None
