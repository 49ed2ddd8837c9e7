-- Objects in named registers (ISO/IEC TR 18037:2008, 5.2.2), and the rules that their declarations can break.
use Rattle.std.specs.Prelude.{ℕ, ◌+◌, Bool, false, not, ◌||◌, if◌then◌else◌, is_none, nat_lt, length}
use Rattle.std.specs.Prelude.{Option, Some, None, option_map, List, [], ◌∷◌}
use Rattle.ec_check_operands.specs.Faults.{rule}
use Rattle.ec_grammar.specs.Trees as t
use Rattle.ec_core.specs.Layout.{size_of_type}
use Rattle.ec_core.specs.Plain.{PlainType, plain_type, PlainStruct}
use Rattle.ec_check_names.specs.declared.specifiers.Specified.{Specified}
use Rattle.ec_check_names.specs.Specifiers.{specified, void_at, specs_rules}
use Rattle.ec_check_names.specs.Spellings.{register_number}
use Rattle.ec_check_operands.specs.Operands.{with_one}
use Rattle.ec_check_operands.specs.Sorts.{is_arithmetic}
use Rattle.ec_check_expressions.specs.Known.{Known}
use Rattle.ec_check_expressions.specs.TypeNames.{meant_type}
use Rattle.ec_check_declarations.specs.declared.registers.RegisterDeclared as declared
use Rattle.ec_check_declarations.specs.Declarators.{head_of, head_rules}
use Rattle.ec_check_declarations.specs.ObjectTypes.{object_type}
use Rattle.ec_check_declarations.specs.Sites.{Site, on}

-- the first register and the type, if they break no rule, and whether the object is const
pub record RegisterDeclared : Type 0 where
  pub first : Option ℕ
  pub ty : Option PlainType
  pub konst : Bool

abbrev pub plain_declared_register : declared.RegisterDeclared → RegisterDeclared
plain_declared_register r = record { first = r.first; ty = option_map plain_type r.ty; konst = r.konst }

-- 12: a type that is neither an integer's nor a fixed-point one
abbrev pub is_no_number : Option PlainType → Bool
is_no_number None = false
is_no_number (Some ty) = not (is_arithmetic ty)

-- 12: the object would pass the last register
abbrev pub passes_last : List PlainStruct → Option ℕ → Option PlainType → Bool
passes_last structs None ty = false
passes_last structs (Some first) None = false
passes_last structs (Some first) (Some ty) = nat_lt 8 (first + size_of_type structs ty)

-- the type of an object by what its specifiers say
abbrev pub register_type : ℕ → Specified → Option PlainType
register_type n s = object_type n (meant_type (void_at s.types) (head_of s []).ty)

-- a type that may stand in registers
abbrev pub number_type : Option PlainType → Option PlainType
number_type ty = with_one ty (λ ty. if is_arithmetic ty then Some ty else None)

-- the type, where the object lies in registers
abbrev pub type_in : List PlainStruct → Option ℕ → Option PlainType → Option PlainType
type_in structs first ty = if passes_last structs first ty then None else number_type ty

abbrev pub breaks_register : List PlainStruct → Option ℕ → (said : Option PlainType) → (ty : Option PlainType) → Bool
breaks_register structs first said ty = is_none first || is_no_number said || passes_last structs first ty

abbrev pub register_declared : Known → t.RegisterObject → RegisterDeclared
register_declared k (t.register_object w (t.identifier at register) ss name semicolon) =
    record {
      first = register_number register;
      ty = type_in k.structs (register_number register) (register_type (length k.structs) (specified k.tags ss));
      konst = (specified k.tags ss).qualities.konst;
    }

-- the rules of the specifiers, of a space and of `void`; 12 at the register
abbrev pub register_sites : Known → t.RegisterObject → List Site → List Site
register_sites k (t.register_object w (t.identifier at register) ss name semicolon) rest =
    on (specs_rules k.tags false ss [])
    ∷ on (head_rules false (void_at (specified k.tags ss).types) (specified k.tags ss) [])
    ∷ on (rule 12 (breaks_register k.structs (register_number register) (head_of (specified k.tags ss) []).ty
    (register_type (length k.structs) (specified k.tags ss))) at.index ∷ [])
    ∷ rest
