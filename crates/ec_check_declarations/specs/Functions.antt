-- What declarators and definitions of functions declare (ISO/IEC 9899:1999, 6.7.5.3 and 6.9.1), and their rules.
use Rattle.std.specs.Prelude.{ℕ, Bool, false, not, ◌&&◌, ◌||◌, if◌then◌else◌, Option, Some, None, option_map}
use Rattle.std.specs.Prelude.{List, [], ◌∷◌, ◌++◌, map}
use Rattle.ec_check_operands.specs.Faults.{rule}
use Rattle.ec_grammar.specs.Trees as t
use Rattle.ec_core.specs.Plain.{PlainType, plain_type}
use Rattle.ec_check_names.specs.declared.specifiers.Specified.{Specified}
use Rattle.ec_check_names.specs.Specifiers.{void_at}
use Rattle.ec_check_names.specs.Tags.{Tags}
use Rattle.ec_check_operands.specs.Operands.{with_one}
use Rattle.ec_check_operands.specs.Sorts.{is_scalar, is_void}
use Rattle.ec_check_expressions.specs.TypeNames.{meant_type}
use Rattle.ec_check_declarations.specs.declared.functions.FunctionDeclared as declared
use Rattle.ec_check_declarations.specs.Declarators.{head_of, head_rules, misused_in_result}
use Rattle.ec_check_declarations.specs.ObjectTypes.{is_object_type}
use Rattle.ec_check_declarations.specs.Params.{ParamDeclared, plain_param, params_declared, params_sites}
use Rattle.ec_check_declarations.specs.Sites.{Site, on}

-- the type of the result, if it breaks no rule, and the parameters
pub record FunctionDeclared : Type 0 where
  pub returns : Option PlainType
  pub params : List ParamDeclared

abbrev pub plain_declared_function : declared.FunctionDeclared → FunctionDeclared
plain_declared_function f =
    record { returns = option_map plain_type f.returns; params = map plain_param f.params.items }

-- 17: a result that is neither scalar nor void
abbrev pub is_no_result : Option PlainType → Bool
is_no_result None = false
is_no_result (Some ty) = not (is_scalar ty || is_void ty)

-- the type, if it is void or a scalar one that an object can have
abbrev pub result_type : ℕ → Option PlainType → Option PlainType
result_type n ty = with_one ty (λ ty. if is_void ty || is_scalar ty && is_object_type n ty then Some ty else None)

-- the result, where specifiers say so much before the stars, and there are n structs
abbrev pub returned : ℕ → Specified → List t.Star → Option PlainType
returned n s stars = result_type n (meant_type (misused_in_result (void_at s.types) stars) (head_of s stars).ty)

abbrev pub function_declared : Tags → ℕ → Specified → List t.Star → t.Params → FunctionDeclared
function_declared tags n s stars ps = record { returns = returned n s stars; params = params_declared tags n ps }

-- the rules of stars, of a space and of `void` of the result; 17 at the name
abbrev pub result_sites : Specified → List t.Star → ℕ → List Site → List Site
result_sites s stars at rest =
    on (head_rules false (misused_in_result (void_at s.types) stars) s stars)
    ∷ on (rule 17 (is_no_result (head_of s stars).ty) at ∷ [])
    ∷ rest

abbrev pub function_sites : Tags → (defined : Bool) → Specified → List t.Star → ℕ → t.Params → List Site → List Site
function_sites tags defined s stars at ps rest = result_sites s stars at (params_sites tags defined ps rest)

-- the types so far, and those of more parameters, if all are known
abbrev pub types_from : List PlainType → List ParamDeclared → Option (List PlainType)
types_from ts [] = Some ts
types_from ts (p ∷ ps) = with_one p.ty (λ ty. types_from (ts ++ ty ∷ []) ps)

abbrev pub param_types : List ParamDeclared → Option (List PlainType)
param_types ps = types_from [] ps
