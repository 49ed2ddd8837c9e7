-- Parameters (ISO/IEC 9899:1999, 6.7.5.3), and the rules that they can break.
use Rattle.std.specs.Prelude.{ℕ, ◌+◌, Bool, false, not, ◌&&◌, ◌||◌, if◌then◌else◌, Option, Some, None, option_map}
use Rattle.std.specs.Prelude.{List, [], ◌∷◌, map, take}
use Rattle.std.specs.Str.{bytes_eq}
use Rattle.ec_check_operands.specs.Faults.{Judgement, rule}
use Rattle.ec_grammar.specs.Trees as t
use Rattle.ec_core.specs.Plain.{PlainType, plain_type}
use Rattle.ec_check_names.specs.Firsts.{first_type_name}
use Rattle.ec_check_names.specs.Specifiers.{specified, void_at, specs_rules}
use Rattle.ec_check_names.specs.Tags.{Tags}
use Rattle.ec_check_operands.specs.Operands.{with_one}
use Rattle.ec_check_operands.specs.Sorts.{is_scalar}
use Rattle.ec_check_expressions.specs.TypeNames.{meant_type}
use Rattle.ec_check_declarations.specs.declared.params.ParamDeclared as declared
use Rattle.ec_check_declarations.specs.Declarators.{head_of, head_rules}
use Rattle.ec_check_declarations.specs.ObjectTypes.{is_object_type}
use Rattle.ec_check_declarations.specs.Sites.{Site, on}

-- a parameter's name, if it has one, its type, if it breaks no rule of types, and whether it is const
pub record ParamDeclared : Type 0 where
  pub name : Option (List ℕ)
  pub ty : Option PlainType
  pub konst : Bool

abbrev pub plain_param : declared.ParamDeclared → ParamDeclared
plain_param p = record { name = option_map (λ n. n.items) p.name; ty = option_map plain_type p.ty; konst = p.konst }

abbrev pub name_in : Option t.Identifier → Option (List ℕ)
name_in None = None
name_in (Some (t.identifier at n)) = Some n

-- 17: a type that is not scalar
abbrev pub is_no_scalar : Option PlainType → Bool
is_no_scalar None = false
is_no_scalar (Some ty) = not (is_scalar ty)

-- the type, if it is a scalar one that an object can have
abbrev pub scalar_type : ℕ → Option PlainType → Option PlainType
scalar_type n ty = with_one ty (λ ty. if is_scalar ty && is_object_type n ty then Some ty else None)

-- where the rules of a parameter are told: at its name, or else at its first token
abbrev pub param_at : t.Param → ℕ
param_at (t.param ty None) = first_type_name ty
param_at (t.param ty (Some (t.identifier at n))) = at.index

-- a parameter has this name
abbrev pub has_name : List ℕ → t.Param → Bool
has_name n (t.param ty None) = false
has_name n (t.param ty (Some (t.identifier at m))) = bytes_eq m n

-- one of some parameters has it
abbrev pub is_name_of : List ℕ → List t.NextParam → Bool
is_name_of n [] = false
is_name_of n (t.next_param comma p ∷ ps) = has_name n p || is_name_of n ps

-- 5: a parameter of a function that is defined has no name
abbrev pub is_nameless : (defined : Bool) → t.Param → Bool
is_nameless defined (t.param ty None) = defined
is_nameless defined (t.param ty (Some n)) = false

-- 5: or a parameter has the name of one before it
abbrev pub is_misnamed : (defined : Bool) → (first : t.Param) → (before : List t.NextParam) → t.Param → Bool
is_misnamed defined first before (t.param ty None) = defined
is_misnamed defined first before (t.param ty (Some (t.identifier at n))) = has_name n first || is_name_of n before

-- what a parameter declares, where there are n structs
abbrev pub param_declared : Tags → ℕ → t.Param → ParamDeclared
param_declared tags n (t.param (t.type_name ss stars) name) =
    record {
      name = name_in name;
      ty = scalar_type n (meant_type (void_at (specified tags ss).types) (head_of (specified tags ss) stars).ty);
      konst = (head_of (specified tags ss) stars).qualities.konst;
    }

abbrev pub param_rules : (misnamed : Bool) → Option PlainType → ℕ → List Judgement
param_rules misnamed ty at = rule 5 misnamed at ∷ rule 17 (is_no_scalar ty) at ∷ []

-- the rules of its specifiers; those of its stars, its space and `void`; 5 and 17
abbrev pub param_sites : Tags → (misnamed : Bool) → t.Param → List Site → List Site
param_sites tags misnamed (t.param (t.type_name ss stars) name) rest =
    on (specs_rules tags false ss [])
    ∷ on (head_rules false (void_at (specified tags ss).types) (specified tags ss) stars)
    ∷ on (param_rules misnamed (head_of (specified tags ss) stars).ty (param_at (t.param (t.type_name ss stars) name)))
    ∷ rest

abbrev pub next_declared : Tags → ℕ → t.NextParam → ParamDeclared
next_declared tags n (t.next_param comma p) = param_declared tags n p

abbrev pub params_declared : Tags → ℕ → t.Params → List ParamDeclared
params_declared tags n (t.void_params s) = []
params_declared tags n (t.params first more) = param_declared tags n first ∷ map (next_declared tags n) more

-- the parameters from one on, of all that follow the first
abbrev pub more_params_sites : Tags → (defined : Bool) → (first : t.Param) → (all : List t.NextParam) → ℕ
    → List t.NextParam → List Site → List Site
more_params_sites tags defined first all i [] rest = rest
more_params_sites tags defined first all i (t.next_param comma p ∷ ps) rest =
    param_sites tags (is_misnamed defined first (take i all) p) p
    (more_params_sites tags defined first all (i + 1) ps rest)

abbrev pub params_sites : Tags → (defined : Bool) → t.Params → List Site → List Site
params_sites tags defined (t.void_params s) rest = rest
params_sites tags defined (t.params first more) rest =
    param_sites tags (is_nameless defined first) first (more_params_sites tags defined first more 0 more rest)
