-- Parameters and results of functions, and the constraints on them, in words (ISO/IEC 9899:1999, 6.7.5.3 and 6.9.1).
use Rattle.std.specs.Prelude.{ℕ, ◌≡◌, ◌≢◌, ◌⊎◌, Bool, true, false, Option, Some, None, List, [], ◌∷◌}
use Rattle.ec_grammar.specs.Trees as t
use Rattle.ec_core.specs.Plain.{PlainType, void}
use Rattle.ec_check_operands.specs.declared.faults.Fault.{Fault}
use Rattle.ec_check_forms.specs.Constraints.{IsScalar}
use Rattle.ec_check_names.specs.Tags.{Tags}
use Rattle.ec_check_declarations.specs.Params.{param_at}
use Rattle.ec_check_parts.specs.Specifiers.{BreakSpecifiers}
use Rattle.ec_check_parts.specs.Heads.{parameter, result, BreakHead}
use Rattle.ec_check_parts.specs.Types.{SayType}

-- ---- parameters

abbrev pub HasName : List ℕ → t.Param → Type 0
HasName n (t.param ty None) = ⊥
HasName n (t.param ty (Some (t.identifier at m))) = m ≡ n

-- one of some parameters has the name
abbrev pub IsNamed : List ℕ → List t.Param → Type 0
IsNamed n [] = ⊥
IsNamed n (p ∷ ps) = HasName n p ⊎ IsNamed n ps

-- a parameter of a definition has no name, or one has the name of one before it
abbrev pub IsMisnamed : (defined : Bool) → (before : List t.Param) → t.Param → Type 0
IsMisnamed defined before (t.param ty None) = defined ≡ true
IsMisnamed defined before (t.param ty (Some (t.identifier at n))) = IsNamed n before

-- a parameter behind others, of a definition or of a declaration; what is told of its name and its type is told at its
-- name, and else at its first token
pub data BreakParam (tags : Tags) (defined : Bool) (before : List t.Param) (ss : t.Specs) (stars : List t.Star)
    (name : Option t.Identifier) (f : Fault) : Type 0 where
  param_specified : BreakSpecifiers tags false ss f → BreakParam tags defined before ss stars name f
  param_headed : BreakHead tags parameter ss stars f → BreakParam tags defined before ss stars name f
  misnamed : f.rule ≡ 5 → f.at ≡ param_at (t.param (t.type_name ss stars) name)
      → IsMisnamed defined before (t.param (t.type_name ss stars) name) → BreakParam tags defined before ss stars name f
  -- its type is not scalar
  no_parameter : f.rule ≡ 17 → f.at ≡ param_at (t.param (t.type_name ss stars) name) → (ty : PlainType)
      → SayType tags ss stars ty → ¬ IsScalar ty → BreakParam tags defined before ss stars name f

-- parameters behind others
abbrev pub BreakParams : Tags → (defined : Bool) → (before : List t.Param) → List t.Param → Fault → Type 0
BreakParams tags defined before [] f = ⊥
BreakParams tags defined before (t.param (t.type_name ss stars) name ∷ ps) f =
    BreakParam tags defined before ss stars name f
    ⊎ BreakParams tags defined (t.param (t.type_name ss stars) name ∷ before) ps f

abbrev pub params_behind : List t.NextParam → List t.Param
params_behind [] = []
params_behind (t.next_param comma p ∷ ps) = p ∷ params_behind ps

abbrev pub params_in : t.Params → List t.Param
params_in (t.void_params s) = []
params_in (t.params first more) = first ∷ params_behind more

-- ---- functions

-- the declarator of a function, with its name at a token, in a definition or not
pub data BreakFunction (tags : Tags) (defined : Bool) (ss : t.Specs) (stars : List t.Star) (at : ℕ) (ps : t.Params)
    (f : Fault) : Type 0 where
  result_headed : BreakHead tags result ss stars f → BreakFunction tags defined ss stars at ps f
  -- its result is neither scalar nor void
  no_result : f.rule ≡ 17 → f.at ≡ at → (ty : PlainType) → SayType tags ss stars ty → ¬ IsScalar ty → ty ≢ void
      → BreakFunction tags defined ss stars at ps f
  in_params : BreakParams tags defined [] (params_in ps) f → BreakFunction tags defined ss stars at ps f
