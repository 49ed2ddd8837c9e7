-- Declarators of functions at file scope agree with what is numbered.
use Rattle.std.proofs.Common.{◌≡◌, ◌+◌, ◌++◌, ℕ, Bool, true, false, List, [], ◌∷◌, length, map, take, refl, sym, subst}
use Rattle.std.specs.Prelude.{Option, Some, None, IsSome, IsSomeAnd}
use Rattle.std.specs.List.{AllByRecursion}
use Rattle.std.proofs.lemmas.Bool.{both_ways, false≢true}
use Rattle.ec_grammar.specs.Trees as t
use Rattle.ec_core.specs.Plain.{PlainType}
use Rattle.ec_check_names.specs.declared.linkage.Linkage.{Linkage}
use Rattle.ec_check_names.specs.declared.specifiers.Storage.{Storage}
use Rattle.ec_check_names.specs.Definitions.{Numbering, with_link, numbered_declarator}
use Rattle.ec_check_names.specs.Specifiers.{specified, specs_rules}
use Rattle.ec_check_names.specs.Tags.{Tags}
use Rattle.ec_check_operands.specs.Operands.{with_one}
use Rattle.ec_check_forms.specs.Constraints.{IsStruct}
use Rattle.ec_check_expression_laws.specs.Laws.{AreUnbroken, DeclarationsKeepSuiting}
use Rattle.ec_check_declarations.specs.Functions.{FunctionDeclared, function_declared, result_sites, types_from, param_types}
use Rattle.ec_check_declarations.specs.Params.{ParamDeclared, is_nameless, is_misnamed, param_declared, next_declared, params_declared}
use Rattle.ec_check_declarations.specs.Params.{param_sites, more_params_sites, params_sites}
use Rattle.ec_check_declarations.specs.Sites.{Site, told}
use Rattle.ec_check_statements.specs.Laws.{HaveFunctionTypes, KeptFunctionsHaveTypes}
use Rattle.ec_check_statements.proofs.Unbroken.{AreKept, kept_of, told_of}
use Rattle.ec_check_file_scope.specs.FileNames.{a_function, conflicts}
use Rattle.ec_check_file_scope.specs.FileFunctions.{function_link, function_name, function_named, with_function_name}
use Rattle.ec_check_file_scope.specs.FileFunctions.{after_function, declared_function_sites, file_function_sites}
use Rattle.ec_check_file_scope.specs.FileObjects.{word_of}
use Rattle.ec_check_file_scope.specs.States.{Setting, State}
use Rattle.ec_check.specs.Agreement.{Agrees}
use Rattle.ec_check.proofs.KeptObjects.{GoesOn}
use Rattle.ec_check.proofs.Standing.{name_agrees}

-- ---- parameters

-- a parameter has a type, and where the function is defined a name
abbrev pub IsWholeParam : (defined : Bool) → ParamDeclared → Type 0
IsWholeParam defined p = IsSome p.ty × (defined ≡ true → IsSome p.name)

module _ (n : ℕ) (tags : Tags) (types : HaveFunctionTypes n tags) (defined : Bool) where
  first_there : (x : t.Param) (rest : List Site) → AreKept (param_sites tags (is_nameless defined x) x rest)
      → IsWholeParam defined (param_declared tags n x) × AreKept rest
  first_there (t.param (t.type_name ss stars) None) rest u =
      let x = t.param (t.type_name ss stars) None in
      let a = types.params defined x rest (told_of (param_sites tags defined x rest) u) in
      ((a.0, λ e. absurd (both_ways defined u.1.1.0.0 e)), u.1.1.1)
  first_there (t.param (t.type_name ss stars) (Some (t.identifier at name))) rest u =
      let x = t.param (t.type_name ss stars) (Some (t.identifier at name)) in
      let a = types.params false x rest (told_of (param_sites tags false x rest) u) in
      ((a.0, λ e. refl), u.1.1.1)

  next_there : (first : t.Param) (before : List t.NextParam) (x : t.Param) (rest : List Site)
      → AreKept (param_sites tags (is_misnamed defined first before x) x rest)
      → IsWholeParam defined (param_declared tags n x) × AreKept rest
  next_there first before (t.param (t.type_name ss stars) None) rest u =
      let x = t.param (t.type_name ss stars) None in
      let a = types.params defined x rest (told_of (param_sites tags defined x rest) u) in
      ((a.0, λ e. absurd (both_ways defined u.1.1.0.0 e)), u.1.1.1)
  next_there first before (t.param (t.type_name ss stars) (Some (t.identifier at name))) rest u =
      let x = t.param (t.type_name ss stars) (Some (t.identifier at name)) in
      let misnamed = is_misnamed defined first before x in
      let a = types.params misnamed x rest (told_of (param_sites tags misnamed x rest) u) in
      ((a.0, λ e. refl), u.1.1.1)

  more_there : (first : t.Param) (all : List t.NextParam) (i : ℕ) (ps : List t.NextParam) (rest : List Site)
      → AreKept (more_params_sites tags defined first all i ps rest)
      → AllByRecursion (IsWholeParam defined) (map (next_declared tags n) ps) × AreKept rest
  more_there first all i [] rest u = (tt, u)
  more_there first all i (t.next_param comma p ∷ ps) rest u =
      let a = next_there first (take i all) p _ u in
      let b = more_there first all (i + 1) ps rest a.1 in
      ((a.0, b.0), b.1)

  pub params_there : (ps : t.Params) (rest : List Site) → AreKept (params_sites tags defined ps rest)
      → AllByRecursion (IsWholeParam defined) (params_declared tags n ps) × AreKept rest
  params_there (t.void_params s) rest u = (tt, u)
  params_there (t.params first more) rest u =
      let a = first_there first _ u in
      let b = more_there first more 0 more rest a.1 in
      ((a.0, b.0), b.1)

with_some : (o : Option PlainType) (f : PlainType → Option (List PlainType)) → IsSome o → ((ty : PlainType) → IsSome (f ty))
    → IsSome (with_one o f)
with_some None f h g = absurd (false≢true h)
with_some (Some ty) f h g = g ty

types_some : (defined : Bool) (ps : List ParamDeclared) (ts : List PlainType) → AllByRecursion (IsWholeParam defined) ps
    → IsSome (types_from ts ps)
types_some defined [] ts all = refl
types_some defined (p ∷ ps) ts all =
    with_some p.ty (λ ty. types_from (ts ++ ty ∷ []) ps) all.0.0 (λ ty. types_some defined ps (ts ++ ty ∷ []) all.1)

-- ---- names

-- the result has a type that is no struct, and the parameters have types
pub record IsWholeFunction (defined : Bool) (f : FunctionDeclared) : Type 0 where
  pub returns : IsSomeAnd f.returns (λ ty. ¬ IsStruct ty)
  pub params : AllByRecursion (IsWholeParam defined) f.params

pub function_named_agrees : DeclarationsKeepSuiting
    → (r : Setting) (name : List ℕ) (l : Linkage) (defined : Bool) (f : FunctionDeclared) (n : Numbering) (s : State)
    → Agrees r.ports r.unit n s → IsWholeFunction defined f → conflicts (function_name r name l defined f) s.declared ≡ false
    → Agrees r.ports r.unit (with_link name l n) (with_function_name r name l defined f s)
function_named_agrees keep r name l defined f n s h whole clear =
    name_agrees keep r.ports r.unit n s h name (function_named r name l f) l defined
    (a_function f.returns (length f.params) (param_types f.params)) refl
    (record { clear = clear; typed = (whole.returns, types_some defined f.params [] whole.params); object = tt })

-- ---- sites of the result and of the parameters

pub function_there : KeptFunctionsHaveTypes → (r : Setting) (n : Numbering) (s : State) → Agrees r.ports r.unit n s
    → (defined : Bool) (ss : t.Specs) (stars : List t.Star)
    (at : ℕ) (ps : t.Params) (rest : List Site) → AreUnbroken (specs_rules s.tags true ss [])
    → AreKept (result_sites (specified s.tags ss) stars at (params_sites s.tags defined ps rest))
    → IsWholeFunction defined (function_declared s.tags (length s.structs) (specified s.tags ss) stars ps) × AreKept rest
function_there types r n s h defined ss stars at ps rest unbroken u =
    let g = types (length s.structs) s.tags h.types.tags in
    let sites = result_sites (specified s.tags ss) stars at (params_sites s.tags defined ps rest) in
    let a = g.results ss [] stars at (params_sites s.tags defined ps rest) unbroken (told_of sites u) in
    let b = params_there (length s.structs) s.tags g defined ps rest u.1.1 in
    (record { returns = a.0; params = b.0 }, b.1)

-- ---- a declarator

pub function_goes_on : KeptFunctionsHaveTypes → DeclarationsKeepSuiting
    → (r : Setting) (ss : t.Specs) (storage : Option Storage) (stars : List t.Star) (x : t.Identifier)
    (l : _) (ps : t.Params) (e : _) (start : Option t.Start) (n : Numbering) (s : State) (rest : List Site) → Agrees r.ports r.unit n s
    → AreUnbroken (specs_rules s.tags true ss [])
    → told None (file_function_sites r (specified s.tags ss) storage
    (t.init_declarator (t.declarator stars x (t.function_shape l ps e)) start) ps s rest) ≡ None
    → GoesOn r (numbered_declarator r.unit (word_of storage) (t.init_declarator (t.declarator stars x (t.function_shape l ps e)) start) n) s
    (after_function r (specified s.tags ss) storage (t.init_declarator (t.declarator stars x (t.function_shape l ps e)) start) ps s) rest
function_goes_on types keep r ss storage stars (t.identifier at name) l ps e start n s rest h unbroken q =
    let f = function_declared s.tags (length s.structs) (specified s.tags ss) stars ps in
    let w = word_of storage in
    let link = function_link r w name s in
    let sites = file_function_sites r (specified s.tags ss) storage
    (t.init_declarator (t.declarator stars (t.identifier at name) (t.function_shape l ps e)) start) ps s rest in
    let d = t.init_declarator (t.declarator stars (t.identifier at name) (t.function_shape l ps e)) start in
    let behind = declared_function_sites r storage d s f rest in
    let a = function_there types r n s h false ss stars at.index ps behind unbroken (kept_of sites q) in
    let done = function_named_agrees keep r name link false f n s h a.0 a.1.1.0.0 in
    record {
      agrees = subst (λ (x : Linkage). Agrees r.ports r.unit (with_link name x n) (with_function_name r name link false f s))
          (sym (h.links w true name)) done;
      tags = refl;
      structs = refl;
      kept = a.1.1.1;
    }
