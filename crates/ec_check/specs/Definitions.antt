-- Definitions of functions (ISO/IEC 9899:1999, 6.9.1): what is known behind them, and the sites where their rules are
-- judged.
use Rattle.std.specs.Prelude.{ℕ, nat_lt, Bool, true, false, if◌then◌else◌, Option, Some, None, List, [], ◌∷◌, ◌++◌}
use Rattle.std.specs.Prelude.{length}
use Rattle.ec_grammar.specs.Trees as t
use Rattle.ec_core.specs.Plain.{PlainType, PlainStmt, PlainFunction, param}
use Rattle.ec_check_names.specs.declared.specifiers.StorageWord.{StorageWord}
use Rattle.ec_check_names.specs.Specifiers.{specified, specs_rules, storages_of}
use Rattle.ec_check_declarations.specs.Functions.{FunctionDeclared, function_declared, function_sites}
use Rattle.ec_check_declarations.specs.Params.{ParamDeclared}
use Rattle.ec_check_declarations.specs.Scopes.{Scope, made_number, with_inner}
use Rattle.ec_check_declarations.specs.Sites.{Site, on}
use Rattle.ec_check_statements.specs.Around.{Around}
use Rattle.ec_check_statements.specs.Statements.{body_of, after_body, body_sites}
use Rattle.ec_check_file_scope.specs.FileFunctions.{function_link, with_function_name, named_function_sites}
use Rattle.ec_check_file_scope.specs.FileObjects.{word_of}
use Rattle.ec_check_file_scope.specs.States.{Setting, State, context_of, with_scope, broken}

-- ---- parameters

-- a parameter with a name becomes an object of the function
abbrev pub with_param : (unit function : ℕ) → Option (List ℕ) → ParamDeclared → Scope → Scope
with_param unit function None p s = s
with_param unit function (Some n) p s = with_inner unit n p.ty p.konst (param function) s

abbrev pub param_number : Option (List ℕ) → ParamDeclared → Scope → Option ℕ
param_number None p s = None
param_number (Some n) p s = made_number p.ty s.objects

-- the scope behind parameters, in the order in which they stand
abbrev pub with_params : (unit function : ℕ) → List ParamDeclared → Scope → Scope
with_params unit function [] s = s
with_params unit function (p ∷ ps) s = with_params unit function ps (with_param unit function p.name p s)

-- one number more; None where one is not known
abbrev pub next_numbers : Option (List ℕ) → Option ℕ → Option (List ℕ)
next_numbers None n = None
next_numbers (Some ns) None = None
next_numbers (Some ns) (Some n) = Some (ns ++ n ∷ [])

-- the numbers of their objects behind those found
abbrev pub param_numbers : (unit function : ℕ) → List ParamDeclared → Scope → Option (List ℕ) → Option (List ℕ)
param_numbers unit function [] s found = found
param_numbers unit function (p ∷ ps) s found =
    param_numbers unit function ps (with_param unit function p.name p s)
    (next_numbers found (param_number p.name p s))

-- ---- functions

-- a number of 16 bits is left for one more function
abbrev pub has_number : List PlainFunction → Bool
has_number fs = nat_lt (length fs) 65_536

abbrev pub number_in : List PlainFunction → ℕ
number_in fs = if has_number fs then length fs else 0

-- what stands around the body; names of blocks are those of the parameters and of the body alone
abbrev pub around_of : Setting → (function : ℕ) → FunctionDeclared → Scope → Around
around_of r function f s =
    record { function = function; unit = r.unit; in_loop = false; result = f.returns; first = length s.names.inside }

-- the function, if its result, its parameters and its body are known
abbrev pub function_made : (unit : ℕ) → List ℕ → Option PlainType → Option (List ℕ) → Option PlainStmt
    → Option PlainFunction
function_made unit n None params body = None
function_made unit n (Some returns) None body = None
function_made unit n (Some returns) (Some params) None = None
function_made unit n (Some returns) (Some params) (Some body) =
    Some (record { name = n; unit = unit; returns = returns; params = params; body = body })

-- one function more, if it is known and a number is left for it; otherwise not all has a meaning
abbrev pub with_function : Option PlainFunction → State → State
with_function None s = broken s
with_function (Some f) s = if has_number s.functions then record s { functions = s.functions ++ f ∷ [] } else broken s

-- the parameters and the body of a definition, whose name is known there
abbrev pub params_in : Setting → FunctionDeclared → State → Scope
params_in r f s = with_params r.unit (number_in s.functions) f.params s.scope

abbrev pub numbers_in : Setting → FunctionDeclared → State → Option (List ℕ)
numbers_in r f s = param_numbers r.unit (number_in s.functions) f.params s.scope (Some [])

abbrev pub body_in : Setting → FunctionDeclared → State → Around
body_in r f s = around_of r (number_in s.functions) f s.scope

abbrev pub defined_in : Setting → List ℕ → FunctionDeclared → t.Compound → State → State
defined_in r n f body s =
    with_function
    (function_made r.unit n f.returns (numbers_in r f s)
    (body_of (context_of r.ports s) (body_in r f s) body (params_in r f s)))
    (with_scope (after_body (context_of r.ports s) (body_in r f s) body (params_in r f s)) s)

abbrev pub definition_declared : t.Function → State → FunctionDeclared
definition_declared (t.function (t.type_name ss stars) n l ps e body) s =
    function_declared s.tags (length s.structs) (specified s.tags ss) stars ps

-- the rules of the specifiers, of the result and of the parameters
abbrev pub definition_head_sites : t.Function → State → List Site → List Site
definition_head_sites (t.function (t.type_name ss stars) (t.identifier at n) l ps e body) s rest =
    on (specs_rules s.tags true ss []) ∷ function_sites s.tags true (specified s.tags ss) stars at.index ps rest

abbrev pub definition_word : t.Function → Option StorageWord
definition_word (t.function (t.type_name ss stars) n l ps e body) = word_of (storages_of ss).first

-- the state behind a definition that declares so much, and in its body
abbrev pub named_definition : Setting → t.Function → State → FunctionDeclared → State
named_definition r (t.function ty (t.identifier at n) l ps e body) s f =
    with_function_name r n
    (function_link r (definition_word (t.function ty (t.identifier at n) l ps e body)) n s) true f s

abbrev pub with_definition : Setting → t.Function → State → FunctionDeclared → State
with_definition r (t.function ty (t.identifier at n) l ps e body) s f =
    defined_in r n f body (named_definition r (t.function ty (t.identifier at n) l ps e body) s f)

abbrev pub body_sites_in : Setting → FunctionDeclared → t.Compound → State → List Site → List Site
body_sites_in r f body s rest = body_sites (context_of r.ports s) (body_in r f s) body (params_in r f s) rest

-- 6 and 18 at the name, and the rules of the body
abbrev pub definition_body_sites : Setting → t.Function → State → FunctionDeclared → List Site → List Site
definition_body_sites r (t.function ty (t.identifier at n) l ps e body) s f rest =
    named_function_sites r (definition_word (t.function ty (t.identifier at n) l ps e body)) n true f false at.index s
    (body_sites_in r f body (named_definition r (t.function ty (t.identifier at n) l ps e body) s f) rest)

abbrev pub after_definition : Setting → t.Function → State → State
after_definition r f s = with_definition r f s (definition_declared f s)

abbrev pub definition_sites : Setting → t.Function → State → List Site → List Site
definition_sites r f s rest = definition_head_sites f s (definition_body_sites r f s (definition_declared f s) rest)
