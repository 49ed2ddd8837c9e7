-- Declarations of functions at file scope (ISO/IEC 9899:1999, 6.7.5.3), and the rules that they can break.
use Rattle.std.specs.Prelude.{ℕ, Bool, true, false, ◌&&◌, ◌||◌, Option, List, [], ◌∷◌, length}
use Rattle.ec_check_operands.specs.Faults.{Judgement, rule}
use Rattle.ec_grammar.specs.Trees as t
use Rattle.ec_check_names.specs.declared.linkage.Linkage.{Linkage}
use Rattle.ec_check_names.specs.declared.specifiers.Specified.{Specified}
use Rattle.ec_check_names.specs.declared.specifiers.Storage.{Storage}
use Rattle.ec_check_names.specs.declared.specifiers.StorageWord.{StorageWord}
use Rattle.ec_check_names.specs.Definitions.{number_of}
use Rattle.ec_check_names.specs.Linkage.{linkage_of}
use Rattle.ec_check_names.specs.Names as names
use Rattle.ec_check_names.specs.Spellings.{is_main}
use Rattle.ec_check_declarations.specs.Functions.{FunctionDeclared, function_declared, function_sites, param_types}
use Rattle.ec_check_declarations.specs.Params.{ParamDeclared}
use Rattle.ec_check_declarations.specs.Sites.{Site, on}
use Rattle.ec_check_file_scope.specs.FileNames.{a_function, FileName, conflicts, earlier_link}
use Rattle.ec_check_file_scope.specs.FileObjects.{word_of, is_started, extern_rules}
use Rattle.ec_check_file_scope.specs.States.{Setting, State, with_name}
pub use Rattle.ec_check_declarations.specs.Mains.{is_other_result, is_static}

-- ---- names of functions

abbrev pub function_link : Setting → Option StorageWord → List ℕ → State → Linkage
function_link r word n s = linkage_of word true (earlier_link n r.unit s.declared)

abbrev pub function_name : Setting → List ℕ → Linkage → (defined : Bool) → FunctionDeclared → FileName
function_name r n linkage defined f =
    record {
      name = n;
      unit = r.unit;
      linkage = linkage;
      defines = defined;
      kind = a_function f.returns (length f.params) (param_types f.params);
    }

abbrev pub function_named : Setting → List ℕ → Linkage → FunctionDeclared → names.Named
function_named r n linkage f =
    names.a_function (number_of n r.unit linkage true r.definitions) f.returns (param_types f.params)

abbrev pub with_function_name : Setting → List ℕ → Linkage → (defined : Bool) → FunctionDeclared → State → State
with_function_name r n linkage defined f s =
    with_name n (function_named r n linkage f) (function_name r n linkage defined f) s

abbrev pub has_params : List ParamDeclared → Bool
has_params [] = false
has_params (p ∷ ps) = true

-- 18: a result other than int, a parameter, or `static`
abbrev pub is_other_main : Option StorageWord → FunctionDeclared → Bool
is_other_main word f = is_other_result f.returns || has_params f.params || is_static word

-- 6, 16 and 18 at the name
abbrev pub function_rules : FileName → List FileName → (initialised : Bool) → (other : Bool) → ℕ → List Judgement
function_rules d declared initialised other at =
    rule 6 (conflicts d declared) at ∷ rule 16 initialised at ∷ rule 18 (is_main d.name && other) at ∷ []

-- ---- declarators

abbrev pub after_function_declarator : Setting → Option StorageWord → List ℕ → FunctionDeclared → State → State
after_function_declarator r word n f s = with_function_name r n (function_link r word n s) false f s

abbrev pub named_function_sites : Setting → Option StorageWord → List ℕ → (defined : Bool) → FunctionDeclared
    → (initialised : Bool) → ℕ → State → List Site → List Site
named_function_sites r word n defined f initialised at s rest =
    on (function_rules (function_name r n (function_link r word n s) defined f) s.declared initialised
    (is_other_main word f) at) ∷ rest

-- the declarator of a function, which is no definition
abbrev pub after_function : Setting → Specified → Option Storage → t.InitDeclarator → t.Params → State → State
after_function r said storage (t.init_declarator (t.declarator stars (t.identifier at n) shape) start) ps s =
    after_function_declarator r (word_of storage) n (function_declared s.tags (length s.structs) said stars ps) s

-- 16 at `extern`; 6, 16 and 18 at the name
abbrev pub declared_function_sites : Setting → Option Storage → t.InitDeclarator → State → FunctionDeclared → List Site
    → List Site
declared_function_sites r storage (t.init_declarator (t.declarator stars (t.identifier at n) shape) start) s f rest =
    on (extern_rules (is_started start) storage)
    ∷ named_function_sites r (word_of storage) n false f (is_started start) at.index s rest

-- the rules of the result and of the parameters; 16 at `extern`; 6, 16 and 18 at the name
abbrev pub file_function_sites : Setting → Specified → Option Storage → t.InitDeclarator → t.Params → State → List Site
    → List Site
file_function_sites r said storage (t.init_declarator (t.declarator stars (t.identifier at n) shape) start) ps s rest =
    function_sites s.tags false said stars at.index ps
    (declared_function_sites r storage (t.init_declarator (t.declarator stars (t.identifier at n) shape) start) s
    (function_declared s.tags (length s.structs) said stars ps) rest)
