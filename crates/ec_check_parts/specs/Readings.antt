-- A reading of declarations: of each declarator, definition of a struct and name at file scope what the words for it say. So where the
-- parts of units stand, and what is known there, rests on these words alone, and there is one reading.
use Rattle.std.specs.Prelude.{ℕ, ◌+◌, ◌≤◌, ◌≡◌, ◌↔◌, Bool, true, Option, Some, List, [], ◌∷◌, length}
use Rattle.ec_grammar.specs.declared.Spot.{Spot}
use Rattle.ec_grammar.specs.Trees as t
use Rattle.ec_core.specs.Layout.{size_of_type}
use Rattle.ec_core.specs.Plain.{PlainType, PlainStruct}
use Rattle.ec_check_forms.specs.Constraints.{IsArithmetic}
use Rattle.ec_check_names.specs.declared.linkage.Linkage.{Linkage}
use Rattle.ec_check_names.specs.declared.linkage.Linkage.TheVariants.{Internal}
use Rattle.ec_check_names.specs.declared.numbering.Defined.TheVariants.{Function}
use Rattle.ec_check_names.specs.declared.specifiers.StorageWord.{StorageWord}
use Rattle.ec_check_names.specs.Definitions.{Definition, number_of}
use Rattle.ec_check_names.specs.Linkage.{linkage_of}
use Rattle.ec_check_names.specs.Specifiers.{specified}
use Rattle.ec_check_names.specs.Tags.{Tags}
use Rattle.ec_check_expressions.specs.Known.{Known}
use Rattle.ec_check_declarations.specs.Declarators.{ObjectDeclared, object_declared}
use Rattle.ec_check_declarations.specs.Functions.{FunctionDeclared, function_declared}
use Rattle.ec_check_declarations.specs.Params.{ParamDeclared, name_in}
use Rattle.ec_check_declarations.specs.Registers.{RegisterDeclared, register_declared}
use Rattle.ec_check_declarations.specs.Structures.{struct_defined}
use Rattle.ec_check_file_scope.specs.FileNames.{FileName, earlier_link}
use Rattle.ec_check_parts.specs.Declared.{IsObject, DeclareObject, IsConst, IsInSpace, DeclareParam, DeclareResult, NamesRegister}
use Rattle.ec_check_parts.specs.Functions.{params_in}
use Rattle.ec_check_parts.specs.Linkages.{HasLinkage}
use Rattle.ec_check_parts.specs.Structures.{DeclareStruct}
use Rattle.ec_check_parts.specs.Types.{MeanType}

-- it is what a word is true of, or is not there where the word is true of nothing
abbrev pub IsTheOne : {X : Type 0} → (X → Type 0) → Option X → Type 0
IsTheOne {X} Is o = (x : X) → o ≡ Some x ↔ Is x

-- ---- names at file scope

-- a definition is that of a name of a unit with this linkage, of a function or of an object: an internal name is the unit's own (6.2.2)
pub record Defines (n : List ℕ) (unit : ℕ) (linkage : Linkage) (function : Bool) (d : Definition) : Type 0 where
  pub named : d.name ≡ n
  pub linked : d.linkage ≡ linkage
  pub kind : function ≡ true ↔ (d.kind ≡ Function)
  pub own : linkage ≡ Internal → d.unit ≡ unit

-- the first such of some definitions has this number
pub data HasNumber (n : List ℕ) (unit : ℕ) (linkage : Linkage) (function : Bool) : List Definition → ℕ → Type 0 where
  at_first : {d : Definition} {ds : List Definition} → Defines n unit linkage function d
      → HasNumber n unit linkage function (d ∷ ds) d.number
  behind : {d : Definition} {ds : List Definition} {number : ℕ} → ¬ Defines n unit linkage function d
      → HasNumber n unit linkage function ds number → HasNumber n unit linkage function (d ∷ ds) number

-- ---- parameters and named registers

-- what a parameter declares
pub record SaysParam (tags : Tags) (structs : ℕ) (ss : t.Specs) (stars : List t.Star) (name : Option t.Identifier) (p : ParamDeclared)
    : Type 0 where
  pub named : p.name ≡ name_in name
  pub typed : IsTheOne (DeclareParam tags structs ss stars) p.ty
  pub const : IsConst ss stars p.konst

pub data SayParams (tags : Tags) (structs : ℕ) : List t.Param → List ParamDeclared → Type 0 where
  no_param : SayParams tags structs [] []
  more_params : {ss : t.Specs} {stars : List t.Star} {name : Option t.Identifier} {ps : List t.Param} {d : ParamDeclared}
      {ds : List ParamDeclared} → SaysParam tags structs ss stars name d → SayParams tags structs ps ds
      → SayParams tags structs (t.param (t.type_name ss stars) name ∷ ps) (d ∷ ds)

-- the type of an object in named registers, which ends in R7 or before it
pub record TypeRegister (k : Known) (register : List ℕ) (ss : t.Specs) (ty : PlainType) : Type 0 where
  pub meant : MeanType k.tags ss [] ty
  pub number : IsArithmetic ty
  pub object : IsObject (length k.structs) ty
  pub inside : (first : ℕ) → NamesRegister register first → first + size_of_type k.structs ty ≤ 8

-- ---- a reading

pub record Reading : Type 0 where
  pub object : Known → t.Specs → t.Declarator → Option t.Start → ObjectDeclared
  pub function : Tags → (structs : ℕ) → t.Specs → List t.Star → t.Params → FunctionDeclared
  pub register : Known → t.RegisterObject → RegisterDeclared
  pub structure : Known → t.Structure → Option PlainStruct
  pub linkage : List ℕ → (unit : ℕ) → List FileName → Option StorageWord → (function : Bool) → Linkage
  pub number : List ℕ → (unit : ℕ) → Linkage → (function : Bool) → List Definition → Option ℕ

-- an object in a reading is what its declarator declares
pub record SaysObject (k : Known) (ss : t.Specs) (stars : List t.Star) (shape : t.Shape) (start : Option t.Start) (x : ObjectDeclared)
    : Type 0 where
  pub typed : IsTheOne (DeclareObject k ss stars shape start) x.ty
  pub const : IsConst ss stars x.konst
  pub space : IsInSpace ss stars x.space

pub record SaysFunction (tags : Tags) (structs : ℕ) (ss : t.Specs) (stars : List t.Star) (ps : t.Params) (f : FunctionDeclared)
    : Type 0 where
  pub result : IsTheOne (DeclareResult tags structs ss stars) f.returns
  pub params : SayParams tags structs (params_in ps) f.params

pub record SaysRegister (k : Known) (register : List ℕ) (ss : t.Specs) (x : RegisterDeclared) : Type 0 where
  pub first : IsTheOne (NamesRegister register) x.first
  pub typed : IsTheOne (TypeRegister k register ss) x.ty
  pub const : IsConst ss [] x.konst

-- all in it is as the words say
pub record Reads (q : Reading) : Type 0 where
  pub objects : (k : Known) (ss : t.Specs) (stars : List t.Star) (name : t.Identifier) (shape : t.Shape) (start : Option t.Start)
      → SaysObject k ss stars shape start (q.object k ss (t.declarator stars name shape) start)
  pub functions : (tags : Tags) (structs : ℕ) (ss : t.Specs) (stars : List t.Star) (ps : t.Params)
      → SaysFunction tags structs ss stars ps (q.function tags structs ss stars ps)
  pub registers : (k : Known) (w at : Spot) (register : List ℕ) (ss : t.Specs) (name : t.Identifier) (e : Spot)
      → SaysRegister k register ss (q.register k (t.register_object w (t.identifier at register) ss name e))
  pub structures : (k : Known) (d : t.Structure) → IsTheOne (DeclareStruct k d) (q.structure k d)
  pub linkages : (n : List ℕ) (unit : ℕ) (before : List FileName) (word : Option StorageWord) (function : Bool)
      → HasLinkage n unit before word function (q.linkage n unit before word function)
  pub numbers : (n : List ℕ) (unit : ℕ) (linkage : Linkage) (function : Bool) (ds : List Definition)
      → IsTheOne (HasNumber n unit linkage function ds) (q.number n unit linkage function ds)

-- ---- the one that there is

-- what the walk finds
abbrev pub walked : Reading
walked =
    record {
      object = λ k ss d start. object_declared k (specified k.tags ss) d start;
      function = λ tags structs ss stars ps. function_declared tags structs (specified tags ss) stars ps;
      register = λ k d. register_declared k d;
      structure = λ k d. struct_defined k d;
      linkage = λ n unit before word function. linkage_of word function (earlier_link n unit before);
      number = λ n unit linkage function ds. number_of n unit linkage function ds;
    }

abbrev pub OneReads : Type 0
OneReads = (q : Reading) → Reads q ↔ (q ≡ walked)
