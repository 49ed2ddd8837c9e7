-- What declarators declare, the forms of constants, address constants and initial values are what the walk finds.
use Rattle.std.specs.Prelude.{ℕ, ◌≡◌, ◌↔◌, true, Option, Some, List, []}
use Rattle.ec_grammar.specs.declared.Spot.{Spot}
use Rattle.ec_grammar.specs.Trees as t
use Rattle.ec_core.specs.declared.programs.LeafInit.{LeafInit}
use Rattle.ec_core.specs.Plain.{PlainType, PlainStruct, PlainExpr}
use Rattle.ec_check_names.specs.Specifiers.{specified, names_type}
use Rattle.ec_check_names.specs.Stars.{declared_by}
use Rattle.ec_check_names.specs.Tags.{Tags}
use Rattle.ec_check_expressions.specs.Known.{Known}
use Rattle.ec_check_initialisers.specs.Forms.{is_constant_expression, is_constant_assignment, is_constant_conditional}
use Rattle.ec_check_initialisers.specs.Places.{StaticPlace, in_assignment, address_constant, form_of}
use Rattle.ec_check_initialisers.specs.Statics.{item_value, item_leaf}
use Rattle.ec_check_declarations.specs.Declarators.{head_of, object_declared}
use Rattle.ec_check_declarations.specs.Functions.{function_declared}
use Rattle.ec_check_declarations.specs.Params.{param_declared}
use Rattle.ec_check_declarations.specs.Registers.{register_declared}
use Rattle.ec_check_declarations.specs.Structures.{struct_defined}
use Rattle.ec_check_meanings.specs.Terms.{term_of_expression, term_of_assignment, term_of_conditional}
use Rattle.ec_check_parts.specs.Addresses.{IsAddressConstant}
use Rattle.ec_check_parts.specs.ConstantForms.{IsConstantTerm}
use Rattle.ec_check_parts.specs.Declared.{DeclareObject, IsConst, IsInSpace, DeclareParam, DeclareResult, DeclareRegister}
use Rattle.ec_check_parts.specs.Items.{HasItemValue, IsInitialValue}
use Rattle.ec_check_parts.specs.Structures.{DeclareStruct}
use Rattle.ec_check_parts.specs.TypeWords.{NameType, Name}
use Rattle.ec_check_parts.specs.Types.{SayType}

-- ---- constants

-- what is looked into as a constant expression, of a size or of a static initialiser, is one
pub record ConstantsAreFound (k : Known) : Type 0 where
  pub expressions : (x : t.Expression) → is_constant_expression k x ≡ true ↔ IsConstantTerm k (term_of_expression x)
  pub assignments : (x : t.Assignment) → is_constant_assignment k x ≡ true ↔ IsConstantTerm k (term_of_assignment x)
  pub conditionals : (x : t.Conditional) → is_constant_conditional k x ≡ true ↔ IsConstantTerm k (term_of_conditional x)

abbrev pub ConstantsAreTold : Type 0
ConstantsAreTold = (k : Known) → ConstantsAreFound k

-- so are address constants, the values of items in their places, and the initial values that they give
pub record ItemsHaveValues : Type 0 where
  pub addresses : (k : Known) (a : t.Assignment) (s : StaticPlace)
      → address_constant (in_assignment k a) ≡ Some s ↔ IsAddressConstant k (term_of_assignment a) s
  pub values : (k : Known) (ty : Option PlainType) (a : t.Assignment) (e : PlainExpr)
      → item_value k ty a ≡ Some e ↔ HasItemValue k ty a e
  pub leaves : (k : Known) (ty : Option PlainType) (a : t.Assignment) (leaf : LeafInit)
      → item_leaf k (form_of k a) ty a ≡ Some leaf ↔ IsInitialValue k ty a leaf

-- ---- declarations

-- whether specifiers name a type and which, and the one that they say with stars
pub record TypesAreSaid : Type 0 where
  pub named : (tags : Tags) (ss : t.Specs) → names_type (specified tags ss).types ≡ true ↔ NameType ss
  pub names : (tags : Tags) (ss : t.Specs) (ty : PlainType) → (declared_by (specified tags ss)).ty ≡ Some ty ↔ Name tags ss ty
  pub said : (tags : Tags) (ss : t.Specs) (stars : List t.Star) (ty : PlainType)
      → (head_of (specified tags ss) stars).ty ≡ Some ty ↔ SayType tags ss stars ty

-- what declarators declare: objects, parameters and results of functions, and objects in named registers
pub record DeclaratorsAreSaid : Type 0 where
  pub objects : (k : Known) (ss : t.Specs) (stars : List t.Star) (name : t.Identifier) (shape : t.Shape) (start : Option t.Start)
      (ty : PlainType) → (object_declared k (specified k.tags ss) (t.declarator stars name shape) start).ty ≡ Some ty
      ↔ DeclareObject k ss stars shape start ty
  pub constness : (k : Known) (ss : t.Specs) (stars : List t.Star) (name : t.Identifier) (shape : t.Shape) (start : Option t.Start)
      → IsConst ss stars (object_declared k (specified k.tags ss) (t.declarator stars name shape) start).konst
  pub spaces : (k : Known) (ss : t.Specs) (stars : List t.Star) (name : t.Identifier) (shape : t.Shape) (start : Option t.Start)
      → IsInSpace ss stars (object_declared k (specified k.tags ss) (t.declarator stars name shape) start).space
  pub params : (tags : Tags) (n : ℕ) (ss : t.Specs) (stars : List t.Star) (name : Option t.Identifier) (ty : PlainType)
      → (param_declared tags n (t.param (t.type_name ss stars) name)).ty ≡ Some ty ↔ DeclareParam tags n ss stars ty
  pub constness_of_params : (tags : Tags) (n : ℕ) (ss : t.Specs) (stars : List t.Star) (name : Option t.Identifier)
      → IsConst ss stars (param_declared tags n (t.param (t.type_name ss stars) name)).konst
  pub results : (tags : Tags) (n : ℕ) (ss : t.Specs) (stars : List t.Star) (ps : t.Params) (ty : PlainType)
      → (function_declared tags n (specified tags ss) stars ps).returns ≡ Some ty ↔ DeclareResult tags n ss stars ty
  pub registers : (k : Known) (w at : Spot) (register : List ℕ) (ss : t.Specs) (name : t.Identifier) (e : Spot) (first : ℕ)
      (ty : PlainType)
      → (((register_declared k (t.register_object w (t.identifier at register) ss name e)).first ≡ Some first)
      × ((register_declared k (t.register_object w (t.identifier at register) ss name e)).ty ≡ Some ty))
      ↔ DeclareRegister k register ss first ty
  pub constness_of_registers : (k : Known) (w at : Spot) (register : List ℕ) (ss : t.Specs) (name : t.Identifier) (e : Spot)
      → IsConst ss [] (register_declared k (t.register_object w (t.identifier at register) ss name e)).konst

-- the struct of a definition
abbrev pub StructsAreDeclared : Type 0
StructsAreDeclared =
    (k : Known) (d : t.Structure) (s : PlainStruct) → struct_defined k d ≡ Some s ↔ DeclareStruct k d s
