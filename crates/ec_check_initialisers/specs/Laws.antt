-- The laws of sizes and of the values of leaves.
use Rattle.std.specs.Prelude.{ℕ, ◌≡◌, ◌≤◌, Bool, true, false, ⊤, IsTrue, IsSomeAnd, IfSome, ℤ, pos}
use Rattle.std.specs.Prelude.{Option, Some, Ok, List, map, length}
use Rattle.std.specs.List.{AllZip}
use Rattle.ec_grammar.specs.Trees as t
use Rattle.ec_space.specs.declared.space.SpaceId.{SpaceId}
use Rattle.ec_space.specs.Spaces.{encloses}
use Rattle.ec_core.specs.declared.programs.LeafInit.{LeafInit}
use Rattle.ec_core.specs.declared.programs.LeafInit.TheVariants.{Number, Null, Address}
use Rattle.ec_core.specs.declared.values.Value.TheVariants as values
use Rattle.ec_core.specs.ArithmeticTypes.{arithmetic_of}
use Rattle.ec_core.specs.ArithmeticValues.{HoldsNumber}
use Rattle.ec_core.specs.Layout.{size_of_type, leaves_of_type, IsObjectType, AreStructs}
use Rattle.ec_core.specs.Plain.{PlainType, pointer, PlainStruct, PlainExpr}
use Rattle.ec_core.specs.Expressions.{Calls, value_of}
use Rattle.ec_core.specs.State.{Setting, State, got, worked}
use Rattle.ec_core.specs.Typing.{type_of_expr}
use Rattle.ec_check_names.specs.Names.{an_object}
use Rattle.ec_check_names.specs.Tables.{at_name}
use Rattle.ec_check_constants.specs.Constants.{IsConstant, constant}
use Rattle.ec_check_operands.specs.Operands.{Operand, value, value_type}
use Rattle.ec_check_forms.specs.Constraints.{IsPointer}
use Rattle.ec_check_expressions.specs.Expressions as e
use Rattle.ec_check_expressions.specs.Expressions.{of_conditional}
use Rattle.ec_check_expressions.specs.Known.{Known}
use Rattle.ec_check_initialisers.specs.Forms.{is_constant_expression, is_constant_assignment, is_constant_conditional}
use Rattle.ec_check_initialisers.specs.Forms.{is_constant_binary, is_constant_cast, is_constant_unary, is_constant_postfix}
use Rattle.ec_check_initialisers.specs.Forms.{is_constant_primary}
use Rattle.ec_check_initialisers.specs.Items.{zero_leaves}
use Rattle.ec_check_initialisers.specs.Locals.{leaf_values}
use Rattle.ec_check_initialisers.specs.Sizes.{array_size}
use Rattle.ec_check_initialisers.specs.Places.{form_of}
use Rattle.ec_check_initialisers.specs.Statics.{item_value, item_leaf, static_leaves}

-- ---- the form of constant expressions

abbrev pub IsNoPointer : Option Operand → Type 0
IsNoPointer o = IfSome o (λ x. ¬ IsPointer (value_type x))

-- what has the form of a constant expression is no pointer, whatever part of an expression it is
pub record AreNoPointers (k : Known) : Type 0 where
  pub expressions : (x : t.Expression) → is_constant_expression k x ≡ true → IsNoPointer (e.of_expression k x)
  pub assignments : (x : t.Assignment) → is_constant_assignment k x ≡ true → IsNoPointer (e.of_assignment k x)
  pub conditionals : (x : t.Conditional) → is_constant_conditional k x ≡ true → IsNoPointer (e.of_conditional k x)
  pub binaries : (x : t.Binary) → is_constant_binary k x ≡ true → IsNoPointer (e.of_binary k x)
  pub casts : (x : t.Cast) → is_constant_cast k x ≡ true → IsNoPointer (e.of_cast k x)
  pub unaries : (x : t.Unary) → is_constant_unary k x ≡ true → IsNoPointer (e.of_unary k x)
  pub postfixes : (x : t.Postfix) → is_constant_postfix k x ≡ true → IsNoPointer (e.of_postfix k x)
  pub primaries : (x : t.Primary) → is_constant_primary k x ≡ true → IsNoPointer (e.of_primary k x)

abbrev pub ConstantsAreNoPointers : Type 0
ConstantsAreNoPointers = (k : Known) → AreNoPointers k

-- ---- sizes

-- the size is the value of a constant expression, which is what a run of it gives
pub record IsSize (k : Known) (c : t.Conditional) (n : ℕ) : Type 0 where
  pub expression : PlainExpr
  pub null : Bool
  pub meant : of_conditional k c ≡ Some (value expression null)
  pub valid : IsConstant expression
  pub number : constant expression ≡ Ok (pos n)
  pub some : 1 ≤ n
  pub most : n ≤ 32_767

abbrev pub SizesAreValues : Type 0
SizesAreValues = (k : Known) (c : t.Conditional) (n : ℕ) → array_size k c ≡ Some n → IsSize k c n

-- ---- initial values that are numbers

-- the number of an item is the value of its expression, brought to the leaf's type: a constant expression, of which a
-- run gives this number and only takes up work
pub record IsStaticNumber (k : Known) (ty : Option PlainType) (a : t.Assignment) (n : ℤ) : Type 0 where
  pub expression : PlainExpr
  pub meant : item_value k ty a ≡ Some expression
  pub valid : IsConstant expression
  pub number : constant expression ≡ Ok n
  pub runs : (w : Setting) (calls : Calls) (s : State)
      → (words : ℕ) × (value_of w calls expression s ≡ got (values.Number n) (worked words s))

abbrev pub StaticNumbersAreValues : Type 0
StaticNumbersAreValues =
    (k : Known) (ty : Option PlainType) (a : t.Assignment) (n : ℤ)
    → item_leaf k (form_of k a) ty a ≡ Some (Number n) → IsStaticNumber k ty a n

-- ---- the types of leaves

abbrev pub leaf_types : List PlainStruct → PlainType → List PlainType
leaf_types structs ty = map (λ leaf. leaf.ty) (leaves_of_type structs ty)

-- a local has as many values as its type has leaves, each of its leaf's type
abbrev pub ValuesHaveLeafTypes : Type 0
ValuesHaveLeafTypes =
    (k : Known) (i : t.Initialiser) (ty : PlainType) (es : List PlainExpr) → AreStructs k.structs
    → IsObjectType (length k.structs) ty → leaf_values k i (Some ty) ≡ Some es
    → map type_of_expr es ≡ leaf_types k.structs ty

-- an address that a pointer into a space can hold: of an object at file scope that stands in no register, whose space
-- the pointer's encloses, with an offset from 0 to the object's size
pub record IsStaticAddress (k : Known) (space : SpaceId) (object offset : ℕ) : Type 0 where
  pub name : List ℕ
  pub ty : PlainType
  pub konst : Bool
  pub home : SpaceId
  pub named : at_name name k.names.outside ≡ Some (an_object (Some object) (Some ty) konst home false)
  pub enclosed : IsTrue (encloses space home)
  pub inside : offset ≤ size_of_type k.structs ty

-- a number that an arithmetic type holds, or null or an address for a pointer
abbrev pub IsInitialLeaf : Known → PlainType → LeafInit → Type 0
IsInitialLeaf k ty (Number n) = IsSomeAnd (arithmetic_of ty) (λ t. HoldsNumber t n)
IsInitialLeaf k (pointer space const to) Null = ⊤
IsInitialLeaf k (pointer space const to) (Address object offset) = IsStaticAddress k space object offset
IsInitialLeaf k ty init = ⊥

abbrev pub AreInitialLeaves : Known → PlainType → List LeafInit → Type 0
AreInitialLeaves k ty inits = AllZip (IsInitialLeaf k) (leaf_types k.structs ty) inits

-- a static object has as many initial values as its type has leaves, each of its leaf's type
pub record InitialValuesSuit : Type 0 where
  pub given : (k : Known) (i : t.Initialiser) (ty : PlainType) (inits : List LeafInit) → AreStructs k.structs
      → IsObjectType (length k.structs) ty → static_leaves k i (Some ty) ≡ Some inits → AreInitialLeaves k ty inits
  pub zero : (k : Known) (ty : PlainType) → AreStructs k.structs → IsObjectType (length k.structs) ty
      → AreInitialLeaves k ty (zero_leaves k.structs ty)
