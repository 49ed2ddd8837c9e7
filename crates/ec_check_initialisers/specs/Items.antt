-- What a leaf of a static object is initialised with: a constant, or an address constant (ISO/IEC 9899:1999, 6.6 and
-- 6.7.8).
use Rattle.std.specs.Prelude.{ℕ, Bool, true, false, ◌&&◌, ◌||◌, if◌then◌else◌, ℤ, pos, is_none, is_some, option_map}
use Rattle.std.specs.Prelude.{Option, Some, None, Result, Ok, Err, List, [], ◌∷◌, map}
use Rattle.ec_check_operands.specs.Faults.{Judgement, rule}
use Rattle.ec_core.specs.declared.programs.LeafInit.{LeafInit}
use Rattle.ec_core.specs.declared.programs.LeafInit.TheVariants.{Number, Null, Address}
use Rattle.ec_core.specs.declared.values.Undefined.{Undefined}
use Rattle.ec_core.specs.Layout.{leaves_of_type}
use Rattle.ec_core.specs.Plain.{PlainType, PlainStruct, PlainExpr}
use Rattle.ec_check_constants.specs.Constants.{constant}
use Rattle.ec_check_constants.specs.Tests.{is_constant}
use Rattle.ec_check_operands.specs.Operands.{Operand, is_null, with_one}
use Rattle.ec_check_operands.specs.Sorts.{is_pointer}
use Rattle.ec_check_initialisers.specs.declared.places.ItemForm.{ItemForm}
use Rattle.ec_check_initialisers.specs.declared.places.ItemForm.TheVariants as item
use Rattle.ec_check_initialisers.specs.declared.places.StaticAddress.{StaticAddress}

-- ---- leaves

abbrev pub leaf_of_result : Result ℤ Undefined → Option LeafInit
leaf_of_result (Ok n) = Some (Number n)
leaf_of_result (Err u) = None

-- the number of a constant expression, where its value is defined
abbrev pub number_leaf : PlainExpr → Option LeafInit
number_leaf e = if is_constant e then leaf_of_result (constant e) else None

abbrev pub constant_leaf : (null : Bool) → PlainExpr → Option LeafInit
constant_leaf null e = if null then Some Null else number_leaf e

abbrev pub address_leaf : Option StaticAddress → Option LeafInit
address_leaf a = option_map (λ a. Address a.object a.offset) a

-- the leaf that an item of a form gives, which was brought to the leaf's type, and is the null pointer or not
abbrev pub leaf_of : ItemForm → (null : Bool) → PlainExpr → Option LeafInit
leaf_of item.Constant null e = constant_leaf null e
leaf_of (item.Address a) null e = address_leaf a
leaf_of item.Other null e = None

-- the null pointer constant becomes the null pointer
abbrev pub becomes_null : Option PlainType → Option Operand → Bool
becomes_null None x = false
becomes_null (Some ty) None = false
becomes_null (Some ty) (Some x) = is_null x && is_pointer ty

-- zero, or the null pointer
abbrev pub zero_leaf : PlainType → LeafInit
zero_leaf ty = if is_pointer ty then Null else Number (pos 0)

-- the leaves of a static object without an initialiser
abbrev pub zero_leaves : List PlainStruct → PlainType → List LeafInit
zero_leaves structs ty = map (λ leaf. zero_leaf leaf.ty) (leaves_of_type structs ty)

-- ---- 15

abbrev pub is_other : ItemForm → Bool
is_other item.Constant = false
is_other (item.Address a) = false
is_other item.Other = true

-- a value of the leaf's type is no initial value
abbrev pub has_no_leaf : ItemForm → (null : Bool) → Option PlainExpr → Bool
has_no_leaf form null e = is_some e && is_none (with_one e (leaf_of form null))

abbrev pub leaf_rules : ItemForm → (null : Bool) → Option PlainExpr → (at : ℕ) → List Judgement
leaf_rules form null e at = rule 15 (is_other form || has_no_leaf form null e) at ∷ []
