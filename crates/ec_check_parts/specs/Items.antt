-- Items of initialisers, and initial values of static objects, in words (ISO/IEC 9899:1999, 6.6 and 6.7.8).
use Rattle.std.specs.Prelude.{◌≡◌, true, ℤ, Option, Some, Ok}
use Rattle.ec_grammar.specs.Trees as t
use Rattle.ec_core.specs.declared.programs.LeafInit.{LeafInit}
use Rattle.ec_core.specs.declared.programs.LeafInit.TheVariants.{Number, Null, Address}
use Rattle.ec_core.specs.Plain.{PlainType, PlainExpr}
use Rattle.ec_check_constants.specs.Constants.{constant}
use Rattle.ec_check_constants.specs.Tests.{is_constant}
use Rattle.ec_check_operands.specs.Operands.{Operand, is_null}
use Rattle.ec_check_forms.specs.Constraints.{IsPointer, IsAggregate}
use Rattle.ec_check_expressions.specs.Known.{Known}
use Rattle.ec_check_initialisers.specs.declared.places.StaticAddress.{StaticAddress}
use Rattle.ec_check_initialisers.specs.Places.{StaticPlace}
use Rattle.ec_check_meanings.specs.Conversions.{IsPassed}
use Rattle.ec_check_meanings.specs.Means.{Uses}
use Rattle.ec_check_meanings.specs.Terms.{term_of_assignment}
use Rattle.ec_check_parts.specs.Addresses.{IsAddressConstant}
use Rattle.ec_check_parts.specs.ConstantForms.{IsConstantTerm}

-- what an item means in its place, that of an object or a part of a type: its value, which is converted to the type as if by
-- assignment (6.7.8, 11)
pub record HasItemValue (k : Known) (ty : Option PlainType) (a : t.Assignment) (e : PlainExpr) : Type 0 where
  pub to : PlainType
  pub typed : ty ≡ Some to
  pub whole : ¬ IsAggregate to
  pub operand : Operand
  pub used : Uses k (term_of_assignment a) operand
  pub passed : IsPassed k.modes to operand e

abbrev pub BecomesNull : Operand → PlainType → Type 0
BecomesNull o to = (is_null o ≡ true) × IsPointer to

-- The initial value that an item gives: of a constant expression the null pointer or a number, which is its value where it has
-- one; of an address constant the address, where a unit defines the object (6.6, 7 and 9).
pub data IsInitialValue (k : Known) (ty : Option PlainType) (a : t.Assignment) : LeafInit → Type 0 where
  a_null : {e : PlainExpr} → IsConstantTerm k (term_of_assignment a) → (h : HasItemValue k ty a e) → BecomesNull h.operand h.to
      → IsInitialValue k ty a Null
  a_number : {e : PlainExpr} {n : ℤ} → IsConstantTerm k (term_of_assignment a) → (h : HasItemValue k ty a e)
      → ¬ BecomesNull h.operand h.to → is_constant e ≡ true → constant e ≡ Ok n → IsInitialValue k ty a (Number n)
  an_address : {e : PlainExpr} {s : StaticPlace} {p : StaticAddress} → ¬ IsConstantTerm k (term_of_assignment a)
      → IsAddressConstant k (term_of_assignment a) s → s.address ≡ Some p → HasItemValue k ty a e
      → IsInitialValue k ty a (Address p.object p.offset)
