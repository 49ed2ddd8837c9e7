-- Where no rule is broken and the operands have types, a form has a meaning.
use Rattle.std.specs.Prelude.{ℕ, ◌≡◌, Bool, true, ⊤, List, Option, Some, IsSome}
use Rattle.ec_check_operands.specs.declared.faults.Fault.{Fault}
use Rattle.ec_check_operands.specs.Laws.{IsTold}
use Rattle.ec_core.specs.declared.expressions.BinOp.{BinOp}
use Rattle.ec_core.specs.Plain.{PlainType, PlainStruct}
use Rattle.ec_core.specs.Typing.{type_of_expr}
use Rattle.ec_check_operands.specs.declared.operands.Modes.{Modes}
use Rattle.ec_check_forms.specs.declared.prefixes.PrefixOp.{PrefixOp}
use Rattle.ec_check_forms.specs.Constraints.{IsInteger, IsStruct}
use Rattle.ec_check_forms.specs.Nodes.{condition, prefixed, stepped, assigned, compounded}
use Rattle.ec_check_forms.specs.Accesses.{indexed, member_of}
use Rattle.ec_check_forms.specs.Choices.{logical, chosen, cast}
use Rattle.ec_check_operands.specs.Operands.{Operand, place, value, value_type, is_null, with_one, with_both}
use Rattle.ec_check_operands.specs.Operators.{operated}
use Rattle.ec_check_operands.specs.Passing.{passed}
use Rattle.ec_check_forms.specs.Sites.{Site, a_condition, an_operation, a_logical, a_prefix, a_step, an_index}
use Rattle.ec_check_forms.specs.Sites.{an_assignment}
use Rattle.ec_check_forms.specs.Sites.{a_compound, a_passing, a_choice, a_cast, a_member, rules_at}

-- no rule is broken there
abbrev pub IsKept : Site → Type 0
IsKept s = (f : Fault) → ¬ IsTold (rules_at s) f

-- the null constant is an integer
abbrev pub HasNullType : Operand → Type 0
HasNullType x = is_null x ≡ true → IsInteger (value_type x)

-- each form of two operands, where the token is any
pub record FormsHaveMeanings (m : Modes) (x y : Operand) (at : ℕ) : Type 0 where
  pub conditions : IsKept (a_condition (Some x) at) → IsSome (condition m (Some x))
  pub passed : (to : PlainType) → IsKept (a_passing (Some x) (Some to) at) → IsSome (passed m (Some to) (Some x))
  pub operations : (op : BinOp) → IsKept (an_operation op (Some x) (Some y) at)
      → IsSome (operated m op (Some x) (Some y))
  pub prefixes : (op : PrefixOp) → IsKept (a_prefix op (Some x) at) → IsSome (prefixed m op x)
  pub steps : (up prefix : Bool) → IsKept (a_step (Some x) at) → IsSome (stepped m up prefix x)
  pub assignments : IsKept (an_assignment (Some x) (Some y) at) → IsSome (assigned m x y)
  pub compounds : (op : BinOp) → IsKept (a_compound op (Some x) (Some y) at) → IsSome (compounded m op x y)
  pub subscripts : IsKept (an_index (Some x) (Some y) at) → IsSome (indexed m x y)
  pub logicals : (both : Bool) → IsKept (a_logical (Some x) (Some y) at)
      → IsSome (logical m both (condition m (Some x)) (condition m (Some y)))
  pub choices : (c : Operand) → IsKept (a_choice (Some c) (Some x) (Some y) at)
      → IsSome (with_one (condition m (Some c)) (λ e. chosen m e x y))
  pub casts : (to : PlainType) → IsKept (a_cast (Some to) (Some x) at) → IsSome (cast m to x)

abbrev pub KeptFormsHaveMeanings : Type 0
KeptFormsHaveMeanings =
    (m : Modes) (x y : Operand) (at : ℕ) → HasNullType x → HasNullType y → FormsHaveMeanings m x y at

-- a struct is no value, but for what is read of a place
abbrev pub IsNoStructValue : Operand → Type 0
IsNoStructValue (place ty const space register q) = ⊤
IsNoStructValue (value e zero) = ¬ IsStruct (type_of_expr e)

-- members, where the tokens are any
abbrev pub KeptMembersHaveMeanings : Type 0
KeptMembersHaveMeanings =
    (m : Modes) (structs : List PlainStruct) (name : List ℕ) (arrow : Bool) (x : Operand) (at name_at : ℕ)
    → IsNoStructValue x → IsKept (a_member structs name arrow (Some x) at name_at)
    → IsSome (member_of m structs name arrow x)
