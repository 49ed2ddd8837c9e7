-- The parts of arrays and structs, and what an initialiser leaves out (ISO/IEC 9899:1999, 6.7.8).
use Rattle.std.specs.Prelude.{ℕ, Bool, false, not, ◌||◌, if◌then◌else◌, nat_lt, Option, Some, None}
use Rattle.std.specs.Prelude.{List, [], ◌∷◌, length, slice_get}
use Rattle.ec_check_operands.specs.Faults.{Judgement, rule}
use Rattle.ec_core.specs.Plain.{PlainType, void, integer, fixed, pointer, array, struct, PlainStruct}
use Rattle.ec_core.specs.Typing.{type_of_member}
use Rattle.ec_check_operands.specs.Operands.{with_one}
use Rattle.ec_check_operands.specs.Sorts.{is_aggregate}
use Rattle.std.specs.Prelude.{true, pos}
use Rattle.std.specs.Prelude.{option_map, ◌++◌, map, drop}
use Rattle.ec_core.specs.Layout.{leaves_of_type}
use Rattle.ec_core.specs.Plain.{PlainExpr, PlainNode, null, number}
use Rattle.ec_check_operands.specs.declared.operands.Modes.{Modes}
use Rattle.ec_check_operands.specs.Operands.{Operand, made}
use Rattle.ec_check_operands.specs.Passing.{passed}
use Rattle.ec_check_operands.specs.Sorts.{is_pointer}

-- the type of a part: of an element by its index, of a member by its number
abbrev pub part_type : List PlainStruct → PlainType → ℕ → Option PlainType
part_type structs void i = None
part_type structs (integer signed bytes) i = None
part_type structs (fixed kind saturates) i = None
part_type structs (pointer space const to) i = None
part_type structs (array of len) i = if nat_lt i len then Some of else None
part_type structs (struct index) i = type_of_member structs (struct index) i

abbrev pub part_of : List PlainStruct → Option PlainType → ℕ → Option PlainType
part_of structs ty i = with_one ty (λ ty. part_type structs ty i)

abbrev pub member_count : Option PlainStruct → ℕ
member_count None = 0
member_count (Some s) = length s.members

-- how many parts a type has
abbrev pub part_count : List PlainStruct → PlainType → ℕ
part_count structs void = 0
part_count structs (integer signed bytes) = 0
part_count structs (fixed kind saturates) = 0
part_count structs (pointer space const to) = 0
part_count structs (array of len) = len
part_count structs (struct index) = member_count (slice_get structs index)

-- the type of an object without parts, which takes one value
abbrev pub scalar_of : Option PlainType → Option PlainType
scalar_of None = None
scalar_of (Some ty) = if is_aggregate ty then None else Some ty

-- ---- rules

-- 14: no braces for an array or a struct
abbrev pub is_bare : Option PlainType → Bool
is_bare None = false
is_bare (Some ty) = is_aggregate ty

abbrev pub bare_rules : Option PlainType → (at : ℕ) → List Judgement
bare_rules ty at = rule 14 (is_bare ty) at ∷ []

-- 14: braces for a scalar, or more items than parts
abbrev pub has_no_place : List PlainStruct → Option PlainType → (count : ℕ) → Bool
has_no_place structs None count = false
has_no_place structs (Some ty) count = not (is_aggregate ty) || nat_lt (part_count structs ty) count

abbrev pub braces_rules : List PlainStruct → Option PlainType → (count at : ℕ) → List Judgement
braces_rules structs ty count at = rule 14 (has_no_place structs ty count) at ∷ []

-- ---- values of leaves

-- the zero of a scalar type: a number, or the null pointer
abbrev pub zero_node : Bool → PlainNode
zero_node true = null
zero_node false = number (pos 0)

abbrev pub zero_of : Modes → PlainType → PlainExpr
zero_of m ty = made m ty (zero_node (is_pointer ty))

-- the values of all leaves of a type, the first of which are given; the others are zero
abbrev pub filled_by : {A : Type 0} → (PlainType → A) → List PlainStruct → PlainType → List A → List A
filled_by zero structs ty es = es ++ map (λ leaf. zero leaf.ty) (drop (length es) (leaves_of_type structs ty))

abbrev pub whole_by : {A : Type 0} → (PlainType → A) → List PlainStruct → Option PlainType → Option (List A)
    → Option (List A)
whole_by zero structs None es = None
whole_by zero structs (Some ty) None = None
whole_by zero structs (Some ty) (Some es) = if is_aggregate ty then Some (filled_by zero structs ty es) else None

abbrev pub filled : Modes → List PlainStruct → PlainType → List PlainExpr → List PlainExpr
filled m structs ty es = filled_by (zero_of m) structs ty es

abbrev pub whole_values : Modes → List PlainStruct → Option PlainType → Option (List PlainExpr)
    → Option (List PlainExpr)
whole_values m structs ty es = whole_by (zero_of m) structs ty es

-- one value behind another
abbrev pub joined : {A : Type 0} → Option (List A) → Option (List A) → Option (List A)
joined None fs = None
joined (Some es) None = None
joined (Some es) (Some fs) = Some (es ++ fs)

-- the value of an object without parts, brought to its type
abbrev pub one_value : Option PlainExpr → Option (List PlainExpr)
one_value e = option_map (λ e. e ∷ []) e

abbrev pub scalar_value : Modes → Option PlainType → Option Operand → Option (List PlainExpr)
scalar_value m ty x = one_value (passed m (scalar_of ty) x)
