-- What subscripts and members mean, and the rules that they break (ISO/IEC 9899:1999, 6.5.2.1 and 6.5.2.3).
use Rattle.std.specs.Prelude.{ℕ, Bool, true, false, not, ◌||◌, if◌then◌else◌, is_none, Option}
use Rattle.std.specs.Prelude.{Some, None, List, [], ◌∷◌, position, slice_get, length, ◌≡◌, ◌≤◌}
use Rattle.std.specs.Str.{bytes_eq}
use Rattle.ec_check_operands.specs.Faults.{Judgement, rule}
use Rattle.ec_core.specs.declared.expressions.BinOp.TheVariants.{Add}
use Rattle.ec_core.specs.Plain.{PlainType, pointer, struct, PlainStruct}
use Rattle.ec_core.specs.Plain.{binary}
use Rattle.ec_core.specs.Plain.{member}
use Rattle.ec_core.specs.Typing.{type_of_expr, pointee, type_of_member}
use Rattle.ec_check_operands.specs.declared.operands.Modes.{Modes}
use Rattle.ec_check_operands.specs.Operands.{Operand, place, value, made, value_type, as_value}
use Rattle.ec_check_operands.specs.Operands.{with_one}
use Rattle.ec_check_operands.specs.Sorts.{is_integer, is_pointer}
use Rattle.ec_core.specs.declared.expressions.UnOp.TheVariants as unary_operators
use Rattle.ec_check_forms.specs.Nodes.{pointed}

-- ---- subscripts

-- 34: the pointer stands on the left
abbrev pub no_pointer : Option Operand → Bool
no_pointer None = false
no_pointer (Some x) = not (is_pointer (value_type x))

abbrev pub no_integer : Option Operand → Bool
no_integer None = false
no_integer (Some x) = not (is_integer (value_type x))

abbrev pub index_rules : Option Operand → Option Operand → ℕ → List Judgement
index_rules x y at = rule 34 (no_pointer x || no_integer y) at ∷ []

abbrev pub indexed : Modes → Operand → Operand → Option Operand
indexed m a i =
    if is_integer (value_type i)
    then pointed (made m (type_of_expr (as_value m a)) (binary Add (as_value m a) (as_value m i))) else None

-- ---- members

abbrev pub struct_of : PlainType → Option ℕ
struct_of (struct index) = Some index
struct_of ty = None

-- the struct that `->` or `.` takes a member of
abbrev pub base_of : (arrow : Bool) → PlainType → Option ℕ
base_of true ty = with_one (pointee ty) struct_of
base_of false ty = struct_of ty

-- the number of the member with a name
abbrev pub member_number : List PlainStruct → List ℕ → ℕ → Option ℕ
member_number structs name index =
    with_one (slice_get structs index) (λ s. position (λ m. bytes_eq m.name name) s.members)

-- 34
abbrev pub no_base : (arrow : Bool) → Option Operand → Bool
no_base arrow None = false
no_base arrow (Some x) = is_none (base_of arrow (value_type x))

-- 35
abbrev pub not_among : List PlainStruct → List ℕ → Option ℕ → Bool
not_among structs name None = false
not_among structs name (Some index) = is_none (member_number structs name index)

abbrev pub no_member : List PlainStruct → List ℕ → (arrow : Bool) → Option Operand → Bool
no_member structs name arrow None = false
no_member structs name arrow (Some x) = not_among structs name (base_of arrow (value_type x))

abbrev pub member_rules : List PlainStruct → List ℕ → (arrow : Bool) → Option Operand → ℕ → ℕ → List Judgement
member_rules structs name arrow x at name_at =
    rule 34 (no_base arrow x) at ∷ rule 35 (no_member structs name arrow x) name_at ∷ []

-- the members of each struct can be numbered in 16 bits
abbrev pub AreCounted : List PlainStruct → Type 0
AreCounted structs = (i : ℕ) (s : PlainStruct) → slice_get structs i ≡ Some s → length s.members ≤ 65_536

abbrev pub reached : Modes → (arrow : Bool) → Operand → Option Operand
reached m true x = pointed (as_value m x)
reached m false x = Some x

abbrev pub part_of : PlainType → ℕ → Operand → Option Operand
part_of part k (place ty konst space register q) = Some (place part konst space register (member q k))
part_of part k (value e zero) = None

abbrev pub member_of : Modes → List PlainStruct → List ℕ → (arrow : Bool) → Operand → Option Operand
member_of m structs name arrow x =
    with_one (base_of arrow (value_type x)) (λ index.
    with_one (member_number structs name index) (λ k.
    with_one (type_of_member structs (struct index) k) (λ part.
    with_one (reached m arrow x) (part_of part k))))
