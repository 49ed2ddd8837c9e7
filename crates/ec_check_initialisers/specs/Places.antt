-- Static places: objects with static storage and parts of them that are known before a run, and their addresses, the
-- address constants (ISO/IEC 9899:1999, 6.6).
use Rattle.std.specs.Prelude.{ℕ, ◌+◌, nat_lt, Bool, if◌then◌else◌, option_map, Option, Some, None, List}
use Rattle.ec_core.specs.Layout.{size_of_type}
use Rattle.ec_core.specs.Plain.{PlainType, plain_type, PlainStruct}
use Rattle.ec_check_initialisers.specs.declared.places.StaticAddress.{StaticAddress}
use Rattle.ec_check_initialisers.specs.declared.places.StaticPlace as static_place
use Rattle.std.specs.Prelude.{◌*◌, ◌&&◌, ℤ, pos, int_le, unsigned_abs, ⊤}
use Rattle.std.specs.Prelude.{IfSome, length, take, position, is_some, slice_get}
use Rattle.std.specs.Prelude.{Result, Ok, Err}
use Rattle.std.specs.Str.{bytes_eq}
use Rattle.ec_grammar.specs.declared.token.PunctKind.{PunctKind}
use Rattle.ec_grammar.specs.declared.token.PunctKind.TheVariants as p
use Rattle.ec_grammar.specs.Trees as t
use Rattle.ec_core.specs.declared.values.Undefined.{Undefined}
use Rattle.ec_core.specs.Layout.{members_layout, struct_layouts, IsObjectType}
use Rattle.ec_core.specs.Plain.{void, integer, fixed, pointer, array, struct}
use Rattle.ec_core.specs.Plain.{PlainExpr}
use Rattle.ec_core.specs.Typing.{type_of_expr}
use Rattle.ec_check_names.specs.Names.{Named, an_object, a_function, Names, found, is_declared_since}
use Rattle.ec_check_names.specs.Tables.{at_name}
use Rattle.ec_check_operands.specs.Operands.{Operand, place, value, with_one}
use Rattle.ec_check_operands.specs.Sorts.{is_integer}
use Rattle.ec_check_forms.specs.Nodes.{used}
use Rattle.ec_check_forms.specs.Accesses.{struct_of}
use Rattle.ec_check_constants.specs.Constants.{constant}
use Rattle.ec_check_initialisers.specs.Forms.{is_constant_expression, is_constant_assignment}
use Rattle.ec_check_constants.specs.Tests.{is_constant}
use Rattle.ec_check_expressions.specs.Expressions.{of_expression}
use Rattle.ec_check_expressions.specs.Known.{Known}
use Rattle.ec_check_expressions.specs.Tokens.{is_arrow}
use Rattle.ec_check_initialisers.specs.declared.places.Designated as designated
use Rattle.ec_check_initialisers.specs.declared.places.Designated.TheVariants as forms
use Rattle.ec_check_initialisers.specs.declared.places.ItemForm.{ItemForm}
use Rattle.ec_check_initialisers.specs.declared.places.ItemForm.TheVariants as item

-- a place in an object with static storage: its address, where it is known, the size of the object, and the type of
-- what stands there
pub record StaticPlace : Type 0 where
  pub address : Option StaticAddress
  pub size : ℕ
  pub ty : PlainType

abbrev pub plain_place : static_place.StaticPlace → StaticPlace
plain_place s = record { address = s.address; size = s.size; ty = plain_type s.ty.now }

-- the address so many bytes further in an object of a size, or at its end (6.5.6)
abbrev pub moved : (size : ℕ) → Option StaticAddress → (bytes : ℕ) → Option StaticAddress
moved size None bytes = None
moved size (Some a) bytes =
    if nat_lt size (a.offset + bytes) then None else Some (record { object = a.object; offset = a.offset + bytes })

abbrev pub start_of : Option ℕ → Option StaticAddress
start_of number = option_map (λ n. record { object = n; offset = 0 }) number

-- an object that stands in no register; its address is known where a unit defines it
abbrev pub object_in : List PlainStruct → (number : Option ℕ) → Option PlainType → (register : Bool)
    → Option StaticPlace
object_in structs number None register = None
object_in structs number (Some ty) register =
    if register then None else Some (record { address = start_of number; size = size_of_type structs ty; ty = ty })

-- ---- names

-- what a name at file scope stands for that no block hides
abbrev pub named_outside : List ℕ → Names → Option Named
named_outside n s = if is_declared_since 0 n s then None else found n s

abbrev pub object_named : List PlainStruct → Option Named → Option StaticPlace
object_named structs None = None
object_named structs (Some (an_object number ty konst space register)) = object_in structs number ty register
object_named structs (Some (a_function number returns params)) = None

-- ---- elements

-- a number as an index: no object has more than 32,767 bytes
abbrev pub index_of_number : ℤ → Option ℕ
index_of_number n = if int_le (pos 0) n && int_le n (pos 32_767) then Some (unsigned_abs n) else None

abbrev pub index_of_result : Result ℤ Undefined → Option ℕ
index_of_result (Ok n) = index_of_number n
index_of_result (Err u) = None

abbrev pub index_of_value : PlainExpr → Option ℕ
index_of_value e = if is_integer (type_of_expr e) && is_constant e then index_of_result (constant e) else None

abbrev pub index_of_operand : Operand → Option ℕ
index_of_operand (place ty konst space register q) = None
index_of_operand (value e zero) = index_of_value e

abbrev pub element_type : PlainType → Option PlainType
element_type void = None
element_type (integer signed bytes) = None
element_type (fixed kind saturates) = None
element_type (pointer space const to) = None
element_type (array of len) = Some of
element_type (struct index) = None

-- the address of the element with an index, which may stand at the end of the object
abbrev pub element_address : StaticPlace → Option ℕ → (bytes : ℕ) → Option StaticAddress
element_address s None bytes = None
element_address s (Some i) bytes = moved s.size s.address (i * bytes)

abbrev pub element_of : List PlainStruct → Option ℕ → StaticPlace → Option StaticPlace
element_of structs i s =
    option_map (λ of. record { address = element_address s i (size_of_type structs of); size = s.size; ty = of })
    (element_type s.ty)

-- ---- members

-- the number of the member with a name
abbrev pub number_in : (name : List ℕ) → PlainStruct → Option ℕ
number_in name def = position (λ m. bytes_eq m.name name) def.members

-- where the member with a number begins in a struct
abbrev pub member_offset : List PlainStruct → PlainStruct → ℕ → ℕ
member_offset structs def i = (members_layout (struct_layouts structs) (take i def.members)).size

abbrev pub member_at : List PlainStruct → StaticPlace → PlainStruct → ℕ → Option StaticPlace
member_at structs s def i =
    option_map (λ m.
    record { address = moved s.size s.address (member_offset structs def i); size = s.size; ty = m.ty })
    (slice_get def.members i)

abbrev pub member_in : List PlainStruct → StaticPlace → (name : List ℕ) → PlainStruct → Option StaticPlace
member_in structs s name def = with_one (number_in name def) (member_at structs s def)

abbrev pub member_of : List PlainStruct → (name : List ℕ) → StaticPlace → Option StaticPlace
member_of structs name s =
    with_one (struct_of s.ty) (λ index. with_one (slice_get structs index) (member_in structs s name))

-- ---- what an expression names

-- a static place, or the address of one
pub data Designated : Type 0 where
  place_at : StaticPlace → Designated
  address_at : StaticPlace → Designated

abbrev pub plain_designated : designated.Designated → Designated
plain_designated (forms.Place s) = place_at (plain_place s)
plain_designated (forms.Address s) = address_at (plain_place s)

abbrev pub place_in : Option Designated → Option StaticPlace
place_in None = None
place_in (Some (place_at s)) = Some s
place_in (Some (address_at s)) = None

-- `&` of what stands behind it
abbrev pub address_designated : PunctKind → Option Designated → Option Designated
address_designated p.Ampersand d = option_map address_at (place_in d)
address_designated op d = None

-- a member by `.`
abbrev pub part_designated : List PlainStruct → (arrow : Bool) → (name : List ℕ) → Option Designated → Option Designated
part_designated structs arrow name d =
    if arrow then None else option_map place_at (with_one (place_in d) (member_of structs name))

abbrev pub element_designated : List PlainStruct → Option ℕ → Option Designated → Option Designated
element_designated structs i d = option_map place_at (with_one (place_in d) (element_of structs i))

module _ (k : Known) where
  -- the value of a constant index
  abbrev pub index_value : t.Expression → Option ℕ
  index_value e = with_one (used (of_expression k e)) index_of_operand

  -- the element at an index that has the form of a constant
  abbrev pub indexed : Option Designated → t.Expression → Option Designated
  indexed d e = if is_constant_expression k e then element_designated k.structs (index_value e) d else None

  abbrev mutual
    -- what is built of the names of static objects, their elements and members, and `&` of these, in parentheses or not
    pub in_expression : t.Expression → Option Designated
    in_expression (t.single a) = in_assignment a
    in_expression (t.comma e s a) = None

    pub in_assignment : t.Assignment → Option Designated
    in_assignment (t.value c) = in_conditional c
    in_assignment (t.assign u s op a) = None

    pub in_conditional : t.Conditional → Option Designated
    in_conditional (t.plain b) = in_binary b
    in_conditional (t.choose b q e s c) = None

    pub in_binary : t.Binary → Option Designated
    in_binary (t.operand c) = in_cast c
    in_binary (t.join a s op b) = None

    pub in_cast : t.Cast → Option Designated
    in_cast (t.uncast u) = in_unary u
    in_cast (t.convert l ty r c) = None

    pub in_unary : t.Unary → Option Designated
    in_unary (t.postfix p) = in_postfix p
    in_unary (t.step s op u) = None
    in_unary (t.prefix s op c) = address_designated op (in_cast c)
    in_unary (t.size s l ty r) = None

    pub in_postfix : t.Postfix → Option Designated
    in_postfix (t.primary p) = in_primary p
    in_postfix (t.index p l e r) = indexed (in_postfix p) e
    in_postfix (t.call p l a r) = None
    in_postfix (t.member p s op (t.identifier at n)) = part_designated k.structs (is_arrow op) n (in_postfix p)
    in_postfix (t.stepped p s op) = None

    pub in_primary : t.Primary → Option Designated
    in_primary (t.name (t.identifier s n)) = option_map place_at (object_named k.structs (named_outside n k.names))
    in_primary (t.constant s c) = None
    in_primary (t.parenthesised l e r) = in_expression e
    in_primary (t.operation s op l n more r) = None

-- ---- address constants

abbrev pub is_array : PlainType → Bool
is_array ty = is_some (element_type ty)

-- the place that an address constant is the address of: `&` stands before it, or it is an array, whose value is the
-- address of its first element
abbrev pub address_constant : Option Designated → Option StaticPlace
address_constant None = None
address_constant (Some (place_at s)) = if is_array s.ty then Some s else None
address_constant (Some (address_at s)) = Some s

-- the form of an item: a constant expression, or an address constant
abbrev pub address_form : Option StaticPlace → ItemForm
address_form None = item.Other
address_form (Some s) = item.Address s.address

abbrev pub form_of : Known → t.Assignment → ItemForm
form_of k a = if is_constant_assignment k a then item.Constant else address_form (address_constant (in_assignment k a))

-- ---- types of objects

-- what a name stands for has a type that an object can have, where there are so many structs
abbrev pub IsNamedObject : (structs : ℕ) → Named → Type 0
IsNamedObject structs (an_object number ty konst space register) = IfSome ty (IsObjectType structs)
IsNamedObject structs (a_function number returns params) = ⊤

abbrev pub NamesObjects : Known → Type 0
NamesObjects k = (n : List ℕ) → IfSome (at_name n k.names.outside) (IsNamedObject (length k.structs))

abbrev pub place_of : Designated → StaticPlace
place_of (place_at s) = s
place_of (address_at s) = s

abbrev pub IsObjectPlace : (structs : ℕ) → Option Designated → Type 0
IsObjectPlace structs d = IfSome d (λ d. IsObjectType structs (place_of d).ty)
