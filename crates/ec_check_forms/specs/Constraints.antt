-- The constraints on operands, each a predicate of a place where rules are judged and the token where it is told
-- (ISO/IEC 9899:1999, 6.5; ISO/IEC TR 18037:2008, 4.1, 5.1 and 6.2; factors of one byte, spaces and ports are this
-- project's profile). A constraint that speaks of one operand holds of it whatever the others are.
use Rattle.std.specs.Prelude.{ℕ, ◌≡◌, ◌≢◌, ◌⊎◌, Bool, true, false, ⊤, Option, Some, None, List}
use Rattle.ec_check_operands.specs.declared.faults.Fault.{Fault}
use Rattle.ec_fx.specs.Formats.{format_of}
use Rattle.ec_space.specs.Spaces.{Encloses}
use Rattle.ec_core.specs.declared.expressions.BinOp.{BinOp}
use Rattle.ec_core.specs.declared.expressions.BinOp.TheVariants.{Add, Sub, Mul, Div, Rem, Shl, Shr, And, Or, Xor}
use Rattle.ec_core.specs.declared.expressions.BinOp.TheVariants.{Lt, Gt, Le, Ge, Eq, Ne}
use Rattle.ec_core.specs.Plain.{PlainType, void, integer, fixed, pointer, array, struct, PlainStruct}
use Rattle.ec_core.specs.PortOperations.{port_operation}
use Rattle.ec_check_forms.specs.declared.calls.Meant.TheVariants.{Undeclared, Undefined, Function}
use Rattle.ec_check_forms.specs.declared.ports.NamedPort.{NamedPort}
use Rattle.ec_check_forms.specs.declared.prefixes.PrefixOp.TheVariants.{Address, Deref, Plus, Minus, Invert, Not}
use Rattle.ec_check_forms.specs.Calls.{operand_count}
use Rattle.ec_check_forms.specs.Nodes.{type_of_place}
use Rattle.ec_check_forms.specs.Accesses.{base_of, member_number}
use Rattle.ec_check_operands.specs.Operands.{Operand, place, value, value_type, is_null}
use Rattle.ec_check_forms.specs.Sites.{Site, a_name, a_function, a_callee, a_call, a_use, a_part, a_condition}
use Rattle.ec_check_forms.specs.Sites.{an_operation}
use Rattle.ec_check_forms.specs.Sites.{a_logical, a_prefix, a_step, an_index, a_member, an_assignment, a_compound}
use Rattle.ec_check_forms.specs.Sites.{a_passing}
use Rattle.ec_check_forms.specs.Sites.{a_choice, a_cast, a_port, a_group, a_binding}

-- ---- types

abbrev pub IsInteger : PlainType → Type 0
IsInteger (integer signed bytes) = ⊤
IsInteger ty = ⊥

abbrev pub IsArithmetic : PlainType → Type 0
IsArithmetic (integer signed bytes) = ⊤
IsArithmetic (fixed kind sat) = ⊤
IsArithmetic ty = ⊥

abbrev pub IsPointer : PlainType → Type 0
IsPointer (pointer space const to) = ⊤
IsPointer ty = ⊥

abbrev pub IsScalar : PlainType → Type 0
IsScalar ty = IsArithmetic ty ⊎ IsPointer ty

abbrev pub IsStruct : PlainType → Type 0
IsStruct (struct index) = ⊤
IsStruct ty = ⊥

abbrev pub IsAggregate : PlainType → Type 0
IsAggregate (array of len) = ⊤
IsAggregate (struct index) = ⊤
IsAggregate ty = ⊥

-- an arithmetic type of one byte
abbrev pub HasOneByte : PlainType → Type 0
HasOneByte (integer signed bytes) = bytes ≡ 1
HasOneByte (fixed kind sat) = (format_of kind).bits ≡ 8
HasOneByte ty = ⊥

-- pointers to one type, whatever their const and spaces are
abbrev pub PointToOneType : PlainType → PlainType → Type 0
PointToOneType (pointer s k t) (pointer r c u) = t ≡ u
PointToOneType a b = ⊥

-- the second pointer's space does not enclose that of the first
abbrev pub LeavesSpace : PlainType → PlainType → Type 0
LeavesSpace (pointer s k t) (pointer r c u) = ¬ Encloses r s
LeavesSpace a b = ⊥

-- the first is a pointer to const, and the second is none
abbrev pub LosesConst : PlainType → PlainType → Type 0
LosesConst (pointer s k t) (pointer r c u) = (k ≡ true) × (c ≡ false)
LosesConst a b = ⊥

-- the space of one pointer encloses that of the other
abbrev pub HaveNestedSpaces : PlainType → PlainType → Type 0
HaveNestedSpaces (pointer s k t) (pointer r c u) = Encloses s r ⊎ Encloses r s
HaveNestedSpaces a b = ⊥

-- a pointer and the null constant; the Bools say which of the two is the null constant
abbrev pub ArePointerAndNull : PlainType → Bool → PlainType → Bool → Type 0
ArePointerAndNull a p b q = (IsPointer a × (q ≡ true)) ⊎ ((p ≡ true) × IsPointer b)

-- pointers to one type whose spaces are apart
abbrev pub AreApart : PlainType → PlainType → Type 0
AreApart a b = PointToOneType a b × ¬ HaveNestedSpaces a b

-- ---- what suits an operator

-- `*` takes factors of one byte, `/` numbers, `% & | ^` and the count of a shift integers, `+` and `-` scalars
abbrev pub SuitsAlone : BinOp → (left : Bool) → PlainType → Type 0
SuitsAlone Add left ty = IsScalar ty
SuitsAlone Sub left ty = IsScalar ty
SuitsAlone Mul left ty = HasOneByte ty
SuitsAlone Div left ty = IsArithmetic ty
SuitsAlone Rem left ty = IsInteger ty
SuitsAlone Shl true ty = IsArithmetic ty
SuitsAlone Shl false ty = IsInteger ty
SuitsAlone Shr true ty = IsArithmetic ty
SuitsAlone Shr false ty = IsInteger ty
SuitsAlone And left ty = IsInteger ty
SuitsAlone Or left ty = IsInteger ty
SuitsAlone Xor left ty = IsInteger ty
SuitsAlone op left ty = ⊤

-- `+` takes two numbers, or a pointer and an integer; `-` takes two numbers, a pointer and an integer, or two pointers
-- to one type
abbrev pub SuitTogether : BinOp → PlainType → PlainType → Type 0
SuitTogether Add a b =
    (IsArithmetic a × IsArithmetic b) ⊎ ((IsPointer a × IsInteger b) ⊎ (IsInteger a × IsPointer b))
SuitTogether Sub a b =
    (IsArithmetic a × IsArithmetic b) ⊎ ((IsPointer a × IsInteger b) ⊎ PointToOneType a b)
SuitTogether op a b = ⊤

abbrev pub DoNotSuit : BinOp → Option Operand → Option Operand → Type 0
DoNotSuit op None None = ⊥
DoNotSuit op (Some x) None = ¬ SuitsAlone op true (value_type x)
DoNotSuit op None (Some y) = ¬ SuitsAlone op false (value_type y)
DoNotSuit op (Some x) (Some y) =
    ¬ (SuitsAlone op true (value_type x) × SuitsAlone op false (value_type y)
    × SuitTogether op (value_type x) (value_type y))

abbrev pub IsEquality : BinOp → Type 0
IsEquality Eq = ⊤
IsEquality Ne = ⊤
IsEquality op = ⊥

abbrev pub IsComparison : BinOp → Type 0
IsComparison Lt = ⊤
IsComparison Gt = ⊤
IsComparison Le = ⊤
IsComparison Ge = ⊤
IsComparison Eq = ⊤
IsComparison Ne = ⊤
IsComparison op = ⊥

abbrev pub AreComparable : BinOp → Operand → Operand → Type 0
AreComparable op x y =
    (IsArithmetic (value_type x) × IsArithmetic (value_type y))
    ⊎ (PointToOneType (value_type x) (value_type y)
    ⊎ (IsEquality op × ArePointerAndNull (value_type x) (is_null x) (value_type y) (is_null y)))

abbrev pub AreIncomparable : BinOp → Option Operand → Option Operand → Type 0
AreIncomparable op (Some x) (Some y) = IsComparison op × ¬ AreComparable op x y
AreIncomparable op x y = ⊥

-- pointers meet in a difference and in comparisons
abbrev pub PointersMeet : BinOp → Type 0
PointersMeet Sub = ⊤
PointersMeet op = IsComparison op

abbrev pub MeetApart : BinOp → Option Operand → Option Operand → Type 0
MeetApart op (Some x) (Some y) = PointersMeet op × AreApart (value_type x) (value_type y)
MeetApart op x y = ⊥

-- two values of which `?:` can choose one
abbrev pub AreAlternatives : Operand → Operand → Type 0
AreAlternatives x y =
    ((value_type x ≡ void) × (value_type y ≡ void))
    ⊎ ((IsArithmetic (value_type x) × IsArithmetic (value_type y))
    ⊎ (PointToOneType (value_type x) (value_type y)
    ⊎ ArePointerAndNull (value_type x) (is_null x) (value_type y) (is_null y)))

abbrev pub AreNoAlternatives : Option Operand → Option Operand → Type 0
AreNoAlternatives (Some x) (Some y) = ¬ AreAlternatives x y
AreNoAlternatives x y = ⊥

abbrev pub ChosenApart : Option Operand → Option Operand → Type 0
ChosenApart (Some x) (Some y) = AreApart (value_type x) (value_type y)
ChosenApart x y = ⊥

-- ---- what holds of one operand, where it has a type

abbrev pub IsKnownAnd : Option Operand → (PlainType → Type 0) → Type 0
IsKnownAnd None P = ⊥
IsKnownAnd (Some x) P = P (value_type x)

abbrev pub IsNoScalar : Option Operand → Type 0
IsNoScalar x = IsKnownAnd x (λ ty. ¬ IsScalar ty)

-- it is no place, or one that is an array or a struct
abbrev pub CannotBeAssigned : Option Operand → Type 0
CannotBeAssigned None = ⊥
CannotBeAssigned (Some (place ty konst space register q)) = IsAggregate ty
CannotBeAssigned (Some (value e zero)) = ⊤

abbrev pub IsConst : Option Operand → Type 0
IsConst None = ⊥
IsConst (Some (place ty konst space register q)) = konst ≡ true
IsConst (Some (value e zero)) = ⊥

abbrev pub IsNoPlace : Operand → Type 0
IsNoPlace (place ty konst space register q) = ⊥
IsNoPlace (value e zero) = ⊤

abbrev pub IsInRegister : Operand → Type 0
IsInRegister (place ty konst space register q) = register ≡ true
IsInRegister (value e zero) = ⊥

-- ---- conversions

-- a value passes between numbers, between pointers to one type, and from the null constant to a pointer
abbrev pub Passes : Operand → PlainType → Type 0
Passes x to =
    (IsArithmetic (value_type x) × IsArithmetic to)
    ⊎ (((is_null x ≡ true) × IsPointer to) ⊎ PointToOneType (value_type x) to)

abbrev pub DoesNotPass : Option Operand → Option PlainType → Type 0
DoesNotPass (Some x) (Some to) = ¬ Passes x to
DoesNotPass x to = ⊥

abbrev pub PassesOutOfSpace : Option Operand → Option PlainType → Type 0
PassesOutOfSpace (Some x) (Some to) = PointToOneType (value_type x) to × LeavesSpace (value_type x) to
PassesOutOfSpace x to = ⊥

abbrev pub PassesOutOfConst : Option Operand → Option PlainType → Type 0
PassesOutOfConst (Some x) (Some to) = PointToOneType (value_type x) to × LosesConst (value_type x) to
PassesOutOfConst x to = ⊥

abbrev pub CanBeCast : Operand → PlainType → Type 0
CanBeCast x to =
    (IsArithmetic (value_type x) × IsArithmetic to)
    ⊎ (((is_null x ≡ true) × IsPointer to) ⊎ (PointToOneType (value_type x) to × HaveNestedSpaces (value_type x) to))

abbrev pub IsNoCast : Option PlainType → Option Operand → Type 0
IsNoCast (Some to) (Some x) = ¬ CanBeCast x to
IsNoCast to x = ⊥

-- the right side of a compound assignment is a pointer
abbrev pub AddsPointer : Option Operand → Option Operand → Type 0
AddsPointer (Some x) (Some y) = IsPointer (value_type y)
AddsPointer x y = ⊥

-- ---- members

abbrev pub HasNoStruct : (arrow : Bool) → Option Operand → Type 0
HasNoStruct arrow x = IsKnownAnd x (λ ty. base_of arrow ty ≡ None)

abbrev pub IsNotAmong : List PlainStruct → List ℕ → Option ℕ → Type 0
IsNotAmong structs name None = ⊥
IsNotAmong structs name (Some index) = member_number structs name index ≡ None

abbrev pub HasNoMember : List PlainStruct → List ℕ → (arrow : Bool) → Option Operand → Type 0
HasNoMember structs name arrow x = IsKnownAnd x (λ ty. IsNotAmong structs name (base_of arrow ty))

-- ---- the constraints, each at its sites

-- 19: a function that is called, or an object that is used, is defined in no unit
abbrev pub IsUndefined : Site → (token : ℕ) → Type 0
IsUndefined (a_name Undefined at) token = token ≡ at
IsUndefined (a_function false at) token = token ≡ at
IsUndefined s token = ⊥

-- 20: a name is not declared before its use
abbrev pub IsUndeclared : Site → (token : ℕ) → Type 0
IsUndeclared (a_name Undeclared at) token = token ≡ at
IsUndeclared s token = ⊥

-- 21: a function's name stands where no call is, or what is called is no function's name
abbrev pub IsMiscalled : Site → (token : ℕ) → Type 0
IsMiscalled (a_name Function at) token = token ≡ at
IsMiscalled (a_callee function at) token = (function ≡ false) × (token ≡ at)
IsMiscalled s token = ⊥

-- 22: a call has the wrong number of arguments
abbrev pub HasWrongArguments : Site → (token : ℕ) → Type 0
HasWrongArguments (a_call params args at) token = (params ≢ args) × (token ≡ at)
HasWrongArguments s token = ⊥

-- 23: an operand does not suit its operator
abbrev pub HasUnsuited : Site → (token : ℕ) → Type 0
HasUnsuited (an_operation op x y at) token = DoNotSuit op x y × (token ≡ at)
HasUnsuited (a_compound op x y at) token = DoNotSuit op x y × (token ≡ at)
HasUnsuited (a_prefix Plus x at) token = IsKnownAnd x (λ ty. ¬ IsArithmetic ty) × (token ≡ at)
HasUnsuited (a_prefix Minus x at) token = IsKnownAnd x (λ ty. ¬ IsArithmetic ty) × (token ≡ at)
HasUnsuited (a_prefix Invert x at) token = IsKnownAnd x (λ ty. ¬ IsInteger ty) × (token ≡ at)
HasUnsuited (a_step x at) token = IsNoScalar x × (token ≡ at)
HasUnsuited s token = ⊥

-- 24: what is compared, or what `?:` chooses from, is neither both arithmetic, nor pointers to one type, nor a pointer
-- and the null constant (for `==`, `!=` and `?:`), nor both void (for `?:`)
abbrev pub HasNoCommonType : Site → (token : ℕ) → Type 0
HasNoCommonType (an_operation op x y at) token = AreIncomparable op x y × (token ≡ at)
HasNoCommonType (a_choice c x y at) token = AreNoAlternatives x y × (token ≡ at)
HasNoCommonType s token = ⊥

-- 25: a condition or an operand of `!`, `&&` or `||` is not scalar
abbrev pub HasNoCondition : Site → (token : ℕ) → Type 0
HasNoCondition (a_condition x at) token = IsNoScalar x × (token ≡ at)
HasNoCondition (a_logical x y at) token = (IsNoScalar x ⊎ IsNoScalar y) × (token ≡ at)
HasNoCondition (a_prefix Not x at) token = IsNoScalar x × (token ≡ at)
HasNoCondition (a_choice c x y at) token = IsNoScalar c × (token ≡ at)
HasNoCondition s token = ⊥

-- 26: the operand of an assignment, `++`, `--` or `&` is no place, or a place that is assigned is an array or a struct
abbrev pub HasNoPlace : Site → (token : ℕ) → Type 0
HasNoPlace (a_prefix Address (Some x) at) token = IsNoPlace x × (token ≡ at)
HasNoPlace (an_assignment x y at) token = CannotBeAssigned x × (token ≡ at)
HasNoPlace (a_compound op x y at) token = CannotBeAssigned x × (token ≡ at)
HasNoPlace (a_step x at) token = CannotBeAssigned x × (token ≡ at)
HasNoPlace s token = ⊥

-- 27: a const place is assigned
abbrev pub AssignsConst : Site → (token : ℕ) → Type 0
AssignsConst (an_assignment x y at) token = IsConst x × (token ≡ at)
AssignsConst (a_compound op x y at) token = IsConst x × (token ≡ at)
AssignsConst (a_step x at) token = IsConst x × (token ≡ at)
AssignsConst s token = ⊥

-- 28: a value is implicitly converted between types that are neither both arithmetic, nor pointers to one type, nor the
-- null constant to a pointer
abbrev pub ConvertsBetweenKinds : Site → (token : ℕ) → Type 0
ConvertsBetweenKinds (a_passing x to at) token = DoesNotPass x to × (token ≡ at)
ConvertsBetweenKinds (an_assignment x y at) token = DoesNotPass y (type_of_place x) × (token ≡ at)
ConvertsBetweenKinds (a_compound op x y at) token = AddsPointer x y × (token ≡ at)
ConvertsBetweenKinds s token = ⊥

-- 29: a pointer is implicitly converted to a space that does not enclose its own
abbrev pub ConvertsOutOfSpace : Site → (token : ℕ) → Type 0
ConvertsOutOfSpace (a_passing x to at) token = PassesOutOfSpace x to × (token ≡ at)
ConvertsOutOfSpace (an_assignment x y at) token = PassesOutOfSpace y (type_of_place x) × (token ≡ at)
ConvertsOutOfSpace s token = ⊥

-- 30: an implicit conversion drops const of what is pointed to
abbrev pub ConvertsOutOfConst : Site → (token : ℕ) → Type 0
ConvertsOutOfConst (a_passing x to at) token = PassesOutOfConst x to × (token ≡ at)
ConvertsOutOfConst (an_assignment x y at) token = PassesOutOfConst y (type_of_place x) × (token ≡ at)
ConvertsOutOfConst s token = ⊥

-- 31: a cast is neither between arithmetic types, nor between pointers to one type whose spaces nest, nor of the null
-- constant to a pointer
abbrev pub Miscasts : Site → (token : ℕ) → Type 0
Miscasts (a_cast to x at) token = IsNoCast to x × (token ≡ at)
Miscasts s token = ⊥

-- 32: two pointers meet in a comparison, a subtraction or `?:`, and neither space encloses the other
abbrev pub HasPointersApart : Site → (token : ℕ) → Type 0
HasPointersApart (an_operation op x y at) token = MeetApart op x y × (token ≡ at)
HasPointersApart (a_choice c x y at) token = ChosenApart x y × (token ≡ at)
HasPointersApart s token = ⊥

-- 33: `&` is applied to a named-register object
abbrev pub TakesRegisterAddress : Site → (token : ℕ) → Type 0
TakesRegisterAddress (a_prefix Address (Some x) at) token = IsInRegister x × (token ≡ at)
TakesRegisterAddress s token = ⊥

-- 34: `*`, `[ ]` or `->` is applied to no pointer of the needed kind, or `.` to no struct, or an index is no integer
abbrev pub ReachesNothing : Site → (token : ℕ) → Type 0
ReachesNothing (a_prefix Deref x at) token = IsKnownAnd x (λ ty. ¬ IsPointer ty) × (token ≡ at)
ReachesNothing (an_index x y at) token =
    (IsKnownAnd x (λ ty. ¬ IsPointer ty) ⊎ IsKnownAnd y (λ ty. ¬ IsInteger ty)) × (token ≡ at)
ReachesNothing (a_member structs name arrow x at name_at) token = HasNoStruct arrow x × (token ≡ at)
ReachesNothing s token = ⊥

-- 35: a struct has no such member
abbrev pub NamesNoMember : Site → (token : ℕ) → Type 0
NamesNoMember (a_member structs name arrow x at name_at) token = HasNoMember structs name arrow x × (token ≡ name_at)
NamesNoMember s token = ⊥

-- 36: an operation names no port, or neither a group nor a dynamic group, or has the wrong number of operands; or
-- `iogroup_map` binds nothing
abbrev pub NamesNoPort : Site → (token : ℕ) → Type 0
NamesNoPort (a_port op port count at) token =
    ((port ≡ None) ⊎ (count ≢ operand_count (port_operation op))) × (token ≡ at)
NamesNoPort (a_group g count at) token = ((g ≡ None) ⊎ (count ≢ 0)) × (token ≡ at)
NamesNoPort (a_binding b at) token = (b ≡ None) × (token ≡ at)
NamesNoPort s token = ⊥

-- 37: an operation that is not long names a port of width 4
abbrev pub IsWide : Option NamedPort → Type 0
IsWide None = ⊥
IsWide (Some p) = p.width ≡ 4

abbrev pub NamesWidePort : Site → (token : ℕ) → Type 0
NamesWidePort (a_port op port count at) token =
    IsWide port × ((port_operation op).long ≡ false) × (token ≡ at)
NamesWidePort s token = ⊥

-- 40: a void value is used, or a struct is a part of a comma, of an expression statement or of a `for`
abbrev pub UsesNoValue : Site → (token : ℕ) → Type 0
UsesNoValue (a_use x at) token = IsKnownAnd x (λ ty. ty ≡ void) × (token ≡ at)
UsesNoValue (a_part x at) token = IsKnownAnd x IsStruct × (token ≡ at)
UsesNoValue s token = ⊥

-- a fault by a constraint that is broken
pub data Breaks (s : Site) (f : Fault) : Type 0 where
  undefined : f.rule ≡ 19 → IsUndefined s f.at → Breaks s f
  undeclared : f.rule ≡ 20 → IsUndeclared s f.at → Breaks s f
  miscalled : f.rule ≡ 21 → IsMiscalled s f.at → Breaks s f
  wrong_arguments : f.rule ≡ 22 → HasWrongArguments s f.at → Breaks s f
  unsuited : f.rule ≡ 23 → HasUnsuited s f.at → Breaks s f
  no_common_type : f.rule ≡ 24 → HasNoCommonType s f.at → Breaks s f
  no_condition : f.rule ≡ 25 → HasNoCondition s f.at → Breaks s f
  no_place : f.rule ≡ 26 → HasNoPlace s f.at → Breaks s f
  const_assigned : f.rule ≡ 27 → AssignsConst s f.at → Breaks s f
  between_kinds : f.rule ≡ 28 → ConvertsBetweenKinds s f.at → Breaks s f
  out_of_space : f.rule ≡ 29 → ConvertsOutOfSpace s f.at → Breaks s f
  out_of_const : f.rule ≡ 30 → ConvertsOutOfConst s f.at → Breaks s f
  miscast : f.rule ≡ 31 → Miscasts s f.at → Breaks s f
  pointers_apart : f.rule ≡ 32 → HasPointersApart s f.at → Breaks s f
  register_address : f.rule ≡ 33 → TakesRegisterAddress s f.at → Breaks s f
  nothing_reached : f.rule ≡ 34 → ReachesNothing s f.at → Breaks s f
  no_member : f.rule ≡ 35 → NamesNoMember s f.at → Breaks s f
  no_port : f.rule ≡ 36 → NamesNoPort s f.at → Breaks s f
  wide_port : f.rule ≡ 37 → NamesWidePort s f.at → Breaks s f
  no_value : f.rule ≡ 40 → UsesNoValue s f.at → Breaks s f
