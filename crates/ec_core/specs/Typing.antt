-- The types of the nodes of an expression (ISO/IEC 9899:1999, 6.5; ISO/IEC TR 18037:2008, 4.1.4 and 5.1.3). Conversions
-- are nodes of their own, so each rule says which types the operands have by then.
use Rattle.std.specs.Prelude.{◌≡◌, ◌⊎◌, ℕ, ◌<◌, Bool, true, false, if◌then◌else◌, ⊤, IsTrue, IsSomeAnd, List, [], ◌∷◌}
use Rattle.std.specs.Prelude.{length, Option, Some, None, option_map, option_and_then, unwrap_or, slice_get, ◌≤◌}
use Rattle.ec_fx.specs.Formats.{format_of}
use Rattle.ec_iohw.specs.declared.table.IoTable.{IoTable}
use Rattle.ec_space.specs.declared.space.SpaceId.{SpaceId}
use Rattle.ec_space.specs.Spaces.{encloses}
use Rattle.ec_core.specs.declared.arithmetic_types.Arithmetic.{Arithmetic}
use Rattle.ec_core.specs.declared.arithmetic_types.Arithmetic.TheVariants.{Integer, Fixed}
use Rattle.ec_core.specs.declared.expressions.BinOp.{BinOp}
use Rattle.ec_core.specs.declared.expressions.BinOp.TheVariants.{Add, Sub, Mul, Div, Rem, Shl, Shr, And, Or, Xor, Lt}
use Rattle.ec_core.specs.declared.expressions.BinOp.TheVariants.{Gt, Le, Ge, Eq, Ne}
use Rattle.ec_core.specs.declared.expressions.UnOp.{UnOp}
use Rattle.ec_core.specs.declared.expressions.UnOp.TheVariants.{Minus, Invert}
use Rattle.ec_core.specs.ArithmeticTypes.{arithmetic_of, type_of, promoted, common}
use Rattle.ec_core.specs.ArithmeticValues.{HoldsNumber}
use Rattle.ec_core.specs.Layout.{IsScalar}
use Rattle.ec_core.specs.Plain.{PlainType, void, integer, fixed, pointer, array, struct, PlainStruct, PlainObject}
use Rattle.ec_core.specs.Plain.{PlainExpr, expression, PlainNode, number, null, load, address_of, unary, binary}
use Rattle.ec_core.specs.Plain.{convert, assign, compound, step, logical_not, logical_and, logical_or, conditional}
use Rattle.ec_core.specs.Plain.{comma, call, io, group, bind, dynamic_group, PlainPlace, object, deref, member, OptionPlainExpr, no_expr}
use Rattle.ec_core.specs.Plain.{an_expr, PlainExprs, last_expr, next_expr, PlainProgram}
use Rattle.ec_core.specs.PortOperations.{PortAction, reads, writes, updates, PortOperation, port_operation, takes_value}

-- ---- types by name

abbrev pub int : PlainType
int = integer true 2

abbrev pub unsigned_int : PlainType
unsigned_int = integer false 2

abbrev pub unsigned_long : PlainType
unsigned_long = integer false 4

-- the type of an expression
abbrev pub type_of_expr : PlainExpr → PlainType
type_of_expr (expression ty mode node) = ty

-- ---- binary operators

abbrev pub IsIntegerKind : Arithmetic → Type 0
IsIntegerKind (Integer t) = ⊤
IsIntegerKind (Fixed t) = ⊥

abbrev pub IsIntegerType : PlainType → Type 0
IsIntegerType ty = IsSomeAnd (arithmetic_of ty) IsIntegerKind

-- the promotions leave the type as it is
abbrev pub IsPromoted : Arithmetic → Type 0
IsPromoted (Integer t) = promoted t ≡ t
IsPromoted (Fixed t) = ⊤

abbrev pub IsOneByteType : Arithmetic → Type 0
IsOneByteType (Integer t) = t.bytes ≡ 1
IsOneByteType (Fixed t) = (format_of t.kind).bits ≡ 8

-- of two fixed-point operands both are signed or both unsigned
abbrev pub HaveOneSignedness : Arithmetic → Arithmetic → Type 0
HaveOneSignedness (Integer x) y = ⊤
HaveOneSignedness (Fixed x) (Integer y) = ⊤
HaveOneSignedness (Fixed x) (Fixed y) = (format_of x.kind).signed ≡ (format_of y.kind).signed

-- two integers have their common type; an integer beside a fixed-point operand is not converted
abbrev pub HaveCommonInteger : Arithmetic → Arithmetic → Type 0
HaveCommonInteger (Integer x) (Integer y) = (x ≡ y) × (promoted x ≡ x)
HaveCommonInteger (Integer x) (Fixed y) = ⊤
HaveCommonInteger (Fixed x) y = ⊤

-- operands of a sum, difference or quotient, and the result's type
pub record HaveUsualTypes (ty x y : Arithmetic) : Type 0 where
  pub integers : HaveCommonInteger x y
  pub signedness : HaveOneSignedness x y
  pub value : ty ≡ common x y

-- operands of a product have one byte and are not promoted
pub record HaveProductTypes (ty x y : Arithmetic) : Type 0 where
  pub left : IsOneByteType x
  pub right : IsOneByteType y
  pub signedness : HaveOneSignedness x y
  pub value : ty ≡ common x y

pub record HaveIntegerTypes (ty x y : Arithmetic) : Type 0 where
  pub left : IsIntegerKind x
  pub right : IsIntegerKind y
  pub usual : HaveUsualTypes ty x y

-- the count of a shift is an integer; beside an integer it is promoted by itself
abbrev pub IsShiftCount : Arithmetic → Arithmetic → Type 0
IsShiftCount (Integer x) y = IsIntegerKind y × IsPromoted y
IsShiftCount (Fixed x) y = IsIntegerKind y

pub record HaveShiftTypes (ty x y : Arithmetic) : Type 0 where
  pub left : IsPromoted x
  pub count : IsShiftCount x y
  pub value : ty ≡ x

-- operands of a comparison, whose result is an int: fixed-point ones are not converted
pub record HaveComparedTypes (ty x y : Arithmetic) : Type 0 where
  pub integers : HaveCommonInteger x y
  pub value : type_of ty ≡ int

abbrev pub HaveArithmeticTypes : BinOp → Arithmetic → Arithmetic → Arithmetic → Type 0
HaveArithmeticTypes Add = HaveUsualTypes
HaveArithmeticTypes Sub = HaveUsualTypes
HaveArithmeticTypes Mul = HaveProductTypes
HaveArithmeticTypes Div = HaveUsualTypes
HaveArithmeticTypes Rem = HaveIntegerTypes
HaveArithmeticTypes Shl = HaveShiftTypes
HaveArithmeticTypes Shr = HaveShiftTypes
HaveArithmeticTypes And = HaveIntegerTypes
HaveArithmeticTypes Or = HaveIntegerTypes
HaveArithmeticTypes Xor = HaveIntegerTypes
HaveArithmeticTypes Lt = HaveComparedTypes
HaveArithmeticTypes Gt = HaveComparedTypes
HaveArithmeticTypes Le = HaveComparedTypes
HaveArithmeticTypes Ge = HaveComparedTypes
HaveArithmeticTypes Eq = HaveComparedTypes
HaveArithmeticTypes Ne = HaveComparedTypes

-- two pointers that are subtracted or compared are into one space and to one type; const does not count. The result is
-- an int
abbrev pub HavePointerTypes : BinOp → Type 0 → Type 0
HavePointerTypes Sub same = same
HavePointerTypes Lt same = same
HavePointerTypes Gt same = same
HavePointerTypes Le same = same
HavePointerTypes Ge same = same
HavePointerTypes Eq same = same
HavePointerTypes Ne same = same
HavePointerTypes op same = ⊥

-- a pointer and an integer, which is not converted
abbrev pub HaveOffsetTypes : BinOp → PlainType → Type 0
HaveOffsetTypes Add count = IsIntegerType count
HaveOffsetTypes Sub count = IsIntegerType count
HaveOffsetTypes op count = ⊥

abbrev pub IsAdd : BinOp → Type 0
IsAdd Add = ⊤
IsAdd op = ⊥

-- the types of the result and the operands of a binary operator
abbrev pub HaveBinaryTypes : BinOp → PlainType → PlainType → PlainType → Type 0
HaveBinaryTypes op ty (pointer s k t) (pointer r c u) = HavePointerTypes op ((s ≡ r) × (t ≡ u) × (ty ≡ int))
HaveBinaryTypes op ty (pointer s k t) b = HaveOffsetTypes op b × (ty ≡ pointer s k t)
HaveBinaryTypes op ty a (pointer s k t) = IsAdd op × IsIntegerType a × (ty ≡ pointer s k t)
HaveBinaryTypes op ty a b =
    IsSomeAnd (arithmetic_of ty) (λ t.
    IsSomeAnd (arithmetic_of a) (λ x. IsSomeAnd (arithmetic_of b) (λ y. HaveArithmeticTypes op t x y)))

-- ---- compound assignments, whose operands are not converted

abbrev pub HaveCompoundArithmetic : BinOp → Arithmetic → Arithmetic → Type 0
HaveCompoundArithmetic Add x y = ⊤
HaveCompoundArithmetic Sub x y = ⊤
HaveCompoundArithmetic Mul x y = IsOneByteType x × IsOneByteType y
HaveCompoundArithmetic Div x y = ⊤
HaveCompoundArithmetic Rem x y = IsIntegerKind x × IsIntegerKind y
HaveCompoundArithmetic Shl x y = IsIntegerKind y
HaveCompoundArithmetic Shr x y = IsIntegerKind y
HaveCompoundArithmetic And x y = IsIntegerKind x × IsIntegerKind y
HaveCompoundArithmetic Or x y = IsIntegerKind x × IsIntegerKind y
HaveCompoundArithmetic Xor x y = IsIntegerKind x × IsIntegerKind y
HaveCompoundArithmetic op x y = ⊥

abbrev pub HaveCompoundTypes : BinOp → PlainType → PlainType → Type 0
HaveCompoundTypes op (pointer s k t) b = HaveOffsetTypes op b
HaveCompoundTypes op a b =
    IsSomeAnd (arithmetic_of a) (λ x. IsSomeAnd (arithmetic_of b) (λ y. HaveCompoundArithmetic op x y))

-- ---- unary operators and conversions

abbrev pub HaveUnaryTypes : UnOp → Arithmetic → Type 0
HaveUnaryTypes Minus t = IsPromoted t
HaveUnaryTypes Invert t = IsIntegerKind t × IsPromoted t

-- numbers become numbers, and pointers become pointers to the same type into a space that nests with theirs
abbrev pub AreConvertible : PlainType → PlainType → Type 0
AreConvertible (pointer s k t) (pointer r c u) = (t ≡ u) × (IsTrue (encloses s r) ⊎ IsTrue (encloses r s))
AreConvertible to from = IsSomeAnd (arithmetic_of to) (λ t. IsSomeAnd (arithmetic_of from) (λ u. ⊤))

-- ---- places

abbrev pub pointee : PlainType → Option PlainType
pointee (pointer s k t) = Some t
pointee ty = None

abbrev pub pointer_space : PlainType → Option SpaceId
pointer_space (pointer s k t) = Some s
pointer_space ty = None

abbrev pub points_to_const : PlainType → Bool
points_to_const (pointer s k t) = k
points_to_const ty = false

-- the type of the member with a number of a type, which is that of a struct
abbrev pub type_of_member : List PlainStruct → PlainType → ℕ → Option PlainType
type_of_member structs (struct index) i =
    option_and_then (λ s. option_map (λ m. m.ty) (slice_get s.members i)) (slice_get structs index)
type_of_member structs ty i = None

-- the type of a place, the space that it is in by its type, and whether it is const, beside the structs and objects
-- that are declared
abbrev pub type_of_place : List PlainStruct → List PlainObject → PlainPlace → Option PlainType
type_of_place structs objects (object o) = option_map (λ x. x.ty) (slice_get objects o)
type_of_place structs objects (deref e) = pointee (type_of_expr e)
type_of_place structs objects (member q i) =
    option_and_then (λ ty. type_of_member structs ty i) (type_of_place structs objects q)

abbrev pub space_of_place : List PlainObject → PlainPlace → Option SpaceId
space_of_place objects (object o) = option_map (λ x. x.space) (slice_get objects o)
space_of_place objects (deref e) = pointer_space (type_of_expr e)
space_of_place objects (member q i) = space_of_place objects q

abbrev pub is_const_place : List PlainObject → PlainPlace → Bool
is_const_place objects (object o) = unwrap_or (option_map (λ x. x.const) (slice_get objects o)) false
is_const_place objects (deref e) = points_to_const (type_of_expr e)
is_const_place objects (member q i) = is_const_place objects q

-- the same in a program
abbrev pub member_type : PlainProgram → PlainType → ℕ → Option PlainType
member_type p ty i = type_of_member p.structs ty i

abbrev pub place_type : PlainProgram → PlainPlace → Option PlainType
place_type p place = type_of_place p.structs p.objects place

abbrev pub place_space : PlainProgram → PlainPlace → Option SpaceId
place_space p place = space_of_place p.objects place

abbrev pub place_is_const : PlainProgram → PlainPlace → Bool
place_is_const p place = is_const_place p.objects place

abbrev pub IsScalarPlace : PlainProgram → PlainType → PlainPlace → Type 0
IsScalarPlace p ty place = IsScalar ty × (place_type p place ≡ Some ty)

abbrev pub IsElementOf : PlainType → PlainType → Type 0
IsElementOf element (array of len) = element ≡ of
IsElementOf element ty = ⊥

-- the type of a pointer to a place, and of a pointer to the first element of an array
abbrev pub IsAddressType : PlainProgram → PlainType → PlainPlace → Type 0
IsAddressType p (pointer s k t) place =
    (place_space p place ≡ Some s) × (place_is_const p place ≡ k)
    × IsSomeAnd (place_type p place) (λ ty. (ty ≡ t) ⊎ IsElementOf t ty)
IsAddressType p ty place = ⊥

-- the type of `?:`: the usual conversions of its second and third operands leave no type of one byte
abbrev pub IsBranchType : PlainType → Type 0
IsBranchType void = ⊤
IsBranchType (integer signed bytes) = 2 ≤ bytes
IsBranchType (fixed kind saturates) = ⊤
IsBranchType (pointer space const to) = ⊤
IsBranchType (array of len) = ⊥
IsBranchType (struct index) = ⊥

-- ---- operations on ports

-- the operand stands there exactly where it is taken
abbrev pub IsOperandIf : Bool → PlainType → OptionPlainExpr → Type 0
IsOperandIf true ty no_expr = ⊥
IsOperandIf true ty (an_expr e) = type_of_expr e ≡ ty
IsOperandIf false ty no_expr = ⊤
IsOperandIf false ty (an_expr e) = ⊥

abbrev pub port_value : PortOperation → PlainType
port_value op = if op.long then unsigned_long else unsigned_int

abbrev pub port_result : PortAction → PlainType → PlainType
port_result reads ty = ty
port_result writes ty = void
port_result updates ty = void

-- a port of width 4 is named by the long operations only
pub record IsPortOperation (table : IoTable) (ty : PlainType) (op : PortOperation) (n : ℕ)
    (i v : OptionPlainExpr) : Type 0 where
  pub port : IsSomeAnd (slice_get table.ports.items n) (λ p. (p.width ≡ 4) → IsTrue op.long)
  pub index : IsOperandIf op.indexed unsigned_int i
  pub value : IsOperandIf (takes_value op) (port_value op) v
  pub result : ty ≡ port_result op.action (port_value op)

-- ---- calls

-- one argument of the parameter's type for each parameter
abbrev pub AreArguments : PlainProgram → List ℕ → PlainExprs → Type 0
AreArguments p [] last_expr = ⊤
AreArguments p [] (next_expr e es) = ⊥
AreArguments p (o ∷ os) last_expr = ⊥
AreArguments p (o ∷ os) (next_expr e es) =
    (option_map (λ x. x.ty) (slice_get p.objects o) ≡ Some (type_of_expr e)) × AreArguments p os es

-- ---- nodes

-- the node has the type, by the types of its operands
abbrev pub IsTyped : PlainProgram → IoTable → PlainType → PlainNode → Type 0
IsTyped p table ty (number n) = IsSomeAnd (arithmetic_of ty) (λ t. HoldsNumber t n)
IsTyped p table ty null = IsSomeAnd (pointee ty) (λ t. ⊤)
IsTyped p table ty (load place) = IsScalarPlace p ty place
IsTyped p table ty (address_of place) = IsAddressType p ty place
IsTyped p table ty (unary op e) = (type_of_expr e ≡ ty) × IsSomeAnd (arithmetic_of ty) (HaveUnaryTypes op)
IsTyped p table ty (binary op a b) = HaveBinaryTypes op ty (type_of_expr a) (type_of_expr b)
IsTyped p table ty (convert e) = IsScalar ty × AreConvertible ty (type_of_expr e)
IsTyped p table ty (assign place e) = IsScalarPlace p ty place × (type_of_expr e ≡ ty)
IsTyped p table ty (compound op mode place e) = IsScalarPlace p ty place × HaveCompoundTypes op ty (type_of_expr e)
IsTyped p table ty (step up prefix place) = IsScalarPlace p ty place
IsTyped p table ty (logical_not e) = IsScalar (type_of_expr e) × (ty ≡ int)
IsTyped p table ty (logical_and a b) = IsScalar (type_of_expr a) × IsScalar (type_of_expr b) × (ty ≡ int)
IsTyped p table ty (logical_or a b) = IsScalar (type_of_expr a) × IsScalar (type_of_expr b) × (ty ≡ int)
IsTyped p table ty (conditional c a b) =
    IsScalar (type_of_expr c) × IsBranchType ty × (type_of_expr a ≡ ty) × (type_of_expr b ≡ ty)
IsTyped p table ty (comma a b) = IsScalar (type_of_expr a) × IsScalar (type_of_expr b) × (type_of_expr b ≡ ty)
IsTyped p table ty (call f args) =
    IsSomeAnd (slice_get p.functions f) (λ g. (ty ≡ g.returns) × AreArguments p g.params args)
IsTyped p table ty (io op port index value) = IsPortOperation table ty (port_operation op) port index value
IsTyped p table ty (group acquire g) = (g < length table.groups.items) × (ty ≡ void)
IsTyped p table ty (bind d choice) =
    IsSomeAnd (slice_get table.dynamics.items d) (λ x. choice < length x.choices.items) × (ty ≡ void)
IsTyped p table ty (dynamic_group acquire d) = (d < length table.dynamics.items) × (ty ≡ void)
