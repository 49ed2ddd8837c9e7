-- The operations that have code: for each its temporaries, types and objects.
use Rattle.std.specs.Prelude.{◌≡◌, ◌≢◌, ◌⊎◌, ℕ, ◌<◌, ◌≤◌, ◌==◌, ◌||◌, ⊤, Bool, true, List, [], ◌∷◌, Option, Some}
use Rattle.std.specs.Prelude.{None}
use Rattle.std.specs.Prelude.{IsSomeAnd, slice_get}
use Rattle.std.specs.List.{position_from}
use Rattle.ec_space.specs.declared.space.SpaceId.{SpaceId}
use Rattle.ec_space.specs.Spaces.{width}
use Rattle.ec_core.specs.Layout.{AreStructs, scalar_size, size_of_type, leaves_of_type}
use Rattle.ec_core.specs.Plain.{PlainType, integer, PlainStorage, PlainObject}
use Rattle.ec_core.specs.Plain.{PlainProgram}
use Rattle.ec_core.specs.Typing.{HaveBinaryTypes, AreConvertible}
use Rattle.ec_core.specs.Valid.{IsAddressable, IsExprType, IsNamedIn}
use Rattle.ec_core.specs.declared.expressions.BinOp.{BinOp}
use Rattle.ec_core.specs.declared.expressions.UnOp.{UnOp}
use Rattle.ec_ir.specs.declared.operations.Temp.{Temp}
use Rattle.ec_ir.specs.Operations.{PlainIr, constant, copy, address, field, load_at, store_at, load_object}
use Rattle.ec_ir.specs.Operations.{store_object, binary_op, unary_op, conversion, label, jump, branch_zero}
use Rattle.ec_ir.specs.Operations.{call_function, return_from, port_in, port_out, load_cell, store_cell, cell_port}
use Rattle.ec_ir.specs.Valid.{IsParameterOf, HasPointersOf}
use Rattle.ec_select_operations.specs.declared.families.Family.{Family}
use Rattle.ec_select_operations.specs.declared.families.Family.TheVariants.{Combined, Compared, Multiplied, Shifted}
use Rattle.ec_select_operations.specs.declared.families.Family.TheVariants.{Divided}
use Rattle.ec_select_fixed.specs.Types.{AreFixedOperands, IsFixedOperand, AreFixedConverted}
use Rattle.ec_select_operations.specs.Code.{family_of}
use Rattle.ec_select_operations.specs.Homes.{HasHome}
use Rattle.ec_select_operations.specs.Pointers.{is_pointer, IsPointerSize}

-- a scalar of so many bytes begins at an offset in an object
pub record HasScalarAt (p : PlainProgram) (o offset bytes : ℕ) : Type 0 where
  pub number : ℕ
  pub declared : PlainObject
  pub ty : PlainType
  pub is_object : slice_get p.objects o ≡ Some declared
  pub is_leaf : slice_get (leaves_of_type p.structs declared.ty) number ≡ Some (record { ty = ty; at = offset })
  pub size : scalar_size ty ≡ bytes
  pub found : position_from (λ x. x.at == offset) 0 (leaves_of_type p.structs declared.ty) ≡ Some number

-- operands and result have integer types of as many bytes as their temporaries, all the same
pub record AreIntegers (slots : ℕ) (to a b : Temp) (ty aty bty : PlainType) : Type 0 where
  pub signed : Bool
  pub left_signed : Bool
  pub right_signed : Bool
  pub result_type : ty ≡ integer signed to.bytes
  pub left_type : aty ≡ integer left_signed a.bytes
  pub right_type : bty ≡ integer right_signed b.bytes
  pub result : HasHome slots to
  pub left : HasHome slots a
  pub right : HasHome slots b
  pub left_bytes : a.bytes ≡ to.bytes
  pub right_bytes : b.bytes ≡ to.bytes

-- operands have one integer type, of as many bytes as their temporaries
pub record AreCompared (slots : ℕ) (to a b : Temp) (aty bty : PlainType) : Type 0 where
  pub signed : Bool
  pub left_type : aty ≡ integer signed a.bytes
  pub right_type : bty ≡ integer signed b.bytes
  pub result : HasHome slots to
  pub left : HasHome slots a
  pub right : HasHome slots b
  pub same_bytes : b.bytes ≡ a.bytes

-- operands have integer types of one byte, and the result one of two bytes
pub record AreFactors (slots : ℕ) (to a b : Temp) (ty aty bty : PlainType) : Type 0 where
  pub signed : Bool
  pub left_signed : Bool
  pub right_signed : Bool
  pub result_type : ty ≡ integer signed 2
  pub left_type : aty ≡ integer left_signed 1
  pub right_type : bty ≡ integer right_signed 1
  pub result : HasHome slots to
  pub left : HasHome slots a
  pub right : HasHome slots b
  pub result_bytes : to.bytes ≡ 2
  pub left_bytes : a.bytes ≡ 1
  pub right_bytes : b.bytes ≡ 1

-- the number that is shifted has the type of the result, and the count any integer type
pub record AreShifted (slots : ℕ) (to a b : Temp) (ty aty bty : PlainType) : Type 0 where
  pub signed : Bool
  pub count_signed : Bool
  pub result_type : ty ≡ integer signed to.bytes
  pub left_type : aty ≡ integer signed a.bytes
  pub count_type : bty ≡ integer count_signed b.bytes
  pub result : HasHome slots to
  pub left : HasHome slots a
  pub count : HasHome slots b
  pub same_bytes : a.bytes ≡ to.bytes

-- operands and result have one integer type, of at most four bytes
pub record AreDivided (slots : ℕ) (to a b : Temp) (ty aty bty : PlainType) : Type 0 where
  pub signed : Bool
  pub result_type : ty ≡ integer signed to.bytes
  pub left_type : aty ≡ integer signed a.bytes
  pub right_type : bty ≡ integer signed b.bytes
  pub result : HasHome slots to
  pub left : HasHome slots a
  pub right : HasHome slots b
  pub left_bytes : a.bytes ≡ to.bytes
  pub right_bytes : b.bytes ≡ to.bytes
  pub most : to.bytes ≤ 4

-- a binary operator of a family. The result of a shift and a division is not put to the place of the second operand
abbrev pub IsBinary : Family → ℕ → (to a b : Temp) → (ty aty bty : PlainType) → Type 0
IsBinary (Combined op) slots to a b ty aty bty = AreIntegers slots to a b ty aty bty
IsBinary (Compared r exchanged) slots to a b ty aty bty = AreCompared slots to a b aty bty
IsBinary Multiplied slots to a b ty aty bty = AreFactors slots to a b ty aty bty
IsBinary (Shifted up) slots to a b ty aty bty = AreShifted slots to a b ty aty bty × (to.at ≢ b.at)
IsBinary (Divided r) slots to a b ty aty bty = AreDivided slots to a b ty aty bty × (to.at ≢ b.at)

-- an operator on operands of which one is fixed-point at least: the temporaries have the bytes of their types, and the
-- operands stand at different places
pub record IsFixedBinary (slots : ℕ) (op : BinOp) (to a b : Temp) (ty aty bty : PlainType) : Type 0 where
  pub types : AreFixedOperands op ty aty bty
  pub result : HasHome slots to
  pub left : HasHome slots a
  pub right : HasHome slots b
  pub result_bytes : to.bytes ≡ scalar_size ty
  pub left_bytes : a.bytes ≡ scalar_size aty
  pub right_bytes : b.bytes ≡ scalar_size bty
  pub different : a.at ≢ b.at

-- a negation of a fixed-point number
pub record IsFixedUnary (slots : ℕ) (op : UnOp) (to a : Temp) (ty : PlainType) : Type 0 where
  pub types : IsFixedOperand op ty
  pub result : HasHome slots to
  pub operand : HasHome slots a
  pub result_bytes : to.bytes ≡ scalar_size ty
  pub operand_bytes : a.bytes ≡ scalar_size ty

-- a conversion from or to a fixed-point type
pub record IsFixedConversion (slots : ℕ) (to a : Temp) (ty aty : PlainType) : Type 0 where
  pub types : AreFixedConverted ty aty
  pub result : HasHome slots to
  pub from : HasHome slots a
  pub result_bytes : to.bytes ≡ scalar_size ty
  pub from_bytes : a.bytes ≡ scalar_size aty

-- a pointer to an offset in an object that has an address, of a space that its home is in
pub record IsAddress (p : PlainProgram) (slots : ℕ) (t : Temp) (o offset : ℕ) : Type 0 where
  pub result : HasHome slots t
  pub size : IsPointerSize t.bytes
  pub declared : PlainObject
  pub is_object : slice_get p.objects o ≡ Some declared
  pub addressable : IsAddressable declared.storage
  pub within : offset ≤ size_of_type p.structs declared.ty
  pub of : HasPointersOf declared t.bytes

-- a pointer into a space
abbrev pub IsInto : (slots : ℕ) → SpaceId → Temp → Type 0
IsInto slots space ptr = HasHome slots ptr × (ptr.bytes ≡ width space)

-- an operator on operands of which one is a pointer at least, to what has a size
pub record IsPointerBinary (p : PlainProgram) (slots : ℕ) (op : BinOp) (to a b : Temp) (ty aty bty : PlainType)
    : Type 0 where
  pub pointer : (is_pointer aty || is_pointer bty) ≡ true
  pub types : HaveBinaryTypes op ty aty bty
  pub structs : AreStructs p.structs
  pub left_known : IsExprType p aty
  pub right_known : IsExprType p bty
  pub result : HasHome slots to
  pub left : HasHome slots a
  pub right : HasHome slots b
  pub result_bytes : to.bytes ≡ scalar_size ty
  pub left_bytes : a.bytes ≡ scalar_size aty
  pub right_bytes : b.bytes ≡ scalar_size bty

-- a conversion of a pointer
pub record IsPointerConversion (slots : ℕ) (to a : Temp) (ty aty : PlainType) : Type 0 where
  pub pointer : is_pointer aty ≡ true
  pub types : AreConvertible ty aty
  pub result : HasHome slots to
  pub from : HasHome slots a
  pub result_bytes : to.bytes ≡ scalar_size ty
  pub from_bytes : a.bytes ≡ scalar_size aty

-- operand and result have one integer type, of as many bytes as their temporaries
pub record IsUnary (slots : ℕ) (to a : Temp) (ty : PlainType) : Type 0 where
  pub signed : Bool
  pub result_type : ty ≡ integer signed to.bytes
  pub result : HasHome slots to
  pub operand : HasHome slots a
  pub same_bytes : a.bytes ≡ to.bytes

-- an integer of a temporary is brought to the type of another one
pub record AreConverted (slots : ℕ) (to a : Temp) (ty aty : PlainType) : Type 0 where
  pub signed : Bool
  pub from_signed : Bool
  pub result_type : ty ≡ integer signed to.bytes
  pub from_type : aty ≡ integer from_signed a.bytes
  pub result : HasHome slots to
  pub from : HasHome slots a

-- the result of a function with a number, of as many bytes as its results have
abbrev pub IsResult : (results : ℕ → ℕ) (f slots : ℕ) → Option Temp → Type 0
IsResult results f slots None = ⊤
IsResult results f slots (Some t) = HasHome slots t × (t.bytes ≡ results f)

-- the index of a port has two bytes
abbrev pub HasIndex : (slots : ℕ) → Option Temp → Type 0
HasIndex slots None = ⊤
HasIndex slots (Some t) = HasHome slots t × (t.bytes ≡ 2)

-- 1, 2 or 4 bytes of a port, of as many bytes of a temporary
pub record IsPort (slots : ℕ) (t : Temp) (port : ℕ) (index : Option Temp) (width : ℕ) : Type 0 where
  pub number : HasHome slots t
  pub index_has : HasIndex slots index
  pub one_two_four : (width ≡ 1) ⊎ ((width ≡ 2) ⊎ (width ≡ 4))
  pub within : width ≤ t.bytes
  pub address : port < 256

-- what a function stores to by its name: static objects, its own, and parameters of the functions that it calls
abbrev pub IsStoredIn : (f : ℕ) (called : List ℕ) → PlainStorage → Type 0
IsStoredIn f called storage = IsNamedIn f storage ⊎ IsParameterOf called storage

-- operations of a function with a number, which calls some functions and has so many places of temporaries
abbrev pub IsCovered : PlainProgram → (results : ℕ → ℕ) (f : ℕ) (called : List ℕ) (slots : ℕ) → PlainIr → Type 0
IsCovered p results f called slots (constant t n) = HasHome slots t
IsCovered p results f called slots (copy to from) = HasHome slots to × HasHome slots from × (to.bytes ≡ from.bytes)
IsCovered p results f called slots (load_object t o offset) = HasHome slots t × HasScalarAt p o offset t.bytes
IsCovered p results f called slots (store_object o offset t) =
    HasHome slots t × HasScalarAt p o offset t.bytes × IsSomeAnd (slice_get p.objects o) (λ d. IsStoredIn f called d.storage)
IsCovered p results f called slots (binary_op op ty mode to a aty b bty) =
    IsBinary (family_of op) slots to a b ty aty bty
    ⊎ (IsFixedBinary slots op to a b ty aty bty ⊎ IsPointerBinary p slots op to a b ty aty bty)
IsCovered p results f called slots (unary_op op ty mode to a) = IsUnary slots to a ty ⊎ IsFixedUnary slots op to a ty
IsCovered p results f called slots (label l) = ⊤
IsCovered p results f called slots (jump l) = ⊤
IsCovered p results f called slots (branch_zero t l) = HasHome slots t
IsCovered p results f called slots (return_from from) = IsResult results f slots from
IsCovered p results f called slots (conversion to ty mode a aty) =
    AreConverted slots to a ty aty ⊎ (IsFixedConversion slots to a ty aty ⊎ IsPointerConversion slots to a ty aty)
IsCovered p results f called slots (address t o offset) = IsAddress p slots t o offset
IsCovered p results f called slots (field ptr space offset) = IsInto slots space ptr
IsCovered p results f called slots (load_at to ptr space) = HasHome slots to × IsInto slots space ptr
IsCovered p results f called slots (store_at ptr space from) = HasHome slots from × IsInto slots space ptr
IsCovered p results f called slots (call_function g to) = IsResult results g slots to
IsCovered p results f called slots (port_in to port index width) = IsPort slots to port index width
IsCovered p results f called slots (port_out from port index width) = IsPort slots from port index width
IsCovered p results f called slots (load_cell to cell) = HasHome slots to × (to.bytes ≡ 1)
IsCovered p results f called slots (store_cell cell from) = HasHome slots from × (from.bytes ≡ 1)
IsCovered p results f called slots (cell_port read t cell offset index width) = IsPort slots t offset index width

abbrev pub AreCovered : PlainProgram → (results : ℕ → ℕ) (f : ℕ) (called : List ℕ) (slots : ℕ) → List PlainIr → Type 0
AreCovered p results f called slots [] = ⊤
AreCovered p results f called slots (i ∷ code) = IsCovered p results f called slots i × AreCovered p results f called slots code
