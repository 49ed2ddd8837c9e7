-- The laws of types: what conversions make of two operands, which structs a program may have, and where the leaves of a
-- type lie.
use Rattle.std.specs.Prelude.{◌≡◌, ◌==◌, ℕ, suc, ◌+◌, ◌<◌, ◌≤◌, List, [], ◌∷◌, ◌++◌, length, Some, slice_get}
use Rattle.std.specs.List.{AllByRecursion, position_from}
use Rattle.ec_iohw.specs.declared.table.IoTable.{IoTable}
use Rattle.ec_core.specs.declared.arithmetic_types.Arithmetic.{Arithmetic}
use Rattle.ec_core.specs.declared.arithmetic_types.Arithmetic.TheVariants.{Integer, Fixed}
use Rattle.ec_core.specs.declared.arithmetic_types.FixedType.{FixedType}
use Rattle.ec_core.specs.ArithmeticTypes.{type_of, common}
use Rattle.ec_core.specs.ArithmeticValues.{IsKnownType}
use Rattle.ec_core.specs.Layout.{PlainLeaf, scalar_size, type_layout, members_layout, struct_layouts, size_of_type}
use Rattle.ec_core.specs.Layout.{leaves_of_type, NamesBelow, IsScalar, IsObjectType, AreStructs}
use Rattle.ec_core.specs.Operators.{converted_beside, promoted_type}
use Rattle.ec_core.specs.Plain.{PlainType, PlainStruct, PlainObject, PlainProgram}
use Rattle.ec_core.specs.Typing.{int, IsIntegerKind, IsOneByteType, HaveUsualTypes, HaveProductTypes, HaveIntegerTypes}
use Rattle.ec_core.specs.Typing.{HaveShiftTypes, HaveComparedTypes, AreConvertible, IsBranchType}
use Rattle.ec_core.specs.Valid.{Valid}

-- ---- operands that were converted as their operator asks

-- the type that a factor is brought to beside another: an integer of one byte is not promoted
abbrev pub factor_beside : Arithmetic → Arithmetic → Arithmetic
factor_beside (Integer x) y = Integer x
factor_beside (Fixed x) y = converted_beside (Fixed x) y

-- the type that a compared operand is brought to beside another: a fixed-point one stays as it is
abbrev pub compared_beside : Arithmetic → Arithmetic → Arithmetic
compared_beside (Integer x) y = converted_beside (Integer x) y
compared_beside (Fixed x) y = Fixed x

-- operands of two types that were brought to the types beside one another have the types that each operator asks for
pub record ConversionsSuit (x y : Arithmetic) : Type 0 where
  pub result : IsKnownType (common x y)
  pub operand : IsKnownType (converted_beside x y)
  pub convertible : AreConvertible (type_of x) (type_of y)
  pub usual : HaveUsualTypes (common x y) (converted_beside x y) (converted_beside y x)
  pub integers : IsIntegerKind x → IsIntegerKind y
      → HaveIntegerTypes (common x y) (converted_beside x y) (converted_beside y x)
  pub products : IsOneByteType x → IsOneByteType y
      → HaveProductTypes (common x y) (factor_beside x y) (factor_beside y x)
  pub compared : (ty : Arithmetic) → type_of ty ≡ int → HaveComparedTypes ty (compared_beside x y) (compared_beside y x)
  pub shifted : IsIntegerKind y → HaveShiftTypes (promoted_type x) (promoted_type x) (promoted_type y)
  pub branches : IsBranchType (type_of (common x y))

-- the count of a shift stays as it is beside a fixed-point operand
pub record UsualConversions : Type 0 where
  pub suit : (x y : Arithmetic) → IsKnownType x → IsKnownType y → ConversionsSuit x y
  pub counted : (x : FixedType) (y : Arithmetic) → IsIntegerKind y → HaveShiftTypes (Fixed x) (Fixed x) y

-- ---- struct definitions

-- the struct with number i has the layout of its members, which name only earlier structs and have at most 32,767 bytes
-- together
pub record IsLaidOut (structs : List PlainStruct) (i : ℕ) (s : PlainStruct) : Type 0 where
  pub layout : struct_layouts structs i ≡ members_layout (struct_layouts structs) s.members
  pub earlier : AllByRecursion (λ m. IsObjectType i m.ty) s.members
  pub known : AllByRecursion (λ m. IsObjectType (length structs) m.ty) s.members
  pub small : (members_layout (struct_layouts structs) s.members).size ≤ 32_767

-- behind some structs one more leaves their layouts as they are, and those of types that name only them
pub record IsAppended (structs : List PlainStruct) (s : PlainStruct) : Type 0 where
  pub all : AreStructs (structs ++ s ∷ [])
  pub added : struct_layouts (structs ++ s ∷ []) (length structs) ≡ members_layout (struct_layouts structs) s.members
  pub kept : (i : ℕ) → i < length structs → struct_layouts (structs ++ s ∷ []) i ≡ struct_layouts structs i
  pub types : (ty : PlainType) → NamesBelow (length structs) ty
      → type_layout (struct_layouts (structs ++ s ∷ [])) ty ≡ type_layout (struct_layouts structs) ty

-- a struct may be appended whose members name only structs that stand there and have at most 32,767 bytes together
pub record StructsAreLaidOut : Type 0 where
  pub none : AreStructs []
  pub each : (structs : List PlainStruct) (i : ℕ) (s : PlainStruct) → AreStructs structs → slice_get structs i ≡ Some s
      → IsLaidOut structs i s
  pub more : (structs : List PlainStruct) (s : PlainStruct) → AreStructs structs
      → AllByRecursion (λ m. IsObjectType (length structs) m.ty) s.members
      → (members_layout (struct_layouts structs) s.members).size ≤ 32_767 → IsAppended structs s

-- ---- leaves

-- a scalar has from 1 to 8 bytes
pub record IsSmallScalar (ty : PlainType) : Type 0 where
  pub scalar : IsScalar ty
  pub some : 1 ≤ scalar_size ty
  pub most : scalar_size ty ≤ 8

-- from one offset to another, each leaf begins where the one before it ends
abbrev pub FillFrom : ℕ → ℕ → List PlainLeaf → Type 0
FillFrom at end [] = at ≡ end
FillFrom at end (leaf ∷ leaves) =
    (leaf.at ≡ at) × IsSmallScalar leaf.ty × FillFrom (at + scalar_size leaf.ty) end leaves

-- the leaf with number k lies in the object, is the one that begins where it does, and ends where the next begins
pub record IsLeafAt (structs : List PlainStruct) (ty : PlainType) (k : ℕ) (leaf : PlainLeaf) : Type 0 where
  pub scalar : IsSmallScalar leaf.ty
  pub inside : leaf.at + scalar_size leaf.ty ≤ size_of_type structs ty
  pub found : position_from (λ other. other.at == leaf.at) 0 (leaves_of_type structs ty) ≡ Some k
  pub next : (after : PlainLeaf) → slice_get (leaves_of_type structs ty) (suc k) ≡ Some after
      → after.at ≡ leaf.at + scalar_size leaf.ty
  pub apart : (j : ℕ) (after : PlainLeaf) → k < j → slice_get (leaves_of_type structs ty) j ≡ Some after
      → leaf.at + scalar_size leaf.ty ≤ after.at

-- the leaves of a type fill its bytes, from the first to the last
pub record HasLeaves (structs : List PlainStruct) (ty : PlainType) : Type 0 where
  pub filled : FillFrom 0 (size_of_type structs ty) (leaves_of_type structs ty)
  pub each : (k : ℕ) (leaf : PlainLeaf) → slice_get (leaves_of_type structs ty) k ≡ Some leaf
      → IsLeafAt structs ty k leaf

pub record LeavesFillTheirTypes : Type 0 where
  pub types : (structs : List PlainStruct) (ty : PlainType) → AreStructs structs → IsObjectType (length structs) ty
      → HasLeaves structs ty
  pub objects : (program : PlainProgram) (table : IoTable) (o : ℕ) (d : PlainObject) → Valid program table
      → slice_get program.objects o ≡ Some d → HasLeaves program.structs d.ty
