-- What a valid program asks of the operands in a body, and that each form makes such an operand of such ones.
use Rattle.std.specs.Prelude.{ℕ, ◌≡◌, ◌⊎◌, ◌<◌, ◌≤◌, ℤ, pos, Bool, true, false, ⊤, List, length, Option, Some, None}
use Rattle.std.specs.Prelude.{slice_get}
use Rattle.ec_fx.specs.declared.formats.FxKind.{FxKind}
use Rattle.ec_iohw.specs.declared.operations.IoOp.{IoOp}
use Rattle.ec_iohw.specs.declared.table.Dynamic.{Dynamic}
use Rattle.ec_iohw.specs.declared.table.IoTable.{IoTable}
use Rattle.ec_iohw.specs.declared.table.Port.{Port}
use Rattle.ec_space.specs.declared.space.SpaceId.{SpaceId}
use Rattle.ec_core.specs.declared.arithmetic_types.Arithmetic.TheVariants.{Integer, Fixed}
use Rattle.ec_core.specs.declared.expressions.BinOp.{BinOp}
use Rattle.ec_core.specs.ArithmeticValues.{HoldsNumber, is_comparison}
use Rattle.ec_core.specs.Layout.{IsIntegerSize, IsObjectType, IsScalar, size_of_type}
use Rattle.ec_core.specs.Plain.{PlainType, void, integer, fixed, pointer, array, struct, PlainStruct, PlainObject}
use Rattle.ec_core.specs.Plain.{PlainExpr, PlainPlace, object, PlainExprs, PlainFunction, PlainProgram}
use Rattle.ec_core.specs.PortOperations.{port_operation}
use Rattle.ec_core.specs.Typing.{type_of_expr, type_of_member, place_type, place_space, place_is_const, AreArguments}
use Rattle.ec_core.specs.Typing.{unsigned_int, port_value}
use Rattle.ec_core.specs.Valid.{IsNamedIn, IsAddressable, HasAddress, IsScalarOrVoid, ValidExpr, ValidPlace, ValidExprs}
use Rattle.ec_check_operands.specs.declared.operands.Modes.{Modes}
use Rattle.ec_check_forms.specs.declared.ports.Binding.{Binding}
use Rattle.ec_check_forms.specs.declared.ports.NamedGroup.{NamedGroup}
use Rattle.ec_check_forms.specs.declared.ports.NamedGroup.TheVariants as groups
use Rattle.ec_check_forms.specs.declared.ports.NamedPort.{NamedPort}
use Rattle.ec_check_forms.specs.declared.prefixes.PrefixOp.{PrefixOp}
use Rattle.ec_check_forms.specs.Calls.{called, accessed, group_operation, binding_operation, size_value, whole_constant}
use Rattle.ec_check_forms.specs.Calls.{fixed_constant}
use Rattle.ec_check_forms.specs.Constraints.{IsInteger, IsArithmetic}
use Rattle.ec_check_forms.specs.Nodes.{used, used_part, condition, prefixed, stepped, assigned, compounded}
use Rattle.ec_check_forms.specs.Accesses.{indexed}
use Rattle.ec_check_forms.specs.Accesses.{member_of}
use Rattle.ec_check_forms.specs.Choices.{logical, sequence, chosen, cast}
use Rattle.ec_check_operands.specs.Operands.{Operand, place, value, with_one, with_both}
use Rattle.ec_check_operands.specs.Operators.{operated}
use Rattle.ec_check_operands.specs.Passing.{passed}

-- ---- types

-- a type whose values can be used: a pointer leads to what an object can be, of at least one byte, and so on from there
abbrev pub IsUsable : List PlainStruct → PlainType → Type 0
IsUsable structs void = ⊤
IsUsable structs (integer signed bytes) = IsIntegerSize bytes
IsUsable structs (fixed kind sat) = ⊤
IsUsable structs (pointer space const to) =
    IsObjectType (length structs) to × (1 ≤ size_of_type structs to) × IsUsable structs to
IsUsable structs (array of len) = IsUsable structs of
IsUsable structs (struct index) = ⊤

-- the type of a place
pub record IsPlaceType (structs : List PlainStruct) (ty : PlainType) : Type 0 where
  pub object : IsObjectType (length structs) ty
  pub some : 1 ≤ size_of_type structs ty
  pub usable : IsUsable structs ty

abbrev pub HaveMembers : List PlainStruct → Type 0
HaveMembers structs =
    (i k : ℕ) (ty : PlainType) → type_of_member structs (struct i) k ≡ Some ty → IsPlaceType structs ty

-- ---- operands in a body of the function with number f

-- a place with its type, its space and whether it is const; but for a number in a named register it has an address
pub record IsPlace (p : PlainProgram) (table : IoTable) (f : ℕ) (ty : PlainType) (const : Bool) (space : SpaceId)
    (register : Bool) (q : PlainPlace) : Type 0 where
  pub kind : IsPlaceType p.structs ty
  pub typed : place_type p q ≡ Some ty
  pub spaced : place_space p q ≡ Some space
  pub constness : place_is_const p q ≡ const
  pub parts : ValidPlace p table f q
  pub addressed : HasAddress p q ⊎ ((register ≡ true) × IsArithmetic ty)

-- the null constant is an integer
pub record IsValue (p : PlainProgram) (table : IoTable) (f : ℕ) (e : PlainExpr) (zero : Bool) : Type 0 where
  pub valid : ValidExpr p table f e
  pub usable : IsUsable p.structs (type_of_expr e)
  pub null : zero ≡ true → IsInteger (type_of_expr e)

abbrev pub IsOperand : PlainProgram → IoTable → ℕ → Operand → Type 0
IsOperand p table f (place ty const space register q) = IsPlace p table f ty const space register q
IsOperand p table f (value e zero) = IsValue p table f e zero

-- where there is one
abbrev pub IsOptional : PlainProgram → IoTable → ℕ → Option Operand → Type 0
IsOptional p table f None = ⊤
IsOptional p table f (Some x) = IsOperand p table f x

-- an expression of a type, where there is one
abbrev pub IsOfType : PlainProgram → IoTable → ℕ → PlainType → Option PlainExpr → Type 0
IsOfType p table f ty None = ⊤
IsOfType p table f ty (Some e) = ValidExpr p table f e × (type_of_expr e ≡ ty)

abbrev pub IsCondition : PlainProgram → IoTable → ℕ → Option PlainExpr → Type 0
IsCondition p table f None = ⊤
IsCondition p table f (Some e) = ValidExpr p table f e × IsScalar (type_of_expr e)

-- the table has a group or a dynamic group with this number
abbrev pub IsInTable : IoTable → NamedGroup → Type 0
IsInTable table (groups.Group n) = n < length table.groups.items
IsInTable table (groups.Dynamic n) = n < length table.dynamics.items

-- ---- the law

-- forms of the program's own objects, functions, ports and constants
pub record NamesAreOperands (p : PlainProgram) (table : IoTable) (f : ℕ) : Type 0 where
  pub objects : (o : ℕ) (x : PlainObject) (register : Bool) → slice_get p.objects o ≡ Some x
      → IsPlaceType p.structs x.ty → IsNamedIn f x.storage
      → IsAddressable x.storage ⊎ ((register ≡ true) × IsArithmetic x.ty)
      → IsOperand p table f (place x.ty x.const x.space register (object o))
  pub calls : (m : Modes) (n : ℕ) (g : PlainFunction) (args : PlainExprs) → slice_get p.functions n ≡ Some g
      → IsScalarOrVoid g.returns → IsUsable p.structs g.returns → ValidExprs p table f args
      → AreArguments p g.params args → IsOptional p table f (called m n g.returns (Some args))
  pub wholes : (m : Modes) (signed : Bool) (bytes n : ℕ)
      → HoldsNumber (Integer (record { signed = signed; bytes = bytes })) (pos n)
      → IsOperand p table f (whole_constant m signed bytes n)
  pub fixeds : (m : Modes) (kind : FxKind) (n : ℤ) → HoldsNumber (Fixed (record { kind = kind; sat = false })) n
      → IsOperand p table f (fixed_constant m kind n)
  pub ports : (m : Modes) (op : IoOp) (n : NamedPort) (port : Port) (index v : Option PlainExpr)
      → slice_get table.ports.items n.number ≡ Some port → n.width ≡ port.width → IsOfType p table f unsigned_int index
      → IsOfType p table f (port_value (port_operation op)) v → IsOptional p table f (accessed m op index v n)
  pub groups : (m : Modes) (acquire : Bool) (g : NamedGroup) (count : ℕ) → IsInTable table g
      → IsOptional p table f (group_operation m acquire (Some g) count)
  pub bindings : (m : Modes) (b : Binding) (d : Dynamic) → slice_get table.dynamics.items b.dynamic ≡ Some d
      → b.choice < length d.choices.items → IsOptional p table f (binding_operation m (Some b))

-- every form of operands; the mode and the operator may be any
pub record FormsAreOperands (p : PlainProgram) (table : IoTable) (f : ℕ) (m : Modes)
    (x y : Option Operand) : Type 0 where
  pub conditions : IsCondition p table f (condition m x)
  pub passed : (to : PlainType) → IsScalar to → IsUsable p.structs to → IsOfType p table f to (passed m (Some to) x)
  pub operations : (op : BinOp) → IsOptional p table f (operated m op x y)
  pub prefixes : (op : PrefixOp) → IsOptional p table f (with_one x (prefixed m op))
  pub steps : (up prefix : Bool) → IsOptional p table f (with_one x (stepped m up prefix))
  pub assignments : IsOptional p table f (with_both x y (assigned m))
  pub compounds : (op : BinOp) → is_comparison op ≡ false → IsOptional p table f (with_both x y (compounded m op))
  pub subscripts : IsOptional p table f (with_both x y (indexed m))
  pub members : (name : List ℕ) (arrow : Bool) → HaveMembers p.structs
      → IsOptional p table f (with_one x (member_of m p.structs name arrow))
  pub logicals : (both : Bool) → IsOptional p table f (logical m both (condition m x) (condition m y))
  pub sequences : IsOptional p table f (with_both (used_part (used x)) (used_part (used y)) (sequence m))
  pub choices : (c : Option Operand) → IsOptional p table f c
      → IsOptional p table f (with_both x y (λ a b. with_one (condition m c) (λ e. chosen m e a b)))
  pub casts : (to : PlainType) → IsUsable p.structs to → IsOptional p table f (with_both (Some to) x (cast m))

abbrev pub FormsStayValid : Type 0
FormsStayValid =
    (p : PlainProgram) (table : IoTable) (f : ℕ) (m : Modes) (x y : Option Operand) → IsOptional p table f x
    → IsOptional p table f y → FormsAreOperands p table f m x y

abbrev pub NamesAreValid : Type 0
NamesAreValid = (p : PlainProgram) (table : IoTable) (f : ℕ) → NamesAreOperands p table f

-- the value of `sizeof` is so where unsigned int holds it
abbrev pub SizesAreValid : Type 0
SizesAreValid =
    (p : PlainProgram) (table : IoTable) (f : ℕ) (m : Modes) (ty : PlainType) → size_of_type p.structs ty ≤ 65_535
    → IsOperand p table f (size_value m p.structs ty)
