-- Intermediate programs that are well formed: the rules of a valid program as far as operations have such parts, the
-- bytes of each temporary, and labels that stand once.
use Rattle.std.specs.Prelude.{◌≡◌, ◌⊎◌, ℕ, ◌+◌, ◌==◌, ◌<◌, ◌≤◌, ◌*◌, ◌-◌, ◌^◌, ◌≤ℤ◌, neg_ℤ, if◌then◌else◌, ℤ, pos, ⊤}
use Rattle.std.specs.Prelude.{IsTrue, IsSomeAnd, List, [], ◌∷◌, length, AllPairs, Contains, Option, Some, None}
use Rattle.std.specs.Prelude.{slice_get}
use Rattle.std.specs.List.{AllByRecursion}
use Rattle.ec_space.specs.declared.space.SpaceId.{SpaceId}
use Rattle.ec_space.specs.Spaces.{holds, width}
use Rattle.ec_core.specs.declared.expressions.BinOp.{BinOp}
use Rattle.ec_core.specs.declared.expressions.BinOp.TheVariants.{Shl, Shr}
use Rattle.ec_core.specs.ArithmeticTypes.{arithmetic_of}
use Rattle.ec_core.specs.Layout.{IsScalar, AreStructs, PlainLeaf, scalar_size, size_of_type, leaves_of_type}
use Rattle.ec_core.specs.Plain.{PlainType, PlainStorage, param, PlainObject, PlainProgram}
use Rattle.ec_core.specs.Typing.{IsIntegerKind, IsPromoted, HaveUnaryTypes, HaveBinaryTypes, AreConvertible}
use Rattle.ec_core.specs.Valid.{EachFrom, IsObject, ShareNoRegister, HaveOwnNames, IsNamedIn, IsAddressable}
use Rattle.ec_core.specs.Valid.{IsExprType}
use Rattle.ec_ir.specs.Costs.{is_bitwise}
use Rattle.ec_ir.specs.Operations.{PlainIr, constant, copy, address, field, load_at, store_at, load_object}
use Rattle.ec_ir.specs.Operations.{store_object, binary_op, unary_op, conversion, label, jump, branch_zero}
use Rattle.ec_ir.specs.Operations.{call_function, return_from, port_in, port_out, load_cell, store_cell, cell_port}
use Rattle.ec_ir.specs.Operations.{PlainIrFunction, PlainIrProgram}
use Rattle.ec_ir.specs.Operations.{data_of}
use Rattle.ec_ir.specs.declared.operations.Temp.{Temp}

-- ---- labels and calls

-- how often a label stands
abbrev pub count : ℕ → List PlainIr → ℕ
count l [] = 0
count l (label k ∷ code) = (if k == l then 1 else 0) + count l code
count l (i ∷ code) = count l code

-- the functions that operations call
abbrev pub called_in : List PlainIr → List ℕ
called_in [] = []
called_in (call_function f to ∷ code) = f ∷ called_in code
called_in (i ∷ code) = called_in code

-- ---- types

-- the count of a shift may be of any integer type
abbrev pub IsShift : BinOp → Type 0
IsShift Shl = ⊤
IsShift Shr = ⊤
IsShift op = ⊥

pub record HaveCountTypes (op : BinOp) (ty a b : PlainType) : Type 0 where
  pub shift : IsShift op
  pub value : ty ≡ a
  pub left : IsSomeAnd (arithmetic_of a) IsPromoted
  pub count : IsSomeAnd (arithmetic_of b) IsIntegerKind

-- `&`, `|` and `^` may be of one integer type, promoted or not
pub record HaveBitTypes (op : BinOp) (ty a b : PlainType) : Type 0 where
  pub bitwise : IsTrue (is_bitwise op)
  pub integer : IsSomeAnd (arithmetic_of ty) IsIntegerKind
  pub left : ty ≡ a
  pub right : ty ≡ b

-- the types of the result and the operands of an operation
abbrev pub HaveOperationTypes : BinOp → PlainType → PlainType → PlainType → Type 0
HaveOperationTypes op ty a b = HaveBinaryTypes op ty a b ⊎ (HaveCountTypes op ty a b ⊎ HaveBitTypes op ty a b)

-- ---- temporaries

-- a temporary among so many places
pub record IsTemp (slots : ℕ) (t : Temp) : Type 0 where
  pub within : t.at < slots
  pub some : 1 ≤ t.bytes
  pub most : t.bytes ≤ 16

-- one with the bytes of a scalar type
pub record IsTempOf (program : PlainProgram) (slots : ℕ) (ty : PlainType) (t : Temp) : Type 0 where
  pub temp : IsTemp slots t
  pub scalar : IsScalar ty
  pub known : IsExprType program ty
  pub bytes : t.bytes ≡ scalar_size ty

-- one for pointers into a space
pub record IsPointerTemp (slots : ℕ) (space : SpaceId) (t : Temp) : Type 0 where
  pub temp : IsTemp slots t
  pub bytes : t.bytes ≡ width space

-- the index of a port, of two bytes, where there is one
abbrev pub IsIndex : ℕ → Option Temp → Type 0
IsIndex slots None = ⊤
IsIndex slots (Some t) = IsTemp slots t × (t.bytes ≡ 2)

-- a number of so many bytes, signed or unsigned
pub record IsNumberOf (bytes : ℕ) (n : ℤ) : Type 0 where
  pub low : neg_ℤ (pos (2 ^ (8 * bytes - 1))) ≤ℤ n
  pub high : n ≤ℤ pos (2 ^ (8 * bytes) - 1)

-- the bytes that an operation on a port moves: 1, 2 or 4 of a temporary
pub record IsPortWidth (slots : ℕ) (t : Temp) (bytes : ℕ) : Type 0 where
  pub temp : IsTemp slots t
  pub width : (bytes ≡ 1) ⊎ ((bytes ≡ 2) ⊎ (bytes ≡ 4))
  pub within : bytes ≤ t.bytes

-- a cell among so many, and the temporary of one byte that it is read to or written from
pub record IsCell (cells slots : ℕ) (cell : ℕ) (t : Temp) : Type 0 where
  pub within : cell < cells
  pub temp : IsTemp slots t
  pub byte : t.bytes ≡ 1

-- ---- objects

-- a leaf of so many bytes begins at an offset in an object
pub record HasLeafOf (program : PlainProgram) (o : PlainObject) (offset bytes : ℕ) : Type 0 where
  pub k : ℕ
  pub leaf : PlainLeaf
  pub is : slice_get (leaves_of_type program.structs o.ty) k ≡ Some leaf
  pub at : leaf.at ≡ offset
  pub size : scalar_size leaf.ty ≡ bytes

-- a parameter of a function that is called
pub record IsParameterOf (called : List ℕ) (storage : PlainStorage) : Type 0 where
  pub function : ℕ
  pub is : storage ≡ param function
  pub named : Contains called function

-- a space that an object's home is in, with pointers of so many bytes
pub record HasPointersOf (o : PlainObject) (size : ℕ) : Type 0 where
  pub space : SpaceId
  pub home : IsTrue (holds space o.home)
  pub bytes : size ≡ width space

-- ---- operations

-- how many bytes the result of a function with a number has, where it has one
abbrev pub Results : Type 0
Results = ℕ → ℕ

-- the operations of the function with number f, all of which are the list `code`
module _ (cells : ℕ) (p : PlainIrProgram) (results : Results) (f : ℕ) (slots : ℕ) (code : List PlainIr) where
  abbrev pub IsResult : ℕ → Option Temp → Type 0
  IsResult g None = ⊤
  IsResult g (Some t) = IsTemp slots t × (t.bytes ≡ results g)

  abbrev pub ValidOperation : PlainIr → Type 0
  ValidOperation (constant t n) = IsTemp slots t × IsNumberOf t.bytes n
  ValidOperation (copy to from) = IsTemp slots to × IsTemp slots from × (to.bytes ≡ from.bytes)
  ValidOperation (address t o offset) =
      IsTemp slots t × IsSomeAnd (slice_get p.objects o)
      (λ x. IsNamedIn f x.storage × IsAddressable x.storage × (offset ≤ size_of_type p.structs x.ty)
      × HasPointersOf x t.bytes)
  ValidOperation (field ptr space offset) = IsPointerTemp slots space ptr
  ValidOperation (load_at to ptr space) = IsTemp slots to × IsPointerTemp slots space ptr
  ValidOperation (store_at ptr space from) = IsPointerTemp slots space ptr × IsTemp slots from
  ValidOperation (load_object t o offset) =
      IsTemp slots t × IsSomeAnd (slice_get p.objects o)
      (λ x. IsNamedIn f x.storage × HasLeafOf (data_of p) x offset t.bytes)
  -- an argument is stored to the parameter of the called function
  ValidOperation (store_object o offset t) =
      IsTemp slots t × IsSomeAnd (slice_get p.objects o)
      (λ x. (IsNamedIn f x.storage ⊎ IsParameterOf (called_in code) x.storage)
      × HasLeafOf (data_of p) x offset t.bytes)
  ValidOperation (binary_op op ty mode to a aty b bty) =
      IsTempOf (data_of p) slots ty to × IsTempOf (data_of p) slots aty a × IsTempOf (data_of p) slots bty b
      × HaveOperationTypes op ty aty bty
  ValidOperation (unary_op op ty mode to a) =
      IsTempOf (data_of p) slots ty to × IsTempOf (data_of p) slots ty a
      × IsSomeAnd (arithmetic_of ty) (HaveUnaryTypes op)
  ValidOperation (conversion to ty mode a aty) =
      IsTempOf (data_of p) slots ty to × IsTempOf (data_of p) slots aty a × AreConvertible ty aty
  ValidOperation (label l) = ⊤
  ValidOperation (jump l) = count l code ≡ 1
  ValidOperation (branch_zero t l) = IsTemp slots t × (count l code ≡ 1)
  ValidOperation (call_function g to) = (g < length p.functions) × IsResult g to
  ValidOperation (return_from from) = IsResult f from
  ValidOperation (port_in to port index width) = IsPortWidth slots to width × IsIndex slots index
  ValidOperation (port_out from port index width) = IsPortWidth slots from width × IsIndex slots index
  ValidOperation (load_cell to cell) = IsCell cells slots cell to
  ValidOperation (store_cell cell from) = IsCell cells slots cell from
  ValidOperation (cell_port read t cell offset index width) =
      (cell < cells) × IsPortWidth slots t width × IsIndex slots index

-- ---- programs

pub record ValidIrFunction (cells : ℕ) (p : PlainIrProgram) (results : Results) (f : ℕ) (g : PlainIrFunction) : Type 0 where
  pub slots : g.slots ≤ 65_535
  pub code : AllByRecursion (ValidOperation cells p results f g.slots g.code) g.code

-- the function f calls g, itself or through others
pub data CallsTo (p : PlainIrProgram) (g : ℕ) : ℕ → Type 0 where
  calls : (f : ℕ) (function : PlainIrFunction) → slice_get p.functions f ≡ Some function
      → Contains (called_in function.code) g → CallsTo p g f
  calls_through : (f h : ℕ) (function : PlainIrFunction) → slice_get p.functions f ≡ Some function
      → Contains (called_in function.code) h → CallsTo p g h → CallsTo p g f

-- a program with so many cells, one for each dynamic group of its table
pub record ValidIr (cells : ℕ) (p : PlainIrProgram) : Type 0 where
  pub structs : AreStructs p.structs
  pub objects : AllByRecursion (IsObject (data_of p)) p.objects
  pub registers : AllPairs (ShareNoRegister (data_of p)) p.objects
  pub externals : AllPairs HaveOwnNames p.objects
  -- the bytes of the results of all functions, with which they return and are called
  pub results : Results
  pub functions : EachFrom 0 (ValidIrFunction cells p results) p.functions
  pub main : p.main < length p.functions
  pub main_result : results p.main ≡ 2
  pub no_recursion : (f : ℕ) → ¬ CallsTo p f f
  pub object_count : length p.objects ≤ 1_024
  pub function_count : length p.functions ≤ 256
