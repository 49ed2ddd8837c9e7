-- What the emitters ask of an operation.
use Rattle.std.specs.Prelude.{◌≡◌, ℕ, ◌+◌, ◌<◌, ◌≤◌, ⊤, Bool, true, false, ◌||◌, Option, Some, None}
use Rattle.ec_asm.specs.Pieces.{HasBytes}
use Rattle.ec_space.specs.Spaces.{width}
use Rattle.ec_core.specs.declared.expressions.BinOp.{BinOp}
use Rattle.ec_core.specs.declared.expressions.BinOp.TheVariants.{Shl, Shr}
use Rattle.ec_core.specs.declared.expressions.UnOp.{UnOp}
use Rattle.ec_core.specs.Layout.{AreStructs, scalar_size}
use Rattle.ec_core.specs.Plain.{PlainType, PlainProgram}
use Rattle.ec_core.specs.Typing.{HaveBinaryTypes, AreConvertible}
use Rattle.ec_core.specs.Valid.{IsExprType}
use Rattle.ec_ir.specs.declared.operations.IrProgram.{IrProgram}
use Rattle.ec_ir.specs.Operations.{plain_ir_program, data_of}
use Rattle.ec_ir.specs.Operations.{PlainIr, constant, copy, address, field, load_at, store_at, load_object}
use Rattle.ec_ir.specs.Operations.{store_object, binary_op, unary_op, conversion, label, jump, branch_zero}
use Rattle.ec_ir.specs.Operations.{call_function, return_from, port_in, port_out, load_cell, store_cell, cell_port}
use Rattle.ec_ir.specs.declared.operations.Temp.{Temp}
use Rattle.ec_select_operations.specs.declared.families.Family.{Family}
use Rattle.ec_select_operations.specs.declared.families.Family.TheVariants.{Combined, Compared, Multiplied, Shifted}
use Rattle.ec_select_operations.specs.declared.families.Family.TheVariants.{Divided}
use Rattle.ec_select_operations.specs.declared.calls.Linking.{Linking}
use Rattle.ec_select_operations.specs.Code.{Linkage, HasResult, family_of}
use Rattle.ec_select_operations.specs.Needs.{is_fixed, takes_number}
use Rattle.ec_select_operations.specs.Places.{object_location}
use Rattle.ec_select_operations.specs.Pointers.{is_pointer, IsPointerSize}
pub use Rattle.ec_select_bytes.specs.Ports.{HasIndexByte}
use Rattle.ec_select_fixed.specs.Types.{AreFixedOperands, IsFixedOperand, AreFixedConverted}

-- the objects and structs of a program, which the emitters look at
abbrev pub declarations : IrProgram → PlainProgram
declarations program = data_of (plain_ir_program program)

-- labels of items stand in a row for the labels of a function, and in another one for the beginnings of functions; routines
-- are told beside
abbrev pub linkage : Linking → Linkage
linkage l = record {
  core = l.core;
  label_of = λ k. l.first_label + k;
  entry_of = λ f. l.first_entry + f;
  homes = l.homes;
  slots = l.slots;
  is_main = l.is_main;
  routine_of = λ i. None;
}

-- a label of items has a number of 64 bits
abbrev pub IsLabel : ℕ → Type 0
IsLabel l = l < 0x1_0000_0000_0000_0000

-- so many bytes of a binary operator's result
abbrev pub BinaryHasBytes : Family → ℕ → (to a b : Temp) → Type 0
BinaryHasBytes (Combined op) wanted to a b = (wanted ≤ to.bytes) × (wanted ≤ a.bytes) × (wanted ≤ b.bytes)
BinaryHasBytes (Compared r exchanged) wanted to a b = (wanted ≤ to.bytes) × (a.bytes ≤ b.bytes)
BinaryHasBytes Multiplied wanted to a b = (wanted ≤ to.bytes) × (1 ≤ a.bytes) × (1 ≤ b.bytes)
BinaryHasBytes (Shifted up) wanted to a b =
    (wanted ≤ a.bytes) × (a.bytes ≤ to.bytes) × (1 ≤ b.bytes)
BinaryHasBytes (Divided r) wanted to a b =
    (1 ≤ a.bytes) × (a.bytes ≤ 4) × (a.bytes ≤ to.bytes) × (a.bytes ≤ b.bytes)

-- the bytes of the second operand that an operator takes which computes its result in its place, or takes a number
abbrev pub second_bytes : BinOp → (bytes : ℕ) → ℕ
second_bytes Shl bytes = 1
second_bytes Shr bytes = 1
second_bytes op bytes = bytes

-- an operator that may take a number of up to 16 bytes in place of the second operand
abbrev pub TakesNumbers : BinOp → (a b : Temp) → Type 0
TakesNumbers op a b = takes_number op ≡ true → (second_bytes op a.bytes ≤ b.bytes) × (a.bytes ≤ 16)

-- of operands that are fixed-point numbers all bytes are there
pub record FixedHasBytes (op : BinOp) (wanted : ℕ) (to a b : Temp) (ty aty bty : PlainType) : Type 0 where
  pub types : AreFixedOperands op ty aty bty
  pub left : a.bytes ≡ scalar_size aty
  pub right : b.bytes ≡ scalar_size bty
  pub result : to.bytes ≡ scalar_size ty
  pub most : wanted ≤ to.bytes

pub record FixedOperandHasBytes (op : UnOp) (wanted : ℕ) (to a : Temp) (ty : PlainType) : Type 0 where
  pub types : IsFixedOperand op ty
  pub operand : a.bytes ≡ scalar_size ty
  pub result : to.bytes ≡ scalar_size ty
  pub most : wanted ≤ to.bytes

pub record FixedConversionHasBytes (wanted : ℕ) (to a : Temp) (ty aty : PlainType) : Type 0 where
  pub types : AreFixedConverted ty aty
  pub from : a.bytes ≡ scalar_size aty
  pub result : to.bytes ≡ scalar_size ty
  pub most : wanted ≤ to.bytes

-- of operands of which one is a pointer at least, to what has a size
pub record PointersHaveBytes (p : PlainProgram) (op : BinOp) (wanted : ℕ) (to a b : Temp) (ty aty bty : PlainType)
    : Type 0 where
  pub types : HaveBinaryTypes op ty aty bty
  pub structs : AreStructs p.structs
  pub left_known : IsExprType p aty
  pub right_known : IsExprType p bty
  pub left : a.bytes ≡ scalar_size aty
  pub right : b.bytes ≡ scalar_size bty
  pub result : to.bytes ≡ scalar_size ty
  pub most : wanted ≤ to.bytes

pub record PointerHasBytes (wanted : ℕ) (to a : Temp) (ty aty : PlainType) : Type 0 where
  pub types : AreConvertible ty aty
  pub from : a.bytes ≡ scalar_size aty
  pub result : to.bytes ≡ scalar_size ty
  pub most : wanted ≤ to.bytes

-- one or the other, by the kind of an operation
abbrev pub OfKind : Bool → (own others : Type 0) → Type 0
OfKind true own others = own
OfKind false own others = others

-- so many bytes of a call's result
abbrev pub CanBeTaken : ℕ → Option Temp → Type 0
CanBeTaken wanted None = ⊤
CanBeTaken wanted (Some t) = (wanted ≤ t.bytes) × (t.bytes ≤ 8)

-- the index of a port, if there is one, has a low byte
abbrev pub IndexHasByte : Option Temp → Type 0
IndexHasByte None = ⊤
IndexHasByte (Some t) = 1 ≤ t.bytes

-- no more bytes are wanted than the temporaries have, and the bytes of an object and labels have numbers
abbrev pub CanBeEmitted : PlainProgram → Linking → ℕ → PlainIr → Type 0
CanBeEmitted p k wanted (constant t n) = (wanted ≤ t.bytes) × (t.bytes ≤ 16)
CanBeEmitted p k wanted (copy to from) = (wanted ≤ to.bytes) × (wanted ≤ from.bytes)
CanBeEmitted p k wanted (load_object t o offset) = HasBytes (object_location p.objects o offset) t.bytes
CanBeEmitted p k wanted (store_object o offset t) =
    HasBytes (object_location p.objects o offset) t.bytes × (t.bytes ≤ 16)
CanBeEmitted p k wanted (binary_op op ty mode to a aty b bty) =
    OfKind (is_fixed aty || is_fixed bty) (FixedHasBytes op wanted to a b ty aty bty)
    (OfKind (is_pointer aty || is_pointer bty) (PointersHaveBytes p op wanted to a b ty aty bty)
    (BinaryHasBytes (family_of op) wanted to a b × TakesNumbers op a b))
CanBeEmitted p k wanted (conversion to ty mode a aty) =
    OfKind (is_fixed ty || is_fixed aty) (FixedConversionHasBytes wanted to a ty aty)
    (OfKind (is_pointer aty) (PointerHasBytes wanted to a ty aty) ((wanted ≤ to.bytes) × (1 ≤ a.bytes)))
CanBeEmitted p k wanted (unary_op op ty mode to a) =
    OfKind (is_fixed ty) (FixedOperandHasBytes op wanted to a ty) ((wanted ≤ to.bytes) × (wanted ≤ a.bytes))
CanBeEmitted p k wanted (return_from from) = HasResult from
CanBeEmitted p k wanted (label l) = IsLabel (k.first_label + l)
CanBeEmitted p k wanted (jump l) = IsLabel (k.first_label + l)
CanBeEmitted p k wanted (branch_zero t l) = IsLabel (k.first_label + l)
CanBeEmitted p k wanted (address t o offset) = IsPointerSize t.bytes × (wanted ≤ t.bytes)
CanBeEmitted p k wanted (field ptr space offset) = 2 ≤ ptr.bytes
CanBeEmitted p k wanted (load_at to ptr space) = ptr.bytes ≡ width space
CanBeEmitted p k wanted (store_at ptr space from) = 2 ≤ ptr.bytes
CanBeEmitted p k wanted (call_function f to) = CanBeTaken wanted to × IsLabel (k.first_entry + f)
CanBeEmitted p k wanted (port_in to port index width) =
    (wanted ≤ to.bytes) × (1 ≤ width) × (width ≤ to.bytes) × IndexHasByte index
CanBeEmitted p k wanted (port_out from port index width) = (width ≤ from.bytes) × IndexHasByte index
CanBeEmitted p k wanted (load_cell to cell) = ⊤
CanBeEmitted p k wanted (store_cell cell from) = ⊤
CanBeEmitted p k wanted (cell_port true to cell offset index width) =
    (wanted ≤ to.bytes) × (1 ≤ width) × (width ≤ to.bytes) × IndexHasByte index
CanBeEmitted p k wanted (cell_port false from cell offset index width) = (width ≤ from.bytes) × IndexHasByte index

-- so many bytes of the result of a call of a routine, and operands that the routine has room for
abbrev pub CanBeCalled : ℕ → PlainIr → Type 0
CanBeCalled wanted (binary_op op ty mode to a aty b bty) = (wanted ≤ to.bytes) × (a.bytes ≤ 8) × (b.bytes ≤ 8)
CanBeCalled wanted (unary_op op ty mode to a) = (wanted ≤ to.bytes) × (a.bytes ≤ 8)
CanBeCalled wanted (conversion to ty mode a aty) = (wanted ≤ to.bytes) × (a.bytes ≤ 8)
CanBeCalled wanted i = ⊤

-- an operation that may call a routine
abbrev pub CanBeLinked : (routine : Option ℕ) → PlainProgram → Linking → ℕ → PlainIr → Type 0
CanBeLinked None p k wanted i = CanBeEmitted p k wanted i
CanBeLinked (Some l) p k wanted i = CanBeCalled wanted i
