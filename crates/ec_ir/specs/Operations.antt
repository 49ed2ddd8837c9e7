-- Intermediate programs as plain lists, without the pointers and the spare room of the types that hold them.
use Rattle.std.specs.Prelude.{ℕ, ℤ, Bool, List, [], map, Option}
use Rattle.ec_fx.specs.declared.numbers.Mode.{Mode}
use Rattle.ec_space.specs.declared.space.SpaceId.{SpaceId}
use Rattle.ec_core.specs.declared.expressions.BinOp.{BinOp}
use Rattle.ec_core.specs.declared.expressions.UnOp.{UnOp}
use Rattle.ec_core.specs.Plain.{PlainType, void, plain_type, PlainStruct, plain_struct, PlainObject, plain_object}
use Rattle.ec_core.specs.Plain.{statement, empty, PlainFunction, PlainProgram}
use Rattle.ec_ir.specs.declared.operations.Ir.{Ir}
use Rattle.ec_ir.specs.declared.operations.Ir.TheVariants.{Const, Copy, Addr, Field, Load, Store, LoadObj, StoreObj}
use Rattle.ec_ir.specs.declared.operations.Ir.TheVariants.{Bin, Un, Conv, Label, Jump, BranchZero, Call, Return, PortIn}
use Rattle.ec_ir.specs.declared.operations.Ir.TheVariants.{PortOut, LoadCell, StoreCell, CellPort}
use Rattle.ec_ir.specs.declared.operations.IrFunc.{IrFunc}
use Rattle.ec_ir.specs.declared.operations.IrProgram.{IrProgram}
use Rattle.ec_ir.specs.declared.operations.Temp.{Temp}

-- ---- operations

pub data PlainIr : Type 0 where
  constant : (to : Temp) → ℤ → PlainIr
  copy : (to from : Temp) → PlainIr
  address : (to : Temp) → (object offset : ℕ) → PlainIr
  field : (ptr : Temp) → SpaceId → (offset : ℕ) → PlainIr
  load_at : (to ptr : Temp) → SpaceId → PlainIr
  store_at : (ptr : Temp) → SpaceId → (from : Temp) → PlainIr
  load_object : (to : Temp) → (object offset : ℕ) → PlainIr
  store_object : (object offset : ℕ) → (from : Temp) → PlainIr
  binary_op : BinOp → PlainType → Mode → (to a : Temp) → (aty : PlainType) → (b : Temp) → (bty : PlainType) → PlainIr
  unary_op : UnOp → PlainType → Mode → (to a : Temp) → PlainIr
  conversion : (to : Temp) → PlainType → Mode → (a : Temp) → (aty : PlainType) → PlainIr
  label : ℕ → PlainIr
  jump : ℕ → PlainIr
  branch_zero : Temp → ℕ → PlainIr
  call_function : ℕ → (to : Option Temp) → PlainIr
  return_from : (from : Option Temp) → PlainIr
  port_in : (to : Temp) → (port : ℕ) (index : Option Temp) (width : ℕ) → PlainIr
  port_out : (from : Temp) → (port : ℕ) (index : Option Temp) (width : ℕ) → PlainIr
  load_cell : (to : Temp) → (cell : ℕ) → PlainIr
  store_cell : (cell : ℕ) → (from : Temp) → PlainIr
  cell_port : (read : Bool) → (t : Temp) → (cell offset : ℕ) (index : Option Temp) (width : ℕ) → PlainIr

abbrev pub plain_ir : Ir → PlainIr
plain_ir (Const t n) = constant t n
plain_ir (Copy to from) = copy to from
plain_ir (Addr t o offset) = address t o offset
plain_ir (Field ptr space offset) = field ptr space offset
plain_ir (Load to ptr space) = load_at to ptr space
plain_ir (Store ptr space from) = store_at ptr space from
plain_ir (LoadObj t o offset) = load_object t o offset
plain_ir (StoreObj o offset t) = store_object o offset t
plain_ir (Bin op ty mode to a aty b bty) = binary_op op (plain_type ty) mode to a (plain_type aty) b (plain_type bty)
plain_ir (Un op ty mode to a) = unary_op op (plain_type ty) mode to a
plain_ir (Conv to ty mode a aty) = conversion to (plain_type ty) mode a (plain_type aty)
plain_ir (Label l) = label l
plain_ir (Jump l) = jump l
plain_ir (BranchZero t l) = branch_zero t l
plain_ir (Call f to) = call_function f to
plain_ir (Return from) = return_from from
plain_ir (PortIn to port index width) = port_in to port index width
plain_ir (PortOut from port index width) = port_out from port index width
plain_ir (LoadCell to cell) = load_cell to cell
plain_ir (StoreCell cell from) = store_cell cell from
plain_ir (CellPort read t cell offset index width) = cell_port read t cell offset index width

-- ---- programs

pub record PlainIrFunction : Type 0 where
  pub code : List PlainIr
  pub slots : ℕ

pub record PlainIrProgram : Type 0 where
  pub functions : List PlainIrFunction
  pub objects : List PlainObject
  pub structs : List PlainStruct
  pub main : ℕ

abbrev pub plain_ir_function : IrFunc → PlainIrFunction
plain_ir_function f = record { code = map plain_ir f.code.items; slots = f.slots }

abbrev pub plain_ir_program : IrProgram → PlainIrProgram
plain_ir_program p =
    record {
      functions = map plain_ir_function p.funcs.items;
      objects = map plain_object p.objs.items;
      structs = map plain_struct p.structs.items;
      main = p.main;
    }

-- ---- data

abbrev pub idle_function : PlainIrFunction → PlainFunction
idle_function f = record { name = []; unit = 0; returns = void; params = []; body = statement 0 0 empty }

-- the objects and structs, as those of a program whose functions do nothing: what accesses and operators look at
abbrev pub data_of : PlainIrProgram → PlainProgram
data_of p =
    record { structs = p.structs; objects = p.objects; functions = map idle_function p.functions; main = p.main }
