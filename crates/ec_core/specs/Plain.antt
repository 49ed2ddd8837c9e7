-- Programs as plain trees, without the pointers and the spare room of the types that hold them. Two programs are the
-- same where their plain trees are equal.
use Rattle.std.specs.Prelude.{ℕ, Bool, ℤ, List, [], ◌∷◌, map, Option, option_map}
use Rattle.ec_fx.specs.declared.formats.FxKind.{FxKind}
use Rattle.ec_fx.specs.declared.numbers.Mode.{Mode}
use Rattle.ec_iohw.specs.declared.operations.IoOp.{IoOp}
use Rattle.ec_space.specs.declared.space.Home.{Home}
use Rattle.ec_space.specs.declared.space.SpaceId.{SpaceId}
use Rattle.ec_core.specs.declared.expressions.BinOp.{BinOp}
use Rattle.ec_core.specs.declared.expressions.UnOp.{UnOp}
use Rattle.ec_core.specs.declared.programs.Func.{Func}
use Rattle.ec_core.specs.declared.programs.LeafInit.{LeafInit}
use Rattle.ec_core.specs.declared.programs.Obj.{Obj}
use Rattle.ec_core.specs.declared.programs.Program.{Program}
use Rattle.ec_core.specs.declared.programs.Storage.{Storage}
use Rattle.ec_core.specs.declared.programs.Storage.TheVariants.{Static, Local as LocalOf, Param, Register}
use Rattle.ec_core.specs.declared.types.Member.{Member}
use Rattle.ec_core.specs.declared.types.StructDef.{StructDef}
use Rattle.ec_core.specs.Generated.{CType, Void, Int, Fx, Ptr, Array, Struct, Expr, PlaceExpr, Object, Deref, MemberOf}
use Rattle.ec_core.specs.Generated.{Node, Number, Null, Load, AddressOf, Unary, Binary, Convert, Assign, Compound, Step}
use Rattle.ec_core.specs.Generated.{Not, And, Or, Cond, Comma, Call, Io, Group, Bind, DynGroup, OptionExpr, NoExpr, AnExpr, ExprRow}
use Rattle.ec_core.specs.Generated.{LastExpr, NextExpr, Stmt, StmtKind, Empty, Do1, Block, Local, If, While, DoWhile}
use Rattle.ec_core.specs.Generated.{For, Break, Continue, Return, OptionStmt, NoStmt, AStmt, StmtRow, LastStmt}
use Rattle.ec_core.specs.Generated.{NextStmt}

-- ---- types

pub data PlainType : Type 0 where
  void : PlainType
  integer : (signed : Bool) (bytes : ℕ) → PlainType
  fixed : (kind : FxKind) (saturates : Bool) → PlainType
  pointer : (space : SpaceId) (const : Bool) → PlainType → PlainType
  array : PlainType → (len : ℕ) → PlainType
  struct : (index : ℕ) → PlainType

abbrev pub plain_type : CType → PlainType
plain_type Void = void
plain_type (Int signed bytes) = integer signed bytes
plain_type (Fx kind sat) = fixed kind sat
plain_type (Ptr space konst p to) = pointer space konst (plain_type to)
plain_type (Array p of len) = array (plain_type of) len
plain_type (Struct index) = struct index

pub record PlainMember : Type 0 where
  pub name : List ℕ
  pub ty : PlainType

pub record PlainStruct : Type 0 where
  pub tag : List ℕ
  pub members : List PlainMember

abbrev pub plain_member : Member → PlainMember
plain_member m = record { name = m.name.items; ty = plain_type m.ty }

abbrev pub plain_struct : StructDef → PlainStruct
plain_struct s = record { tag = s.tag.items; members = map plain_member s.members.items }

-- ---- expressions

mutual
  pub data PlainExpr : Type 0 where
    expression : PlainType → Mode → PlainNode → PlainExpr

  pub data PlainNode : Type 0 where
    number : ℤ → PlainNode
    null : PlainNode
    load : PlainPlace → PlainNode
    address_of : PlainPlace → PlainNode
    unary : UnOp → PlainExpr → PlainNode
    binary : BinOp → PlainExpr → PlainExpr → PlainNode
    convert : PlainExpr → PlainNode
    assign : PlainPlace → PlainExpr → PlainNode
    compound : BinOp → Mode → PlainPlace → PlainExpr → PlainNode
    step : (up : Bool) (prefix : Bool) → PlainPlace → PlainNode
    logical_not : PlainExpr → PlainNode
    logical_and : PlainExpr → PlainExpr → PlainNode
    logical_or : PlainExpr → PlainExpr → PlainNode
    conditional : PlainExpr → PlainExpr → PlainExpr → PlainNode
    comma : PlainExpr → PlainExpr → PlainNode
    call : (function : ℕ) → PlainExprs → PlainNode
    io : IoOp → (port : ℕ) (index : OptionPlainExpr) (value : OptionPlainExpr) → PlainNode
    group : (acquire : Bool) (index : ℕ) → PlainNode
    bind : (dynamic choice : ℕ) → PlainNode
    dynamic_group : (acquire : Bool) (dynamic : ℕ) → PlainNode

  pub data PlainPlace : Type 0 where
    object : (index : ℕ) → PlainPlace
    deref : PlainExpr → PlainPlace
    member : PlainPlace → (index : ℕ) → PlainPlace

  pub data OptionPlainExpr : Type 0 where
    no_expr : OptionPlainExpr
    an_expr : PlainExpr → OptionPlainExpr

  pub data PlainExprs : Type 0 where
    last_expr : PlainExprs
    next_expr : PlainExpr → PlainExprs → PlainExprs

abbrev mutual
  pub plain_node : Node → PlainNode
  plain_node (Number n) = number n
  plain_node Null = null
  plain_node (Load p) = load (plain_place p)
  plain_node (AddressOf p) = address_of (plain_place p)
  plain_node (Unary op _ ty mode node) = unary op (expression (plain_type ty) mode (plain_node node))
  plain_node (Binary op _ aty amode a _ bty bmode b) =
      binary op (expression (plain_type aty) amode (plain_node a)) (expression (plain_type bty) bmode (plain_node b))
  plain_node (Convert _ ty mode node) = convert (expression (plain_type ty) mode (plain_node node))
  plain_node (Assign p _ ty mode node) = assign (plain_place p) (expression (plain_type ty) mode (plain_node node))
  plain_node (Compound op operation_mode p _ ty mode node) =
      compound op operation_mode (plain_place p) (expression (plain_type ty) mode (plain_node node))
  plain_node (Step up prefix p) = step up prefix (plain_place p)
  plain_node (Not _ ty mode node) = logical_not (expression (plain_type ty) mode (plain_node node))
  plain_node (And _ aty amode a _ bty bmode b) =
      logical_and (expression (plain_type aty) amode (plain_node a)) (expression (plain_type bty) bmode (plain_node b))
  plain_node (Or _ aty amode a _ bty bmode b) =
      logical_or (expression (plain_type aty) amode (plain_node a)) (expression (plain_type bty) bmode (plain_node b))
  plain_node (Cond _ cty cmode c _ aty amode a _ bty bmode b) =
      conditional (expression (plain_type cty) cmode (plain_node c)) (expression (plain_type aty) amode (plain_node a))
      (expression (plain_type bty) bmode (plain_node b))
  plain_node (Comma _ aty amode a _ bty bmode b) =
      comma (expression (plain_type aty) amode (plain_node a)) (expression (plain_type bty) bmode (plain_node b))
  plain_node (Call f shape args) = call f (plain_expr_row args)
  plain_node (Io op port index value) = io op port (plain_option_expr index) (plain_option_expr value)
  plain_node (Group acquire g) = group acquire g
  plain_node (Bind d c) = bind d c
  plain_node (DynGroup acquire d) = dynamic_group acquire d

  pub plain_place : PlaceExpr → PlainPlace
  plain_place (Object o) = object o
  plain_place (Deref _ ty mode node) = deref (expression (plain_type ty) mode (plain_node node))
  plain_place (MemberOf _ p i) = member (plain_place p) i

  pub plain_option_expr : OptionExpr → OptionPlainExpr
  plain_option_expr NoExpr = no_expr
  plain_option_expr (AnExpr _ ty mode node) = an_expr (expression (plain_type ty) mode (plain_node node))

  pub plain_expr_row : {m : _} → ExprRow m → PlainExprs
  plain_expr_row LastExpr = last_expr
  plain_expr_row (NextExpr ty mode node rest) =
      next_expr (expression (plain_type ty) mode (plain_node node)) (plain_expr_row rest)

abbrev pub plain_expr : Expr → PlainExpr
plain_expr e = expression (plain_type e.ty) e.mode (plain_node e.node)

abbrev pub plain_exprs : List Expr → PlainExprs
plain_exprs [] = last_expr
plain_exprs (e ∷ es) = next_expr (plain_expr e) (plain_exprs es)

-- ---- statements

mutual
  pub data PlainStmt : Type 0 where
    statement : (unit : ℕ) (at : ℕ) → PlainKind → PlainStmt

  pub data PlainKind : Type 0 where
    empty : PlainKind
    evaluate : PlainExpr → PlainKind
    block : PlainStmts → PlainKind
    declare : (object : ℕ) → PlainExprs → PlainKind
    branch : PlainExpr → PlainStmt → OptionPlainStmt → PlainKind
    while_loop : PlainExpr → PlainStmt → PlainKind
    do_loop : PlainStmt → PlainExpr → PlainKind
    for_loop : OptionPlainStmt → Option PlainExpr → Option PlainExpr → PlainStmt → PlainKind
    break_loop : PlainKind
    continue_loop : PlainKind
    return_value : Option PlainExpr → PlainKind

  pub data OptionPlainStmt : Type 0 where
    no_stmt : OptionPlainStmt
    a_stmt : PlainStmt → OptionPlainStmt

  pub data PlainStmts : Type 0 where
    last_stmt : PlainStmts
    next_stmt : PlainStmt → PlainStmts → PlainStmts

abbrev mutual
  pub plain_kind : StmtKind → PlainKind
  plain_kind Empty = empty
  plain_kind (Do1 e) = evaluate (plain_expr e)
  plain_kind (Block shape ss) = block (plain_stmt_row ss)
  plain_kind (Local o es) = declare o (plain_exprs es.items)
  plain_kind (If c _ u at a b) = branch (plain_expr c) (statement u at (plain_kind a)) (plain_option_stmt b)
  plain_kind (While c _ u at s) = while_loop (plain_expr c) (statement u at (plain_kind s))
  plain_kind (DoWhile _ u at s c) = do_loop (statement u at (plain_kind s)) (plain_expr c)
  plain_kind (For i c n _ u at s) =
      for_loop (plain_option_stmt i) (option_map plain_expr c) (option_map plain_expr n) (statement u at (plain_kind s))
  plain_kind Break = break_loop
  plain_kind Continue = continue_loop
  plain_kind (Return e) = return_value (option_map plain_expr e)

  pub plain_option_stmt : OptionStmt → OptionPlainStmt
  plain_option_stmt NoStmt = no_stmt
  plain_option_stmt (AStmt _ u at s) = a_stmt (statement u at (plain_kind s))

  pub plain_stmt_row : {m : _} → StmtRow m → PlainStmts
  plain_stmt_row LastStmt = last_stmt
  plain_stmt_row (NextStmt u at s rest) = next_stmt (statement u at (plain_kind s)) (plain_stmt_row rest)

abbrev pub plain_stmt : Stmt → PlainStmt
plain_stmt s = statement s.unit s.at (plain_kind s.kind)

abbrev pub plain_stmts : List Stmt → PlainStmts
plain_stmts [] = last_stmt
plain_stmts (s ∷ ss) = next_stmt (plain_stmt s) (plain_stmts ss)

-- ---- programs

pub data PlainStorage : Type 0 where
  static : List LeafInit → PlainStorage
  local : (function : ℕ) → PlainStorage
  param : (function : ℕ) → PlainStorage
  register : (first : ℕ) → PlainStorage

abbrev pub plain_storage : Storage → PlainStorage
plain_storage (Static leaves) = static leaves.items
plain_storage (LocalOf f) = local f
plain_storage (Param f) = param f
plain_storage (Register r) = register r

pub record PlainObject : Type 0 where
  pub name : List ℕ
  pub unit : ℕ
  pub external : Bool
  pub ty : PlainType
  pub space : SpaceId
  pub home : Home
  pub const : Bool
  pub storage : PlainStorage

abbrev pub plain_object : Obj → PlainObject
plain_object o = record {
  name = o.name.items;
  unit = o.unit;
  external = o.external;
  ty = plain_type o.ty;
  space = o.space;
  home = o.home;
  const = o.konst;
  storage = plain_storage o.storage;
}

pub record PlainFunction : Type 0 where
  pub name : List ℕ
  pub unit : ℕ
  pub returns : PlainType
  pub params : List ℕ
  pub body : PlainStmt

abbrev pub plain_function : Func → PlainFunction
plain_function f =
    record {
      name = f.name.items;
      unit = f.unit;
      returns = plain_type f.result;
      params = f.params.items;
      body = plain_stmt f.body;
    }

pub record PlainProgram : Type 0 where
  pub structs : List PlainStruct
  pub objects : List PlainObject
  pub functions : List PlainFunction
  pub main : ℕ

abbrev pub plain_program : Program → PlainProgram
plain_program p =
    record {
      structs = map plain_struct p.structs.items;
      objects = map plain_object p.objs.items;
      functions = map plain_function p.funcs.items;
      main = p.main;
    }
