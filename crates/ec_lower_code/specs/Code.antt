-- The operations of a program. Each part's are written before what follows them. The value of an expression goes to the
-- temporary at place t, with what is worked out while it is kept at t + 1 and on; labels are numbers from l on.
-- A place is an object with an offset in it, or what the pointer at t points to.
use Rattle.std.specs.Prelude.{ℕ, ◌+◌, Bool, true, false, not, ◌||◌, pos, List, [], ◌∷◌, map, Option, Some, None, option_map}
use Rattle.std.specs.Prelude.{unwrap_or, slice_get}
use Rattle.ec_fx.specs.declared.numbers.Mode.{Mode}
use Rattle.ec_iohw.specs.declared.operations.IoOp.{IoOp}
use Rattle.ec_iohw.specs.declared.operations.IoOp.TheVariants.{Or, OrLong, OrBuffer, OrBufferLong, And, AndLong}
use Rattle.ec_iohw.specs.declared.operations.IoOp.TheVariants.{AndBuffer, AndBufferLong}
use Rattle.ec_iohw.specs.declared.table.Choice.{Choice}
use Rattle.ec_iohw.specs.declared.table.Pair.{Pair}
use Rattle.ec_space.specs.declared.space.SpaceId.{SpaceId}
use Rattle.ec_space.specs.declared.space.SpaceId.TheVariants.{Data}
use Rattle.ec_core.specs.declared.arithmetic_types.Arithmetic.{Arithmetic}
use Rattle.ec_core.specs.declared.expressions.BinOp.{BinOp}
use Rattle.ec_core.specs.declared.expressions.BinOp.TheVariants.{Mul, And as AndOp, Or as OrOp, Xor as XorOp}
use Rattle.ec_core.specs.Accesses.{member_offset}
use Rattle.ec_core.specs.ArithmeticTypes.{type_of, common}
use Rattle.ec_core.specs.Integers.{truth}
use Rattle.ec_core.specs.Layout.{scalar_size, PlainLeaf, leaves_of_type}
use Rattle.ec_core.specs.Needs.{stmt_need}
use Rattle.ec_core.specs.Operators.{number_type, OperationTypes, operation_types, step_operator}
use Rattle.ec_core.specs.Plain.{PlainType, void, integer, pointer, PlainExpr, expression, PlainNode, number, null, load}
use Rattle.ec_core.specs.Plain.{address_of, unary, binary, convert, assign, compound, step, logical_not, logical_and}
use Rattle.ec_core.specs.Plain.{logical_or, conditional, comma, call, io, group, bind, dynamic_group, PlainPlace}
use Rattle.ec_core.specs.Plain.{object, deref, member}
use Rattle.ec_core.specs.Plain.{OptionPlainExpr, no_expr, an_expr, PlainExprs}
use Rattle.ec_core.specs.Plain.{last_expr, next_expr, PlainStmt, statement, PlainKind, empty, evaluate, block, declare}
use Rattle.ec_core.specs.Plain.{branch, while_loop, do_loop, for_loop, break_loop, continue_loop, return_value}
use Rattle.ec_core.specs.Plain.{OptionPlainStmt, no_stmt, a_stmt, PlainStmts, last_stmt, next_stmt, PlainFunction}
use Rattle.ec_core.specs.Plain.{PlainProgram}
use Rattle.ec_core.specs.PortAccesses.{pairs_of}
use Rattle.ec_core.specs.PortOperations.{PortAction, reads, writes, updates, port_operation}
use Rattle.ec_core.specs.PortTable.{PlainPort, PlainGroup, PlainTable, choices_of}
use Rattle.ec_core.specs.TypeLaws.{factor_beside}
use Rattle.ec_core.specs.Typing.{int, type_of_expr, pointer_space, place_type, port_value}
use Rattle.ec_ir.specs.Operations.{PlainIr, constant, copy, address, field, load_at, store_at, load_object}
use Rattle.ec_ir.specs.Operations.{store_object, binary_op, unary_op, conversion, label, jump, branch_zero}
use Rattle.ec_ir.specs.Operations.{call_function, return_from, port_in, port_out, load_cell, store_cell, cell_port}
use Rattle.ec_ir.specs.Operations.{PlainIrFunction, PlainIrProgram}
use Rattle.ec_ir.specs.declared.operations.Temp.{Temp}

-- ---- temporaries

abbrev pub temp : ℕ → PlainType → Temp
temp t ty = record { at = t; bytes = scalar_size ty }

-- ---- branches

-- where a condition leads to: to a label where it is 0, or to one where it is not, past a label of its own where it is;
-- else to what follows
pub data Branch : Type 0 where
  where_zero : (to : ℕ) → Branch
  where_not : (to past : ℕ) → Branch

abbrev pub branch_to : Branch → Temp → List PlainIr → List PlainIr
branch_to (where_zero to) t rest = branch_zero t to ∷ rest
branch_to (where_not to past) t rest = branch_zero t past ∷ jump to ∷ label past ∷ rest

abbrev pub branch_label : Branch → ℕ
branch_label (where_zero to) = to
branch_label (where_not to past) = to

-- that of `!`, which has a label for it
abbrev pub opposite : Branch → (l : ℕ) → Branch
opposite (where_zero to) l = where_not to l
opposite (where_not to past) l = where_zero to

-- where the first operand of `&&` leads to if it is 0, and that of `||` if it is not: where the whole does, which is
-- behind the second operand, at the label l, where the whole goes on then
abbrev pub zero_label : Branch → (l : ℕ) → ℕ
zero_label (where_zero to) l = to
zero_label (where_not to past) l = l

abbrev pub other_label : Branch → (l : ℕ) → ℕ
other_label (where_zero to) l = l
other_label (where_not to past) l = to

abbrev pub and_end : Branch → (l : ℕ) → List PlainIr → List PlainIr
and_end (where_zero to) l rest = rest
and_end (where_not to past) l rest = label l ∷ rest

abbrev pub or_end : Branch → (l : ℕ) → List PlainIr → List PlainIr
or_end (where_zero to) l rest = label l ∷ rest
or_end (where_not to past) l rest = rest

-- a loop whose test is at the label l begins with it, and one without a condition with its body
abbrev pub entry_code : Option PlainExpr → (l : ℕ) → List PlainIr → List PlainIr
entry_code None l rest = rest
entry_code (Some c) l rest = jump l ∷ rest

-- a void expression has no temporary
abbrev pub result_temp : ℕ → PlainType → Option Temp
result_temp t void = None
result_temp t ty = Some (temp t ty)

-- ---- how many labels a part has

abbrev mutual
  pub expr_labels : PlainExpr → ℕ
  expr_labels (expression ty mode node) = node_labels node

  pub node_labels : PlainNode → ℕ
  node_labels (number n) = 0
  node_labels null = 0
  node_labels (load p) = place_labels p
  node_labels (address_of p) = place_labels p
  node_labels (unary op a) = expr_labels a
  node_labels (binary op a b) = expr_labels a + expr_labels b
  node_labels (convert a) = expr_labels a
  node_labels (assign p a) = place_labels p + expr_labels a
  node_labels (compound op own p a) = place_labels p + expr_labels a
  node_labels (step up prefix p) = place_labels p
  node_labels (logical_not a) = 2 + expr_labels a
  node_labels (logical_and a b) = 2 + expr_labels a + expr_labels b
  node_labels (logical_or a b) = 4 + expr_labels a + expr_labels b
  node_labels (conditional c a b) = 2 + expr_labels c + expr_labels a + expr_labels b
  node_labels (comma a b) = expr_labels a + expr_labels b
  node_labels (call f args) = exprs_labels args
  node_labels (io op port index value) = option_labels index + option_labels value
  node_labels (group acquire g) = 0
  node_labels (bind d choice) = 0
  -- two for each of at most eight choices, so that the table need not be known
  node_labels (dynamic_group acquire d) = 16

  pub place_labels : PlainPlace → ℕ
  place_labels (object o) = 0
  place_labels (deref e) = expr_labels e
  place_labels (member p i) = place_labels p

  pub option_labels : OptionPlainExpr → ℕ
  option_labels no_expr = 0
  option_labels (an_expr e) = expr_labels e

  pub exprs_labels : PlainExprs → ℕ
  exprs_labels last_expr = 0
  exprs_labels (next_expr e es) = expr_labels e + exprs_labels es

abbrev pub optional_labels : Option PlainExpr → ℕ
optional_labels None = 0
optional_labels (Some e) = expr_labels e

abbrev mutual
  pub stmt_labels : PlainStmt → ℕ
  stmt_labels (statement unit at kind) = kind_labels kind

  pub kind_labels : PlainKind → ℕ
  kind_labels empty = 0
  kind_labels (evaluate e) = expr_labels e
  kind_labels (block ss) = stmts_labels ss
  kind_labels (declare o values) = exprs_labels values
  kind_labels (branch c a b) = 2 + expr_labels c + stmt_labels a + option_stmt_labels b
  kind_labels (while_loop c body) = 5 + expr_labels c + stmt_labels body
  kind_labels (do_loop body c) = 5 + expr_labels c + stmt_labels body
  kind_labels (for_loop first c last body) =
      option_stmt_labels first + (5 + optional_labels c + optional_labels last + stmt_labels body)
  kind_labels break_loop = 0
  kind_labels continue_loop = 0
  kind_labels (return_value e) = optional_labels e

  pub option_stmt_labels : OptionPlainStmt → ℕ
  option_stmt_labels no_stmt = 0
  option_stmt_labels (a_stmt a) = stmt_labels a

  pub stmts_labels : PlainStmts → ℕ
  stmts_labels last_stmt = 0
  stmts_labels (next_stmt a ss) = stmt_labels a + stmts_labels ss

-- ---- places

-- where a place is: in an object, at an offset; or where a pointer into a space points to, which a temporary holds
pub data Site : Type 0 where
  named : (o offset : ℕ) → Site
  pointed : (ptr : Temp) → SpaceId → Site

-- the space of a pointer's type
abbrev pub space_of : PlainType → SpaceId
space_of ty = unwrap_or (pointer_space ty) Data

-- so many bytes further
abbrev pub further : ℕ → Site → Site
further k (named o offset) = named o (offset + k)
further k (pointed ptr space) = pointed ptr space

-- a pointer is moved for that, and an object's offset is known
abbrev pub further_code : ℕ → Site → List PlainIr → List PlainIr
further_code k (named o offset) rest = rest
further_code k (pointed ptr space) rest = field ptr space k ∷ rest

abbrev pub load_from : Temp → Site → PlainIr
load_from to (named o offset) = load_object to o offset
load_from to (pointed ptr space) = load_at to ptr space

abbrev pub store_to : Site → Temp → PlainIr
store_to (named o offset) from = store_object o offset from
store_to (pointed ptr space) from = store_at ptr space from

-- what is worked out while a pointer at t is kept stands behind it
abbrev pub value_place : Site → ℕ → ℕ
value_place (named o offset) t = t
value_place (pointed ptr space) t = t + 1

-- a value that stands there is brought to t
abbrev pub settled_code : Site → PlainType → (t : ℕ) → List PlainIr → List PlainIr
settled_code (named o offset) ty t rest = rest
settled_code (pointed ptr space) ty t rest = copy (temp t ty) (temp (t + 1) ty) ∷ rest

-- the address of a place: the pointer to it, where there is one
abbrev pub address_code : Site → PlainType → (t : ℕ) → List PlainIr → List PlainIr
address_code (named o offset) ty t rest = address (temp t ty) o offset ∷ rest
address_code (pointed ptr space) ty t rest = rest

-- ---- parts of expressions

-- one truth value where the branch to l was not taken, and the other where it was
abbrev pub truth_code : Bool → PlainType → (l t : ℕ) → List PlainIr → List PlainIr
truth_code h ty l t rest =
    constant (temp t ty) (truth h) ∷ jump (l + 1)
    ∷ label l ∷ constant (temp t ty) (truth (not h)) ∷ label (l + 1) ∷ rest

-- the types of the operation of a compound assignment. Factors have one byte, and are not promoted
abbrev pub update_types : BinOp → Arithmetic → Arithmetic → OperationTypes
update_types Mul x y = record { left = factor_beside x y; right = factor_beside y x; result = common x y }
update_types op x y = operation_types op x y

-- the old value at t and the right side at t + 1: both are brought to the operation's types; then the operation; its
-- result, brought to the place's type, is stored
abbrev pub update_code :
    BinOp → OperationTypes → (own mode : Mode) → PlainType → Site → (t : ℕ) → PlainType → List PlainIr → List PlainIr
update_code op ts own mode ty site t right rest =
    conversion (temp t (type_of ts.left)) (type_of ts.left) own (temp t ty) ty
    ∷ conversion (temp (t + 1) (type_of ts.right)) (type_of ts.right) own (temp (t + 1) right) right
    ∷ binary_op op (type_of ts.result) own (temp t (type_of ts.result)) (temp t (type_of ts.left)) (type_of ts.left)
    (temp (t + 1) (type_of ts.right)) (type_of ts.right)
    ∷ conversion (temp t ty) ty mode (temp t (type_of ts.result)) (type_of ts.result)
    ∷ store_to site (temp t ty) ∷ rest

-- the same, where the old value is kept at t: the operation's result goes to t + 1, and the old value is brought back
-- to its type
abbrev pub keeping_code :
    BinOp → OperationTypes → Mode → PlainType → Site → (t : ℕ) → PlainType → List PlainIr → List PlainIr
keeping_code op ts mode ty site t right rest =
    conversion (temp t (type_of ts.left)) (type_of ts.left) mode (temp t ty) ty
    ∷ conversion (temp (t + 1) (type_of ts.right)) (type_of ts.right) mode (temp (t + 1) right) right
    ∷ binary_op op (type_of ts.result) mode (temp (t + 1) (type_of ts.result)) (temp t (type_of ts.left))
    (type_of ts.left) (temp (t + 1) (type_of ts.right)) (type_of ts.right)
    ∷ conversion (temp (t + 1) ty) ty mode (temp (t + 1) (type_of ts.result)) (type_of ts.result)
    ∷ store_to site (temp (t + 1) ty)
    ∷ conversion (temp t ty) ty mode (temp t (type_of ts.left)) (type_of ts.left) ∷ rest

-- a pointer at t and a number at t + 1, which are not converted: the pointer that many elements further goes to q, and
-- is stored
abbrev pub moving_code :
    BinOp → Mode → PlainType → Site → (t q : ℕ) → PlainType → List PlainIr → List PlainIr
moving_code op mode ty site t q right rest =
    binary_op op ty mode (temp q ty) (temp t ty) ty (temp (t + 1) right) right ∷ store_to site (temp q ty) ∷ rest

-- a compound assignment to a place of this type
abbrev pub change_code :
    BinOp → (own mode : Mode) → PlainType → Site → (t : ℕ) → PlainType → List PlainIr → List PlainIr
change_code op own mode (pointer space const to) site t right rest =
    moving_code op own (pointer space const to) site t t right rest
change_code op own mode ty site t right rest =
    update_code op (update_types op (number_type ty) (number_type right)) own mode ty site t right rest

-- a postfix step, by the 1 of type int at t + 1
abbrev pub postfix_code : BinOp → Mode → PlainType → Site → (t : ℕ) → List PlainIr → List PlainIr
postfix_code op mode (pointer space const to) site t rest =
    moving_code op mode (pointer space const to) site t (t + 1) int rest
postfix_code op mode ty site t rest =
    keeping_code op (update_types op (number_type ty) (number_type int)) mode ty site t int rest

abbrev pub step_code : Bool → BinOp → Mode → PlainType → Site → (t : ℕ) → List PlainIr → List PlainIr
step_code true op mode ty site t rest = change_code op mode mode ty site t int rest
step_code false op mode ty site t rest = postfix_code op mode ty site t rest

-- a step of a place, whose pointer, where there is one, stands at t: the old value, the 1 above it, and the step
abbrev pub stepping_code : (up prefix : Bool) → Mode → PlainType → Site → (t : ℕ) → List PlainIr → List PlainIr
stepping_code up prefix mode ty site t rest =
    load_from (temp (value_place site t) ty) site ∷ constant (temp (value_place site t + 1) int) (pos 1)
    ∷ step_code prefix (step_operator up) mode ty site (value_place site t) (settled_code site ty t rest)

-- arguments from t on are stored to the parameters
abbrev pub params_code : List ℕ → PlainExprs → (t : ℕ) → List PlainIr → List PlainIr
params_code (o ∷ os) (next_expr e es) t rest =
    store_object o 0 (temp t (type_of_expr e)) ∷ params_code os es (t + 1) rest
params_code os es t rest = rest

-- ---- ports (ISO/IEC TR 18037:2008, 6)

-- the place behind an operand that may be absent, and its temporary
abbrev pub place_behind : OptionPlainExpr → ℕ → ℕ
place_behind no_expr t = t
place_behind (an_expr e) t = t + 1

abbrev pub operand_temp : OptionPlainExpr → ℕ → Option Temp
operand_temp no_expr t = None
operand_temp (an_expr e) t = Some (temp t (type_of_expr e))

-- the operator of an update
abbrev pub port_operator : IoOp → BinOp
port_operator Or = OrOp
port_operator OrLong = OrOp
port_operator OrBuffer = OrOp
port_operator OrBufferLong = OrOp
port_operator And = AndOp
port_operator AndLong = AndOp
port_operator AndBuffer = AndOp
port_operator AndBufferLong = AndOp
port_operator op = XorOp

-- bytes are read from an address on, or written there; with a dynamic group the address counts from what its cell holds
abbrev pub read_from :
    (dynamic : Option ℕ) → (to : Temp) → (offset : ℕ) → (index : Option Temp) → (width : ℕ) → PlainIr
read_from None to offset index width = port_in to offset index width
read_from (Some d) to offset index width = cell_port true to d offset index width

abbrev pub write_to :
    (dynamic : Option ℕ) → (from : Temp) → (offset : ℕ) → (index : Option Temp) → (width : ℕ) → PlainIr
write_to None from offset index width = port_out from offset index width
write_to (Some d) from offset index width = cell_port false from d offset index width

-- the bytes of a port from its address on, where values are of a type: they are read to t; written from v; or read to
-- v + 1, combined with the value at v, and written
abbrev pub port_code :
    PortAction → BinOp → PlainType → Mode → PlainPort → Option Temp → (t v : ℕ) → List PlainIr → List PlainIr
port_code reads op ty mode port index t v rest =
    read_from port.dynamic (temp t ty) port.address index port.width ∷ rest
port_code writes op ty mode port index t v rest =
    write_to port.dynamic (temp v ty) port.address index port.width ∷ rest
port_code updates op ty mode port index t v rest =
    read_from port.dynamic (temp (v + 1) ty) port.address index port.width
    ∷ binary_op op ty mode (temp (v + 1) ty) (temp (v + 1) ty) ty (temp v ty) ty
    ∷ write_to port.dynamic (temp (v + 1) ty) port.address index port.width ∷ rest

-- an operation on a port of the table, from its operands on: the index at t, and the value behind it
abbrev pub access_code :
    IoOp → Mode → Option PlainPort → OptionPlainExpr → (t : ℕ) → List PlainIr → List PlainIr
access_code op mode None index t rest = rest
access_code op mode (Some port) index t rest =
    port_code (port_operation op).action (port_operator op) (port_value (port_operation op)) mode port
    (operand_temp index t) t (place_behind index t) rest

-- the type of a byte of a pair
abbrev pub byte_type : PlainType
byte_type = integer false 1

-- the byte of each pair is written to its port, in order
abbrev pub pairs_code : List Pair → (t : ℕ) → List PlainIr → List PlainIr
pairs_code [] t rest = rest
pairs_code (pair ∷ pairs) t rest =
    constant (temp t byte_type) (pos pair.byte) ∷ port_out (temp t byte_type) pair.port None 1
    ∷ pairs_code pairs t rest

-- the acquire or the release of a group of the table
abbrev pub group_code : Bool → Option PlainGroup → (t : ℕ) → List PlainIr → List PlainIr
group_code acquire None t rest = rest
group_code acquire (Some g) t rest = pairs_code (pairs_of acquire g) t rest

-- the cell of a dynamic group gets the base of a choice
abbrev pub bind_code : (dynamic : ℕ) → Option Choice → (t : ℕ) → List PlainIr → List PlainIr
bind_code d None t rest = rest
bind_code d (Some c) t rest =
    constant (temp t byte_type) (pos c.base) ∷ store_cell d (temp t byte_type) ∷ rest

-- a branch to a label where the cell of a dynamic group holds a base
abbrev pub base_test : Mode → (dynamic base : ℕ) → (l t : ℕ) → List PlainIr → List PlainIr
base_test mode d base l t rest =
    load_cell (temp t byte_type) d ∷ constant (temp (t + 1) byte_type) (pos base)
    ∷ binary_op XorOp byte_type mode (temp t byte_type) (temp t byte_type) byte_type (temp (t + 1) byte_type) byte_type
    ∷ branch_zero (temp t byte_type) l ∷ rest

-- the acquire or the release of the group of that choice whose base the cell holds. The last choice needs no test; the
-- code of another one stands behind that of the choices after it
abbrev pub choices_code :
    Bool → PlainTable → Mode → (dynamic : ℕ) → List Choice → (l t : ℕ) → List PlainIr → List PlainIr
choices_code acquire table mode d [] l t rest = rest
choices_code acquire table mode d (c ∷ []) l t rest = group_code acquire (slice_get table.groups c.group) t rest
choices_code acquire table mode d (c ∷ other ∷ cs) l t rest =
    base_test mode d c.base l t (choices_code acquire table mode d (other ∷ cs) (l + 2) t (jump (l + 1) ∷ label l
    ∷ group_code acquire (slice_get table.groups c.group) t (label (l + 1) ∷ rest)))

-- a block with a return among its statements, which is not left at its end
abbrev pub is_return : PlainKind → Bool
is_return (return_value e) = true
is_return kind = false

abbrev pub have_return : PlainStmts → Bool
have_return last_stmt = false
have_return (next_stmt (statement unit at kind) ss) = is_return kind || have_return ss

abbrev pub has_return : PlainKind → Bool
has_return (block ss) = have_return ss
has_return kind = false

abbrev pub body_returns : PlainStmt → Bool
body_returns (statement unit at kind) = has_return kind

-- the end of a body that may come to it returns without a value
abbrev pub end_of : (is_left : Bool) → List PlainIr
end_of true = []
end_of false = return_from None ∷ []

abbrev pub end_code : PlainStmt → List PlainIr
end_code body = end_of (body_returns body)

module _ (program : PlainProgram) where
  abbrev pub params_of : ℕ → List ℕ
  params_of f = unwrap_or (option_map (λ g. g.params) (slice_get program.functions f)) []

  abbrev pub leaves_of_object : ℕ → List PlainLeaf
  leaves_of_object o =
      unwrap_or (option_map (λ d. leaves_of_type program.structs d.ty) (slice_get program.objects o)) []

  -- where a member begins in a place
  abbrev pub offset_of : PlainPlace → ℕ → ℕ
  offset_of p i = member_offset program (unwrap_or (place_type program p) void) i

  -- where a place is, where its pointer stands at t
  abbrev pub site : PlainPlace → ℕ → Site
  site (object o) t = named o 0
  site (deref e) t = pointed (temp t (type_of_expr e)) (space_of (type_of_expr e))
  site (member p i) t = further (offset_of p i) (site p t)

module _ (program : PlainProgram) (table : PlainTable) where
  -- ---- expressions

  abbrev mutual
    pub expr_code : PlainExpr → (l t : ℕ) → List PlainIr → List PlainIr
    expr_code (expression ty mode node) l t rest = node_code ty mode node l t rest

    pub node_code : PlainType → Mode → PlainNode → (l t : ℕ) → List PlainIr → List PlainIr
    node_code ty mode (number n) l t rest = constant (temp t ty) n ∷ rest
    node_code ty mode null l t rest = constant (temp t ty) (pos 0) ∷ rest
    node_code ty mode (load p) l t rest = place_code p l t (load_from (temp t ty) (site program p t) ∷ rest)
    node_code ty mode (address_of p) l t rest = place_code p l t (address_code (site program p t) ty t rest)
    node_code ty mode (unary op a) l t rest =
        expr_code a l t (unary_op op ty mode (temp t ty) (temp t ty) ∷ rest)
    node_code ty mode (binary op a b) l t rest =
        expr_code a l t (expr_code b (l + expr_labels a) (t + 1)
        (binary_op op ty mode (temp t ty) (temp t (type_of_expr a)) (type_of_expr a) (temp (t + 1) (type_of_expr b))
        (type_of_expr b) ∷ rest))
    node_code ty mode (convert a) l t rest =
        expr_code a l t (conversion (temp t ty) ty mode (temp t (type_of_expr a)) (type_of_expr a) ∷ rest)
    node_code ty mode (assign p a) l t rest =
        place_code p l t (expr_code a (l + place_labels p) (value_place (site program p t) t)
        (store_to (site program p t) (temp (value_place (site program p t) t) ty)
        ∷ settled_code (site program p t) ty t rest))
    node_code ty mode (compound op own p a) l t rest =
        place_code p l t (load_from (temp (value_place (site program p t) t) ty) (site program p t)
        ∷ expr_code a (l + place_labels p) (value_place (site program p t) t + 1)
        (change_code op own mode ty (site program p t) (value_place (site program p t) t) (type_of_expr a)
        (settled_code (site program p t) ty t rest)))
    node_code ty mode (step up prefix p) l t rest =
        place_code p l t (stepping_code up prefix mode ty (site program p t) t rest)
    node_code ty mode (logical_not a) l t rest =
        branch_code a (l + 2) t (where_zero l) (truth_code false ty l t rest)
    node_code ty mode (logical_and a b) l t rest =
        branch_code a (l + 2) t (where_zero l)
        (branch_code b (l + 2 + expr_labels a) t (where_zero l) (truth_code true ty l t rest))
    node_code ty mode (logical_or a b) l t rest =
        branch_code a (l + 4) t (where_not (l + 3) (l + 2))
        (branch_code b (l + 4 + expr_labels a) t (where_zero l) (label (l + 3) ∷ truth_code true ty l t rest))
    node_code ty mode (conditional c a b) l t rest =
        branch_code c (l + 2) t (where_zero l)
        (expr_code a (l + 2 + expr_labels c) t (jump (l + 1) ∷ label l
        ∷ expr_code b (l + 2 + expr_labels c + expr_labels a) t (label (l + 1) ∷ rest)))
    node_code ty mode (comma a b) l t rest = unread_code a l t (expr_code b (l + expr_labels a) t rest)
    -- all arguments, then they are stored to the parameters, then the call
    node_code ty mode (call f args) l t rest =
        args_code args l t (params_code (params_of program f) args t (call_function f (result_temp t ty) ∷ rest))
    -- the operands in order, then the access
    node_code ty mode (io op port index value) l t rest =
        option_code index l t (option_code value (l + option_labels index) (place_behind index t)
        (access_code op mode (slice_get table.ports port) index t rest))
    node_code ty mode (group acquire g) l t rest = group_code acquire (slice_get table.groups g) t rest
    node_code ty mode (bind d choice) l t rest = bind_code d (slice_get (choices_of table d) choice) t rest
    node_code ty mode (dynamic_group acquire d) l t rest =
        choices_code acquire table mode d (choices_of table d) l t rest

    -- an expression whose value nobody reads: a postfix step keeps no old value then
    pub unread_code : PlainExpr → (l t : ℕ) → List PlainIr → List PlainIr
    unread_code (expression ty mode (step up prefix p)) l t rest =
        place_code p l t (stepping_code up true mode ty (site program p t) t rest)
    unread_code (expression ty mode (comma a b)) l t rest =
        unread_code a l t (unread_code b (l + expr_labels a) t rest)
    unread_code (expression ty mode node) l t rest = node_code ty mode node l t rest

    -- an expression as a condition, which leads somewhere: `&&`, `||` and `!` have no value then
    pub branch_code : PlainExpr → (l t : ℕ) → Branch → List PlainIr → List PlainIr
    branch_code (expression ty mode (logical_not a)) l t to rest = branch_code a (l + 2) t (opposite to l) rest
    branch_code (expression ty mode (logical_and a b)) l t to rest =
        branch_code a (l + 2) t (where_zero (zero_label to l))
        (branch_code b (l + 2 + expr_labels a) t to (and_end to l rest))
    branch_code (expression ty mode (logical_or a b)) l t to rest =
        branch_code a (l + 4) t (where_not (other_label to l) (l + 1))
        (branch_code b (l + 4 + expr_labels a) t to (or_end to l rest))
    branch_code (expression ty mode node) l t to rest = node_code ty mode node l t (branch_to to (temp t ty) rest)

    -- the pointer to a place, where it is not in an object that is named
    pub place_code : PlainPlace → (l t : ℕ) → List PlainIr → List PlainIr
    place_code (object o) l t rest = rest
    place_code (deref e) l t rest = expr_code e l t rest
    place_code (member p i) l t rest = place_code p l t (further_code (offset_of program p i) (site program p t) rest)

    pub option_code : OptionPlainExpr → (l t : ℕ) → List PlainIr → List PlainIr
    option_code no_expr l t rest = rest
    option_code (an_expr e) l t rest = expr_code e l t rest

    -- arguments from t on
    pub args_code : PlainExprs → (l t : ℕ) → List PlainIr → List PlainIr
    args_code last_expr l t rest = rest
    args_code (next_expr e es) l t rest = expr_code e l t (args_code es (l + expr_labels e) (t + 1) rest)

  -- ---- statements

  -- the leaves of an object from one on get the values of these expressions
  abbrev pub init_code : List PlainLeaf → (o : ℕ) → PlainExprs → (l : ℕ) → List PlainIr → List PlainIr
  init_code (leaf ∷ leaves) o (next_expr e es) l rest =
      expr_code e l 0 (store_object o leaf.at (temp 0 (type_of_expr e))
      ∷ init_code leaves o es (l + expr_labels e) rest)
  init_code leaves o es l rest = rest

  -- the test at the end of a loop: it leads to the body where the condition holds, and is not taken where the loop ends
  abbrev pub test_code : Option PlainExpr → (l : ℕ) → List PlainIr → List PlainIr
  test_code None l rest = jump (l + 3) ∷ label (l + 1) ∷ rest
  test_code (Some c) l rest = branch_code c (l + 5) 0 (where_not (l + 3) (l + 4)) (label (l + 1) ∷ rest)

  abbrev pub last_code : Option PlainExpr → (l : ℕ) → List PlainIr → List PlainIr
  last_code None l rest = rest
  last_code (Some e) l rest = unread_code e l 0 rest

  -- the turns of a loop, with the operations of its body: l is the test, l + 1 the end, l + 2 what a continue goes to,
  -- l + 3 the body, and l + 4 what follows the branch of the test
  abbrev pub loop_code :
      Option PlainExpr → Option PlainExpr → (l : ℕ) → (List PlainIr → List PlainIr) → List PlainIr → List PlainIr
  loop_code c last l body rest =
      label (l + 3) ∷ body (label (l + 2)
      ∷ last_code last (l + 5 + optional_labels c) (label l ∷ test_code c l rest))

  -- a break goes to the label out, and a continue to the label on
  abbrev mutual
    pub stmt_code : PlainStmt → (l out on : ℕ) → List PlainIr → List PlainIr
    stmt_code (statement unit at kind) l out on rest = kind_code kind l out on rest

    pub kind_code : PlainKind → (l out on : ℕ) → List PlainIr → List PlainIr
    kind_code empty l out on rest = rest
    kind_code (evaluate e) l out on rest = unread_code e l 0 rest
    kind_code (block ss) l out on rest = stmts_code ss l out on rest
    kind_code (declare o values) l out on rest = init_code (leaves_of_object program o) o values l rest
    kind_code (branch c a no_stmt) l out on rest =
        branch_code c (l + 2) 0 (where_zero l) (stmt_code a (l + 2 + expr_labels c) out on (label l ∷ rest))
    kind_code (branch c a (a_stmt b)) l out on rest =
        branch_code c (l + 2) 0 (where_zero l)
        (stmt_code a (l + 2 + expr_labels c) out on (jump (l + 1) ∷ label l
        ∷ stmt_code b (l + 2 + expr_labels c + stmt_labels a) out on (label (l + 1) ∷ rest)))
    kind_code (while_loop c body) l out on rest =
        entry_code (Some c) l
        (loop_code (Some c) None l (λ q. stmt_code body (l + 5 + expr_labels c) (l + 1) (l + 2) q) rest)
    -- a `do` begins with its body
    kind_code (do_loop body c) l out on rest =
        loop_code (Some c) None l (λ q. stmt_code body (l + 5 + expr_labels c) (l + 1) (l + 2) q) rest
    kind_code (for_loop first c last body) l out on rest =
        option_stmt_code first l out on (entry_code c (l + option_stmt_labels first)
        (loop_code c last (l + option_stmt_labels first) (λ q. stmt_code body
        (l + option_stmt_labels first + 5 + optional_labels c + optional_labels last)
        (l + option_stmt_labels first + 1) (l + option_stmt_labels first + 2) q) rest))
    kind_code break_loop l out on rest = jump out ∷ rest
    kind_code continue_loop l out on rest = jump on ∷ rest
    kind_code (return_value None) l out on rest = return_from None ∷ rest
    kind_code (return_value (Some e)) l out on rest =
        expr_code e l 0 (return_from (Some (temp 0 (type_of_expr e))) ∷ rest)

    pub option_stmt_code : OptionPlainStmt → (l out on : ℕ) → List PlainIr → List PlainIr
    option_stmt_code no_stmt l out on rest = rest
    option_stmt_code (a_stmt a) l out on rest = stmt_code a l out on rest

    pub stmts_code : PlainStmts → (l out on : ℕ) → List PlainIr → List PlainIr
    stmts_code last_stmt l out on rest = rest
    stmts_code (next_stmt a ss) l out on rest = stmt_code a l out on (stmts_code ss (l + stmt_labels a) out on rest)

  -- ---- functions

  -- a break and a continue outside loops, of which there are none, go to the end
  abbrev pub function_code : PlainFunction → List PlainIr
  function_code f = stmt_code f.body 1 0 0 (label 0 ∷ end_code f.body)

  abbrev pub lowered_function : PlainFunction → PlainIrFunction
  lowered_function f = record { code = function_code f; slots = stmt_need f.body }

  abbrev pub lowered : PlainIrProgram
  lowered =
      record {
        functions = map lowered_function program.functions;
        objects = program.objects;
        structs = program.structs;
        main = program.main;
      }
