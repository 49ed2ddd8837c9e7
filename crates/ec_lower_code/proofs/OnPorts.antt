-- The operations of a program that read and write ports stay on these.
use Rattle.std.proofs.Common.{ℕ, ◌+◌, Bool, true, false, List, [], ◌∷◌, map, Option, Some, None, refl, arith}
use Rattle.std.specs.Prelude.{slice_get, if◌then◌else◌}
use Rattle.std.specs.List.{AllByRecursion}
use Rattle.ec_fx.specs.declared.numbers.Mode.{Mode}
use Rattle.ec_iohw.specs.declared.operations.IoOp.{IoOp}
use Rattle.ec_iohw.specs.declared.table.IoTable.{IoTable}
use Rattle.ec_iohw.specs.declared.table.Choice.{Choice}
use Rattle.ec_iohw.specs.declared.table.Pair.{Pair}
use Rattle.ec_iohw.specs.Valid.{ValidIo}
use Rattle.ec_core.specs.declared.expressions.BinOp.{BinOp}
use Rattle.ec_core.specs.Layout.{PlainLeaf}
use Rattle.ec_core.specs.Operators.{OperationTypes, number_type, step_operator}
use Rattle.ec_core.specs.Plain.{PlainType, void, integer, fixed, pointer, array, struct, PlainExpr, expression, PlainNode, number, null}
use Rattle.ec_core.specs.Plain.{load, address_of, unary, binary, convert, assign, compound, step, logical_not, logical_and, logical_or}
use Rattle.ec_core.specs.Plain.{conditional, comma, call, io, group, bind, dynamic_group, PlainPlace, object, deref}
use Rattle.ec_core.specs.Plain.{member, OptionPlainExpr, no_expr, an_expr}
use Rattle.ec_core.specs.Plain.{PlainExprs, last_expr, next_expr, PlainStmt, statement, PlainKind, empty, evaluate, block, declare, branch}
use Rattle.ec_core.specs.Plain.{while_loop, do_loop, for_loop, break_loop, continue_loop, return_value, OptionPlainStmt, no_stmt, a_stmt}
use Rattle.ec_core.specs.Plain.{PlainStmts, last_stmt, next_stmt, PlainFunction, PlainProgram}
use Rattle.ec_core.specs.PortAccesses.{pairs_of}
use Rattle.ec_core.specs.PortOperations.{PortAction, reads, writes, updates, port_operation}
use Rattle.ec_core.specs.PortTable.{PlainPort, PlainGroup, PlainTable, plain_table, choices_of}
use Rattle.ec_core.specs.Typing.{int, unsigned_int, unsigned_long, type_of_expr, IsTyped}
use Rattle.ec_core.specs.Valid.{EachFrom, ValidExpr, ValidParts, ValidPlace, ValidOption, ValidExprs, ValidCondition, ValidOptional}
use Rattle.ec_core.specs.Valid.{ValidStmt, ValidKind, ValidOptionStmt, ValidStmts, IsFunction}
use Rattle.ec_ir.specs.Operations.{PlainIr, store_object, binary_op, unary_op, conversion, label, jump}
use Rattle.ec_ir.specs.Operations.{call_function}
use Rattle.ec_ir.specs.Operations.{return_from}
use Rattle.ec_ir.specs.declared.operations.Temp.{Temp}
use Rattle.ec_lower_code.specs.Code.{temp, result_temp, truth_code, place_labels, Site, named, pointed, further_code, load_from, store_to}
use Rattle.ec_lower_code.specs.Code.{value_place, settled_code, address_code, update_types, update_code, keeping_code, moving_code}
use Rattle.ec_lower_code.specs.Code.{change_code, postfix_code, step_code, offset_of, site, params_of, params_code}
use Rattle.ec_lower_code.specs.Code.{port_operator, read_from, write_to, port_code, bind_code, choices_code}
use Rattle.ec_lower_code.specs.Code.{place_behind, operand_temp, access_code, pairs_code, group_code, option_labels}
use Rattle.ec_lower_code.specs.Code.{option_code, expr_labels}
use Rattle.ec_lower_code.specs.Code.{optional_labels, option_stmt_labels, stmt_labels, expr_code, node_code, place_code}
use Rattle.ec_lower_code.specs.Code.{args_code, init_code}
use Rattle.ec_lower_code.specs.Code.{test_code, entry_code, last_code, leaves_of_object, stmt_code, kind_code, option_stmt_code}
use Rattle.ec_lower_code.specs.Code.{stmts_code, lowered_function, body_returns, end_of, end_code}
use Rattle.ec_lower_code.specs.Code.{stepping_code, unread_code}
use Rattle.ec_lower_code.specs.Code.{Branch, where_zero, where_not, branch_to, opposite, zero_label, other_label, and_end}
use Rattle.ec_lower_code.specs.Code.{or_end, branch_code}
use Rattle.ec_lower_code.specs.Correct.{IsBytePair, GroupsHaveBytes, IsOnPorts, OperationsStayOnPorts}
use Rattle.ec_lower_code.proofs.Tables.{LiesFromAll, IsOperated, AreOperated, ArePairs, port_operated, group_pairs, first_within}

abbrev AllOn : List PlainIr → Type 0
AllOn code = AllByRecursion IsOnPorts code

-- ---- places

load_on : (to : Temp) (s : Site) → IsOnPorts (load_from to s)
load_on to (named o offset) = tt
load_on to (pointed ptr space) = tt

store_on : (s : Site) (from : Temp) → IsOnPorts (store_to s from)
store_on (named o offset) from = tt
store_on (pointed ptr space) from = tt

further_on : (k : ℕ) (s : Site) (rest : List PlainIr) → AllOn rest → AllOn (further_code k s rest)
further_on k (named o offset) rest r = r
further_on k (pointed ptr space) rest r = (tt, r)

settled_on : (s : Site) (ty : PlainType) (t : ℕ) (rest : List PlainIr) → AllOn rest → AllOn (settled_code s ty t rest)
settled_on (named o offset) ty t rest r = r
settled_on (pointed ptr space) ty t rest r = (tt, r)

address_on : (s : Site) (ty : PlainType) (t : ℕ) (rest : List PlainIr) → AllOn rest → AllOn (address_code s ty t rest)
address_on (named o offset) ty t rest r = (tt, r)
address_on (pointed ptr space) ty t rest r = r

-- ---- updates

update_on : (op : BinOp) (ts : OperationTypes) (own mode : Mode) (ty : PlainType) (s : Site) (t : ℕ) (right : PlainType)
    (rest : List PlainIr)
    → AllOn rest → AllOn (update_code op ts own mode ty s t right rest)
update_on op ts own mode ty s t right rest r = (tt, (tt, (tt, (tt, (store_on s (temp t ty), r)))))

keeping_on : (op : BinOp) (ts : OperationTypes) (mode : Mode) (ty : PlainType) (s : Site) (t : ℕ) (right : PlainType) (rest : List PlainIr)
    → AllOn rest → AllOn (keeping_code op ts mode ty s t right rest)
keeping_on op ts mode ty s t right rest r = (tt, (tt, (tt, (tt, (store_on s (temp (t + 1) ty), (tt, r))))))

moving_on : (op : BinOp) (mode : Mode) (ty : PlainType) (s : Site) (t q : ℕ) (right : PlainType) (rest : List PlainIr)
    → AllOn rest → AllOn (moving_code op mode ty s t q right rest)
moving_on op mode ty s t q right rest r = (tt, (store_on s (temp q ty), r))

change_on : (op : BinOp) (own mode : Mode) (ty : PlainType) (s : Site) (t : ℕ) (right : PlainType) (rest : List PlainIr)
    → AllOn rest → AllOn (change_code op own mode ty s t right rest)
change_on op own mode void s t right rest r = update_on op (update_types op (number_type void) (number_type right)) own mode void s t right
    rest r
change_on op own mode (integer g b) s t right rest r =
    update_on op (update_types op (number_type (integer g b)) (number_type right)) own mode (integer g b) s t right rest r
change_on op own mode (fixed k g) s t right rest r =
    update_on op (update_types op (number_type (fixed k g)) (number_type right)) own mode (fixed k g) s t right rest r
change_on op own mode (pointer g c u) s t right rest r = moving_on op own (pointer g c u) s t t right rest r
change_on op own mode (array u n) s t right rest r =
    update_on op (update_types op (number_type (array u n)) (number_type right)) own mode (array u n) s t right rest r
change_on op own mode (struct n) s t right rest r =
    update_on op (update_types op (number_type (struct n)) (number_type right)) own mode (struct n) s t right rest r

postfix_on : (op : BinOp) (mode : Mode) (ty : PlainType) (s : Site) (t : ℕ) (rest : List PlainIr)
    → AllOn rest → AllOn (postfix_code op mode ty s t rest)
postfix_on op mode void s t rest r = keeping_on op (update_types op (number_type void) (number_type int)) mode void s t int rest r
postfix_on op mode (integer g b) s t rest r =
    keeping_on op (update_types op (number_type (integer g b)) (number_type int)) mode (integer g b) s t int rest r
postfix_on op mode (fixed k g) s t rest r =
    keeping_on op (update_types op (number_type (fixed k g)) (number_type int)) mode (fixed k g) s t int rest r
postfix_on op mode (pointer g c u) s t rest r = moving_on op mode (pointer g c u) s t (t + 1) int rest r
postfix_on op mode (array u n) s t rest r =
    keeping_on op (update_types op (number_type (array u n)) (number_type int)) mode (array u n) s t int rest r
postfix_on op mode (struct n) s t rest r =
    keeping_on op (update_types op (number_type (struct n)) (number_type int)) mode (struct n) s t int rest r

step_on : (prefix : Bool) (op : BinOp) (mode : Mode) (ty : PlainType) (s : Site) (t : ℕ) (rest : List PlainIr)
    → AllOn rest → AllOn (step_code prefix op mode ty s t rest)
step_on true op mode ty s t rest r = change_on op mode mode ty s t int rest r
step_on false op mode ty s t rest r = postfix_on op mode ty s t rest r

-- ---- calls and ports

params_on : (os : List ℕ) (es : PlainExprs) (t : ℕ) (rest : List PlainIr) → AllOn rest → AllOn (params_code os es t rest)
params_on [] es t rest r = r
params_on (o ∷ os) last_expr t rest r = r
params_on (o ∷ os) (next_expr e es) t rest r = (tt, params_on os es (t + 1) rest r)

module _ (table : PlainTable) (long : Bool) (port : PlainPort) (i : IsOperated table long port) where
  read_on : (dynamic : Option ℕ) → LiesFromAll table port dynamic → (to : Temp) (index : Option Temp)
      → IsOnPorts (read_from dynamic to port.address index port.width)
  read_on None h to index = first_within port port.address i.width i.some h
  read_on (Some d) h to index = i.address

  write_on : (dynamic : Option ℕ) → LiesFromAll table port dynamic → (from : Temp) (index : Option Temp)
      → IsOnPorts (write_to dynamic from port.address index port.width)
  write_on None h from index = first_within port port.address i.width i.some h
  write_on (Some d) h from index = i.address

port_on : (table : PlainTable) (action : PortAction) (op : IoOp) (long : Bool) (mode : Mode) (port : PlainPort) (index : Option Temp)
    (t v : ℕ) (rest : List PlainIr)
    → IsOperated table long port → AllOn rest
    → AllOn (port_code action (port_operator op) (if long then unsigned_long else unsigned_int) mode port index t v rest)
port_on table reads op long mode port index t v rest i r = (read_on table long port i port.dynamic i.last _ index, r)
port_on table writes op long mode port index t v rest i r = (write_on table long port i port.dynamic i.last _ index, r)
port_on table updates op long mode port index t v rest i r =
    (read_on table long port i port.dynamic i.last _ index, (tt, (write_on table long port i port.dynamic i.last _ index, r)))

access_on : (table : PlainTable) (op : IoOp) (mode : Mode) (port : Option PlainPort) (index : OptionPlainExpr) (t : ℕ)
    (rest : List PlainIr)
    → AreOperated table (port_operation op).long port → AllOn rest → AllOn (access_code op mode port index t rest)
access_on table op mode None index t rest i r = r
access_on table op mode (Some port) index t rest i r =
    port_on table (port_operation op).action op (port_operation op).long mode port (operand_temp index t) t (place_behind index t) rest
    (i port refl) r

pairs_on : (pairs : List Pair) (t : ℕ) (rest : List PlainIr) → AllByRecursion IsBytePair pairs → AllOn rest
    → AllOn (pairs_code pairs t rest)
pairs_on [] t rest h r = r
pairs_on (pair ∷ pairs) t rest h r = let lt = h.0.0 in (tt, (omega (arith, lt), pairs_on pairs t rest h.1 r))

group_on : (acquire : Bool) (x : Option PlainGroup) (t : ℕ) (rest : List PlainIr) → ArePairs x → AllOn rest
    → AllOn (group_code acquire x t rest)
group_on acquire None t rest h r = r
group_on acquire (Some x) t rest h r = pairs_on (pairs_of acquire x) t rest (h x refl acquire) r

bind_on : (d : ℕ) (c : Option Choice) (t : ℕ) (rest : List PlainIr) → AllOn rest → AllOn (bind_code d c t rest)
bind_on d None t rest r = r
bind_on d (Some c) t rest r = (tt, (tt, r))

choices_on : (acquire : Bool) (table : PlainTable) (mode : Mode) (d : ℕ) (cs : List Choice) (l t : ℕ) (rest : List PlainIr)
    → ((g : ℕ) → ArePairs (slice_get table.groups g)) → AllOn rest → AllOn (choices_code acquire table mode d cs l t rest)
choices_on acquire table mode d [] l t rest h r = r
choices_on acquire table mode d (c ∷ []) l t rest h r = group_on acquire (slice_get table.groups c.group) t rest (h c.group) r
choices_on acquire table mode d (c ∷ other ∷ cs) l t rest h r = (
  tt,
  (
    tt,
    (
      tt,
      (
        tt,
        choices_on acquire table mode d (other ∷ cs) (l + 2) t _ h
            (tt, (tt, group_on acquire (slice_get table.groups c.group) t (label (l + 1) ∷ rest) (h c.group) (tt, r))),
      ),
    ),
  ),
)

branch_to_on : (to : Branch) (t : Temp) (rest : List PlainIr) → AllOn rest → AllOn (branch_to to t rest)
branch_to_on (where_zero to) t rest r = (tt, r)
branch_to_on (where_not to past) t rest r = (tt, (tt, (tt, r)))

and_end_on : (to : Branch) (l : ℕ) (rest : List PlainIr) → AllOn rest → AllOn (and_end to l rest)
and_end_on (where_zero to) l rest r = r
and_end_on (where_not to past) l rest r = (tt, r)

or_end_on : (to : Branch) (l : ℕ) (rest : List PlainIr) → AllOn rest → AllOn (or_end to l rest)
or_end_on (where_zero to) l rest r = (tt, r)
or_end_on (where_not to past) l rest r = r

stepping_on : (up prefix : Bool) (mode : Mode) (ty : PlainType) (s : Site) (t : ℕ) (rest : List PlainIr) → AllOn rest
    → AllOn (stepping_code up prefix mode ty s t rest)
stepping_on up prefix mode ty s t rest r =
    let u = value_place s t in
    (load_on (temp u ty) s, (tt, step_on prefix (step_operator up) mode ty s u (settled_code s ty t rest) (settled_on s ty t rest r)))

truth_on : (h : Bool) (ty : PlainType) (l t : ℕ) (rest : List PlainIr) → AllOn rest → AllOn (truth_code h ty l t rest)
truth_on h ty l t rest r = (tt, (tt, (tt, (tt, (tt, r)))))

module _ (program : PlainProgram) (table : IoTable) (valid : ValidIo table) (bytes : GroupsHaveBytes table) (f : ℕ) where
  -- ---- expressions

  mutual
    expr_on : (e : PlainExpr) (l t : ℕ) (rest : List PlainIr) → ValidExpr program table f e → AllOn rest
        → AllOn (expr_code program (plain_table table) e l t rest)
    expr_on (expression ty mode node) l t rest v r = node_on ty mode node l t rest v.1 v.2 r

    node_on : (ty : PlainType) (mode : Mode) (node : PlainNode) (l t : ℕ) (rest : List PlainIr) → IsTyped program table ty node
        → ValidParts program table f node → AllOn rest → AllOn (node_code program (plain_table table) ty mode node l t rest)
    node_on ty mode (number n) l t rest tp v r = (tt, r)
    node_on ty mode null l t rest tp v r = (tt, r)
    node_on ty mode (load q) l t rest tp v r =
        let s = site program q t in place_on q l t (load_from (temp t ty) s ∷ rest) v (load_on (temp t ty) s, r)
    node_on ty mode (address_of q) l t rest tp v r =
        let s = site program q t in place_on q l t (address_code s ty t rest) v.0 (address_on s ty t rest r)
    node_on ty mode (unary op a) l t rest tp v r = expr_on a l t (unary_op op ty mode (temp t ty) (temp t ty) ∷ rest) v (tt, r)
    node_on ty mode (binary op a b) l t rest tp v r =
        let q : List PlainIr = binary_op op ty mode (temp t ty) (temp t (type_of_expr a)) (type_of_expr a)
        (temp (t + 1) (type_of_expr b)) (type_of_expr b) ∷ rest in
        expr_on a l t (expr_code program (plain_table table) b (l + expr_labels a) (t + 1) q) v.0
        (expr_on b (l + expr_labels a) (t + 1) q v.1 (tt, r))
    node_on ty mode (convert a) l t rest tp v r =
        expr_on a l t (conversion (temp t ty) ty mode (temp t (type_of_expr a)) (type_of_expr a) ∷ rest) v (tt, r)
    node_on ty mode (assign q a) l t rest tp v r =
        let s = site program q t in
        let u = value_place s t in
        let c : List PlainIr = store_to s (temp u ty) ∷ settled_code s ty t rest in
        place_on q l t (expr_code program (plain_table table) a (l + place_labels q) u c) v.0
        (expr_on a (l + place_labels q) u c v.1 (store_on s (temp u ty), settled_on s ty t rest r))
    node_on ty mode (compound op own q a) l t rest tp v r =
        let s = site program q t in
        let u = value_place s t in
        let e = settled_code s ty t rest in
        let c = change_code op own mode ty s u (type_of_expr a) e in
        place_on q l t (load_from (temp u ty) s ∷ expr_code program (plain_table table) a (l + place_labels q) (u + 1) c) v.0 (
          load_on (temp u ty) s,
          expr_on a (l + place_labels q) (u + 1) c v.1
              (change_on op own mode ty s u (type_of_expr a) e (settled_on s ty t rest r)),
        )
    node_on ty mode (step up prefix q) l t rest tp v r =
        let s = site program q t in
        place_on q l t (stepping_code up prefix mode ty s t rest) v (stepping_on up prefix mode ty s t rest r)
    node_on ty mode (logical_not a) l t rest tp v r =
        branches_on a (l + 2) t (where_zero l) (truth_code false ty l t rest) v (truth_on false ty l t rest r)
    node_on ty mode (logical_and a b) l t rest tp v r =
        let q = truth_code true ty l t rest in
        branches_on a (l + 2) t (where_zero l) (branch_code program (plain_table table) b (l + 2 + expr_labels a) t (where_zero l) q) v.0
        (branches_on b (l + 2 + expr_labels a) t (where_zero l) q v.1 (truth_on true ty l t rest r))
    node_on ty mode (logical_or a b) l t rest tp v r =
        let q : List PlainIr = label (l + 3) ∷ truth_code true ty l t rest in
        branches_on a (l + 4) t (where_not (l + 3) (l + 2))
        (branch_code program (plain_table table) b (l + 4 + expr_labels a) t (where_zero l) q) v.0
        (branches_on b (l + 4 + expr_labels a) t (where_zero l) q v.1 (tt, truth_on true ty l t rest r))
    node_on ty mode (conditional c a b) l t rest tp v r =
        let u : List PlainIr = label (l + 1) ∷ rest in
        let q : List PlainIr = jump (l + 1) ∷ label l ∷ expr_code program (plain_table table) b (l + 2 + expr_labels c + expr_labels a) t
        u in
        branches_on c (l + 2) t (where_zero l) (expr_code program (plain_table table) a (l + 2 + expr_labels c) t q) v.0
        (expr_on a (l + 2 + expr_labels c) t q v.1 (tt, (tt, expr_on b (l + 2 + expr_labels c + expr_labels a) t u v.2 (tt, r))))
    node_on ty mode (comma a b) l t rest tp v r =
        unread_on a l t (expr_code program (plain_table table) b (l + expr_labels a) t rest) v.0
        (expr_on b (l + expr_labels a) t rest v.1 r)
    node_on ty mode (call g args) l t rest tp v r =
        let q : List PlainIr = call_function g (result_temp t ty) ∷ rest in
        args_on args l t (params_code (params_of program g) args t q) v (params_on (params_of program g) args t q (tt, r))
    node_on ty mode (io op port i w) l t rest tp v r =
        let q = access_code op mode (slice_get (plain_table table).ports port) i t rest in
        operand_on i l t (option_code program (plain_table table) w (l + option_labels i) (place_behind i t) q) v.0
        (operand_on w (l + option_labels i) (place_behind i t) q v.1
        (access_on (plain_table table) op mode (slice_get (plain_table table).ports port) i t rest
        (port_operated table valid port (port_operation op).long tp.port) r))
    node_on ty mode (group acquire g) l t rest tp v r =
        group_on acquire (slice_get (plain_table table).groups g) t rest (group_pairs table bytes g) r
    node_on ty mode (bind d choice) l t rest tp v r = bind_on d (slice_get (choices_of (plain_table table) d) choice) t rest r
    node_on ty mode (dynamic_group acquire d) l t rest tp v r =
        choices_on acquire (plain_table table) mode d (choices_of (plain_table table) d) l t rest (group_pairs table bytes) r

    unread_on : (e : PlainExpr) (l t : ℕ) (rest : List PlainIr) → ValidExpr program table f e → AllOn rest
        → AllOn (unread_code program (plain_table table) e l t rest)
    unread_on (expression ty mode (step up prefix q)) l t rest v r =
        let s = site program q t in
        place_on q l t (stepping_code up true mode ty s t rest) v.2 (stepping_on up true mode ty s t rest r)
    unread_on (expression ty mode (comma a b)) l t rest v r =
        unread_on a l t (unread_code program (plain_table table) b (l + expr_labels a) t rest) v.2.0
        (unread_on b (l + expr_labels a) t rest v.2.1 r)
    unread_on (expression ty mode node) l t rest v r = node_on ty mode node l t rest v.1 v.2 r

    branches_on : (e : PlainExpr) (l t : ℕ) (to : Branch) (rest : List PlainIr) → ValidExpr program table f e → AllOn rest
        → AllOn (branch_code program (plain_table table) e l t to rest)
    branches_on (expression ty mode (logical_not a)) l t to rest v r = branches_on a (l + 2) t (opposite to l) rest v.2 r
    branches_on (expression ty mode (logical_and a b)) l t to rest v r =
        let q = and_end to l rest in
        branches_on a (l + 2) t (where_zero (zero_label to l))
        (branch_code program (plain_table table) b (l + 2 + expr_labels a) t to q) v.2.0
        (branches_on b (l + 2 + expr_labels a) t to q v.2.1 (and_end_on to l rest r))
    branches_on (expression ty mode (logical_or a b)) l t to rest v r =
        let q = or_end to l rest in
        branches_on a (l + 4) t (where_not (other_label to l) (l + 1))
        (branch_code program (plain_table table) b (l + 4 + expr_labels a) t to q) v.2.0
        (branches_on b (l + 4 + expr_labels a) t to q v.2.1 (or_end_on to l rest r))
    branches_on (expression ty mode node) l t to rest v r =
        node_on ty mode node l t (branch_to to (temp t ty) rest) v.1 v.2 (branch_to_on to (temp t ty) rest r)

    place_on : (q : PlainPlace) (l t : ℕ) (rest : List PlainIr) → ValidPlace program table f q → AllOn rest
        → AllOn (place_code program (plain_table table) q l t rest)
    place_on (object o) l t rest v r = r
    place_on (deref e) l t rest v r = expr_on e l t rest v r
    place_on (member q i) l t rest v r =
        let k = offset_of program q i in
        let s = site program q t in
        place_on q l t (further_code k s rest) v (further_on k s rest r)

    operand_on : (e : OptionPlainExpr) (l t : ℕ) (rest : List PlainIr) → ValidOption program table f e → AllOn rest
        → AllOn (option_code program (plain_table table) e l t rest)
    operand_on no_expr l t rest v r = r
    operand_on (an_expr e) l t rest v r = expr_on e l t rest v r

    args_on : (es : PlainExprs) (l t : ℕ) (rest : List PlainIr) → ValidExprs program table f es → AllOn rest
        → AllOn (args_code program (plain_table table) es l t rest)
    args_on last_expr l t rest v r = r
    args_on (next_expr e es) l t rest v r =
        expr_on e l t (args_code program (plain_table table) es (l + expr_labels e) (t + 1) rest) v.0
        (args_on es (l + expr_labels e) (t + 1) rest v.1 r)

  -- ---- statements

  init_on : (ls : List PlainLeaf) (o : ℕ) (es : PlainExprs) (l : ℕ) (rest : List PlainIr) → ValidExprs program table f es → AllOn rest
      → AllOn (init_code program (plain_table table) ls o es l rest)
  init_on [] o es l rest v r = r
  init_on (leaf ∷ ls) o last_expr l rest v r = r
  init_on (leaf ∷ ls) o (next_expr e es) l rest v r =
      expr_on e l 0 (store_object o leaf.at (temp 0 (type_of_expr e))
      ∷ init_code program (plain_table table) ls o es (l + expr_labels e) rest) v.0
      (tt, init_on ls o es (l + expr_labels e) rest v.1 r)

  test_on : (c : Option PlainExpr) (l : ℕ) (rest : List PlainIr) → ValidCondition program table f c → AllOn rest
      → AllOn (test_code program (plain_table table) c l rest)
  test_on None l rest v r = (tt, (tt, r))
  test_on (Some c) l rest v r = branches_on c (l + 5) 0 (where_not (l + 3) (l + 4)) (label (l + 1) ∷ rest) v.0 (tt, r)

  entry_on : (c : Option PlainExpr) (l : ℕ) (rest : List PlainIr) → AllOn rest → AllOn (entry_code c l rest)
  entry_on None l rest r = r
  entry_on (Some c) l rest r = (tt, r)

  last_on : (e : Option PlainExpr) (l : ℕ) (rest : List PlainIr) → ValidOptional program table f e → AllOn rest
      → AllOn (last_code program (plain_table table) e l rest)
  last_on None l rest v r = r
  last_on (Some e) l rest v r = unread_on e l 0 rest v r

  module _ (returns : PlainType) where
    mutual
      stmt_on : (a : PlainStmt) (k : Bool) (l out on : ℕ) (rest : List PlainIr) → ValidStmt program table f returns k a → AllOn rest
          → AllOn (stmt_code program (plain_table table) a l out on rest)
      stmt_on (statement unit at kind) k l out on rest v r = kind_on kind k l out on rest v r

      kind_on : (kind : PlainKind) (k : Bool) (l out on : ℕ) (rest : List PlainIr) → ValidKind program table f returns k kind → AllOn rest
          → AllOn (kind_code program (plain_table table) kind l out on rest)
      kind_on empty k l out on rest v r = r
      kind_on (evaluate e) k l out on rest v r = unread_on e l 0 rest v r
      kind_on (block ss) k l out on rest v r = stmts_on ss k l out on rest v r
      kind_on (declare o es) k l out on rest v r = init_on (leaves_of_object program o) o es l rest v.1 r
      kind_on (branch c a no_stmt) k l out on rest v r =
          branches_on c (l + 2) 0 (where_zero l)
          (stmt_code program (plain_table table) a (l + 2 + expr_labels c) out on (label l ∷ rest)) v.0.0
          (stmt_on a k (l + 2 + expr_labels c) out on (label l ∷ rest) v.1 (tt, r))
      kind_on (branch c a (a_stmt b)) k l out on rest v r =
          let q : List PlainIr = jump (l + 1) ∷ label l
          ∷ stmt_code program (plain_table table) b (l + 2 + expr_labels c + stmt_labels a) out on (label (l + 1) ∷ rest) in
          branches_on c (l + 2) 0 (where_zero l) (stmt_code program (plain_table table) a (l + 2 + expr_labels c) out on q) v.0.0
          (stmt_on a k (l + 2 + expr_labels c) out on q v.1
          (tt, (tt, stmt_on b k (l + 2 + expr_labels c + stmt_labels a) out on (label (l + 1) ∷ rest) v.2 (tt, r))))
      kind_on (while_loop c a) k l out on rest v r =
          let q : List PlainIr = label (l + 2) ∷ label l ∷ test_code program (plain_table table) (Some c) l rest in
          (tt, (tt, stmt_on a true (l + 5 + expr_labels c) (l + 1) (l + 2) q v.1 (tt, (tt, test_on (Some c) l rest v.0 r))))
      kind_on (do_loop a c) k l out on rest v r =
          let q : List PlainIr = label (l + 2) ∷ label l ∷ test_code program (plain_table table) (Some c) l rest in
          (tt, stmt_on a true (l + 5 + expr_labels c) (l + 1) (l + 2) q v.0 (tt, (tt, test_on (Some c) l rest v.1 r)))
      kind_on (for_loop first c last a) k l0 out on rest v r =
          let l = l0 + option_stmt_labels first in
          let e : List PlainIr = label l ∷ test_code program (plain_table table) c l rest in
          let q : List PlainIr = label (l + 2) ∷ last_code program (plain_table table) last (l + 5 + optional_labels c) e in
          let b : List PlainIr = label (l + 3)
          ∷ stmt_code program (plain_table table) a (l + 5 + optional_labels c + optional_labels last) (l + 1) (l + 2) q in
          option_on first k l0 out on (entry_code c l b) v.0 (entry_on c l b (
            tt,
            stmt_on a true (l + 5 + optional_labels c + optional_labels last) (l + 1) (l + 2) q v.3
                (tt, last_on last (l + 5 + optional_labels c) e v.2 (tt, test_on c l rest v.1 r)),
          ))
      kind_on break_loop k l out on rest v r = (tt, r)
      kind_on continue_loop k l out on rest v r = (tt, r)
      kind_on (return_value None) k l out on rest v r = (tt, r)
      kind_on (return_value (Some e)) k l out on rest v r =
          expr_on e l 0 (return_from (Some (temp 0 (type_of_expr e))) ∷ rest) v.1 (tt, r)

      option_on : (a : OptionPlainStmt) (k : Bool) (l out on : ℕ) (rest : List PlainIr) → ValidOptionStmt program table f returns k a
          → AllOn rest → AllOn (option_stmt_code program (plain_table table) a l out on rest)
      option_on no_stmt k l out on rest v r = r
      option_on (a_stmt a) k l out on rest v r = stmt_on a k l out on rest v r

      stmts_on : (ss : PlainStmts) (k : Bool) (l out on : ℕ) (rest : List PlainIr) → ValidStmts program table f returns k ss → AllOn rest
          → AllOn (stmts_code program (plain_table table) ss l out on rest)
      stmts_on last_stmt k l out on rest v r = r
      stmts_on (next_stmt a ss) k l out on rest v r =
          stmt_on a k l out on (stmts_code program (plain_table table) ss (l + stmt_labels a) out on rest) v.0
          (stmts_on ss k (l + stmt_labels a) out on rest v.1 r)

end_on : (returns : Bool) → AllOn (end_of returns)
end_on true = tt
end_on false = (tt, tt)

functions_on : (program : PlainProgram) (table : IoTable) → ValidIo table → GroupsHaveBytes table → (n : ℕ) (fs : List PlainFunction)
    → EachFrom n (IsFunction program table) fs → AllByRecursion (λ g. AllOn g.code) (map (lowered_function program (plain_table table)) fs)
functions_on program table valid bytes n [] v = tt
functions_on program table valid bytes n (g ∷ fs) v = (
  stmt_on program table valid bytes n g.returns g.body false 1 0 0 (label 0 ∷ end_code g.body) v.0.body
      (tt, end_on (body_returns g.body)),
  functions_on program table valid bytes (n + 1) fs v.1,
)

pub on_ports : OperationsStayOnPorts
on_ports program table valid bytes = functions_on program table valid.ports bytes 0 program.functions valid.functions
