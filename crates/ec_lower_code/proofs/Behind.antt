-- What stands behind a part of the code.
use Rattle.std.specs.Prelude.{ℕ, ◌+◌, Bool, true, false, List, [], ◌∷◌, Option, Some, None, slice_get}
use Rattle.ec_fx.specs.declared.numbers.Mode.{Mode}
use Rattle.ec_core.specs.declared.expressions.BinOp.{BinOp}
use Rattle.ec_core.specs.Layout.{PlainLeaf}
use Rattle.ec_core.specs.Operators.{OperationTypes, number_type, step_operator}
use Rattle.ec_core.specs.PortOperations.{PortAction, reads, writes, updates, port_operation}
use Rattle.ec_core.specs.PortTable.{PlainPort, PlainGroup, PlainTable, choices_of}
use Rattle.ec_core.specs.Typing.{int, type_of_expr, port_value}
use Rattle.ec_core.specs.PortAccesses.{pairs_of}
use Rattle.ec_iohw.specs.declared.operations.IoOp.{IoOp}
use Rattle.ec_iohw.specs.declared.table.Choice.{Choice}
use Rattle.ec_iohw.specs.declared.table.Pair.{Pair}
use Rattle.ec_ir.specs.declared.operations.Temp.{Temp}
use Rattle.ec_core.specs.Plain.{PlainType, void, integer, fixed, pointer, array, struct, PlainExpr, expression, PlainNode}
use Rattle.ec_core.specs.Plain.{number, null, load, address_of, unary, binary, convert, assign, compound, step, logical_not}
use Rattle.ec_core.specs.Plain.{logical_and, logical_or, conditional, comma, call, io, group, bind, dynamic_group}
use Rattle.ec_core.specs.Plain.{PlainPlace, object, deref, member}
use Rattle.ec_core.specs.Plain.{OptionPlainExpr, no_expr, an_expr, PlainExprs, last_expr, next_expr, PlainStmt, statement}
use Rattle.ec_core.specs.Plain.{PlainKind, empty, evaluate, block, declare, branch, while_loop, do_loop, for_loop, break_loop}
use Rattle.ec_core.specs.Plain.{continue_loop, return_value, OptionPlainStmt, no_stmt, a_stmt, PlainStmts, last_stmt, next_stmt}
use Rattle.ec_core.specs.Plain.{PlainProgram}
use Rattle.ec_ir.specs.Operations.{PlainIr, label}
use Rattle.ec_lower_code.specs.Code.{truth_code, Site, named, pointed, further_code, value_place, settled_code, address_code}
use Rattle.ec_lower_code.specs.Code.{update_types, update_code, keeping_code, change_code, postfix_code, step_code, params_code}
use Rattle.ec_lower_code.specs.Code.{params_of, offset_of, site, port_operator, port_code, place_behind as value_behind}
use Rattle.ec_lower_code.specs.Code.{operand_temp, access_code, pairs_code, group_code, bind_code, base_test, choices_code}
use Rattle.ec_lower_code.specs.Code.{option_code, expr_labels}
use Rattle.ec_lower_code.specs.Code.{optional_labels, option_stmt_labels, expr_code, node_code, place_code, args_code}
use Rattle.ec_lower_code.specs.Code.{init_code, test_code, entry_code, last_code, leaves_of_object, loop_code, stmt_code, kind_code}
use Rattle.ec_lower_code.specs.Code.{option_stmt_code, stmts_code}
use Rattle.ec_lower_code.specs.Code.{stepping_code, unread_code}
use Rattle.ec_lower_code.specs.Code.{temp, Branch, where_zero, where_not, branch_to, opposite, and_end, or_end, branch_code}
use Rattle.ec_lower_code.proofs.Steps.{Stands, behind}

module _ (program : PlainProgram) (table : PlainTable) (code : List PlainIr) where
  pub truth_behind : (h : Bool) (ty : PlainType) (l t : ℕ) (rest : List PlainIr) → Stands code (truth_code h ty l t rest) → Stands code rest
  truth_behind h ty l t rest s = behind code _ rest (behind code _ _ (behind code _ _ (behind code _ _ (behind code _ _ s))))

  update_behind : (op : BinOp) (ts : OperationTypes) (own mode : Mode) (ty : PlainType) (site : Site) (t : ℕ) (right : PlainType)
      (rest : List PlainIr) → Stands code (update_code op ts own mode ty site t right rest) → Stands code rest
  update_behind op ts own mode ty site t right rest s = behind code _ rest
      (behind code _ _ (behind code _ _ (behind code _ _ (behind code _ _ s))))

  pub change_behind : (op : BinOp) (own mode : Mode) (ty : PlainType) (site : Site) (t : ℕ) (right : PlainType) (rest : List PlainIr)
      → Stands code (change_code op own mode ty site t right rest) → Stands code rest
  change_behind op own mode void site t right rest s = update_behind op (update_types op (number_type void) (number_type right)) own mode
      void site t right rest s
  change_behind op own mode (integer g b) site t right rest s = update_behind op (update_types op (number_type (integer g b))
      (number_type right)) own mode (integer g b) site t right rest s
  change_behind op own mode (fixed k g) site t right rest s = update_behind op (update_types op (number_type (fixed k g))
      (number_type right)) own mode (fixed k g) site t right rest s
  change_behind op own mode (pointer c k u) site t right rest s = behind code _ rest (behind code _ _ s)
  change_behind op own mode (array u n) site t right rest s = update_behind op (update_types op (number_type (array u n))
      (number_type right)) own mode (array u n) site t right rest s
  change_behind op own mode (struct n) site t right rest s = update_behind op (update_types op (number_type (struct n)) (number_type right))
      own mode (struct n) site t right rest s

  keeping_behind : (op : BinOp) (ts : OperationTypes) (mode : Mode) (ty : PlainType) (site : Site) (t : ℕ) (rest : List PlainIr)
      → Stands code (keeping_code op ts mode ty site t int rest) → Stands code rest
  keeping_behind op ts mode ty site t rest s = behind code _ rest
      (behind code _ _ (behind code _ _ (behind code _ _ (behind code _ _ (behind code _ _ s)))))

  postfix_behind : (op : BinOp) (mode : Mode) (ty : PlainType) (site : Site) (t : ℕ) (rest : List PlainIr)
      → Stands code (postfix_code op mode ty site t rest) → Stands code rest
  postfix_behind op mode void site t rest s = keeping_behind op (update_types op (number_type void) (number_type int)) mode void site t rest
      s
  postfix_behind op mode (integer g b) site t rest s = keeping_behind op (update_types op (number_type (integer g b)) (number_type int))
      mode (integer g b) site t rest s
  postfix_behind op mode (fixed k g) site t rest s = keeping_behind op (update_types op (number_type (fixed k g)) (number_type int)) mode
      (fixed k g) site t rest s
  postfix_behind op mode (pointer c k u) site t rest s = behind code _ rest (behind code _ _ s)
  postfix_behind op mode (array u n) site t rest s = keeping_behind op (update_types op (number_type (array u n)) (number_type int)) mode
      (array u n) site t rest s
  postfix_behind op mode (struct n) site t rest s = keeping_behind op (update_types op (number_type (struct n)) (number_type int)) mode
      (struct n) site t rest s

  step_behind : (prefix : Bool) (op : BinOp) (mode : Mode) (ty : PlainType) (site : Site) (t : ℕ) (rest : List PlainIr)
      → Stands code (step_code prefix op mode ty site t rest) → Stands code rest
  step_behind true op mode ty site t rest s = change_behind op mode mode ty site t int rest s
  step_behind false op mode ty site t rest s = postfix_behind op mode ty site t rest s

  further_behind : (k : ℕ) (site : Site) (rest : List PlainIr) → Stands code (further_code k site rest) → Stands code rest
  further_behind k (named o offset) rest s = s
  further_behind k (pointed ptr space) rest s = behind code _ rest s

  settled_behind : (site : Site) (ty : PlainType) (t : ℕ) (rest : List PlainIr) → Stands code (settled_code site ty t rest)
      → Stands code rest
  settled_behind (named o offset) ty t rest s = s
  settled_behind (pointed ptr space) ty t rest s = behind code _ rest s

  branch_to_behind : (to : Branch) (t : Temp) (rest : List PlainIr) → Stands code (branch_to to t rest) → Stands code rest
  branch_to_behind (where_zero to) t rest s = behind code _ rest s
  branch_to_behind (where_not to past) t rest s = behind code _ rest (behind code _ _ (behind code _ _ s))

  and_end_behind : (to : Branch) (l : ℕ) (rest : List PlainIr) → Stands code (and_end to l rest) → Stands code rest
  and_end_behind (where_zero to) l rest s = s
  and_end_behind (where_not to past) l rest s = behind code _ rest s

  or_end_behind : (to : Branch) (l : ℕ) (rest : List PlainIr) → Stands code (or_end to l rest) → Stands code rest
  or_end_behind (where_zero to) l rest s = behind code _ rest s
  or_end_behind (where_not to past) l rest s = s

  stepping_behind : (up prefix : Bool) (mode : Mode) (ty : PlainType) (site : Site) (t : ℕ) (rest : List PlainIr)
      → Stands code (stepping_code up prefix mode ty site t rest) → Stands code rest
  stepping_behind up prefix mode ty site t rest s = settled_behind site ty t rest
      (step_behind prefix (step_operator up) mode ty site (value_place site t) _ (behind code _ _ (behind code _ _ s)))

  address_behind : (site : Site) (ty : PlainType) (t : ℕ) (rest : List PlainIr) → Stands code (address_code site ty t rest)
      → Stands code rest
  address_behind (named o offset) ty t rest s = behind code _ rest s
  address_behind (pointed ptr space) ty t rest s = s

  pub params_behind : (os : List ℕ) (es : PlainExprs) (t : ℕ) (rest : List PlainIr) → Stands code (params_code os es t rest)
      → Stands code rest
  params_behind [] es t rest h = h
  params_behind (o ∷ os) last_expr t rest h = h
  params_behind (o ∷ os) (next_expr e es) t rest h = params_behind os es (t + 1) rest (behind code _ _ h)

  port_behind : (action : PortAction) (op : BinOp) (ty : PlainType) (mode : Mode) (port : PlainPort) (index : Option Temp) (t v : ℕ)
      (rest : List PlainIr)
      → Stands code (port_code action op ty mode port index t v rest) → Stands code rest
  port_behind reads op ty mode port index t v rest s = behind code _ rest s
  port_behind writes op ty mode port index t v rest s = behind code _ rest s
  port_behind updates op ty mode port index t v rest s = behind code _ rest (behind code _ _ (behind code _ _ s))

  access_behind : (op : IoOp) (mode : Mode) (port : Option PlainPort) (index : OptionPlainExpr) (t : ℕ) (rest : List PlainIr)
      → Stands code (access_code op mode port index t rest) → Stands code rest
  access_behind op mode None index t rest s = s
  access_behind op mode (Some port) index t rest s =
      port_behind (port_operation op).action (port_operator op) (port_value (port_operation op)) mode port (operand_temp index t) t
      (value_behind index t) rest s

  pairs_behind : (pairs : List Pair) (t : ℕ) (rest : List PlainIr) → Stands code (pairs_code pairs t rest) → Stands code rest
  pairs_behind [] t rest s = s
  pairs_behind (pair ∷ pairs) t rest s = pairs_behind pairs t rest (behind code _ _ (behind code _ _ s))

  pub group_behind : (acquire : Bool) (x : Option PlainGroup) (t : ℕ) (rest : List PlainIr) → Stands code (group_code acquire x t rest)
      → Stands code rest
  group_behind acquire None t rest s = s
  group_behind acquire (Some x) t rest s = pairs_behind (pairs_of acquire x) t rest s

  bind_behind : (d : ℕ) (c : Option Choice) (t : ℕ) (rest : List PlainIr) → Stands code (bind_code d c t rest) → Stands code rest
  bind_behind d None t rest s = s
  bind_behind d (Some c) t rest s = behind code _ rest (behind code _ _ s)

  pub test_behind_base : (mode : Mode) (d base l t : ℕ) (rest : List PlainIr) → Stands code (base_test mode d base l t rest)
      → Stands code rest
  test_behind_base mode d base l t rest s = behind code _ rest (behind code _ _ (behind code _ _ (behind code _ _ s)))

  pub choices_behind : (acquire : Bool) (mode : Mode) (d : ℕ) (cs : List Choice) (l t : ℕ) (rest : List PlainIr)
      → Stands code (choices_code acquire table mode d cs l t rest) → Stands code rest
  choices_behind acquire mode d [] l t rest s = s
  choices_behind acquire mode d (c ∷ []) l t rest s = group_behind acquire (slice_get table.groups c.group) t rest s
  choices_behind acquire mode d (c ∷ other ∷ cs) l t rest s =
      behind code (label (l + 1)) rest (group_behind acquire (slice_get table.groups c.group) t (label (l + 1) ∷ rest)
      (behind code _ _ (behind code _ _ (choices_behind acquire mode d (other ∷ cs) (l + 2) t _
      (test_behind_base mode d c.base l t _ s)))))

  mutual
    pub expr_behind : (e : PlainExpr) (l t : ℕ) (rest : List PlainIr) → Stands code (expr_code program table e l t rest) → Stands code rest
    expr_behind (expression ty mode node) l t rest h = node_behind ty mode node l t rest h

    pub node_behind : (ty : PlainType) (mode : Mode) (node : PlainNode) (l t : ℕ) (rest : List PlainIr)
        → Stands code (node_code program table ty mode node l t rest) → Stands code rest
    node_behind ty mode (number n) l t rest h = behind code _ rest h
    node_behind ty mode null l t rest h = behind code _ rest h
    node_behind ty mode (load p) l t rest h = behind code _ rest (place_behind p l t _ h)
    node_behind ty mode (address_of p) l t rest h = address_behind (site program p t) ty t rest (place_behind p l t _ h)
    node_behind ty mode (unary op a) l t rest h = behind code _ rest (expr_behind a l t _ h)
    node_behind ty mode (binary op a b) l t rest h = behind code _ rest (expr_behind b _ (t + 1) _ (expr_behind a l t _ h))
    node_behind ty mode (convert a) l t rest h = behind code _ rest (expr_behind a l t _ h)
    node_behind ty mode (assign p a) l t rest h =
        settled_behind (site program p t) ty t rest (behind code _ _ (expr_behind a _ _ _ (place_behind p l t _ h)))
    node_behind ty mode (compound op own p a) l t rest h =
        settled_behind (site program p t) ty t rest (change_behind op own mode ty (site program p t) (value_place (site program p t) t)
        (type_of_expr a) _ (expr_behind a _ _ _ (behind code _ _ (place_behind p l t _ h))))
    node_behind ty mode (step up prefix p) l t rest h = stepping_behind up prefix mode ty (site program p t) t rest
        (place_behind p l t _ h)
    node_behind ty mode (logical_not a) l t rest h = truth_behind false ty l t rest (branch_behind a _ t _ _ h)
    node_behind ty mode (logical_and a b) l t rest h = truth_behind true ty l t rest
        (branch_behind b _ t _ _ (branch_behind a _ t _ _ h))
    node_behind ty mode (logical_or a b) l t rest h = truth_behind true ty l t rest
        (behind code _ _ (branch_behind b _ t _ _ (branch_behind a _ t _ _ h)))
    node_behind ty mode (conditional c a b) l t rest h = behind code _ rest
        (expr_behind b _ t _ (behind code _ _ (behind code _ _ (expr_behind a _ t _ (branch_behind c _ t _ _ h)))))
    node_behind ty mode (comma a b) l t rest h = expr_behind b _ t rest (unread_behind a l t _ h)
    node_behind ty mode (call f args) l t rest h = behind code _ rest (params_behind (params_of program f) args t _
        (args_behind args l t _ h))
    node_behind ty mode (io op port i v) l t rest h = access_behind op mode (slice_get table.ports port) i t rest
        (operand_behind v _ _ _ (operand_behind i l t _ h))
    node_behind ty mode (group acquire g) l t rest h = group_behind acquire (slice_get table.groups g) t rest h
    node_behind ty mode (bind d choice) l t rest h = bind_behind d (slice_get (choices_of table d) choice) t rest h
    node_behind ty mode (dynamic_group acquire d) l t rest h = choices_behind acquire mode d (choices_of table d) l t rest h

    pub unread_behind : (e : PlainExpr) (l t : ℕ) (rest : List PlainIr) → Stands code (unread_code program table e l t rest)
        → Stands code rest
    unread_behind (expression ty mode (step up prefix p)) l t rest h = stepping_behind up true mode ty (site program p t) t rest
        (place_behind p l t _ h)
    unread_behind (expression ty mode (comma a b)) l t rest h = unread_behind b _ t rest (unread_behind a l t _ h)
    unread_behind (expression ty mode node) l t rest h = node_behind ty mode node l t rest h

    pub branch_behind : (e : PlainExpr) (l t : ℕ) (to : Branch) (rest : List PlainIr)
        → Stands code (branch_code program table e l t to rest) → Stands code rest
    branch_behind (expression ty mode (logical_not a)) l t to rest h = branch_behind a (l + 2) t (opposite to l) rest h
    branch_behind (expression ty mode (logical_and a b)) l t to rest h = and_end_behind to l rest
        (branch_behind b _ t to _ (branch_behind a _ t _ _ h))
    branch_behind (expression ty mode (logical_or a b)) l t to rest h = or_end_behind to l rest
        (branch_behind b _ t to _ (branch_behind a _ t _ _ h))
    branch_behind (expression ty mode node) l t to rest h = branch_to_behind to (temp t ty) rest (node_behind ty mode node l t _ h)

    pub place_behind : (p : PlainPlace) (l t : ℕ) (rest : List PlainIr) → Stands code (place_code program table p l t rest)
        → Stands code rest
    place_behind (object o) l t rest h = h
    place_behind (deref e) l t rest h = expr_behind e l t rest h
    place_behind (member p i) l t rest h = further_behind (offset_of program p i) (site program p t) rest (place_behind p l t _ h)

    -- an operand that may be absent
    pub operand_behind : (e : OptionPlainExpr) (l t : ℕ) (rest : List PlainIr) → Stands code (option_code program table e l t rest)
        → Stands code rest
    operand_behind no_expr l t rest h = h
    operand_behind (an_expr e) l t rest h = expr_behind e l t rest h

    pub args_behind : (es : PlainExprs) (l t : ℕ) (rest : List PlainIr) → Stands code (args_code program table es l t rest)
        → Stands code rest
    args_behind last_expr l t rest h = h
    args_behind (next_expr e es) l t rest h = args_behind es _ (t + 1) rest (expr_behind e l t _ h)

  pub init_behind : (ls : List PlainLeaf) (o : ℕ) (es : PlainExprs) (l : ℕ) (rest : List PlainIr)
      → Stands code (init_code program table ls o es l rest) → Stands code rest
  init_behind [] o es l rest h = h
  init_behind (leaf ∷ ls) o last_expr l rest h = h
  init_behind (leaf ∷ ls) o (next_expr e es) l rest h = init_behind ls o es _ rest (behind code _ _ (expr_behind e l 0 _ h))

  -- the end of a loop behind its test, and what stands behind what it begins with
  pub test_behind : (c : Option PlainExpr) (l : ℕ) (rest : List PlainIr) → Stands code (test_code program table c l rest)
      → Stands code (label (l + 1) ∷ rest)
  test_behind None l rest h = behind code _ _ h
  test_behind (Some c) l rest h = branch_behind c (l + 5) 0 _ _ h

  pub entry_behind : (c : Option PlainExpr) (l : ℕ) (rest : List PlainIr) → Stands code (entry_code c l rest)
      → Stands code rest
  entry_behind None l rest h = h
  entry_behind (Some c) l rest h = behind code _ _ h

  pub last_behind : (e : Option PlainExpr) (l : ℕ) (rest : List PlainIr) → Stands code (last_code program table e l rest) → Stands code rest
  last_behind None l rest h = h
  last_behind (Some e) l rest h = unread_behind e l 0 rest h

  loop_behind : (c last : Option PlainExpr) (l : ℕ) (body : List PlainIr → List PlainIr) (rest : List PlainIr)
      → ((q : List PlainIr) → Stands code (body q) → Stands code q) → Stands code (loop_code program table c last l body rest)
      → Stands code rest
  loop_behind c last l body rest f h =
      behind code _ rest (test_behind c l rest (behind code _ _ (last_behind last _ _
      (behind code _ _ (f _ (behind code _ _ h))))))

  mutual
    pub stmt_behind : (a : PlainStmt) (l out on : ℕ) (rest : List PlainIr) → Stands code (stmt_code program table a l out on rest)
        → Stands code rest
    stmt_behind (statement unit k kind) l out on rest h = kind_behind kind l out on rest h

    kind_behind : (kind : PlainKind) (l out on : ℕ) (rest : List PlainIr) → Stands code (kind_code program table kind l out on rest)
        → Stands code rest
    kind_behind empty l out on rest h = h
    kind_behind (evaluate e) l out on rest h = unread_behind e l 0 rest h
    kind_behind (block ss) l out on rest h = stmts_behind ss l out on rest h
    kind_behind (declare o es) l out on rest h = init_behind (leaves_of_object program o) o es l rest h
    kind_behind (branch c a no_stmt) l out on rest h = behind code _ rest
        (stmt_behind a _ out on _ (branch_behind c (l + 2) 0 _ _ h))
    kind_behind (branch c a (a_stmt b)) l out on rest h = behind code _ rest
        (stmt_behind b _ out on _ (behind code _ _ (behind code _ _
        (stmt_behind a _ out on _ (branch_behind c (l + 2) 0 _ _ h)))))
    kind_behind (while_loop c a) l out on rest h = loop_behind (Some c) None l (λ q. stmt_code program table a (l + 5 + expr_labels c)
        (l + 1) (l + 2) q) rest (λ q g. stmt_behind a (l + 5 + expr_labels c) (l + 1) (l + 2) q g) (behind code _ _ h)
    kind_behind (do_loop a c) l out on rest h = loop_behind (Some c) None l (λ q. stmt_code program table a (l + 5 + expr_labels c) (l + 1)
        (l + 2) q) rest (λ q g. stmt_behind a (l + 5 + expr_labels c) (l + 1) (l + 2) q g) h
    kind_behind (for_loop first c last a) l out on rest h =
        let m = l + option_stmt_labels first in
        loop_behind c last m (λ q. stmt_code program table a (m + 5 + optional_labels c + optional_labels last) (m + 1) (m + 2) q) rest
        (λ q g. stmt_behind a (m + 5 + optional_labels c + optional_labels last) (m + 1) (m + 2) q g)
        (entry_behind c m _ (option_behind first l out on _ h))
    kind_behind break_loop l out on rest h = behind code _ rest h
    kind_behind continue_loop l out on rest h = behind code _ rest h
    kind_behind (return_value None) l out on rest h = behind code _ rest h
    kind_behind (return_value (Some e)) l out on rest h = behind code _ rest (expr_behind e l 0 _ h)

    pub option_behind : (a : OptionPlainStmt) (l out on : ℕ) (rest : List PlainIr)
        → Stands code (option_stmt_code program table a l out on rest) → Stands code rest
    option_behind no_stmt l out on rest h = h
    option_behind (a_stmt a) l out on rest h = stmt_behind a l out on rest h

    pub stmts_behind : (ss : PlainStmts) (l out on : ℕ) (rest : List PlainIr) → Stands code (stmts_code program table ss l out on rest)
        → Stands code rest
    stmts_behind last_stmt l out on rest h = h
    stmts_behind (next_stmt a ss) l out on rest h = stmts_behind ss _ out on rest (stmt_behind a l out on _ h)
