-- The words of a function's operations are within the rows of its parts.
use Rattle.std.proofs.Common.{◌≡◌, ℕ, ◌+◌, ◌*◌, ◌≤◌, Bool, true, false, List, [], ◌∷◌, map, Option, Some, None, ap, arith}
use Rattle.std.specs.Prelude.{max, length, slice_get, option_map, unwrap_or, if◌then◌else◌}
use Rattle.ec_iohw.specs.declared.table.IoTable.{IoTable}
use Rattle.ec_fx.specs.declared.numbers.Mode.{Mode}
use Rattle.ec_core.specs.Layout.{scalar_size, IsScalar, PlainLeaf}
use Rattle.ec_core.specs.Operators.{step_operator}
use Rattle.ec_core.specs.declared.expressions.BinOp.{BinOp}
use Rattle.ec_core.specs.Plain.{PlainType, void, integer, fixed, pointer, array, struct, PlainExpr, expression, PlainNode}
use Rattle.ec_core.specs.Plain.{number, null, load, address_of, unary, binary, convert, assign, compound, step, logical_not}
use Rattle.ec_core.specs.Plain.{logical_and, logical_or, conditional, comma, call, io, group, bind, dynamic_group}
use Rattle.ec_core.specs.Plain.{PlainPlace, object, deref, member}
use Rattle.ec_core.specs.Plain.{OptionPlainExpr, no_expr, an_expr, PlainExprs, last_expr, next_expr, PlainStmt, statement}
use Rattle.ec_core.specs.Plain.{PlainKind, empty, evaluate, block, declare, branch, while_loop, do_loop, for_loop, break_loop}
use Rattle.ec_core.specs.Plain.{continue_loop, return_value, OptionPlainStmt, no_stmt, a_stmt, PlainStmts, last_stmt, next_stmt}
use Rattle.ec_core.specs.Plain.{PlainFunction, PlainProgram}
use Rattle.ec_core.specs.PortAccesses.{pairs_of}
use Rattle.ec_core.specs.PortOperations.{PortAction, reads, writes, updates, port_operation}
use Rattle.ec_core.specs.PortTable.{PlainPort, PlainGroup, PlainTable, plain_table, choices_of}
use Rattle.ec_iohw.specs.declared.operations.IoOp.{IoOp}
use Rattle.ec_iohw.specs.declared.table.Choice.{Choice}
use Rattle.ec_iohw.specs.declared.table.Pair.{Pair}
use Rattle.ec_core.specs.Typing.{int, type_of_expr, unsigned_int, unsigned_long, IsTyped}
use Rattle.ec_core.specs.Valid.{EachFrom, IsExprType, ValidExpr, ValidParts, ValidPlace, ValidOption, ValidExprs}
use Rattle.ec_core.specs.Valid.{ValidCondition, ValidOptional, ValidStmt, ValidKind, ValidOptionStmt, ValidStmts, IsFunction}
use Rattle.ec_core.specs.Valid.{Valid}
use Rattle.ec_core.specs.Weight.{expr_weight, place_weight, option_weight, exprs_weight, optional_weight, leaves_weight}
use Rattle.ec_core.specs.Weight.{stmt_weight, kind_weight, option_stmt_weight, stmts_weight, function_weight, functions_weight}
use Rattle.ec_core.specs.Weight.{objects_weight, weight}
use Rattle.ec_core.specs.Words.{widest, pointer_types, update_words, member_words, choice_words, group_words, port_words, bind_words}
use Rattle.ec_core.specs.Words.{dynamic_words}
use Rattle.ec_core.specs.Words.{program_words, total_size}
use Rattle.ec_ir.specs.Costs.{op_words, branch_zero_words, code_words, functions_words}
use Rattle.ec_ir.specs.Operations.{PlainIr, store_object, binary_op, unary_op, conversion, label, jump}
use Rattle.ec_ir.specs.Operations.{call_function, return_from}
use Rattle.ec_lower_code.specs.Code.{temp, result_temp, truth_code, place_labels, Site, named, pointed, further_code, load_from}
use Rattle.ec_lower_code.specs.Code.{store_to, value_place, settled_code, address_code, change_code, postfix_code, step_code}
use Rattle.ec_lower_code.specs.Code.{offset_of, site, place_code, params_of, params_code, port_operator, port_code}
use Rattle.ec_lower_code.specs.Code.{place_behind, operand_temp, access_code, pairs_code, group_code, bind_code, choices_code}
use Rattle.ec_lower_code.specs.Code.{option_labels}
use Rattle.ec_lower_code.specs.Code.{option_code, expr_labels, optional_labels, option_stmt_labels, stmt_labels, expr_code}
use Rattle.ec_lower_code.specs.Code.{node_code, args_code, init_code, test_code, entry_code, last_code, leaves_of_object, stmt_code}
use Rattle.ec_lower_code.specs.Code.{kind_code, option_stmt_code, stmts_code, body_returns, end_of, end_code}
use Rattle.ec_lower_code.specs.Code.{function_code, lowered_function, lowered}
use Rattle.ec_lower_code.specs.Code.{stepping_code, unread_code}
use Rattle.ec_lower_code.specs.Code.{Branch, where_zero, where_not, branch_to, opposite, zero_label, other_label, and_end}
use Rattle.ec_lower_code.specs.Code.{or_end, branch_code}
use Rattle.ec_lower_code.proofs.Expressions.{type_known, change_words, change_paid, postfix_words, stepped_words, stepped_place}
use Rattle.ec_lower_code.proofs.Expressions.{stepped_paid}
use Rattle.ec_lower_code.proofs.Places.{Root, root, load_paid, store_paid, settle_words}
use Rattle.ec_lower_code.proofs.Calls.{call_bytes}
use Rattle.ec_lower_code.proofs.Numbers.{scalar_bytes}
use Rattle.ec_lower_code.proofs.Pays.{simple_pays, unary_pays, binary_pays, conversion_pays, choice_pays, return_pays}
use Rattle.ec_lower_code.proofs.Pays.{update_words_are, read_pays, write_pays, port_bytes, branch_cost, branch_most, not_leads}
use Rattle.ec_lower_code.proofs.Pays.{both_lead}

not_fits : (t a : ℕ) → t ≡ 2 → branch_zero_words a + (10 * t + 5) ≤ choice_words (max t (max a 1))
not_fits t a e = omega (arith, e)

both_fit : (t a b : ℕ) → t ≡ 2 → branch_zero_words a + (branch_zero_words b + (10 * t + 10)) ≤ choice_words (max t (max a (max b 1)))
both_fit t a b e = omega (arith, e)

params_fit : (os : List ℕ) (es : PlainExprs) (t : ℕ) (rest : List PlainIr) → code_words (params_code os es t rest) ≤ 5 * total_size
    es + code_words rest
params_fit [] es t rest = omega arith
params_fit (o ∷ os) last_expr t rest = omega arith
params_fit (o ∷ os) (next_expr e es) t rest = let x = params_fit os es (t + 1) rest in omega (arith, x)

-- an operation on a port, where it takes an index or not
port_fits : (action : PortAction) (op : IoOp) (long : Bool) (mode : Mode) (port : PlainPort) (index : OptionPlainExpr) (t v : ℕ)
    (rest : List PlainIr)
    → code_words (port_code action (port_operator op) (if long then unsigned_long else unsigned_int) mode port (operand_temp index t) t v
    rest) ≤ port_words action port.width + code_words rest
port_fits reads op long mode port index t v rest =
    let i = read_pays port.dynamic (temp t (if long then unsigned_long else unsigned_int)) port.address index t port.width in
    let b = port_bytes long in omega (arith, i, b)
port_fits writes op long mode port index t v rest =
    let i = write_pays port.dynamic (temp v (if long then unsigned_long else unsigned_int)) port.address index t port.width in
    let b = port_bytes long in omega (arith, i, b)
port_fits updates op true mode port index t v rest =
    let i = read_pays port.dynamic (temp (v + 1) unsigned_long) port.address index t port.width in
    let o = write_pays port.dynamic (temp (v + 1) unsigned_long) port.address index t port.width in
    let u = update_words_are op 4 in omega (arith, i, o, u)
port_fits updates op false mode port index t v rest =
    let i = read_pays port.dynamic (temp (v + 1) unsigned_int) port.address index t port.width in
    let o = write_pays port.dynamic (temp (v + 1) unsigned_int) port.address index t port.width in
    let u = update_words_are op 2 in omega (arith, i, o, u)

access_fits : (op : IoOp) (mode : Mode) (port : Option PlainPort) (index : OptionPlainExpr) (t : ℕ) (rest : List PlainIr)
    → code_words (access_code op mode port index t rest) ≤ port_words (port_operation op).action
    (unwrap_or (option_map (λ (p : PlainPort). p.width) port) 0) + code_words rest
access_fits op mode None index t rest = omega arith
access_fits op mode (Some port) index t rest = port_fits (port_operation op).action op (port_operation op).long mode port index t
    (place_behind index t) rest

pairs_fit : (pairs : List Pair) (t : ℕ) (rest : List PlainIr) → code_words (pairs_code pairs t rest) ≤ 10 * length pairs + code_words rest
pairs_fit [] t rest = omega arith
pairs_fit (pair ∷ pairs) t rest = let x = pairs_fit pairs t rest in omega (arith, x)

group_fits : (acquire : Bool) (x : Option PlainGroup) (t : ℕ) (rest : List PlainIr)
    → code_words (group_code acquire x t rest) ≤ group_words (unwrap_or (option_map (λ (y : PlainGroup). length (pairs_of acquire y)) x)
    0) + code_words rest
group_fits acquire None t rest = omega arith
group_fits acquire (Some x) t rest = let y = pairs_fit (pairs_of acquire x) t rest in omega (arith, y)

-- without the words of a row
pairs_of_fit : (acquire : Bool) (x : Option PlainGroup) (t : ℕ) (rest : List PlainIr) → code_words (group_code acquire x t rest)
    ≤ 10 * unwrap_or (option_map (λ (y : PlainGroup). length (pairs_of acquire y)) x) 0 + code_words rest
pairs_of_fit acquire None t rest = omega arith
pairs_of_fit acquire (Some x) t rest = pairs_fit (pairs_of acquire x) t rest

bind_fits : (d : ℕ) (c : Option Choice) (t : ℕ) (rest : List PlainIr) → code_words (bind_code d c t rest) ≤ bind_words + code_words rest
bind_fits d None t rest = omega arith
bind_fits d (Some c) t rest = omega arith

choices_fit : (acquire : Bool) (table : PlainTable) (mode : Mode) (d : ℕ) (cs : List Choice) (l t : ℕ) (rest : List PlainIr)
    → code_words (choices_code acquire table mode d cs l t rest) ≤ dynamic_words table acquire cs + code_words rest
choices_fit acquire table mode d [] l t rest = omega arith
choices_fit acquire table mode d (c ∷ []) l t rest =
    let x = pairs_of_fit acquire (slice_get table.groups c.group) t rest in omega (arith, x)
choices_fit acquire table mode d (c ∷ other ∷ cs) l t rest =
    let after_group : List PlainIr = label (l + 1) ∷ rest in
    let pairs = group_code acquire (slice_get table.groups c.group) t after_group in
    let x = choices_fit acquire table mode d (other ∷ cs) (l + 2) t (jump (l + 1) ∷ label l ∷ pairs) in
    let y = pairs_of_fit acquire (slice_get table.groups c.group) t after_group in omega (arith, x, y)

module _ (program : PlainProgram) (table : IoTable) (f : ℕ) where
  address_words : (s : Site) (ty : PlainType) (t : ℕ) (rest : List PlainIr) → code_words (address_code s ty t rest) ≤ 5 * scalar_size
      ty + code_words rest
  address_words (named o offset) ty t rest = omega arith
  address_words (pointed ptr space) ty t rest = omega arith

  further_fits : (k : ℕ) (s : Site) (rest : List PlainIr) → code_words (further_code k s rest) ≤ member_words + code_words rest
  further_fits k (named o offset) rest = omega arith
  further_fits k (pointed ptr space) rest = omega arith

  settled_fits : (s : Site) (ty : PlainType) (t : ℕ) (rest : List PlainIr) → code_words (settled_code s ty t rest) ≤ settle_words program s
      ty + code_words rest
  settled_fits (named o offset) ty t rest = omega arith
  settled_fits (pointed ptr space) ty t rest = omega arith

  change_fits : (op : BinOp) (own mode : Mode) (ty : PlainType) (s : Site) (v : ℕ) (right : PlainType) (rest : List PlainIr)
      → code_words (change_code op own mode ty s v right rest) ≤ change_words op ty right + (op_words (store_to s (temp v ty)) + code_words
      rest)
  change_fits op own mode void s v right rest = omega arith
  change_fits op own mode (integer g b) s v right rest = omega arith
  change_fits op own mode (fixed k g) s v right rest = omega arith
  change_fits op own mode (pointer c k u) s v right rest = omega arith
  change_fits op own mode (array u n) s v right rest = omega arith
  change_fits op own mode (struct n) s v right rest = omega arith

  postfix_fits : (op : BinOp) (mode : Mode) (ty : PlainType) (s : Site) (v : ℕ) (rest : List PlainIr)
      → code_words (postfix_code op mode ty s v rest) ≤ postfix_words op ty + (op_words (store_to s (temp (v + 1) ty)) + code_words rest)
  postfix_fits op mode void s v rest = omega arith
  postfix_fits op mode (integer g b) s v rest = omega arith
  postfix_fits op mode (fixed k g) s v rest = omega arith
  postfix_fits op mode (pointer c k u) s v rest = omega arith
  postfix_fits op mode (array u n) s v rest = omega arith
  postfix_fits op mode (struct n) s v rest = omega arith

  -- the words of the parts of a step
  step_fits : (prefix : Bool) (op : BinOp) (mode : Mode) (ty : PlainType) (s : Site) (v : ℕ) (rest : List PlainIr)
      → code_words (step_code prefix op mode ty s v rest) ≤ stepped_words prefix op ty + (op_words
      (store_to s (temp (stepped_place prefix v) ty)) + code_words rest)
  step_fits true op mode ty s v rest = change_fits op mode mode ty s v int rest
  step_fits false op mode ty s v rest = postfix_fits op mode ty s v rest

  branch_to_fits : (to : Branch) (t : ℕ) (ty : PlainType) (rest : List PlainIr)
      → code_words (branch_to to (temp t ty) rest) ≤ branch_cost to (scalar_size ty) + code_words rest
  branch_to_fits (where_zero to) t ty rest = omega arith
  branch_to_fits (where_not to past) t ty rest = omega arith

  and_end_fits : (to : Branch) (l : ℕ) (rest : List PlainIr) → code_words (and_end to l rest) ≤ code_words rest
  and_end_fits (where_zero to) l rest = omega arith
  and_end_fits (where_not to past) l rest = omega arith

  or_end_fits : (to : Branch) (l : ℕ) (rest : List PlainIr) → code_words (or_end to l rest) ≤ code_words rest
  or_end_fits (where_zero to) l rest = omega arith
  or_end_fits (where_not to past) l rest = omega arith

  stepping_fits : (up prefix : Bool) (mode : Mode) (ty : PlainType) (q : PlainPlace) (t : ℕ) (rest : List PlainIr) → IsScalar ty
      → Root program q t → code_words (stepping_code up prefix mode ty (site program q t) t rest)
      ≤ update_words (widest (ty ∷ pointer_types q [])) + code_words rest
  stepping_fits up prefix mode ty q t rest i top =
      let s = site program q t in
      let u = value_place s t in
      let w = step_fits prefix (step_operator up) mode ty s u (settled_code s ty t rest) in
      let g = settled_fits s ty t rest in
      let z = stepped_paid program q t u up prefix ty i top in omega (arith, w, g, z)

  mutual
    pub expr_fits : (e : PlainExpr) (l t : ℕ) (rest : List PlainIr) → ValidExpr program table f e
        → code_words (expr_code program (plain_table table) e l t rest) ≤ expr_weight (plain_table table) e + code_words rest
    expr_fits (expression ty mode node) l t rest v = node_fits ty mode node l t rest v.0 v.1 v.2

    node_fits : (ty : PlainType) (mode : Mode) (node : PlainNode) (l t : ℕ) (rest : List PlainIr) → IsExprType program ty
        → IsTyped program table ty node → ValidParts program table f node
        → code_words (node_code program (plain_table table) ty mode node l t rest) ≤ expr_weight (plain_table table)
        (expression ty mode node) + code_words rest
    node_fits ty mode (number n) l t rest k tp v = let x = simple_pays (scalar_size ty) 1 in omega (arith, x)
    node_fits ty mode null l t rest k tp v = let x = simple_pays (scalar_size ty) 1 in omega (arith, x)
    node_fits ty mode (load q) l t rest k tp v =
        let x = place_fits q l t (load_from (temp t ty) (site program q t) ∷ rest) v in
        let y = load_paid program q t t ty (root program q t ty tp.1) in omega (arith, x, y)
    node_fits ty mode (address_of q) l t rest k tp v =
        let x = place_fits q l t (address_code (site program q t) ty t rest) v.0 in
        let y = address_words (site program q t) ty t rest in omega (arith, x, y)
    node_fits ty mode (unary op a) l t rest k tp v =
        let q : List PlainIr = unary_op op ty mode (temp t ty) (temp t ty) ∷ rest in
        let x = expr_fits a l t q v in let y = unary_pays (scalar_size ty) (max (scalar_size (type_of_expr a)) 1) in omega (arith, x, y)
    node_fits ty mode (binary op a b) l t rest k tp v =
        let q : List PlainIr = binary_op op ty mode (temp t ty) (temp t (type_of_expr a)) (type_of_expr a) (temp (t + 1) (type_of_expr b))
        (type_of_expr b) ∷ rest in
        let x = expr_fits a l t (expr_code program (plain_table table) b (l + expr_labels a) (t + 1) q) v.0 in
        let y = expr_fits b (l + expr_labels a) (t + 1) q v.1 in
        let z = binary_pays op ty (type_of_expr a) (type_of_expr b) in omega (arith, x, y, z)
    node_fits ty mode (convert a) l t rest k tp v =
        let q : List PlainIr = conversion (temp t ty) ty mode (temp t (type_of_expr a)) (type_of_expr a) ∷ rest in
        let x = expr_fits a l t q v in let y = conversion_pays ty (type_of_expr a) in omega (arith, x, y)
    node_fits ty mode (assign q a) l t rest k tp v =
        let s = site program q t in
        let u = value_place s t in
        let c : List PlainIr = store_to s (temp u ty) ∷ settled_code s ty t rest in
        let x = place_fits q l t (expr_code program (plain_table table) a (l + place_labels q) u c) v.0 in
        let y = expr_fits a (l + place_labels q) u c v.1 in
        let g = settled_fits s ty t rest in
        let z = store_paid program q t u ty (type_of_expr a) (root program q t ty tp.0.1) in omega (arith, x, y, g, z)
    node_fits ty mode (compound op own q a) l t rest k tp v =
        let s = site program q t in
        let u = value_place s t in
        let r = settled_code s ty t rest in
        let c = change_code op own mode ty s u (type_of_expr a) r in
        let x = place_fits q l t (load_from (temp u ty) s ∷ expr_code program (plain_table table) a (l + place_labels q) (u + 1) c) v.0 in
        let y = expr_fits a (l + place_labels q) (u + 1) c v.1 in
        let w = change_fits op own mode ty s u (type_of_expr a) r in
        let g = settled_fits s ty t rest in
        let z = change_paid program q t u op ty (type_of_expr a) tp.0.0 (type_known program table f a v.1) tp.1
        (root program q t ty tp.0.1) in omega (arith, x, y, w, g, z)
    node_fits ty mode (step up prefix q) l t rest k tp v =
        let x = place_fits q l t (stepping_code up prefix mode ty (site program q t) t rest) v in
        let y = stepping_fits up prefix mode ty q t rest tp.0 (root program q t ty tp.1) in omega (arith, x, y)
    node_fits ty mode (logical_not a) l t rest k tp v =
        let x = branch_fits a (l + 2) t (where_zero l) (truth_code false ty l t rest) v in
        let y = not_fits (scalar_size ty) (scalar_size (type_of_expr a)) (ap scalar_size tp.1) in omega (arith, x, y)
    node_fits ty mode (logical_and a b) l t rest k tp v =
        let q = truth_code true ty l t rest in
        let x = branch_fits a (l + 2) t (where_zero l) (branch_code program (plain_table table) b (l + 2 + expr_labels a) t (where_zero l)
        q) v.0 in let y = branch_fits b (l + 2 + expr_labels a) t (where_zero l) q v.1 in
        let z = both_fit (scalar_size ty) (scalar_size (type_of_expr a)) (scalar_size (type_of_expr b)) (ap scalar_size tp.2) in
        omega (arith, x, y, z)
    node_fits ty mode (logical_or a b) l t rest k tp v =
        let q : List PlainIr = label (l + 3) ∷ truth_code true ty l t rest in
        let x = branch_fits a (l + 4) t (where_not (l + 3) (l + 2)) (branch_code program (plain_table table) b (l + 4 + expr_labels a) t
        (where_zero l) q) v.0 in
        let y = branch_fits b (l + 4 + expr_labels a) t (where_zero l) q v.1 in
        let z = both_fit (scalar_size ty) (scalar_size (type_of_expr a)) (scalar_size (type_of_expr b)) (ap scalar_size tp.2) in
        omega (arith, x, y, z)
    node_fits ty mode (conditional c a b) l t rest k tp v =
        let r : List PlainIr = label (l + 1) ∷ rest in
        let q : List PlainIr = jump (l + 1) ∷ label l ∷ expr_code program (plain_table table) b (l + 2 + expr_labels c + expr_labels a) t
        r in
        let x = branch_fits c (l + 2) t (where_zero l) (expr_code program (plain_table table) a (l + 2 + expr_labels c) t q) v.0 in
        let y = expr_fits a (l + 2 + expr_labels c) t q v.1 in
        let u = expr_fits b (l + 2 + expr_labels c + expr_labels a) t r v.2 in
        let z = choice_pays (scalar_size ty) (scalar_size (type_of_expr c)) (scalar_size (type_of_expr a)) (scalar_size (type_of_expr b)) in
        omega (arith, x, y, u, z)
    node_fits ty mode (comma a b) l t rest k tp v =
        let x = unread_fits a l t (expr_code program (plain_table table) b (l + expr_labels a) t rest) v.0 in
        let y = expr_fits b (l + expr_labels a) t rest v.1 in omega (arith, x, y)
    node_fits ty mode (call g args) l t rest k tp v =
        let q : List PlainIr = call_function g (result_temp t ty) ∷ rest in
        let x = args_fit args l t (params_code (params_of program g) args t q) v in let y = params_fit (params_of program g) args t q in
        let z = call_bytes t ty in omega (arith, x, y, z)
    node_fits ty mode (io op port i w) l t rest k tp v =
        let q = access_code op mode (slice_get (plain_table table).ports port) i t rest in
        let x = operand_fits i l t (option_code program (plain_table table) w (l + option_labels i) (place_behind i t) q) v.0 in
        let y = operand_fits w (l + option_labels i) (place_behind i t) q v.1 in
        let z = access_fits op mode (slice_get (plain_table table).ports port) i t rest in omega (arith, x, y, z)
    node_fits ty mode (group acquire g) l t rest k tp v = let x = group_fits acquire (slice_get (plain_table table).groups g) t rest in
        omega (arith, x)
    node_fits ty mode (bind d choice) l t rest k tp v =
        let x = bind_fits d (slice_get (choices_of (plain_table table) d) choice) t rest in omega (arith, x)
    node_fits ty mode (dynamic_group acquire d) l t rest k tp v =
        let x = choices_fit acquire (plain_table table) mode d (choices_of (plain_table table) d) l t rest in omega (arith, x)

    unread_fits : (e : PlainExpr) (l t : ℕ) (rest : List PlainIr) → ValidExpr program table f e
        → code_words (unread_code program (plain_table table) e l t rest) ≤ expr_weight (plain_table table) e + code_words rest
    unread_fits (expression ty mode (step up prefix q)) l t rest v =
        let x = place_fits q l t (stepping_code up true mode ty (site program q t) t rest) v.2 in
        let y = stepping_fits up true mode ty q t rest v.1.0 (root program q t ty v.1.1) in omega (arith, x, y)
    unread_fits (expression ty mode (comma a b)) l t rest v =
        let x = unread_fits a l t (unread_code program (plain_table table) b (l + expr_labels a) t rest) v.2.0 in
        let y = unread_fits b (l + expr_labels a) t rest v.2.1 in omega (arith, x, y)
    unread_fits (expression ty mode node) l t rest v = node_fits ty mode node l t rest v.0 v.1 v.2

    branch_fits : (e : PlainExpr) (l t : ℕ) (to : Branch) (rest : List PlainIr) → ValidExpr program table f e
        → code_words (branch_code program (plain_table table) e l t to rest) ≤ expr_weight (plain_table table) e
        + (branch_cost to (scalar_size (type_of_expr e)) + code_words rest)
    branch_fits (expression ty mode (logical_not a)) l t to rest v =
        let x = branch_fits a (l + 2) t (opposite to l) rest v.2 in
        let y = branch_most (opposite to l) (scalar_size (type_of_expr a)) in
        let z = not_leads (scalar_size ty) (scalar_size (type_of_expr a)) in omega (arith, x, y, z)
    branch_fits (expression ty mode (logical_and a b)) l t to rest v =
        let q = and_end to l rest in
        let x = branch_fits a (l + 2) t (where_zero (zero_label to l)) (branch_code program (plain_table table) b (l + 2 + expr_labels a) t
        to q) v.2.0 in let y = branch_fits b (l + 2 + expr_labels a) t to q v.2.1 in
        let w = branch_most to (scalar_size (type_of_expr b)) in let u = and_end_fits to l rest in
        let z = both_lead (scalar_size ty) (scalar_size (type_of_expr a)) (scalar_size (type_of_expr b)) in omega (arith, x, y, w, u, z)
    branch_fits (expression ty mode (logical_or a b)) l t to rest v =
        let q = or_end to l rest in
        let x = branch_fits a (l + 4) t (where_not (other_label to l) (l + 1)) (branch_code program (plain_table table) b
        (l + 4 + expr_labels a) t to q) v.2.0 in let y = branch_fits b (l + 4 + expr_labels a) t to q v.2.1 in
        let w = branch_most to (scalar_size (type_of_expr b)) in let u = or_end_fits to l rest in
        let z = both_lead (scalar_size ty) (scalar_size (type_of_expr a)) (scalar_size (type_of_expr b)) in omega (arith, x, y, w, u, z)
    branch_fits (expression ty mode node) l t to rest v =
        let x = node_fits ty mode node l t (branch_to to (temp t ty) rest) v.0 v.1 v.2 in let y = branch_to_fits to t ty rest in
        omega (arith, x, y)

    place_fits : (q : PlainPlace) (l t : ℕ) (rest : List PlainIr) → ValidPlace program table f q
        → code_words (place_code program (plain_table table) q l t rest) ≤ place_weight (plain_table table) q + code_words rest
    place_fits (object o) l t rest v = omega arith
    place_fits (deref e) l t rest v = expr_fits e l t rest v
    place_fits (member q i) l t rest v =
        let x = place_fits q l t (further_code (offset_of program q i) (site program q t) rest) v in
        let y = further_fits (offset_of program q i) (site program q t) rest in omega (arith, x, y)

    operand_fits : (e : OptionPlainExpr) (l t : ℕ) (rest : List PlainIr) → ValidOption program table f e
        → code_words (option_code program (plain_table table) e l t rest) ≤ option_weight (plain_table table) e + code_words rest
    operand_fits no_expr l t rest v = omega arith
    operand_fits (an_expr e) l t rest v = expr_fits e l t rest v

    args_fit : (es : PlainExprs) (l t : ℕ) (rest : List PlainIr) → ValidExprs program table f es
        → code_words (args_code program (plain_table table) es l t rest) ≤ exprs_weight (plain_table table) es + code_words rest
    args_fit last_expr l t rest v = omega arith
    args_fit (next_expr e es) l t rest v =
        let x = expr_fits e l t (args_code program (plain_table table) es (l + expr_labels e) (t + 1) rest) v.0 in
        let y = args_fit es (l + expr_labels e) (t + 1) rest v.1 in omega (arith, x, y)

  init_fits : (ls : List PlainLeaf) (o : ℕ) (es : PlainExprs) (l : ℕ) (rest : List PlainIr) → ValidExprs program table f es
      → code_words (init_code program (plain_table table) ls o es l rest) ≤ leaves_weight (plain_table table) es + code_words rest
  init_fits [] o es l rest v = omega arith
  init_fits (leaf ∷ ls) o last_expr l rest v = omega arith
  init_fits (leaf ∷ ls) o (next_expr e es) l rest v =
      let q : List PlainIr = store_object o leaf.at (temp 0 (type_of_expr e)) ∷ init_code program (plain_table table) ls o es
      (l + expr_labels e) rest in
      let x = expr_fits e l 0 q v.0 in let y = init_fits ls o es (l + expr_labels e) rest v.1 in
      let z = simple_pays (scalar_size (type_of_expr e)) 1 in omega (arith, x, y, z)

  test_fits : (c : Option PlainExpr) (l : ℕ) (rest : List PlainIr) → ValidCondition program table f c
      → code_words (test_code program (plain_table table) c l rest) ≤ 35 + optional_weight (plain_table table) c + code_words rest
  test_fits None l rest v = omega arith
  test_fits (Some c) l rest v = let x = branch_fits c (l + 5) 0 (where_not (l + 3) (l + 4)) (label (l + 1) ∷ rest) v.0 in
      let y = (scalar_bytes (type_of_expr c) v.1).1 in omega (arith, x, y)

  entry_fits : (c : Option PlainExpr) (l : ℕ) (rest : List PlainIr) → code_words (entry_code c l rest) ≤ 5 + code_words rest
  entry_fits None l rest = omega arith
  entry_fits (Some c) l rest = omega arith

  last_fits : (e : Option PlainExpr) (l : ℕ) (rest : List PlainIr) → ValidOptional program table f e
      → code_words (last_code program (plain_table table) e l rest) ≤ optional_weight (plain_table table) e + code_words rest
  last_fits None l rest v = omega arith
  last_fits (Some e) l rest v = unread_fits e l 0 rest v

  module _ (returns : PlainType) where
    mutual
      pub stmt_fits : (a : PlainStmt) (k : Bool) (l out on : ℕ) (rest : List PlainIr) → ValidStmt program table f returns k a
          → code_words (stmt_code program (plain_table table) a l out on rest) ≤ stmt_weight (plain_table table) a + code_words rest
      stmt_fits (statement unit at kind) k l out on rest v = kind_fits kind k l out on rest v

      kind_fits : (kind : PlainKind) (k : Bool) (l out on : ℕ) (rest : List PlainIr) → ValidKind program table f returns k kind
          → code_words (kind_code program (plain_table table) kind l out on rest) ≤ kind_weight (plain_table table) kind + code_words rest
      kind_fits empty k l out on rest v = omega arith
      kind_fits (evaluate e) k l out on rest v = unread_fits e l 0 rest v
      kind_fits (block ss) k l out on rest v = stmts_fits ss k l out on rest v
      kind_fits (declare o es) k l out on rest v = init_fits (leaves_of_object program o) o es l rest v.1
      kind_fits (branch c a no_stmt) k l out on rest v =
          let x = branch_fits c (l + 2) 0 (where_zero l) (stmt_code program (plain_table table) a (l + 2 + expr_labels c) out on
          (label l ∷ rest)) v.0.0 in let s = (scalar_bytes (type_of_expr c) v.0.1).1 in
          let y = stmt_fits a k (l + 2 + expr_labels c) out on (label l ∷ rest) v.1 in omega (arith, x, s, y)
      kind_fits (branch c a (a_stmt b)) k l out on rest v =
          let q : List PlainIr = jump (l + 1) ∷ label l ∷ stmt_code program (plain_table table) b (l + 2 + expr_labels c + stmt_labels a)
          out on (label (l + 1) ∷ rest) in
          let x = branch_fits c (l + 2) 0 (where_zero l) (stmt_code program (plain_table table) a (l + 2 + expr_labels c) out on q) v.0.0
          in let s = (scalar_bytes (type_of_expr c) v.0.1).1 in
          let y = stmt_fits a k (l + 2 + expr_labels c) out on q v.1 in let u = stmt_fits b k (l + 2 + expr_labels c + stmt_labels a)
          out on (label (l + 1) ∷ rest) v.2 in omega (arith, x, s, y, u)
      kind_fits (while_loop c a) k l out on rest v =
          let q : List PlainIr = label (l + 2) ∷ label l ∷ test_code program (plain_table table) (Some c) l rest in
          let x = test_fits (Some c) l rest v.0 in let y = stmt_fits a true (l + 5 + expr_labels c) (l + 1) (l + 2) q v.1 in
          omega (arith, x, y)
      kind_fits (do_loop a c) k l out on rest v =
          let q : List PlainIr = label (l + 2) ∷ label l ∷ test_code program (plain_table table) (Some c) l rest in
          let x = test_fits (Some c) l rest v.1 in let y = stmt_fits a true (l + 5 + expr_labels c) (l + 1) (l + 2) q v.0 in
          omega (arith, x, y)
      kind_fits (for_loop first c last a) k l0 out on rest v =
          let l = l0 + option_stmt_labels first in
          let e : List PlainIr = label l ∷ test_code program (plain_table table) c l rest in
          let q : List PlainIr = label (l + 2) ∷ last_code program (plain_table table) last (l + 5 + optional_labels c) e in
          let b : List PlainIr = label (l + 3) ∷ stmt_code program (plain_table table) a (l + 5 + optional_labels c + optional_labels last)
          (l + 1) (l + 2) q in
          let g = option_fits first k l0 out on (entry_code c l b) v.0 in
          let i = entry_fits c l b in
          let x = test_fits c l rest v.1 in
          let y = stmt_fits a true (l + 5 + optional_labels c + optional_labels last) (l + 1) (l + 2) q v.3 in
          let u = last_fits last (l + 5 + optional_labels c) e v.2 in omega (arith, g, i, x, y, u)
      kind_fits break_loop k l out on rest v = omega arith
      kind_fits continue_loop k l out on rest v = omega arith
      kind_fits (return_value None) k l out on rest v = omega arith
      kind_fits (return_value (Some e)) k l out on rest v =
          let q : List PlainIr = return_from (Some (temp 0 (type_of_expr e))) ∷ rest in
          let x = expr_fits e l 0 q v.1 in let y = return_pays (scalar_size (type_of_expr e)) in omega (arith, x, y)

      option_fits : (a : OptionPlainStmt) (k : Bool) (l out on : ℕ) (rest : List PlainIr) → ValidOptionStmt program table f returns k a
          → code_words (option_stmt_code program (plain_table table) a l out on rest) ≤ option_stmt_weight
          (plain_table table) a + code_words rest
      option_fits no_stmt k l out on rest v = omega arith
      option_fits (a_stmt a) k l out on rest v = stmt_fits a k l out on rest v

      stmts_fits : (ss : PlainStmts) (k : Bool) (l out on : ℕ) (rest : List PlainIr) → ValidStmts program table f returns k ss
          → code_words (stmts_code program (plain_table table) ss l out on rest) ≤ stmts_weight (plain_table table) ss + code_words rest
      stmts_fits last_stmt k l out on rest v = omega arith
      stmts_fits (next_stmt a ss) k l out on rest v = let x = stmt_fits a k l out on (stmts_code program (plain_table table) ss
          (l + stmt_labels a) out on rest) v.0 in let y = stmts_fits ss k (l + stmt_labels a) out on rest v.1 in omega (arith, x, y)

end_fits : (returns : Bool) → code_words (end_of returns) ≤ 40
end_fits true = omega arith
end_fits false = omega arith

-- a function's operations are within the rows of its body and its own
function_fits : (program : PlainProgram) (table : IoTable) (f : ℕ) (g : PlainFunction) → IsFunction program table f g
    → code_words (function_code program (plain_table table) g) ≤ function_weight (plain_table table) g
function_fits program table f g v =
    let x = stmt_fits program table f g.returns g.body false 1 0 0 (label 0 ∷ end_code g.body) v.body in
    let y = end_fits (body_returns g.body) in omega (arith, x, y)

functions_fit : (program : PlainProgram) (table : IoTable) (n : ℕ) (fs : List PlainFunction) → EachFrom n (IsFunction program table) fs
    → functions_words (map (lowered_function program (plain_table table)) fs) ≤ functions_weight (plain_table table) fs
functions_fit program table n [] v = omega arith
functions_fit program table n (g ∷ fs) v = let x = function_fits program table n g v.0 in let y = functions_fit program table
    (n + 1) fs v.1 in omega (arith, x, y)

pub words_fit : (program : PlainProgram) (table : IoTable) → Valid program table
    → program_words + objects_weight program.objects + functions_words (lowered program (plain_table table)).functions ≤ weight program
    (plain_table table)
words_fit program table valid = let x = functions_fit program table 0 program.functions valid.functions in omega (arith, x)
