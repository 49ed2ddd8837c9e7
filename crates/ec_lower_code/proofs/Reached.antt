-- The operations of a function call only functions that it calls.
use Rattle.std.proofs.Common.{◌≡◌, ◌⊎◌, ℕ, zero, suc, ◌+◌, Bool, true, false, List, [], ◌∷◌, Option, Some, None, refl, sym, ◌∙◌}
use Rattle.std.proofs.Common.{subst, inl, inr, arith}
use Rattle.std.specs.Prelude.{pos, Contains, slice_get, option_map}
use Rattle.std.proofs.lemmas.Option.{slice_get-map}
use Rattle.ec_fx.specs.declared.numbers.Mode.{Mode}
use Rattle.ec_core.specs.declared.expressions.BinOp.{BinOp}
use Rattle.ec_core.specs.Layout.{PlainLeaf}
use Rattle.ec_core.specs.Needs.{expr_calls, node_calls, place_calls, option_calls, exprs_calls, optional_calls, stmt_calls}
use Rattle.ec_core.specs.Needs.{kind_calls, option_stmt_calls, stmts_calls}
use Rattle.ec_core.specs.Operators.{step_operator}
use Rattle.ec_core.specs.PortAccesses.{pairs_of}
use Rattle.ec_core.specs.PortOperations.{PortAction, reads, writes, updates, port_operation}
use Rattle.ec_core.specs.PortTable.{PlainPort, PlainGroup, PlainTable, choices_of}
use Rattle.ec_iohw.specs.declared.operations.IoOp.{IoOp}
use Rattle.ec_iohw.specs.declared.table.Choice.{Choice}
use Rattle.ec_iohw.specs.declared.table.Pair.{Pair}
use Rattle.ec_ir.specs.declared.operations.Temp.{Temp}
use Rattle.ec_core.specs.Typing.{int, type_of_expr, port_value}
use Rattle.ec_core.specs.Plain.{PlainType, void, integer, fixed, pointer, array, struct, PlainExpr, expression, PlainNode}
use Rattle.ec_core.specs.Plain.{number, null, load, address_of, unary, binary, convert, assign, compound, step, logical_not}
use Rattle.ec_core.specs.Plain.{logical_and, logical_or, conditional, comma, call, io, group, bind, dynamic_group}
use Rattle.ec_core.specs.Plain.{PlainPlace, object, deref, member}
use Rattle.ec_core.specs.Plain.{OptionPlainExpr, no_expr, an_expr, PlainExprs, last_expr, next_expr, PlainStmt, statement}
use Rattle.ec_core.specs.Plain.{PlainKind, empty, evaluate, block, declare, branch, while_loop, do_loop, for_loop, break_loop}
use Rattle.ec_core.specs.Plain.{continue_loop, return_value, OptionPlainStmt, no_stmt, a_stmt, PlainStmts, last_stmt, next_stmt}
use Rattle.ec_core.specs.Plain.{PlainFunction, PlainProgram}
use Rattle.ec_core.specs.Valid.{Reaches, calls, calls_through}
use Rattle.ec_ir.specs.Operations.{PlainIr, constant, label, PlainIrFunction}
use Rattle.ec_ir.specs.Valid.{called_in, CallsTo, calls as calls_at, calls_through as calls_by}
use Rattle.ec_lower_code.specs.Code.{temp, place_labels, Site, named, pointed, further_code, load_from, store_to, value_place}
use Rattle.ec_lower_code.specs.Code.{settled_code, address_code, change_code, postfix_code, step_code, offset_of, site}
use Rattle.ec_lower_code.specs.Code.{place_code, params_of, params_code, port_operator, port_code, place_behind, operand_temp}
use Rattle.ec_lower_code.specs.Code.{read_from, write_to, access_code, pairs_code, group_code, bind_code, choices_code}
use Rattle.ec_lower_code.specs.Code.{option_code, expr_code, node_code, args_code}
use Rattle.ec_lower_code.specs.Code.{init_code, test_code, entry_code, last_code, leaves_of_object, stmt_code, kind_code, option_stmt_code}
use Rattle.ec_lower_code.specs.Code.{stmts_code, body_returns, end_of, function_code, lowered_function, lowered}
use Rattle.ec_lower_code.specs.Code.{stepping_code, unread_code}
use Rattle.ec_lower_code.specs.Code.{Branch, where_zero, where_not, branch_to, opposite, and_end, or_end, branch_code}

-- a member of a list
abbrev pub In : List ℕ → ℕ → Type 0
In [] g = ⊥
In (x ∷ xs) g = (x ≡ g) ⊎ In xs g

contains_in : (xs : List ℕ) (g : ℕ) → Contains xs g → In xs g
contains_in [] g h = absurd (omega (arith, h.1))
contains_in (x ∷ xs) g (zero, lt, e) = inl e
contains_in (x ∷ xs) g (suc k, lt, e) = inr (contains_in xs g (k, omega (arith, lt), e))

in_contains : (xs : List ℕ) (g : ℕ) → In xs g → Contains xs g
in_contains [] g h = absurd h
in_contains (x ∷ xs) g (inl e) = (0, omega arith, e)
in_contains (x ∷ xs) g (inr h) = let k = in_contains xs g h in (suc k.0, omega (arith, k.1), k.2)

either : {A B C : Type 0} → A ⊎ B → (A → C) → (B → C) → C
either (inl a) f h = f a
either (inr b) f h = h b

store_calls : (s : Site) (from : Temp) (rest : List PlainIr) (g : ℕ) → In (called_in (store_to s from ∷ rest)) g → In (called_in rest) g
store_calls (named o offset) from rest g h = h
store_calls (pointed ptr space) from rest g h = h

load_calls : (s : Site) (to : Temp) (rest : List PlainIr) (g : ℕ) → In (called_in (load_from to s ∷ rest)) g → In (called_in rest) g
load_calls (named o offset) to rest g h = h
load_calls (pointed ptr space) to rest g h = h

change_calls : (op : BinOp) (own mode : Mode) (ty : PlainType) (s : Site) (t : ℕ) (right : PlainType) (rest : List PlainIr) (g : ℕ)
    → In (called_in (change_code op own mode ty s t right rest)) g → In (called_in rest) g
change_calls op own mode void s t right rest g h = store_calls s _ rest g h
change_calls op own mode (integer x b) s t right rest g h = store_calls s _ rest g h
change_calls op own mode (fixed k x) s t right rest g h = store_calls s _ rest g h
change_calls op own mode (pointer c k u) s t right rest g h = store_calls s _ rest g h
change_calls op own mode (array u n) s t right rest g h = store_calls s _ rest g h
change_calls op own mode (struct n) s t right rest g h = store_calls s _ rest g h

postfix_calls : (op : BinOp) (mode : Mode) (ty : PlainType) (s : Site) (t : ℕ) (rest : List PlainIr) (g : ℕ)
    → In (called_in (postfix_code op mode ty s t rest)) g → In (called_in rest) g
postfix_calls op mode void s t rest g h = store_calls s _ _ g h
postfix_calls op mode (integer x b) s t rest g h = store_calls s _ _ g h
postfix_calls op mode (fixed k x) s t rest g h = store_calls s _ _ g h
postfix_calls op mode (pointer c k u) s t rest g h = store_calls s _ rest g h
postfix_calls op mode (array u n) s t rest g h = store_calls s _ _ g h
postfix_calls op mode (struct n) s t rest g h = store_calls s _ _ g h

step_calls : (prefix : Bool) (op : BinOp) (mode : Mode) (ty : PlainType) (s : Site) (t : ℕ) (rest : List PlainIr) (g : ℕ)
    → In (called_in (step_code prefix op mode ty s t rest)) g → In (called_in rest) g
step_calls true op mode ty s t rest g h = change_calls op mode mode ty s t int rest g h
step_calls false op mode ty s t rest g h = postfix_calls op mode ty s t rest g h

further_calls : (k : ℕ) (s : Site) (rest : List PlainIr) (g : ℕ) → In (called_in (further_code k s rest)) g → In (called_in rest) g
further_calls k (named o offset) rest g h = h
further_calls k (pointed ptr space) rest g h = h

settled_calls : (s : Site) (ty : PlainType) (t : ℕ) (rest : List PlainIr) (g : ℕ) → In (called_in (settled_code s ty t rest)) g
    → In (called_in rest) g
settled_calls (named o offset) ty t rest g h = h
settled_calls (pointed ptr space) ty t rest g h = h

branch_to_calls : (to : Branch) (t : Temp) (rest : List PlainIr) (g : ℕ) → In (called_in (branch_to to t rest)) g
    → In (called_in rest) g
branch_to_calls (where_zero to) t rest g h = h
branch_to_calls (where_not to past) t rest g h = h

and_end_calls : (to : Branch) (l : ℕ) (rest : List PlainIr) (g : ℕ) → In (called_in (and_end to l rest)) g → In (called_in rest) g
and_end_calls (where_zero to) l rest g h = h
and_end_calls (where_not to past) l rest g h = h

or_end_calls : (to : Branch) (l : ℕ) (rest : List PlainIr) (g : ℕ) → In (called_in (or_end to l rest)) g → In (called_in rest) g
or_end_calls (where_zero to) l rest g h = h
or_end_calls (where_not to past) l rest g h = h

stepping_calls : (up prefix : Bool) (mode : Mode) (ty : PlainType) (s : Site) (t : ℕ) (rest : List PlainIr) (g : ℕ)
    → In (called_in (stepping_code up prefix mode ty s t rest)) g → In (called_in rest) g
stepping_calls up prefix mode ty s t rest g h =
    let r = settled_code s ty t rest in
    settled_calls s ty t rest g (step_calls prefix (step_operator up) mode ty s (value_place s t) r g
    (load_calls s _ (constant (temp (value_place s t + 1) int) (pos 1) ∷ step_code prefix (step_operator up) mode ty s
    (value_place s t) r) g h))

address_calls : (s : Site) (ty : PlainType) (t : ℕ) (rest : List PlainIr) (g : ℕ) → In (called_in (address_code s ty t rest)) g
    → In (called_in rest) g
address_calls (named o offset) ty t rest g h = h
address_calls (pointed ptr space) ty t rest g h = h

params_calls : (os : List ℕ) (es : PlainExprs) (t : ℕ) (rest : List PlainIr) (g : ℕ) → In (called_in (params_code os es t rest)) g
    → In (called_in rest) g
params_calls [] es t rest g h = h
params_calls (o ∷ os) last_expr t rest g h = h
params_calls (o ∷ os) (next_expr e es) t rest g h = params_calls os es (t + 1) rest g h

-- ---- what is called behind a part is among what is called from it on

mutual
  expr_more : (e : PlainExpr) (cs : List ℕ) (g : ℕ) → In cs g → In (expr_calls e cs) g
  expr_more (expression ty mode node) cs g h = node_more node cs g h

  node_more : (node : PlainNode) (cs : List ℕ) (g : ℕ) → In cs g → In (node_calls node cs) g
  node_more (number n) cs g h = h
  node_more null cs g h = h
  node_more (load p) cs g h = place_more p cs g h
  node_more (address_of p) cs g h = place_more p cs g h
  node_more (unary op a) cs g h = expr_more a cs g h
  node_more (binary op a b) cs g h = expr_more a (expr_calls b cs) g (expr_more b cs g h)
  node_more (convert a) cs g h = expr_more a cs g h
  node_more (assign p a) cs g h = place_more p (expr_calls a cs) g (expr_more a cs g h)
  node_more (compound op own p a) cs g h = place_more p (expr_calls a cs) g (expr_more a cs g h)
  node_more (step up prefix p) cs g h = place_more p cs g h
  node_more (logical_not a) cs g h = expr_more a cs g h
  node_more (logical_and a b) cs g h = expr_more a (expr_calls b cs) g (expr_more b cs g h)
  node_more (logical_or a b) cs g h = expr_more a (expr_calls b cs) g (expr_more b cs g h)
  node_more (conditional c a b) cs g h = expr_more c (expr_calls a (expr_calls b cs)) g
      (expr_more a (expr_calls b cs) g (expr_more b cs g h))
  node_more (comma a b) cs g h = expr_more a (expr_calls b cs) g (expr_more b cs g h)
  node_more (call f args) cs g h = inr (exprs_more args cs g h)
  node_more (io op port i v) cs g h = option_more i (option_calls v cs) g (option_more v cs g h)
  node_more (group acquire k) cs g h = h
  node_more (bind d choice) cs g h = h
  node_more (dynamic_group acquire d) cs g h = h

  place_more : (p : PlainPlace) (cs : List ℕ) (g : ℕ) → In cs g → In (place_calls p cs) g
  place_more (object o) cs g h = h
  place_more (deref e) cs g h = expr_more e cs g h
  place_more (member p i) cs g h = place_more p cs g h

  option_more : (e : OptionPlainExpr) (cs : List ℕ) (g : ℕ) → In cs g → In (option_calls e cs) g
  option_more no_expr cs g h = h
  option_more (an_expr e) cs g h = expr_more e cs g h

  exprs_more : (es : PlainExprs) (cs : List ℕ) (g : ℕ) → In cs g → In (exprs_calls es cs) g
  exprs_more last_expr cs g h = h
  exprs_more (next_expr e es) cs g h = expr_more e (exprs_calls es cs) g (exprs_more es cs g h)

optional_more : (e : Option PlainExpr) (cs : List ℕ) (g : ℕ) → In cs g → In (optional_calls e cs) g
optional_more None cs g h = h
optional_more (Some e) cs g h = expr_more e cs g h

mutual
  stmt_more : (a : PlainStmt) (cs : List ℕ) (g : ℕ) → In cs g → In (stmt_calls a cs) g
  stmt_more (statement unit at kind) cs g h = kind_more kind cs g h

  kind_more : (kind : PlainKind) (cs : List ℕ) (g : ℕ) → In cs g → In (kind_calls kind cs) g
  kind_more empty cs g h = h
  kind_more (evaluate e) cs g h = expr_more e cs g h
  kind_more (block ss) cs g h = stmts_more ss cs g h
  kind_more (declare o es) cs g h = exprs_more es cs g h
  kind_more (branch c a b) cs g h = expr_more c (stmt_calls a (option_stmt_calls b cs)) g (stmt_more a (option_stmt_calls b cs) g
      (option_stmt_more b cs g h))
  kind_more (while_loop c a) cs g h = expr_more c (stmt_calls a cs) g (stmt_more a cs g h)
  kind_more (do_loop a c) cs g h = stmt_more a (expr_calls c cs) g (expr_more c cs g h)
  kind_more (for_loop i c n a) cs g h = option_stmt_more i (optional_calls c (optional_calls n (stmt_calls a cs))) g
      (optional_more c (optional_calls n (stmt_calls a cs)) g (optional_more n (stmt_calls a cs) g (stmt_more a cs g h)))
  kind_more break_loop cs g h = h
  kind_more continue_loop cs g h = h
  kind_more (return_value e) cs g h = optional_more e cs g h

  option_stmt_more : (a : OptionPlainStmt) (cs : List ℕ) (g : ℕ) → In cs g → In (option_stmt_calls a cs) g
  option_stmt_more no_stmt cs g h = h
  option_stmt_more (a_stmt a) cs g h = stmt_more a cs g h

  stmts_more : (ss : PlainStmts) (cs : List ℕ) (g : ℕ) → In cs g → In (stmts_calls ss cs) g
  stmts_more last_stmt cs g h = h
  stmts_more (next_stmt a ss) cs g h = stmt_more a (stmts_calls ss cs) g (stmts_more ss cs g h)

-- two parts, one behind the other
behind_two : (a b : PlainExpr) (cs ds : List ℕ) (g : ℕ) → {R : Type 0} → In (expr_calls a (expr_calls b cs)) g ⊎ R
    → (R → In (expr_calls b cs) g ⊎ In ds g) → In (expr_calls a (expr_calls b cs)) g ⊎ In ds g
behind_two a b cs ds g first second =
    either first (λ x. inl x)
    (λ y. either (second y) (λ z. inl (expr_more a (expr_calls b cs) g z)) (λ z. inr z))

-- ---- what the operations of a part call, the part or what follows it calls

read_called : (dynamic : Option ℕ) (to : Temp) (offset : ℕ) (index : Option Temp) (width : ℕ) (rest : List PlainIr) (g : ℕ)
    → In (called_in (read_from dynamic to offset index width ∷ rest)) g → In (called_in rest) g
read_called None to offset index width rest g h = h
read_called (Some d) to offset index width rest g h = h

write_called : (dynamic : Option ℕ) (from : Temp) (offset : ℕ) (index : Option Temp) (width : ℕ) (rest : List PlainIr) (g : ℕ)
    → In (called_in (write_to dynamic from offset index width ∷ rest)) g → In (called_in rest) g
write_called None from offset index width rest g h = h
write_called (Some d) from offset index width rest g h = h

port_called : (action : PortAction) (op : BinOp) (ty : PlainType) (mode : Mode) (port : PlainPort) (index : Option Temp) (t v : ℕ)
    (rest : List PlainIr) (g : ℕ)
    → In (called_in (port_code action op ty mode port index t v rest)) g → In (called_in rest) g
port_called reads op ty mode port index t v rest g h = read_called port.dynamic _ _ _ _ rest g h
port_called writes op ty mode port index t v rest g h = write_called port.dynamic _ _ _ _ rest g h
port_called updates op ty mode port index t v rest g h =
    write_called port.dynamic _ _ _ _ rest g (read_called port.dynamic _ _ _ _ _ g h)

access_called : (op : IoOp) (mode : Mode) (port : Option PlainPort) (index : OptionPlainExpr) (t : ℕ) (rest : List PlainIr) (g : ℕ)
    → In (called_in (access_code op mode port index t rest)) g → In (called_in rest) g
access_called op mode None index t rest g h = h
access_called op mode (Some port) index t rest g h =
    port_called (port_operation op).action (port_operator op) (port_value (port_operation op)) mode port (operand_temp index t) t
    (place_behind index t) rest g h

pairs_called : (pairs : List Pair) (t : ℕ) (rest : List PlainIr) (g : ℕ) → In (called_in (pairs_code pairs t rest)) g
    → In (called_in rest) g
pairs_called [] t rest g h = h
pairs_called (pair ∷ pairs) t rest g h = pairs_called pairs t rest g h

group_called : (acquire : Bool) (x : Option PlainGroup) (t : ℕ) (rest : List PlainIr) (g : ℕ)
    → In (called_in (group_code acquire x t rest)) g → In (called_in rest) g
group_called acquire None t rest g h = h
group_called acquire (Some x) t rest g h = pairs_called (pairs_of acquire x) t rest g h

bind_called : (d : ℕ) (c : Option Choice) (t : ℕ) (rest : List PlainIr) (g : ℕ) → In (called_in (bind_code d c t rest)) g
    → In (called_in rest) g
bind_called d None t rest g h = h
bind_called d (Some c) t rest g h = h

choices_called : (table : PlainTable) (acquire : Bool) (mode : Mode) (d : ℕ) (cs : List Choice) (l t : ℕ) (rest : List PlainIr) (g : ℕ)
    → In (called_in (choices_code acquire table mode d cs l t rest)) g → In (called_in rest) g
choices_called table acquire mode d [] l t rest g h = h
choices_called table acquire mode d (c ∷ []) l t rest g h = group_called acquire (slice_get table.groups c.group) t rest g h
choices_called table acquire mode d (c ∷ other ∷ cs) l t rest g h =
    group_called acquire (slice_get table.groups c.group) t (label (l + 1) ∷ rest) g
    (choices_called table acquire mode d (other ∷ cs) (l + 2) t _ g h)

module _ (program : PlainProgram) (table : PlainTable) where
  mutual
    expr_called : (e : PlainExpr) (l t : ℕ) (rest : List PlainIr) (cs : List ℕ) (g : ℕ)
        → In (called_in (expr_code program table e l t rest)) g → In (expr_calls e cs) g ⊎ In (called_in rest) g
    expr_called (expression ty mode node) l t rest cs g h = node_called ty mode node l t rest cs g h

    node_called : (ty : PlainType) (mode : Mode) (node : PlainNode) (l t : ℕ) (rest : List PlainIr) (cs : List ℕ) (g : ℕ)
        → In (called_in (node_code program table ty mode node l t rest)) g → In (node_calls node cs) g ⊎ In (called_in rest) g
    node_called ty mode (number n) l t rest cs g h = inr h
    node_called ty mode null l t rest cs g h = inr h
    node_called ty mode (load p) l t rest cs g h = either (place_called p l t _ cs g h) (λ x. inl x)
        (λ y. inr (load_calls (site program p t) (temp t ty) rest g y))
    node_called ty mode (address_of p) l t rest cs g h = either (place_called p l t _ cs g h) (λ x. inl x)
        (λ y. inr (address_calls (site program p t) ty t rest g y))
    node_called ty mode (unary op a) l t rest cs g h = expr_called a l t _ cs g h
    node_called ty mode (binary op a b) l t rest cs g h = behind_two a b cs (called_in rest) g (expr_called a _ _ _ (expr_calls b cs) g h)
        (λ y. expr_called b _ _ _ cs g y)
    node_called ty mode (convert a) l t rest cs g h = expr_called a l t _ cs g h
    node_called ty mode (assign p a) l t rest cs g h =
        let s = site program p t in
        let r = settled_code s ty t rest in
        either (place_called p l t _ (expr_calls a cs) g h) (λ x. inl x)
        (λ y. either (expr_called a _ _ _ cs g y) (λ z. inl (place_more p (expr_calls a cs) g z))
        (λ z. inr (settled_calls s ty t rest g (store_calls s _ r g z))))
    node_called ty mode (compound op own p a) l t rest cs g h =
        let s = site program p t in
        let r = settled_code s ty t rest in
        either (place_called p l t _ (expr_calls a cs) g h) (λ x. inl x)
        (λ y. either (expr_called a _ _ _ cs g (load_calls s _ (expr_code program table a (l + place_labels p) (value_place s t + 1)
        (change_code op own mode ty s (value_place s t) (type_of_expr a) r)) g y)) (λ z. inl (place_more p (expr_calls a cs) g z))
        (λ z. inr (settled_calls s ty t rest g (change_calls op own mode ty s (value_place s t) (type_of_expr a) r g z))))
    node_called ty mode (step up prefix p) l t rest cs g h = either (place_called p l t _ cs g h) (λ x. inl x)
        (λ y. inr (stepping_calls up prefix mode ty (site program p t) t rest g y))
    node_called ty mode (logical_not a) l t rest cs g h = branch_called a _ t _ _ cs g h
    node_called ty mode (logical_and a b) l t rest cs g h = behind_two a b cs (called_in rest) g
        (branch_called a _ _ _ _ (expr_calls b cs) g h) (λ y. branch_called b _ _ _ _ cs g y)
    node_called ty mode (logical_or a b) l t rest cs g h = behind_two a b cs (called_in rest) g
        (branch_called a _ _ _ _ (expr_calls b cs) g h) (λ y. branch_called b _ _ _ _ cs g y)
    node_called ty mode (conditional c a b) l t rest cs g h =
        either (branch_called c _ t _ _ (expr_calls a (expr_calls b cs)) g h) (λ x. inl x)
        (λ y. either (behind_two a b cs (called_in rest) g (expr_called a _ _ _ (expr_calls b cs) g y) (λ z. expr_called b _ _ _ cs g z))
        (λ z. inl (expr_more c (expr_calls a (expr_calls b cs)) g z)) (λ z. inr z))
    node_called ty mode (comma a b) l t rest cs g h = behind_two a b cs (called_in rest) g
        (unread_called a _ _ _ (expr_calls b cs) g h) (λ y. expr_called b _ _ _ cs g y)
    node_called ty mode (call f args) l t rest cs g h =
        either (args_called args l t _ cs g h) (λ x. inl (inr x))
        (λ y. either (params_calls (params_of program f) args t _ g y) (λ z. inl (inl z)) (λ z. inr z))
    node_called ty mode (io op port i v) l t rest cs g h =
        either (operand_called i l t _ (option_calls v cs) g h) (λ x. inl x)
        (λ y. either (operand_called v _ _ _ cs g y) (λ z. inl (option_more i (option_calls v cs) g z))
        (λ z. inr (access_called op mode (slice_get table.ports port) i t rest g z)))
    node_called ty mode (group acquire k) l t rest cs g h = inr (group_called acquire (slice_get table.groups k) t rest g h)
    node_called ty mode (bind d choice) l t rest cs g h = inr (bind_called d (slice_get (choices_of table d) choice) t rest g h)
    node_called ty mode (dynamic_group acquire d) l t rest cs g h =
        inr (choices_called table acquire mode d (choices_of table d) l t rest g h)

    unread_called : (e : PlainExpr) (l t : ℕ) (rest : List PlainIr) (cs : List ℕ) (g : ℕ)
        → In (called_in (unread_code program table e l t rest)) g → In (expr_calls e cs) g ⊎ In (called_in rest) g
    unread_called (expression ty mode (step up prefix p)) l t rest cs g h = either (place_called p l t _ cs g h) (λ x. inl x)
        (λ y. inr (stepping_calls up true mode ty (site program p t) t rest g y))
    unread_called (expression ty mode (comma a b)) l t rest cs g h = behind_two a b cs (called_in rest) g
        (unread_called a _ _ _ (expr_calls b cs) g h) (λ y. unread_called b _ _ _ cs g y)
    unread_called (expression ty mode node) l t rest cs g h = node_called ty mode node l t rest cs g h

    branch_called : (e : PlainExpr) (l t : ℕ) (to : Branch) (rest : List PlainIr) (cs : List ℕ) (g : ℕ)
        → In (called_in (branch_code program table e l t to rest)) g → In (expr_calls e cs) g ⊎ In (called_in rest) g
    branch_called (expression ty mode (logical_not a)) l t to rest cs g h = branch_called a _ t (opposite to l) rest cs g h
    branch_called (expression ty mode (logical_and a b)) l t to rest cs g h = behind_two a b cs (called_in rest) g
        (branch_called a _ _ _ _ (expr_calls b cs) g h)
        (λ y. either (branch_called b _ _ to _ cs g y) (λ z. inl z) (λ z. inr (and_end_calls to l rest g z)))
    branch_called (expression ty mode (logical_or a b)) l t to rest cs g h = behind_two a b cs (called_in rest) g
        (branch_called a _ _ _ _ (expr_calls b cs) g h)
        (λ y. either (branch_called b _ _ to _ cs g y) (λ z. inl z) (λ z. inr (or_end_calls to l rest g z)))
    branch_called (expression ty mode node) l t to rest cs g h =
        either (node_called ty mode node l t (branch_to to (temp t ty) rest) cs g h) (λ x. inl x)
        (λ y. inr (branch_to_calls to (temp t ty) rest g y))

    place_called : (p : PlainPlace) (l t : ℕ) (rest : List PlainIr) (cs : List ℕ) (g : ℕ)
        → In (called_in (place_code program table p l t rest)) g → In (place_calls p cs) g ⊎ In (called_in rest) g
    place_called (object o) l t rest cs g h = inr h
    place_called (deref e) l t rest cs g h = expr_called e l t rest cs g h
    place_called (member p i) l t rest cs g h = either (place_called p l t _ cs g h) (λ x. inl x)
        (λ y. inr (further_calls (offset_of program p i) (site program p t) rest g y))

    operand_called : (e : OptionPlainExpr) (l t : ℕ) (rest : List PlainIr) (cs : List ℕ) (g : ℕ)
        → In (called_in (option_code program table e l t rest)) g → In (option_calls e cs) g ⊎ In (called_in rest) g
    operand_called no_expr l t rest cs g h = inr h
    operand_called (an_expr e) l t rest cs g h = expr_called e l t rest cs g h

    args_called : (es : PlainExprs) (l t : ℕ) (rest : List PlainIr) (cs : List ℕ) (g : ℕ)
        → In (called_in (args_code program table es l t rest)) g → In (exprs_calls es cs) g ⊎ In (called_in rest) g
    args_called last_expr l t rest cs g h = inr h
    args_called (next_expr e es) l t rest cs g h =
        either (expr_called e l t _ (exprs_calls es cs) g h) (λ x. inl x)
        (λ y. either (args_called es _ (t + 1) rest cs g y) (λ z. inl (expr_more e (exprs_calls es cs) g z)) (λ z. inr z))

  init_called : (ls : List PlainLeaf) (o : ℕ) (es : PlainExprs) (l : ℕ) (rest : List PlainIr) (cs : List ℕ) (g : ℕ)
      → In (called_in (init_code program table ls o es l rest)) g → In (exprs_calls es cs) g ⊎ In (called_in rest) g
  init_called [] o es l rest cs g h = inr h
  init_called (leaf ∷ ls) o last_expr l rest cs g h = inr h
  init_called (leaf ∷ ls) o (next_expr e es) l rest cs g h =
      either (expr_called e l 0 _ (exprs_calls es cs) g h) (λ x. inl x)
      (λ y. either (init_called ls o es _ rest cs g y) (λ z. inl (expr_more e (exprs_calls es cs) g z)) (λ z. inr z))

  test_called : (c : Option PlainExpr) (l : ℕ) (rest : List PlainIr) (cs : List ℕ) (g : ℕ)
      → In (called_in (test_code program table c l rest)) g → In (optional_calls c cs) g ⊎ In (called_in rest) g
  test_called None l rest cs g h = inr h
  test_called (Some c) l rest cs g h = branch_called c (l + 5) 0 _ _ cs g h

  entry_called : (c : Option PlainExpr) (l : ℕ) (rest : List PlainIr) (g : ℕ) → In (called_in (entry_code c l rest)) g
      → In (called_in rest) g
  entry_called None l rest g h = h
  entry_called (Some c) l rest g h = h

  last_called : (e : Option PlainExpr) (l : ℕ) (rest : List PlainIr) (cs : List ℕ) (g : ℕ)
      → In (called_in (last_code program table e l rest)) g → In (optional_calls e cs) g ⊎ In (called_in rest) g
  last_called None l rest cs g h = inr h
  last_called (Some e) l rest cs g h = unread_called e l 0 rest cs g h

  mutual
    stmt_called : (a : PlainStmt) (l out on : ℕ) (rest : List PlainIr) (cs : List ℕ) (g : ℕ)
        → In (called_in (stmt_code program table a l out on rest)) g → In (stmt_calls a cs) g ⊎ In (called_in rest) g
    stmt_called (statement unit at kind) l out on rest cs g h = kind_called kind l out on rest cs g h

    kind_called : (kind : PlainKind) (l out on : ℕ) (rest : List PlainIr) (cs : List ℕ) (g : ℕ)
        → In (called_in (kind_code program table kind l out on rest)) g → In (kind_calls kind cs) g ⊎ In (called_in rest) g
    kind_called empty l out on rest cs g h = inr h
    kind_called (evaluate e) l out on rest cs g h = unread_called e l 0 rest cs g h
    kind_called (block ss) l out on rest cs g h = stmts_called ss l out on rest cs g h
    kind_called (declare o es) l out on rest cs g h = init_called (leaves_of_object program o) o es l rest cs g h
    kind_called (branch c a no_stmt) l out on rest cs g h =
        either (branch_called c (l + 2) 0 _ _ (stmt_calls a cs) g h) (λ x. inl x)
        (λ y. either (stmt_called a _ out on _ cs g y) (λ z. inl (expr_more c (stmt_calls a cs) g z)) (λ z. inr z))
    kind_called (branch c a (a_stmt b)) l out on rest cs g h =
        either (branch_called c (l + 2) 0 _ _ (stmt_calls a (stmt_calls b cs)) g h) (λ x. inl x)
        (λ y. either (stmt_called a _ out on _ (stmt_calls b cs) g y) (λ z. inl (expr_more c (stmt_calls a (stmt_calls b cs)) g z))
        (λ z. either (stmt_called b _ out on _ cs g z) (λ u. inl (expr_more c (stmt_calls a (stmt_calls b cs)) g
        (stmt_more a (stmt_calls b cs) g u))) (λ u. inr u)))
    kind_called (while_loop c a) l out on rest cs g h =
        either (stmt_called a _ _ _ _ cs g h) (λ x. inl (expr_more c (stmt_calls a cs) g x))
        (λ y. either (test_called (Some c) _ _ (stmt_calls a cs) g y) (λ z. inl z) (λ z. inr z))
    kind_called (do_loop a c) l out on rest cs g h =
        either (stmt_called a _ _ _ _ (expr_calls c cs) g h) (λ x. inl x)
        (λ y. either (test_called (Some c) _ _ cs g y) (λ z. inl (stmt_more a (expr_calls c cs) g z)) (λ z. inr z))
    kind_called (for_loop first c last a) l out on rest cs g h =
        let in_last = optional_calls last (stmt_calls a cs) in
        let in_test = optional_calls c in_last in
        either (option_called first l out on _ in_test g h) (λ x. inl x)
        (λ y. either (stmt_called a _ _ _ _ cs g (entry_called c _ _ g y)) (λ z. inl (option_stmt_more first in_test g
        (optional_more c in_last g (optional_more last (stmt_calls a cs) g z))))
        (λ z. either (last_called last _ _ (stmt_calls a cs) g z)
        (λ u. inl (option_stmt_more first in_test g (optional_more c in_last g u)))
        (λ u. either (test_called c _ _ in_last g u) (λ x. inl (option_stmt_more first in_test g x)) (λ x. inr x))))
    kind_called break_loop l out on rest cs g h = inr h
    kind_called continue_loop l out on rest cs g h = inr h
    kind_called (return_value None) l out on rest cs g h = inr h
    kind_called (return_value (Some e)) l out on rest cs g h = expr_called e l 0 _ cs g h

    option_called : (a : OptionPlainStmt) (l out on : ℕ) (rest : List PlainIr) (cs : List ℕ) (g : ℕ)
        → In (called_in (option_stmt_code program table a l out on rest)) g → In (option_stmt_calls a cs) g ⊎ In (called_in rest) g
    option_called no_stmt l out on rest cs g h = inr h
    option_called (a_stmt a) l out on rest cs g h = stmt_called a l out on rest cs g h

    stmts_called : (ss : PlainStmts) (l out on : ℕ) (rest : List PlainIr) (cs : List ℕ) (g : ℕ)
        → In (called_in (stmts_code program table ss l out on rest)) g → In (stmts_calls ss cs) g ⊎ In (called_in rest) g
    stmts_called last_stmt l out on rest cs g h = inr h
    stmts_called (next_stmt a ss) l out on rest cs g h =
        either (stmt_called a l out on _ (stmts_calls ss cs) g h) (λ x. inl x)
        (λ y. either (stmts_called ss _ out on rest cs g y) (λ z. inl (stmt_more a (stmts_calls ss cs) g z)) (λ z. inr z))

  end_calls : (returns : Bool) (g : ℕ) → In (called_in (end_of returns)) g → ⊥
  end_calls true g h = absurd h
  end_calls false g h = absurd h

  -- a function's operations call only what its body calls
  pub function_called : (f : PlainFunction) (g : ℕ) → Contains (called_in (function_code program table f)) g
      → Contains (stmt_calls f.body []) g
  function_called f g h = in_contains (stmt_calls f.body []) g (either
      (stmt_called f.body 1 0 0 _ [] g (contains_in (called_in (function_code program table f)) g h)) (λ x. x) (λ y. absurd (end_calls
      (body_returns f.body) g y)))

  -- so no function reaches itself
  found_function : (f : ℕ) (x : PlainIrFunction) → slice_get (lowered program table).functions f ≡ Some x
      → (h : PlainFunction) × (slice_get program.functions f ≡ Some h) × (lowered_function program table h ≡ x)
  found_function f x e = by_source (slice_get program.functions f) refl
      (sym (slice_get-map (lowered_function program table) program.functions f) ∙ e)
    where
      by_source : (z : Option PlainFunction) → slice_get program.functions f ≡ z → option_map (lowered_function program table) z ≡ Some x
          → (h : PlainFunction) × (slice_get program.functions f ≡ Some h) × (lowered_function program table h ≡ x)
      by_source None g k = cc
      by_source (Some h) g k = (h, g, cc)

  called_source : (f g : ℕ) (x : PlainIrFunction) → slice_get (lowered program table).functions f ≡ Some x → Contains (called_in x.code) g
      → (h : PlainFunction) × (slice_get program.functions f ≡ Some h) × Contains (stmt_calls h.body []) g
  called_source f g x e c = let h = found_function f x e in (
    h.0,
    h.1,
    function_called h.0 g (subst (λ (z : PlainIrFunction). Contains (called_in z.code) g) (sym h.2) c),
  )

  pub reached_source : (g f : ℕ) → CallsTo (lowered program table) g f → Reaches program g f
  reached_source g f (calls_at _ x e c) = let h = called_source f g x e c in calls f h.0 h.1 h.2
  reached_source g f (calls_by _ k x e c d) = let h = called_source f k x e c in calls_through f k h.0 h.1 h.2 (reached_source g k d)
