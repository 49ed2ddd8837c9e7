-- Each label stands once: how often a label stands is a sum over the parts, whose labels lie in intervals one after another.
use Rattle.std.proofs.Common.{◌≡◌, ℕ, zero, suc, ◌+◌, ◌-◌, ◌*◌, ◌<◌, ◌≤◌, length, Bool, true, false, List, [], ◌∷◌}
use Rattle.std.proofs.Common.{◌++◌, Option, Some, None}
use Rattle.std.proofs.Common.{refl, ap, ◌∙◌, subst, arith, eq-eqb, eqb-true}
use Rattle.std.specs.Prelude.{pos, ◌==◌, if◌then◌else◌, slice_get}
use Rattle.std.proofs.lemmas.Grind.{common_steps}
use Rattle.ec_fx.specs.declared.numbers.Mode.{Mode}
use Rattle.ec_core.specs.declared.expressions.BinOp.{BinOp}
use Rattle.ec_core.specs.ArithmeticTypes.{type_of}
use Rattle.ec_core.specs.Layout.{PlainLeaf}
use Rattle.ec_core.specs.Operators.{number_type, step_operator}
use Rattle.ec_core.specs.PortAccesses.{pairs_of}
use Rattle.ec_core.specs.PortOperations.{PortAction, reads, writes, updates, port_operation}
use Rattle.ec_core.specs.PortTable.{PlainPort, PlainGroup, PlainTable, choices_of}
use Rattle.ec_iohw.specs.declared.operations.IoOp.{IoOp}
use Rattle.ec_iohw.specs.declared.table.Choice.{Choice}
use Rattle.ec_iohw.specs.declared.table.Pair.{Pair}
use Rattle.ec_ir.specs.declared.operations.Temp.{Temp}
use Rattle.ec_core.specs.Plain.{PlainType, void, integer, fixed, pointer, array, struct, PlainExpr, expression, PlainNode}
use Rattle.ec_core.specs.Plain.{number, null, load, address_of, unary, binary, convert, assign, compound, step, logical_not}
use Rattle.ec_core.specs.Plain.{logical_and, logical_or, conditional, comma, call, io, group, bind, dynamic_group}
use Rattle.ec_core.specs.Plain.{PlainPlace, object, deref, member}
use Rattle.ec_core.specs.Plain.{OptionPlainExpr, no_expr, an_expr, PlainExprs, last_expr, next_expr, PlainStmt, statement}
use Rattle.ec_core.specs.Plain.{PlainKind, empty, evaluate, block, declare, branch, while_loop, do_loop, for_loop, break_loop}
use Rattle.ec_core.specs.Plain.{continue_loop, return_value, OptionPlainStmt, no_stmt, a_stmt, PlainStmts, last_stmt, next_stmt}
use Rattle.ec_core.specs.Plain.{PlainFunction, PlainProgram}
use Rattle.ec_core.specs.Typing.{int, type_of_expr, port_value}
use Rattle.ec_ir.specs.Meaning.{find}
use Rattle.ec_ir.specs.Operations.{PlainIr, constant, copy, address, field, load_at, store_at, load_object, store_object}
use Rattle.ec_ir.specs.Operations.{binary_op, unary_op, conversion, label, jump, branch_zero, call_function, return_from}
use Rattle.ec_ir.specs.Operations.{port_in, port_out, load_cell, store_cell, cell_port}
use Rattle.ec_ir.specs.Valid.{count}
use Rattle.ec_lower_code.specs.Code.{temp, result_temp, truth_code, place_labels, Site, named, pointed, further_code, load_from}
use Rattle.ec_lower_code.specs.Code.{store_to, value_place, settled_code, address_code, update_types, change_code, postfix_code}
use Rattle.ec_lower_code.specs.Code.{step_code, offset_of, site, place_code, params_of, params_code, port_operator, port_code}
use Rattle.ec_lower_code.specs.Code.{read_from, write_to, place_behind, operand_temp, access_code, pairs_code, group_code, bind_code}
use Rattle.ec_lower_code.specs.Code.{choices_code, option_labels}
use Rattle.ec_lower_code.specs.Code.{option_code, expr_labels, node_labels, exprs_labels, optional_labels, stmt_labels}
use Rattle.ec_lower_code.specs.Code.{kind_labels, option_stmt_labels, stmts_labels, expr_code, node_code, args_code, init_code}
use Rattle.ec_lower_code.specs.Code.{test_code, entry_code, last_code, leaves_of_object, stmt_code, kind_code, option_stmt_code}
use Rattle.ec_lower_code.specs.Code.{stmts_code, body_returns, end_of, end_code, function_code}
use Rattle.ec_lower_code.specs.Code.{stepping_code, unread_code}
use Rattle.ec_lower_code.specs.Code.{Branch, where_zero, where_not, branch_to, opposite, zero_label, other_label, and_end}
use Rattle.ec_lower_code.specs.Code.{or_end, branch_code}
use Rattle.ec_lower_code.proofs.Steps.{Resolves}
use Rattle.ec_lower_code.proofs.Tables.{HaveFewChoices}

abbrev is_at : (l j : ℕ) → ℕ
is_at l j = if l == j then 1 else 0

-- 1 where j is from l to l + k - 1, and else 0
abbrev pub among : (k l j : ℕ) → ℕ
among zero l j = 0
among (suc k) l j = is_at l j + among k (l + 1) j

is_other : (l j : ℕ) → j < l → is_at l j ≡ 0
is_other l j h = let e : (l == j) ≡ false = grind (arith, common_steps) in ap (λ b. if b then 1 else 0) e

among_below : (k l j : ℕ) → j < l → among k l j ≡ 0
among_below zero l j h = refl
among_below (suc k) l j h = let a = is_other l j h in let b = among_below k (l + 1) j (omega arith) in omega (arith, a, b)

among_one : (k l j : ℕ) → among k l j ≤ 1
among_one zero l j = omega arith
among_one (suc k) l j = by_test (l == j) refl (among_one k (l + 1) j)
  where
    by_test : (b : Bool) → (l == j) ≡ b → among k (l + 1) j ≤ 1 → (if b then 1 else 0) + among k (l + 1) j ≤ 1
    by_test true e h = let f : l ≡ j = eqb-true l j e in let g = among_below k (l + 1) j (omega (arith, f)) in omega (arith, g)
    by_test false e h = omega (arith, h)

pub among_two : (a b l j : ℕ) → among (a + b) l j ≡ among a l j + among b (l + a) j
among_two zero b l j =
    let e : among (0 + b) l j ≡ among b l j = ap (λ k. among k l j) (let z : 0 + b ≡ b = omega arith in z) in
    let f : among b (l + 0) j ≡ among b l j = ap (λ m. among b m j) (let z : l + 0 ≡ l = omega arith in z) in
    omega (arith, e, f)
among_two (suc a) b l j =
    let e : among (suc a + b) l j ≡ is_at l j + among (a + b) (l + 1) j = ap (λ k. among k l j) (let z : suc a + b ≡ suc (a + b) =
    omega arith in z) in
    let f = among_two a b (l + 1) j in
    let g : among b (l + 1 + a) j ≡ among b (l + suc a) j = ap (λ m. among b m j) (omega arith) in
    omega (arith, e, f, g)

among_three : (f a b l j : ℕ) → among (f + a + b) l j ≡ among f l j + among a (l + f) j + among b (l + f + a) j
among_three f a b l j = let x = among_two (f + a) b l j in let y = among_two f a l j in let z : among b (l + (f + a)) j ≡ among b
    (l + f + a) j = ap (λ m. among b m j) (omega arith) in omega (arith, x, y, z)

among_four : (f a b c l j : ℕ) → among (f + a + b + c) l j ≡ among f l j + among a (l + f) j + among b (l + f + a) j + among c
    (l + f + a + b) j
among_four f a b c l j = let x = among_two (f + a + b) c l j in let y = among_three f a b l j in
    let z : among c (l + (f + a + b)) j ≡ among c (l + f + a + b) j = ap (λ m. among c m j) (omega arith) in omega (arith, x, y, z)

two_labels : (l j : ℕ) → among 2 l j ≡ is_at l j + is_at (l + 1) j
two_labels l j = omega arith

four_labels : (l j : ℕ) → among 4 l j ≡ is_at l j + is_at (l + 1) j + is_at (l + 2) j + is_at (l + 3) j
four_labels l j =
    let a : is_at (l + 1 + 1) j ≡ is_at (l + 2) j = ap (λ m. is_at m j) (omega arith) in
    let b : is_at (l + 1 + 1 + 1) j ≡ is_at (l + 3) j = ap (λ m. is_at m j) (omega arith) in
    omega (arith, a, b)

five_labels : (l j : ℕ) → among 5 l j ≡ is_at l j + is_at (l + 1) j + is_at (l + 2) j + is_at (l + 3) j + is_at (l + 4) j
five_labels l j =
    let a = four_labels l j in let b = among_two 4 1 l j in let c : among 1 (l + 4) j ≡ is_at (l + 4) j = omega arith in
    omega (arith, a, b, c)

-- ---- labels that stand once are found

op_count : (i : PlainIr) (code : List PlainIr) (j : ℕ) → count j code ≤ count j (i ∷ code)
op_count (constant t n) code j = omega arith
op_count (copy to from) code j = omega arith
op_count (address t o f) code j = omega arith
op_count (field t s o) code j = omega arith
op_count (load_at to ptr s) code j = omega arith
op_count (store_at ptr s from) code j = omega arith
op_count (load_object t o f) code j = omega arith
op_count (store_object o f t) code j = omega arith
op_count (binary_op op ty mode to a aty b bty) code j = omega arith
op_count (unary_op op ty mode to a) code j = omega arith
op_count (conversion to ty mode a aty) code j = omega arith
op_count (label k) code j = omega arith
op_count (jump k) code j = omega arith
op_count (branch_zero t k) code j = omega arith
op_count (call_function f to) code j = omega arith
op_count (return_from t) code j = omega arith
op_count (port_in t a i k) code j = omega arith
op_count (port_out t a i k) code j = omega arith
op_count (load_cell t d) code j = omega arith
op_count (store_cell d t) code j = omega arith
op_count (cell_port r t d a i k) code j = omega arith

pub counted : (pre : List PlainIr) (j : ℕ) (rest : List PlainIr) → 1 ≤ count j (pre ++ label j ∷ rest)
counted [] j rest = let e : is_at j j ≡ 1 = ap (λ b. if b then 1 else 0) (eq-eqb j j refl) in omega (arith, e)
counted (i ∷ pre) j rest = let a = counted pre j rest in let b = op_count i (pre ++ label j ∷ rest) j in omega (arith, a, b)

-- behind another operation a label is found, if it is not that one
found_behind : (i : PlainIr) (code : List PlainIr) (j : ℕ) → 1 ≤ count j code → count j (i ∷ code) ≤ 1 → find j (i ∷ code) ≡ find j code
found_behind (constant t n) code j a b = refl
found_behind (copy to from) code j a b = refl
found_behind (address t o f) code j a b = refl
found_behind (field t s o) code j a b = refl
found_behind (load_at to ptr s) code j a b = refl
found_behind (store_at ptr s from) code j a b = refl
found_behind (load_object t o f) code j a b = refl
found_behind (store_object o f t) code j a b = refl
found_behind (binary_op op ty mode to x aty y bty) code j a b = refl
found_behind (unary_op op ty mode to x) code j a b = refl
found_behind (conversion to ty mode x aty) code j a b = refl
found_behind (label k) code j a b = by_test (k == j) refl b
  where
    by_test : (c : Bool) → (k == j) ≡ c → (if c then 1 else 0) + count j code ≤ 1 → (if c then Some code else find j code) ≡ find j code
    by_test true e h = absurd (omega (arith, a, h))
    by_test false e h = refl
found_behind (jump k) code j a b = refl
found_behind (branch_zero t k) code j a b = refl
found_behind (call_function f to) code j a b = refl
found_behind (return_from t) code j a b = refl
found_behind (port_in t x i k) code j a b = refl
found_behind (port_out t x i k) code j a b = refl
found_behind (load_cell t d) code j a b = refl
found_behind (store_cell d t) code j a b = refl
found_behind (cell_port r t d x i k) code j a b = refl

found_at : (pre : List PlainIr) (j : ℕ) (rest : List PlainIr) → count j (pre ++ label j ∷ rest) ≤ 1
    → find j (pre ++ label j ∷ rest) ≡ Some rest
found_at [] j rest h = ap (λ b. if b then Some rest else find j rest) (eq-eqb j j refl)
found_at (i ∷ pre) j rest h =
    let a = op_count i (pre ++ label j ∷ rest) j in
    found_behind i (pre ++ label j ∷ rest) j (counted pre j rest) h ∙ found_at pre j rest (omega (arith, a, h))

pub counts_resolve : (code : List PlainIr) → ((j : ℕ) → count j code ≤ 1) → Resolves code
counts_resolve code h l rest s =
    ap (find l) s.1 ∙ found_at s.0 l rest (subst (λ (c : List PlainIr). count l c ≤ 1) s.1 (h l))

-- ---- the labels of parts

store_counts : (j : ℕ) (s : Site) (from : Temp) (rest : List PlainIr) → count j (store_to s from ∷ rest) ≤ count j rest
store_counts j (named o offset) from rest = omega arith
store_counts j (pointed ptr space) from rest = omega arith

change_counts : (j : ℕ) (op : BinOp) (own mode : Mode) (ty : PlainType) (s : Site) (t : ℕ) (right : PlainType) (rest : List PlainIr)
    → count j (change_code op own mode ty s t right rest) ≤ count j rest
change_counts j op own mode void s t right rest = store_counts j s (temp t void) rest
change_counts j op own mode (integer g b) s t right rest = store_counts j s (temp t (integer g b)) rest
change_counts j op own mode (fixed k g) s t right rest = store_counts j s (temp t (fixed k g)) rest
change_counts j op own mode (pointer c k u) s t right rest = store_counts j s (temp t (pointer c k u)) rest
change_counts j op own mode (array u n) s t right rest = store_counts j s (temp t (array u n)) rest
change_counts j op own mode (struct n) s t right rest = store_counts j s (temp t (struct n)) rest

postfix_counts : (j : ℕ) (op : BinOp) (mode : Mode) (ty : PlainType) (s : Site) (t : ℕ) (rest : List PlainIr)
    → count j (postfix_code op mode ty s t rest) ≤ count j rest
postfix_counts j op mode void s t rest = store_counts j s (temp (t + 1) void)
    (conversion (temp t void) void mode (temp t (type_of (update_types op (number_type void) (number_type int)).left))
    (type_of (update_types op (number_type void) (number_type int)).left) ∷ rest)
postfix_counts j op mode (integer g b) s t rest = store_counts j s (temp (t + 1) (integer g b))
    (conversion (temp t (integer g b)) (integer g b) mode (temp t
    (type_of (update_types op (number_type (integer g b)) (number_type int)).left))
    (type_of (update_types op (number_type (integer g b)) (number_type int)).left) ∷ rest)
postfix_counts j op mode (fixed k g) s t rest = store_counts j s (temp (t + 1) (fixed k g))
    (conversion (temp t (fixed k g)) (fixed k g) mode (temp t (type_of (update_types op (number_type (fixed k g)) (number_type int)).left))
    (type_of (update_types op (number_type (fixed k g)) (number_type int)).left) ∷ rest)
postfix_counts j op mode (pointer c k u) s t rest = store_counts j s (temp (t + 1) (pointer c k u)) rest
postfix_counts j op mode (array u n) s t rest = store_counts j s (temp (t + 1) (array u n))
    (conversion (temp t (array u n)) (array u n) mode (temp t (type_of (update_types op (number_type (array u n)) (number_type int)).left))
    (type_of (update_types op (number_type (array u n)) (number_type int)).left) ∷ rest)
postfix_counts j op mode (struct n) s t rest = store_counts j s (temp (t + 1) (struct n)) (conversion (temp t (struct n)) (struct n) mode
    (temp t (type_of (update_types op (number_type (struct n)) (number_type int)).left))
    (type_of (update_types op (number_type (struct n)) (number_type int)).left) ∷ rest)

step_counts : (j : ℕ) (prefix : Bool) (op : BinOp) (mode : Mode) (ty : PlainType) (s : Site) (t : ℕ) (rest : List PlainIr)
    → count j (step_code prefix op mode ty s t rest) ≤ count j rest
step_counts j true op mode ty s t rest = change_counts j op mode mode ty s t int rest
step_counts j false op mode ty s t rest = postfix_counts j op mode ty s t rest

further_counts : (j k : ℕ) (s : Site) (rest : List PlainIr) → count j (further_code k s rest) ≤ count j rest
further_counts j k (named o offset) rest = omega arith
further_counts j k (pointed ptr space) rest = omega arith

settled_counts : (j : ℕ) (s : Site) (ty : PlainType) (t : ℕ) (rest : List PlainIr) → count j (settled_code s ty t rest) ≤ count j rest
settled_counts j (named o offset) ty t rest = omega arith
settled_counts j (pointed ptr space) ty t rest = omega arith

address_counts : (j : ℕ) (s : Site) (ty : PlainType) (t : ℕ) (rest : List PlainIr) → count j (address_code s ty t rest) ≤ count j rest
address_counts j (named o offset) ty t rest = omega arith
address_counts j (pointed ptr space) ty t rest = omega arith

load_counts : (j : ℕ) (s : Site) (to : Temp) (rest : List PlainIr) → count j (load_from to s ∷ rest) ≤ count j rest
load_counts j (named o offset) to rest = omega arith
load_counts j (pointed ptr space) to rest = omega arith

-- the label of a branch's own, where it has one
abbrev at_past : Branch → (j : ℕ) → ℕ
at_past (where_zero to) j = 0
at_past (where_not to past) j = is_at past j

branch_to_counts : (j : ℕ) (to : Branch) (t : Temp) (rest : List PlainIr) → count j (branch_to to t rest) ≤ at_past to j + count j rest
branch_to_counts j (where_zero to) t rest = omega arith
branch_to_counts j (where_not to past) t rest = omega arith

opposite_counts : (j : ℕ) (to : Branch) (l : ℕ) → at_past (opposite to l) j ≤ is_at l j
opposite_counts j (where_zero to) l = omega arith
opposite_counts j (where_not to past) l = omega arith

and_end_counts : (j : ℕ) (to : Branch) (l : ℕ) (rest : List PlainIr) → count j (and_end to l rest) ≤ is_at l j + count j rest
and_end_counts j (where_zero to) l rest = omega arith
and_end_counts j (where_not to past) l rest = omega arith

or_end_counts : (j : ℕ) (to : Branch) (l : ℕ) (rest : List PlainIr) → count j (or_end to l rest) ≤ is_at l j + count j rest
or_end_counts j (where_zero to) l rest = omega arith
or_end_counts j (where_not to past) l rest = omega arith

stepping_counts : (j : ℕ) (up prefix : Bool) (mode : Mode) (ty : PlainType) (s : Site) (t : ℕ) (rest : List PlainIr)
    → count j (stepping_code up prefix mode ty s t rest) ≤ count j rest
stepping_counts j up prefix mode ty s t rest =
    let v = value_place s t in
    let r = settled_code s ty t rest in
    let q = step_code prefix (step_operator up) mode ty s v r in
    let y = load_counts j s (temp v ty) (constant (temp (v + 1) int) (pos 1) ∷ q) in
    let w = step_counts j prefix (step_operator up) mode ty s v r in
    let k = settled_counts j s ty t rest in omega (arith, y, w, k)

params_counts : (j : ℕ) (os : List ℕ) (es : PlainExprs) (t : ℕ) (rest : List PlainIr) → count j (params_code os es t rest) ≤ count j rest
params_counts j [] es t rest = omega arith
params_counts j (o ∷ os) last_expr t rest = omega arith
params_counts j (o ∷ os) (next_expr e es) t rest = params_counts j os es (t + 1) rest

read_counts : (j : ℕ) (dynamic : Option ℕ) (to : Temp) (offset : ℕ) (index : Option Temp) (width : ℕ) (rest : List PlainIr)
    → count j (read_from dynamic to offset index width ∷ rest) ≤ count j rest
read_counts j None to offset index width rest = omega arith
read_counts j (Some d) to offset index width rest = omega arith

write_counts : (j : ℕ) (dynamic : Option ℕ) (from : Temp) (offset : ℕ) (index : Option Temp) (width : ℕ) (rest : List PlainIr)
    → count j (write_to dynamic from offset index width ∷ rest) ≤ count j rest
write_counts j None from offset index width rest = omega arith
write_counts j (Some d) from offset index width rest = omega arith

port_counts : (j : ℕ) (action : PortAction) (op : BinOp) (ty : PlainType) (mode : Mode) (port : PlainPort) (index : Option Temp) (t v : ℕ)
    (rest : List PlainIr)
    → count j (port_code action op ty mode port index t v rest) ≤ count j rest
port_counts j reads op ty mode port index t v rest = read_counts j port.dynamic _ _ _ _ rest
port_counts j writes op ty mode port index t v rest = write_counts j port.dynamic _ _ _ _ rest
port_counts j updates op ty mode port index t v rest =
    let out : List PlainIr = write_to port.dynamic (temp (v + 1) ty) port.address index port.width ∷ rest in
    let x = read_counts j port.dynamic (temp (v + 1) ty) port.address index port.width
    (binary_op op ty mode (temp (v + 1) ty) (temp (v + 1) ty) ty (temp v ty) ty ∷ out) in
    let y = write_counts j port.dynamic (temp (v + 1) ty) port.address index port.width rest in omega (arith, x, y)

access_counts : (j : ℕ) (op : IoOp) (mode : Mode) (port : Option PlainPort) (index : OptionPlainExpr) (t : ℕ) (rest : List PlainIr)
    → count j (access_code op mode port index t rest) ≤ count j rest
access_counts j op mode None index t rest = omega arith
access_counts j op mode (Some port) index t rest =
    port_counts j (port_operation op).action (port_operator op) (port_value (port_operation op)) mode port (operand_temp index t) t
    (place_behind index t) rest

pairs_counts : (j : ℕ) (pairs : List Pair) (t : ℕ) (rest : List PlainIr) → count j (pairs_code pairs t rest) ≤ count j rest
pairs_counts j [] t rest = omega arith
pairs_counts j (pair ∷ pairs) t rest = pairs_counts j pairs t rest

group_counts : (j : ℕ) (acquire : Bool) (x : Option PlainGroup) (t : ℕ) (rest : List PlainIr)
    → count j (group_code acquire x t rest) ≤ count j rest
group_counts j acquire None t rest = omega arith
group_counts j acquire (Some x) t rest = pairs_counts j (pairs_of acquire x) t rest

bind_counts : (j d : ℕ) (c : Option Choice) (t : ℕ) (rest : List PlainIr) → count j (bind_code d c t rest) ≤ count j rest
bind_counts j d None t rest = omega arith
bind_counts j d (Some c) t rest = omega arith

-- two labels for each choice of a dynamic group
choices_counts : (j : ℕ) (acquire : Bool) (table : PlainTable) (mode : Mode) (d : ℕ) (cs : List Choice) (l t : ℕ) (rest : List PlainIr)
    → count j (choices_code acquire table mode d cs l t rest) ≤ among (2 * length cs) l j + count j rest
choices_counts j acquire table mode d [] l t rest = omega arith
choices_counts j acquire table mode d (c ∷ []) l t rest =
    let x = group_counts j acquire (slice_get table.groups c.group) t rest in omega (arith, x)
choices_counts j acquire table mode d (c ∷ other ∷ cs) l t rest =
    let after_group : List PlainIr = label (l + 1) ∷ rest in
    let pairs = group_code acquire (slice_get table.groups c.group) t after_group in
    let x = choices_counts j acquire table mode d (other ∷ cs) (l + 2) t (jump (l + 1) ∷ label l ∷ pairs) in
    let y = group_counts j acquire (slice_get table.groups c.group) t after_group in
    let more = 2 * length (other ∷ cs) in
    let z = among_two 2 more l j in
    let e : among (2 * length (c ∷ other ∷ cs)) l j ≡ among (2 + more) l j = ap (λ k. among k l j) (omega arith) in
    let v = two_labels l j in omega (arith, x, y, z, e, v)

among_more : (a b l j : ℕ) → a ≤ b → among a l j ≤ among b l j
among_more a b l j le =
    let e : among b l j ≡ among (a + (b - a)) l j = ap (λ k. among k l j) (omega (arith, le)) in
    let x = among_two a (b - a) l j in omega (arith, e, x)

module _ (program : PlainProgram) (table : PlainTable) (few : HaveFewChoices table) where
  mutual
    pub expr_counts : (j : ℕ) (e : PlainExpr) (l t : ℕ) (rest : List PlainIr) → count j (expr_code program table e l t rest) ≤ among
        (expr_labels e) l j + count j rest
    expr_counts j (expression ty mode node) l t rest = node_counts j ty mode node l t rest

    node_counts : (j : ℕ) (ty : PlainType) (mode : Mode) (node : PlainNode) (l t : ℕ) (rest : List PlainIr)
        → count j (node_code program table ty mode node l t rest) ≤ among (node_labels node) l j + count j rest
    node_counts j ty mode (number n) l t rest = omega arith
    node_counts j ty mode null l t rest = omega arith
    node_counts j ty mode (load p) l t rest =
        let x = place_counts j p l t (load_from (temp t ty) (site program p t) ∷ rest) in let y = load_counts j (site program p t)
        (temp t ty) rest in omega (arith, x, y)
    node_counts j ty mode (address_of p) l t rest =
        let x = place_counts j p l t (address_code (site program p t) ty t rest) in let y = address_counts j (site program p t) ty t rest in
        omega (arith, x, y)
    node_counts j ty mode (unary op a) l t rest = expr_counts j a l t (unary_op op ty mode (temp t ty) (temp t ty) ∷ rest)
    node_counts j ty mode (binary op a b) l t rest =
        let q : List PlainIr = binary_op op ty mode (temp t ty) (temp t (type_of_expr a)) (type_of_expr a) (temp (t + 1) (type_of_expr b))
        (type_of_expr b) ∷ rest in
        let x = expr_counts j a l t (expr_code program table b (l + expr_labels a) (t + 1) q) in let y = expr_counts j b (l + expr_labels a)
        (t + 1) q in let z = among_two (expr_labels a) (expr_labels b) l j in omega (arith, x, y, z)
    node_counts j ty mode (convert a) l t rest = expr_counts j a l t (conversion (temp t ty) ty mode (temp t (type_of_expr a))
        (type_of_expr a) ∷ rest)
    node_counts j ty mode (assign p a) l t rest =
        let s = site program p t in
        let r = settled_code s ty t rest in
        let q : List PlainIr = store_to s (temp (value_place s t) ty) ∷ r in
        let x = place_counts j p l t (expr_code program table a (l + place_labels p) (value_place s t) q) in
        let y = expr_counts j a (l + place_labels p) (value_place s t) q in
        let u = store_counts j s (temp (value_place s t) ty) r in
        let k = settled_counts j s ty t rest in
        let z = among_two (place_labels p) (expr_labels a) l j in omega (arith, x, y, u, k, z)
    node_counts j ty mode (compound op own p a) l t rest =
        let s = site program p t in
        let v = value_place s t in
        let r = settled_code s ty t rest in
        let q = change_code op own mode ty s v (type_of_expr a) r in
        let c = expr_code program table a (l + place_labels p) (v + 1) q in
        let x = place_counts j p l t (load_from (temp v ty) s ∷ c) in
        let y = load_counts j s (temp v ty) c in
        let u = expr_counts j a (l + place_labels p) (v + 1) q in
        let w = change_counts j op own mode ty s v (type_of_expr a) r in
        let k = settled_counts j s ty t rest in
        let z = among_two (place_labels p) (expr_labels a) l j in omega (arith, x, y, u, w, k, z)
    node_counts j ty mode (step up prefix p) l t rest =
        let x = place_counts j p l t (stepping_code up prefix mode ty (site program p t) t rest) in
        let y = stepping_counts j up prefix mode ty (site program p t) t rest in omega (arith, x, y)
    node_counts j ty mode (logical_not a) l t rest =
        let x = branch_counts j a (l + 2) t (where_zero l) (truth_code false ty l t rest) in
        let z = among_two 2 (expr_labels a) l j in let v = two_labels l j in omega (arith, x, z, v)
    node_counts j ty mode (logical_and a b) l t rest =
        let q = truth_code true ty l t rest in
        let x = branch_counts j a (l + 2) t (where_zero l) (branch_code program table b (l + 2 + expr_labels a) t (where_zero l) q) in
        let y = branch_counts j b (l + 2 + expr_labels a) t (where_zero l) q in
        let z = among_three 2 (expr_labels a) (expr_labels b) l j in let v = two_labels l j in omega (arith, x, y, z, v)
    node_counts j ty mode (logical_or a b) l t rest =
        let q : List PlainIr = label (l + 3) ∷ truth_code true ty l t rest in
        let x = branch_counts j a (l + 4) t (where_not (l + 3) (l + 2)) (branch_code program table b (l + 4 + expr_labels a) t
        (where_zero l) q) in let y = branch_counts j b (l + 4 + expr_labels a) t (where_zero l) q in
        let z = among_three 4 (expr_labels a) (expr_labels b) l j in let v = four_labels l j in omega (arith, x, y, z, v)
    node_counts j ty mode (conditional c a b) l t rest =
        let r : List PlainIr = label (l + 1) ∷ rest in
        let q : List PlainIr = jump (l + 1) ∷ label l ∷ expr_code program table b (l + 2 + expr_labels c + expr_labels a) t r in
        let x = branch_counts j c (l + 2) t (where_zero l) (expr_code program table a (l + 2 + expr_labels c) t q) in
        let y = expr_counts j a (l + 2 + expr_labels c) t q in let u = expr_counts j b (l + 2 + expr_labels c + expr_labels a) t
        r in
        let z = among_four 2 (expr_labels c) (expr_labels a) (expr_labels b) l j in let v = two_labels l j in omega (arith, x, y, u, z, v)
    node_counts j ty mode (comma a b) l t rest =
        let x = unread_counts j a l t (expr_code program table b (l + expr_labels a) t rest) in
        let y = expr_counts j b (l + expr_labels a) t rest in let z = among_two (expr_labels a) (expr_labels b) l j in
        omega (arith, x, y, z)
    node_counts j ty mode (call f args) l t rest =
        let q : List PlainIr = call_function f (result_temp t ty) ∷ rest in
        let x = args_counts j args l t (params_code (params_of program f) args t q) in let y = params_counts j (params_of program f) args t
        q in omega (arith, x, y)
    node_counts j ty mode (io op port i v) l t rest =
        let q = access_code op mode (slice_get table.ports port) i t rest in
        let x = operand_counts j i l t (option_code program table v (l + option_labels i) (place_behind i t) q) in
        let y = operand_counts j v (l + option_labels i) (place_behind i t) q in
        let u = access_counts j op mode (slice_get table.ports port) i t rest in
        let z = among_two (option_labels i) (option_labels v) l j in omega (arith, x, y, u, z)
    node_counts j ty mode (group acquire g) l t rest = let x = group_counts j acquire (slice_get table.groups g) t rest in omega (arith, x)
    node_counts j ty mode (bind d choice) l t rest = let x = bind_counts j d (slice_get (choices_of table d) choice) t rest in
        omega (arith, x)
    node_counts j ty mode (dynamic_group acquire d) l t rest =
        let x = choices_counts j acquire table mode d (choices_of table d) l t rest in
        let f = few d in
        let y = among_more (2 * length (choices_of table d)) 16 l j (omega (arith, f)) in omega (arith, x, y)

    unread_counts : (j : ℕ) (e : PlainExpr) (l t : ℕ) (rest : List PlainIr) → count j (unread_code program table e l t rest) ≤ among
        (expr_labels e) l j + count j rest
    unread_counts j (expression ty mode (step up prefix p)) l t rest =
        let x = place_counts j p l t (stepping_code up true mode ty (site program p t) t rest) in
        let y = stepping_counts j up true mode ty (site program p t) t rest in omega (arith, x, y)
    unread_counts j (expression ty mode (comma a b)) l t rest =
        let x = unread_counts j a l t (unread_code program table b (l + expr_labels a) t rest) in
        let y = unread_counts j b (l + expr_labels a) t rest in let z = among_two (expr_labels a) (expr_labels b) l j in
        omega (arith, x, y, z)
    unread_counts j (expression ty mode node) l t rest = node_counts j ty mode node l t rest

    branch_counts : (j : ℕ) (e : PlainExpr) (l t : ℕ) (to : Branch) (rest : List PlainIr)
        → count j (branch_code program table e l t to rest) ≤ among (expr_labels e) l j + (at_past to j + count j rest)
    branch_counts j (expression ty mode (logical_not a)) l t to rest =
        let x = branch_counts j a (l + 2) t (opposite to l) rest in
        let y = opposite_counts j to l in
        let z = among_two 2 (expr_labels a) l j in let v = two_labels l j in omega (arith, x, y, z, v)
    branch_counts j (expression ty mode (logical_and a b)) l t to rest =
        let q = and_end to l rest in
        let x = branch_counts j a (l + 2) t (where_zero (zero_label to l)) (branch_code program table b (l + 2 + expr_labels a) t to q) in
        let y = branch_counts j b (l + 2 + expr_labels a) t to q in
        let w = and_end_counts j to l rest in
        let z = among_three 2 (expr_labels a) (expr_labels b) l j in let v = two_labels l j in omega (arith, x, y, w, z, v)
    branch_counts j (expression ty mode (logical_or a b)) l t to rest =
        let q = or_end to l rest in
        let x = branch_counts j a (l + 4) t (where_not (other_label to l) (l + 1)) (branch_code program table b (l + 4 + expr_labels a) t
        to q) in let y = branch_counts j b (l + 4 + expr_labels a) t to q in
        let w = or_end_counts j to l rest in
        let z = among_three 4 (expr_labels a) (expr_labels b) l j in let v = four_labels l j in omega (arith, x, y, w, z, v)
    branch_counts j (expression ty mode node) l t to rest =
        let x = node_counts j ty mode node l t (branch_to to (temp t ty) rest) in let y = branch_to_counts j to (temp t ty) rest in
        omega (arith, x, y)

    place_counts : (j : ℕ) (p : PlainPlace) (l t : ℕ) (rest : List PlainIr) → count j (place_code program table p l t rest) ≤ among
        (place_labels p) l j + count j rest
    place_counts j (object o) l t rest = omega arith
    place_counts j (deref e) l t rest = expr_counts j e l t rest
    place_counts j (member p i) l t rest =
        let x = place_counts j p l t (further_code (offset_of program p i) (site program p t) rest) in let y = further_counts j
        (offset_of program p i) (site program p t) rest in omega (arith, x, y)

    operand_counts : (j : ℕ) (e : OptionPlainExpr) (l t : ℕ) (rest : List PlainIr) → count j (option_code program table e l t rest) ≤ among
        (option_labels e) l j + count j rest
    operand_counts j no_expr l t rest = omega arith
    operand_counts j (an_expr e) l t rest = expr_counts j e l t rest

    args_counts : (j : ℕ) (es : PlainExprs) (l t : ℕ) (rest : List PlainIr) → count j (args_code program table es l t rest) ≤ among
        (exprs_labels es) l j + count j rest
    args_counts j last_expr l t rest = omega arith
    args_counts j (next_expr e es) l t rest =
        let x = expr_counts j e l t (args_code program table es (l + expr_labels e) (t + 1) rest) in let y = args_counts j es
        (l + expr_labels e) (t + 1) rest in let z = among_two (expr_labels e) (exprs_labels es) l j in omega (arith, x, y, z)

  init_counts : (j : ℕ) (ls : List PlainLeaf) (o : ℕ) (es : PlainExprs) (l : ℕ) (rest : List PlainIr)
      → count j (init_code program table ls o es l rest) ≤ among (exprs_labels es) l j + count j rest
  init_counts j [] o es l rest = omega arith
  init_counts j (leaf ∷ ls) o last_expr l rest = omega arith
  init_counts j (leaf ∷ ls) o (next_expr e es) l rest =
      let x = expr_counts j e l 0 (store_object o leaf.at (temp 0 (type_of_expr e)) ∷ init_code program table ls o es
      (l + expr_labels e) rest) in let y = init_counts j ls o es (l + expr_labels e) rest in let z = among_two (expr_labels e)
      (exprs_labels es) l j in omega (arith, x, y, z)

  test_counts : (j : ℕ) (c : Option PlainExpr) (l : ℕ) (rest : List PlainIr) → count j (test_code program table c l rest) ≤ is_at
      (l + 1) j + is_at (l + 4) j + among (optional_labels c) (l + 5) j + count j rest
  test_counts j None l rest = omega arith
  test_counts j (Some c) l rest =
      let x = branch_counts j c (l + 5) 0 (where_not (l + 3) (l + 4)) (label (l + 1) ∷ rest) in omega (arith, x)

  entry_counts : (j : ℕ) (c : Option PlainExpr) (l : ℕ) (rest : List PlainIr) → count j (entry_code c l rest) ≡ count j rest
  entry_counts j None l rest = refl
  entry_counts j (Some c) l rest = refl

  last_counts : (j : ℕ) (e : Option PlainExpr) (l : ℕ) (rest : List PlainIr) → count j (last_code program table e l rest) ≤ among
      (optional_labels e) l j + count j rest
  last_counts j None l rest = omega arith
  last_counts j (Some e) l rest = unread_counts j e l 0 rest

  mutual
    pub stmt_counts : (j : ℕ) (a : PlainStmt) (l out on : ℕ) (rest : List PlainIr)
        → count j (stmt_code program table a l out on rest) ≤ among (stmt_labels a) l j + count j rest
    stmt_counts j (statement unit at kind) l out on rest = kind_counts j kind l out on rest

    kind_counts : (j : ℕ) (kind : PlainKind) (l out on : ℕ) (rest : List PlainIr)
        → count j (kind_code program table kind l out on rest) ≤ among (kind_labels kind) l j + count j rest
    kind_counts j empty l out on rest = omega arith
    kind_counts j (evaluate e) l out on rest = unread_counts j e l 0 rest
    kind_counts j (block ss) l out on rest = stmts_counts j ss l out on rest
    kind_counts j (declare o es) l out on rest = init_counts j (leaves_of_object program o) o es l rest
    kind_counts j (branch c a no_stmt) l out on rest =
        let x = branch_counts j c (l + 2) 0 (where_zero l) (stmt_code program table a (l + 2 + expr_labels c) out on (label l ∷ rest)) in
        let y = stmt_counts j a (l + 2 + expr_labels c) out on (label l ∷ rest) in
        let z = among_four 2 (expr_labels c) (stmt_labels a) 0 l j in let v = two_labels l j in omega (arith, x, y, z, v)
    kind_counts j (branch c a (a_stmt b)) l out on rest =
        let q : List PlainIr = jump (l + 1) ∷ label l ∷ stmt_code program table b (l + 2 + expr_labels c + stmt_labels a) out on
        (label (l + 1) ∷ rest) in
        let x = branch_counts j c (l + 2) 0 (where_zero l) (stmt_code program table a (l + 2 + expr_labels c) out on q) in
        let y = stmt_counts j a (l + 2 + expr_labels c) out on q in
        let u = stmt_counts j b (l + 2 + expr_labels c + stmt_labels a) out on (label (l + 1) ∷ rest) in
        let z = among_four 2 (expr_labels c) (stmt_labels a) (stmt_labels b) l j in let v = two_labels l j in omega (arith, x, y, u, z, v)
    kind_counts j (while_loop c a) l out on rest =
        let e : List PlainIr = label l ∷ test_code program table (Some c) l rest in
        let x = test_counts j (Some c) l rest in
        let y = stmt_counts j a (l + 5 + expr_labels c) (l + 1) (l + 2) (label (l + 2) ∷ e) in
        let z = among_three 5 (expr_labels c) (stmt_labels a) l j in let v = five_labels l j in omega (arith, x, y, z, v)
    kind_counts j (do_loop a c) l out on rest =
        let e : List PlainIr = label l ∷ test_code program table (Some c) l rest in
        let x = test_counts j (Some c) l rest in
        let y = stmt_counts j a (l + 5 + expr_labels c) (l + 1) (l + 2) (label (l + 2) ∷ e) in
        let z = among_three 5 (expr_labels c) (stmt_labels a) l j in let v = five_labels l j in omega (arith, x, y, z, v)
    kind_counts j (for_loop first c last a) l0 out on rest =
        let l = l0 + option_stmt_labels first in
        let e : List PlainIr = label l ∷ test_code program table c l rest in
        let q : List PlainIr = label (l + 2) ∷ last_code program table last (l + 5 + optional_labels c) e in
        let b : List PlainIr = label (l + 3) ∷ stmt_code program table a (l + 5 + optional_labels c + optional_labels last) (l + 1)
        (l + 2) q in
        let f = option_counts j first l0 out on (entry_code c l b) in
        let g = entry_counts j c l b in
        let x = test_counts j c l rest in
        let y = stmt_counts j a (l + 5 + optional_labels c + optional_labels last) (l + 1) (l + 2) q in
        let u = last_counts j last (l + 5 + optional_labels c) e in
        let w = among_two (option_stmt_labels first) (5 + optional_labels c + optional_labels last + stmt_labels a) l0 j in
        let z = among_four 5 (optional_labels c) (optional_labels last) (stmt_labels a) l j in let v = five_labels l j in
        omega (arith, f, g, x, y, u, w, z, v)
    kind_counts j break_loop l out on rest = omega arith
    kind_counts j continue_loop l out on rest = omega arith
    kind_counts j (return_value None) l out on rest = omega arith
    kind_counts j (return_value (Some e)) l out on rest = expr_counts j e l 0 (return_from (Some (temp 0 (type_of_expr e))) ∷ rest)

    option_counts : (j : ℕ) (a : OptionPlainStmt) (l out on : ℕ) (rest : List PlainIr)
        → count j (option_stmt_code program table a l out on rest) ≤ among (option_stmt_labels a) l j + count j rest
    option_counts j no_stmt l out on rest = omega arith
    option_counts j (a_stmt a) l out on rest = stmt_counts j a l out on rest

    stmts_counts : (j : ℕ) (ss : PlainStmts) (l out on : ℕ) (rest : List PlainIr)
        → count j (stmts_code program table ss l out on rest) ≤ among (stmts_labels ss) l j + count j rest
    stmts_counts j last_stmt l out on rest = omega arith
    stmts_counts j (next_stmt a ss) l out on rest =
        let x = stmt_counts j a l out on (stmts_code program table ss (l + stmt_labels a) out on rest) in let y = stmts_counts j ss
        (l + stmt_labels a) out on rest in let z = among_two (stmt_labels a) (stmts_labels ss) l j in omega (arith, x, y, z)

  end_counts : (j : ℕ) (returns : Bool) → count j (end_of returns) ≡ 0
  end_counts j true = refl
  end_counts j false = refl

  -- the label 0 stands behind the body, whose labels are from 1 on
  pub function_counts : (f : PlainFunction) (j : ℕ) → count j (function_code program table f) ≤ 1
  function_counts f j =
      let x = stmt_counts j f.body 1 0 0 (label 0 ∷ end_code f.body) in
      let u = end_counts j (body_returns f.body) in
      let y = among_two 1 (stmt_labels f.body) 0 j in let z = among_one (1 + stmt_labels f.body) 0 j in
      omega (arith, x, u, y, z)

  pub function_resolves : (f : PlainFunction) → Resolves (function_code program table f)
  function_resolves f = counts_resolve (function_code program table f) (function_counts f)
