-- The operations of a program have what code asks of their temporaries.
use Rattle.std.proofs.Common.{◌≢◌, ℕ, ◌+◌, ◌≤◌, Bool, true, false, List, [], ◌∷◌, length, map, Option, Some, None, refl, inl}
use Rattle.std.proofs.Common.{inr}
use Rattle.std.proofs.Common.{arith}
use Rattle.std.specs.Prelude.{◌||◌, if◌then◌else◌, slice_get}
use Rattle.std.specs.List.{AllByRecursion}
use Rattle.ec_fx.specs.declared.formats.FxKind.{FxKind}
use Rattle.ec_fx.specs.declared.formats.FxKind.TheVariants.{ShortFract, Fract, LongFract, UnsignedShortFract}
use Rattle.ec_fx.specs.declared.formats.FxKind.TheVariants.{UnsignedFract}
use Rattle.ec_fx.specs.declared.formats.FxKind.TheVariants.{UnsignedLongFract, ShortAccum, Accum, LongAccum}
use Rattle.ec_fx.specs.declared.formats.FxKind.TheVariants.{UnsignedShortAccum}
use Rattle.ec_fx.specs.declared.formats.FxKind.TheVariants.{UnsignedAccum, UnsignedLongAccum}
use Rattle.ec_fx.specs.declared.numbers.Mode.{Mode}
use Rattle.ec_iohw.specs.declared.operations.IoOp.{IoOp}
use Rattle.ec_iohw.specs.declared.table.Choice.{Choice}
use Rattle.ec_iohw.specs.declared.table.IoTable.{IoTable}
use Rattle.ec_iohw.specs.declared.table.Pair.{Pair}
use Rattle.ec_space.specs.Spaces.{width}
use Rattle.ec_space.specs.declared.space.SpaceId.{SpaceId}
use Rattle.ec_space.specs.declared.space.SpaceId.TheVariants.{Flash, FarFlash, Data, Generic}
use Rattle.ec_core.specs.ArithmeticTypes.{type_of}
use Rattle.ec_core.specs.declared.expressions.BinOp.{BinOp}
use Rattle.ec_core.specs.declared.expressions.BinOp.TheVariants.{Xor}
use Rattle.ec_core.specs.Layout.{IsIntegerSize, PlainLeaf, scalar_size}
use Rattle.ec_core.specs.Operators.{OperationTypes, number_type, step_operator}
use Rattle.ec_core.specs.Plain.{PlainType, void, integer, fixed, pointer, array, struct, PlainExpr, expression}
use Rattle.ec_core.specs.Plain.{PlainNode, number, null}
use Rattle.ec_core.specs.Plain.{load, address_of, unary, binary, convert, assign, compound, step, logical_not}
use Rattle.ec_core.specs.Plain.{logical_and, logical_or}
use Rattle.ec_core.specs.Plain.{conditional, comma, call, io, group, bind, dynamic_group, PlainPlace, object, deref, member}
use Rattle.ec_core.specs.Plain.{OptionPlainExpr, no_expr, an_expr}
use Rattle.ec_core.specs.Plain.{PlainExprs, last_expr, next_expr, PlainStmt, statement, PlainKind, empty, evaluate}
use Rattle.ec_core.specs.Plain.{block, declare, branch}
use Rattle.ec_core.specs.Plain.{while_loop, do_loop, for_loop, break_loop, continue_loop, return_value, OptionPlainStmt}
use Rattle.ec_core.specs.Plain.{no_stmt, a_stmt}
use Rattle.ec_core.specs.Plain.{PlainStmts, last_stmt, next_stmt, PlainFunction, PlainProgram}
use Rattle.ec_core.specs.PortAccesses.{pairs_of}
use Rattle.ec_core.specs.PortOperations.{PortAction, reads, writes, updates, PortOperation, port_operation}
use Rattle.ec_core.specs.PortTable.{PlainPort, PlainGroup, PlainTable, plain_table, choices_of}
use Rattle.ec_core.specs.Typing.{int, unsigned_int, unsigned_long, port_value, type_of_expr}
use Rattle.ec_core.specs.Valid.{EachFrom, IsExprType, ValidExpr, ValidParts, ValidPlace, ValidOption, ValidExprs}
use Rattle.ec_core.specs.Valid.{ValidCondition}
use Rattle.ec_core.specs.Valid.{ValidOptional, ValidStmt, ValidKind, ValidOptionStmt, ValidStmts, IsFunction, Valid}
use Rattle.ec_ir.specs.Costs.{temp_bytes}
use Rattle.ec_ir.specs.Operations.{PlainIr, store_object, binary_op, unary_op, conversion, label, jump}
use Rattle.ec_ir.specs.Operations.{call_function, return_from}
use Rattle.ec_ir.specs.declared.operations.Temp.{Temp}
use Rattle.ec_lower_code.specs.Code.{temp, result_temp, truth_code, place_labels, Site, named, pointed, further_code}
use Rattle.ec_lower_code.specs.Code.{load_from, store_to}
use Rattle.ec_lower_code.specs.Code.{value_place, settled_code, address_code, update_types, update_code, keeping_code}
use Rattle.ec_lower_code.specs.Code.{moving_code}
use Rattle.ec_lower_code.specs.Code.{change_code, postfix_code, step_code, offset_of, site, params_of, params_code}
use Rattle.ec_lower_code.specs.Code.{port_operator, read_from, write_to, port_code, byte_type, bind_code, base_test, choices_code}
use Rattle.ec_lower_code.specs.Code.{place_behind, operand_temp, access_code, pairs_code, group_code, option_labels}
use Rattle.ec_lower_code.specs.Code.{option_code, expr_labels}
use Rattle.ec_lower_code.specs.Code.{optional_labels, option_stmt_labels, stmt_labels, expr_code, node_code, place_code}
use Rattle.ec_lower_code.specs.Code.{args_code, init_code}
use Rattle.ec_lower_code.specs.Code.{test_code, entry_code, last_code, leaves_of_object, stmt_code, kind_code, option_stmt_code}
use Rattle.ec_lower_code.specs.Code.{stmts_code}
use Rattle.ec_lower_code.specs.Code.{stepping_code, unread_code, Branch, where_zero, where_not, branch_to, opposite, zero_label}
use Rattle.ec_lower_code.specs.Code.{other_label, and_end, or_end, branch_code, body_returns, end_of, end_code, lowered_function, lowered}
use Rattle.ec_lower_code.specs.Correct.{LoweredIsMadeOf, OperationsStayOnPorts}
use Rattle.ec_select_operations.specs.Needs.{is_fixed}
use Rattle.ec_select_operations.specs.Pointers.{is_pointer}
use Rattle.ec_select.specs.Laws.{OperationsHaveCode}
use Rattle.ec_select.specs.Suited.{IsAdditive, ArePlacesSuited, IsSuited, AreSuited}
use Rattle.ec_build_laws.specs.Laws.{LoweredProgramsHaveCode}

abbrev AllSuited : List PlainIr → Type 0
AllSuited code = AllByRecursion IsSuited code

-- ---- the bytes of a type

integer_few : (n : ℕ) → IsIntegerSize n → n ≤ 8
integer_few n (inl e) = omega (arith, e)
integer_few n (inr (inl e)) = omega (arith, e)
integer_few n (inr (inr e)) = omega (arith, e)

fixed_few : (q : FxKind) (s : Bool) → scalar_size (fixed q s) ≤ 8
fixed_few ShortFract s = omega arith
fixed_few Fract s = omega arith
fixed_few LongFract s = omega arith
fixed_few UnsignedShortFract s = omega arith
fixed_few UnsignedFract s = omega arith
fixed_few UnsignedLongFract s = omega arith
fixed_few ShortAccum s = omega arith
fixed_few Accum s = omega arith
fixed_few LongAccum s = omega arith
fixed_few UnsignedShortAccum s = omega arith
fixed_few UnsignedAccum s = omega arith
fixed_few UnsignedLongAccum s = omega arith

pointer_few : (s : SpaceId) → width s ≤ 8
pointer_few Flash = omega arith
pointer_few Data = omega arith
pointer_few FarFlash = omega arith
pointer_few Generic = omega arith

few : (program : PlainProgram) (ty : PlainType) → IsExprType program ty → scalar_size ty ≤ 8
few program void k = omega arith
few program (integer s b) k = integer_few b k
few program (fixed q s) k = fixed_few q s
few program (pointer s c t) k = pointer_few s
few program (array t n) k = absurd k
few program (struct i) k = absurd k

result_few : (program : PlainProgram) (t : ℕ) (ty : PlainType) → IsExprType program ty → temp_bytes (result_temp t ty) ≤ 8
result_few program t void k = omega arith
result_few program t (integer s b) k = integer_few b k
result_few program t (fixed q s) k = fixed_few q s
result_few program t (pointer s c u) k = pointer_few s
result_few program t (array u n) k = absurd k
result_few program t (struct i) k = absurd k

expr_few : (program : PlainProgram) (table : IoTable) (f : ℕ) (e : PlainExpr) → ValidExpr program table f e
    → scalar_size (type_of_expr e) ≤ 8
expr_few program table f (expression ty mode node) v = few program ty v.0

value_few : (op : PortOperation) → scalar_size (port_value op) ≤ 8
value_few op = by_form op.long where
  by_form : (long : Bool) → scalar_size (if long then unsigned_long else unsigned_int) ≤ 8
  by_form true = omega arith
  by_form false = omega arith

-- ---- the places of operands

step_is : (up : Bool) → IsAdditive (step_operator up)
step_is true = tt
step_is false = tt

next_place : (t : ℕ) → t + 1 ≢ t
next_place t e = absurd (omega (arith, e))

other_place : (t : ℕ) → t ≢ t + 1
other_place t e = absurd (omega (arith, e))

-- the operands of a binary operator stand at t and t + 1, and its result comes to t
places_suit : (op : BinOp) (t : ℕ) (k p : Bool) → ArePlacesSuited op t t (t + 1) k p
places_suit op t true p = other_place t
places_suit op t false true = tt
places_suit op t false false = inl (refl, next_place t)

-- or to t + 1, where it is a sum or a difference
kept_places : (up : Bool) (t : ℕ) (k p : Bool) → ArePlacesSuited (step_operator up) (t + 1) t (t + 1) k p
kept_places up t true p = other_place t
kept_places up t false true = tt
kept_places up t false false = inr (step_is up)

-- an update of a port has its value at v and what it reads at v + 1
port_places : (op : BinOp) (v : ℕ) (k p : Bool) → ArePlacesSuited op (v + 1) (v + 1) v k p
port_places op v true p = next_place v
port_places op v false true = tt
port_places op v false false = inl (refl, other_place v)

-- that many elements from the pointer at t, which comes to any place
moved_places : (op : BinOp) (space : SpaceId) (const : Bool) (to right : PlainType) (t q : ℕ)
    → ArePlacesSuited op q t (t + 1) (is_fixed (pointer space const to) || is_fixed right)
    (is_pointer (pointer space const to) || is_pointer right)
moved_places op space const to right t q = by_kind (is_fixed right) where
  by_kind : (k : Bool) → ArePlacesSuited op q t (t + 1) k true
  by_kind true = other_place t
  by_kind false = tt

-- ---- places

load_suit : (to : Temp) (s : Site) → to.bytes ≤ 8 → IsSuited (load_from to s)
load_suit to (named o offset) b = b
load_suit to (pointed ptr space) b = b

store_suit : (s : Site) (from : Temp) → from.bytes ≤ 8 → IsSuited (store_to s from)
store_suit (named o offset) from b = b
store_suit (pointed ptr space) from b = b

further_suit : (k : ℕ) (s : Site) (rest : List PlainIr) → AllSuited rest → AllSuited (further_code k s rest)
further_suit k (named o offset) rest r = r
further_suit k (pointed ptr space) rest r = (tt, r)

settled_suit : (s : Site) (ty : PlainType) (t : ℕ) (rest : List PlainIr) → scalar_size ty ≤ 8 → AllSuited rest
    → AllSuited (settled_code s ty t rest)
settled_suit (named o offset) ty t rest b r = r
settled_suit (pointed ptr space) ty t rest b r = (b, r)

address_suit : (s : Site) (ty : PlainType) (t : ℕ) (rest : List PlainIr) → AllSuited rest → AllSuited (address_code s ty t rest)
address_suit (named o offset) ty t rest r = (tt, r)
address_suit (pointed ptr space) ty t rest r = r

-- ---- updates

update_suit : (op : BinOp) (ts : OperationTypes) (own mode : Mode) (ty : PlainType) (s : Site) (t : ℕ) (right : PlainType)
    (rest : List PlainIr)
    → scalar_size ty ≤ 8 → AllSuited rest → AllSuited (update_code op ts own mode ty s t right rest)
update_suit op ts own mode ty s t right rest b r =
    let left = type_of ts.left in
    let count = type_of ts.right in (
      tt,
      (
        tt,
        (
          places_suit op t (is_fixed left || is_fixed count) (is_pointer left || is_pointer count),
          (tt, (store_suit s (temp t ty) b, r)),
        ),
      ),
    )

-- where the old value is kept
keeping_suit : (up : Bool) (ts : OperationTypes) (mode : Mode) (ty : PlainType) (s : Site) (t : ℕ) (right : PlainType)
    (rest : List PlainIr)
    → scalar_size ty ≤ 8 → AllSuited rest → AllSuited (keeping_code (step_operator up) ts mode ty s t right rest)
keeping_suit up ts mode ty s t right rest b r =
    let left = type_of ts.left in
    let count = type_of ts.right in (
      tt,
      (
        tt,
        (
          kept_places up t (is_fixed left || is_fixed count) (is_pointer left || is_pointer count),
          (tt, (store_suit s (temp (t + 1) ty) b, (tt, r))),
        ),
      ),
    )

moving_suit : (op : BinOp) (mode : Mode) (g : SpaceId) (c : Bool) (u : PlainType) (s : Site) (t q : ℕ) (right : PlainType)
    (rest : List PlainIr)
    → AllSuited rest → AllSuited (moving_code op mode (pointer g c u) s t q right rest)
moving_suit op mode g c u s t q right rest r =
    (moved_places op g c u right t q, (store_suit s (temp q (pointer g c u)) (pointer_few g), r))

change_suit : (op : BinOp) (own mode : Mode) (ty : PlainType) (s : Site) (t : ℕ) (right : PlainType) (rest : List PlainIr)
    → scalar_size ty ≤ 8 → AllSuited rest → AllSuited (change_code op own mode ty s t right rest)
change_suit op own mode (pointer g c u) s t right rest b r = moving_suit op own g c u s t t right rest r
change_suit op own mode void s t right rest b r =
    update_suit op (update_types op (number_type void) (number_type right)) own mode void s t right rest b r
change_suit op own mode (integer g n) s t right rest b r =
    update_suit op (update_types op (number_type (integer g n)) (number_type right)) own mode (integer g n) s t right rest b r
change_suit op own mode (fixed k g) s t right rest b r =
    update_suit op (update_types op (number_type (fixed k g)) (number_type right)) own mode (fixed k g) s t right rest b r
change_suit op own mode (array u n) s t right rest b r =
    update_suit op (update_types op (number_type (array u n)) (number_type right)) own mode (array u n) s t right rest b r
change_suit op own mode (struct n) s t right rest b r =
    update_suit op (update_types op (number_type (struct n)) (number_type right)) own mode (struct n) s t right rest b r

postfix_suit : (up : Bool) (mode : Mode) (ty : PlainType) (s : Site) (t : ℕ) (rest : List PlainIr)
    → scalar_size ty ≤ 8 → AllSuited rest → AllSuited (postfix_code (step_operator up) mode ty s t rest)
postfix_suit up mode (pointer g c u) s t rest b r = moving_suit (step_operator up) mode g c u s t (t + 1) int rest r
postfix_suit up mode void s t rest b r =
    keeping_suit up (update_types (step_operator up) (number_type void) (number_type int)) mode void s t int rest b r
postfix_suit up mode (integer g n) s t rest b r =
    keeping_suit up (update_types (step_operator up) (number_type (integer g n)) (number_type int)) mode (integer g n) s t int rest b r
postfix_suit up mode (fixed k g) s t rest b r =
    keeping_suit up (update_types (step_operator up) (number_type (fixed k g)) (number_type int)) mode (fixed k g) s t int rest b r
postfix_suit up mode (array u n) s t rest b r =
    keeping_suit up (update_types (step_operator up) (number_type (array u n)) (number_type int)) mode (array u n) s t int rest b r
postfix_suit up mode (struct n) s t rest b r =
    keeping_suit up (update_types (step_operator up) (number_type (struct n)) (number_type int)) mode (struct n) s t int rest b r

step_suit : (prefix up : Bool) (mode : Mode) (ty : PlainType) (s : Site) (t : ℕ) (rest : List PlainIr)
    → scalar_size ty ≤ 8 → AllSuited rest → AllSuited (step_code prefix (step_operator up) mode ty s t rest)
step_suit true up mode ty s t rest b r = change_suit (step_operator up) mode mode ty s t int rest b r
step_suit false up mode ty s t rest b r = postfix_suit up mode ty s t rest b r

-- ---- ports

read_suit : (dynamic : Option ℕ) (to : Temp) (at : ℕ) (index : Option Temp) (width : ℕ) → to.bytes ≤ 8
    → IsSuited (read_from dynamic to at index width)
read_suit None to at index width b = b
read_suit (Some d) to at index width b = b

write_suit : (dynamic : Option ℕ) (from : Temp) (at : ℕ) (index : Option Temp) (width : ℕ) → from.bytes ≤ 8
    → IsSuited (write_to dynamic from at index width)
write_suit None from at index width b = b
write_suit (Some d) from at index width b = b

port_suit : (action : PortAction) (op : BinOp) (ty : PlainType) (mode : Mode) (port : PlainPort) (index : Option Temp) (t v : ℕ)
    (rest : List PlainIr)
    → scalar_size ty ≤ 8 → AllSuited rest → AllSuited (port_code action op ty mode port index t v rest)
port_suit reads op ty mode port index t v rest b r = (read_suit port.dynamic (temp t ty) port.address index port.width b, r)
port_suit writes op ty mode port index t v rest b r = (write_suit port.dynamic (temp v ty) port.address index port.width b, r)
port_suit updates op ty mode port index t v rest b r = (
  read_suit port.dynamic (temp (v + 1) ty) port.address index port.width b,
  (
    port_places op v (is_fixed ty || is_fixed ty) (is_pointer ty || is_pointer ty),
    (write_suit port.dynamic (temp (v + 1) ty) port.address index port.width b, r),
  ),
)

access_suit : (op : IoOp) (mode : Mode) (port : Option PlainPort) (index : OptionPlainExpr) (t : ℕ) (rest : List PlainIr)
    → AllSuited rest → AllSuited (access_code op mode port index t rest)
access_suit op mode None index t rest r = r
access_suit op mode (Some port) index t rest r =
    let form = port_operation op in
    port_suit form.action (port_operator op) (port_value form) mode port (operand_temp index t) t (place_behind index t) rest
    (value_few form) r

pairs_suit : (pairs : List Pair) (t : ℕ) (rest : List PlainIr) → AllSuited rest → AllSuited (pairs_code pairs t rest)
pairs_suit [] t rest r = r
pairs_suit (pair ∷ pairs) t rest r = (omega arith, (omega arith, pairs_suit pairs t rest r))

group_suit : (acquire : Bool) (x : Option PlainGroup) (t : ℕ) (rest : List PlainIr) → AllSuited rest
    → AllSuited (group_code acquire x t rest)
group_suit acquire None t rest r = r
group_suit acquire (Some x) t rest r = pairs_suit (pairs_of acquire x) t rest r

-- ---- dynamic groups

bind_suit : (d : ℕ) (c : Option Choice) (t : ℕ) (rest : List PlainIr) → AllSuited rest → AllSuited (bind_code d c t rest)
bind_suit d None t rest r = r
bind_suit d (Some c) t rest r = (omega arith, (tt, r))

base_suit : (mode : Mode) (d base l t : ℕ) (rest : List PlainIr) → AllSuited rest → AllSuited (base_test mode d base l t rest)
base_suit mode d base l t rest r =
    let places = places_suit Xor t (is_fixed byte_type || is_fixed byte_type) (is_pointer byte_type || is_pointer byte_type) in
    (tt, (omega arith, (places, (omega arith, r))))

choices_suit : (acquire : Bool) (table : PlainTable) (mode : Mode) (d : ℕ) (cs : List Choice) (l t : ℕ) (rest : List PlainIr)
    → AllSuited rest → AllSuited (choices_code acquire table mode d cs l t rest)
choices_suit acquire table mode d [] l t rest r = r
choices_suit acquire table mode d (c ∷ []) l t rest r = group_suit acquire (slice_get table.groups c.group) t rest r
choices_suit acquire table mode d (c ∷ other ∷ cs) l t rest r =
    let end : List PlainIr = label (l + 1) ∷ rest in
    let q : List PlainIr = jump (l + 1) ∷ label l ∷ group_code acquire (slice_get table.groups c.group) t end in
    base_suit mode d c.base l t (choices_code acquire table mode d (other ∷ cs) (l + 2) t q)
    (choices_suit acquire table mode d (other ∷ cs) (l + 2) t q
    (tt, (tt, group_suit acquire (slice_get table.groups c.group) t end (tt, r))))

-- ---- parts of conditions, and steps

branch_to_suit : (to : Branch) (t : Temp) (rest : List PlainIr) → t.bytes ≤ 8 → AllSuited rest → AllSuited (branch_to to t rest)
branch_to_suit (where_zero to) t rest b r = (b, r)
branch_to_suit (where_not to past) t rest b r = (b, (tt, (tt, r)))

and_end_suit : (to : Branch) (l : ℕ) (rest : List PlainIr) → AllSuited rest → AllSuited (and_end to l rest)
and_end_suit (where_zero to) l rest r = r
and_end_suit (where_not to past) l rest r = (tt, r)

or_end_suit : (to : Branch) (l : ℕ) (rest : List PlainIr) → AllSuited rest → AllSuited (or_end to l rest)
or_end_suit (where_zero to) l rest r = (tt, r)
or_end_suit (where_not to past) l rest r = r

stepping_suit : (up prefix : Bool) (mode : Mode) (ty : PlainType) (s : Site) (t : ℕ) (rest : List PlainIr) → scalar_size ty ≤ 8
    → AllSuited rest → AllSuited (stepping_code up prefix mode ty s t rest)
stepping_suit up prefix mode ty s t rest h r =
    let u = value_place s t in
    let e = settled_code s ty t rest in
    (load_suit (temp u ty) s h, (omega arith, step_suit prefix up mode ty s u e h (settled_suit s ty t rest h r)))

truth_suit : (h : Bool) (ty : PlainType) (l t : ℕ) (rest : List PlainIr) → scalar_size ty ≤ 8 → AllSuited rest
    → AllSuited (truth_code h ty l t rest)
truth_suit h ty l t rest b r = (b, (tt, (tt, (b, (tt, r)))))

module _ (program : PlainProgram) (table : IoTable) (f : ℕ) where
  few_of : (e : PlainExpr) → ValidExpr program table f e → scalar_size (type_of_expr e) ≤ 8
  few_of e v = expr_few program table f e v

  -- ---- expressions

  params_suit : (os : List ℕ) (es : PlainExprs) (t : ℕ) (rest : List PlainIr) → ValidExprs program table f es → AllSuited rest
      → AllSuited (params_code os es t rest)
  params_suit [] es t rest v r = r
  params_suit (o ∷ os) last_expr t rest v r = r
  params_suit (o ∷ os) (next_expr e es) t rest v r = (few_of e v.0, params_suit os es (t + 1) rest v.1 r)

  mutual
    expr_suit : (e : PlainExpr) (l t : ℕ) (rest : List PlainIr) → ValidExpr program table f e → AllSuited rest
        → AllSuited (expr_code program (plain_table table) e l t rest)
    expr_suit (expression ty mode node) l t rest v r = node_suit ty mode node l t rest (few program ty v.0) v.0 v.2 r

    node_suit : (ty : PlainType) (mode : Mode) (node : PlainNode) (l t : ℕ) (rest : List PlainIr)
        → scalar_size ty ≤ 8 → IsExprType program ty
        → ValidParts program table f node → AllSuited rest → AllSuited (node_code program (plain_table table) ty mode node l t rest)
    node_suit ty mode (number n) l t rest h k v r = (h, r)
    node_suit ty mode null l t rest h k v r = (h, r)
    node_suit ty mode (load q) l t rest h k v r =
        let s = site program q t in place_suit q l t (load_from (temp t ty) s ∷ rest) v (load_suit (temp t ty) s h, r)
    node_suit ty mode (address_of q) l t rest h k v r =
        let s = site program q t in place_suit q l t (address_code s ty t rest) v.0 (address_suit s ty t rest r)
    node_suit ty mode (unary op a) l t rest h k v r = expr_suit a l t (unary_op op ty mode (temp t ty) (temp t ty) ∷ rest) v (tt, r)
    node_suit ty mode (binary op a b) l t rest h k v r =
        let q : List PlainIr = binary_op op ty mode (temp t ty) (temp t (type_of_expr a)) (type_of_expr a)
        (temp (t + 1) (type_of_expr b)) (type_of_expr b) ∷ rest in
        expr_suit a l t (expr_code program (plain_table table) b (l + expr_labels a) (t + 1) q) v.0
        (expr_suit b (l + expr_labels a) (t + 1) q v.1 (
          places_suit op t (is_fixed (type_of_expr a) || is_fixed (type_of_expr b))
              (is_pointer (type_of_expr a) || is_pointer (type_of_expr b)),
          r,
        ))
    node_suit ty mode (convert a) l t rest h k v r =
        expr_suit a l t (conversion (temp t ty) ty mode (temp t (type_of_expr a)) (type_of_expr a) ∷ rest) v (tt, r)
    node_suit ty mode (assign q a) l t rest h k v r =
        let s = site program q t in
        let u = value_place s t in
        let c : List PlainIr = store_to s (temp u ty) ∷ settled_code s ty t rest in
        place_suit q l t (expr_code program (plain_table table) a (l + place_labels q) u c) v.0
        (expr_suit a (l + place_labels q) u c v.1 (store_suit s (temp u ty) h, settled_suit s ty t rest h r))
    node_suit ty mode (compound op own q a) l t rest h k v r =
        let s = site program q t in
        let u = value_place s t in
        let e = settled_code s ty t rest in
        let c = change_code op own mode ty s u (type_of_expr a) e in
        place_suit q l t (load_from (temp u ty) s ∷ expr_code program (plain_table table) a (l + place_labels q) (u + 1) c) v.0 (
          load_suit (temp u ty) s h,
          expr_suit a (l + place_labels q) (u + 1) c v.1
              (change_suit op own mode ty s u (type_of_expr a) e h (settled_suit s ty t rest h r)),
        )
    node_suit ty mode (step up prefix q) l t rest h k v r =
        let s = site program q t in
        place_suit q l t (stepping_code up prefix mode ty s t rest) v (stepping_suit up prefix mode ty s t rest h r)
    node_suit ty mode (logical_not a) l t rest h k v r =
        branch_suit a (l + 2) t (where_zero l) (truth_code false ty l t rest) v (truth_suit false ty l t rest h r)
    node_suit ty mode (logical_and a b) l t rest h k v r =
        let q = truth_code true ty l t rest in
        branch_suit a (l + 2) t (where_zero l) (branch_code program (plain_table table) b (l + 2 + expr_labels a) t (where_zero l) q) v.0
        (branch_suit b (l + 2 + expr_labels a) t (where_zero l) q v.1 (truth_suit true ty l t rest h r))
    node_suit ty mode (logical_or a b) l t rest h k v r =
        let q : List PlainIr = label (l + 3) ∷ truth_code true ty l t rest in
        branch_suit a (l + 4) t (where_not (l + 3) (l + 2))
        (branch_code program (plain_table table) b (l + 4 + expr_labels a) t (where_zero l) q) v.0
        (branch_suit b (l + 4 + expr_labels a) t (where_zero l) q v.1 (tt, truth_suit true ty l t rest h r))
    node_suit ty mode (conditional c a b) l t rest h k v r =
        let u : List PlainIr = label (l + 1) ∷ rest in
        let q : List PlainIr = jump (l + 1) ∷ label l ∷ expr_code program (plain_table table) b (l + 2 + expr_labels c + expr_labels a) t
        u in
        branch_suit c (l + 2) t (where_zero l) (expr_code program (plain_table table) a (l + 2 + expr_labels c) t q) v.0
        (expr_suit a (l + 2 + expr_labels c) t q v.1
        (tt, (tt, expr_suit b (l + 2 + expr_labels c + expr_labels a) t u v.2 (tt, r))))
    node_suit ty mode (comma a b) l t rest h k v r =
        unread_suit a l t (expr_code program (plain_table table) b (l + expr_labels a) t rest) v.0
        (expr_suit b (l + expr_labels a) t rest v.1 r)
    node_suit ty mode (call g args) l t rest h k v r =
        let q : List PlainIr = call_function g (result_temp t ty) ∷ rest in
        args_suit args l t (params_code (params_of program g) args t q) v
        (params_suit (params_of program g) args t q v (result_few program t ty k, r))
    node_suit ty mode (io op port i w) l t rest h k v r =
        let q = access_code op mode (slice_get (plain_table table).ports port) i t rest in
        operand_suit i l t (option_code program (plain_table table) w (l + option_labels i) (place_behind i t) q) v.0
        (operand_suit w (l + option_labels i) (place_behind i t) q v.1
        (access_suit op mode (slice_get (plain_table table).ports port) i t rest r))
    node_suit ty mode (group acquire g) l t rest h k v r =
        group_suit acquire (slice_get (plain_table table).groups g) t rest r
    node_suit ty mode (bind d choice) l t rest h k v r =
        bind_suit d (slice_get (choices_of (plain_table table) d) choice) t rest r
    node_suit ty mode (dynamic_group acquire d) l t rest h k v r =
        choices_suit acquire (plain_table table) mode d (choices_of (plain_table table) d) l t rest r

    unread_suit : (e : PlainExpr) (l t : ℕ) (rest : List PlainIr) → ValidExpr program table f e → AllSuited rest
        → AllSuited (unread_code program (plain_table table) e l t rest)
    unread_suit (expression ty mode (step up prefix q)) l t rest v r =
        let s = site program q t in
        place_suit q l t (stepping_code up true mode ty s t rest) v.2 (stepping_suit up true mode ty s t rest (few program ty v.0) r)
    unread_suit (expression ty mode (comma a b)) l t rest v r =
        unread_suit a l t (unread_code program (plain_table table) b (l + expr_labels a) t rest) v.2.0
        (unread_suit b (l + expr_labels a) t rest v.2.1 r)
    unread_suit (expression ty mode node) l t rest v r = node_suit ty mode node l t rest (few program ty v.0) v.0 v.2 r

    branch_suit : (e : PlainExpr) (l t : ℕ) (to : Branch) (rest : List PlainIr) → ValidExpr program table f e → AllSuited rest
        → AllSuited (branch_code program (plain_table table) e l t to rest)
    branch_suit (expression ty mode (logical_not a)) l t to rest v r = branch_suit a (l + 2) t (opposite to l) rest v.2 r
    branch_suit (expression ty mode (logical_and a b)) l t to rest v r =
        let q = and_end to l rest in
        branch_suit a (l + 2) t (where_zero (zero_label to l))
        (branch_code program (plain_table table) b (l + 2 + expr_labels a) t to q) v.2.0
        (branch_suit b (l + 2 + expr_labels a) t to q v.2.1 (and_end_suit to l rest r))
    branch_suit (expression ty mode (logical_or a b)) l t to rest v r =
        let q = or_end to l rest in
        branch_suit a (l + 4) t (where_not (other_label to l) (l + 1))
        (branch_code program (plain_table table) b (l + 4 + expr_labels a) t to q) v.2.0
        (branch_suit b (l + 4 + expr_labels a) t to q v.2.1 (or_end_suit to l rest r))
    branch_suit (expression ty mode node) l t to rest v r =
        node_suit ty mode node l t (branch_to to (temp t ty) rest) (few program ty v.0) v.0 v.2
        (branch_to_suit to (temp t ty) rest (few program ty v.0) r)

    place_suit : (q : PlainPlace) (l t : ℕ) (rest : List PlainIr) → ValidPlace program table f q → AllSuited rest
        → AllSuited (place_code program (plain_table table) q l t rest)
    place_suit (object o) l t rest v r = r
    place_suit (deref e) l t rest v r = expr_suit e l t rest v r
    place_suit (member q i) l t rest v r =
        let k = offset_of program q i in
        let s = site program q t in
        place_suit q l t (further_code k s rest) v (further_suit k s rest r)

    operand_suit : (e : OptionPlainExpr) (l t : ℕ) (rest : List PlainIr) → ValidOption program table f e → AllSuited rest
        → AllSuited (option_code program (plain_table table) e l t rest)
    operand_suit no_expr l t rest v r = r
    operand_suit (an_expr e) l t rest v r = expr_suit e l t rest v r

    args_suit : (es : PlainExprs) (l t : ℕ) (rest : List PlainIr) → ValidExprs program table f es → AllSuited rest
        → AllSuited (args_code program (plain_table table) es l t rest)
    args_suit last_expr l t rest v r = r
    args_suit (next_expr e es) l t rest v r =
        expr_suit e l t (args_code program (plain_table table) es (l + expr_labels e) (t + 1) rest) v.0
        (args_suit es (l + expr_labels e) (t + 1) rest v.1 r)

  -- ---- statements

  init_suit : (ls : List PlainLeaf) (o : ℕ) (es : PlainExprs) (l : ℕ) (rest : List PlainIr) → ValidExprs program table f es → AllSuited rest
      → AllSuited (init_code program (plain_table table) ls o es l rest)
  init_suit [] o es l rest v r = r
  init_suit (leaf ∷ ls) o last_expr l rest v r = r
  init_suit (leaf ∷ ls) o (next_expr e es) l rest v r =
      expr_suit e l 0 (store_object o leaf.at (temp 0 (type_of_expr e))
      ∷ init_code program (plain_table table) ls o es (l + expr_labels e) rest) v.0
      (few_of e v.0, init_suit ls o es (l + expr_labels e) rest v.1 r)

  test_suit : (c : Option PlainExpr) (l : ℕ) (rest : List PlainIr) → ValidCondition program table f c → AllSuited rest
      → AllSuited (test_code program (plain_table table) c l rest)
  test_suit None l rest v r = (tt, (tt, r))
  test_suit (Some c) l rest v r = branch_suit c (l + 5) 0 (where_not (l + 3) (l + 4)) (label (l + 1) ∷ rest) v.0 (tt, r)

  entry_suit : (c : Option PlainExpr) (l : ℕ) (rest : List PlainIr) → AllSuited rest → AllSuited (entry_code c l rest)
  entry_suit None l rest r = r
  entry_suit (Some c) l rest r = (tt, r)

  last_suit : (e : Option PlainExpr) (l : ℕ) (rest : List PlainIr) → ValidOptional program table f e → AllSuited rest
      → AllSuited (last_code program (plain_table table) e l rest)
  last_suit None l rest v r = r
  last_suit (Some e) l rest v r = unread_suit e l 0 rest v r

  module _ (returns : PlainType) where
    mutual
      stmt_suit : (a : PlainStmt) (k : Bool) (l out on : ℕ) (rest : List PlainIr) → ValidStmt program table f returns k a → AllSuited rest
          → AllSuited (stmt_code program (plain_table table) a l out on rest)
      stmt_suit (statement unit at kind) k l out on rest v r = kind_suit kind k l out on rest v r

      kind_suit : (kind : PlainKind) (k : Bool) (l out on : ℕ) (rest : List PlainIr)
          → ValidKind program table f returns k kind → AllSuited rest
          → AllSuited (kind_code program (plain_table table) kind l out on rest)
      kind_suit empty k l out on rest v r = r
      kind_suit (evaluate e) k l out on rest v r = unread_suit e l 0 rest v r
      kind_suit (block ss) k l out on rest v r = stmts_suit ss k l out on rest v r
      kind_suit (declare o es) k l out on rest v r = init_suit (leaves_of_object program o) o es l rest v.1 r
      kind_suit (branch c a no_stmt) k l out on rest v r =
          branch_suit c (l + 2) 0 (where_zero l)
          (stmt_code program (plain_table table) a (l + 2 + expr_labels c) out on (label l ∷ rest)) v.0.0
          (stmt_suit a k (l + 2 + expr_labels c) out on (label l ∷ rest) v.1 (tt, r))
      kind_suit (branch c a (a_stmt b)) k l out on rest v r =
          let q : List PlainIr = jump (l + 1) ∷ label l
          ∷ stmt_code program (plain_table table) b (l + 2 + expr_labels c + stmt_labels a) out on (label (l + 1) ∷ rest) in
          branch_suit c (l + 2) 0 (where_zero l) (stmt_code program (plain_table table) a (l + 2 + expr_labels c) out on q) v.0.0
          (stmt_suit a k (l + 2 + expr_labels c) out on q v.1
          (tt, (tt, stmt_suit b k (l + 2 + expr_labels c + stmt_labels a) out on (label (l + 1) ∷ rest) v.2 (tt, r))))
      kind_suit (while_loop c a) k l out on rest v r =
          let q : List PlainIr = label (l + 2) ∷ label l ∷ test_code program (plain_table table) (Some c) l rest in
          (tt, (tt, stmt_suit a true (l + 5 + expr_labels c) (l + 1) (l + 2) q v.1 (tt, (tt, test_suit (Some c) l rest v.0 r))))
      kind_suit (do_loop a c) k l out on rest v r =
          let q : List PlainIr = label (l + 2) ∷ label l ∷ test_code program (plain_table table) (Some c) l rest in
          (tt, stmt_suit a true (l + 5 + expr_labels c) (l + 1) (l + 2) q v.0 (tt, (tt, test_suit (Some c) l rest v.1 r)))
      kind_suit (for_loop first c last a) k l0 out on rest v r =
          let l = l0 + option_stmt_labels first in
          let e : List PlainIr = label l ∷ test_code program (plain_table table) c l rest in
          let q : List PlainIr = label (l + 2) ∷ last_code program (plain_table table) last (l + 5 + optional_labels c) e in
          let b : List PlainIr = label (l + 3)
          ∷ stmt_code program (plain_table table) a (l + 5 + optional_labels c + optional_labels last) (l + 1) (l + 2) q in
          option_suit first k l0 out on (entry_code c l b) v.0 (entry_suit c l b (
            tt,
            stmt_suit a true (l + 5 + optional_labels c + optional_labels last) (l + 1) (l + 2) q v.3
                (tt, last_suit last (l + 5 + optional_labels c) e v.2 (tt, test_suit c l rest v.1 r)),
          ))
      kind_suit break_loop k l out on rest v r = (tt, r)
      kind_suit continue_loop k l out on rest v r = (tt, r)
      kind_suit (return_value None) k l out on rest v r = (omega arith, r)
      kind_suit (return_value (Some e)) k l out on rest v r =
          expr_suit e l 0 (return_from (Some (temp 0 (type_of_expr e))) ∷ rest) v.1 (few_of e v.1, r)

      option_suit : (a : OptionPlainStmt) (k : Bool) (l out on : ℕ) (rest : List PlainIr) → ValidOptionStmt program table f returns k a
          → AllSuited rest → AllSuited (option_stmt_code program (plain_table table) a l out on rest)
      option_suit no_stmt k l out on rest v r = r
      option_suit (a_stmt a) k l out on rest v r = stmt_suit a k l out on rest v r

      stmts_suit : (ss : PlainStmts) (k : Bool) (l out on : ℕ) (rest : List PlainIr)
          → ValidStmts program table f returns k ss → AllSuited rest
          → AllSuited (stmts_code program (plain_table table) ss l out on rest)
      stmts_suit last_stmt k l out on rest v r = r
      stmts_suit (next_stmt a ss) k l out on rest v r =
          stmt_suit a k l out on (stmts_code program (plain_table table) ss (l + stmt_labels a) out on rest) v.0
          (stmts_suit ss k (l + stmt_labels a) out on rest v.1 r)

end_suits : (returns : Bool) → AllSuited (end_of returns)
end_suits true = tt
end_suits false = (omega arith, tt)

functions_suit : (program : PlainProgram) (table : IoTable) (n : ℕ) (fs : List PlainFunction)
    → EachFrom n (IsFunction program table) fs
    → AllByRecursion (λ g. AllSuited g.code) (map (lowered_function program (plain_table table)) fs)
functions_suit program table n [] v = tt
functions_suit program table n (g ∷ fs) v = (
  stmt_suit program table n g.returns g.body false 1 0 0 (label 0 ∷ end_code g.body) v.0.body (tt, end_suits (body_returns g.body)),
  functions_suit program table (n + 1) fs v.1,
)

suited : (program : PlainProgram) (table : IoTable) → Valid program table → AreSuited (lowered program (plain_table table))
suited program table valid = functions_suit program table 0 program.functions valid.functions

pub have_code : LoweredIsMadeOf → OperationsStayOnPorts → OperationsHaveCode → LoweredProgramsHaveCode
have_code made on_ports have program table valid bytes =
    let fit = suited program table valid in
    let has = have (length table.dynamics.items) (lowered program (plain_table table)) (made program table valid bytes).valid
    (on_ports program table valid bytes) fit in
    record { suited = fit; code = has.0; in_place = has.1 }
