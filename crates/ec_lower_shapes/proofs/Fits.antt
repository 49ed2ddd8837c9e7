-- What the operations of a function count by shapes is within what its parts do, for any words of the shapes.
use Rattle.std.proofs.Common.{◌≡◌, ℕ, ◌+◌, ◌*◌, ◌≤◌, Bool, true, false, List, [], ◌∷◌, Option, Some, None, ap, arith}
use Rattle.std.specs.Prelude.{max, length, slice_get, option_map, unwrap_or, if◌then◌else◌}
use Rattle.std.specs.List.{AllByRecursion}
use Rattle.ec_iohw.specs.declared.table.IoTable.{IoTable}
use Rattle.ec_fx.specs.declared.numbers.Mode.{Mode}
use Rattle.ec_core.specs.Layout.{scalar_size, IsScalar, PlainLeaf}
use Rattle.ec_core.specs.Operators.{step_operator}
use Rattle.ec_core.specs.declared.expressions.BinOp.{BinOp}
use Rattle.ec_core.specs.Plain.{PlainType, void, integer, fixed, pointer, array, struct, PlainExpr, expression, PlainNode}
use Rattle.ec_core.specs.Plain.{number, null, load, address_of, unary, binary, convert, assign, compound, step, logical_not}
use Rattle.ec_core.specs.Plain.{logical_and, logical_or, conditional, comma, call, io, group, bind, dynamic_group}
use Rattle.ec_core.specs.Plain.{PlainPlace, object, deref, member}
use Rattle.ec_core.specs.Plain.{OptionPlainExpr, no_expr, an_expr, PlainExprs, last_expr, next_expr, PlainStmt, statement}
use Rattle.ec_core.specs.Plain.{PlainKind, empty, evaluate, block, declare, branch, while_loop, do_loop, for_loop, break_loop}
use Rattle.ec_core.specs.Plain.{continue_loop, return_value, OptionPlainStmt, no_stmt, a_stmt, PlainStmts, last_stmt, next_stmt}
use Rattle.ec_core.specs.Plain.{PlainFunction, PlainProgram}
use Rattle.ec_core.specs.PortAccesses.{pairs_of}
use Rattle.ec_core.specs.PortOperations.{PortAction, reads, writes, updates, port_operation}
use Rattle.ec_core.specs.PortTable.{PlainPort, PlainGroup, PlainTable, plain_table, choices_of}
use Rattle.ec_iohw.specs.declared.operations.IoOp.{IoOp}
use Rattle.ec_iohw.specs.declared.operations.IoOp.TheVariants.{Read, ReadLong, ReadBuffer, ReadBufferLong, Write, WriteLong, WriteBuffer}
use Rattle.ec_iohw.specs.declared.operations.IoOp.TheVariants.{WriteBufferLong, Or, OrLong, OrBuffer, OrBufferLong, And, AndLong, AndBuffer}
use Rattle.ec_iohw.specs.declared.operations.IoOp.TheVariants.{AndBufferLong, Xor, XorLong, XorBuffer, XorBufferLong}
use Rattle.ec_iohw.specs.declared.table.Choice.{Choice}
use Rattle.ec_iohw.specs.declared.table.Pair.{Pair}
use Rattle.ec_core.specs.Typing.{int, type_of_expr, unsigned_int, unsigned_long, IsTyped}
use Rattle.ec_core.specs.Valid.{IsExprType, ValidExpr, ValidParts, ValidPlace, ValidOption, ValidExprs}
use Rattle.ec_core.specs.Valid.{ValidCondition, ValidOptional, ValidStmt, ValidKind, ValidOptionStmt, ValidStmts, IsFunction}
use Rattle.ec_core.specs.Words.{widest, pointer_types, member_words, choice_words, group_words, port_words, bind_words}
use Rattle.ec_core.specs.Words.{dynamic_words, total_size}
use Rattle.ec_ir.specs.Costs.{branch_zero_words, index_words, temp_bytes}
use Rattle.ec_ir.specs.Operations.{PlainIr, store_object, binary_op, unary_op, conversion, label, jump}
use Rattle.ec_ir.specs.Operations.{call_function, return_from}
use Rattle.ec_ir.specs.declared.operations.Temp.{Temp}
use Rattle.ec_lower_code.specs.Code.{temp, result_temp, truth_code, place_labels, Site, named, pointed, further_code, load_from}
use Rattle.ec_lower_code.specs.Code.{store_to, value_place, settled_code, address_code, change_code, step_code}
use Rattle.ec_lower_code.specs.Code.{offset_of, site, place_code, params_of, params_code, port_operator, port_code}
use Rattle.ec_lower_code.specs.Code.{read_from, write_to, place_behind, operand_temp, access_code, pairs_code, group_code, bind_code}
use Rattle.ec_lower_code.specs.Code.{choices_code, option_labels}
use Rattle.ec_lower_code.specs.Code.{option_code, expr_labels, optional_labels, option_stmt_labels, stmt_labels, expr_code}
use Rattle.ec_lower_code.specs.Code.{node_code, args_code, init_code, test_code, entry_code, last_code, leaves_of_object, stmt_code}
use Rattle.ec_lower_code.specs.Code.{kind_code, option_stmt_code, stmts_code, body_returns, end_of, end_code, function_code}
use Rattle.ec_lower_code.specs.Code.{stepping_code, unread_code}
use Rattle.ec_lower_code.specs.Code.{Branch, where_zero, where_not, branch_to, opposite, zero_label, other_label, and_end}
use Rattle.ec_lower_code.specs.Code.{or_end, branch_code}
use Rattle.ec_shapes.specs.Shapes.{total}
use Rattle.ec_core_shapes.specs.Parts.{Part, alone, shaped, expr_parts, place_parts, option_parts, exprs_parts}
use Rattle.ec_core_shapes.specs.Parts.{optional_parts, leaves_parts, stmt_parts, kind_parts, option_stmt_parts, stmts_parts, function_parts}
use Rattle.ec_core_shapes.specs.SharedWeight.{shapes_in}
use Rattle.ec_core_shapes.specs.Shapes.{Shape, unary_shape, binary_shape, step_shape}
use Rattle.ec_ir_shapes.specs.Costs.{own_in, shapes_with, shape_code, op_shapes, own_words}
use Rattle.ec_lower_shapes.proofs.Changes.{small, compound_pays, step_pays}
use Rattle.ec_lower_shapes.proofs.Made.{change_made, step_made, made, own, Pays, unary_paid, binary_paid, conversion_paid}
use Rattle.ec_lower_shapes.proofs.Roots.{Root, root, load_fits, settle_words, store_fits, compound_update, step_update}

-- ---- rows

not_fits : (t a : ℕ) → t ≡ 2 → branch_zero_words a + (10 * t + 5) ≤ choice_words (max t (max a 1))
not_fits t a e = omega (arith, e)

both_fit : (t a b : ℕ) → t ≡ 2 → branch_zero_words a + (branch_zero_words b + (10 * t + 10)) ≤ choice_words (max t (max a (max b 1)))
both_fit t a b e = omega (arith, e)

-- the words of a branch on so many bytes
abbrev branch_cost : Branch → ℕ → ℕ
branch_cost (where_zero to) b = branch_zero_words b
branch_cost (where_not to past) b = branch_zero_words b + 5

branch_most : (to : Branch) (b : ℕ) → branch_cost to b ≤ branch_zero_words b + 5
branch_most (where_zero to) b = omega arith
branch_most (where_not to past) b = omega arith

not_leads : (t a : ℕ) → branch_zero_words a + 5 ≤ choice_words (max t (max a 1))
not_leads t a = omega arith

both_lead : (t a b : ℕ) → branch_zero_words a + (branch_zero_words b + 10) ≤ choice_words (max t (max a (max b 1)))
both_lead t a b = omega arith

choice_pays : (t c a b : ℕ) → branch_zero_words c + 5 ≤ choice_words (max t (max c (max a (max b 1))))
choice_pays t c a b = omega arith

index_pays : (index : OptionPlainExpr) (t : ℕ) → index_words (operand_temp index t) ≤ 40
index_pays no_expr t = omega arith
index_pays (an_expr e) t = omega arith

port_bytes : (long : Bool) → scalar_size (if long then unsigned_long else unsigned_int) ≤ 4
port_bytes true = omega arith
port_bytes false = omega arith

call_bytes : (t : ℕ) (ty : PlainType) → temp_bytes (result_temp t ty) ≤ scalar_size ty
call_bytes t void = omega arith
call_bytes t (integer s b) = omega arith
call_bytes t (fixed k s) = omega arith
call_bytes t (pointer s c q) = omega arith
call_bytes t (array q n) = omega arith
call_bytes t (struct k) = omega arith

-- where the new value of a step stands
abbrev stepped_place : Bool → ℕ → ℕ
stepped_place true v = v
stepped_place false v = v + 1

-- ---- costs

module _ (w : Shape → ℕ) where
  -- what an operation of a shape counts, by itself or with its shape
  abbrev pub shape_cost : Shape → ℕ
  shape_cost s = own_in (shape_code s) + total w (shapes_with (shape_code s) s)

  abbrev pub op_cost : PlainIr → ℕ
  op_cost i = own_words i + total w (op_shapes i)

  abbrev pub code_cost : List PlainIr → ℕ
  code_cost code = total op_cost code

  -- what a part counts: its words, or those of what it is made of
  abbrev pub part_cost : Part → ℕ
  part_cost (alone words) = words
  part_cost (shaped s) = own s + total shape_cost (made s)

  abbrev pub parts_cost : List Part → ℕ
  parts_cost parts = total part_cost parts

-- the rows of all shapes of parts pay for what they are made of
abbrev pub ArePaid : List Part → Type 0
ArePaid parts = AllByRecursion Pays (shapes_in parts)

-- the code before some other is within the parts before some others, whose rows pay for them
abbrev pub Fits : (w : Shape → ℕ) → (code rest : List PlainIr) → (parts others : List Part) → Type 0
Fits w code rest parts others =
    (code_cost w code + parts_cost w others ≤ parts_cost w parts + code_cost w rest) × (ArePaid others → ArePaid parts)

module _ (w : Shape → ℕ) where
  load_cost : (s : Site) (t : Temp) → op_cost w (load_from t s) ≤ own_words (load_from t s)
  load_cost (named o offset) t = omega arith
  load_cost (pointed ptr space) t = omega arith

  store_cost : (s : Site) (t : Temp) → op_cost w (store_to s t) ≤ own_words (store_to s t)
  store_cost (named o offset) t = omega arith
  store_cost (pointed ptr space) t = omega arith

  params_fit : (os : List ℕ) (es : PlainExprs) (t : ℕ) (rest : List PlainIr)
      → code_cost w (params_code os es t rest) ≤ 5 * total_size es + code_cost w rest
  params_fit [] es t rest = omega arith
  params_fit (o ∷ os) last_expr t rest = omega arith
  params_fit (o ∷ os) (next_expr e es) t rest = let x = params_fit os es (t + 1) rest in omega (arith, x)

  -- the operator of an update takes each byte by itself
  operator_cost : (op : IoOp) (long : Bool) (mode : Mode)
      → let ty = if long then unsigned_long else unsigned_int in shape_cost w (binary_shape (port_operator op) ty mode ty ty) ≤ 40
  operator_cost op true mode = by_operator op
    where
      by_operator : (op : IoOp) → shape_cost w (binary_shape (port_operator op) unsigned_long mode unsigned_long unsigned_long) ≤ 40
      by_operator Read = omega arith
      by_operator ReadLong = omega arith
      by_operator ReadBuffer = omega arith
      by_operator ReadBufferLong = omega arith
      by_operator Write = omega arith
      by_operator WriteLong = omega arith
      by_operator WriteBuffer = omega arith
      by_operator WriteBufferLong = omega arith
      by_operator Or = omega arith
      by_operator OrLong = omega arith
      by_operator OrBuffer = omega arith
      by_operator OrBufferLong = omega arith
      by_operator And = omega arith
      by_operator AndLong = omega arith
      by_operator AndBuffer = omega arith
      by_operator AndBufferLong = omega arith
      by_operator Xor = omega arith
      by_operator XorLong = omega arith
      by_operator XorBuffer = omega arith
      by_operator XorBufferLong = omega arith
  operator_cost op false mode = by_operator op
    where
      by_operator : (op : IoOp) → shape_cost w (binary_shape (port_operator op) unsigned_int mode unsigned_int unsigned_int) ≤ 40
      by_operator Read = omega arith
      by_operator ReadLong = omega arith
      by_operator ReadBuffer = omega arith
      by_operator ReadBufferLong = omega arith
      by_operator Write = omega arith
      by_operator WriteLong = omega arith
      by_operator WriteBuffer = omega arith
      by_operator WriteBufferLong = omega arith
      by_operator Or = omega arith
      by_operator OrLong = omega arith
      by_operator OrBuffer = omega arith
      by_operator OrBufferLong = omega arith
      by_operator And = omega arith
      by_operator AndLong = omega arith
      by_operator AndBuffer = omega arith
      by_operator AndBufferLong = omega arith
      by_operator Xor = omega arith
      by_operator XorLong = omega arith
      by_operator XorBuffer = omega arith
      by_operator XorBufferLong = omega arith

  -- an access of a port, whose address counts from a cell or does not
  read_cost : (dynamic : Option ℕ) (to : Temp) (offset : ℕ) (index : OptionPlainExpr) (t width : ℕ)
      → op_cost w (read_from dynamic to offset (operand_temp index t) width) ≤ 40 + 10 * width + 5 * to.bytes
  read_cost None to offset index t width = let i = index_pays index t in omega (arith, i)
  read_cost (Some d) to offset index t width = omega arith

  write_cost : (dynamic : Option ℕ) (from : Temp) (offset : ℕ) (index : OptionPlainExpr) (t width : ℕ)
      → op_cost w (write_to dynamic from offset (operand_temp index t) width) ≤ 40 + 10 * width + 5 * from.bytes
  write_cost None from offset index t width = let i = index_pays index t in omega (arith, i)
  write_cost (Some d) from offset index t width = omega arith

  -- an operation on a port, where it takes an index or not
  port_fits : (action : PortAction) (op : IoOp) (long : Bool) (mode : Mode) (port : PlainPort) (index : OptionPlainExpr) (t v : ℕ)
      (rest : List PlainIr)
      → code_cost w (port_code action (port_operator op) (if long then unsigned_long else unsigned_int) mode port (operand_temp index t) t v
      rest) ≤ port_words action port.width + code_cost w rest
  port_fits reads op long mode port index t v rest =
      let i = read_cost port.dynamic (temp t (if long then unsigned_long else unsigned_int)) port.address index t port.width in
      let b = port_bytes long in omega (arith, i, b)
  port_fits writes op long mode port index t v rest =
      let i = write_cost port.dynamic (temp v (if long then unsigned_long else unsigned_int)) port.address index t port.width in
      let b = port_bytes long in omega (arith, i, b)
  port_fits updates op true mode port index t v rest =
      let i = read_cost port.dynamic (temp (v + 1) unsigned_long) port.address index t port.width in
      let o = write_cost port.dynamic (temp (v + 1) unsigned_long) port.address index t port.width in
      let u = operator_cost op true mode in omega (arith, i, o, u)
  port_fits updates op false mode port index t v rest =
      let i = read_cost port.dynamic (temp (v + 1) unsigned_int) port.address index t port.width in
      let o = write_cost port.dynamic (temp (v + 1) unsigned_int) port.address index t port.width in
      let u = operator_cost op false mode in omega (arith, i, o, u)

  access_fits : (op : IoOp) (mode : Mode) (port : Option PlainPort) (index : OptionPlainExpr) (t : ℕ) (rest : List PlainIr)
      → code_cost w (access_code op mode port index t rest) ≤ port_words (port_operation op).action
      (unwrap_or (option_map (λ (p : PlainPort). p.width) port) 0) + code_cost w rest
  access_fits op mode None index t rest = omega arith
  access_fits op mode (Some port) index t rest = port_fits (port_operation op).action op (port_operation op).long mode port index t
      (place_behind index t) rest

  pairs_fit : (pairs : List Pair) (t : ℕ) (rest : List PlainIr) → code_cost w (pairs_code pairs t rest) ≤ 10 * length pairs + code_cost w rest
  pairs_fit [] t rest = omega arith
  pairs_fit (pair ∷ pairs) t rest = let x = pairs_fit pairs t rest in omega (arith, x)

  group_fits : (acquire : Bool) (x : Option PlainGroup) (t : ℕ) (rest : List PlainIr)
      → code_cost w (group_code acquire x t rest) ≤ group_words (unwrap_or (option_map (λ (y : PlainGroup). length (pairs_of acquire y)) x)
      0) + code_cost w rest
  group_fits acquire None t rest = omega arith
  group_fits acquire (Some x) t rest = let y = pairs_fit (pairs_of acquire x) t rest in omega (arith, y)

  -- without the words of a row
  pairs_of_fit : (acquire : Bool) (x : Option PlainGroup) (t : ℕ) (rest : List PlainIr) → code_cost w (group_code acquire x t rest)
      ≤ 10 * unwrap_or (option_map (λ (y : PlainGroup). length (pairs_of acquire y)) x) 0 + code_cost w rest
  pairs_of_fit acquire None t rest = omega arith
  pairs_of_fit acquire (Some x) t rest = pairs_fit (pairs_of acquire x) t rest

  bind_fits : (d : ℕ) (c : Option Choice) (t : ℕ) (rest : List PlainIr)
      → code_cost w (bind_code d c t rest) ≤ bind_words + code_cost w rest
  bind_fits d None t rest = omega arith
  bind_fits d (Some c) t rest = omega arith

  choices_fit : (acquire : Bool) (table : PlainTable) (mode : Mode) (d : ℕ) (cs : List Choice) (l t : ℕ) (rest : List PlainIr)
      → code_cost w (choices_code acquire table mode d cs l t rest) ≤ dynamic_words table acquire cs + code_cost w rest
  choices_fit acquire table mode d [] l t rest = omega arith
  choices_fit acquire table mode d (c ∷ []) l t rest =
      let x = pairs_of_fit acquire (slice_get table.groups c.group) t rest in omega (arith, x)
  choices_fit acquire table mode d (c ∷ other ∷ cs) l t rest =
      let after_group : List PlainIr = label (l + 1) ∷ rest in
      let pairs = group_code acquire (slice_get table.groups c.group) t after_group in
      let x = choices_fit acquire table mode d (other ∷ cs) (l + 2) t (jump (l + 1) ∷ label l ∷ pairs) in
      let y = pairs_of_fit acquire (slice_get table.groups c.group) t after_group in omega (arith, x, y)

  address_fits : (s : Site) (ty : PlainType) (t : ℕ) (rest : List PlainIr)
      → code_cost w (address_code s ty t rest) ≤ 5 * scalar_size ty + code_cost w rest
  address_fits (named o offset) ty t rest = omega arith
  address_fits (pointed ptr space) ty t rest = omega arith

  further_fits : (k : ℕ) (s : Site) (rest : List PlainIr) → code_cost w (further_code k s rest) ≤ member_words + code_cost w rest
  further_fits k (named o offset) rest = omega arith
  further_fits k (pointed ptr space) rest = omega arith

  settled_fits : (program : PlainProgram) (s : Site) (ty : PlainType) (t : ℕ) (rest : List PlainIr)
      → code_cost w (settled_code s ty t rest) ≤ settle_words program s ty + code_cost w rest
  settled_fits program (named o offset) ty t rest = omega arith
  settled_fits program (pointed ptr space) ty t rest = omega arith

  change_fits : (op : BinOp) (own mode : Mode) (ty : PlainType) (s : Site) (v : ℕ) (right : PlainType) (rest : List PlainIr)
      → code_cost w (change_code op own mode ty s v right rest)
      ≤ total (shape_cost w) (change_made op own mode ty right) + (op_cost w (store_to s (temp v ty)) + code_cost w rest)
  change_fits op own mode void s v right rest = omega arith
  change_fits op own mode (integer g b) s v right rest = omega arith
  change_fits op own mode (fixed k g) s v right rest = omega arith
  change_fits op own mode (pointer c k u) s v right rest = omega arith
  change_fits op own mode (array u n) s v right rest = omega arith
  change_fits op own mode (struct n) s v right rest = omega arith

  -- a step before its operand has a conversion less
  step_fits : (up prefix : Bool) (mode : Mode) (ty : PlainType) (s : Site) (v : ℕ) (rest : List PlainIr)
      → code_cost w (step_code prefix (step_operator up) mode ty s v rest)
      ≤ total (shape_cost w) (step_made up mode ty) + (op_cost w (store_to s (temp (stepped_place prefix v) ty)) + code_cost w rest)
  step_fits up true mode void s v rest = let x = change_fits (step_operator up) mode mode void s v int rest in omega (arith, x)
  step_fits up true mode (integer g b) s v rest =
      let x = change_fits (step_operator up) mode mode (integer g b) s v int rest in omega (arith, x)
  step_fits up true mode (fixed k g) s v rest =
      let x = change_fits (step_operator up) mode mode (fixed k g) s v int rest in omega (arith, x)
  step_fits up true mode (pointer c k u) s v rest =
      let x = change_fits (step_operator up) mode mode (pointer c k u) s v int rest in omega (arith, x)
  step_fits up true mode (array u n) s v rest =
      let x = change_fits (step_operator up) mode mode (array u n) s v int rest in omega (arith, x)
  step_fits up true mode (struct n) s v rest =
      let x = change_fits (step_operator up) mode mode (struct n) s v int rest in omega (arith, x)
  step_fits up false mode void s v rest = omega arith
  step_fits up false mode (integer g b) s v rest = omega arith
  step_fits up false mode (fixed k g) s v rest = omega arith
  step_fits up false mode (pointer c k u) s v rest = omega arith
  step_fits up false mode (array u n) s v rest = omega arith
  step_fits up false mode (struct n) s v rest = omega arith

  branch_to_fits : (to : Branch) (t : ℕ) (ty : PlainType) (rest : List PlainIr)
      → code_cost w (branch_to to (temp t ty) rest) ≤ branch_cost to (scalar_size ty) + code_cost w rest
  branch_to_fits (where_zero to) t ty rest = omega arith
  branch_to_fits (where_not to past) t ty rest = omega arith

  and_end_fits : (to : Branch) (l : ℕ) (rest : List PlainIr) → code_cost w (and_end to l rest) ≤ code_cost w rest
  and_end_fits (where_zero to) l rest = omega arith
  and_end_fits (where_not to past) l rest = omega arith

  or_end_fits : (to : Branch) (l : ℕ) (rest : List PlainIr) → code_cost w (or_end to l rest) ≤ code_cost w rest
  or_end_fits (where_zero to) l rest = omega arith
  or_end_fits (where_not to past) l rest = omega arith

module _ (w : Shape → ℕ) (program : PlainProgram) (table : IoTable) (f : ℕ) where
  stepping_fits : (up prefix : Bool) (mode : Mode) (ty : PlainType) (q : PlainPlace) (t : ℕ) (rest : List PlainIr) → IsScalar ty
      → Root program q t → code_cost w (stepping_code up prefix mode ty (site program q t) t rest)
      ≤ part_cost w (shaped (step_shape up mode ty (widest (ty ∷ pointer_types q [])))) + code_cost w rest
  stepping_fits up prefix mode ty q t rest i top =
      let s = site program q t in
      let u = value_place s t in
      let x = step_fits w up prefix mode ty s u (settled_code s ty t rest) in
      let g = settled_fits w program s ty t rest in
      let a = load_cost w s (temp u ty) in
      let b = store_cost w s (temp (stepped_place prefix u) ty) in
      let z = (step_update program q t u (stepped_place prefix u) ty i top).words in
      omega (arith, x, g, a, b, z)

  step_paid : (up : Bool) (mode : Mode) (ty : PlainType) (q : PlainPlace) (t : ℕ) → IsScalar ty → Root program q t
      → Pays (step_shape up mode ty (widest (ty ∷ pointer_types q [])))
  step_paid up mode ty q t i top =
      let z = step_update program q t t t ty i top in
      step_pays up mode ty (widest (ty ∷ pointer_types q [])) i z.some z.left z.near

  type_known : (e : PlainExpr) → ValidExpr program table f e → IsExprType program (type_of_expr e)
  type_known (expression ty mode node) h = h.0

  mutual
    pub expr_fits : (e : PlainExpr) (l t : ℕ) (rest : List PlainIr) (ps : List Part) → ValidExpr program table f e
        → Fits w (expr_code program (plain_table table) e l t rest) rest (expr_parts (plain_table table) e ps) ps
    expr_fits (expression ty mode node) l t rest ps v = node_fits ty mode node l t rest ps v.0 v.1 v.2

    node_fits : (ty : PlainType) (mode : Mode) (node : PlainNode) (l t : ℕ) (rest : List PlainIr) (ps : List Part) → IsExprType program ty
        → IsTyped program table ty node → ValidParts program table f node
        → Fits w (node_code program (plain_table table) ty mode node l t rest) rest
        (expr_parts (plain_table table) (expression ty mode node) ps) ps
    node_fits ty mode (number n) l t rest ps k tp v = (omega arith, λ h. h)
    node_fits ty mode null l t rest ps k tp v = (omega arith, λ h. h)
    node_fits ty mode (load q) l t rest ps k tp v =
        let x = place_fits q l t (load_from (temp t ty) (site program q t) ∷ rest) ps v in let x0 = x.0 in
        let a = load_cost w (site program q t) (temp t ty) in
        let y = load_fits program q t t ty (root program q t ty tp.1) in (omega (arith, x0, a, y), x.1)
    node_fits ty mode (address_of q) l t rest ps k tp v =
        let x = place_fits q l t (address_code (site program q t) ty t rest) ps v.0 in let x0 = x.0 in
        let y = address_fits w (site program q t) ty t rest in (omega (arith, x0, y), x.1)
    node_fits ty mode (unary op a) l t rest ps k tp v =
        let q : List PlainIr = unary_op op ty mode (temp t ty) (temp t ty) ∷ rest in
        let x = expr_fits a l t q ps v in let x0 = x.0 in
        let e = ap (λ z. shape_cost w (unary_shape op ty mode z)) tp.0 in (
          omega (arith, x0, e),
          λ h. (
            unary_paid op ty (type_of_expr a) mode (small program ty k)
                (small program (type_of_expr a) (type_known a v)),
            x.1 h,
          ),
        )
    node_fits ty mode (binary op a b) l t rest ps k tp v =
        let q : List PlainIr = binary_op op ty mode (temp t ty) (temp t (type_of_expr a)) (type_of_expr a) (temp (t + 1) (type_of_expr b))
        (type_of_expr b) ∷ rest in
        let x = expr_fits a l t (expr_code program (plain_table table) b (l + expr_labels a) (t + 1) q) (expr_parts (plain_table table) b ps) v.0 in
        let y = expr_fits b (l + expr_labels a) (t + 1) q ps v.1 in let x0 = x.0 in let y0 = y.0 in (
          omega (arith, x0, y0),
          λ h. (
            binary_paid op ty (type_of_expr a) (type_of_expr b) mode (small program ty k)
                (small program (type_of_expr a) (type_known a v.0)) (small program (type_of_expr b) (type_known b v.1)),
            x.1 (y.1 h),
          ),
        )
    node_fits ty mode (convert a) l t rest ps k tp v =
        let q : List PlainIr = conversion (temp t ty) ty mode (temp t (type_of_expr a)) (type_of_expr a) ∷ rest in
        let x = expr_fits a l t q ps v in let x0 = x.0 in
        (omega (arith, x0), λ h. (conversion_paid ty (type_of_expr a) mode, x.1 h))
    node_fits ty mode (assign q a) l t rest ps k tp v =
        let s = site program q t in
        let u = value_place s t in
        let c : List PlainIr = store_to s (temp u ty) ∷ settled_code s ty t rest in
        let x = place_fits q l t (expr_code program (plain_table table) a (l + place_labels q) u c) (expr_parts (plain_table table) a ps) v.0 in
        let y = expr_fits a (l + place_labels q) u c ps v.1 in let x0 = x.0 in let y0 = y.0 in
        let g = settled_fits w program s ty t rest in
        let b = store_cost w s (temp u ty) in
        let z = store_fits program q t u ty (type_of_expr a) (root program q t ty tp.0.1) in
        (omega (arith, x0, y0, g, b, z), λ h. x.1 (y.1 h))
    node_fits ty mode (compound op own q a) l t rest ps k tp v =
        let s = site program q t in
        let u = value_place s t in
        let r = settled_code s ty t rest in
        let c = change_code op own mode ty s u (type_of_expr a) r in
        let x = place_fits q l t (load_from (temp u ty) s ∷ expr_code program (plain_table table) a (l + place_labels q) (u + 1) c)
        (expr_parts (plain_table table) a ps) v.0 in
        let y = expr_fits a (l + place_labels q) (u + 1) c ps v.1 in let x0 = x.0 in let y0 = y.0 in
        let d = change_fits w op own mode ty s u (type_of_expr a) r in
        let g = settled_fits w program s ty t rest in
        let m = load_cost w s (temp u ty) in
        let n = store_cost w s (temp u ty) in
        let z = compound_update program q t u u ty (type_of_expr a) tp.0.0 (root program q t ty tp.0.1) in
        let z0 = z.words in (
          omega (arith, x0, y0, d, g, m, n, z0),
          λ h. (
            compound_pays program op own mode ty (type_of_expr a)
                (widest (ty ∷ pointer_types q (type_of_expr a ∷ []))) tp.0.0 (type_known a v.1) tp.1 z.some z.left z.right_most z.near,
            x.1 (y.1 h),
          ),
        )
    node_fits ty mode (step up prefix q) l t rest ps k tp v =
        let x = place_fits q l t (stepping_code up prefix mode ty (site program q t) t rest) ps v in let x0 = x.0 in
        let top = root program q t ty tp.1 in
        let y = stepping_fits up prefix mode ty q t rest tp.0 top in
        (omega (arith, x0, y), λ h. (step_paid up mode ty q t tp.0 top, x.1 h))
    node_fits ty mode (logical_not a) l t rest ps k tp v =
        let x = branch_fits a (l + 2) t (where_zero l) (truth_code false ty l t rest) ps v in let x0 = x.0 in
        let y = not_fits (scalar_size ty) (scalar_size (type_of_expr a)) (ap scalar_size tp.1) in (omega (arith, x0, y), x.1)
    node_fits ty mode (logical_and a b) l t rest ps k tp v =
        let q = truth_code true ty l t rest in
        let x = branch_fits a (l + 2) t (where_zero l) (branch_code program (plain_table table) b (l + 2 + expr_labels a) t (where_zero l)
        q) (expr_parts (plain_table table) b ps) v.0 in let y = branch_fits b (l + 2 + expr_labels a) t (where_zero l) q ps v.1 in
        let x0 = x.0 in let y0 = y.0 in
        let z = both_fit (scalar_size ty) (scalar_size (type_of_expr a)) (scalar_size (type_of_expr b)) (ap scalar_size tp.2) in
        (omega (arith, x0, y0, z), λ h. x.1 (y.1 h))
    node_fits ty mode (logical_or a b) l t rest ps k tp v =
        let q : List PlainIr = label (l + 3) ∷ truth_code true ty l t rest in
        let x = branch_fits a (l + 4) t (where_not (l + 3) (l + 2)) (branch_code program (plain_table table) b (l + 4 + expr_labels a) t
        (where_zero l) q) (expr_parts (plain_table table) b ps) v.0 in
        let y = branch_fits b (l + 4 + expr_labels a) t (where_zero l) q ps v.1 in let x0 = x.0 in let y0 = y.0 in
        let z = both_fit (scalar_size ty) (scalar_size (type_of_expr a)) (scalar_size (type_of_expr b)) (ap scalar_size tp.2) in
        (omega (arith, x0, y0, z), λ h. x.1 (y.1 h))
    node_fits ty mode (conditional c a b) l t rest ps k tp v =
        let r : List PlainIr = label (l + 1) ∷ rest in
        let q : List PlainIr = jump (l + 1) ∷ label l ∷ expr_code program (plain_table table) b (l + 2 + expr_labels c + expr_labels a) t
        r in
        let bs = expr_parts (plain_table table) b ps in
        let as1 = expr_parts (plain_table table) a bs in
        let x = branch_fits c (l + 2) t (where_zero l) (expr_code program (plain_table table) a (l + 2 + expr_labels c) t q) as1 v.0 in
        let y = expr_fits a (l + 2 + expr_labels c) t q bs v.1 in
        let u = expr_fits b (l + 2 + expr_labels c + expr_labels a) t r ps v.2 in
        let x0 = x.0 in let y0 = y.0 in let u0 = u.0 in
        let z = choice_pays (scalar_size ty) (scalar_size (type_of_expr c)) (scalar_size (type_of_expr a)) (scalar_size (type_of_expr b)) in
        (omega (arith, x0, y0, u0, z), λ h. x.1 (y.1 (u.1 h)))
    node_fits ty mode (comma a b) l t rest ps k tp v =
        let x = unread_fits a l t (expr_code program (plain_table table) b (l + expr_labels a) t rest) (expr_parts (plain_table table) b ps) v.0 in
        let y = expr_fits b (l + expr_labels a) t rest ps v.1 in let x0 = x.0 in let y0 = y.0 in
        (omega (arith, x0, y0), λ h. x.1 (y.1 h))
    node_fits ty mode (call g args) l t rest ps k tp v =
        let q : List PlainIr = call_function g (result_temp t ty) ∷ rest in
        let x = args_fit args l t (params_code (params_of program g) args t q) ps v in let x0 = x.0 in
        let y = params_fit w (params_of program g) args t q in
        let z = call_bytes t ty in (omega (arith, x0, y, z), x.1)
    node_fits ty mode (io op port i e) l t rest ps k tp v =
        let q = access_code op mode (slice_get (plain_table table).ports port) i t rest in
        let x = operand_fits i l t (option_code program (plain_table table) e (l + option_labels i) (place_behind i t) q)
        (option_parts (plain_table table) e ps) v.0 in
        let y = operand_fits e (l + option_labels i) (place_behind i t) q ps v.1 in let x0 = x.0 in let y0 = y.0 in
        let z = access_fits w op mode (slice_get (plain_table table).ports port) i t rest in
        (omega (arith, x0, y0, z), λ h. x.1 (y.1 h))
    node_fits ty mode (group acquire g) l t rest ps k tp v =
        let x = group_fits w acquire (slice_get (plain_table table).groups g) t rest in (omega (arith, x), λ h. h)
    node_fits ty mode (bind d choice) l t rest ps k tp v =
        let x = bind_fits w d (slice_get (choices_of (plain_table table) d) choice) t rest in (omega (arith, x), λ h. h)
    node_fits ty mode (dynamic_group acquire d) l t rest ps k tp v =
        let x = choices_fit w acquire (plain_table table) mode d (choices_of (plain_table table) d) l t rest in
        (omega (arith, x), λ h. h)

    unread_fits : (e : PlainExpr) (l t : ℕ) (rest : List PlainIr) (ps : List Part) → ValidExpr program table f e
        → Fits w (unread_code program (plain_table table) e l t rest) rest (expr_parts (plain_table table) e ps) ps
    unread_fits (expression ty mode (step up prefix q)) l t rest ps v =
        let x = place_fits q l t (stepping_code up true mode ty (site program q t) t rest) ps v.2 in let x0 = x.0 in
        let top = root program q t ty v.1.1 in
        let y = stepping_fits up true mode ty q t rest v.1.0 top in
        (omega (arith, x0, y), λ h. (step_paid up mode ty q t v.1.0 top, x.1 h))
    unread_fits (expression ty mode (comma a b)) l t rest ps v =
        let x = unread_fits a l t (unread_code program (plain_table table) b (l + expr_labels a) t rest) (expr_parts (plain_table table) b ps) v.2.0 in
        let y = unread_fits b (l + expr_labels a) t rest ps v.2.1 in let x0 = x.0 in let y0 = y.0 in
        (omega (arith, x0, y0), λ h. x.1 (y.1 h))
    unread_fits (expression ty mode node) l t rest ps v = node_fits ty mode node l t rest ps v.0 v.1 v.2

    branch_fits : (e : PlainExpr) (l t : ℕ) (to : Branch) (rest : List PlainIr) (ps : List Part) → ValidExpr program table f e
        → (code_cost w (branch_code program (plain_table table) e l t to rest) + parts_cost w ps
        ≤ parts_cost w (expr_parts (plain_table table) e ps) + (branch_cost to (scalar_size (type_of_expr e)) + code_cost w rest))
        × (ArePaid ps → ArePaid (expr_parts (plain_table table) e ps))
    branch_fits (expression ty mode (logical_not a)) l t to rest ps v =
        let x = branch_fits a (l + 2) t (opposite to l) rest ps v.2 in let x0 = x.0 in
        let y = branch_most (opposite to l) (scalar_size (type_of_expr a)) in
        let z = not_leads (scalar_size ty) (scalar_size (type_of_expr a)) in (omega (arith, x0, y, z), x.1)
    branch_fits (expression ty mode (logical_and a b)) l t to rest ps v =
        let q = and_end to l rest in
        let x = branch_fits a (l + 2) t (where_zero (zero_label to l)) (branch_code program (plain_table table) b (l + 2 + expr_labels a) t
        to q) (expr_parts (plain_table table) b ps) v.2.0 in let y = branch_fits b (l + 2 + expr_labels a) t to q ps v.2.1 in
        let x0 = x.0 in let y0 = y.0 in
        let m = branch_most to (scalar_size (type_of_expr b)) in let u = and_end_fits w to l rest in
        let z = both_lead (scalar_size ty) (scalar_size (type_of_expr a)) (scalar_size (type_of_expr b)) in
        (omega (arith, x0, y0, m, u, z), λ h. x.1 (y.1 h))
    branch_fits (expression ty mode (logical_or a b)) l t to rest ps v =
        let q = or_end to l rest in
        let x = branch_fits a (l + 4) t (where_not (other_label to l) (l + 1)) (branch_code program (plain_table table) b
        (l + 4 + expr_labels a) t to q) (expr_parts (plain_table table) b ps) v.2.0 in
        let y = branch_fits b (l + 4 + expr_labels a) t to q ps v.2.1 in let x0 = x.0 in let y0 = y.0 in
        let m = branch_most to (scalar_size (type_of_expr b)) in let u = or_end_fits w to l rest in
        let z = both_lead (scalar_size ty) (scalar_size (type_of_expr a)) (scalar_size (type_of_expr b)) in
        (omega (arith, x0, y0, m, u, z), λ h. x.1 (y.1 h))
    branch_fits (expression ty mode node) l t to rest ps v =
        let x = node_fits ty mode node l t (branch_to to (temp t ty) rest) ps v.0 v.1 v.2 in let x0 = x.0 in
        let y = branch_to_fits w to t ty rest in (omega (arith, x0, y), x.1)

    place_fits : (q : PlainPlace) (l t : ℕ) (rest : List PlainIr) (ps : List Part) → ValidPlace program table f q
        → Fits w (place_code program (plain_table table) q l t rest) rest (place_parts (plain_table table) q ps) ps
    place_fits (object o) l t rest ps v = (omega arith, λ h. h)
    place_fits (deref e) l t rest ps v = expr_fits e l t rest ps v
    place_fits (member q i) l t rest ps v =
        let x = place_fits q l t (further_code (offset_of program q i) (site program q t) rest) ps v in let x0 = x.0 in
        let y = further_fits w (offset_of program q i) (site program q t) rest in (omega (arith, x0, y), x.1)

    operand_fits : (e : OptionPlainExpr) (l t : ℕ) (rest : List PlainIr) (ps : List Part) → ValidOption program table f e
        → Fits w (option_code program (plain_table table) e l t rest) rest (option_parts (plain_table table) e ps) ps
    operand_fits no_expr l t rest ps v = (omega arith, λ h. h)
    operand_fits (an_expr e) l t rest ps v = expr_fits e l t rest ps v

    args_fit : (es : PlainExprs) (l t : ℕ) (rest : List PlainIr) (ps : List Part) → ValidExprs program table f es
        → Fits w (args_code program (plain_table table) es l t rest) rest (exprs_parts (plain_table table) es ps) ps
    args_fit last_expr l t rest ps v = (omega arith, λ h. h)
    args_fit (next_expr e es) l t rest ps v =
        let x = expr_fits e l t (args_code program (plain_table table) es (l + expr_labels e) (t + 1) rest) (exprs_parts (plain_table table) es ps)
        v.0 in
        let y = args_fit es (l + expr_labels e) (t + 1) rest ps v.1 in let x0 = x.0 in let y0 = y.0 in
        (omega (arith, x0, y0), λ h. x.1 (y.1 h))

  -- leaves for which there is no place have no code
  leaves_only : (es : PlainExprs) (ps : List Part) → ValidExprs program table f es
      → (parts_cost w ps ≤ parts_cost w (leaves_parts (plain_table table) es ps)) × (ArePaid ps → ArePaid (leaves_parts (plain_table table) es ps))
  leaves_only last_expr ps v = (omega arith, λ h. h)
  leaves_only (next_expr e es) ps v =
      let x = expr_fits e 0 0 [] (leaves_parts (plain_table table) es ps) v.0 in
      let y = leaves_only es ps v.1 in let x0 = x.0 in let y0 = y.0 in
      (omega (arith, x0, y0), λ h. x.1 (y.1 h))

  init_fits : (ls : List PlainLeaf) (o : ℕ) (es : PlainExprs) (l : ℕ) (rest : List PlainIr) (ps : List Part) → ValidExprs program table f es
      → Fits w (init_code program (plain_table table) ls o es l rest) rest (leaves_parts (plain_table table) es ps) ps
  init_fits [] o es l rest ps v = let x = leaves_only es ps v in let x0 = x.0 in (omega (arith, x0), x.1)
  init_fits (leaf ∷ ls) o last_expr l rest ps v = (omega arith, λ h. h)
  init_fits (leaf ∷ ls) o (next_expr e es) l rest ps v =
      let q : List PlainIr = store_object o leaf.at (temp 0 (type_of_expr e)) ∷ init_code program (plain_table table) ls o es
      (l + expr_labels e) rest in
      let x = expr_fits e l 0 q (leaves_parts (plain_table table) es ps) v.0 in
      let y = init_fits ls o es (l + expr_labels e) rest ps v.1 in let x0 = x.0 in let y0 = y.0 in
      (omega (arith, x0, y0), λ h. x.1 (y.1 h))

  condition_fits : (c : PlainExpr) (l : ℕ) (to : Branch) (rest : List PlainIr) (ps : List Part)
      → ValidCondition program table f (Some c)
      → (code_cost w (branch_code program (plain_table table) c l 0 to rest) + parts_cost w ps
      ≤ 35 + parts_cost w (expr_parts (plain_table table) c ps) + code_cost w rest)
      × (ArePaid ps → ArePaid (expr_parts (plain_table table) c ps))
  condition_fits c l to rest ps v =
      let x = branch_fits c l 0 to rest ps v.0 in let x0 = x.0 in
      let y = small program (type_of_expr c) (type_known c v.0) in
      let z = branch_most to (scalar_size (type_of_expr c)) in (omega (arith, x0, y, z), x.1)

  test_fits : (c : Option PlainExpr) (l : ℕ) (rest : List PlainIr) (ps : List Part) → ValidCondition program table f c
      → (code_cost w (test_code program (plain_table table) c l rest) + parts_cost w ps
      ≤ 35 + parts_cost w (optional_parts (plain_table table) c ps) + code_cost w rest)
      × (ArePaid ps → ArePaid (optional_parts (plain_table table) c ps))
  test_fits None l rest ps v = (omega arith, λ h. h)
  test_fits (Some c) l rest ps v =
      let x = condition_fits c (l + 5) (where_not (l + 3) (l + 4)) (label (l + 1) ∷ rest) ps v in let x0 = x.0 in
      (omega (arith, x0), x.1)

  entry_fits : (c : Option PlainExpr) (l : ℕ) (rest : List PlainIr) → code_cost w (entry_code c l rest) ≤ 5 + code_cost w rest
  entry_fits None l rest = omega arith
  entry_fits (Some c) l rest = omega arith

  last_fits : (e : Option PlainExpr) (l : ℕ) (rest : List PlainIr) (ps : List Part) → ValidOptional program table f e
      → Fits w (last_code program (plain_table table) e l rest) rest (optional_parts (plain_table table) e ps) ps
  last_fits None l rest ps v = (omega arith, λ h. h)
  last_fits (Some e) l rest ps v = unread_fits e l 0 rest ps v

  module _ (returns : PlainType) where
    mutual
      pub stmt_fits : (a : PlainStmt) (k : Bool) (l out on : ℕ) (rest : List PlainIr) (ps : List Part)
          → ValidStmt program table f returns k a
          → Fits w (stmt_code program (plain_table table) a l out on rest) rest (stmt_parts (plain_table table) a ps) ps
      stmt_fits (statement unit at kind) k l out on rest ps v = kind_fits kind k l out on rest ps v

      kind_fits : (kind : PlainKind) (k : Bool) (l out on : ℕ) (rest : List PlainIr) (ps : List Part)
          → ValidKind program table f returns k kind
          → Fits w (kind_code program (plain_table table) kind l out on rest) rest (kind_parts (plain_table table) kind ps) ps
      kind_fits empty k l out on rest ps v = (omega arith, λ h. h)
      kind_fits (evaluate e) k l out on rest ps v = unread_fits e l 0 rest ps v
      kind_fits (block ss) k l out on rest ps v = stmts_fits ss k l out on rest ps v
      kind_fits (declare o es) k l out on rest ps v = init_fits (leaves_of_object program o) o es l rest ps v.1
      kind_fits (branch c a no_stmt) k l out on rest ps v =
          let x = condition_fits c (l + 2) (where_zero l)
          (stmt_code program (plain_table table) a (l + 2 + expr_labels c) out on (label l ∷ rest))
          (stmt_parts (plain_table table) a ps) v.0 in
          let y = stmt_fits a k (l + 2 + expr_labels c) out on (label l ∷ rest) ps v.1 in let x0 = x.0 in let y0 = y.0 in
          (omega (arith, x0, y0), λ h. x.1 (y.1 h))
      kind_fits (branch c a (a_stmt b)) k l out on rest ps v =
          let q : List PlainIr = jump (l + 1) ∷ label l ∷ stmt_code program (plain_table table) b (l + 2 + expr_labels c + stmt_labels a)
          out on (label (l + 1) ∷ rest) in
          let bs = stmt_parts (plain_table table) b ps in
          let x = condition_fits c (l + 2) (where_zero l) (stmt_code program (plain_table table) a (l + 2 + expr_labels c) out on q)
          (stmt_parts (plain_table table) a bs) v.0 in
          let y = stmt_fits a k (l + 2 + expr_labels c) out on q bs v.1 in let u = stmt_fits b k (l + 2 + expr_labels c + stmt_labels a)
          out on (label (l + 1) ∷ rest) ps v.2 in let x0 = x.0 in let y0 = y.0 in let u0 = u.0 in
          (omega (arith, x0, y0, u0), λ h. x.1 (y.1 (u.1 h)))
      kind_fits (while_loop c a) k l out on rest ps v =
          let q : List PlainIr = label (l + 2) ∷ label l ∷ test_code program (plain_table table) (Some c) l rest in
          let body = stmt_parts (plain_table table) a ps in
          let x = test_fits (Some c) l rest body v.0 in
          let y = stmt_fits a true (l + 5 + expr_labels c) (l + 1) (l + 2) q ps v.1 in let x0 = x.0 in let y0 = y.0 in
          (omega (arith, x0, y0), λ h. x.1 (y.1 h))
      kind_fits (do_loop a c) k l out on rest ps v =
          let q : List PlainIr = label (l + 2) ∷ label l ∷ test_code program (plain_table table) (Some c) l rest in
          let x = test_fits (Some c) l rest ps v.1 in
          let y = stmt_fits a true (l + 5 + expr_labels c) (l + 1) (l + 2) q (expr_parts (plain_table table) c ps) v.0 in
          let x0 = x.0 in let y0 = y.0 in
          (omega (arith, x0, y0), λ h. y.1 (x.1 h))
      kind_fits (for_loop first c last a) k l0 out on rest ps v =
          let l = l0 + option_stmt_labels first in
          let e : List PlainIr = label l ∷ test_code program (plain_table table) c l rest in
          let q : List PlainIr = label (l + 2) ∷ last_code program (plain_table table) last (l + 5 + optional_labels c) e in
          let b : List PlainIr = label (l + 3) ∷ stmt_code program (plain_table table) a (l + 5 + optional_labels c + optional_labels last)
          (l + 1) (l + 2) q in
          let ap1 = stmt_parts (plain_table table) a ps in
          let lp = optional_parts (plain_table table) last ap1 in
          let cp = optional_parts (plain_table table) c lp in
          let g = option_fits first k l0 out on (entry_code c l b) cp v.0 in
          let i = entry_fits c l b in
          let x = test_fits c l rest lp v.1 in
          let y = stmt_fits a true (l + 5 + optional_labels c + optional_labels last) (l + 1) (l + 2) q ps v.3 in
          let u = last_fits last (l + 5 + optional_labels c) e ap1 v.2 in
          let g0 = g.0 in let x0 = x.0 in let y0 = y.0 in let u0 = u.0 in
          (omega (arith, g0, i, x0, y0, u0), λ h. g.1 (x.1 (u.1 (y.1 h))))
      kind_fits break_loop k l out on rest ps v = (omega arith, λ h. h)
      kind_fits continue_loop k l out on rest ps v = (omega arith, λ h. h)
      kind_fits (return_value None) k l out on rest ps v = (omega arith, λ h. h)
      kind_fits (return_value (Some e)) k l out on rest ps v =
          let q : List PlainIr = return_from (Some (temp 0 (type_of_expr e))) ∷ rest in
          let x = expr_fits e l 0 q ps v.1 in let x0 = x.0 in (omega (arith, x0), x.1)

      option_fits : (a : OptionPlainStmt) (k : Bool) (l out on : ℕ) (rest : List PlainIr) (ps : List Part)
          → ValidOptionStmt program table f returns k a
          → Fits w (option_stmt_code program (plain_table table) a l out on rest) rest (option_stmt_parts (plain_table table) a ps) ps
      option_fits no_stmt k l out on rest ps v = (omega arith, λ h. h)
      option_fits (a_stmt a) k l out on rest ps v = stmt_fits a k l out on rest ps v

      stmts_fits : (ss : PlainStmts) (k : Bool) (l out on : ℕ) (rest : List PlainIr) (ps : List Part)
          → ValidStmts program table f returns k ss
          → Fits w (stmts_code program (plain_table table) ss l out on rest) rest (stmts_parts (plain_table table) ss ps) ps
      stmts_fits last_stmt k l out on rest ps v = (omega arith, λ h. h)
      stmts_fits (next_stmt a ss) k l out on rest ps v =
          let x = stmt_fits a k l out on (stmts_code program (plain_table table) ss (l + stmt_labels a) out on rest)
          (stmts_parts (plain_table table) ss ps) v.0 in
          let y = stmts_fits ss k (l + stmt_labels a) out on rest ps v.1 in let x0 = x.0 in let y0 = y.0 in
          (omega (arith, x0, y0), λ h. x.1 (y.1 h))

end_fits : (w : Shape → ℕ) (returns : Bool) → code_cost w (end_of returns) ≤ 40
end_fits w true = omega arith
end_fits w false = omega arith

-- a function's operations are within its body and its own row
pub function_fits : (w : Shape → ℕ) (program : PlainProgram) (table : IoTable) (f : ℕ) (g : PlainFunction) (ps : List Part)
    → IsFunction program table f g
    → Fits w (function_code program (plain_table table) g) [] (function_parts (plain_table table) g ps) ps
function_fits w program table f g ps v =
    let x = stmt_fits w program table f g.returns g.body false 1 0 0 (label 0 ∷ end_code g.body) ps v.body in let x0 = x.0 in
    let y = end_fits w (body_returns g.body) in (omega (arith, x0, y), x.1)
