-- The operations of a valid program are well formed.
use Rattle.std.proofs.Common.{◌≡◌, ◌⊎◌, ℕ, zero, suc, ◌+◌, ◌-◌, ◌*◌, ◌/◌, ◌^◌, ◌<◌, ◌≤◌, Bool, true, false, not, ℤ, List, []}
use Rattle.std.proofs.Common.{◌∷◌, ◌++◌, length, Option, Some, None, refl, sym, ap, ◌∙◌, subst, inl, inr, arith}
use Rattle.std.specs.Prelude.{⊤, IsTrue, IfSome, max, pos, if◌then◌else◌, IsSomeAnd, Contains, slice_get, option_map, unwrap_or}
use Rattle.std.specs.List.{AllByRecursion}
use Rattle.std.proofs.lemmas.Int.{ints}
use Rattle.std.proofs.lemmas.Nat.{pow_pos}
use Rattle.std.proofs.lemmas.Option.{slice_get_within}
use Rattle.std.proofs.Math.Nat.{pow-suc}
use Rattle.std.proofs.lemmas.List.{length-map}
use Rattle.ec_iohw.specs.declared.operations.IoOp.{IoOp}
use Rattle.ec_iohw.specs.declared.table.Choice.{Choice}
use Rattle.ec_iohw.specs.declared.table.IoTable.{IoTable}
use Rattle.ec_iohw.specs.declared.table.Pair.{Pair}
use Rattle.ec_fx.specs.declared.numbers.Mode.{Mode}
use Rattle.ec_fx.specs.declared.formats.FxKind.{FxKind}
use Rattle.ec_fx.specs.declared.formats.FxKind.TheVariants.{ShortFract, Fract, LongFract, ShortAccum, Accum, LongAccum}
use Rattle.ec_fx.specs.declared.formats.FxKind.TheVariants.{UnsignedShortFract, UnsignedFract, UnsignedLongFract}
use Rattle.ec_fx.specs.declared.formats.FxKind.TheVariants.{UnsignedShortAccum, UnsignedAccum, UnsignedLongAccum}
use Rattle.ec_fx.specs.Formats.{format_of}
use Rattle.ec_fx.specs.Ranges.{IsWithin}
use Rattle.ec_space.specs.declared.space.SpaceId.{SpaceId}
use Rattle.ec_space.specs.Spaces.{holds}
use Rattle.ec_core.specs.declared.arithmetic_types.Arithmetic.{Arithmetic}
use Rattle.ec_core.specs.declared.arithmetic_types.Arithmetic.TheVariants.{Integer, Fixed}
use Rattle.ec_core.specs.declared.expressions.BinOp.{BinOp}
use Rattle.ec_core.specs.declared.expressions.BinOp.TheVariants.{Add, Sub, Mul, Div, Rem, Shl, Shr, And, Or, Xor, Lt, Gt, Le, Ge, Eq, Ne}
use Rattle.ec_core.specs.ArithmeticTypes.{arithmetic_of, type_of, common}
use Rattle.ec_core.specs.ArithmeticValues.{HoldsNumber, IsKnownType}
use Rattle.ec_core.specs.Integers.{truth}
use Rattle.ec_core.specs.Layout.{PlainLeaf, Layout, scalar_size, type_layout, struct_layouts, size_of_type, leaves_of_type, IsScalar}
use Rattle.ec_core.specs.Needs.{expr_need, option_needs, exprs_needs, greatest_from}
use Rattle.ec_core.specs.Operators.{number_type, converted_beside, promoted_type, step_operator}
use Rattle.ec_core.specs.PortAccesses.{pairs_of}
use Rattle.ec_core.specs.PortOperations.{PortAction, reads, writes, updates, is_read, is_update, port_operation}
use Rattle.ec_core.specs.PortTable.{PlainPort, PlainGroup, plain_dynamic, plain_table, choices_of}
use Rattle.ec_core.specs.Plain.{PlainType, void, integer, fixed, pointer, array, struct, PlainExpr, expression, PlainNode}
use Rattle.ec_core.specs.Plain.{number, null, load, address_of, unary, binary, convert, assign, compound, step, logical_not}
use Rattle.ec_core.specs.Plain.{logical_and, logical_or, conditional, comma, call, io, group, bind, dynamic_group}
use Rattle.ec_core.specs.Plain.{PlainPlace, object, deref, member}
use Rattle.ec_core.specs.Plain.{OptionPlainExpr, no_expr, an_expr, PlainExprs, last_expr, next_expr, param, PlainObject}
use Rattle.ec_core.specs.Plain.{PlainFunction, PlainProgram}
use Rattle.ec_core.specs.TypeLaws.{factor_beside}
use Rattle.ec_core.specs.Typing.{int, unsigned_int, unsigned_long, IsOperandIf, port_value, type_of_expr, IsIntegerKind}
use Rattle.ec_core.specs.Typing.{IsPromoted, HaveArithmeticTypes, HavePointerTypes, HaveOffsetTypes, HaveBinaryTypes}
use Rattle.ec_core.specs.Typing.{HaveCompoundArithmetic, HaveCompoundTypes, AreConvertible, pointee, place_type, place_space}
use Rattle.ec_core.specs.Typing.{IsAddressType, IsTyped, AreArguments}
use Rattle.ec_core.specs.Valid.{IsExprType, IsObject, IsAddressable, HasAddress, IsNamedIn, ValidExpr, ValidParts, ValidPlace}
use Rattle.ec_core.specs.Valid.{ValidOption, ValidExprs, IsFunction, Valid}
use Rattle.ec_core.proofs.Conversions.{usual_conversions}
use Rattle.ec_core.proofs.HeldNumbers.{truth_number}
use Rattle.ec_core.proofs.Growth.{some_then}
use Rattle.ec_core.proofs.TypedValues.{some_and}
use Rattle.ec_ir.specs.declared.operations.Temp.{Temp}
use Rattle.ec_ir.specs.Operations.{PlainIr, constant, copy, address, field, load_at, store_at, load_object, store_object}
use Rattle.ec_ir.specs.Operations.{binary_op, unary_op, conversion, label, jump, branch_zero, call_function, return_from}
use Rattle.ec_ir.specs.Operations.{port_in, port_out, load_cell, store_cell, cell_port, data_of}
use Rattle.ec_ir.specs.Valid.{count, called_in, IsResult, HaveBitTypes, HaveOperationTypes, IsTemp, IsTempOf, IsPointerTemp, HasPointersOf}
use Rattle.ec_ir.specs.Valid.{IsIndex, IsPortWidth, IsNumberOf, HasLeafOf, IsParameterOf, ValidOperation}
use Rattle.ec_lower_code.specs.Code.{temp, result_temp, truth_code, place_labels, Site, further_code, load_from, store_to}
use Rattle.ec_lower_code.specs.Code.{value_place, settled_code, address_code, update_types, update_code, keeping_code}
use Rattle.ec_lower_code.specs.Code.{change_code, postfix_code, step_code, offset_of, site, place_code, params_of, params_code}
use Rattle.ec_lower_code.specs.Code.{port_operator, read_from, write_to, port_code, place_behind as value_behind, operand_temp}
use Rattle.ec_lower_code.specs.Code.{access_code}
use Rattle.ec_lower_code.specs.Code.{byte_type, pairs_code, group_code, bind_code, choices_code, option_labels, option_code}
use Rattle.ec_lower_code.specs.Code.{expr_labels, expr_code}
use Rattle.ec_lower_code.specs.Code.{node_code, args_code, lowered_function, lowered}
use Rattle.ec_lower_code.specs.Code.{stepping_code, unread_code}
use Rattle.ec_lower_code.specs.Code.{Branch, where_zero, where_not, branch_to, opposite, zero_label, other_label, and_end}
use Rattle.ec_lower_code.specs.Code.{or_end, branch_code, branch_label}
use Rattle.ec_lower_code.specs.Correct.{IsBytePair, HasByteBase, GroupsHaveBytes}
use Rattle.ec_lower_code.proofs.Numeric.{IsNumeric}
use Rattle.ec_lower_code.proofs.Behind.{expr_behind, node_behind, unread_behind, branch_behind, place_behind, operand_behind}
use Rattle.ec_lower_code.proofs.Behind.{args_behind, params_behind, group_behind, test_behind_base, choices_behind}
use Rattle.ec_lower_code.proofs.Expressions.{arithmetic_scalar, offset_integer, binary_scalars, converted_scalar}
use Rattle.ec_lower_code.proofs.Expressions.{pointer_scalar, type_known, compound_facts, compound_right, address_typed}
use Rattle.ec_lower_code.proofs.Expressions.{step_types, stepped_place}
use Rattle.ec_lower_code.proofs.Insides.{place_need, layout_of, HasRoom, Part, of_object, of_pointer, part, room}
use Rattle.ec_lower_code.proofs.Facts.{all_at, each_at, param_home, scalar_leaf}
use Rattle.ec_lower_code.proofs.Labels.{counted}
use Rattle.ec_lower_code.proofs.Numbers.{scalar_bytes}
use Rattle.ec_lower_code.proofs.Operations.{update_known, step_arithmetic, type_scalar}
use Rattle.ec_lower_code.proofs.PortOperators.{operator_typed}
use Rattle.ec_lower_code.proofs.Steps.{Stands, behind}
use Rattle.ec_lower_code.proofs.Tables.{IsOperated, AreOperated, ArePairs, port_operated, group_pairs, fits_in, are_choices}
use Rattle.ec_lower_code.proofs.Tables.{group_within}
use Rattle.ec_lower_code.proofs.Updates.{place_known}

-- ---- types

pub some_is : {A : Type 0} (o : Option A) (P : A → Type 0) (x : A) → o ≡ Some x → P x → IsSomeAnd o P
some_is o P x e h = subst (λ z. IsSomeAnd z P) (sym e) h

numbers_convert : (a b : PlainType) → IsNumeric a → IsNumeric b → AreConvertible a b
numbers_convert (integer s m) (integer t n) p q = tt
numbers_convert (integer s m) (fixed k t) p q = tt
numbers_convert (fixed j s) (integer t n) p q = tt
numbers_convert (fixed j s) (fixed k t) p q = tt
numbers_convert void b p q = absurd p
numbers_convert (pointer s c t) b p q = absurd p
numbers_convert (array t n) b p q = absurd p
numbers_convert (struct i) b p q = absurd p
numbers_convert (integer s m) void p q = absurd q
numbers_convert (integer s m) (pointer t c u) p q = absurd q
numbers_convert (integer s m) (array t n) p q = absurd q
numbers_convert (integer s m) (struct i) p q = absurd q
numbers_convert (fixed j s) void p q = absurd q
numbers_convert (fixed j s) (pointer t c u) p q = absurd q
numbers_convert (fixed j s) (array t n) p q = absurd q
numbers_convert (fixed j s) (struct i) p q = absurd q

type_numeric : (z : Arithmetic) → IsNumeric (type_of z)
type_numeric (Integer t) = tt
type_numeric (Fixed t) = tt

type_is_known : (program : PlainProgram) (z : Arithmetic) → IsKnownType z → IsExprType program (type_of z)
type_is_known program (Integer t) k = k
type_is_known program (Fixed t) k = tt

arithmetic_types : (op : BinOp) (t x y : Arithmetic) → HaveArithmeticTypes op t x y → HaveBinaryTypes op (type_of t) (type_of x) (type_of y)
arithmetic_types op (Integer t) (Integer x) (Integer y) h = h
arithmetic_types op (Integer t) (Integer x) (Fixed y) h = h
arithmetic_types op (Integer t) (Fixed x) (Integer y) h = h
arithmetic_types op (Integer t) (Fixed x) (Fixed y) h = h
arithmetic_types op (Fixed t) (Integer x) (Integer y) h = h
arithmetic_types op (Fixed t) (Integer x) (Fixed y) h = h
arithmetic_types op (Fixed t) (Fixed x) (Integer y) h = h
arithmetic_types op (Fixed t) (Fixed x) (Fixed y) h = h

count_of : (y : Arithmetic) → IsIntegerKind y → IsSomeAnd (arithmetic_of (type_of y)) IsIntegerKind
count_of (Integer t) h = tt
count_of (Fixed t) h = absurd h

promoted_of : (x : Arithmetic) → IsPromoted x → IsSomeAnd (arithmetic_of (type_of x)) IsPromoted
promoted_of (Integer t) h = h
promoted_of (Fixed t) h = tt

-- the types of the operation of a compound assignment
update_typed : (op : BinOp) (x y : Arithmetic) → IsKnownType x → IsKnownType y → HaveCompoundArithmetic op x y
    → HaveOperationTypes op (type_of (update_types op x y).result) (type_of (update_types op x y).left)
    (type_of (update_types op x y).right)
update_typed Add x y kx ky h = inl (arithmetic_types Add (common x y) (converted_beside x y) (converted_beside y x)
    (usual_conversions.suit x y kx ky).usual)
update_typed Sub x y kx ky h = inl (arithmetic_types Sub (common x y) (converted_beside x y) (converted_beside y x)
    (usual_conversions.suit x y kx ky).usual)
update_typed Mul x y kx ky h = inl (arithmetic_types Mul (common x y) (factor_beside x y) (factor_beside y x)
    ((usual_conversions.suit x y kx ky).products h.0 h.1))
update_typed Div x y kx ky h = inl (arithmetic_types Div (common x y) (converted_beside x y) (converted_beside y x)
    (usual_conversions.suit x y kx ky).usual)
update_typed Rem x y kx ky h = inl (arithmetic_types Rem (common x y) (converted_beside x y) (converted_beside y x)
    ((usual_conversions.suit x y kx ky).integers h.0 h.1))
update_typed Shl x y kx ky h = let s = (usual_conversions.suit x y kx ky).shifted h in
    inr (inl (record { shift = tt; value = refl; left = promoted_of (promoted_type x) s.left; count = count_of y h }))
update_typed Shr x y kx ky h = let s = (usual_conversions.suit x y kx ky).shifted h in
    inr (inl (record { shift = tt; value = refl; left = promoted_of (promoted_type x) s.left; count = count_of y h }))
update_typed And x y kx ky h = inl (arithmetic_types And (common x y) (converted_beside x y) (converted_beside y x)
    ((usual_conversions.suit x y kx ky).integers h.0 h.1))
update_typed Or x y kx ky h = inl (arithmetic_types Or (common x y) (converted_beside x y) (converted_beside y x)
    ((usual_conversions.suit x y kx ky).integers h.0 h.1))
update_typed Xor x y kx ky h = inl (arithmetic_types Xor (common x y) (converted_beside x y) (converted_beside y x)
    ((usual_conversions.suit x y kx ky).integers h.0 h.1))
update_typed Lt x y kx ky h = absurd h
update_typed Gt x y kx ky h = absurd h
update_typed Le x y kx ky h = absurd h
update_typed Ge x y kx ky h = absurd h
update_typed Eq x y kx ky h = absurd h
update_typed Ne x y kx ky h = absurd h

-- the difference or comparison of pointers is an int
pointers_int : (op : BinOp) (P : Type 0) → HavePointerTypes op P → P
pointers_int Sub P h = h
pointers_int Lt P h = h
pointers_int Gt P h = h
pointers_int Le P h = h
pointers_int Ge P h = h
pointers_int Eq P h = h
pointers_int Ne P h = h
pointers_int Add P h = absurd h
pointers_int Mul P h = absurd h
pointers_int Div P h = absurd h
pointers_int Rem P h = absurd h
pointers_int Shl P h = absurd h
pointers_int Shr P h = absurd h
pointers_int And P h = absurd h
pointers_int Or P h = absurd h
pointers_int Xor P h = absurd h

-- the result of an operation is scalar
pub binary_result_scalar : (program : PlainProgram) (op : BinOp) (ty a b : PlainType) → IsExprType program a → IsExprType program b
    → IsExprType program ty → HaveBinaryTypes op ty a b → IsScalar ty
binary_result_scalar program op ty (integer s m) (integer t n) p q k h = arithmetic_scalar program ty _ k h
binary_result_scalar program op ty (integer s m) (fixed f t) p q k h = arithmetic_scalar program ty _ k h
binary_result_scalar program op ty (fixed e s) (integer t n) p q k h = arithmetic_scalar program ty _ k h
binary_result_scalar program op ty (fixed e s) (fixed f t) p q k h = arithmetic_scalar program ty _ k h
binary_result_scalar program op ty void void p q k h = arithmetic_scalar program ty _ k h
binary_result_scalar program op ty void (integer t n) p q k h = arithmetic_scalar program ty _ k h
binary_result_scalar program op ty void (fixed f t) p q k h = arithmetic_scalar program ty _ k h
binary_result_scalar program op ty (integer s m) void p q k h = arithmetic_scalar program ty _ k h
binary_result_scalar program op ty (fixed e s) void p q k h = arithmetic_scalar program ty _ k h
binary_result_scalar program op ty void (pointer s c t) p q k h = subst IsScalar (sym h.2) tt
binary_result_scalar program op ty (integer s m) (pointer t c u) p q k h = subst IsScalar (sym h.2) tt
binary_result_scalar program op ty (fixed e s) (pointer t c u) p q k h = subst IsScalar (sym h.2) tt
binary_result_scalar program op ty (pointer s c t) void p q k h = subst IsScalar (sym h.1) tt
binary_result_scalar program op ty (pointer s c t) (integer r n) p q k h = subst IsScalar (sym h.1) tt
binary_result_scalar program op ty (pointer s c t) (fixed f r) p q k h = subst IsScalar (sym h.1) tt
binary_result_scalar program op ty (pointer s c t) (pointer r d u) p q k h = let x = pointers_int op _ h in subst IsScalar (sym x.2)
    (inr (inl refl))
binary_result_scalar program op ty a (array t n) p q k h = absurd q
binary_result_scalar program op ty a (struct i) p q k h = absurd q
binary_result_scalar program op ty (array t n) b p q k h = absurd p
binary_result_scalar program op ty (struct i) b p q k h = absurd p

-- a pointer that is moved by a number of elements
moved_types : (op : BinOp) (s : SpaceId) (c : Bool) (t right : PlainType) → HaveOffsetTypes op right → HaveBinaryTypes op (pointer s c t)
    (pointer s c t) right
moved_types op s c t void h = absurd (offset_integer op void h)
moved_types op s c t (integer r n) h = (h, refl)
moved_types op s c t (fixed f r) h = absurd (offset_integer op (fixed f r) h)
moved_types op s c t (pointer r d u) h = absurd (offset_integer op (pointer r d u) h)
moved_types op s c t (array u n) h = absurd (offset_integer op (array u n) h)
moved_types op s c t (struct n) h = absurd (offset_integer op (struct n) h)

-- ---- constants

half_below : (w : ℕ) → 1 ≤ w → 2 ^ (w - 1) + 2 ^ (w - 1) ≡ 2 ^ w
half_below zero h = absurd (omega arith)
half_below (suc w) h = let e = pow-suc 2 w in let f : 2 ^ (suc w - 1) ≡ 2 ^ w = ap (λ (i : ℕ). 2 ^ i) (omega arith) in omega (arith, e, f)

bits_number : (s : Bool) (b : ℕ) (n : ℤ) → 1 ≤ b → IsWithin s (8 * b) n → IsNumberOf b n
bits_number true b n some i =
    let g = i.high in let e = half_below (8 * b) (omega (arith, some)) in let q = pow_pos (8 * b - 1) in
    record { low = i.low; high = omega (arith, ints, g, e, q) }
bits_number false b n some i = let l = i.low in let q = pow_pos (8 * b - 1) in record { low = omega (arith, ints, l, q); high = i.high }

pub kind_eight : (k : FxKind) → (format_of k).bits ≡ 8 * ((format_of k).bits / 8)
kind_eight ShortFract = refl
kind_eight Fract = refl
kind_eight LongFract = refl
kind_eight ShortAccum = refl
kind_eight Accum = refl
kind_eight LongAccum = refl
kind_eight UnsignedShortFract = refl
kind_eight UnsignedFract = refl
kind_eight UnsignedLongFract = refl
kind_eight UnsignedShortAccum = refl
kind_eight UnsignedAccum = refl
kind_eight UnsignedLongAccum = refl

number_ok : (ty : PlainType) (n : ℤ) → IsScalar ty → IsSomeAnd (arithmetic_of ty) (λ t. HoldsNumber t n) → IsNumberOf (scalar_size ty) n
number_ok void n i h = absurd h
number_ok (integer s b) n i h = bits_number s b n (scalar_bytes (integer s b) i).0 h.1
number_ok (fixed k s) n i h = bits_number (format_of k).signed ((format_of k).bits / 8) n (scalar_bytes (fixed k s) tt).0
    (subst (λ (w : ℕ). IsWithin (format_of k).signed w n) (kind_eight k) h)
number_ok (pointer s c t) n i h = absurd h
number_ok (array t m) n i h = absurd h
number_ok (struct m) n i h = absurd h

truth_ok : (ty : PlainType) (h : Bool) → ty ≡ int → IsNumberOf (scalar_size ty) (truth h)
truth_ok ty h e = subst (λ (z : PlainType). IsNumberOf (scalar_size z) (truth h)) (sym e) (number_ok int (truth h) (inr (inl refl))
    (truth_number h))

zero_ok : (b : ℕ) → 1 ≤ b → IsNumberOf b (pos 0)
zero_ok b some = let p = pow_pos (8 * b - 1) in let q = pow_pos (8 * b) in record {
  low = omega (arith, ints, p);
  high = omega (arith, ints, q);
}

-- the leaf of a scalar, wherever it stands
scalar_at : (structs : ℕ → Layout) (ty : PlainType) (at : ℕ) → IsScalar ty → slice_get ((type_layout structs ty).leaves_at at) 0 ≡ Some
    (record { ty = ty; at = at })
scalar_at structs void at i = absurd i
scalar_at structs (integer s b) at i = refl
scalar_at structs (fixed k s) at i = refl
scalar_at structs (pointer s c t) at i = refl
scalar_at structs (array t n) at i = absurd i
scalar_at structs (struct k) at i = absurd i

pub some_need : (e : PlainExpr) → 1 ≤ expr_need e
some_need (expression ty mode node) = omega arith

-- ---- the places of the operands of a port operation

-- what an operand that may be absent needs
abbrev operand_need : OptionPlainExpr → ℕ
operand_need no_expr = 0
operand_need (an_expr e) = expr_need e

first_place : (i w : OptionPlainExpr) (more : List ℕ) (t slots : ℕ)
    → t + max 1 (greatest_from 0 (option_needs i (option_needs w more))) ≤ slots → t + operand_need i ≤ slots
first_place no_expr w more t slots le = omega (arith, le)
first_place (an_expr e) w more t slots le = omega (arith, le)

second_place : (i w : OptionPlainExpr) (more : List ℕ) (t slots : ℕ)
    → t + max 1 (greatest_from 0 (option_needs i (option_needs w more))) ≤ slots → value_behind i t + operand_need w ≤ slots
second_place no_expr no_expr more t slots le = omega (arith, le)
second_place no_expr (an_expr e) more t slots le = omega (arith, le)
second_place (an_expr e) no_expr more t slots le = let need = some_need e in omega (arith, le, need)
second_place (an_expr e) (an_expr f) more t slots le = omega (arith, le)

-- the places that an operation takes
abbrev HasPlaces : PortAction → (slots t v : ℕ) → Type 0
HasPlaces reads slots t v = t < slots
HasPlaces writes slots t v = v < slots
HasPlaces updates slots t v = v + 1 < slots

port_places : (action : PortAction) (ty : PlainType) (i w : OptionPlainExpr) (t slots : ℕ) → IsOperandIf (not (is_read action)) ty w
    → t + max 1 (greatest_from 0 (option_needs i (option_needs w (if is_update action then 1 ∷ [] else [])))) ≤ slots
    → HasPlaces action slots t (value_behind i t)
port_places reads ty i w t slots h le = omega (arith, le)
port_places writes ty i no_expr t slots h le = absurd h
port_places writes ty no_expr (an_expr e) t slots h le = omega (arith, le)
port_places writes ty (an_expr i) (an_expr e) t slots h le = let need = some_need e in omega (arith, le, need)
port_places updates ty i no_expr t slots h le = absurd h
port_places updates ty no_expr (an_expr e) t slots h le = omega (arith, le)
port_places updates ty (an_expr i) (an_expr e) t slots h le = omega (arith, le)

-- ---- calls in the code

op_calls : (i : PlainIr) (code : List PlainIr) (g : ℕ) → Contains (called_in code) g → Contains (called_in (i ∷ code)) g
op_calls (constant t n) code g h = h
op_calls (copy to from) code g h = h
op_calls (address t o f) code g h = h
op_calls (field t s o) code g h = h
op_calls (load_at to ptr s) code g h = h
op_calls (store_at ptr s from) code g h = h
op_calls (load_object t o f) code g h = h
op_calls (store_object o f t) code g h = h
op_calls (binary_op op ty mode to a aty b bty) code g h = h
op_calls (unary_op op ty mode to a) code g h = h
op_calls (conversion to ty mode a aty) code g h = h
op_calls (label k) code g h = h
op_calls (jump k) code g h = h
op_calls (branch_zero t k) code g h = h
op_calls (call_function f to) code g h = (suc h.0, omega (arith, h.1), h.2)
op_calls (return_from t) code g h = h
op_calls (port_in t a i k) code g h = h
op_calls (port_out t a i k) code g h = h
op_calls (load_cell t d) code g h = h
op_calls (store_cell d t) code g h = h
op_calls (cell_port r t d a i k) code g h = h

called_at : (pre : List PlainIr) (g : ℕ) (to : Option Temp) (rest : List PlainIr) → Contains (called_in (pre ++ call_function g to ∷ rest))
    g
called_at [] g to rest = (0, omega arith, refl)
called_at (i ∷ pre) g to rest = op_calls i (pre ++ call_function g to ∷ rest) g (called_at pre g to rest)

-- the bytes of the result of a function
abbrev pub result_bytes : PlainProgram → ℕ → ℕ
result_bytes program g = unwrap_or (option_map (λ (h : PlainFunction). scalar_size h.returns) (slice_get program.functions g)) 0

address_scalar : (program : PlainProgram) (ty : PlainType) (q : PlainPlace) → IsAddressType program ty q → IsScalar ty
address_scalar program void q h = absurd h
address_scalar program (integer s b) q h = absurd h
address_scalar program (fixed k s) q h = tt
address_scalar program (pointer s k t) q h = tt
address_scalar program (array t n) q h = absurd h
address_scalar program (struct n) q h = absurd h

-- ---- the operations of a function

module _ (program : PlainProgram) (table : IoTable) (valid : Valid program table) (pairs : GroupsHaveBytes table) (f : ℕ) (slots : ℕ)
    (all : List PlainIr) (once : (j : ℕ) → count j all ≤ 1) where
  abbrev results : ℕ → ℕ
  results g = result_bytes program g

  abbrev Good : PlainIr → Type 0
  Good i = ValidOperation (length table.dynamics.items) (lowered program (plain_table table)) results f slots all i

  abbrev AllGood : List PlainIr → Type 0
  AllGood code = AllByRecursion Good code

  pub label_once : (l : ℕ) (rest : List PlainIr) → Stands all (label l ∷ rest) → count l all ≡ 1
  label_once l rest s = let x = once l in let y : 1 ≤ count l all = subst (λ (c : List PlainIr). 1 ≤ count l c) (sym s.1)
      (counted s.0 l rest) in omega (arith, x, y)

  pub temp_ok : (t : ℕ) (ty : PlainType) → t < slots → IsScalar ty → IsTemp slots (temp t ty)
  temp_ok t ty lt i = let b = scalar_bytes ty i in record { within = lt; some = b.0; most = omega (arith, b) }

  of_ok : (t : ℕ) (ty : PlainType) → t < slots → IsScalar ty → IsExprType program ty
      → IsTempOf (data_of (lowered program (plain_table table))) slots ty (temp t ty)
  of_ok t ty lt i k = record { temp = temp_ok t ty lt i; scalar = i; known = k; bytes = refl }

  arithmetic_ok : (t : ℕ) (z : Arithmetic) → t < slots → IsKnownType z → IsTempOf (data_of (lowered program (plain_table table))) slots
      (type_of z) (temp t (type_of z))
  arithmetic_ok t z lt k = of_ok t (type_of z) lt (type_scalar z k) (type_is_known program z k)

  abbrev dataset : PlainProgram
  dataset = data_of (lowered program (plain_table table))

  pointer_ok : (t : ℕ) (space : SpaceId) (const : Bool) (to : PlainType) → t < slots → IsPointerTemp slots space
      (temp t (pointer space const to))
  pointer_ok t space const to lt = record { temp = temp_ok t (pointer space const to) lt tt; bytes = refl }

  -- a part of an object has a leaf of its type
  leaf_ok : (ty : PlainType) (offset : ℕ) (x : PlainObject) → IsScalar ty
      → ((k : ℕ) (leaf : PlainLeaf) → slice_get ((layout_of program table valid f ty).leaves_at (0 + offset)) k ≡ Some leaf
      → (j : ℕ) × (slice_get (leaves_of_type program.structs x.ty) j ≡ Some leaf)) → HasLeafOf dataset x offset (scalar_size ty)
  leaf_ok ty offset x i leaves =
      let j = leaves 0 (record { ty = ty; at = 0 + offset }) (scalar_at (struct_layouts program.structs) ty (0 + offset) i) in
      record { k = j.0; leaf = record { ty = ty; at = 0 + offset }; is = j.1; at = omega arith; size = refl }

  load_ok : (q : PlainPlace) (t v : ℕ) (ty : PlainType) → v < slots → t < slots → IsScalar ty → Part program table valid f q t ty
      → Good (load_from (temp v ty) (site program q t))
  load_ok q t v ty lv lt i (of_object o offset x is found mine space free needs none bytes leaves) =
      subst (λ z. Good (load_from (temp v ty) z)) (sym is) (
        temp_ok v ty lv i,
        some_is (slice_get program.objects o) (λ x. IsNamedIn f x.storage × HasLeafOf dataset x offset (scalar_size ty)) x
            found (mine, leaf_ok ty offset x i leaves),
      )
  load_ok q t v ty lv lt i (of_pointer space const to is needs some home) = subst (λ z. Good (load_from (temp v ty) z)) (sym is)
      (temp_ok v ty lv i, pointer_ok t space const to lt)

  store_ok : (q : PlainPlace) (t v : ℕ) (ty : PlainType) → v < slots → t < slots → IsScalar ty → Part program table valid f q t ty
      → Good (store_to (site program q t) (temp v ty))
  store_ok q t v ty lv lt i (of_object o offset x is found mine space free needs none bytes leaves) =
      subst (λ z. Good (store_to z (temp v ty))) (sym is) (
        temp_ok v ty lv i,
        some_is (slice_get program.objects o)
            (λ x. (IsNamedIn f x.storage ⊎ IsParameterOf (called_in all) x.storage) × HasLeafOf dataset x offset (scalar_size ty)) x found
            (inl mine, leaf_ok ty offset x i leaves),
      )
  store_ok q t v ty lv lt i (of_pointer space const to is needs some home) = subst (λ z. Good (store_to z (temp v ty))) (sym is)
      (pointer_ok t space const to lt, temp_ok v ty lv i)

  further_ok : (q : PlainPlace) (k t : ℕ) (ty : PlainType) (rest : List PlainIr) → t + place_need q ≤ slots
      → Part program table valid f q t ty → AllGood rest → AllGood (further_code k (site program q t) rest)
  further_ok q k t ty rest le (of_object o offset x is found mine space free needs none bytes leaves) r =
      subst (λ z. AllGood (further_code k z rest)) (sym is) r
  further_ok q k t ty rest le (of_pointer space const to is needs some home) r = subst (λ z. AllGood (further_code k z rest)) (sym is)
      (pointer_ok t space const to (omega (arith, le, some)), r)

  settled_ok : (q : PlainPlace) (t : ℕ) (ty at_ty : PlainType) (rest : List PlainIr) → value_place (site program q t) t < slots
      → IsScalar ty → Part program table valid f q t at_ty → AllGood rest → AllGood (settled_code (site program q t) ty t rest)
  settled_ok q t ty at_ty rest lt i (of_object o offset x is found mine space free needs none bytes leaves) r =
      subst (λ z. AllGood (settled_code z ty t rest)) (sym is) r
  settled_ok q t ty at_ty rest lt i (of_pointer space const to is needs some home) r =
      let v : value_place (site program q t) t ≡ t + 1 = ap (λ z. value_place z t) is in
      subst (λ z. AllGood (settled_code z ty t rest)) (sym is) (
        (
          temp_ok t ty (omega (arith, lt, v)) i,
          temp_ok (t + 1) ty (omega (arith, lt, v)) i,
          refl,
        ),
        r,
      )

  -- an address of an object, in a space that its home is in
  home_ok : (o : ℕ) (x : PlainObject) (q : PlainPlace) (ty : PlainType) → slice_get program.objects o ≡ Some x
      → place_space program q ≡ Some x.space → IsAddressType program ty q → HasPointersOf x (scalar_size ty)
  home_ok o x q void found space h = absurd h
  home_ok o x q (integer s b) found space h = absurd h
  home_ok o x q (fixed k s) found space h = absurd h
  home_ok o x q (pointer s k t) found space h =
      let e : Some x.space ≡ Some s = sym space ∙ h.0 in
      let g : x.space ≡ s = cc in
      record {
        space = s;
        home = subst (λ (z : SpaceId). IsTrue (holds z x.home)) g
            (all_at (IsObject program) program.objects o x valid.objects found).home;
        bytes = refl;
      }
  home_ok o x q (array t n) found space h = absurd h
  home_ok o x q (struct n) found space h = absurd h

  address_ok : (q : PlainPlace) (t : ℕ) (ty to : PlainType) (rest : List PlainIr) → t < slots → IsScalar ty → IsAddressType program ty q
      → HasAddress program q → Part program table valid f q t to → AllGood rest → AllGood (address_code (site program q t) ty t rest)
  address_ok q t ty to rest lt i tp h (of_object o offset x is found mine space free needs none bytes leaves) r =
      subst (λ z. AllGood (address_code z ty t rest)) (sym is) (
        (
          temp_ok t ty lt i,
          some_is (slice_get program.objects o)
              (λ x. IsNamedIn f x.storage × IsAddressable x.storage × (offset ≤ size_of_type program.structs x.ty) × HasPointersOf x
              (scalar_size ty)) x found (mine, free h, omega (arith, bytes), home_ok o x q ty found space tp),
        ),
        r,
      )
  address_ok q t ty to rest lt i tp h (of_pointer space const u is needs some home) r = subst (λ z. AllGood (address_code z ty t rest))
      (sym is) r

  -- a branch on a condition
  branch_to_ok : (to : Branch) (t : ℕ) (ty : PlainType) (rest : List PlainIr) → t < slots → IsScalar ty → count (branch_label to) all ≡ 1
      → Stands all (branch_to to (temp t ty) rest) → AllGood rest → AllGood (branch_to to (temp t ty) rest)
  branch_to_ok (where_zero to) t ty rest lt i one s r = ((temp_ok t ty lt i, one), r)
  branch_to_ok (where_not to past) t ty rest lt i one s r =
      ((temp_ok t ty lt i, label_once past rest (behind all _ _ (behind all _ _ s))), (one, (tt, r)))

  zero_ok_at : (to : Branch) (l : ℕ) (rest : List PlainIr) → count (branch_label to) all ≡ 1 → Stands all (and_end to l rest)
      → count (zero_label to l) all ≡ 1
  zero_ok_at (where_zero to) l rest one s = one
  zero_ok_at (where_not to past) l rest one s = label_once l rest s

  other_ok_at : (to : Branch) (l : ℕ) (rest : List PlainIr) → count (branch_label to) all ≡ 1 → Stands all (or_end to l rest)
      → count (other_label to l) all ≡ 1
  other_ok_at (where_zero to) l rest one s = label_once l rest s
  other_ok_at (where_not to past) l rest one s = one

  opposite_ok : (to : Branch) (l : ℕ) → count (branch_label to) all ≡ 1 → count (branch_label (opposite to l)) all ≡ 1
  opposite_ok (where_zero to) l one = one
  opposite_ok (where_not to past) l one = one

  and_end_ok : (to : Branch) (l : ℕ) (rest : List PlainIr) → AllGood rest → AllGood (and_end to l rest)
  and_end_ok (where_zero to) l rest r = r
  and_end_ok (where_not to past) l rest r = (tt, r)

  or_end_ok : (to : Branch) (l : ℕ) (rest : List PlainIr) → AllGood rest → AllGood (or_end to l rest)
  or_end_ok (where_zero to) l rest r = (tt, r)
  or_end_ok (where_not to past) l rest r = r

  truths_ok : (h : Bool) (ty : PlainType) (l t : ℕ) (rest : List PlainIr) → ty ≡ int → t < slots → Stands all (truth_code h ty l t rest)
      → AllGood rest → AllGood (truth_code h ty l t rest)
  truths_ok h ty l t rest e lt s r =
      let i = subst IsScalar (sym e) (inr (inl refl)) in
      let end = label_once (l + 1) rest (behind all _ _ (behind all _ _ (behind all _ _ (behind all _ _ s)))) in
      ((temp_ok t ty lt i, truth_ok ty h e), (end, (tt, ((temp_ok t ty lt i, truth_ok ty (not h) e), (tt, r)))))

  updates_ok : (op : BinOp) (own mode : Mode) (ty right : PlainType) (to : Site) (t : ℕ) (rest : List PlainIr) → IsNumeric ty → IsScalar ty
      → IsExprType program ty → IsNumeric right → IsScalar right → IsExprType program right → HaveCompoundArithmetic op (number_type ty)
      (number_type right) → t + 1 < slots → Good (store_to to (temp t ty)) → AllGood rest
      → AllGood (update_code op (update_types op (number_type ty) (number_type right)) own mode ty to t right rest)
  updates_ok op own mode ty right to t rest num i k rnum ri rk h lt store r =
      let ts = update_types op (number_type ty) (number_type right) in
      let known = update_known own (number_type ty) (number_type right) (place_known ty num i) (place_known right rnum ri) op h in
      let typed = update_typed op (number_type ty) (number_type right) (place_known ty num i) (place_known right rnum ri) h in (
        (
          arithmetic_ok t ts.left (omega (arith, lt)) known.left,
          of_ok t ty (omega (arith, lt)) i k,
          numbers_convert (type_of ts.left) ty
              (type_numeric ts.left) num,
        ),
        (
          (
            arithmetic_ok (t + 1) ts.right lt known.right,
            of_ok (t + 1) right lt ri rk,
            numbers_convert (type_of ts.right) right
                (type_numeric ts.right) rnum,
          ),
          (
            (
              arithmetic_ok t ts.result (omega (arith, lt)) known.result,
              arithmetic_ok t ts.left (omega (arith, lt)) known.left,
              arithmetic_ok (t + 1) ts.right lt known.right,
              typed,
            ),
            (
              (
                of_ok t ty (omega (arith, lt)) i k,
                arithmetic_ok t ts.result (omega (arith, lt)) known.result,
                numbers_convert ty (type_of ts.result) num (type_numeric ts.result),
              ),
              (store, r),
            ),
          ),
        ),
      )

  keeping_ok : (op : BinOp) (mode : Mode) (ty : PlainType) (to : Site) (t : ℕ) (rest : List PlainIr) → IsNumeric ty → IsScalar ty
      → IsExprType program ty → HaveCompoundArithmetic op (number_type ty) (number_type int) → t + 1 < slots
      → Good (store_to to (temp (t + 1) ty)) → AllGood rest
      → AllGood (keeping_code op (update_types op (number_type ty) (number_type int)) mode ty to t int rest)
  keeping_ok op mode ty to t rest num i k h lt store r =
      let ts = update_types op (number_type ty) (number_type int) in
      let known = update_known mode (number_type ty) (number_type int) (place_known ty num i) (inr (inl refl)) op h in
      let typed = update_typed op (number_type ty) (number_type int) (place_known ty num i) (inr (inl refl)) h in (
        (
          arithmetic_ok t ts.left (omega (arith, lt)) known.left,
          of_ok t ty (omega (arith, lt)) i k,
          numbers_convert (type_of ts.left) ty
              (type_numeric ts.left) num,
        ),
        (
          (
            arithmetic_ok (t + 1) ts.right lt known.right,
            of_ok (t + 1) int lt (inr (inl refl)) (inr (inl refl)),
            numbers_convert (type_of ts.right) int (type_numeric ts.right) tt,
          ),
          (
            (
              arithmetic_ok (t + 1) ts.result lt known.result,
              arithmetic_ok t ts.left (omega (arith, lt)) known.left,
              arithmetic_ok (t + 1) ts.right lt known.right,
              typed,
            ),
            (
              (
                of_ok (t + 1) ty lt i k,
                arithmetic_ok (t + 1) ts.result lt known.result,
                numbers_convert ty (type_of ts.result) num
                    (type_numeric ts.result),
              ),
              (
                store,
                (
                  (
                    of_ok t ty (omega (arith, lt)) i k,
                    arithmetic_ok t ts.left (omega (arith, lt)) known.left,
                    numbers_convert ty (type_of ts.left) num (type_numeric ts.left),
                  ),
                  r,
                ),
              ),
            ),
          ),
        ),
      )

  change_ok : (op : BinOp) (own mode : Mode) (ty right : PlainType) (to : Site) (t : ℕ) (rest : List PlainIr) → IsScalar ty
      → IsExprType program ty → IsExprType program right → HaveCompoundTypes op ty right → t + 1 < slots → Good (store_to to (temp t ty))
      → AllGood rest → AllGood (change_code op own mode ty to t right rest)
  change_ok op own mode void right to t rest i k rk h lt store r = absurd i
  change_ok op own mode (integer g w) right to t rest i k rk h lt store r = let x = compound_facts program op (integer g w) right tt rk h in
      updates_ok op own mode (integer g w) right to t rest tt i k x.0 x.1 rk x.2 lt store r
  change_ok op own mode (fixed z g) right to t rest i k rk h lt store r = let x = compound_facts program op (fixed z g) right tt rk h in
      updates_ok op own mode (fixed z g) right to t rest tt i k x.0 x.1 rk x.2 lt store r
  change_ok op own mode (pointer s c u) right to t rest i k rk h lt store r =
      let ty = pointer s c u in
      let at_t = of_ok t ty (omega (arith, lt)) tt k in
      ((at_t, at_t, of_ok (t + 1) right lt (compound_right program op ty right tt rk h) rk, inl (moved_types op s c u right h)), (store, r))
  change_ok op own mode (array u n) right to t rest i k rk h lt store r = absurd i
  change_ok op own mode (struct n) right to t rest i k rk h lt store r = absurd i

  postfix_ok : (up : Bool) (mode : Mode) (ty : PlainType) (to : Site) (t : ℕ) (rest : List PlainIr) → IsScalar ty → IsExprType program ty
      → t + 1 < slots → Good (store_to to (temp (t + 1) ty)) → AllGood rest → AllGood (postfix_code (step_operator up) mode ty to t rest)
  postfix_ok up mode void to t rest i k lt store r = absurd i
  postfix_ok up mode (integer g w) to t rest i k lt store r = keeping_ok (step_operator up) mode (integer g w) to t rest tt i k
      (step_arithmetic up (number_type (integer g w))) lt store r
  postfix_ok up mode (fixed z g) to t rest i k lt store r = keeping_ok (step_operator up) mode (fixed z g) to t rest tt i k
      (step_arithmetic up (number_type (fixed z g))) lt store r
  postfix_ok up mode (pointer s c u) to t rest i k lt store r =
      let ty = pointer s c u in (
        (
          of_ok (t + 1) ty lt tt k,
          of_ok t ty (omega (arith, lt)) tt k,
          of_ok (t + 1) int lt (inr (inl refl)) (inr (inl refl)),
          inl (moved_types (step_operator up) s c u int (step_types up ty tt)),
        ),
        (store, r),
      )
  postfix_ok up mode (array u n) to t rest i k lt store r = absurd i
  postfix_ok up mode (struct n) to t rest i k lt store r = absurd i

  steps_ok : (prefix up : Bool) (mode : Mode) (ty : PlainType) (to : Site) (t : ℕ) (rest : List PlainIr) → IsScalar ty
      → IsExprType program ty → t + 1 < slots → Good (store_to to (temp (stepped_place prefix t) ty)) → AllGood rest
      → AllGood (step_code prefix (step_operator up) mode ty to t rest)
  steps_ok true up mode ty to t rest i k lt store r = change_ok (step_operator up) mode mode ty int to t rest i k (inr (inl refl))
      (step_types up ty i) lt store r
  steps_ok false up mode ty to t rest i k lt store r = postfix_ok up mode ty to t rest i k lt store r

  stepped_within : (prefix : Bool) (v : ℕ) → v + 1 < slots → stepped_place prefix v < slots
  stepped_within true v lt = omega (arith, lt)
  stepped_within false v lt = lt

  -- the step of a place, from its old value on
  stepping_ok : (up prefix : Bool) (mode : Mode) (ty : PlainType) (q : PlainPlace) (t : ℕ) (rest : List PlainIr) → IsScalar ty
      → IsExprType program ty → Part program table valid f q t ty → HasRoom program table valid f q t (1 ∷ 1 ∷ []) slots → AllGood rest
      → AllGood (stepping_code up prefix mode ty (site program q t) t rest)
  stepping_ok up prefix mode ty q t rest i k pt rm r =
      let st = site program q t in
      let u = value_place st t in
      let others = rm.others in
      let above : u + 1 < slots = omega (arith, others) in (
        load_ok q t u ty (omega (arith, above)) rm.one i pt,
        (
          (temp_ok (u + 1) int above (inr (inl refl)), truth_ok int true refl),
          steps_ok prefix up mode ty st u (settled_code st ty t rest) i k above
              (store_ok q t (stepped_place prefix u) ty (stepped_within prefix u above) rm.one i pt)
              (settled_ok q t ty ty rest (omega (arith, above)) i pt r),
        ),
      )

  -- arguments are stored to the parameters of the function that is called
  params_ok : (g : ℕ) (os : List ℕ) (es : PlainExprs) (t k : ℕ) (rest : List PlainIr) → Contains (called_in all) g
      → AllByRecursion (λ o. IsSomeAnd (slice_get program.objects o) (λ x. x.storage ≡ param g)) os → AreArguments program os es
      → ((o : ℕ) (x : PlainObject) → slice_get program.objects o ≡ Some x → x.storage ≡ param g → IsScalar x.ty)
      → t + greatest_from k (exprs_needs es) ≤ slots → AllGood rest → AllGood (params_code os es (t + k) rest)
  params_ok g [] es t k rest c ps args sc le r = r
  params_ok g (o ∷ os) last_expr t k rest c ps args sc le r = r
  params_ok g (o ∷ os) (next_expr e es) t k rest c ps args sc le r =
      let x = some_and (slice_get program.objects o) (λ x. x.storage ≡ param g) ps.0 in
      let same : Some x.0.ty ≡ Some (type_of_expr e) = sym (ap (option_map (λ (q : PlainObject). q.ty)) x.1) ∙ args.0 in
      let is : x.0.ty ≡ type_of_expr e = cc in
      let scalar = sc o x.0 x.1 x.2 in
      let need = some_need e in
      let leaf : HasLeafOf (data_of (lowered program (plain_table table))) x.0 0 (scalar_size (type_of_expr e)) =
      record {
        k = 0;
        leaf = record { ty = x.0.ty; at = 0 };
        is = scalar_leaf program x.0.ty scalar;
        at = refl;
        size = ap scalar_size is;
      } in (
        (
          temp_ok (t + k) (type_of_expr e) (omega (arith, need, le)) (subst IsScalar is scalar),
          some_is (slice_get program.objects o) (λ x. (IsNamedIn f x.storage ⊎ IsParameterOf (called_in all) x.storage) × HasLeafOf
              (data_of (lowered program (plain_table table))) x 0 (scalar_size (type_of_expr e))) x.0 x.1
              (inr (record { function = g; is = x.2; named = c }), leaf),
        ),
        subst (λ (u : ℕ). AllGood (params_code os es u rest)) (let z : t + (k + 1) ≡ t + k + 1 = omega arith in z)
            (params_ok g os es t (k + 1) rest c ps.1 args.1 sc (omega (arith, le)) r),
      )

  -- ---- ports

  index_ok : (indexed : Bool) (i : OptionPlainExpr) (t : ℕ) → IsOperandIf indexed unsigned_int i → t < slots
      → IsIndex slots (operand_temp i t)
  index_ok true no_expr t h lt = absurd h
  index_ok true (an_expr e) t h lt = (temp_ok t (type_of_expr e) lt (subst IsScalar (sym h) (inr (inl refl))), ap scalar_size h)
  index_ok false no_expr t h lt = tt
  index_ok false (an_expr e) t h lt = absurd h

  value_scalar : (long : Bool)
      → IsScalar (if long then unsigned_long else unsigned_int) × IsExprType program (if long then unsigned_long else unsigned_int)
  value_scalar true = (inr (inr refl), inr (inr refl))
  value_scalar false = (inr (inl refl), inr (inl refl))

  width_ok : (long : Bool) (port : PlainPort) (t : ℕ) → IsOperated (plain_table table) long port → t < slots
      → IsPortWidth slots (temp t (if long then unsigned_long else unsigned_int)) port.width
  width_ok long port t i lt = record {
    temp = temp_ok t (if long then unsigned_long else unsigned_int) lt (value_scalar long).0;
    width = i.width;
    within = fits_in long port i.width i.four;
  }

  -- the cell of its dynamic group is one of the table's
  cell_ok : (d : ℕ) → d < length (plain_table table).dynamics → d < length table.dynamics.items
  cell_ok d lt = let e = length-map table.dynamics.items plain_dynamic in omega (arith, lt, e)

  read_ok : (dynamic : Option ℕ) → IfSome dynamic (λ d. d < length (plain_table table).dynamics) → (to : Temp) (offset width : ℕ)
      (index : Option Temp) → IsPortWidth slots to width → IsIndex slots index → Good (read_from dynamic to offset index width)
  read_ok None lt to offset width index w x = (w, x)
  read_ok (Some d) lt to offset width index w x = (cell_ok d lt, w, x)

  write_ok : (dynamic : Option ℕ) → IfSome dynamic (λ d. d < length (plain_table table).dynamics) → (from : Temp) (offset width : ℕ)
      (index : Option Temp) → IsPortWidth slots from width → IsIndex slots index → Good (write_to dynamic from offset index width)
  write_ok None lt from offset width index w x = (w, x)
  write_ok (Some d) lt from offset width index w x = (cell_ok d lt, w, x)

  port_ok : (action : PortAction) (op : IoOp) (long : Bool) (mode : Mode) (port : PlainPort) (index : Option Temp) (t v : ℕ)
      (rest : List PlainIr)
      → IsOperated (plain_table table) long port → IsIndex slots index → HasPlaces action slots t v → AllGood rest
      → AllGood (port_code action (port_operator op) (if long then unsigned_long else unsigned_int) mode port index t v rest)
  port_ok reads op long mode port index t v rest i x lt r =
      (read_ok port.dynamic i.dynamic _ port.address port.width index (width_ok long port t i lt) x, r)
  port_ok writes op long mode port index t v rest i x lt r =
      (write_ok port.dynamic i.dynamic _ port.address port.width index (width_ok long port v i lt) x, r)
  port_ok updates op long mode port index t v rest i x lt r =
      let ty = if long then unsigned_long else unsigned_int in
      let k = value_scalar long in
      let at_v = of_ok v ty (omega (arith, lt)) k.0 k.1 in
      let above = of_ok (v + 1) ty lt k.0 k.1 in
      let w = width_ok long port (v + 1) i lt in (
        read_ok port.dynamic i.dynamic _ port.address port.width index w x,
        (
          (above, above, at_v, inl (operator_typed op long)),
          (write_ok port.dynamic i.dynamic _ port.address port.width index w x, r),
        ),
      )

  access_ok : (op : IoOp) (mode : Mode) (port : Option PlainPort) (i : OptionPlainExpr) (t : ℕ) (rest : List PlainIr)
      → AreOperated (plain_table table) (port_operation op).long port → IsIndex slots (operand_temp i t)
      → HasPlaces (port_operation op).action slots t
      (value_behind i t) → AllGood rest
      → AllGood (access_code op mode port i t rest)
  access_ok op mode None i t rest h x lt r = r
  access_ok op mode (Some port) i t rest h x lt r =
      port_ok (port_operation op).action op (port_operation op).long mode port (operand_temp i t) t (value_behind i t) rest
      (h port refl) x lt r

  pairs_ok : (ps : List Pair) (t : ℕ) (rest : List PlainIr) → AllByRecursion IsBytePair ps → t < slots → AllGood rest
      → AllGood (pairs_code ps t rest)
  pairs_ok [] t rest h lt r = r
  pairs_ok (p ∷ ps) t rest h lt r =
      let byte = temp_ok t byte_type lt (inl refl) in
      let small = h.0.1 in
      let n : IsNumberOf 1 (pos p.byte) = record { low = omega (arith, ints); high = omega (arith, ints, small) } in
      ((byte, n), ((record { temp = byte; width = inl refl; within = omega arith }, tt), pairs_ok ps t rest h.1 lt r))

  group_ok : (acquire : Bool) (x : Option PlainGroup) (t : ℕ) (rest : List PlainIr) → ArePairs x → t < slots → AllGood rest
      → AllGood (group_code acquire x t rest)
  group_ok acquire None t rest h lt r = r
  group_ok acquire (Some x) t rest h lt r = pairs_ok (pairs_of acquire x) t rest (h x refl acquire) lt r

  -- a base in a temporary
  base_ok : (t : ℕ) (c : Choice) → t < slots → HasByteBase c → Good (constant (temp t byte_type) (pos c.base))
  base_ok t c lt small = (temp_ok t byte_type lt (inl refl), record { low = omega (arith, ints); high = omega (arith, ints, small) })

  bind_ok : (d k t : ℕ) (rest : List PlainIr) → t < slots → AllGood rest
      → AllGood (bind_code d (slice_get (choices_of (plain_table table) d) k) t rest)
  bind_ok d k t rest lt r = by_choice (slice_get (choices_of (plain_table table) d) k) refl
    where
      by_choice : (o : Option Choice) → slice_get (choices_of (plain_table table) d) k ≡ o → AllGood (bind_code d o t rest)
      by_choice None e = r
      by_choice (Some c) e =
          let all_choices = are_choices table valid.ports pairs d in
          let small : HasByteBase c = all_at HasByteBase (choices_of (plain_table table) d) k c all_choices.bytes e in (
            base_ok t c lt small,
            (
              record {
                within = group_within table d k c e;
                temp = temp_ok t byte_type lt (inl refl);
                byte = refl;
              },
              r,
            ),
          )

  choices_ok : (acquire : Bool) (mode : Mode) (d : ℕ) (cs : List Choice) (l t : ℕ) (rest : List PlainIr)
      → d < length table.dynamics.items → AllByRecursion HasByteBase cs → t + 1 < slots
      → Stands all (choices_code acquire (plain_table table) mode d cs l t rest) → AllGood rest
      → AllGood (choices_code acquire (plain_table table) mode d cs l t rest)
  choices_ok acquire mode d [] l t rest lt bytes le s r = r
  choices_ok acquire mode d (c ∷ []) l t rest lt bytes le s r =
      group_ok acquire (slice_get (plain_table table).groups c.group) t rest (group_pairs table pairs c.group) (omega (arith, le)) r
  choices_ok acquire mode d (c ∷ other ∷ cs) l t rest lt bytes le s r =
      let after_group : List PlainIr = label (l + 1) ∷ rest in
      let own = group_code acquire (slice_get (plain_table table).groups c.group) t after_group in
      let miss : List PlainIr = jump (l + 1) ∷ label l ∷ own in
      let others = choices_code acquire (plain_table table) mode d (other ∷ cs) (l + 2) t miss in
      let s1 = test_behind_base program (plain_table table) all mode d c.base l t others s in
      let s2 = behind all _ _ (choices_behind program (plain_table table) all acquire mode d (other ∷ cs) (l + 2) t miss s1) in
      let s3 = group_behind program (plain_table table) all acquire (slice_get (plain_table table).groups c.group) t after_group
      (behind all _ _ s2) in
      let at_t = of_ok t byte_type (omega (arith, le)) (inl refl) (inl refl) in
      let above = of_ok (t + 1) byte_type le (inl refl) (inl refl) in
      let bits : HaveBitTypes Xor byte_type byte_type byte_type =
      record { bitwise = refl; integer = tt; left = refl; right = refl } in (
        record { within = lt; temp = at_t.temp; byte = refl },
        (
          base_ok (t + 1) c le bytes.0,
          (
            (at_t, at_t, above, inr (inr bits)),
            (
              (at_t.temp, label_once l own s2),
              choices_ok acquire mode d (other ∷ cs) (l + 2) t miss lt bytes.1 le s1 (
                label_once (l + 1) rest s3,
                (
                  tt,
                  group_ok acquire (slice_get (plain_table table).groups c.group) t after_group (group_pairs table pairs c.group)
                      (omega (arith, le)) (tt, r),
                ),
              ),
            ),
          ),
        ),
      )

  -- the result of a call has the bytes of the function's
  result_ok : (g t : ℕ) (ty : PlainType) (h : PlainFunction) → slice_get program.functions g ≡ Some h → ty ≡ h.returns
      → IsExprType program ty → t < slots → (g < length (lowered program (plain_table table)).functions) × IsResult
      (length table.dynamics.items) (lowered program (plain_table table)) results f slots all g (result_temp t ty)
  result_ok g t ty h e same k lt = (within, by_type ty k same)
    where
      within : g < length (lowered program (plain_table table)).functions
      within = let x = slice_get_within program.functions g h e in let y = length-map program.functions
          (lowered_function program (plain_table table)) in omega (arith, x, y)

      bytes : results g ≡ scalar_size h.returns
      bytes = ap (λ z. unwrap_or (option_map (λ (h : PlainFunction). scalar_size h.returns) z) 0) e

      by_type : (ty : PlainType) → IsExprType program ty → ty ≡ h.returns → IsResult (length table.dynamics.items)
          (lowered program (plain_table table)) results f slots all g (result_temp t ty)
      by_type void k same = tt
      by_type (integer s b) k same = (temp_ok t (integer s b) lt k, ap scalar_size same ∙ sym bytes)
      by_type (fixed q s) k same = (temp_ok t (fixed q s) lt tt, ap scalar_size same ∙ sym bytes)
      by_type (pointer s c q) k same = (temp_ok t (pointer s c q) lt tt, ap scalar_size same ∙ sym bytes)
      by_type (array q n) k same = absurd k
      by_type (struct i) k same = absurd k

  parameters : (g : ℕ) (h : PlainFunction) → slice_get program.functions g ≡ Some h
      → AllByRecursion (λ o. IsSomeAnd (slice_get program.objects o) (λ x. x.storage ≡ param g)) h.params
  parameters g h e = (subst (λ (k : ℕ). IsFunction program table k h) (let z : 0 + g ≡ g = omega arith in z)
      (each_at (IsFunction program table) 0 program.functions g h valid.functions e)).params

  mutual
    pub expr_ok : (e : PlainExpr) (l t : ℕ) (rest : List PlainIr) → ValidExpr program table f e → t + expr_need e ≤ slots
        → Stands all (expr_code program (plain_table table) e l t rest) → AllGood rest
        → AllGood (expr_code program (plain_table table) e l t rest)
    expr_ok (expression ty mode node) l t rest v le s r = node_ok ty mode node l t rest v.0 v.1 v.2 le s r

    node_ok : (ty : PlainType) (mode : Mode) (node : PlainNode) (l t : ℕ) (rest : List PlainIr) → IsExprType program ty
        → IsTyped program table ty node → ValidParts program table f node → t + expr_need (expression ty mode node) ≤ slots
        → Stands all (node_code program (plain_table table) ty mode node l t rest) → AllGood rest
        → AllGood (node_code program (plain_table table) ty mode node l t rest)
    node_ok ty mode (number n) l t rest k tp v le s r = let i = arithmetic_scalar program ty _ k tp in
        ((temp_ok t ty (omega (arith, le)) i, number_ok ty n i tp), r)
    node_ok ty mode null l t rest k tp v le s r =
        let i = pointer_scalar ty _ (some_and (pointee ty) (λ t. ⊤) tp).1 in
        ((temp_ok t ty (omega (arith, le)) i, zero_ok (scalar_size ty) (scalar_bytes ty i).0), r)
    node_ok ty mode (load q) l t rest k tp v le s r =
        let pt = part program table valid f q t ty tp.1 v in
        let rm = room program table valid f q t ty [] slots pt le in
        place_ok q l t (load_from (temp t ty) (site program q t) ∷ rest) ty tp.1 v rm.pointer s (load_ok q t t ty rm.one rm.one tp.0 pt, r)
    node_ok ty mode (address_of q) l t rest k tp v le s r =
        let g = address_typed program ty q tp in
        let pt = part program table valid f q t g.0 g.1 v.0 in
        let rm = room program table valid f q t g.0 [] slots pt le in
        place_ok q l t (address_code (site program q t) ty t rest) g.0 g.1 v.0 rm.pointer s
        (address_ok q t ty g.0 rest rm.one (address_scalar program ty q tp) tp v.1 pt r)
    node_ok ty mode (unary op a) l t rest k tp v le s r =
        let i = arithmetic_scalar program ty _ k tp.1 in let o = of_ok t ty (omega (arith, le)) i k in
        expr_ok a l t (unary_op op ty mode (temp t ty) (temp t ty) ∷ rest) v (omega (arith, le)) s ((o, o, tp.1), r)
    node_ok ty mode (binary op a b) l t rest k tp v le s r =
        let q : List PlainIr = binary_op op ty mode (temp t ty) (temp t (type_of_expr a)) (type_of_expr a) (temp (t + 1) (type_of_expr b))
        (type_of_expr b) ∷ rest in
        let ka = type_known program table f a v.0 in let kb = type_known program table f b v.1 in
        let sides = binary_scalars program op ty (type_of_expr a) (type_of_expr b) ka kb tp in
        let i = binary_result_scalar program op ty (type_of_expr a) (type_of_expr b) ka kb k tp in
        let need = some_need b in
        expr_ok a l t (expr_code program (plain_table table) b (l + expr_labels a) (t + 1) q) v.0 (omega (arith, le)) s
        (expr_ok b (l + expr_labels a) (t + 1) q v.1 (omega (arith, le)) (expr_behind program (plain_table table) all a l t
        (expr_code program (plain_table table) b (l + expr_labels a) (t + 1) q) s) (
          (
            of_ok t ty (omega (arith, le)) i k,
            of_ok t (type_of_expr a) (omega (arith, le)) sides.0 ka,
            of_ok (t + 1) (type_of_expr b)
                (omega (arith, le, need)) sides.1 kb,
            inl tp,
          ),
          r,
        ))
    node_ok ty mode (convert a) l t rest k tp v le s r =
        let ka = type_known program table f a v in
        let i = converted_scalar program ty (type_of_expr a) ka tp.0 tp.1 in
        expr_ok a l t (conversion (temp t ty) ty mode (temp t (type_of_expr a)) (type_of_expr a) ∷ rest) v (omega (arith, le)) s
        ((of_ok t ty (omega (arith, le)) tp.0 k, of_ok t (type_of_expr a) (omega (arith, le)) i ka, tp.1), r)
    node_ok ty mode (assign q a) l t rest k tp v le s r =
        let st = site program q t in
        let u = value_place st t in
        let pt = part program table valid f q t ty tp.0.1 v.0 in
        let rm = room program table valid f q t ty (expr_need a ∷ []) slots pt le in
        let need = some_need a in
        let others = rm.others in
        let c : List PlainIr = store_to st (temp u ty) ∷ settled_code st ty t rest in
        let d = expr_code program (plain_table table) a (l + place_labels q) u c in
        place_ok q l t d ty tp.0.1 v.0 rm.pointer s
        (expr_ok a (l + place_labels q) u c v.1 (omega (arith, others)) (place_behind program (plain_table table) all q l t d s) (
          store_ok q t u ty (omega (arith, others, need)) rm.one tp.0.0 pt,
          settled_ok q t ty ty rest (omega (arith, others, need)) tp.0.0 pt r,
        ))
    node_ok ty mode (compound op own q a) l t rest k tp v le s r =
        let st = site program q t in
        let u = value_place st t in
        let pt = part program table valid f q t ty tp.0.1 v.0 in
        let rm = room program table valid f q t ty (1 ∷ expr_need a ∷ []) slots pt le in
        let need = some_need a in
        let others = rm.others in
        let ka = type_known program table f a v.1 in
        let e = settled_code st ty t rest in
        let c = change_code op own mode ty st u (type_of_expr a) e in
        let ac = expr_code program (plain_table table) a (l + place_labels q) (u + 1) c in
        let d : List PlainIr = load_from (temp u ty) st ∷ ac in
        place_ok q l t d ty tp.0.1 v.0 rm.pointer s (
          load_ok q t u ty (omega (arith, others)) rm.one tp.0.0 pt,
          expr_ok a (l + place_labels q) (u + 1) c v.1 (omega (arith, others)) (behind all (load_from (temp u ty) st) ac
              (place_behind program (plain_table table) all q l t d s))
              (change_ok op own mode ty (type_of_expr a) st u e tp.0.0 k ka tp.1 (omega (arith, others, need))
              (store_ok q t u ty (omega (arith, others)) rm.one tp.0.0 pt)
              (settled_ok q t ty ty rest (omega (arith, others)) tp.0.0 pt r)),
        )
    node_ok ty mode (step up prefix q) l t rest k tp v le s r =
        let pt = part program table valid f q t ty tp.1 v in
        let rm = room program table valid f q t ty (1 ∷ 1 ∷ []) slots pt le in
        place_ok q l t (stepping_code up prefix mode ty (site program q t) t rest) ty tp.1 v rm.pointer s
        (stepping_ok up prefix mode ty q t rest tp.0 k pt rm r)
    node_ok ty mode (logical_not a) l t rest k tp v le s r =
        let q = truth_code false ty l t rest in
        let s1 = branch_behind program (plain_table table) all a (l + 2) t (where_zero l) q s in
        branch_ok a (l + 2) t (where_zero l) q v (omega (arith, le)) tp.0 (label_once l _ (behind all _ _ (behind all _ _ s1))) s
        (truths_ok false ty l t rest tp.1 (omega (arith, le)) s1 r)
    node_ok ty mode (logical_and a b) l t rest k tp v le s r =
        let q = truth_code true ty l t rest in
        let bc = branch_code program (plain_table table) b (l + 2 + expr_labels a) t (where_zero l) q in
        let s1 = branch_behind program (plain_table table) all a (l + 2) t (where_zero l) bc s in
        let s2 = branch_behind program (plain_table table) all b (l + 2 + expr_labels a) t (where_zero l) q s1 in
        let one = label_once l _ (behind all _ _ (behind all _ _ s2)) in
        branch_ok a (l + 2) t (where_zero l) bc v.0 (omega (arith, le)) tp.0 one s
        (branch_ok b (l + 2 + expr_labels a) t (where_zero l) q v.1 (omega (arith, le)) tp.1 one s1
        (truths_ok true ty l t rest tp.2 (omega (arith, le)) s2 r))
    node_ok ty mode (logical_or a b) l t rest k tp v le s r =
        let q = truth_code true ty l t rest in
        let end : List PlainIr = label (l + 3) ∷ q in
        let bc = branch_code program (plain_table table) b (l + 4 + expr_labels a) t (where_zero l) end in
        let s1 = branch_behind program (plain_table table) all a (l + 4) t (where_not (l + 3) (l + 2)) bc s in
        let s2 = branch_behind program (plain_table table) all b (l + 4 + expr_labels a) t (where_zero l) end s1 in
        let s3 = behind all (label (l + 3)) q s2 in
        let one = label_once l _ (behind all _ _ (behind all _ _ s3)) in
        branch_ok a (l + 4) t (where_not (l + 3) (l + 2)) bc v.0 (omega (arith, le)) tp.0 (label_once (l + 3) q s2) s
        (branch_ok b (l + 4 + expr_labels a) t (where_zero l) end v.1 (omega (arith, le)) tp.1 one s1
        (tt, truths_ok true ty l t rest tp.2 (omega (arith, le)) s3 r))
    node_ok ty mode (conditional c a b) l t rest k tp v le s r =
        let bc = expr_code program (plain_table table) b (l + 2 + expr_labels c + expr_labels a) t (label (l + 1) ∷ rest) in
        let ac = expr_code program (plain_table table) a (l + 2 + expr_labels c) t (jump (l + 1) ∷ label l ∷ bc) in
        let s1 = branch_behind program (plain_table table) all c (l + 2) t (where_zero l) ac s in
        let s2 = behind all (jump (l + 1)) (label l ∷ bc) (expr_behind program (plain_table table) all a (l + 2 + expr_labels c) t
        (jump (l + 1) ∷ label l ∷ bc) s1) in
        let s3 = behind all (label l) bc s2 in
        let s4 = expr_behind program (plain_table table) all b (l + 2 + expr_labels c + expr_labels a) t (label (l + 1) ∷ rest) s3 in
        branch_ok c (l + 2) t (where_zero l) ac v.0 (omega (arith, le)) tp.0 (label_once l bc s2) s
        (expr_ok a (l + 2 + expr_labels c) t (jump (l + 1) ∷ label l ∷ bc) v.1 (omega (arith, le)) s1 (
          label_once (l + 1) rest s4,
          (
            tt,
            expr_ok b (l + 2 + expr_labels c + expr_labels a) t (label (l + 1) ∷ rest) v.2 (omega (arith, le)) s3 (tt, r),
          ),
        ))
    node_ok ty mode (comma a b) l t rest k tp v le s r =
        let bc = expr_code program (plain_table table) b (l + expr_labels a) t rest in
        unread_ok a l t bc v.0 (omega (arith, le)) s (expr_ok b (l + expr_labels a) t rest v.1 (omega (arith, le))
        (unread_behind program (plain_table table) all a l t bc s) r)
    node_ok ty mode (call g args) l t rest k tp v le s r =
        let h = some_and (slice_get program.functions g) (λ h. (ty ≡ h.returns) × AreArguments program h.params args) tp in
        let q : List PlainIr = call_function g (result_temp t ty) ∷ rest in
        let is : h.0.params ≡ params_of program g = sym (ap (λ z. unwrap_or (option_map (λ (y : PlainFunction). y.params) z) []) h.1) in
        let s1 = args_behind program (plain_table table) all args l t (params_code (params_of program g) args t q) s in
        let s2 = params_behind program (plain_table table) all (params_of program g) args t q s1 in
        let c : Contains (called_in all) g = subst (λ (x : List PlainIr). Contains (called_in x) g) (sym s2.1)
        (called_at s2.0 g (result_temp t ty) rest) in
        let z : t + 0 ≡ t = omega arith in
        let calls_good : AllGood q = (result_ok g t ty h.0 h.1 h.2.0 k (omega (arith, le)), r) in
        args_ok args l t 0 (params_code (params_of program g) args t q) t (omega arith) v (omega (arith, le)) s
        (subst (λ (os : List ℕ). AllGood (params_code os args t q)) is (subst (λ (u : ℕ). AllGood (params_code h.0.params args u q)) z
        (params_ok g h.0.params args t 0 q c (parameters g h.0 h.1) h.2.1 (λ o x e st. (param_home program table valid o g x e st).1)
        (omega (arith, le)) calls_good)))
    node_ok ty mode (io op port i w) l t rest k tp v le s r =
        let more : List ℕ = if is_update (port_operation op).action then 1 ∷ [] else [] in
        let q = access_code op mode (slice_get (plain_table table).ports port) i t rest in
        let wc = option_code program (plain_table table) w (l + option_labels i) (value_behind i t) q in
        operand_ok i l t wc v.0 (first_place i w more t slots le) s
        (operand_ok w (l + option_labels i) (value_behind i t) q v.1 (second_place i w more t slots le)
        (operand_behind program (plain_table table) all i l t wc s)
        (access_ok op mode (slice_get (plain_table table).ports port) i t rest (port_operated table valid.ports port
        (port_operation op).long tp.port)
        (index_ok (port_operation op).indexed i t tp.index (omega (arith, le)))
        (port_places (port_operation op).action (port_value (port_operation op)) i w t slots tp.value le) r))
    node_ok ty mode (group acquire g) l t rest k tp v le s r = group_ok acquire (slice_get (plain_table table).groups g) t rest
        (group_pairs table pairs g) (omega (arith, le)) r
    node_ok ty mode (bind d choice) l t rest k tp v le s r = bind_ok d choice t rest (omega (arith, le)) r
    node_ok ty mode (dynamic_group acquire d) l t rest k tp v le s r =
        choices_ok acquire mode d (choices_of (plain_table table) d) l t rest tp.0 (are_choices table valid.ports pairs d).bytes
        (omega (arith, le)) s r

    pub unread_ok : (e : PlainExpr) (l t : ℕ) (rest : List PlainIr) → ValidExpr program table f e → t + expr_need e ≤ slots
        → Stands all (unread_code program (plain_table table) e l t rest) → AllGood rest
        → AllGood (unread_code program (plain_table table) e l t rest)
    unread_ok (expression ty mode (step up prefix q)) l t rest v le s r =
        let pt = part program table valid f q t ty v.1.1 v.2 in
        let rm = room program table valid f q t ty (1 ∷ 1 ∷ []) slots pt le in
        place_ok q l t (stepping_code up true mode ty (site program q t) t rest) ty v.1.1 v.2 rm.pointer s
        (stepping_ok up true mode ty q t rest v.1.0 v.0 pt rm r)
    unread_ok (expression ty mode (comma a b)) l t rest v le s r =
        let bc = unread_code program (plain_table table) b (l + expr_labels a) t rest in
        unread_ok a l t bc v.2.0 (omega (arith, le)) s (unread_ok b (l + expr_labels a) t rest v.2.1 (omega (arith, le))
        (unread_behind program (plain_table table) all a l t bc s) r)
    unread_ok (expression ty mode node) l t rest v le s r = node_ok ty mode node l t rest v.0 v.1 v.2 le s r

    pub branch_ok : (e : PlainExpr) (l t : ℕ) (to : Branch) (rest : List PlainIr) → ValidExpr program table f e
        → t + expr_need e ≤ slots → IsScalar (type_of_expr e) → count (branch_label to) all ≡ 1
        → Stands all (branch_code program (plain_table table) e l t to rest) → AllGood rest
        → AllGood (branch_code program (plain_table table) e l t to rest)
    branch_ok (expression ty mode (logical_not a)) l t to rest v le i one s r =
        branch_ok a (l + 2) t (opposite to l) rest v.2 (omega (arith, le)) v.1.0 (opposite_ok to l one) s r
    branch_ok (expression ty mode (logical_and a b)) l t to rest v le i one s r =
        let q = and_end to l rest in
        let bc = branch_code program (plain_table table) b (l + 2 + expr_labels a) t to q in
        let s1 = branch_behind program (plain_table table) all a (l + 2) t (where_zero (zero_label to l)) bc s in
        let s2 = branch_behind program (plain_table table) all b (l + 2 + expr_labels a) t to q s1 in
        branch_ok a (l + 2) t (where_zero (zero_label to l)) bc v.2.0 (omega (arith, le)) v.1.0 (zero_ok_at to l rest one s2) s
        (branch_ok b (l + 2 + expr_labels a) t to q v.2.1 (omega (arith, le)) v.1.1 one s1 (and_end_ok to l rest r))
    branch_ok (expression ty mode (logical_or a b)) l t to rest v le i one s r =
        let q = or_end to l rest in
        let bc = branch_code program (plain_table table) b (l + 4 + expr_labels a) t to q in
        let s1 = branch_behind program (plain_table table) all a (l + 4) t (where_not (other_label to l) (l + 1)) bc s in
        let s2 = branch_behind program (plain_table table) all b (l + 4 + expr_labels a) t to q s1 in
        branch_ok a (l + 4) t (where_not (other_label to l) (l + 1)) bc v.2.0 (omega (arith, le)) v.1.0 (other_ok_at to l rest one s2) s
        (branch_ok b (l + 4 + expr_labels a) t to q v.2.1 (omega (arith, le)) v.1.1 one s1 (or_end_ok to l rest r))
    branch_ok (expression ty mode node) l t to rest v le i one s r =
        let q = branch_to to (temp t ty) rest in
        let need = some_need (expression ty mode node) in
        node_ok ty mode node l t q v.0 v.1 v.2 le s (branch_to_ok to t ty rest (omega (arith, le, need)) i one
        (node_behind program (plain_table table) all ty mode node l t q s) r)

    place_ok : (q : PlainPlace) (l t : ℕ) (rest : List PlainIr) (ty : PlainType) → place_type program q ≡ Some ty
        → ValidPlace program table f q → t + place_need q ≤ slots → Stands all (place_code program (plain_table table) q l t rest)
        → AllGood rest → AllGood (place_code program (plain_table table) q l t rest)
    place_ok (object o) l t rest ty e v le s r = r
    place_ok (deref a) l t rest ty e v le s r = expr_ok a l t rest v le s r
    place_ok (member q i) l t rest ty e v le s r =
        let g = some_then (place_type program q) _ ty e in
        place_ok q l t (further_code (offset_of program q i) (site program q t) rest) g.0 g.1 v le s
        (further_ok q (offset_of program q i) t g.0 rest le (part program table valid f q t g.0 g.1 v) r)

    operand_ok : (e : OptionPlainExpr) (l t : ℕ) (rest : List PlainIr) → ValidOption program table f e → t + operand_need e ≤ slots
        → Stands all (option_code program (plain_table table) e l t rest) → AllGood rest
        → AllGood (option_code program (plain_table table) e l t rest)
    operand_ok no_expr l t rest v le s r = r
    operand_ok (an_expr e) l t rest v le s r = expr_ok e l t rest v le s r

    args_ok : (es : PlainExprs) (l base k : ℕ) (rest : List PlainIr) (t : ℕ) → t ≡ base + k → ValidExprs program table f es
        → base + greatest_from k (exprs_needs es) ≤ slots → Stands all (args_code program (plain_table table) es l t rest) → AllGood rest
        → AllGood (args_code program (plain_table table) es l t rest)
    args_ok last_expr l base k rest t e v le s r = r
    args_ok (next_expr a es) l base k rest t e v le s r =
        let q = args_code program (plain_table table) es (l + expr_labels a) (t + 1) rest in
        expr_ok a l t q v.0 (omega (arith, e, le)) s (args_ok es (l + expr_labels a) base (k + 1) rest (t + 1) (omega (arith, e)) v.1
        (omega (arith, le)) (expr_behind program (plain_table table) all a l t q s) r)
