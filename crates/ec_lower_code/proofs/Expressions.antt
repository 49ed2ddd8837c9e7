-- The operations of an expression do what it does.
use Rattle.std.proofs.Common.{◌≡◌, ℕ, ◌+◌, ◌*◌, ◌<◌, ◌≤◌, Bool, true, false, not, ℤ, pos, List, [], ◌∷◌, Option, Some, None}
use Rattle.std.proofs.Common.{Result, Ok, Err, refl, sym, ap, ◌∙◌, subst, inl, inr, arith}
use Rattle.std.specs.Prelude.{⊤, IsSomeAnd, slice_get, max, option_map, unwrap_or}
use Rattle.ec_fx.specs.declared.numbers.Mode.{Mode}
use Rattle.ec_space.specs.declared.space.SpaceId.{SpaceId}
use Rattle.ec_space.specs.Spaces.{width}
use Rattle.ec_core.specs.declared.arithmetic_types.Arithmetic.{Arithmetic}
use Rattle.ec_core.specs.declared.expressions.BinOp.{BinOp}
use Rattle.ec_core.specs.declared.expressions.BinOp.TheVariants.{Add, Sub, Mul, Div, Rem, Shl, Shr, And, Or, Xor, Lt, Gt, Le, Ge, Eq, Ne}
use Rattle.ec_core.specs.declared.values.ObjectPointer.{ObjectPointer}
use Rattle.ec_core.specs.declared.values.Undefined.{Undefined}
use Rattle.ec_core.specs.declared.values.Value.{Value}
use Rattle.ec_core.specs.declared.values.Value.TheVariants.{Number, Pointer}
use Rattle.ec_core.specs.Accesses.{referent_of, operand_of, access, read, write}
use Rattle.ec_core.specs.ArithmeticTypes.{arithmetic_of, type_of}
use Rattle.ec_core.specs.Expressions.{either, pointed_to, condition, truth_value, accessed, object_place, place_of}
use Rattle.ec_core.specs.Expressions.{updated_place, compound_update, step_update, value_of, node_value, option_value}
use Rattle.ec_core.specs.Expressions.{values_of}
use Rattle.ec_core.specs.Integers.{truth}
use Rattle.ec_core.specs.Layout.{scalar_size, IsScalar}
use Rattle.ec_core.specs.ArithmeticValues.{HoldsNumber, IsKnownType, operand, arithmetic_value}
use Rattle.ec_core.specs.Operators.{unary_result, binary_result, conversion_result, compound_result, truth_result}
use Rattle.ec_core.specs.Operators.{as_number, offset_result, number_type, OperationTypes, then_with, brought}
use Rattle.ec_core.specs.Operators.{step_operator}
use Rattle.ec_core.proofs.HeldNumbers.{truth_number, conversion_held}
use Rattle.ec_core.specs.Plain.{PlainType, void, integer, fixed, pointer, array, struct, PlainExpr, expression, PlainNode}
use Rattle.ec_core.specs.Plain.{number, null, load, address_of, unary, binary, convert, assign, compound, step, logical_not}
use Rattle.ec_core.specs.Plain.{logical_and, logical_or, conditional, comma, call, io, group, bind as bind_node}
use Rattle.ec_core.specs.Plain.{dynamic_group, PlainPlace, object, deref, member}
use Rattle.ec_core.specs.Plain.{OptionPlainExpr, no_expr, an_expr, PlainExprs, last_expr, next_expr, PlainFunction}
use Rattle.ec_core.specs.Plain.{PlainProgram}
use Rattle.ec_core.specs.Pointers.{Pointer as PointerValue, moved}
use Rattle.ec_core.specs.PortAccesses.{group_effect, bind_effect, dynamic_effect}
use Rattle.ec_core.specs.PortOperations.{port_operation}
use Rattle.ec_core.specs.PortTable.{plain_table}
use Rattle.ec_core.specs.State.{ObjectState, State, worked, Outcome, got, more, undefined, next, given, choose}
use Rattle.ec_core.specs.Typing.{int, port_value, port_result, type_of_expr, pointee, place_type, place_space, IsIntegerType}
use Rattle.ec_core.specs.Typing.{HaveOffsetTypes, HaveBinaryTypes, HaveCompoundTypes, HaveCompoundArithmetic, AreConvertible}
use Rattle.ec_core.specs.Typing.{IsAddressType, IsTyped, AreArguments}
use Rattle.ec_core.specs.Valid.{IsExprType, ValidExpr, ValidParts, ValidPlace, ValidOption, ValidExprs}
use Rattle.ec_core.specs.ValueTypes.{HasType, IsTypedState, IsSoundOutcome}
use Rattle.ec_core.specs.Words.{widest, pointer_types, member_words, node_words, update_words, total_size}
use Rattle.ec_core.proofs.Growth.{some_then}
use Rattle.ec_core.proofs.TypedValues.{OnValue, some_and, offset_value}
use Rattle.ec_ir.specs.Costs.{op_words, op_steps, branch_zero_words, binary_words, conversion_words}
use Rattle.ec_ir.specs.Meaning.{Mach, machine, find}
use Rattle.ec_ir.specs.Operations.{PlainIr, constant, address, binary_op, unary_op, conversion, label, jump, branch_zero, call_function}
use Rattle.ec_ir.specs.Temporaries.{content_of, Temps}
use Rattle.ec_lower_code.specs.Code.{temp, result_temp, truth_code, place_labels, Site, named, pointed, space_of, further}
use Rattle.ec_lower_code.specs.Code.{further_code, load_from, store_to, value_place, settled_code, address_code, update_types}
use Rattle.ec_lower_code.specs.Code.{update_code, keeping_code, moving_code, change_code, postfix_code, step_code, offset_of}
use Rattle.ec_lower_code.specs.Code.{site, params_of, params_code, place_behind as value_behind, access_code, option_labels}
use Rattle.ec_lower_code.specs.Code.{option_code, expr_labels, expr_code, node_code, place_code, args_code}
use Rattle.ec_lower_code.specs.Code.{stepping_code, unread_code}
use Rattle.ec_lower_code.specs.Code.{Branch, where_zero, where_not, branch_to, branch_label, opposite, zero_label}
use Rattle.ec_lower_code.specs.Code.{other_label, and_end, or_end, branch_code}
use Rattle.ec_lower_code.proofs.Operations.{number_value, value_number, AreUpdateTypes, update_known, words_of}
use Rattle.ec_lower_code.proofs.Operations.{step_known, step_arithmetic}
use Rattle.ec_lower_code.proofs.Updates.{compound_same, updated_value, held_ok, written, kept, then_on, stored_value, update_runs}
use Rattle.ec_lower_code.proofs.Keeps.{step_back, kept_value, keep_runs}
use Rattle.ec_lower_code.proofs.Numeric.{IsNumeric}
use Rattle.ec_lower_code.proofs.Callees.{IsOther, CallsOfExpr, CallsOfExprs, CallsOfNode, CallsOfPlace, CallsOfOption}
use Rattle.ec_lower_code.proofs.Behind.{expr_behind, node_behind, unread_behind, branch_behind, place_behind, operand_behind}
use Rattle.ec_lower_code.proofs.Ops.{to_rest, Below, HasValue, HasTest, IsSite, IsSpace, StandsAt, site_kept, field_runs}
use Rattle.ec_lower_code.proofs.Ops.{copy_runs, null_runs, address_runs, constant_runs, label_comes, jumps, past_zero}
use Rattle.ec_lower_code.proofs.Ops.{at_zero, unary_runs, conversion_runs, binary_runs, binary_above, test_runs}
use Rattle.ec_lower_code.proofs.Ops.{read_runs, write_runs}
use Rattle.ec_lower_code.proofs.Pays.{simple_pays, unary_pays, binary_pays, conversion_pays, not_pays, and_pays, choice_pays}
use Rattle.ec_lower_code.proofs.Pays.{branch_cost, branch_most, not_leads, both_lead}
use Rattle.ec_lower_code.proofs.Places.{Root, in_object, at_pointer, root, load_paid, store_paid, settle_words, place_words}
use Rattle.ec_lower_code.proofs.Places.{numbers_paid, step_paid, moving_paid, stepping_paid}
use Rattle.ec_lower_code.proofs.Values.{moved_offset}
use Rattle.ec_lower_code.proofs.PortNodes.{access_runs, group_runs}
use Rattle.ec_lower_code.proofs.Choices.{bind_runs, dynamic_runs}
use Rattle.ec_lower_code.proofs.PortRuns.{IsHeld, held_kept}
use Rattle.ec_lower_code.proofs.Tables.{port_operated, group_pairs}
use Rattle.ec_lower_code.proofs.Scene.{World, ports, homes, set, calls_to, spot, law, apart, AreHeld, Scene}
use Rattle.ec_lower_code.proofs.Shown.{shown, held_of, Match, Stopped}
use Rattle.ec_lower_code.proofs.Steps.{Target, at, Stands, behind, Spot, around, here, Comes, Runs, stays, after, fewer, strengthened}
use Rattle.ec_lower_code.proofs.Steps.{bind, onward, credited, spent_on, less, execs, comes_on, Passes, passes_on, passes_come}

-- ---- types

-- an arithmetic type of an expression is scalar
pub arithmetic_scalar : (program : PlainProgram) (ty : PlainType) (P : Arithmetic → Type 0) → IsExprType program ty
    → IsSomeAnd (arithmetic_of ty) P → IsScalar ty
arithmetic_scalar program void P k h = absurd h
arithmetic_scalar program (integer s b) P k h = k
arithmetic_scalar program (fixed f s) P k h = tt
arithmetic_scalar program (pointer s c t) P k h = absurd h
arithmetic_scalar program (array t n) P k h = absurd h
arithmetic_scalar program (struct i) P k h = absurd h

-- the count of elements that a pointer is moved by
pub offset_integer : (op : BinOp) (b : PlainType) → HaveOffsetTypes op b → IsIntegerType b
offset_integer Add b h = h
offset_integer Sub b h = h
offset_integer Mul b h = absurd h
offset_integer Div b h = absurd h
offset_integer Rem b h = absurd h
offset_integer Shl b h = absurd h
offset_integer Shr b h = absurd h
offset_integer And b h = absurd h
offset_integer Or b h = absurd h
offset_integer Xor b h = absurd h
offset_integer Lt b h = absurd h
offset_integer Gt b h = absurd h
offset_integer Le b h = absurd h
offset_integer Ge b h = absurd h
offset_integer Eq b h = absurd h
offset_integer Ne b h = absurd h

left_scalar : (program : PlainProgram) (op : BinOp) (ty a b : PlainType) → IsExprType program a → HaveBinaryTypes op ty a b → IsScalar a
left_scalar program op ty void void k h = absurd ((some_and (arithmetic_of ty) _ h).2)
left_scalar program op ty void (integer s b) k h = absurd ((some_and (arithmetic_of ty) _ h).2)
left_scalar program op ty void (fixed f s) k h = absurd ((some_and (arithmetic_of ty) _ h).2)
left_scalar program op ty void (pointer s c t) k h = absurd h.1
left_scalar program op ty void (array t n) k h = absurd ((some_and (arithmetic_of ty) _ h).2)
left_scalar program op ty void (struct i) k h = absurd ((some_and (arithmetic_of ty) _ h).2)
left_scalar program op ty (integer r a) b k h = k
left_scalar program op ty (fixed e r) b k h = tt
left_scalar program op ty (pointer s c t) b k h = tt
left_scalar program op ty (array t n) b k h = absurd k
left_scalar program op ty (struct i) b k h = absurd k

right_scalar : (program : PlainProgram) (op : BinOp) (ty a b : PlainType) → IsExprType program a → IsExprType program b
    → HaveBinaryTypes op ty a b → IsScalar b
right_scalar program op ty void void k j h = absurd ((some_and (arithmetic_of ty) _ h).2)
right_scalar program op ty (integer s m) void k j h = absurd ((some_and (arithmetic_of ty) _ h).2)
right_scalar program op ty (fixed f s) void k j h = absurd ((some_and (arithmetic_of ty) _ h).2)
right_scalar program op ty (pointer s c t) void k j h = absurd (offset_integer op void h.0)
right_scalar program op ty (array t n) void k j h = absurd k
right_scalar program op ty (struct i) void k j h = absurd k
right_scalar program op ty a (integer r b) k j h = j
right_scalar program op ty a (fixed e r) k j h = tt
right_scalar program op ty a (pointer s c t) k j h = tt
right_scalar program op ty a (array t n) k j h = absurd j
right_scalar program op ty a (struct i) k j h = absurd j

pub binary_scalars : (program : PlainProgram) (op : BinOp) (ty a b : PlainType) → IsExprType program a → IsExprType program b
    → HaveBinaryTypes op ty a b → IsScalar a × IsScalar b
binary_scalars program op ty a b k j h = (left_scalar program op ty a b k h, right_scalar program op ty a b k j h)

pub converted_scalar : (program : PlainProgram) (ty a : PlainType) → IsExprType program a → IsScalar ty → AreConvertible ty a → IsScalar a
converted_scalar program ty (integer s b) k i h = k
converted_scalar program ty (fixed f s) k i h = tt
converted_scalar program ty (pointer s c t) k i h = tt
converted_scalar program ty (array t n) k i h = absurd k
converted_scalar program ty (struct j) k i h = absurd k
converted_scalar program void void k i h = absurd i
converted_scalar program (integer s b) void k i h = absurd h
converted_scalar program (fixed f s) void k i h = absurd h
converted_scalar program (pointer s c t) void k i h = absurd h
converted_scalar program (array t n) void k i h = absurd i
converted_scalar program (struct j) void k i h = absurd i

pub type_known : (program : PlainProgram) (io : _) (f : ℕ) (e : PlainExpr) → ValidExpr program io f e → IsExprType program (type_of_expr e)
type_known program table f (expression ty mode node) h = h.0

-- a compound assignment of a number, with a number
pub compound_facts : (program : PlainProgram) (op : BinOp) (ty right : PlainType) → IsNumeric ty → IsExprType program right
    → HaveCompoundTypes op ty right → IsNumeric right × IsScalar right × HaveCompoundArithmetic op (number_type ty) (number_type right)
compound_facts program op void right p k h = absurd p
compound_facts program op (integer s b) void p k h = absurd h
compound_facts program op (integer s b) (integer r c) p k h = (tt, k, h)
compound_facts program op (integer s b) (fixed f c) p k h = (tt, tt, h)
compound_facts program op (integer s b) (pointer x c t) p k h = absurd h
compound_facts program op (integer s b) (array t n) p k h = absurd k
compound_facts program op (integer s b) (struct j) p k h = absurd k
compound_facts program op (fixed e s) void p k h = absurd h
compound_facts program op (fixed e s) (integer r c) p k h = (tt, k, h)
compound_facts program op (fixed e s) (fixed f c) p k h = (tt, tt, h)
compound_facts program op (fixed e s) (pointer x c t) p k h = absurd h
compound_facts program op (fixed e s) (array t n) p k h = absurd k
compound_facts program op (fixed e s) (struct j) p k h = absurd k
compound_facts program op (pointer x c t) right p k h = absurd p
compound_facts program op (array t n) right p k h = absurd p
compound_facts program op (struct j) right p k h = absurd p

-- the value of an integer type is a number
pub integer_value : (program : PlainProgram) (ty : PlainType) (v : Value) → IsIntegerType ty → HasType program ty v
    → (n : ℤ) × (v ≡ Number n)
integer_value program void v i h = absurd i
integer_value program (integer s b) (Number n) i h = (n, refl)
integer_value program (integer s b) (Pointer p) i h = absurd h
integer_value program (fixed k s) v i h = absurd i
integer_value program (pointer s c t) v i h = absurd i
integer_value program (array t n) v i h = absurd i
integer_value program (struct n) v i h = absurd i

pub pointer_scalar : (ty to : PlainType) → pointee ty ≡ Some to → IsScalar ty
pointer_scalar void to e = cc
pointer_scalar (integer s b) to e = cc
pointer_scalar (fixed k s) to e = cc
pointer_scalar (pointer s c t) to e = tt
pointer_scalar (array t n) to e = cc
pointer_scalar (struct n) to e = cc

-- the right side of a compound assignment is scalar
pub compound_right : (program : PlainProgram) (op : BinOp) (ty right : PlainType) → IsScalar ty → IsExprType program right
    → HaveCompoundTypes op ty right → IsScalar right
compound_right program op void right i k h = absurd i
compound_right program op (integer s b) right i k h = (compound_facts program op (integer s b) right tt k h).1
compound_right program op (fixed e s) right i k h = (compound_facts program op (fixed e s) right tt k h).1
compound_right program op (pointer x c t) right i k h = arithmetic_scalar program right _ k (offset_integer op right h)
compound_right program op (array t n) right i k h = absurd i
compound_right program op (struct j) right i k h = absurd i

-- a pointer that is moved stays in its space
moved_typed : (program : PlainProgram) (op : BinOp) (space : SpaceId) (k : Bool) (to right : PlainType) (p : PointerValue) (y : ℤ)
    (x : Value) (s : State)
    → HaveOffsetTypes op right → HasType program (pointer space k to) (Pointer p)
    → offset_result op (operand_of program (pointer space k to) (Pointer p) s) p y ≡ Ok x → HasType program (pointer space k to) x
moved_typed program Add space k to right p y x s ct told f =
    subst (λ r. OnValue (HasType program (pointer space k to)) r) f (offset_value program Add space k to (pointer space k to) p y s tt told)
moved_typed program Sub space k to right p y x s ct told f =
    subst (λ r. OnValue (HasType program (pointer space k to)) r) f (offset_value program Sub space k to (pointer space k to) p y s tt told)
moved_typed program Mul space k to right p y x s ct told f = absurd ct
moved_typed program Div space k to right p y x s ct told f = absurd ct
moved_typed program Rem space k to right p y x s ct told f = absurd ct
moved_typed program Shl space k to right p y x s ct told f = absurd ct
moved_typed program Shr space k to right p y x s ct told f = absurd ct
moved_typed program And space k to right p y x s ct told f = absurd ct
moved_typed program Or space k to right p y x s ct told f = absurd ct
moved_typed program Xor space k to right p y x s ct told f = absurd ct
moved_typed program Lt space k to right p y x s ct told f = absurd ct
moved_typed program Gt space k to right p y x s ct told f = absurd ct
moved_typed program Le space k to right p y x s ct told f = absurd ct
moved_typed program Ge space k to right p y x s ct told f = absurd ct
moved_typed program Eq space k to right p y x s ct told f = absurd ct
moved_typed program Ne space k to right p y x s ct told f = absurd ct

-- the type of an address
pub address_typed : (program : PlainProgram) (ty : PlainType) (q : PlainPlace) → IsAddressType program ty q
    → (to : PlainType) × (place_type program q ≡ Some to)
address_typed program void q h = absurd h
address_typed program (integer s b) q h = absurd h
address_typed program (fixed k s) q h = absurd h
address_typed program (pointer s k t) q h = let x = some_and (place_type program q) _ h.2 in (x.0, x.1)
address_typed program (array t n) q h = absurd h
address_typed program (struct n) q h = absurd h

pub address_width : (program : PlainProgram) (ty : PlainType) (q : PlainPlace) (space : SpaceId) → IsAddressType program ty q
    → place_space program q ≡ Some space → width space ≡ scalar_size ty
address_width program void q space h g = absurd h
address_width program (integer s b) q space h g = absurd h
address_width program (fixed k s) q space h g = absurd h
address_width program (pointer s k t) q space h g =
    let f : Some s ≡ Some space = sym h.0 ∙ g in
    let i : s ≡ space = cc in ap width (sym i)
address_width program (array t n) q space h g = absurd h
address_width program (struct n) q space h g = absurd h

-- ---- rows of updates

-- the words of the operations of a compound assignment, without those on its place
abbrev pub change_words : BinOp → PlainType → PlainType → ℕ
change_words op (pointer s k t) right = binary_words op (pointer s k t) (pointer s k t) right
change_words op ty right = words_of op (update_types op (number_type ty) (number_type right)) ty right

pub change_paid : (program : PlainProgram) (q : PlainPlace) (t v : ℕ) (op : BinOp) (ty right : PlainType) → IsScalar ty
    → IsExprType program right → HaveCompoundTypes op ty right → Root program q t
    → change_words op ty right + place_words program (site program q t) v v ty ≤ update_words (widest (ty ∷ pointer_types q (right ∷ [])))
change_paid program q t v op void right i k h top = absurd i
change_paid program q t v op (integer s b) right i k h top = let x = compound_facts program op (integer s b) right tt k h in
    numbers_paid program q t v v op (integer s b) right tt x.0 x.2 top
change_paid program q t v op (fixed e s) right i k h top = let x = compound_facts program op (fixed e s) right tt k h in
    numbers_paid program q t v v op (fixed e s) right tt x.0 x.2 top
change_paid program q t v op (pointer s c u) right i k h top = let x = moving_paid program q t v v op s c u right top in omega (arith, x)
change_paid program q t v op (array u n) right i k h top = absurd i
change_paid program q t v op (struct n) right i k h top = absurd i

-- a step takes the int 1
pub step_types : (up : Bool) (ty : PlainType) → IsScalar ty → HaveCompoundTypes (step_operator up) ty int
step_types up void i = absurd i
step_types true (integer s b) i = tt
step_types false (integer s b) i = tt
step_types true (fixed k s) i = tt
step_types false (fixed k s) i = tt
step_types true (pointer s k t) i = tt
step_types false (pointer s k t) i = tt
step_types up (array t n) i = absurd i
step_types up (struct n) i = absurd i

abbrev pub postfix_words : BinOp → PlainType → ℕ
postfix_words op (pointer s k t) = binary_words op (pointer s k t) (pointer s k t) int
postfix_words op ty = words_of op (update_types op (number_type ty) (number_type int)) ty int + conversion_words ty
    (type_of (update_types op (number_type ty) (number_type int)).left)

pub postfix_numbers : (op : BinOp) (ty : PlainType) → IsNumeric ty → words_of op (update_types op (number_type ty) (number_type int)) ty
    int + conversion_words ty (type_of (update_types op (number_type ty) (number_type int)).left) ≤ postfix_words op ty
postfix_numbers op void i = absurd i
postfix_numbers op (integer s b) i = omega arith
postfix_numbers op (fixed k s) i = omega arith
postfix_numbers op (pointer s k t) i = absurd i
postfix_numbers op (array t n) i = absurd i
postfix_numbers op (struct n) i = absurd i

abbrev pub stepped_words : Bool → BinOp → PlainType → ℕ
stepped_words true op ty = change_words op ty int
stepped_words false op ty = postfix_words op ty

-- where the new value stands
abbrev pub stepped_place : Bool → ℕ → ℕ
stepped_place true v = v
stepped_place false v = v + 1

pub stepped_paid : (program : PlainProgram) (q : PlainPlace) (t v : ℕ) (up prefix : Bool) (ty : PlainType) → IsScalar ty → Root program q t
    → stepped_words prefix (step_operator up) ty + place_words program (site program q t) v (stepped_place prefix v) ty + 10 ≤ update_words
    (widest (ty ∷ pointer_types q []))
stepped_paid program q t v up prefix void i top = absurd i
stepped_paid program q t v up true (integer s b) i top = let x = step_paid program q t v v up (integer s b) tt top in omega (arith, x)
stepped_paid program q t v up false (integer s b) i top = let x = step_paid program q t v (v + 1) up (integer s b) tt top in
    omega (arith, x)
stepped_paid program q t v up true (fixed k s) i top = let x = step_paid program q t v v up (fixed k s) tt top in omega (arith, x)
stepped_paid program q t v up false (fixed k s) i top = let x = step_paid program q t v (v + 1) up (fixed k s) tt top in omega (arith, x)
stepped_paid program q t v up true (pointer s c u) i top = let x = stepping_paid program q t v v (step_operator up) s c u top in
    omega (arith, x)
stepped_paid program q t v up false (pointer s c u) i top = let x = stepping_paid program q t v (v + 1) (step_operator up) s c u top in
    omega (arith, x)
stepped_paid program q t v up prefix (array u n) i top = absurd i
stepped_paid program q t v up prefix (struct n) i top = absurd i

number_known : (ty : PlainType) → IsNumeric ty → IsScalar ty → IsKnownType (number_type ty)
number_known void i k = absurd i
number_known (integer s b) i k = k
number_known (fixed f s) i k = tt
number_known (pointer s c t) i k = absurd i
number_known (array t n) i k = absurd i
number_known (struct j) i k = absurd i

-- one truth value or the other
abbrev pub chosen : Bool → Bool → Bool
chosen h true = h
chosen h false = not h

denied : (c : Bool) → chosen false c ≡ not c
denied true = refl
denied false = refl

affirmed : (c : Bool) → chosen true c ≡ c
affirmed true = refl
affirmed false = refl

-- where a branch goes on to
abbrev pub led : Branch → Bool → (away rest : List PlainIr) → List PlainIr
led (where_zero to) true away rest = rest
led (where_zero to) false away rest = away
led (where_not to past) true away rest = away
led (where_not to past) false away rest = rest

module _ (wd : World) (sc : Scene wd) where
  abbrev pub W : Spot
  W = spot wd sc.code sc.stack

  abbrev pub value : PlainExpr → State → Outcome Value
  value e s = value_of (set wd) (calls_to wd sc.depth) e s

  abbrev pub Goes : {A : Type 0} → ℕ → List PlainIr → Mach → (A → Target) → (A → State → Mach → Type 0) → Outcome A → Type 0
  Goes n rest m to R o = Runs W n rest m to R o

  abbrev pub on_to : {A : Type 0} → List PlainIr → A → Target
  on_to rest a = to_rest W rest a

  -- a value of its type at t
  pub record Has (ty : PlainType) (t d : ℕ) (b : Temps) (v : Value) (s : State) (u : Mach) : Type 0 where
    pub has : HasValue W ty t d b v s u
    pub typed : HasType wd.program ty v
    pub state : IsTypedState wd.program s

  -- a condition
  pub record Tests (ty : PlainType) (t d : ℕ) (b : Temps) (h : Bool) (s : State) (u : Mach) : Type 0 where
    pub test : HasTest W ty t d b h s u
    pub state : IsTypedState wd.program s

  -- an operand that may be absent, at t
  pub record HasOperand (e : OptionPlainExpr) (t d : ℕ) (b : Temps) (v : Value) (s : State) (u : Mach) : Type 0 where
    pub match : Match (homes wd) (ports wd) (around W) d s u
    pub held : IsHeld W wd.program e v t u.temps
    pub same : Below W t b u
    pub state : IsTypedState wd.program s

  -- arguments from t on
  pub record HasArguments (es : PlainExprs) (t d : ℕ) (b : Temps) (vs : List Value) (s : State) (u : Mach) : Type 0 where
    pub match : Match (homes wd) (ports wd) (around W) d s u
    pub held : AreHeld wd es vs t u.temps
    pub same : Below W t b u
    pub state : IsTypedState wd.program s

  -- what the law tells of an outcome goes along with what the operations come to
  typed_runs : (n : ℕ) (p : List PlainIr) (m : Mach) (to : Value → Target) (ty : PlainType) (t d : ℕ) (b : Temps) (o : Outcome Value)
      → IsSoundOutcome wd.program (HasType wd.program ty) o → Goes n p m to (HasValue W ty t d b) o → Goes n p m to (Has ty t d b) o
  typed_runs n p m to ty t d b (got v s) h r = (r.0, record { has = r.1; typed = h.0; state = h.1 }, r.2)
  typed_runs n p m to ty t d b (more s) h r = r
  typed_runs n p m to ty t d b (undefined point s) h r = tt

  untyped : (n : ℕ) (p : List PlainIr) (m : Mach) (to : Value → Target) (ty : PlainType) (t d : ℕ) (b : Temps) (o : Outcome Value)
      → Goes n p m to (Has ty t d b) o → Goes n p m to (HasValue W ty t d b) o
  untyped n p m to ty t d b (got v s) r = (r.0, r.1.has, r.2)
  untyped n p m to ty t d b (more s) r = r
  untyped n p m to ty t d b (undefined point s) r = tt

  -- ---- truth values

  -- a label before the end
  past_end : {A : Type 0} (n l : ℕ) (p rest : List PlainIr) (m : Mach) (R : A → State → Mach → Type 0) (o : Outcome A)
      → Goes n p m (on_to (label l ∷ rest)) R o → Goes n p m (on_to rest) R o
  past_end n l p rest m R o d =
      onward W n (here W p) (here W (label l ∷ rest)) m (on_to (label l ∷ rest)) R (on_to rest) R o (λ a. refl) d
      (λ a s u r. (u, r, label_comes W l rest u))

  -- a jump before the end
  jump_end : (n t d l : ℕ) (b : Temps) (ty : PlainType) (p after rest : List PlainIr) (m : Mach) (o : Outcome Value)
      → find l sc.code ≡ Some rest → Goes n p m (on_to (jump l ∷ after)) (HasValue W ty t (d + 5) b) o → Goes n p m (on_to rest)
      (HasValue W ty t d b) o
  jump_end n t d l b ty p after rest m o f g =
      onward W n (here W p) (here W (jump l ∷ after)) m (on_to (jump l ∷ after)) (HasValue W ty t (d + 5) b) (on_to rest)
      (HasValue W ty t d b) o (λ a. refl) g
      (λ a s u r. (
        machine u.temps (worked (op_steps (jump l)) u.state),
        record {
          match = spent_on (homes wd) (ports wd) (d + 5) d (jump l) u.temps s u
              (omega arith) r.match;
          value = r.value;
          same = r.same;
        },
        jumps W l after rest u f,
      ))

  -- the truth value where the branch was not taken, and where it was
  truth_on : (n t d e : ℕ) (b : Temps) (h : Bool) (ty : PlainType) (l : ℕ) (s : State) (u : Mach) (rest : List PlainIr)
      → Stands sc.code (truth_code h ty l t rest) → 5 * scalar_size ty + (d + 5) ≤ e → Match (homes wd) (ports wd) (around W) e s u
      → Below W t b u
      → Goes n (truth_code h ty l t rest) u (on_to rest) (HasValue W ty t d b) (got (Number (truth h)) s)
  truth_on n t d e b h ty l s u rest stands le m same =
      let after : List PlainIr = label l ∷ constant (temp t ty) (truth (not h)) ∷ label (l + 1) ∷ rest in
      let end = sc.resolves (l + 1) rest (behind sc.code _ _ (behind sc.code _ _ (behind sc.code _ _ (behind sc.code _ _ stands)))) in
      jump_end n t d (l + 1) b ty (truth_code h ty l t rest) after rest u (got (Number (truth h)) s) end
      (constant_runs W n t (d + 5) e b ty (truth h) s u (jump (l + 1) ∷ after) le m same)

  abbrev off_code : Bool → PlainType → (l t : ℕ) → List PlainIr → List PlainIr
  off_code h ty l t rest = constant (temp t ty) (truth (not h)) ∷ label (l + 1) ∷ rest

  truth_off : (n t d e : ℕ) (b : Temps) (h : Bool) (ty : PlainType) (l : ℕ) (s : State) (u : Mach) (rest : List PlainIr)
      → 5 * scalar_size ty + d ≤ e → Match (homes wd) (ports wd) (around W) e s u → Below W t b u
      → Goes n (off_code h ty l t rest) u (on_to rest)
      (HasValue W ty t d b) (got (Number (truth (not h))) s)
  truth_off n t d e b h ty l s u rest le m same = past_end n (l + 1) (off_code h ty l t rest) rest u (HasValue W ty t d b)
      (got (Number (truth (not h))) s) (constant_runs W n t d e b ty (truth (not h)) s u (label (l + 1) ∷ rest) le m same)

  -- a condition, from its value
  pub tests : (n t d : ℕ) (b : Temps) (a : PlainExpr) (s : State) (p rest : List PlainIr) (m : Mach) → IsScalar (type_of_expr a)
      → Goes n p m (on_to rest) (Has (type_of_expr a) t d b) (value a s) → Goes n p m (on_to rest) (Tests (type_of_expr a) t d b)
      (condition (set wd) a (value a s))
  tests n t d b a s p rest m i g =
      bind W n (here W p) m (on_to rest) (Has (type_of_expr a) t d b) (on_to rest) (Tests (type_of_expr a) t d b) (here W rest)
      (value a s) _ (λ v. refl) g
      (λ x s1 u r. told_test x s1 u r (truth_result (operand_of wd.program (type_of_expr a) x s1)) refl)
    where
      told_test : (x : Value) (s1 : State) (u : Mach) → Has (type_of_expr a) t d b x s1 u → (r : Result Bool Undefined)
          → truth_result (operand_of wd.program (type_of_expr a) x s1) ≡ r → Goes n rest u (on_to rest) (Tests (type_of_expr a) t d b)
          (given r s1)
      told_test x s1 u h (Err point) f = tt
      told_test x s1 u h (Ok c) f =
          let z = test_runs W n t d b (type_of_expr a) x s1 u rest i h.typed h.has (Ok c) f in
          (z.0, record { test = z.1; state = h.state }, z.2)

  -- ---- branches on conditions

  -- before a branch of w words, which leads to `to`: whoever has these words beside what is here comes there
  pub record Leads (t d w : ℕ) (b : Temps) (to : List PlainIr) (s : State) (p : List PlainIr) (u : Mach) : Type 0 where
    pub match : Match (homes wd) (ports wd) (around W) d s u
    pub same : Below W t b u
    pub state : IsTypedState wd.program s
    pub comes : (s1 : State) (e : ℕ) → ((x : ℕ) → Match (homes wd) (ports wd) (around W) (d + x) s u
        → Match (homes wd) (ports wd) (around W) (e + w + x) s1 u)
        → (v : Mach) × Match (homes wd) (ports wd) (around W) e s1 v × Below W t b v × Passes W (here W p) u (at (here W to)) v

  -- what the operations of a condition do, up to the branch that decides
  abbrev pub Branches : ℕ → List PlainIr → Mach → Branch → (away rest : List PlainIr) → (t d w : ℕ) → Temps → Outcome Bool → Type 0
  Branches n p m to away rest t d w b (got h s) =
      (q : List PlainIr) × (u : Mach) × Leads t d w b (led to h away rest) s q u × Comes W (here W p) m (at (here W q)) u
  Branches n p m to away rest t d w b (more s) = (j : ℕ) × (u : Mach) × (n ≤ j) × Stopped s u × (execs W j (here W p) m ≡ more u.state)
  Branches n p m to away rest t d w b (undefined point s) = ⊤

  -- over the branch, within what is here
  pub leads_past : (t d e w : ℕ) (b : Temps) (to : List PlainIr) (s : State) (p : List PlainIr) (u : Mach) → e + w ≤ d
      → Leads t d w b to s p u
      → (v : Mach) × Match (homes wd) (ports wd) (around W) e s v × Below W t b v × Passes W (here W p) u (at (here W to)) v
  leads_past t d e w b to s p u le h = h.comes s e (λ x k. less (homes wd) (ports wd) (d + x) (e + w + x) s u (omega (arith, le)) k)

  pub leads_on : (t d e w : ℕ) (b : Temps) (to : List PlainIr) (s : State) (p : List PlainIr) (u : Mach) → e + w ≤ d
      → Leads t d w b to s p u
      → (v : Mach) × Match (homes wd) (ports wd) (around W) e s v × Below W t b v × Comes W (here W p) u (at (here W to)) v
  leads_on t d e w b to s p u le h =
      let g = leads_past t d e w b to s p u le h in
      (g.0, g.1, g.2, passes_come W (here W p) u (at (here W to)) g.0 g.3)

  -- what is here pays for the branch, or for a part of it
  less_leads : (t d y v w : ℕ) (b : Temps) (to : List PlainIr) (s : State) (p : List PlainIr) (u : Mach) → v ≤ w + y
      → Leads t (d + y) v b to s p u → Leads t d w b to s p u
  less_leads t d y v w b to s p u le h = record {
    match = less (homes wd) (ports wd) (d + y) d s u (omega arith) h.match;
    same = h.same;
    state = h.state;
    comes = λ s1 e k. h.comes s1 e (λ x j. less (homes wd) (ports wd) (e + w + (y + x)) (e + v + x) s1 u (omega (arith, le))
        (k (y + x) (less (homes wd) (ports wd) (d + y + x) (d + (y + x)) s u (omega arith) j)));
  }

  -- past a label
  pub label_leads : (t d w l : ℕ) (b : Temps) (to : List PlainIr) (s : State) (p : List PlainIr) (u : Mach)
      → Leads t d w b (label l ∷ to) s p u → Leads t d w b to s p u
  label_leads t d w l b to s p u h = record {
    match = h.match;
    same = h.same;
    state = h.state;
    comes = λ s1 e k.
        let g = h.comes s1 e k in
        (g.0, g.1, g.2, passes_on W (here W p) (here W (label l ∷ to)) u g.0 g.0 (at (here W to)) g.3 (label_comes W l to g.0));
  }

  opposite_leads : (to : Branch) (l : ℕ) (h : Bool) (t d w : ℕ) (b : Temps) (away rest : List PlainIr) (s : State) (p : List PlainIr)
      (u : Mach) → Leads t d w b (led (opposite to l) h away rest) s p u → Leads t d w b (led to (not h) away rest) s p u
  opposite_leads (where_zero to) l true t d w b away rest s p u k = k
  opposite_leads (where_zero to) l false t d w b away rest s p u k = k
  opposite_leads (where_not to past) l true t d w b away rest s p u k = k
  opposite_leads (where_not to past) l false t d w b away rest s p u k = k

  and_end_leads : (to : Branch) (l : ℕ) (h : Bool) (t d w : ℕ) (b : Temps) (away rest : List PlainIr) (s : State) (p : List PlainIr)
      (u : Mach) → Leads t d w b (led to h away (and_end to l rest)) s p u → Leads t d w b (led to h away rest) s p u
  and_end_leads (where_zero to) l true t d w b away rest s p u k = k
  and_end_leads (where_zero to) l false t d w b away rest s p u k = k
  and_end_leads (where_not to past) l true t d w b away rest s p u k = k
  and_end_leads (where_not to past) l false t d w b away rest s p u k = label_leads t d w l b rest s p u k

  or_end_leads : (to : Branch) (l : ℕ) (h : Bool) (t d w : ℕ) (b : Temps) (away rest : List PlainIr) (s : State) (p : List PlainIr)
      (u : Mach) → Leads t d w b (led to h away (or_end to l rest)) s p u → Leads t d w b (led to h away rest) s p u
  or_end_leads (where_zero to) l true t d w b away rest s p u k = label_leads t d w l b rest s p u k
  or_end_leads (where_zero to) l false t d w b away rest s p u k = k
  or_end_leads (where_not to past) l true t d w b away rest s p u k = k
  or_end_leads (where_not to past) l false t d w b away rest s p u k = k

  -- labels that are found
  opposite_found : (to : Branch) (l : ℕ) (away : List PlainIr) → find (branch_label to) sc.code ≡ Some away
      → find (branch_label (opposite to l)) sc.code ≡ Some away
  opposite_found (where_zero to) l away f = f
  opposite_found (where_not to past) l away f = f

  zero_found : (to : Branch) (l : ℕ) (away rest : List PlainIr) → find (branch_label to) sc.code ≡ Some away
      → Stands sc.code (and_end to l rest) → find (zero_label to l) sc.code ≡ Some (led to false away rest)
  zero_found (where_zero to) l away rest f stands = f
  zero_found (where_not to past) l away rest f stands = sc.resolves l rest stands

  other_found : (to : Branch) (l : ℕ) (away rest : List PlainIr) → find (branch_label to) sc.code ≡ Some away
      → Stands sc.code (or_end to l rest) → find (other_label to l) sc.code ≡ Some (led to true away rest)
  other_found (where_zero to) l away rest f stands = sc.resolves l rest stands
  other_found (where_not to past) l away rest f stands = f

  -- the branch behind a test
  tested_leads : (to : Branch) (ty : PlainType) (t d : ℕ) (b : Temps) (h : Bool) (s : State) (u : Mach) (away rest : List PlainIr)
      → Stands sc.code (branch_to to (temp t ty) rest) → find (branch_label to) sc.code ≡ Some away → Tests ty t d b h s u
      → Leads t d (branch_cost to (scalar_size ty)) b (led to h away rest) s (branch_to to (temp t ty) rest) u
  tested_leads (where_zero to) ty t d b true s u away rest stands f r =
      let i = branch_zero (temp t ty) to in record {
        match = r.test.match;
        same = r.test.same;
        state = r.state;
        comes = λ s1 e k. (
          machine u.temps (worked (op_steps i) u.state),
          spent_on (homes wd) (ports wd) (e + branch_zero_words (scalar_size ty) + 0) e i u.temps s1 u (omega arith)
              (k 0 (less (homes wd) (ports wd) d (d + 0) s u (omega arith) r.test.match)),
          r.test.same,
          past_zero W ty t to rest u r.test.tested r.test.value r.test.zero,
        );
      }
  tested_leads (where_zero to) ty t d b false s u away rest stands f r =
      let i = branch_zero (temp t ty) to in record {
        match = r.test.match;
        same = r.test.same;
        state = r.state;
        comes = λ s1 e k. (
          machine u.temps (worked (op_steps i) u.state),
          spent_on (homes wd) (ports wd) (e + branch_zero_words (scalar_size ty) + 0) e i u.temps s1 u (omega arith)
              (k 0 (less (homes wd) (ports wd) d (d + 0) s u (omega arith) r.test.match)),
          r.test.same,
          at_zero W ty t to rest away u r.test.tested f r.test.value r.test.zero,
        );
      }
  tested_leads (where_not to past) ty t d b true s u away rest stands f r =
      let i = branch_zero (temp t ty) past in
      let u1 : Mach = machine u.temps (worked (op_steps i) u.state) in
      let u2 : Mach = machine u1.temps (worked (op_steps (jump to)) u1.state) in record {
        match = r.test.match;
        same = r.test.same;
        state = r.state;
        comes = λ s1 e k. (
          u2,
          spent_on (homes wd) (ports wd) (e + 5) e (jump to) u1.temps s1 u1 (omega arith)
              (spent_on (homes wd) (ports wd) (e + (branch_zero_words (scalar_size ty) + 5) + 0) (e + 5) i u.temps s1 u (omega arith)
              (k 0 (less (homes wd) (ports wd) d (d + 0) s u (omega arith) r.test.match))),
          r.test.same,
          passes_on W (here W (i ∷ jump to ∷ label past ∷ rest)) (here W (jump to ∷ label past ∷ rest)) u u1 u2 (at (here W away))
              (past_zero W ty t past (jump to ∷ label past ∷ rest) u r.test.tested r.test.value r.test.zero)
              (jumps W to (label past ∷ rest) away u1 f),
        );
      }
  tested_leads (where_not to past) ty t d b false s u away rest stands f r =
      let i = branch_zero (temp t ty) past in
      let other = sc.resolves past rest (behind sc.code _ _ (behind sc.code _ _ stands)) in record {
        match = r.test.match;
        same = r.test.same;
        state = r.state;
        comes = λ s1 e k. (
          machine u.temps (worked (op_steps i) u.state),
          spent_on (homes wd) (ports wd) (e + (branch_zero_words (scalar_size ty) + 5) + 0) e i u.temps s1 u (omega arith)
              (k 0 (less (homes wd) (ports wd) d (d + 0) s u (omega arith) r.test.match)),
          r.test.same,
          at_zero W ty t past (jump to ∷ label past ∷ rest) rest u r.test.tested other r.test.value r.test.zero,
        );
      }

  tested_branch : (n : ℕ) (p : List PlainIr) (m : Mach) (to : Branch) (ty : PlainType) (t d : ℕ) (b : Temps) (away rest : List PlainIr)
      (o : Outcome Bool) → Stands sc.code (branch_to to (temp t ty) rest) → find (branch_label to) sc.code ≡ Some away
      → Goes n p m (on_to (branch_to to (temp t ty) rest)) (Tests ty t d b) o
      → Branches n p m to away rest t d (branch_cost to (scalar_size ty)) b o
  tested_branch n p m to ty t d b away rest (got h s) stands f g =
      (branch_to to (temp t ty) rest, g.0, tested_leads to ty t d b h s g.0 away rest stands f g.1, g.2)
  tested_branch n p m to ty t d b away rest (more s) stands f g = g
  tested_branch n p m to ty t d b away rest (undefined point s) stands f g = tt

  after_branch : (n : ℕ) (p q : List PlainIr) (m u : Mach) (to : Branch) (away rest : List PlainIr) (t d w : ℕ) (b : Temps)
      (o : Outcome Bool) → Comes W (here W p) m (at (here W q)) u → Branches n q u to away rest t d w b o
      → Branches n p m to away rest t d w b o
  after_branch n p q m u to away rest t d w b (got h s) c g =
      (g.0, g.1, g.2, comes_on W (here W p) (here W q) m u g.1 (at (here W g.0)) c g.3)
  after_branch n p q m u to away rest t d w b (more s) c g =
      after W (on_to rest) (λ (h : Bool) (s1 : State) (v : Mach). ⊤) n (here W p) (here W q) m u (more s) c g
  after_branch n p q m u to away rest t d w b (undefined point s) c g = tt

  -- from a branch on
  pub branch_then : {B : Type 0} (n : ℕ) (p : List PlainIr) (m : Mach) (to : Branch) (away rest : List PlainIr) (t d w : ℕ) (b : Temps)
      (o : Outcome Bool) (on : B → Target) (R : B → State → Mach → Type 0) (go : Bool → State → Outcome B)
      → Branches n p m to away rest t d w b o
      → ((h : Bool) (s : State) (q : List PlainIr) (u : Mach) → Leads t d w b (led to h away rest) s q u → Goes n q u on R (go h s))
      → Goes n p m on R (next o go)
  branch_then n p m to away rest t d w b (got h s) on R go g f =
      after W on R n (here W p) (here W g.0) m g.1 (go h s) g.3 (f h s g.0 g.1 g.2)
  branch_then n p m to away rest t d w b (more s) on R go g f = g
  branch_then n p m to away rest t d w b (undefined point s) on R go g f = tt

  -- on one of two ways
  pub branch_choose : {B : Type 0} (n : ℕ) (p : List PlainIr) (m : Mach) (to : Branch) (away rest : List PlainIr) (t d e w : ℕ) (b : Temps)
      (o : Outcome Bool) (on : B → Target) (R : B → State → Mach → Type 0) (x y : State → Outcome B) → e + w ≤ d
      → Branches n p m to away rest t d w b o
      → ((s : State) (u : Mach) → IsTypedState wd.program s → Match (homes wd) (ports wd) (around W) e s u → Below W t b u
      → Goes n (led to true away rest) u on R (x s))
      → ((s : State) (u : Mach) → IsTypedState wd.program s → Match (homes wd) (ports wd) (around W) e s u → Below W t b u
      → Goes n (led to false away rest) u on R (y s))
      → Goes n p m on R (next o (λ h s. choose h x y s))
  branch_choose n p m to away rest t d e w b o on R x y le g f1 f2 =
      branch_then n p m to away rest t d w b o on R (λ h s. choose h x y s) g (λ h s q u k. either_way h s q u k)
    where
      either_way : (h : Bool) (s : State) (q : List PlainIr) (u : Mach) → Leads t d w b (led to h away rest) s q u
          → Goes n q u on R (choose h x y s)
      either_way true s q u k =
          let c = leads_on t d e w b (led to true away rest) s q u le k in
          after W on R n (here W q) (here W (led to true away rest)) u c.0 (x s) c.3 (f1 s c.0 k.state c.1 c.2)
      either_way false s q u k =
          let c = leads_on t d e w b (led to false away rest) s q u le k in
          after W on R n (here W q) (here W (led to false away rest)) u c.0 (y s) c.3 (f2 s c.0 k.state c.1 c.2)

  -- a branch seen as another one
  branch_as : (n : ℕ) (p : List PlainIr) (m : Mach) (to1 to : Branch) (away1 rest1 away rest : List PlainIr) (t d1 w1 d w : ℕ) (b : Temps)
      (o : Outcome Bool) → Branches n p m to1 away1 rest1 t d1 w1 b o
      → ((h : Bool) (s : State) (q : List PlainIr) (u : Mach) → Leads t d1 w1 b (led to1 h away1 rest1) s q u
      → Leads t d w b (led to h away rest) s q u) → Branches n p m to away rest t d w b o
  branch_as n p m to1 to away1 rest1 away rest t d1 w1 d w b (got h s) g f = (g.0, g.1, f h s g.0 g.1 g.2, g.3)
  branch_as n p m to1 to away1 rest1 away rest t d1 w1 d w b (more s) g f = g
  branch_as n p m to1 to away1 rest1 away rest t d1 w1 d w b (undefined point s) g f = tt

  -- `!`
  not_branch : (n : ℕ) (p : List PlainIr) (m : Mach) (to : Branch) (l : ℕ) (away rest : List PlainIr) (t d row v w : ℕ) (b : Temps)
      (o : Outcome Bool) → v ≤ w + row → Branches n p m (opposite to l) away rest t (d + row) v b o
      → Branches n p m to away rest t d w b (next o (λ h s. got (not h) s))
  not_branch n p m to l away rest t d row v w b (got h s) le g = (
    g.0,
    g.1,
    less_leads t d row v w b (led to (not h) away rest) s g.0 g.1 le
        (opposite_leads to l h t (d + row) v b away rest s g.0 g.1 g.2),
    g.3,
  )
  not_branch n p m to l away rest t d row v w b (more s) le g = g
  not_branch n p m to l away rest t d row v w b (undefined point s) le g = tt

  -- `&&`: the second operand, where the first is not 0
  and_branch : (n : ℕ) (p : List PlainIr) (m : Mach) (to : Branch) (z l : ℕ) (away next_code rest : List PlainIr) (t d row v y x w : ℕ)
      (b : Temps) (o : Outcome Bool) (f : State → Outcome Bool) → y + v ≤ row → x ≤ w + y
      → Branches n p m (where_zero z) (led to false away rest) next_code t (d + row) v b o
      → ((s : State) (u : Mach) → IsTypedState wd.program s → Match (homes wd) (ports wd) (around W) (d + y) s u → Below W t b u
      → Branches n next_code u to away (and_end to l rest) t (d + y) x b (f s))
      → Branches n p m to away rest t d w b (next o (λ h s. choose h f (λ s1. got false s1) s))
  and_branch n p m to z l away next_code rest t d row v y x w b (got true s) f le lx g second =
      let c = leads_on t (d + row) (d + y) v b next_code s g.0 g.1 (omega (arith, le)) g.2 in
      after_branch n p g.0 m g.1 to away rest t d w b (f s) g.3 (after_branch n g.0 next_code g.1 c.0 to away rest t d w b (f s) c.3
      (branch_as n next_code c.0 to to away (and_end to l rest) away rest t (d + y) x d w b (f s)
      (second s c.0 g.2.state c.1 c.2)
      (λ h s1 q u k. less_leads t d y x w b (led to h away rest) s1 q u lx (and_end_leads to l h t (d + y) x b away rest s1 q u k))))
  and_branch n p m to z l away next_code rest t d row v y x w b (got false s) f le lx g second =
      (g.0, g.1, less_leads t d row v w b (led to false away rest) s g.0 g.1 (omega (arith, le)) g.2, g.3)
  and_branch n p m to z l away next_code rest t d row v y x w b (more s) f le lx g second = g
  and_branch n p m to z l away next_code rest t d row v y x w b (undefined point s) f le lx g second = tt

  -- `||`: where the first is 0
  or_branch : (n : ℕ) (p : List PlainIr) (m : Mach) (to : Branch) (z past l : ℕ) (away next_code rest : List PlainIr) (t d row v y x w : ℕ)
      (b : Temps) (o : Outcome Bool) (f : State → Outcome Bool) → y + v ≤ row → x ≤ w + y
      → Branches n p m (where_not z past) (led to true away rest) next_code t (d + row) v b o
      → ((s : State) (u : Mach) → IsTypedState wd.program s → Match (homes wd) (ports wd) (around W) (d + y) s u → Below W t b u
      → Branches n next_code u to away (or_end to l rest) t (d + y) x b (f s))
      → Branches n p m to away rest t d w b (next o (λ h s. choose h (λ s1. got true s1) f s))
  or_branch n p m to z past l away next_code rest t d row v y x w b (got true s) f le lx g second =
      (g.0, g.1, less_leads t d row v w b (led to true away rest) s g.0 g.1 (omega (arith, le)) g.2, g.3)
  or_branch n p m to z past l away next_code rest t d row v y x w b (got false s) f le lx g second =
      let c = leads_on t (d + row) (d + y) v b next_code s g.0 g.1 (omega (arith, le)) g.2 in
      after_branch n p g.0 m g.1 to away rest t d w b (f s) g.3 (after_branch n g.0 next_code g.1 c.0 to away rest t d w b (f s) c.3
      (branch_as n next_code c.0 to to away (or_end to l rest) away rest t (d + y) x d w b (f s)
      (second s c.0 g.2.state c.1 c.2)
      (λ h s1 q u k. less_leads t d y x w b (led to h away rest) s1 q u lx (or_end_leads to l h t (d + y) x b away rest s1 q u k))))
  or_branch n p m to z past l away next_code rest t d row v y x w b (more s) f le lx g second = g
  or_branch n p m to z past l away next_code rest t d row v y x w b (undefined point s) f le lx g second = tt

  -- the truth values of `!`, `&&` and `||` as conditions
  not_condition : (e : PlainExpr) (o : Outcome Bool)
      → condition (set wd) e (next o (λ h s. got (Number (truth (not h))) s)) ≡ next o (λ h s. got (not h) s)
  not_condition e (got true s) = refl
  not_condition e (got false s) = refl
  not_condition e (more s) = refl
  not_condition e (undefined point s) = refl

  truth_condition : (e : PlainExpr) (o : Outcome Bool) → condition (set wd) e (truth_value o) ≡ o
  truth_condition e (got true s) = refl
  truth_condition e (got false s) = refl
  truth_condition e (more s) = refl
  truth_condition e (undefined point s) = refl

  and_condition : (e : PlainExpr) (o : Outcome Bool) (f : State → Outcome Bool)
      → condition (set wd) e (next o (λ h s. choose h (λ s1. truth_value (f s1)) (λ s1. got (Number (truth false)) s1) s))
      ≡ next o (λ h s. choose h f (λ s1. got false s1) s)
  and_condition e (got true s) f = truth_condition e (f s)
  and_condition e (got false s) f = refl
  and_condition e (more s) f = refl
  and_condition e (undefined point s) f = refl

  or_condition : (e : PlainExpr) (o : Outcome Bool) (f : State → Outcome Bool)
      → condition (set wd) e (next o (λ h s. choose h (λ s1. got (Number (truth true)) s1) (λ s1. truth_value (f s1)) s))
      ≡ next o (λ h s. choose h (λ s1. got true s1) f s)
  or_condition e (got true s) f = refl
  or_condition e (got false s) f = truth_condition e (f s)
  or_condition e (more s) f = refl
  or_condition e (undefined point s) f = refl

  -- a branch, then the truth value
  settled : (h c : Bool) (n t d e w : ℕ) (b : Temps) (ty : PlainType) (l : ℕ) (s : State) (p : List PlainIr) (u : Mach)
      (rest : List PlainIr) → Stands sc.code (truth_code h ty l t rest) → 5 * scalar_size ty + (d + 5) + w ≤ e
      → Leads t e w b (led (where_zero l) c (off_code h ty l t rest) (truth_code h ty l t rest)) s p u
      → Goes n p u (on_to rest) (HasValue W ty t d b) (got (Number (truth (chosen h c))) s)
  settled h true n t d e w b ty l s p u rest stands le k =
      let f = 5 * scalar_size ty + (d + 5) in
      let g = leads_on t e f w b (truth_code h ty l t rest) s p u le k in
      after W (on_to rest) (HasValue W ty t d b) n (here W p) (here W (truth_code h ty l t rest)) u g.0 (got (Number (truth h)) s) g.3
      (truth_on n t d f b h ty l s g.0 rest stands (omega arith) g.1 g.2)
  settled h false n t d e w b ty l s p u rest stands le k =
      let f = 5 * scalar_size ty + (d + 5) in
      let g = leads_on t e f w b (off_code h ty l t rest) s p u le k in
      after W (on_to rest) (HasValue W ty t d b) n (here W p) (here W (off_code h ty l t rest)) u g.0 (got (Number (truth (not h))) s) g.3
      (truth_off n t d f b h ty l s g.0 rest (omega arith) g.1 g.2)

  -- the second operand of `&&` and `||`, and the truth value
  second_value : (n : ℕ) (p : List PlainIr) (m : Mach) (t d e w : ℕ) (b : Temps) (ty : PlainType) (l : ℕ) (mid rest : List PlainIr)
      (o : Outcome Bool) → Stands sc.code (truth_code true ty l t rest) → 5 * scalar_size ty + (d + 5) + w ≤ e
      → ((h : Bool) (s : State) (q : List PlainIr) (u : Mach) → Leads t e w b (led (where_zero l) h (off_code true ty l t rest) mid) s q u
      → Leads t e w b (led (where_zero l) h (off_code true ty l t rest) (truth_code true ty l t rest)) s q u)
      → Branches n p m (where_zero l) (off_code true ty l t rest) mid t e w b o
      → Goes n p m (on_to rest) (HasValue W ty t d b) (truth_value o)
  second_value n p m t d e w b ty l mid rest o stands le f g =
      branch_then n p m (where_zero l) (off_code true ty l t rest) mid t e w b o (on_to rest) (HasValue W ty t d b)
      (λ h s. got (Number (truth h)) s) g
      (λ h s q u k. subst (λ (z : Bool). Goes n q u (on_to rest) (HasValue W ty t d b) (got (Number (truth z)) s)) (affirmed h)
      (settled true h n t d e w b ty l s q u rest stands le (f h s q u k)))

  past_mid : (h : Bool) (k l t e w : ℕ) (b : Temps) (away rest : List PlainIr) (s : State) (q : List PlainIr) (u : Mach)
      → Leads t e w b (led (where_zero l) h away (label k ∷ rest)) s q u → Leads t e w b (led (where_zero l) h away rest) s q u
  past_mid true k l t e w b away rest s q u g = label_leads t e w k b rest s q u g
  past_mid false k l t e w b away rest s q u g = g

  abbrev Row : PlainType → PlainNode → ℕ
  Row ty node = node_words (plain_table wd.io) ty node

  -- a value of a type that is another one's name
  pub as_type : (ty aty : PlainType) (n : ℕ) (p : List PlainIr) (m : Mach) (to : Value → Target) (t d : ℕ) (b : Temps) (o : Outcome Value)
      → aty ≡ ty → Goes n p m to (HasValue W aty t d b) o → Goes n p m to (HasValue W ty t d b) o
  as_type ty aty n p m to t d b o e g = subst (λ (z : PlainType). Goes n p m to (HasValue W z t d b) o) e g

  -- ---- assignments and calls, from the values of their parts

  -- a call within its row, from its arguments
  call_runs : (n : ℕ) (ty : PlainType) (mode : Mode) (f : ℕ) (args : PlainExprs) (l t d : ℕ) (b : Temps) (s : State) (m : Mach)
      (rest : List PlainIr) → n ≤ wd.n → IsOther wd.program f → IsTyped wd.program wd.io ty (call f args)
      → Goes n (args_code wd.program (ports wd) args l t (params_code (params_of wd.program f) args t (call_function f (result_temp t ty)
      ∷ rest))) m (on_to (params_code (params_of wd.program f) args t (call_function f (result_temp t ty) ∷ rest)))
      (HasArguments args t (d + Row ty (call f args)) b) (values_of (set wd) (calls_to wd sc.depth) args s)
      → Goes n (node_code wd.program (ports wd) ty mode (call f args) l t rest) m (on_to rest) (HasValue W ty t d b)
      (node_value (set wd) (calls_to wd sc.depth) ty mode (call f args) s)
  call_runs n ty mode f args l t d b s m rest le other tp r0 =
      bind W n (here W (args_code wd.program (ports wd) args l t calling)) m (on_to calling) (HasArguments args t e b) (on_to rest)
      (HasValue W ty t d b) (here W calling) (values_of (set wd) (calls_to wd sc.depth) args s) _ (λ z. refl) r0
      (λ xs s1 u q. fewer W (on_to rest) (HasValue W ty t d b) wd.n n (here W calling) u (calls_to wd sc.depth f xs s1) le
      (renamed u xs s1 (λ d1 h. sc.callee f g.0 g.1 other sc.code sc.stack args xs t d b rest s1 u g.2.1 q.held h q.state q.same) q.match))
    where
      calling : List PlainIr
      calling = params_code (params_of wd.program f) args t (call_function f (result_temp t ty) ∷ rest)

      e : ℕ
      e = d + Row ty (call f args)

      g : (g : PlainFunction) × (slice_get wd.program.functions f ≡ Some g) × ((ty ≡ g.returns) × AreArguments wd.program g.params args)
      g = some_and (slice_get wd.program.functions f) (λ h. (ty ≡ h.returns) × AreArguments wd.program h.params args) tp

      params : g.0.params ≡ params_of wd.program f
      params = sym (ap (λ z. unwrap_or (option_map (λ (h : PlainFunction). h.params) z) []) g.1)

      -- the callee's parameters and result are those that the call names
      renamed : (u : Mach) (xs : List Value) (s1 : State) → (ℕ → Match (homes wd) (ports wd) (around W)
          (d + (60 + 10 * (total_size args + scalar_size g.0.returns))) s1 u
          → Goes wd.n (params_code g.0.params args t (call_function f (result_temp t g.0.returns) ∷ rest)) u (on_to rest)
          (HasValue W g.0.returns t d b) (calls_to wd sc.depth f xs s1))
          → Match (homes wd) (ports wd) (around W) e s1 u → Goes wd.n calling u (on_to rest) (HasValue W ty t d b) (calls_to wd sc.depth
          f xs s1)
      renamed u xs s1 k h =
          subst (λ (z : PlainType). Goes wd.n (params_code (params_of wd.program f) args t (call_function f (result_temp t z) ∷ rest)) u
          (on_to rest) (HasValue W z t d b) (calls_to wd sc.depth f xs s1)) (sym g.2.0)
          (subst (λ (z : List ℕ). Goes wd.n (params_code z args t (call_function f (result_temp t g.0.returns) ∷ rest)) u (on_to rest)
          (HasValue W g.0.returns t d b) (calls_to wd sc.depth f xs s1)) params
          (k 0 (subst (λ (z : PlainType). Match (homes wd) (ports wd) (around W) (d + (60 + 10 * (total_size args + scalar_size z))) s1
          u) g.2.0 h)))

  -- ---- places

  abbrev pub place_at : PlainPlace → State → Outcome PointerValue
  place_at q s = place_of (set wd) (calls_to wd sc.depth) q s

  -- a pointer to where a site is, which stands at t where the site is not in an object that is named
  record HasSite (st : Site) (t d : ℕ) (b : Temps) (q : PointerValue) (s : State) (u : Mach) : Type 0 where
    match : Match (homes wd) (ports wd) (around W) d s u
    there : IsSite W st u.temps q
    same : Below W t b u
    state : IsTypedState wd.program s

  space_is : (q : PlainPlace) (t : ℕ) → Root wd.program q t → IsSpace W (site wd.program q t) (place_space wd.program q)
  space_is q t (in_object o offset e f g) = subst (λ z. IsSpace W z (place_space wd.program q)) (sym e) g
  space_is q t (at_pointer space const to e f g) = subst (λ z. IsSpace W z (place_space wd.program q)) (sym e) g

  stands_at : (q : PlainPlace) (t : ℕ) → Root wd.program q t → StandsAt W t (site wd.program q t)
  stands_at q t (in_object o offset e f g) = subst (λ z. StandsAt W t z) (sym e) tt
  stands_at q t (at_pointer space const to e f g) = subst (λ z. StandsAt W t z) (sym e) refl

  object_runs : (n o t d : ℕ) (b : Temps) (s : State) (m : Mach) (rest : List PlainIr) → IsTypedState wd.program s
      → Match (homes wd) (ports wd) (around W) d s m
      → Below W t b m → (z : Option ObjectState) → Goes n rest m (on_to rest) (HasSite (named o 0) t d b)
      (object_place (option_map (λ (x : ObjectState). record { object = o; instance = x.serial; offset = 0 }) z) s)
  object_runs n o t d b s m rest st h same None = tt
  object_runs n o t d b s m rest st h same (Some x) = (
    m,
    record { match = h; there = (x.serial, refl); same = same; state = st },
    stays W (here W rest) m,
  )

  pointer_runs : (n : ℕ) (e : PlainExpr) (t d : ℕ) (b : Temps) (x : Value) (s : State) (u : Mach) (rest : List PlainIr)
      → IsScalar (type_of_expr e) → Has (type_of_expr e) t d b x s u → Goes n rest u (on_to rest)
      (HasSite (pointed (temp t (type_of_expr e)) (space_of (type_of_expr e))) t d b) (pointed_to x s)
  pointer_runs n e t d b (Number x) s u rest i h = tt
  pointer_runs n e t d b (Pointer q) s u rest i h = (
    u,
    record {
      match = h.has.match;
      there = h.has.value i;
      same = h.has.same;
      state = h.state;
    },
    stays W (here W rest) u,
  )

  -- a member
  further_runs : (n : ℕ) (st : Site) (k t d : ℕ) (b : Temps) (p0 : PointerValue) (s : State) (u : Mach) (rest : List PlainIr)
      → StandsAt W t st → HasSite st t (d + member_words) b p0 s u → (r : Result PointerValue Undefined)
      → moved p0 (referent_of wd.program p0 s) (pos k) ≡ r → Goes n (further_code k st rest) u (on_to rest) (HasSite (further k st) t d b)
      (given r s)
  further_runs n st k t d b p0 s u rest a h (Err point) f = tt
  further_runs n (named o offset) k t d b p0 s u rest a h (Ok q) f =
      let p : ObjectPointer = record { object = o; instance = h.there.0; offset = offset } in (
        u,
        record {
          match = less (homes wd) (ports wd) (d + member_words) d s u (omega arith) h.match;
          there = (
            h.there.0,
            moved_offset p (referent_of wd.program (Some p) s) k q (ap (λ z. moved z (referent_of wd.program z s) (pos k))
                (sym h.there.1) ∙ f),
          );
          same = h.same;
          state = h.state;
        },
        stays W (here W rest) u,
      )
  further_runs n (pointed ptr space) k t d b p0 s u rest a h (Ok q) f =
      let g = field_runs W n t d (d + member_words) ptr space k p0 q b s u rest a (omega arith) h.match h.same h.there f in
      (g.0, record { match = g.1.0; there = g.1.1; same = g.1.2; state = h.state }, g.2)

  -- from what stands before a part to that part
  abbrev AtPlace : ℕ → PlainPlace → (l t e : ℕ) → Temps → State → Mach → Type 0
  AtPlace n q l t e b s m = (next_code : List PlainIr) → Stands sc.code (place_code wd.program (ports wd) q l t next_code)
      → Match (homes wd) (ports wd) (around W) e s m → Below W t b m → Goes n (place_code wd.program (ports wd) q l t next_code) m (on_to
      next_code)
      (HasSite (site wd.program q t) t e b) (place_at q s)

  abbrev AtRight : ℕ → PlainExpr → (l v : ℕ) → List PlainIr → Type 0
  AtRight n a l v tail = (e : ℕ) (s1 : State) (u : Mach) → IsTypedState wd.program s1
      → Stands sc.code (expr_code wd.program (ports wd) a l v tail) → Match (homes wd) (ports wd) (around W) e s1 u
      → Goes n (expr_code wd.program (ports wd) a l v tail) u (on_to tail) (Has (type_of_expr a) v e u.temps) (value a s1)

  -- ---- nodes of places

  load_runs : (n : ℕ) (ty : PlainType) (mode : Mode) (q : PlainPlace) (l t d : ℕ) (b : Temps) (s : State) (m : Mach) (rest : List PlainIr)
      → IsTyped wd.program wd.io ty (load q) → AtPlace n q l t (d + Row ty (load q)) b s m
      → Stands sc.code (node_code wd.program (ports wd) ty mode (load q) l t rest)
      → Match (homes wd) (ports wd) (around W) (d + Row ty (load q)) s m
      → Below W t b m
      → Goes n (node_code wd.program (ports wd) ty mode (load q) l t rest) m (on_to rest) (HasValue W ty t d b)
      (node_value (set wd) (calls_to wd sc.depth) ty mode (load q) s)
  load_runs n ty mode q l t d b s m rest tp at_place stands h same =
      let st = site wd.program q t in
      let e = d + Row ty (load q) in
      let top = root wd.program q t ty tp.1 in
      let tail : List PlainIr = load_from (temp t ty) st ∷ rest in
      let pays = load_paid wd.program q t t ty top in
      bind W n (here W (place_code wd.program (ports wd) q l t tail)) m (on_to tail) (HasSite st t e b) (on_to rest) (HasValue W ty t d b)
      (here W tail) (place_at q s) _ (λ z. refl)
      (at_place tail stands h same)
      (λ p0 s1 u r. read_runs W (apart wd) n t d e b ty st (place_space wd.program q) p0 s1 u rest (space_is q t top) r.there
      (omega (arith, pays)) r.match r.same (accessed (set wd) ty q p0 s1) refl)

  -- the pointer to a place has the bytes of its type
  abbrev AddressFits : Site → PlainType → ℕ → Type 0
  AddressFits (named o offset) ty t = ⊤
  AddressFits (pointed ptr space) ty t = (ptr.at ≡ t) × (ptr.bytes ≡ scalar_size ty)

  address_fits : (ty : PlainType) (q : PlainPlace) (t : ℕ) → IsAddressType wd.program ty q → Root wd.program q t
      → AddressFits (site wd.program q t) ty t
  address_fits ty q t tp (in_object o offset e f g) = subst (λ z. AddressFits z ty t) (sym e) tt
  address_fits ty q t tp (at_pointer space const to e f g) = subst (λ z. AddressFits z ty t) (sym e)
      (refl, address_width wd.program ty q space tp g)

  address_at : (n : ℕ) (ty : PlainType) (t d e : ℕ) (b : Temps) (st : Site) (p0 : PointerValue) (s : State) (u : Mach) (rest : List PlainIr)
      → 5 * scalar_size ty + d ≤ e → AddressFits st ty t → HasSite st t e b p0 s u → Goes n (address_code st ty t rest) u (on_to rest)
      (HasValue W ty t d b) (got (Pointer p0) s)
  address_at n ty t d e b (named o offset) p0 s u rest le a h =
      subst (λ z. Goes n (address (temp t ty) o offset ∷ rest) u (on_to rest) (HasValue W ty t d b) (got (Pointer z) s)) (sym h.there.1)
      (address_runs W n t d e b ty o offset h.there.0 s u rest le h.match h.same)
  address_at n ty t d e b (pointed ptr space) p0 s u rest le a h = (
    u,
    record {
      match = less (homes wd) (ports wd) e d s u (omega (arith, le)) h.match;
      value = λ i. ap u.temps (sym a.0) ∙ h.there
          ∙ ap (λ z. Some (record { bytes = z; content = content_of z (shown (Pointer p0)) })) a.1;
      same = h.same;
    },
    stays W (here W rest) u,
  )

  pointer_to_runs : (n : ℕ) (ty : PlainType) (mode : Mode) (q : PlainPlace) (l t d : ℕ) (b : Temps) (s : State) (m : Mach)
      (rest : List PlainIr) → IsTyped wd.program wd.io ty (address_of q) → (to : PlainType) → place_type wd.program q ≡ Some to
      → AtPlace n q l t (d + Row ty (address_of q)) b s m → Stands sc.code (node_code wd.program (ports wd) ty mode (address_of q) l t rest)
      → Match (homes wd) (ports wd) (around W) (d + Row ty (address_of q)) s m → Below W t b m
      → Goes n (node_code wd.program (ports wd) ty mode (address_of q) l t rest) m (on_to rest) (HasValue W ty t d b)
      (node_value (set wd) (calls_to wd sc.depth) ty mode (address_of q) s)
  pointer_to_runs n ty mode q l t d b s m rest tp to is at_place stands h same =
      let st = site wd.program q t in
      let e = d + Row ty (address_of q) in
      let tail = address_code st ty t rest in
      bind W n (here W (place_code wd.program (ports wd) q l t tail)) m (on_to tail) (HasSite st t e b) (on_to rest) (HasValue W ty t d b)
      (here W tail) (place_at q s) _ (λ z. refl)
      (at_place tail stands h same)
      (λ p0 s1 u r. address_at n ty t d e b st p0 s1 u rest (omega arith) (address_fits ty q t tp (root wd.program q t to is)) r)

  -- a value behind the pointer is brought to its place
  settled_runs : (n : ℕ) (ty : PlainType) (st : Site) (t d : ℕ) (b c : Temps) (rest p : List PlainIr) (m : Mach) (o : Outcome Value)
      → IsScalar ty → ((i : ℕ) → i < t → c i ≡ b i) → Goes n p m (on_to (settled_code st ty t rest))
      (HasValue W ty (value_place st t) (settle_words wd.program st ty + d) c) o → Goes n p m (on_to rest) (HasValue W ty t d b) o
  settled_runs n ty (named o offset) t d b c rest p m out i same g =
      strengthened W (on_to rest) (HasValue W ty t (0 + d) c) (HasValue W ty t d b) n (here W p) m out
      (λ y s u is k. record {
        match = less (homes wd) (ports wd) (0 + d) d s u (omega arith) k.match;
        value = k.value;
        same = λ j lt. k.same j lt
            ∙ same j lt;
      }) g
  settled_runs n ty (pointed ptr space) t d b c rest p m out i same g =
      onward W n (here W p) (here W (settled_code (pointed ptr space) ty t rest)) m (on_to (settled_code (pointed ptr space) ty t rest))
      (HasValue W ty (t + 1) (5 * scalar_size ty + d) c) (on_to rest) (HasValue W ty t d b) out (λ z. refl) g
      (λ y s u k. copy_runs W n t d (5 * scalar_size ty + d) ty b y s u rest (omega arith) i k.match (k.value i)
      (λ j lt. k.same j (omega (arith, lt)) ∙ same j lt))

  store_runs : (n : ℕ) (ty : PlainType) (mode : Mode) (q : PlainPlace) (a : PlainExpr) (l t d : ℕ) (b : Temps) (s : State) (m : Mach)
      (rest : List PlainIr) → IsTyped wd.program wd.io ty (assign q a) → AtPlace n q l t (d + Row ty (assign q a)) b s m
      → AtRight n a (l + place_labels q) (value_place (site wd.program q t) t)
      (store_to (site wd.program q t) (temp (value_place (site wd.program q t) t) ty) ∷ settled_code (site wd.program q t) ty t rest)
      → Stands sc.code (node_code wd.program (ports wd) ty mode (assign q a) l t rest)
      → Match (homes wd) (ports wd) (around W) (d + Row ty (assign q
      a)) s m
      → Below W t b m
      → Goes n (node_code wd.program (ports wd) ty mode (assign q a) l t rest) m (on_to rest) (HasValue W ty t d b)
      (node_value (set wd) (calls_to wd sc.depth) ty mode (assign q a) s)
  store_runs n ty mode q a l t d b s m rest tp at_place right stands h same =
      let st = site wd.program q t in
      let v = value_place st t in
      let e = d + Row ty (assign q a) in
      let top = root wd.program q t ty tp.0.1 in
      let final = settled_code st ty t rest in
      let last : List PlainIr = store_to st (temp v ty) ∷ final in
      let next_code = expr_code wd.program (ports wd) a (l + place_labels q) v last in
      let pays = store_paid wd.program q t v ty (type_of_expr a) top in
      bind W n (here W (place_code wd.program (ports wd) q l t next_code)) m (on_to next_code) (HasSite st t e b) (on_to rest)
      (HasValue W ty t d b) (here W next_code) (place_at q s) _ (λ z. refl)
      (at_place next_code stands h same)
      (λ p0 s1 u r. bind W n (here W next_code) u (on_to last) (Has (type_of_expr a) v e u.temps) (on_to rest) (HasValue W ty t d b)
      (here W last) (value a s1) _ (λ z. refl)
      (right e s1 u r.state (place_behind wd.program (ports wd) sc.code q l t next_code stands) r.match)
      (λ x s2 u2 z. settled_runs n ty st t d b u.temps rest last u2 (write (accessed (set wd) ty q p0 s2) x s2) tp.0.0 r.same
      (write_runs W (apart wd) n v (settle_words wd.program st ty + d) e u.temps ty st (place_space wd.program q) p0 s2 u2 x final
      (space_is q t top) (site_kept W t st p0 u.temps u2 (stands_at q t top) z.has.same r.there) tp.0.0
      (subst (λ (k : PlainType). HasType wd.program k x) tp.1 z.typed) (omega (arith, pays))
      (subst (λ (k : PlainType). HasValue W k v e u.temps x s2 u2) tp.1 z.has) (accessed (set wd) ty q p0 s2) refl)))

  -- ---- compound assignments and steps

  -- what an update does from its old value and the right side on
  abbrev changed : BinOp → (own mode : Mode) → PlainType → Option SpaceId → PointerValue → Bool → Value → PlainType → Value → State
      → Outcome Value
  changed op own mode ty sp p0 new old right y s =
      next (given (compound_result op own mode (operand_of wd.program ty old s) (operand_of wd.program right y s)) s)
      (λ x s1. next (write (access wd.program ty sp p0 s1) x s1) (λ z s2. got (either new x old) s2))

  module _ (n : ℕ) (op : BinOp) (own mode : Mode) (st : Site) (sp : Option SpaceId) (p0 : PointerValue) (v d : ℕ) (b : Temps)
      (rest : List PlainIr) (is_space : IsSpace W st sp) (at_site : (u : Mach) → Below W v b u → IsSite W st u.temps p0) where
    numbers_change : (ty right : PlainType) → IsNumeric ty → IsScalar ty → IsExprType wd.program right → HaveCompoundTypes op ty right
        → (old y : Value) (s : State) (u : Mach) → HasType wd.program ty old → HasType wd.program right y
        → Match (homes wd) (ports wd) (around W) (words_of op (update_types op (number_type ty) (number_type right)) ty right + (op_words
        (store_to st (temp v ty)) + d)) s u → u.temps v ≡ Some (held_of ty old) → u.temps (v + 1) ≡ Some (held_of right y) → Below W v b u
        → Goes n (update_code op (update_types op (number_type ty) (number_type right)) own mode ty st v right rest) u (on_to rest)
        (HasValue W ty v d b) (changed op own mode ty sp p0 true old right y s)
    numbers_change ty right num scalar rk ct old y s u told ty1 h ho hy below =
        let ts = update_types op (number_type ty) (number_type right) in
        let tail = update_code op ts own mode ty st v right rest in
        let facts = compound_facts wd.program op ty right num rk ct in
        let known = update_known own (number_type ty) (number_type right) (number_known ty num scalar) (number_known right facts.0 facts.1)
        op facts.2 in
        let x0 = number_value wd.program ty old num told in
        let y0 = number_value wd.program right y facts.0 ty1 in
        subst (λ (z : Value). Goes n tail u (on_to rest) (HasValue W ty v d b) (changed op own mode ty sp p0 true z right y s)) (sym x0.1)
        (subst (λ (z : Value). Goes n tail u (on_to rest) (HasValue W ty v d b) (changed op own mode ty sp p0 true (Number x0.0) right z s))
        (sym y0.1)
        (subst (λ r. Goes n tail u (on_to rest) (HasValue W ty v d b) (stored_value wd sc.code sc.stack n op ts own mode known ty right st
        sp p0 is_space v d b at_site rest num facts.0 scalar facts.1 (as_number r) s))
        (sym (compound_same op own mode (number_type ty) (number_type right) x0.0 y0.0 facts.2 x0.2 y0.2))
        (update_runs wd sc.code sc.stack n op ts own mode known ty right st sp p0 is_space v d b at_site rest num facts.0 scalar facts.1
        (brought ts.left own (number_type ty) x0.0) x0.0 y0.0 s u (words_of op ts ty right + (op_words (store_to st (temp v ty)) + d))
        (omega arith) (value_number (homes wd) ty x0.0 num x0.2) (value_number (homes wd) right y0.0 facts.0 y0.2) h
        (ho ∙ ap (λ z. Some (held_of ty z)) x0.1) (hy ∙ ap (λ z. Some (held_of right z)) y0.1) below refl)))

    -- the pointer that is stored
    moved_stored : (space : SpaceId) (k : Bool) (to right : PlainType) (q e : ℕ) (c : Temps) (new : Bool) (old x : Value) (s : State)
        (u : Mach) → op_words (store_to st (temp q (pointer space k to))) + d ≤ e → IsSite W st u.temps p0
        → HasType (homes wd) (pointer space k to) x → HasValue W (pointer space k to) q e c x s u
        → Goes n (store_to st (temp q (pointer space k to)) ∷ rest) u (on_to rest) (HasValue W (pointer space k to) q d c)
        (write (access wd.program (pointer space k to) sp p0 s) x s)
    moved_stored space k to right q e c new old x s u le there vt h =
        write_runs W (apart wd) n q d e c (pointer space k to) st sp p0 s u x rest is_space there tt vt le h
        (access wd.program (pointer space k to) sp p0 s) refl

    pointer_change : (space : SpaceId) (k : Bool) (to right : PlainType) → IsExprType wd.program right → IsIntegerType right
        → (p : PointerValue) (y : ℤ) (s : State) (u : Mach)
        → HaveOffsetTypes op right → HasType wd.program (pointer space k to) (Pointer p) → HasType wd.program right (Number y)
        → Match (homes wd) (ports wd) (around W) (binary_words op (pointer space k to) (pointer space k to) right + (op_words
        (store_to st (temp v (pointer space k to))) + d)) s u → u.temps v ≡ Some (held_of (pointer space k to) (Pointer p))
        → u.temps (v + 1) ≡ Some (held_of right (Number y)) → Below W v b u
        → (r : Result Value Undefined) → offset_result op (operand_of wd.program (pointer space k to) (Pointer p) s) p y ≡ r
        → Goes n (moving_code op own (pointer space k to) st v v right rest) u (on_to rest) (HasValue W (pointer space k to) v d b)
        (next (given r s) (λ x s1. next (write (access wd.program (pointer space k to) sp p0 s1) x s1) (λ z s2. got x s2)))
    pointer_change space k to right rk ri p y s u ct told ty1 h ho hy below (Err point) f = tt
    pointer_change space k to right rk ri p y s u ct told ty1 h ho hy below (Ok x) f =
        let ty = pointer space k to in
        let last : List PlainIr = store_to st (temp v ty) ∷ rest in
        let e = op_words (store_to st (temp v ty)) + d in
        let into = moved_typed wd.program op space k to right p y x s ct told f in
        let a = access wd.program ty sp p0 s in
        then_on wd sc.code sc.stack n (moving_code op own ty st v v right rest) last u ty v e b x s (on_to rest) (HasValue W ty v d b)
        (next (write a x s) (λ z s2. got x s2))
        (binary_runs W n v e (binary_words op ty ty right + e) b op ty own ty right (Pointer p) (Number y) s u last tt told
        (arithmetic_scalar wd.program right _ rk ri) ty1 (omega arith) h ho hy below (Ok x) f)
        (λ u1 h1. subst (λ z. Goes n last u1 (on_to rest) (HasValue W ty v d b) z)
        (sym (kept (write a x s) x (λ x1 s1 e1. written a x x1 s s1 e1)))
        (moved_stored space k to right v e b true x x s u1 (omega arith) (at_site u1 h1.same) into h1))

    pub change_runs : (ty right : PlainType) → IsScalar ty → IsExprType wd.program right → HaveCompoundTypes op ty right
        → (old y : Value) (s : State) (u : Mach) → HasType wd.program ty old → HasType wd.program right y
        → Match (homes wd) (ports wd) (around W) (change_words op ty right + (op_words (store_to st (temp v ty)) + d)) s u
        → u.temps v ≡ Some (held_of ty old)
        → u.temps (v + 1) ≡ Some (held_of right y) → Below W v b u
        → Goes n (change_code op own mode ty st v right rest) u (on_to rest) (HasValue W ty v d b)
        (changed op own mode ty sp p0 true old right y s)
    change_runs void right i rk ct old y s u told ty1 h ho hy below = absurd i
    change_runs (integer g w) right i rk ct old y s u told ty1 h ho hy below = numbers_change (integer g w) right tt i rk ct old y s u told
        ty1 h ho hy below
    change_runs (fixed f g) right i rk ct old y s u told ty1 h ho hy below = numbers_change (fixed f g) right tt i rk ct old y s u told ty1
        h ho hy below
    change_runs (array z w) right i rk ct old y s u told ty1 h ho hy below = absurd i
    change_runs (struct z) right i rk ct old y s u told ty1 h ho hy below = absurd i
    change_runs (pointer space k to) right i rk ct (Number x) y s u told ty1 h ho hy below = absurd told
    change_runs (pointer space k to) right i rk ct (Pointer p) y s u told ty1 h ho hy below =
        let ty = pointer space k to in
        let ri = offset_integer op right ct in
        let y0 = integer_value wd.program right y ri ty1 in
        subst (λ (z : Value). Goes n (moving_code op own ty st v v right rest) u (on_to rest) (HasValue W ty v d b)
        (changed op own mode ty sp p0 true (Pointer p) right z s)) (sym y0.1)
        (pointer_change space k to right rk ri p y0.0 s u ct told (subst (λ z. HasType wd.program right z) y0.1 ty1) h ho
        (hy ∙ ap (λ z. Some (held_of right z)) y0.1) below (offset_result op (operand_of wd.program ty (Pointer p) s) p y0.0) refl)

  compound_runs : (n : ℕ) (ty : PlainType) (mode : Mode) (op : BinOp) (own : Mode) (q : PlainPlace) (a : PlainExpr) (l t d : ℕ) (b : Temps)
      (s : State) (m : Mach) (rest : List PlainIr) → IsExprType wd.program (type_of_expr a) → IsTyped wd.program wd.io ty
      (compound op own q a) → IsTypedState wd.program s → AtPlace n q l t (d + Row ty (compound op own q a)) b s m
      → AtRight n a (l + place_labels q) (value_place (site wd.program q t) t + 1) (change_code op own mode ty (site wd.program q t)
      (value_place (site wd.program q t) t) (type_of_expr a) (settled_code (site wd.program q t) ty t rest))
      → Stands sc.code (node_code wd.program (ports wd) ty mode (compound op own q a) l t rest)
      → Match (homes wd) (ports wd) (around W) (d + Row ty (compound op own q a)) s m → Below W t b m
      → Goes n (node_code wd.program (ports wd) ty mode (compound op own q a) l t rest) m (on_to rest) (HasValue W ty t d b)
      (node_value (set wd) (calls_to wd sc.depth) ty mode (compound op own q a) s)
  compound_runs n ty mode op own q a l t d b s m rest rk tp st0 at_place right stands h same =
      bind W n (here W (place_code wd.program (ports wd) q l t loading)) m (on_to loading) (HasSite st t e b) (on_to rest)
      (HasValue W ty t d b) (here W loading) (place_at q s) _ (λ z. refl)
      (at_place loading stands h same) reads
    where
      st : Site
      st = site wd.program q t

      sp : Option SpaceId
      sp = place_space wd.program q

      v : ℕ
      v = value_place st t

      e : ℕ
      e = d + Row ty (compound op own q a)

      top : Root wd.program q t
      top = root wd.program q t ty tp.0.1

      final : List PlainIr
      final = settled_code st ty t rest

      tail : List PlainIr
      tail = change_code op own mode ty st v (type_of_expr a) final

      next_code : List PlainIr
      next_code = expr_code wd.program (ports wd) a (l + place_labels q) (v + 1) tail

      loading : List PlainIr
      loading = load_from (temp v ty) st ∷ next_code

      f : ℕ
      f = change_words op ty (type_of_expr a) + (op_words (store_to st (temp v ty)) + (settle_words wd.program st ty + d))

      reads : (p0 : PointerValue) (s1 : State) (u : Mach) → HasSite st t e b p0 s1 u → Goes n loading u (on_to rest) (HasValue W ty t d b)
          (next (read wd.program (accessed (set wd) ty q p0 s1) s1)
          (λ old s2. next (value a s2) (λ x s3. updated_place (set wd) (compound_update op own ty mode q) p0 old (type_of_expr a) x s3)))
      reads p0 s1 u r =
          let pays = change_paid wd.program q t v op ty (type_of_expr a) tp.0.0 rk tp.1 top in
          bind W n (here W loading) u (on_to next_code) (Has ty v f u.temps) (on_to rest) (HasValue W ty t d b) (here W next_code)
          (read wd.program (accessed (set wd) ty q p0 s1) s1) _ (λ z. refl)
          (typed_runs n loading u (on_to next_code) ty v f u.temps (read wd.program (accessed (set wd) ty q p0 s1) s1)
          ((law wd).states.read ty sp p0 s1 r.state)
          (read_runs W (apart wd) n v f e u.temps ty st sp p0 s1 u next_code (space_is q t top) r.there (omega (arith, pays)) r.match
          (λ i lt. refl) (accessed (set wd) ty q p0 s1) refl))
          (λ old s2 u2 k. bind W n (here W next_code) u2 (on_to tail) (Has (type_of_expr a) (v + 1) f u2.temps) (on_to rest)
          (HasValue W ty t d b) (here W tail) (value a s2) _ (λ z. refl)
          (right f s2 u2 k.state (behind sc.code (load_from (temp v ty) st) next_code
          (place_behind wd.program (ports wd) sc.code q l t loading stands)) k.has.match)
          (λ y s3 u3 z. settled_runs n ty st t d b u.temps rest tail u3 _ tp.0.0 r.same
          (change_runs n op own mode st sp p0 v (settle_words wd.program st ty + d) u.temps final (space_is q t top)
          (λ u4 below. site_kept W t st p0 u.temps u4 (stands_at q t top) below r.there) ty (type_of_expr a) tp.0.0 rk tp.1 old y s3 u3
          k.typed z.typed z.has.match (z.has.same v (omega arith) ∙ k.has.value tp.0.0)
          (z.has.value (compound_right wd.program op ty (type_of_expr a) tp.0.0 rk tp.1))
          (λ i lt. z.has.same i (omega (arith, lt)) ∙ k.has.same i lt))))

  one_held : HoldsNumber (number_type int) (pos 1)
  one_held = truth_number true

  module _ (n : ℕ) (up : Bool) (mode : Mode) (st : Site) (sp : Option SpaceId) (p0 : PointerValue) (v d : ℕ) (b : Temps)
      (rest : List PlainIr) (is_space : IsSpace W st sp) (at_site : (u : Mach) → Below W v b u → IsSite W st u.temps p0) where
    abbrev op : BinOp
    op = step_operator up

    numbers_postfix : (ty : PlainType) → IsNumeric ty → IsScalar ty → (old : Value) (s : State) (u : Mach) → HasType wd.program ty old
        → Match (homes wd) (ports wd) (around W) (postfix_words op ty + (op_words (store_to st (temp (v + 1) ty)) + d)) s u
        → u.temps v ≡ Some (held_of ty old)
        → u.temps (v + 1) ≡ Some (held_of int (Number (pos 1))) → Below W v b u
        → Goes n (keeping_code op (update_types op (number_type ty) (number_type int)) mode ty st v int rest) u (on_to rest)
        (HasValue W ty v d b) (changed op mode mode ty sp p0 false old int (Number (pos 1)) s)
    numbers_postfix ty num scalar old s u told h ho hy below =
        let x0 = number_value wd.program ty old num told in
        subst (λ (z : Value). Goes n tail u (on_to rest) (HasValue W ty v d b) (changed op mode mode ty sp p0 false z int
        (Number (pos 1)) s)) (sym x0.1)
        (subst (λ r. Goes n tail u (on_to rest) (HasValue W ty v d b) (kept_value wd ty sp p0 x0.0 (as_number r) s))
        (sym (compound_same op mode mode (number_type ty) (number_type int) x0.0 (pos 1) (step_arithmetic up (number_type ty)) x0.2
        one_held))
        (by_left x0.0 x0.2 (brought ts.left mode (number_type ty) x0.0) refl (ho ∙ ap (λ z. Some (held_of ty z)) x0.1)))
      where
        ts : OperationTypes
        ts = update_types op (number_type ty) (number_type int)

        known : AreUpdateTypes op mode ts
        known = step_known up mode (number_type ty) (number_known ty num scalar)

        tail : List PlainIr
        tail = keeping_code op ts mode ty st v int rest

        e : ℕ
        e = words_of op ts ty int + conversion_words ty (type_of ts.left) + (op_words (store_to st (temp (v + 1) ty)) + d)

        spent : Match (homes wd) (ports wd) (around W) e s u
        spent = less (homes wd) (ports wd) (postfix_words op ty + (op_words (store_to st (temp (v + 1) ty)) + d)) e s u
            (let z = postfix_numbers op ty num in omega (arith, z)) h

        by_left : (x : ℤ) → HoldsNumber (number_type ty) x → (r : Result ℤ Undefined) → brought ts.left mode (number_type ty) x ≡ r
            → u.temps v ≡ Some (held_of ty (Number x)) → Goes n tail u (on_to rest) (HasValue W ty v d b)
            (kept_value wd ty sp p0 x (as_number (updated_value op ts mode mode (number_type ty) x (number_type int) (pos 1))) s)
        by_left x hx (Err point) g hh = subst (λ r. Goes n tail u (on_to rest) (HasValue W ty v d b)
            (kept_value wd ty sp p0 x (as_number (then_with (then_with r (λ a. then_with (brought ts.right mode (number_type int) (pos 1))
            (λ z. arithmetic_value op ts.result mode (operand ts.left a) (operand ts.right z))))
            (λ y. brought (number_type ty) mode ts.result y))) s)) (sym g) tt
        by_left x hx (Ok a) g hh =
            let na = held_ok ts.left (brought ts.left mode (number_type ty) x) a
            (conversion_held ts.left mode (operand (number_type ty) x) known.left) g in
            subst (λ r. Goes n tail u (on_to rest) (HasValue W ty v d b)
            (kept_value wd ty sp p0 x (as_number (then_with (then_with r (λ a. then_with (brought ts.right mode (number_type int) (pos 1))
            (λ z. arithmetic_value op ts.result mode (operand ts.left a) (operand ts.right z))))
            (λ y. brought (number_type ty) mode ts.result y))) s)) (sym g)
            (keep_runs wd sc.code sc.stack n op ts mode known ty st sp p0 is_space v d b at_site rest num scalar x a na
            (step_back up (number_type ty) mode x a hx g) (pos 1) s u e (omega arith) (value_number (homes wd) ty x num hx) one_held spent
            hh hy below g)

    pointer_postfix : (space : SpaceId) (k : Bool) (to : PlainType) (p : PointerValue) (s : State) (u : Mach)
        → HasType wd.program (pointer space k to) (Pointer p) → Match (homes wd) (ports wd) (around W) (binary_words op (pointer space k to)
        (pointer space k to) int + (op_words (store_to st (temp (v + 1) (pointer space k to))) + d)) s u
        → u.temps v ≡ Some (held_of (pointer space k to) (Pointer p)) → u.temps (v + 1) ≡ Some (held_of int (Number (pos 1)))
        → Below W v b u
        → (r : Result Value Undefined) → offset_result op (operand_of wd.program (pointer space k to) (Pointer p) s) p (pos 1) ≡ r
        → Goes n (moving_code op mode (pointer space k to) st v (v + 1) int rest) u (on_to rest) (HasValue W (pointer space k to) v d b)
        (next (given r s) (λ x s1. next (write (access wd.program (pointer space k to) sp p0 s1) x s1) (λ z s2. got (Pointer p) s2)))
    pointer_postfix space k to p s u told h ho hy below (Err point) f = tt
    pointer_postfix space k to p s u told h ho hy below (Ok x) f =
        let ty = pointer space k to in
        let last : List PlainIr = store_to st (temp (v + 1) ty) ∷ rest in
        let e = op_words (store_to st (temp (v + 1) ty)) + d in
        let into = moved_typed wd.program op space k to int p (pos 1) x s (step_types up ty tt) told f in
        let a = access wd.program ty sp p0 s in
        then_on wd sc.code sc.stack n (moving_code op mode ty st v (v + 1) int rest) last u ty (v + 1) e u.temps x s (on_to rest)
        (HasValue W ty v d b) (next (write a x s) (λ z s2. got (Pointer p) s2))
        (binary_above W n v e (binary_words op ty ty int + e) op ty mode ty int (Pointer p) (Number (pos 1)) x s u last tt told
        (inr (inl refl)) one_held (omega arith) h ho hy f)
        (λ u1 h1. bind W n (here W last) u1 (on_to rest) (HasValue W ty (v + 1) d u.temps) (on_to rest) (HasValue W ty v d b) (here W rest)
        (write a x s) _ (λ z. refl)
        (write_runs W (apart wd) n (v + 1) d e u.temps ty st sp p0 s u1 x rest is_space (at_site u1 (λ i lt. h1.same i (omega (arith, lt))
        ∙ below i lt)) tt into (omega arith) h1 a refl)
        (λ y s2 u2 k2. (
          u2,
          record {
            match = k2.match;
            value = λ i. k2.same v (omega arith) ∙ ho;
            same = λ i lt. k2.same i
                (omega (arith, lt)) ∙ below i lt;
          },
          stays W (here W rest) u2,
        )))

    postfix_runs : (ty : PlainType) → IsScalar ty → (old : Value) (s : State) (u : Mach) → HasType wd.program ty old
        → Match (homes wd) (ports wd) (around W) (postfix_words op ty + (op_words (store_to st (temp (v + 1) ty)) + d)) s u
        → u.temps v ≡ Some (held_of ty old)
        → u.temps (v + 1) ≡ Some (held_of int (Number (pos 1))) → Below W v b u
        → Goes n (postfix_code op mode ty st v rest) u (on_to rest) (HasValue W ty v d b) (changed op mode mode ty sp p0 false old int
        (Number (pos 1)) s)
    postfix_runs void i old s u told h ho hy below = absurd i
    postfix_runs (integer g w) i old s u told h ho hy below = numbers_postfix (integer g w) tt i old s u told h ho hy below
    postfix_runs (fixed f g) i old s u told h ho hy below = numbers_postfix (fixed f g) tt i old s u told h ho hy below
    postfix_runs (array z w) i old s u told h ho hy below = absurd i
    postfix_runs (struct z) i old s u told h ho hy below = absurd i
    postfix_runs (pointer space k to) i (Number x) s u told h ho hy below = absurd told
    postfix_runs (pointer space k to) i (Pointer p) s u told h ho hy below = pointer_postfix space k to p s u told h ho hy below
        (offset_result op (operand_of wd.program (pointer space k to) (Pointer p) s) p (pos 1)) refl

    pub stepped_runs : (prefix : Bool) (ty : PlainType) → IsScalar ty → (old : Value) (s : State) (u : Mach) → HasType wd.program ty old
        → Match (homes wd) (ports wd) (around W) (stepped_words prefix op ty + (op_words (store_to st (temp (stepped_place prefix v) ty))
        + d)) s u
        → u.temps v ≡ Some (held_of ty old) → u.temps (v + 1) ≡ Some (held_of int (Number (pos 1))) → Below W v b u
        → Goes n (step_code prefix op mode ty st v rest) u (on_to rest) (HasValue W ty v d b) (changed op mode mode ty sp p0 prefix old int
        (Number (pos 1)) s)
    stepped_runs true ty i old s u told h ho hy below = change_runs n op mode mode st sp p0 v d b rest is_space at_site ty int i
        (inr (inl refl)) (step_types up ty i) old (Number (pos 1)) s u told one_held h ho hy below
    stepped_runs false ty i old s u told h ho hy below = postfix_runs ty i old s u told h ho hy below

  step_runs : (n : ℕ) (ty : PlainType) (mode : Mode) (up prefix : Bool) (q : PlainPlace) (l t d : ℕ) (b : Temps) (s : State) (m : Mach)
      (rest : List PlainIr) → IsTyped wd.program wd.io ty (step up prefix q) → IsTypedState wd.program s
      → AtPlace n q l t (d + Row ty (step up prefix q)) b s m
      → Stands sc.code (node_code wd.program (ports wd) ty mode (step up prefix q) l t rest)
      → Match (homes wd) (ports wd) (around W) (d + Row ty (step up prefix q)) s m → Below W t b m
      → Goes n (node_code wd.program (ports wd) ty mode (step up prefix q) l t rest) m (on_to rest) (HasValue W ty t d b)
      (node_value (set wd) (calls_to wd sc.depth) ty mode (step up prefix q) s)
  step_runs n ty mode up prefix q l t d b s m rest tp st0 at_place stands h same =
      bind W n (here W (place_code wd.program (ports wd) q l t loading)) m (on_to loading) (HasSite st t e b) (on_to rest)
      (HasValue W ty t d b) (here W loading) (place_at q s) _ (λ z. refl)
      (at_place loading stands h same) reads
    where
      st : Site
      st = site wd.program q t

      sp : Option SpaceId
      sp = place_space wd.program q

      v : ℕ
      v = value_place st t

      e : ℕ
      e = d + Row ty (step up prefix q)

      top : Root wd.program q t
      top = root wd.program q t ty tp.1

      final : List PlainIr
      final = settled_code st ty t rest

      tail : List PlainIr
      tail = step_code prefix (step_operator up) mode ty st v final

      next_code : List PlainIr
      next_code = constant (temp (v + 1) int) (pos 1) ∷ tail

      loading : List PlainIr
      loading = load_from (temp v ty) st ∷ next_code

      f : ℕ
      f = stepped_words prefix (step_operator up) ty + (op_words (store_to st (temp (stepped_place prefix v) ty)) + (settle_words wd.program
          st ty + d))

      reads : (p0 : PointerValue) (s1 : State) (u : Mach) → HasSite st t e b p0 s1 u → Goes n loading u (on_to rest) (HasValue W ty t d b)
          (next (read wd.program (accessed (set wd) ty q p0 s1) s1) (λ old s2. updated_place (set wd) (step_update up ty mode prefix q) p0
          old int (Number (pos 1)) s2))
      reads p0 s1 u r =
          let pays = stepped_paid wd.program q t v up prefix ty tp.0 top in
          bind W n (here W loading) u (on_to next_code) (Has ty v (f + 10) u.temps) (on_to rest) (HasValue W ty t d b) (here W next_code)
          (read wd.program (accessed (set wd) ty q p0 s1) s1) _ (λ z. refl)
          (typed_runs n loading u (on_to next_code) ty v (f + 10) u.temps (read wd.program (accessed (set wd) ty q p0 s1) s1)
          ((law wd).states.read ty sp p0 s1 r.state)
          (read_runs W (apart wd) n v (f + 10) e u.temps ty st sp p0 s1 u next_code (space_is q t top) r.there (omega (arith, pays)) r.match
          (λ i lt. refl) (accessed (set wd) ty q p0 s1) refl))
          (λ old s2 u2 k. one_above old s2 u2 k (constant_runs W n (v + 1) f (f + 10) u2.temps int (pos 1) s2 u2 tail
          (omega arith) k.has.match (λ i lt. refl)))
        where
          one_above : (old : Value) (s2 : State) (u2 : Mach) → Has ty v (f + 10) u.temps old s2 u2 → Goes n next_code u2 (on_to tail)
              (HasValue W int (v + 1) f u2.temps) (got (Number (pos 1)) s2) → Goes n next_code u2 (on_to rest) (HasValue W ty t d b)
              (updated_place (set wd) (step_update up ty mode prefix q) p0 old int (Number (pos 1)) s2)
          one_above old s2 u2 k z =
              after W (on_to rest) (HasValue W ty t d b) n (here W next_code) (here W tail) u2 z.0 _ z.2
              (settled_runs n ty st t d b u.temps rest tail z.0 _ tp.0 r.same
              (stepped_runs n up mode st sp p0 v (settle_words wd.program st ty + d) u.temps final (space_is q t top)
              (λ u4 below. site_kept W t st p0 u.temps u4 (stands_at q t top) below r.there) prefix ty tp.0 old s2 z.0 k.typed z.1.match
              (z.1.same v (omega arith) ∙ k.has.value tp.0) (z.1.value (inr (inl refl)))
              (λ i lt. z.1.same i (omega (arith, lt)) ∙ k.has.same i lt)))

  -- ---- values that nobody reads

  -- what an expression leaves beside its value
  pub record Leaves (t d : ℕ) (b : Temps) (v : Value) (s : State) (u : Mach) : Type 0 where
    pub match : Match (homes wd) (ports wd) (around W) d s u
    pub same : Below W t b u
    pub state : IsTypedState wd.program s

  unread : (n : ℕ) (p rest : List PlainIr) (m : Mach) (ty : PlainType) (t d : ℕ) (b : Temps) (o : Outcome Value)
      → Goes n p m (on_to rest) (Has ty t d b) o → Goes n p m (on_to rest) (Leaves t d b) o
  unread n p rest m ty t d b o g =
      strengthened W (on_to rest) (Has ty t d b) (Leaves t d b) n (here W p) m o
      (λ v s u is h. record { match = h.has.match; same = h.has.same; state = h.state }) g

  -- outcomes with one value in place of all
  abbrev some_value : Outcome Value → Outcome Value
  some_value o = next o (λ v s. got (Pointer None) s)

  to_some : (n : ℕ) (p rest : List PlainIr) (m : Mach) (t d : ℕ) (b : Temps) (o : Outcome Value) → Goes n p m (on_to rest) (Leaves t d b) o
      → Goes n p m (on_to rest) (Leaves t d b) (some_value o)
  to_some n p rest m t d b (got v s) g = (g.0, record { match = g.1.match; same = g.1.same; state = g.1.state }, g.2)
  to_some n p rest m t d b (more s) g = g
  to_some n p rest m t d b (undefined point s) g = tt

  from_some : (n : ℕ) (p rest : List PlainIr) (m : Mach) (t d : ℕ) (b : Temps) (o : Outcome Value)
      → Goes n p m (on_to rest) (Leaves t d b) (some_value o) → Goes n p m (on_to rest) (Leaves t d b) o
  from_some n p rest m t d b (got v s) g = (g.0, record { match = g.1.match; same = g.1.same; state = g.1.state }, g.2)
  from_some n p rest m t d b (more s) g = g
  from_some n p rest m t d b (undefined point s) g = tt

  go_alike : {A : Type 0} (o : Outcome A) (f g : A → State → Outcome Value)
      → ((a : A) (s : State) → some_value (f a s) ≡ some_value (g a s)) → some_value (next o f) ≡ some_value (next o g)
  go_alike (got a s) f g h = h a s
  go_alike (more s) f g h = refl
  go_alike (undefined point s) f g h = refl

  -- a prefix step does what the postfix one does
  steps_alike : (ty : PlainType) (mode : Mode) (up prefix : Bool) (q : PlainPlace) (s : State)
      → some_value (node_value (set wd) (calls_to wd sc.depth) ty mode (step up true q) s)
      ≡ some_value (node_value (set wd) (calls_to wd sc.depth) ty mode (step up prefix q) s)
  steps_alike ty mode up prefix q s =
      go_alike (place_at q s) _ _ (λ p0 s1. go_alike (read wd.program (accessed (set wd) ty q p0 s1) s1) _ _
      (λ old s2. go_alike (given (compound_result (step_operator up) mode mode (operand_of wd.program ty old s2)
      (operand_of wd.program int (Number (pos 1)) s2)) s2) _ _
      (λ v s3. go_alike (write (accessed (set wd) ty q p0 s3) v s3) _ _ (λ z s4. refl))))

  unread_step : (n : ℕ) (ty : PlainType) (mode : Mode) (up prefix : Bool) (q : PlainPlace) (p rest : List PlainIr) (m : Mach) (t d : ℕ)
      (b : Temps) (s : State)
      → Goes n p m (on_to rest) (Has ty t d b) (node_value (set wd) (calls_to wd sc.depth) ty mode (step up true q) s)
      → Goes n p m (on_to rest) (Leaves t d b) (node_value (set wd) (calls_to wd sc.depth) ty mode (step up prefix q) s)
  unread_step n ty mode up prefix q p rest m t d b s g =
      from_some n p rest m t d b (node_value (set wd) (calls_to wd sc.depth) ty mode (step up prefix q) s)
      (subst (λ (z : Outcome Value). Goes n p m (on_to rest) (Leaves t d b) z) (steps_alike ty mode up prefix q s)
      (to_some n p rest m t d b (node_value (set wd) (calls_to wd sc.depth) ty mode (step up true q) s)
      (unread n p rest m ty t d b (node_value (set wd) (calls_to wd sc.depth) ty mode (step up true q) s) g)))

  -- ---- operands that may be absent

  -- the value of an operand
  operand_has : (n : ℕ) (q : List PlainIr) (m : Mach) (rest : List PlainIr) (e : PlainExpr) (t d : ℕ) (b : Temps) (o : Outcome Value)
      → Goes n q m (on_to rest) (Has (type_of_expr e) t d b) o → Goes n q m (on_to rest) (HasOperand (an_expr e) t d b) o
  operand_has n q m rest e t d b (got v s) r = (
    r.0,
    record {
      match = r.1.has.match;
      held = (r.1.has.value, r.1.typed);
      same = r.1.has.same;
      state = r.1.state;
    },
    r.2,
  )
  operand_has n q m rest e t d b (more s) r = r
  operand_has n q m rest e t d b (undefined point s) r = tt

  -- the second one leaves the first, and what is below it
  index_kept : (i : OptionPlainExpr) (x : Value) (t : ℕ) (temps : Temps) (u : Mach) → Below W (value_behind i t) temps u
      → IsHeld W wd.program i x t temps → IsHeld W wd.program i x t u.temps
  index_kept no_expr x t temps u same h = h
  index_kept (an_expr e) x t temps u same h = held_kept W wd.program (an_expr e) x t temps u.temps (same t (omega arith)) h

  below_kept : (i : OptionPlainExpr) (t : ℕ) (b : Temps) (u u2 : Mach) → Below W (value_behind i t) u.temps u2 → Below W t b u
      → Below W t b u2
  below_kept no_expr t b u u2 same h = λ j lt. same j lt ∙ h j lt
  below_kept (an_expr e) t b u u2 same h = λ j lt. same j (omega (arith, lt)) ∙ h j lt

  -- ---- expressions

  mutual
    pub expr_runs : (n : ℕ) (e : PlainExpr) (l t d : ℕ) (b : Temps) (s : State) (m : Mach) (rest : List PlainIr) → n ≤ wd.n
        → CallsOfExpr (IsOther wd.program) e → ValidExpr wd.program wd.io sc.f e → IsTypedState wd.program s
        → Stands sc.code (expr_code wd.program (ports wd) e l t rest) → Match (homes wd) (ports wd) (around W) d s m → Below W t b m
        → Goes n (expr_code wd.program (ports wd) e l t rest) m (on_to rest) (Has (type_of_expr e) t d b) (value e s)
    expr_runs n (expression ty mode node) l t d b s m rest le p v st stands h same =
        typed_runs n (node_code wd.program (ports wd) ty mode node l t rest) m (on_to rest) ty t d b (value (expression ty mode node) s)
        ((law wd).expressions wd.n sc.depth sc.f (expression ty mode node) s v st)
        (node_runs n ty mode node l t d b (worked (Row ty node) s) m rest le p v.0 v.1 v.2 st stands
        (credited (homes wd) (ports wd) (Row ty node) d s m h) same)

    node_runs : (n : ℕ) (ty : PlainType) (mode : Mode) (node : PlainNode) (l t d : ℕ) (b : Temps) (s : State) (m : Mach)
        (rest : List PlainIr) → n ≤ wd.n → CallsOfNode (IsOther wd.program) node → IsExprType wd.program ty
        → IsTyped wd.program wd.io ty node → ValidParts wd.program wd.io sc.f node → IsTypedState wd.program s
        → Stands sc.code (node_code wd.program (ports wd) ty mode node l t rest)
        → Match (homes wd) (ports wd) (around W) (d + Row ty node) s m
        → Below W t b m
        → Goes n (node_code wd.program (ports wd) ty mode node l t rest) m (on_to rest) (HasValue W ty t d b)
        (node_value (set wd) (calls_to wd sc.depth) ty mode node s)
    node_runs n ty mode (number x) l t d b s m rest le p k tp v st stands h same =
        let pays = simple_pays (scalar_size ty) 1 in constant_runs W n t d (d + Row ty (number x)) b ty x s m rest
        (omega (arith, pays)) h same
    node_runs n ty mode null l t d b s m rest le p k tp v st stands h same = let pays = simple_pays (scalar_size ty) 1 in
        null_runs W n t d (d + Row ty null) b ty s m rest (omega (arith, pays)) h same
    node_runs n ty mode (load q) l t d b s m rest le p k tp v st stands h same =
        load_runs n ty mode q l t d b s m rest tp (λ next_code. place_runs n q l t (d + Row ty (load q)) b s m next_code ty le p v tp.1 st)
        stands h same
    node_runs n ty mode (address_of q) l t d b s m rest le p k tp v st stands h same =
        let g = address_typed wd.program ty q tp in
        pointer_to_runs n ty mode q l t d b s m rest tp g.0 g.1 (λ next_code. place_runs n q l t (d + Row ty (address_of q)) b s m next_code
        g.0 le p v.0 g.1 st) stands h same
    node_runs n ty mode (unary op a) l t d b s m rest le p k tp v st stands h same =
        let i = unary_op op ty mode (temp t ty) (temp t ty) in
        let pays = unary_pays (scalar_size ty) (max (scalar_size (type_of_expr a)) 1) in
        let e = d + Row ty (unary op a) in
        let sc1 = arithmetic_scalar wd.program ty _ k tp.1 in
        bind W n (here W (expr_code wd.program (ports wd) a l t (i ∷ rest))) m (on_to (i ∷ rest)) (Has (type_of_expr a) t e b) (on_to rest)
        (HasValue W ty t d b) (here W (i ∷ rest)) (value a s) _ (λ z. refl)
        (expr_runs n a l t e b s m (i ∷ rest) le p v st stands h same)
        (λ x s1 u r. unary_runs W n t d e b op ty mode x s1 u rest sc1 (subst (λ (z : PlainType). HasType wd.program z x) tp.0 r.typed)
        (omega (arith, pays)) (subst (λ (z : PlainType). HasValue W z t e b x s1 u) tp.0 r.has) (unary_result op ty mode x) refl)
    node_runs n ty mode (binary op a c) l t d b s m rest le p k tp v st stands h same =
        let e = d + Row ty (binary op a c) in
        let i = binary_op op ty mode (temp t ty) (temp t (type_of_expr a)) (type_of_expr a) (temp (t + 1) (type_of_expr c))
        (type_of_expr c) in
        let pays = binary_pays op ty (type_of_expr a) (type_of_expr c) in
        let next_code = expr_code wd.program (ports wd) c (l + expr_labels a) (t + 1) (i ∷ rest) in
        let sides = binary_scalars wd.program op ty (type_of_expr a) (type_of_expr c) (type_known wd.program wd.io sc.f a v.0)
        (type_known wd.program wd.io sc.f c v.1) tp in
        bind W n (here W (expr_code wd.program (ports wd) a l t next_code)) m (on_to next_code) (Has (type_of_expr a) t e b) (on_to rest)
        (HasValue W ty t d b) (here W next_code) (value a s) _ (λ z. refl)
        (expr_runs n a l t e b s m next_code le p.0 v.0 st stands h same)
        (λ x s1 u r. bind W n (here W next_code) u (on_to (i ∷ rest)) (Has (type_of_expr c) (t + 1) e u.temps) (on_to rest)
        (HasValue W ty t d b) (here W (i ∷ rest)) (value c s1) _ (λ z. refl)
        (expr_runs n c (l + expr_labels a) (t + 1) e u.temps s1 u (i ∷ rest) le p.1 v.1 r.state
        (expr_behind wd.program (ports wd) sc.code a l t next_code stands) r.has.match (λ j lt. refl))
        (λ y s2 u2 q. binary_runs W n t d e b op ty mode (type_of_expr a) (type_of_expr c) x y s2 u2 rest sides.0 r.typed sides.1 q.typed
        (omega (arith, pays)) q.has.match (q.has.same t (omega arith) ∙ r.has.value sides.0) (q.has.value sides.1)
        (λ j lt. q.has.same j (omega (arith, lt)) ∙ r.has.same j lt) (binary_result op ty mode (operand_of wd.program (type_of_expr a) x s2)
        (operand_of wd.program (type_of_expr c) y s2)) refl))
    node_runs n ty mode (convert a) l t d b s m rest le p k tp v st stands h same =
        let e = d + Row ty (convert a) in
        let i = conversion (temp t ty) ty mode (temp t (type_of_expr a)) (type_of_expr a) in
        let pays = conversion_pays ty (type_of_expr a) in
        let sc1 = converted_scalar wd.program ty (type_of_expr a) (type_known wd.program wd.io sc.f a v) tp.0 tp.1 in
        bind W n (here W (expr_code wd.program (ports wd) a l t (i ∷ rest))) m (on_to (i ∷ rest)) (Has (type_of_expr a) t e b) (on_to rest)
        (HasValue W ty t d b) (here W (i ∷ rest)) (value a s) _ (λ z. refl)
        (expr_runs n a l t e b s m (i ∷ rest) le p v st stands h same)
        (λ x s1 u r. conversion_runs W n t d e b ty mode (type_of_expr a) x s1 u rest sc1 r.typed (omega (arith, pays)) r.has
        (conversion_result ty mode (operand_of wd.program (type_of_expr a) x s1)) refl)
    node_runs n ty mode (assign q a) l t d b s m rest le p k tp v st stands h same =
        store_runs n ty mode q a l t d b s m rest tp
        (λ next_code. place_runs n q l t (d + Row ty (assign q a)) b s m next_code ty le p.0 v.0 tp.0.1 st)
        (λ e s1 u st1 w h1. expr_runs n a (l + place_labels q) (value_place (site wd.program q t) t) e u.temps s1 u
        (store_to (site wd.program q t) (temp (value_place (site wd.program q t) t) ty) ∷ settled_code (site wd.program q t) ty t rest)
        le p.1 v.1 st1 w h1 (λ i lt. refl))
        stands h same
    node_runs n ty mode (compound op own q a) l t d b s m rest le p k tp v st stands h same =
        compound_runs n ty mode op own q a l t d b s m rest (type_known wd.program wd.io sc.f a v.1) tp st
        (λ next_code. place_runs n q l t (d + Row ty (compound op own q a)) b s m next_code ty le p.0 v.0 tp.0.1 st)
        (λ e s1 u st1 w h1. expr_runs n a (l + place_labels q) (value_place (site wd.program q t) t + 1) e u.temps s1 u
        (change_code op own mode ty (site wd.program q t) (value_place (site wd.program q t) t) (type_of_expr a)
        (settled_code (site wd.program q t) ty t rest)) le p.1 v.1 st1 w h1 (λ i lt. refl))
        stands h same
    node_runs n ty mode (step up prefix q) l t d b s m rest le p k tp v st stands h same =
        step_runs n ty mode up prefix q l t d b s m rest tp st
        (λ next_code. place_runs n q l t (d + Row ty (step up prefix q)) b s m next_code ty le p v tp.1 st)
        stands h same
    node_runs n ty mode (logical_not a) l t d b s m rest le p k tp v st stands h same =
        let e = d + Row ty (logical_not a) in
        let tail = truth_code false ty l t rest in
        let off = off_code false ty l t rest in
        let w = branch_zero_words (scalar_size (type_of_expr a)) in
        let pays = not_pays (scalar_size ty) (scalar_size (type_of_expr a)) (ap scalar_size tp.1) in
        let inner = branch_behind wd.program (ports wd) sc.code a (l + 2) t (where_zero l) tail stands in
        let other = sc.resolves l off (behind sc.code _ _ (behind sc.code _ _ inner)) in
        branch_then n (branch_code wd.program (ports wd) a (l + 2) t (where_zero l) tail) m (where_zero l) off tail t e w b
        (condition (set wd) a (value a s)) (on_to rest) (HasValue W ty t d b) (λ c s1. got (Number (truth (not c))) s1)
        (branch_runs n a (l + 2) t (where_zero l) e b s m off tail le p v tp.0 st stands other h same)
        (λ c s1 q u r. subst (λ (z : Bool). Goes n q u (on_to rest) (HasValue W ty t d b) (got (Number (truth z)) s1)) (denied c)
        (settled false c n t d e w b ty l s1 q u rest inner (omega (arith, pays)) r))
    node_runs n ty mode (logical_and a c) l t d b s m rest le p k tp v st stands h same =
        let e = d + Row ty (logical_and a c) in
        let tail = truth_code true ty l t rest in
        let off = off_code true ty l t rest in
        let wa = branch_zero_words (scalar_size (type_of_expr a)) in
        let wc = branch_zero_words (scalar_size (type_of_expr c)) in
        let g = 5 * scalar_size ty + (d + 5) + wc in
        let next_code = branch_code wd.program (ports wd) c (l + 2 + expr_labels a) t (where_zero l) tail in
        let pays = and_pays (scalar_size ty) (scalar_size (type_of_expr a)) (scalar_size (type_of_expr c)) (ap scalar_size tp.2) in
        let first = branch_behind wd.program (ports wd) sc.code a (l + 2) t (where_zero l) next_code stands in
        let inner = branch_behind wd.program (ports wd) sc.code c (l + 2 + expr_labels a) t (where_zero l) tail first in
        let other = sc.resolves l off (behind sc.code _ _ (behind sc.code _ _ inner)) in
        branch_choose n (branch_code wd.program (ports wd) a (l + 2) t (where_zero l) next_code) m (where_zero l) off next_code t e g wa b
        (condition (set wd) a (value a s)) (on_to rest) (HasValue W ty t d b) (λ s1. truth_value (condition (set wd) c (value c s1)))
        (λ s1. got (Number (truth false)) s1) (omega (arith, pays))
        (branch_runs n a (l + 2) t (where_zero l) e b s m off next_code le p.0 v.0 tp.0 st stands other h same)
        (λ s1 u st1 h1 below. second_value n next_code u t d g wc b ty l tail rest (condition (set wd) c (value c s1)) inner (omega arith)
        (λ x s2 q u2 r. r)
        (branch_runs n c (l + 2 + expr_labels a) t (where_zero l) g b s1 u off tail le p.1 v.1 tp.1 st1 first other h1 below))
        (λ s1 u st1 h1 below. truth_off n t d g b true ty l s1 u rest (omega arith) h1 below)
    node_runs n ty mode (logical_or a c) l t d b s m rest le p k tp v st stands h same =
        let e = d + Row ty (logical_or a c) in
        let tail = truth_code true ty l t rest in
        let off = off_code true ty l t rest in
        let mid : List PlainIr = label (l + 3) ∷ tail in
        let wa = branch_zero_words (scalar_size (type_of_expr a)) + 5 in
        let wc = branch_zero_words (scalar_size (type_of_expr c)) in
        let g = 5 * scalar_size ty + (d + 5) + wc in
        let next_code = branch_code wd.program (ports wd) c (l + 4 + expr_labels a) t (where_zero l) mid in
        let pays = and_pays (scalar_size ty) (scalar_size (type_of_expr a)) (scalar_size (type_of_expr c)) (ap scalar_size tp.2) in
        let first = branch_behind wd.program (ports wd) sc.code a (l + 4) t (where_not (l + 3) (l + 2)) next_code stands in
        let inner = branch_behind wd.program (ports wd) sc.code c (l + 4 + expr_labels a) t (where_zero l) mid first in
        let tail_at = behind sc.code _ _ inner in
        let other = sc.resolves l off (behind sc.code _ _ (behind sc.code _ _ tail_at)) in
        branch_choose n (branch_code wd.program (ports wd) a (l + 4) t (where_not (l + 3) (l + 2)) next_code) m
        (where_not (l + 3) (l + 2)) tail next_code t e g wa b
        (condition (set wd) a (value a s)) (on_to rest) (HasValue W ty t d b) (λ s1. got (Number (truth true)) s1)
        (λ s1. truth_value (condition (set wd) c (value c s1))) (omega (arith, pays))
        (branch_runs n a (l + 4) t (where_not (l + 3) (l + 2)) e b s m tail next_code le p.0 v.0 tp.0 st stands
        (sc.resolves (l + 3) tail inner) h same)
        (λ s1 u st1 h1 below. truth_on n t d g b true ty l s1 u rest tail_at (omega arith) h1 below)
        (λ s1 u st1 h1 below. second_value n next_code u t d g wc b ty l mid rest (condition (set wd) c (value c s1)) tail_at (omega arith)
        (λ x s2 q u2 r. past_mid x (l + 3) l t g wc b off tail s2 q u2 r)
        (branch_runs n c (l + 4 + expr_labels a) t (where_zero l) g b s1 u off mid le p.1 v.1 tp.1 st1 first other h1 below))
    node_runs n ty mode (conditional c a a2) l t d b s m rest le p k tp v st stands h same =
        let e = d + Row ty (conditional c a a2) in
        let w = branch_zero_words (scalar_size (type_of_expr c)) in
        let other_code = expr_code wd.program (ports wd) a2 (l + 2 + expr_labels c + expr_labels a) t (label (l + 1) ∷ rest) in
        let then_code = expr_code wd.program (ports wd) a (l + 2 + expr_labels c) t (jump (l + 1) ∷ label l ∷ other_code) in
        let pays = choice_pays (scalar_size ty) (scalar_size (type_of_expr c)) (scalar_size (type_of_expr a))
        (scalar_size (type_of_expr a2)) in
        let then_at = branch_behind wd.program (ports wd) sc.code c (l + 2) t (where_zero l) then_code stands in
        let then_end = expr_behind wd.program (ports wd) sc.code a (l + 2 + expr_labels c) t (jump (l + 1) ∷ label l ∷ other_code)
        then_at in
        let other_at = behind sc.code _ _ (behind sc.code _ _ then_end) in
        let other = sc.resolves l other_code (behind sc.code _ _ then_end) in
        let end = sc.resolves (l + 1) rest (expr_behind wd.program (ports wd) sc.code a2 (l + 2 + expr_labels c + expr_labels a) t
        (label (l + 1) ∷ rest) other_at) in
        branch_choose n (branch_code wd.program (ports wd) c (l + 2) t (where_zero l) then_code) m (where_zero l) other_code then_code t e
        (d + 5) w b (condition (set wd) c (value c s)) (on_to rest) (HasValue W ty t d b) (λ s1. value a s1) (λ s1. value a2 s1)
        (omega (arith, pays))
        (branch_runs n c (l + 2) t (where_zero l) e b s m other_code then_code le p.0 v.0 tp.0 st stands other h same)
        (λ s1 u1 st1 h1 below. jump_end n t d (l + 1) b ty then_code (label l ∷ other_code) rest u1 (value a s1) end
        (as_type ty (type_of_expr a) n then_code u1 (on_to (jump (l + 1) ∷ label l ∷ other_code)) t (d + 5) b (value a s1) tp.2
        (untyped n then_code u1 (on_to (jump (l + 1) ∷ label l ∷ other_code)) (type_of_expr a) t (d + 5) b (value a s1)
        (expr_runs n a (l + 2 + expr_labels c) t (d + 5) b s1 u1 (jump (l + 1) ∷ label l ∷ other_code) le p.1 v.1 st1 then_at h1
        below))))
        (λ s1 u1 st1 h1 below. past_end n (l + 1) other_code rest u1 (HasValue W ty t d b) (value a2 s1)
        (as_type ty (type_of_expr a2) n other_code u1 (on_to (label (l + 1) ∷ rest)) t d b (value a2 s1) tp.3
        (untyped n other_code u1 (on_to (label (l + 1) ∷ rest)) (type_of_expr a2) t d b (value a2 s1)
        (expr_runs n a2 (l + 2 + expr_labels c + expr_labels a) t d b s1 u1 (label (l + 1) ∷ rest) le p.2 v.2 st1 other_at
        (less (homes wd) (ports wd) (d + 5) d s1 u1 (omega arith) h1) below))))
    node_runs n ty mode (comma a c) l t d b s m rest le p k tp v st stands h same =
        let next_code = expr_code wd.program (ports wd) c (l + expr_labels a) t rest in
        bind W n (here W (unread_code wd.program (ports wd) a l t next_code)) m (on_to next_code) (Leaves t d b) (on_to rest)
        (HasValue W ty t d b) (here W next_code) (value a s) _ (λ z. refl)
        (unread_runs n a l t d b s m next_code le p.0 v.0 st stands (less (homes wd) (ports wd) (d + 0) d s m (omega arith) h) same)
        (λ x s1 u r. as_type ty (type_of_expr c) n next_code u (on_to rest) t d b (value c s1) tp.2
        (untyped n next_code u (on_to rest) (type_of_expr c) t d b (value c s1)
        (expr_runs n c (l + expr_labels a) t d b s1 u rest le p.1 v.1 r.state
        (unread_behind wd.program (ports wd) sc.code a l t next_code stands) r.match r.same)))
    node_runs n ty mode (call f args) l t d b s m rest le p k tp v st stands h same =
        call_runs n ty mode f args l t d b s m rest le p.0 tp (args_run n args l t (d + Row ty (call f args)) b s m
        (params_code (params_of wd.program f) args t (call_function f (result_temp t ty) ∷ rest)) le p.1 v st stands h same)
    node_runs n ty mode (io op port i c) l t d b s m rest le p k tp v st stands h same =
        let e = d + Row ty (io op port i c) in
        let tables = slice_get (ports wd).ports port in
        let q = access_code op mode tables i t rest in
        let next_code = option_code wd.program (ports wd) c (l + option_labels i) (value_behind i t) q in
        as_type ty (port_result (port_operation op).action (port_value (port_operation op))) n
        (option_code wd.program (ports wd) i l t next_code) m (on_to rest) t d b (node_value (set wd) (calls_to wd sc.depth) ty mode
        (io op port i c) s) (sym tp.result)
        (bind W n (here W (option_code wd.program (ports wd) i l t next_code)) m (on_to next_code) (HasOperand i t e b) (on_to rest)
        (HasValue W (port_result (port_operation op).action (port_value (port_operation op))) t d b) (here W next_code)
        (option_value (set wd) (calls_to wd sc.depth) i s) _ (λ z. refl)
        (operand_run n i l t e b s m next_code le p.0 v.0 st stands h same)
        (λ x s1 u r. bind W n (here W next_code) u (on_to q) (HasOperand c (value_behind i t) e u.temps) (on_to rest)
        (HasValue W (port_result (port_operation op).action (port_value (port_operation op))) t d b) (here W q)
        (option_value (set wd) (calls_to wd sc.depth) c s1) _ (λ z. refl)
        (operand_run n c (l + option_labels i) (value_behind i t) e u.temps s1 u q le p.1 v.1 r.state
        (operand_behind wd.program (ports wd) sc.code i l t next_code stands) r.match (λ j lt. refl))
        (λ y s2 u2 z. access_runs wd sc.code sc.stack n op mode tables i c t d b x y s2 u2 rest (port_operated wd.io wd.valid.ports port
        (port_operation op).long tp.port) tp.index tp.value
        (index_kept i x t u.temps u2 z.same r.held) z.held z.match (below_kept i t b u u2 z.same r.same))))
    node_runs n ty mode (group acquire g) l t d b s m rest le p k tp v st stands h same =
        as_type ty void n (node_code wd.program (ports wd) ty mode (group acquire g) l t rest) m (on_to rest) t d b
        (group_effect acquire g (slice_get (ports wd).groups g) s) (sym tp.1)
        (group_runs wd sc.code sc.stack n acquire g (slice_get (ports wd).groups g) t d b s m rest (group_pairs wd.io wd.pairs g) h same)
    node_runs n ty mode (bind_node g choice) l t d b s m rest le p k tp v st stands h same =
        as_type ty void n (node_code wd.program (ports wd) ty mode (bind_node g choice) l t rest) m (on_to rest) t d b
        (bind_effect g choice s) (sym tp.1) (bind_runs wd sc.code sc.stack n g choice t d b s m rest h same)
    node_runs n ty mode (dynamic_group acquire g) l t d b s m rest le p k tp v st stands h same =
        as_type ty void n (node_code wd.program (ports wd) ty mode (dynamic_group acquire g) l t rest) m (on_to rest) t d b
        (dynamic_effect acquire (ports wd) g s) (sym tp.1)
        (dynamic_runs wd sc.code sc.stack sc.resolves n acquire mode g l t d b s m rest stands h same)

    pub unread_runs : (n : ℕ) (e : PlainExpr) (l t d : ℕ) (b : Temps) (s : State) (m : Mach) (rest : List PlainIr) → n ≤ wd.n
        → CallsOfExpr (IsOther wd.program) e → ValidExpr wd.program wd.io sc.f e → IsTypedState wd.program s
        → Stands sc.code (unread_code wd.program (ports wd) e l t rest) → Match (homes wd) (ports wd) (around W) d s m → Below W t b m
        → Goes n (unread_code wd.program (ports wd) e l t rest) m (on_to rest) (Leaves t d b) (value e s)
    unread_runs n (expression ty mode (step up prefix q)) l t d b s m rest le p v st stands h same =
        let row = Row ty (step up prefix q) in
        let code = place_code wd.program (ports wd) q l t (stepping_code up true mode ty (site wd.program q t) t rest) in
        unread_step n ty mode up prefix q code rest m t d b (worked row s)
        (typed_runs n code m (on_to rest) ty t d b (value (expression ty mode (step up true q)) s)
        ((law wd).expressions wd.n sc.depth sc.f (expression ty mode (step up true q)) s v st)
        (step_runs n ty mode up true q l t d b (worked row s) m rest v.1 st
        (λ next_code. place_runs n q l t (d + row) b (worked row s) m next_code ty le p v.2 v.1.1 st)
        stands (credited (homes wd) (ports wd) row d s m h) same))
    unread_runs n (expression ty mode (comma a c)) l t d b s m rest le p v st stands h same =
        let next_code = unread_code wd.program (ports wd) c (l + expr_labels a) t rest in
        bind W n (here W (unread_code wd.program (ports wd) a l t next_code)) m (on_to next_code) (Leaves t d b) (on_to rest)
        (Leaves t d b) (here W next_code) (value a (worked 0 s)) _ (λ z. refl)
        (unread_runs n a l t d b (worked 0 s) m next_code le p.0 v.2.0 st stands
        (less (homes wd) (ports wd) (d + 0) d (worked 0 s) m (omega arith) (credited (homes wd) (ports wd) 0 d s m h)) same)
        (λ x s1 u r. unread_runs n c (l + expr_labels a) t d b s1 u rest le p.1 v.2.1 r.state
        (unread_behind wd.program (ports wd) sc.code a l t next_code stands) r.match r.same)
    unread_runs n (expression ty mode node) l t d b s m rest le p v st stands h same =
        let code = node_code wd.program (ports wd) ty mode node l t rest in
        unread n code rest m ty t d b (value (expression ty mode node) s)
        (typed_runs n code m (on_to rest) ty t d b (value (expression ty mode node) s)
        ((law wd).expressions wd.n sc.depth sc.f (expression ty mode node) s v st)
        (node_runs n ty mode node l t d b (worked (Row ty node) s) m rest le p v.0 v.1 v.2 st stands
        (credited (homes wd) (ports wd) (Row ty node) d s m h) same))

    pub branch_runs : (n : ℕ) (e : PlainExpr) (l t : ℕ) (to : Branch) (d : ℕ) (b : Temps) (s : State) (m : Mach)
        (away rest : List PlainIr) → n ≤ wd.n → CallsOfExpr (IsOther wd.program) e → ValidExpr wd.program wd.io sc.f e
        → IsScalar (type_of_expr e) → IsTypedState wd.program s → Stands sc.code (branch_code wd.program (ports wd) e l t to rest)
        → find (branch_label to) sc.code ≡ Some away → Match (homes wd) (ports wd) (around W) d s m → Below W t b m
        → Branches n (branch_code wd.program (ports wd) e l t to rest) m to away rest t d
        (branch_cost to (scalar_size (type_of_expr e))) b (condition (set wd) e (value e s))
    branch_runs n (expression ty mode (logical_not a)) l t to d b s m away rest le p v i st stands f h same =
        let row = Row ty (logical_not a) in
        let code = branch_code wd.program (ports wd) a (l + 2) t (opposite to l) rest in
        let o = condition (set wd) a (value a (worked row s)) in
        let va = branch_cost (opposite to l) (scalar_size (type_of_expr a)) in
        let w = branch_cost to (scalar_size ty) in
        let x = branch_most (opposite to l) (scalar_size (type_of_expr a)) in
        let y = not_leads (scalar_size ty) (scalar_size (type_of_expr a)) in
        subst (λ (z : Outcome Bool). Branches n code m to away rest t d w b z) (sym (not_condition (expression ty mode (logical_not a)) o))
        (not_branch n code m to l away rest t d row va w b o (omega (arith, x, y))
        (branch_runs n a (l + 2) t (opposite to l) (d + row) b (worked row s) m away rest le p v.2 v.1.0 st stands
        (opposite_found to l away f) (credited (homes wd) (ports wd) row d s m h) same))
    branch_runs n (expression ty mode (logical_and a c)) l t to d b s m away rest le p v i st stands f h same =
        let row = Row ty (logical_and a c) in
        let z = zero_label to l in
        let end = and_end to l rest in
        let next_code = branch_code wd.program (ports wd) c (l + 2 + expr_labels a) t to end in
        let code = branch_code wd.program (ports wd) a (l + 2) t (where_zero z) next_code in
        let next_at = branch_behind wd.program (ports wd) sc.code a (l + 2) t (where_zero z) next_code stands in
        let end_at = branch_behind wd.program (ports wd) sc.code c (l + 2 + expr_labels a) t to end next_at in
        let o = condition (set wd) a (value a (worked row s)) in
        let va = branch_zero_words (scalar_size (type_of_expr a)) in
        let y = branch_zero_words (scalar_size (type_of_expr c)) + 5 in
        let vc = branch_cost to (scalar_size (type_of_expr c)) in
        let w = branch_cost to (scalar_size ty) in
        let g = branch_most to (scalar_size (type_of_expr c)) in
        let j = both_lead (scalar_size ty) (scalar_size (type_of_expr a)) (scalar_size (type_of_expr c)) in
        subst (λ (z : Outcome Bool). Branches n code m to away rest t d w b z)
        (sym (and_condition (expression ty mode (logical_and a c)) o (λ s1. condition (set wd) c (value c s1))))
        (and_branch n code m to z l away next_code rest t d row va y vc w b o (λ s1. condition (set wd) c (value c s1)) (omega (arith, j))
        (omega (arith, g))
        (branch_runs n a (l + 2) t (where_zero z) (d + row) b (worked row s) m (led to false away rest) next_code le p.0 v.2.0 v.1.0 st
        stands (zero_found to l away rest f end_at) (credited (homes wd) (ports wd) row d s m h) same)
        (λ s1 u st1 h1 below. branch_runs n c (l + 2 + expr_labels a) t to (d + y) b s1 u away end le p.1 v.2.1 v.1.1 st1 next_at f h1
        below))
    branch_runs n (expression ty mode (logical_or a c)) l t to d b s m away rest le p v i st stands f h same =
        let row = Row ty (logical_or a c) in
        let z = other_label to l in
        let end = or_end to l rest in
        let next_code = branch_code wd.program (ports wd) c (l + 4 + expr_labels a) t to end in
        let code = branch_code wd.program (ports wd) a (l + 4) t (where_not z (l + 1)) next_code in
        let next_at = branch_behind wd.program (ports wd) sc.code a (l + 4) t (where_not z (l + 1)) next_code stands in
        let end_at = branch_behind wd.program (ports wd) sc.code c (l + 4 + expr_labels a) t to end next_at in
        let o = condition (set wd) a (value a (worked row s)) in
        let va = branch_zero_words (scalar_size (type_of_expr a)) + 5 in
        let y = branch_zero_words (scalar_size (type_of_expr c)) + 5 in
        let vc = branch_cost to (scalar_size (type_of_expr c)) in
        let w = branch_cost to (scalar_size ty) in
        let g = branch_most to (scalar_size (type_of_expr c)) in
        let j = both_lead (scalar_size ty) (scalar_size (type_of_expr a)) (scalar_size (type_of_expr c)) in
        subst (λ (z : Outcome Bool). Branches n code m to away rest t d w b z)
        (sym (or_condition (expression ty mode (logical_or a c)) o (λ s1. condition (set wd) c (value c s1))))
        (or_branch n code m to z (l + 1) l away next_code rest t d row va y vc w b o (λ s1. condition (set wd) c (value c s1))
        (omega (arith, j)) (omega (arith, g))
        (branch_runs n a (l + 4) t (where_not z (l + 1)) (d + row) b (worked row s) m (led to true away rest) next_code le p.0 v.2.0 v.1.0
        st stands (other_found to l away rest f end_at) (credited (homes wd) (ports wd) row d s m h) same)
        (λ s1 u st1 h1 below. branch_runs n c (l + 4 + expr_labels a) t to (d + y) b s1 u away end le p.1 v.2.1 v.1.1 st1 next_at f h1
        below))
    branch_runs n (expression ty mode node) l t to d b s m away rest le p v i st stands f h same =
        let q = branch_to to (temp t ty) rest in
        let code = node_code wd.program (ports wd) ty mode node l t q in
        tested_branch n code m to ty t d b away rest (condition (set wd) (expression ty mode node) (value (expression ty mode node) s))
        (node_behind wd.program (ports wd) sc.code ty mode node l t q stands) f
        (tests n t d b (expression ty mode node) s code q m i
        (typed_runs n code m (on_to q) ty t d b (value (expression ty mode node) s)
        ((law wd).expressions wd.n sc.depth sc.f (expression ty mode node) s v st)
        (node_runs n ty mode node l t d b (worked (Row ty node) s) m q le p v.0 v.1 v.2 st stands
        (credited (homes wd) (ports wd) (Row ty node) d s m h) same)))

    place_runs : (n : ℕ) (q : PlainPlace) (l t d : ℕ) (b : Temps) (s : State) (m : Mach) (rest : List PlainIr) (ty : PlainType) → n ≤ wd.n
        → CallsOfPlace (IsOther wd.program) q → ValidPlace wd.program wd.io sc.f q → place_type wd.program q ≡ Some ty
        → IsTypedState wd.program s → Stands sc.code (place_code wd.program (ports wd) q l t rest)
        → Match (homes wd) (ports wd) (around W) d s m
        → Below W t b m
        → Goes n (place_code wd.program (ports wd) q l t rest) m (on_to rest) (HasSite (site wd.program q t) t d b) (place_at q s)
    place_runs n (object o) l t d b s m rest ty le p v e st stands h same = object_runs n o t d b s m rest st h same (slice_get s.objects o)
    place_runs n (deref a) l t d b s m rest ty le p v e st stands h same =
        bind W n (here W (expr_code wd.program (ports wd) a l t rest)) m (on_to rest) (Has (type_of_expr a) t d b) (on_to rest)
        (HasSite (site wd.program (deref a) t) t d b) (here W rest) (value a s) _ (λ z. refl)
        (expr_runs n a l t d b s m rest le p v st stands h same)
        (λ x s1 u r. pointer_runs n a t d b x s1 u rest (pointer_scalar (type_of_expr a) ty e) r)
    place_runs n (member q i) l t d b s m rest ty le p v e st stands h same =
        let g = some_then (place_type wd.program q) _ ty e in
        let st0 = site wd.program q t in
        let next_code = further_code (offset_of wd.program q i) st0 rest in
        bind W n (here W (place_code wd.program (ports wd) q l t next_code)) m (on_to next_code) (HasSite st0 t (d + member_words) b)
        (on_to rest) (HasSite (site wd.program (member q i) t) t d b) (here W next_code) (place_at q (worked member_words s)) _ (λ z. refl)
        (place_runs n q l t (d + member_words) b (worked member_words s) m next_code g.0 le p v g.1 st stands
        (credited (homes wd) (ports wd) member_words d s m h) same)
        (λ p0 s1 u r. further_runs n st0 (offset_of wd.program q i) t d b p0 s1 u rest (stands_at q t (root wd.program q t g.0 g.1)) r
        (moved p0 (referent_of wd.program p0 s1) (pos (offset_of wd.program q i))) refl)

    operand_run : (n : ℕ) (e : OptionPlainExpr) (l t d : ℕ) (b : Temps) (s : State) (m : Mach) (rest : List PlainIr) → n ≤ wd.n
        → CallsOfOption (IsOther wd.program) e → ValidOption wd.program wd.io sc.f e → IsTypedState wd.program s
        → Stands sc.code (option_code wd.program (ports wd) e l t rest) → Match (homes wd) (ports wd) (around W) d s m → Below W t b m
        → Goes n (option_code wd.program (ports wd) e l t rest) m (on_to rest) (HasOperand e t d b)
        (option_value (set wd) (calls_to wd sc.depth) e s)
    operand_run n no_expr l t d b s m rest le p v st stands h same = (
      m,
      record { match = h; held = refl; same = same; state = st },
      stays W (here W rest) m,
    )
    operand_run n (an_expr e) l t d b s m rest le p v st stands h same =
        operand_has n (expr_code wd.program (ports wd) e l t rest) m rest e t d b (value e s)
        (expr_runs n e l t d b s m rest le p v st stands h same)

    args_run : (n : ℕ) (es : PlainExprs) (l t d : ℕ) (b : Temps) (s : State) (m : Mach) (rest : List PlainIr) → n ≤ wd.n
        → CallsOfExprs (IsOther wd.program) es → ValidExprs wd.program wd.io sc.f es → IsTypedState wd.program s
        → Stands sc.code (args_code wd.program (ports wd) es l t rest) → Match (homes wd) (ports wd) (around W) d s m → Below W t b m
        → Goes n (args_code wd.program (ports wd) es l t rest) m (on_to rest) (HasArguments es t d b)
        (values_of (set wd) (calls_to wd sc.depth) es s)
    args_run n last_expr l t d b s m rest le p v st stands h same = (
      m,
      record { match = h; held = tt; same = same; state = st },
      stays W (here W rest) m,
    )
    args_run n (next_expr e es) l t d b s m rest le p v st stands h same =
        let next_code = args_code wd.program (ports wd) es (l + expr_labels e) (t + 1) rest in
        bind W n (here W (expr_code wd.program (ports wd) e l t next_code)) m (on_to next_code) (Has (type_of_expr e) t d b) (on_to rest)
        (HasArguments (next_expr e es) t d b) (here W next_code) (value e s) _ (λ z. refl)
        (expr_runs n e l t d b s m next_code le p.0 v.0 st stands h same)
        (λ x s1 u r. bind W n (here W next_code) u (on_to rest) (HasArguments es (t + 1) d u.temps) (on_to rest)
        (HasArguments (next_expr e es) t d b) (here W rest) (values_of (set wd) (calls_to wd sc.depth) es s1) _ (λ z. refl)
        (args_run n es (l + expr_labels e) (t + 1) d u.temps s1 u rest le p.1 v.1 r.state
        (expr_behind wd.program (ports wd) sc.code e l t next_code stands) r.has.match (λ j lt. refl))
        (λ xs s2 u2 q. (
          u2,
          record {
            match = q.match;
            held = ((λ i. q.same t (omega arith) ∙ r.has.value i), r.typed, q.held);
            same = λ j lt. q.same j (omega (arith, lt)) ∙ r.has.same j lt;
            state = q.state;
          },
          stays W (here W rest) u2,
        )))
