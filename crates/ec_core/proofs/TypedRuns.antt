-- In a valid program the values of expressions and of leaves have their types.
use Rattle.std.proofs.Common.{◌≡◌, ◌⊎◌, ℕ, zero, suc, ◌+◌, ◌*◌, ◌/◌, ◌^◌, ◌<◌, ◌≤◌, Bool, true, false, not, ℤ, pos, List, [], ◌∷◌, length}
use Rattle.std.proofs.Common.{map, Option, Some, None, Result, Ok, Err, refl, sym, ap, ◌∙◌, subst, inl, inr, ⊎_elim, arith, zero-add}
use Rattle.std.proofs.Common.{eqb-true}
use Rattle.std.specs.Prelude.{⊤, ◌==◌, IsTrue, IsSomeAnd, if◌then◌else◌, nat_lt, option_map, option_and_then, unwrap_or, slice_get}
use Rattle.std.specs.List.{AllByRecursion}
use Rattle.std.proofs.lemmas.Int.{ints}
use Rattle.std.proofs.lemmas.Option.{slice_get-map, slice_get_within, get_or_from_slice_get}
use Rattle.std.proofs.Math.Nat.{pow-suc}
use Rattle.ec_fx.specs.declared.numbers.Mode.{Mode}
use Rattle.ec_iohw.specs.declared.operations.IoOp.{IoOp}
use Rattle.ec_iohw.specs.declared.table.Choice.{Choice}
use Rattle.ec_iohw.specs.declared.table.Dynamic.{Dynamic}
use Rattle.ec_iohw.specs.declared.table.IoTable.{IoTable}
use Rattle.ec_iohw.specs.Valid.{IsDynamic}
use Rattle.ec_iohw.specs.declared.table.Pair.{Pair}
use Rattle.ec_iohw.specs.declared.table.Port.{Port}
use Rattle.ec_iohw.specs.Valid.{IsPort}
use Rattle.ec_space.specs.declared.space.SpaceId.{SpaceId}
use Rattle.ec_space.specs.Spaces.{holds}
use Rattle.ec_core.specs.declared.expressions.BinOp.{BinOp}
use Rattle.ec_core.specs.declared.programs.LeafInit.{LeafInit}
use Rattle.ec_core.specs.declared.programs.LeafInit.TheVariants.{Number as TheNumber, Null as TheNull, Address}
use Rattle.ec_core.specs.declared.values.ObjectPointer.{ObjectPointer}
use Rattle.ec_core.specs.declared.values.Undefined.{Undefined}
use Rattle.ec_core.specs.declared.values.Undefined.TheVariants.{ClosedPort, BufferIndex, NoResult, Invalid}
use Rattle.ec_core.specs.declared.values.Undefined.TheVariants.{UnboundGroup}
use Rattle.ec_core.specs.declared.values.Value.{Value}
use Rattle.ec_core.specs.declared.values.Value.TheVariants.{Number, Pointer}
use Rattle.ec_core.specs.Accesses.{pointer_to, referent_of, operand_of, member_offset, begun, all_ended, frame_ended, leaf_count}
use Rattle.ec_core.specs.ArithmeticTypes.{arithmetic_of}
use Rattle.ec_core.specs.ArithmeticValues.{HoldsNumber}
use Rattle.ec_core.specs.Expressions.{Calls, Update, compound_update, step_update, pointed_to, object_place, either, condition, truth_value}
use Rattle.ec_core.specs.Expressions.{updated_place, value_of, node_value, place_of, option_value, values_of}
use Rattle.ec_core.specs.Integers.{truth}
use Rattle.ec_core.specs.Layout.{IsScalar, PlainLeaf, size_of_type, leaves_of_type}
use Rattle.ec_core.specs.Meaning.{setting, run, initial_value, initial_object, initial_state}
use Rattle.ec_core.specs.Operators.{truth_result, unary_result, binary_result, conversion_result, compound_result, step_operator}
use Rattle.ec_core.specs.Plain.{PlainType, void, integer, fixed, pointer, array, struct, PlainExpr, expression, PlainNode, number, null}
use Rattle.ec_core.specs.Plain.{load, address_of, unary, binary, convert, assign, compound, step, logical_not, logical_and, logical_or}
use Rattle.ec_core.specs.Plain.{conditional, comma, call, io, group, bind, dynamic_group, PlainPlace, object, deref, member, OptionPlainExpr, no_expr, an_expr}
use Rattle.ec_core.specs.Plain.{PlainExprs, last_expr, next_expr, PlainStmt, statement, PlainKind, empty, evaluate, block, declare, branch}
use Rattle.ec_core.specs.Plain.{while_loop, do_loop, for_loop, break_loop, continue_loop, return_value, OptionPlainStmt, no_stmt, a_stmt}
use Rattle.ec_core.specs.Plain.{PlainStmts, last_stmt, next_stmt, PlainStorage, static, local, param, register, PlainObject, PlainFunction}
use Rattle.ec_core.specs.Plain.{PlainProgram}
use Rattle.ec_core.specs.Pointers.{Pointer as PointerValue, moved}
use Rattle.ec_core.specs.PortAccesses.{next_byte, byte_read, bytes_read, number_read, bytes_written, no_value as void_value, port_accessed}
use Rattle.ec_core.specs.PortAccesses.{is_open, within, opened, port_effect, pairs_written, pairs_of, group_effect}
use Rattle.ec_core.specs.PortAccesses.{bound, bound_port, standing_port, accessed, bind_effect, choice_effect}
use Rattle.ec_core.specs.PortAccesses.{dynamic_effect}
use Rattle.ec_core.specs.PortOperations.{PortAction, reads, writes, updates, port_operation}
use Rattle.ec_core.specs.PortTable.{PlainPort, PlainGroup, plain_port, plain_group, plain_table}
use Rattle.ec_core.specs.State.{chosen}
use Rattle.ec_core.specs.PortTable.{PlainDynamic, plain_dynamic, choices_of}
use Rattle.ec_core.specs.State.{Inputs, Setting, ObjectState, State, worked, Outcome, got, given}
use Rattle.ec_core.specs.Statements.{Exit, at_end, by_break, by_continue, by_return, in_order, again, tested, turns, declared}
use Rattle.ec_core.specs.Statements.{declared_first, ending, test_of, evaluated, returned, going_on, initialising, effect_of, kind_effect}
use Rattle.ec_core.specs.Statements.{option_effect, first_effect, effects_of, parameters_written, unreturned, call_result, call_of}
use Rattle.ec_core.specs.Statements.{calls_within}
use Rattle.ec_core.specs.Typing.{HaveCompoundArithmetic, pointer_space, int, unsigned_int, unsigned_long, type_of_expr, place_type}
use Rattle.ec_core.specs.Typing.{place_space, pointee, IsAddressType, HaveCompoundTypes, port_value, port_result, AreArguments, IsTyped}
use Rattle.ec_core.specs.Valid.{EachFrom, IsNamedIn, IsInitialValue, AreInitialValues, IsStored, IsObject, ValidExpr, ValidParts}
use Rattle.ec_core.specs.Valid.{ValidPlace, ValidOption, ValidExprs, ValidOptional, ValidCondition, AreLeafValues, IsDeclared, IsReturned}
use Rattle.ec_core.specs.Valid.{ValidStmt, ValidKind, ValidOptionStmt, ValidStmts, IsFunction, Valid}
use Rattle.ec_core.specs.Words.{function_words, branch_words, loop_words, member_words, leaf_words}
use Rattle.ec_core.specs.ValueTypes.{IsPointerInto, HasType, AreLeafStates, AreObjectStates, IsTypedState, GiveBytes, AreArgumentValues}
use Rattle.ec_core.specs.ValueTypes.{IsExitOf, IsPointerTo, IsAny, StatesStayTyped, TypesAreKept}
use Rattle.ec_core.proofs.Calling.{ExprCalls, NodeCalls, PlaceCalls, OptionCalls, RowCalls, OptionalCalls, StmtCalls, KindCalls}
use Rattle.ec_core.proofs.Calling.{OptionStmtCalls, StmtRowCalls, Fits, any_fits, any_expr, any_place, any_row, any_stmt, any_option_stmt}
use Rattle.ec_core.proofs.Points.{HasPoint, moved_point, truth_point}
use Rattle.ec_core.proofs.TypedStates.{leaves_unset, state_of_object, all_ended_typed, frame_ended_typed, begun_typed, begun_kept, IsSound}
use Rattle.ec_core.proofs.TypedStates.{sound, no_value, met_invalid, sound_next, sound_as, sound_choose, read_sound, write_sound}
use Rattle.ec_core.proofs.TypedStates.{initialised_sound}
use Rattle.ec_core.proofs.TypedValues.{OnValue, IsOperator, offset_operator, some_and, number_of_type, type_of_number, int_value}
use Rattle.ec_core.proofs.TypedValues.{moved_value, offset_integer, integer_number, binary_value, unary_value_typed, conversion_value_typed}
use Rattle.ec_core.proofs.TypedValues.{compound_value_typed}

-- ---- lists

each_at : {X : Type 0} (P : X → Type 0) (xs : List X) (k : ℕ) (x : X) → AllByRecursion P xs → slice_get xs k ≡ Some x → P x
each_at P [] k x h e = cc
each_at P (y ∷ xs) zero x h e = let g : y ≡ x = cc in subst P g h.0
each_at P (y ∷ xs) (suc k) x h e = each_at P xs k x h.1 e

from_at : {X : Type 0} (n : ℕ) (P : ℕ → X → Type 0) (xs : List X) (k : ℕ) (x : X) → EachFrom n P xs → slice_get xs k ≡ Some x → P (n + k) x
from_at n P [] k x h e = cc
from_at n P (y ∷ xs) zero x h e = let g : y ≡ x = cc in let m : n ≡ n + 0 = omega arith in subst (λ (j : ℕ). P j x) m (subst (P n) g h.0)
from_at n P (y ∷ xs) (suc k) x h e =
    let m : n + 1 + k ≡ n + suc k = omega arith in
    subst (λ (j : ℕ). P j x) m (from_at (n + 1) P xs k x h.1 e)

item_at : {X : Type 0} (xs : List X) (k : ℕ) → k < length xs → (x : X) × (slice_get xs k ≡ Some x)
item_at [] k l = absurd (omega arith)
item_at (x ∷ xs) zero l = (x, refl)
item_at (x ∷ xs) (suc k) l = item_at xs k (omega arith)

module _ (program : PlainProgram) (invalid : Type 0) where
  null_typed : (ty : PlainType) → IsSomeAnd (pointee ty) (λ t. ⊤) → HasType program ty (Pointer None)
  null_typed void h = tt
  null_typed (integer g b) h = absurd h
  null_typed (fixed c z) h = absurd h
  null_typed (pointer l c t) h = tt
  null_typed (array t m) h = absurd h
  null_typed (struct i) h = absurd h

  address_typed : (ty : PlainType) (p : PlainPlace) (at : PointerValue) → IsAddressType program ty p
      → ((sp : SpaceId) → place_space program p ≡ Some sp → IsPointerInto program sp at) → HasType program ty (Pointer at)
  address_typed void p at h q = absurd h
  address_typed (integer g b) p at h q = absurd h
  address_typed (fixed c z) p at h q = absurd h
  address_typed (pointer l c t) p at h q = q l h.0
  address_typed (array t m) p at h q = absurd h
  address_typed (struct i) p at h q = absurd h

  -- a dereferenced pointer is into the space of its type
  deref_typed : (ty : PlainType) (v : Value) (s : State) (sp : SpaceId) → pointer_space ty ≡ Some sp → HasType program ty v
      → IsTypedState program s → IsSound program invalid (IsPointerInto program sp) (pointed_to v s)
  deref_typed void (Number a) s sp e h k = cc
  deref_typed void (Pointer p) s sp e h k = cc
  deref_typed (integer g b) (Number a) s sp e h k = cc
  deref_typed (integer g b) (Pointer p) s sp e h k = cc
  deref_typed (fixed c z) (Number a) s sp e h k = cc
  deref_typed (fixed c z) (Pointer p) s sp e h k = cc
  deref_typed (pointer l c t) (Number a) s sp e h k = absurd h
  deref_typed (pointer l c t) (Pointer p) s sp e h k =
      let g : l ≡ sp = cc in
      sound program invalid p s (subst (λ (z : SpaceId). IsPointerInto program z p) g h) k
  deref_typed (array t m) (Number a) s sp e h k = cc
  deref_typed (array t m) (Pointer p) s sp e h k = cc
  deref_typed (struct i) (Number a) s sp e h k = cc
  deref_typed (struct i) (Pointer p) s sp e h k = cc

  -- a value of a pointer type is a pointer
  no_number : (ty to : PlainType) (m : ℤ) → pointee ty ≡ Some to → HasType program ty (Number m) → ⊥
  no_number void to m e h = cc
  no_number (integer g b) to m e h = cc
  no_number (fixed c z) to m e h = cc
  no_number (pointer l c t) to m e h = h
  no_number (array t n) to m e h = cc
  no_number (struct i) to m e h = cc

  -- a place has a type, unless what no valid program has may be met
  abbrev HasSome : Option PlainType → Type 0
  HasSome o = ((ty : PlainType) × (o ≡ Some ty)) ⊎ invalid

  address_placed : (ty : PlainType) (p : PlainPlace) → IsAddressType program ty p → HasSome (place_type program p)
  address_placed void p h = absurd h
  address_placed (integer g b) p h = absurd h
  address_placed (fixed c z) p h = absurd h
  address_placed (pointer l c t) p h = let a = some_and (place_type program p) _ h.2 in inl (a.0, a.1)
  address_placed (array t m) p h = absurd h
  address_placed (struct i) p h = absurd h

  -- the place that a member is in
  outer_placed : (o : Option PlainType) (f : PlainType → Option PlainType) → HasSome (option_and_then f o) → HasSome o
  outer_placed None f (inl a) = let e : None ≡ Some a.0 = a.1 in cc
  outer_placed (Some ty) f (inl a) = inl (ty, refl)
  outer_placed o f (inr i) = inr i

  pointed_sound : (ty : PlainType) (v : Value) (s : State) → HasSome (pointee ty) → HasType program ty v → IsTypedState program s
      → IsSound program invalid (λ at. (sp : SpaceId) → pointer_space ty ≡ Some sp → IsPointerInto program sp at) (pointed_to v s)
  pointed_sound ty (Number m) s (inl a) h k = absurd (no_number ty a.0 m a.1 h)
  pointed_sound ty (Number m) s (inr i) h k = met_invalid program invalid s i
  pointed_sound ty (Pointer p) s c h k = sound program invalid p s (λ sp e. (deref_typed ty (Pointer p) s sp e h k).is.0) k

  arithmetic_number : (op : BinOp) (ty right : PlainType) (x : Value)
      → IsSomeAnd (arithmetic_of ty) (λ a. IsSomeAnd (arithmetic_of right) (λ b. HaveCompoundArithmetic op a b)) → HasType program right x
      → (n : ℤ) × (x ≡ Number n)
  arithmetic_number op ty right x h k =
      let a = some_and (arithmetic_of ty) (λ a. IsSomeAnd (arithmetic_of right) (λ b. HaveCompoundArithmetic op a b)) h in
      let t = some_and (arithmetic_of right) (λ b. HaveCompoundArithmetic op a.0 b) a.2 in
      let r = number_of_type program right t.0 x t.1 k in
      (r.n, r.is)

  compound_number : (small : (o : ℕ) (d : PlainObject) → slice_get program.objects o ≡ Some d → size_of_type program.structs d.ty ≤ 32_767)
      (op : BinOp) (ty right : PlainType) (x : Value) → HaveCompoundTypes op ty right → HasType program right x → (n : ℤ) × (x ≡ Number n)
  compound_number small op void right x h k = arithmetic_number op void right x h k
  compound_number small op (integer g b) right x h k = arithmetic_number op (integer g b) right x h k
  compound_number small op (fixed c z) right x h k = arithmetic_number op (fixed c z) right x h k
  compound_number small op (pointer l c t) right x h k = integer_number program small right x (offset_integer program small op right h) k
  compound_number small op (array t m) right x h k = arithmetic_number op (array t m) right x h k
  compound_number small op (struct i) right x h k = arithmetic_number op (struct i) right x h k

  compound_operator : (small : (o : ℕ) (d : PlainObject) → slice_get program.objects o ≡ Some d
      → size_of_type program.structs d.ty ≤ 32_767) (op : BinOp) (ty right : PlainType) → HaveCompoundTypes op ty right
      → IsOperator program op ty
  compound_operator small op void right h = tt
  compound_operator small op (integer g b) right h = tt
  compound_operator small op (fixed c z) right h = tt
  compound_operator small op (pointer l c t) right h = offset_operator program small op right h
  compound_operator small op (array t m) right h = tt
  compound_operator small op (struct i) right h = tt

  step_operand : (up : Bool) (ty : PlainType) → IsOperator program (step_operator up) ty
  step_operand up void = tt
  step_operand up (integer g b) = tt
  step_operand up (fixed c z) = tt
  step_operand true (pointer l c t) = tt
  step_operand false (pointer l c t) = tt
  step_operand up (array t m) = tt
  step_operand up (struct i) = tt

  given_sound : {A : Type 0} {P : A → Type 0} (r : Result A Undefined) (s : State) → OnValue P r → IsTypedState program s
      → IsSound program invalid P (given r s)
  given_sound (Ok x) s h k = sound program invalid x s h k
  given_sound (Err point) s h k = no_value program invalid point s h

  as_type : {o : Outcome Value} (ty other : PlainType) → ty ≡ other → IsSound program invalid (HasType program ty) o
      → IsSound program invalid (HasType program other) o
  as_type {o} ty other e h = subst (λ (z : PlainType). IsSound program invalid (HasType program z) o) e h

  scalar_leaf : (ty : PlainType) → IsScalar ty → slice_get (leaves_of_type program.structs ty) 0 ≡ Some (record { ty = ty; at = 0 })
  scalar_leaf void h = absurd h
  scalar_leaf (integer g b) h = refl
  scalar_leaf (fixed c z) h = refl
  scalar_leaf (pointer l c t) h = refl
  scalar_leaf (array t m) h = absurd h
  scalar_leaf (struct i) h = absurd h

module _ (program : PlainProgram) (invalid : Type 0) (io_table : IoTable) (valid : Valid program io_table) (inputs : Inputs)
    (bytes : GiveBytes inputs) where
  abbrev w : Setting
  w = setting program (plain_table io_table) inputs

  object_of : (o : ℕ) (d : PlainObject) → slice_get program.objects o ≡ Some d → IsObject program d
  object_of o d e = each_at (IsObject program) program.objects o d valid.objects e

  small : (o : ℕ) (d : PlainObject) → slice_get program.objects o ≡ Some d → size_of_type program.structs d.ty ≤ 32_767
  small o d e = (object_of o d e).small

  -- ---- parts of expressions

  pointer_place : (p : PlainPlace) (at : PointerValue) (s : State) → ((q : ObjectPointer) × (at ≡ Some q)) → IsPointerTo program p at
      → IsTypedState program s → IsSound program invalid (IsPointerTo program p) (object_place at s)
  pointer_place p None s c q h = let e : None ≡ Some c.0 = c.1 in cc
  pointer_place p (Some at) s c q h = sound program invalid (Some at) s q h

  pointer_some : (f o : ℕ) (s : State) → IsSomeAnd (slice_get program.objects o) (λ x. IsNamedIn f x.storage) → IsTypedState program s
      → (q : ObjectPointer) × (pointer_to o s ≡ Some q)
  pointer_some f o s c h =
      let d = some_and (slice_get program.objects o) (λ x. IsNamedIn f x.storage) c in
      let x = state_of_object program program.objects s.objects o d.0 h d.1 in (
        record { object = o; instance = x.0.serial; offset = 0 },
        ap (option_map (λ y. record { object = o; instance = y.serial; offset = 0 })) x.1,
      )

  pointer_typed : (o : ℕ) (s : State) → IsPointerTo program (object o) (pointer_to o s)
  pointer_typed o s sp e = with_state (slice_get s.objects o) (slice_get program.objects o) refl e
    where
      with_state : (x : Option ObjectState) (c : Option PlainObject)
          → slice_get program.objects o ≡ c → option_map (λ y. y.space) c ≡ Some sp
          → IsPointerInto program sp (option_map (λ y. record { object = o; instance = y.serial; offset = 0 }) x)
      with_state None c f e = tt
      with_state (Some x) None f e = cc
      with_state (Some x) (Some d) f e =
          let g : d.space ≡ sp = cc in
          let h : IsTrue (holds sp d.home) = subst (λ (z : SpaceId). IsTrue (holds z d.home)) g (object_of o d f).home in
          subst (λ (z : Option PlainObject). IsSomeAnd z (λ y. IsTrue (holds sp y.home) × (0 ≤ size_of_type program.structs y.ty))) (sym f)
          (h, omega arith)

  member_place : (p : PlainPlace) (i : ℕ) (at : PointerValue) (n : ℤ) (s : State) → IsPointerTo program p at → IsTypedState program s
      → IsSound program invalid (IsPointerTo program (member p i)) (given (moved at (referent_of program at s) n) s)
  member_place p i at n s q k = by_space (place_space program p) refl
    where
      by_space : (c : Option SpaceId) → place_space program p ≡ c
          → IsSound program invalid (IsPointerTo program (member p i)) (given (moved at (referent_of program at s) n) s)
      by_space None e = given_sound program invalid (moved at (referent_of program at s) n) s
          (any_value (moved at (referent_of program at s) n) (moved_point at (referent_of program at s) n)) k
        where
          any_value : (r : Result PointerValue Undefined) → HasPoint r → OnValue (IsPointerTo program (member p i)) r
          any_value (Ok z) h = λ sp f. cc
          any_value (Err point) h = h
      by_space (Some sp) e = given_sound program invalid (moved at (referent_of program at s) n) s
          (in_space (moved at (referent_of program at s) n) (moved_value program sp at s n (q sp e))) k
        where
          in_space : (r : Result PointerValue Undefined) → OnValue (IsPointerInto program sp) r
              → OnValue (IsPointerTo program (member p i)) r
          in_space (Ok z) h = λ sp2 f. (let g : sp ≡ sp2 = cc in subst (λ (y : SpaceId). IsPointerInto program y z) g h)
          in_space (Err point) h = h

  condition_sound : (e : PlainExpr) {P : Value → Type 0} (o : Outcome Value) → IsSound program invalid P o
      → IsSound program invalid (λ h. ⊤) (condition w e o)
  condition_sound e o h =
      sound_next program invalid h (λ x t q k. given_sound program invalid (truth_result (operand_of program (type_of_expr e) x t)) t
      (any_value (truth_result (operand_of program (type_of_expr e) x t)) (truth_point (operand_of program (type_of_expr e) x t) x)) k)
    where
      any_value : (r : Result Bool Undefined) → HasPoint r → OnValue (λ b. ⊤) r
      any_value (Ok b) h = tt
      any_value (Err point) h = h

  truth_sound : (o : Outcome Bool) → IsSound program invalid (λ h. ⊤) o → IsSound program invalid (HasType program int) (truth_value o)
  truth_sound o h = sound_next program invalid h (λ b t q k. sound program invalid (Number (truth b)) t (int_value program b) k)

  either_typed : (new : Bool) (ty : PlainType) (x y : Value) → HasType program ty x → HasType program ty y
      → HasType program ty (either new x y)
  either_typed true ty x y h k = h
  either_typed false ty x y h k = k

  updated_sound : (u : Update) (at : PointerValue) (old : Value) (right : PlainType) (n : ℤ) (s : State)
      → IsOperator program u.op u.ty → IsScalar u.ty → HasType program u.ty old → IsTypedState program s
      → IsSound program invalid (HasType program u.ty) (updated_place w u at old right (Number n) s)
  updated_sound u at old right n s o c h k =
      sound_next program invalid (given_sound program invalid
      (compound_result u.op u.operation_mode u.write_mode (operand_of program u.ty old s) (operand_of program right (Number n) s)) s
      (compound_value_typed program u.op u.operation_mode u.write_mode u.ty right old n s o c h) k)
      (λ v t q l. sound_next program invalid (write_sound program invalid u.ty (place_space program u.place) at v t q l)
      (λ z r x m. sound program invalid (either u.new v old) r (either_typed u.new u.ty v old q h) m))

  compounding : (u : Update) (at : PointerValue) (old : Value) (right : PlainType) (x : Value) (s : State) → IsScalar u.ty
      → HaveCompoundTypes u.op u.ty right → HasType program u.ty old → HasType program right x → IsTypedState program s
      → IsSound program invalid (HasType program u.ty) (updated_place w u at old right x s)
  compounding u at old right x s c t h k l =
      let n = compound_number program invalid small u.op u.ty right x t k in
      subst (λ (z : Value). IsSound program invalid (HasType program u.ty) (updated_place w u at old right z s)) (sym n.1)
      (updated_sound u at old right n.0 s (compound_operator program invalid small u.op u.ty right t) c h l)

  -- ---- ports

  byte_below : (port : ℕ) (s : State) → next_byte inputs port s < 256
  byte_below port s = bytes port _

  number_below : (n port : ℕ) (s : State) → number_read inputs n port s < 256 ^ n
  number_below zero port s = omega arith
  number_below (suc n) port s =
      let b : next_byte inputs port s < 256 = byte_below port s in
      let r : number_read inputs n (port + 1) (byte_read inputs port s) < 256 ^ n = number_below n (port + 1) (byte_read inputs port s) in
      let p : 256 ^ suc n ≡ 256 ^ n * 256 = pow-suc 256 n in
      omega arith

  bytes_read_typed : (n port : ℕ) (s : State) → IsTypedState program s → IsTypedState program (bytes_read inputs n port s)
  bytes_read_typed zero port s h = h
  bytes_read_typed (suc n) port s h = bytes_read_typed n (port + 1) (byte_read inputs port s) h

  bytes_written_typed : (n port v : ℕ) (s : State) → IsTypedState program s → IsTypedState program (bytes_written n port v s)
  bytes_written_typed zero port v s h = h
  bytes_written_typed (suc n) port v s h = bytes_written_typed n (port + 1) (v / 256) s h

  pairs_typed : (pairs : List Pair) (s : State) → IsTypedState program s → IsTypedState program (pairs_written pairs s)
  pairs_typed [] s h = h
  pairs_typed (pair ∷ pairs) s h = pairs_typed pairs _ h

  group_sound : (acquire : Bool) (g : ℕ) (x : Option PlainGroup) (s : State) → ((y : PlainGroup) × (x ≡ Some y)) → IsTypedState program s
      → IsSound program invalid (HasType program void) (group_effect acquire g x s)
  group_sound acquire g None s c h = let e : None ≡ Some c.0 = c.1 in cc
  group_sound acquire g (Some x) s c h = sound program invalid void_value _ tt (pairs_typed (pairs_of acquire x) s h)

  bind_sound : (d choice : ℕ) (s : State) → IsTypedState program s
      → IsSound program invalid (HasType program void) (bind_effect d choice s)
  bind_sound d choice s h = sound program invalid void_value _ tt h

  group_at : (g : ℕ) → g < length io_table.groups.items → (y : PlainGroup) × (slice_get (map plain_group io_table.groups.items) g ≡ Some y)
  group_at g l =
      let x = item_at io_table.groups.items g l in
      (plain_group x.0, slice_get-map plain_group io_table.groups.items g ∙ ap (option_map plain_group) x.1)

  -- the group of a choice is in the table
  choice_within : (d k : ℕ) (c : Choice) → slice_get (choices_of (plain_table io_table) d) k ≡ Some c
      → c.group < length io_table.groups.items
  choice_within d k c e = by_dynamic (slice_get io_table.dynamics.items d) refl
    where
      by_dynamic : (x : Option Dynamic) → slice_get io_table.dynamics.items d ≡ x → c.group < length io_table.groups.items
      by_dynamic None q =
          let none : choices_of (plain_table io_table) d ≡ [] =
          ap (λ (z : Option PlainDynamic). unwrap_or (option_map (λ x. x.choices) z) [])
          (slice_get-map plain_dynamic io_table.dynamics.items d ∙ ap (option_map plain_dynamic) q) in
          let no : None ≡ Some c = sym (ap (λ (z : List Choice). slice_get z k) none) ∙ e in
          cc
      by_dynamic (Some x) q =
          let some : choices_of (plain_table io_table) d ≡ x.choices.items =
          ap (λ (z : Option PlainDynamic). unwrap_or (option_map (λ x. x.choices) z) [])
          (slice_get-map plain_dynamic io_table.dynamics.items d ∙ ap (option_map plain_dynamic) q) in
          let at : slice_get x.choices.items k ≡ Some c = sym (ap (λ (z : List Choice). slice_get z k) some) ∙ e in
          let is : IsDynamic (length io_table.groups.items) x =
          subst (IsDynamic (length io_table.groups.items)) (get_or_from_slice_get io_table.dynamics.items d x x q)
          (valid.ports.each_dynamic d x (slice_get_within io_table.dynamics.items d x q)) in
          subst (λ (z : Choice). z.group < length io_table.groups.items) (get_or_from_slice_get x.choices.items k c c at)
          (is.within k c (slice_get_within x.choices.items k c at))

  choice_sound : (acquire : Bool) (c : Option Choice) (s : State)
      → ((x : Choice) → c ≡ Some x → x.group < length io_table.groups.items) → IsTypedState program s
      → IsSound program invalid (HasType program void) (choice_effect acquire (plain_table io_table) c s)
  choice_sound acquire None s f h = no_value program invalid UnboundGroup s tt
  choice_sound acquire (Some c) s f h = group_sound acquire c.group _ s (group_at c.group (f c refl)) h

  dynamic_sound : (acquire : Bool) (d : ℕ) (s : State) → IsTypedState program s
      → IsSound program invalid (HasType program void) (dynamic_effect acquire (plain_table io_table) d s)
  dynamic_sound acquire d s h = choice_sound acquire (bound (plain_table io_table) d s) s by_choice h
    where
      by_choice : (x : Choice) → bound (plain_table io_table) d s ≡ Some x → x.group < length io_table.groups.items
      by_choice x e = at (chosen d s) e
        where
          at : (k : Option ℕ) → option_and_then (λ n. slice_get (choices_of (plain_table io_table) d) n) k ≡ Some x
              → x.group < length io_table.groups.items
          at None q = let no : None ≡ Some x = q in cc
          at (Some n) q = choice_within d n x q

  -- a number of so many bytes is one of the type of the operation's values
  port_number : (long : Bool) (width m : ℕ) → ((width ≡ 1) ⊎ ((width ≡ 2) ⊎ (width ≡ 4))) → (width ≡ 4 → IsTrue long) → m < 256 ^ width
      → HasType program (if long then unsigned_long else unsigned_int) (Number (pos m))
  port_number true width m (inl e) l h =
      let b : m < 256 ^ 1 = subst (λ (z : ℕ). m < 256 ^ z) e h in
      (inr (inr refl), record { low = omega (arith, ints); high = omega (arith, ints) })
  port_number true width m (inr (inl e)) l h =
      let b : m < 256 ^ 2 = subst (λ (z : ℕ). m < 256 ^ z) e h in
      (inr (inr refl), record { low = omega (arith, ints); high = omega (arith, ints) })
  port_number true width m (inr (inr e)) l h =
      let b : m < 256 ^ 4 = subst (λ (z : ℕ). m < 256 ^ z) e h in
      (inr (inr refl), record { low = omega (arith, ints); high = omega (arith, ints) })
  port_number false width m (inl e) l h =
      let b : m < 256 ^ 1 = subst (λ (z : ℕ). m < 256 ^ z) e h in
      (inr (inl refl), record { low = omega (arith, ints); high = omega (arith, ints) })
  port_number false width m (inr (inl e)) l h =
      let b : m < 256 ^ 2 = subst (λ (z : ℕ). m < 256 ^ z) e h in
      (inr (inl refl), record { low = omega (arith, ints); high = omega (arith, ints) })
  port_number false width m (inr (inr e)) l h = let f : false ≡ true = l e in cc

  accessed_sound : (action : PortAction) (long : Bool) (op : IoOp) (width port v : ℕ) (s : State)
      → ((width ≡ 1) ⊎ ((width ≡ 2) ⊎ (width ≡ 4))) → (width ≡ 4 → IsTrue long) → IsTypedState program s → IsSound program invalid
      (HasType program (port_result action (if long then unsigned_long else unsigned_int))) (port_accessed inputs action op width port v s)
  accessed_sound reads long op width port v s c l h = sound program invalid (Number (pos (number_read inputs width port s))) _
      (port_number long width _ c l (number_below width port s)) (bytes_read_typed width port s h)
  accessed_sound writes long op width port v s c l h = sound program invalid void_value _ tt (bytes_written_typed width port v s h)
  accessed_sound updates long op width port v s c l h =
      sound program invalid void_value _ tt (bytes_written_typed width port _ _ (bytes_read_typed width port s h))

  within_sound : (b : Bool) (op : IoOp) (port : PlainPort) (i v : ℕ) (s : State)
      → ((port.width ≡ 1) ⊎ ((port.width ≡ 2) ⊎ (port.width ≡ 4)))
      → (port.width ≡ 4 → IsTrue (port_operation op).long) → IsTypedState program s → IsSound program invalid
      (HasType program (port_result (port_operation op).action (port_value (port_operation op)))) (within inputs b op port i v s)
  within_sound true op port i v s c l h = accessed_sound (port_operation op).action (port_operation op).long op port.width _ v s c l h
  within_sound false op port i v s c l h = no_value program invalid BufferIndex s tt

  opened_sound : (b : Bool) (op : IoOp) (port : PlainPort) (i v : ℕ) (s : State)
      → ((port.width ≡ 1) ⊎ ((port.width ≡ 2) ⊎ (port.width ≡ 4)))
      → (port.width ≡ 4 → IsTrue (port_operation op).long) → IsTypedState program s → IsSound program invalid
      (HasType program (port_result (port_operation op).action (port_value (port_operation op)))) (opened inputs b op port i v s)
  opened_sound true op port i v s c l h = within_sound (nat_lt i port.count) op port i v s c l h
  opened_sound false op port i v s c l h = no_value program invalid ClosedPort s tt

  port_at : (n : ℕ) (p : Port) → slice_get io_table.ports.items n ≡ Some p → IsPort (length io_table.groups.items) io_table.dynamics.items p
  port_at n p e = subst (IsPort (length io_table.groups.items) io_table.dynamics.items) (get_or_from_slice_get io_table.ports.items n p p e)
      (valid.ports.each n p (slice_get_within io_table.ports.items n p e))

  accessed_port_sound : (op : IoOp) (port : PlainPort) (dynamic : Option ℕ) (i v : ℕ) (s : State)
      → ((port.width ≡ 1) ⊎ ((port.width ≡ 2) ⊎ (port.width ≡ 4)))
      → (port.width ≡ 4 → IsTrue (port_operation op).long) → IsTypedState program s → IsSound program invalid
      (HasType program (port_result (port_operation op).action (port_value (port_operation op))))
      (accessed inputs op (standing_port (plain_table io_table) port dynamic s) i v s)
  accessed_port_sound op port None i v s c l h = opened_sound (is_open port.group s) op port i v s c l h
  accessed_port_sound op port (Some d) i v s c l h = by_choice (bound (plain_table io_table) d s)
    where
      by_choice : (x : Option Choice) → IsSound program invalid
          (HasType program (port_result (port_operation op).action (port_value (port_operation op))))
          (accessed inputs op (option_map (bound_port port) x) i v s)
      by_choice None = no_value program invalid UnboundGroup s tt
      by_choice (Some x) = opened_sound (is_open (Some x.group) s) op (bound_port port x) i v s c l h

  port_sound : (op : IoOp) (n : ℕ) (i v : Value) (s : State)
      → IsSomeAnd (slice_get io_table.ports.items n) (λ p. (p.width ≡ 4) → IsTrue (port_operation op).long) → IsTypedState program s
      → IsSound program invalid (HasType program (port_result (port_operation op).action (port_value (port_operation op))))
      (port_effect inputs (plain_table io_table) op (slice_get (map plain_port io_table.ports.items) n) i v s)
  port_sound op n i v s t h =
      let p = some_and (slice_get io_table.ports.items n) _ t in
      let e : slice_get (map plain_port io_table.ports.items) n ≡ Some (plain_port p.0) =
      slice_get-map plain_port io_table.ports.items n ∙ ap (option_map plain_port) p.1 in
      subst (λ (z : Option PlainPort). IsSound program invalid
      (HasType program (port_result (port_operation op).action (port_value (port_operation op)))) (port_effect inputs (plain_table io_table) op z i v s)) (sym e)
      (accessed_port_sound op (plain_port p.0) p.0.dynamic _ _ s (port_at n p.0 p.1).width p.2 h)

  -- ---- expressions

  -- calls of functions that may be called give values of the results' types
  abbrev KeepTypes : (ℕ → Type 0) → Calls → Type 0
  KeepTypes May calls = (g : ℕ) (f : PlainFunction) (xs : List Value) (s : State) → May g → slice_get program.functions g ≡ Some f
      → AreArgumentValues program f.params xs → IsTypedState program s → IsSound program invalid (HasType program f.returns) (calls g xs s)

  argument_typed : (o : ℕ) (ty : PlainType) (x : Value) → option_map (λ d. d.ty) (slice_get program.objects o) ≡ Some ty
      → HasType program ty x → IsSomeAnd (slice_get program.objects o) (λ d. HasType program d.ty x)
  argument_typed o ty x e h = by_object (slice_get program.objects o) e
    where
      by_object : (c : Option PlainObject) → option_map (λ d. d.ty) c ≡ Some ty → IsSomeAnd c (λ d. HasType program d.ty x)
      by_object None f = cc
      by_object (Some d) f = let g : ty ≡ d.ty = cc in subst (λ (z : PlainType). HasType program z x) g h

  module _ (calls : Calls) (May : ℕ → Type 0) (keep : KeepTypes May calls) (f : ℕ) where
    mutual
      pub values_sound : (e : PlainExpr) (s : State) → ValidExpr program io_table f e → ExprCalls May e → IsTypedState program s
          → IsSound program invalid (HasType program (type_of_expr e)) (value_of w calls e s)
      values_sound (expression ty mode node) s v o h = nodes_sound ty mode node _ v.1 v.2 o h

      nodes_sound : (ty : PlainType) (mode : Mode) (node : PlainNode) (s : State) → IsTyped program io_table ty node
          → ValidParts program io_table f node → NodeCalls May node → IsTypedState program s
          → IsSound program invalid (HasType program ty) (node_value w calls ty mode node s)
      nodes_sound ty mode (number n) s t v o h =
          let a = some_and (arithmetic_of ty) (λ a. HoldsNumber a n) t in
          sound program invalid (Number n) s (type_of_number program ty a.0 n a.1 a.2) h
      nodes_sound ty mode null s t v o h = sound program invalid (Pointer None) s (null_typed program invalid ty t) h
      nodes_sound ty mode (load p) s t v o h = sound_next program invalid (places_sound p s v o (inl (ty, t.1)) h)
          (λ at u q k. read_sound program invalid ty (place_space program p) at u k)
      nodes_sound ty mode (address_of p) s t v o h =
          sound_next program invalid (places_sound p s v.0 o (address_placed program invalid ty p t) h)
          (λ at u q k. sound program invalid (Pointer at) u (address_typed program invalid ty p at t q) k)
      nodes_sound ty mode (unary op a) s t v o h =
          sound_next program invalid (values_sound a s v o h) (λ x u q k. given_sound program invalid (unary_result op ty mode x) u
          (unary_value_typed program op ty mode x t.1 (subst (λ (z : PlainType). HasType program z x) t.0 q)) k)
      nodes_sound ty mode (binary op a b) s t v o h =
          sound_next program invalid (values_sound a s v.0 o.0 h)
          (λ x u q k. sound_next program invalid (values_sound b u v.1 o.1 k) (λ y r l m.
          given_sound program invalid
          (binary_result op ty mode (operand_of program (type_of_expr a) x r) (operand_of program (type_of_expr b) y r)) r
          (binary_value program small op ty (type_of_expr a) (type_of_expr b) mode x y r t q l) m))
      nodes_sound ty mode (convert a) s t v o h =
          sound_next program invalid (values_sound a s v o h) (λ x u q k. given_sound program invalid (conversion_result ty mode
          (operand_of program (type_of_expr a) x u)) u (conversion_value_typed program ty (type_of_expr a) mode x u t.0 t.1 q) k)
      nodes_sound ty mode (assign p a) s t v o h =
          sound_next program invalid (places_sound p s v.0 o.0 (inl (ty, t.0.1)) h)
          (λ at u q k. sound_next program invalid (values_sound a u v.1 o.1 k) (λ x r l m.
          write_sound program invalid ty (place_space program p) at x r (subst (λ (z : PlainType). HasType program z x) t.1 l) m))
      nodes_sound ty mode (compound op operation_mode p a) s t v o h =
          sound_next program invalid (places_sound p s v.0 o.0 (inl (ty, t.0.1)) h)
          (λ at u q k. sound_next program invalid (read_sound program invalid ty (place_space program p) at u k)
          (λ old r l m. sound_next program invalid (values_sound a r v.1 o.1 m) (λ x c y z.
          compounding (compound_update op operation_mode ty mode p) at old (type_of_expr a) x c t.0.0 t.1 l y z)))
      nodes_sound ty mode (step up prefix p) s t v o h =
          sound_next program invalid (places_sound p s v o (inl (ty, t.1)) h)
          (λ at u q k. sound_next program invalid (read_sound program invalid ty (place_space program p) at u k)
          (λ old r l m. updated_sound (step_update up ty mode prefix p) at old int (pos 1) r (step_operand program invalid up ty) t.0 l m))
      nodes_sound ty mode (logical_not a) s t v o h =
          as_type program invalid int ty (sym t.1)
          (sound_next program invalid (condition_sound a (value_of w calls a s) (values_sound a s v o h))
          (λ b u q k. sound program invalid (Number (truth (not b))) u (int_value program (not b)) k))
      nodes_sound ty mode (logical_and a b) s t v o h =
          as_type program invalid int ty (sym t.2)
          (sound_next program invalid (condition_sound a (value_of w calls a s) (values_sound a s v.0 o.0 h)) (λ c u q k.
          sound_choose program invalid c _ _ u (truth_sound _ (condition_sound b (value_of w calls b u) (values_sound b u v.1 o.1 k)))
          (sound program invalid (Number (truth false)) u (int_value program false) k)))
      nodes_sound ty mode (logical_or a b) s t v o h =
          as_type program invalid int ty (sym t.2)
          (sound_next program invalid (condition_sound a (value_of w calls a s) (values_sound a s v.0 o.0 h)) (λ c u q k.
          sound_choose program invalid c _ _ u (sound program invalid (Number (truth true)) u (int_value program true) k)
          (truth_sound _ (condition_sound b (value_of w calls b u) (values_sound b u v.1 o.1 k)))))
      nodes_sound ty mode (conditional c a b) s t v o h =
          sound_next program invalid (condition_sound c (value_of w calls c s) (values_sound c s v.0 o.0 h)) (λ x u q k.
          sound_choose program invalid x _ _ u (as_type program invalid (type_of_expr a) ty t.2 (values_sound a u v.1 o.1 k))
          (as_type program invalid (type_of_expr b) ty t.3 (values_sound b u v.2 o.2 k)))
      nodes_sound ty mode (comma a b) s t v o h = sound_next program invalid (values_sound a s v.0 o.0 h)
          (λ x u q k. as_type program invalid (type_of_expr b) ty t.2 (values_sound b u v.1 o.1 k))
      nodes_sound ty mode (call g args) s t v o h =
          let c = some_and (slice_get program.functions g) _ t in
          sound_next program invalid (rows_sound c.0.params args s c.2.1 v o.1 h)
          (λ xs u q k. as_type program invalid c.0.returns ty (sym c.2.0) (keep g c.0 xs u o.0 c.1 q k))
      nodes_sound ty mode (io op port index value) s t v o h =
          as_type program invalid (port_result (port_operation op).action (port_value (port_operation op))) ty (sym t.result)
          (sound_next program invalid (options_sound index s v.0 o.0 h)
          (λ i u q k. sound_next program invalid (options_sound value u v.1 o.1 k) (λ x r l m. port_sound op port i x r t.port m)))
      nodes_sound ty mode (group acquire g) s t v o h =
          as_type program invalid void ty (sym t.1) (group_sound acquire g _ s (group_at g t.0) h)
      nodes_sound ty mode (bind d choice) s t v o h = as_type program invalid void ty (sym t.1) (bind_sound d choice s h)
      nodes_sound ty mode (dynamic_group acquire d) s t v o h =
          as_type program invalid void ty (sym t.1) (dynamic_sound acquire d s h)

      places_sound : (p : PlainPlace) (s : State) → ValidPlace program io_table f p
          → PlaceCalls May p → HasSome program invalid (place_type program p) → IsTypedState program s
          → IsSound program invalid (IsPointerTo program p) (place_of w calls p s)
      places_sound (object n) s v o c h = pointer_place (object n) (pointer_to n s) s (pointer_some f n s v h) (pointer_typed n s) h
      places_sound (deref e) s v o c h =
          sound_next program invalid (values_sound e s v o h) (λ x u q k. pointed_sound program invalid (type_of_expr e) x u c q k)
      places_sound (member p i) s v o c h =
          sound_next program invalid
          (places_sound p (worked member_words s) v o (outer_placed program invalid (place_type program p) _ c) h)
          (λ at u q k. member_place p i at (pos (member_offset program (unwrap_or (place_type program p) void) i)) u q k)

      options_sound : (e : OptionPlainExpr) (s : State) → ValidOption program io_table f e → OptionCalls May e → IsTypedState program s
          → IsSound program invalid (λ x. ⊤) (option_value w calls e s)
      options_sound no_expr s v o h = sound program invalid void_value s tt h
      options_sound (an_expr e) s v o h = sound_as program invalid (λ x q. tt) (values_sound e s v o h)

      rows_sound : (os : List ℕ) (es : PlainExprs) (s : State) → AreArguments program os es → ValidExprs program io_table f es
          → RowCalls May es → IsTypedState program s → IsSound program invalid (AreArgumentValues program os) (values_of w calls es s)
      rows_sound [] last_expr s a v o h = sound program invalid [] s tt h
      rows_sound [] (next_expr e es) s a v o h = absurd a
      rows_sound (n ∷ os) last_expr s a v o h = absurd a
      rows_sound (n ∷ os) (next_expr e es) s a v o h =
          sound_next program invalid (values_sound e s v.0 o.0 h) (λ x u q k. sound_next program invalid (rows_sound os es u a.1 v.1 o.1 k)
          (λ xs r l m. sound program invalid (x ∷ xs) r (argument_typed n (type_of_expr e) x a.0 q, l) m))

    -- ---- parts of statements

    test_sound : (c : Option PlainExpr) (s : State) → ValidCondition program io_table f c → OptionalCalls May c → IsTypedState program s
        → IsSound program invalid (λ b. ⊤) (test_of w calls c s)
    test_sound None s v o h = sound program invalid true s tt h
    test_sound (Some e) s v o h = condition_sound e (value_of w calls e s) (values_sound e s v.0 o h)

    evaluated_sound : {P : Exit → Type 0} (e : Option PlainExpr) (s : State) → P at_end → ValidOptional program io_table f e
        → OptionalCalls May e → IsTypedState program s → IsSound program invalid P (evaluated w calls e s)
    evaluated_sound None s q v o h = sound program invalid at_end s q h
    evaluated_sound (Some e) s q v o h = sound_next program invalid (values_sound e s v o h) (λ x t r k. sound program invalid at_end t q k)

    going_on_sound : (last c : Option PlainExpr) (s : State) → ValidOptional program io_table f last
        → OptionalCalls May last → ValidCondition program io_table f c → OptionalCalls May c → IsTypedState program s
        → IsSound program invalid (λ b. ⊤) (going_on w calls last c s)
    going_on_sound last c s v o u p h =
        sound_next program invalid (evaluated_sound {P = λ x. ⊤} last s tt v o h) (λ x t q k. test_sound c t u p k)

    returned_sound : (ty : PlainType) (e : Option PlainExpr) (s : State) → IsReturned program io_table f ty e
        → ValidOptional program io_table f e → OptionalCalls May e → IsTypedState program s
        → IsSound program invalid (IsExitOf program ty) (returned w calls e s)
    returned_sound ty None s r v o h = sound program invalid (by_return None) s tt h
    returned_sound ty (Some e) s r v o h = sound_next program invalid (values_sound e s v o h)
        (λ x t q k. sound program invalid (by_return (Some x)) t (subst (λ (z : PlainType). HasType program z x) r.1 q) k)

    -- the leaves from number k on
    abbrev AreFrom : ℕ → List PlainLeaf → List PlainLeaf → Type 0
    AreFrom k rest all = (j : ℕ) (leaf : PlainLeaf) → slice_get rest j ≡ Some leaf → slice_get all (k + j) ≡ Some leaf

    from_next : (k : ℕ) (l : PlainLeaf) (rest all : List PlainLeaf) → AreFrom k (l ∷ rest) all → AreFrom (k + 1) rest all
    from_next k l rest all h j leaf e =
        let m : k + suc j ≡ k + 1 + j = omega arith in
        subst (λ (i : ℕ). slice_get all i ≡ Some leaf) m (h (suc j) leaf e)

    first_from : (k : ℕ) (l : PlainLeaf) (rest all : List PlainLeaf) → AreFrom k (l ∷ rest) all → slice_get all k ≡ Some l
    first_from k l rest all h = let m : k + 0 ≡ k = omega arith in subst (λ (i : ℕ). slice_get all i ≡ Some l) m (h 0 l refl)

    initialising_sound : (ty : PlainType) (o k : ℕ) (d : PlainObject) (rest : List PlainLeaf) (es : PlainExprs) (s : State)
        → slice_get program.objects o ≡ Some d → AreFrom k rest (leaves_of_type program.structs d.ty)
        → AreLeafValues program io_table f rest es → ValidExprs program io_table f es → RowCalls May es → IsTypedState program s
        → IsSound program invalid (IsExitOf program ty) (initialising w calls o k es s)
    initialising_sound ty o k d [] last_expr s e r a v p h = sound program invalid at_end s tt h
    initialising_sound ty o k d [] (next_expr x es) s e r a v p h = absurd a
    initialising_sound ty o k d (l ∷ rest) last_expr s e r a v p h = absurd a
    initialising_sound ty o k d (l ∷ rest) (next_expr x es) s e r a v p h =
        sound_next program invalid (values_sound x (worked (leaf_words x) s) v.0 p.0 h) (λ z t q m.
        sound_next program invalid (initialised_sound program invalid o k d l z t e
        (first_from k l rest (leaves_of_type program.structs d.ty) r) (subst (λ (u : PlainType). HasType program u z) a.0 q) m)
        (λ y u c n.
        initialising_sound ty o (k + 1) d rest es u e (from_next k l rest (leaves_of_type program.structs d.ty) r) a.1 v.1 p.1 n))

    declared_sound : (ty : PlainType) (o : ℕ) (values : PlainExprs) (s : State)
        → IsSomeAnd (slice_get program.objects o) (IsDeclared program io_table f values)
        → ValidExprs program io_table f values → RowCalls May values → IsTypedState program s
        → IsSound program invalid (IsExitOf program ty) (initialising w calls o 0 values (begun program o s))
    declared_sound ty o values s c v p h =
        let d = some_and (slice_get program.objects o) (IsDeclared program io_table f values) c in
        let b : IsTypedState program (begun program o s) = begun_typed program o d.0 s d.1 h in
        ⊎_elim
        (λ e. subst (λ (z : PlainExprs). IsSound program invalid (IsExitOf program ty) (initialising w calls o 0 z (begun program o s)))
        (sym e) (sound program invalid at_end (begun program o s) tt b))
        (λ a. initialising_sound ty o 0 d.0 (leaves_of_type program.structs d.0.ty) values (begun program o s) d.1
        (λ j leaf e. subst (λ (i : ℕ). slice_get (leaves_of_type program.structs d.0.ty) i ≡ Some leaf) (sym (zero-add j)) e) a v p b) d.2.1

    in_order_sound : (ty : PlainType) (x : Exit) (s : State) (go : State → Outcome Exit) → IsExitOf program ty x → IsTypedState program s
        → IsSound program invalid (IsExitOf program ty) (go s) → IsSound program invalid (IsExitOf program ty) (in_order x s go)
    in_order_sound ty at_end s go q h r = r
    in_order_sound ty by_break s go q h r = sound program invalid by_break s tt h
    in_order_sound ty by_continue s go q h r = sound program invalid by_continue s tt h
    in_order_sound ty (by_return v) s go q h r = sound program invalid (by_return v) s q h

    again_sound : (ty : PlainType) (x : Exit) (s : State) (go : State → Outcome Exit) → IsExitOf program ty x → IsTypedState program s
        → IsSound program invalid (IsExitOf program ty) (go s) → IsSound program invalid (IsExitOf program ty) (again x s go)
    again_sound ty at_end s go q h r = r
    again_sound ty by_break s go q h r = sound program invalid at_end s tt h
    again_sound ty by_continue s go q h r = r
    again_sound ty (by_return v) s go q h r = sound program invalid (by_return v) s q h

    tested_sound : (ty : PlainType) {o : Outcome Bool} {go : State → Outcome Exit} → IsSound program invalid (λ b. ⊤) o
        → ((t : State) → IsTypedState program t → IsSound program invalid (IsExitOf program ty) (go t))
        → IsSound program invalid (IsExitOf program ty) (tested o go)
    tested_sound ty r h =
        sound_next program invalid r (λ b t q k. sound_choose program invalid b _ _ t (h t k) (sound program invalid at_end _ tt k))

    turns_sound : (ty : PlainType) (n : ℕ) (body : State → Outcome Exit) (test : State → Outcome Bool)
        → ((t : State) → IsTypedState program t → IsSound program invalid (IsExitOf program ty) (body t))
        → ((t : State) → IsTypedState program t → IsSound program invalid (λ b. ⊤) (test t)) → (s : State) → IsTypedState program s
        → IsSound program invalid (IsExitOf program ty) (turns n body test s)
    turns_sound ty zero body test b t s h = record { is = tt; met = tt }
    turns_sound ty (suc n) body test b t s h =
        sound_next program invalid (b (worked loop_words s) h)
        (λ x u q k. again_sound ty x u _ q k (tested_sound ty (t u k) (λ r l. turns_sound ty n body test b t r l)))

    ending_sound : (ty : PlainType) (os : List ℕ) {o : Outcome Exit} → IsSound program invalid (IsExitOf program ty) o
        → IsSound program invalid (IsExitOf program ty) (ending os o)
    ending_sound ty os r =
        sound_next program invalid r (λ x t q k. sound program invalid x (all_ended os t) q (all_ended_typed program os t k))

    -- ---- statements

    module _ (n : ℕ) (ty : PlainType) where
      mutual
        pub effects_sound : (in_loop : Bool) (a : PlainStmt) (s : State) → ValidStmt program io_table f ty in_loop a → StmtCalls May a
            → IsTypedState program s → IsSound program invalid (IsExitOf program ty) (effect_of w calls n a s)
        effects_sound in_loop (statement unit at kind) s v o h = kinds_sound in_loop kind s v o h

        kinds_sound : (in_loop : Bool) (kind : PlainKind) (s : State) → ValidKind program io_table f ty in_loop kind → KindCalls May kind
            → IsTypedState program s → IsSound program invalid (IsExitOf program ty) (kind_effect w calls n kind s)
        kinds_sound in_loop empty s v o h = sound program invalid at_end s tt h
        kinds_sound in_loop (evaluate e) s v o h = evaluated_sound {P = IsExitOf program ty} (Some e) s tt v o h
        kinds_sound in_loop (block ss) s v o h = ending_sound ty (declared ss) (blocks_sound in_loop ss s v o h)
        kinds_sound in_loop (declare x values) s v o h = declared_sound ty x values s v.0 v.1 o h
        kinds_sound in_loop (branch c x y) s v o h =
            sound_next program invalid (test_sound (Some c) (worked branch_words s) v.0 o.0 h)
            (λ b t q k. sound_choose program invalid b _ _ t (effects_sound in_loop x t v.1 o.1 k) (optional_sound in_loop y t v.2 o.2 k))
        kinds_sound in_loop (while_loop c body) s v o h =
            tested_sound ty (test_sound (Some c) s v.0 o.0 h)
            (λ t k. turns_sound ty n _ _ (λ u l. effects_sound true body u v.1 o.1 l) (λ u l. test_sound (Some c) u v.0 o.0 l) t k)
        kinds_sound in_loop (do_loop body c) s v o h =
            turns_sound ty n _ _ (λ u l. effects_sound true body u v.0 o.0 l) (λ u l. test_sound (Some c) u v.1 o.1 l) s h
        kinds_sound in_loop (for_loop first c last body) s v o h =
            ending_sound ty (declared_first first) (sound_next program invalid (firsts_sound in_loop first s v.0 o.0 h)
            (λ x t q k. in_order_sound ty x t _ q k (tested_sound ty (test_sound c t v.1 o.1 k) (λ u l.
            turns_sound ty n _ _ (λ z m. effects_sound true body z v.3 o.3 m) (λ z m. going_on_sound last c z v.2 o.2 v.1 o.1 m) u l))))
        kinds_sound in_loop break_loop s v o h = sound program invalid by_break _ tt h
        kinds_sound in_loop continue_loop s v o h = sound program invalid by_continue _ tt h
        kinds_sound in_loop (return_value e) s v o h = returned_sound ty e _ v.0 v.1 o h

        optional_sound : (in_loop : Bool) (a : OptionPlainStmt) (s : State) → ValidOptionStmt program io_table f ty in_loop a
            → OptionStmtCalls May a → IsTypedState program s → IsSound program invalid (IsExitOf program ty) (option_effect w calls n a s)
        optional_sound in_loop no_stmt s v o h = sound program invalid at_end s tt h
        optional_sound in_loop (a_stmt a) s v o h = effects_sound in_loop a s v o h

        pub firsts_sound : (in_loop : Bool) (a : OptionPlainStmt) (s : State) → ValidOptionStmt program io_table f ty in_loop a
            → OptionStmtCalls May a → IsTypedState program s → IsSound program invalid (IsExitOf program ty) (first_effect w calls n a s)
        firsts_sound in_loop no_stmt s v o h = sound program invalid at_end s tt h
        firsts_sound in_loop (a_stmt (statement unit at (block ss))) s v o h = blocks_sound in_loop ss s v o h
        firsts_sound in_loop (a_stmt (statement unit at empty)) s v o h = kinds_sound in_loop empty s v o h
        firsts_sound in_loop (a_stmt (statement unit at (evaluate e))) s v o h = kinds_sound in_loop (evaluate e) s v o h
        firsts_sound in_loop (a_stmt (statement unit at (declare x values))) s v o h = kinds_sound in_loop (declare x values) s v o h
        firsts_sound in_loop (a_stmt (statement unit at (branch c x y))) s v o h = kinds_sound in_loop (branch c x y) s v o h
        firsts_sound in_loop (a_stmt (statement unit at (while_loop c body))) s v o h = kinds_sound in_loop (while_loop c body) s v o h
        firsts_sound in_loop (a_stmt (statement unit at (do_loop body c))) s v o h = kinds_sound in_loop (do_loop body c) s v o h
        firsts_sound in_loop (a_stmt (statement unit at (for_loop first c last body))) s v o h =
            kinds_sound in_loop (for_loop first c last body) s v o h
        firsts_sound in_loop (a_stmt (statement unit at break_loop)) s v o h = kinds_sound in_loop break_loop s v o h
        firsts_sound in_loop (a_stmt (statement unit at continue_loop)) s v o h = kinds_sound in_loop continue_loop s v o h
        firsts_sound in_loop (a_stmt (statement unit at (return_value e))) s v o h = kinds_sound in_loop (return_value e) s v o h

        blocks_sound : (in_loop : Bool) (ss : PlainStmts) (s : State) → ValidStmts program io_table f ty in_loop ss → StmtRowCalls May ss
            → IsTypedState program s → IsSound program invalid (IsExitOf program ty) (effects_of w calls n ss s)
        blocks_sound in_loop last_stmt s v o h = sound program invalid at_end s tt h
        blocks_sound in_loop (next_stmt a ss) s v o h = sound_next program invalid (effects_sound in_loop a s v.0 o.0 h)
            (λ x t q k. in_order_sound ty x t _ q k (blocks_sound in_loop ss t v.1 o.1 k))

  -- ---- functions

  parameters_sound : (g : ℕ) (os : List ℕ) (xs : List Value) (s : State)
      → AllByRecursion (λ o. IsSomeAnd (slice_get program.objects o) (λ x. x.storage ≡ param g)) os → AreArgumentValues program os xs
      → IsTypedState program s → IsSound program invalid (λ x. ⊤) (parameters_written w os xs s)
  parameters_sound g [] xs s p a h = sound program invalid void_value s tt h
  parameters_sound g (o ∷ os) [] s p a h = absurd a
  parameters_sound g (o ∷ os) (x ∷ xs) s p a h =
      let d = some_and (slice_get program.objects o) (λ z. z.storage ≡ param g) p.0 in
      let t : HasType program d.0.ty x = subst (λ (z : Option PlainObject). IsSomeAnd z (λ y. HasType program y.ty x)) d.1 a.0 in
      let c : IsStored program d.0 (param g) = subst (λ (z : PlainStorage). IsStored program d.0 z) d.2 (object_of o d.0 d.1).storage in
      sound_next program invalid (initialised_sound program invalid o 0 d.0 (record { ty = d.0.ty; at = 0 }) x (begun program o s) d.1
      (scalar_leaf program invalid d.0.ty c.2) t (begun_typed program o d.0 s d.1 h)) (λ y u q k. parameters_sound g os xs u p.1 a.1 k)

  as_zero : (ty : PlainType) (s : State) → ty ≡ int → IsTypedState program s
      → IsSound program invalid (HasType program ty) (got (Number (pos 0)) s)
  as_zero ty s e h = sound program invalid (Number (pos 0)) s
      (subst (λ (z : PlainType). HasType program z (Number (pos 0))) (sym e) (int_value program false)) h

  unreturned_sound : (ty : PlainType) (main : Bool) (s : State) → (main ≡ true → ty ≡ int) → IsTypedState program s
      → IsSound program invalid (HasType program ty) (unreturned ty main s)
  unreturned_sound void main s e h = sound program invalid void_value s tt h
  unreturned_sound (integer g b) true s e h = let f : (integer g b) ≡ int = e refl in as_zero (integer g b) s f h
  unreturned_sound (integer g b) false s e h = no_value program invalid NoResult s tt
  unreturned_sound (fixed c z) true s e h = let f : (fixed c z) ≡ int = e refl in as_zero (fixed c z) s f h
  unreturned_sound (fixed c z) false s e h = no_value program invalid NoResult s tt
  unreturned_sound (pointer l c t) true s e h = let f : (pointer l c t) ≡ int = e refl in as_zero (pointer l c t) s f h
  unreturned_sound (pointer l c t) false s e h = no_value program invalid NoResult s tt
  unreturned_sound (array t m) true s e h = let f : (array t m) ≡ int = e refl in as_zero (array t m) s f h
  unreturned_sound (array t m) false s e h = no_value program invalid NoResult s tt
  unreturned_sound (struct i) true s e h = let f : (struct i) ≡ int = e refl in as_zero (struct i) s f h
  unreturned_sound (struct i) false s e h = no_value program invalid NoResult s tt

  result_sound : (ty : PlainType) (main : Bool) (x : Exit) (s : State) → (main ≡ true → ty ≡ int) → IsExitOf program ty x
      → IsTypedState program s → IsSound program invalid (HasType program ty) (call_result ty main x s)
  result_sound ty main at_end s e q h = unreturned_sound ty main s e h
  result_sound ty main by_break s e q h = unreturned_sound ty main s e h
  result_sound ty main by_continue s e q h = unreturned_sound ty main s e h
  result_sound ty main (by_return None) s e q h = unreturned_sound ty main s e h
  result_sound ty main (by_return (Some x)) s e q h = sound program invalid x s q h

  function_of : (g : ℕ) (f : PlainFunction) → slice_get program.functions g ≡ Some f → IsFunction program io_table g f
  function_of g f e = subst (λ (i : ℕ). IsFunction program io_table i f) (zero-add g)
      (from_at 0 (IsFunction program io_table) program.functions g f valid.functions e)

  -- main gives an int
  main_int : (g : ℕ) (f : PlainFunction) → slice_get program.functions g ≡ Some f → (g == program.main) ≡ true → f.returns ≡ int
  main_int g f e m =
      let n : g ≡ program.main = eqb-true g program.main m in
      let c = some_and (slice_get program.functions program.main) (λ z. (z.params ≡ []) × (z.returns ≡ int)) valid.main in
      let d : f ≡ c.0 =
      same (slice_get program.functions program.main) f c.0 (subst (λ (i : ℕ). slice_get program.functions i ≡ Some f) n e) c.1 in
      subst (λ (z : PlainFunction). z.returns ≡ int) (sym d) c.2.1
    where
      same : (z : Option PlainFunction) (a b : PlainFunction) → z ≡ Some a → z ≡ Some b → a ≡ b
      same z a b p q = cc

  body_sound : (calls : Calls) (May : ℕ → Type 0) → KeepTypes May calls → (n g : ℕ) (f : PlainFunction) (xs : List Value) (s : State)
      → StmtCalls May f.body → slice_get program.functions g ≡ Some f → AreArgumentValues program f.params xs → IsTypedState program s
      → IsSound program invalid (HasType program f.returns) (call_of w calls n g (Some f) xs s)
  body_sound calls May keep n g f xs s o e a h =
      let v : IsFunction program io_table g f = function_of g f e in
      sound_next program invalid (parameters_sound g f.params xs (worked function_words s) v.params a h)
      (λ y t q k. sound_next program invalid (effects_sound calls May keep g n f.returns false f.body t v.body o k) (λ x u r l.
      result_sound f.returns (g == program.main) x (frame_ended program g u) (main_int g f e) r (frame_ended_typed program g u l)))

  pub calls_sound : (n depth : ℕ) → KeepTypes (Fits program invalid depth) (calls_within w n depth)
  calls_sound n zero g f xs s o e a h = met_invalid program invalid s (o f e)
  calls_sound n (suc depth) g f xs s o e a h =
      subst (λ (z : Option PlainFunction).
      IsSound program invalid (HasType program f.returns) (call_of w (calls_within w n depth) n g z xs s)) (sym e)
      (body_sound (calls_within w n depth) (Fits program invalid depth) (calls_sound n depth) n g f xs s (o f e) e a h)

  -- ---- the beginning

  initial_typed : (ty : PlainType) (init : LeafInit) → IsInitialValue program ty init → HasType program ty (initial_value init)
  initial_typed void (TheNumber j) h =
      let a = some_and (arithmetic_of void) (λ t. HoldsNumber t j) h in
      type_of_number program void a.0 j a.1 a.2
  initial_typed void TheNull h = tt
  initial_typed void (Address o offset) h = tt
  initial_typed (integer g b) (TheNumber j) h =
      let a = some_and (arithmetic_of (integer g b)) (λ t. HoldsNumber t j) h in
      type_of_number program (integer g b) a.0 j a.1 a.2
  initial_typed (integer g b) TheNull h = absurd h
  initial_typed (integer g b) (Address o offset) h = absurd h
  initial_typed (fixed c z) (TheNumber j) h =
      let a = some_and (arithmetic_of (fixed c z)) (λ t. HoldsNumber t j) h in
      type_of_number program (fixed c z) a.0 j a.1 a.2
  initial_typed (fixed c z) TheNull h = absurd h
  initial_typed (fixed c z) (Address o offset) h = absurd h
  initial_typed (pointer l k t) (TheNumber j) h =
      let a = some_and (arithmetic_of (pointer l k t)) (λ t. HoldsNumber t j) h in
      type_of_number program (pointer l k t) a.0 j a.1 a.2
  initial_typed (pointer l k t) TheNull h = tt
  initial_typed (pointer l k t) (Address o offset) h =
      let d = some_and (slice_get program.objects o) _ h in
      subst (λ (y : Option PlainObject). IsSomeAnd y (λ x. IsTrue (holds l x.home) × (offset ≤ size_of_type program.structs x.ty)))
      (sym d.1) (d.2.1, d.2.2)
  initial_typed (array t m) (TheNumber j) h =
      let a = some_and (arithmetic_of (array t m)) (λ t. HoldsNumber t j) h in
      type_of_number program (array t m) a.0 j a.1 a.2
  initial_typed (array t m) TheNull h = absurd h
  initial_typed (array t m) (Address o offset) h = absurd h
  initial_typed (struct i) (TheNumber j) h =
      let a = some_and (arithmetic_of (struct i)) (λ t. HoldsNumber t j) h in
      type_of_number program (struct i) a.0 j a.1 a.2
  initial_typed (struct i) TheNull h = absurd h
  initial_typed (struct i) (Address o offset) h = absurd h

  inits_typed : (ls : List PlainLeaf) (inits : List LeafInit) → AreInitialValues program ls inits
      → AreLeafStates program ls (map (λ init. Some (initial_value init)) inits)
  inits_typed [] [] h = tt
  inits_typed [] (i ∷ is) h = absurd h
  inits_typed (l ∷ ls) [] h = absurd h
  inits_typed (l ∷ ls) (i ∷ is) h = (initial_typed l.ty i h.0, inits_typed ls is h.1)

  storage_typed : (d : PlainObject) (storage : PlainStorage) → IsStored program d storage
      → AreLeafStates program (leaves_of_type program.structs d.ty) (initial_object (leaf_count program d.ty) storage).leaves
  storage_typed d (static inits) h = inits_typed (leaves_of_type program.structs d.ty) inits h
  storage_typed d (local f) h = leaves_unset program (leaves_of_type program.structs d.ty)
  storage_typed d (param f) h = leaves_unset program (leaves_of_type program.structs d.ty)
  storage_typed d (register r) h = leaves_unset program (leaves_of_type program.structs d.ty)

  objects_typed : (os : List PlainObject) → AllByRecursion (IsObject program) os
      → AreObjectStates program os (map (λ o. initial_object (leaf_count program o.ty) o.storage) os)
  objects_typed [] h = tt
  objects_typed (o ∷ os) h = (storage_typed o o.storage h.0.storage, objects_typed os h.1)

  pub run_sound : Fits program invalid (length program.functions) program.main → (n : ℕ)
      → IsSound program invalid (HasType program int) (run program (plain_table io_table) inputs n)
  run_sound fits n =
      let c = some_and (slice_get program.functions program.main) (λ z. (z.params ≡ []) × (z.returns ≡ int)) valid.main in
      let a : AreArgumentValues program c.0.params [] = subst (λ (z : List ℕ). AreArgumentValues program z []) (sym c.2.0) tt in
      as_type program invalid c.0.returns int c.2.1 (calls_sound n (length program.functions) program.main c.0 []
      (initial_state program (plain_table io_table)) fits c.1 a (objects_typed program.objects valid.objects))

any : {A : Type 0} (program : PlainProgram) {P : A → Type 0} {o : Outcome A} → IsSound program ⊤ P o → IsSound program ⊤ IsAny o
any program h = sound_as program ⊤ (λ x p. tt) h

states_stay : (program : PlainProgram) → StatesStayTyped program
states_stay program = record {
  read = λ ty space to s h. (read_sound program ⊤ ty space to s h).is;
  write = λ ty space to v s t h. (write_sound program ⊤ ty space to v s t h).is;
  initialised = λ o k d leaf v s e l t h. (initialised_sound program ⊤ o k d leaf v s e l t h).is;
  begun = λ o s h. begun_kept program o s h;
}

-- where what no valid program has may be met, calls may nest as deep as they do
pub types_are_kept : TypesAreKept
types_are_kept program io_table inputs valid bytes =
    let calls : (n depth : ℕ) → Calls = calls_within (setting program (plain_table io_table) inputs) in
    let May : ℕ → ℕ → Type 0 = Fits program ⊤ in
    let keep = calls_sound program ⊤ io_table valid inputs bytes in
    let fit : (depth g : ℕ) → May depth g = any_fits program in
    record {
      states = states_stay program;
      initial = objects_typed program ⊤ io_table valid inputs bytes program.objects valid.objects;
      expressions = λ n depth f e s v h. (values_sound program ⊤ io_table valid inputs bytes (calls n depth) (May depth)
          (keep n depth) f e s v (any_expr (May depth) (fit depth) e) h).is;
      places = λ n depth f p s v h. (places_sound program ⊤ io_table valid inputs bytes (calls n depth) (May depth) (keep n depth) f p s v
          (any_place (May depth) (fit depth) p) (inr tt) h).is;
      arguments = λ n depth f params es s a v h. (rows_sound program ⊤ io_table valid inputs bytes (calls n depth) (May depth)
          (keep n depth) f params es s a v (any_row (May depth) (fit depth) es) h).is;
      statements = λ n depth f returns in_loop a s v h. (effects_sound program ⊤ io_table valid inputs bytes (calls n depth) (May depth)
          (keep n depth) f n returns in_loop a s v (any_stmt (May depth) (fit depth) a) h).is;
      first_parts = λ n depth f returns in_loop a s v h. (firsts_sound program ⊤ io_table valid inputs bytes (calls n depth) (May depth)
          (keep n depth) f n returns in_loop a s v (any_option_stmt (May depth) (fit depth) a) h).is;
      functions = function_of program ⊤ io_table valid inputs bytes;
      parameters = λ g f xs s e a h. (any program (parameters_sound program ⊤ io_table valid inputs bytes g f.params xs s
          (function_of program ⊤ io_table valid inputs bytes g f e).params a h)).is;
      result = λ n. (run_sound program ⊤ io_table valid inputs bytes (any_fits program (length program.functions) program.main) n).is;
    }
