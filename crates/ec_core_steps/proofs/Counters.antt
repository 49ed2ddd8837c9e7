-- The parts of a counted loop: what its first part, its condition and its last part do to the counter.
use Rattle.std.proofs.Common.{◌≡◌, ℕ, Bool, true, false, ◌&&◌, List, [], ◌∷◌, Option, Some, None, Result, Ok, Err}
use Rattle.std.proofs.Common.{refl, sym, subst, ap, ◌∙◌, arith, ℤ, pos, ◌+ℤ◌, ◌-ℤ◌, ◌*ℤ◌, eqb-true}
use Rattle.std.specs.Prelude.{◌==◌, if◌then◌else◌, slice_get, option_map, option_and_then, int_lt}
use Rattle.std.specs.Ordering.{int_cmp}
use Rattle.std.proofs.lemmas.Int.{ints}
use Rattle.ec_fx.specs.declared.numbers.Mode.{Mode}
use Rattle.ec_iohw.specs.declared.table.IoTable.{IoTable}
use Rattle.ec_space.specs.declared.space.SpaceId.{SpaceId}
use Rattle.ec_space.specs.Spaces.{holds}
use Rattle.ec_fx.specs.declared.numbers.Num.TheVariants.{Whole}
use Rattle.ec_core.specs.declared.expressions.BinOp.{BinOp}
use Rattle.ec_core.specs.declared.expressions.BinOp.TheVariants.{Add, Sub, Lt, Gt, Le, Ge}
use Rattle.ec_core.specs.declared.values.Undefined.{Undefined}
use Rattle.ec_core.specs.declared.values.Undefined.TheVariants.{Unset, ConstWrite}
use Rattle.ec_core.specs.declared.values.Value.{Value}
use Rattle.ec_core.specs.declared.values.Value.TheVariants.{Number}
use Rattle.ec_core.specs.Accesses.{operand_of, is_readable, Access, leaf_at, access, recorded, leaf_of, read_value, read}
use Rattle.ec_core.specs.Accesses.{with_leaf, stored, is_fixed, write, own_access, first_write, initialised}
use Rattle.ec_core.specs.ArithmeticValues.{arithmetic_value}
use Rattle.ec_core.specs.Expressions.{Calls, Update as PlaceUpdate, compound_update, step_update, updated_place, object_place, value_of}
use Rattle.ec_core.specs.Expressions.{place_of, accessed}
use Rattle.ec_core.specs.Integers.{truth, accepts, wrapped}
use Rattle.ec_core.specs.Operators.{as_number, number_type, truth_result, binary_result, compound_result, compound_value, same_type}
use Rattle.ec_core.specs.Operators.{step_operator}
use Rattle.ec_core.specs.Plain.{PlainType, PlainExpr, expression, load, binary, assign, compound, step, object}
use Rattle.ec_core.specs.Plain.{PlainExprs, last_expr, next_expr, PlainObject, PlainProgram}
use Rattle.ec_core.specs.Pointers.{Pointer as PointerValue}
use Rattle.ec_core.specs.State.{Inputs, Setting, Read, told, ObjectState, State, worked, with_object, changed_at, Outcome, got, more}
use Rattle.ec_core.specs.State.{undefined, next, given}
use Rattle.ec_core.specs.Statements.{test_of, initialising}
use Rattle.ec_core.specs.Typing.{int, type_of_expr, place_type, place_space}
use Rattle.ec_core.specs.Valid.{ValidExpr}
use Rattle.ec_core.specs.Words.{leaf_words}
use Rattle.ec_core.proofs.Growth.{some_if, some_then, some_map, and_true}
use Rattle.ec_core.proofs.Sameness.{type_true}
use Rattle.ec_check_constants.specs.Constants.{constant, IsConstant}
use Rattle.ec_check_constants.specs.Laws.{RunsGiveConstants, TestsTellConstants}
use Rattle.ec_check_constants.specs.Tests.{is_constant}
use Rattle.ec_core_steps.specs.declared.counted.Operands.{Operands}
use Rattle.ec_core_steps.specs.declared.counted.Update.{Update}
use Rattle.ec_core_steps.specs.Counted.{distance, leads_to, is_step, signed_step, if_defined, int_constant, loaded}
use Rattle.ec_core_steps.specs.Counted.{operands_of, update_by, update_of, assigned, initialiser}
use Rattle.ec_core_steps.proofs.Relation.{changed_here, OnGot, recorded_objects}
use Rattle.ec_core_steps.proofs.Values.{OnObject}
use Rattle.ec_core_steps.proofs.Accesses.{found}
use Rattle.ec_core_steps.proofs.Expressions.{w}
use Rattle.ec_core_steps.proofs.Turns.{is_met, IsInt, int_type, wrapped_same, truth_same}

-- a value of type int that an expression is
record IsIntConstant (e : PlainExpr) (n : ℤ) : Type 0 where
  ty : type_of_expr e ≡ int
  is : IsConstant e
  value : constant e ≡ Ok n

defined_value : (r : Result ℤ Undefined) (n : ℤ) → if_defined r ≡ Some n → r ≡ Ok n
defined_value (Ok m) n e = let same : m ≡ n = cc in ap (λ z. Ok z) same
defined_value (Err point) n e = cc

is_int_constant : (tells : TestsTellConstants) (e : PlainExpr) (n : ℤ) → int_constant e ≡ Some n → IsIntConstant e n
is_int_constant tells e n h =
    let c = some_if (same_type (type_of_expr e) int && is_constant e) _ n h in
    let b = and_true (same_type (type_of_expr e) int) (is_constant e) c.0 in
    record { ty = type_true _ _ b.0; is = tells.sound e b.1; value = defined_value (constant e) n c.1 }

record IsLoaded (e : PlainExpr) (o : ℕ) : Type 0 where
  ty : PlainType
  mode : Mode
  is : e ≡ expression ty mode (load (object o))

is_loaded : (e : PlainExpr) (o : ℕ) → loaded e ≡ Some o → IsLoaded e o
is_loaded (expression ty mode (load (object q))) o h =
    let same : q ≡ o = cc in
    record { ty = ty; mode = mode; is = ap (λ z. expression ty mode (load (object z))) same }
is_loaded e o h = cc

record IsOperation (e : PlainExpr) (k : Operands) : Type 0 where
  ty : PlainType
  mode : Mode
  left : PlainExpr
  right : PlainExpr
  is : e ≡ expression ty mode (binary k.op left right)
  loads : loaded left ≡ Some k.object
  value : int_constant right ≡ Some k.value

is_operation : (e : PlainExpr) (k : Operands) → operands_of e ≡ Some k → IsOperation e k
is_operation (expression ty mode (binary op a b)) k h =
    let c = some_then (loaded a) _ k h in
    let d = some_map (int_constant b) _ k c.2 in
    subst (λ (z : Operands). IsOperation (expression ty mode (binary op a b)) z) d.2
    (record { ty = ty; mode = mode; left = a; right = b; is = refl; loads = c.1; value = d.1 })
is_operation e k h = cc

-- a signed step is what is added
data IsSigned (n : ℤ) : BinOp → ℤ → Type 0 where
  plus : IsSigned n Add n
  minus : IsSigned n Sub (pos 0 -ℤ n)

record IsSignedStep (op : BinOp) (n d : ℤ) : Type 0 where
  small : IsInt n
  is : IsSigned n op d

step_small : (n : ℤ) → is_step n ≡ true → IsInt n
step_small n e = record { low = grind (arith, ints, e); high = grind (arith, ints, e) }

signed_is : (op : BinOp) (n d : ℤ) → signed_step op n ≡ Some d → IsSignedStep op n d
signed_is Add n d e =
    let c = some_if (is_step n) (Some n) d e in
    let same : n ≡ d = cc in
    record { small = step_small n c.0; is = subst (IsSigned n Add) same plus }
signed_is Sub n d e =
    let c = some_if (is_step n) (Some (pos 0 -ℤ n)) d e in
    let same : pos 0 -ℤ n ≡ d = cc in
    record { small = step_small n c.0; is = subst (IsSigned n Sub) same minus }
signed_is op n d e = cc

minus_is : (v n : ℤ) → v -ℤ n ≡ v +ℤ (pos 0 -ℤ n)
minus_is v n = omega (arith, ints)

wrapped_twice : (m n : ℤ) → m ≡ n → IsInt n → wrapped int_type (wrapped int_type m) ≡ n
wrapped_twice m n e h = ap (λ z. wrapped int_type (wrapped int_type z)) e ∙ ap (wrapped int_type) (wrapped_same n h) ∙ wrapped_same n h

sum_is : (op : BinOp) (mode : Mode) (v n d : ℤ) → IsSigned n op d → IsInt (v +ℤ d)
    → arithmetic_value op (number_type int) mode (Whole v) (Whole n) ≡ Ok (v +ℤ d)
sum_is _ mode v n _ plus fits = ap (λ z. Ok z) (wrapped_same (v +ℤ n) fits)
sum_is _ mode v n _ minus fits =
    ap (λ z. Ok (wrapped int_type z)) (minus_is v n) ∙ ap (λ z. Ok z) (wrapped_same (v +ℤ (pos 0 -ℤ n)) fits)

compound_sum : (op : BinOp) (mode own : Mode) (v n d : ℤ) → IsSigned n op d → IsInt v → IsInt n → IsInt (v +ℤ d)
    → compound_value op mode own (number_type int) v (number_type int) n ≡ Ok (v +ℤ d)
compound_sum _ mode own v n _ plus hv hn fits =
    ap (λ z. Ok (wrapped int_type (wrapped int_type (z +ℤ wrapped int_type n)))) (wrapped_same v hv)
    ∙ ap (λ z. Ok (wrapped int_type (wrapped int_type (v +ℤ z)))) (wrapped_same n hn)
    ∙ ap (λ z. Ok z) (wrapped_twice (v +ℤ n) (v +ℤ n) refl fits)
compound_sum _ mode own v n _ minus hv hn fits =
    ap (λ z. Ok (wrapped int_type (wrapped int_type (z -ℤ wrapped int_type n)))) (wrapped_same v hv)
    ∙ ap (λ z. Ok (wrapped int_type (wrapped int_type (v -ℤ z)))) (wrapped_same n hn)
    ∙ ap (λ z. Ok z) (wrapped_twice (v -ℤ n) (v +ℤ (pos 0 -ℤ n)) (minus_is v n) fits)

-- a fact of the value that comes of a part, if one comes
pub record Gives (p : PlainProgram) {X : Type 0} (Q : X → State → Type 0) (o : Outcome X) : Type 0 where
  pub is : OnGot p Q o

-- ---- a local of type int

module _ (p : PlainProgram) (table : IoTable) (inputs : Inputs) (calls : Calls) (gives : RunsGiveConstants) (tells : TestsTellConstants)
    (i : ℕ) (x : PlainObject) (is : slice_get p.objects i ≡ Some x) (int_is : x.ty ≡ int) where
  abbrev w1 : Setting
  w1 = w p table inputs

  got_next : {X Y : Type 0} {P : X → State → Type 0} {Q : Y → State → Type 0} (o : Outcome X) (go : X → State → Outcome Y) → Gives p P o
      → ((z : X) (t : State) → P z t → Gives p Q (go z t)) → Gives p Q (next o go)
  got_next (got z t) go h k = k z t h.is
  got_next (more t) go h k = record { is = tt }
  got_next (undefined point t) go h k = record { is = tt }

  -- where it is set, its value is this
  abbrev pub At : ℤ → State → Type 0
  At v t = (y : ObjectState) (u : Value) → slice_get t.objects i ≡ Some y → leaf_of y 0 ≡ Some u → u ≡ Number v

  pub at_kept : (v : ℤ) (s t : State) → slice_get t.objects i ≡ slice_get s.objects i → At v s → At v t
  at_kept v s t e at y u f l = at y u (sym e ∙ f) l

  abbrev Same : State → State → Type 0
  Same s t = t.objects ≡ s.objects

  at_same : (v : ℤ) (s t : State) → Same s t → At v s → At v t
  at_same v s t e at = at_kept v s t (ap (λ xs. slice_get xs i) e) at

  abbrev Own : PointerValue → Type 0
  Own at = OnObject p (λ o. o ≡ i) at

  place_is : (s : State) → Gives p (λ at t. Own at × Same s t) (place_of w1 calls (object i) s)
  place_is s = by_state (slice_get s.objects i)
    where
      by_state : (y : Option ObjectState) → Gives p (λ at t. Own at × Same s t)
          (object_place (option_map (λ z. record { object = i; instance = z.serial; offset = 0 }) y) s)
      by_state None = record { is = tt }
      by_state (Some y) = record { is = (refl, refl) }

  -- ---- its accesses

  record IsOwn (s : State) (a : Access) : Type 0 where
    object : a.object ≡ i
    state : slice_get s.objects i ≡ Some a.state
    leaf : a.leaf ≡ 0

  leaf_zero : (d : PlainObject) (ty : PlainType) (offset k : ℕ) → d ≡ x → leaf_at p d ty offset ≡ Some k → k ≡ 0
  leaf_zero d ty offset k same e =
      let whole : d.ty ≡ int = ap (λ (z : PlainObject). z.ty) same ∙ int_is in
      let f : leaf_at p (record {
        name = d.name;
        unit = d.unit;
        external = d.external;
        ty = int;
        space = d.space;
        home = d.home;
        const =
            d.const;
        storage = d.storage;
      }) ty offset ≡ Some k
      = subst (λ (z : PlainType). leaf_at p (record {
        name = d.name;
        unit = d.unit;
        external = d.external;
        ty = z;
        space = d.space;
        home
            = d.home;
        const = d.const;
        storage = d.storage;
      }) ty offset ≡ Some k) whole e in
      by_test (0 == offset && same_type int ty) f
    where
      by_test : (c : Bool) → (if c then Some 0 else None) ≡ Some k → k ≡ 0
      by_test true e = cc
      by_test false e = cc

  own_of : (ty : PlainType) (space : Option SpaceId) (at : PointerValue) (s : State) (a : Access) → Own at
      → access p ty space at s ≡ Some a → IsOwn s a
  own_of ty space at s a own e =
      let f = found p ty space at s a e in
      let same : f.q.object ≡ i = subst Own f.pointer own in
      let declared : Some a.declared ≡ Some x = sym f.declared ∙ ap (slice_get p.objects) same ∙ is in
      let whole : a.declared ≡ x = cc in
      record {
        object = f.object ∙ same;
        state = ap (slice_get s.objects) (sym same) ∙ f.state;
        leaf = leaf_zero a.declared ty f.q.offset a.leaf whole f.leaf;
      }

  read_is : (ty : PlainType) (space : Option SpaceId) (at : PointerValue) (v : ℤ) (s : State) → Own at → At v s
      → Gives p (λ u t. (u ≡ Number v) × Same s t) (read p (access p ty space at s) s)
  read_is ty space to v s own at = by_access (access p ty space to s) (λ a e. own_of ty space to s a own e)
    where
      by_leaf : (a : Access) (l : Option Value) → leaf_of a.state a.leaf ≡ l → IsOwn s a
          → Gives p (λ u t. (u ≡ Number v) × Same s t) (read_value p a l s)
      by_leaf a None e o = record { is = tt }
      by_leaf a (Some u) e o = readable (is_readable p u s)
        where
          readable : (b : Bool) → Gives p (λ u t. (u ≡ Number v) × Same s t)
              (if b then got u (recorded a.declared.storage (Read a.object a.leaf a.space (told u)) s) else undefined Unset s)
          readable true = record {
            is = (
              at a.state u o.state (ap (leaf_of a.state)
                  (sym o.leaf) ∙ e),
              recorded_objects p a.declared.storage _ s,
            );
          }
          readable false = record { is = tt }

      by_access : (z : Option Access) → ((a : Access) → z ≡ Some a → IsOwn s a)
          → Gives p (λ u t. (u ≡ Number v) × Same s t) (read p z s)
      by_access None f = record { is = tt }
      by_access (Some a) f = by_leaf a (leaf_of a.state a.leaf) refl (f a refl)

  first_leaf : (v u : Value) (ls : List (Option Value)) → option_and_then (λ z. z) (slice_get (changed_at 0 (λ was. Some v) ls) 0) ≡ Some u
      → u ≡ v
  first_leaf v u [] e = cc
  first_leaf v u (l ∷ ls) e = cc

  stored_is : (n : ℤ) (a : Access) (s : State) → a.object ≡ i → a.leaf ≡ 0 → At n (stored a (Number n) s)
  stored_is n a s same first y u e l =
      let f : slice_get (changed_at a.object (with_leaf a.leaf (Number n)) s.objects) i ≡ Some y
      = ap (λ xs. slice_get xs i) (sym (recorded_objects p a.declared.storage _ (with_object a.object (with_leaf a.leaf
      (Number n)) s))) ∙ e in
      let g : slice_get (changed_at i (with_leaf 0 (Number n)) s.objects) i ≡ Some y
      = subst (λ k. slice_get (changed_at i (with_leaf k (Number n)) s.objects) i ≡ Some y) first
      (subst (λ o. slice_get (changed_at o (with_leaf a.leaf (Number n)) s.objects) i ≡ Some y) same f) in
      let c = changed_here i (with_leaf 0 (Number n)) s.objects y g in
      first_leaf (Number n) u c.0.leaves (ap (λ z. leaf_of z 0) (sym c.2) ∙ l)

  write_is : (ty : PlainType) (space : Option SpaceId) (at : PointerValue) (n : ℤ) (s : State) → Own at
      → Gives p (λ u t. At n t) (write (access p ty space at s) (Number n) s)
  write_is ty space to n s own = by_access (access p ty space to s) (λ a e. own_of ty space to s a own e)
    where
      fixed_or : (a : Access) (b : Bool) → IsOwn s a
          → Gives p (λ u t. At n t) (if b then undefined ConstWrite s else got (Number n) (stored a (Number n) s))
      fixed_or a true o = record { is = tt }
      fixed_or a false o = record { is = stored_is n a s o.object o.leaf }

      by_access : (z : Option Access) → ((a : Access) → z ≡ Some a → IsOwn s a) → Gives p (λ u t. At n t) (write z (Number n) s)
      by_access None f = record { is = tt }
      by_access (Some a) f = fixed_or a (is_fixed a.declared) (f a refl)

  -- ---- expressions

  constant_is : (e : PlainExpr) (n : ℤ) (s : State) → IsIntConstant e n
      → Gives p (λ u t. (u ≡ Number n) × Same s t) (value_of w1 calls e s)
  constant_is e n s c =
      let g = gives w1 calls e s c.is in
      subst (λ (o : Outcome Value). Gives p (λ u t. (u ≡ Number n) × Same s t) o)
      (sym (g.1 ∙ ap (λ r. given (as_number r) (worked g.0 s)) c.value)) (record { is = (refl, refl) })

  loaded_is : (ty : PlainType) (mode : Mode) (v : ℤ) (s : State) → At v s
      → Gives p (λ u t. (u ≡ Number v) × Same s t) (value_of w1 calls (expression ty mode (load (object i))) s)
  loaded_is ty mode v s at =
      got_next _ _ (place_is (worked _ s)) (λ to t h.
      carried t _ (read_is ty _ to v t h.0 (at_same v s t h.1 at)) h.1)
    where
      carried : (t : State) (o : Outcome Value) → Gives p (λ u r. (u ≡ Number v) × Same t r) o → Same s t
          → Gives p (λ u r. (u ≡ Number v) × Same s r) o
      carried t (got u r) h e = record { is = (h.is.0, h.is.1 ∙ e) }
      carried t (more r) h e = record { is = tt }
      carried t (undefined point r) h e = record { is = tt }

  place_int : (ty : PlainType) → place_type p (object i) ≡ Some ty → ty ≡ int
  place_int ty e =
      let f : Some x.ty ≡ Some ty = ap (option_map (λ (z : PlainObject). z.ty)) (sym is) ∙ e in
      let g : x.ty ≡ ty = cc in sym g ∙ int_is

  -- what an operation on it and a constant gives
  abbrev IsResult : BinOp → PlainType → ℤ → ℤ → Value → Type 0
  IsResult op ty v n u = (mode : Mode) × (as_number (arithmetic_value op (number_type ty) mode (Whole v) (Whole n)) ≡ Ok u)

  result_of : (op : BinOp) (ty : PlainType) (mode : Mode) (v n : ℤ) (s t : State) (r : Result Value Undefined)
      → r ≡ as_number (arithmetic_value op (number_type ty) mode (Whole v) (Whole n)) → Same s t
      → Gives p (λ u z. IsResult op ty v n u × Same s z) (given r t)
  result_of op ty mode v n s t (Ok u) e same = record { is = ((mode, sym e), same) }
  result_of op ty mode v n s t (Err point) e same = record { is = tt }

  operation_at : (ty : PlainType) (mode : Mode) (op : BinOp) (lty : PlainType) (lmode : Mode) (right : PlainExpr) (n v : ℤ) (s : State)
      → lty ≡ int → IsIntConstant right n → At v s
      → Gives p (λ u z. IsResult op ty v n u × Same s z)
      (value_of w1 calls (expression ty mode (binary op (expression lty lmode (load (object i))) right)) s)
  operation_at ty mode op lty lmode right n v s lint c at =
      got_next _ _ (loaded_is lty lmode v (worked _ s) at) (λ y t h.
      got_next _ _ (constant_is right n t c) (λ z r g.
      result_of op ty mode v n s r (binary_result op ty mode (operand_of p lty y r) (operand_of p (type_of_expr right) z r))
      (rw (h.0, g.0, lint, c.ty) refl) (g.1 ∙ h.1)))

  module _ (f : ℕ) where
    operation_is : (e : PlainExpr) (k : Operands) (v : ℤ) (s : State) → IsOperation e k → k.object ≡ i → ValidExpr p table f e → At v s
        → Gives p (λ u z. IsResult k.op (type_of_expr e) v k.value u × Same s z) (value_of w1 calls e s)
    operation_is e k v s h own valid at =
        let l = is_loaded h.left k.object h.loads in
        let left : h.left ≡ expression l.ty l.mode (load (object i)) = l.is ∙ ap (λ o. expression l.ty l.mode (load (object o))) own in
        let whole : e ≡ expression h.ty h.mode (binary k.op (expression l.ty l.mode (load (object i))) h.right)
        = h.is ∙ ap (λ z. expression h.ty h.mode (binary k.op z h.right)) left in
        let v2 : ValidExpr p table f (expression h.ty h.mode (binary k.op (expression l.ty l.mode (load (object i))) h.right))
        = subst (ValidExpr p table f) whole valid in
        subst (λ z. Gives p (λ u t. IsResult k.op (type_of_expr z) v k.value u × Same s t) (value_of w1 calls z s)) (sym whole)
        (operation_at h.ty h.mode k.op l.ty l.mode h.right k.value v s (place_int l.ty v2.2.0.1.1)
        (is_int_constant tells h.right k.value h.value) at)

    -- ---- the condition

    compared_is : (op : BinOp) (ty : PlainType) (mode : Mode) (v n by : ℤ) (u : Value) → leads_to op by ≡ true
        → as_number (arithmetic_value op (number_type ty) mode (Whole v) (Whole n)) ≡ Ok u
        → u ≡ Number (truth (int_lt (pos 0) (distance op v n)))
    compared_is Lt ty mode v n by u e h =
        let g : Number (truth (accepts Lt (int_cmp (v *ℤ pos 1) (n *ℤ pos 1)))) ≡ u = cc in
        sym g ∙ ap (λ b. Number (truth b)) (is_met Lt v n by e)
    compared_is Le ty mode v n by u e h =
        let g : Number (truth (accepts Le (int_cmp (v *ℤ pos 1) (n *ℤ pos 1)))) ≡ u = cc in
        sym g ∙ ap (λ b. Number (truth b)) (is_met Le v n by e)
    compared_is Gt ty mode v n by u e h =
        let g : Number (truth (accepts Gt (int_cmp (v *ℤ pos 1) (n *ℤ pos 1)))) ≡ u = cc in
        sym g ∙ ap (λ b. Number (truth b)) (is_met Gt v n by e)
    compared_is Ge ty mode v n by u e h =
        let g : Number (truth (accepts Ge (int_cmp (v *ℤ pos 1) (n *ℤ pos 1)))) ≡ u = cc in
        sym g ∙ ap (λ b. Number (truth b)) (is_met Ge v n by e)
    compared_is op ty mode v n by u e h = cc

    truth_is : (e : PlainExpr) (b : Bool) (u : Value) (t : State) → u ≡ Number (truth b)
        → Gives p (λ h z. h ≡ b) (given (truth_result (operand_of p (type_of_expr e) u t)) t)
    truth_is e b u t g = rw g (record { is = truth_same b })

    pub test_is : (e : PlainExpr) (k : Operands) (by v : ℤ) (s : State) → operands_of e ≡ Some k
        → k.object ≡ i → leads_to k.op by ≡ true → ValidExpr p table f e → At v s
        → Gives p (λ h t. h ≡ int_lt (pos 0) (distance k.op v k.value)) (test_of w1 calls (Some e) s)
    test_is e k by v s h own leads valid at =
        got_next _ _ (operation_is e k v s (is_operation e k h) own valid at)
        (λ u t g. truth_is e _ u t (compared_is k.op (type_of_expr e) g.0.0 v k.value by u leads g.0.1))

    -- ---- the last part

    result_is : (op : BinOp) (ty : PlainType) (v n d : ℤ) (u : Value) → IsSigned n op d → IsInt (v +ℤ d) → ty ≡ int → IsResult op ty v n u
        → u ≡ Number (v +ℤ d)
    result_is op ty v n d u signed fits tint r =
        let g : as_number (arithmetic_value op (number_type int) r.0 (Whole v) (Whole n)) ≡ Ok u
        = ap (λ z. as_number (arithmetic_value op (number_type z) r.0 (Whole v) (Whole n))) (sym tint) ∙ r.1 in
        let k : Ok (Number (v +ℤ d)) ≡ Ok u = ap as_number (sym (sum_is op r.0 v n d signed fits)) ∙ g in
        let same : Number (v +ℤ d) ≡ u = cc in
        sym same

    written_is : (ty : PlainType) (space : Option SpaceId) (at : PointerValue) (n : ℤ) (u : Value) (s : State) → u ≡ Number n → Own at
        → Gives p (λ z t. At n t) (write (access p ty space at s) u s)
    written_is ty space at n u s e own =
        subst (λ z. Gives p (λ y t. At n t) (write (access p ty space at s) z s)) (sym e) (write_is ty space at n s own)

    -- the place, its value and the right side, then the write
    updated_is : (u : PlaceUpdate) (at : PointerValue) (right : PlainType) (old y : Value) (v n d : ℤ) (s : State) → u.ty ≡ int
        → right ≡ int
        → IsSigned n u.op d → IsInt v → IsInt n → IsInt (v +ℤ d) → Own at → old ≡ Number v → y ≡ Number n
        → Gives p (λ z t. At (v +ℤ d) t) (updated_place w1 u at old right y s)
    updated_is u at right old y v n d s tint rint signed hv hn fits own e g =
        let r : compound_result u.op u.operation_mode u.write_mode (operand_of p u.ty old s) (operand_of p right y s) ≡ Ok (Number (v +ℤ d))
        = ap (λ z. compound_result u.op u.operation_mode u.write_mode (operand_of p u.ty z s) (operand_of p right y s)) e
        ∙ ap (λ z. compound_result u.op u.operation_mode u.write_mode (operand_of p u.ty (Number v) s) (operand_of p right z s)) g
        ∙ ap (λ z. as_number (compound_value u.op u.operation_mode u.write_mode (number_type z) v (number_type right) n)) tint
        ∙ ap (λ z. as_number (compound_value u.op u.operation_mode u.write_mode (number_type int) v (number_type z) n)) rint
        ∙ ap as_number (compound_sum u.op u.operation_mode u.write_mode v n d signed hv hn fits) in
        got_next {P = λ z t. z ≡ Number (v +ℤ d)} (given (compound_result u.op u.operation_mode u.write_mode (operand_of p u.ty old s)
        (operand_of p right y s)) s) _
        (subst (λ z. Gives p (λ z t. z ≡ Number (v +ℤ d)) (given z s)) (sym r) (record { is = refl }))
        (λ z t h. got_next {P = λ y2 r2. At (v +ℤ d) r2} _ _ (written_is u.ty _ at (v +ℤ d) z t h own) (λ y2 r2 k. record { is = k }))

    own_place : (o : ℕ) → o ≡ i → (s : State) → Gives p (λ at t. Own at × Same s t) (place_of w1 calls (object o) s)
    own_place o e s = subst (λ z. Gives p (λ at t. Own at × Same s t) (place_of w1 calls (object z) s)) (sym e) (place_is s)

    own_read : (o : ℕ) → o ≡ i → (ty : PlainType) (at : PointerValue) (v : ℤ) (s : State) → Own at → At v s
        → Gives p (λ u t. (u ≡ Number v) × Same s t) (read p (accessed w1 ty (object o) at s) s)
    own_read o e ty to v s own at = read_is ty (place_space p (object o)) to v s own at

    own_int : (o : ℕ) → o ≡ i → (ty : PlainType) → place_type p (object o) ≡ Some ty → ty ≡ int
    own_int o e ty h = place_int ty (subst (λ z. place_type p (object z) ≡ Some ty) e h)

    assign_is : (ty : PlainType) (mode : Mode) (o : ℕ) (e : PlainExpr) (k : Operands) (v d : ℤ) (s : State) → o ≡ i → k.object ≡ i
        → IsOperation e k → IsSignedStep k.op k.value d → ValidExpr p table f (expression ty mode (assign (object o) e)) → At v s
        → IsInt (v +ℤ d) → Gives p (λ z t. At (v +ℤ d) t) (value_of w1 calls (expression ty mode (assign (object o) e)) s)
    assign_is ty mode o e k v d s own same h by valid at fits =
        let tint : type_of_expr e ≡ int = valid.1.1 ∙ own_int o own ty valid.1.0.1 in
        got_next _ _ (own_place o own (worked _ s)) (λ to t g.
        got_next _ _ (operation_is e k v t h same valid.2.1 (at_same v s t g.1 at)) (λ u r g2.
        written_is ty _ to (v +ℤ d) u r (result_is k.op (type_of_expr e) v k.value d u by.is fits tint g2.0) g.0))

    compound_is : (ty : PlainType) (mode : Mode) (op : BinOp) (operation_mode : Mode) (o : ℕ) (e : PlainExpr) (v n d : ℤ) (s : State)
        → o ≡ i
        → int_constant e ≡ Some n → IsSignedStep op n d → ValidExpr p table f (expression ty mode (compound op operation_mode (object o) e))
        → At v s → IsInt v → IsInt (v +ℤ d)
        → Gives p (λ z t. At (v +ℤ d) t) (value_of w1 calls (expression ty mode (compound op operation_mode (object o) e)) s)
    compound_is ty mode op operation_mode o e v n d s own h by valid at hv fits =
        let tint : ty ≡ int = own_int o own ty valid.1.0.1 in
        let c = is_int_constant tells e n h in
        got_next _ _ (own_place o own (worked _ s)) (λ to t g.
        got_next _ _ (own_read o own ty to v t g.0 (at_same v s t g.1 at)) (λ old t2 g2.
        got_next _ _ (constant_is e n t2 c) (λ y t3 g3.
        updated_is (compound_update op operation_mode ty mode (object o)) to
        (type_of_expr e) old y v n d t3 tint c.ty by.is hv by.small fits g.0
        g2.0 g3.0)))

    step_is : (ty : PlainType) (mode : Mode) (up prefix : Bool) (o : ℕ) (v d : ℤ) (s : State) → o ≡ i
        → IsSignedStep (step_operator up) (pos 1) d
        → ValidExpr p table f (expression ty mode (step up prefix (object o))) → At v s → IsInt v → IsInt (v +ℤ d)
        → Gives p (λ z t. At (v +ℤ d) t) (value_of w1 calls (expression ty mode (step up prefix (object o))) s)
    step_is ty mode up prefix o v d s own by valid at hv fits =
        let tint : ty ≡ int = own_int o own ty valid.1.1 in
        got_next _ _ (own_place o own (worked _ s)) (λ to t g.
        got_next _ _ (own_read o own ty to v t g.0 (at_same v s t g.1 at)) (λ old t2 g2.
        updated_is (step_update up ty mode prefix (object o)) to int old (Number (pos 1)) v
        (pos 1) d t2 tint refl by.is hv by.small fits g.0
        g2.0 refl))

    record IsUpdateBy (o : ℕ) (op : BinOp) (n : ℤ) (u : Update) : Type 0 where
      own : u.object ≡ o
      signed : IsSignedStep op n u.by

    update_is_by : (o : ℕ) (op : BinOp) (n : ℤ) (u : Update) → update_by o op n ≡ Some u → IsUpdateBy o op n u
    update_is_by o op n u h =
        let c = some_map (signed_step op n) _ u h in
        subst (IsUpdateBy o op n) c.2 (record { own = refl; signed = signed_is op n c.0 c.1 })

    pub update_is : (e : PlainExpr) (u : Update) (v : ℤ) (s : State) → update_of (Some e) ≡ Some u → u.object ≡ i → ValidExpr p table f e
        → At v s → IsInt v → IsInt (v +ℤ u.by) → Gives p (λ z t. At (v +ℤ u.by) t) (value_of w1 calls e s)
    update_is (expression ty mode (assign (object o) e)) u v s h same valid at hv fits =
        let c = some_then (operands_of e) _ u h in
        let b = some_if (c.0.object == o) _ u c.2 in
        let d = update_is_by o c.0.op c.0.value u b.1 in
        let own : o ≡ i = sym d.own ∙ same in
        assign_is ty mode o e c.0 v u.by s own (eqb-true c.0.object o b.0 ∙ own) (is_operation e c.0 c.1) d.signed valid at fits
    update_is (expression ty mode (compound op operation_mode (object o) e)) u v s h same valid at hv fits =
        let c = some_then (int_constant e) _ u h in
        let d = update_is_by o op c.0 u c.2 in
        compound_is ty mode op operation_mode o e v c.0 u.by s (sym d.own ∙ same) c.1 d.signed valid at hv fits
    update_is (expression ty mode (step up prefix (object o))) u v s h same valid at hv fits =
        let d = update_is_by o (step_operator up) (pos 1) u h in
        step_is ty mode up prefix o v u.by s (sym d.own ∙ same) d.signed valid at hv fits
    update_is e u v s h same valid at hv fits = cc

    -- ---- the first part

    pub assigned_is : (e value : PlainExpr) (n : ℤ) (s : State) → assigned i e ≡ Some value → int_constant value ≡ Some n
        → Gives p (λ z t. At n t) (value_of w1 calls e s)
    assigned_is (expression ty mode (assign (object o) a)) value n s h c =
        let b = some_if (o == i) (Some a) value h in
        let same : a ≡ value = let g : Some a ≡ Some value = b.1 in cc in
        let k = is_int_constant tells a n (ap int_constant same ∙ c) in
        got_next _ _ (own_place o (eqb-true o i b.0) (worked _ s)) (λ to t g.
        got_next _ _ (constant_is a n t k) (λ u r g2. written_is ty _ to n u r g2.0 g.0))
    assigned_is e value n s h c = cc

    first_is : (q : ℕ) (n : ℤ) (u : Value) (s : State) → q ≡ i → u ≡ Number n → Gives p (λ z t. At n t) (initialised p q 0 u s)
    first_is q n u s own e =
        subst (λ z. Gives p (λ y t. At n t) (initialised p q 0 z s)) (sym e) (by_access (own_access p q 0 s) (λ a h. own_first a h))
      where
        own_first : (a : Access) → own_access p q 0 s ≡ Some a → (a.object ≡ i) × (a.leaf ≡ 0)
        own_first a h =
            let d = some_then (slice_get p.objects q) _ a h in
            let y = some_then (slice_get s.objects q) _ a d.2 in
            let c = some_if (y.0.live && holds d.0.space d.0.home) _ a y.2 in
            let same : record { object = q; leaf = 0; space = d.0.space; declared = d.0; state = y.0 } ≡ a = cc in
            (ap (λ (b : Access). b.object) (sym same) ∙ own, ap (λ (b : Access). b.leaf) (sym same))

        by_access : (z : Option Access) → ((a : Access) → z ≡ Some a → (a.object ≡ i) × (a.leaf ≡ 0))
            → Gives p (λ y t. At n t) (first_write z (Number n) s)
        by_access None g = record { is = tt }
        by_access (Some a) g = record { is = stored_is n a s (g a refl).0 (g a refl).1 }

    pub initialiser_is : (q : ℕ) (values : PlainExprs) (value : PlainExpr) (n : ℤ) (s : State) → initialiser i q values ≡ Some value
        → int_constant value ≡ Some n → Gives p (λ z t. At n t) (initialising w1 calls q 0 values s)
    initialiser_is q last_expr value n s h c = cc
    initialiser_is q (next_expr e (next_expr e2 es)) value n s h c = cc
    initialiser_is q (next_expr e last_expr) value n s h c =
        let b = some_if (q == i) (Some e) value h in
        let same : e ≡ value = let g : Some e ≡ Some value = b.1 in cc in
        let k = is_int_constant tells e n (ap int_constant same ∙ c) in
        got_next _ _ (constant_is e n (worked (leaf_words e) s) k) (λ u t g.
        got_next {P = λ y r. At n r} _ _ (first_is q n u t (eqb-true q i b.0) g.0) (λ y r m. record { is = m }))
