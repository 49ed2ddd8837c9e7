-- A compound assignment of numbers: both operands are brought to the operation's types, the operation is
-- done, and its result is brought to the place's type and stored.
use Rattle.std.proofs.Common.{◌≡◌, ℕ, ◌+◌, ◌*◌, ◌≤◌, Bool, true, false, ℤ, List, ◌∷◌, Option, Some, None, Result, Ok, Err, refl}
use Rattle.std.proofs.Common.{sym, ap, ◌∙◌, subst, inl, inr, arith}
use Rattle.std.specs.Prelude.{if◌then◌else◌}
use Rattle.std.proofs.lemmas.Int.{ints}
use Rattle.ec_fx.specs.declared.numbers.Mode.{Mode}
use Rattle.ec_fx.specs.Ranges.{IsWithin}
use Rattle.ec_space.specs.declared.space.SpaceId.{SpaceId}
use Rattle.ec_core.specs.declared.arithmetic_types.Arithmetic.{Arithmetic}
use Rattle.ec_core.specs.declared.arithmetic_types.Arithmetic.TheVariants.{Integer, Fixed}
use Rattle.ec_core.specs.declared.arithmetic_types.IntegerType.{IntegerType}
use Rattle.ec_core.specs.declared.expressions.BinOp.{BinOp}
use Rattle.ec_core.specs.declared.expressions.BinOp.TheVariants.{Add, Sub, Mul, Div, Rem, Shl, Shr, And, Or, Xor, Lt, Gt, Le, Ge, Eq, Ne}
use Rattle.ec_core.specs.declared.values.Undefined.{Undefined}
use Rattle.ec_core.specs.declared.values.Undefined.TheVariants.{ConstWrite}
use Rattle.ec_core.specs.declared.values.Value.{Value}
use Rattle.ec_core.specs.declared.values.Value.TheVariants.{Number}
use Rattle.ec_core.specs.Accesses.{operand_of, Access, access, is_fixed, stored, write}
use Rattle.ec_core.specs.ArithmeticTypes.{type_of, common_integer}
use Rattle.ec_core.specs.ArithmeticValues.{HoldsNumber, IsKnownType, operand, arithmetic_value}
use Rattle.ec_core.specs.Integers.{wrapped}
use Rattle.ec_core.specs.Layout.{IsScalar}
use Rattle.ec_core.specs.Operators.{Operand, as_number, number_type, OperationTypes, operation_types, then_with, brought}
use Rattle.ec_core.specs.Operators.{operation_value, compound_value, conversion_of, conversion_result, binary_result}
use Rattle.ec_core.specs.Plain.{PlainType, void, integer, fixed, pointer, array, struct}
use Rattle.ec_core.specs.Pointers.{Pointer as PointerValue}
use Rattle.ec_core.specs.State.{State, Outcome, got, more, undefined, next, given}
use Rattle.ec_core.specs.Typing.{IsOneByteType, HaveCompoundArithmetic}
use Rattle.ec_core.proofs.HeldNumbers.{Held, conversion_held}
use Rattle.ec_core.specs.ValueTypes.{HasType}
use Rattle.ec_ir.specs.Costs.{op_words, conversion_words, binary_words}
use Rattle.ec_ir.specs.Meaning.{Mach, Frame}
use Rattle.ec_ir.specs.Operations.{PlainIr, binary_op, conversion}
use Rattle.ec_ir.specs.Temporaries.{Temps}
use Rattle.ec_lower_code.specs.Code.{temp, Site, store_to, update_types, update_code}
use Rattle.ec_lower_code.proofs.Numeric.{IsNumeric}
use Rattle.ec_lower_code.proofs.Numbers.{wrapped_back}
use Rattle.ec_lower_code.proofs.Operations.{number_back, type_scalar, type_holds, value_number, AreUpdateTypes, words_of}
use Rattle.ec_lower_code.proofs.Ops.{to_rest, IsSite, IsSpace, Below, HasValue, conversion_runs, conversion_beside, binary_runs, write_runs}
use Rattle.ec_lower_code.proofs.Scene.{World, ports, homes, spot, apart}
use Rattle.ec_lower_code.proofs.Shown.{held_of, Match}
use Rattle.ec_lower_code.proofs.Steps.{Target, Spot, around, here, Runs, after}

-- conversions of numbers
pub conversion_to : (z : Arithmetic) (mode : Mode) (a : Operand) (m : ℤ) → conversion_of (type_of z) mode a (Number m) ≡ as_number
    (brought z mode (number_type a.ty) m)
conversion_to (Integer t) mode a m = refl
conversion_to (Fixed t) mode a m = refl

pub conversion_into : (ty : PlainType) (mode : Mode) (a : Operand) (m : ℤ) → IsNumeric ty → conversion_of ty mode a (Number m) ≡ as_number
    (brought (number_type ty) mode (number_type a.ty) m)
conversion_into void mode a m h = absurd h
conversion_into (integer s b) mode a m h = refl
conversion_into (fixed k s) mode a m h = refl
conversion_into (pointer s c t) mode a m h = absurd h
conversion_into (array t n) mode a m h = absurd h
conversion_into (struct i) mode a m h = absurd h

pub held_ok : (t : Arithmetic) (r : Result ℤ Undefined) (n : ℤ) → Held t r → r ≡ Ok n → HoldsNumber t n
held_ok t r n h e = subst (Held t) e h

pub place_known : (ty : PlainType) → IsNumeric ty → IsScalar ty → IsKnownType (number_type ty)
place_known void i k = absurd i
place_known (integer s b) i k = k
place_known (fixed f s) i k = tt
place_known (pointer s c t) i k = absurd i
place_known (array t n) i k = absurd i
place_known (struct j) i k = absurd i

-- ---- a product's factors stay as they are

one_byte_common : (x y : IntegerType) → x.bytes ≡ 1 → y.bytes ≡ 1 → common_integer x y ≡ record { signed = true; bytes = 2 }
one_byte_common x y e f = subst (λ (m : ℕ). common_integer (record { signed = x.signed; bytes = m }) y ≡ record {
  signed = true;
  bytes = 2;
}) (sym e) (subst (λ (m : ℕ). common_integer (record { signed = x.signed; bytes = 1 })
    (record { signed = y.signed; bytes = m }) ≡ record { signed = true; bytes = 2 }) (sym f) refl)

-- a number of one byte is one of int
pub wider_holds : (x : IntegerType) (n : ℤ) → x.bytes ≡ 1 → HoldsNumber (Integer x) n
    → HoldsNumber (Integer (record { signed = true; bytes = 2 })) n
wider_holds x n e h = (inr (inl refl), by_sign x.signed (subst (λ (m : ℕ). IsWithin x.signed (8 * m) n) e h.1))
  where
    by_sign : (s : Bool) → IsWithin s 8 n → IsWithin true 16 n
    by_sign true i = let l = i.low in let g = i.high in record { low = omega (arith, ints, l); high = omega (arith, ints, g) }
    by_sign false i = let l = i.low in let g = i.high in record { low = omega (arith, ints, l); high = omega (arith, ints, g) }

brought_same : (x : IntegerType) (mode : Mode) (n : ℤ) → HoldsNumber (Integer x) n → brought (Integer x) mode (Integer x) n ≡ Ok n
brought_same x mode n h = ap (λ (z : ℤ). Ok z) (wrapped_back x n h.0 h.1)

brought_common : (x y : IntegerType) (mode : Mode) (n : ℤ) → x.bytes ≡ 1 → y.bytes ≡ 1 → HoldsNumber (Integer x) n
    → brought (Integer (common_integer x y)) mode (Integer x) n ≡ Ok n
brought_common x y mode n e f h =
    let w = wider_holds x n e h in
    ap (λ (t : IntegerType). Ok (wrapped t n)) (one_byte_common x y e f)
    ∙ ap (λ (z : ℤ). Ok z) (wrapped_back (record { signed = true; bytes = 2 }) n w.0 w.1)

product_same : (own mode : Mode) (x y : Arithmetic) (m n : ℤ) → IsOneByteType x → IsOneByteType y → HoldsNumber x m → HoldsNumber y n
    → operation_value Mul (operation_types Mul x y) own x m y n ≡ operation_value Mul (update_types Mul x y) own x m y n
product_same own mode (Integer x) (Integer y) m n e f h k =
    ap (λ r. then_with r (λ a. then_with (brought (Integer (common_integer y x)) own (Integer y) n)
    (λ b. arithmetic_value Mul (Integer (common_integer x y)) own (operand (Integer x) a) (operand (Integer y) b))))
    (brought_common x y own m e f h)
    ∙ ap (λ r. then_with r (λ b. arithmetic_value Mul (Integer (common_integer x y)) own (operand (Integer x) m) (operand (Integer y) b)))
    (brought_common y x own n f e k)
    ∙ sym (ap (λ r. then_with r (λ a. then_with (brought (Integer y) own (Integer y) n)
    (λ b. arithmetic_value Mul (Integer (common_integer x y)) own (operand (Integer x) a) (operand (Integer y) b))))
    (brought_same x own m h)
    ∙ ap (λ r. then_with r (λ b. arithmetic_value Mul (Integer (common_integer x y)) own (operand (Integer x) m) (operand (Integer y) b)))
    (brought_same y own n k))
product_same own mode (Integer x) (Fixed y) m n e f h k = refl
product_same own mode (Fixed x) (Integer y) m n e f h k = refl
product_same own mode (Fixed x) (Fixed y) m n e f h k = refl

-- the value by the types of the operations
abbrev pub updated_value : BinOp → OperationTypes → Mode → Mode → Arithmetic → ℤ → Arithmetic → ℤ → Result ℤ Undefined
updated_value op ts own mode x m y n = then_with (operation_value op ts own x m y n) (λ r. brought x mode ts.result r)

pub compound_same : (op : BinOp) (own mode : Mode) (x y : Arithmetic) (m n : ℤ) → HaveCompoundArithmetic op x y → HoldsNumber x m
    → HoldsNumber y n → compound_value op own mode x m y n ≡ updated_value op (update_types op x y) own mode x m y n
compound_same Mul own mode x y m n h a b = ap (λ r. then_with r (λ z. brought x mode (update_types Mul x y).result z))
    (product_same own mode x y m n h.0 h.1 a b)
compound_same Add own mode x y m n h a b = refl
compound_same Sub own mode x y m n h a b = refl
compound_same Div own mode x y m n h a b = refl
compound_same Rem own mode x y m n h a b = refl
compound_same Shl own mode x y m n h a b = refl
compound_same Shr own mode x y m n h a b = refl
compound_same And own mode x y m n h a b = refl
compound_same Or own mode x y m n h a b = refl
compound_same Xor own mode x y m n h a b = refl
compound_same Lt own mode x y m n h a b = refl
compound_same Gt own mode x y m n h a b = refl
compound_same Le own mode x y m n h a b = refl
compound_same Ge own mode x y m n h a b = refl
compound_same Eq own mode x y m n h a b = refl
compound_same Ne own mode x y m n h a b = refl

-- the write's own value is that of the assignment
pub written : (a : Option Access) (v x : Value) (s s1 : State) → write a v s ≡ got x s1 → x ≡ v
written None v x s s1 e = cc
written (Some a) v x s s1 e = by_const (is_fixed a.declared) e
  where
    by_const : (c : Bool) → (if c then undefined ConstWrite s else got v (stored a v s)) ≡ got x s1 → x ≡ v
    by_const true f = cc
    by_const false f = cc

pub kept : (z : Outcome Value) (v : Value) → ((x : Value) (s : State) → z ≡ got x s → x ≡ v) → next z (λ y s2. got v s2) ≡ z
kept (got x s) v f = ap (λ y. got y s) (sym (f x s refl))
kept (more s) v f = refl
kept (undefined point s) v f = refl

module _ (wd : World) (code : List PlainIr) (stack : List Frame) where
  abbrev w : Spot
  w = spot wd code stack

  -- goes on from one value
  pub then_on : {A : Type 0} (n : ℕ) (p q : List PlainIr) (m : Mach) (hty : PlainType) (t d : ℕ) (b : Temps) (v : Value) (s : State)
      (to : A → Target) (Q : A → State → Mach → Type 0) (o : Outcome A) → Runs w n p m (to_rest w q) (HasValue w hty t d b) (got v s)
      → ((u : Mach) → HasValue w hty t d b v s u → Runs w n q u to Q o) → Runs w n p m to Q o
  then_on n p q m hty t d b v s to Q o h f = after w to Q n (here w p) (here w q) m h.0 o h.2 (f h.0 h.1)

  module _ (n : ℕ) (op : BinOp) (ts : OperationTypes) (own mode : Mode) (known : AreUpdateTypes op own ts) (ty right : PlainType)
      (site : Site) (sp : Option SpaceId) (to : PointerValue) (is_space : IsSpace w site sp) (t d : ℕ) (b : Temps) (at_site : (u : Mach)
      → Below w t b u → IsSite w site u.temps to) (rest : List PlainIr) (num : IsNumeric ty) (right_num : IsNumeric right)
      (scalar : IsScalar ty) (right_scalar : IsScalar right) where
    abbrev store_code : List PlainIr
    store_code = store_to site (temp t ty) ∷ rest

    abbrev back_code : List PlainIr
    back_code = conversion (temp t ty) ty mode (temp t (type_of ts.result)) (type_of ts.result) ∷ store_code

    abbrev op_code : List PlainIr
    op_code = binary_op op (type_of ts.result) own (temp t (type_of ts.result)) (temp t (type_of ts.left)) (type_of ts.left)
        (temp (t + 1) (type_of ts.right)) (type_of ts.right) ∷ back_code

    abbrev right_code : List PlainIr
    right_code = conversion (temp (t + 1) (type_of ts.right)) (type_of ts.right) own (temp (t + 1) right) right ∷ op_code

    abbrev pub stored_value : Result Value Undefined → State → Outcome Value
    stored_value r s = next (given r s) (λ v s1. next (write (access wd.program ty sp to s1) v s1) (λ z s2. got v s2))

    abbrev Ends : List PlainIr → Mach → Outcome Value → Type 0
    Ends p u z = Runs w n p u (to_rest w rest) (HasValue w ty t d b) z

    abbrev back_cost : ℕ
    back_cost = conversion_words ty (type_of ts.result) + (op_words (store_to site (temp t ty)) + d)

    abbrev op_cost : ℕ
    op_cost = binary_words op (type_of ts.result) (type_of ts.left) (type_of ts.right) + back_cost

    ends_back : (r : Result ℤ Undefined) (q : ℤ) (s : State) (u : Mach) → HoldsNumber ts.result q
        → HasValue w (type_of ts.result) t back_cost b (Number q) s u → brought (number_type ty) mode ts.result q ≡ r
        → Ends back_code u (stored_value (as_number r) s)
    ends_back (Err point) q s u hq h f = tt
    ends_back (Ok v) q s u hq h f =
        let into = conversion_into ty mode (operand_of wd.program (type_of ts.result) (Number q) s) q num in
        let is : conversion_result ty mode (operand_of wd.program (type_of ts.result) (Number q) s) ≡ Ok (Number v) = into
        ∙ ap (λ z. as_number (brought (number_type ty) mode z q)) (number_back ts.result) ∙ ap as_number f in
        let typed = value_number (homes wd) ty v num (held_ok (number_type ty) (brought (number_type ty) mode ts.result q) v
        (conversion_held (number_type ty) mode (operand ts.result q) (place_known ty num scalar)) f) in
        then_on n back_code store_code u ty t (op_words (store_to site (temp t ty)) + d) b (Number v) s (to_rest w rest)
        (HasValue w ty t d b) (stored_value (Ok (Number v)) s)
        (conversion_runs w n t (op_words (store_to site (temp t ty)) + d) back_cost b ty mode (type_of ts.result) (Number q) s u store_code
        (type_scalar ts.result known.result) (type_holds (homes wd) ts.result q hq) (omega arith) h (Ok (Number v)) is)
        (λ u1 h1. subst (Ends store_code u1) (sym (kept (write (access wd.program ty sp to s) (Number v) s) (Number v)
        (λ x s1 e. written (access wd.program ty sp to s) (Number v) x s s1 e)))
        (write_runs w (apart wd) n t d (op_words (store_to site (temp t ty)) + d) b ty site sp to s u1 (Number v) rest is_space
        (at_site u1 h1.same) scalar typed (omega arith) h1 (access wd.program ty sp to s) refl))

    ends_op : (r : Result ℤ Undefined) (x y : ℤ) (s : State) (u : Mach) → HoldsNumber ts.left x → HoldsNumber ts.right y
        → Match (homes wd) (ports wd) (around w) op_cost s u → u.temps t ≡ Some (held_of (type_of ts.left) (Number x))
        → u.temps (t + 1) ≡ Some
        (held_of (type_of ts.right) (Number y)) → Below w t b u
        → arithmetic_value op ts.result own (operand ts.left x) (operand ts.right y) ≡ r
        → Ends op_code u (stored_value (as_number (then_with r (λ q. brought (number_type ty) mode ts.result q))) s)
    ends_op (Err point) x y s u nx ny h hx hy same f = tt
    ends_op (Ok q) x y s u nx ny h hx hy same f =
        let is : binary_result op (type_of ts.result) own (operand_of wd.program (type_of ts.left) (Number x) s)
        (operand_of wd.program (type_of ts.right) (Number y) s) ≡ Ok (Number q) =
        ap (λ z. as_number (arithmetic_value op z own (operand (number_type (type_of ts.left)) x)
        (operand (number_type (type_of ts.right)) y))) (number_back ts.result)
        ∙ ap (λ z. as_number (arithmetic_value op ts.result own (operand z x) (operand (number_type (type_of ts.right)) y)))
        (number_back ts.left)
        ∙ ap (λ z. as_number (arithmetic_value op ts.result own (operand ts.left x) (operand z y))) (number_back ts.right)
        ∙ ap as_number f in
        let hq = held_ok ts.result (arithmetic_value op ts.result own (operand ts.left x) (operand ts.right y)) q (known.held x y) f in
        then_on n op_code back_code u (type_of ts.result) t back_cost b (Number q) s (to_rest w rest) (HasValue w ty t d b)
        (stored_value (as_number (brought (number_type ty) mode ts.result q)) s)
        (binary_runs w n t back_cost op_cost b op (type_of ts.result) own (type_of ts.left) (type_of ts.right) (Number x)
        (Number y) s u back_code (type_scalar ts.left known.left) (type_holds (homes wd) ts.left x nx) (type_scalar ts.right known.right)
        (type_holds (homes wd) ts.right y ny) (omega arith) h hx hy same (Ok (Number q)) is)
        (λ u1 h1. ends_back (brought (number_type ty) mode ts.result q) q s u1 hq h1 refl)

    ends_right : (r : Result ℤ Undefined) (x y : ℤ) (s : State) (u : Mach) → HoldsNumber ts.left x → HasType (homes wd) right (Number y)
        → Match (homes wd) (ports wd) (around w) (conversion_words (type_of ts.right) right + op_cost) s u
        → u.temps t ≡ Some (held_of (type_of ts.left) (Number x)) → u.temps (t + 1) ≡ Some (held_of right (Number y)) → Below w t b u
        → brought ts.right own (number_type right) y ≡ r → Ends right_code u
        (stored_value (as_number (then_with (then_with r (λ z. arithmetic_value op ts.result own (operand ts.left x) (operand ts.right z)))
        (λ q. brought (number_type ty) mode ts.result q))) s)
    ends_right (Err point) x y s u nx vy h hx hy same f = tt
    ends_right (Ok z) x y s u nx vy h hx hy same f =
        let is : conversion_result (type_of ts.right) own (operand_of wd.program right (Number y) s) ≡ Ok (Number z) =
        conversion_to ts.right own (operand_of wd.program right (Number y) s) y ∙ ap as_number f in
        let nz = held_ok ts.right (brought ts.right own (number_type right) y) z
        (conversion_held ts.right own (operand (number_type right) y) known.right) f in
        then_on n right_code op_code u (type_of ts.right) (t + 1) op_cost u.temps (Number z) s (to_rest w rest) (HasValue w ty t d b) _
        (conversion_runs w n (t + 1) op_cost (conversion_words (type_of ts.right) right + op_cost) u.temps (type_of ts.right) own right
        (Number y) s u op_code right_scalar vy (omega arith) (record { match = h; value = λ i. hy; same = λ i lt. refl })
        (Ok (Number z)) is)
        (λ u1 h1. ends_op (arithmetic_value op ts.result own (operand ts.left x) (operand ts.right z)) x z s u1 nx nz h1.match
        (h1.same t (omega arith) ∙ hx) (h1.value (type_scalar ts.right known.right)) (λ i lt. h1.same i (omega (arith, lt)) ∙ same i lt)
        refl)

    -- the update, from the old value and the right side
    pub update_runs : (r : Result ℤ Undefined) (x y : ℤ) (s : State) (u : Mach) (e : ℕ)
        → words_of op ts ty right + (op_words (store_to site (temp t ty)) + d) ≤ e → HasType (homes wd) ty (Number x)
        → HasType (homes wd) right (Number y) → Match (homes wd) (ports wd) (around w) e s u → u.temps t ≡ Some (held_of ty (Number x))
        → u.temps (t + 1) ≡ Some
        (held_of right (Number y)) → Below w t b u
        → brought ts.left own (number_type ty) x ≡ r → Ends (update_code op ts own mode ty site t right rest) u
        (stored_value (as_number (then_with (then_with r (λ a. then_with (brought ts.right own (number_type right) y)
        (λ z. arithmetic_value op ts.result own (operand ts.left a) (operand ts.right z))))
        (λ q. brought (number_type ty) mode ts.result q))) s)
    update_runs (Err point) x y s u e le vx vy h hx hy same f = tt
    update_runs (Ok a) x y s u e le vx vy h hx hy same f =
        let is : conversion_result (type_of ts.left) own (operand_of wd.program ty (Number x) s) ≡ Ok (Number a) = conversion_to ts.left own
        (operand_of wd.program ty (Number x) s) x ∙ ap as_number f in
        let na = held_ok ts.left (brought ts.left own (number_type ty) x) a
        (conversion_held ts.left own (operand (number_type ty) x) known.left) f in
        let e1 = conversion_words (type_of ts.right) right + op_cost in
        let d1 = conversion_beside w n t e1 e b (type_of ts.left) own ty (Number x) (held_of right (Number y)) (Number a) s u right_code
        scalar vx (omega (arith, le)) (record { match = h; value = λ i. hx; same = same }) hy is in
        after w (to_rest w rest) (HasValue w ty t d b) n (here w (update_code op ts own mode ty site t right rest))
        (here w right_code) u d1.0 _ d1.2
        (ends_right (brought ts.right own (number_type right) y) a y s d1.0 na vy d1.1.0.match
        (d1.1.0.value (type_scalar ts.left known.left)) d1.1.1 d1.1.0.same refl)
