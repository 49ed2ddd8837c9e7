-- A postfix step of a number: the old value is brought to the operation's type and back, which leaves it as it is.
use Rattle.std.proofs.Common.{◌≡◌, ◌⊎◌, ℕ, ◌+◌, ◌*◌, ◌^◌, ◌<◌, ◌≤◌, Bool, true, false, ℤ, pos, List, ◌∷◌, Option, Some, Result}
use Rattle.std.proofs.Common.{Ok, Err, refl, sym, ap, ◌∙◌, subst, inl, inr, arith}
use Rattle.std.specs.Prelude.{◌*ℤ◌}
use Rattle.std.proofs.lemmas.Int.{ints, quot-rem}
use Rattle.std.proofs.lemmas.Nat.{pow_pos}
use Rattle.ec_fx.proofs.Accuracy.{fit_within}
use Rattle.ec_fx.proofs.Scaling.{trunc-common}
use Rattle.ec_fx.specs.Rounding.{trunc, rounded, in_units}
use Rattle.ec_fx.specs.declared.numbers.Mode.{Mode}
use Rattle.ec_fx.specs.Formats.{format_of}
use Rattle.ec_fx.specs.Results.{fit}
use Rattle.ec_space.specs.declared.space.SpaceId.{SpaceId}
use Rattle.ec_core.specs.declared.arithmetic_types.Arithmetic.{Arithmetic}
use Rattle.ec_core.specs.declared.arithmetic_types.Arithmetic.TheVariants.{Integer, Fixed}
use Rattle.ec_core.specs.declared.arithmetic_types.FixedType.{FixedType}
use Rattle.ec_core.specs.declared.arithmetic_types.IntegerType.{IntegerType}
use Rattle.ec_core.specs.declared.expressions.BinOp.{BinOp}
use Rattle.ec_core.specs.declared.values.Undefined.{Undefined}
use Rattle.ec_core.specs.declared.values.Value.{Value}
use Rattle.ec_core.specs.declared.values.Value.TheVariants.{Number}
use Rattle.ec_core.specs.Accesses.{operand_of, access, write}
use Rattle.ec_core.specs.ArithmeticTypes.{type_of, common_integer}
use Rattle.ec_core.specs.ArithmeticValues.{HoldsNumber, operand, arithmetic_value, outcome}
use Rattle.ec_core.specs.Integers.{wrapped}
use Rattle.ec_core.specs.Layout.{IsScalar}
use Rattle.ec_core.specs.Operators.{as_number, number_type, OperationTypes, then_with, brought, converted_beside}
use Rattle.ec_core.specs.Operators.{conversion_result, binary_result, step_operator}
use Rattle.ec_core.specs.Plain.{PlainType}
use Rattle.ec_core.specs.Pointers.{Pointer as PointerValue}
use Rattle.ec_core.specs.State.{State, Outcome, got, next, given}
use Rattle.ec_core.specs.Typing.{int}
use Rattle.ec_core.proofs.HeldNumbers.{conversion_held}
use Rattle.ec_core.specs.ValueTypes.{HasType}
use Rattle.ec_ir.specs.Costs.{op_words, conversion_words, binary_words}
use Rattle.ec_ir.specs.Meaning.{Mach, Frame}
use Rattle.ec_ir.specs.Operations.{PlainIr, binary_op, conversion}
use Rattle.ec_ir.specs.Temporaries.{Temps}
use Rattle.ec_lower_code.specs.Code.{temp, Site, store_to, update_types, keeping_code}
use Rattle.ec_lower_code.proofs.Numeric.{IsNumeric}
use Rattle.ec_lower_code.proofs.Numbers.{wrapped_back}
use Rattle.ec_lower_code.proofs.Operations.{number_back, type_scalar, type_holds, value_number, AreUpdateTypes, int_type}
use Rattle.ec_lower_code.proofs.Ops.{to_rest, IsSite, IsSpace, Below, HasValue, conversion_runs, conversion_beside}
use Rattle.ec_lower_code.proofs.Ops.{binary_above, write_runs}
use Rattle.ec_lower_code.proofs.Scene.{World, ports, homes, spot, apart}
use Rattle.ec_lower_code.proofs.Shown.{held_of, Match}
use Rattle.ec_lower_code.proofs.Steps.{Spot, around, here, Runs, after, bind}
use Rattle.ec_lower_code.proofs.Updates.{conversion_to, conversion_into, held_ok, place_known, wider_holds, then_on}

-- ---- there and back

abbrev Holds : ℤ → Bool → ℕ → Type 0
Holds n s b = HoldsNumber (Integer (common_integer (record { signed = s; bytes = b }) int_type)) n

-- the common type with int holds what a type holds
common_holds : (t : IntegerType) (n : ℤ) → HoldsNumber (Integer t) n → HoldsNumber (Integer (common_integer t int_type)) n
common_holds t n h = by_size h.0
  where
    two : (s : Bool) → HoldsNumber (Integer (record { signed = s; bytes = 2 })) n → Holds n s 2
    two true k = k
    two false k = k

    by_size : (t.bytes ≡ 1) ⊎ ((t.bytes ≡ 2) ⊎ (t.bytes ≡ 4)) → Holds n t.signed t.bytes
    by_size (inl e) = subst (Holds n t.signed) (sym e) (wider_holds t n e h)
    by_size (inr (inl e)) = subst (Holds n t.signed) (sym e) (two t.signed
        (subst (λ (b : ℕ). HoldsNumber (Integer (record { signed = t.signed; bytes = b })) n) e h))
    by_size (inr (inr e)) = subst (Holds n t.signed) (sym e) (subst
        (λ (b : ℕ). HoldsNumber (Integer (record { signed = t.signed; bytes = b })) n) e h)

abbrev answer : ℤ → Result ℤ Undefined
answer z = Ok z

-- a value of a fixed-point type in its own type
one_unit : (n : ℤ) → trunc n 1 ≡ n
one_unit n = let e = quot-rem n (pos 1) in omega (arith, ints, e)

same_units : (n : ℤ) (f : ℕ) → rounded (in_units n f f) ≡ n
same_units n f = ap (trunc (n *ℤ pos (2 ^ f))) (let z : 2 ^ f ≡ 1 * 2 ^ f = omega arith in z) ∙ trunc-common n 1 (2 ^ f) (pow_pos f)
    ∙ one_unit n

fixed_back : (t : FixedType) (mode : Mode) (n : ℤ) → HoldsNumber (Fixed t) n → brought (Fixed t) mode (Fixed t) n ≡ Ok n
fixed_back t mode n h = ap (λ z. outcome (fit (format_of t.kind) mode z)) (same_units n (format_of t.kind).frac)
    ∙ ap outcome (fit_within (format_of t.kind) mode n h)

there_and_back : (x : Arithmetic) (mode : Mode) (n a : ℤ) → HoldsNumber x n → brought (converted_beside x (Integer int_type)) mode x n ≡ Ok
    a → brought x mode (converted_beside x (Integer int_type)) a ≡ Ok n
there_and_back (Integer t) mode n a h e =
    let c = common_holds t n h in
    let w : wrapped (common_integer t int_type) n ≡ n = wrapped_back (common_integer t int_type) n c.0 c.1 in
    let f : Ok (wrapped (common_integer t int_type) n) ≡ answer a = e in
    let g : wrapped (common_integer t int_type) n ≡ a = cc in
    ap (λ (z : ℤ). Ok (wrapped t z)) (sym g ∙ w) ∙ ap (λ (z : ℤ). Ok z) (wrapped_back t n h.0 h.1)
there_and_back (Fixed t) mode n a h e =
    let f : answer n ≡ answer a = sym (fixed_back t mode n h) ∙ e in
    let g : n ≡ a = cc in
    ap (λ (z : ℤ). brought (Fixed t) mode (Fixed t) z) (sym g) ∙ fixed_back t mode n h

pub step_back : (up : Bool) (x : Arithmetic) (mode : Mode) (n a : ℤ) → HoldsNumber x n
    → brought (update_types (step_operator up) x (Integer int_type)).left mode x n ≡ Ok a
    → brought x mode (update_types (step_operator up) x (Integer int_type)).left a ≡ Ok n
step_back true x mode n a h e = there_and_back x mode n a h e
step_back false x mode n a h e = there_and_back x mode n a h e

-- ---- the operations

-- what a postfix step does from its new value on
abbrev pub kept_value : World → PlainType → Option SpaceId → PointerValue → ℤ → Result Value Undefined → State → Outcome Value
kept_value wd ty sp to x r s = next (given r s) (λ v s1. next (write (access wd.program ty sp to s1) v s1) (λ z s2. got (Number x) s2))

module _ (wd : World) (code : List PlainIr) (stack : List Frame) where
  abbrev w : Spot
  w = spot wd code stack

  module _ (n : ℕ) (op : BinOp) (ts : OperationTypes) (mode : Mode) (known : AreUpdateTypes op mode ts) (ty : PlainType) (site : Site)
      (sp : Option SpaceId) (to : PointerValue) (is_space : IsSpace w site sp) (t d : ℕ) (b : Temps) (at_site : (u : Mach) → Below w t b u
      → IsSite w site u.temps to) (rest : List PlainIr) (num : IsNumeric ty) (scalar : IsScalar ty) (x a : ℤ) (na : HoldsNumber ts.left a)
      (back : brought (number_type ty) mode ts.left a ≡ Ok x) where
    abbrev restore_code : List PlainIr
    restore_code = conversion (temp t ty) ty mode (temp t (type_of ts.left)) (type_of ts.left) ∷ rest

    abbrev store_code : List PlainIr
    store_code = store_to site (temp (t + 1) ty) ∷ restore_code

    abbrev back_code : List PlainIr
    back_code = conversion (temp (t + 1) ty) ty mode (temp (t + 1) (type_of ts.result)) (type_of ts.result) ∷ store_code

    abbrev op_code : List PlainIr
    op_code = binary_op op (type_of ts.result) mode (temp (t + 1) (type_of ts.result)) (temp t (type_of ts.left)) (type_of ts.left)
        (temp (t + 1) (type_of ts.right)) (type_of ts.right) ∷ back_code

    abbrev right_code : List PlainIr
    right_code = conversion (temp (t + 1) (type_of ts.right)) (type_of ts.right) mode (temp (t + 1) int) int ∷ op_code

    abbrev Ends : List PlainIr → Mach → Outcome Value → Type 0
    Ends p u z = Runs w n p u (to_rest w rest) (HasValue w ty t d b) z

    abbrev restore_cost : ℕ
    restore_cost = conversion_words ty (type_of ts.left) + d

    abbrev store_cost : ℕ
    store_cost = op_words (store_to site (temp (t + 1) ty)) + restore_cost

    abbrev back_cost : ℕ
    back_cost = conversion_words ty (type_of ts.result) + store_cost

    abbrev op_cost : ℕ
    op_cost = binary_words op (type_of ts.result) (type_of ts.left) (type_of ts.right) + back_cost

    abbrev right_cost : ℕ
    right_cost = conversion_words (type_of ts.right) int + op_cost

    -- what is kept at t and below
    record Keeps (temps : Temps) : Type 0 where
      left : temps t ≡ Some (held_of (type_of ts.left) (Number a))
      below : (i : ℕ) → i < t → temps i ≡ b i

    restores : (s : State) (u : Mach) → Match (homes wd) (ports wd) (around w) restore_cost s u → Keeps u.temps
        → Ends restore_code u (got (Number x) s)
    restores s u h k =
        let into = conversion_into ty mode (operand_of wd.program (type_of ts.left) (Number a) s) a num in
        let is : conversion_result ty mode (operand_of wd.program (type_of ts.left) (Number a) s) ≡ Ok (Number x) = into
        ∙ ap (λ z. as_number (brought (number_type ty) mode z a)) (number_back ts.left) ∙ ap as_number back in
        conversion_runs w n t d restore_cost b ty mode (type_of ts.left) (Number a) s u rest (type_scalar ts.left known.left)
        (type_holds (homes wd) ts.left a na) (omega arith) (record { match = h; value = λ i. k.left; same = k.below }) (Ok (Number x)) is

    -- what is done above t keeps it
    keeps : (temps : Temps) (u : Mach) → Below w (t + 1) temps u → Keeps temps → Keeps u.temps
    keeps temps u h k = record { left = h t (omega arith) ∙ k.left; below = λ i lt. h i (omega (arith, lt)) ∙ k.below i lt }

    stores : (v : ℤ) (s : State) (temps : Temps) (u : Mach) → HasType (homes wd) ty (Number v) → Keeps temps
        → HasValue w ty (t + 1) store_cost temps (Number v) s u
        → Ends store_code u (next (write (access wd.program ty sp to s) (Number v) s) (λ z s2. got (Number x) s2))
    stores v s temps u vt k h =
        bind w n (here w store_code) u (to_rest w restore_code) (HasValue w ty (t + 1) restore_cost temps) (to_rest w rest)
        (HasValue w ty t d b) (here w restore_code) (write (access wd.program ty sp to s) (Number v) s) _ (λ z. refl)
        (write_runs w (apart wd) n (t + 1) restore_cost store_cost temps ty site sp to s u (Number v) restore_code is_space
        (at_site u (keeps temps u h.same k).below) scalar vt (omega arith) h (access wd.program ty sp to s) refl)
        (λ z s2 u2 r. restores s2 u2 r.match (keeps temps u2 r.same k))

    backs : (r : Result ℤ Undefined) (q : ℤ) (s : State) (temps : Temps) (u : Mach) → HoldsNumber ts.result q → Keeps temps
        → HasValue w (type_of ts.result) (t + 1) back_cost temps (Number q) s u → brought (number_type ty) mode ts.result q ≡ r
        → Ends back_code u (kept_value wd ty sp to x (as_number r) s)
    backs (Err point) q s temps u hq k h f = tt
    backs (Ok v) q s temps u hq k h f =
        let into = conversion_into ty mode (operand_of wd.program (type_of ts.result) (Number q) s) q num in
        let is : conversion_result ty mode (operand_of wd.program (type_of ts.result) (Number q) s) ≡ Ok (Number v) = into
        ∙ ap (λ z. as_number (brought (number_type ty) mode z q)) (number_back ts.result) ∙ ap as_number f in
        let typed = value_number (homes wd) ty v num (held_ok (number_type ty) (brought (number_type ty) mode ts.result q) v
        (conversion_held (number_type ty) mode (operand ts.result q) (place_known ty num scalar)) f) in
        then_on wd code stack n back_code store_code u ty (t + 1) store_cost temps (Number v) s (to_rest w rest) (HasValue w ty t d b)
        (kept_value wd ty sp to x (Ok (Number v)) s)
        (conversion_runs w n (t + 1) store_cost back_cost temps ty mode (type_of ts.result) (Number q) s u store_code
        (type_scalar ts.result known.result) (type_holds (homes wd) ts.result q hq) (omega arith) h (Ok (Number v)) is)
        (λ u1 h1. stores v s temps u1 typed k h1)

    operates : (r : Result ℤ Undefined) (y : ℤ) (s : State) (temps : Temps) (u : Mach) → HoldsNumber ts.right y → Keeps temps
        → HasValue w (type_of ts.right) (t + 1) op_cost temps (Number y) s u → arithmetic_value op ts.result mode (operand ts.left a)
        (operand ts.right y) ≡ r
        → Ends op_code u (kept_value wd ty sp to x (as_number (then_with r (λ q. brought (number_type ty) mode ts.result q))) s)
    operates (Err point) y s temps u ny k h f = tt
    operates (Ok q) y s temps u ny k h f =
        let is : binary_result op (type_of ts.result) mode (operand_of wd.program (type_of ts.left) (Number a) s)
        (operand_of wd.program (type_of ts.right) (Number y) s) ≡ Ok (Number q) =
        ap (λ z. as_number (arithmetic_value op z mode (operand (number_type (type_of ts.left)) a)
        (operand (number_type (type_of ts.right)) y))) (number_back ts.result)
        ∙ ap (λ z. as_number (arithmetic_value op ts.result mode (operand z a) (operand (number_type (type_of ts.right)) y)))
        (number_back ts.left)
        ∙ ap (λ z. as_number (arithmetic_value op ts.result mode (operand ts.left a) (operand z y))) (number_back ts.right)
        ∙ ap as_number f in
        let hq = held_ok ts.result (arithmetic_value op ts.result mode (operand ts.left a) (operand ts.right y)) q (known.held a y) f in
        let k1 = keeps temps u h.same k in
        then_on wd code stack n op_code back_code u (type_of ts.result) (t + 1) back_cost u.temps (Number q) s (to_rest w rest)
        (HasValue w ty t d b) (kept_value wd ty sp to x (as_number (brought (number_type ty) mode ts.result q)) s)
        (binary_above w n t back_cost op_cost op (type_of ts.result) mode (type_of ts.left) (type_of ts.right) (Number a) (Number y)
        (Number q) s u back_code (type_scalar ts.left known.left) (type_holds (homes wd) ts.left a na) (type_scalar ts.right known.right)
        (type_holds (homes wd) ts.right y ny) (omega arith) h.match k1.left (h.value (type_scalar ts.right known.right)) is)
        (λ u1 h1. backs (brought (number_type ty) mode ts.result q) q s u.temps u1 hq k1 h1 refl)

    rights : (r : Result ℤ Undefined) (y : ℤ) (s : State) (u : Mach) → HasType (homes wd) int (Number y) → Keeps u.temps
        → Match (homes wd) (ports wd) (around w) right_cost s u → u.temps (t + 1) ≡ Some (held_of int (Number y))
        → brought ts.right mode (number_type int) y ≡ r
        → Ends right_code u (kept_value wd ty sp to x (as_number
        (then_with (then_with r (λ z. arithmetic_value op ts.result mode (operand ts.left a) (operand ts.right z)))
        (λ q. brought (number_type ty) mode ts.result q))) s)
    rights (Err point) y s u vy k h hy f = tt
    rights (Ok z) y s u vy k h hy f =
        let is : conversion_result (type_of ts.right) mode (operand_of wd.program int (Number y) s) ≡ Ok (Number z) =
        conversion_to ts.right mode (operand_of wd.program int (Number y) s) y ∙ ap as_number f in
        let nz = held_ok ts.right (brought ts.right mode (number_type int) y) z (conversion_held ts.right mode (operand (number_type int) y)
        known.right) f in
        then_on wd code stack n right_code op_code u (type_of ts.right) (t + 1) op_cost u.temps (Number z) s (to_rest w rest)
        (HasValue w ty t d b) _
        (conversion_runs w n (t + 1) op_cost right_cost u.temps (type_of ts.right) mode int (Number y) s u op_code (inr (inl refl)) vy
        (omega arith) (record { match = h; value = λ i. hy; same = λ i lt. refl }) (Ok (Number z)) is)
        (λ u1 h1. operates (arithmetic_value op ts.result mode (operand ts.left a) (operand ts.right z)) z s u.temps u1 nz k h1 refl)

    pub keep_runs : (y : ℤ) (s : State) (u : Mach) (e : ℕ) → conversion_words (type_of ts.left) ty + right_cost ≤ e
        → HasType (homes wd) ty (Number x) → HasType (homes wd) int (Number y) → Match (homes wd) (ports wd) (around w) e s u
        → u.temps t ≡ Some (held_of ty (Number x)) → u.temps (t + 1) ≡ Some (held_of int (Number y)) → Below w t b u
        → brought ts.left mode (number_type ty) x ≡ Ok a → Ends (keeping_code op ts mode ty site t int rest) u
        (kept_value wd ty sp to x (as_number (then_with (then_with (brought ts.right mode (number_type int) y)
        (λ z. arithmetic_value op ts.result mode (operand ts.left a) (operand ts.right z)))
        (λ q. brought (number_type ty) mode ts.result q))) s)
    keep_runs y s u e le vx vy h hx hy same f =
        let is : conversion_result (type_of ts.left) mode (operand_of wd.program ty (Number x) s) ≡ Ok (Number a) =
        conversion_to ts.left mode (operand_of wd.program ty (Number x) s) x ∙ ap as_number f in
        let d1 = conversion_beside w n t right_cost e b (type_of ts.left) mode ty (Number x) (held_of int (Number y))
        (Number a) s u right_code scalar vx le (record { match = h; value = λ i. hx; same = same }) hy is in
        after w (to_rest w rest) (HasValue w ty t d b) n (here w (keeping_code op ts mode ty site t int rest)) (here w right_code) u d1.0 _
        d1.2
        (rights (brought ts.right mode (number_type int) y) y s d1.0 vy (record {
          left = d1.1.0.value (type_scalar ts.left known.left);
          below = d1.1.0.same;
        }) d1.1.0.match d1.1.1 refl)
