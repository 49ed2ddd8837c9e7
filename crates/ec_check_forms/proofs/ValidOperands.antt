-- Values and conversions of valid operands are valid.
use Rattle.std.proofs.Common.{◌≡◌, ◌≤◌, ◌<◌, ◌+◌, ℕ, zero, suc, Bool, true, false, not, ◌&&◌, ◌||◌, refl, sym, ap, ◌∙◌, subst, inl, inr}
use Rattle.std.proofs.Common.{arith}
use Rattle.std.specs.Prelude.{if◌then◌else◌, ◌⊎◌, ⊤, List, length, Option, Some, None, IsSomeAnd, IsTrue}
use Rattle.std.specs.Bool.{Decides}
use Rattle.std.proofs.lemmas.Bool.{true≢false, false≢true, and_parts, and_from, or_parts, not-true, not-false, both_ways}
use Rattle.ec_iohw.specs.declared.table.IoTable.{IoTable}
use Rattle.ec_space.specs.declared.space.SpaceId.{SpaceId}
use Rattle.ec_space.specs.Spaces.{encloses}
use Rattle.ec_space.specs.SpaceLaws.{test_from_Encloses}
use Rattle.ec_core.specs.declared.arithmetic_types.Arithmetic.{Arithmetic}
use Rattle.ec_core.specs.declared.arithmetic_types.Arithmetic.TheVariants.{Integer, Fixed}
use Rattle.ec_core.specs.ArithmeticTypes.{type_of}
use Rattle.ec_core.specs.ArithmeticValues.{IsKnownType}
use Rattle.ec_core.specs.Laws.{TypesAreTold}
use Rattle.ec_core.specs.Layout.{Layout, repeated, type_layout, struct_layouts, size_of_type, IsScalar, IsElement, IsObjectForm}
use Rattle.ec_core.specs.Operators.{same_type}
use Rattle.ec_core.specs.Plain.{PlainType, void, integer, fixed, pointer, array, struct, PlainStruct, PlainExpr, expression, PlainNode}
use Rattle.ec_core.specs.Plain.{null, load, address_of, convert, deref, PlainProgram}
use Rattle.ec_core.specs.Typing.{type_of_expr, AreConvertible, IsElementOf, place_type}
use Rattle.ec_core.specs.Valid.{IsExprType, ValidExpr, HasAddress}
use Rattle.ec_check_operands.specs.declared.operands.Modes.{Modes}
use Rattle.ec_check_forms.specs.Constraints.{IsInteger, IsArithmetic, IsPointer, IsScalar as IsScalarKind, PointToOneType, HaveNestedSpaces}
use Rattle.ec_check_forms.specs.Constraints.{Passes, CanBeCast}
use Rattle.ec_check_forms.specs.Nodes.{pointed, condition}
use Rattle.ec_check_forms.specs.Choices.{castable}
use Rattle.ec_check_operands.specs.Operands.{Operand, place, value, made, value_type, as_value, is_null, converted, valued, with_one}
use Rattle.ec_check_operands.specs.Operands.{with_both}
use Rattle.ec_check_operands.specs.Passing.{passes, in_type, brought, passed}
use Rattle.ec_check_operands.specs.Sorts.{is_arithmetic, is_pointer, is_scalar, is_struct, same_pointee, narrows, drops_const, nest}
use Rattle.ec_check_forms.specs.Validity.{IsUsable, IsPlaceType, IsPlace, IsValue, IsOperand, IsOptional, IsOfType, IsCondition}
use Rattle.ec_check_forms.proofs.Decided.{scalars, pointers, enclosing, passing_held}
use Rattle.ec_check_forms.proofs.ValidNumbers.{IsNumber, convertible}

-- what holds of both cases of a choice holds of it
pub if_both : {A : Type 0} → (P : A → Type 0) (b : Bool) (x y : A) → (b ≡ true → P x) → (b ≡ false → P y) → P (if b then x else y)
if_both P true x y h k = h refl
if_both P false x y h k = k refl

-- ---- types

some_more : (r s : ℕ) → (1 ≤ r → 1 ≤ s) → 1 ≤ r + s → 1 ≤ s
some_more r zero f h = f (omega arith)
some_more r (suc s) f h = omega arith

some_repeated : (n : ℕ) (a : Layout) → 1 ≤ (repeated n a).size → 1 ≤ a.size
some_repeated zero a h = let k : 1 ≤ 0 = h in absurd (omega arith)
some_repeated (suc n) a h = some_more (repeated n a).size a.size (some_repeated n a) h

element_form : (ty : PlainType) → IsElement ty → IsObjectForm ty
element_form void h = h
element_form (integer signed bytes) h = h
element_form (fixed kind sat) h = tt
element_form (pointer space const to) h = tt
element_form (array of len) h = absurd h
element_form (struct index) h = tt

pub element_type : (structs : List PlainStruct) (of : PlainType) (len : ℕ) → IsPlaceType structs (array of len) → IsPlaceType structs of
element_type structs of len h = record {
  object = record { names = h.object.names; form = element_form of h.object.form.0 };
  some = some_repeated len (type_layout (struct_layouts structs) of) h.some;
  usable = h.usable;
}

pub expr_type_of : (p : PlainProgram) (ty : PlainType) → IsScalar ty → IsUsable p.structs ty → IsExprType p ty
expr_type_of p void s u = tt
expr_type_of p (integer signed bytes) s u = u
expr_type_of p (fixed kind sat) s u = tt
expr_type_of p (pointer space const to) s u = (u.0, u.1)
expr_type_of p (array of len) s u = s
expr_type_of p (struct index) s u = s

-- a number or a pointer that can be used is scalar
pub scalar_kind : (structs : List PlainStruct) (ty : PlainType) → IsScalarKind ty → IsUsable structs ty → IsScalar ty
scalar_kind structs (integer signed bytes) k u = u
scalar_kind structs (fixed kind sat) k u = tt
scalar_kind structs (pointer space const to) k u = tt
scalar_kind structs void (inl h) u = h
scalar_kind structs void (inr h) u = h
scalar_kind structs (array of len) (inl h) u = h
scalar_kind structs (array of len) (inr h) u = h
scalar_kind structs (struct index) (inl h) u = h
scalar_kind structs (struct index) (inr h) u = h

pub known_type : (structs : List PlainStruct) (t : Arithmetic) → IsUsable structs (type_of t) → IsKnownType t
known_type structs (Integer t) u = u
known_type structs (Fixed t) u = tt

pub known_usable : (structs : List PlainStruct) (t : Arithmetic) → IsKnownType t → IsUsable structs (type_of t)
known_usable structs (Integer t) k = k
known_usable structs (Fixed t) k = tt

-- ---- the value of an operand

-- a valid expression whose type can be used
pub record IsGood (p : PlainProgram) (table : IoTable) (f : ℕ) (e : PlainExpr) : Type 0 where
  pub valid : ValidExpr p table f e
  pub usable : IsUsable p.structs (type_of_expr e)

pub value_types_agree : (m : Modes) (x : Operand) → type_of_expr (as_value m x) ≡ value_type x
value_types_agree m (place void const space register q) = refl
value_types_agree m (place (integer signed bytes) const space register q) = refl
value_types_agree m (place (fixed kind sat) const space register q) = refl
value_types_agree m (place (pointer s k t) const space register q) = refl
value_types_agree m (place (array of len) const space register q) = refl
value_types_agree m (place (struct index) const space register q) = refl
value_types_agree m (value e n) = refl

-- a field of one of these two: the second holds of no array
has_address : (p : PlainProgram) (table : IoTable) (f : ℕ) (of : PlainType) (len : ℕ) (register : Bool) (A : Type 0)
    → A ⊎ ((register ≡ true) × IsArithmetic (array of len)) → A
has_address p table f of len register A (inl h) = h
has_address p table f of len register A (inr h) = absurd h.1

-- every value but a struct's is good
pub good_value : (p : PlainProgram) (table : IoTable) (f : ℕ) (m : Modes) (x : Operand) → IsOperand p table f x
    → is_struct (type_of_expr (as_value m x)) ≡ false → IsGood p table f (as_value m x)
good_value p table f m (value e n) h s = record { valid = h.valid; usable = h.usable }
good_value p table f m (place void const space register q) h s = absurd h.kind.object.form
good_value p table f m (place (integer signed bytes) const space register q) h s =
    record { valid = (h.kind.usable, (h.kind.usable, h.typed), h.parts); usable = h.kind.usable }
good_value p table f m (place (fixed kind sat) const space register q) h s =
    record { valid = (tt, (tt, h.typed), h.parts); usable = tt }
good_value p table f m (place (pointer r k t) const space register q) h s =
    record { valid = ((h.kind.usable.0, h.kind.usable.1), (tt, h.typed), h.parts); usable = h.kind.usable }
good_value p table f m (place (array of len) const space register q) h s =
    let el = element_type p.structs of len h.kind in
    let held : IsSomeAnd (place_type p q) (λ ty. (ty ≡ of) ⊎ IsElementOf of ty) =
    subst (λ (o : Option PlainType). IsSomeAnd o (λ ty. (ty ≡ of) ⊎ IsElementOf of ty)) (sym h.typed) (inr refl) in
    record {
      valid = (
        (el.object, el.some),
        (h.spaced, h.constness, held),
        (h.parts, has_address p table f of len register (HasAddress p q) h.addressed),
      );
      usable = (el.object, el.some, el.usable);
    }
good_value p table f m (place (struct index) const space register q) h s = absurd (true≢false s)

-- a good expression is an operand
pub valued_good : (p : PlainProgram) (table : IoTable) (f : ℕ) (e : PlainExpr) → IsGood p table f e → IsOptional p table f (valued e)
valued_good p table f e g = record { valid = g.valid; usable = g.usable; null = λ z. absurd (false≢true z) }

pub good_number : (p : PlainProgram) (table : IoTable) (f : ℕ) (e : PlainExpr) (t : Arithmetic) → IsNumber p table f e t
    → IsGood p table f e
good_number p table f e t n =
    record { valid = n.valid; usable = subst (λ (ty : PlainType). IsUsable p.structs ty) (sym n.ty) (known_usable p.structs t n.known) }

-- where there is a value, what follows from it
pub with_one_valid : {A : Type 0} → (p : PlainProgram) (table : IoTable) (f : ℕ) (o : Option A) (g : A → Option Operand)
    → ((a : A) → o ≡ Some a → IsOptional p table f (g a)) → IsOptional p table f (with_one o g)
with_one_valid p table f None g h = tt
with_one_valid p table f (Some a) g h = h a refl

-- the value null is of an integer type
pub null_integer : (p : PlainProgram) (table : IoTable) (f : ℕ) (m : Modes) (x : Operand) → IsOperand p table f x → is_null x ≡ true
    → IsInteger (type_of_expr (as_value m x))
null_integer p table f m (value e n) h z = h.null z
null_integer p table f m (place ty const space register q) h z = absurd (false≢true z)

-- what a pointer points to
pub pointed_valid : (p : PlainProgram) (table : IoTable) (f : ℕ) (e : PlainExpr) → (is_struct (type_of_expr e) ≡ false → IsGood p table f e)
    → IsOptional p table f (pointed e)
pointed_valid p table f (expression (pointer s k t) mode node) h =
    let g = h refl in
    record {
      kind = record { object = g.usable.0; some = g.usable.1; usable = g.usable.2 };
      typed = refl;
      spaced = refl;
      constness = refl;
      parts = g.valid;
      addressed = inl tt;
    }
pointed_valid p table f (expression void mode node) h = tt
pointed_valid p table f (expression (integer signed bytes) mode node) h = tt
pointed_valid p table f (expression (fixed kind sat) mode node) h = tt
pointed_valid p table f (expression (array of len) mode node) h = tt
pointed_valid p table f (expression (struct index) mode node) h = tt

-- ---- conversions

-- a conversion leads to the type: from the null constant, or from a type that converts to it
abbrev pub Reaches : Modes → Operand → PlainType → Type 0
Reaches m x to = ((is_null x ≡ true) × IsPointer to) ⊎ AreConvertible to (type_of_expr (as_value m x))

null_valid : (p : PlainProgram) (table : IoTable) (f : ℕ) (m : Modes) (to : PlainType) → IsPointer to → IsUsable p.structs to
    → ValidExpr p table f (made m to null)
null_valid p table f m (pointer s k t) h u = ((u.0, u.1), tt, tt)
null_valid p table f m void h u = absurd h
null_valid p table f m (integer signed bytes) h u = absurd h
null_valid p table f m (fixed kind sat) h u = absurd h
null_valid p table f m (array of len) h u = absurd h
null_valid p table f m (struct index) h u = absurd h

pub converted_valid : TypesAreTold → (p : PlainProgram) (table : IoTable) (f : ℕ) (m : Modes) (to : PlainType) (e : PlainExpr)
    → ValidExpr p table f e → IsScalar to → IsUsable p.structs to → AreConvertible to (type_of_expr e)
    → IsOfType p table f to (Some (converted m to e))
converted_valid told p table f m to e v s u c =
    if_both (λ z. IsOfType p table f to (Some z)) (same_type (type_of_expr e) to) e (made m to (convert e))
    (λ q. (v, told.same (type_of_expr e) to q)) (λ q. ((expr_type_of p to s u, (s, c), v), refl))

convertible_no_struct : (to from : PlainType) → AreConvertible to from → is_struct from ≡ false
convertible_no_struct to void c = refl
convertible_no_struct to (integer signed bytes) c = refl
convertible_no_struct to (fixed kind sat) c = refl
convertible_no_struct to (pointer s k t) c = refl
convertible_no_struct to (array of len) c = refl
convertible_no_struct void (struct index) c = absurd c
convertible_no_struct (integer signed bytes) (struct index) c = absurd c
convertible_no_struct (fixed kind sat) (struct index) c = absurd c
convertible_no_struct (pointer s k t) (struct index) c = absurd c
convertible_no_struct (array of len) (struct index) c = absurd c
convertible_no_struct (struct n) (struct index) c = absurd c

pub in_type_valid : TypesAreTold → (p : PlainProgram) (table : IoTable) (f : ℕ) (m : Modes) (to : PlainType) (x : Operand)
    → IsOperand p table f x → IsScalar to → IsUsable p.structs to → Reaches m x to
    → IsOfType p table f to (Some (in_type m to x))
in_type_valid told p table f m to x v s u r =
    if_both (λ z. IsOfType p table f to (Some z)) (is_null x && is_pointer to) (made m to null) (converted m to (as_value m x))
    (λ q. (null_valid p table f m to ((pointers to).0 (and_parts (is_null x) (is_pointer to) q).1) u, refl))
    (λ q. other r q)
  where
    other : Reaches m x to → (is_null x && is_pointer to) ≡ false → IsOfType p table f to (Some (converted m to (as_value m x)))
    other (inl (z, h)) q = absurd (both_ways (is_null x && is_pointer to) q (and_from (is_null x) (is_pointer to) z ((pointers to).1 h)))
    other (inr c) q =
        converted_valid told p table f m to (as_value m x)
        (good_value p table f m x v (convertible_no_struct to (type_of_expr (as_value m x)) c)).valid s u c

-- ---- where conversions lead

numbers_convert : (to from : PlainType) → IsArithmetic from → IsArithmetic to → AreConvertible to from
numbers_convert (integer s b) (integer t c) h k = tt
numbers_convert (integer s b) (fixed t c) h k = tt
numbers_convert (fixed s b) (integer t c) h k = tt
numbers_convert (fixed s b) (fixed t c) h k = tt
numbers_convert to void h k = absurd h
numbers_convert to (pointer s k t) h j = absurd h
numbers_convert to (array of len) h k = absurd h
numbers_convert to (struct index) h k = absurd h
numbers_convert void (integer t c) h k = absurd k
numbers_convert (pointer s j t) (integer u c) h k = absurd k
numbers_convert (array of len) (integer t c) h k = absurd k
numbers_convert (struct index) (integer t c) h k = absurd k
numbers_convert void (fixed t c) h k = absurd k
numbers_convert (pointer s j t) (fixed u c) h k = absurd k
numbers_convert (array of len) (fixed t c) h k = absurd k
numbers_convert (struct index) (fixed t c) h k = absurd k

pointers_convert : (to from : PlainType) → PointToOneType from to → HaveNestedSpaces from to → AreConvertible to from
pointers_convert (pointer s k t) (pointer r c u) e (inl h) = (sym e, inr (test_from_Encloses r s h))
pointers_convert (pointer s k t) (pointer r c u) e (inr h) = (sym e, inl (test_from_Encloses s r h))
pointers_convert to void e h = absurd e
pointers_convert to (integer signed bytes) e h = absurd e
pointers_convert to (fixed kind sat) e h = absurd e
pointers_convert to (array of len) e h = absurd e
pointers_convert to (struct index) e h = absurd e
pointers_convert void (pointer r c u) e h = absurd e
pointers_convert (integer signed bytes) (pointer r c u) e h = absurd e
pointers_convert (fixed kind sat) (pointer r c u) e h = absurd e
pointers_convert (array of len) (pointer r c u) e h = absurd e
pointers_convert (struct index) (pointer r c u) e h = absurd e

-- a cast leads to its type
pub cast_reaches : (m : Modes) (x : Operand) (to : PlainType) → CanBeCast x to → Reaches m x to
cast_reaches m x to (inl (a, b)) =
    inr (numbers_convert to (type_of_expr (as_value m x)) (subst IsArithmetic (sym (value_types_agree m x)) a) b)
cast_reaches m x to (inr (inl h)) = inl h
cast_reaches m x to (inr (inr (e, h))) =
    inr (subst (λ (ty : PlainType). AreConvertible to ty) (sym (value_types_agree m x)) (pointers_convert to (value_type x) e h))

-- the type that a cast or a conversion leads to is a number's or a pointer's
pointee_pointer : (a b : PlainType) → PointToOneType a b → IsPointer b
pointee_pointer (pointer s k t) (pointer r c u) e = tt
pointee_pointer (pointer s k t) void e = e
pointee_pointer (pointer s k t) (integer signed bytes) e = e
pointee_pointer (pointer s k t) (fixed kind sat) e = e
pointee_pointer (pointer s k t) (array of len) e = e
pointee_pointer (pointer s k t) (struct index) e = e
pointee_pointer void b e = absurd e
pointee_pointer (integer signed bytes) b e = absurd e
pointee_pointer (fixed kind sat) b e = absurd e
pointee_pointer (array of len) b e = absurd e
pointee_pointer (struct index) b e = absurd e

pub cast_scalar : (x : Operand) (to : PlainType) → CanBeCast x to → IsScalarKind to
cast_scalar x to (inl (a, b)) = inl b
cast_scalar x to (inr (inl (z, h))) = inr h
cast_scalar x to (inr (inr (e, h))) = inr (pointee_pointer (value_type x) to e)

-- a pointer that keeps to its space can be cast there
kept_in_space : (a b : PlainType) → PointToOneType a b → narrows a b ≡ false → HaveNestedSpaces a b
kept_in_space (pointer s k t) (pointer r c u) e n = inr ((enclosing r s).0 (not-false (encloses r s) n))
kept_in_space (pointer s k t) void e n = absurd e
kept_in_space (pointer s k t) (integer signed bytes) e n = absurd e
kept_in_space (pointer s k t) (fixed kind sat) e n = absurd e
kept_in_space (pointer s k t) (array of len) e n = absurd e
kept_in_space (pointer s k t) (struct index) e n = absurd e
kept_in_space void b e n = absurd e
kept_in_space (integer signed bytes) b e n = absurd e
kept_in_space (fixed kind sat) b e n = absurd e
kept_in_space (array of len) b e n = absurd e
kept_in_space (struct index) b e n = absurd e

passing_casts : (x : Operand) (to : PlainType) → Passes x to → narrows (value_type x) to ≡ false → CanBeCast x to
passing_casts x to (inl h) n = inl h
passing_casts x to (inr (inl h)) n = inr (inl h)
passing_casts x to (inr (inr e)) n = inr (inr (e, kept_in_space (value_type x) to e n))

pub brought_valid : TypesAreTold → (p : PlainProgram) (table : IoTable) (f : ℕ) (m : Modes) (to : PlainType) (x : Operand)
    → IsOperand p table f x → IsScalar to → IsUsable p.structs to → IsOfType p table f to (brought m to x)
brought_valid told p table f m to x v s u =
    if_both (IsOfType p table f to)
    (passes (value_type x) (is_null x) to && not (narrows (value_type x) to || drops_const (value_type x) to))
    (Some (in_type m to x)) None
    (λ q. given (and_parts (passes (value_type x) (is_null x) to) (not (narrows (value_type x) to || drops_const (value_type x) to)) q))
    (λ q. tt)
  where
    given : (passes (value_type x) (is_null x) to ≡ true) × (not (narrows (value_type x) to || drops_const (value_type x) to) ≡ true)
        → IsOfType p table f to (Some (in_type m to x))
    given (h, n) =
        let out = or_parts (narrows (value_type x) to) (drops_const (value_type x) to)
        (not-true (narrows (value_type x) to || drops_const (value_type x) to) n) in
        in_type_valid told p table f m to x v s u
        (cast_reaches m x to (passing_casts x to ((passing_held told x to).0 h) out.0))

pub passed_valid : TypesAreTold → (p : PlainProgram) (table : IoTable) (f : ℕ) (m : Modes) (to : PlainType) (x : Option Operand)
    → IsOptional p table f x → IsScalar to → IsUsable p.structs to → IsOfType p table f to (passed m (Some to) x)
passed_valid told p table f m to None v s u = tt
passed_valid told p table f m to (Some x) v s u = brought_valid told p table f m to x v s u

-- ---- conditions

kind_no_struct : (ty : PlainType) → IsScalarKind ty → is_struct ty ≡ false
kind_no_struct void h = refl
kind_no_struct (integer signed bytes) h = refl
kind_no_struct (fixed kind sat) h = refl
kind_no_struct (pointer s k t) h = refl
kind_no_struct (array of len) h = refl
kind_no_struct (struct index) (inl h) = absurd h
kind_no_struct (struct index) (inr h) = absurd h

-- a value of a number's or a pointer's type
pub record IsScalarValue (p : PlainProgram) (table : IoTable) (f : ℕ) (e : PlainExpr) : Type 0 where
  pub good : IsGood p table f e
  pub scalar : IsScalar (type_of_expr e)

pub scalar_value : (p : PlainProgram) (table : IoTable) (f : ℕ) (m : Modes) (x : Operand) → IsOperand p table f x
    → IsScalarKind (value_type x) → IsScalarValue p table f (as_value m x)
scalar_value p table f m x v k =
    let here : IsScalarKind (type_of_expr (as_value m x)) = subst IsScalarKind (sym (value_types_agree m x)) k in
    let g = good_value p table f m x v (kind_no_struct (type_of_expr (as_value m x)) here) in
    record { good = g; scalar = scalar_kind p.structs (type_of_expr (as_value m x)) here g.usable }

pub condition_valid : (p : PlainProgram) (table : IoTable) (f : ℕ) (m : Modes) (x : Option Operand) → IsOptional p table f x
    → IsCondition p table f (condition m x)
condition_valid p table f m None v = tt
condition_valid p table f m (Some x) v =
    if_both (IsCondition p table f) (is_scalar (value_type x)) (Some (as_value m x)) None
    (λ q. let g = scalar_value p table f m x v ((scalars (value_type x)).0 q) in (g.good.valid, g.scalar)) (λ q. tt)
