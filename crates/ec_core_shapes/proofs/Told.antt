-- Two shapes that are told to be the same are equal.
use Rattle.std.proofs.Common.{◌≡◌, ℕ, Bool, true, false, ◌&&◌, ◌==◌, List, [], ◌∷◌, Some, refl, sym, ap, ◌∙◌, eqb-true, eq-eqb}
use Rattle.std.specs.Prelude.{slice_get}
use Rattle.ec_fx.specs.declared.numbers.Mode.{Mode}
use Rattle.ec_core.specs.declared.expressions.BinOp.{BinOp}
use Rattle.ec_core.specs.declared.expressions.BinOp.TheVariants.{Add, Sub, Mul, Div, Rem, Shl, Shr, And, Or, Xor, Lt, Gt, Le, Ge, Eq, Ne}
use Rattle.ec_core.specs.declared.expressions.UnOp.{UnOp}
use Rattle.ec_core.specs.declared.expressions.UnOp.TheVariants.{Minus, Invert}
use Rattle.ec_core.specs.Operators.{same_bool, same_type}
use Rattle.ec_core.specs.Plain.{PlainType}
use Rattle.ec_core.proofs.Sameness.{and_true, true_and, bool_true, type_true, type_itself}
use Rattle.ec_shapes.specs.Shapes.{IsTest}
use Rattle.ec_core_shapes.specs.Shapes.{Form, unary_form, binary_form, conversion_form, compound_form, step_form, Shape, unary_number}
use Rattle.ec_core_shapes.specs.Shapes.{binary_number, same_mode, same_types, same_form, same_shape}

unary_true : (a b : UnOp) → (unary_number a == unary_number b) ≡ true → a ≡ b
unary_true Minus Minus e = refl
unary_true Minus Invert e = cc
unary_true Invert Minus e = cc
unary_true Invert Invert e = refl

operators : List BinOp
operators = Add ∷ Sub ∷ Mul ∷ Div ∷ Rem ∷ Shl ∷ Shr ∷ And ∷ Or ∷ Xor ∷ Lt ∷ Gt ∷ Le ∷ Ge ∷ Eq ∷ Ne ∷ []

operator_found : (op : BinOp) → slice_get operators (binary_number op) ≡ Some op
unfolding operators
operator_found Add = refl
operator_found Sub = refl
operator_found Mul = refl
operator_found Div = refl
operator_found Rem = refl
operator_found Shl = refl
operator_found Shr = refl
operator_found And = refl
operator_found Or = refl
operator_found Xor = refl
operator_found Lt = refl
operator_found Gt = refl
operator_found Le = refl
operator_found Ge = refl
operator_found Eq = refl
operator_found Ne = refl

binary_true : (a b : BinOp) → (binary_number a == binary_number b) ≡ true → a ≡ b
binary_true a b e =
    let n : binary_number a ≡ binary_number b = eqb-true (binary_number a) (binary_number b) e in
    let g : Some a ≡ Some b = sym (operator_found a) ∙ ap (slice_get operators) n ∙ operator_found b in
    cc

saturating : (s t : Bool) → s ≡ t → (let m : Mode = record { saturate = s } in let n : Mode = record { saturate = t } in m ≡ n)
saturating s t e = ap (λ (x : Bool). let m : Mode = record { saturate = x } in m) e

mode_true : (m n : Mode) → same_mode m n ≡ true → m ≡ n
mode_true m n e = saturating m.saturate n.saturate (bool_true m.saturate n.saturate e)

types_true : (xs ys : List PlainType) → same_types xs ys ≡ true → xs ≡ ys
types_true [] [] e = refl
types_true [] (b ∷ ys) e = cc
types_true (a ∷ xs) [] e = cc
types_true (a ∷ xs) (b ∷ ys) e =
    let p = and_true (same_type a b) (same_types xs ys) e in
    let f : a ≡ b = type_true a b p.0 in
    let g : xs ≡ ys = types_true xs ys p.1 in
    cc

form_true : (f g : Form) → same_form f g ≡ true → f ≡ g
form_true (unary_form a) (unary_form b) e = ap unary_form (unary_true a b e)
form_true (unary_form a) (binary_form b) e = cc
form_true (unary_form a) conversion_form e = cc
form_true (unary_form a) (compound_form b n) e = cc
form_true (unary_form a) (step_form b) e = cc
form_true (binary_form a) (unary_form b) e = cc
form_true (binary_form a) (binary_form b) e = ap binary_form (binary_true a b e)
form_true (binary_form a) conversion_form e = cc
form_true (binary_form a) (compound_form b n) e = cc
form_true (binary_form a) (step_form b) e = cc
form_true conversion_form (unary_form b) e = cc
form_true conversion_form (binary_form b) e = cc
form_true conversion_form conversion_form e = refl
form_true conversion_form (compound_form b n) e = cc
form_true conversion_form (step_form b) e = cc
form_true (compound_form a m) (unary_form b) e = cc
form_true (compound_form a m) (binary_form b) e = cc
form_true (compound_form a m) conversion_form e = cc
form_true (compound_form a m) (compound_form b n) e =
    let p = and_true (binary_number a == binary_number b) (same_mode m n) e in
    let f : a ≡ b = binary_true a b p.0 in
    let g : m ≡ n = mode_true m n p.1 in
    cc
form_true (compound_form a m) (step_form b) e = cc
form_true (step_form a) (unary_form b) e = cc
form_true (step_form a) (binary_form b) e = cc
form_true (step_form a) conversion_form e = cc
form_true (step_form a) (compound_form b n) e = cc
form_true (step_form a) (step_form b) e = ap step_form (bool_true a b e)

abbrev formed : Form → PlainType → List PlainType → Mode → ℕ → Shape
formed f ty tys m b = record { form = f; ty = ty; operands = tys; mode = m; bytes = b }

parts_true : (f g : Form) (a b : PlainType) (xs ys : List PlainType) (m n : Mode) (i j : ℕ)
    → f ≡ g → a ≡ b → xs ≡ ys → m ≡ n → i ≡ j → formed f a xs m i ≡ formed g b ys n j
parts_true f g a b xs ys m n i j e1 e2 e3 e4 e5 =
    ap (λ x. formed x a xs m i) e1 ∙ ap (λ x. formed g x xs m i) e2 ∙ ap (λ x. formed g b x m i) e3 ∙ ap (λ x. formed g b ys x i) e4
    ∙ ap (λ x. formed g b ys n x) e5

shape_true : (s t : Shape) → same_shape s t ≡ true → s ≡ t
shape_true s t e =
    let p = and_true (same_form s.form t.form && same_type s.ty t.ty && same_types s.operands t.operands && same_mode s.mode t.mode)
    (s.bytes == t.bytes) e in
    let q = and_true (same_form s.form t.form && same_type s.ty t.ty && same_types s.operands t.operands) (same_mode s.mode t.mode) p.0 in
    let r = and_true (same_form s.form t.form && same_type s.ty t.ty) (same_types s.operands t.operands) q.0 in
    let u = and_true (same_form s.form t.form) (same_type s.ty t.ty) r.0 in
    parts_true s.form t.form s.ty t.ty s.operands t.operands s.mode t.mode s.bytes t.bytes
    (form_true s.form t.form u.0) (type_true s.ty t.ty u.1) (types_true s.operands t.operands r.1) (mode_true s.mode t.mode q.1)
    (eqb-true s.bytes t.bytes p.1)

-- ---- equal, and so told to be the same

bool_itself : (a : Bool) → same_bool a a ≡ true
bool_itself true = refl
bool_itself false = refl

types_itself : (tys : List PlainType) → same_types tys tys ≡ true
types_itself [] = refl
types_itself (ty ∷ tys) = true_and _ _ (type_itself ty) (types_itself tys)

form_itself : (f : Form) → same_form f f ≡ true
form_itself (unary_form a) = eq-eqb (unary_number a) (unary_number a) refl
form_itself (binary_form a) = eq-eqb (binary_number a) (binary_number a) refl
form_itself conversion_form = refl
form_itself (compound_form a m) = true_and _ _ (eq-eqb (binary_number a) (binary_number a) refl) (bool_itself m.saturate)
form_itself (step_form a) = bool_itself a

shape_itself : (s : Shape) → same_shape s s ≡ true
shape_itself s =
    true_and _ _ (true_and _ _ (true_and _ _ (true_and _ _ (form_itself s.form) (type_itself s.ty)) (types_itself s.operands))
    (bool_itself s.mode.saturate)) (eq-eqb s.bytes s.bytes refl)

pub shapes_told : IsTest same_shape
shapes_told = record { own = shape_itself; one = shape_true }
