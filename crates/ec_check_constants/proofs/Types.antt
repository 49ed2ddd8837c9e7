-- What the tests of types and numbers tell, and that they tell it.
use Rattle.std.proofs.Common.{◌≡◌, ◌∙◌, ℕ, ℤ, refl, sym, ap, inl, inr, Bool, true, false, ◌||◌, not, arith, eqb-true, eq-eqb}
use Rattle.std.proofs.lemmas.Int.{ints}
use Rattle.std.specs.Prelude.{⊤, IsTrue, IsSomeAnd, ◌==◌, nat_lt, int_le, ◌≤ℤ◌, if◌then◌else◌}
use Rattle.ec_fx.specs.Formats.{format_of}
use Rattle.ec_fx.specs.Ranges.{least, greatest, IsWithin}
use Rattle.ec_core.specs.declared.arithmetic_types.Arithmetic.{Arithmetic}
use Rattle.ec_core.specs.declared.arithmetic_types.Arithmetic.TheVariants.{Integer, Fixed}
use Rattle.ec_core.specs.declared.arithmetic_types.IntegerType.{IntegerType}
use Rattle.ec_core.specs.declared.expressions.BinOp.{BinOp}
use Rattle.ec_core.specs.declared.expressions.BinOp.TheVariants.{Add, Sub, Mul, Div, Rem, Shl, Shr, And, Or, Xor, Lt, Gt, Le, Ge, Eq, Ne}
use Rattle.ec_core.specs.declared.expressions.UnOp.{UnOp}
use Rattle.ec_core.specs.declared.expressions.UnOp.TheVariants.{Minus, Invert}
use Rattle.ec_core.specs.ArithmeticTypes.{arithmetic_of, type_of, promoted, common}
use Rattle.ec_core.specs.ArithmeticValues.{HoldsNumber, IsKnownType}
use Rattle.ec_core.specs.Integers.{width_of}
use Rattle.ec_core.specs.Laws.{TypesAreTold}
use Rattle.ec_core.specs.Layout.{IsIntegerSize}
use Rattle.ec_core.specs.Operators.{number_type, same_bool, same_type}
use Rattle.ec_core.specs.Plain.{PlainType, void, integer, fixed, pointer, array, struct}
use Rattle.ec_core.specs.Typing.{int, IsIntegerKind, IsPromoted, IsOneByteType, HaveOneSignedness, HaveCommonInteger, HaveUsualTypes}
use Rattle.ec_core.specs.Typing.{HaveProductTypes, HaveIntegerTypes, IsShiftCount, HaveShiftTypes, HaveComparedTypes, HaveArithmeticTypes}
use Rattle.ec_core.specs.Typing.{HaveUnaryTypes}
use Rattle.ec_core.proofs.Sameness.{and_true, true_and, bool_true}
use Rattle.ec_check_constants.specs.Constants.{IsNumeric}
use Rattle.ec_check_constants.specs.Tests.{is_integer_size, is_numeric, same_number_type, is_integer_kind, is_promoted, is_one_byte}
use Rattle.ec_check_constants.specs.Tests.{have_one_signedness, have_common_integer, have_usual_types, have_product_types}
use Rattle.ec_check_constants.specs.Tests.{have_integer_types, is_shift_count, have_shift_types, have_compared_types, have_arithmetic_types}
use Rattle.ec_check_constants.specs.Tests.{have_unary_types, is_within, holds_number}

-- ---- truth

pub truth : (b : Bool) → IsTrue b → b ≡ true
truth b h = h

pub told : (b : Bool) → b ≡ true → IsTrue b
told b e = e

true_bool : (a b : Bool) → a ≡ b → same_bool a b ≡ true
true_bool true b e = sym e
true_bool false true e = cc
true_bool false false e = refl

-- ---- types

third_size : (n : ℕ) (b : Bool) → (n == 4) ≡ b → b ≡ true → IsIntegerSize n
third_size n true q f = inr (inr (eqb-true n 4 q))
third_size n false q f = cc

second_size : (n : ℕ) (b : Bool) → (n == 2) ≡ b → (b || n == 4) ≡ true → IsIntegerSize n
second_size n true q f = inr (inl (eqb-true n 2 q))
second_size n false q f = third_size n (n == 4) refl f

first_size : (n : ℕ) (b : Bool) → (n == 1) ≡ b → (b || (n == 2 || n == 4)) ≡ true → IsIntegerSize n
first_size n true q f = inl (eqb-true n 1 q)
first_size n false q f = second_size n (n == 2) refl f

size_sound : (n : ℕ) → is_integer_size n ≡ true → IsIntegerSize n
size_sound n e = first_size n (n == 1) refl e

size_complete : (n : ℕ) → IsIntegerSize n → is_integer_size n ≡ true
size_complete n (inl e) = ap is_integer_size e
size_complete n (inr (inl e)) = ap is_integer_size e
size_complete n (inr (inr e)) = ap is_integer_size e

pub numeric_sound : (ty : PlainType) → is_numeric ty ≡ true → IsNumeric ty
numeric_sound void e = cc
numeric_sound (integer signed bytes) e = size_sound bytes e
numeric_sound (fixed kind saturates) e = tt
numeric_sound (pointer space const to) e = cc
numeric_sound (array of len) e = cc
numeric_sound (struct index) e = cc

pub numeric_complete : (ty : PlainType) → IsNumeric ty → is_numeric ty ≡ true
numeric_complete void h = absurd h
numeric_complete (integer signed bytes) h = size_complete bytes h
numeric_complete (fixed kind saturates) h = refl
numeric_complete (pointer space const to) h = absurd h
numeric_complete (array of len) h = absurd h
numeric_complete (struct index) h = absurd h

kind_sound : (t : Arithmetic) → is_integer_kind t ≡ true → IsIntegerKind t
kind_sound (Integer t) e = tt
kind_sound (Fixed t) e = cc

kind_complete : (t : Arithmetic) → IsIntegerKind t → is_integer_kind t ≡ true
kind_complete (Integer t) h = refl
kind_complete (Fixed t) h = absurd h

abbrev int_two : IntegerType
int_two = record { signed = true; bytes = 2 }

kept_by : (b : Bool) (t : IntegerType) → not b ≡ true → (if b then int_two else t) ≡ t
kept_by true t e = cc
kept_by false t e = refl

promoted_sound : (t : Arithmetic) → is_promoted t ≡ true → IsPromoted t
promoted_sound (Integer t) e = kept_by (nat_lt t.bytes 2) t e
promoted_sound (Fixed t) e = tt

wide_by : (b : Bool) (t : IntegerType) → nat_lt t.bytes 2 ≡ b → (if b then int_two else t) ≡ t → not b ≡ true
wide_by true t q e =
    let same : 2 ≡ t.bytes = ap (λ (s : IntegerType). s.bytes) e in
    let below : nat_lt 2 2 ≡ true = ap (λ n. nat_lt n 2) same ∙ q in
    cc
wide_by false t q e = refl

promoted_complete : (t : Arithmetic) → IsPromoted t → is_promoted t ≡ true
promoted_complete (Integer t) h = wide_by (nat_lt t.bytes 2) t refl h
promoted_complete (Fixed t) h = refl

byte_sound : (t : Arithmetic) → is_one_byte t ≡ true → IsOneByteType t
byte_sound (Integer t) e = eqb-true t.bytes 1 e
byte_sound (Fixed t) e = eqb-true (format_of t.kind).bits 8 e

byte_complete : (t : Arithmetic) → IsOneByteType t → is_one_byte t ≡ true
byte_complete (Integer t) h = ap (λ n. n == 1) h
byte_complete (Fixed t) h = ap (λ n. n == 8) h

signedness_sound : (x y : Arithmetic) → have_one_signedness x y ≡ true → HaveOneSignedness x y
signedness_sound (Integer x) y e = tt
signedness_sound (Fixed x) (Integer y) e = tt
signedness_sound (Fixed x) (Fixed y) e = bool_true _ _ e

signedness_complete : (x y : Arithmetic) → HaveOneSignedness x y → have_one_signedness x y ≡ true
signedness_complete (Integer x) y h = refl
signedness_complete (Fixed x) (Integer y) h = refl
signedness_complete (Fixed x) (Fixed y) h = true_bool _ _ h

-- ---- numbers

le_sound : (a b : ℤ) → int_le a b ≡ true → a ≤ℤ b
le_sound a b e = grind (arith, ints)

le_complete : (a b : ℤ) → a ≤ℤ b → int_le a b ≡ true
le_complete a b h = grind (arith, ints)

within_sound : (signed : Bool) (bits : ℕ) (n : ℤ) → is_within signed bits n ≡ true → IsWithin signed bits n
within_sound signed bits n e =
    let p = and_true (int_le (least signed bits) n) _ e in
    record { low = le_sound _ _ p.0; high = le_sound _ _ p.1 }

within_complete : (signed : Bool) (bits : ℕ) (n : ℤ) → IsWithin signed bits n → is_within signed bits n ≡ true
within_complete signed bits n h = true_and _ _ (le_complete _ _ h.low) (le_complete _ _ h.high)

pub number_sound : (t : Arithmetic) (n : ℤ) → holds_number t n ≡ true → HoldsNumber t n
number_sound (Integer t) n e =
    let p = and_true (is_integer_size t.bytes) _ e in (size_sound t.bytes p.0, within_sound t.signed (width_of t) n p.1)
number_sound (Fixed t) n e = within_sound _ _ n e

pub number_complete : (t : Arithmetic) (n : ℤ) → HoldsNumber t n → holds_number t n ≡ true
number_complete (Integer t) n h = true_and _ _ (size_complete t.bytes h.0) (within_complete t.signed (width_of t) n h.1)
number_complete (Fixed t) n h = within_complete _ _ n h

-- ---- operators

pub unary_sound : (op : UnOp) (t : Arithmetic) → have_unary_types op t ≡ true → HaveUnaryTypes op t
unary_sound Minus t e = promoted_sound t e
unary_sound Invert t e = let p = and_true (is_integer_kind t) _ e in (kind_sound t p.0, promoted_sound t p.1)

pub unary_complete : (op : UnOp) (t : Arithmetic) → HaveUnaryTypes op t → have_unary_types op t ≡ true
unary_complete Minus t h = promoted_complete t h
unary_complete Invert t h = true_and _ _ (kind_complete t h.0) (promoted_complete t h.1)

abbrev integer_in : Arithmetic → IntegerType
integer_in (Integer t) = t
integer_in (Fixed t) = int_two

number_of : (x : Arithmetic) → number_type (type_of x) ≡ x
number_of (Integer t) = refl
number_of (Fixed t) = refl

module _ (types : TypesAreTold) where
  same_sound : (x y : Arithmetic) → same_number_type x y ≡ true → x ≡ y
  same_sound x y e = sym (number_of x) ∙ ap number_type (types.same (type_of x) (type_of y) e) ∙ number_of y

  same_complete : (x y : Arithmetic) → x ≡ y → same_number_type x y ≡ true
  same_complete x y e = ap (λ z. same_number_type x z) (sym e) ∙ types.itself (type_of x)

  common_sound : (x y : Arithmetic) → have_common_integer x y ≡ true → HaveCommonInteger x y
  common_sound (Integer x) (Integer y) e =
      let p = and_true (same_number_type (Integer x) (Integer y)) _ e in
      (ap integer_in (same_sound (Integer x) (Integer y) p.0), promoted_sound (Integer x) p.1)
  common_sound (Integer x) (Fixed y) e = tt
  common_sound (Fixed x) y e = tt

  common_complete : (x y : Arithmetic) → HaveCommonInteger x y → have_common_integer x y ≡ true
  common_complete (Integer x) (Integer y) h =
      true_and _ _ (same_complete (Integer x) (Integer y) (ap Integer h.0)) (promoted_complete (Integer x) h.1)
  common_complete (Integer x) (Fixed y) h = refl
  common_complete (Fixed x) y h = refl

  usual_sound : (ty x y : Arithmetic) → have_usual_types ty x y ≡ true → HaveUsualTypes ty x y
  usual_sound ty x y e =
      let p = and_true (have_common_integer x y) _ e in
      let q = and_true (have_one_signedness x y) _ p.1 in
      record { integers = common_sound x y p.0; signedness = signedness_sound x y q.0; value = same_sound ty _ q.1 }

  usual_complete : (ty x y : Arithmetic) → HaveUsualTypes ty x y → have_usual_types ty x y ≡ true
  usual_complete ty x y h =
      true_and _ _ (common_complete x y h.integers)
      (true_and _ _ (signedness_complete x y h.signedness) (same_complete ty _ h.value))

  product_sound : (ty x y : Arithmetic) → have_product_types ty x y ≡ true → HaveProductTypes ty x y
  product_sound ty x y e =
      let p = and_true (is_one_byte x) _ e in
      let q = and_true (is_one_byte y) _ p.1 in
      let r = and_true (have_one_signedness x y) _ q.1 in
      record { left = byte_sound x p.0; right = byte_sound y q.0; signedness = signedness_sound x y r.0; value = same_sound ty _ r.1 }

  product_complete : (ty x y : Arithmetic) → HaveProductTypes ty x y → have_product_types ty x y ≡ true
  product_complete ty x y h =
      true_and _ _ (byte_complete x h.left) (true_and _ _ (byte_complete y h.right)
      (true_and _ _ (signedness_complete x y h.signedness) (same_complete ty _ h.value)))

  integer_sound : (ty x y : Arithmetic) → have_integer_types ty x y ≡ true → HaveIntegerTypes ty x y
  integer_sound ty x y e =
      let p = and_true (is_integer_kind x) _ e in
      let q = and_true (is_integer_kind y) _ p.1 in
      record { left = kind_sound x p.0; right = kind_sound y q.0; usual = usual_sound ty x y q.1 }

  integer_complete : (ty x y : Arithmetic) → HaveIntegerTypes ty x y → have_integer_types ty x y ≡ true
  integer_complete ty x y h =
      true_and _ _ (kind_complete x h.left) (true_and _ _ (kind_complete y h.right) (usual_complete ty x y h.usual))

  count_sound : (x y : Arithmetic) → is_shift_count x y ≡ true → IsShiftCount x y
  count_sound (Integer x) y e = let p = and_true (is_integer_kind y) _ e in (kind_sound y p.0, promoted_sound y p.1)
  count_sound (Fixed x) y e = kind_sound y e

  count_complete : (x y : Arithmetic) → IsShiftCount x y → is_shift_count x y ≡ true
  count_complete (Integer x) y h = true_and _ _ (kind_complete y h.0) (promoted_complete y h.1)
  count_complete (Fixed x) y h = kind_complete y h

  shift_sound : (ty x y : Arithmetic) → have_shift_types ty x y ≡ true → HaveShiftTypes ty x y
  shift_sound ty x y e =
      let p = and_true (is_promoted x) _ e in
      let q = and_true (is_shift_count x y) _ p.1 in
      record { left = promoted_sound x p.0; count = count_sound x y q.0; value = same_sound ty x q.1 }

  shift_complete : (ty x y : Arithmetic) → HaveShiftTypes ty x y → have_shift_types ty x y ≡ true
  shift_complete ty x y h =
      true_and _ _ (promoted_complete x h.left) (true_and _ _ (count_complete x y h.count) (same_complete ty x h.value))

  compared_sound : (ty x y : Arithmetic) → have_compared_types ty x y ≡ true → HaveComparedTypes ty x y
  compared_sound ty x y e =
      let p = and_true (have_common_integer x y) _ e in
      record { integers = common_sound x y p.0; value = types.same (type_of ty) int p.1 }

  pub type_complete : (a b : PlainType) → a ≡ b → same_type a b ≡ true
  type_complete a b e = ap (λ z. same_type a z) (sym e) ∙ types.itself a

  compared_complete : (ty x y : Arithmetic) → HaveComparedTypes ty x y → have_compared_types ty x y ≡ true
  compared_complete ty x y h = true_and _ _ (common_complete x y h.integers) (type_complete (type_of ty) int h.value)

  pub binary_sound : (op : BinOp) (ty x y : Arithmetic) → have_arithmetic_types op ty x y ≡ true → HaveArithmeticTypes op ty x y
  binary_sound Add = usual_sound
  binary_sound Sub = usual_sound
  binary_sound Mul = product_sound
  binary_sound Div = usual_sound
  binary_sound Rem = integer_sound
  binary_sound Shl = shift_sound
  binary_sound Shr = shift_sound
  binary_sound And = integer_sound
  binary_sound Or = integer_sound
  binary_sound Xor = integer_sound
  binary_sound Lt = compared_sound
  binary_sound Gt = compared_sound
  binary_sound Le = compared_sound
  binary_sound Ge = compared_sound
  binary_sound Eq = compared_sound
  binary_sound Ne = compared_sound

  pub binary_complete : (op : BinOp) (ty x y : Arithmetic) → HaveArithmeticTypes op ty x y → have_arithmetic_types op ty x y ≡ true
  binary_complete Add = usual_complete
  binary_complete Sub = usual_complete
  binary_complete Mul = product_complete
  binary_complete Div = usual_complete
  binary_complete Rem = integer_complete
  binary_complete Shl = shift_complete
  binary_complete Shr = shift_complete
  binary_complete And = integer_complete
  binary_complete Or = integer_complete
  binary_complete Xor = integer_complete
  binary_complete Lt = compared_complete
  binary_complete Gt = compared_complete
  binary_complete Le = compared_complete
  binary_complete Ge = compared_complete
  binary_complete Eq = compared_complete
  binary_complete Ne = compared_complete
