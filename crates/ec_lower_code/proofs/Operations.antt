-- The types and the costs of the operations of compound assignments and steps.
use Rattle.std.proofs.Common.{◌≡◌, ◌⊎◌, ℕ, zero, suc, ◌+◌, ◌*◌, ◌/◌, ◌≤◌, Bool, true, false, ◌&&◌, ◌||◌, ℤ, [], ◌∷◌, refl, sym}
use Rattle.std.proofs.Common.{ap, subst, inl, inr, arith}
use Rattle.std.specs.Prelude.{if◌then◌else◌, nat_lt, max}
use Rattle.std.proofs.Math.Nat.{mul_comm, mul-le-mul_left}
use Rattle.ec_fx.specs.declared.formats.FxKind.{FxKind}
use Rattle.ec_fx.specs.declared.formats.FxKind.TheVariants.{ShortFract, Fract, LongFract, ShortAccum, Accum, LongAccum}
use Rattle.ec_fx.specs.declared.formats.FxKind.TheVariants.{UnsignedShortFract, UnsignedFract, UnsignedLongFract}
use Rattle.ec_fx.specs.declared.formats.FxKind.TheVariants.{UnsignedShortAccum, UnsignedAccum, UnsignedLongAccum}
use Rattle.ec_fx.specs.declared.numbers.Mode.{Mode}
use Rattle.ec_fx.specs.Formats.{format_of, rank_of}
use Rattle.ec_core.specs.declared.arithmetic_types.Arithmetic.{Arithmetic}
use Rattle.ec_core.specs.declared.arithmetic_types.Arithmetic.TheVariants.{Integer, Fixed}
use Rattle.ec_core.specs.declared.arithmetic_types.FixedType.{FixedType}
use Rattle.ec_core.specs.declared.arithmetic_types.IntegerType.{IntegerType}
use Rattle.ec_core.specs.declared.expressions.BinOp.{BinOp}
use Rattle.ec_core.specs.declared.expressions.BinOp.TheVariants.{Add, Sub, Mul, Div, Rem, Shl, Shr, And, Or, Xor, Lt, Gt, Le, Ge, Eq, Ne}
use Rattle.ec_core.specs.declared.values.Value.{Value}
use Rattle.ec_core.specs.declared.values.Value.TheVariants.{Number, Pointer}
use Rattle.ec_core.specs.ArithmeticTypes.{type_of, promoted, wider_or_unsigned, common_integer, signed_kind, higher_kind}
use Rattle.ec_core.specs.ArithmeticTypes.{common_fixed, common}
use Rattle.ec_core.specs.ArithmeticValues.{HoldsNumber, IsKnownType, operand, arithmetic_value}
use Rattle.ec_core.specs.Layout.{scalar_size, IsScalar}
use Rattle.ec_core.specs.Operators.{same_type, number_type, OperationTypes, converted_beside, promoted_type, step_operator}
use Rattle.ec_core.specs.Plain.{PlainType, void, integer, fixed, pointer, array, struct, PlainProgram}
use Rattle.ec_core.specs.ValueTypes.{HasType}
use Rattle.ec_core.specs.TypeLaws.{factor_beside}
use Rattle.ec_core.specs.Typing.{int, IsIntegerKind, HaveCompoundArithmetic, HaveArithmeticTypes}
use Rattle.ec_core.specs.Words.{widest, update_words}
use Rattle.ec_core.proofs.Conversions.{usual_conversions}
use Rattle.ec_core.proofs.HeldNumbers.{Held, arithmetic_held}
use Rattle.ec_core.proofs.Sameness.{type_itself}
use Rattle.ec_core.proofs.Suiting.{signed_signed}
use Rattle.ec_ir.specs.Costs.{is_integer, conversion_words, binary_words}
use Rattle.ec_lower_code.specs.Code.{update_types}
use Rattle.ec_lower_code.proofs.Numeric.{IsNumeric}
use Rattle.ec_lower_code.proofs.Pays.{binary_pays, within}

-- ---- arithmetic types among all types

pub number_back : (z : Arithmetic) → number_type (type_of z) ≡ z
number_back (Integer t) = refl
number_back (Fixed t) = refl

pub type_scalar : (z : Arithmetic) → IsKnownType z → IsScalar (type_of z)
type_scalar (Integer t) k = k
type_scalar (Fixed t) k = tt

pub type_holds : (program : PlainProgram) (z : Arithmetic) (n : ℤ) → HoldsNumber z n → HasType program (type_of z) (Number n)
type_holds program (Integer t) n h = h
type_holds program (Fixed t) n h = h

pub value_number : (program : PlainProgram) (ty : PlainType) (n : ℤ) → IsNumeric ty → HoldsNumber (number_type ty) n
    → HasType program ty (Number n)
value_number program void n i h = absurd i
value_number program (integer s b) n i h = h
value_number program (fixed k s) n i h = h
value_number program (pointer s c t) n i h = absurd i
value_number program (array t m) n i h = absurd i
value_number program (struct m) n i h = absurd i

pub number_value : (program : PlainProgram) (ty : PlainType) (v : Value) → IsNumeric ty → HasType program ty v
    → (n : ℤ) × (v ≡ Number n) × HoldsNumber (number_type ty) n
number_value program void v i h = absurd i
number_value program (integer s b) (Number n) i h = (n, refl, h)
number_value program (integer s b) (Pointer p) i h = absurd h
number_value program (fixed k s) (Number n) i h = (n, refl, h)
number_value program (fixed k s) (Pointer p) i h = absurd h
number_value program (pointer s c t) v i h = absurd i
number_value program (array t m) v i h = absurd i
number_value program (struct m) v i h = absurd i

pub type_back : (ty : PlainType) → IsNumeric ty → type_of (number_type ty) ≡ ty
type_back void i = absurd i
type_back (integer s b) i = refl
type_back (fixed k s) i = refl
type_back (pointer s c t) i = absurd i
type_back (array t m) i = absurd i
type_back (struct m) i = absurd i

-- ---- the types of the operation

either_known : (c : Bool) (x y : IntegerType) → IsKnownType (Integer x) → IsKnownType (Integer y)
    → IsKnownType (Integer (if c then x else y))
either_known true x y p q = p
either_known false x y p q = q

promoted_known : (z : Arithmetic) → IsKnownType z → IsKnownType (promoted_type z)
promoted_known (Integer t) k = either_known (nat_lt t.bytes 2) (record { signed = true; bytes = 2 }) t (inr (inl refl)) k
promoted_known (Fixed t) k = tt

factor_known : (x y : Arithmetic) → IsKnownType x → IsKnownType (factor_beside x y)
factor_known (Integer x) y k = k
factor_known (Fixed x) (Integer y) k = tt
factor_known (Fixed x) (Fixed y) k = tt

pub record AreUpdateTypes (op : BinOp) (own : Mode) (ts : OperationTypes) : Type 0 where
  pub left : IsKnownType ts.left
  pub right : IsKnownType ts.right
  pub result : IsKnownType ts.result
  pub held : (m n : ℤ) → Held ts.result (arithmetic_value op ts.result own (operand ts.left m) (operand ts.right n))

module _ (own : Mode) (x y : Arithmetic) (kx : IsKnownType x) (ky : IsKnownType y) where
  usual : (op : BinOp) → HaveArithmeticTypes op (common x y) (converted_beside x y) (converted_beside y x)
      → AreUpdateTypes op own (record { left = converted_beside x y; right = converted_beside y x; result = common x y })
  usual op h =
      let s = usual_conversions.suit x y kx ky in
      let r = usual_conversions.suit y x ky kx in
      record {
        left = s.operand;
        right = r.operand;
        result = s.result;
        held = λ m n. arithmetic_held op (common x y) (converted_beside x y)
            (converted_beside y x) own m n h s.operand r.operand;
      }

  -- the count of a shift is a whole number in any integer type
  shifted : (op : BinOp) (z : Arithmetic) → IsKnownType z → IsIntegerKind z → ((c : Arithmetic) → IsKnownType c → IsIntegerKind c
      → HaveArithmeticTypes op (promoted_type x) (promoted_type x) (promoted_type c))
      → AreUpdateTypes op own (record { left = promoted_type x; right = z; result = promoted_type x })
  shifted op (Integer c) kc i h = record {
    left = promoted_known x kx;
    right = kc;
    result = promoted_known x kx;
    held = λ m n. arithmetic_held op (promoted_type x) (promoted_type x) (promoted_type (Integer c)) own m n (h (Integer c) kc i)
        (promoted_known x kx) (promoted_known (Integer c) kc);
  }
  shifted op (Fixed c) kc i h = absurd i

  pub update_known : (op : BinOp) → HaveCompoundArithmetic op x y → AreUpdateTypes op own (update_types op x y)
  update_known Add h = usual Add (usual_conversions.suit x y kx ky).usual
  update_known Sub h = usual Sub (usual_conversions.suit x y kx ky).usual
  update_known Mul h =
      let s = usual_conversions.suit x y kx ky in
      record {
        left = factor_known x y kx;
        right = factor_known y x ky;
        result = s.result;
        held = λ m n. arithmetic_held Mul (common x y)
            (factor_beside x y) (factor_beside y x) own m n (s.products h.0 h.1) (factor_known x y kx) (factor_known y x ky);
      }
  update_known Div h = usual Div (usual_conversions.suit x y kx ky).usual
  update_known Rem h = usual Rem ((usual_conversions.suit x y kx ky).integers h.0 h.1)
  update_known Shl h = shifted Shl y ky h (λ c kc i. (usual_conversions.suit x c kx kc).shifted i)
  update_known Shr h = shifted Shr y ky h (λ c kc i. (usual_conversions.suit x c kx kc).shifted i)
  update_known And h = usual And ((usual_conversions.suit x y kx ky).integers h.0 h.1)
  update_known Or h = usual Or ((usual_conversions.suit x y kx ky).integers h.0 h.1)
  update_known Xor h = usual Xor ((usual_conversions.suit x y kx ky).integers h.0 h.1)
  update_known Lt h = absurd h
  update_known Gt h = absurd h
  update_known Le h = absurd h
  update_known Ge h = absurd h
  update_known Eq h = absurd h
  update_known Ne h = absurd h

-- ---- costs

abbrev pub size : Arithmetic → ℕ
size z = scalar_size (type_of z)

at_most : (a b : ℕ) → a ≤ b → a * a ≤ b * b
at_most a b h = let x : a * a ≤ a * b = mul-le-mul_left a h in let y : b * a ≤ b * b = mul-le-mul_left b h in let c : a * b ≡ b * a =
    mul_comm a b in omega (arith, x, y, c)

-- an operation within so many bytes
binary_within : (op : BinOp) (ty a b : PlainType) (m : ℕ) → 1 ≤ m → scalar_size ty ≤ m → scalar_size a ≤ m → scalar_size b ≤ m
    → binary_words op ty a b ≤ 150 + 40 * m + 40 * (m * m)
binary_within op ty a b m some x y z =
    let p = binary_pays op ty a b in
    let w = widest (ty ∷ a ∷ b ∷ []) in
    let le : w ≤ m = omega (arith, some, x, y, z) in
    let q = at_most w m le in
    omega (arith, p, le, q)

any_conversion : (ty a : PlainType) (m : ℕ) → 1 ≤ m → scalar_size ty ≤ m → scalar_size a ≤ m → conversion_words ty a ≤ 100 + 40 * m
any_conversion ty a m some x y = within (same_type ty a || (is_integer ty && is_integer a)) _ _ _ (omega (arith, some, x, y))
    (omega (arith, some, x, y))

cheap_conversion : (ty a : PlainType) (m : ℕ) → (same_type ty a || (is_integer ty && is_integer a)) ≡ true → 1 ≤ m → scalar_size ty ≤ m
    → scalar_size a ≤ m → conversion_words ty a ≤ 10 * m
cheap_conversion ty a m e some x y = by_test (same_type ty a || (is_integer ty && is_integer a)) e
  where
    by_test : (c : Bool) → c ≡ true → (if c then 10 * widest (ty ∷ a ∷ []) else 100 + 40 * widest (ty ∷ a ∷ [])) ≤ 10 * m
    by_test true e = omega (arith, some, x, y)
    by_test false e = cc

or_true : (b : Bool) → (b || true) ≡ true
or_true true = refl
or_true false = refl

same_cheap : (z : Arithmetic) → (same_type (type_of z) (type_of z) || (is_integer (type_of z) && is_integer (type_of z))) ≡ true
same_cheap z = ap (λ b. b || (is_integer (type_of z) && is_integer (type_of z))) (type_itself (type_of z))

integers_cheap : (s t : IntegerType) → (same_type (type_of (Integer s)) (type_of (Integer t)) || (is_integer
    (type_of (Integer s)) && is_integer (type_of (Integer t)))) ≡ true
integers_cheap s t = or_true (same_type (type_of (Integer s)) (type_of (Integer t)))

-- the sizes of the operation's types
size_if : (c : Bool) (s t : IntegerType) (m : ℕ) → s.bytes ≤ m → t.bytes ≤ m → (if c then s else t).bytes ≤ m
size_if true s t m p q = p
size_if false s t m p q = q

promoted_size : (t : IntegerType) (m : ℕ) → 2 ≤ m → t.bytes ≤ m → (promoted t).bytes ≤ m
promoted_size t m p q = size_if (nat_lt t.bytes 2) (record { signed = true; bytes = 2 }) t m p q

wider_size : (s t : IntegerType) (m : ℕ) → s.bytes ≤ m → t.bytes ≤ m → (wider_or_unsigned s t).bytes ≤ m
wider_size s t m p q =
    size_if (nat_lt s.bytes t.bytes) t (if nat_lt t.bytes s.bytes then s else record { signed = s.signed && t.signed; bytes = s.bytes }) m q
    (size_if (nat_lt t.bytes s.bytes) s (record { signed = s.signed && t.signed; bytes = s.bytes }) m p p)

common_size : (s t : IntegerType) (m : ℕ) → 2 ≤ m → s.bytes ≤ m → t.bytes ≤ m → (common_integer s t).bytes ≤ m
common_size s t m two p q = wider_size (promoted s) (promoted t) m (promoted_size s m two p) (promoted_size t m two q)

signed_size : (k : FxKind) → (format_of (signed_kind k)).bits / 8 ≡ (format_of k).bits / 8
signed_size ShortFract = refl
signed_size Fract = refl
signed_size LongFract = refl
signed_size ShortAccum = refl
signed_size Accum = refl
signed_size LongAccum = refl
signed_size UnsignedShortFract = refl
signed_size UnsignedFract = refl
signed_size UnsignedLongFract = refl
signed_size UnsignedShortAccum = refl
signed_size UnsignedAccum = refl
signed_size UnsignedLongAccum = refl

kind_if : (c : Bool) (p q : FxKind) (m : ℕ) → (format_of p).bits / 8 ≤ m → (format_of q).bits / 8 ≤ m
    → (format_of (if c then p else q)).bits / 8 ≤ m
kind_if true p q m x y = x
kind_if false p q m x y = y

higher_size : (p q : FxKind) (m : ℕ) → (format_of p).bits / 8 ≤ m → (format_of q).bits / 8 ≤ m → (format_of (higher_kind p q)).bits / 8 ≤ m
higher_size p q m x y = kind_if (nat_lt (rank_of (format_of p)) (rank_of (format_of q))) q p m y x

fixed_size : (s t : FixedType) (m : ℕ) → size (Fixed s) ≤ m → size (Fixed t) ≤ m → size (Fixed (common_fixed s t)) ≤ m
fixed_size s t m x y =
    kind_if ((format_of s.kind).signed || (format_of t.kind).signed) (higher_kind (signed_kind s.kind) (signed_kind t.kind))
    (higher_kind s.kind t.kind) m
    (higher_size (signed_kind s.kind) (signed_kind t.kind) m (let e = signed_size s.kind in omega (arith, e, x))
    (let e = signed_size t.kind in omega (arith, e, y)))
    (higher_size s.kind t.kind m x y)

beside_size : (s t : FixedType) → size (converted_beside (Fixed s) (Fixed t)) ≡ size (Fixed s)
beside_size s t = by_sign (format_of t.kind).signed
  where
    by_sign : (c : Bool) → (format_of (if c then signed_kind s.kind else s.kind)).bits / 8 ≡ (format_of s.kind).bits / 8
    by_sign true = signed_size s.kind
    by_sign false = refl

-- of two fixed-point operands one at most is converted
abbrev is_cheap : Arithmetic → Arithmetic → Bool
is_cheap z x = same_type (type_of z) (type_of x) || (is_integer (type_of z) && is_integer (type_of x))

fixed_cheap : (s t : FixedType) → (is_cheap (converted_beside (Fixed s) (Fixed t)) (Fixed s) ≡ true) ⊎ (is_cheap
    (converted_beside (Fixed t) (Fixed s)) (Fixed t) ≡ true)
fixed_cheap s t = by_sign (format_of t.kind).signed refl (format_of s.kind).signed refl
  where
    kept : (z : FixedType) (k : FxKind) → k ≡ z.kind → is_cheap (Fixed (record { kind = k; sat = z.sat })) (Fixed z) ≡ true
    kept z k e = subst (λ (q : FxKind). is_cheap (Fixed (record { kind = q; sat = z.sat })) (Fixed z) ≡ true) (sym e) (same_cheap (Fixed z))

    if_kind : (c d : Bool) (z : FixedType) → c ≡ d → (if d then signed_kind z.kind else z.kind) ≡ z.kind
        → (if c then signed_kind z.kind else z.kind) ≡ z.kind
    if_kind c d z e f = subst (λ (b : Bool). (if b then signed_kind z.kind else z.kind) ≡ z.kind) (sym e) f

    by_sign : (b : Bool) → (format_of t.kind).signed ≡ b → (c : Bool) → (format_of s.kind).signed ≡ c
        → (is_cheap (converted_beside (Fixed s) (Fixed t)) (Fixed s) ≡ true) ⊎ (is_cheap (converted_beside (Fixed t) (Fixed s))
        (Fixed t) ≡ true)
    by_sign false e c f = inl (kept s (if (format_of t.kind).signed then signed_kind s.kind else s.kind)
        (if_kind (format_of t.kind).signed false s e refl))
    by_sign true e true f = inl (kept s (if (format_of t.kind).signed then signed_kind s.kind else s.kind)
        (if_kind (format_of t.kind).signed true s e (signed_signed s.kind f)))
    by_sign true e false f = inr (kept t (if (format_of s.kind).signed then signed_kind t.kind else t.kind)
        (if_kind (format_of s.kind).signed false t f refl))

-- the words of an update: both conversions, the operation, and the conversion back
abbrev pub words_of : BinOp → OperationTypes → PlainType → PlainType → ℕ
words_of op ts ty right = conversion_words (type_of ts.left) ty + (conversion_words (type_of ts.right) right + (binary_words op
    (type_of ts.result) (type_of ts.left) (type_of ts.right) + conversion_words ty (type_of ts.result)))

-- the greatest number of bytes of two types, and at least 1
abbrev most_of : Arithmetic → Arithmetic → ℕ
most_of x y = max (size x) (max (size y) 1)

module _ (op : BinOp) where
  integer_words : (s t l r z : IntegerType) (m : ℕ) → 2 ≤ m → s.bytes ≤ m → t.bytes ≤ m → l.bytes ≤ m → r.bytes ≤ m → z.bytes ≤ m
      → words_of op (record { left = Integer l; right = Integer r; result = Integer z }) (type_of (Integer s))
      (type_of (Integer t)) ≤ 30 * m + (150 + 40 * m + 40 * (m * m))
  integer_words s t l r z m two hs ht hl hr hz =
      let a = cheap_conversion (type_of (Integer l)) (type_of (Integer s)) m (integers_cheap l s) (omega (arith, two)) hl hs in
      let b = cheap_conversion (type_of (Integer r)) (type_of (Integer t)) m (integers_cheap r t) (omega (arith, two)) hr ht in
      let c = cheap_conversion (type_of (Integer s)) (type_of (Integer z)) m (integers_cheap s z) (omega (arith, two)) hs hz in
      let d = binary_within op (type_of (Integer z)) (type_of (Integer l)) (type_of (Integer r)) m (omega (arith, two)) hz hl hr in
      omega (arith, a, b, c, d)

  -- where both operands stay as they are
  kept_words : (x y z : Arithmetic) (m : ℕ) → 1 ≤ m → size x ≤ m → size y ≤ m → size z ≤ m
      → words_of op (record { left = x; right = y; result = z }) (type_of x) (type_of y) ≤ 20 * m + (150 + 40 * m + 40 * (m * m))
      + (100 + 40 * m)
  kept_words x y z m some hx hy hz =
      let a = cheap_conversion (type_of x) (type_of x) m (same_cheap x) some hx hx in
      let b = cheap_conversion (type_of y) (type_of y) m (same_cheap y) some hy hy in
      let c = any_conversion (type_of x) (type_of z) m some hx hz in
      let d = binary_within op (type_of z) (type_of x) (type_of y) m some hz hx hy in
      omega (arith, a, b, c, d)

  -- where one operand may be converted
  one_words : (x y l r z : Arithmetic) (m : ℕ) → 1 ≤ m → size x ≤ m → size y ≤ m → size l ≤ m → size r ≤ m → size z ≤ m
      → (is_cheap l x ≡ true) ⊎ (is_cheap r y ≡ true) → words_of op (record { left = l; right = r; result = z }) (type_of x)
      (type_of y) ≤ 10 * m + (100 + 40 * m) + (150 + 40 * m + 40 * (m * m)) + (100 + 40 * m)
  one_words x y l r z m some hx hy hl hr hz (inl e) =
      let a = cheap_conversion (type_of l) (type_of x) m e some hl hx in
      let b = any_conversion (type_of r) (type_of y) m some hr hy in
      let c = any_conversion (type_of x) (type_of z) m some hx hz in
      let d = binary_within op (type_of z) (type_of l) (type_of r) m some hz hl hr in
      omega (arith, a, b, c, d)
  one_words x y l r z m some hx hy hl hr hz (inr e) =
      let a = any_conversion (type_of l) (type_of x) m some hl hx in
      let b = cheap_conversion (type_of r) (type_of y) m e some hr hy in
      let c = any_conversion (type_of x) (type_of z) m some hx hz in
      let d = binary_within op (type_of z) (type_of l) (type_of r) m some hz hl hr in
      omega (arith, a, b, c, d)

square : (m : ℕ) → 1 ≤ m → m ≤ m * m
square m h = let x : m * 1 ≤ m * m = mul-le-mul_left m h in omega (arith, x)

one_or_two : (b : ℕ) → 1 ≤ b → (b ≡ 1) ⊎ (2 ≤ b)
one_or_two zero h = absurd (omega arith)
one_or_two (suc zero) h = inl refl
one_or_two (suc (suc b)) h = inr (omega arith)

-- the row pays for two integers, with both copies of the place
integers_paid : (b w c : ℕ) → 1 ≤ b → c ≤ b → ((m : ℕ) → 2 ≤ m → b ≤ m → w ≤ 30 * m + (150 + 40 * m + 40 * (m * m)))
    → w + (2 + 10 * c) ≤ update_words b
integers_paid b w c some le f = by_size (one_or_two b some)
  where
    by_size : (b ≡ 1) ⊎ (2 ≤ b) → w + (2 + 10 * c) ≤ update_words b
    by_size (inl e) = let x = f 2 (omega arith) (omega (arith, e)) in let q : b * b ≡ 1 = ap (λ (z : ℕ). z * z) e in
        omega (arith, x, e, q, le)
    by_size (inr h) = let x = f b h (omega arith) in omega (arith, x, h, le)

module _ (op : BinOp) where
  usual_pays : (x y : Arithmetic) → words_of op (record { left = converted_beside x y; right = converted_beside y x; result = common x y })
      (type_of x) (type_of y) + (2 + 10 * size x) ≤ update_words (most_of x y)
  usual_pays (Integer s) (Integer t) =
      integers_paid (most_of (Integer s) (Integer t)) _ s.bytes (omega arith) (omega arith)
      (λ m two h. integer_words op s t (common_integer s t) (common_integer t s) (common_integer s t) m two (omega (arith, h))
      (omega (arith, h)) (common_size s t m two (omega (arith, h)) (omega (arith, h))) (common_size t s m two (omega (arith, h))
      (omega (arith, h))) (common_size s t m two (omega (arith, h)) (omega (arith, h))))
  usual_pays (Integer s) (Fixed t) =
      let b = most_of (Integer s) (Fixed t) in
      let x = kept_words op (Integer s) (Fixed t) (Fixed t) b (omega arith) (omega arith) (omega arith) (omega arith) in
      let q = square b (omega arith) in omega (arith, x, q)
  usual_pays (Fixed s) (Integer t) =
      let b = most_of (Fixed s) (Integer t) in
      let x = kept_words op (Fixed s) (Integer t) (Fixed s) b (omega arith) (omega arith) (omega arith) (omega arith) in
      let q = square b (omega arith) in omega (arith, x, q)
  usual_pays (Fixed s) (Fixed t) =
      let b = most_of (Fixed s) (Fixed t) in
      let l = beside_size s t in let r = beside_size t s in
      let x = one_words op (Fixed s) (Fixed t) (converted_beside (Fixed s) (Fixed t)) (converted_beside (Fixed t) (Fixed s))
      (Fixed (common_fixed s t)) b (omega arith) (omega arith) (omega arith) (omega (arith, l)) (omega (arith, r))
      (fixed_size s t b (omega arith) (omega arith)) (fixed_cheap s t) in
      let q = square b (omega arith) in omega (arith, x, q)

  product_pays : (x y : Arithmetic) → words_of op (record { left = factor_beside x y; right = factor_beside y x; result = common x y })
      (type_of x) (type_of y) + (2 + 10 * size x) ≤ update_words (most_of x y)
  product_pays (Integer s) (Integer t) =
      integers_paid (most_of (Integer s) (Integer t)) _ s.bytes (omega arith) (omega arith) (λ m two h. integer_words op s t s t
      (common_integer s t) m two (omega (arith, h)) (omega (arith, h)) (omega (arith, h)) (omega (arith, h))
      (common_size s t m two (omega (arith, h)) (omega (arith, h))))
  product_pays (Integer s) (Fixed t) = usual_pays (Integer s) (Fixed t)
  product_pays (Fixed s) (Integer t) = usual_pays (Fixed s) (Integer t)
  product_pays (Fixed s) (Fixed t) = usual_pays (Fixed s) (Fixed t)

  shift_pays : (x y : Arithmetic) → IsIntegerKind y → words_of op (record { left = promoted_type x; right = y; result = promoted_type x })
      (type_of x) (type_of y) + (2 + 10 * size x) ≤ update_words (most_of x y)
  shift_pays (Integer s) (Integer t) i =
      integers_paid (most_of (Integer s) (Integer t)) _ s.bytes (omega arith) (omega arith) (λ m two h. integer_words op s t (promoted s) t
      (promoted s) m two (omega (arith, h)) (omega (arith, h)) (promoted_size s m two (omega (arith, h))) (omega (arith, h))
      (promoted_size s m two (omega (arith, h))))
  shift_pays (Fixed s) (Integer t) i =
      let b = most_of (Fixed s) (Integer t) in
      let x = kept_words op (Fixed s) (Integer t) (Fixed s) b (omega arith) (omega arith) (omega arith) (omega arith) in
      let q = square b (omega arith) in omega (arith, x, q)
  shift_pays x (Fixed t) i = absurd i

-- the row of a compound assignment pays for it
pub update_pays : (op : BinOp) (x y : Arithmetic) → HaveCompoundArithmetic op x y → words_of op (update_types op x y) (type_of x)
    (type_of y) + (2 + 10 * size x) ≤ update_words (most_of x y)
update_pays Add x y h = usual_pays Add x y
update_pays Sub x y h = usual_pays Sub x y
update_pays Mul x y h = product_pays Mul x y
update_pays Div x y h = usual_pays Div x y
update_pays Rem x y h = usual_pays Rem x y
update_pays Shl x y h = shift_pays Shl x y h
update_pays Shr x y h = shift_pays Shr x y h
update_pays And x y h = usual_pays And x y
update_pays Or x y h = usual_pays Or x y
update_pays Xor x y h = usual_pays Xor x y
update_pays Lt x y h = absurd h
update_pays Gt x y h = absurd h
update_pays Le x y h = absurd h
update_pays Ge x y h = absurd h
update_pays Eq x y h = absurd h
update_pays Ne x y h = absurd h

-- ---- steps

abbrev pub int_type : IntegerType
int_type = record { signed = true; bytes = 2 }

abbrev step_words : BinOp → Arithmetic → ℕ
step_words op x = words_of op (record {
  left = converted_beside x (Integer int_type);
  right = converted_beside (Integer int_type) x;
  result = common x (Integer int_type);
}) (type_of x) int + conversion_words (type_of x) (type_of (converted_beside x (Integer int_type)))

-- the row of a step pays for it, with both copies of the place and the constant
added_pays : (op : BinOp) (x : Arithmetic) → step_words op x + (2 + 10 * size x) + 10 ≤ update_words (max (size x) 1)
added_pays op (Integer s) = by_size (one_or_two (max s.bytes 1) (omega arith))
  where
    words : (m : ℕ) → 2 ≤ m → s.bytes ≤ m → step_words op (Integer s) ≤ 40 * m + (150 + 40 * m + 40 * (m * m))
    words m two h =
        let i = int_type in
        let c = common_size s i m two h two in
        let a = integer_words op s i (common_integer s i) (common_integer i s) (common_integer s i) m two h two c
        (common_size i s m two two h) c in
        let b = cheap_conversion (type_of (Integer s)) (type_of (Integer (common_integer s i))) m (integers_cheap s (common_integer s i))
        (omega (arith, two)) h c in
        omega (arith, a, b)

    by_size : (max s.bytes 1 ≡ 1) ⊎ (2 ≤ max s.bytes 1) → step_words op (Integer s) + (2 + 10 * s.bytes) + 10 ≤ update_words (max s.bytes 1)
    by_size (inl e) = let x = words 2 (omega arith) (omega (arith, e)) in let q : max s.bytes 1 * max s.bytes 1 ≡ 1 =
        ap (λ (z : ℕ). z * z) e in omega (arith, x, e, q)
    by_size (inr h) = let x = words (max s.bytes 1) h (omega arith) in omega (arith, x, h)
added_pays op (Fixed s) = by_size (one_or_two (max (size (Fixed s)) 1) (omega arith))
  where
    words : (m : ℕ) → 2 ≤ m → size (Fixed s) ≤ m → step_words op (Fixed s) ≤ 30 * m + 20 + (150 + 40 * m + 40 * (m * m))
    words m two h =
        let i = int_type in
        let a = cheap_conversion (type_of (Fixed s)) (type_of (Fixed s)) m (same_cheap (Fixed s)) (omega (arith, two)) h h in
        let c = cheap_conversion int int 2 (integers_cheap i i) (omega arith) (omega arith) (omega arith) in
        let d = binary_within op (type_of (Fixed s)) (type_of (Fixed s)) int m (omega (arith, two)) h h two in
        omega (arith, a, c, d)

    by_size : (max (size (Fixed s)) 1 ≡ 1) ⊎ (2 ≤ max (size (Fixed s)) 1) → step_words op (Fixed s) + (2 + 10 * size
        (Fixed s)) + 10 ≤ update_words (max (size (Fixed s)) 1)
    by_size (inl e) = let x = words 2 (omega arith) (omega (arith, e)) in let q : max (size (Fixed s)) 1 * max (size (Fixed s)) 1 ≡ 1 =
        ap (λ (z : ℕ). z * z) e in omega (arith, x, e, q)
    by_size (inr h) = let x = words (max (size (Fixed s)) 1) h (omega arith) in omega (arith, x, h)

abbrev pub step_cost : Bool → Arithmetic → ℕ
step_cost up x = words_of (step_operator up) (update_types (step_operator up) x (Integer int_type)) (type_of x) int + conversion_words
    (type_of x) (type_of (update_types (step_operator up) x (Integer int_type)).left)

pub step_pays : (up : Bool) (x : Arithmetic) → step_cost up x + (2 + 10 * size x) + 10 ≤ update_words (max (size x) 1)
step_pays true x = added_pays Add x
step_pays false x = added_pays Sub x

pub step_known : (up : Bool) (own : Mode) (x : Arithmetic) → IsKnownType x → AreUpdateTypes (step_operator up) own
    (update_types (step_operator up) x (Integer int_type))
step_known true own x k = update_known own x (Integer int_type) k (inr (inl refl)) Add tt
step_known false own x k = update_known own x (Integer int_type) k (inr (inl refl)) Sub tt

pub step_arithmetic : (up : Bool) (x : Arithmetic) → HaveCompoundArithmetic (step_operator up) x (Integer int_type)
step_arithmetic true x = tt
step_arithmetic false x = tt

-- ---- the same, where the place is reached through a pointer

double : (m : ℕ) → 2 ≤ m → 2 * m ≤ m * m
double m h = let x : m * 2 ≤ m * m = mul-le-mul_left m h in omega (arith, x)

-- the row pays for the operation, for a load and a store through a pointer, and for a copy
abbrev place_cost : ℕ → ℕ
place_cost m = 60 + 25 * m

module _ (op : BinOp) (m : ℕ) (two : 2 ≤ m) where
  usual_more : (x y : Arithmetic) → size x ≤ m → size y ≤ m → words_of op
      (record { left = converted_beside x y; right = converted_beside y x; result = common x y }) (type_of x) (type_of y) + place_cost
      m ≤ update_words m
  usual_more (Integer s) (Integer t) hx hy =
      let x = integer_words op s t (common_integer s t) (common_integer t s) (common_integer s t) m two hx hy (common_size s t m two hx hy)
      (common_size t s m two hy hx) (common_size s t m two hx hy) in omega (arith, x)
  usual_more (Integer s) (Fixed t) hx hy =
      let x = kept_words op (Integer s) (Fixed t) (Fixed t) m (omega (arith, two)) hx hy hy in
      let q = double m two in omega (arith, x, q)
  usual_more (Fixed s) (Integer t) hx hy =
      let x = kept_words op (Fixed s) (Integer t) (Fixed s) m (omega (arith, two)) hx hy hx in
      let q = double m two in omega (arith, x, q)
  usual_more (Fixed s) (Fixed t) hx hy =
      let l = beside_size s t in let r = beside_size t s in
      let x = one_words op (Fixed s) (Fixed t) (converted_beside (Fixed s) (Fixed t)) (converted_beside (Fixed t) (Fixed s))
      (Fixed (common_fixed s t)) m (omega (arith, two)) hx hy (omega (arith, l, hx)) (omega (arith, r, hy)) (fixed_size s t m hx hy)
      (fixed_cheap s t) in
      let q = double m two in omega (arith, x, q, two)

  product_more : (x y : Arithmetic) → size x ≤ m → size y ≤ m → words_of op (record {
    left = factor_beside x y;
    right = factor_beside y x;
    result = common x y;
  }) (type_of x) (type_of y) + place_cost m ≤ update_words m
  product_more (Integer s) (Integer t) hx hy =
      let x = integer_words op s t s t (common_integer s t) m two hx hy hx hy (common_size s t m two hx hy) in omega (arith, x)
  product_more (Integer s) (Fixed t) hx hy = usual_more (Integer s) (Fixed t) hx hy
  product_more (Fixed s) (Integer t) hx hy = usual_more (Fixed s) (Integer t) hx hy
  product_more (Fixed s) (Fixed t) hx hy = usual_more (Fixed s) (Fixed t) hx hy

  shift_more : (x y : Arithmetic) → IsIntegerKind y → size x ≤ m → size y ≤ m
      → words_of op (record { left = promoted_type x; right = y; result = promoted_type x }) (type_of x) (type_of y) + place_cost
      m ≤ update_words m
  shift_more (Integer s) (Integer t) i hx hy =
      let x = integer_words op s t (promoted s) t (promoted s) m two hx hy (promoted_size s m two hx) hy (promoted_size s m two hx) in
      omega (arith, x)
  shift_more (Fixed s) (Integer t) i hx hy =
      let x = kept_words op (Fixed s) (Integer t) (Fixed s) m (omega (arith, two)) hx hy hx in
      let q = double m two in omega (arith, x, q)
  shift_more x (Fixed t) i hx hy = absurd i

change_more : (op : BinOp) (m : ℕ) (x y : Arithmetic) → 2 ≤ m → HaveCompoundArithmetic op x y → size x ≤ m → size y ≤ m
    → words_of op (update_types op x y) (type_of x) (type_of y) + place_cost m ≤ update_words m
change_more Add m x y two h p q = usual_more Add m two x y p q
change_more Sub m x y two h p q = usual_more Sub m two x y p q
change_more Mul m x y two h p q = product_more Mul m two x y p q
change_more Div m x y two h p q = usual_more Div m two x y p q
change_more Rem m x y two h p q = usual_more Rem m two x y p q
change_more Shl m x y two h p q = shift_more Shl m two x y h p q
change_more Shr m x y two h p q = shift_more Shr m two x y h p q
change_more And m x y two h p q = usual_more And m two x y p q
change_more Or m x y two h p q = usual_more Or m two x y p q
change_more Xor m x y two h p q = usual_more Xor m two x y p q
change_more Lt m x y two h p q = absurd h
change_more Gt m x y two h p q = absurd h
change_more Le m x y two h p q = absurd h
change_more Ge m x y two h p q = absurd h
change_more Eq m x y two h p q = absurd h
change_more Ne m x y two h p q = absurd h

-- a step, with the constant
added_more : (op : BinOp) (m : ℕ) (x : Arithmetic) → 2 ≤ m → size x ≤ m → step_words op x + place_cost m + 10 ≤ update_words m
added_more op m (Integer s) two h =
    let i = int_type in
    let c = common_size s i m two h two in
    let a = integer_words op s i (common_integer s i) (common_integer i s) (common_integer s i) m two h two c (common_size i s m two two h)
    c in
    let b = cheap_conversion (type_of (Integer s)) (type_of (Integer (common_integer s i))) m (integers_cheap s (common_integer s i))
    (omega (arith, two)) h c in
    let q = double m two in omega (arith, a, b, q)
added_more op m (Fixed s) two h =
    let i = int_type in
    let a = cheap_conversion (type_of (Fixed s)) (type_of (Fixed s)) m (same_cheap (Fixed s)) (omega (arith, two)) h h in
    let c = cheap_conversion int int 2 (integers_cheap i i) (omega arith) (omega arith) (omega arith) in
    let d = binary_within op (type_of (Fixed s)) (type_of (Fixed s)) int m (omega (arith, two)) h h two in
    let q = double m two in omega (arith, a, c, d, q)

pub moving_words : (op : BinOp) (ty right : PlainType) (m : ℕ) → 2 ≤ m → scalar_size ty ≤ m → scalar_size right ≤ m
    → binary_words op ty ty right + place_cost m + 10 ≤ update_words m
moving_words op ty right m two h k =
    let x = binary_within op ty ty right m (omega (arith, two)) h h k in
    let q = double m two in omega (arith, x, q)

-- ---- rows in types as they stand

pub update_row : (op : BinOp) (ty right : PlainType) → IsNumeric ty → IsNumeric right → HaveCompoundArithmetic op (number_type ty)
    (number_type right) → words_of op (update_types op (number_type ty) (number_type right)) ty right + (2 + 10 * scalar_size ty) ≤ update_words
    (max (scalar_size ty) (max (scalar_size right) 1))
update_row op ty right p q h =
    subst (λ (z : PlainType). words_of op (update_types op (number_type ty) (number_type right)) z right + (2 + 10 * scalar_size z) ≤ update_words
    (max (scalar_size z) (max (scalar_size right) 1))) (type_back ty p)
    (subst (λ (z : PlainType). words_of op (update_types op (number_type ty) (number_type right)) (type_of (number_type ty))
    z + (2 + 10 * scalar_size (type_of (number_type ty))) ≤ update_words (max (scalar_size (type_of (number_type ty))) (max (scalar_size z) 1)))
    (type_back right q)
    (update_pays op (number_type ty) (number_type right) h))

pub step_row : (up : Bool) (ty : PlainType) → IsNumeric ty → words_of (step_operator up) (update_types (step_operator up) (number_type ty)
    (number_type int)) ty int + conversion_words ty (type_of (update_types (step_operator up) (number_type ty) (number_type int)).left) + (2 + 10
    * scalar_size ty) + 10 ≤ update_words (max (scalar_size ty) 1)
step_row up ty p =
    subst (λ (z : PlainType). words_of (step_operator up) (update_types (step_operator up) (number_type ty) (number_type int)) z
    int + conversion_words z (type_of (update_types (step_operator up) (number_type ty) (number_type int)).left) + (2 + 10 * scalar_size
    z) + 10 ≤ update_words (max (scalar_size z) 1)) (type_back ty p)
    (step_pays up (number_type ty))

pub update_more : (op : BinOp) (ty right : PlainType) (m : ℕ) → IsNumeric ty → IsNumeric right → HaveCompoundArithmetic op (number_type ty)
    (number_type right) → 2 ≤ m → scalar_size ty ≤ m → scalar_size right ≤ m
    → words_of op (update_types op (number_type ty) (number_type right)) ty right + (60 + 25 * m) ≤ update_words m
update_more op ty right m p q h two hx hy =
    subst (λ (z : PlainType). words_of op (update_types op (number_type ty) (number_type right)) z right + (60 + 25 * m) ≤ update_words m)
    (type_back ty p)
    (subst (λ (z : PlainType). words_of op (update_types op (number_type ty) (number_type right)) (type_of (number_type ty))
    z + (60 + 25 * m) ≤ update_words m) (type_back right q)
    (change_more op m (number_type ty) (number_type right) two h (sized ty p hx) (sized right q hy)))
  where
    sized : (z : PlainType) → IsNumeric z → scalar_size z ≤ m → size (number_type z) ≤ m
    sized z i le = subst (λ (y : PlainType). scalar_size y ≤ m) (sym (type_back z i)) le

pub step_more : (up : Bool) (ty : PlainType) (m : ℕ) → IsNumeric ty → 2 ≤ m → scalar_size ty ≤ m → words_of (step_operator up)
    (update_types (step_operator up) (number_type ty) (number_type int)) ty int + conversion_words ty
    (type_of (update_types (step_operator up) (number_type ty) (number_type int)).left) + (60 + 25 * m) + 10 ≤ update_words m
step_more up ty m p two h =
    subst (λ (z : PlainType). words_of (step_operator up) (update_types (step_operator up) (number_type ty) (number_type int)) z
    int + conversion_words z (type_of (update_types (step_operator up) (number_type ty) (number_type int)).left) + (60 + 25 * m) + 10
    ≤ update_words m) (type_back ty p)
    (by_operator up)
  where
    le : size (number_type ty) ≤ m
    le = subst (λ (y : PlainType). scalar_size y ≤ m) (sym (type_back ty p)) h

    by_operator : (up : Bool) → step_cost up (number_type ty) + (60 + 25 * m) + 10 ≤ update_words m
    by_operator true = added_more Add m (number_type ty) two le
    by_operator false = added_more Sub m (number_type ty) two le
