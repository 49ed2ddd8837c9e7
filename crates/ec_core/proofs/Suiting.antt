-- Operands of their types suit their operators.
use Rattle.std.proofs.Common.{◌≡◌, ◌*◌, ℕ, Bool, true, false, ◌||◌, ℤ, refl, sym, ap, ◌∙◌, subst, inl, inr, arith}
use Rattle.std.specs.Prelude.{if◌then◌else◌, nat_lt}
use Rattle.std.proofs.lemmas.Int.{ints}
use Rattle.ec_fx.specs.Arithmetic.{IsResultFormat, IsOneByte, IsWholeByte}
use Rattle.ec_fx.specs.Ranges.{IsWithin}
use Rattle.ec_fx.specs.Formats.{format_of, rank_of, higher}
use Rattle.ec_fx.specs.declared.formats.FxKind.{FxKind}
use Rattle.ec_fx.specs.declared.formats.FxKind.TheVariants.{ShortFract, Fract, LongFract, ShortAccum, Accum, LongAccum, UnsignedShortFract}
use Rattle.ec_fx.specs.declared.formats.FxKind.TheVariants.{UnsignedFract, UnsignedLongFract, UnsignedShortAccum, UnsignedAccum}
use Rattle.ec_fx.specs.declared.formats.FxKind.TheVariants.{UnsignedLongAccum}
use Rattle.ec_core.specs.declared.arithmetic_types.Arithmetic.{Arithmetic}
use Rattle.ec_core.specs.declared.arithmetic_types.Arithmetic.TheVariants.{Integer, Fixed}
use Rattle.ec_core.specs.declared.arithmetic_types.FixedType.{FixedType}
use Rattle.ec_core.specs.declared.arithmetic_types.IntegerType.{IntegerType}
use Rattle.ec_core.specs.declared.expressions.BinOp.{BinOp}
use Rattle.ec_core.specs.declared.expressions.BinOp.TheVariants.{Add, Sub, Mul, Div, Rem, Shl, Shr, And, Or, Xor, Lt, Gt, Le, Ge, Eq, Ne}
use Rattle.ec_core.specs.declared.expressions.UnOp.{UnOp}
use Rattle.ec_core.specs.declared.expressions.UnOp.TheVariants.{Minus, Invert}
use Rattle.ec_core.specs.ArithmeticTypes.{type_of, common_integer, signed_kind, higher_kind, common_fixed, common}
use Rattle.ec_core.specs.ArithmeticValues.{HoldsNumber, operand, SuitsFixed, SuitsTyped, IsIntegerResult, Suits, SuitsUnary, IsKnownType}
use Rattle.ec_core.specs.Integers.{IsInteger}
use Rattle.ec_core.specs.Operators.{converted_beside, promoted_type, operation_types}
use Rattle.ec_core.specs.Suited.{AreOperationTypes, OperandsSuit}
use Rattle.ec_core.specs.Typing.{int, IsIntegerKind, IsOneByteType, HaveOneSignedness, IsShiftCount, HaveArithmeticTypes}
use Rattle.ec_core.specs.Typing.{HaveCompoundArithmetic, HaveUnaryTypes}
use Rattle.ec_core.proofs.HeldNumbers.{common_known, int_only}

-- ---- fixed-point types

pub signed_signed : (k : FxKind) → (format_of k).signed ≡ true → signed_kind k ≡ k
signed_signed ShortFract e = refl
signed_signed Fract e = refl
signed_signed LongFract e = refl
signed_signed ShortAccum e = refl
signed_signed Accum e = refl
signed_signed LongAccum e = refl
signed_signed UnsignedShortFract e = cc
signed_signed UnsignedFract e = cc
signed_signed UnsignedLongFract e = cc
signed_signed UnsignedShortAccum e = cc
signed_signed UnsignedAccum e = cc
signed_signed UnsignedLongAccum e = cc

is_signed : (k : FxKind) → (format_of (signed_kind k)).signed ≡ true
is_signed ShortFract = refl
is_signed Fract = refl
is_signed LongFract = refl
is_signed ShortAccum = refl
is_signed Accum = refl
is_signed LongAccum = refl
is_signed UnsignedShortFract = refl
is_signed UnsignedFract = refl
is_signed UnsignedLongFract = refl
is_signed UnsignedShortAccum = refl
is_signed UnsignedAccum = refl
is_signed UnsignedLongAccum = refl

signed_bits : (k : FxKind) → (format_of (signed_kind k)).bits ≡ (format_of k).bits
signed_bits ShortFract = refl
signed_bits Fract = refl
signed_bits LongFract = refl
signed_bits ShortAccum = refl
signed_bits Accum = refl
signed_bits LongAccum = refl
signed_bits UnsignedShortFract = refl
signed_bits UnsignedFract = refl
signed_bits UnsignedLongFract = refl
signed_bits UnsignedShortAccum = refl
signed_bits UnsignedAccum = refl
signed_bits UnsignedLongAccum = refl

format_chosen : (b : Bool) (p q : FxKind) → format_of (if b then p else q) ≡ (if b then format_of p else format_of q)
format_chosen true p q = refl
format_chosen false p q = refl

higher_format : (p q : FxKind) → format_of (higher_kind p q) ≡ higher (format_of p) (format_of q)
higher_format p q = format_chosen (nat_lt (rank_of (format_of p)) (rank_of (format_of q))) q p

-- the kind that one has beside another
abbrev kind_beside : FxKind → FxKind → FxKind
kind_beside p q = if (format_of q).signed then signed_kind p else p

-- the kinds that two operands are brought to, and the common one
pub record AreKinds (p q common : FxKind) : Type 0 where
  pub signed : (format_of p).signed ≡ (format_of q).signed
  pub format : format_of common ≡ higher (format_of p) (format_of q)

kinds : (p q p2 q2 both : FxKind) → p ≡ p2 → q ≡ q2 → (format_of p2).signed ≡ (format_of q2).signed → both ≡ higher_kind p2 q2
    → AreKinds p q both
kinds p q p2 q2 both e f s h =
    record {
      signed = ap (λ k. (format_of k).signed) e ∙ (s ∙ sym (ap (λ k. (format_of k).signed) f));
      format = ap format_of h ∙ (higher_format p2 q2
          ∙ (ap (λ k. higher (format_of k) (format_of q2)) (sym e) ∙ ap (λ k. higher (format_of p) (format_of k)) (sym f)));
    }

if_true : {A : Type 0} (b : Bool) (p q : A) → b ≡ true → (if b then p else q) ≡ p
if_true true p q e = refl
if_true false p q e = cc

if_false : {A : Type 0} (b : Bool) (p q : A) → b ≡ false → (if b then p else q) ≡ q
if_false true p q e = cc
if_false false p q e = refl

kinds_beside : (x y : FixedType) → AreKinds (kind_beside x.kind y.kind) (kind_beside y.kind x.kind) (common_fixed x y).kind
kinds_beside x y = by_sign (format_of x.kind).signed (format_of y.kind).signed refl refl
  where
    either : (a b : Bool) → (format_of x.kind).signed ≡ a → (format_of y.kind).signed ≡ b → (a || b) ≡ true
        → kind_beside x.kind y.kind ≡ signed_kind x.kind → kind_beside y.kind x.kind ≡ signed_kind y.kind
        → AreKinds (kind_beside x.kind y.kind) (kind_beside y.kind x.kind) (common_fixed x y).kind
    either a b e f o p q =
        let s : ((format_of x.kind).signed || (format_of y.kind).signed) ≡ true =
        ap (λ z. z || (format_of y.kind).signed) e ∙ (ap (λ z. a || z) f ∙ o) in
        kinds _ _ (signed_kind x.kind) (signed_kind y.kind) _ p q (is_signed x.kind ∙ sym (is_signed y.kind))
        (if_true ((format_of x.kind).signed || (format_of y.kind).signed) _ _ s)

    by_sign : (a b : Bool) → (format_of x.kind).signed ≡ a → (format_of y.kind).signed ≡ b
        → AreKinds (kind_beside x.kind y.kind) (kind_beside y.kind x.kind) (common_fixed x y).kind
    by_sign true true e f = either true true e f refl (if_true _ _ _ f) (if_true _ _ _ e)
    by_sign true false e f = either true false e f refl (if_false _ _ _ f ∙ sym (signed_signed x.kind e)) (if_true _ _ _ e)
    by_sign false true e f = either false true e f refl (if_true _ _ _ f) (if_false _ _ _ e ∙ sym (signed_signed y.kind f))
    by_sign false false e f =
        let s : ((format_of x.kind).signed || (format_of y.kind).signed) ≡ false = ap (λ z. z || (format_of y.kind).signed) e ∙ f in
        kinds _ _ x.kind y.kind _ (if_false _ _ _ f) (if_false _ _ _ e) (e ∙ sym f)
        (if_false ((format_of x.kind).signed || (format_of y.kind).signed) _ _ s)

-- of one signedness each is brought to itself
beside_itself : (p q : FxKind) → (format_of p).signed ≡ (format_of q).signed → kind_beside p q ≡ p
beside_itself p q e = by_sign (format_of q).signed refl
  where
    by_sign : (b : Bool) → (format_of q).signed ≡ b → kind_beside p q ≡ p
    by_sign true f = if_true (format_of q).signed (signed_kind p) p f ∙ signed_signed p (e ∙ f)
    by_sign false f = if_false (format_of q).signed (signed_kind p) p f

common_kinds : (x y : FixedType) → (format_of x.kind).signed ≡ (format_of y.kind).signed → AreKinds x.kind y.kind (common_fixed x y).kind
common_kinds x y e =
    subst (λ (p : FxKind). AreKinds p y.kind (common_fixed x y).kind) (beside_itself x.kind y.kind e)
    (subst (λ (q : FxKind). AreKinds (kind_beside x.kind y.kind) q (common_fixed x y).kind) (beside_itself y.kind x.kind (sym e))
    (kinds_beside x y))

-- ---- results

-- the common type of two types is that of a result on values of them
result_format : (x y : Arithmetic) (z : FixedType) (m n : ℤ) → HaveOneSignedness x y → Fixed z ≡ common x y
    → IsResultFormat (operand x m) (operand y n) (format_of z.kind)
result_format (Integer a) (Integer b) z m n s e = cc
result_format (Integer a) (Fixed b) z m n s e = let f : z ≡ b = cc in ap (λ (t : FixedType). format_of t.kind) f
result_format (Fixed a) (Integer b) z m n s e = let f : z ≡ a = cc in ap (λ (t : FixedType). format_of t.kind) f
result_format (Fixed a) (Fixed b) z m n s e =
    let f : z ≡ common_fixed a b = cc in
    (s, ap (λ (t : FixedType). format_of t.kind) f ∙ (common_kinds a b s).format)

one_byte : (x : Arithmetic) (m : ℤ) → IsOneByteType x → HoldsNumber x m → IsOneByte (operand x m)
one_byte (Integer t) m b h = by_sign t.signed t.bytes b h.1
  where
    within : (s : Bool) → IsWithin s 8 m → IsWholeByte m
    within true k = record { low = k.low; high = omega (arith, ints, k.high) }
    within false k = record { low = omega (arith, ints, k.low); high = k.high }

    by_sign : (s : Bool) (n : ℕ) → n ≡ 1 → IsWithin s (8 * n) m → IsWholeByte m
    by_sign s n e k = within s (subst (λ (j : ℕ). IsWithin s (8 * j) m) e k)
one_byte (Fixed t) m b h = b

both_whole : (op : BinOp) (x y t : Arithmetic) (m n : ℤ) → IsIntegerKind x → IsIntegerKind y → t ≡ common x y → IsKnownType t
    → SuitsTyped op t (operand x m) (operand y n)
both_whole op (Integer a) (Integer b) (Integer t) m n i j e k = (k, tt, tt)
both_whole op (Integer a) (Integer b) (Fixed t) m n i j e k = cc
both_whole op (Integer a) (Fixed b) t m n i j e k = absurd j
both_whole op (Fixed a) y t m n i j e k = absurd i

-- ---- operators

whole_result : (x y : Arithmetic) (t : IntegerType) (op : BinOp) (m n : ℤ) → Integer t ≡ common x y → IsInteger t
    → SuitsTyped op (Integer t) (operand x m) (operand y n)
whole_result (Integer a) (Integer b) t op m n e k = (k, tt, tt)
whole_result (Integer a) (Fixed b) t op m n e k = cc
whole_result (Fixed a) (Integer b) t op m n e k = cc
whole_result (Fixed a) (Fixed b) t op m n e k = cc

by_result : (op : BinOp) (t x y : Arithmetic) (m n : ℤ) → t ≡ common x y → IsKnownType t
    → ((z : FixedType) → Fixed z ≡ common x y → SuitsFixed op (operand x m) (operand y n) (format_of z.kind))
    → SuitsTyped op t (operand x m) (operand y n)
by_result op (Integer t) x y m n e k h = whole_result x y t op m n e k
by_result op (Fixed z) x y m n e k h = h z e

known_common : (t x y : Arithmetic) → t ≡ common x y → IsKnownType x → IsKnownType y → IsKnownType t
known_common t x y e i j = subst (λ (z : Arithmetic). IsKnownType z) (sym e) (common_known x y i j)

shifted : (op : BinOp) (t x y : Arithmetic) (m n : ℤ)
    → ((a b : FixedType) → a ≡ b → SuitsFixed op (operand (Fixed b) m) (operand y n) (format_of a.kind)) → t ≡ x → IsIntegerKind y
    → IsKnownType x → SuitsTyped op t (operand x m) (operand y n)
shifted op (Integer t) (Integer a) (Integer b) m n h e j k = let f : a ≡ t = cc in (subst (λ (z : IntegerType). IsInteger z) f k, tt, tt)
shifted op t x (Fixed b) m n h e j k = absurd j
shifted op (Integer t) (Fixed a) (Integer b) m n h e j k = cc
shifted op (Fixed t) (Integer a) (Integer b) m n h e j k = cc
shifted op (Fixed t) (Fixed a) (Integer b) m n h e j k = let f : t ≡ a = cc in h t a f

same_format : (a b : FixedType) → a ≡ b → format_of b.kind ≡ format_of a.kind
same_format a b e = ap (λ (t : FixedType). format_of t.kind) (sym e)

shift_left : (t x y : Arithmetic) (m n : ℤ) → t ≡ x → IsIntegerKind y → IsKnownType x → SuitsTyped Shl t (operand x m) (operand y n)
shift_left t x (Integer b) m n e j k = shifted Shl t x (Integer b) m n same_format e j k
shift_left t x (Fixed b) m n e j k = absurd j

shift_right : (t x y : Arithmetic) (m n : ℤ) → t ≡ x → IsIntegerKind y → IsKnownType x → SuitsTyped Shr t (operand x m) (operand y n)
shift_right t x (Integer b) m n e j k = shifted Shr t x (Integer b) m n same_format e j k
shift_right t x (Fixed b) m n e j k = absurd j

count_kind : (x y : Arithmetic) → IsShiftCount x y → IsIntegerKind y
count_kind (Integer x) y h = h.0
count_kind (Fixed x) y h = h

int_result : (t : Arithmetic) → type_of t ≡ int → IsIntegerResult t
int_result t e = subst (λ (z : Arithmetic). IsIntegerResult z) (sym (int_only t e)) (inr (inl refl))

known : (t : Arithmetic) (n : ℤ) → HoldsNumber t n → IsKnownType t
known (Integer t) n h = h.0
known (Fixed t) n h = tt

binary_suits : (op : BinOp) (t x y : Arithmetic) (m n : ℤ) → HaveArithmeticTypes op t x y → HoldsNumber x m → HoldsNumber y n
    → Suits op t (operand x m) (operand y n)
binary_suits Add t x y m n h i j =
    by_result Add t x y m n h.value (known_common t x y h.value (known x m i) (known y n j)) (λ z e. result_format x y z m n h.signedness e)
binary_suits Sub t x y m n h i j =
    by_result Sub t x y m n h.value (known_common t x y h.value (known x m i) (known y n j)) (λ z e. result_format x y z m n h.signedness e)
binary_suits Mul t x y m n h i j = by_result Mul t x y m n h.value (known_common t x y h.value (known x m i) (known y n j))
    (λ z e. (result_format x y z m n h.signedness e, one_byte x m h.left i, one_byte y n h.right j))
binary_suits Div t x y m n h i j =
    by_result Div t x y m n h.value (known_common t x y h.value (known x m i) (known y n j)) (λ z e. result_format x y z m n h.signedness e)
binary_suits Rem t x y m n h i j =
    both_whole Rem x y t m n h.left h.right h.usual.value (known_common t x y h.usual.value (known x m i) (known y n j))
binary_suits Shl t x y m n h i j = shift_left t x y m n h.value (count_kind x y h.count) (known x m i)
binary_suits Shr t x y m n h i j = shift_right t x y m n h.value (count_kind x y h.count) (known x m i)
binary_suits And t x y m n h i j =
    both_whole And x y t m n h.left h.right h.usual.value (known_common t x y h.usual.value (known x m i) (known y n j))
binary_suits Or t x y m n h i j =
    both_whole Or x y t m n h.left h.right h.usual.value (known_common t x y h.usual.value (known x m i) (known y n j))
binary_suits Xor t x y m n h i j =
    both_whole Xor x y t m n h.left h.right h.usual.value (known_common t x y h.usual.value (known x m i) (known y n j))
binary_suits Lt t x y m n h i j = int_result t h.value
binary_suits Gt t x y m n h i j = int_result t h.value
binary_suits Le t x y m n h i j = int_result t h.value
binary_suits Ge t x y m n h i j = int_result t h.value
binary_suits Eq t x y m n h i j = int_result t h.value
binary_suits Ne t x y m n h i j = int_result t h.value

unary_suits : (op : UnOp) (t : Arithmetic) → HaveUnaryTypes op t → SuitsUnary op t
unary_suits Minus t h = tt
unary_suits Invert (Integer t) h = tt
unary_suits Invert (Fixed t) h = absurd h.0

-- ---- compound assignments

-- operands of the types beside each other
beside_format : (x y : Arithmetic) (z : FixedType) (m n : ℤ) → Fixed z ≡ common x y
    → IsResultFormat (operand (converted_beside x y) m) (operand (converted_beside y x) n) (format_of z.kind)
beside_format (Integer a) (Integer b) z m n e = cc
beside_format (Integer a) (Fixed b) z m n e = let f : z ≡ b = cc in ap (λ (t : FixedType). format_of t.kind) f
beside_format (Fixed a) (Integer b) z m n e = let f : z ≡ a = cc in ap (λ (t : FixedType). format_of t.kind) f
beside_format (Fixed a) (Fixed b) z m n e =
    let f : z ≡ common_fixed a b = cc in
    let k = kinds_beside a b in
    (k.signed, ap (λ (t : FixedType). format_of t.kind) f ∙ k.format)

beside_whole : (x y : Arithmetic) (t : IntegerType) (op : BinOp) (m n : ℤ) → Integer t ≡ common x y → IsInteger t
    → SuitsTyped op (Integer t) (operand (converted_beside x y) m) (operand (converted_beside y x) n)
beside_whole (Integer a) (Integer b) t op m n e k = (k, tt, tt)
beside_whole (Integer a) (Fixed b) t op m n e k = cc
beside_whole (Fixed a) (Integer b) t op m n e k = cc
beside_whole (Fixed a) (Fixed b) t op m n e k = cc

beside_result : (op : BinOp) (t x y : Arithmetic) (m n : ℤ) → t ≡ common x y → IsKnownType t → ((z : FixedType)
    → Fixed z ≡ common x y → SuitsFixed op (operand (converted_beside x y) m) (operand (converted_beside y x) n) (format_of z.kind))
    → SuitsTyped op t (operand (converted_beside x y) m) (operand (converted_beside y x) n)
beside_result op (Integer t) x y m n e k h = beside_whole x y t op m n e k
beside_result op (Fixed z) x y m n e k h = h z e

beside_known : (x y : Arithmetic) → IsKnownType x → IsKnownType y → IsKnownType (converted_beside x y)
beside_known (Integer a) (Integer b) i j = common_known (Integer a) (Integer b) i j
beside_known (Integer a) (Fixed b) i j = i
beside_known (Fixed a) (Integer b) i j = tt
beside_known (Fixed a) (Fixed b) i j = tt

chosen_bits : (b : Bool) (k : FxKind) → (format_of (if b then signed_kind k else k)).bits ≡ (format_of k).bits
chosen_bits true k = signed_bits k
chosen_bits false k = refl

-- an operand of one byte has one byte beside a fixed-point one
beside_byte : (x y : Arithmetic) (z : FixedType) (m : ℤ) → Fixed z ≡ common x y → IsOneByteType x → HoldsNumber (converted_beside x y) m
    → IsOneByte (operand (converted_beside x y) m)
beside_byte (Integer a) (Integer b) z m e h k = cc
beside_byte (Integer a) (Fixed b) z m e h k = one_byte (Integer a) m h k
beside_byte (Fixed a) (Integer b) z m e h k = h
beside_byte (Fixed a) (Fixed b) z m e h k = chosen_bits (format_of b.kind).signed a.kind ∙ h

fixed_either : (x y : Arithmetic) (z : FixedType) → Fixed z ≡ common x y → (c : FixedType) × (Fixed c ≡ common y x)
fixed_either (Integer a) (Integer b) z e = cc
fixed_either (Integer a) (Fixed b) z e = (b, refl)
fixed_either (Fixed a) (Integer b) z e = (a, refl)
fixed_either (Fixed a) (Fixed b) z e = (common_fixed b a, refl)

beside_types : (op : BinOp) (x y : Arithmetic) → IsKnownType x → IsKnownType y → ((m n : ℤ) → HoldsNumber (converted_beside x y) m
    → HoldsNumber (converted_beside y x) n → Suits op (common x y) (operand (converted_beside x y) m) (operand (converted_beside y x) n))
    → AreOperationTypes op (record { left = converted_beside x y; right = converted_beside y x; result = common x y })
beside_types op x y i j h = record { left = beside_known x y i j; right = beside_known y x j i; result = common_known x y i j; suited = h }

usual_types : (op : BinOp) (x y : Arithmetic) → IsKnownType x → IsKnownType y
    → ((t : Arithmetic) (m n : ℤ) → SuitsTyped op t (operand (converted_beside x y) m) (operand (converted_beside y x) n)
    → Suits op t (operand (converted_beside x y) m) (operand (converted_beside y x) n))
    → ((z : FixedType) (m n : ℤ) → IsResultFormat (operand (converted_beside x y) m) (operand (converted_beside y x) n) (format_of z.kind)
    → SuitsFixed op (operand (converted_beside x y) m) (operand (converted_beside y x) n) (format_of z.kind))
    → AreOperationTypes op (record { left = converted_beside x y; right = converted_beside y x; result = common x y })
usual_types op x y i j go fixed = beside_types op x y i j (λ m n p q.
    go _ m n (beside_result op (common x y) x y m n refl (common_known x y i j) (λ z e. fixed z m n (beside_format x y z m n e))))

whole_types : (op : BinOp) (x y : Arithmetic) → IsIntegerKind x → IsIntegerKind y → IsKnownType x → IsKnownType y
    → ((t : Arithmetic) (m n : ℤ) → SuitsTyped op t (operand (converted_beside x y) m) (operand (converted_beside y x) n)
    → Suits op t (operand (converted_beside x y) m) (operand (converted_beside y x) n))
    → AreOperationTypes op (record { left = converted_beside x y; right = converted_beside y x; result = common x y })
whole_types op (Integer a) (Integer b) p q i j go =
    beside_types op (Integer a) (Integer b) i j
    (λ m n r s. (let t : SuitsTyped op (Integer (common_integer a b)) (operand (converted_beside (Integer a) (Integer b)) m)
    (operand (converted_beside (Integer b) (Integer a)) n) = (common_known (Integer a) (Integer b) i j, tt, tt) in
    go (Integer (common_integer a b)) m n t))
whole_types op (Integer a) (Fixed b) p q i j go = absurd q
whole_types op (Fixed a) y p q i j go = absurd p

promoted_known : (x : Arithmetic) → IsKnownType x → IsKnownType (promoted_type x)
promoted_known (Integer x) i = by_size (nat_lt x.bytes 2)
  where
    by_size : (b : Bool) → IsInteger (if b then record { signed = true; bytes = 2 } else x)
    by_size true = inr (inl refl)
    by_size false = i
promoted_known (Fixed x) i = tt

compound_suits : (op : BinOp) (x y : Arithmetic) → HaveCompoundArithmetic op x y → IsKnownType x → IsKnownType y
    → AreOperationTypes op (operation_types op x y)
compound_suits Add x y h i j = usual_types Add x y i j (λ t m n r. r) (λ z m n r. r)
compound_suits Sub x y h i j = usual_types Sub x y i j (λ t m n r. r) (λ z m n r. r)
compound_suits Mul x y h i j =
    beside_types Mul x y i j (λ m n p q. beside_result Mul (common x y) x y m n refl (common_known x y i j)
    (λ z e. (beside_format x y z m n e, beside_byte x y z m e h.0 p, (let c = fixed_either x y z e in beside_byte y x c.0 n c.1 h.1 q))))
compound_suits Div x y h i j = usual_types Div x y i j (λ t m n r. r) (λ z m n r. r)
compound_suits Rem x y h i j = whole_types Rem x y h.0 h.1 i j (λ t m n r. r)
compound_suits Shl x y h i j = record {
  left = promoted_known x i;
  right = j;
  result = promoted_known x i;
  suited = λ m n p q. shift_left (promoted_type x) (promoted_type x) y m n refl h (promoted_known x i);
}
compound_suits Shr x y h i j = record {
  left = promoted_known x i;
  right = j;
  result = promoted_known x i;
  suited = λ m n p q. shift_right (promoted_type x) (promoted_type x) y m n refl h (promoted_known x i);
}
compound_suits And x y h i j = whole_types And x y h.0 h.1 i j (λ t m n r. r)
compound_suits Or x y h i j = whole_types Or x y h.0 h.1 i j (λ t m n r. r)
compound_suits Xor x y h i j = whole_types Xor x y h.0 h.1 i j (λ t m n r. r)
compound_suits Lt x y h i j = absurd h
compound_suits Gt x y h i j = absurd h
compound_suits Le x y h i j = absurd h
compound_suits Ge x y h i j = absurd h
compound_suits Eq x y h i j = absurd h
compound_suits Ne x y h i j = absurd h

pub operands_suit : OperandsSuit
operands_suit = record { unary = unary_suits; binary = binary_suits; compound = compound_suits }
