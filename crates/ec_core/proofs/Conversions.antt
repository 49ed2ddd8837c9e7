-- Operands that were converted to the types beside one another have the types that their operators ask for.
use Rattle.std.proofs.Common.{◌≡◌, ℕ, Bool, true, false, ◌||◌, refl, sym, ap, ◌∙◌, subst, inl, inr, ◌≤◌, arith}
use Rattle.std.specs.Prelude.{if◌then◌else◌}
use Rattle.ec_fx.specs.declared.formats.FxKind.{FxKind}
use Rattle.ec_fx.specs.declared.formats.FxKind.TheVariants.{ShortFract, Fract, LongFract, ShortAccum, Accum, LongAccum, UnsignedShortFract}
use Rattle.ec_fx.specs.declared.formats.FxKind.TheVariants.{UnsignedFract, UnsignedLongFract, UnsignedShortAccum, UnsignedAccum}
use Rattle.ec_fx.specs.declared.formats.FxKind.TheVariants.{UnsignedLongAccum}
use Rattle.ec_fx.specs.Formats.{format_of}
use Rattle.ec_core.specs.declared.arithmetic_types.Arithmetic.{Arithmetic}
use Rattle.ec_core.specs.declared.arithmetic_types.Arithmetic.TheVariants.{Integer, Fixed}
use Rattle.ec_core.specs.declared.arithmetic_types.IntegerType.{IntegerType}
use Rattle.ec_core.specs.ArithmeticTypes.{type_of, promoted, common_integer, signed_kind, higher_kind, common}
use Rattle.ec_core.specs.ArithmeticValues.{IsKnownType}
use Rattle.ec_core.specs.Integers.{IsInteger}
use Rattle.ec_core.specs.Layout.{IsIntegerSize}
use Rattle.ec_core.specs.Operators.{converted_beside, promoted_type}
use Rattle.ec_core.specs.TypeLaws.{factor_beside, compared_beside, UsualConversions}
use Rattle.ec_core.specs.Typing.{int, IsIntegerKind, IsOneByteType, HaveUsualTypes, HaveProductTypes, HaveIntegerTypes, HaveShiftTypes}
use Rattle.ec_core.specs.Typing.{HaveComparedTypes, AreConvertible, IsBranchType}

-- ---- integers

data Size : Type 0 where
  one : Size
  two : Size
  four : Size

abbrev bytes_of : Size → ℕ
bytes_of one = 1
bytes_of two = 2
bytes_of four = 4

abbrev int_of : Bool → ℕ → IntegerType
int_of s n = record { signed = s; bytes = n }

-- the common type of two integers does not change by its order, or once more; it has at least two bytes
record AreAlike (a b : IntegerType) : Type 0 where
  same : common_integer a b ≡ common_integer b a
  kept : promoted (common_integer a b) ≡ common_integer a b
  again : common_integer a b ≡ common_integer (common_integer a b) (common_integer b a)
  size : IsIntegerSize (common_integer a b).bytes
  wide : 2 ≤ (common_integer a b).bytes

two_bytes : IsIntegerSize 2
two_bytes = inr (inl refl)

four_bytes : IsIntegerSize 4
four_bytes = inr (inr refl)

sized : (s t : Bool) (m n : Size) → AreAlike (int_of s (bytes_of m)) (int_of t (bytes_of n))
sized true true one one = record { same = refl; kept = refl; again = refl; size = two_bytes; wide = omega arith }
sized true true one two = record { same = refl; kept = refl; again = refl; size = two_bytes; wide = omega arith }
sized true true one four = record { same = refl; kept = refl; again = refl; size = four_bytes; wide = omega arith }
sized true true two one = record { same = refl; kept = refl; again = refl; size = two_bytes; wide = omega arith }
sized true true two two = record { same = refl; kept = refl; again = refl; size = two_bytes; wide = omega arith }
sized true true two four = record { same = refl; kept = refl; again = refl; size = four_bytes; wide = omega arith }
sized true true four one = record { same = refl; kept = refl; again = refl; size = four_bytes; wide = omega arith }
sized true true four two = record { same = refl; kept = refl; again = refl; size = four_bytes; wide = omega arith }
sized true true four four = record { same = refl; kept = refl; again = refl; size = four_bytes; wide = omega arith }
sized true false one one = record { same = refl; kept = refl; again = refl; size = two_bytes; wide = omega arith }
sized true false one two = record { same = refl; kept = refl; again = refl; size = two_bytes; wide = omega arith }
sized true false one four = record { same = refl; kept = refl; again = refl; size = four_bytes; wide = omega arith }
sized true false two one = record { same = refl; kept = refl; again = refl; size = two_bytes; wide = omega arith }
sized true false two two = record { same = refl; kept = refl; again = refl; size = two_bytes; wide = omega arith }
sized true false two four = record { same = refl; kept = refl; again = refl; size = four_bytes; wide = omega arith }
sized true false four one = record { same = refl; kept = refl; again = refl; size = four_bytes; wide = omega arith }
sized true false four two = record { same = refl; kept = refl; again = refl; size = four_bytes; wide = omega arith }
sized true false four four = record { same = refl; kept = refl; again = refl; size = four_bytes; wide = omega arith }
sized false true one one = record { same = refl; kept = refl; again = refl; size = two_bytes; wide = omega arith }
sized false true one two = record { same = refl; kept = refl; again = refl; size = two_bytes; wide = omega arith }
sized false true one four = record { same = refl; kept = refl; again = refl; size = four_bytes; wide = omega arith }
sized false true two one = record { same = refl; kept = refl; again = refl; size = two_bytes; wide = omega arith }
sized false true two two = record { same = refl; kept = refl; again = refl; size = two_bytes; wide = omega arith }
sized false true two four = record { same = refl; kept = refl; again = refl; size = four_bytes; wide = omega arith }
sized false true four one = record { same = refl; kept = refl; again = refl; size = four_bytes; wide = omega arith }
sized false true four two = record { same = refl; kept = refl; again = refl; size = four_bytes; wide = omega arith }
sized false true four four = record { same = refl; kept = refl; again = refl; size = four_bytes; wide = omega arith }
sized false false one one = record { same = refl; kept = refl; again = refl; size = two_bytes; wide = omega arith }
sized false false one two = record { same = refl; kept = refl; again = refl; size = two_bytes; wide = omega arith }
sized false false one four = record { same = refl; kept = refl; again = refl; size = four_bytes; wide = omega arith }
sized false false two one = record { same = refl; kept = refl; again = refl; size = two_bytes; wide = omega arith }
sized false false two two = record { same = refl; kept = refl; again = refl; size = two_bytes; wide = omega arith }
sized false false two four = record { same = refl; kept = refl; again = refl; size = four_bytes; wide = omega arith }
sized false false four one = record { same = refl; kept = refl; again = refl; size = four_bytes; wide = omega arith }
sized false false four two = record { same = refl; kept = refl; again = refl; size = four_bytes; wide = omega arith }
sized false false four four = record { same = refl; kept = refl; again = refl; size = four_bytes; wide = omega arith }

size_of : (n : ℕ) → IsIntegerSize n → (m : Size) × (n ≡ bytes_of m)
size_of n (inl e) = (one, e)
size_of n (inr (inl e)) = (two, e)
size_of n (inr (inr e)) = (four, e)

alike : (a b : IntegerType) → IsInteger a → IsInteger b → AreAlike a b
alike a b i j =
    let m = size_of a.bytes i in
    let n = size_of b.bytes j in
    let P : ℕ × ℕ → Type 0 = λ z. AreAlike (int_of a.signed z.0) (int_of b.signed z.1) in
    subst P (λ k. (sym m.1 k, sym n.1 k)) (sized a.signed b.signed m.0 n.0)

promoted_sized : (s : Bool) (m : Size) → promoted (promoted (int_of s (bytes_of m))) ≡ promoted (int_of s (bytes_of m))
promoted_sized s one = refl
promoted_sized s two = refl
promoted_sized s four = refl

promoted_again : (a : IntegerType) → IsInteger a → promoted (promoted a) ≡ promoted a
promoted_again a i =
    let m = size_of a.bytes i in
    let P : ℕ → Type 0 = λ n. promoted (promoted (int_of a.signed n)) ≡ promoted (int_of a.signed n) in
    subst P (sym m.1) (promoted_sized a.signed m.0)

-- ---- fixed-point kinds

signed_again : (k : FxKind) → signed_kind (signed_kind k) ≡ signed_kind k
signed_again ShortFract = refl
signed_again Fract = refl
signed_again LongFract = refl
signed_again ShortAccum = refl
signed_again Accum = refl
signed_again LongAccum = refl
signed_again UnsignedShortFract = refl
signed_again UnsignedFract = refl
signed_again UnsignedLongFract = refl
signed_again UnsignedShortAccum = refl
signed_again UnsignedAccum = refl
signed_again UnsignedLongAccum = refl

signed_signed : (k : FxKind) → (format_of (signed_kind k)).signed ≡ true
signed_signed ShortFract = refl
signed_signed Fract = refl
signed_signed LongFract = refl
signed_signed ShortAccum = refl
signed_signed Accum = refl
signed_signed LongAccum = refl
signed_signed UnsignedShortFract = refl
signed_signed UnsignedFract = refl
signed_signed UnsignedLongFract = refl
signed_signed UnsignedShortAccum = refl
signed_signed UnsignedAccum = refl
signed_signed UnsignedLongAccum = refl

signed_bits : (b : Bool) (k : FxKind) → (format_of (if b then signed_kind k else k)).bits ≡ (format_of k).bits
signed_bits false k = refl
signed_bits true ShortFract = refl
signed_bits true Fract = refl
signed_bits true LongFract = refl
signed_bits true ShortAccum = refl
signed_bits true Accum = refl
signed_bits true LongAccum = refl
signed_bits true UnsignedShortFract = refl
signed_bits true UnsignedFract = refl
signed_bits true UnsignedLongFract = refl
signed_bits true UnsignedShortAccum = refl
signed_bits true UnsignedAccum = refl
signed_bits true UnsignedLongAccum = refl

abbrev is_signed : FxKind → Bool
is_signed k = (format_of k).signed

abbrev with_sign : Bool → FxKind → FxKind
with_sign b k = if b then signed_kind k else k

abbrev common_kind : Bool → Bool → FxKind → FxKind → FxKind
common_kind b c p q = if b || c then higher_kind (signed_kind p) (signed_kind q) else higher_kind p q

-- kinds that were brought beside one another are both signed or both unsigned, and have the same common kind
record KindsAlike (b c : Bool) (p q : FxKind) : Type 0 where
  signs : is_signed (with_sign c p) ≡ is_signed (with_sign b q)
  again : common_kind b c p q ≡ common_kind (is_signed (with_sign c p)) (is_signed (with_sign b q)) (with_sign c p) (with_sign b q)

by_signs : (b c : Bool) (p q : FxKind) → is_signed p ≡ b → is_signed q ≡ c → KindsAlike b c p q
by_signs true true p q e f = record {
  signs = signed_signed p ∙ sym (signed_signed q);
  again = sym ((λ i. common_kind (signed_signed p i) (signed_signed q i) (signed_kind p) (signed_kind q))
      ∙ (λ i. higher_kind (signed_again p i) (signed_again q i)));
}
by_signs true false p q e f = record {
  signs = e ∙ sym (signed_signed q);
  again = sym ((λ i. common_kind (e i) (signed_signed q i) p (signed_kind q)) ∙ (λ i. higher_kind (signed_kind p) (signed_again q i)));
}
by_signs false true p q e f = record {
  signs = signed_signed p ∙ sym f;
  again = sym ((λ i. common_kind (signed_signed p i) (f i) (signed_kind p) q) ∙ (λ i. higher_kind (signed_again p i) (signed_kind q)));
}
by_signs false false p q e f = record { signs = e ∙ sym f; again = sym (λ i. common_kind (e i) (f i) p q) }

kinds_alike : (p q : FxKind) → KindsAlike (is_signed p) (is_signed q) p q
kinds_alike p q = by_signs (is_signed p) (is_signed q) p q refl refl

-- ---- operators

result : (x y : Arithmetic) → IsKnownType x → IsKnownType y → IsKnownType (common x y)
result (Integer a) (Integer b) i j = (alike a b i j).size
result (Integer a) (Fixed b) i j = tt
result (Fixed a) (Integer b) i j = tt
result (Fixed a) (Fixed b) i j = tt

operand : (x y : Arithmetic) → IsKnownType x → IsKnownType y → IsKnownType (converted_beside x y)
operand (Integer a) (Integer b) i j = (alike a b i j).size
operand (Integer a) (Fixed b) i j = i
operand (Fixed a) (Integer b) i j = tt
operand (Fixed a) (Fixed b) i j = tt

convertible : (x y : Arithmetic) → AreConvertible (type_of x) (type_of y)
convertible (Integer a) (Integer b) = tt
convertible (Integer a) (Fixed b) = tt
convertible (Fixed a) (Integer b) = tt
convertible (Fixed a) (Fixed b) = tt

usual : (x y : Arithmetic) → IsKnownType x → IsKnownType y → HaveUsualTypes (common x y) (converted_beside x y) (converted_beside y x)
usual (Integer a) (Integer b) i j =
    let k = alike a b i j in
    record { integers = (k.same, k.kept); signedness = tt; value = ap Integer k.again }
usual (Integer a) (Fixed b) i j = record { integers = tt; signedness = tt; value = refl }
usual (Fixed a) (Integer b) i j = record { integers = tt; signedness = tt; value = refl }
usual (Fixed a) (Fixed b) i j =
    let k = kinds_alike a.kind b.kind in
    record { integers = tt; signedness = k.signs; value = ap (λ (z : FxKind). Fixed (record { kind = z; sat = a.sat || b.sat })) k.again }

integers : (x y : Arithmetic) → IsKnownType x → IsKnownType y → IsIntegerKind x → IsIntegerKind y
    → HaveIntegerTypes (common x y) (converted_beside x y) (converted_beside y x)
integers (Integer a) (Integer b) i j e f = record { left = tt; right = tt; usual = usual (Integer a) (Integer b) i j }
integers (Integer a) (Fixed b) i j e f = absurd f
integers (Fixed a) y i j e f = absurd e

products : (x y : Arithmetic) → IsOneByteType x → IsOneByteType y → HaveProductTypes (common x y) (factor_beside x y) (factor_beside y x)
products (Integer a) (Integer b) e f = record { left = e; right = f; signedness = tt; value = refl }
products (Integer a) (Fixed b) e f = record { left = e; right = f; signedness = tt; value = refl }
products (Fixed a) (Integer b) e f = record { left = e; right = f; signedness = tt; value = refl }
products (Fixed a) (Fixed b) e f = let k = kinds_alike a.kind b.kind in record {
  left = signed_bits (is_signed b.kind) a.kind ∙ e;
  right = signed_bits (is_signed a.kind) b.kind ∙ f;
  signedness = k.signs;
  value = ap (λ (z : FxKind). Fixed (record { kind = z; sat = a.sat || b.sat })) k.again;
}

compared : (x y : Arithmetic) → IsKnownType x → IsKnownType y → (ty : Arithmetic) → type_of ty ≡ int
    → HaveComparedTypes ty (compared_beside x y) (compared_beside y x)
compared (Integer a) (Integer b) i j ty e = let k = alike a b i j in record { integers = (k.same, k.kept); value = e }
compared (Integer a) (Fixed b) i j ty e = record { integers = tt; value = e }
compared (Fixed a) (Integer b) i j ty e = record { integers = tt; value = e }
compared (Fixed a) (Fixed b) i j ty e = record { integers = tt; value = e }

shifted : (x y : Arithmetic) → IsKnownType x → IsKnownType y → IsIntegerKind y
    → HaveShiftTypes (promoted_type x) (promoted_type x) (promoted_type y)
shifted (Integer a) (Integer b) i j e = record { left = promoted_again a i; count = (tt, promoted_again b j); value = refl }
shifted (Fixed a) (Integer b) i j e = record { left = tt; count = tt; value = refl }
shifted x (Fixed b) i j e = absurd e

branches : (x y : Arithmetic) → IsKnownType x → IsKnownType y → IsBranchType (type_of (common x y))
branches (Integer a) (Integer b) i j = (alike a b i j).wide
branches (Integer a) (Fixed b) i j = tt
branches (Fixed a) (Integer b) i j = tt
branches (Fixed a) (Fixed b) i j = tt

pub usual_conversions : UsualConversions
usual_conversions = record {
  suit = λ x y i j. record {
    result = result x y i j;
    operand = operand x y i j;
    convertible = convertible x y;
    usual = usual x y i j;
    integers = integers x y i j;
    products = products x y;
    compared = compared x y i j;
    shifted = shifted x y i j;
    branches = branches x y i j;
  };
  counted = λ x y e. record { left = tt; count = e; value = refl };
}
