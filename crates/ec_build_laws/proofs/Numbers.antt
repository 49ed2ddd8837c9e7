-- Numbers and their bytes.
use Rattle.std.proofs.Common.{◌≡◌, inl, inr, ℕ, ◌+◌, ◌*◌, ◌/◌, ◌%◌, ◌^◌, ◌<◌, ℤ, pos, negsuc, Bool, true, false, refl}
use Rattle.std.proofs.Common.{sym}
use Rattle.std.proofs.Common.{◌∙◌, subst, arith, get_or}
use Rattle.std.specs.Prelude.{IsSomeAnd}
use Rattle.std.specs.Int.{cast_unsigned, w128}
use Rattle.ec_space.specs.Bytes.{little_endian}
use Rattle.ec_space.specs.Spaces.{width}
use Rattle.ec_space.specs.declared.space.SpaceId.{SpaceId}
use Rattle.ec_space.specs.declared.space.SpaceId.TheVariants.{Flash, FarFlash, Data, Generic}
use Rattle.ec_fx.specs.Formats.{format_of}
use Rattle.ec_fx.specs.Ranges.{IsWithin}
use Rattle.ec_fx.specs.declared.formats.FxKind.{FxKind}
use Rattle.ec_fx.specs.declared.formats.FxKind.TheVariants.{ShortFract, Fract, LongFract, ShortAccum, Accum, LongAccum}
use Rattle.ec_fx.specs.declared.formats.FxKind.TheVariants.{UnsignedShortFract}
use Rattle.ec_fx.specs.declared.formats.FxKind.TheVariants.{UnsignedFract, UnsignedLongFract, UnsignedShortAccum}
use Rattle.ec_fx.specs.declared.formats.FxKind.TheVariants.{UnsignedAccum}
use Rattle.ec_fx.specs.declared.formats.FxKind.TheVariants.{UnsignedLongAccum}
use Rattle.ec_asm.specs.Pieces.{value}
use Rattle.ec_core.specs.ArithmeticTypes.{arithmetic_of}
use Rattle.ec_core.specs.ArithmeticValues.{HoldsNumber}
use Rattle.ec_core.specs.Layout.{IsIntegerSize, scalar_size}
use Rattle.ec_core.specs.Plain.{PlainType, void, integer, fixed, pointer, array, struct}
use Rattle.ec_ir.specs.Temporaries.{low_bytes}
use Rattle.ec_lower_code.proofs.Wellformed.{kind_eight}

-- the bytes of a number of so many bytes
abbrev pub AreBytesOf : (ℕ → ℕ) → (a n x : ℕ) → Type 0
AreBytesOf f a n x = (k : ℕ) → k < n → f (a + k) ≡ get_or (little_endian n x) k 0

one : (f : ℕ → ℕ) (a x : ℕ) → AreBytesOf f a 1 x → value f a 1 ≡ x % 256
one f a x h =
    let b0 : f (a + 0) ≡ x % 256 = h 0 (omega arith) in
    omega (arith, b0)

two : (f : ℕ → ℕ) (a x : ℕ) → AreBytesOf f a 2 x → value f a 2 ≡ x % 65536
two f a x h =
    let b0 : f (a + 0) ≡ x % 256 = h 0 (omega arith) in
    let b1 : f (a + 1) ≡ x / 256 % 256 = h 1 (omega arith) in
    omega (arith, b0, b1)

three : (f : ℕ → ℕ) (a x : ℕ) → AreBytesOf f a 3 x → value f a 3 ≡ x % 16777216
three f a x h =
    let b0 : f (a + 0) ≡ x % 256 = h 0 (omega arith) in
    let b1 : f (a + 1) ≡ x / 256 % 256 = h 1 (omega arith) in
    let b2 : f (a + 2) ≡ x / 256 / 256 % 256 = h 2 (omega arith) in
    omega (arith, b0, b1, b2)

four : (f : ℕ → ℕ) (a x : ℕ) → AreBytesOf f a 4 x → value f a 4 ≡ x % 4294967296
four f a x h =
    let b0 : f (a + 0) ≡ x % 256 = h 0 (omega arith) in
    let b1 : f (a + 1) ≡ x / 256 % 256 = h 1 (omega arith) in
    let b2 : f (a + 2) ≡ x / 256 / 256 % 256 = h 2 (omega arith) in
    let b3 : f (a + 3) ≡ x / 256 / 256 / 256 % 256 = h 3 (omega arith) in
    omega (arith, b0, b1, b2, b3)

eight : (f : ℕ → ℕ) (a x : ℕ) → AreBytesOf f a 8 x → value f a 8 ≡ x % 18446744073709551616
eight f a x h =
    let b0 : f (a + 0) ≡ x % 256 = h 0 (omega arith) in
    let b1 : f (a + 1) ≡ x / 256 % 256 = h 1 (omega arith) in
    let b2 : f (a + 2) ≡ x / 256 / 256 % 256 = h 2 (omega arith) in
    let b3 : f (a + 3) ≡ x / 256 / 256 / 256 % 256 = h 3 (omega arith) in
    let b4 : f (a + 4) ≡ x / 256 / 256 / 256 / 256 % 256 = h 4 (omega arith) in
    let b5 : f (a + 5) ≡ x / 256 / 256 / 256 / 256 / 256 % 256 = h 5 (omega arith) in
    let b6 : f (a + 6) ≡ x / 256 / 256 / 256 / 256 / 256 / 256 % 256 = h 6 (omega arith) in
    let b7 : f (a + 7) ≡ x / 256 / 256 / 256 / 256 / 256 / 256 / 256 % 256 = h 7 (omega arith) in
    omega (arith, b0, b1, b2, b3, b4, b5, b6, b7)

-- a negative number of at most 64 bits is small
small_8 : (s : Bool) (k : ℕ) → IsWithin s 8 (negsuc k) → k < 256
small_8 true k h = grind (arith, h.low)
small_8 false k h = grind (arith, h.low)

small_16 : (s : Bool) (k : ℕ) → IsWithin s 16 (negsuc k) → k < 65536
small_16 true k h = grind (arith, h.low)
small_16 false k h = grind (arith, h.low)

small_32 : (s : Bool) (k : ℕ) → IsWithin s 32 (negsuc k) → k < 4294967296
small_32 true k h = grind (arith, h.low)
small_32 false k h = grind (arith, h.low)

small_64 : (s : Bool) (k : ℕ) → IsWithin s 64 (negsuc k) → k < 18446744073709551616
small_64 true k h = grind (arith, h.low)
small_64 false k h = grind (arith, h.low)

-- what stands for a number at 128 bits has its low bytes
low_one : (s : Bool) (n : ℤ) → IsWithin s 8 n → cast_unsigned w128 n % 256 ≡ low_bytes 1 n
low_one s (pos k) h = refl
low_one s (negsuc k) h = let l = small_8 s k h in omega (arith, l)

low_two : (s : Bool) (n : ℤ) → IsWithin s 16 n → cast_unsigned w128 n % 65536 ≡ low_bytes 2 n
low_two s (pos k) h = refl
low_two s (negsuc k) h = let l = small_16 s k h in omega (arith, l)

low_four : (s : Bool) (n : ℤ) → IsWithin s 32 n → cast_unsigned w128 n % 4294967296 ≡ low_bytes 4 n
low_four s (pos k) h = refl
low_four s (negsuc k) h = let l = small_32 s k h in omega (arith, l)

low_eight : (s : Bool) (n : ℤ) → IsWithin s 64 n → cast_unsigned w128 n % 18446744073709551616 ≡ low_bytes 8 n
low_eight s (pos k) h = refl
low_eight s (negsuc k) h = let l = small_64 s k h in omega (arith, l)

-- ---- the bytes of a number of each size are its low bytes

abbrev HaveLowBytes : (signed : Bool) (bytes : ℕ) → Type 0
HaveLowBytes s b =
    (f : ℕ → ℕ) (a : ℕ) (n : ℤ) → IsWithin s (8 * b) n → AreBytesOf f a b (cast_unsigned w128 n) → value f a b ≡ low_bytes b n

of_one : (s : Bool) → HaveLowBytes s 1
of_one s f a n r h = one f a (cast_unsigned w128 n) h ∙ low_one s n r

of_two : (s : Bool) → HaveLowBytes s 2
of_two s f a n r h = two f a (cast_unsigned w128 n) h ∙ low_two s n r

of_four : (s : Bool) → HaveLowBytes s 4
of_four s f a n r h = four f a (cast_unsigned w128 n) h ∙ low_four s n r

of_eight : (s : Bool) → HaveLowBytes s 8
of_eight s f a n r h = eight f a (cast_unsigned w128 n) h ∙ low_eight s n r

of_integer : (s : Bool) (b : ℕ) → IsIntegerSize b → HaveLowBytes s b
of_integer s b (inl q) = subst (HaveLowBytes s) (sym q) (of_one s)
of_integer s b (inr (inl q)) = subst (HaveLowBytes s) (sym q) (of_two s)
of_integer s b (inr (inr q)) = subst (HaveLowBytes s) (sym q) (of_four s)

of_kind : (k : FxKind) → HaveLowBytes (format_of k).signed ((format_of k).bits / 8)
of_kind ShortFract = of_one true
of_kind Fract = of_two true
of_kind LongFract = of_four true
of_kind ShortAccum = of_two true
of_kind Accum = of_four true
of_kind LongAccum = of_eight true
of_kind UnsignedShortFract = of_one false
of_kind UnsignedFract = of_two false
of_kind UnsignedLongFract = of_four false
of_kind UnsignedShortAccum = of_two false
of_kind UnsignedAccum = of_four false
of_kind UnsignedLongAccum = of_eight false

-- the bytes of a number of a type are its low bytes
pub bytes_are_low : (ty : PlainType) (f : ℕ → ℕ) (a : ℕ) (n : ℤ) → IsSomeAnd (arithmetic_of ty) (λ t. HoldsNumber t n)
    → AreBytesOf f a (scalar_size ty) (cast_unsigned w128 n) → value f a (scalar_size ty) ≡ low_bytes (scalar_size ty) n
bytes_are_low void f a n holds bytes = absurd holds
bytes_are_low (integer signed b) f a n holds bytes = of_integer signed b holds.0 f a n holds.1 bytes
bytes_are_low (fixed kind sat) f a n holds bytes =
    of_kind kind f a n (subst (λ b. IsWithin (format_of kind).signed b n) (kind_eight kind) holds) bytes
bytes_are_low (pointer space const to) f a n holds bytes = absurd holds
bytes_are_low (array of len) f a n holds bytes = absurd holds
bytes_are_low (struct index) f a n holds bytes = absurd holds

-- the bytes of a pointer into a space
pub of_pointer : (space : SpaceId) (f : ℕ → ℕ) (a x : ℕ) → AreBytesOf f a (width space) x → value f a (width space) ≡ x % 256 ^ width space
of_pointer Flash f a x h = two f a x h
of_pointer Data f a x h = two f a x h
of_pointer FarFlash f a x h = three f a x h
of_pointer Generic f a x h = three f a x h
