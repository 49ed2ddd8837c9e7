-- The bytes of the types of an operation, beside those of its operands.
use Rattle.std.proofs.Common.{◌≡◌, ◌⊎◌, ℕ, zero, suc, ◌*◌, ◌/◌, ◌≤◌, Bool, true, false, ◌&&◌, ◌||◌, refl, sym, subst, inl, inr, arith}
use Rattle.std.specs.Prelude.{if◌then◌else◌, nat_lt}
use Rattle.std.proofs.Math.Nat.{mul_comm, mul-le-mul_left}
use Rattle.ec_fx.specs.declared.formats.FxKind.{FxKind}
use Rattle.ec_fx.specs.declared.formats.FxKind.TheVariants.{ShortFract, Fract, LongFract, ShortAccum, Accum, LongAccum}
use Rattle.ec_fx.specs.declared.formats.FxKind.TheVariants.{UnsignedShortFract, UnsignedFract, UnsignedLongFract}
use Rattle.ec_fx.specs.declared.formats.FxKind.TheVariants.{UnsignedShortAccum, UnsignedAccum, UnsignedLongAccum}
use Rattle.ec_fx.specs.Formats.{format_of, rank_of}
use Rattle.ec_space.specs.declared.space.SpaceId.{SpaceId}
use Rattle.ec_space.specs.declared.space.SpaceId.TheVariants.{Flash, FarFlash, Data, Generic}
use Rattle.ec_space.specs.Spaces.{width}
use Rattle.ec_core.specs.declared.arithmetic_types.Arithmetic.{Arithmetic}
use Rattle.ec_core.specs.declared.arithmetic_types.Arithmetic.TheVariants.{Fixed}
use Rattle.ec_core.specs.declared.arithmetic_types.FixedType.{FixedType}
use Rattle.ec_core.specs.declared.arithmetic_types.IntegerType.{IntegerType}
use Rattle.ec_core.specs.ArithmeticTypes.{type_of, promoted, wider_or_unsigned, common_integer, signed_kind, higher_kind, common_fixed}
use Rattle.ec_core.specs.Layout.{scalar_size, IsIntegerSize}
use Rattle.ec_core.specs.Operators.{same_type}
use Rattle.ec_core.specs.Plain.{fixed}
use Rattle.ec_core.proofs.Sameness.{type_itself}
use Rattle.ec_core.proofs.Suiting.{signed_signed}

abbrev pub size : Arithmetic → ℕ
size z = scalar_size (type_of z)

pub at_most : (a b : ℕ) → a ≤ b → a * a ≤ b * b
at_most a b h = let x : a * a ≤ a * b = mul-le-mul_left a h in let y : b * a ≤ b * b = mul-le-mul_left b h in let c : a * b ≡ b * a =
    mul_comm a b in omega (arith, x, y, c)

pub one_or_two : (b : ℕ) → 1 ≤ b → (b ≡ 1) ⊎ (2 ≤ b)
one_or_two zero h = absurd (omega arith)
one_or_two (suc zero) h = inl refl
one_or_two (suc (suc b)) h = inr (omega arith)

-- ---- integers

pub integer_bytes : (b : ℕ) → IsIntegerSize b → (1 ≤ b) × (b ≤ 4)
integer_bytes b (inl e) = (omega (arith, e), omega (arith, e))
integer_bytes b (inr (inl e)) = (omega (arith, e), omega (arith, e))
integer_bytes b (inr (inr e)) = (omega (arith, e), omega (arith, e))

size_if : (c : Bool) (s t : IntegerType) (m : ℕ) → s.bytes ≤ m → t.bytes ≤ m → (if c then s else t).bytes ≤ m
size_if true s t m p q = p
size_if false s t m p q = q

pub promoted_size : (t : IntegerType) (m : ℕ) → 2 ≤ m → t.bytes ≤ m → (promoted t).bytes ≤ m
promoted_size t m p q = size_if (nat_lt t.bytes 2) (record { signed = true; bytes = 2 }) t m p q

wider_size : (s t : IntegerType) (m : ℕ) → s.bytes ≤ m → t.bytes ≤ m → (wider_or_unsigned s t).bytes ≤ m
wider_size s t m p q =
    size_if (nat_lt s.bytes t.bytes) t (if nat_lt t.bytes s.bytes then s else record { signed = s.signed && t.signed; bytes = s.bytes }) m q
    (size_if (nat_lt t.bytes s.bytes) s (record { signed = s.signed && t.signed; bytes = s.bytes }) m p p)

pub common_size : (s t : IntegerType) (m : ℕ) → 2 ≤ m → s.bytes ≤ m → t.bytes ≤ m → (common_integer s t).bytes ≤ m
common_size s t m two p q = wider_size (promoted s) (promoted t) m (promoted_size s m two p) (promoted_size t m two q)

-- ---- fixed-point numbers

pub kind_bytes : (k : FxKind) → (1 ≤ (format_of k).bits / 8) × ((format_of k).bits / 8 ≤ 8)
kind_bytes ShortFract = (omega arith, omega arith)
kind_bytes Fract = (omega arith, omega arith)
kind_bytes LongFract = (omega arith, omega arith)
kind_bytes ShortAccum = (omega arith, omega arith)
kind_bytes Accum = (omega arith, omega arith)
kind_bytes LongAccum = (omega arith, omega arith)
kind_bytes UnsignedShortFract = (omega arith, omega arith)
kind_bytes UnsignedFract = (omega arith, omega arith)
kind_bytes UnsignedLongFract = (omega arith, omega arith)
kind_bytes UnsignedShortAccum = (omega arith, omega arith)
kind_bytes UnsignedAccum = (omega arith, omega arith)
kind_bytes UnsignedLongAccum = (omega arith, omega arith)

signed_size : (k : FxKind) → (format_of (signed_kind k)).bits / 8 ≡ (format_of k).bits / 8
signed_size ShortFract = refl
signed_size Fract = refl
signed_size LongFract = refl
signed_size ShortAccum = refl
signed_size Accum = refl
signed_size LongAccum = refl
signed_size UnsignedShortFract = refl
signed_size UnsignedFract = refl
signed_size UnsignedLongFract = refl
signed_size UnsignedShortAccum = refl
signed_size UnsignedAccum = refl
signed_size UnsignedLongAccum = refl

kind_if : (c : Bool) (p q : FxKind) (m : ℕ) → (format_of p).bits / 8 ≤ m → (format_of q).bits / 8 ≤ m
    → (format_of (if c then p else q)).bits / 8 ≤ m
kind_if true p q m x y = x
kind_if false p q m x y = y

higher_size : (p q : FxKind) (m : ℕ) → (format_of p).bits / 8 ≤ m → (format_of q).bits / 8 ≤ m → (format_of (higher_kind p q)).bits / 8 ≤ m
higher_size p q m x y = kind_if (nat_lt (rank_of (format_of p)) (rank_of (format_of q))) q p m y x

pub fixed_size : (s t : FixedType) (m : ℕ) → size (Fixed s) ≤ m → size (Fixed t) ≤ m → size (Fixed (common_fixed s t)) ≤ m
fixed_size s t m x y =
    kind_if ((format_of s.kind).signed || (format_of t.kind).signed) (higher_kind (signed_kind s.kind) (signed_kind t.kind))
    (higher_kind s.kind t.kind) m
    (higher_size (signed_kind s.kind) (signed_kind t.kind) m (let e = signed_size s.kind in omega (arith, e, x))
    (let e = signed_size t.kind in omega (arith, e, y)))
    (higher_size s.kind t.kind m x y)

-- the kind that one operand is brought to beside another
abbrev pub beside : FixedType → FixedType → FxKind
beside s t = if (format_of t.kind).signed then signed_kind s.kind else s.kind

pub beside_size : (s t : FixedType) → (format_of (beside s t)).bits / 8 ≡ (format_of s.kind).bits / 8
beside_size s t = by_sign (format_of t.kind).signed
  where
    by_sign : (c : Bool) → (format_of (if c then signed_kind s.kind else s.kind)).bits / 8 ≡ (format_of s.kind).bits / 8
    by_sign true = signed_size s.kind
    by_sign false = refl

-- of two fixed-point operands one at most is converted
pub one_stays : (s t : FixedType) → (beside s t ≡ s.kind) ⊎ (beside t s ≡ t.kind)
one_stays s t = by_sign (format_of t.kind).signed refl (format_of s.kind).signed refl
  where
    if_kind : (c d : Bool) (z : FixedType) → c ≡ d → (if d then signed_kind z.kind else z.kind) ≡ z.kind
        → (if c then signed_kind z.kind else z.kind) ≡ z.kind
    if_kind c d z e f = subst (λ (b : Bool). (if b then signed_kind z.kind else z.kind) ≡ z.kind) (sym e) f

    by_sign : (b : Bool) → (format_of t.kind).signed ≡ b → (c : Bool) → (format_of s.kind).signed ≡ c
        → (beside s t ≡ s.kind) ⊎ (beside t s ≡ t.kind)
    by_sign false e c f = inl (if_kind (format_of t.kind).signed false s e refl)
    by_sign true e true f = inl (if_kind (format_of t.kind).signed true s e (signed_signed s.kind f))
    by_sign true e false f = inr (if_kind (format_of s.kind).signed false t f refl)

pub kind_itself : (k l : FxKind) (b : Bool) → k ≡ l → same_type (fixed k b) (fixed l b) ≡ true
kind_itself k l b e = subst (λ (x : FxKind). same_type (fixed k b) (fixed x b) ≡ true) e (type_itself (fixed k b))

-- ---- pointers

pub some_width : (space : SpaceId) → (2 ≤ width space) × (width space ≤ 4)
some_width Flash = (omega arith, omega arith)
some_width FarFlash = (omega arith, omega arith)
some_width Data = (omega arith, omega arith)
some_width Generic = (omega arith, omega arith)
