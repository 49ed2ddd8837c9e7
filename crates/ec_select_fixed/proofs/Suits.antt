-- The formats of operands and result suit the operator, where their types do.
use Rattle.std.proofs.Common.{◌≡◌, ◌⊎◌, inl, inr, ⊎_elim, ℕ, ◌*◌, ◌==◌, Bool, true, false, refl, sym, ap, ◌∙◌, subst}
use Rattle.std.specs.Prelude.{IsSomeAnd, Some, None, nat_lt, if◌then◌else◌, ◌||◌, ⊤, pos}
use Rattle.ec_fx.specs.declared.formats.Format.{Format}
use Rattle.ec_fx.specs.declared.formats.FxKind.{FxKind}
use Rattle.ec_fx.specs.declared.numbers.Num.{Num}
use Rattle.ec_fx.specs.declared.numbers.Num.TheVariants.{Whole, Fixed as FixedNum}
use Rattle.ec_fx.specs.Arithmetic.{IsResultFormat}
use Rattle.ec_fx.specs.Formats.{format_of, IsFormat, higher, rank_of}
use Rattle.ec_fx.proofs.FormatLemmas.{IsFormat-format_of}
use Rattle.ec_core.specs.declared.arithmetic_types.Arithmetic.{Arithmetic}
use Rattle.ec_core.specs.declared.arithmetic_types.Arithmetic.TheVariants.{Integer, Fixed}
use Rattle.ec_core.specs.declared.arithmetic_types.FixedType.{FixedType}
use Rattle.ec_core.specs.declared.expressions.BinOp.{BinOp}
use Rattle.ec_core.specs.declared.expressions.BinOp.TheVariants.{Add, Sub, Mul, Div, Rem, And, Or, Xor, Lt, Gt, Le, Ge, Eq, Ne, Shl, Shr}
use Rattle.ec_core.specs.ArithmeticTypes.{arithmetic_of, type_of, signed_kind, higher_kind, common_fixed, common}
use Rattle.ec_core.specs.Layout.{IsScalar, scalar_size}
use Rattle.ec_core.specs.Plain.{PlainType, void, integer, fixed, pointer, array, struct}
use Rattle.ec_core.specs.Typing.{int, HaveArithmeticTypes, HaveOffsetTypes, HaveUsualTypes, HaveProductTypes, HaveShiftTypes, IsIntegerKind}
use Rattle.ec_core.specs.Typing.{IsOneByteType}
use Rattle.ec_core.proofs.Suiting.{signed_signed}
use Rattle.ec_ir.specs.Valid.{IsShift, HaveCountTypes, HaveOperationTypes}
use Rattle.ec_fxcode_shifts.specs.ShiftLaws.{IsWholeFormat, fixed_in, number_in}
use Rattle.ec_fxcode_quotients.specs.QuotientLaws.{IsOperandFormat, operand_in}
use Rattle.ec_fxcode_sums.specs.SumLaws.{IsArithmetic, ArithmeticFormats}
use Rattle.ec_fxcode_conversions.specs.ProductLaws.{AreFactors}
use Rattle.ec_select_order.specs.declared.relations.Relation.{Relation}
use Rattle.ec_select_order.specs.declared.relations.Relation.TheVariants.{Less, NotLess, Equal, NotEqual}
use Rattle.ec_select_fixed.specs.declared.families.FixedFamily.TheVariants.{Added, Multiplied, Divided, Shifted, Compared}
use Rattle.ec_select_fixed.specs.Types.{IsFixedType, IsNumberType, format_in, family_of, FormatsSuit, OperatorSuits, AreFixedOperands}
use Rattle.ec_select_fixed.proofs.Formats.{kind_frac, whole_format, operand_format}

-- ---- types of numbers

-- the types of a binary operator as arithmetic ones, of which that of an operand is fixed-point
pub record Arithmetics (op : BinOp) (ty aty bty : PlainType) : Type 0 where
  pub result : Arithmetic
  pub first : Arithmetic
  pub second : Arithmetic
  pub result_is : ty ≡ type_of result
  pub first_is : aty ≡ type_of first
  pub second_is : bty ≡ type_of second
  pub suit : HaveArithmeticTypes op result first second

no_offset : (op : BinOp) (kind : FxKind) (saturates : Bool) → HaveOffsetTypes op (fixed kind saturates) → ⊥
no_offset Add kind saturates h = h
no_offset op kind saturates h = h

with_result : (op : BinOp) (ty : PlainType) (x y : Arithmetic) → IsSomeAnd (arithmetic_of ty) (λ t. HaveArithmeticTypes op t x y)
    → Arithmetics op ty (type_of x) (type_of y)
with_result op void x y h = absurd h
with_result op (integer signed bytes) x y h = record {
  result = Integer (record { signed = signed; bytes = bytes });
  first = x;
  second = y;
  result_is = refl;
  first_is = refl;
  second_is = refl;
  suit = h;
}
with_result op (fixed kind saturates) x y h = record {
  result = Fixed (record { kind = kind; sat = saturates });
  first = x;
  second = y;
  result_is = refl;
  first_is = refl;
  second_is = refl;
  suit = h;
}
with_result op (pointer space const to) x y h = absurd h
with_result op (array of len) x y h = absurd h
with_result op (struct index) x y h = absurd h

-- a shift of a fixed-point number
as_shift : (op : BinOp) (t : Arithmetic) (x : FixedType) (y : Arithmetic) → IsShift op → t ≡ Fixed x → IsIntegerKind y
    → HaveArithmeticTypes op t (Fixed x) y
as_shift Shl t x y s e c = record { left = tt; count = c; value = e }
as_shift Shr t x y s e c = record { left = tt; count = c; value = e }
as_shift op t x y s e c = absurd s

shifted : (op : BinOp) (ty : PlainType) (kind : FxKind) (saturates signed : Bool) (bytes : ℕ)
    → HaveCountTypes op ty (fixed kind saturates) (integer signed bytes)
    → Arithmetics op ty (fixed kind saturates) (integer signed bytes)
shifted op ty kind saturates signed bytes h = record {
  result = Fixed (record { kind = kind; sat = saturates });
  first = Fixed (record { kind = kind; sat = saturates });
  second = Integer (record { signed = signed; bytes = bytes });
  result_is = h.value;
  first_is = refl;
  second_is = refl;
  suit = as_shift op _ _ _ h.shift refl tt;
}

neither : ⊥ ⊎ ⊥ → ⊥
neither h = ⊎_elim (λ (z : ⊥). z) (λ (z : ⊥). z) h

-- a type that is one of integers is no fixed-point one
no_bits : (ty : PlainType) (k : FxKind) (t : Bool) → IsSomeAnd (arithmetic_of ty) IsIntegerKind → ty ≡ fixed k t → ⊥
no_bits ty k t whole same = subst (λ x. IsSomeAnd (arithmetic_of x) IsIntegerKind) same whole

by_types : (op : BinOp) (ty aty bty : PlainType) → HaveOperationTypes op ty aty bty → IsScalar aty → IsScalar bty
    → IsFixedType aty ⊎ IsFixedType bty → Arithmetics op ty aty bty
by_types op ty (integer s m) (integer u n) h l r f = absurd (neither f)
by_types op ty (integer s m) (fixed k t) (inl h) l r f =
    with_result op ty (Integer (record { signed = s; bytes = m })) (Fixed (record { kind = k; sat = t })) h
by_types op ty (integer s m) (fixed k t) (inr (inl h)) l r f = absurd h.count
by_types op ty (integer s m) (fixed k t) (inr (inr h)) l r f = absurd (no_bits ty k t h.integer h.right)
by_types op ty (integer s m) (pointer p c z) h l r f = absurd (neither f)
by_types op ty (integer s m) void h l r f = absurd r
by_types op ty (integer s m) (array z n) h l r f = absurd r
by_types op ty (integer s m) (struct n) h l r f = absurd r
by_types op ty (fixed k t) (integer u n) (inl h) l r f =
    with_result op ty (Fixed (record { kind = k; sat = t })) (Integer (record { signed = u; bytes = n })) h
by_types op ty (fixed k t) (integer u n) (inr (inl h)) l r f = shifted op ty k t u n h
by_types op ty (fixed k t) (integer u n) (inr (inr h)) l r f = absurd (no_bits ty k t h.integer h.left)
by_types op ty (fixed k t) (fixed j u) (inl h) l r f =
    with_result op ty (Fixed (record { kind = k; sat = t })) (Fixed (record { kind = j; sat = u })) h
by_types op ty (fixed k t) (fixed j u) (inr (inl h)) l r f = absurd h.count
by_types op ty (fixed k t) (fixed j u) (inr (inr h)) l r f = absurd (no_bits ty k t h.integer h.left)
by_types op ty (fixed k t) (pointer p c z) (inl h) l r f = absurd h.1
by_types op ty (fixed k t) (pointer p c z) (inr (inl h)) l r f = absurd h.count
by_types op ty (fixed k t) (pointer p c z) (inr (inr h)) l r f = absurd (no_bits ty k t h.integer h.left)
by_types op ty (fixed k t) void h l r f = absurd r
by_types op ty (fixed k t) (array z n) h l r f = absurd r
by_types op ty (fixed k t) (struct n) h l r f = absurd r
by_types op ty (pointer p c z) (integer u n) h l r f = absurd (neither f)
by_types op ty (pointer p c z) (fixed j u) (inl h) l r f = absurd (no_offset op j u h.0)
by_types op ty (pointer p c z) (fixed j u) (inr (inl h)) l r f = absurd h.left
by_types op ty (pointer p c z) (fixed j u) (inr (inr h)) l r f = absurd (no_bits ty j u h.integer h.right)
by_types op ty (pointer p c z) (pointer q d y) h l r f = absurd (neither f)
by_types op ty (pointer p c z) void h l r f = absurd r
by_types op ty (pointer p c z) (array y n) h l r f = absurd r
by_types op ty (pointer p c z) (struct n) h l r f = absurd r
by_types op ty void bty h l r f = absurd l
by_types op ty (array y n) bty h l r f = absurd l
by_types op ty (struct n) bty h l r f = absurd l

pub arithmetics : (op : BinOp) (ty aty bty : PlainType) → AreFixedOperands op ty aty bty → Arithmetics op ty aty bty
arithmetics op ty aty bty h = by_types op ty aty bty h.types h.left h.right h.fixed

-- ---- kinds

abbrev pub as_type : FxKind → Bool → PlainType
as_type kind saturates = fixed kind saturates

chosen_kind : (b : Bool) (x y : FxKind) → format_of (if b then y else x) ≡ (if b then format_of y else format_of x)
chosen_kind true x y = refl
chosen_kind false x y = refl

higher_format : (x y : FxKind) → format_of (higher_kind x y) ≡ higher (format_of x) (format_of y)
higher_format x y = chosen_kind (nat_lt (rank_of (format_of x)) (rank_of (format_of y))) x y

abbrev kind_in_common : (b c : Bool) (x y : FxKind) → FxKind
kind_in_common b c x y = if b || c then higher_kind (signed_kind x) (signed_kind y) else higher_kind x y

-- two kinds that are both signed or both unsigned
common_of_alike : (b c : Bool) (x y : FxKind) → (format_of x).signed ≡ b → (format_of y).signed ≡ c → b ≡ c
    → kind_in_common b c x y ≡ higher_kind x y
common_of_alike true true x y e f g =
    ap (λ z. higher_kind z (signed_kind y)) (signed_signed x e) ∙ ap (λ z. higher_kind x z) (signed_signed y f)
common_of_alike true false x y e f g = cc
common_of_alike false true x y e f g = cc
common_of_alike false false x y e f g = refl

common_format : (x y : FixedType) → (format_of x.kind).signed ≡ (format_of y.kind).signed
    → format_of (common_fixed x y).kind ≡ higher (format_of x.kind) (format_of y.kind)
common_format x y e =
    ap format_of (common_of_alike (format_of x.kind).signed (format_of y.kind).signed x.kind y.kind refl refl e)
    ∙ higher_format x.kind y.kind

-- ---- formats of arithmetic types

abbrev pub format_at : Arithmetic → Format
format_at t = format_in (type_of t)

-- the type of a number that a temporary can have
abbrev pub IsKnown : Arithmetic → Type 0
IsKnown t = IsNumberType (type_of t)

abbrev IsFixedKind : Arithmetic → Type 0
IsFixedKind (Integer t) = ⊥
IsFixedKind (Fixed t) = ⊤

fixed_there : (t : Arithmetic) (k : FixedType) → t ≡ Fixed k → IsFormat (format_at t)
fixed_there t k e = subst (λ z. IsFormat (format_at z)) (sym e) (IsFormat-format_of k.kind)

-- the formats of the operands and the result of a sum
usual_formats : (t x y : Arithmetic) → HaveUsualTypes t x y → IsFixedKind x ⊎ IsFixedKind y
    → ArithmeticFormats (format_at x) (format_at y) (format_at t) × IsFormat (format_at t)
usual_formats t (Integer a) (Integer b) h f = absurd (neither f)
usual_formats t (Integer a) (Fixed b) h f = (
  subst (λ (z : Bool). IsArithmetic true z (format_at (Integer a)) (format_of b.kind) (format_at t)) (sym (kind_frac b.kind))
      (ap format_at h.value),
  fixed_there t b h.value,
)
usual_formats t (Fixed a) (Integer b) h f = (
  subst (λ (z : Bool). IsArithmetic z true (format_of a.kind) (format_at (Integer b)) (format_at t)) (sym (kind_frac a.kind))
      (ap format_at h.value),
  fixed_there t a h.value,
)
usual_formats t (Fixed a) (Fixed b) h f =
    let e : format_at t ≡ higher (format_of a.kind) (format_of b.kind) = ap format_at h.value ∙ common_format a b h.signedness in (
      subst (λ (z : Bool). IsArithmetic z ((format_of b.kind).frac == 0) (format_of a.kind) (format_of b.kind) (format_at t))
          (sym (kind_frac a.kind))
          (subst (λ (z : Bool). IsArithmetic false z (format_of a.kind) (format_of b.kind) (format_at t)) (sym (kind_frac b.kind))
          (h.signedness, e)),
      fixed_there t (common_fixed a b) h.value,
    )

-- ---- products

abbrev operand_by : (whole : Bool) → Format → Num
operand_by whole f = if whole then Whole (number_in f.signed 1 0) else FixedNum (fixed_in f 1 0)

-- the format of the product of numbers in these formats
product_result : (t x y : Arithmetic) → HaveProductTypes t x y → IsFixedKind x ⊎ IsFixedKind y
    → IsResultFormat (operand_in (format_at x) 1 0) (operand_in (format_at y) 1 0) (format_at t)
product_result t (Integer a) (Integer b) h f = absurd (neither f)
product_result t (Integer a) (Fixed b) h f =
    subst (λ (z : Bool). IsResultFormat (operand_in (format_at (Integer a)) 1 0) (operand_by z (format_of b.kind)) (format_at t))
    (sym (kind_frac b.kind)) (ap format_at h.value)
product_result t (Fixed a) (Integer b) h f =
    subst (λ (z : Bool). IsResultFormat (operand_by z (format_of a.kind)) (operand_in (format_at (Integer b)) 1 0) (format_at t))
    (sym (kind_frac a.kind)) (ap format_at h.value)
product_result t (Fixed a) (Fixed b) h f =
    let e : format_at t ≡ higher (format_of a.kind) (format_of b.kind) = ap format_at h.value ∙ common_format a b h.signedness in
    subst (λ (z : Bool). IsResultFormat (operand_by z (format_of a.kind)) (operand_by ((format_of b.kind).frac == 0) (format_of b.kind))
    (format_at t)) (sym (kind_frac a.kind))
    (subst (λ (z : Bool). IsResultFormat (operand_by false (format_of a.kind)) (operand_by z (format_of b.kind)) (format_at t))
    (sym (kind_frac b.kind)) (h.signedness, e))

-- ---- shifts and products

-- the number that is shifted is fixed-point, and the count is whole
shift_formats : (t x y : Arithmetic) → HaveShiftTypes t x y → IsKnown y → IsFixedKind x ⊎ IsFixedKind y
    → IsFormat (format_at x) × IsWholeFormat (format_at y) × (format_at t ≡ format_at x)
shift_formats t (Integer a) (Integer b) h k f = absurd (neither f)
shift_formats t (Integer a) (Fixed b) h k f = absurd h.count.0
shift_formats t (Fixed a) (Integer b) h k f = (IsFormat-format_of a.kind, whole_format b.signed b.bytes k, ap format_at h.value)
shift_formats t (Fixed a) (Fixed b) h k f = absurd h.count

one_byte : (t : Arithmetic) → IsOneByteType t → (format_at t).bits ≡ 8
one_byte (Integer t) h = ap (λ n. 8 * n) h
one_byte (Fixed t) h = h

higher_bits : (c : Bool) (f g : Format) (n : ℕ) → f.bits ≡ n → g.bits ≡ n → (if c then g else f).bits ≡ n
higher_bits true f g n e h = h
higher_bits false f g n e h = e

product_bits : (t x y : Arithmetic) → HaveProductTypes t x y → IsFixedKind x ⊎ IsFixedKind y → (format_at t).bits ≡ 8
product_bits t (Integer a) (Integer b) h f = absurd (neither f)
product_bits t (Integer a) (Fixed b) h f = ap (λ z. (format_at z).bits) h.value ∙ h.right
product_bits t (Fixed a) (Integer b) h f = ap (λ z. (format_at z).bits) h.value ∙ h.left
product_bits t (Fixed a) (Fixed b) h f =
    ap (λ z. (format_at z).bits) h.value ∙ ap (λ (z : Format). z.bits) (common_format a b h.signedness)
    ∙ higher_bits (nat_lt (rank_of (format_of a.kind)) (rank_of (format_of b.kind))) (format_of a.kind) (format_of b.kind) 8 h.left h.right

product_format : (t x y : Arithmetic) → HaveProductTypes t x y → IsFixedKind x ⊎ IsFixedKind y → IsFormat (format_at t)
product_format t (Integer a) (Integer b) h f = absurd (neither f)
product_format t (Integer a) (Fixed b) h f = fixed_there t b h.value
product_format t (Fixed a) (Integer b) h f = fixed_there t a h.value
product_format t (Fixed a) (Fixed b) h f = fixed_there t (common_fixed a b) h.value

factors : (t x y : Arithmetic) → HaveProductTypes t x y → IsKnown x → IsKnown y → IsFixedKind x ⊎ IsFixedKind y
    → FormatsSuit Multiplied (format_at x) (format_at y) (format_at t)
factors t x y h kx ky f = (
  record {
    left = operand_format (type_of x) kx;
    right = operand_format (type_of y) ky;
    left_bits = one_byte x h.left;
    right_bits = one_byte y h.right;
    result = product_result t x y h f;
  },
  product_format t x y h f,
  product_bits t x y h f,
)

-- ---- operators

sums : (minus : Bool) (t x y : Arithmetic) → HaveUsualTypes t x y → IsKnown x → IsKnown y → IsFixedKind x ⊎ IsFixedKind y
    → FormatsSuit (Added minus) (format_at x) (format_at y) (format_at t)
sums minus t x y h kx ky f =
    let u = usual_formats t x y h f in
    (operand_format (type_of x) kx, operand_format (type_of y) ky, u.1, u.0)

quotients : (t x y : Arithmetic) → HaveUsualTypes t x y → IsKnown x → IsKnown y → IsFixedKind x ⊎ IsFixedKind y
    → FormatsSuit Divided (format_at x) (format_at y) (format_at t)
quotients t x y h kx ky f =
    let u = usual_formats t x y h f in
    (operand_format (type_of x) kx, operand_format (type_of y) ky, u.1)

orders : (r : Relation) (exchanged : Bool) (t x y : Arithmetic) → type_of t ≡ int → IsKnown x → IsKnown y
    → FormatsSuit (Compared r exchanged) (format_at x) (format_at y) (format_at t)
orders r exchanged t x y e kx ky =
    (operand_format (type_of x) kx, operand_format (type_of y) ky, ap (λ z. (format_in z).bits) e)

no_integers : (x y : Arithmetic) → IsIntegerKind x → IsIntegerKind y → IsFixedKind x ⊎ IsFixedKind y → ⊥
no_integers (Integer a) (Integer b) i j f = neither f
no_integers (Integer a) (Fixed b) i j f = j
no_integers (Fixed a) y i j f = i

by_operator : (op : BinOp) (t x y : Arithmetic) → HaveArithmeticTypes op t x y → IsKnown x → IsKnown y
    → IsFixedKind x ⊎ IsFixedKind y → OperatorSuits (family_of op) (format_at x) (format_at y) (format_at t)
by_operator Add t x y h kx ky f = sums false t x y h kx ky f
by_operator Sub t x y h kx ky f = sums true t x y h kx ky f
by_operator Mul t x y h kx ky f = factors t x y h kx ky f
by_operator Div t x y h kx ky f = quotients t x y h kx ky f
by_operator Rem t x y h kx ky f = no_integers x y h.left h.right f
by_operator Shl t x y h kx ky f = shift_formats t x y h ky f
by_operator Shr t x y h kx ky f = shift_formats t x y h ky f
by_operator And t x y h kx ky f = no_integers x y h.left h.right f
by_operator Or t x y h kx ky f = no_integers x y h.left h.right f
by_operator Xor t x y h kx ky f = no_integers x y h.left h.right f
by_operator Lt t x y h kx ky f = orders Less false t x y h.value kx ky
by_operator Gt t x y h kx ky f = orders Less true t x y h.value kx ky
by_operator Le t x y h kx ky f = orders NotLess true t x y h.value kx ky
by_operator Ge t x y h kx ky f = orders NotLess false t x y h.value kx ky
by_operator Eq t x y h kx ky f = orders Equal false t x y h.value kx ky
by_operator Ne t x y h kx ky f = orders NotEqual false t x y h.value kx ky

-- ---- operands and result as types

-- the result of an operator that is no comparison is fixed-point, that of a comparison an int
abbrev pub ResultSuits : BinOp → PlainType → Type 0
ResultSuits Lt ty = ty ≡ int
ResultSuits Gt ty = ty ≡ int
ResultSuits Le ty = ty ≡ int
ResultSuits Ge ty = ty ≡ int
ResultSuits Eq ty = ty ≡ int
ResultSuits Ne ty = ty ≡ int
ResultSuits op ty = IsFixedType ty

fixed_type : (t : Arithmetic) (k : FixedType) → t ≡ Fixed k → IsFixedType (type_of t)
fixed_type t k e = subst (λ z. IsFixedType (type_of z)) (sym e) tt

common_type : (t x y : Arithmetic) → t ≡ common x y → IsFixedKind x ⊎ IsFixedKind y → IsFixedType (type_of t)
common_type t (Integer a) (Integer b) e f = absurd (neither f)
common_type t (Integer a) (Fixed b) e f = fixed_type t b e
common_type t (Fixed a) (Integer b) e f = fixed_type t a e
common_type t (Fixed a) (Fixed b) e f = fixed_type t (common_fixed a b) e

shift_type : (t x y : Arithmetic) → HaveShiftTypes t x y → IsFixedKind x ⊎ IsFixedKind y → IsFixedType (type_of t)
shift_type t (Integer a) (Integer b) h f = absurd (neither f)
shift_type t (Integer a) (Fixed b) h f = absurd h.count.0
shift_type t (Fixed a) y h f = fixed_type t a h.value

result_by : (op : BinOp) (t x y : Arithmetic) → HaveArithmeticTypes op t x y → IsFixedKind x ⊎ IsFixedKind y
    → ResultSuits op (type_of t)
result_by Add t x y h f = common_type t x y h.value f
result_by Sub t x y h f = common_type t x y h.value f
result_by Mul t x y h f = common_type t x y h.value f
result_by Div t x y h f = common_type t x y h.value f
result_by Rem t x y h f = common_type t x y h.usual.value f
result_by Shl t x y h f = shift_type t x y h f
result_by Shr t x y h f = shift_type t x y h f
result_by And t x y h f = common_type t x y h.usual.value f
result_by Or t x y h f = common_type t x y h.usual.value f
result_by Xor t x y h f = common_type t x y h.usual.value f
result_by Lt t x y h f = h.value
result_by Gt t x y h f = h.value
result_by Le t x y h f = h.value
result_by Ge t x y h f = h.value
result_by Eq t x y h f = h.value
result_by Ne t x y h f = h.value

-- the result of a shift has the type of the number that is shifted
abbrev pub ShiftSuits : BinOp → PlainType → PlainType → Type 0
ShiftSuits Shl ty aty = ty ≡ aty
ShiftSuits Shr ty aty = ty ≡ aty
ShiftSuits op ty aty = ⊤

shifts_by : (op : BinOp) (t x y : Arithmetic) → HaveArithmeticTypes op t x y → ShiftSuits op (type_of t) (type_of x)
shifts_by Shl t x y h = ap type_of h.value
shifts_by Shr t x y h = ap type_of h.value
shifts_by op t x y h = tt

known_type : (t : Arithmetic) → IsScalar (type_of t) → IsKnown t
known_type (Integer t) h = h
known_type (Fixed t) h = tt

fixed_kind : (x : Arithmetic) → IsFixedType (type_of x) → IsFixedKind x
fixed_kind (Integer t) h = h
fixed_kind (Fixed t) h = tt

pub record AreSuited (op : BinOp) (ty aty bty : PlainType) : Type 0 where
  pub first : IsNumberType aty
  pub second : IsNumberType bty
  pub result : ResultSuits op ty
  pub shift : ShiftSuits op ty aty
  pub formats : OperatorSuits (family_of op) (format_in aty) (format_in bty) (format_in ty)

suited_by : (op : BinOp) (ty aty bty : PlainType) (t x y : Arithmetic) → ty ≡ type_of t → aty ≡ type_of x → bty ≡ type_of y
    → HaveArithmeticTypes op t x y → IsScalar aty → IsScalar bty → IsFixedType aty ⊎ IsFixedType bty → AreSuited op ty aty bty
suited_by op ty aty bty t x y et ex ey h l r f =
    let kx = known_type x (subst IsScalar ex l) in
    let ky = known_type y (subst IsScalar ey r) in
    let g : IsFixedKind x ⊎ IsFixedKind y =
    ⊎_elim (λ z. inl (fixed_kind x (subst IsFixedType ex z))) (λ z. inr (fixed_kind y (subst IsFixedType ey z))) f in
    let s : AreSuited op (type_of t) (type_of x) (type_of y) = record {
      first = kx;
      second = ky;
      result = result_by op t x y h g;
      shift = shifts_by op t x y h;
      formats = by_operator op t x y h kx ky g;
    } in
    subst (λ z. AreSuited op z aty bty) (sym et)
    (subst (λ z. AreSuited op (type_of t) z bty) (sym ex) (subst (λ z. AreSuited op (type_of t) (type_of x) z) (sym ey) s))

pub operands_suit : (op : BinOp) (ty aty bty : PlainType) → AreFixedOperands op ty aty bty → AreSuited op ty aty bty
operands_suit op ty aty bty h =
    let a = arithmetics op ty aty bty h in
    suited_by op ty aty bty a.result a.first a.second a.result_is a.first_is a.second_is a.suit h.left h.right h.fixed
