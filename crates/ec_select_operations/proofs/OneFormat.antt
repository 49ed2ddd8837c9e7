-- Operators on numbers of one fixed-point format that do what they do to integers.
use Rattle.std.proofs.Common.{◌≡◌, ℕ, ◌<◌, ◌≤◌, Bool, true, ◌&&◌, refl, sym, ap, ◌∙◌, arith}
use Rattle.std.specs.Prelude.{not, ⊤}
use Rattle.std.proofs.lemmas.Bool.{and_parts}
use Rattle.ec_fx.specs.declared.formats.FxKind.{FxKind}
use Rattle.ec_fx.specs.declared.formats.FxKind.TheVariants.{ShortFract, Fract, LongFract, ShortAccum, Accum, LongAccum}
use Rattle.ec_fx.specs.declared.formats.FxKind.TheVariants.{UnsignedShortFract, UnsignedFract, UnsignedLongFract}
use Rattle.ec_fx.specs.declared.formats.FxKind.TheVariants.{UnsignedShortAccum, UnsignedAccum, UnsignedLongAccum}
use Rattle.ec_fx.specs.Formats.{format_of}
use Rattle.ec_fx.specs.declared.numbers.Mode.{Mode}
use Rattle.ec_core.specs.declared.expressions.BinOp.{BinOp}
use Rattle.ec_core.specs.declared.expressions.BinOp.TheVariants.{Add, Sub, Mul, Div, Rem, Shl, Shr, And, Or, Xor, Lt}
use Rattle.ec_core.specs.declared.expressions.BinOp.TheVariants.{Gt, Le, Ge, Eq, Ne}
use Rattle.ec_core.specs.declared.expressions.UnOp.{UnOp}
use Rattle.ec_core.specs.Layout.{scalar_size}
use Rattle.ec_core.specs.Operators.{same_kind, same_type}
use Rattle.ec_core.specs.Plain.{PlainType, void, integer, fixed, pointer, array, struct}
use Rattle.ec_core.proofs.Sameness.{type_true}
use Rattle.ec_ir.specs.declared.operations.Temp.{Temp}
use Rattle.ec_select_operations.specs.declared.families.Family.{Family}
use Rattle.ec_select_operations.specs.declared.families.Family.TheVariants.{Combined, Compared, Multiplied, Shifted, Divided}
use Rattle.ec_select_operations.specs.Code.{family_of, has_one_format, is_as_exact, is_on_integers, takes_place, is_placed}
use Rattle.ec_select_operations.specs.Emitted.{second_bytes, TakesNumbers, BinaryHasBytes, FixedHasBytes, FixedOperandHasBytes}
use Rattle.ec_select_operations.specs.Emitted.{FixedConversionHasBytes}
use Rattle.ec_select_fixed.proofs.Conversions.{converted_types}
use Rattle.ec_select_fixed.proofs.Formats.{operand_bytes, fixed_bytes}
use Rattle.ec_select_fixed.proofs.Suits.{operands_suit}

-- two types of one kind
pub record HaveOneKind (aty bty : PlainType) : Type 0 where
  pub kind : FxKind
  pub first_saturates : Bool
  pub second_saturates : Bool
  pub first : aty ≡ fixed kind first_saturates
  pub second : bty ≡ fixed kind second_saturates

one_kind : (k j : FxKind) → same_kind k j ≡ true → k ≡ j
one_kind k j e =
    let both : same_type (fixed k true) (fixed j true) ≡ true = ap (λ (b : Bool). b && true) e in
    let same : fixed k true ≡ fixed j true = type_true (fixed k true) (fixed j true) both in
    cc

pub one_format : (aty bty : PlainType) → has_one_format aty bty ≡ true → HaveOneKind aty bty
one_format (fixed k s) (fixed j t) e =
    let same : k ≡ j = one_kind k j e in
    record {
      kind = k;
      first_saturates = s;
      second_saturates = t;
      first = refl;
      second = ap (λ (i : FxKind). fixed i t) (sym same);
    }
one_format (fixed k s) void e = absurd cc
one_format (fixed k s) (integer u n) e = absurd cc
one_format (fixed k s) (pointer p c z) e = absurd cc
one_format (fixed k s) (array z n) e = absurd cc
one_format (fixed k s) (struct n) e = absurd cc
one_format void bty e = absurd cc
one_format (integer u n) bty e = absurd cc
one_format (pointer p c z) bty e = absurd cc
one_format (array z n) bty e = absurd cc
one_format (struct n) bty e = absurd cc

-- their numbers have as many bytes
pub one_size : (aty bty : PlainType) → has_one_format aty bty ≡ true → scalar_size aty ≡ scalar_size bty
one_size aty bty e = let k = one_format aty bty e in ap scalar_size k.first ∙ sym (ap scalar_size k.second)

-- what is known where an operator is on integers
abbrev pub IsOnIntegers : Family → Mode → (ty aty bty : PlainType) → Type 0
IsOnIntegers (Combined op) mode ty aty bty = (has_one_format ty aty ≡ true) × (not mode.saturate ≡ true)
IsOnIntegers (Compared r exchanged) mode ty aty bty = ⊤
IsOnIntegers f mode ty aty bty = ⊥

pub on_integers : (f : Family) (mode : Mode) (ty aty bty : PlainType) → is_on_integers f mode ty aty bty ≡ true
    → (has_one_format aty bty ≡ true) × IsOnIntegers f mode ty aty bty
on_integers f mode ty aty bty e = let p = and_parts (has_one_format aty bty) _ e in (p.0, by_family f p.1)
  where
    by_family : (f : Family) → is_as_exact f mode (has_one_format ty aty) ≡ true → IsOnIntegers f mode ty aty bty
    by_family (Combined op) q = and_parts (has_one_format ty aty) (not mode.saturate) q
    by_family (Compared r exchanged) q = tt
    by_family Multiplied q = absurd cc
    by_family (Shifted up) q = absurd cc
    by_family (Divided r) q = absurd cc

-- the bytes that the code of integers asks for
pub integer_bytes : (op : BinOp) (mode : Mode) (wanted : ℕ) (to a b : Temp) (ty aty bty : PlainType)
    → is_on_integers (family_of op) mode ty aty bty ≡ true → FixedHasBytes op wanted to a b ty aty bty
    → BinaryHasBytes (family_of op) wanted to a b
integer_bytes op mode wanted to a b ty aty bty e h =
    let k = on_integers (family_of op) mode ty aty bty e in
    by_family (family_of op) k.1 (one_size aty bty k.0)
  where
    by_family : (f : Family) → IsOnIntegers f mode ty aty bty → scalar_size aty ≡ scalar_size bty → BinaryHasBytes f wanted to a b
    by_family (Combined o) k same =
        let result = one_size ty aty k.0 in
        let most = h.most in
        let left = h.left in
        let right = h.right in
        let bytes = h.result in
        (most, omega (arith, most, left, bytes, result), omega (arith, most, right, bytes, result, same))
    by_family (Compared r exchanged) k same =
        let left = h.left in
        let right = h.right in
        (h.most, omega (arith, left, right, same))
    by_family Multiplied k same = absurd k
    by_family (Shifted up) k same = absurd k
    by_family (Divided r) k same = absurd k

-- and where it takes a number
pub integer_numbers : (op : BinOp) (mode : Mode) (wanted : ℕ) (to a b : Temp) (ty aty bty : PlainType)
    → is_on_integers (family_of op) mode ty aty bty ≡ true → FixedHasBytes op wanted to a b ty aty bty → TakesNumbers op a b
integer_numbers op mode wanted to a b ty aty bty e h =
    let same = one_size aty bty (on_integers (family_of op) mode ty aty bty e).0 in
    let size = operand_bytes aty (operands_suit op ty aty bty h.types).first in
    let some = size.0 in
    let most = size.1 in
    let left = h.left in
    let right = h.right in
    λ q. (by_operator op (omega (arith, same, left, right)) (omega (arith, some, same, right)), omega (arith, most, left))
  where
    by_operator : (op : BinOp) → a.bytes ≤ b.bytes → 1 ≤ b.bytes → second_bytes op a.bytes ≤ b.bytes
    by_operator Shl all some = some
    by_operator Shr all some = some
    by_operator op all some = all

-- the bytes that an operator which computes its result in its place asks for
pub record HasPlacedBytes (op : BinOp) (to a b : Temp) : Type 0 where
  pub some : 1 ≤ a.bytes
  pub right : second_bytes op a.bytes ≤ b.bytes
  pub result : a.bytes ≤ to.bytes

pub placed_bytes : (op : BinOp) (mode : Mode) (wanted : ℕ) (to a b : Temp) (ty aty bty : PlainType)
    → is_placed op mode ty aty bty ≡ true → FixedHasBytes op wanted to a b ty aty bty → HasPlacedBytes op to a b
placed_bytes op mode wanted to a b ty aty bty e h =
    let p = and_parts (has_one_format ty aty) (takes_place op mode (has_one_format aty bty)) e in
    let first = one_size ty aty p.0 in
    let suited = operands_suit op ty aty bty h.types in
    let some = (operand_bytes aty suited.first).0 in
    let other = (operand_bytes bty suited.second).0 in
    let left = h.left in
    let right = h.right in
    let bytes = h.result in
    record {
      some = omega (arith, some, left);
      right = by_operator op (omega (arith, other, right)) p.1;
      result = omega (arith, first, left, bytes);
    }
  where
    -- of both operands where they have one format
    both : (has_one_format aty bty && mode.saturate) ≡ true → a.bytes ≤ b.bytes
    both q =
        let same = one_size aty bty (and_parts (has_one_format aty bty) mode.saturate q).0 in
        let left = h.left in
        let right = h.right in
        omega (arith, same, left, right)

    by_operator : (op : BinOp) → 1 ≤ b.bytes → takes_place op mode (has_one_format aty bty) ≡ true → second_bytes op a.bytes ≤ b.bytes
    by_operator Add some q = both q
    by_operator Sub some q = both q
    by_operator Shl some q = some
    by_operator Shr some q = some
    by_operator Mul some q = absurd cc
    by_operator Div some q = absurd cc
    by_operator Rem some q = absurd cc
    by_operator And some q = absurd cc
    by_operator Or some q = absurd cc
    by_operator Xor some q = absurd cc
    by_operator Lt some q = absurd cc
    by_operator Gt some q = absurd cc
    by_operator Le some q = absurd cc
    by_operator Ge some q = absurd cc
    by_operator Eq some q = absurd cc
    by_operator Ne some q = absurd cc

-- an operand that is converted has a byte
pub some_bytes : (wanted : ℕ) (to a : Temp) (ty aty : PlainType) → FixedConversionHasBytes wanted to a ty aty → 1 ≤ a.bytes
some_bytes wanted to a ty aty h =
    let some = (operand_bytes aty (converted_types ty aty h.types).operand).0 in
    let bytes = h.from in
    omega (arith, some, bytes)

-- a format has few bits behind the point
pub few_bits : (k : FxKind) → (format_of k).frac < 64
few_bits ShortFract = omega arith
few_bits Fract = omega arith
few_bits LongFract = omega arith
few_bits ShortAccum = omega arith
few_bits Accum = omega arith
few_bits LongAccum = omega arith
few_bits UnsignedShortFract = omega arith
few_bits UnsignedFract = omega arith
few_bits UnsignedLongFract = omega arith
few_bits UnsignedShortAccum = omega arith
few_bits UnsignedAccum = omega arith
few_bits UnsignedLongAccum = omega arith

-- a number that is negated has a byte
pub some_negated : (op : UnOp) (wanted : ℕ) (to a : Temp) (ty : PlainType) → FixedOperandHasBytes op wanted to a ty → 1 ≤ scalar_size ty
some_negated op wanted to a ty h = (fixed_bytes ty h.types.fixed).0
