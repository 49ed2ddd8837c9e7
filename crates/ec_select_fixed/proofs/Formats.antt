-- The formats of types, and what types that suit an operator say of them.
use Rattle.std.proofs.Common.{◌≡◌, ◌≢◌, ◌⊎◌, inl, inr, ⊎_elim, ℕ, ◌*◌, ◌/◌, ◌≤◌, ◌==◌, Bool, true, false, refl, sym, ap, ◌∙◌, subst, arith}
use Rattle.std.specs.Prelude.{IsSomeAnd, Some, nat_lt, if◌then◌else◌, ◌||◌}
use Rattle.ec_fx.specs.declared.formats.Format.{Format}
use Rattle.ec_fx.specs.declared.formats.FxKind.{FxKind}
use Rattle.ec_fx.specs.declared.formats.FxKind.TheVariants.{ShortFract, Fract, LongFract, ShortAccum, Accum, LongAccum}
use Rattle.ec_fx.specs.declared.formats.FxKind.TheVariants.{UnsignedShortFract, UnsignedFract, UnsignedLongFract, UnsignedShortAccum}
use Rattle.ec_fx.specs.declared.formats.FxKind.TheVariants.{UnsignedAccum, UnsignedLongAccum}
use Rattle.ec_fx.specs.Formats.{format_of, IsFormat, higher, rank_of}
use Rattle.ec_fx.proofs.FormatLemmas.{IsFormat-format_of}
use Rattle.ec_core.specs.Layout.{IsIntegerSize, scalar_size}
use Rattle.ec_core.specs.Plain.{PlainType, void, integer, fixed, pointer, array, struct}
use Rattle.ec_fxcode_shifts.specs.ShiftLaws.{IsWholeFormat}
use Rattle.ec_fxcode_quotients.specs.QuotientLaws.{IsOperandFormat}
use Rattle.ec_select_fixed.specs.Types.{IsFixedType, IsNumberType, format_in}

-- ---- kinds

pub kind_bits : (k : FxKind) → (format_of k).bits ≡ 8 * ((format_of k).bits / 8)
kind_bits ShortFract = refl
kind_bits Fract = refl
kind_bits LongFract = refl
kind_bits ShortAccum = refl
kind_bits Accum = refl
kind_bits LongAccum = refl
kind_bits UnsignedShortFract = refl
kind_bits UnsignedFract = refl
kind_bits UnsignedLongFract = refl
kind_bits UnsignedShortAccum = refl
kind_bits UnsignedAccum = refl
kind_bits UnsignedLongAccum = refl

pub kind_frac : (k : FxKind) → ((format_of k).frac == 0) ≡ false
kind_frac ShortFract = refl
kind_frac Fract = refl
kind_frac LongFract = refl
kind_frac ShortAccum = refl
kind_frac Accum = refl
kind_frac LongAccum = refl
kind_frac UnsignedShortFract = refl
kind_frac UnsignedFract = refl
kind_frac UnsignedLongFract = refl
kind_frac UnsignedShortAccum = refl
kind_frac UnsignedAccum = refl
kind_frac UnsignedLongAccum = refl

-- from 1 to 8 bytes
pub kind_bytes : (k : FxKind) → (1 ≤ (format_of k).bits / 8) × ((format_of k).bits / 8 ≤ 8)
kind_bytes ShortFract = (omega arith, omega arith)
kind_bytes Fract = (omega arith, omega arith)
kind_bytes LongFract = (omega arith, omega arith)
kind_bytes ShortAccum = (omega arith, omega arith)
kind_bytes Accum = (omega arith, omega arith)
kind_bytes LongAccum = (omega arith, omega arith)
kind_bytes UnsignedShortFract = (omega arith, omega arith)
kind_bytes UnsignedFract = (omega arith, omega arith)
kind_bytes UnsignedLongFract = (omega arith, omega arith)
kind_bytes UnsignedShortAccum = (omega arith, omega arith)
kind_bytes UnsignedAccum = (omega arith, omega arith)
kind_bytes UnsignedLongAccum = (omega arith, omega arith)

-- ---- formats of types

pub whole_format : (signed : Bool) (bytes : ℕ) → IsIntegerSize bytes → IsWholeFormat (format_in (integer signed bytes))
whole_format signed bytes h = record {
  whole = refl;
  width = ⊎_elim (λ (e : bytes ≡ 1). inl (ap (λ n. 8 * n) e))
      (λ r. ⊎_elim (λ (e : bytes ≡ 2). inr (inl (ap (λ n. 8 * n) e))) (λ (e : bytes ≡ 4). inr (inr (ap (λ n. 8 * n) e))) r) h;
}

pub operand_format : (ty : PlainType) → IsNumberType ty → IsOperandFormat (format_in ty)
operand_format void h = absurd h
operand_format (integer signed bytes) h = inr (whole_format signed bytes h)
operand_format (fixed kind saturates) h = inl (IsFormat-format_of kind)
operand_format (pointer space const to) h = absurd h
operand_format (array of len) h = absurd h
operand_format (struct index) h = absurd h

pub operand_bits : (ty : PlainType) → IsNumberType ty → (format_in ty).bits ≡ 8 * scalar_size ty
operand_bits void h = absurd h
operand_bits (integer signed bytes) h = refl
operand_bits (fixed kind saturates) h = kind_bits kind
operand_bits (pointer space const to) h = absurd h
operand_bits (array of len) h = absurd h
operand_bits (struct index) h = absurd h

pub operand_bytes : (ty : PlainType) → IsNumberType ty → (1 ≤ scalar_size ty) × (scalar_size ty ≤ 8)
operand_bytes void h = absurd h
operand_bytes (integer signed bytes) h =
    ⊎_elim (λ (e : bytes ≡ 1). (omega arith, omega arith))
    (λ r. ⊎_elim (λ (e : bytes ≡ 2). (omega arith, omega arith)) (λ (e : bytes ≡ 4). (omega arith, omega arith)) r) h
operand_bytes (fixed kind saturates) h = kind_bytes kind
operand_bytes (pointer space const to) h = absurd h
operand_bytes (array of len) h = absurd h
operand_bytes (struct index) h = absurd h

pub fixed_number_type : (ty : PlainType) → IsFixedType ty → IsNumberType ty
fixed_number_type void h = absurd h
fixed_number_type (integer signed bytes) h = absurd h
fixed_number_type (fixed kind saturates) h = tt
fixed_number_type (pointer space const to) h = absurd h
fixed_number_type (array of len) h = absurd h
fixed_number_type (struct index) h = absurd h

pub fixed_bytes : (ty : PlainType) → IsFixedType ty → (1 ≤ scalar_size ty) × (scalar_size ty ≤ 8)
fixed_bytes ty h = operand_bytes ty (fixed_number_type ty h)
