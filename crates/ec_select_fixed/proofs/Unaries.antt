-- The code of negations computes them.
use Rattle.std.proofs.Common.{◌≡◌, ℕ, ◌+◌, ◌-◌, ◌*◌, ◌/◌, ◌≤◌, refl, sym, ap, ◌∙◌, arith}
use Rattle.std.specs.Prelude.{Ok}
use Rattle.ec_fx.specs.declared.numbers.Mode.{Mode}
use Rattle.ec_fx.specs.Arithmetic.{negation_of, exact_negation}
use Rattle.ec_fx.specs.Formats.{format_of}
use Rattle.ec_fx.specs.Rounding.{rounded}
use Rattle.ec_fx.proofs.FormatLemmas.{IsFormat-format_of}
use Rattle.ec_asm.specs.declared.pieces.Location.{Location}
use Rattle.ec_asm.specs.Change.{Env}
use Rattle.ec_asm.specs.Pieces.{value}
use Rattle.ec_core.specs.declared.arithmetic_types.FixedType.{FixedType}
use Rattle.ec_core.specs.declared.arithmetic_types.Arithmetic.TheVariants.{Fixed}
use Rattle.ec_core.specs.declared.expressions.UnOp.{UnOp}
use Rattle.ec_core.specs.declared.expressions.UnOp.TheVariants.{Minus, Invert}
use Rattle.ec_core.specs.declared.values.Value.{Value}
use Rattle.ec_core.specs.declared.values.Value.TheVariants.{Number}
use Rattle.ec_core.specs.ArithmeticValues.{unary_value, fixed_number, outcome}
use Rattle.ec_core.specs.Layout.{scalar_size}
use Rattle.ec_core.specs.Operators.{as_number, unary_result}
use Rattle.ec_core.specs.Plain.{PlainType, void, integer, fixed, pointer, array, struct}
use Rattle.ec_ir.specs.Temporaries.{bits, content_of, number_of_bytes, value_in}
use Rattle.ec_fxcode.specs.ClampLaws.{HoldsResult}
use Rattle.ec_fxcode_shifts.specs.ShiftLaws.{fixed_in}
use Rattle.ec_fxcode_sums.specs.SumLaws.{AreNegationSlots, NegationsAreRight, most_negation_words}
use Rattle.ec_select_fixed.specs.Types.{format_in, IsFixedOperand}
use Rattle.ec_select_fixed.specs.FixedLaws.{AreOperandSlots, IsUnaryResult, FixedUnariesAreRight, unary_room}
use Rattle.ec_select_fixed.proofs.Formats.{kind_bits}
use Rattle.ec_select_fixed.proofs.Operators.{as_told}
use Rattle.ec_select_fixed.proofs.Runs.{computes_more}
use Rattle.ec_select_fixed.proofs.Values.{same_number, number_told, fit_fits, result_bytes}

negation_slots : (e : Env) (p q w : Location) (k i o s : ℕ) → AreOperandSlots e p q w k k i o s → AreNegationSlots e p q w k i o s
negation_slots e p q w k i o s h = record {
  number = h.operand;
  result = h.result;
  work = h.work;
  clear = h.clear;
  apart = (h.apart.1, h.apart.2);
}

-- bytes that hold the negation are those of the result
pub negated : (t : FixedType) (mode : Mode) (x z : ℕ)
    → HoldsResult ((format_of t.kind).bits / 8) (negation_of (fixed_in (format_of t.kind) ((format_of t.kind).bits / 8) x) mode) z
    → IsUnaryResult Minus (fixed t.kind t.sat) mode x z
negated t mode x z h u r read e =
    let f = format_of t.kind in
    let k = f.bits / 8 in
    let m = number_of_bytes f.signed k x in
    let is : u ≡ Number m = number_told m u (value_in (fixed t.kind t.sat) (bits x)) read refl in
    let result : as_number (unary_value Minus (Fixed t) mode m) ≡ Ok r = ap (unary_result Minus (fixed t.kind t.sat) mode) (sym is) ∙ e in
    let told = as_told (unary_value Minus (Fixed t) mode m) r result in
    let answer = negation_of (fixed_in f k x) mode in
    let same : unary_value Minus (Fixed t) mode m ≡ outcome answer =
    ap (λ n. outcome (negation_of (fixed_number t n) mode)) (same_number f.signed k x) in
    ap (content_of k) told.result
    ∙ ap bits (result_bytes f k z answer told.number (kind_bits t.kind) (fit_fits f mode (rounded (exact_negation (fixed_in f k x).n))) h
    (sym same ∙ told.is))

negation_room : (k : ℕ) → 64 * most_negation_words k ≤ 64 * (60 + 40 * k - 4 * k)
negation_room k = omega arith

pub unaries_are_right : NegationsAreRight → FixedUnariesAreRight
unaries_are_right law op void mode e p q w i o s pc end v h slots numbers at = absurd h.fixed
unaries_are_right law op (integer signed bytes) mode e p q w i o s pc end v h slots numbers at = absurd h.fixed
unaries_are_right law Minus (fixed kind saturates) mode e p q w i o s pc end v h slots numbers at =
    let f = format_of kind in
    let k = f.bits / 8 in
    let r =
    law f mode e p q w k i o s pc end v (IsFormat-format_of kind) (kind_bits kind) (negation_slots e p q w k i o s slots) numbers at in
    computes_more e (64 * most_negation_words k) (64 * unary_room (fixed kind saturates)) pc end o k s v _ _ (negation_room k)
    (λ z g. negated (record { kind = kind; sat = saturates }) mode (value v.at i k) z g) r
unaries_are_right law Invert (fixed kind saturates) mode e p q w i o s pc end v h slots numbers at = absurd h.types.0
unaries_are_right law op (pointer space const to) mode e p q w i o s pc end v h slots numbers at = absurd h.fixed
unaries_are_right law op (array of len) mode e p q w i o s pc end v h slots numbers at = absurd h.fixed
unaries_are_right law op (struct index) mode e p q w i o s pc end v h slots numbers at = absurd h.fixed
