-- The code of conversions computes them.
use Rattle.std.proofs.Common.{◌≡◌, ◌≢◌, ◌⊎◌, inl, inr, ⊎_elim, ℕ, zero, suc, ◌+◌, ◌-◌, ◌*◌, ◌/◌, ◌^◌, ◌<◌, ◌≤◌, max, Bool, true, false}
use Rattle.std.proofs.Common.{◌++◌, refl, sym, ap, ◌∙◌, subst, arith, append-nil}
use Rattle.std.specs.Prelude.{Ok, if◌then◌else◌, ◌||◌, ◌&&◌, [], ◌∷◌}
use Rattle.std.proofs.lemmas.Bool.{cases_lt}
use Rattle.ec_fx.specs.declared.numbers.Mode.{Mode}
use Rattle.ec_fx.specs.Conversions.{conversion_of as fixed_conversion, IsIntegerWidth}
use Rattle.ec_fx.specs.Formats.{format_of, IsFormat}
use Rattle.ec_fx.proofs.FormatLemmas.{IsFormat-format_of}
use Rattle.ec_asm.specs.declared.pieces.Location.{Location}
use Rattle.ec_asm.specs.declared.pieces.Operator.TheVariants.{Sum}
use Rattle.ec_asm.specs.View.{View}
use Rattle.ec_asm.specs.Change.{Env, Own}
use Rattle.ec_asm.specs.Items.{HasAt, block, code_steps}
use Rattle.ec_asm.specs.Pieces.{StandsFrom, Outside, copy_code, value}
use Rattle.ec_asm.specs.PieceLaws.{HoldsNumbers}
use Rattle.ec_asm.proofs.Compared.{copy_holds}
use Rattle.ec_asm.proofs.Hoare.{block_goes}
use Rattle.ec_asm.proofs.Numbers.{value_below}
use Rattle.ec_asm.proofs.Results.{pieces_are_straight, pieces_take}
use Rattle.ec_core.specs.Layout.{IsIntegerSize, IsScalar, scalar_size}
use Rattle.ec_core.specs.Operators.{same_type}
use Rattle.ec_core.specs.Plain.{PlainType, void, integer, fixed, pointer, array, struct}
use Rattle.ec_core.specs.Typing.{AreConvertible}
use Rattle.ec_core.specs.Words.{widest}
use Rattle.ec_core.proofs.Sameness.{type_true}
use Rattle.ec_ir.specs.Costs.{is_integer, conversion_words}
use Rattle.ec_fxcode.specs.ClampLaws.{HoldsResult, IsClearOfEnds, AreApart}
use Rattle.ec_fxcode.proofs.Moves.{no_log}
use Rattle.ec_fxcode_shifts.proofs.Entered.{numbers_after}
use Rattle.ec_fxcode_quotients.specs.QuotientLaws.{operand_in}
use Rattle.ec_fxcode_scales.specs.ScaleLaws.{Computes}
use Rattle.ec_fxcode_conversions.specs.Conversions.{convert_code, whole_code}
use Rattle.ec_fxcode_conversions.specs.ConversionLaws.{AreTwoSlots, ConversionsAreRight, WholesAreRight, HoldsWhole}
use Rattle.ec_select_fixed.specs.Types.{IsFixedType, IsNumberType, format_in, AreFixedConverted}
use Rattle.ec_select_fixed.specs.Codes.{converted_code, fixed_conversion_code}
use Rattle.ec_select_fixed.specs.FixedLaws.{AreOperandSlots, IsConversionResult, FixedConversionsAreRight, conversion_room}
use Rattle.ec_select_fixed.proofs.Converted.{kept_result, fixed_result, whole_result}
use Rattle.ec_select_fixed.proofs.Formats.{kind_bits, operand_format, operand_bits, operand_bytes, fixed_bytes}
use Rattle.ec_select_fixed.proofs.Runs.{computes_more}

-- ---- types

-- a number type beside a number type, and one of them fixed-point
pub record AreConverted (ty aty : PlainType) : Type 0 where
  pub result : IsNumberType ty
  pub operand : IsNumberType aty
  pub integers : (is_integer ty && is_integer aty) ≡ false
  pub same : same_type ty aty ≡ true → IsFixedType ty

neither : ⊥ ⊎ ⊥ → ⊥
neither h = ⊎_elim (λ (z : ⊥). z) (λ (z : ⊥). z) h

by_types : (ty aty : PlainType) → AreConvertible ty aty → IsScalar ty → IsScalar aty → IsFixedType ty ⊎ IsFixedType aty
    → AreConverted ty aty
by_types (integer s m) (fixed k t) h l r f = record { result = l; operand = tt; integers = refl; same = λ e. cc }
by_types (fixed k t) (integer u n) h l r f = record { result = tt; operand = r; integers = refl; same = λ e. tt }
by_types (fixed k t) (fixed j u) h l r f = record { result = tt; operand = tt; integers = refl; same = λ e. tt }
by_types (integer s m) (integer u n) h l r f = absurd (neither f)
by_types (integer s m) (pointer p c z) h l r f = absurd h
by_types (integer s m) void h l r f = absurd r
by_types (integer s m) (array z n) h l r f = absurd r
by_types (integer s m) (struct n) h l r f = absurd r
by_types (fixed k t) (pointer p c z) h l r f = absurd h
by_types (fixed k t) void h l r f = absurd r
by_types (fixed k t) (array z n) h l r f = absurd r
by_types (fixed k t) (struct n) h l r f = absurd r
by_types (pointer p c z) (integer u n) h l r f = absurd h
by_types (pointer p c z) (fixed j u) h l r f = absurd h
by_types (pointer p c z) (pointer q d y) h l r f = absurd (neither f)
by_types (pointer p c z) void h l r f = absurd r
by_types (pointer p c z) (array y n) h l r f = absurd r
by_types (pointer p c z) (struct n) h l r f = absurd r
by_types void aty h l r f = absurd l
by_types (array y n) aty h l r f = absurd l
by_types (struct n) aty h l r f = absurd l

pub converted_types : (ty aty : PlainType) → AreFixedConverted ty aty → AreConverted ty aty
converted_types ty aty h = by_types ty aty h.types h.result h.operand h.fixed

-- ---- words

abbrev words_by : (same integers : Bool) (ty aty : PlainType) → ℕ
words_by same integers ty aty = if same || integers then 10 * widest (ty ∷ aty ∷ []) else 100 + 40 * widest (ty ∷ aty ∷ [])

pub words_where : (b : Bool) (ty aty : PlainType) → AreConverted ty aty → same_type ty aty ≡ b
    → conversion_words ty aty ≡ words_by b false ty aty
words_where b ty aty h e = ap (λ c. words_by c (is_integer ty && is_integer aty) ty aty) e ∙ ap (λ c. words_by b c ty aty) h.integers

-- ---- a copy

clear_of_30 : (o k : ℕ) → IsClearOfEnds o k → Outside o k 30
clear_of_30 o k c l = ⊎_elim (λ (y : o < 30). c.below y) (λ (y : 30 ≤ o). let z = c.above y in absurd (omega arith)) (cases_lt o 30)

clear_of_31 : (o k : ℕ) → IsClearOfEnds o k → Outside o k 31
clear_of_31 o k c l =
    ⊎_elim (λ (y : o < 30). let z = c.below y in omega arith) (λ (y : 30 ≤ o). let z = c.above y in absurd (omega arith)) (cases_lt o 30)

value_moved : (f g : ℕ → ℕ) (a b n : ℕ) → ((j : ℕ) → j < n → f (a + j) ≡ g (b + j)) → value f a n ≡ value g b n
value_moved f g a b zero h = refl
value_moved f g a b (suc n) h =
    let r = value_moved f g a b n (λ j l. h j (omega arith)) in
    let x = h n (omega arith) in
    rw (r, x) refl

copy_runs : (e : Env) (p q w : Location) (k i o s pc end : ℕ) (v : View) → AreOperandSlots e p q w k k i o s → HoldsNumbers v
    → HasAt e (copy_code p q k) pc end → Computes e (2 * k) pc v end o k s (λ z. z ≡ value v.at i k)
copy_runs e p q w k i o s pc end v slots numbers at =
    let code = copy_code p q k in
    let u = block e code v in
    let c = copy_holds e p q k i o Own Own v slots.operand slots.result refl refl slots.apart.0.first in
    let straight = (pieces_are_straight Sum p q k).0 in
    let steps = (pieces_take Sum p q k).0.1 in
    let low = slots.operand.clear in
    let at30 : u.at 30 < 256 =
    subst (λ n. n < 256) (sym (c.same 30 (omega arith) (clear_of_30 o k slots.clear.1))) (numbers 30 (omega arith)) in
    let at31 : u.at 31 < 256 =
    subst (λ n. n < 256) (sym (c.same 31 (omega arith) (clear_of_31 o k slots.clear.1))) (numbers 31 (omega arith)) in
    record {
      steps = code_steps code;
      at_most = omega (arith, steps);
      last = u;
      goes = block_goes e code pc end v straight at;
      holds = value_moved u.at v.at o i k c.there;
      numbers = numbers_after v u o k numbers (λ j y1 y2 y3 y4 r. c.same j y1 r) at30 at31
          (λ j l. subst (λ n. n < 256) (sym (c.there j l)) (numbers (i + j) (omega arith)));
      same = λ j y1 y2 y3 y4 r t. c.same j y1 r;
      inputs = c.inputs;
      safe = c.safe;
      seen = c.seen ∙ ap (λ l. v.seen ++ l) (no_log i o v.at k) ∙ append-nil v.seen;
    }

kept_room : (ty aty : PlainType) → AreConverted ty aty → same_type ty aty ≡ true → 2 * scalar_size ty ≤ 64 * conversion_room ty aty
kept_room ty aty h e =
    let w : conversion_words ty aty ≡ 10 * max (scalar_size ty) (max (scalar_size aty) 1) = words_where true ty aty h e in
    omega (arith, w)

-- a value of the same type is copied
kept_runs : (ty aty : PlainType) (mode : Mode) (e : Env) (p q w : Location) (i o s pc end : ℕ) (v : View) → AreConverted ty aty
    → same_type ty aty ≡ true → AreOperandSlots e p q w (scalar_size aty) (scalar_size ty) i o s → HoldsNumbers v
    → HasAt e (copy_code p q (scalar_size ty)) pc end
    → Computes e (64 * conversion_room ty aty) pc v end o (scalar_size ty) s
    (IsConversionResult ty mode aty (value v.at i (scalar_size aty)))
kept_runs ty aty mode e p q w i o s pc end v h same slots numbers at =
    let k = scalar_size ty in
    let t : ty ≡ aty = type_true ty aty same in
    let size : scalar_size aty ≡ k = ap scalar_size (sym t) in
    let there = subst (λ (n : ℕ). AreOperandSlots e p q w n k i o s) size slots in
    let r = copy_runs e p q w k i o s pc end v there numbers at in
    let low = there.operand.clear in
    let x = value v.at i (scalar_size aty) in
    let moved : x ≡ value v.at i k = ap (value v.at i) size in
    let below : x < 256 ^ k = rw moved (value_below v.at i k (λ j l. numbers (i + j) (omega arith))) in
    computes_more e (2 * k) (64 * conversion_room ty aty) pc end o k s v (λ z. z ≡ value v.at i k) (IsConversionResult ty mode aty x)
    (kept_room ty aty h same)
    (λ z g. kept_result ty aty mode x z t (h.same same) h.result below (g ∙ sym moved)) r

-- ---- to another type

two_slots : (e : Env) (p q w : Location) (a k i o s : ℕ) → AreOperandSlots e p q w a k i o s → AreTwoSlots e p q w a k i o s
two_slots e p q w a k i o s h = record {
  operand = h.operand;
  result = h.result;
  work = h.work;
  clear = h.clear;
  apart = (h.apart.1, h.apart.2);
}

pub integer_width : (bytes : ℕ) → IsIntegerSize bytes → IsIntegerWidth (8 * bytes)
integer_width bytes h =
    ⊎_elim (λ (e : bytes ≡ 1). inl (ap (λ n. 8 * n) e))
    (λ r. ⊎_elim (λ (e : bytes ≡ 2). inr (inl (ap (λ n. 8 * n) e))) (λ (e : bytes ≡ 4). inr (inr (ap (λ n. 8 * n) e))) r) h

other_room : (ty aty : PlainType) → AreConverted ty aty → same_type ty aty ≡ false
    → 64 * (100 + 36 * max (scalar_size aty) (scalar_size ty)) ≤ 64 * conversion_room ty aty
other_room ty aty h e =
    let w : conversion_words ty aty ≡ 100 + 40 * max (scalar_size ty) (max (scalar_size aty) 1) = words_where false ty aty h e in
    omega (arith, w)

pub fixed_format : (ty : PlainType) → IsFixedType ty → IsFormat (format_in ty)
fixed_format void h = absurd h
fixed_format (integer signed bytes) h = absurd h
fixed_format (fixed kind saturates) h = IsFormat-format_of kind
fixed_format (pointer space const to) h = absurd h
fixed_format (array of len) h = absurd h
fixed_format (struct index) h = absurd h

module _ (conversions : ConversionsAreRight) (wholes : WholesAreRight) where
  other_runs : (ty aty : PlainType) (mode : Mode) (e : Env) (p q w : Location) (i o s pc end : ℕ) (v : View) → AreConverted ty aty
      → IsFixedType ty ⊎ IsFixedType aty → same_type ty aty ≡ false
      → AreOperandSlots e p q w (scalar_size aty) (scalar_size ty) i o s → HoldsNumbers v
      → HasAt e (converted_code ty aty mode p q w) pc end
      → Computes e (64 * conversion_room ty aty) pc v end o (scalar_size ty) s
      (IsConversionResult ty mode aty (value v.at i (scalar_size aty)))
  other_runs void aty mode e p q w i o s pc end v h f same slots numbers at = absurd h.result
  other_runs (integer signed bytes) aty mode e p q w i o s pc end v h f same slots numbers at =
      let a = scalar_size aty in
      let fixed_operand = ⊎_elim (λ (z : ⊥). absurd z) (λ (z : IsFixedType aty). z) f in
      let r = wholes (format_in aty) e p q w a bytes i o s pc end v (fixed_format aty fixed_operand) (operand_bits aty h.operand)
      (integer_width bytes h.result)
      (two_slots e p q w a bytes i o s slots) numbers at in
      computes_more e (64 * (100 + 36 * max a bytes)) (64 * conversion_room (integer signed bytes) aty) pc end o bytes s v _ _
      (other_room (integer signed bytes) aty h same)
      (λ z g. whole_result signed bytes aty mode (value v.at i a) z fixed_operand h.result h.operand g) r
  other_runs (fixed kind saturates) aty mode e p q w i o s pc end v h f same slots numbers at =
      let a = scalar_size aty in
      let k = (format_of kind).bits / 8 in
      let r = conversions (format_in aty) (format_of kind) mode e p q w a k i o s pc end v (operand_format aty h.operand)
      (operand_bits aty h.operand)
      (IsFormat-format_of kind) (kind_bits kind) (two_slots e p q w a k i o s slots) numbers at in
      computes_more e (64 * (100 + 36 * max a k)) (64 * conversion_room (fixed kind saturates) aty) pc end o k s v _ _
      (other_room (fixed kind saturates) aty h same)
      (λ z g. fixed_result (fixed kind saturates) aty mode (value v.at i a) z tt tt h.operand g) r
  other_runs (pointer space const to) aty mode e p q w i o s pc end v h f same slots numbers at = absurd h.result
  other_runs (array of len) aty mode e p q w i o s pc end v h f same slots numbers at = absurd h.result
  other_runs (struct index) aty mode e p q w i o s pc end v h f same slots numbers at = absurd h.result

  pub conversions_are_right : FixedConversionsAreRight
  conversions_are_right ty aty mode e p q w i o s pc end v h slots numbers at = by_sameness (same_type ty aty) refl at
    where
      by_sameness : (b : Bool) → same_type ty aty ≡ b
          → HasAt e (if b then copy_code p q (scalar_size ty) else converted_code ty aty mode p q w) pc end
          → Computes e (64 * conversion_room ty aty) pc v end o (scalar_size ty) s
          (IsConversionResult ty mode aty (value v.at i (scalar_size aty)))
      by_sameness true g c = kept_runs ty aty mode e p q w i o s pc end v (converted_types ty aty h) g slots numbers c
      by_sameness false g c = other_runs ty aty mode e p q w i o s pc end v (converted_types ty aty h) h.fixed g slots numbers c
