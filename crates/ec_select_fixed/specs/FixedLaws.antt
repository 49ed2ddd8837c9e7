-- Laws of the code of operations with a fixed-point operand or result, by the operators of programs.
use Rattle.std.specs.Prelude.{◌≡◌, ℕ, ◌+◌, ◌-◌, ◌*◌, ◌≤◌, List, IsTrue, count_by, Ok}
use Rattle.std.specs.List.{list_all}
use Rattle.ec_fx.specs.declared.numbers.Mode.{Mode}
use Rattle.ec_asm.specs.declared.items.AsmItem.{AsmItem}
use Rattle.ec_asm.specs.declared.pieces.Location.{Location}
use Rattle.ec_asm.specs.View.{View}
use Rattle.ec_asm.specs.Change.{Env, Own}
use Rattle.ec_asm.specs.Items.{HasAt, code_words}
use Rattle.ec_asm.specs.Pieces.{StandsFrom, value}
use Rattle.ec_asm.specs.PieceLaws.{HoldsNumbers}
use Rattle.ec_asm.specs.Valid.{Sizes, is_valid_item, used_label, is_label, is_placed}
use Rattle.ec_core.specs.declared.expressions.BinOp.{BinOp}
use Rattle.ec_core.specs.declared.expressions.UnOp.{UnOp}
use Rattle.ec_core.specs.declared.values.Value.{Value}
use Rattle.ec_core.specs.Layout.{scalar_size}
use Rattle.ec_core.specs.Operators.{Operand, unary_result, binary_result, conversion_result}
use Rattle.ec_core.specs.Plain.{PlainType}
use Rattle.ec_ir.specs.Costs.{binary_words, unary_words, conversion_words}
use Rattle.ec_ir.specs.Temporaries.{bits, content_of, value_in}
use Rattle.ec_fxcode.specs.ClampLaws.{IsClearOfEnds, AreApart, HasPlaces}
use Rattle.ec_fxcode_scales.specs.ScaleLaws.{Computes}
use Rattle.ec_fxcode_quotients.specs.QuotientLaws.{AreSlots}
use Rattle.ec_select_fixed.specs.Types.{AreFixedOperands, IsFixedOperand, AreFixedConverted}
use Rattle.ec_select_fixed.specs.Codes.{fixed_binary_code, fixed_unary_code, fixed_conversion_code}

-- ---- places

-- the operand, the result and 40 work bytes stand apart from each other and from R30 and R31
pub record AreOperandSlots (e : Env) (p q w : Location) (a k i o s : ℕ) : Type 0 where
  pub operand : StandsFrom e p a i Own
  pub result : StandsFrom e q k o Own
  pub work : StandsFrom e w 40 s Own
  pub clear : IsClearOfEnds i a × IsClearOfEnds o k × IsClearOfEnds s 40
  pub apart : AreApart i a o k × AreApart i a s 40 × AreApart o k s 40

-- ---- what bytes hold

-- an operand of a type whose bytes are x
pub record HasOperandBytes (ty : PlainType) (x : ℕ) (a : Operand) : Type 0 where
  pub type_is : a.ty ≡ ty
  pub value_is : value_in ty (bits x) ≡ Ok a.value

-- where the operator has a result, z are its bytes
abbrev pub IsBinaryResult : BinOp → (ty : PlainType) → Mode → (aty bty : PlainType) → (x y z : ℕ) → Type 0
IsBinaryResult op ty mode aty bty x y z =
    (a b : Operand) (r : Value) → HasOperandBytes aty x a → HasOperandBytes bty y b
    → binary_result op ty mode a b ≡ Ok r → content_of (scalar_size ty) r ≡ bits z

abbrev pub IsUnaryResult : UnOp → (ty : PlainType) → Mode → (x z : ℕ) → Type 0
IsUnaryResult op ty mode x z =
    (u r : Value) → value_in ty (bits x) ≡ Ok u → unary_result op ty mode u ≡ Ok r
    → content_of (scalar_size ty) r ≡ bits z

abbrev pub IsConversionResult : (ty : PlainType) → Mode → (aty : PlainType) → (x z : ℕ) → Type 0
IsConversionResult ty mode aty x z =
    (a : Operand) (r : Value) → HasOperandBytes aty x a → conversion_result ty mode a ≡ Ok r
    → content_of (scalar_size ty) r ≡ bits z

-- ---- the words that an operation may have, but those of a copy of its result to its place

abbrev pub copied_words : PlainType → ℕ
copied_words ty = 4 * scalar_size ty

abbrev pub binary_room : BinOp → (ty aty bty : PlainType) → ℕ
binary_room op ty aty bty = binary_words op ty aty bty - copied_words ty

abbrev pub unary_room : PlainType → ℕ
unary_room ty = unary_words ty - copied_words ty

abbrev pub conversion_room : (ty aty : PlainType) → ℕ
conversion_room ty aty = conversion_words ty aty - copied_words ty

-- ---- what the code does, whatever the bytes of the operands are

abbrev pub FixedBinariesAreRight : Type 0
FixedBinariesAreRight =
    (op : BinOp) (ty aty bty : PlainType) (mode : Mode) (e : Env) (p c q w : Location) (i j o s pc end : ℕ) (v : View)
    → AreFixedOperands op ty aty bty
    → AreSlots e p c q w (scalar_size aty) (scalar_size bty) (scalar_size ty) i j o s → HoldsNumbers v
    → HasAt e (fixed_binary_code op ty aty bty mode p c q w) pc end
    → Computes e (64 * binary_room op ty aty bty) pc v end o (scalar_size ty) s
    (IsBinaryResult op ty mode aty bty (value v.at i (scalar_size aty)) (value v.at j (scalar_size bty)))

abbrev pub FixedUnariesAreRight : Type 0
FixedUnariesAreRight =
    (op : UnOp) (ty : PlainType) (mode : Mode) (e : Env) (p q w : Location) (i o s pc end : ℕ) (v : View)
    → IsFixedOperand op ty → AreOperandSlots e p q w (scalar_size ty) (scalar_size ty) i o s → HoldsNumbers v
    → HasAt e (fixed_unary_code op ty mode p q w) pc end
    → Computes e (64 * unary_room ty) pc v end o (scalar_size ty) s
    (IsUnaryResult op ty mode (value v.at i (scalar_size ty)))

abbrev pub FixedConversionsAreRight : Type 0
FixedConversionsAreRight =
    (ty aty : PlainType) (mode : Mode) (e : Env) (p q w : Location) (i o s pc end : ℕ) (v : View)
    → AreFixedConverted ty aty → AreOperandSlots e p q w (scalar_size aty) (scalar_size ty) i o s → HoldsNumbers v
    → HasAt e (fixed_conversion_code ty aty mode p q w) pc end
    → Computes e (64 * conversion_room ty aty) pc v end o (scalar_size ty) s
    (IsConversionResult ty mode aty (value v.at i (scalar_size aty)))

-- ---- words

abbrev pub FixedBinariesHave : Type 0
FixedBinariesHave =
    (op : BinOp) (ty aty bty : PlainType) (mode : Mode) (p c q w : Location) → AreFixedOperands op ty aty bty
    → code_words (fixed_binary_code op ty aty bty mode p c q w) + copied_words ty ≤ binary_words op ty aty bty

abbrev pub FixedUnariesHave : Type 0
FixedUnariesHave =
    (op : UnOp) (ty : PlainType) (mode : Mode) (p q w : Location) → IsFixedOperand op ty
    → code_words (fixed_unary_code op ty mode p q w) + copied_words ty ≤ unary_words ty

abbrev pub FixedConversionsHave : Type 0
FixedConversionsHave =
    (ty aty : PlainType) (mode : Mode) (p q w : Location) → AreFixedConverted ty aty
    → code_words (fixed_conversion_code ty aty mode p q w) + copied_words ty ≤ conversion_words ty aty

-- ---- items: their fields are in range where the places of the bytes are, they refer to no label, and are the place of
-- none

pub record HasPlainItems (sizes : Sizes) (code : List AsmItem) : Type 0 where
  pub valid : IsTrue (list_all (is_valid_item sizes) code)
  pub uses : (items : List AsmItem) → IsTrue (list_all (λ item. is_placed items (used_label item)) code)
  pub places : (l : ℕ) → count_by (is_label l) code ≡ 0

abbrev pub FixedBinariesArePlain : Type 0
FixedBinariesArePlain =
    (sizes : Sizes) (op : BinOp) (ty aty bty : PlainType) (mode : Mode) (p c q w : Location)
    → AreFixedOperands op ty aty bty → HasPlaces sizes p (scalar_size aty) → HasPlaces sizes c (scalar_size bty)
    → HasPlaces sizes q (scalar_size ty) → HasPlaces sizes w 40
    → HasPlainItems sizes (fixed_binary_code op ty aty bty mode p c q w)

abbrev pub FixedUnariesArePlain : Type 0
FixedUnariesArePlain =
    (sizes : Sizes) (op : UnOp) (ty : PlainType) (mode : Mode) (p q w : Location) → IsFixedOperand op ty
    → HasPlaces sizes p (scalar_size ty) → HasPlaces sizes q (scalar_size ty) → HasPlaces sizes w 40
    → HasPlainItems sizes (fixed_unary_code op ty mode p q w)

abbrev pub FixedConversionsArePlain : Type 0
FixedConversionsArePlain =
    (sizes : Sizes) (ty aty : PlainType) (mode : Mode) (p q w : Location) → AreFixedConverted ty aty
    → HasPlaces sizes p (scalar_size aty) → HasPlaces sizes q (scalar_size ty) → HasPlaces sizes w 40
    → HasPlainItems sizes (fixed_conversion_code ty aty mode p q w)
