-- What a call of a routine computes, and how many words routines and calls have.
use Rattle.std.specs.Prelude.{◌≡◌, ℕ, suc, ◌+◌, ◌*◌, ◌<◌, ◌≤◌, Bool, List}
use Rattle.ec_fx.specs.declared.numbers.Mode.{Mode}
use Rattle.ec_asm.specs.declared.items.AsmItem.{AsmItem}
use Rattle.ec_asm.specs.declared.pieces.Location.{Location}
use Rattle.ec_asm.specs.View.{View}
use Rattle.ec_asm.specs.Change.{Env, Own}
use Rattle.ec_asm.specs.Items.{HasAt, code_words}
use Rattle.ec_asm.specs.Pieces.{StandsFrom, value}
use Rattle.ec_asm.specs.PieceLaws.{HoldsNumbers}
use Rattle.ec_core.specs.declared.expressions.BinOp.{BinOp}
use Rattle.ec_core.specs.declared.expressions.UnOp.{UnOp}
use Rattle.ec_core.specs.Layout.{scalar_size}
use Rattle.ec_core.specs.Plain.{PlainType}
use Rattle.ec_ir.specs.Costs.{binary_words, unary_words, conversion_words}
use Rattle.ec_fxcode.specs.ClampLaws.{AreApart}
use Rattle.ec_select_fixed.specs.Types.{AreFixedOperands, IsFixedOperand, AreFixedConverted}
use Rattle.ec_select_fixed.specs.FixedLaws.{IsBinaryResult, IsUnaryResult, IsConversionResult, binary_room, unary_room}
use Rattle.ec_select_fixed.specs.FixedLaws.{conversion_room}
use Rattle.ec_select_quotients.specs.Signs.{quotient_of}
use Rattle.ec_routines.specs.Routines.{ComputesByCall, routine_code, CanPush}
use Rattle.ec_select_routines.specs.Codes.{binary_body, unary_body, conversion_body, quotient_body, call_with_one}
use Rattle.ec_select_routines.specs.Codes.{call_with_two}

-- ---- where routines and operands stand

-- the 64 work bytes stand from an address on, outside registers and ports, and are code's own
pub record HasWork (e : Env) (work : ℕ) : Type 0 where
  pub high : 256 ≤ work
  pub at : (i : ℕ) → i < 64 → e.address_of 1280 i ≡ work + i
  pub kind : (i : ℕ) → i < 64 → e.kind (work + i) ≡ Own

-- the routine with a label stands, with this body
pub record HasRoutine (e : Env) (l : ℕ) (body : List AsmItem) : Type 0 where
  pub start : ℕ
  pub past : ℕ
  pub stands : HasAt e (routine_code l body) start past

-- an operand of 1 to 8 bytes stands from an address on, apart from the work bytes
pub record IsOperandAt (e : Env) (p : Location) (n a work : ℕ) : Type 0 where
  pub some : 1 ≤ n
  pub most : n ≤ 8
  pub stands : StandsFrom e p n a Own
  pub apart : AreApart a n work 64

-- ---- what calls compute, in at most 34 steps more than the body with two operands, and 18 with one, whatever the bytes of the operands are

abbrev pub BinaryRoutinesAreRight : Type 0
BinaryRoutinesAreRight =
    (op : BinOp) (ty aty bty : PlainType) (mode : Mode) (e : Env) (l : ℕ) (p q : Location) (i j work pc end : ℕ) (v : View)
    → AreFixedOperands op ty aty bty → HasWork e work → HasRoutine e l (binary_body op ty aty bty mode)
    → IsOperandAt e p (scalar_size aty) i work → IsOperandAt e q (scalar_size bty) j work → 1 ≤ scalar_size ty
    → scalar_size ty ≤ 8 → CanPush e v → HoldsNumbers v
    → HasAt e (call_with_two p q (scalar_size aty) (scalar_size bty) l) pc end
    → ComputesByCall e (64 * binary_room op ty aty bty + 34) pc v end (work + 40) (scalar_size ty) work
    (IsBinaryResult op ty mode aty bty (value v.at i (scalar_size aty)) (value v.at j (scalar_size bty)))

abbrev pub UnaryRoutinesAreRight : Type 0
UnaryRoutinesAreRight =
    (op : UnOp) (ty : PlainType) (mode : Mode) (e : Env) (l : ℕ) (p : Location) (i work pc end : ℕ) (v : View)
    → IsFixedOperand op ty → HasWork e work → HasRoutine e l (unary_body op ty mode)
    → IsOperandAt e p (scalar_size ty) i work → CanPush e v → HoldsNumbers v
    → HasAt e (call_with_one p (scalar_size ty) l) pc end
    → ComputesByCall e (64 * unary_room ty + 18) pc v end (work + 40) (scalar_size ty) work
    (IsUnaryResult op ty mode (value v.at i (scalar_size ty)))

abbrev pub ConversionRoutinesAreRight : Type 0
ConversionRoutinesAreRight =
    (ty aty : PlainType) (mode : Mode) (e : Env) (l : ℕ) (p : Location) (i work pc end : ℕ) (v : View)
    → AreFixedConverted ty aty → HasWork e work → HasRoutine e l (conversion_body ty aty mode)
    → IsOperandAt e p (scalar_size aty) i work → 1 ≤ scalar_size ty → scalar_size ty ≤ 8 → CanPush e v → HoldsNumbers v
    → HasAt e (call_with_one p (scalar_size aty) l) pc end
    → ComputesByCall e (64 * conversion_room ty aty + 18) pc v end (work + 40) (scalar_size ty) work
    (IsConversionResult ty mode aty (value v.at i (scalar_size aty)))

-- numbers of one to four bytes, of which the second one is not 0
abbrev pub QuotientRoutinesAreRight : Type 0
QuotientRoutinesAreRight =
    (r signed : Bool) (e : Env) (l : ℕ) (p q : Location) (top i j work pc end : ℕ) (v : View) → suc top ≤ 4
    → HasWork e work → HasRoutine e l (quotient_body r signed top) → IsOperandAt e p (suc top) i work
    → IsOperandAt e q (suc top) j work → CanPush e v → HoldsNumbers v → 1 ≤ value v.at j (suc top)
    → HasAt e (call_with_two p q (suc top) (suc top) l) pc end
    → ComputesByCall e 1242 pc v end (work + 40) (suc top) work
    (λ z. z ≡ quotient_of r signed top (value v.at i (suc top)) (value v.at j (suc top)))

-- ---- words

-- a routine has at most one word more than the operation by itself, less those of the copy of its result
abbrev pub BinaryRoutinesHave : Type 0
BinaryRoutinesHave =
    (op : BinOp) (ty aty bty : PlainType) (mode : Mode) (l : ℕ) → AreFixedOperands op ty aty bty
    → code_words (routine_code l (binary_body op ty aty bty mode)) + 4 * scalar_size ty ≤ binary_words op ty aty bty + 1

abbrev pub UnaryRoutinesHave : Type 0
UnaryRoutinesHave =
    (op : UnOp) (ty : PlainType) (mode : Mode) (l : ℕ) → IsFixedOperand op ty
    → code_words (routine_code l (unary_body op ty mode)) + 4 * scalar_size ty ≤ unary_words ty + 1

abbrev pub ConversionRoutinesHave : Type 0
ConversionRoutinesHave =
    (ty aty : PlainType) (mode : Mode) (l : ℕ) → AreFixedConverted ty aty
    → code_words (routine_code l (conversion_body ty aty mode)) + 4 * scalar_size ty ≤ conversion_words ty aty + 1

-- a call has at most 4 for each byte of its operands, and 2
pub record CallsHave : Type 0 where
  pub one : (p : Location) (n l : ℕ) → code_words (call_with_one p n l) ≤ 4 * n + 2
  pub two : (p q : Location) (n m l : ℕ) → code_words (call_with_two p q n m l) ≤ 4 * (n + m) + 2
