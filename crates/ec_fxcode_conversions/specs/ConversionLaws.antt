-- Laws of the code of conversions.
use Rattle.std.specs.Prelude.{◌≡◌, ℕ, ◌+◌, ◌*◌, ◌≤◌, max, Bool, ℤ, Some, List, IsTrue, count_by}
use Rattle.std.specs.List.{list_all}
use Rattle.ec_fx.specs.declared.formats.Format.{Format}
use Rattle.ec_fx.specs.declared.numbers.Mode.{Mode}
use Rattle.ec_fx.specs.Conversions.{conversion_of, integer_of, IsIntegerWidth}
use Rattle.ec_fx.specs.Formats.{IsFormat}
use Rattle.ec_asm.specs.declared.items.AsmItem.{AsmItem}
use Rattle.ec_asm.specs.declared.pieces.Location.{Location}
use Rattle.ec_asm.specs.View.{View}
use Rattle.ec_asm.specs.Change.{Env, Own}
use Rattle.ec_asm.specs.Items.{HasAt, code_words}
use Rattle.ec_asm.specs.Pieces.{StandsFrom, value}
use Rattle.ec_asm.specs.PieceLaws.{HoldsNumbers}
use Rattle.ec_asm.specs.Valid.{Sizes, is_valid_item, used_label, is_label, is_placed}
use Rattle.ec_fxcode.specs.ClampLaws.{in_bytes, HoldsResult, IsClearOfEnds, AreApart, HasPlaces}
use Rattle.ec_fxcode_shifts.specs.ShiftLaws.{fixed_in}
use Rattle.ec_fxcode_quotients.specs.QuotientLaws.{IsOperandFormat, operand_in}
use Rattle.ec_fxcode_scales.specs.ScaleLaws.{Computes}
use Rattle.ec_fxcode_conversions.specs.Conversions.{convert_code, whole_code}

-- the operand and the result stand apart from 40 work bytes, and all three from R30 and R31
pub record AreTwoSlots (e : Env) (p q w : Location) (a k i o s : ℕ) : Type 0 where
  pub operand : StandsFrom e p a i Own
  pub result : StandsFrom e q k o Own
  pub work : StandsFrom e w 40 s Own
  pub clear : IsClearOfEnds i a × IsClearOfEnds o k × IsClearOfEnds s 40
  pub apart : AreApart i a s 40 × AreApart o k s 40

-- the most words of a conversion whose operand and result have at most b bytes
abbrev pub conversion_words : ℕ → ℕ
conversion_words b = 100 + 36 * b

-- ---- into a format

-- the code converts, whatever the bytes of the operand are
abbrev pub ConversionsAreRight : Type 0
ConversionsAreRight =
    (f to : Format) (mode : Mode) (e : Env) (p q w : Location) (a k i o s pc end : ℕ) (v : View) → IsOperandFormat f
    → f.bits ≡ 8 * a → IsFormat to → to.bits ≡ 8 * k → AreTwoSlots e p q w a k i o s → HoldsNumbers v
    → HasAt e (convert_code f to mode p q w a k) pc end
    → Computes e (64 * conversion_words (max a k)) pc v end o k s
    (HoldsResult k (conversion_of (operand_in f a (value v.at i a)) to mode))

abbrev pub ConversionsHave : Type 0
ConversionsHave =
    (f to : Format) (mode : Mode) (p q w : Location) (a k : ℕ) → IsOperandFormat f → f.bits ≡ 8 * a → IsFormat to
    → to.bits ≡ 8 * k → code_words (convert_code f to mode p q w a k) ≤ conversion_words (max a k)

-- ---- into an integer

-- k bytes hold the integer of a type of so many bytes that a number is without what stands behind the point, where that
-- type holds it: with or without a sign
abbrev pub HoldsWhole : (f : Format) → (a k operand number : ℕ) → Type 0
HoldsWhole f a k operand number =
    (signed : Bool) (n : ℤ) → integer_of (fixed_in f a operand) signed (8 * k) ≡ Some n → number ≡ in_bytes k n

abbrev pub WholesAreRight : Type 0
WholesAreRight =
    (f : Format) (e : Env) (p q w : Location) (a k i o s pc end : ℕ) (v : View) → IsFormat f → f.bits ≡ 8 * a
    → IsIntegerWidth (8 * k) → AreTwoSlots e p q w a k i o s → HoldsNumbers v → HasAt e (whole_code f p q w a k) pc end
    → Computes e (64 * conversion_words (max a k)) pc v end o k s (HoldsWhole f a k (value v.at i a))

abbrev pub WholesHave : Type 0
WholesHave =
    (f : Format) (p q w : Location) (a k : ℕ) → IsFormat f → f.bits ≡ 8 * a → IsIntegerWidth (8 * k)
    → code_words (whole_code f p q w a k) ≤ conversion_words (max a k)

-- ---- items

-- the fields of all items are in range where those of the bytes are
abbrev pub ConversionsAreValid : Type 0
ConversionsAreValid =
    (sizes : Sizes) (f to : Format) (mode : Mode) (p q w : Location) (a k : ℕ) → IsOperandFormat f → f.bits ≡ 8 * a
    → IsFormat to → to.bits ≡ 8 * k → HasPlaces sizes p a → HasPlaces sizes q k → HasPlaces sizes w 40
    → IsTrue (list_all (is_valid_item sizes) (convert_code f to mode p q w a k))

abbrev pub WholesAreValid : Type 0
WholesAreValid =
    (sizes : Sizes) (f : Format) (p q w : Location) (a k : ℕ) → IsFormat f → f.bits ≡ 8 * a → IsIntegerWidth (8 * k)
    → HasPlaces sizes p a → HasPlaces sizes q k → HasPlaces sizes w 40
    → IsTrue (list_all (is_valid_item sizes) (whole_code f p q w a k))

-- items refer to no label, and are the place of none
abbrev pub ConversionsUseNoLabel : Type 0
ConversionsUseNoLabel =
    (items : List AsmItem) (f to : Format) (mode : Mode) (p q w : Location) (a k : ℕ) → IsOperandFormat f
    → f.bits ≡ 8 * a → IsFormat to → to.bits ≡ 8 * k
    → IsTrue (list_all (λ item. is_placed items (used_label item)) (convert_code f to mode p q w a k))

abbrev pub ConversionsPlaceNoLabel : Type 0
ConversionsPlaceNoLabel =
    (f to : Format) (mode : Mode) (p q w : Location) (a k l : ℕ) → IsOperandFormat f → f.bits ≡ 8 * a → IsFormat to
    → to.bits ≡ 8 * k → count_by (is_label l) (convert_code f to mode p q w a k) ≡ 0

abbrev pub WholesUseNoLabel : Type 0
WholesUseNoLabel =
    (items : List AsmItem) (f : Format) (p q w : Location) (a k : ℕ) → IsFormat f → f.bits ≡ 8 * a
    → IsIntegerWidth (8 * k)
    → IsTrue (list_all (λ item. is_placed items (used_label item)) (whole_code f p q w a k))

abbrev pub WholesPlaceNoLabel : Type 0
WholesPlaceNoLabel =
    (f : Format) (p q w : Location) (a k l : ℕ) → IsFormat f → f.bits ≡ 8 * a → IsIntegerWidth (8 * k)
    → count_by (is_label l) (whole_code f p q w a k) ≡ 0
