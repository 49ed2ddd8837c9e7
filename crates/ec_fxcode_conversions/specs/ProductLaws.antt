-- Laws of the code of products.
use Rattle.std.specs.Prelude.{◌≡◌, ℕ, ◌*◌, ◌≤◌, List, IsTrue, count_by}
use Rattle.std.specs.List.{list_all}
use Rattle.ec_fx.specs.declared.formats.Format.{Format}
use Rattle.ec_fx.specs.declared.numbers.Mode.{Mode}
use Rattle.ec_fx.specs.Arithmetic.{IsResultFormat, product_of}
use Rattle.ec_asm.specs.declared.items.AsmItem.{AsmItem}
use Rattle.ec_asm.specs.declared.pieces.Location.{Location}
use Rattle.ec_asm.specs.View.{View}
use Rattle.ec_asm.specs.Change.{Env}
use Rattle.ec_asm.specs.Items.{HasAt, code_words}
use Rattle.ec_asm.specs.Pieces.{value}
use Rattle.ec_asm.specs.PieceLaws.{HoldsNumbers}
use Rattle.ec_asm.specs.Valid.{Sizes, is_valid_item, used_label, is_label, is_placed}
use Rattle.ec_fxcode.specs.ClampLaws.{HoldsResult, HasPlaces}
use Rattle.ec_fxcode_quotients.specs.QuotientLaws.{IsOperandFormat, operand_in, AreSlots}
use Rattle.ec_fxcode_scales.specs.ScaleLaws.{Computes}
use Rattle.ec_fxcode_conversions.specs.Products.{multiply_code}

-- the formats of two operands of one byte, of which one is fixed-point at least, and of their product: which operands
-- have the formats does not matter
pub record AreFactors (f g to : Format) : Type 0 where
  pub left : IsOperandFormat f
  pub right : IsOperandFormat g
  pub left_bits : f.bits ≡ 8
  pub right_bits : g.bits ≡ 8
  pub result : IsResultFormat (operand_in f 1 0) (operand_in g 1 0) to

-- the most words of a product
abbrev pub product_words : ℕ
product_words = 180

-- the code multiplies, whatever the bytes of the operands are
abbrev pub ProductsAreRight : Type 0
ProductsAreRight =
    (f g to : Format) (mode : Mode) (e : Env) (p c q w : Location) (i j o s pc end : ℕ) (v : View) → AreFactors f g to
    → AreSlots e p c q w 1 1 1 i j o s → HoldsNumbers v → HasAt e (multiply_code f g to mode p c q w) pc end
    → Computes e (64 * product_words) pc v end o 1 s
    (HoldsResult 1 (product_of (operand_in f 1 (value v.at i 1)) (operand_in g 1 (value v.at j 1)) to mode))

abbrev pub ProductsHave : Type 0
ProductsHave =
    (f g to : Format) (mode : Mode) (p c q w : Location) → AreFactors f g to
    → code_words (multiply_code f g to mode p c q w) ≤ product_words

-- ---- items

-- the fields of all items are in range where those of the bytes are
abbrev pub ProductsAreValid : Type 0
ProductsAreValid =
    (sizes : Sizes) (f g to : Format) (mode : Mode) (p c q w : Location) → AreFactors f g to → HasPlaces sizes p 1
    → HasPlaces sizes c 1 → HasPlaces sizes q 1 → HasPlaces sizes w 40
    → IsTrue (list_all (is_valid_item sizes) (multiply_code f g to mode p c q w))

-- items refer to no label, and are the place of none
abbrev pub ProductsUseNoLabel : Type 0
ProductsUseNoLabel =
    (items : List AsmItem) (f g to : Format) (mode : Mode) (p c q w : Location) → AreFactors f g to
    → IsTrue (list_all (λ item. is_placed items (used_label item)) (multiply_code f g to mode p c q w))

abbrev pub ProductsPlaceNoLabel : Type 0
ProductsPlaceNoLabel =
    (f g to : Format) (mode : Mode) (p c q w : Location) (l : ℕ) → AreFactors f g to
    → count_by (is_label l) (multiply_code f g to mode p c q w) ≡ 0
