-- Laws of the code of sums, differences and negations.
use Rattle.std.specs.Prelude.{◌≡◌, ℕ, ◌+◌, ◌*◌, ◌≤◌, ◌==◌, max, Bool, true, false, List, IsTrue, count_by}
use Rattle.std.specs.List.{list_all}
use Rattle.ec_fx.specs.declared.formats.Format.{Format}
use Rattle.ec_fx.specs.declared.numbers.Mode.{Mode}
use Rattle.ec_fx.specs.declared.numbers.Num.{Num}
use Rattle.ec_fx.specs.declared.numbers.Fx.{Fx}
use Rattle.ec_fx.specs.Arithmetic.{sum_of, difference_of, negation_of}
use Rattle.ec_fx.specs.Formats.{IsFormat, higher}
use Rattle.ec_asm.specs.declared.items.AsmItem.{AsmItem}
use Rattle.ec_asm.specs.declared.pieces.Location.{Location}
use Rattle.ec_asm.specs.View.{View}
use Rattle.ec_asm.specs.Change.{Env, Own}
use Rattle.ec_asm.specs.Items.{HasAt, code_words}
use Rattle.ec_asm.specs.Pieces.{StandsFrom, value}
use Rattle.ec_asm.specs.PieceLaws.{HoldsNumbers}
use Rattle.ec_asm.specs.Valid.{Sizes, is_valid_item, used_label, is_label, is_placed}
use Rattle.ec_fxcode.specs.ClampLaws.{HoldsResult, IsClearOfEnds, AreApart, HasPlaces}
use Rattle.ec_fxcode_shifts.specs.ShiftLaws.{fixed_in}
use Rattle.ec_fxcode_scales.specs.ScaleLaws.{Computes}
use Rattle.ec_fxcode_quotients.specs.QuotientLaws.{IsOperandFormat, operand_in, AreSlots}
use Rattle.ec_fxcode_sums.specs.Sums.{sum_code, negate_code}

-- ---- formats

-- The format of the result, by whether the operands are whole numbers: of one fixed-point operand its format, and of
-- two, which are both signed or both unsigned, the higher one
abbrev pub IsArithmetic : (first_whole second_whole : Bool) → (f g to : Format) → Type 0
IsArithmetic true true f g to = ⊥
IsArithmetic true false f g to = to ≡ g
IsArithmetic false true f g to = to ≡ f
IsArithmetic false false f g to = (f.signed ≡ g.signed) × (to ≡ higher f g)

-- a whole number has no fraction bits
abbrev pub ArithmeticFormats : (f g to : Format) → Type 0
ArithmeticFormats f g to = IsArithmetic (f.frac == 0) (g.frac == 0) f g to

-- ---- sums and differences

abbrev pub sum_by : (minus : Bool) → Num → Num → Format → Mode → Fx
sum_by true x y to mode = difference_of x y to mode
sum_by false x y to mode = sum_of x y to mode

-- the most words of a sum or a comparison whose operands and result have at most b bytes
abbrev pub most_sum_words : ℕ → ℕ
most_sum_words b = 110 + 36 * b + 40 * b * b

-- the code adds or subtracts, whatever the bytes of the operands are
abbrev pub SumsAreRight : Type 0
SumsAreRight =
    (minus : Bool) (f g to : Format) (mode : Mode) (e : Env) (p c q w : Location) (a b k i j o s pc end : ℕ) (v : View)
    → IsOperandFormat f → f.bits ≡ 8 * a → IsOperandFormat g → g.bits ≡ 8 * b → IsFormat to → to.bits ≡ 8 * k
    → ArithmeticFormats f g to → AreSlots e p c q w a b k i j o s → HoldsNumbers v
    → HasAt e (sum_code minus f g to mode p c q w a b k) pc end
    → Computes e (64 * most_sum_words (max a (max b k))) pc v end o k s
    (HoldsResult k (sum_by minus (operand_in f a (value v.at i a)) (operand_in g b (value v.at j b)) to mode))

abbrev pub SumsHave : Type 0
SumsHave =
    (minus : Bool) (f g to : Format) (mode : Mode) (p c q w : Location) (a b k : ℕ) → IsOperandFormat f
    → f.bits ≡ 8 * a → IsOperandFormat g → g.bits ≡ 8 * b → IsFormat to → to.bits ≡ 8 * k → ArithmeticFormats f g to
    → code_words (sum_code minus f g to mode p c q w a b k) ≤ most_sum_words (max a (max b k))

-- ---- negations

-- the number and the result, which may be the same, stand apart from 40 work bytes, and all from R30 and R31
pub record AreNegationSlots (e : Env) (p q w : Location) (k i o s : ℕ) : Type 0 where
  pub number : StandsFrom e p k i Own
  pub result : StandsFrom e q k o Own
  pub work : StandsFrom e w 40 s Own
  pub clear : IsClearOfEnds i k × IsClearOfEnds o k × IsClearOfEnds s 40
  pub apart : AreApart i k s 40 × AreApart o k s 40

-- the most words of a negation of a number of k bytes
abbrev pub most_negation_words : ℕ → ℕ
most_negation_words k = 40 + 36 * k

abbrev pub NegationsAreRight : Type 0
NegationsAreRight =
    (f : Format) (mode : Mode) (e : Env) (p q w : Location) (k i o s pc end : ℕ) (v : View) → IsFormat f
    → f.bits ≡ 8 * k → AreNegationSlots e p q w k i o s → HoldsNumbers v → HasAt e (negate_code f mode p q w k) pc end
    → Computes e (64 * most_negation_words k) pc v end o k s
    (HoldsResult k (negation_of (fixed_in f k (value v.at i k)) mode))

abbrev pub NegationsHave : Type 0
NegationsHave =
    (f : Format) (mode : Mode) (p q w : Location) (k : ℕ) → IsFormat f → f.bits ≡ 8 * k
    → code_words (negate_code f mode p q w k) ≤ most_negation_words k

-- ---- items

-- the fields of all items are in range where those of the bytes are
abbrev pub SumsAreValid : Type 0
SumsAreValid =
    (sizes : Sizes) (minus : Bool) (f g to : Format) (mode : Mode) (p c q w : Location) (a b k : ℕ) → IsOperandFormat f
    → f.bits ≡ 8 * a → IsOperandFormat g → g.bits ≡ 8 * b → IsFormat to → to.bits ≡ 8 * k → HasPlaces sizes p a
    → HasPlaces sizes c b → HasPlaces sizes q k → HasPlaces sizes w 40
    → IsTrue (list_all (is_valid_item sizes) (sum_code minus f g to mode p c q w a b k))

abbrev pub NegationsAreValid : Type 0
NegationsAreValid =
    (sizes : Sizes) (f : Format) (mode : Mode) (p q w : Location) (k : ℕ) → IsFormat f → f.bits ≡ 8 * k
    → HasPlaces sizes p k → HasPlaces sizes q k → HasPlaces sizes w 40
    → IsTrue (list_all (is_valid_item sizes) (negate_code f mode p q w k))

-- items refer to no label, and are the place of none
abbrev pub SumsUseNoLabel : Type 0
SumsUseNoLabel =
    (items : List AsmItem) (minus : Bool) (f g to : Format) (mode : Mode) (p c q w : Location) (a b k : ℕ) → 1 ≤ k
    → IsTrue (list_all (λ item. is_placed items (used_label item)) (sum_code minus f g to mode p c q w a b k))

abbrev pub SumsPlaceNoLabel : Type 0
SumsPlaceNoLabel =
    (minus : Bool) (f g to : Format) (mode : Mode) (p c q w : Location) (a b k l : ℕ) → 1 ≤ k
    → count_by (is_label l) (sum_code minus f g to mode p c q w a b k) ≡ 0

abbrev pub NegationsUseNoLabel : Type 0
NegationsUseNoLabel =
    (items : List AsmItem) (f : Format) (mode : Mode) (p q w : Location) (k : ℕ) → 1 ≤ k
    → IsTrue (list_all (λ item. is_placed items (used_label item)) (negate_code f mode p q w k))

abbrev pub NegationsPlaceNoLabel : Type 0
NegationsPlaceNoLabel =
    (f : Format) (mode : Mode) (p q w : Location) (k l : ℕ) → 1 ≤ k
    → count_by (is_label l) (negate_code f mode p q w k) ≡ 0
