-- Laws of the code of quotients.
use Rattle.std.specs.Prelude.{◌≡◌, ◌≢◌, ℕ, ◌*◌, ◌≤◌, ◌==◌, max, ◌⊎◌, if◌then◌else◌, List, IsTrue, count_by}
use Rattle.std.specs.List.{list_all}
use Rattle.ec_fx.specs.declared.formats.Format.{Format}
use Rattle.ec_fx.specs.declared.numbers.Mode.{Mode}
use Rattle.ec_fx.specs.declared.numbers.Num.{Num}
use Rattle.ec_fx.specs.declared.numbers.Num.TheVariants.{Whole, Fixed as FixedNum}
use Rattle.ec_fx.specs.declared.numbers.Fx.{Fx}
use Rattle.ec_fx.specs.Arithmetic.{quotient_of}
use Rattle.ec_fx.specs.Formats.{IsFormat}
use Rattle.ec_asm.specs.declared.items.AsmItem.{AsmItem}
use Rattle.ec_asm.specs.declared.pieces.Location.{Location}
use Rattle.ec_asm.specs.View.{View}
use Rattle.ec_asm.specs.Change.{Env, Own}
use Rattle.ec_asm.specs.Items.{HasAt, code_words}
use Rattle.ec_asm.specs.Pieces.{StandsFrom, Outside, value}
use Rattle.ec_asm.specs.PieceLaws.{HoldsNumbers}
use Rattle.ec_asm.specs.Takes.{Goes}
use Rattle.ec_asm.specs.Valid.{Sizes, is_valid_item, used_label, is_label, is_placed}
use Rattle.ec_fxcode.specs.ClampLaws.{HoldsResult, IsClearOfEnds, AreApart, HasPlaces}
use Rattle.ec_fxcode_shifts.specs.ShiftLaws.{IsWholeFormat, number_in, fixed_in, most_words}
use Rattle.ec_fxcode_quotients.specs.Quotients.{divide_code}

-- the format of an operand: one of the twelve, or that of a whole number
abbrev pub IsOperandFormat : Format → Type 0
IsOperandFormat f = IsFormat f ⊎ IsWholeFormat f

-- the operand in n bytes
abbrev pub operand_in : Format → (n x : ℕ) → Num
operand_in f n x = if f.frac == 0 then Whole (number_in f.signed n x) else FixedNum (fixed_in f n x)

-- the number, the divisor, the result and 40 work bytes stand apart from each other and from R30 and R31
pub record AreSlots (e : Env) (p c q w : Location) (a b k i j o s : ℕ) : Type 0 where
  pub number : StandsFrom e p a i Own
  pub divisor : StandsFrom e c b j Own
  pub result : StandsFrom e q k o Own
  pub work : StandsFrom e w 40 s Own
  pub clear : IsClearOfEnds i a × IsClearOfEnds j b × IsClearOfEnds o k × IsClearOfEnds s 40
  pub apart : AreApart i a j b × AreApart i a o k × AreApart i a s 40
  pub others : AreApart j b o k × AreApart j b s 40 × AreApart o k s 40

-- a run from one word to another, of at most so many steps, that leaves a result in k bytes from o where there is one,
-- and keeps all else but 40 work bytes from s, R0, R1, R30, R31 and the flags
pub record Divides (e : Env) (most pc : ℕ) (v : View) (end o k s : ℕ) (answer : Fx) : Type 0 where
  pub steps : ℕ
  pub at_most : steps ≤ most
  pub last : View
  pub goes : Goes e steps pc v end last
  pub holds : HoldsResult k answer (value last.at o k)
  pub numbers : HoldsNumbers last
  pub same : (l : ℕ) → l ≢ 0 → l ≢ 1 → l ≢ 30 → l ≢ 31 → Outside o k l → Outside s 40 l → last.at l ≡ v.at l
  pub inputs : last.inputs ≡ v.inputs
  pub safe : last.safe ≡ v.safe
  pub seen : last.seen ≡ v.seen

-- the code divides, whatever the bytes of the operands are: where the divisor is 0 it ends too
abbrev pub QuotientsAreRight : Type 0
QuotientsAreRight =
    (f g to : Format) (mode : Mode) (e : Env) (p c q w : Location) (a b k i j o s pc end : ℕ) (v : View)
    → IsOperandFormat f → f.bits ≡ 8 * a → IsOperandFormat g → g.bits ≡ 8 * b → IsFormat to → to.bits ≡ 8 * k
    → AreSlots e p c q w a b k i j o s → HoldsNumbers v → HasAt e (divide_code f g to mode p c q w a b k) pc end
    → Divides e (64 * most_words (max a (max b k))) pc v end o k s
    (quotient_of (operand_in f a (value v.at i a)) (operand_in g b (value v.at j b)) to mode)

abbrev pub QuotientsHave : Type 0
QuotientsHave =
    (f g to : Format) (mode : Mode) (p c q w : Location) (a b k : ℕ) → IsOperandFormat f → f.bits ≡ 8 * a
    → IsOperandFormat g → g.bits ≡ 8 * b → IsFormat to → to.bits ≡ 8 * k
    → code_words (divide_code f g to mode p c q w a b k) ≤ most_words (max a (max b k))

-- ---- items

-- the fields of all items are in range where those of the bytes are
abbrev pub QuotientsAreValid : Type 0
QuotientsAreValid =
    (sizes : Sizes) (f g to : Format) (mode : Mode) (p c q w : Location) (a b k : ℕ) → IsOperandFormat f
    → f.bits ≡ 8 * a → IsOperandFormat g → g.bits ≡ 8 * b → IsFormat to → to.bits ≡ 8 * k → HasPlaces sizes p a → HasPlaces sizes c b
    → HasPlaces sizes q k → HasPlaces sizes w 40
    → IsTrue (list_all (is_valid_item sizes) (divide_code f g to mode p c q w a b k))

-- items refer to no label, and are the place of none
abbrev pub QuotientsUseNoLabel : Type 0
QuotientsUseNoLabel =
    (items : List AsmItem) (f g to : Format) (mode : Mode) (p c q w : Location) (a b k : ℕ) → 1 ≤ a → 1 ≤ b → 1 ≤ k
    → IsTrue (list_all (λ item. is_placed items (used_label item)) (divide_code f g to mode p c q w a b k))

abbrev pub QuotientsPlaceNoLabel : Type 0
QuotientsPlaceNoLabel =
    (f g to : Format) (mode : Mode) (p c q w : Location) (a b k l : ℕ) → 1 ≤ a → 1 ≤ b → 1 ≤ k
    → count_by (is_label l) (divide_code f g to mode p c q w a b k) ≡ 0
