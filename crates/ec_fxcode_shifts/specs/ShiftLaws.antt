-- Laws of the code of shifts.
use Rattle.std.specs.Prelude.{◌≡◌, ◌≢◌, ℕ, ◌+◌, ◌*◌, ◌<◌, ◌≤◌, max, ◌⊎◌, Bool, true, false, ℤ, pos, List, IsTrue}
use Rattle.std.specs.Prelude.{count_by}
use Rattle.std.specs.List.{list_all}
use Rattle.ec_fx.specs.declared.formats.Format.{Format}
use Rattle.ec_fx.specs.declared.numbers.Fixed.{Fixed}
use Rattle.ec_fx.specs.declared.numbers.Mode.{Mode}
use Rattle.ec_fx.specs.Arithmetic.{shift_of}
use Rattle.ec_fx.specs.Formats.{IsFormat}
use Rattle.ec_asm.specs.declared.items.AsmItem.{AsmItem}
use Rattle.ec_asm.specs.declared.pieces.Location.{Location}
use Rattle.ec_asm.specs.View.{View}
use Rattle.ec_asm.specs.Change.{Env, Own}
use Rattle.ec_asm.specs.Items.{HasAt, code_words}
use Rattle.ec_asm.specs.Pieces.{StandsFrom, Outside, value}
use Rattle.ec_asm.specs.PieceLaws.{HoldsNumbers}
use Rattle.ec_asm.specs.Takes.{Goes}
use Rattle.ec_asm.specs.Valid.{Sizes, is_valid_item, used_label, is_label, is_placed}
use Rattle.ec_fxcode.specs.ClampLaws.{signed_number, HoldsResult, IsClearOfEnds, AreApart, HasPlaces}
use Rattle.ec_fxcode_shifts.specs.Shifts.{shift_code}

-- the format of a whole number of 8, 16 or 32 bits
pub record IsWholeFormat (f : Format) : Type 0 where
  pub whole : f.frac ≡ 0
  pub width : (f.bits ≡ 8) ⊎ ((f.bits ≡ 16) ⊎ (f.bits ≡ 32))

-- the number that n bytes stand for, in two's complement where it has a sign
abbrev pub number_in : (signed : Bool) → (n x : ℕ) → ℤ
number_in true n x = signed_number n x
number_in false n x = pos x

-- the fixed-point value in n bytes
abbrev pub fixed_in : Format → (n x : ℕ) → Fixed
fixed_in f n x = record { format = f; n = number_in f.signed n x }

-- the operand, the count, the result and 40 work bytes stand apart from each other and from R30 and R31
pub record AreSlots (e : Env) (p c q w : Location) (k m a d b s : ℕ) : Type 0 where
  pub operand : StandsFrom e p k a Own
  pub count : StandsFrom e c m d Own
  pub result : StandsFrom e q k b Own
  pub work : StandsFrom e w 40 s Own
  pub clear : IsClearOfEnds a k × IsClearOfEnds d m × IsClearOfEnds b k × IsClearOfEnds s 40
  pub apart : AreApart a k d m × AreApart a k b k × AreApart a k s 40
  pub others : AreApart d m b k × AreApart d m s 40 × AreApart b k s 40

-- a run from one word to another, of at most so many steps, that leaves x shifted by the count in k bytes from b where
-- the count is from 0 to below the bits of x, and keeps all else but 40 work bytes from s, R0, R1, R30, R31 and the
-- flags
pub record Shifts (e : Env) (most pc : ℕ) (v : View) (end b k s : ℕ) (x : Fixed) (count : ℤ) (left : Bool) (mode : Mode)
    : Type 0 where
  pub steps : ℕ
  pub at_most : steps ≤ most
  pub last : View
  pub goes : Goes e steps pc v end last
  pub holds : (c : ℕ) → count ≡ pos c → c < x.format.bits → HoldsResult k (shift_of x c left mode) (value last.at b k)
  pub numbers : HoldsNumbers last
  pub same : (j : ℕ) → j ≢ 0 → j ≢ 1 → j ≢ 30 → j ≢ 31 → Outside b k j → Outside s 40 j → last.at j ≡ v.at j
  pub inputs : last.inputs ≡ v.inputs
  pub safe : last.safe ≡ v.safe
  pub seen : last.seen ≡ v.seen

-- the most words of an operation whose operands and result have at most b bytes
abbrev pub most_words : ℕ → ℕ
most_words b = 100 + 40 * b + 40 * b * b

-- the code shifts, whatever the bytes of the operand and of the count are
abbrev pub ShiftsAreRight : Type 0
ShiftsAreRight =
    (f g : Format) (left : Bool) (mode : Mode) (e : Env) (p c q w : Location) (k m a d b s pc end : ℕ) (v : View)
    → IsFormat f → f.bits ≡ 8 * k → IsWholeFormat g → g.bits ≡ 8 * m → AreSlots e p c q w k m a d b s → HoldsNumbers v
    → HasAt e (shift_code f left mode p c q w k) pc end
    → Shifts e (64 * most_words (max k m)) pc v end b k s (fixed_in f k (value v.at a k))
    (number_in g.signed m (value v.at d m)) left mode

abbrev pub ShiftsHave : Type 0
ShiftsHave =
    (f g : Format) (left : Bool) (mode : Mode) (p c q w : Location) (k m : ℕ) → IsFormat f → f.bits ≡ 8 * k
    → IsWholeFormat g → g.bits ≡ 8 * m → code_words (shift_code f left mode p c q w k) ≤ most_words (max k m)

-- ---- items

-- the fields of all items are in range where those of the bytes are
abbrev pub ShiftsAreValid : Type 0
ShiftsAreValid =
    (sizes : Sizes) (f : Format) (left : Bool) (mode : Mode) (p c q w : Location) (k m : ℕ) → IsFormat f
    → f.bits ≡ 8 * k → 1 ≤ m → HasPlaces sizes p k → HasPlaces sizes c m → HasPlaces sizes q k → HasPlaces sizes w 40
    → IsTrue (list_all (is_valid_item sizes) (shift_code f left mode p c q w k))

-- items refer to no label, and are the place of none
abbrev pub ShiftsUseNoLabel : Type 0
ShiftsUseNoLabel =
    (items : List AsmItem) (f : Format) (left : Bool) (mode : Mode) (p c q w : Location) (k : ℕ) → IsFormat f
    → f.bits ≡ 8 * k
    → IsTrue (list_all (λ item. is_placed items (used_label item)) (shift_code f left mode p c q w k))

abbrev pub ShiftsPlaceNoLabel : Type 0
ShiftsPlaceNoLabel =
    (f : Format) (left : Bool) (mode : Mode) (p c q w : Location) (k l : ℕ) → IsFormat f → f.bits ≡ 8 * k
    → count_by (is_label l) (shift_code f left mode p c q w k) ≡ 0
