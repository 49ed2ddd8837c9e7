-- Laws of the code that brings a number from one number of bits behind the point to another.
use Rattle.std.specs.Prelude.{◌≡◌, ◌≢◌, ℕ, ◌+◌, ◌*◌, ◌^◌, ◌%◌, ◌≤◌, ◌⊎◌, Bool, true, ℤ, pos, ◌*ℤ◌, Some}
use Rattle.ec_fx.specs.Conversions.{held}
use Rattle.ec_fx.specs.Rounding.{trunc}
use Rattle.ec_asm.specs.declared.pieces.Location.{Location}
use Rattle.ec_asm.specs.View.{View}
use Rattle.ec_asm.specs.Change.{Env, Own}
use Rattle.ec_asm.specs.Items.{HasAt, code_words}
use Rattle.ec_asm.specs.Pieces.{StandsFrom, Outside, value}
use Rattle.ec_asm.specs.PieceLaws.{HoldsNumbers}
use Rattle.ec_asm.specs.Takes.{Goes}
use Rattle.ec_fxcode.specs.ClampLaws.{in_bytes, IsClearOfEnds, AreApart}
use Rattle.ec_fxcode_shifts.specs.ShiftLaws.{number_in}
use Rattle.ec_fxcode_formats.specs.Cuts.{bytes_below, cut_code}
use Rattle.ec_fxcode_formats.specs.Brought.{can_bring, bring_code}

-- a run from one word to another, of at most so many steps, that leaves a number in n bytes from b of which something
-- holds, and keeps all else but R0, R1, R8 to R13, R31 and the flags
pub record Carries (e : Env) (most pc : ℕ) (v : View) (end b n : ℕ) (Holds : ℕ → Type 0) : Type 0 where
  pub steps : ℕ
  pub at_most : steps ≤ most
  pub last : View
  pub goes : Goes e steps pc v end last
  pub holds : Holds (value last.at b n)
  pub numbers : HoldsNumbers last
  pub same : (j : ℕ) → j ≢ 0 → j ≢ 1 → j ≢ 31 → Outside 8 6 j → Outside b n j → last.at j ≡ v.at j
  pub inputs : last.inputs ≡ v.inputs
  pub safe : last.safe ≡ v.safe
  pub seen : last.seen ≡ v.seen

-- n bytes hold an exact number where it is one of so many bytes, with or without a sign
abbrev pub HoldsExact : (n : ℕ) → ℤ → ℕ → Type 0
HoldsExact n exact number = (signed : Bool) (i : ℤ) → held signed (8 * n) exact ≡ Some i → number ≡ in_bytes n i

-- whole bytes are dropped, or 7 bits more
abbrev pub IsCut : ℕ → Type 0
IsCut d = (d % 8 ≡ 0) ⊎ (d % 8 ≡ 7)

-- the number over two to the power of d, rounded toward zero, whatever its bytes are
abbrev pub CutsAreRight : Type 0
CutsAreRight =
    (signed : Bool) (e : Env) (p q : Location) (m n d a b pc end : ℕ) (v : View) → IsCut d → 1 ≤ m → m ≤ 6
    → 1 ≤ n → bytes_below d + n ≤ 6 → StandsFrom e p m a Own → StandsFrom e q n b Own → AreApart a m 8 6 → AreApart b n 8 6
    → IsClearOfEnds a m → IsClearOfEnds b n → HoldsNumbers v → HasAt e (cut_code signed p q m n d) pc end
    → Carries e 100 pc v end b n (HoldsExact n (trunc (number_in signed m (value v.at a m)) (2 ^ d)))

abbrev pub CutsHave : Type 0
CutsHave =
    (signed : Bool) (p q : Location) (m n d : ℕ) → bytes_below d + n ≤ 6
    → code_words (cut_code signed p q m n d) ≤ 17 + 6 * m + 7 * n

-- the number with f bits behind the point in units of 2 to the power of -r, rounded toward zero, where there is code
abbrev pub NumbersAreBrought : Type 0
NumbersAreBrought =
    (signed : Bool) (e : Env) (p q : Location) (m n f r a b pc end : ℕ) (v : View) → can_bring m n f r ≡ true → 1 ≤ m
    → 1 ≤ n → StandsFrom e p m a Own → StandsFrom e q n b Own → AreApart a m 8 6 → AreApart b n 8 6
    → IsClearOfEnds a m → IsClearOfEnds b n → HoldsNumbers v → HasAt e (bring_code signed p q m n f r) pc end
    → Carries e (100 + 2 * n) pc v end b n
    (HoldsExact n (trunc (number_in signed m (value v.at a m) *ℤ pos (2 ^ r)) (2 ^ f)))

abbrev pub BroughtHave : Type 0
BroughtHave =
    (signed : Bool) (p q : Location) (m n f r : ℕ) → can_bring m n f r ≡ true
    → code_words (bring_code signed p q m n f r) ≤ 24 + 6 * m + 7 * n
