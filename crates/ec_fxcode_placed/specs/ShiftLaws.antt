-- Laws of the code that shifts a fixed-point number where it stands.
use Rattle.std.specs.Prelude.{◌≡◌, ℕ, suc, ◌+◌, ◌*◌, ◌<◌, ◌≤◌, Bool, true, false}
use Rattle.ec_fx.specs.declared.formats.Format.{Format}
use Rattle.ec_fx.specs.declared.numbers.Mode.{Mode}
use Rattle.ec_fx.specs.Arithmetic.{shift_of}
use Rattle.ec_fx.specs.Formats.{IsFormat}
use Rattle.ec_asm.specs.declared.pieces.Location.{Location}
use Rattle.ec_asm.specs.View.{View}
use Rattle.ec_asm.specs.Change.{Env, Own}
use Rattle.ec_asm.specs.Items.{HasAt, code_words}
use Rattle.ec_asm.specs.Pieces.{StandsFrom, value}
use Rattle.ec_asm.specs.PieceLaws.{HoldsNumbers}
use Rattle.ec_fxcode.specs.ClampLaws.{HoldsResult, IsClearOfEnds}
use Rattle.ec_fxcode_shifts.specs.ShiftLaws.{fixed_in}
use Rattle.ec_fxcode_scales.specs.ScaleLaws.{Brings}
use Rattle.ec_fxcode_placed.specs.Shifts.{placed_code}
use Rattle.ec_fxcode_placed.specs.Counts.{placed_by_code}

-- the number times two to the power of the count, or divided by it and rounded toward zero, as a value of its format. To
-- the left the mode does not saturate
abbrev pub PlacedShiftsAreRight : Type 0
PlacedShiftsAreRight =
    (left : Bool) (f : Format) (mode : Mode) (e : Env) (p : Location) (n a pc end : ℕ) (v : View) → IsFormat f
    → f.bits ≡ 8 * suc n → (left ≡ true → mode.saturate ≡ false) → StandsFrom e p (suc n) a Own
    → IsClearOfEnds a (suc n) → HoldsNumbers v → v.at 30 < f.bits → HasAt e (placed_code left f.signed p (suc n)) pc end
    → Brings e (3 + v.at 30 * (6 + 6 * suc n)) pc v end a (suc n)
    (HoldsResult (suc n) (shift_of (fixed_in f (suc n) (value v.at a (suc n))) (v.at 30) left mode))

abbrev pub PlacedShiftsHave : Type 0
PlacedShiftsHave = (left signed : Bool) (p : Location) (n : ℕ) → code_words (placed_code left signed p n) ≤ 8 + 10 * n

-- the same by a known count
abbrev pub PlacedCountsAreRight : Type 0
PlacedCountsAreRight =
    (left : Bool) (f : Format) (mode : Mode) (e : Env) (p : Location) (n a k pc end : ℕ) (v : View) → IsFormat f
    → f.bits ≡ 8 * suc n → (left ≡ true → mode.saturate ≡ false) → StandsFrom e p (suc n) a Own
    → IsClearOfEnds a (suc n) → HoldsNumbers v → k < f.bits → HasAt e (placed_by_code left f.signed p (suc n) k) pc end
    → Brings e (9 + suc n + k * (6 + 6 * suc n)) pc v end a (suc n)
    (HoldsResult (suc n) (shift_of (fixed_in f (suc n) (value v.at a (suc n))) k left mode))

abbrev pub PlacedCountsHave : Type 0
PlacedCountsHave =
    (left signed : Bool) (p : Location) (n k : ℕ) → code_words (placed_by_code left signed p n k) ≤ 12 + 10 * n
