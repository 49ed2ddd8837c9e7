-- Laws of the code that stops a sum or a difference at the ends of its range.
use Rattle.std.specs.Prelude.{◌≡◌, ℕ, suc, ◌+◌, ◌*◌, ◌≤◌, Bool, true, false, ℤ, ◌+ℤ◌, ◌-ℤ◌, neg_ℤ}
use Rattle.ec_fx.specs.declared.formats.Format.{Format}
use Rattle.ec_fx.specs.declared.numbers.Mode.{Mode}
use Rattle.ec_fx.specs.Formats.{IsFormat}
use Rattle.ec_fx.specs.Results.{fit}
use Rattle.ec_asm.specs.declared.pieces.Location.{Location}
use Rattle.ec_asm.specs.View.{View}
use Rattle.ec_asm.specs.Change.{Env, Own}
use Rattle.ec_asm.specs.Items.{HasAt, code_words}
use Rattle.ec_asm.specs.Pieces.{StandsFrom, value}
use Rattle.ec_asm.specs.PieceLaws.{HoldsNumbers, IsReadFirst}
use Rattle.ec_fxcode.specs.ClampLaws.{HoldsResult, IsClearOfEnds}
use Rattle.ec_fxcode_shifts.specs.ShiftLaws.{number_in}
use Rattle.ec_fxcode_scales.specs.ScaleLaws.{Brings}
use Rattle.ec_fxcode_limits.specs.Limits.{limit_code, limited_code, opposite_code}

-- the exact sum or difference of two numbers
abbrev pub added : (minus : Bool) → ℤ → ℤ → ℤ
added true x y = x -ℤ y
added false x y = x +ℤ y

-- the result as a value of the format, or the nearer end of its range, whatever the bytes of the operands are
abbrev pub LimitedSumsAreRight : Type 0
LimitedSumsAreRight =
    (minus : Bool) (f : Format) (mode : Mode) (e : Env) (c q : Location) (n j o pc end : ℕ) (v : View) → IsFormat f
    → f.bits ≡ 8 * suc n → mode.saturate ≡ true → StandsFrom e c (suc n) j Own → StandsFrom e q (suc n) o Own
    → IsReadFirst j o (suc n) → IsClearOfEnds o (suc n) → HoldsNumbers v → HasAt e (limited_code minus f.signed c q n) pc end
    → Brings e (12 + 6 * n) pc v end o (suc n)
    (HoldsResult (suc n)
    (fit f mode (added minus (number_in f.signed (suc n) (value v.at o (suc n))) (number_in f.signed (suc n) (value v.at j (suc n))))))

abbrev pub LimitsHave : Type 0
LimitsHave = (minus signed : Bool) (q : Location) (n : ℕ) → code_words (limit_code minus signed q n) ≤ 6 + 2 * n

-- the opposite number of one byte with a sign as a value of the format, or the greatest one
abbrev pub OppositesAreRight : Type 0
OppositesAreRight =
    (f : Format) (mode : Mode) (e : Env) (r pc end : ℕ) (v : View) → f.signed ≡ true → f.bits ≡ 8 → mode.saturate ≡ true
    → 2 ≤ r → HoldsNumbers v → HasAt e (opposite_code r) pc end
    → Brings e 3 pc v end r 1 (HoldsResult 1 (fit f mode (neg_ℤ (number_in true 1 (v.at r)))))
