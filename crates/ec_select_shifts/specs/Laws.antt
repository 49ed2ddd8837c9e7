-- Laws of the code of shifts.
use Rattle.std.specs.Prelude.{◌≡◌, ◌≢◌, ℕ, suc, ◌+◌, ◌*◌, ◌<◌, ◌≤◌}
use Rattle.ec_asm.specs.declared.pieces.Location.{Location}
use Rattle.ec_asm.specs.View.{View}
use Rattle.ec_asm.specs.Change.{Env, Own}
use Rattle.ec_asm.specs.Items.{HasAt, code_words}
use Rattle.ec_asm.specs.Pieces.{StandsFrom, Outside, value}
use Rattle.ec_asm.specs.PieceLaws.{HoldsNumbers}
use Rattle.ec_asm.specs.Takes.{Goes}
use Rattle.ec_select_shifts.specs.declared.shifts.Direction.{Direction}
use Rattle.ec_select_shifts.specs.Shifts.{shifted_by, turn_words, shift_code, counted_code}

-- a run from one word to another, of at most so many steps, that leaves a number in n bytes from an address, and keeps
-- all else but R0, R1, R30 and the flags
pub record Leads (e : Env) (most pc : ℕ) (v : View) (end a n number : ℕ) : Type 0 where
  pub steps : ℕ
  pub at_most : steps ≤ most
  pub last : View
  pub goes : Goes e steps pc v end last
  pub number_is : value last.at a n ≡ number
  pub numbers : HoldsNumbers last
  pub same : (k : ℕ) → k ≢ 0 → k ≢ 1 → k ≢ 30 → Outside a n k → last.at k ≡ v.at k
  pub inputs : last.inputs ≡ v.inputs
  pub safe : last.safe ≡ v.safe
  pub seen : last.seen ≡ v.seen

abbrev pub ShiftsAreRight : Type 0
ShiftsAreRight =
    (s : Direction) (e : Env) (p : Location) (n a pc end : ℕ) (v : View) → StandsFrom e p (suc n) a Own
    → Outside a (suc n) 30 → HoldsNumbers v → v.at 30 < 128 → HasAt e (shift_code s p (suc n)) pc end
    → Leads e (3 + v.at 30 * (2 + 4 * suc n)) pc v end a (suc n)
    (shifted_by s (suc n) (value v.at a (suc n)) (v.at 30))

-- the same by a count that is known
abbrev pub CountedShiftsAreRight : Type 0
CountedShiftsAreRight =
    (s : Direction) (e : Env) (p : Location) (n a k pc end : ℕ) (v : View) → StandsFrom e p (suc n) a Own
    → Outside a (suc n) 30 → HoldsNumbers v → k < 128 → HasAt e (counted_code s p (suc n) k) pc end
    → Leads e (4 + k * (2 + 4 * suc n)) pc v end a (suc n) (shifted_by s (suc n) (value v.at a (suc n)) k)

abbrev pub CountedShiftsHaveWords : Type 0
CountedShiftsHaveWords = (s : Direction) (p : Location) (n k : ℕ) → code_words (counted_code s p n k) ≤ 7 * n + 7

abbrev pub ShiftsHaveWords : Type 0
ShiftsHaveWords = (s : Direction) (p : Location) (n : ℕ) → code_words (shift_code s p n) ≡ 3 + turn_words s p n
