-- The steps and words of the code.
use Rattle.std.proofs.Common.{ℕ, zero, suc, ◌+◌, ◌-◌, ◌*◌, ◌≤◌, max, Bool, true, false, [], ◌∷◌, ◌++◌, refl, arith}
use Rattle.std.proofs.lemmas.List.Sums.{sum_by-append}
use Rattle.std.proofs.lemmas.Nat.{mul-le}
use Rattle.ec_isa.specs.declared.instructions.Instr.TheVariants.{Eor, Andi}
use Rattle.ec_fx.specs.declared.formats.Format.{Format}
use Rattle.ec_fx.specs.declared.numbers.Mode.{Mode}
use Rattle.ec_asm.specs.declared.items.AsmItem.TheVariants.{Plain}
use Rattle.ec_asm.specs.declared.pieces.Location.{Location}
use Rattle.ec_asm.specs.declared.pieces.Location.TheVariants.{InRegisters, InMemory}
use Rattle.ec_asm.specs.declared.pieces.Operator.TheVariants.{Difference}
use Rattle.ec_asm.specs.Items.{code_words, item_words}
use Rattle.ec_asm.specs.Pieces.{instruction, copy_byte, copy_code}
use Rattle.ec_select_shifts.specs.Shifts.{turn_code, turn_words, jump_code}
use Rattle.ec_select_shifts.proofs.Words.{turn_has_words}
use Rattle.ec_fxcode.specs.Clamps.{take_byte, put_byte, fills_code}
use Rattle.ec_fxcode.proofs.Short.{IsShort, joined, chained, weaker, take_short, put_short, copy_short, sign_short, clamp_short}
use Rattle.ec_fxcode_shifts.specs.Shifts.{count_row, count_code, mark_code, turned_byte, turned_code, enter_code, leave_code, direction}
use Rattle.ec_fxcode_shifts.specs.Shifts.{width, again_code, turns_code, before_code, after_code}
use Rattle.ec_fxcode_shifts.specs.ShiftLaws.{most_words, ShiftsHave}
use Rattle.ec_fxcode_shifts.proofs.Entered.{format_width}

count_short : (c : Location) (bits : ℕ) → IsShort (count_code c bits) 3 5
count_short c bits =
    joined (copy_code c count_row 1) (Plain (Andi 30 (bits - 1)) ∷ []) 2 1 4 1
    (chained (copy_byte c count_row) 1 2 4 (copy_short c count_row))
    (record { straight = refl; steps_are = omega arith; words_are = omega arith })

pub mark_short : (signed : Bool) (p : Location) (k : ℕ) → IsShort (mark_code signed p k) 3 4
mark_short true p k = sign_short p k
mark_short false p k = record { straight = refl; steps_are = omega arith; words_are = omega arith }

less_short : (i : ℕ) → IsShort (Plain (Eor 0 31) ∷ Plain (instruction Difference i 0 31) ∷ []) 2 2
less_short zero = record { straight = refl; steps_are = omega arith; words_are = omega arith }
less_short (suc i) = record { straight = refl; steps_are = omega arith; words_are = omega arith }

turned_byte_short : (p q : Location) (i : ℕ) → IsShort (turned_byte p q i) 4 6
turned_byte_short p q i =
    joined (take_byte p i) (Plain (Eor 0 31) ∷ Plain (instruction Difference i 0 31) ∷ put_byte 0 q i) 1 3 2 4 (take_short p i)
    (joined (Plain (Eor 0 31) ∷ Plain (instruction Difference i 0 31) ∷ []) (put_byte 0 q i) 2 1 2 2 (less_short i) (put_short 0 q i))

pub turned_short : (p q : Location) (k : ℕ) → IsShort (turned_code p q k) (k * 4) (k * 6)
turned_short p q k = chained (turned_byte p q) k 4 6 (turned_byte_short p q)

enter_short : (left : Bool) (p w : Location) (k : ℕ) → IsShort (enter_code left p w k) (4 * k) (6 * k)
enter_short true p w k =
    weaker (enter_code true p w k) (k * 2 + (2 * k - k) * 1) (4 * k) (k * 4 + (2 * k - k) * 2) (6 * k) (omega arith) (omega arith)
    (joined (copy_code p w k) (fills_code w k (2 * k)) (k * 2) ((2 * k - k) * 1) (k * 4) ((2 * k - k) * 2)
    (chained (copy_byte p w) k 2 4 (copy_short p w)) (chained (λ i. put_byte 31 w (k + i)) (2 * k - k) 1 2 (λ i. put_short 31 w (k + i))))
enter_short false p w k =
    weaker (enter_code false p w k) (k * 4) (4 * k) (k * 6) (6 * k) (omega arith) (omega arith) (turned_short p w k)

pub before_short : (signed left : Bool) (p c w : Location) (k : ℕ)
    → IsShort (before_code signed left p c w k) (3 + (3 + 4 * k)) (5 + (4 + 6 * k))
before_short signed left p c w k =
    joined (count_code c (8 * k)) (mark_code signed p k ++ enter_code left p w k) 3 (3 + 4 * k) 5 (4 + 6 * k) (count_short c (8 * k))
    (joined (mark_code signed p k) (enter_code left p w k) 3 (4 * k) 4 (6 * k) (mark_short signed p k) (enter_short left p w k))

-- ---- words

pub turn_most : (left : Bool) (w : Location) (n : ℕ) → turn_words (direction left) w n ≤ 7 * n
turn_most true (InRegisters r) n = omega arith
turn_most true (InMemory o k) n = omega arith
turn_most false (InRegisters r) n = omega arith
turn_most false (InMemory o k) n = omega arith

turns_words : (left : Bool) (w : Location) (n : ℕ) → code_words (turns_code (direction left) w n) ≤ 4 + 7 * n
turns_words left w n =
    let s = direction left in
    let t = turn_has_words s w n in
    let m = turn_most left w n in
    omega (
      arith,
      sum_by-append item_words (jump_code s w n) (turn_code s w n ++ again_code s w n),
      sum_by-append item_words (turn_code s w n) (again_code s w n),
      t,
      m,
    )

leave_words : (left : Bool) (f : Format) (mode : Mode) (w q : Location) (k : ℕ) → code_words (leave_code left f mode w q k) ≤ 60 + 40 * k
leave_words true f mode w q k = let h = (clamp_short f mode w q (2 * k) k).words_are in omega (arith, h)
leave_words false f mode w q k = let h = (turned_short w q k).words_are in omega (arith, h)

after_words : (left : Bool) (f : Format) (mode : Mode) (w q : Location) (k : ℕ)
    → code_words (after_code left f mode w q k) ≤ 64 + 54 * k
after_words left f mode w q k =
    let n = width left k in
    let a = turns_words left w n in
    let b = leave_words left f mode w q k in
    omega (arith, sum_by-append item_words (turns_code (direction left) w n) (leave_code left f mode w q k), a, b, wide left k)
  where
    wide : (left : Bool) (k : ℕ) → width left k ≤ 2 * k
    wide true k = omega arith
    wide false k = omega arith

-- a number of bytes b that is at least k
pub enough : (k b : ℕ) → 1 ≤ k → k ≤ b → 100 + 40 * k + 40 * k * k ≤ most_words b
enough k b some l =
    let m : k * k ≤ b * b = mul-le k k b b l l in
    omega (arith, m, l)

pub square : (k : ℕ) → 1 ≤ k → k ≤ k * k
square k some = let m : 1 * k ≤ k * k = mul-le 1 k k k some (omega arith) in omega (arith, m)

pub shifts_have : ShiftsHave
shifts_have f g left mode p c q w k m is bits whole wide =
    let wd = format_width f k is bits in
    let a = (before_short f.signed left p c w k).words_are in
    let b = after_words left f mode w q k in
    let s = square k wd.some in
    let t = enough k (max k m) wd.some (omega arith) in
    omega (arith, sum_by-append item_words (before_code f.signed left p c w k) (after_code left f mode w q k), a, b, s, t)
