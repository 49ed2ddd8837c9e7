-- Code that shifts a fixed-point number by a count that is a number of one or more bytes. The shift is made in work
-- bytes: to the left in twice the bytes of the number, which are brought into its format then; to the right on the
-- magnitude, so that it rounds toward zero. R30 counts the bits, and R31 is 255 where the number is negative. R0, R1,
-- R30 and R31 are work registers.
use Rattle.std.specs.Prelude.{ℕ, ◌+◌, ◌-◌, ◌*◌, Bool, true, false, pos, negsuc, List, [], ◌∷◌, ◌++◌}
use Rattle.ec_isa.specs.declared.instructions.Instr.TheVariants.{Eor, Andi, Dec, Brbs, Rjmp}
use Rattle.ec_fx.specs.declared.formats.Format.{Format}
use Rattle.ec_fx.specs.declared.numbers.Mode.{Mode}
use Rattle.ec_asm.specs.declared.items.AsmItem.{AsmItem}
use Rattle.ec_asm.specs.declared.items.AsmItem.TheVariants.{Plain}
use Rattle.ec_asm.specs.declared.pieces.Location.{Location}
use Rattle.ec_asm.specs.declared.pieces.Location.TheVariants.{InRegisters}
use Rattle.ec_asm.specs.declared.pieces.Operator.TheVariants.{Difference}
use Rattle.ec_asm.specs.Items.{chain}
use Rattle.ec_asm.specs.Pieces.{instruction, copy_code}
use Rattle.ec_select_shifts.specs.declared.shifts.Direction.{Direction}
use Rattle.ec_select_shifts.specs.declared.shifts.Direction.TheVariants.{Left, Right}
use Rattle.ec_select_shifts.specs.Shifts.{turn_code, turn_words, jump_code}
use Rattle.ec_fxcode.specs.Clamps.{take_byte, put_byte, sign_code, fills_code, clamp_code}

-- ---- the count and the sign

abbrev pub count_row : Location
count_row = InRegisters 30

-- R30 becomes the count, modulo the bits of the number, which are a power of two
abbrev pub count_code : Location → (bits : ℕ) → List AsmItem
count_code c bits = copy_code c count_row 1 ++ (Plain (Andi 30 (bits - 1)) ∷ [])

-- R31 becomes 0, or 255 where the number of k bytes is negative
abbrev pub mark_code : (signed : Bool) → Location → ℕ → List AsmItem
mark_code true p k = sign_code p k
mark_code false p k = Plain (Eor 31 31) ∷ []

-- ---- into the work bytes, and out of them

-- byte i of a number to another place; the number is negated where R31 is 255, and copied where it is 0
abbrev pub turned_byte : (p q : Location) → ℕ → List AsmItem
turned_byte p q i = take_byte p i ++ (Plain (Eor 0 31) ∷ Plain (instruction Difference i 0 31) ∷ put_byte 0 q i)

abbrev pub turned_code : (p q : Location) → ℕ → List AsmItem
turned_code p q k = chain (turned_byte p q) k

-- the number with bytes of its sign above it
abbrev pub widened_code : (p w : Location) → ℕ → List AsmItem
widened_code p w k = copy_code p w k ++ fills_code w k (2 * k)

abbrev pub enter_code : (left : Bool) → (p w : Location) → ℕ → List AsmItem
enter_code true p w k = widened_code p w k
enter_code false p w k = turned_code p w k

abbrev pub leave_code : (left : Bool) → Format → Mode → (w q : Location) → ℕ → List AsmItem
leave_code true f mode w q k = clamp_code f mode w q (2 * k) k
leave_code false f mode w q k = turned_code w q k

-- ---- the loop

abbrev pub direction : (left : Bool) → Direction
direction true = Left
direction false = Right false

abbrev pub width : (left : Bool) → ℕ → ℕ
width true k = 2 * k
width false k = k

-- over the jump back where R30 is below 0
abbrev pub again_code : Direction → Location → ℕ → List AsmItem
again_code s w n = Plain (Dec 30) ∷ Plain (Brbs 2 (pos 1)) ∷ Plain (Rjmp (negsuc (turn_words s w n + 2))) ∷ []

-- the number of n bytes is shifted by one bit for as often as R30 tells
abbrev pub turns_code : Direction → Location → ℕ → List AsmItem
turns_code s w n = jump_code s w n ++ (turn_code s w n ++ again_code s w n)

-- ---- the whole code

abbrev pub before_code : (signed left : Bool) → (p c w : Location) → ℕ → List AsmItem
before_code signed left p c w k = count_code c (8 * k) ++ (mark_code signed p k ++ enter_code left p w k)

abbrev pub after_code : (left : Bool) → Format → Mode → (w q : Location) → ℕ → List AsmItem
after_code left f mode w q k = turns_code (direction left) w (width left k) ++ leave_code left f mode w q k

-- the number of k bytes at p, shifted by the count at c, to the k bytes at q, by the work bytes at w
abbrev pub shift_code : Format → (left : Bool) → Mode → (p c q w : Location) → ℕ → List AsmItem
shift_code f left mode p c q w k = before_code f.signed left p c w k ++ after_code left f mode w q k
