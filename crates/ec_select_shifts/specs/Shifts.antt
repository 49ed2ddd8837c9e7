-- A number of several bytes shifted by the count in R30: the code, and what it makes of the number.
use Rattle.std.specs.Prelude.{ℕ, suc, ◌+◌, ◌-◌, ◌*◌, ◌/◌, ◌%◌, ◌^◌, ◌==◌, nat_le, nat_lt, Bool, true, false, ◌&&◌, if◌then◌else◌}
use Rattle.std.specs.Prelude.{pos, negsuc, List, [], ◌∷◌, ◌++◌}
use Rattle.ec_isa.specs.declared.instructions.Instr.TheVariants.{Rjmp, Dec, Brbc, Ldi, Mov, Eor, Add, Adc, Sbc, Ror}
use Rattle.ec_asm.specs.declared.items.AsmItem.{AsmItem}
use Rattle.ec_asm.specs.declared.items.AsmItem.TheVariants.{Plain}
use Rattle.ec_asm.specs.declared.pieces.Location.{Location}
use Rattle.ec_asm.specs.declared.pieces.Location.TheVariants.{InRegisters, InMemory}
use Rattle.ec_asm.specs.declared.pieces.Operator.TheVariants.{Sum}
use Rattle.ec_asm.specs.Items.{chain}
use Rattle.ec_asm.specs.Pieces.{operate_code, halve_code}
use Rattle.ec_select_shifts.specs.declared.shifts.Direction.{Direction}
use Rattle.ec_select_shifts.specs.declared.shifts.Direction.TheVariants.{Left, Right}

-- ---- meaning

-- a number of n bytes shifted by k bits: to the left, modulo 256 ^ n; to the right, rounded down, where a signed number
-- with its top bit set stands for itself less 256 ^ n
abbrev pub shifted_by : Direction → (n x k : ℕ) → ℕ
shifted_by Left n x k = x * 2 ^ k % 256 ^ n
shifted_by (Right false) n x k = x / 2 ^ k
shifted_by (Right true) n x k =
    if nat_le (256 ^ n) (2 * x) then 256 ^ n - 1 - (256 ^ n - 1 - x) / 2 ^ k else x / 2 ^ k

-- ---- code

-- one bit: the sum of the number with itself, or its half
abbrev pub turn_code : Direction → Location → ℕ → List AsmItem
turn_code Left p n = operate_code Sum p p n
turn_code (Right signed) p n = halve_code signed p n

abbrev pub turn_words : Direction → Location → ℕ → ℕ
turn_words s (InRegisters r) n = 1 * n
turn_words Left (InMemory o k) n = 7 * n
turn_words (Right signed) (InMemory o k) n = 5 * n

-- over the first turn, to where R30 is counted down
abbrev pub jump_code : Direction → Location → ℕ → List AsmItem
jump_code s p n = Plain (Rjmp (pos (turn_words s p n))) ∷ []

-- back to the turn as long as R30 is not below 0
abbrev pub end_code : Direction → Location → ℕ → List AsmItem
end_code s p n = Plain (Dec 30) ∷ Plain (Brbc 2 (negsuc (turn_words s p n + 1))) ∷ []

abbrev pub shift_code : Direction → Location → ℕ → List AsmItem
shift_code s p n = jump_code s p n ++ (turn_code s p n ++ end_code s p n)

-- ---- code for a count that is known

-- so many turns, one after another
abbrev pub turns_code : Direction → Location → (n k : ℕ) → List AsmItem
turns_code s p n k = chain (λ i. turn_code s p n) k

-- how many words they may have: as many as the loop, and in registers, where a turn is short, twice as many
abbrev pub most_turn_words : Direction → Location → ℕ → ℕ
most_turn_words s (InRegisters r) n = 2 * (turn_words s (InRegisters r) n + 4)
most_turn_words s (InMemory o k) n = turn_words s (InMemory o k) n + 4

-- these where they have no more words than that, and else the loop with the count in R30
abbrev pub bits_code : Direction → Location → (n k : ℕ) → List AsmItem
bits_code s p n k =
    if nat_le (k * turn_words s p n) (most_turn_words s p n) then turns_code s p n k else Plain (Ldi 30 k) ∷ shift_code s p n

-- ---- by whole bytes, in registers from r on

-- R0 becomes the sign of a number of n bytes in all its bits
abbrev pub sign_code : Direction → (r n : ℕ) → List AsmItem
sign_code (Right true) r n = Plain (Mov 0 (r + (n - 1))) ∷ Plain (Add 0 0) ∷ Plain (Sbc 0 0) ∷ []
sign_code s r n = []

-- a byte into which none moves
abbrev pub filled_byte : Direction → ℕ → List AsmItem
filled_byte (Right true) d = Plain (Mov d 0) ∷ []
filled_byte s d = Plain (Eor d d) ∷ []

-- byte j of n moves q bytes up, or down
abbrev pub raised_byte : (r q j : ℕ) → List AsmItem
raised_byte r q j = if nat_le q j then Plain (Mov (r + j) (r + (j - q))) ∷ [] else filled_byte Left (r + j)

abbrev pub lowered_byte : (signed : Bool) → (r n q j : ℕ) → List AsmItem
lowered_byte signed r n q j =
    if nat_lt (q + j) n then Plain (Mov (r + j) (r + (q + j))) ∷ [] else filled_byte (Right signed) (r + j)

-- up from the highest byte on, and down from the lowest
abbrev pub moved_byte : Direction → (r n q i : ℕ) → List AsmItem
moved_byte Left r n q i = raised_byte r q (n - 1 - i)
moved_byte (Right signed) r n q i = lowered_byte signed r n q i

abbrev pub moved_code : Direction → (r n q : ℕ) → List AsmItem
moved_code s r n q = sign_code s r n ++ chain (moved_byte s r n q) n

-- where the bytes begin that have moved
abbrev pub first_moved : Direction → (r q : ℕ) → ℕ
first_moved Left r q = r + q
first_moved (Right signed) r q = r

-- by q bytes, and those that have moved by k bits
abbrev pub bytes_code : Direction → (r n q k : ℕ) → List AsmItem
bytes_code s r n q k = moved_code s r n q ++ bits_code s (InRegisters (first_moved s r q)) (n - q) k

-- ---- by whole bytes and seven bits, in registers from r on

-- the bytes that move go one bit the other way, and the bit that leaves them is the carry
abbrev pub against_code : Direction → (r q m : ℕ) → List AsmItem
against_code Left r q m = turn_code (Right false) (InRegisters r) m
against_code (Right signed) r q m = turn_code Left (InRegisters (r + q)) m

-- byte i of n comes q bytes further, and the carry stays: a byte into which none moves has it in all its bits where the sign
-- comes in, and is else 0
abbrev pub carried_byte : Direction → (r n q i : ℕ) → List AsmItem
carried_byte Left r n q i = moved_byte Left r n q i
carried_byte (Right false) r n q i = moved_byte (Right false) r n q i
carried_byte (Right true) r n q i =
    if nat_lt (q + i) n then Plain (Mov (r + i) (r + (q + i))) ∷ [] else Plain (Sbc (r + i) (r + i)) ∷ []

-- the carry comes into the byte beside those that have moved
abbrev pub carry_code : Direction → (r q m : ℕ) → List AsmItem
carry_code Left r q m = Plain (Ror (r + q)) ∷ []
carry_code (Right false) r q m = Plain (Adc (r + (m - 1)) (r + (m - 1))) ∷ []
carry_code (Right true) r q m = []

-- by q bytes and seven bits: one bit the other way, and one byte more
abbrev pub carried_code : Direction → (r n q : ℕ) → List AsmItem
carried_code s r n q = against_code s r q (n - q) ++ (chain (carried_byte s r n (suc q)) n ++ carry_code s r q (n - q))

-- ---- the whole code

-- whether a shift moves some whole bytes of n, and not all of them
abbrev pub moves_bytes : (n k : ℕ) → Bool
moves_bytes n k = nat_le 8 k && nat_lt (k / 8) n

-- whether it leaves some bytes of n, and moves them by seven bits
abbrev pub takes_carry : (n k : ℕ) → Bool
takes_carry n k = nat_lt (k / 8) n && k % 8 == 7

abbrev pub counted_code : Direction → Location → (n k : ℕ) → List AsmItem
counted_code s (InRegisters r) n k =
    if takes_carry n k then carried_code s r n (k / 8)
    else if moves_bytes n k then bytes_code s r n (k / 8) (k % 8)
    else bits_code s (InRegisters r) n k
counted_code s (InMemory o j) n k = bits_code s (InMemory o j) n k
