-- Code that divides two numbers of formats, of which one is fixed-point at least: long division of the magnitudes, in
-- work bytes, then the sign, and the clamp into the format of the result. The work bytes hold the divisor and the
-- remainder, each with a byte more than the divisor has, and above them the number that is divided, at the top of n
-- bytes: the quotient takes its place bit by bit from below. R30 counts the bits, and R31 is 255 where the result is
-- negative. R0, R1, R30 and R31 are work registers.
use Rattle.std.specs.Prelude.{ℕ, ◌+◌, ◌*◌, pos, negsuc, List, [], ◌∷◌, ◌++◌}
use Rattle.ec_isa.specs.declared.instructions.Instr.TheVariants.{Eor, Dec, Brbs, Rjmp}
use Rattle.ec_fx.specs.declared.formats.Format.{Format}
use Rattle.ec_fx.specs.declared.numbers.Mode.{Mode}
use Rattle.ec_asm.specs.declared.items.AsmItem.{AsmItem}
use Rattle.ec_asm.specs.declared.items.AsmItem.TheVariants.{Plain}
use Rattle.ec_asm.specs.declared.pieces.Location.{Location}
use Rattle.ec_fxcode.specs.Clamps.{fills_code, clamp_code}
use Rattle.ec_fxcode_shifts.specs.Shifts.{turned_code}
use Rattle.std.specs.Prelude.{suc, ◌-◌, ◌/◌, max, Bool}
use Rattle.ec_isa.specs.declared.instructions.Instr.TheVariants.{Adc, Mov, Ldi, Brbc}
use Rattle.ec_asm.specs.declared.pieces.Location.TheVariants.{InRegisters, InMemory}
use Rattle.ec_asm.specs.declared.pieces.Operator.TheVariants.{Sum, Difference}
use Rattle.ec_asm.specs.Items.{chain}
use Rattle.ec_asm.specs.Pieces.{operate_code, compare_code}
use Rattle.ec_select_quotients.specs.Quotients.{mark_code as lowest_code}
use Rattle.ec_fxcode.specs.Clamps.{take_byte, put_byte}
use Rattle.ec_fxcode_shifts.specs.Shifts.{mark_code}

-- the byte above the divisor, the remainder, and the lowest z bytes of the number are 0
abbrev pub clear_code : Location → (b z : ℕ) → List AsmItem
clear_code w b z = Plain (Eor 31 31) ∷ fills_code w b (2 * b + 2 + z)

-- back over so many words where R30 is not below 0
abbrev pub again_code : (words : ℕ) → List AsmItem
again_code words = Plain (Dec 30) ∷ Plain (Brbs 2 (pos 1)) ∷ Plain (Rjmp (negsuc (words + 2))) ∷ []

-- the sign of the quotient of n bytes at x, and the clamp into a format of k bytes at q
abbrev pub finish_code : Format → Mode → (x q : Location) → (n k : ℕ) → List AsmItem
finish_code to mode x q n k = turned_code x x n ++ clamp_code to mode x q n k

-- ---- sizes

-- the bits of the quotient: those of the number of a bytes, scaled to the fraction bits of the divisor and the result
abbrev pub bits_of : (number divisor to : Format) → (a : ℕ) → ℕ
bits_of number divisor to a = 8 * a + (divisor.frac + to.frac) - number.frac

-- the bytes that hold them with a sign
abbrev pub quotient_bytes : (bits : ℕ) → ℕ
quotient_bytes bits = bits / 8 + 1

-- the bytes that the number and the quotient share
abbrev pub number_bytes : (a bits : ℕ) → ℕ
number_bytes a bits = max (a + 1) (quotient_bytes bits)

-- ---- places

abbrev pub further : Location → ℕ → Location
further (InRegisters r) i = InRegisters (r + i)
further (InMemory o k) i = InMemory o (k + i)

-- of a divisor of b bytes at w
abbrev pub remainder_at : Location → (b : ℕ) → Location
remainder_at w b = further w (suc b)

abbrev pub number_at : Location → (b : ℕ) → Location
number_at w b = further w (2 * b + 2)

-- ---- the operands

-- the magnitude of the number, and the byte of its sign in R30
abbrev pub number_code : (signed : Bool) → (p w : Location) → (a b z : ℕ) → List AsmItem
number_code signed p w a b z =
    mark_code signed p a ++ (turned_code p (further w (2 * b + 2 + z)) a ++ (Plain (Mov 30 31) ∷ []))

-- the magnitude of the divisor, the byte of the sign of the result in R31, and the count of bits in R30
abbrev pub divisor_code : (signed : Bool) → (c w : Location) → (b bits : ℕ) → List AsmItem
divisor_code signed c w b bits =
    mark_code signed c b ++ (turned_code c w b ++ (Plain (Eor 31 30) ∷ Plain (Ldi 30 bits) ∷ []))

abbrev pub ready_code : (number divisor : Bool) → (p c w : Location) → (a b z bits : ℕ) → List AsmItem
ready_code number divisor p c w a b z bits =
    clear_code w b z ++ (number_code number p w a b z ++ divisor_code divisor c w b bits)

-- ---- a bit of the quotient

-- the remainder doubled, with C as its lowest bit
abbrev pub rotate_byte : Location → ℕ → List AsmItem
rotate_byte r i = take_byte r i ++ (Plain (Adc 0 0) ∷ put_byte 0 r i)

abbrev pub rotate_code : Location → ℕ → List AsmItem
rotate_code r m = chain (rotate_byte r) m

-- the next bit of the number goes to the remainder, which is compared with the divisor; both have m bytes
abbrev pub bring_code : (d r x : Location) → (m n : ℕ) → List AsmItem
bring_code d r x m n = operate_code Sum x x n ++ (rotate_code r m ++ compare_code d r m)

abbrev pub bring_words : Location → (m n : ℕ) → ℕ
bring_words (InRegisters r) m n = n + 4 * m
bring_words (InMemory o k) m n = 7 * n + 10 * m

-- the divisor is taken from the remainder, and the lowest bit of the quotient, which is 0, becomes 1
abbrev pub take_code : (d r x : Location) → (m : ℕ) → List AsmItem
take_code d r x m = operate_code Difference d r m ++ lowest_code x

abbrev pub take_words : Location → (m : ℕ) → ℕ
take_words (InRegisters r) m = m + 1
take_words (InMemory o k) m = 7 * m + 5

-- over the taking where the remainder is less
abbrev pub skip_code : Location → (m : ℕ) → List AsmItem
skip_code w m = Plain (Brbc 0 (pos 1)) ∷ Plain (Rjmp (pos (take_words w m))) ∷ []

abbrev pub turn_code : Location → (b n : ℕ) → List AsmItem
turn_code w b n =
    bring_code w (remainder_at w b) (number_at w b) (suc b) n
    ++ (skip_code w (suc b) ++ take_code w (remainder_at w b) (number_at w b) (suc b))

abbrev pub turn_words : Location → (b n : ℕ) → ℕ
turn_words w b n = bring_words w (suc b) n + 2 + take_words w (suc b)

-- ---- all bits

-- as many bits as R30 tells
abbrev pub turns_code : Location → (b n : ℕ) → List AsmItem
turns_code w b n = Plain (Rjmp (pos (turn_words w b n))) ∷ (turn_code w b n ++ again_code (turn_words w b n))

-- the division of the numbers in the work bytes, which share n bytes with the quotient of m bytes
abbrev pub solve_code : Format → Mode → (w q : Location) → (b n m k : ℕ) → List AsmItem
solve_code to mode w q b n m k = turns_code w b n ++ finish_code to mode (number_at w b) q m k

-- a division with a quotient of so many bits
abbrev pub quotient_code : (number divisor : Bool) → Format → Mode → (p c q w : Location) → (a b k bits : ℕ)
    → List AsmItem
quotient_code number divisor to mode p c q w a b k bits =
    ready_code number divisor p c w a b (number_bytes a bits - a) bits
    ++ solve_code to mode w q b (number_bytes a bits) (quotient_bytes bits) k

-- the number of a bytes at p, divided by that of b bytes at c, to the k bytes at q, by the work bytes at w
abbrev pub divide_code : (number divisor to : Format) → Mode → (p c q w : Location) → (a b k : ℕ) → List AsmItem
divide_code number divisor to mode p c q w a b k =
    quotient_code number.signed divisor.signed to mode p c q w a b k (bits_of number divisor to a)
