-- Code that stops a sum or a difference at the ends of its range. It stands right behind the addition or subtraction of
-- the bytes, whose flags tell whether the result is out of range: V in two's complement, and C without a sign. There
-- the nearer end of the range takes the place of the result, made in the register of its highest byte from R16 on, or
-- else in R31.
use Rattle.std.specs.Prelude.{ℕ, suc, ◌+◌, ◌*◌, nat_le, Bool, true, false, if◌then◌else◌, pos, List, [], ◌∷◌, ◌++◌}
use Rattle.ec_isa.specs.declared.instructions.Instr.TheVariants.{Sbc, Com, Ldi, Neg, Subi, Brbc}
use Rattle.ec_asm.specs.declared.items.AsmItem.{AsmItem}
use Rattle.ec_asm.specs.declared.items.AsmItem.TheVariants.{Plain}
use Rattle.ec_asm.specs.declared.pieces.Location.{Location}
use Rattle.ec_asm.specs.declared.pieces.Location.TheVariants.{InRegisters, InMemory}
use Rattle.ec_asm.specs.declared.pieces.Operator.{Operator}
use Rattle.ec_asm.specs.declared.pieces.Operator.TheVariants.{Sum, Difference}
use Rattle.ec_asm.specs.Items.{chain}
use Rattle.ec_asm.specs.Pieces.{operate_code}
use Rattle.ec_fxcode.specs.Clamps.{put_byte}

-- the flag that is 1 where the result is out of range
abbrev pub past_flag : (signed : Bool) → ℕ
past_flag true = 3
past_flag false = 0

-- a register becomes the bytes of the nearer end below its highest byte, 255 or 0. Out of range of two's complement C is
-- 1 where a sum is less than the least number, and where a difference is more than the greatest
abbrev pub fill_code : (register : ℕ) → (minus signed : Bool) → List AsmItem
fill_code s false true = Plain (Sbc s s) ∷ Plain (Com s) ∷ []
fill_code s true true = Plain (Sbc s s) ∷ []
fill_code s false false = Plain (Ldi s 255) ∷ []
fill_code s true false = Plain (Ldi s 0) ∷ []

abbrev pub fill_words : (minus signed : Bool) → ℕ
fill_words false true = 2
fill_words true true = 1
fill_words minus false = 1

-- those bytes are put to the place
abbrev pub low_code : (register : ℕ) → Location → (n : ℕ) → List AsmItem
low_code s q n = chain (λ i. put_byte s q i) n

-- the words that put a byte to a place
abbrev pub byte_words : Location → ℕ
byte_words (InRegisters r) = 1
byte_words (InMemory o k) = 2

-- then the register becomes the highest byte: in two's complement 127 above bytes of 255, and 128 above 0
abbrev pub top_code : (register : ℕ) → (signed : Bool) → List AsmItem
top_code s true = Plain (Subi s 128) ∷ []
top_code s false = []

abbrev pub top_words : (signed : Bool) → ℕ
top_words true = 1
top_words false = 0

-- the end of the range in suc n bytes, all but the highest at the place, and that one in the register
abbrev pub made_code : (register : ℕ) → (minus signed : Bool) → Location → (n : ℕ) → List AsmItem
made_code s minus signed q n = fill_code s minus signed ++ (low_code s q n ++ top_code s signed)

abbrev pub made_words : (minus signed : Bool) → Location → (n : ℕ) → ℕ
made_words minus signed q n = fill_words minus signed + (byte_words q * n + top_words signed)

-- it is made through R31
abbrev pub aside_code : (minus signed : Bool) → Location → (n : ℕ) → List AsmItem
aside_code minus signed q n = made_code 31 minus signed q n ++ put_byte 31 q n

abbrev pub aside_words : (minus signed : Bool) → Location → (n : ℕ) → ℕ
aside_words minus signed q n = made_words minus signed q n + byte_words q

-- but in the register of its highest byte where an immediate reaches that one
abbrev pub end_code : (minus signed : Bool) → Location → (n : ℕ) → List AsmItem
end_code minus signed (InRegisters r) n =
    if nat_le 16 (r + n) then made_code (r + n) minus signed (InRegisters r) n else aside_code minus signed (InRegisters r) n
end_code minus signed (InMemory o k) n = aside_code minus signed (InMemory o k) n

abbrev pub end_words : (minus signed : Bool) → Location → (n : ℕ) → ℕ
end_words minus signed (InRegisters r) n =
    if nat_le 16 (r + n) then made_words minus signed (InRegisters r) n else aside_words minus signed (InRegisters r) n
end_words minus signed (InMemory o k) n = aside_words minus signed (InMemory o k) n

-- it is passed over in range
abbrev pub limit_code : (minus signed : Bool) → Location → (n : ℕ) → List AsmItem
limit_code minus signed q n = Plain (Brbc (past_flag signed) (pos (end_words minus signed q n))) ∷ end_code minus signed q n

-- ---- behind a sum or a difference

abbrev pub operator_of : (minus : Bool) → Operator
operator_of true = Difference
operator_of false = Sum

-- the suc n bytes at q plus, or minus, those at c
abbrev pub limited_code : (minus signed : Bool) → (c q : Location) → (n : ℕ) → List AsmItem
limited_code minus signed c q n = operate_code (operator_of minus) c q (suc n) ++ limit_code minus signed q n

-- ---- a negation of one byte in a register

-- -128 stays itself, and V tells so; its complement is the greatest number
abbrev pub opposite_code : (r : ℕ) → List AsmItem
opposite_code r = Plain (Neg r) ∷ Plain (Brbc 3 (pos 1)) ∷ Plain (Com r) ∷ []
