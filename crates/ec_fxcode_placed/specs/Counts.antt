-- Code that shifts a fixed-point number where it stands by a known count: to the left, and without a sign, as an integer;
-- and in two's complement to the right, where 2 ^ k - 1 is added to a negative number before it is shifted by k bits,
-- which rounds toward zero. R0, R1, R30 and R31 are work registers.
use Rattle.std.specs.Prelude.{ℕ, zero, suc, ◌+◌, ◌-◌, ◌*◌, ◌^◌, min, nat_le, nat_lt, Bool, true, false, pos, ◌&&◌}
use Rattle.std.specs.Prelude.{if◌then◌else◌, List, [], ◌∷◌, ◌++◌}
use Rattle.ec_isa.specs.declared.instructions.Instr.{Instr}
use Rattle.ec_isa.specs.declared.instructions.Instr.TheVariants.{Add, Adc, Subi, Sbci, Andi, Eor, Ldi, Sbrs, Rjmp}
use Rattle.ec_asm.specs.declared.items.AsmItem.{AsmItem}
use Rattle.ec_asm.specs.declared.items.AsmItem.TheVariants.{Plain}
use Rattle.ec_asm.specs.declared.pieces.Location.{Location}
use Rattle.ec_asm.specs.declared.pieces.Location.TheVariants.{InRegisters, InMemory}
use Rattle.ec_asm.specs.Items.{chain}
use Rattle.ec_select_shifts.specs.declared.shifts.Direction.TheVariants.{Left, Right}
use Rattle.ec_select_shifts.specs.Shifts.{counted_code}
use Rattle.ec_fxcode.specs.Clamps.{sign_code}
use Rattle.ec_fxcode_placed.specs.Shifts.{rounded_code}

-- ---- the bias in R31

-- R31 is added to the lowest byte, and the carry to each other one, where R0 is 0
abbrev pub biased_by : (i d : ℕ) → Instr
biased_by zero d = Add d 31
biased_by (suc i) d = Adc d 0

abbrev pub biased_byte : (r i : ℕ) → List AsmItem
biased_byte r i = Plain (biased_by i (r + i)) ∷ []

-- R31 becomes 255 where the number in n registers from r on is negative, and 2 ^ k - 1 of that is added to it
abbrev pub bias_code : (r n k : ℕ) → List AsmItem
bias_code r n k =
    sign_code (InRegisters r) n ++ (Plain (Andi 31 (2 ^ k - 1)) ∷ Plain (Eor 0 0) ∷ chain (biased_byte r) n)

-- ---- the bias by bytes that are known, in registers from R16 on

-- byte i of 2 ^ k - 1
abbrev pub mask_byte : (k i : ℕ) → ℕ
mask_byte k i = 2 ^ min 8 (k - 8 * i) - 1

-- the bytes of 256 ^ n less 2 ^ k - 1 are taken away, which adds it
abbrev pub known_bias_by : (k i d : ℕ) → Instr
known_bias_by k zero d = Subi d (256 - mask_byte k zero)
known_bias_by k (suc i) d = Sbci d (255 - mask_byte k (suc i))

abbrev pub known_bias_byte : (r k i : ℕ) → List AsmItem
known_bias_byte r k i = Plain (known_bias_by k i (r + i)) ∷ []

-- 2 ^ k - 1 is added to the number in n registers from r on, over which a jump leads where it is not negative
abbrev pub known_bias_code : (r n k : ℕ) → List AsmItem
known_bias_code r n k = Plain (Sbrs (r + (n - 1)) 7) ∷ Plain (Rjmp (pos n)) ∷ chain (known_bias_byte r k) n

-- ---- the whole code

-- in registers with the bias first, from R16 on by any count and in the others by fewer than 8 bits, and else bit by bit, by
-- the count in R30
abbrev pub takes_known_bias : (r k : ℕ) → Bool
takes_known_bias r k = nat_le 16 r && nat_le 1 k

abbrev pub rounded_by_code : Location → (n k : ℕ) → List AsmItem
rounded_by_code (InRegisters r) n k =
    if takes_known_bias r k then known_bias_code r n k ++ counted_code (Right true) (InRegisters r) n k
    else if nat_lt k 8 then bias_code r n k ++ counted_code (Right true) (InRegisters r) n k
    else Plain (Ldi 30 k) ∷ rounded_code (InRegisters r) n
rounded_by_code (InMemory o j) n k = Plain (Ldi 30 k) ∷ rounded_code (InMemory o j) n

abbrev pub placed_by_code : (left signed : Bool) → Location → (n k : ℕ) → List AsmItem
placed_by_code true signed p n k = counted_code Left p n k
placed_by_code false true p n k = rounded_by_code p n k
placed_by_code false false p n k = counted_code (Right false) p n k
