-- The status register SREG after an operation (Microchip AVR Instruction Set Manual, "Status Register and Boolean
-- Formula" of each instruction). Its bits 0 to 7 are C (carry), Z (zero), N (negative), V (overflow of two's
-- complement), S (sign), H (half carry), T (transfer) and I (interrupts). Each flag is 0 or 1, and a flag that is not
-- named stays.
use Rattle.std.specs.Prelude.{ℕ, ◌+◌, ◌-◌, ◌*◌, ◌/◌, ◌%◌, ◌^◌, ◌==◌, nat_lt, not, ◌&&◌}
use Rattle.std.specs.Int.{bit_at, from_bool}

-- a byte with one of its bits set to a value
abbrev pub with_bit : ℕ → ℕ → ℕ → ℕ
with_bit byte n value = byte - bit_at byte n * 2 ^ n + value * 2 ^ n

-- SREG with C, Z, N, V and H. S is N xor V
abbrev pub with_flags : (sreg c z n v h : ℕ) → ℕ
with_flags sreg c z n v h = sreg / 64 * 64 + h * 32 + (n + v) % 2 * 16 + v * 8 + n * 4 + z * 2 + c

-- SREG with C, Z, N and V, where H stays
abbrev pub with_flags_but_half : (sreg c z n v : ℕ) → ℕ
with_flags_but_half sreg c z n v = with_flags sreg c z n v (bit_at sreg 5)

-- SREG with Z, N and V, where H and C stay
abbrev pub with_flags_but_carries : (sreg z n v : ℕ) → ℕ
with_flags_but_carries sreg z n v = with_flags_but_half sreg (bit_at sreg 0) z n v

-- The signed sum overflows: both operands have one sign, and the result has the other. The sign is the top bit, worth
-- `top`
abbrev pub sum_overflow : (top x y r : ℕ) → ℕ
sum_overflow top x y r = from_bool ((x / top == y / top) && not (x / top == r / top))

-- the signed difference x - y overflows: the operands have two signs, and the result has that of y
abbrev pub difference_overflow : (top x y r : ℕ) → ℕ
difference_overflow top x y r = from_bool (not (x / top == y / top) && not (x / top == r / top))

-- x + y + carry on bytes
abbrev pub byte_sum : (x y carry : ℕ) → ℕ
byte_sum x y carry = (x + y + carry) % 256

-- ADD and ADC. C is the carry out of bit 7, and H that out of bit 3
abbrev pub sum_flags : (sreg x y carry : ℕ) → ℕ
sum_flags sreg x y carry =
    let r = byte_sum x y carry in
    with_flags sreg ((x + y + carry) / 256) (from_bool (r == 0)) (r / 128) (sum_overflow 128 x y r)
    ((x % 16 + y % 16 + carry) / 16)

-- x - y - borrow on bytes
abbrev pub byte_difference : (x y borrow : ℕ) → ℕ
byte_difference x y borrow = (x + 256 - (y + borrow)) % 256

-- SUB, CP and NEG with 1 as `zero_before`, and SBC and CPC with the old Z: there Z stays 1 only where it was 1 and the
-- result is 0. C is the borrow out of bit 7, and H that out of bit 3
abbrev pub difference_flags : (sreg x y borrow zero_before : ℕ) → ℕ
difference_flags sreg x y borrow zero_before =
    let r = byte_difference x y borrow in
    with_flags sreg (from_bool (nat_lt x (y + borrow))) (from_bool (r == 0) * zero_before) (r / 128)
    (difference_overflow 128 x y r)
    (from_bool (nat_lt (x % 16) (y % 16 + borrow)))

-- AND, OR and EOR with the result r
abbrev pub logic_flags : (sreg r : ℕ) → ℕ
logic_flags sreg r = with_flags_but_carries sreg (from_bool (r == 0)) (r / 128) 0

-- COM with the result r
abbrev pub complement_flags : (sreg r : ℕ) → ℕ
complement_flags sreg r = with_flags_but_half sreg 1 (from_bool (r == 0)) (r / 128) 0

-- INC and DEC with the result r. V tells that it is the one past the end of the signed numbers
abbrev pub count_flags : (sreg r past : ℕ) → ℕ
count_flags sreg r past = with_flags_but_carries sreg (from_bool (r == 0)) (r / 128) (from_bool (r == past))

-- x shifted to the right, with a new top bit
abbrev pub shifted : (x top : ℕ) → ℕ
shifted x top = x / 2 + 128 * top

-- ASR, LSR and ROR of x. C is the bit that falls out, and V is N xor C
abbrev pub shift_flags : (sreg x top : ℕ) → ℕ
shift_flags sreg x top =
    let r = shifted x top in
    with_flags_but_half sreg (x % 2) (from_bool (r == 0)) (r / 128) ((r / 128 + x % 2) % 2)

-- x + k on two bytes
abbrev pub pair_sum : (x k : ℕ) → ℕ
pair_sum x k = (x + k) % 65536

-- ADIW. C is the carry out of bit 15
abbrev pub pair_sum_flags : (sreg x k : ℕ) → ℕ
pair_sum_flags sreg x k =
    let r = pair_sum x k in
    with_flags_but_half sreg ((x + k) / 65536) (from_bool (r == 0)) (r / 32768) (sum_overflow 32768 x k r)

-- x - k on two bytes
abbrev pub pair_difference : (x k : ℕ) → ℕ
pair_difference x k = (x + 65536 - k) % 65536

-- SBIW. C is the borrow out of bit 15
abbrev pub pair_difference_flags : (sreg x k : ℕ) → ℕ
pair_difference_flags sreg x k =
    let r = pair_difference x k in
    with_flags_but_half sreg (from_bool (nat_lt x k)) (from_bool (r == 0)) (r / 32768) (difference_overflow 32768 x k r)

-- MUL with the product p of two bytes. C is its bit 15
abbrev pub product_flags : (sreg p : ℕ) → ℕ
product_flags sreg p = with_bit (with_bit sreg 0 (p / 32768)) 1 (from_bool (p == 0))
