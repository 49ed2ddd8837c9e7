-- Pieces of code for a constant, for a test of a number, and for bytes above a number: what they are, and what they
-- do. R0, R1 and R30 are work registers.
use Rattle.std.specs.Prelude.{◌≡◌, ◌≢◌, ℕ, ◌+◌, ◌-◌, ◌*◌, ◌/◌, ◌%◌, ◌^◌, ◌<◌, ◌==◌, nat_le, Bool, true, false}
use Rattle.std.specs.Prelude.{if◌then◌else◌, List, [], ◌∷◌, ◌++◌}
use Rattle.ec_isa.specs.declared.instructions.Instr.TheVariants.{Ldi, Mov, Eor, Add, Sbc, And, Or}
use Rattle.ec_asm.specs.declared.items.AsmItem.{AsmItem}
use Rattle.ec_asm.specs.declared.items.AsmItem.TheVariants.{Plain, LoadObj, StoreObj}
use Rattle.ec_asm.specs.declared.pieces.Location.{Location}
use Rattle.ec_asm.specs.declared.pieces.Location.TheVariants.{InRegisters, InMemory}
use Rattle.ec_asm.specs.View.{View}
use Rattle.ec_asm.specs.Items.{chain}
use Rattle.ec_asm.specs.Pieces.{Outside, Keeps}

-- byte i of a number
abbrev pub byte_of : ℕ → ℕ → ℕ
byte_of number i = number / 256 ^ i % 256

-- ---- constants

-- LDI takes R16 and above; other places get the byte through R30
abbrev pub constant_byte : Location → ℕ → ℕ → List AsmItem
constant_byte (InRegisters r) byte i =
    if nat_le 16 (r + i) then Plain (Ldi (r + i) byte) ∷ [] else Plain (Ldi 30 byte) ∷ Plain (Mov (r + i) 30) ∷ []
constant_byte (InMemory o k) byte i = Plain (Ldi 30 byte) ∷ StoreObj o (k + i) 30 ∷ []

abbrev pub constant_code : Location → ℕ → ℕ → List AsmItem
constant_code p number n = chain (λ i. constant_byte p (byte_of number i) i) n

-- the first i bytes of the number are there, and all is kept but them and R30
pub record ConstantTo (v0 : View) (a number i : ℕ) (v : View) : Type 0 where
  pub there : (j : ℕ) → j < i → v.at (a + j) ≡ byte_of number j
  pub same : (k : ℕ) → k ≢ 30 → Outside a i k → v.at k ≡ v0.at k
  pub work : v0.at 30 < 256 → v.at 30 < 256
  pub flags : v.flags ≡ v0.flags
  pub inputs : v.inputs ≡ v0.inputs
  pub safe : v.safe ≡ v0.safe
  pub seen : v.seen ≡ v0.seen

-- ---- tests: a byte by AND with itself, and several by OR, in R0

abbrev pub byte_test : Location → List AsmItem
byte_test (InRegisters r) = Plain (And (r + 0) (r + 0)) ∷ []
byte_test (InMemory o k) = LoadObj 0 o (k + 0) ∷ Plain (And 0 0) ∷ []

abbrev pub first_byte : Location → List AsmItem
first_byte (InRegisters r) = Plain (Mov 0 (r + 0)) ∷ []
first_byte (InMemory o k) = LoadObj 0 o (k + 0) ∷ []

-- the byte behind byte i
abbrev pub join_byte : Location → ℕ → List AsmItem
join_byte (InRegisters r) i = Plain (Or 0 (r + (1 + i))) ∷ []
join_byte (InMemory o k) i = LoadObj 1 o (k + (1 + i)) ∷ Plain (Or 0 1) ∷ []

abbrev pub join_code : Location → ℕ → List AsmItem
join_code p n = chain (join_byte p) n

abbrev pub test_code : Location → ℕ → List AsmItem
test_code p n =
    if n == 0 then [] else (if n == 1 then byte_test p else first_byte p ++ join_code p (n - 1))

-- ---- bytes above a number

-- the byte of R0 put to byte i
abbrev pub put_byte : Location → ℕ → List AsmItem
put_byte (InRegisters r) i = Plain (Mov (r + i) 0) ∷ []
put_byte (InMemory o k) i = StoreObj o (k + i) 0 ∷ []

-- byte i taken to R0
abbrev pub take_byte : Location → ℕ → List AsmItem
take_byte (InRegisters r) i = Plain (Mov 0 (r + i)) ∷ []
take_byte (InMemory o k) i = LoadObj 0 o (k + i) ∷ []

-- R0 becomes 0, or 255 where the number of m bytes is signed and negative
abbrev pub fill_code : Bool → Location → ℕ → List AsmItem
fill_code true p m = take_byte p (m - 1) ++ (Plain (Add 0 0) ∷ Plain (Sbc 0 0) ∷ [])
fill_code false p m = Plain (Eor 0 0) ∷ []

-- so many bytes from byte m on
abbrev pub puts_code : Location → (m count : ℕ) → List AsmItem
puts_code p m count = chain (λ i. put_byte p (m + i)) count

-- registers from byte m on become 0
abbrev pub clear_byte : (first i : ℕ) → List AsmItem
clear_byte first i = Plain (Eor (first + i) (first + i)) ∷ []

abbrev pub clears_code : (first m count : ℕ) → List AsmItem
clears_code first m count = chain (λ i. clear_byte first (m + i)) count

-- a number of m bytes gets so many bytes more
abbrev pub widen_code : Bool → Location → (m count : ℕ) → List AsmItem
widen_code false (InRegisters r) m count = clears_code r m count
widen_code signed p m count = fill_code signed p m ++ puts_code p m count

-- a number of m bytes gets n bytes
abbrev pub extend_code : Bool → Location → (m n : ℕ) → List AsmItem
extend_code signed p m n = if nat_le n m then [] else widen_code signed p m (n - m)

-- the byte above a number whose highest byte is this
abbrev pub fill_of : Bool → ℕ → ℕ
fill_of true top = 255 * (top / 128)
fill_of false top = 0

-- the first i bytes above m are this byte, and all is kept but them, R0, R1 and the flags
pub record FillsTo (v0 : View) (a byte i : ℕ) (v : View) : Type 0 where
  pub there : (j : ℕ) → j < i → v.at (a + j) ≡ byte
  pub work : v.at 0 ≡ byte
  pub keeps : Keeps v0 v a i
