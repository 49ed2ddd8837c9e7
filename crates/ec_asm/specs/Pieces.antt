-- Pieces of code for numbers of several bytes, in registers or in memory: a byte of a copy, of an operator and of a
-- comparison, and what they do. All bytes are taken from the lowest one up.
use Rattle.std.specs.Prelude.{◌≡◌, ◌≢◌, ℕ, zero, suc, ◌+◌, ◌-◌, ◌*◌, ◌/◌, ◌^◌, ◌<◌, ◌≤◌, ◌==◌, Bool, true, false, List}
use Rattle.std.specs.Prelude.{[], ◌∷◌, ◌++◌, bit_and, bit_or, bit_xor, nat_lt}
use Rattle.std.specs.Int.{from_bool}
use Rattle.ec_space.specs.declared.space.Bank.TheVariants.{Data as DataBank}
use Rattle.ec_isa.specs.declared.instructions.Instr.{Instr}
use Rattle.ec_isa.specs.declared.instructions.Instr.TheVariants.{Add, Adc, Sub, Sbc, And, Or, Eor, Mov, Asr, Lsr}
use Rattle.ec_isa.specs.declared.instructions.Instr.TheVariants.{Ror}
use Rattle.ec_avr.specs.declared.machine.Access.{Access}
use Rattle.ec_avr.specs.declared.machine.Access.TheVariants.{Read, Write}
use Rattle.ec_asm.specs.declared.items.AsmItem.{AsmItem}
use Rattle.ec_asm.specs.declared.items.AsmItem.TheVariants.{Plain, LoadObj, StoreObj}
use Rattle.ec_asm.specs.declared.pieces.Location.{Location}
use Rattle.ec_asm.specs.declared.pieces.Location.TheVariants.{InRegisters, InMemory}
use Rattle.ec_asm.specs.declared.pieces.Operator.{Operator}
use Rattle.ec_asm.specs.declared.pieces.Operator.TheVariants.{Sum, Difference, BitAnd, BitOr, BitXor}
use Rattle.ec_asm.specs.View.{Flags, View}
use Rattle.ec_avr.specs.Flags.{byte_difference}
use Rattle.ec_asm.specs.Change.{Env, Kind, Own, Object, change, goes_on, set_both, difference_flags}
use Rattle.ec_asm.specs.Items.{chain}
pub use Rattle.ec_asm.specs.Bytes.{compares}

-- ---- locations

-- the registers and offsets of so many bytes have numbers
abbrev pub HasBytes : Location → ℕ → Type 0
HasBytes (InRegisters r) n = r + n ≤ 32
HasBytes (InMemory o k) n = k + n ≤ 0x1_0000_0000

-- so has that of one byte
abbrev pub HasByte : Location → ℕ → Type 0
HasByte (InRegisters r) i = r + i < 32
HasByte (InMemory o k) i = k + i < 0x1_0000_0000

-- the data address of a byte
abbrev pub address : Env → Location → ℕ → ℕ
address e (InRegisters r) i = r + i
address e (InMemory o k) i = e.address_of o (k + i)

-- what stands at a byte's address: a register is code's own
abbrev pub KindIs : Env → Location → ℕ → Kind → Type 0
KindIs e (InRegisters r) a k = k ≡ Own
KindIs e (InMemory o j) a k = e.kind a ≡ k

-- n bytes stand from this address on, all code's own or all an object's. R0 and R1 are the work registers, and hold no
-- number
pub record StandsFrom (e : Env) (p : Location) (n base : ℕ) (k : Kind) : Type 0 where
  pub at : (i : ℕ) → i < n → address e p i ≡ base + i
  pub kind : (i : ℕ) → i < n → KindIs e p (base + i) k
  pub clear : 2 ≤ base

-- ---- copies

abbrev pub copy_byte : Location → Location → ℕ → List AsmItem
copy_byte (InRegisters a) (InRegisters b) i = Plain (Mov (b + i) (a + i)) ∷ []
copy_byte (InMemory o k) (InRegisters b) i = LoadObj (b + i) o (k + i) ∷ []
copy_byte (InRegisters a) (InMemory o k) i = StoreObj o (k + i) (a + i) ∷ []
copy_byte (InMemory o k) (InMemory p j) i = LoadObj 0 o (k + i) ∷ StoreObj p (j + i) 0 ∷ []

abbrev pub read_of : Kind → (a x : ℕ) → List Access
read_of Object a x = Read DataBank a x ∷ []
read_of _ a x = []

abbrev pub write_of : Kind → (a x : ℕ) → List Access
write_of Object a x = Write a x ∷ []
write_of _ a x = []

-- one byte was copied from address a to address b
pub record Copies (v w : View) (a b : ℕ) (ka kb : Kind) : Type 0 where
  pub here : w.at b ≡ v.at a
  pub same : (k : ℕ) → k ≢ 0 → k ≢ b → w.at k ≡ v.at k
  pub flags : w.flags ≡ v.flags
  pub inputs : w.inputs ≡ v.inputs
  pub safe : w.safe ≡ v.safe
  pub seen : w.seen ≡ v.seen ++ (read_of ka a (v.at a) ++ write_of kb b (v.at a))

-- ---- operations of two registers

-- an instruction that puts f of two registers and the flags into the first one
pub record IsBinary (op : ℕ → ℕ → Instr) (f : ℕ → ℕ → Flags → ℕ) (g : ℕ → ℕ → Flags → Flags) : Type 0 where
  pub is : (e : Env) (d r : ℕ) (v : View)
      → change e (op d r) v ≡ set_both d (f (v.at d) (v.at r) v.flags) (g (v.at d) (v.at r) v.flags) v
  pub straight : (d r : ℕ) → goes_on (op d r) ≡ true

-- the place q becomes q op p, at byte i
abbrev pub binary_byte : (ℕ → ℕ → Instr) → Location → Location → ℕ → List AsmItem
binary_byte op (InRegisters a) (InRegisters b) i = Plain (op (b + i) (a + i)) ∷ []
binary_byte op (InMemory o k) (InRegisters b) i = LoadObj 0 o (k + i) ∷ Plain (op (b + i) 0) ∷ []
binary_byte op (InRegisters a) (InMemory o k) i = LoadObj 0 o (k + i) ∷ Plain (op 0 (a + i)) ∷ StoreObj o (k + i) 0 ∷ []
binary_byte op (InMemory o k) (InMemory p j) i =
    LoadObj 1 o (k + i) ∷ LoadObj 0 p (j + i) ∷ Plain (op 0 1) ∷ StoreObj p (j + i) 0 ∷ []

pub record Operates (f : ℕ → ℕ → Flags → ℕ) (g : ℕ → ℕ → Flags → Flags) (v w : View) (a b : ℕ) : Type 0 where
  pub here : w.at b ≡ f (v.at b) (v.at a) v.flags
  pub flags : w.flags ≡ g (v.at b) (v.at a) v.flags
  pub same : (k : ℕ) → k ≢ 0 → k ≢ 1 → k ≢ b → w.at k ≡ v.at k
  pub inputs : w.inputs ≡ v.inputs
  pub safe : w.safe ≡ v.safe
  pub seen : w.seen ≡ v.seen

-- the number in n bytes from a, the lowest byte first
abbrev pub value : (ℕ → ℕ) → ℕ → ℕ → ℕ
value f a zero = 0
value f a (suc n) = value f a n + f (a + n) * 256 ^ n

-- ---- operators

-- the instruction for a byte: the lowest byte takes no carry or borrow
abbrev pub instruction : Operator → ℕ → (d r : ℕ) → Instr
instruction Sum zero d r = Add d r
instruction Sum (suc i) d r = Adc d r
instruction Difference zero d r = Sub d r
instruction Difference (suc i) d r = Sbc d r
instruction BitAnd i d r = And d r
instruction BitOr i d r = Or d r
instruction BitXor i d r = Eor d r

-- the number at q becomes q op p: a byte of it, and n bytes
abbrev pub operate_byte : Operator → Location → Location → ℕ → List AsmItem
operate_byte op p q i = binary_byte (instruction op i) p q i

abbrev pub operate_code : Operator → Location → Location → ℕ → List AsmItem
operate_code op p q n = chain (operate_byte op p q) n

-- the carry or borrow before byte i, and the flag Z: nothing was carried before the lowest byte, and nothing differed
abbrev pub carry_at : ℕ → Flags → ℕ
carry_at zero f = 0
carry_at (suc i) f = f.c

abbrev pub zero_at : ℕ → Flags → ℕ
zero_at zero f = 1
zero_at (suc i) f = f.z

-- k is outside n bytes from a
abbrev pub Outside : ℕ → ℕ → ℕ → Type 0
Outside a n k = a ≤ k → a + n ≤ k

-- only R0, R1, the flags and n bytes from b have changed, and nothing was seen
pub record Keeps (v0 v : View) (b n : ℕ) : Type 0 where
  pub same : (k : ℕ) → k ≢ 0 → k ≢ 1 → Outside b n k → v.at k ≡ v0.at k
  pub inputs : v.inputs ≡ v0.inputs
  pub safe : v.safe ≡ v0.safe
  pub seen : v.seen ≡ v0.seen

-- the first i bytes of the sum are there
pub record SumsTo (v0 : View) (a b i : ℕ) (v : View) : Type 0 where
  pub sum : value v.at b i + carry_at i v.flags * 256 ^ i ≡ value v0.at a i + value v0.at b i
  pub below : value v.at b i < 256 ^ i
  pub bytes : (k : ℕ) → 2 ≤ k → v.at k < 256
  pub keeps : Keeps v0 v b i

-- the first i bytes of the difference are there
pub record DiffersTo (v0 : View) (a b i : ℕ) (v : View) : Type 0 where
  pub difference : value v.at b i + value v0.at a i ≡ value v0.at b i + carry_at i v.flags * 256 ^ i
  pub below : value v.at b i < 256 ^ i
  pub borrow : carry_at i v.flags ≤ 1
  pub bytes : (k : ℕ) → 2 ≤ k → v.at k < 256
  pub keeps : Keeps v0 v b i

abbrev pub bitwise : Operator → ℕ → ℕ → ℕ
bitwise BitAnd x y = bit_and x y
bitwise BitOr x y = bit_or x y
bitwise _ x y = bit_xor x y

abbrev pub is_bitwise : Operator → Bool
is_bitwise BitAnd = true
is_bitwise BitOr = true
is_bitwise BitXor = true
is_bitwise _ = false

-- the first i bytes of a bitwise result are there
pub record BitwiseTo (op : Operator) (v0 : View) (a b i : ℕ) (v : View) : Type 0 where
  pub there : (j : ℕ) → j < i → v.at (b + j) ≡ bitwise op (v0.at (b + j)) (v0.at (a + j))
  pub keeps : Keeps v0 v b i

-- ---- copies of several bytes, and what is seen of them

abbrev pub copy_code : Location → Location → ℕ → List AsmItem
copy_code p q n = chain (copy_byte p q) n

abbrev pub copy_log : (ka kb : Kind) (a b : ℕ) → (ℕ → ℕ) → ℕ → List Access
copy_log ka kb a b f zero = []
copy_log ka kb a b f (suc n) =
    copy_log ka kb a b f n ++ (read_of ka (a + n) (f (a + n)) ++ write_of kb (b + n) (f (a + n)))

pub record CopiesTo (v0 : View) (a b : ℕ) (ka kb : Kind) (i : ℕ) (v : View) : Type 0 where
  pub there : (j : ℕ) → j < i → v.at (b + j) ≡ v0.at (a + j)
  pub same : (k : ℕ) → k ≢ 0 → Outside b i k → v.at k ≡ v0.at k
  pub flags : v.flags ≡ v0.flags
  pub inputs : v.inputs ≡ v0.inputs
  pub safe : v.safe ≡ v0.safe
  pub seen : v.seen ≡ v0.seen ++ copy_log ka kb a b v0.at i

-- a kind that a copy may touch
abbrev pub is_held : Kind → Bool
is_held Own = true
is_held Object = true
is_held _ = false

-- ---- comparisons: CP, and then CPC

abbrev pub compare_byte : Location → Location → ℕ → List AsmItem
compare_byte (InRegisters a) (InRegisters b) i = Plain (compares i (b + i) (a + i)) ∷ []
compare_byte (InMemory o k) (InRegisters b) i = LoadObj 0 o (k + i) ∷ Plain (compares i (b + i) 0) ∷ []
compare_byte (InRegisters a) (InMemory o k) i = LoadObj 0 o (k + i) ∷ Plain (compares i 0 (a + i)) ∷ []
compare_byte (InMemory o k) (InMemory p j) i = LoadObj 1 o (k + i) ∷ LoadObj 0 p (j + i) ∷ Plain (compares i 0 1) ∷ []

abbrev pub compare_code : Location → Location → ℕ → List AsmItem
compare_code p q n = chain (compare_byte p q) n

-- the byte at b was compared with that at a, where c is the borrow before it and z the flag Z
pub record ComparesByte (v w : View) (a b c z : ℕ) : Type 0 where
  pub borrow : w.flags.c ≡ from_bool (nat_lt (v.at b) (v.at a + c))
  pub equal : w.flags.z ≡ from_bool (byte_difference (v.at b) (v.at a) c == 0) * z
  pub sign : w.flags.s ≡ (difference_flags v.flags (v.at b) (v.at a) c z).s
  pub same : (k : ℕ) → k ≢ 0 → k ≢ 1 → w.at k ≡ v.at k
  pub inputs : w.inputs ≡ v.inputs
  pub safe : w.safe ≡ v.safe
  pub seen : w.seen ≡ v.seen

-- all is kept but the flags, R0 and R1
pub record KeepsAll (v0 v : View) : Type 0 where
  pub same : (k : ℕ) → k ≢ 0 → k ≢ 1 → v.at k ≡ v0.at k
  pub inputs : v.inputs ≡ v0.inputs
  pub safe : v.safe ≡ v0.safe
  pub seen : v.seen ≡ v0.seen

-- the first i bytes of q less p: the borrow
pub record Compares (v0 : View) (a b i : ℕ) (v : View) : Type 0 where
  pub rest : ℕ
  pub difference : rest + value v0.at a i ≡ value v0.at b i + carry_at i v.flags * 256 ^ i
  pub below : rest < 256 ^ i
  pub borrow : carry_at i v.flags ≤ 1
  pub equal : zero_at i v.flags ≡ from_bool (rest == 0)
  pub keeps : KeepsAll v0 v

-- ---- one bit to the right, from the highest byte down

-- The instruction for the byte that is the k-th from the top: the first one takes its sign or 0, and each other one the
-- bit that fell out of the byte above
abbrev pub halves : Bool → ℕ → ℕ → Instr
halves true zero d = Asr d
halves false zero d = Lsr d
halves signed (suc k) d = Ror d

-- the k-th byte from the top of n bytes, and all n
abbrev pub halve_byte : Bool → Location → (n k : ℕ) → List AsmItem
halve_byte signed (InRegisters r) n k = Plain (halves signed k (r + (n - 1 - k))) ∷ []
halve_byte signed (InMemory o j) n k =
    LoadObj 0 o (j + (n - 1 - k)) ∷ Plain (halves signed k 0) ∷ StoreObj o (j + (n - 1 - k)) 0 ∷ []

abbrev pub halve_code : Bool → Location → ℕ → List AsmItem
halve_code signed p n = chain (halve_byte signed p n) n

-- the bit that comes into the highest byte
abbrev pub sign_of : Bool → ℕ → ℕ
sign_of true top = top / 128
sign_of false top = 0

-- the bit that comes into the byte that is the k-th from the top
abbrev pub bit_into : ℕ → ℕ → Flags → ℕ
bit_into sign zero f = sign
bit_into sign (suc k) f = f.c

-- the highest k bytes of n are halved
pub record HalvesTo (v0 : View) (sign a n k : ℕ) (v : View) : Type 0 where
  pub halved : value v.at (a + (n - k)) k * 2 + bit_into sign k v.flags ≡ value v0.at (a + (n - k)) k + sign * 256 ^ k
  pub bit : bit_into sign k v.flags ≤ 1
  pub bytes : (j : ℕ) → 2 ≤ j → v.at j < 256
  pub keeps : Keeps v0 v (a + (n - k)) k
