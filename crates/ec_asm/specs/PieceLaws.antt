-- Laws of the pieces of code.
use Rattle.std.specs.Prelude.{◌≡◌, ℕ, suc, ◌+◌, ◌-◌, ◌*◌, ◌/◌, ◌%◌, ◌^◌, ◌<◌, ◌≤◌, ◌==◌, nat_lt, Bool, true}
use Rattle.std.specs.Int.{from_bool}
use Rattle.ec_isa.specs.declared.instructions.Instr.{Instr}
use Rattle.ec_asm.specs.declared.pieces.Location.{Location}
use Rattle.ec_asm.specs.declared.pieces.Operator.{Operator}
use Rattle.ec_asm.specs.declared.pieces.Operator.TheVariants.{Sum, Difference}
use Rattle.ec_asm.specs.View.{Flags, View}
use Rattle.ec_asm.specs.Change.{Env, Kind, Own}
use Rattle.ec_asm.specs.Items.{block, all_straight, code_steps}
use Rattle.ec_asm.specs.Pieces.{StandsFrom, is_held, copy_code, CopiesTo, operate_code, value, SumsTo, DiffersTo}
use Rattle.ec_asm.specs.Pieces.{is_bitwise, BitwiseTo, compare_code, KeepsAll, halve_code, sign_of, Keeps, address}
use Rattle.ec_asm.specs.Pieces.{KindIs, copy_byte, Copies, IsBinary, binary_byte, Operates, compare_byte, ComparesByte}
use Rattle.ec_asm.specs.Pieces.{carry_at, zero_at}

-- every byte but R0 and R1 is below 256
abbrev pub HoldsNumbers : View → Type 0
HoldsNumbers v = (k : ℕ) → 2 ≤ k → v.at k < 256

-- no byte is overwritten before it is read: the numbers are apart, or the one that is written begins no higher
abbrev pub IsReadFirst : (a b n : ℕ) → Type 0
IsReadFirst a b n = a < b → a + n ≤ b

-- ---- numbers of several bytes

-- n bytes from an address hold numbers below 256
abbrev pub AreHeld : (f : ℕ → ℕ) (a n : ℕ) → Type 0
AreHeld f a n = (j : ℕ) → j < n → f (a + j) < 256

abbrev pub NumbersAreBelow : Type 0
NumbersAreBelow = (f : ℕ → ℕ) (a n : ℕ) → AreHeld f a n → value f a n < 256 ^ n

-- the low m bytes
abbrev pub NumbersHaveLowParts : Type 0
NumbersHaveLowParts =
    (f : ℕ → ℕ) (a m n : ℕ) → m ≤ n → AreHeld f a n → value f a n % 256 ^ m ≡ value f a m

-- one byte
abbrev pub NumbersHaveBytes : Type 0
NumbersHaveBytes =
    (f : ℕ → ℕ) (a n i : ℕ) → AreHeld f a n → i < n → value f a n / 256 ^ i % 256 ≡ f (a + i)

-- the same bytes are the same number
abbrev pub NumbersAreOfBytes : Type 0
NumbersAreOfBytes =
    (f g : ℕ → ℕ) (a n : ℕ) → ((j : ℕ) → j < n → f (a + j) ≡ g (a + j)) → value f a n ≡ value g a n

-- the lowest byte, and the number above it
abbrev pub NumbersBegin : Type 0
NumbersBegin = (f : ℕ → ℕ) (a n : ℕ) → value f a (suc n) ≡ f a + 256 * value f (a + 1) n

-- ---- one byte

abbrev pub BytesAreCopied : Type 0
BytesAreCopied =
    (e : Env) (p q : Location) (i a b : ℕ) (ka kb : Kind) (v : View) → address e p i ≡ a → address e q i ≡ b
    → KindIs e p a ka → KindIs e q b kb → is_held ka ≡ true → is_held kb ≡ true → 2 ≤ a → 2 ≤ b
    → Copies v (block e (copy_byte p q i) v) a b ka kb

-- an operator by any instruction of two registers
abbrev pub BytesAreCombined : Type 0
BytesAreCombined =
    (op : ℕ → ℕ → Instr) (f : ℕ → ℕ → Flags → ℕ) (g : ℕ → ℕ → Flags → Flags) → IsBinary op f g → (e : Env)
    (p q : Location) (i a b : ℕ) (v : View)
    → address e p i ≡ a → address e q i ≡ b → KindIs e p a Own → KindIs e q b Own → 2 ≤ a → 2 ≤ b
    → Operates f g v (block e (binary_byte op p q i) v) a b

abbrev pub BytesAreCompared : Type 0
BytesAreCompared =
    (e : Env) (p q : Location) (i a b : ℕ) (v : View) → address e p i ≡ a → address e q i ≡ b → KindIs e p a Own
    → KindIs e q b Own → 2 ≤ a → 2 ≤ b
    → ComparesByte v (block e (compare_byte p q i) v) a b (carry_at i v.flags) (zero_at i v.flags)

-- ---- several bytes

-- a copy, with the accesses that are noted of it
abbrev pub CopiesAreRight : Type 0
CopiesAreRight =
    (e : Env) (p q : Location) (n a b : ℕ) (ka kb : Kind) (v : View) → StandsFrom e p n a ka → StandsFrom e q n b kb
    → is_held ka ≡ true
    → is_held kb ≡ true → IsReadFirst a b n → CopiesTo v a b ka kb n (block e (copy_code p q n) v)

-- the sum, modulo 256 ^ n
abbrev pub SumsAreRight : Type 0
SumsAreRight =
    (e : Env) (p q : Location) (n a b : ℕ) (v : View) → StandsFrom e p n a Own → StandsFrom e q n b Own
    → IsReadFirst a b n → HoldsNumbers v
    → let w = block e (operate_code Sum p q n) v in
    SumsTo v a b n w × (value w.at b n ≡ (value v.at b n + value v.at a n) % 256 ^ n)

-- the difference, modulo 256 ^ n
abbrev pub DifferencesAreRight : Type 0
DifferencesAreRight =
    (e : Env) (p q : Location) (n a b : ℕ) (v : View) → StandsFrom e p n a Own → StandsFrom e q n b Own
    → IsReadFirst a b n → HoldsNumbers v
    → let w = block e (operate_code Difference p q n) v in
    DiffersTo v a b n w × (value w.at b n ≡ (value v.at b n + 256 ^ n - value v.at a n) % 256 ^ n)

-- a bitwise operator, byte by byte
abbrev pub BitwiseIsRight : Type 0
BitwiseIsRight =
    (op : Operator) (e : Env) (p q : Location) (n a b : ℕ) (v : View) → is_bitwise op ≡ true → StandsFrom e p n a Own
    → StandsFrom e q n b Own
    → IsReadFirst a b n → BitwiseTo op v a b n (block e (operate_code op p q n) v)

-- after the comparison of at least one byte C tells which number is less
abbrev pub ComparisonsTellLess : Type 0
ComparisonsTellLess =
    (e : Env) (p q : Location) (n a b : ℕ) (v : View) → StandsFrom e p (suc n) a Own → StandsFrom e q (suc n) b Own
    → HoldsNumbers v
    → (block e (compare_code p q (suc n)) v).flags.c ≡ from_bool (nat_lt (value v.at b (suc n)) (value v.at a (suc n)))

-- and Z whether they are equal
abbrev pub ComparisonsTellEqual : Type 0
ComparisonsTellEqual =
    (e : Env) (p q : Location) (n a b : ℕ) (v : View) → StandsFrom e p (suc n) a Own → StandsFrom e q (suc n) b Own
    → HoldsNumbers v
    → (block e (compare_code p q (suc n)) v).flags.z ≡ from_bool (value v.at b (suc n) == value v.at a (suc n))

-- a number of n bytes in two's complement moved up by half of 256 ^ n, so that no number is negative
abbrev pub moved_up : ℕ → ℕ → ℕ
moved_up n x = (x + 256 ^ n / 2) % 256 ^ n

-- S tells which is less in two's complement
abbrev pub ComparisonsTellSigned : Type 0
ComparisonsTellSigned =
    (e : Env) (p q : Location) (n a b : ℕ) (v : View) → StandsFrom e p (suc n) a Own → StandsFrom e q (suc n) b Own
    → HoldsNumbers v
    → (block e (compare_code p q (suc n)) v).flags.s
    ≡ from_bool (nat_lt (moved_up (suc n) (value v.at b (suc n))) (moved_up (suc n) (value v.at a (suc n))))

-- and all is kept but the flags, R0 and R1
abbrev pub ComparisonsKeep : Type 0
ComparisonsKeep =
    (e : Env) (p q : Location) (n a b : ℕ) (v : View) → StandsFrom e p n a Own → StandsFrom e q n b Own → HoldsNumbers v
    → KeepsAll v (block e (compare_code p q n) v)

-- A number of at least one byte is halved and rounded down, in two's complement or without a sign, and C has the bit
-- that fell out
abbrev pub HalvesAreRight : Type 0
HalvesAreRight =
    (signed : Bool) (e : Env) (p : Location) (n a : ℕ) (v : View) → StandsFrom e p (suc n) a Own → HoldsNumbers v
    → let w = block e (halve_code signed p (suc n)) v in
    (value w.at a (suc n) ≡ (value v.at a (suc n) + sign_of signed (v.at (a + n)) * 256 ^ suc n) / 2)
    × (w.flags.c ≡ value v.at a (suc n) % 2) × Keeps v w a (suc n)

-- the code is straight
abbrev pub PiecesAreStraight : Type 0
PiecesAreStraight =
    (op : Operator) (p q : Location) (n : ℕ)
    → (all_straight (copy_code p q n) ≡ true) × (all_straight (operate_code op p q n) ≡ true)
    × (all_straight (compare_code p q n) ≡ true) × ((signed : Bool) → all_straight (halve_code signed p n) ≡ true)

-- for each of n bytes at least one step, and at most so many
abbrev pub TakesEach : (n most steps : ℕ) → Type 0
TakesEach n most steps = (n ≤ steps) × (steps ≤ n * most)

abbrev pub PiecesTake : Type 0
PiecesTake =
    (op : Operator) (p q : Location) (n : ℕ)
    → TakesEach n 2 (code_steps (copy_code p q n)) × TakesEach n 4 (code_steps (operate_code op p q n))
    × TakesEach n 3 (code_steps (compare_code p q n))
    × ((signed : Bool) → TakesEach n 3 (code_steps (halve_code signed p n)))
