-- The bytes of numbers, as std makes and reads them.
use Rattle.std.proofs.Common.{◌≡◌, ℕ, zero, suc, ◌+◌, ◌-◌, ◌*◌, ◌/◌, ◌%◌, ◌^◌, ◌<◌, ◌≤◌, List, [], ◌∷◌, ◌++◌, take, replicate, slice_index}
use Rattle.std.proofs.Common.{refl, sym, ap, ◌∙◌, arith}
use Rattle.std.proofs.Math.Nat.{pow-succ', pow-suc, div-div-eq-div-mul}
use Rattle.std.specs.Int.{Width, w8, w16, w32, w64, w128, byte_len, byte_at, byte_worth, bytes_low_first, sum_through, to_le_bytes}
use Rattle.std.specs.Int.{from_le_bytes}
use Rattle.ec_space.specs.Bytes.{little_endian, number_of}

-- byte i of a number is the lowest of what is left after the i lower ones
byte_at_is : (i x : ℕ) → byte_at i x ≡ x / 256 ^ i % 256
byte_at_is zero x = omega arith
byte_at_is (suc i) x = refl

-- std's bytes from place i on
pub bytes_low_first_is : (i n x : ℕ) → bytes_low_first i n x ≡ little_endian n (x / 256 ^ i)
bytes_low_first_is i zero x = refl
bytes_low_first_is i (suc n) x =
    let next : x / 256 ^ suc i ≡ x / 256 ^ i / 256 = rw (pow-suc 256 i) (sym (div-div-eq-div-mul x (256 ^ i) 256)) in
    rw (byte_at_is i x, bytes_low_first_is (suc i) n x, next) refl

pub to_le_bytes_is : (w : Width) (x : ℕ) → to_le_bytes w x ≡ little_endian (byte_len w) x
to_le_bytes_is w x =
    let all : x / 256 ^ 0 ≡ x = omega arith in
    bytes_low_first_is 0 (byte_len w) x ∙ ap (little_endian (byte_len w)) all

-- the bytes of a number that takes fewer of them end in zeros
pub little_endian-zeros : (n : ℕ) → little_endian n 0 ≡ replicate n 0
little_endian-zeros zero = refl
little_endian-zeros (suc n) = ap (λ (rest : List ℕ). 0 ∷ rest) (little_endian-zeros n)

pub little_endian-longer : (n k x : ℕ) → x < 256 ^ n → little_endian (n + k) x ≡ little_endian n x ++ replicate k 0
little_endian-longer zero k x h =
    let none : x ≡ 0 = omega arith in
    let same : 0 + k ≡ k = omega arith in
    rw (none, same) (little_endian-zeros k)
little_endian-longer (suc n) k x h =
    let more : suc n + k ≡ suc (n + k) = omega arith in
    let rest : x / 256 < 256 ^ n = omega (arith, pow-succ' 256 n) in
    rw (more, little_endian-longer n k (x / 256) rest) refl

-- one more byte of those that make a number
number_of-take-suc : (n : ℕ) (bytes : List ℕ) → number_of (take (suc n) bytes) ≡ number_of (take n bytes) + slice_index bytes n * 256 ^ n
number_of-take-suc zero [] = omega arith
number_of-take-suc zero (byte ∷ bytes) = omega arith
number_of-take-suc (suc n) [] = omega arith
number_of-take-suc (suc n) (byte ∷ bytes) =
    let rest = number_of-take-suc n bytes in
    let power = pow-succ' 256 n in
    let worth : slice_index bytes n * 256 ^ suc n ≡ 256 * (slice_index bytes n * 256 ^ n) = rw power (omega arith) in
    omega (arith, rest, worth)

byte_worth_is : (i byte : ℕ) → byte_worth i byte ≡ byte * 256 ^ i
byte_worth_is zero byte = omega arith
byte_worth_is (suc i) byte = refl

sum_through_bytes_is : (n : ℕ) (bytes : List ℕ) → sum_through (λ i. byte_worth i (slice_index bytes i)) n ≡ number_of (take (suc n) bytes)
sum_through_bytes_is zero [] = refl
sum_through_bytes_is zero (byte ∷ bytes) = omega arith
sum_through_bytes_is (suc n) bytes =
    rw (sum_through_bytes_is n bytes, byte_worth_is (suc n) (slice_index bytes (suc n))) (sym (number_of-take-suc (suc n) bytes))

-- std's reading of the first bytes of a list
pub from_le_bytes_is : (w : Width) (bytes : List ℕ) → from_le_bytes w bytes ≡ number_of (take (byte_len w) bytes)
from_le_bytes_is w8 bytes = sum_through_bytes_is 0 bytes
from_le_bytes_is w16 bytes = sum_through_bytes_is 1 bytes
from_le_bytes_is w32 bytes = sum_through_bytes_is 3 bytes
from_le_bytes_is w64 bytes = sum_through_bytes_is 7 bytes
from_le_bytes_is w128 bytes = sum_through_bytes_is 15 bytes

-- the eight bytes of a number that fits the first n of them
pub cell_bytes_is : (n x : ℕ) → n ≤ 8 → x < 256 ^ n → to_le_bytes w64 x ≡ little_endian n x ++ replicate (8 - n) 0
cell_bytes_is n x le h =
    let all : 8 ≡ n + (8 - n) = omega arith in
    to_le_bytes_is w64 x ∙ ap (λ k. little_endian k x) all ∙ little_endian-longer n (8 - n) x h
