-- The laws of numbers and their bytes, over every width.
use Rattle.std.proofs.Common.{◌≡◌, ℕ, zero, suc, ◌+◌, ◌*◌, ◌/◌, ◌%◌, ◌^◌, ◌<◌, List, [], ◌∷◌, length, take, replicate}
use Rattle.std.proofs.Common.{◌-◌, refl, ap, ◌∙◌, arith}
use Rattle.std.proofs.Math.Nat.{pow-succ'}
use Rattle.std.proofs.lemmas.List.{take_at}
use Rattle.ec_space.specs.Bytes.{little_endian, number_of, cell_bytes, cell_number, AreBytes}

pub length-little_endian : (n x : ℕ) → length (little_endian n x) ≡ n
length-little_endian zero x = refl
length-little_endian (suc n) x = ap suc (length-little_endian n (x / 256))

pub AreBytes-little_endian : (n x : ℕ) → AreBytes (little_endian n x)
AreBytes-little_endian zero x i = omega arith
AreBytes-little_endian (suc n) x zero = omega arith
AreBytes-little_endian (suc n) x (suc i) = AreBytes-little_endian n (x / 256) i

-- a number of n bytes is what its n bytes make
pub number_of-little_endian : (n x : ℕ) → x < 256 ^ n → number_of (little_endian n x) ≡ x
number_of-little_endian zero x h = omega arith
number_of-little_endian (suc n) x h =
    let rest : x / 256 < 256 ^ n = omega (arith, pow-succ' 256 n) in
    let same : number_of (little_endian n (x / 256)) ≡ x / 256 = number_of-little_endian n (x / 256) rest in
    omega (arith, same)

pub number_of_fits : (bytes : List ℕ) → AreBytes bytes → number_of bytes < 256 ^ length bytes
number_of_fits [] h = omega arith
number_of_fits (byte ∷ bytes) h =
    omega (arith, h 0, number_of_fits bytes (λ i. h (suc i)), pow-succ' 256 (length bytes))

-- bytes are those of the number that they make
pub little_endian-number_of : (bytes : List ℕ) → AreBytes bytes → little_endian (length bytes) (number_of bytes) ≡ bytes
little_endian-number_of [] h = refl
little_endian-number_of (byte ∷ bytes) h =
    let low : (byte + 256 * number_of bytes) % 256 ≡ byte = omega (arith, h 0) in
    let high : (byte + 256 * number_of bytes) / 256 ≡ number_of bytes = omega (arith, h 0) in
    rw (low, high, little_endian-number_of bytes (λ i. h (suc i))) refl

-- a value that its number gives back is also given back by its bytes
pub cell_number-cell_bytes : {V : Type 0} (size x : ℕ) (of_bits : ℕ → V) (v : V) → x < 256 ^ size → of_bits x ≡ v
    → of_bits (cell_number size (cell_bytes size x)) ≡ v
cell_number-cell_bytes size x of_bits v h same =
    let own : take size (cell_bytes size x) ≡ little_endian size x =
    take_at (little_endian size x) (replicate (8 - size) 0) size (length-little_endian size x) in
    ap (λ bytes. of_bits (number_of bytes)) own ∙ ap of_bits (number_of-little_endian size x h) ∙ same
