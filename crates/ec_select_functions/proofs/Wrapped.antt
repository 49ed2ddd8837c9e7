-- Numbers of the meaning and numbers in bytes: both are the same modulo a power of 256.
use Rattle.std.proofs.Common.{◌≡◌, ℕ, zero, suc, ◌+◌, ◌-◌, ◌*◌, ◌/◌, ◌%◌, ◌^◌, ◌<◌, ◌≤◌, Bool, true, false, ◌&&◌, ℤ}
use Rattle.std.proofs.Common.{pos, negsuc, ◌+ℤ◌, ◌-ℤ◌, unsigned_abs, refl, sym, ap, ◌∙◌, arith, bit_and, bit_or}
use Rattle.std.proofs.Common.{bit_xor, pow-add}
use Rattle.std.specs.Prelude.{if◌then◌else◌, nat_le}
use Rattle.std.specs.Int.{int_rem_euclid}
use Rattle.std.proofs.lemmas.Int.{ints, int_rem_euclid_is}
use Rattle.std.proofs.lemmas.Nat.{div-add-mod', mod_below, mod-mul-add, mul-le, and_shr, or_shr, xor_shr, and_mod}
use Rattle.std.proofs.lemmas.Nat.{or_mod, xor_mod}
use native.Mathlib.Nat.{pow-suc}
use Rattle.ec_asm.specs.declared.pieces.Operator.{Operator}
use Rattle.ec_asm.specs.declared.pieces.Operator.TheVariants.{Sum, Difference, BitAnd, BitOr, BitXor}
use Rattle.ec_asm.specs.Pieces.{value, bitwise}
use Rattle.ec_asm.proofs.Numbers.{pow_pos, mod_beside, mod_less}
use Rattle.ec_core.specs.declared.arithmetic_types.IntegerType.{IntegerType}
use Rattle.ec_core.specs.Integers.{low_bits, from_bits, wrapped, bitwise as bitwise_value}
use Rattle.ec_ir.specs.Temporaries.{low_bytes, number_of_bytes}
use Rattle.ec_select_bytes.specs.Values.{byte_of}

-- ---- numbers modulo a power of 256

-- z and the natural m differ by a multiple of 256 ^ b
pub record Lifts (z : ℤ) (b m : ℕ) : Type 0 where
  pub k : ℕ
  pub is : z +ℤ pos (k * 256 ^ b) ≡ pos m

pub low_of : (z : ℤ) (b m : ℕ) → Lifts z b m → low_bytes b z ≡ m % 256 ^ b
low_of z b m l = ap unsigned_abs (int_rem_euclid_is z (pos (256 ^ b)) (256 ^ b) l.k m (pow_pos b) refl l.is)

down_once : (low p : ℕ) → (pos low -ℤ pos p) +ℤ pos (1 * p) ≡ pos low
down_once low p = omega (arith, ints)

not_down : (low p : ℕ) → pos low +ℤ pos (0 * p) ≡ pos low
not_down low p = omega (arith, ints)

pub lifts_number : (signed : Bool) (b low : ℕ) → Lifts (number_of_bytes signed b low) b low
lifts_number signed b low = by_sign (signed && nat_le (256 ^ b) (2 * low))
  where
    by_sign : (x : Bool) → Lifts (if x then pos low -ℤ pos (256 ^ b) else pos low) b low
    by_sign true = record { k = 1; is = down_once low (256 ^ b) }
    by_sign false = record { k = 0; is = not_down low (256 ^ b) }

both_up : (x y : ℤ) (j k p m n : ℕ) → x +ℤ pos (j * p) ≡ pos m → y +ℤ pos (k * p) ≡ pos n
    → (x +ℤ y) +ℤ pos ((j + k) * p) ≡ pos (m + n)
both_up x y j k p m n e f = omega (arith, ints, e, f)

pub lifts_sum : (x y : ℤ) (b m n : ℕ) → Lifts x b m → Lifts y b n → Lifts (x +ℤ y) b (m + n)
lifts_sum x y b m n l r = record { k = l.k + r.k; is = both_up x y l.k r.k (256 ^ b) m n l.is r.is }

less_up : (x y : ℤ) (j k p m n : ℕ) → n ≤ p → x +ℤ pos (j * p) ≡ pos m → y +ℤ pos (k * p) ≡ pos n
    → (x -ℤ y) +ℤ pos ((j + 1) * p) ≡ pos (k * p + (m + p - n))
less_up x y j k p m n l e f = omega (arith, ints, e, f)

pub lifts_difference : (x y : ℤ) (b m n : ℕ) → (l : Lifts x b m) → (r : Lifts y b n) → n ≤ 256 ^ b
    → Lifts (x -ℤ y) b (r.k * 256 ^ b + (m + 256 ^ b - n))
lifts_difference x y b m n l r s = record { k = l.k + 1; is = less_up x y l.k r.k (256 ^ b) m n s l.is r.is }

-- every number is lifted
far_up : (a p : ℕ) → 0 < p → negsuc a +ℤ pos (suc a * p) ≡ pos (suc a * p - suc a)
far_up a p h = let m : suc a * 1 ≤ suc a * p = mul-le (suc a) 1 (suc a) p (omega arith) (omega arith) in omega (arith, ints, m)

pub lifted : (z : ℤ) (b : ℕ) → (m : ℕ) × Lifts z b m
lifted (pos a) b = (a, record { k = 0; is = not_down a (256 ^ b) })
lifted (negsuc a) b = (suc a * 256 ^ b - suc a, record { k = suc a; is = far_up a (256 ^ b) (pow_pos b) })

pub low_below : (b : ℕ) (z : ℤ) → low_bytes b z < 256 ^ b
low_below b z =
    let l = lifted z b in
    rw (low_of z b l.0 l.1) (mod_below l.0 (256 ^ b) (pow_pos b))

power_of : (n b : ℕ) → n ≤ b → 256 ^ b ≡ 256 ^ (b - n) * 256 ^ n
power_of n b l = let e : b ≡ (b - n) + n = omega arith in ap (λ k. 256 ^ k) e ∙ pow-add 256 (b - n) n

-- the low bytes of low bytes
pub low_part : (z : ℤ) (n b : ℕ) → n ≤ b → low_bytes b z % 256 ^ n ≡ low_bytes n z
low_part z n b l =
    let u = lifted z b in
    let m = u.0 in
    let r = u.1 in
    let p : r.k * 256 ^ b ≡ r.k * 256 ^ (b - n) * 256 ^ n =
    (let q : r.k * 256 ^ b ≡ r.k * (256 ^ (b - n) * 256 ^ n) = ap (λ t. r.k * t) (power_of n b l) in omega (arith, q)) in
    let s : Lifts z n m = record { k = r.k * 256 ^ (b - n); is = ap (λ t. z +ℤ pos t) (sym p) ∙ r.is } in
    ap (λ t. t % 256 ^ n) (low_of z b m r) ∙ mod_less m n b l ∙ sym (low_of z n m s)

-- ---- wrapped numbers

pub powers : (b : ℕ) → 2 ^ (8 * b) ≡ 256 ^ b
powers zero = refl
powers (suc b) =
    let e : 8 * suc b ≡ 8 * b + 8 = omega arith in
    ap (λ k. 2 ^ k) e ∙ pow-add 2 (8 * b) 8 ∙ ap (λ t. t * 2 ^ 8) (powers b) ∙ sym (pow-suc 256 b)

pub kept_below : (x m : ℕ) → x < m → x % m ≡ x
kept_below x m h = let e : x ≡ 0 * m + x = omega arith in ap (λ t. t % m) e ∙ mod-mul-add 0 m x h

abbrev pub of_type : Bool → ℕ → IntegerType
of_type signed b = record { signed = signed; bytes = b }

from_bits_is : (signed : Bool) (b low : ℕ) → from_bits (of_type signed b) low ≡ number_of_bytes signed b low
from_bits_is signed b low = ap (λ p. if signed && nat_le p (2 * low) then pos low -ℤ pos p else pos low) (powers b)

low_bits_is : (signed : Bool) (b : ℕ) (z : ℤ) → low_bits (of_type signed b) z ≡ low_bytes b z
low_bits_is signed b z = ap (λ p. unsigned_abs (int_rem_euclid z (pos p))) (powers b)

pub low_of_number : (signed : Bool) (b low : ℕ) → low < 256 ^ b → low_bytes b (number_of_bytes signed b low) ≡ low
low_of_number signed b low h =
    low_of (number_of_bytes signed b low) b low (lifts_number signed b low) ∙ kept_below low (256 ^ b) h

pub low_of_wrapped : (signed : Bool) (b : ℕ) (z : ℤ) → low_bytes b (wrapped (of_type signed b) z) ≡ low_bytes b z
low_of_wrapped signed b z =
    ap (low_bytes b) (from_bits_is signed b (low_bits (of_type signed b) z) ∙ ap (number_of_bytes signed b) (low_bits_is signed b z))
    ∙ low_of_number signed b (low_bytes b z) (low_below b z)

pub low_of_sum : (s1 s2 s : Bool) (b m n : ℕ)
    → low_bytes b (wrapped (of_type s b) (number_of_bytes s1 b m +ℤ number_of_bytes s2 b n)) ≡ (m + n) % 256 ^ b
low_of_sum s1 s2 s b m n =
    let z = number_of_bytes s1 b m +ℤ number_of_bytes s2 b n in
    low_of_wrapped s b z ∙ low_of z b (m + n) (lifts_sum _ _ b m n (lifts_number s1 b m) (lifts_number s2 b n))

pub low_of_difference : (s1 s2 s : Bool) (b m n : ℕ) → n ≤ 256 ^ b
    → low_bytes b (wrapped (of_type s b) (number_of_bytes s1 b m -ℤ number_of_bytes s2 b n)) ≡ (m + 256 ^ b - n) % 256 ^ b
low_of_difference s1 s2 s b m n l =
    let z = number_of_bytes s1 b m -ℤ number_of_bytes s2 b n in
    let r = lifts_number s2 b n in
    low_of_wrapped s b z ∙ low_of z b _ (lifts_difference _ _ b m n (lifts_number s1 b m) r l)
    ∙ mod_beside r.k (256 ^ b) (m + 256 ^ b - n) (pow_pos b)

pub low_of_bits : (f : ℕ → ℕ → ℕ) (s1 s2 s : Bool) (b m n : ℕ) → m < 256 ^ b → n < 256 ^ b
    → low_bytes b (bitwise_value f (of_type s b) (number_of_bytes s1 b m) (number_of_bytes s2 b n)) ≡ f m n % 256 ^ b
low_of_bits f s1 s2 s b m n l k =
    let p = low_bits_is s b (number_of_bytes s1 b m) ∙ low_of_number s1 b m l in
    let q = low_bits_is s b (number_of_bytes s2 b n) ∙ low_of_number s2 b n k in
    let x = f (low_bits (of_type s b) (number_of_bytes s1 b m)) (low_bits (of_type s b) (number_of_bytes s2 b n)) in
    let e : x ≡ f m n = ap (λ t. f t (low_bits (of_type s b) (number_of_bytes s2 b n))) p ∙ ap (f m) q in
    ap (low_bytes b) (from_bits_is s b x ∙ ap (number_of_bytes s b) e)
    ∙ low_of (number_of_bytes s b (f m n)) b (f m n) (lifts_number s b (f m n))

-- ---- bytes of results

byte_shift : (j : ℕ) → 256 ^ j ≡ 2 ^ (8 * j)
byte_shift j = sym (powers j)

pub byte_of_and : (m n j : ℕ) → byte_of (bit_and m n) j ≡ bit_and (byte_of m j) (byte_of n j)
byte_of_and m n j =
    rw (byte_shift j) (ap (λ t. t % 2 ^ 8) (and_shr m n (8 * j)) ∙ and_mod (m / 2 ^ (8 * j)) (n / 2 ^ (8 * j)) 8)

pub byte_of_or : (m n j : ℕ) → byte_of (bit_or m n) j ≡ bit_or (byte_of m j) (byte_of n j)
byte_of_or m n j =
    rw (byte_shift j) (ap (λ t. t % 2 ^ 8) (or_shr m n (8 * j)) ∙ or_mod (m / 2 ^ (8 * j)) (n / 2 ^ (8 * j)) 8)

pub byte_of_xor : (m n j : ℕ) → byte_of (bit_xor m n) j ≡ bit_xor (byte_of m j) (byte_of n j)
byte_of_xor m n j =
    rw (byte_shift j) (ap (λ t. t % 2 ^ 8) (xor_shr m n (8 * j)) ∙ xor_mod (m / 2 ^ (8 * j)) (n / 2 ^ (8 * j)) 8)

pub byte_of_bitwise : (op : Operator) (m n j : ℕ)
    → byte_of (bitwise op m n) j ≡ bitwise op (byte_of m j) (byte_of n j)
byte_of_bitwise BitAnd m n j = byte_of_and m n j
byte_of_bitwise BitOr m n j = byte_of_or m n j
byte_of_bitwise BitXor m n j = byte_of_xor m n j
byte_of_bitwise Sum m n j = byte_of_xor m n j
byte_of_bitwise Difference m n j = byte_of_xor m n j

-- the low bytes of a number with one byte more
more_bytes : (x n : ℕ) → x % 256 ^ suc n ≡ x % 256 ^ n + byte_of x n * 256 ^ n
more_bytes x n =
    let p = 256 ^ n in
    let q = x / p in
    let a = div-add-mod' x p in
    let b = div-add-mod' q 256 in
    let low = mod_below x p (pow_pos n) in
    let d : q % 256 < 256 = mod_below q 256 (omega arith) in
    let e : q * p ≡ (q / 256 * 256 + q % 256) * p = ap (λ t. t * p) (sym b) in
    let r = x % p + q % 256 * p in
    let w : x ≡ q / 256 * (p * 256) + r = omega (arith, a, e) in
    let s : (q % 256 + 1) * p ≤ 256 * p = mul-le (q % 256 + 1) p 256 p (omega arith) (omega arith) in
    let small : r < p * 256 = omega (arith, low, s) in
    rw (pow-suc 256 n) (ap (λ t. t % (p * 256)) w ∙ mod-mul-add (q / 256) (p * 256) r small)

-- bytes that are those of a number make its low part
pub value_of_bytes : (f : ℕ → ℕ) (a n x : ℕ) → ((j : ℕ) → j < n → f (a + j) ≡ byte_of x j) → value f a n ≡ x % 256 ^ n
value_of_bytes f a zero x h = let e : x % 1 ≡ 0 = omega arith in sym e
value_of_bytes f a (suc n) x h =
    let p = value_of_bytes f a n x (λ j l. h j (omega arith)) in
    let q = h n (omega arith) in
    rw (p, q) (sym (more_bytes x n))
