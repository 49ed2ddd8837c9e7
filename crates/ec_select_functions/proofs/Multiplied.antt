-- The product of two integers of one byte.
use Rattle.std.proofs.Common.{◌≡◌, ℕ, suc, ◌+◌, ◌-◌, ◌*◌, ◌<◌, ◌≤◌, ◌⊎◌, inl, inr, Bool, true, false, ℤ, pos, negsuc}
use Rattle.std.proofs.Common.{◌+ℤ◌, ◌-ℤ◌, ◌*ℤ◌, refl, ap, ◌∙◌, arith, ⊎_elim, leb-true, leb-false}
use Rattle.std.specs.Prelude.{nat_le}
use Rattle.std.proofs.lemmas.Int.{ints}
use Rattle.std.proofs.lemmas.Bool.{cases_Bool}
use Rattle.ec_asm.specs.Pieces.{sign_of}
use Rattle.ec_core.specs.Integers.{wrapped}
use Rattle.ec_ir.specs.Temporaries.{low_bytes, number_of_bytes}
use Rattle.ec_select_products.specs.Products.{product_of}
use Rattle.ec_select_functions.proofs.Wrapped.{Lifts, low_of, low_of_wrapped, of_type}

-- a byte as a number: below 128, or less 256
record Plain (x : ℕ) (n : ℤ) (sign : ℕ) : Type 0 where
  number : n ≡ pos x
  clear : sign ≡ 0

record Negative (x : ℕ) (n : ℤ) (sign : ℕ) : Type 0 where
  rest : ℕ
  number : n ≡ negsuc rest
  whole : rest + x ≡ 255
  set : sign ≡ 1

byte_is : (s : Bool) (x : ℕ) → x < 256
    → Plain x (number_of_bytes s 1 x) (sign_of s x) ⊎ Negative x (number_of_bytes s 1 x) (sign_of s x)
byte_is false x l = inl (record { number = refl; clear = refl })
byte_is true x l =
    ⊎_elim
    (λ t.
    let g : 256 ≤ 2 * x = leb-true 256 (2 * x) t in
    inr (record { rest = 255 - x; number = rw t (below x l); whole = omega arith; set = omega arith }))
    (λ t.
    let g : 2 * x < 256 = leb-false 256 (2 * x) t in
    inl (record { number = rw t refl; clear = omega arith }))
    (cases_Bool (nat_le 256 (2 * x)))
  where
    below : (x : ℕ) → x < 256 → pos x -ℤ pos 256 ≡ negsuc (255 - x)
    below x l = omega (arith, ints, l)

-- what the product of two bytes is modulo 65,536
abbrev lifted : (x z s t : ℕ) → ℕ
lifted x z s t = x * z + 131072 - 256 * (s * z + t * x)

plain_plain : (x z : ℕ) → (pos x *ℤ pos z) +ℤ pos (2 * 65536) ≡ pos (lifted x z 0 0)
plain_plain x z = omega (arith, ints)

plain_negative : (x z y : ℕ) → x < 256 → y + z ≡ 255 → (pos x *ℤ negsuc y) +ℤ pos (2 * 65536) ≡ pos (lifted x z 0 1)
plain_negative x z y l e =
    let w : suc y + z ≡ 256 = omega arith in
    let f : x * (suc y + z) ≡ x * 256 = ap (λ t. x * t) w in
    let g : x * suc y + x * z ≡ 256 * x = omega (arith, f) in
    omega (arith, ints, g, l)

negative_plain : (x z y : ℕ) → z < 256 → y + x ≡ 255 → (negsuc y *ℤ pos z) +ℤ pos (2 * 65536) ≡ pos (lifted x z 1 0)
negative_plain x z y l e =
    let w : suc y + x ≡ 256 = omega arith in
    let f : (suc y + x) * z ≡ 256 * z = ap (λ t. t * z) w in
    let g : suc y * z + x * z ≡ 256 * z = omega (arith, f) in
    omega (arith, ints, g, l)

negative_negative : (x z y w : ℕ) → y + x ≡ 255 → w + z ≡ 255
    → (negsuc y *ℤ negsuc w) +ℤ pos (1 * 65536) ≡ pos (lifted x z 1 1)
negative_negative x z y w e g =
    let f : (y + x) * (w + 1) ≡ 255 * (w + 1) = ap (λ t. t * (w + 1)) e in
    let i : x * (w + z) ≡ x * 255 = ap (λ t. x * t) g in
    omega (arith, ints, f, i, e, g)

both : (m n : ℤ) (x z s t : ℕ) → x < 256 → z < 256 → (Plain x m s ⊎ Negative x m s) → (Plain z n t ⊎ Negative z n t)
    → (k : ℕ) × ((m *ℤ n) +ℤ pos (k * 65536) ≡ pos (lifted x z s t))
both m n x z s t l k (inl p) (inl q) = (2, rw (p.number, p.clear, q.number, q.clear) (plain_plain x z))
both m n x z s t l k (inl p) (inr q) = (2, rw (p.number, p.clear, q.number, q.set) (plain_negative x z q.rest l q.whole))
both m n x z s t l k (inr p) (inl q) = (2, rw (p.number, p.set, q.number, q.clear) (negative_plain x z p.rest k p.whole))
both m n x z s t l k (inr p) (inr q) = (1, rw (p.number, p.set, q.number, q.set) (negative_negative x z p.rest q.rest p.whole q.whole))

pub product_low : (s1 s2 s : Bool) (x z : ℕ) → x < 256 → z < 256
    → low_bytes 2 (wrapped (of_type s 2) (number_of_bytes s1 1 x *ℤ number_of_bytes s2 1 z)) ≡ product_of s1 s2 x z
product_low s1 s2 s x z l k =
    let m = number_of_bytes s1 1 x in
    let n = number_of_bytes s2 1 z in
    let b = both m n x z (sign_of s1 x) (sign_of s2 z) l k (byte_is s1 x l) (byte_is s2 z k) in
    let f : Lifts (m *ℤ n) 2 (lifted x z (sign_of s1 x) (sign_of s2 z)) = record { k = b.0; is = b.1 } in
    low_of_wrapped s 2 (m *ℤ n) ∙ low_of (m *ℤ n) 2 _ f
