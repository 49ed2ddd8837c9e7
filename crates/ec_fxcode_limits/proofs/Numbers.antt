-- Sums and differences of numbers of several bytes: what the flags of the highest byte tell of the exact result.
use Rattle.std.proofs.Common.{◌≡◌, ℕ, ◌+◌, ◌-◌, ◌*◌, ◌/◌, ◌<◌, ◌≤◌, ◌⊎◌, inl, inr, ⊎_elim, if◌then◌else◌}
use Rattle.std.proofs.Common.{refl, ap, ◌∙◌, arith, ℤ, pos, negsuc, ◌+ℤ◌, ◌-ℤ◌, nat_lt}
use Rattle.std.proofs.lemmas.Bool.{cases_lt, lt-ltb, le-ltb}
use Rattle.std.proofs.lemmas.Int.{ints}
use Rattle.std.proofs.lemmas.Nat.{mul-le}
use Rattle.ec_avr.specs.Flags.{sum_overflow, difference_overflow}

-- N is 256 ^ n, and x a number below it: the number that its bytes stand for in two's complement
abbrev pub read : (N x : ℕ) → ℤ
read N x = if nat_lt (2 * x) N then pos x else pos x -ℤ pos N

-- the number of a highest byte above a lower part
abbrev pub whole : (p low top : ℕ) → ℕ
whole p low top = low + top * p

read_plus : (p low top : ℕ) → low < p → top < 128 → read (p * 256) (whole p low top) ≡ pos (whole p low top)
read_plus p low top l h =
    let m : top * p ≤ 127 * p = mul-le top p 127 p (omega arith) (omega arith) in
    rw (lt-ltb (2 * whole p low top) (p * 256) (omega arith)) refl

read_minus : (p low top : ℕ) → 128 ≤ top → read (p * 256) (whole p low top) ≡ pos (whole p low top) -ℤ pos (p * 256)
read_minus p low top h =
    let m : 128 * p ≤ top * p = mul-le 128 p top p (omega arith) (omega arith) in
    rw (le-ltb (2 * whole p low top) (p * 256) (omega arith)) refl

-- ---- what comes of a sum or a difference t: s are its bytes

-- it is in range
pub record IsInside (flag : ℕ) (number t : ℤ) : Type 0 where
  pub clear : flag ≡ 0
  pub is : t ≡ number

-- it is more than the greatest number, which is less than m
pub record IsAbove (flag carry up m : ℕ) (t : ℤ) : Type 0 where
  pub marked : flag ≡ 1
  pub carried : carry ≡ up
  pub size : ℕ
  pub is : t ≡ pos size
  pub more : m ≤ size

-- it is less than the least number, which is -m
pub record IsBelow (flag carry down m : ℕ) (t : ℤ) : Type 0 where
  pub marked : flag ≡ 1
  pub carried : carry ≡ down
  pub size : ℕ
  pub is : t ≡ negsuc size
  pub more : m ≤ size

abbrev pub ComesOut : (flag carry up down high low : ℕ) → (number t : ℤ) → Type 0
ComesOut flag carry up down high low number t =
    IsInside flag number t ⊎ (IsAbove flag carry up high t ⊎ IsBelow flag carry down low t)

-- ---- the flag V

-- a byte has its highest bit, or has not, and V with it
v_low : (x y r v : ℕ) → x < 128 → y < 128 → r < 256 → v ≡ sum_overflow 128 x y r → ((r < 128) × (v ≡ 0)) ⊎ ((128 ≤ r) × (v ≡ 1))
v_low x y r v l k m e =
    let a : x / 128 ≡ 0 = omega arith in
    let b : y / 128 ≡ 0 = omega arith in
    ⊎_elim
    (λ (g : r < 128). let c : r / 128 ≡ 0 = omega arith in inl (g, e ∙ rw (a, b, c) refl))
    (λ (g : 128 ≤ r). let c : r / 128 ≡ 1 = omega arith in inr (g, e ∙ rw (a, b, c) refl))
    (cases_lt r 128)

v_high : (x y r v : ℕ) → 128 ≤ x → x < 256 → 128 ≤ y → y < 256 → r < 256 → v ≡ sum_overflow 128 x y r
    → ((128 ≤ r) × (v ≡ 0)) ⊎ ((r < 128) × (v ≡ 1))
v_high x y r v l l2 k k2 m e =
    let a : x / 128 ≡ 1 = omega arith in
    let b : y / 128 ≡ 1 = omega arith in
    ⊎_elim
    (λ (g : r < 128). let c : r / 128 ≡ 0 = omega arith in inr (g, e ∙ rw (a, b, c) refl))
    (λ (g : 128 ≤ r). let c : r / 128 ≡ 1 = omega arith in inl (g, e ∙ rw (a, b, c) refl))
    (cases_lt r 128)

v_apart : (x y r v : ℕ) → ((x < 128) × (128 ≤ y)) ⊎ ((128 ≤ x) × (y < 128)) → x < 256 → y < 256 → v ≡ sum_overflow 128 x y r → v ≡ 0
v_apart x y r v (inl h) l k e =
    let u = h.0 in
    let w = h.1 in
    let a : x / 128 ≡ 0 = omega arith in
    let b : y / 128 ≡ 1 = omega arith in
    e ∙ rw (a, b) refl
v_apart x y r v (inr h) l k e =
    let u = h.0 in
    let w = h.1 in
    let a : x / 128 ≡ 1 = omega arith in
    let b : y / 128 ≡ 0 = omega arith in
    e ∙ rw (a, b) refl

d_beside : (x y r v : ℕ) → ((x < 128) × (y < 128)) ⊎ ((128 ≤ x) × (128 ≤ y)) → x < 256 → y < 256 → v ≡ difference_overflow 128 x y r
    → v ≡ 0
d_beside x y r v (inl h) l k e =
    let u = h.0 in
    let w = h.1 in
    let a : x / 128 ≡ 0 = omega arith in
    let b : y / 128 ≡ 0 = omega arith in
    e ∙ rw (a, b) refl
d_beside x y r v (inr h) l k e =
    let u = h.0 in
    let w = h.1 in
    let a : x / 128 ≡ 1 = omega arith in
    let b : y / 128 ≡ 1 = omega arith in
    e ∙ rw (a, b) refl

d_over : (x y r v : ℕ) → x < 128 → 128 ≤ y → y < 256 → r < 256 → v ≡ difference_overflow 128 x y r
    → ((r < 128) × (v ≡ 0)) ⊎ ((128 ≤ r) × (v ≡ 1))
d_over x y r v l k k2 m e =
    let a : x / 128 ≡ 0 = omega arith in
    let b : y / 128 ≡ 1 = omega arith in
    ⊎_elim
    (λ (g : r < 128). let c : r / 128 ≡ 0 = omega arith in inl (g, e ∙ rw (a, b, c) refl))
    (λ (g : 128 ≤ r). let c : r / 128 ≡ 1 = omega arith in inr (g, e ∙ rw (a, b, c) refl))
    (cases_lt r 128)

d_under : (x y r v : ℕ) → 128 ≤ x → x < 256 → y < 128 → r < 256 → v ≡ difference_overflow 128 x y r
    → ((128 ≤ r) × (v ≡ 0)) ⊎ ((r < 128) × (v ≡ 1))
d_under x y r v l l2 k m e =
    let a : x / 128 ≡ 1 = omega arith in
    let b : y / 128 ≡ 0 = omega arith in
    ⊎_elim
    (λ (g : r < 128). let c : r / 128 ≡ 0 = omega arith in inr (g, e ∙ rw (a, b, c) refl))
    (λ (g : 128 ≤ r). let c : r / 128 ≡ 1 = omega arith in inl (g, e ∙ rw (a, b, c) refl))
    (cases_lt r 128)

-- ---- sums of bytes with a carry

-- the lower parts, the highest bytes, the carry into these and out of them, and the flag V
pub record Adds (p lx ly ls x y r c carry v : ℕ) : Type 0 where
  pub first : lx < p
  pub second : ly < p
  pub result : ls < p
  pub low : ls + c * p ≡ lx + ly
  pub top : r + 256 * carry ≡ x + y + c
  pub bit : c ≤ 1
  pub first_byte : x < 256
  pub second_byte : y < 256
  pub byte : r < 256
  pub flag : v ≡ sum_overflow 128 x y r

-- the numbers and the carry out
added_up : (p lx ly ls x y r c carry v : ℕ) → Adds p lx ly ls x y r c carry v
    → whole p ls r + carry * (p * 256) ≡ whole p lx x + whole p ly y
added_up p lx ly ls x y r c carry v h =
    let q : (r + 256 * carry) * p ≡ (x + y + c) * p = ap (λ t. t * p) h.top in
    let l = h.low in
    omega arith

abbrev SumComesOut : (p lx ly ls x y r carry v : ℕ) → Type 0
SumComesOut p lx ly ls x y r carry v =
    ComesOut v carry 0 1 (128 * p) (128 * p) (read (p * 256) (whole p ls r))
    (read (p * 256) (whole p lx x) +ℤ read (p * 256) (whole p ly y))

pub sum_out : (p lx ly ls x y r c carry v : ℕ) → Adds p lx ly ls x y r c carry v → SumComesOut p lx ly ls x y r carry v
sum_out p lx ly ls x y r c carry v h =
    ⊎_elim
    (λ (a : x < 128). ⊎_elim (λ (b : y < 128). both_low a b) (λ (b : 128 ≤ y). apart a b) (cases_lt y 128))
    (λ (a : 128 ≤ x). ⊎_elim (λ (b : y < 128). turned a b) (λ (b : 128 ≤ y). both_high a b) (cases_lt y 128))
    (cases_lt x 128)
  where
    first : lx < p
    first = h.first

    second : ly < p
    second = h.second

    result : ls < p
    result = h.result

    top : r + 256 * carry ≡ x + y + c
    top = h.top

    bit : c ≤ 1
    bit = h.bit

    byte : r < 256
    byte = h.byte

    sum : whole p ls r + carry * (p * 256) ≡ whole p lx x + whole p ly y
    sum = added_up p lx ly ls x y r c carry v h

    both_low : x < 128 → y < 128 → SumComesOut p lx ly ls x y r carry v
    both_low a b =
        let rx = read_plus p lx x first a in
        let ry = read_plus p ly y second b in
        let none : carry ≡ 0 = omega (arith, top, bit, byte) in
        let zero : carry * (p * 256) ≡ 0 * (p * 256) = ap (λ t. t * (p * 256)) none in
        ⊎_elim
        (λ (o : (r < 128) × (v ≡ 0)).
        inl (record { clear = o.1; is = (let rs = read_plus p ls r result o.0 in omega (arith, ints, rx, ry, rs, sum, zero)) }))
        (λ (o : (128 ≤ r) × (v ≡ 1)).
        let m : 128 * p ≤ r * p = mul-le 128 p r p o.0 (omega arith) in
        inr (inl (record {
          marked = o.1;
          carried = none;
          size = whole p lx x + whole p ly y;
          is = omega (arith, ints, rx, ry);
          more = omega (arith, sum, zero, m);
        })))
        (v_low x y r v a b byte h.flag)

    both_high : 128 ≤ x → 128 ≤ y → SumComesOut p lx ly ls x y r carry v
    both_high a b =
        let rx = read_minus p lx x a in
        let ry = read_minus p ly y b in
        let one : carry ≡ 1 = omega (arith, top, bit, byte, h.first_byte, h.second_byte) in
        let once : carry * (p * 256) ≡ 1 * (p * 256) = ap (λ t. t * (p * 256)) one in
        ⊎_elim
        (λ (o : (128 ≤ r) × (v ≡ 0)).
        inl (record { clear = o.1; is = (let rs = read_minus p ls r o.0 in omega (arith, ints, rx, ry, rs, sum, once)) }))
        (λ (o : (r < 128) × (v ≡ 1)).
        let m : r * p ≤ 127 * p = (let l = o.0 in mul-le r p 127 p (omega arith) (omega arith)) in
        inr (inr (record {
          marked = o.1;
          carried = one;
          size = p * 256 - whole p ls r - 1;
          is = omega (arith, ints, rx, ry, sum, once, m, result);
          more = omega (arith, m, result);
        })))
        (v_high x y r v a h.first_byte b h.second_byte byte h.flag)

    -- of two signs: always in range
    mixed : (carry ≡ 0) ⊎ (carry ≡ 1) → v ≡ 0
        → read (p * 256) (whole p lx x) +ℤ read (p * 256) (whole p ly y) ≡ pos (whole p lx x + whole p ly y) -ℤ pos (p * 256)
        → (carry ≡ 0 → 128 ≤ r) → (carry ≡ 1 → r < 128) → SumComesOut p lx ly ls x y r carry v
    mixed (inl none) clear is high low =
        let rs = read_minus p ls r (high none) in
        let zero : carry * (p * 256) ≡ 0 * (p * 256) = ap (λ t. t * (p * 256)) none in
        inl (record { clear = clear; is = omega (arith, ints, is, rs, sum, zero) })
    mixed (inr one) clear is high low =
        let rs = read_plus p ls r result (low one) in
        let once : carry * (p * 256) ≡ 1 * (p * 256) = ap (λ t. t * (p * 256)) one in
        inl (record { clear = clear; is = omega (arith, ints, is, rs, sum, once) })

    carry_bit : x < 256 → y < 256 → (carry ≡ 0) ⊎ (carry ≡ 1)
    carry_bit l k =
        ⊎_elim (λ (z : carry < 1). inl (omega arith)) (λ (z : 1 ≤ carry). inr (omega (arith, top, bit, l, k))) (cases_lt carry 1)

    apart : x < 128 → 128 ≤ y → SumComesOut p lx ly ls x y r carry v
    apart a b =
        let rx = read_plus p lx x first a in
        let ry = read_minus p ly y b in
        mixed (carry_bit h.first_byte h.second_byte) (v_apart x y r v (inl (a, b)) h.first_byte h.second_byte h.flag)
        (omega (arith, ints, rx, ry)) (λ q. omega (arith, q, top, b)) (λ q. omega (arith, q, top, bit, a, h.second_byte))

    turned : 128 ≤ x → y < 128 → SumComesOut p lx ly ls x y r carry v
    turned a b =
        let rx = read_minus p lx x a in
        let ry = read_plus p ly y second b in
        mixed (carry_bit h.first_byte h.second_byte) (v_apart x y r v (inr (a, b)) h.first_byte h.second_byte h.flag)
        (omega (arith, ints, rx, ry)) (λ q. omega (arith, q, top, a)) (λ q. omega (arith, q, top, bit, b, h.first_byte))

-- without a sign
pub plain_sum_out : (p lx ly ls x y r c carry v : ℕ) → Adds p lx ly ls x y r c carry v
    → ComesOut carry carry 1 0 (p * 256) 0 (pos (whole p ls r)) (pos (whole p lx x) +ℤ pos (whole p ly y))
plain_sum_out p lx ly ls x y r c carry v h =
    let sum = added_up p lx ly ls x y r c carry v h in
    let top = h.top in
    let bit = h.bit in
    let l = h.first_byte in
    let k = h.second_byte in
    ⊎_elim
    (λ (z : carry < 1).
    let none : carry ≡ 0 = omega arith in
    let zero : carry * (p * 256) ≡ 0 * (p * 256) = ap (λ t. t * (p * 256)) none in
    inl (record { clear = none; is = omega (arith, ints, sum, zero) }))
    (λ (z : 1 ≤ carry).
    let one : carry ≡ 1 = omega (arith, top, bit, l, k) in
    let once : carry * (p * 256) ≡ 1 * (p * 256) = ap (λ t. t * (p * 256)) one in
    inr (inl (record {
      marked = one;
      carried = one;
      size = whole p lx x + whole p ly y;
      is = omega (arith, ints);
      more = omega (arith, sum, once);
    })))
    (cases_lt carry 1)

-- ---- differences with a borrow

pub record Takes (p lx ly ls x y r c carry v : ℕ) : Type 0 where
  pub first : lx < p
  pub second : ly < p
  pub result : ls < p
  pub low : ls + ly ≡ lx + c * p
  pub top : r + y + c ≡ x + 256 * carry
  pub bit : c ≤ 1
  pub first_byte : x < 256
  pub second_byte : y < 256
  pub byte : r < 256
  pub flag : v ≡ difference_overflow 128 x y r

taken_off : (p lx ly ls x y r c carry v : ℕ) → Takes p lx ly ls x y r c carry v
    → whole p ls r + whole p ly y ≡ whole p lx x + carry * (p * 256)
taken_off p lx ly ls x y r c carry v h =
    let q : (r + y + c) * p ≡ (x + 256 * carry) * p = ap (λ t. t * p) h.top in
    let l = h.low in
    omega arith

abbrev DifferenceComesOut : (p lx ly ls x y r carry v : ℕ) → Type 0
DifferenceComesOut p lx ly ls x y r carry v =
    ComesOut v carry 1 0 (128 * p) (128 * p) (read (p * 256) (whole p ls r))
    (read (p * 256) (whole p lx x) -ℤ read (p * 256) (whole p ly y))

pub difference_out : (p lx ly ls x y r c carry v : ℕ) → Takes p lx ly ls x y r c carry v → DifferenceComesOut p lx ly ls x y r carry v
difference_out p lx ly ls x y r c carry v h =
    ⊎_elim
    (λ (a : x < 128). ⊎_elim (λ (b : y < 128). both_low a b) (λ (b : 128 ≤ y). over a b) (cases_lt y 128))
    (λ (a : 128 ≤ x). ⊎_elim (λ (b : y < 128). under a b) (λ (b : 128 ≤ y). both_high a b) (cases_lt y 128))
    (cases_lt x 128)
  where
    first : lx < p
    first = h.first

    second : ly < p
    second = h.second

    result : ls < p
    result = h.result

    top : r + y + c ≡ x + 256 * carry
    top = h.top

    bit : c ≤ 1
    bit = h.bit

    byte : r < 256
    byte = h.byte

    difference : whole p ls r + whole p ly y ≡ whole p lx x + carry * (p * 256)
    difference = taken_off p lx ly ls x y r c carry v h

    -- of one sign: always in range
    beside : (carry ≡ 0) ⊎ (carry ≡ 1) → v ≡ 0
        → read (p * 256) (whole p lx x) -ℤ read (p * 256) (whole p ly y) ≡ pos (whole p lx x) -ℤ pos (whole p ly y)
        → (carry ≡ 0 → r < 128) → (carry ≡ 1 → 128 ≤ r) → DifferenceComesOut p lx ly ls x y r carry v
    beside (inl none) clear is low high =
        let rs = read_plus p ls r result (low none) in
        let zero : carry * (p * 256) ≡ 0 * (p * 256) = ap (λ t. t * (p * 256)) none in
        inl (record { clear = clear; is = omega (arith, ints, is, rs, difference, zero) })
    beside (inr one) clear is low high =
        let rs = read_minus p ls r (high one) in
        let once : carry * (p * 256) ≡ 1 * (p * 256) = ap (λ t. t * (p * 256)) one in
        inl (record { clear = clear; is = omega (arith, ints, is, rs, difference, once) })

    carry_bit : x < 256 → y < 256 → (carry ≡ 0) ⊎ (carry ≡ 1)
    carry_bit l k =
        ⊎_elim (λ (z : carry < 1). inl (omega arith)) (λ (z : 1 ≤ carry). inr (omega (arith, top, bit, byte, k, l))) (cases_lt carry 1)

    both_low : x < 128 → y < 128 → DifferenceComesOut p lx ly ls x y r carry v
    both_low a b =
        let rx = read_plus p lx x first a in
        let ry = read_plus p ly y second b in
        beside (carry_bit h.first_byte h.second_byte) (d_beside x y r v (inl (a, b)) h.first_byte h.second_byte h.flag)
        (omega (arith, ints, rx, ry)) (λ q. omega (arith, q, top, a)) (λ q. omega (arith, q, top, bit, b))

    both_high : 128 ≤ x → 128 ≤ y → DifferenceComesOut p lx ly ls x y r carry v
    both_high a b =
        let rx = read_minus p lx x a in
        let ry = read_minus p ly y b in
        beside (carry_bit h.first_byte h.second_byte) (d_beside x y r v (inr (a, b)) h.first_byte h.second_byte h.flag)
        (omega (arith, ints, rx, ry)) (λ q. omega (arith, q, top, b, h.first_byte))
        (λ q. omega (arith, q, top, bit, a, h.second_byte))

    over : x < 128 → 128 ≤ y → DifferenceComesOut p lx ly ls x y r carry v
    over a b =
        let rx = read_plus p lx x first a in
        let ry = read_minus p ly y b in
        let one : carry ≡ 1 = omega (arith, top, bit, byte, a, b, h.second_byte) in
        let once : carry * (p * 256) ≡ 1 * (p * 256) = ap (λ t. t * (p * 256)) one in
        ⊎_elim
        (λ (o : (r < 128) × (v ≡ 0)).
        inl (record { clear = o.1; is = (let rs = read_plus p ls r result o.0 in omega (arith, ints, rx, ry, rs, difference, once)) }))
        (λ (o : (128 ≤ r) × (v ≡ 1)).
        let m : 128 * p ≤ r * p = mul-le 128 p r p o.0 (omega arith) in
        inr (inl (record {
          marked = o.1;
          carried = one;
          size = whole p ls r;
          is = omega (arith, ints, rx, ry, difference, once);
          more = omega (arith, m);
        })))
        (d_over x y r v a b h.second_byte byte h.flag)

    under : 128 ≤ x → y < 128 → DifferenceComesOut p lx ly ls x y r carry v
    under a b =
        let rx = read_minus p lx x a in
        let ry = read_plus p ly y second b in
        let none : carry ≡ 0 = omega (arith, top, bit, byte, a, b, h.first_byte) in
        let zero : carry * (p * 256) ≡ 0 * (p * 256) = ap (λ t. t * (p * 256)) none in
        ⊎_elim
        (λ (o : (128 ≤ r) × (v ≡ 0)).
        inl (record { clear = o.1; is = (let rs = read_minus p ls r o.0 in omega (arith, ints, rx, ry, rs, difference, zero)) }))
        (λ (o : (r < 128) × (v ≡ 1)).
        let m : r * p ≤ 127 * p = (let l = o.0 in mul-le r p 127 p (omega arith) (omega arith)) in
        inr (inr (record {
          marked = o.1;
          carried = none;
          size = p * 256 - whole p ls r - 1;
          is = omega (arith, ints, rx, ry, difference, zero, m, result);
          more = omega (arith, m, result);
        })))
        (d_under x y r v a h.first_byte b byte h.flag)

-- without a sign
pub plain_difference_out : (p lx ly ls x y r c carry v : ℕ) → Takes p lx ly ls x y r c carry v
    → ComesOut carry carry 2 1 (p * 256) 0 (pos (whole p ls r)) (pos (whole p lx x) -ℤ pos (whole p ly y))
plain_difference_out p lx ly ls x y r c carry v h =
    let difference = taken_off p lx ly ls x y r c carry v h in
    let top = h.top in
    let bit = h.bit in
    let byte = h.byte in
    let k = h.second_byte in
    let result = h.result in
    let m : r * p ≤ 255 * p = mul-le r p 255 p (omega arith) (omega arith) in
    ⊎_elim
    (λ (z : carry < 1).
    let none : carry ≡ 0 = omega arith in
    let zero : carry * (p * 256) ≡ 0 * (p * 256) = ap (λ t. t * (p * 256)) none in
    inl (record { clear = none; is = omega (arith, ints, difference, zero) }))
    (λ (z : 1 ≤ carry).
    let one : carry ≡ 1 = omega (arith, top, bit, byte, k) in
    let once : carry * (p * 256) ≡ 1 * (p * 256) = ap (λ t. t * (p * 256)) one in
    inr (inr (record {
      marked = one;
      carried = one;
      size = p * 256 - whole p ls r - 1;
      is = omega (arith, ints, difference, once, m, result);
      more = omega arith;
    })))
    (cases_lt carry 1)
