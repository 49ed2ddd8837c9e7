-- Quotients and remainders.
use Rattle.std.proofs.Common.{◌≡◌, ℕ, zero, suc, ◌+◌, ◌-◌, ◌*◌, ◌/◌, ◌%◌, ◌^◌, ◌<◌, ◌≤◌, ◌⊎◌, inl, inr, Bool, true}
use Rattle.std.proofs.Common.{false, ℤ, pos, negsuc, neg_ℤ, ◌+ℤ◌, ◌-ℤ◌, refl, sym, ap, ◌∙◌, arith, ⊎_elim, leb-true}
use Rattle.std.proofs.Common.{leb-false, bit_xor}
use Rattle.std.specs.Prelude.{nat_le, int_div, int_rem}
use Rattle.std.proofs.lemmas.Int.{ints}
use Rattle.std.proofs.lemmas.Nat.{mod_below, div-add-mod', mul-le, xor_shr}
use Rattle.std.proofs.lemmas.Bool.{cases_Bool, cases_lt}
use Rattle.std.proofs.lemmas.Bool.Decides.{nat_tests}
use Rattle.std.specs.Ordering.{int_eq}
use Rattle.std.proofs.Math.Nat.{div-le_self}
use native.Mathlib.Nat.{pow-suc}
use Rattle.ec_asm.proofs.Numbers.{pow_pos}
use Rattle.ec_core.specs.Integers.{wrapped}
use Rattle.ec_ir.specs.Temporaries.{low_bytes, number_of_bytes}
use Rattle.ec_select_quotients.specs.Signs.{negated_if, top_byte, part_of, sign_byte, quotient_of}
use Rattle.ec_select_functions.proofs.Wrapped.{Lifts, low_of, low_of_wrapped, kept_below, of_type}

-- a number of top + 1 bytes by its sign and its magnitude
record Plus (top x : ℕ) (n : ℤ) : Type 0 where
  number : n ≡ pos x
  clear : top_byte top x / 128 ≡ 0

record Minus (top x : ℕ) (n : ℤ) : Type 0 where
  rest : ℕ
  number : n ≡ negsuc rest
  whole : suc rest + x ≡ 256 ^ suc top
  some : 1 ≤ x
  set : top_byte top x / 128 ≡ 1

signed_is : (top x : ℕ) → x < 256 ^ suc top
    → Plus top x (number_of_bytes true (suc top) x) ⊎ Minus top x (number_of_bytes true (suc top) x)
signed_is top x l =
    let p = 256 ^ top in
    let s : 256 ^ suc top ≡ p * 256 = pow-suc 256 top in
    let some = pow_pos top in
    let d = div-add-mod' x p in
    let r = mod_below x p some in
    let t = x / p in
    let below : t < 256 = small t p x (omega (arith, l, s)) d in
    ⊎_elim
    (λ q.
    let g : 256 ^ suc top ≤ 2 * x = leb-true (256 ^ suc top) (2 * x) q in
    let high : 128 ≤ t = above t p (x % p) r (omega (arith, g, s, d)) in
    inr (record {
      rest = 256 ^ suc top - 1 - x;
      number = rw q (down x (256 ^ suc top) l);
      whole = omega (arith, l);
      some = omega (arith, g, s, some);
      set = omega (arith, high, below);
    }))
    (λ q.
    let g : 2 * x < 256 ^ suc top = leb-false (256 ^ suc top) (2 * x) q in
    let low : t < 128 = under t p (x % p) (omega (arith, g, s, d)) in
    inl (record { number = rw q refl; clear = omega (arith, low) }))
    (cases_Bool (nat_le (256 ^ suc top) (2 * x)))
  where
    down : (x p : ℕ) → x < p → pos x -ℤ pos p ≡ negsuc (p - 1 - x)
    down x p l = omega (arith, ints, l)

    small : (t p x : ℕ) → x < p * 256 → t * p + x % p ≡ x → t < 256
    small t p x l d =
        ⊎_elim (λ (g : t < 256). g)
        (λ (g : 256 ≤ t). let m : 256 * p ≤ t * p = mul-le 256 p t p g (omega arith) in absurd (omega (arith, m, l, d))) (cases_lt t 256)

    above : (t p r : ℕ) → r < p → p * 256 ≤ 2 * (t * p + r) → 128 ≤ t
    above t p r l g =
        ⊎_elim (λ (q : t < 128). let m : t * p ≤ 127 * p = mul-le t p 127 p (omega arith) (omega arith) in absurd (omega (arith, m, l, g)))
        (λ (q : 128 ≤ t). q) (cases_lt t 128)

    under : (t p r : ℕ) → 2 * (t * p + r) < p * 256 → t < 128
    under t p r g =
        ⊎_elim (λ (q : t < 128). q)
        (λ (q : 128 ≤ t). let m : 128 * p ≤ t * p = mul-le 128 p t p q (omega arith) in absurd (omega (arith, m, g))) (cases_lt t 128)

-- what a quotient or a remainder of integers is
abbrev pub int_part : Bool → ℤ → ℤ → ℤ
int_part true m n = int_rem m n
int_part false m n = int_div m n

abbrev signed_by : ℕ → ℕ → ℤ
signed_by zero q = pos q
signed_by (suc s) q = neg_ℤ (pos q)

minus_once : (q p : ℕ) → q ≤ p → neg_ℤ (pos q) +ℤ pos (1 * p) ≡ pos (p - q)
minus_once q p l = omega (arith, ints, l)

-- the low bytes of a number with a sign
low_signed : (s : Bool) (sign n q : ℕ) → q < 256 ^ n
    → low_bytes n (wrapped (of_type s n) (signed_by sign q)) ≡ negated_if sign n q
low_signed s zero n q l =
    let f : Lifts (pos q) n q = record { k = 0; is = omega (arith, ints) } in
    low_of_wrapped s n (pos q) ∙ low_of (pos q) n q f ∙ kept_below q (256 ^ n) l
low_signed s (suc k) n q l =
    let f : Lifts (neg_ℤ (pos q)) n (256 ^ n - q) = record { k = 1; is = minus_once q (256 ^ n) (omega arith) } in
    low_of_wrapped s n (neg_ℤ (pos q)) ∙ low_of (neg_ℤ (pos q)) n (256 ^ n - q) f

-- the magnitude of a negative number
magnitude : (top x rest : ℕ) → suc rest + x ≡ 256 ^ suc top → 1 ≤ x → negated_if 1 (suc top) x ≡ suc rest
magnitude top x rest e some =
    let q : 256 ^ suc top - x ≡ suc rest = omega arith in
    ap (λ t. t % 256 ^ suc top) q ∙ kept_below (suc rest) (256 ^ suc top) (omega (arith, e, some))

plus_plus : (r : Bool) (x z : ℕ) → int_part r (pos x) (pos z) ≡ signed_by 0 (part_of r x z)
plus_plus true x z = refl
plus_plus false x z = refl

plus_minus : (x z : ℕ) → (int_div (pos x) (negsuc z) ≡ neg_ℤ (pos (x / suc z))) × (int_rem (pos x) (negsuc z) ≡ pos (x % suc z))
plus_minus x z = (refl, refl)

minus_plus : (x z : ℕ) → (int_div (negsuc x) (pos z) ≡ neg_ℤ (pos (suc x / z))) × (int_rem (negsuc x) (pos z) ≡ neg_ℤ (pos (suc x % z)))
minus_plus x z = (refl, refl)

minus_minus : (x z : ℕ)
    → (int_div (negsuc x) (negsuc z) ≡ pos (suc x / suc z)) × (int_rem (negsuc x) (negsuc z) ≡ neg_ℤ (pos (suc x % suc z)))
minus_minus x z = (refl, refl)

-- a result by its sign and its magnitude
assembled : (r s : Bool) (top x z mx mz sign : ℕ) (n : ℤ) → negated_if (top_byte top x / 128) (suc top) x ≡ mx
    → negated_if (top_byte top z / 128) (suc top) z ≡ mz → sign_byte r top x z / 128 ≡ sign
    → n ≡ signed_by sign (part_of r mx mz) → part_of r mx mz < 256 ^ suc top
    → low_bytes (suc top) (wrapped (of_type s (suc top)) n) ≡ quotient_of r true top x z
assembled r s top x z mx mz sign n ex ez es en l =
    ap (λ t. low_bytes (suc top) (wrapped (of_type s (suc top)) t)) en ∙ low_signed s sign (suc top) (part_of r mx mz) l
    ∙ sym
    (ap
    (λ t. negated_if t (suc top)
    (part_of r (negated_if (top_byte top x / 128) (suc top) x) (negated_if (top_byte top z / 128) (suc top) z))) es
    ∙ ap (λ t. negated_if sign (suc top) (part_of r t (negated_if (top_byte top z / 128) (suc top) z))) ex
    ∙ ap (λ t. negated_if sign (suc top) (part_of r mx t)) ez)

part_below : (r : Bool) (x z p : ℕ) → x < p → 1 ≤ z → z < p → part_of r x z < p
part_below true x z p l some k = let q = mod_below x z some in omega (arith, q, k)
part_below false x z p l some k = let q = div-le_self x z in omega (arith, q, l)

-- the sign of a quotient
crossed : (top x z a b : ℕ) → top_byte top x / 128 ≡ a → top_byte top z / 128 ≡ b
    → sign_byte false top x z / 128 ≡ bit_xor a b
crossed top x z a b p q =
    xor_shr (top_byte top x) (top_byte top z) 7 ∙ ap (λ t. bit_xor t (top_byte top z / 128)) p ∙ ap (bit_xor a) q

signed_part : (r s : Bool) (top x z : ℕ) (m n : ℤ) → x < 256 ^ suc top → z < 256 ^ suc top → 1 ≤ z
    → (Plus top x m ⊎ Minus top x m) → (Plus top z n ⊎ Minus top z n)
    → low_bytes (suc top) (wrapped (of_type s (suc top)) (int_part r m n)) ≡ quotient_of r true top x z
signed_part true s top x z m n l k some (inl p) (inl q) =
    assembled true s top x z x z 0 (int_part true m n) (rw (p.clear) refl) (rw (q.clear) refl) (p.clear) (rw (p.number, q.number) refl)
    (part_below true x z (256 ^ suc top) l some k)
signed_part false s top x z m n l k some (inl p) (inl q) =
    assembled false s top x z x z 0 (int_part false m n) (rw (p.clear) refl) (rw (q.clear) refl) (crossed top x z 0 0 p.clear q.clear)
    (rw (p.number, q.number) refl) (part_below false x z (256 ^ suc top) l some k)
signed_part true s top x z m n l k some (inl p) (inr q) =
    let e = q.whole in
    let mz = suc q.rest in
    assembled true s top x z x mz 0 (int_part true m n) (rw (p.clear) refl)
    (ap (λ t. negated_if t (suc top) z) q.set ∙ magnitude top z q.rest q.whole some) (p.clear) (rw (p.number, q.number) refl)
    (part_below true x mz (256 ^ suc top) l (omega arith) (omega (arith, e, some)))
signed_part false s top x z m n l k some (inl p) (inr q) =
    let e = q.whole in
    let mz = suc q.rest in
    assembled false s top x z x mz 1 (int_part false m n) (rw (p.clear) refl)
    (ap (λ t. negated_if t (suc top) z) q.set ∙ magnitude top z q.rest q.whole some) (crossed top x z 0 1 p.clear q.set)
    (rw (p.number, q.number) refl) (part_below false x mz (256 ^ suc top) l (omega arith) (omega (arith, e, some)))
signed_part true s top x z m n l k some (inr p) (inl q) =
    let e = p.whole in
    let i = p.some in
    let mx = suc p.rest in
    assembled true s top x z mx z 1 (int_part true m n) (ap (λ t. negated_if t (suc top) x) p.set ∙ magnitude top x p.rest p.whole p.some)
    (rw (q.clear) refl) (p.set) (rw (p.number, q.number) refl) (part_below true mx z (256 ^ suc top) (omega (arith, e, i)) some k)
signed_part false s top x z m n l k some (inr p) (inl q) =
    let e = p.whole in
    let i = p.some in
    let mx = suc p.rest in
    assembled false s top x z mx z 1 (int_part false m n)
    (ap (λ t. negated_if t (suc top) x) p.set ∙ magnitude top x p.rest p.whole p.some) (rw (q.clear) refl)
    (crossed top x z 1 0 p.set q.clear) (rw (p.number, q.number) refl) (part_below false mx z (256 ^ suc top) (omega (arith, e, i)) some k)
signed_part true s top x z m n l k some (inr p) (inr q) =
    let e = p.whole in
    let i = p.some in
    let f = q.whole in
    let mx = suc p.rest in
    let mz = suc q.rest in
    assembled true s top x z mx mz 1 (int_part true m n) (ap (λ t. negated_if t (suc top) x) p.set ∙ magnitude top x p.rest p.whole p.some)
    (ap (λ t. negated_if t (suc top) z) q.set ∙ magnitude top z q.rest q.whole some) (p.set) (rw (p.number, q.number) refl)
    (part_below true mx mz (256 ^ suc top) (omega (arith, e, i)) (omega arith) (omega (arith, f, some)))
signed_part false s top x z m n l k some (inr p) (inr q) =
    let e = p.whole in
    let i = p.some in
    let f = q.whole in
    let mx = suc p.rest in
    let mz = suc q.rest in
    assembled false s top x z mx mz 0 (int_part false m n)
    (ap (λ t. negated_if t (suc top) x) p.set ∙ magnitude top x p.rest p.whole p.some)
    (ap (λ t. negated_if t (suc top) z) q.set ∙ magnitude top z q.rest q.whole some) (crossed top x z 1 1 p.set q.set)
    (rw (p.number, q.number) refl) (part_below false mx mz (256 ^ suc top) (omega (arith, e, i)) (omega arith) (omega (arith, f, some)))

pub quotient_low : (r signed s : Bool) (top x z : ℕ) → x < 256 ^ suc top → z < 256 ^ suc top → 1 ≤ z
    → low_bytes (suc top)
    (wrapped (of_type s (suc top)) (int_part r (number_of_bytes signed (suc top) x) (number_of_bytes signed (suc top) z)))
    ≡ quotient_of r signed top x z
quotient_low r false s top x z l k some =
    ap (λ t. low_bytes (suc top) (wrapped (of_type s (suc top)) t)) (plus_plus r x z)
    ∙ low_signed s 0 (suc top) (part_of r x z) (part_below r x z (256 ^ suc top) l some k)
quotient_low r true s top x z l k some =
    signed_part r s top x z (number_of_bytes true (suc top) x) (number_of_bytes true (suc top) z) l k some (signed_is top x l)
    (signed_is top z k)

negated_below : (sign n q : ℕ) → q < 256 ^ n → negated_if sign n q < 256 ^ n
negated_below zero n q l = l
negated_below (suc s) n q l = mod_below (256 ^ n - q) (256 ^ n) (pow_pos n)

-- a divisor that is not 0
pub not_zero : (signed : Bool) (b low : ℕ) → int_eq (number_of_bytes signed b low) (pos 0) ≡ false → 1 ≤ low
not_zero signed b zero h = absurd (by_sign signed h)
  where
    small : nat_le (256 ^ b) (2 * 0) ≡ false
    small = let p = pow_pos b in grind (arith, nat_tests)

    by_sign : (signed : Bool) → int_eq (number_of_bytes signed b 0) (pos 0) ≡ false → ⊥
    by_sign false h = cc
    by_sign true h = (let g : int_eq (pos 0) (pos 0) ≡ false = (rw small at h) in cc)
not_zero signed b (suc low) h = omega arith
