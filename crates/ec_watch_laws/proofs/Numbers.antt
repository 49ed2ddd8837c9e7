-- A number by its bytes.
use Rattle.std.proofs.Common.{◌≡◌, ℕ, zero, suc, ◌+◌, ◌-◌, ◌*◌, ◌/◌, ◌%◌, ◌^◌, ◌<◌, ◌⊎◌, inl, inr, Bool, true, false, ℤ, pos, negsuc}
use Rattle.std.proofs.Common.{List, [], ◌∷◌, refl, sym, ap, ◌∙◌, subst, arith}
use Rattle.std.specs.Prelude.{take, drop, slice_index, slice_range, Some}
use Rattle.std.specs.Int.{w8, w16, w32, w64, cast_signed}
use Rattle.std.proofs.lemmas.Int.{ints}
use Rattle.std.proofs.Math.Nat.{pow-succ'}
use Rattle.ec_fx.specs.Ranges.{IsWithin}
use Rattle.ec_fx.specs.Formats.{format_of}
use Rattle.ec_fx.specs.declared.formats.FxKind.{FxKind}
use Rattle.ec_fx.specs.declared.formats.FxKind.TheVariants as kinds
use Rattle.ec_space.specs.Bytes.{number_of}
use Rattle.ec_core.specs.declared.arithmetic_types.Arithmetic.{Arithmetic}
use Rattle.ec_core.specs.declared.arithmetic_types.Arithmetic.TheVariants.{Integer, Fixed}
use Rattle.ec_core.specs.ArithmeticTypes.{arithmetic_of}
use Rattle.ec_core.specs.ArithmeticValues.{HoldsNumber}
use Rattle.ec_core.specs.Layout.{scalar_size}
use Rattle.ec_core.specs.Plain.{PlainType, void, integer, fixed, pointer, array, struct}
use Rattle.ec_emu_watch.specs.Points.{number_by}
use Rattle.ec_ir.specs.Temporaries.{low_bytes}
use Rattle.ec_watch_points.specs.Numbers.{is_signed}

-- ---- the number that the bytes from one on make

-- the bytes from one on, each by its place
abbrev pub sum_of : (ℕ → ℕ) → (at n : ℕ) → ℕ
sum_of f at zero = 0
sum_of f at (suc n) = sum_of f at n + f (at + n) * 256 ^ n

one_more : (n : ℕ) (bytes : List ℕ) → number_of (take (suc n) bytes) ≡ number_of (take n bytes) + slice_index bytes n * 256 ^ n
one_more zero [] = omega arith
one_more zero (byte ∷ bytes) = omega arith
one_more (suc n) [] = omega arith
one_more (suc n) (byte ∷ bytes) =
    let rest = one_more n bytes in
    let power = pow-succ' 256 n in
    let worth : slice_index bytes n * 256 ^ suc n ≡ 256 * (slice_index bytes n * 256 ^ n) = rw power (omega arith) in
    omega (arith, rest, worth)

past_drop : (xs : List ℕ) (at n : ℕ) → slice_index (drop at xs) n ≡ slice_index xs (at + n)
past_drop xs zero n = ap (slice_index xs) (let e : n ≡ 0 + n = omega arith in e)
past_drop [] (suc at) n = refl
past_drop (x ∷ xs) (suc at) n =
    past_drop xs at n ∙ ap (slice_index (x ∷ xs)) (let e : suc (at + n) ≡ suc at + n = omega arith in e)

taken : (xs : List ℕ) (at n : ℕ) → number_of (take n (drop at xs)) ≡ sum_of (slice_index xs) at n
taken xs at zero = refl
taken xs at (suc n) =
    one_more n (drop at xs) ∙ ap (λ z. z + slice_index (drop at xs) n * 256 ^ n) (taken xs at n)
    ∙ ap (λ z. sum_of (slice_index xs) at n + z * 256 ^ n) (past_drop xs at n)

pub number_there : (xs : List ℕ) (at n : ℕ) → number_of (slice_range xs at (at + n)) ≡ sum_of (slice_index xs) at n
number_there xs at n =
    ap (λ z. number_of (take z (drop at xs))) (let e : at + n - at ≡ n = omega arith in e) ∙ taken xs at n

-- ---- the bytes of a number, for each width that there is

abbrev pub AreBytesOf : (ℕ → ℕ) → (at n number : ℕ) → Type 0
AreBytesOf f at n number = (i : ℕ) → i < n → f (at + i) ≡ number / 256 ^ i % 256

one_byte : (f : ℕ → ℕ) (at x : ℕ) → x < 256 → AreBytesOf f at 1 x → sum_of f at 1 ≡ x
one_byte f at x l h =
    let b : f (at + 0) ≡ x / 1 % 256 = h 0 (omega arith) in
    omega (arith, l, b)

two_bytes : (f : ℕ → ℕ) (at x : ℕ) → x < 65536 → AreBytesOf f at 2 x → sum_of f at 2 ≡ x
two_bytes f at x l h =
    let b : f (at + 0) ≡ x / 1 % 256 = h 0 (omega arith) in
    let b1 : f (at + 1) ≡ x / 256 % 256 = h 1 (omega arith) in
    omega (arith, l, b, b1)

four_bytes : (f : ℕ → ℕ) (at x : ℕ) → x < 4294967296 → AreBytesOf f at 4 x → sum_of f at 4 ≡ x
four_bytes f at x l h =
    let b : f (at + 0) ≡ x / 1 % 256 = h 0 (omega arith) in
    let b1 : f (at + 1) ≡ x / 256 % 256 = h 1 (omega arith) in
    let b2 : f (at + 2) ≡ x / 65536 % 256 = h 2 (omega arith) in
    let b3 : f (at + 3) ≡ x / 16777216 % 256 = h 3 (omega arith) in
    omega (arith, l, b, b1, b2, b3)

eight_bytes : (f : ℕ → ℕ) (at x : ℕ) → x < 18446744073709551616 → AreBytesOf f at 8 x → sum_of f at 8 ≡ x
eight_bytes f at x l h =
    let b : f (at + 0) ≡ x / 1 % 256 = h 0 (omega arith) in
    let b1 : f (at + 1) ≡ x / 256 % 256 = h 1 (omega arith) in
    let b2 : f (at + 2) ≡ x / 65536 % 256 = h 2 (omega arith) in
    let b3 : f (at + 3) ≡ x / 16777216 % 256 = h 3 (omega arith) in
    let b4 : f (at + 4) ≡ x / 4294967296 % 256 = h 4 (omega arith) in
    let b5 : f (at + 5) ≡ x / 1099511627776 % 256 = h 5 (omega arith) in
    let b6 : f (at + 6) ≡ x / 281474976710656 % 256 = h 6 (omega arith) in
    let b7 : f (at + 7) ≡ x / 72057594037927936 % 256 = h 7 (omega arith) in
    omega (arith, l, b, b1, b2, b3, b4, b5, b6, b7)

-- ---- the low bytes of a number of a type stand for it

-- of a number in range, at n bytes: they are below 256 ^ n, and what they stand for is the number
abbrev Back : (signed : Bool) → (n : ℕ) → Type 0
Back signed n =
    (f : ℕ → ℕ) (at : ℕ) (z : ℤ) → IsWithin signed (8 * n) z → AreBytesOf f at n (low_bytes n z)
    → number_by signed n (sum_of f at n) ≡ z

low_one : (z : ℤ) → low_bytes 1 z < 256
low_one (pos a) = omega arith
low_one (negsuc a) = omega arith

low_two : (z : ℤ) → low_bytes 2 z < 65536
low_two (pos a) = omega arith
low_two (negsuc a) = omega arith

low_four : (z : ℤ) → low_bytes 4 z < 4294967296
low_four (pos a) = omega arith
low_four (negsuc a) = omega arith

low_eight : (z : ℤ) → low_bytes 8 z < 18446744073709551616
low_eight (pos a) = omega arith
low_eight (negsuc a) = omega arith

one_signed : (z : ℤ) → IsWithin true 8 z → cast_signed w8 (low_bytes 1 z) ≡ z
one_signed (pos a) h = let b = h.high in grind (arith, ints, b)
one_signed (negsuc a) h = let b = h.low in grind (arith, ints, b)

two_signed : (z : ℤ) → IsWithin true 16 z → cast_signed w16 (low_bytes 2 z) ≡ z
two_signed (pos a) h = let b = h.high in grind (arith, ints, b)
two_signed (negsuc a) h = let b = h.low in grind (arith, ints, b)

four_signed : (z : ℤ) → IsWithin true 32 z → cast_signed w32 (low_bytes 4 z) ≡ z
four_signed (pos a) h = let b = h.high in grind (arith, ints, b)
four_signed (negsuc a) h = let b = h.low in grind (arith, ints, b)

eight_signed : (z : ℤ) → IsWithin true 64 z → cast_signed w64 (low_bytes 8 z) ≡ z
eight_signed (pos a) h = let b = h.high in grind (arith, ints, b)
eight_signed (negsuc a) h = let b = h.low in grind (arith, ints, b)

one_plain : (z : ℤ) → IsWithin false 8 z → pos (low_bytes 1 z) ≡ z
one_plain (pos a) h = let b = h.high in grind (arith, ints, b)
one_plain (negsuc a) h = let b = h.low in absurd (omega (arith, ints, b))

two_plain : (z : ℤ) → IsWithin false 16 z → pos (low_bytes 2 z) ≡ z
two_plain (pos a) h = let b = h.high in grind (arith, ints, b)
two_plain (negsuc a) h = let b = h.low in absurd (omega (arith, ints, b))

four_plain : (z : ℤ) → IsWithin false 32 z → pos (low_bytes 4 z) ≡ z
four_plain (pos a) h = let b = h.high in grind (arith, ints, b)
four_plain (negsuc a) h = let b = h.low in absurd (omega (arith, ints, b))

eight_plain : (z : ℤ) → IsWithin false 64 z → pos (low_bytes 8 z) ≡ z
eight_plain (pos a) h = let b = h.high in grind (arith, ints, b)
eight_plain (negsuc a) h = let b = h.low in absurd (omega (arith, ints, b))

back_one : (s : Bool) → Back s 1
back_one true f at z r h = ap (cast_signed w8) (one_byte f at (low_bytes 1 z) (low_one z) h) ∙ one_signed z r
back_one false f at z r h = ap pos (one_byte f at (low_bytes 1 z) (low_one z) h) ∙ one_plain z r

back_two : (s : Bool) → Back s 2
back_two true f at z r h = ap (cast_signed w16) (two_bytes f at (low_bytes 2 z) (low_two z) h) ∙ two_signed z r
back_two false f at z r h = ap pos (two_bytes f at (low_bytes 2 z) (low_two z) h) ∙ two_plain z r

back_four : (s : Bool) → Back s 4
back_four true f at z r h = ap (cast_signed w32) (four_bytes f at (low_bytes 4 z) (low_four z) h) ∙ four_signed z r
back_four false f at z r h = ap pos (four_bytes f at (low_bytes 4 z) (low_four z) h) ∙ four_plain z r

back_eight : (s : Bool) → Back s 8
back_eight true f at z r h = ap (cast_signed w64) (eight_bytes f at (low_bytes 8 z) (low_eight z) h) ∙ eight_signed z r
back_eight false f at z r h = ap pos (eight_bytes f at (low_bytes 8 z) (low_eight z) h) ∙ eight_plain z r

-- the type holds the number, whose low bytes stand from an address on: they stand for it
pub number_back : (leaf : PlainType) (ty : Arithmetic) (f : ℕ → ℕ) (at : ℕ) (z : ℤ) → arithmetic_of leaf ≡ Some ty → HoldsNumber ty z
    → AreBytesOf f at (scalar_size leaf) (low_bytes (scalar_size leaf) z)
    → number_by (is_signed ty) (scalar_size leaf) (sum_of f at (scalar_size leaf)) ≡ z
number_back void ty f at z e holds h = cc
number_back (pointer space const to) ty f at z e holds h = cc
number_back (array of len) ty f at z e holds h = cc
number_back (struct index) ty f at z e holds h = cc
number_back (integer signed bytes) (Fixed t) f at z e holds h = cc
number_back (fixed kind saturates) (Integer t) f at z e holds h = cc
number_back (integer signed bytes) (Integer t) f at z e holds h =
    let s : t.signed ≡ signed = cc in
    let b : t.bytes ≡ bytes = cc in
    subst (λ x. number_by x bytes (sum_of f at bytes) ≡ z) (sym s)
    (by_width bytes (subst (λ n. (n ≡ 1) ⊎ ((n ≡ 2) ⊎ (n ≡ 4))) b holds.0)
    (subst (λ n. IsWithin signed (8 * n) z) b (subst (λ x. IsWithin x (8 * t.bytes) z) s holds.1)) h)
  where
    by_width : (n : ℕ) → (n ≡ 1) ⊎ ((n ≡ 2) ⊎ (n ≡ 4)) → IsWithin signed (8 * n) z → AreBytesOf f at n (low_bytes n z)
        → number_by signed n (sum_of f at n) ≡ z
    by_width n (inl q) r g = subst (Back signed) (sym q) (back_one signed) f at z r g
    by_width n (inr (inl q)) r g = subst (Back signed) (sym q) (back_two signed) f at z r g
    by_width n (inr (inr q)) r g = subst (Back signed) (sym q) (back_four signed) f at z r g
number_back (fixed kind saturates) (Fixed t) f at z e holds h =
    let k : t.kind ≡ kind = cc in
    subst (λ x. number_by (format_of x).signed (scalar_size (fixed kind saturates)) (sum_of f at (scalar_size (fixed kind saturates))) ≡ z)
    (sym k) (by_kind kind (subst (λ x. IsWithin (format_of x).signed (format_of x).bits z) k holds) h)
  where
    by_kind : (k : FxKind) → IsWithin (format_of k).signed (format_of k).bits z
        → AreBytesOf f at ((format_of k).bits / 8) (low_bytes ((format_of k).bits / 8) z)
        → number_by (format_of k).signed ((format_of k).bits / 8) (sum_of f at ((format_of k).bits / 8)) ≡ z
    by_kind kinds.ShortFract r g = back_one true f at z r g
    by_kind kinds.Fract r g = back_two true f at z r g
    by_kind kinds.LongFract r g = back_four true f at z r g
    by_kind kinds.ShortAccum r g = back_two true f at z r g
    by_kind kinds.Accum r g = back_four true f at z r g
    by_kind kinds.LongAccum r g = back_eight true f at z r g
    by_kind kinds.UnsignedShortFract r g = back_one false f at z r g
    by_kind kinds.UnsignedFract r g = back_two false f at z r g
    by_kind kinds.UnsignedLongFract r g = back_four false f at z r g
    by_kind kinds.UnsignedShortAccum r g = back_two false f at z r g
    by_kind kinds.UnsignedAccum r g = back_four false f at z r g
    by_kind kinds.UnsignedLongAccum r g = back_eight false f at z r g
