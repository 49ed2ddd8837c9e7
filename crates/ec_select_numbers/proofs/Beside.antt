-- A view with the bytes of a number beside all that the code touches: what the code does with a known number is what the
-- code of two numbers does there.
use Rattle.std.proofs.Common.{◌≡◌, ◌≢◌, ℕ, zero, suc, ◌+◌, ◌-◌, ◌*◌, ◌/◌, ◌%◌, ◌^◌, ◌<◌, ◌≤◌, Bool, true, false, refl}
use Rattle.std.proofs.Common.{sym, ap, ◌∙◌, arith}
use Rattle.std.specs.Prelude.{nat_le, if◌then◌else◌}
use Rattle.std.proofs.lemmas.Bool.{le-leb}
use Rattle.std.proofs.lemmas.Bool.Decides.{nat_tests}
use Rattle.std.proofs.lemmas.Nat.{div-add-mod', mod_below, mod-mul-add, mul-le}
use native.Mathlib.Nat.{pow-suc}
use Rattle.ec_asm.specs.declared.pieces.Location.TheVariants.{InRegisters}
use Rattle.ec_asm.specs.View.{View}
use Rattle.ec_asm.specs.Change.{Env, Own}
use Rattle.ec_asm.specs.Pieces.{StandsFrom, Outside, value}
use Rattle.ec_asm.specs.PieceLaws.{HoldsNumbers}
use Rattle.ec_asm.proofs.Numbers.{pow_pos}
use Rattle.ec_select_bytes.specs.Values.{byte_of}

pub byte_below : (number i : ℕ) → byte_of number i < 256
byte_below number i = mod_below (number / 256 ^ i) 256 (omega arith)

-- all from A on are the bytes of the number
abbrev pub beside : (A number : ℕ) → View → View
beside A number v = record v { at = λ k. if nat_le A k then byte_of number (k - A) else v.at k }

pub beside_there : (A number : ℕ) (v : View) (j : ℕ) → (beside A number v).at (A + j) ≡ byte_of number j
beside_there A number v j = by_test (nat_le A (A + j)) (le-leb A (A + j) (omega arith))
  where
    by_test : (b : Bool) → b ≡ true → (if b then byte_of number (A + j - A) else v.at (A + j)) ≡ byte_of number j
    by_test true q = let e : A + j - A ≡ j = omega arith in ap (byte_of number) e
    by_test false q = absurd cc

pub beside_below : (A number : ℕ) (v : View) (k : ℕ) → k < A → (beside A number v).at k ≡ v.at k
beside_below A number v k l = by_test (nat_le A k) (grind (arith, nat_tests))
  where
    by_test : (b : Bool) → b ≡ false → (if b then byte_of number (k - A) else v.at k) ≡ v.at k
    by_test true q = absurd cc
    by_test false q = refl

pub beside_bytes : (A number : ℕ) (v : View) → HoldsNumbers v → HoldsNumbers (beside A number v)
beside_bytes A number v h k l = by_test (nat_le A k)
  where
    by_test : (b : Bool) → (if b then byte_of number (k - A) else v.at k) < 256
    by_test true = byte_below number (k - A)
    by_test false = h k l

pub beside_stands : (e : Env) (A n : ℕ) → 2 ≤ A → StandsFrom e (InRegisters A) n A Own
beside_stands e A n l = record { at = λ i m. refl; kind = λ i m. refl; clear = l }

-- the same bytes, wherever they stand
pub value_moved : (f g : ℕ → ℕ) (a b n : ℕ) → ((j : ℕ) → j < n → f (a + j) ≡ g (b + j)) → value f a n ≡ value g b n
value_moved f g a b zero h = refl
value_moved f g a b (suc n) h =
    let x = value_moved f g a b n (λ j l. h j (omega arith)) in
    let y = h n (omega arith) in
    rw (x, y) refl

-- the low bytes of a number with one byte more
more_bytes : (x n : ℕ) → x % 256 ^ suc n ≡ x % 256 ^ n + byte_of x n * 256 ^ n
more_bytes x n =
    let p = 256 ^ n in
    let q = x / p in
    let a = div-add-mod' x p in
    let b = div-add-mod' q 256 in
    let low = mod_below x p (pow_pos n) in
    let d : q % 256 < 256 = mod_below q 256 (omega arith) in
    let e : q * p ≡ (q / 256 * 256 + q % 256) * p = ap (λ t. t * p) (sym b) in
    let r = x % p + q % 256 * p in
    let w : x ≡ q / 256 * (p * 256) + r = omega (arith, a, e) in
    let s : (q % 256 + 1) * p ≤ 256 * p = mul-le (q % 256 + 1) p 256 p (omega arith) (omega arith) in
    let small : r < p * 256 = omega (arith, low, s) in
    rw (pow-suc 256 n) (ap (λ t. t % (p * 256)) w ∙ mod-mul-add (q / 256) (p * 256) r small)

bytes_of : (f : ℕ → ℕ) (a n x : ℕ) → ((j : ℕ) → j < n → f (a + j) ≡ byte_of x j) → value f a n ≡ x % 256 ^ n
bytes_of f a zero x h = let e : x % 1 ≡ 0 = omega arith in sym e
bytes_of f a (suc n) x h =
    let p = bytes_of f a n x (λ j l. h j (omega arith)) in
    let q = h n (omega arith) in
    rw (p, q) (sym (more_bytes x n))

pub number_beside : (A number n : ℕ) (v : View) → value (beside A number v).at A n ≡ number % 256 ^ n
number_beside A number n v = bytes_of (beside A number v).at A n number (λ j l. beside_there A number v j)

pub place_beside : (A number a n : ℕ) (v : View) → a + n ≤ A → value (beside A number v).at a n ≡ value v.at a n
place_beside A number a n v far =
    value_moved (beside A number v).at v.at a a n (λ j l. beside_below A number v (a + j) (omega arith))

-- ---- where the number stands: past n bytes from a, and past R30

abbrev pub past : (a n : ℕ) → ℕ
past a n = a + n + 31

pub below_past : (a n j : ℕ) → j < n → a + j < past a n
below_past a n j l = omega arith

pub bytes_below_past : (a n : ℕ) → a + n ≤ past a n
bytes_below_past a n = omega arith

pub past_clear : (a n j : ℕ) → 2 ≤ past a n + j
past_clear a n j = omega arith

pub past_stands : (a n : ℕ) → 2 ≤ past a n
past_stands a n = omega arith

pub past_other : (a n j k : ℕ) → k ≤ 1 → past a n + j ≢ k
past_other a n j k l q = omega arith

pub past_place : (a n i j : ℕ) → i < n → past a n + j ≢ a + i
past_place a n i j l q = omega arith

pub place_other : (a n i k : ℕ) → 2 ≤ a → k ≤ 1 → a + i ≢ k
place_other a n i k c l q = omega arith

pub other_place : (a i j : ℕ) → j ≢ i → a + j ≢ a + i
other_place a i j h q = h (omega arith)

pub place_clear : (a i : ℕ) → 2 ≤ a → 2 ≤ a + i
place_clear a i l = omega arith

pub off_work : (a n j : ℕ) → Outside a n 30 → j < n → a + j ≢ 30
off_work a n j h l q = grind arith

pub not_before : (a n : ℕ) → past a n < a → ⊥
not_before a n q = omega arith
