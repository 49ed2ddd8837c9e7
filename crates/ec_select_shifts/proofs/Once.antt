-- One turn of a shift, and many.
use Rattle.std.proofs.Common.{◌≡◌, ℕ, zero, suc, ◌+◌, ◌-◌, ◌*◌, ◌/◌, ◌%◌, ◌^◌, ◌<◌, ◌≤◌, ⊎_elim, Bool, true, false, sym, ap, ◌∙◌}
use Rattle.std.proofs.Common.{arith, leb-true, leb-false}
use Rattle.std.specs.Prelude.{nat_le, if◌then◌else◌}
use Rattle.std.proofs.lemmas.Bool.{cases_Bool, cases_lt, le-leb}
use Rattle.std.proofs.lemmas.Bool.Decides.{nat_tests}
use Rattle.std.proofs.lemmas.Nat.{div-add-mod', mod-mul-add, mul-le, shr-shr}
use native.Mathlib.Nat.{pow-suc}
use Rattle.ec_asm.specs.declared.pieces.Location.{Location}
use Rattle.ec_asm.specs.View.{View}
use Rattle.ec_asm.specs.Change.{Env, Own}
use Rattle.ec_asm.specs.Items.{block}
use Rattle.ec_asm.specs.Pieces.{StandsFrom, Keeps, value, sign_of}
use Rattle.ec_asm.specs.PieceLaws.{HoldsNumbers}
use Rattle.ec_asm.proofs.Halved.{halves_are_right}
use Rattle.ec_asm.proofs.Numbers.{mod_beside, pow_pos, value_below}
use Rattle.ec_asm.proofs.Results.{sums_are_right}
use Rattle.ec_select_shifts.specs.declared.shifts.Direction.{Direction}
use Rattle.ec_select_shifts.specs.declared.shifts.Direction.TheVariants.{Left, Right}
use Rattle.ec_select_shifts.specs.Shifts.{shifted_by, turn_code}
use Rattle.ec_select_shifts.proofs.Halves.{halves_are_bytes}

-- ---- numbers

abbrev pub once : Direction → (n x : ℕ) → ℕ
once Left n x = (x + x) % 256 ^ n
once (Right false) n x = x / 2
once (Right true) n x = if nat_le (256 ^ n) (2 * x) then (x + 256 ^ n) / 2 else x / 2

-- no turn
pub none : (s : Direction) (n x : ℕ) → x < 256 ^ n → shifted_by s n x 0 ≡ x
none Left n x l =
    let e : x * 2 ^ 0 ≡ 0 * 256 ^ n + x = omega arith in
    ap (λ t. t % 256 ^ n) e ∙ mod-mul-add 0 (256 ^ n) x l
none (Right false) n x l = omega arith
none (Right true) n x l =
    ⊎_elim (λ t. rw t (omega (arith, l))) (λ t. rw t (omega arith)) (cases_Bool (nat_le (256 ^ n) (2 * x)))

halves_again : (x k : ℕ) → x / 2 / 2 ^ k ≡ x / 2 ^ suc k
halves_again x k = let e : 1 + k ≡ suc k = omega arith in shr-shr x 1 k ∙ ap (λ j. x / 2 ^ j) e

-- a product of remainders
mod_times : (x c m : ℕ) → 0 < m → x % m * c % m ≡ x * c % m
mod_times x c m h =
    let d = div-add-mod' x m in
    let e : x * c ≡ (x / m * m + x % m) * c = ap (λ t. t * c) (sym d) in
    let f : x * c ≡ x / m * c * m + x % m * c = omega (arith, e) in
    sym (ap (λ t. t % m) f ∙ mod_beside (x / m * c) m (x % m * c) h)

-- a first turn, and k more
pub first_turn : (s : Direction) (n x k : ℕ) → 1 ≤ n → x < 256 ^ n → shifted_by s n (once s n x) k ≡ shifted_by s n x (suc k)
first_turn Left n x k some l =
    let s : 2 ^ suc k ≡ 2 ^ k * 2 = pow-suc 2 k in
    let e : (x + x) * 2 ^ k ≡ x * 2 ^ suc k = rw s (omega arith) in
    mod_times (x + x) (2 ^ k) (256 ^ n) (pow_pos n) ∙ ap (λ t. t % 256 ^ n) e
first_turn (Right false) n x k some l = halves_again x k
first_turn (Right true) (suc n) x k some l =
    let p = 256 ^ suc n in
    let even : p ≡ 2 * (128 * 256 ^ n) = omega (arith, pow-suc 256 n) in
    ⊎_elim
    (λ t.
    let g : p ≤ 2 * x = leb-true p (2 * x) t in
    let w = (x + p) / 2 in
    let u : nat_le p (2 * w) ≡ true = le-leb p (2 * w) (omega (arith, g, even)) in
    let c : p - 1 - w ≡ (p - 1 - x) / 2 = omega (arith, g, l, even) in
    rw (t, u, c) (ap (λ z. p - 1 - z) (halves_again (p - 1 - x) k)))
    (λ t.
    let g : 2 * x < p = leb-false p (2 * x) t in
    let w = x / 2 in
    let u : nat_le p (2 * w) ≡ false = not_le p (2 * w) (omega (arith, g)) in
    rw (t, u) (halves_again x k))
    (cases_Bool (nat_le p (2 * x)))
  where
    not_le : (a b : ℕ) → b < a → nat_le a b ≡ false
    not_le a b h = grind (arith, nat_tests)
first_turn (Right true) zero x k some l = absurd (omega arith)

-- ---- code

-- what a turn leaves
pub record Turns (s : Direction) (a n : ℕ) (v w : View) : Type 0 where
  pub number_is : value w.at a n ≡ once s n (value v.at a n)
  pub numbers : HoldsNumbers w
  pub keeps : Keeps v w a n

-- the top byte tells the sign
sign_is : (low top p : ℕ) → low < p → top < 256 → (if nat_le (p * 256) (2 * (low + top * p)) then (low + top * p + p * 256) / 2
    else (low + top * p) / 2) ≡ (low + top * p + top / 128 * (p * 256)) / 2
sign_is low top p l k =
    ⊎_elim
    (λ (g : top < 128).
    let m : top * p ≤ 127 * p = mul-le top p 127 p (omega arith) (omega arith) in
    let t : nat_le (p * 256) (2 * (low + top * p)) ≡ false = not_le (p * 256) (2 * (low + top * p)) (omega (arith, m, l)) in
    let z : top / 128 ≡ 0 = omega (arith, g) in
    rw (t, z) (omega arith))
    (λ (g : 128 ≤ top).
    let m : 128 * p ≤ top * p = mul-le 128 p top p (omega arith) (omega arith) in
    let t : nat_le (p * 256) (2 * (low + top * p)) ≡ true = le-leb (p * 256) (2 * (low + top * p)) (omega (arith, m)) in
    let z : top / 128 ≡ 1 = omega (arith, g, k) in
    rw (t, z) (omega arith))
    (cases_lt top 128)
  where
    not_le : (a b : ℕ) → b < a → nat_le a b ≡ false
    not_le a b h = grind (arith, nat_tests)

pub turned : (s : Direction) (e : Env) (p : Location) (n a : ℕ) (v : View) → StandsFrom e p (suc n) a Own → HoldsNumbers v
    → Turns s a (suc n) v (block e (turn_code s p (suc n)) v)
turned Left e p n a v st h =
    let r = sums_are_right e p p (suc n) a a v st st (λ l. absurd (omega arith)) h in
    record { number_is = r.1; numbers = r.0.bytes; keeps = r.0.keeps }
turned (Right signed) e p n a v st h =
    let r = halves_are_right signed e p n a v st h in
    let ua = st.clear in
    let top : v.at (a + n) < 256 = h (a + n) (omega arith) in
    let low : value v.at a n < 256 ^ n = value_below v.at a n (λ j l. h (a + j) (omega arith)) in
    record {
      number_is = r.0 ∙ halved signed (value v.at a n) (v.at (a + n)) low top;
      numbers = halves_are_bytes signed e p (suc n) a v st h;
      keeps = r.2;
    }
  where
    halved : (signed : Bool) (low top : ℕ) → low < 256 ^ n → top < 256
        → (low + top * 256 ^ n + sign_of signed top * 256 ^ suc n) / 2 ≡ once (Right signed) (suc n) (low + top * 256 ^ n)
    halved true low top l k =
        rw (pow-suc 256 n) (sym (sign_is low top (256 ^ n) l k))
    halved false low top l k = omega arith
