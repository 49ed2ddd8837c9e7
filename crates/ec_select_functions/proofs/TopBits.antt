-- A shift to the right that leaves only the highest bit of a number, of which one byte is needed.
use Rattle.std.proofs.Common.{◌≡◌, ◌≢◌, ℕ, zero, suc, ◌+◌, ◌-◌, ◌*◌, ◌/◌, ◌%◌, ◌^◌, ◌<◌, ◌≤◌, ◌==◌, Bool, true, false, not, ◌&&◌}
use Rattle.std.proofs.Common.{⊎_elim, refl, sym, ap, ◌∙◌, subst, arith, bit_xor, nat_lt, eqb-true, pow-add}
use Rattle.std.proofs.lemmas.Bool.{and_parts, cases_eq}
use Rattle.std.proofs.lemmas.Bool.Decides.{nat_tests}
use Rattle.std.proofs.lemmas.Nat.{div_below, mod_below}
use Rattle.std.proofs.Math.Nat.{div-div-eq-div-mul}
use native.Mathlib.Nat.{pow-suc}
use lib.Bits.{xor_self}
use Rattle.ec_asm.specs.declared.pieces.Location.{Location}
use Rattle.ec_asm.specs.declared.pieces.Location.TheVariants.{InRegisters, InMemory}
use Rattle.ec_asm.specs.View.{View}
use Rattle.ec_asm.specs.Change.{Env, set_both, sum_flags, result_flags}
use Rattle.ec_asm.specs.Items.{block}
use Rattle.ec_asm.specs.PieceLaws.{HoldsNumbers}
use Rattle.ec_asm.proofs.Bytes.{put_here, put_other}
use Rattle.ec_asm.proofs.Numbers.{pow_pos}
use Rattle.ec_avr.specs.Flags.{byte_sum}
use Rattle.ec_select_operations.specs.Code.{leaves_bit, top_bit_code}
use Rattle.ec_select_functions.proofs.Wrapped.{kept_below, powers}

-- ---- where the code does so

pub record LeavesBit (s : Bool) (q : Location) (n w k : ℕ) : Type 0 where
  pub register : ℕ
  pub is : q ≡ InRegisters register
  pub more : 1 < n
  pub plain : s ≡ false
  pub one : w ≡ 1
  pub count : k + 1 ≡ 8 * n

pub leaves_top_bit : (s : Bool) (q : Location) (n w k : ℕ) → leaves_bit s q n w k ≡ true → LeavesBit s q n w k
leaves_top_bit s (InMemory o j) n w k q = absurd cc
leaves_top_bit s (InRegisters r) n w k q =
    let a = and_parts (nat_lt 1 n) (not s && (w == 1 && k + 1 == 8 * n)) q in
    let b = and_parts (not s) (w == 1 && k + 1 == 8 * n) a.1 in
    let c = and_parts (w == 1) (k + 1 == 8 * n) b.1 in
    let more = a.0 in
    record {
      register = r;
      is = refl;
      more = grind (arith, nat_tests, more);
      plain = no_sign s b.0;
      one = eqb-true w 1 c.0;
      count = eqb-true (k + 1) (8 * n) c.1;
    }
  where
    no_sign : (s : Bool) → not s ≡ true → s ≡ false
    no_sign true q = absurd cc
    no_sign false q = refl

-- one byte is shifted as others are
pub byte_leaves_none : (s : Bool) (q : Location) (w k : ℕ) → leaves_bit s q 1 w k ≡ false
byte_leaves_none s (InRegisters r) w k = refl
byte_leaves_none s (InMemory o j) w k = refl

-- ---- the bit

pub bit_of : (x n c : ℕ) → 1 ≤ n → x < 256 ^ n → c + 1 ≡ 8 * n → x / 256 ^ (n - 1) % 256 / 128 ≡ x / 2 ^ c
bit_of x zero c l m e = absurd (omega (arith, l))
bit_of x (suc j) c l m e =
    let p = 256 ^ j in
    let less : x < 256 * p = let f = pow-suc 256 j in omega (arith, m, f) in
    let top : x / p < 256 = div_below x p 256 (pow_pos j) less in
    let at : c ≡ 8 * j + 7 = omega (arith, e) in
    let power : 2 ^ c ≡ p * 128 = ap (λ i. 2 ^ i) at ∙ pow-add 2 (8 * j) 7 ∙ ap (λ i. i * 128) (powers j) in
    let before : suc j - 1 ≡ j = omega arith in
    ap (λ i. x / 256 ^ i % 256 / 128) before ∙ ap (λ i. i / 128) (kept_below (x / p) 256 top)
    ∙ div-div-eq-div-mul x p 128 ∙ ap (λ i. x / i) (sym power)

pub bit_below : (x c : ℕ) → x / 256 ^ c % 256 / 128 < 256
bit_below x c = let l = mod_below (x / 256 ^ c) 256 (omega arith) in omega (arith, l)

-- ---- the code

-- the byte at r is the highest bit of the one at the end of n bytes from r, and all else is kept
pub record IsTopBit (v w : View) (r n : ℕ) : Type 0 where
  pub number : w.at r ≡ v.at (r + (n - 1)) / 128
  pub same : (k : ℕ) → k ≢ r → k ≢ r + (n - 1) → w.at k ≡ v.at k
  pub numbers : HoldsNumbers w
  pub inputs : w.inputs ≡ v.inputs
  pub safe : w.safe ≡ v.safe
  pub seen : w.seen ≡ v.seen

pub top_bit : (e : Env) (r n : ℕ) (v : View) → 2 ≤ r → HoldsNumbers v → IsTopBit v (block e (top_bit_code (InRegisters r) n) v) r n
top_bit e r n v low h =
    record { number = number; same = same; numbers = numbers; inputs = refl; safe = refl; seen = refl }
  where
    d : ℕ
    d = r + (n - 1)

    x : ℕ
    x = v.at d

    v1 : View
    v1 = set_both d (byte_sum x x 0) (sum_flags v.flags x x 0) v

    y : ℕ
    y = v1.at r

    v2 : View
    v2 = set_both r (bit_xor y y) (result_flags v1.flags (bit_xor y y) 0) v1

    z : ℕ
    z = v2.at r

    carry : ℕ
    carry = (x + x + 0) / 256

    top : x < 256
    top = h d (omega (arith, low))

    none : z ≡ 0
    none = put_here v1.at r (bit_xor y y) r refl ∙ xor_self y

    w : View
    w = block e (top_bit_code (InRegisters r) n) v

    bit : byte_sum z z carry ≡ x / 128
    bit = ap (λ i. byte_sum i i carry) none ∙ omega (arith, top)

    number : w.at r ≡ x / 128
    number = put_here v2.at r (byte_sum z z carry) r refl ∙ bit

    same : (k : ℕ) → k ≢ r → k ≢ d → w.at k ≡ v.at k
    same k a b =
        put_other v2.at r (byte_sum z z carry) k a ∙ put_other v1.at r (bit_xor y y) k a ∙ put_other v.at d (byte_sum x x 0) k b

    numbers : HoldsNumbers w
    numbers k l =
        ⊎_elim (λ (q : k ≡ r). subst (λ i. w.at i < 256) (sym q) (rw number (omega (arith, top))))
        (λ (q : k ≢ r).
        ⊎_elim
        (λ (u : k ≡ d).
        let doubled : byte_sum x x 0 < 256 = omega (arith, top) in
        subst (λ i. i < 256)
        (sym (put_other v2.at r (byte_sum z z carry) k q ∙ put_other v1.at r (bit_xor y y) k q ∙ put_here v.at d (byte_sum x x 0) k u))
        doubled)
        (λ (u : k ≢ d). subst (λ i. i < 256) (sym (same k q u)) (h k l)) (cases_eq k d)) (cases_eq k r)
