-- A number that is negated where R31 is 255, and copied where it is 0.
use Rattle.std.proofs.Common.{◌≡◌, ◌≢◌, ℕ, zero, suc, ◌+◌, ◌-◌, ◌*◌, ◌%◌, ◌^◌, ◌<◌, ◌≤◌, ⊎_elim, ◌∷◌, bit_xor, bit_and, refl, sym, ap, ◌∙◌}
use Rattle.std.proofs.Common.{subst, arith}
use Rattle.std.specs.Prelude.{nat_lt}
use Rattle.std.specs.Int.{from_bool}
use Rattle.std.proofs.lemmas.Bool.{cases_eq}
use Rattle.std.proofs.lemmas.Nat.{mod_below, and_mask}
use lib.Bits.{xor_add_and, xor_zero_r}
use native.Mathlib.Nat.{pow-suc}
use Rattle.ec_isa.specs.declared.instructions.Instr.TheVariants.{Eor}
use Rattle.ec_avr.specs.Flags.{byte_difference}
use Rattle.ec_asm.specs.declared.items.AsmItem.TheVariants.{Plain}
use Rattle.ec_asm.specs.declared.pieces.Location.{Location}
use Rattle.ec_asm.specs.declared.pieces.Operator.TheVariants.{Difference}
use Rattle.ec_asm.specs.View.{View}
use Rattle.ec_asm.specs.Change.{Env, Own, change, set, set_both, difference_flags}
use Rattle.ec_asm.specs.Items.{block}
use Rattle.ec_asm.specs.Pieces.{address, KindIs, StandsFrom, Outside, Keeps, value, instruction, carry_at, zero_at}
use Rattle.ec_asm.specs.PieceLaws.{HoldsNumbers, IsReadFirst}
use Rattle.ec_asm.proofs.Bytes.{put_here, put_other}
use Rattle.ec_asm.proofs.Compared.{byte_borrow, borrow_bit}
use Rattle.ec_asm.proofs.Hoare.{chain_holds, block-append}
use Rattle.ec_asm.proofs.Sum.{value-same, not_yet, keeps_more}
use Rattle.ec_fxcode.specs.Clamps.{take_byte, put_byte}
use Rattle.ec_fxcode.specs.ClampLaws.{IsClearOfEnds}
use Rattle.ec_fxcode.proofs.Moves.{byte_is_taken, byte_is_put}
use Rattle.ec_fxcode_shifts.specs.Shifts.{turned_byte, turned_code}

-- ---- one byte

less_change : (e : Env) (i : ℕ) (v : View) → change e (instruction Difference i 0 31) v ≡
    set_both 0 (byte_difference (v.at 0) (v.at 31) (carry_at i v.flags))
    (difference_flags v.flags (v.at 0) (v.at 31) (carry_at i v.flags) (zero_at i v.flags)) v
less_change e zero v = refl
less_change e (suc i) v = refl

carry_kept : (i : ℕ) (v w : View) → w.flags.c ≡ v.flags.c → carry_at i w.flags ≡ carry_at i v.flags
carry_kept zero v w h = refl
carry_kept (suc i) v w h = h

record TurnsByte (v w : View) (a b i : ℕ) : Type 0 where
  here : w.at b ≡ byte_difference (bit_xor (v.at a) (v.at 31)) (v.at 31) (carry_at i v.flags)
  carry : w.flags.c ≡ from_bool (nat_lt (bit_xor (v.at a) (v.at 31)) (v.at 31 + carry_at i v.flags))
  same : (k : ℕ) → k ≢ 0 → k ≢ b → w.at k ≡ v.at k
  inputs : w.inputs ≡ v.inputs
  safe : w.safe ≡ v.safe
  seen : w.seen ≡ v.seen

byte_turned : (e : Env) (p q : Location) (i a b : ℕ) (v : View) → address e p i ≡ a → address e q i ≡ b
    → KindIs e p a Own → KindIs e q b Own → TurnsByte v (block e (turned_byte p q i) v) a b i
byte_turned e p q i a b v pa qb ka kb =
    let less = instruction Difference i 0 31 in
    let v1 = set 0 (v.at a) v in
    let v2 = change e (Eor 0 31) v1 in
    let v3 = change e less v2 in
    let c : carry_at i v2.flags ≡ carry_at i v.flags = carry_kept i v v2 refl in
    let at0 : v2.at 0 ≡ bit_xor (v.at a) (v.at 31) = refl in
    let at31 : v2.at 31 ≡ v.at 31 = refl in
    let is = less_change e i v2 in
    let d0 : v3.at 0 ≡ byte_difference (bit_xor (v.at a) (v.at 31)) (v.at 31) (carry_at i v.flags) =
    ap (λ (u : View). u.at 0) is ∙ ap (byte_difference (bit_xor (v.at a) (v.at 31)) (v.at 31)) c in
    let f0 : v3.flags.c ≡ from_bool (nat_lt (bit_xor (v.at a) (v.at 31)) (v.at 31 + carry_at i v.flags)) =
    ap (λ (u : View). u.flags.c) is ∙ ap (λ t. from_bool (nat_lt (bit_xor (v.at a) (v.at 31)) (v.at 31 + t))) c in
    let s0 = λ (k : ℕ) (z : k ≢ 0).
    (let o : v3.at k ≡ v.at k = ap (λ (u : View). u.at k) is ∙ put_other v2.at 0 _ k z ∙ put_other v1.at 0 _ k z ∙ put_other v.at 0 _ k z in
    o) in
    let w = set b (v3.at 0) v3 in
    let all : block e (turned_byte p q i) v ≡ w =
    block-append e (take_byte p i) (Plain (Eor 0 31) ∷ Plain less ∷ put_byte 0 q i) v
    ∙ ap (λ u. block e (Plain (Eor 0 31) ∷ Plain less ∷ put_byte 0 q i) u) (byte_is_taken e p i a v pa ka)
    ∙ byte_is_put e 0 q i b v3 qb kb in
    subst (λ u. TurnsByte v u a b i) (sym all) (record {
      here = put_here v3.at b (v3.at 0) b refl ∙ d0;
      carry = f0;
      same = λ k z n. put_other v3.at b (v3.at 0) k n ∙ s0 k z;
      inputs = ap (λ (u : View). u.inputs) is;
      safe = ap (λ (u : View). u.safe) is;
      seen = ap (λ (u : View). u.seen) is;
    })

-- ---- numbers

complement : (x : ℕ) → x < 256 → bit_xor x 255 ≡ 255 - x
complement x l =
    let a : bit_and x 255 ≡ x % 256 = and_mask x 8 in
    let s = xor_add_and x 255 in
    omega (arith, a, s, l)

-- a digit of the negated number, where c was borrowed before it and d after it
minus_step : (V A x y c d p : ℕ) → V + A ≡ c * p → y + x + c ≡ 256 * d → V + y * p + (A + x * p) ≡ d * (p * 256)
minus_step V A x y c d p h k =
    let q : (y + x + c) * p ≡ 256 * d * p = ap (λ t. t * p) k in
    omega (arith, q, h)

minus_digit : (x c d y : ℕ) → x < 256 → 255 - x + 256 * d ≡ 255 + c + y → y + x + c ≡ 256 * d
minus_digit x c d y l h = omega (arith, h, l)

-- ---- all bytes

-- the first i bytes of the number at b, where m was in R31
pub record TurnsTo (v0 : View) (a b m i : ℕ) (v : View) : Type 0 where
  pub plus : m ≡ 0 → (value v.at b i ≡ value v0.at a i) × (carry_at i v.flags ≡ 0)
  pub minus : m ≡ 255 → value v.at b i + value v0.at a i ≡ carry_at i v.flags * 256 ^ i
  pub bit : carry_at i v.flags ≤ 1
  pub held : (j : ℕ) → j < i → v.at (b + j) < 256
  pub keeps : Keeps v0 v b i

no_carry : (x y d : ℕ) → x < 256 → y < 256 → x + 256 * d ≡ 0 + 0 + y → (y ≡ x) × (d ≡ 0)
no_carry x y d l k h = (omega (arith, h, l, k), omega (arith, h, l, k))

turn_step : (e : Env) (p q : Location) (n a b m : ℕ) (v0 : View) → StandsFrom e p n a Own → StandsFrom e q n b Own
    → IsReadFirst a b n → IsClearOfEnds b n → HoldsNumbers v0 → v0.at 31 ≡ m → (i : ℕ) → i < n → (v : View) → TurnsTo v0 a b m i v
    → TurnsTo v0 a b m (suc i) (block e (turned_byte p q i) v)
turn_step e p q n a b m v0 sa sb far clear numbers sign i l v h =
    let ua = sa.clear in
    let ub = sb.clear in
    let w = block e (turned_byte p q i) v in
    let o = byte_turned e p q i (a + i) (b + i) v (sa.at i l) (sb.at i l) (sa.kind i l) (sb.kind i l) in
    let x = v0.at (a + i) in
    let c = carry_at i v.flags in
    let bx : x < 256 = numbers (a + i) (omega arith) in
    let bit = h.bit in
    let ex : v.at (a + i) ≡ x = h.keeps.same (a + i) (omega arith) (omega arith) (not_yet a b n i far l) in
    let em : v.at 31 ≡ m = h.keeps.same 31 (omega arith) (omega arith) (beside b n i clear l) ∙ sign in
    let low = value-same w.at v.at b i (λ j k. o.same (b + j) (omega arith) (omega arith)) in
    let y = w.at (b + i) in
    let is : y ≡ byte_difference (bit_xor x m) m c = o.here ∙ rw (ex, em) refl in
    let carry : w.flags.c ≡ from_bool (nat_lt (bit_xor x m) (m + c)) = o.carry ∙ rw (ex, em) refl in
    let by : y < 256 = rw is (mod_below (bit_xor x m + 256 - (m + c)) 256 (omega arith)) in
    record {
      plus = λ z.
          let ic : c ≡ 0 = (h.plus z).1 in
          let sum : x + 256 * w.flags.c ≡ 0 + 0 + y =
          rw (carry, is, z, xor_zero_r x, ic) (byte_borrow x 0 0 bx (omega arith) (omega arith)) in
          let r = no_carry x y w.flags.c bx by sum in
          let v1 = (h.plus z).0 in
          (rw (low, r.0, v1) refl, r.1);
      minus = λ z.
          let sum : 255 - x + 256 * w.flags.c ≡ 255 + c + y =
          rw (carry, is, z, complement x bx) (byte_borrow (255 - x) 255 c (omega arith) (omega arith) bit) in
          rw (low, pow-suc 256 i)
          (minus_step (value v.at b i) (value v0.at a i) x y c w.flags.c (256 ^ i) (h.minus z) (minus_digit x c w.flags.c y bx sum));
      bit = rw carry (borrow_bit (bit_xor x m) m c);
      held = λ j k. ⊎_elim (λ (s : j ≡ i). subst (λ t. w.at (b + t) < 256) (sym s) by) (λ (s : j ≢ i).
          let t : w.at (b + j) ≡ v.at (b + j) = o.same (b + j) (omega arith) (omega arith) in rw t (h.held j (omega arith))) (cases_eq j i);
      keeps = keeps_more v0 v w b i h.keeps (λ k z t u. o.same k z u) o.inputs o.safe o.seen;
    }
  where
    beside : (b n i : ℕ) → IsClearOfEnds b n → i < n → Outside b i 31
    beside b n i c l k =
        let below = c.below in
        let above = c.above in
        grind arith

pub turns : (e : Env) (p q : Location) (n a b m : ℕ) (v : View) → StandsFrom e p n a Own → StandsFrom e q n b Own
    → IsReadFirst a b n → IsClearOfEnds b n → HoldsNumbers v → v.at 31 ≡ m
    → TurnsTo v a b m n (block e (turned_code p q n) v)
turns e p q n a b m v sa sb far clear numbers sign =
    chain_holds e (turned_byte p q) (TurnsTo v a b m) n (turn_step e p q n a b m v sa sb far clear numbers sign) v (record {
      plus = λ z. (refl, refl);
      minus = λ z. refl;
      bit = omega arith;
      held = λ j k. absurd (omega arith);
      keeps = record { same = λ k z o u. refl; inputs = refl; safe = refl; seen = refl };
    })
