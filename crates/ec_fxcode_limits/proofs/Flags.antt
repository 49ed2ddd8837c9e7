-- The flags behind a sum or a difference of several bytes.
use Rattle.std.proofs.Common.{◌≡◌, ℕ, zero, suc, ◌+◌, ◌-◌, ◌*◌, ◌/◌, ◌^◌, ◌<◌, ◌≤◌, ⊎_elim, refl, sym, ap, ◌∙◌, arith, nat_lt}
use Rattle.std.specs.Int.{from_bool}
use Rattle.std.proofs.lemmas.Bool.{cases_lt}
use Rattle.std.proofs.lemmas.Nat.{div-add-mod', mod_below, mul-le}
use Rattle.ec_avr.specs.Flags.{byte_sum, byte_difference, sum_overflow, difference_overflow}
use Rattle.ec_asm.specs.declared.pieces.Location.{Location}
use Rattle.ec_asm.specs.declared.pieces.Operator.TheVariants.{Sum, Difference}
use Rattle.ec_asm.specs.View.{View}
use Rattle.ec_asm.specs.Change.{Env, Own, sum_flags, difference_flags}
use Rattle.ec_asm.specs.Items.{block}
use Rattle.ec_asm.specs.Pieces.{StandsFrom, IsBinary, value, instruction, operate_byte, operate_code, carry_at, zero_at, Outside}
use Rattle.ec_asm.specs.PieceLaws.{HoldsNumbers, IsReadFirst}
use Rattle.ec_asm.proofs.Bytes.{binary_operates}
use Rattle.ec_asm.proofs.Compared.{byte_borrow}
use Rattle.ec_asm.proofs.Hoare.{block-append}
use Rattle.ec_asm.proofs.Numbers.{pow_pos, value_below}
use Rattle.ec_asm.proofs.Operators.{difference_holds}
use Rattle.ec_asm.proofs.Sum.{sum_holds, value-same, not_yet}
use Rattle.ec_fxcode.proofs.Moves.{part_stands}
use Rattle.ec_fxcode_limits.proofs.Numbers.{Adds, Takes}

-- the carry into the highest byte
pub record SumIs (v0 w : View) (a b n : ℕ) : Type 0 where
  pub carry : ℕ
  pub adds : Adds (256 ^ n) (value v0.at b n) (value v0.at a n) (value w.at b n) (v0.at (b + n)) (v0.at (a + n)) (w.at (b + n)) carry
      w.flags.c w.flags.v

pub record DifferenceIs (v0 w : View) (a b n : ℕ) : Type 0 where
  pub borrow : ℕ
  pub takes : Takes (256 ^ n) (value v0.at b n) (value v0.at a n) (value w.at b n) (v0.at (b + n)) (v0.at (a + n)) (w.at (b + n)) borrow
      w.flags.c w.flags.v

sums : (i : ℕ)
    → IsBinary (instruction Sum i) (λ x y f. byte_sum x y (carry_at i f)) (λ x y f. sum_flags f x y (carry_at i f))
sums zero = record { is = λ e d r v. refl; straight = λ d r. refl }
sums (suc i) = record { is = λ e d r v. refl; straight = λ d r. refl }

differences : (i : ℕ)
    → IsBinary (instruction Difference i) (λ x y f. byte_difference x y (carry_at i f))
    (λ x y f. difference_flags f x y (carry_at i f) (zero_at i f))
differences zero = record { is = λ e d r v. refl; straight = λ d r. refl }
differences (suc i) = record { is = λ e d r v. refl; straight = λ d r. refl }

-- a carry that makes less than two powers is 0 or 1
bit : (p c s x y : ℕ) → 0 < p → s + c * p ≡ x + y → x < p → y < p → c ≤ 1
bit p c s x y some e l k =
    ⊎_elim (λ (h : c < 2). omega arith)
    (λ (h : 2 ≤ c). let m : 2 * p ≤ c * p = mul-le 2 p c p h (omega arith) in absurd (omega (arith, e, m, l, k)))
    (cases_lt c 2)

low_held : (v : View) (a n : ℕ) → 2 ≤ a → HoldsNumbers v → value v.at a n < 256 ^ n
low_held v a n some h = value_below v.at a n (λ j l. h (a + j) (omega arith))

-- the operand that is added or taken stays until its bytes are read
read_later : (a b n : ℕ) → IsReadFirst a b (suc n) → Outside b n (a + n)
read_later a b n far = not_yet a b (suc n) n far (omega arith)

pub sum_is : (e : Env) (p q : Location) (n a b : ℕ) (v0 : View) → StandsFrom e p (suc n) a Own → StandsFrom e q (suc n) b Own
    → IsReadFirst a b (suc n) → HoldsNumbers v0 → SumIs v0 (block e (operate_code Sum p q (suc n)) v0) a b n
sum_is e p q n a b v0 sa sb far held =
    let ua = sa.clear in
    let ub = sb.clear in
    let v1 = block e (operate_code Sum p q n) v0 in
    let w = block e (operate_byte Sum p q n) v1 in
    let h = sum_holds e p q n a b v0 (part_stands e p (suc n) n a (omega arith) sa) (part_stands e q (suc n) n b (omega arith) sb)
    (λ l. let m = far l in omega arith) held in
    let o = binary_operates (instruction Sum n) (λ x y f. byte_sum x y (carry_at n f)) (λ x y f. sum_flags f x y (carry_at n f)) (sums n)
    e p q n (a + n) (b + n) v1 (sa.at n (omega arith)) (sb.at n (omega arith)) (sa.kind n (omega arith)) (sb.kind n (omega arith))
    (omega arith) (omega arith) in
    let c = carry_at n v1.flags in
    let ex : v1.at (a + n) ≡ v0.at (a + n) = h.keeps.same (a + n) (omega arith) (omega arith) (read_later a b n far) in
    let ey : v1.at (b + n) ≡ v0.at (b + n) = h.keeps.same (b + n) (omega arith) (omega arith) (λ m. omega arith) in
    let low : value w.at b n ≡ value v1.at b n =
    value-same w.at v1.at b n (λ j m. o.same (b + j) (omega arith) (omega arith) (omega arith)) in
    let x = v0.at (b + n) in
    let y = v0.at (a + n) in
    let here : w.at (b + n) ≡ byte_sum x y c = o.here ∙ ap (λ k. byte_sum k (v1.at (a + n)) c) ey ∙ ap (λ k. byte_sum x k c) ex in
    let carry : w.flags.c ≡ (x + y + c) / 256 =
    ap (λ f. f.c) o.flags ∙ ap (λ k. (k + v1.at (a + n) + c) / 256) ey ∙ ap (λ k. (x + k + c) / 256) ex in
    let over : w.flags.v ≡ sum_overflow 128 x y (w.at (b + n)) =
    ap (λ f. f.v) o.flags ∙ ap (λ k. sum_overflow 128 k (v1.at (a + n)) (byte_sum k (v1.at (a + n)) c)) ey
    ∙ ap (λ k. sum_overflow 128 x k (byte_sum x k c)) ex ∙ sym (ap (sum_overflow 128 x y) here) in
    let parts = div-add-mod' (x + y + c) 256 in
    let la = low_held v0 a n ua held in
    let lb = low_held v0 b n ub held in
    let below = h.below in
    let sum = h.sum in
    let rest : value w.at b n + c * 256 ^ n ≡ value v0.at b n + value v0.at a n = omega (arith, low, sum) in
    rw (block-append e (operate_code Sum p q n) (operate_byte Sum p q n) v0)
    (record {
      carry = c;
      adds = record {
        first = lb;
        second = la;
        result = omega (arith, low, below);
        low = rest;
        top = omega (arith, here, carry, parts);
        bit = bit (256 ^ n) c (value w.at b n) (value v0.at b n) (value v0.at a n) (pow_pos n) rest lb la;
        first_byte = held (b + n) (omega arith);
        second_byte = held (a + n) (omega arith);
        byte = (let r = mod_below (x + y + c) 256 (omega arith) in omega (arith, here, r));
        flag = over;
      };
    })

pub difference_is : (e : Env) (p q : Location) (n a b : ℕ) (v0 : View) → StandsFrom e p (suc n) a Own → StandsFrom e q (suc n) b Own
    → IsReadFirst a b (suc n) → HoldsNumbers v0 → DifferenceIs v0 (block e (operate_code Difference p q (suc n)) v0) a b n
difference_is e p q n a b v0 sa sb far held =
    let ua = sa.clear in
    let ub = sb.clear in
    let v1 = block e (operate_code Difference p q n) v0 in
    let w = block e (operate_byte Difference p q n) v1 in
    let h = difference_holds e p q n a b v0 (part_stands e p (suc n) n a (omega arith) sa)
    (part_stands e q (suc n) n b (omega arith) sb) (λ l. let m = far l in omega arith) held in
    let o = binary_operates (instruction Difference n) (λ x y f. byte_difference x y (carry_at n f))
    (λ x y f. difference_flags f x y (carry_at n f) (zero_at n f)) (differences n) e p q n (a + n) (b + n) v1 (sa.at n (omega arith))
    (sb.at n (omega arith)) (sa.kind n (omega arith)) (sb.kind n (omega arith)) (omega arith) (omega arith) in
    let c = carry_at n v1.flags in
    let ex : v1.at (a + n) ≡ v0.at (a + n) = h.keeps.same (a + n) (omega arith) (omega arith) (read_later a b n far) in
    let ey : v1.at (b + n) ≡ v0.at (b + n) = h.keeps.same (b + n) (omega arith) (omega arith) (λ m. omega arith) in
    let low : value w.at b n ≡ value v1.at b n =
    value-same w.at v1.at b n (λ j m. o.same (b + j) (omega arith) (omega arith) (omega arith)) in
    let x = v0.at (b + n) in
    let y = v0.at (a + n) in
    let here : w.at (b + n) ≡ byte_difference x y c =
    o.here ∙ ap (λ k. byte_difference k (v1.at (a + n)) c) ey ∙ ap (λ k. byte_difference x k c) ex in
    let borrow : w.flags.c ≡ from_bool (nat_lt x (y + c)) =
    ap (λ f. f.c) o.flags ∙ ap (λ k. from_bool (nat_lt k (v1.at (a + n) + c))) ey ∙ ap (λ k. from_bool (nat_lt x (k + c))) ex in
    let over : w.flags.v ≡ difference_overflow 128 x y (w.at (b + n)) =
    ap (λ f. f.v) o.flags ∙ ap (λ k. difference_overflow 128 k (v1.at (a + n)) (byte_difference k (v1.at (a + n)) c)) ey
    ∙ ap (λ k. difference_overflow 128 x k (byte_difference x k c)) ex ∙ sym (ap (difference_overflow 128 x y) here) in
    let bx = held (b + n) (omega arith) in
    let by = held (a + n) (omega arith) in
    let parts = byte_borrow x y c bx by h.borrow in
    let below = h.below in
    let difference = h.difference in
    rw (block-append e (operate_code Difference p q n) (operate_byte Difference p q n) v0)
    (record {
      borrow = c;
      takes = record {
        first = low_held v0 b n ub held;
        second = low_held v0 a n ua held;
        result = omega (arith, low, below);
        low = omega (arith, low, difference);
        top = omega (arith, here, borrow, parts);
        bit = h.borrow;
        first_byte = bx;
        second_byte = by;
        byte = (let r = mod_below (x + 256 - (y + c)) 256 (omega arith) in omega (arith, here, r));
        flag = over;
      };
    })
