-- A number to which 1 is added where R31 is 255.
use Rattle.std.proofs.Common.{◌≡◌, ◌≢◌, ℕ, zero, suc, ◌+◌, ◌-◌, ◌*◌, ◌^◌, ◌<◌, ◌≤◌, ⊎_elim, refl, sym, ap, ◌∙◌, subst, arith}
use Rattle.std.specs.Prelude.{nat_lt}
use Rattle.std.specs.Int.{from_bool}
use Rattle.std.proofs.lemmas.Bool.{cases_eq}
use Rattle.std.proofs.lemmas.Nat.{mod_below}
use native.Mathlib.Nat.{pow-suc}
use Rattle.ec_avr.specs.Flags.{byte_difference}
use Rattle.ec_asm.specs.declared.pieces.Location.{Location}
use Rattle.ec_asm.specs.declared.pieces.Location.TheVariants.{InRegisters, InMemory}
use Rattle.ec_asm.specs.declared.pieces.Operator.TheVariants.{Difference}
use Rattle.ec_asm.specs.View.{View}
use Rattle.ec_asm.specs.Change.{Env, Own, change, set, set_both, difference_flags}
use Rattle.ec_asm.specs.Items.{block}
use Rattle.ec_asm.specs.Pieces.{address, KindIs, StandsFrom, Outside, Keeps, value, instruction, carry_at, zero_at}
use Rattle.ec_asm.specs.PieceLaws.{HoldsNumbers}
use Rattle.ec_asm.proofs.Bytes.{put_here, put_other}
use Rattle.ec_asm.proofs.Compared.{byte_borrow, borrow_bit}
use Rattle.ec_asm.proofs.Hoare.{chain_holds}
use Rattle.ec_asm.proofs.Sum.{value-same, keeps_more}
use Rattle.ec_fxcode.specs.ClampLaws.{IsClearOfEnds}
use Rattle.ec_fxcode_placed.specs.Shifts.{raise_byte, raise_code}

-- ---- one byte

less_change : (e : Env) (i d : ℕ) (v : View) → change e (instruction Difference i d 31) v ≡
    set_both d (byte_difference (v.at d) (v.at 31) (carry_at i v.flags))
    (difference_flags v.flags (v.at d) (v.at 31) (carry_at i v.flags) (zero_at i v.flags)) v
less_change e zero d v = refl
less_change e (suc i) d v = refl

record RaisesByte (v w : View) (a i : ℕ) : Type 0 where
  here : w.at a ≡ byte_difference (v.at a) (v.at 31) (carry_at i v.flags)
  carry : w.flags.c ≡ from_bool (nat_lt (v.at a) (v.at 31 + carry_at i v.flags))
  same : (k : ℕ) → k ≢ 0 → k ≢ a → w.at k ≡ v.at k
  inputs : w.inputs ≡ v.inputs
  safe : w.safe ≡ v.safe
  seen : w.seen ≡ v.seen

byte_raised : (e : Env) (p : Location) (i a : ℕ) (v : View) → address e p i ≡ a → KindIs e p a Own
    → RaisesByte v (block e (raise_byte p i) v) a i
byte_raised e (InRegisters r) i a v p k =
    let is = less_change e i a v in
    rw p (record {
      here = ap (λ (u : View). u.at a) is ∙ put_here v.at a _ a refl;
      carry = ap (λ (u : View). u.flags.c) is;
      same = λ j z n. ap (λ (u : View). u.at j) is ∙ put_other v.at a _ j n;
      inputs = ap (λ (u : View). u.inputs) is;
      safe = ap (λ (u : View). u.safe) is;
      seen = ap (λ (u : View). u.seen) is;
    })
byte_raised e (InMemory o j) i a v p k =
    let v1 = set 0 (v.at a) v in
    let v2 = change e (instruction Difference i 0 31) v1 in
    let is = less_change e i 0 v1 in
    rw (p, k) (record {
      here = put_here v2.at a _ a refl ∙ ap (λ (u : View). u.at 0) is;
      carry = ap (λ (u : View). u.flags.c) is;
      same = λ i z n. put_other v2.at a _ i n ∙ ap (λ (u : View). u.at i) is ∙ put_other v1.at 0 _ i z ∙ put_other v.at 0 (v.at a) i z;
      inputs = ap (λ (u : View). u.inputs) is;
      safe = ap (λ (u : View). u.safe) is;
      seen = ap (λ (u : View). u.seen) is;
    })

-- ---- all bytes

-- the first i bytes, where m was in R31
pub record RaisesTo (v0 : View) (a m i : ℕ) (v : View) : Type 0 where
  pub plus : m ≡ 0 → (value v.at a i ≡ value v0.at a i) × (carry_at i v.flags ≡ 0)
  pub minus : m ≡ 255 → value v.at a i + 256 ^ i ≡ value v0.at a i + 1 + carry_at i v.flags * 256 ^ i
  pub bit : carry_at i v.flags ≤ 1
  pub held : (j : ℕ) → j < i → v.at (a + j) < 256
  pub keeps : Keeps v0 v a i

no_borrow : (x y d : ℕ) → x < 256 → y < 256 → x + 256 * d ≡ 0 + 0 + y → (y ≡ x) × (d ≡ 0)
no_borrow x y d l k h = (omega (arith, h, l, k), omega (arith, h, l, k))

-- a digit, where c was borrowed before it and d after it
raise_digit : (V A x y c d p : ℕ) → V + p ≡ A + 1 + c * p → x + 256 * d ≡ 255 + c + y
    → V + y * p + p * 256 ≡ A + x * p + 1 + d * (p * 256)
raise_digit V A x y c d p h k =
    let q : (x + 256 * d) * p ≡ (255 + c + y) * p = ap (λ t. t * p) k in
    omega (arith, q, h)

raise_step : (e : Env) (p : Location) (n a m : ℕ) (v0 : View) → StandsFrom e p n a Own → IsClearOfEnds a n → HoldsNumbers v0
    → v0.at 31 ≡ m → m < 256 → (i : ℕ) → i < n → (v : View) → RaisesTo v0 a m i v → RaisesTo v0 a m (suc i) (block e (raise_byte p i) v)
raise_step e p n a m v0 s clear numbers sign small i l v h =
    let two = s.clear in
    let w = block e (raise_byte p i) v in
    let o = byte_raised e p i (a + i) v (s.at i l) (s.kind i l) in
    let x = v0.at (a + i) in
    let c = carry_at i v.flags in
    let bx : x < 256 = numbers (a + i) (omega arith) in
    let bit = h.bit in
    let ex : v.at (a + i) ≡ x = h.keeps.same (a + i) (omega arith) (omega arith) (λ z. omega arith) in
    let em : v.at 31 ≡ m = h.keeps.same 31 (omega arith) (omega arith) (beside a n i clear l) ∙ sign in
    let low = value-same w.at v.at a i (λ j k. o.same (a + j) (omega arith) (omega arith)) in
    let y = w.at (a + i) in
    let is : y ≡ byte_difference x m c = o.here ∙ rw (ex, em) refl in
    let carry : w.flags.c ≡ from_bool (nat_lt x (m + c)) = o.carry ∙ rw (ex, em) refl in
    let by : y < 256 = rw is (mod_below (x + 256 - (m + c)) 256 (omega arith)) in
    let digit : x + 256 * w.flags.c ≡ m + c + y = rw (carry, is) (byte_borrow x m c bx small bit) in
    record {
      plus = λ z.
          let ic = (h.plus z).1 in
          let v1 = (h.plus z).0 in
          let r = no_borrow x y w.flags.c bx by (omega (arith, digit, z, ic)) in
          (rw (low, r.0, v1) refl, r.1);
      minus = λ z.
          let sum : x + 256 * w.flags.c ≡ 255 + c + y = omega (arith, digit, z) in
          rw (low, pow-suc 256 i)
          (raise_digit (value v.at a i) (value v0.at a i) x y c w.flags.c (256 ^ i) (h.minus z) sum);
      bit = rw carry (borrow_bit x m c);
      held = λ j k. ⊎_elim (λ (q : j ≡ i). subst (λ t. w.at (a + t) < 256) (sym q) by) (λ (q : j ≢ i).
          let t : w.at (a + j) ≡ v.at (a + j) = o.same (a + j) (omega arith) (omega arith) in rw t (h.held j (omega arith))) (cases_eq j i);
      keeps = keeps_more v0 v w a i h.keeps (λ k z t u. o.same k z u) o.inputs o.safe o.seen;
    }
  where
    beside : (a n i : ℕ) → IsClearOfEnds a n → i < n → Outside a i 31
    beside a n i c l k =
        let below = c.below in
        let above = c.above in
        grind arith

pub raises : (e : Env) (p : Location) (n a m : ℕ) (v : View) → StandsFrom e p n a Own → IsClearOfEnds a n → HoldsNumbers v
    → v.at 31 ≡ m → m < 256 → RaisesTo v a m n (block e (raise_code p n) v)
raises e p n a m v s clear numbers sign small =
    chain_holds e (raise_byte p) (RaisesTo v a m) n (raise_step e p n a m v s clear numbers sign small) v (record {
      plus = λ z. (refl, refl);
      minus = λ z. refl;
      bit = omega arith;
      held = λ j k. absurd (omega arith);
      keeps = record { same = λ k z o u. refl; inputs = refl; safe = refl; seen = refl };
    })
