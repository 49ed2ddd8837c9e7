-- Numbers that are negated where a register is 255, and left where it is 0.
use Rattle.std.proofs.Common.{◌≡◌, ◌≢◌, ℕ, zero, suc, ◌+◌, ◌-◌, ◌*◌, ◌/◌, ◌%◌, ◌^◌, ◌<◌, ◌≤◌, ⊎_elim, true, List, [], ◌∷◌, bit_xor, bit_and}
use Rattle.std.proofs.Common.{refl, sym, ap, ◌∙◌, subst, arith}
use Rattle.std.specs.Prelude.{nat_lt}
use Rattle.std.specs.Int.{from_bool}
use Rattle.std.proofs.lemmas.Bool.{cases_eq}
use Rattle.std.proofs.lemmas.Nat.{mod_below, and_mask, mod-mul-add}
use lib.Bits.{xor_add_and, xor_zero_r}
use native.Mathlib.Nat.{pow-suc}
use Rattle.ec_isa.specs.declared.instructions.Instr.TheVariants.{Eor, Add, Sbc}
use Rattle.ec_avr.specs.Flags.{byte_sum, byte_difference}
use Rattle.ec_asm.specs.declared.items.AsmItem.{AsmItem}
use Rattle.ec_asm.specs.declared.items.AsmItem.TheVariants.{Plain}
use Rattle.ec_asm.specs.declared.pieces.Location.{Location}
use Rattle.ec_asm.specs.declared.pieces.Location.TheVariants.{InRegisters, InMemory}
use Rattle.ec_asm.specs.declared.pieces.Operator.TheVariants.{Difference}
use Rattle.ec_asm.specs.View.{View}
use Rattle.ec_asm.specs.Change.{Env, Own, change, set}
use Rattle.ec_asm.specs.Items.{block, chain, all_straight, code_steps}
use Rattle.ec_asm.specs.Pieces.{address, KindIs, instruction, carry_at}
use Rattle.ec_asm.specs.PieceLaws.{HoldsNumbers}
use Rattle.ec_asm.proofs.Bytes.{put_here, put_other}
use Rattle.ec_asm.proofs.Compared.{byte_borrow, borrow_bit}
use Rattle.ec_asm.proofs.Hoare.{chain_holds, chain_straight, steps-chain}
use Rattle.ec_select_quotients.specs.Quotients.{divisor_register, number_of}
use Rattle.ec_select_quotients.specs.Signs.{negated_if, spread_code, turn_byte, turn_code, turn_divisor_byte, turn_divisor_code}
use Rattle.ec_select_quotients.proofs.Rows.{less_change, number_same, number_below}

-- ---- a byte becomes that of its sign

pub record Spreads (v w : View) (s : ℕ) : Type 0 where
  pub here : v.at s < 256 → w.at s ≡ 255 * (v.at s / 128)
  pub same : (k : ℕ) → k ≢ s → w.at k ≡ v.at k
  pub inputs : w.inputs ≡ v.inputs
  pub safe : w.safe ≡ v.safe
  pub seen : w.seen ≡ v.seen

pub spreads : (e : Env) (s : ℕ) (v : View) → Spreads v (block e (spread_code s) v) s
spreads e s v =
    let x = v.at s in
    let v1 = change e (Add s s) v in
    let y = byte_sum x x 0 in
    let v2 = change e (Sbc s s) v1 in
    let there : v1.at s ≡ y = put_here v.at s y s refl in
    record {
      here = λ l. put_here v1.at s (byte_difference (v1.at s) (v1.at s) v1.flags.c) s refl
          ∙ ap (λ t. byte_difference t t ((x + x + 0) / 256)) there ∙ by_sign x l;
      same = λ k q. put_other v1.at s (byte_difference (v1.at s) (v1.at s) v1.flags.c) k q ∙ put_other v.at s y k q;
      inputs = refl;
      safe = refl;
      seen = refl;
    }
  where
    by_sign : (x : ℕ) → x < 256 → byte_difference (byte_sum x x 0) (byte_sum x x 0) ((x + x + 0) / 256) ≡ 255 * (x / 128)
    by_sign x l = omega (arith, l)

-- ---- one byte

pub record TurnsByte (v w : View) (a s i : ℕ) : Type 0 where
  pub here : w.at a ≡ byte_difference (bit_xor (v.at a) (v.at s)) (v.at s) (carry_at i v.flags)
  pub carry : w.flags.c ≡ from_bool (nat_lt (bit_xor (v.at a) (v.at s)) (v.at s + carry_at i v.flags))
  pub same : (k : ℕ) → k ≢ 0 → k ≢ a → w.at k ≡ v.at k
  pub inputs : w.inputs ≡ v.inputs
  pub safe : w.safe ≡ v.safe
  pub seen : w.seen ≡ v.seen

carry_kept : (i : ℕ) (v w : View) → w.flags.c ≡ v.flags.c → carry_at i w.flags ≡ carry_at i v.flags
carry_kept zero v w h = refl
carry_kept (suc i) v w h = h

-- EOR and SUB of a register by another one
turned_by : (e : Env) (a s i : ℕ) (v : View) → s ≢ a
    → TurnsByte v (change e (instruction Difference i a s) (change e (Eor a s) v)) a s i
turned_by e a s i v apart =
    let x = bit_xor (v.at a) (v.at s) in
    let v1 = change e (Eor a s) v in
    let w = change e (instruction Difference i a s) v1 in
    let c : carry_at i v1.flags ≡ carry_at i v.flags = carry_kept i v v1 refl in
    let first : v1.at a ≡ x = put_here v.at a x a refl in
    let sign : v1.at s ≡ v.at s = put_other v.at a x s apart in
    let is = less_change e i a s v1 in
    record {
      here = ap (λ (u : View). u.at a) is ∙ put_here v1.at a _ a refl ∙ rw (first, sign, c) refl;
      carry = ap (λ (u : View). u.flags.c) is ∙ rw (first, sign, c) refl;
      same = λ k z q. ap (λ (u : View). u.at k) is ∙ put_other v1.at a _ k q ∙ put_other v.at a x k q;
      inputs = ap (λ (u : View). u.inputs) is;
      safe = ap (λ (u : View). u.safe) is;
      seen = ap (λ (u : View). u.seen) is;
    }

pub byte_is_turned : (e : Env) (p : Location) (i a : ℕ) (v : View) → address e p i ≡ a → KindIs e p a Own → a ≢ 31
    → TurnsByte v (block e (turn_byte p i) v) a 31 i
byte_is_turned e (InRegisters r) i a v p k apart = rw p (turned_by e a 31 i v (λ q. apart (sym q)))
byte_is_turned e (InMemory o j) i a v p k apart =
    let v1 = set 0 (v.at a) v in
    let t = turned_by e 0 31 i v1 (omega arith) in
    let v2 = change e (instruction Difference i 0 31) (change e (Eor 0 31) v1) in
    rw (p, k) (record {
      here = put_here v2.at a (v2.at 0) a refl ∙ t.here;
      carry = t.carry;
      same = λ l z q. put_other v2.at a (v2.at 0) l q ∙ t.same l z z ∙ put_other v.at 0 (v.at a) l z;
      inputs = t.inputs;
      safe = t.safe;
      seen = t.seen;
    })

pub divisor_byte_is_turned : (e : Env) (i : ℕ) (v : View) → divisor_register i ≢ 1
    → TurnsByte v (block e (turn_divisor_byte i) v) (divisor_register i) 1 i
divisor_byte_is_turned e i v apart = turned_by e (divisor_register i) 1 i v (λ q. apart (sym q))

-- ---- numbers

complement : (x : ℕ) → x < 256 → bit_xor x 255 ≡ 255 - x
complement x l =
    let a : bit_and x 255 ≡ x % 256 = and_mask x 8 in
    let s = xor_add_and x 255 in
    omega (arith, a, s, l)

-- a digit of the negated number, where c was borrowed before it and d after it
minus_step : (V A x y c d p : ℕ) → V + A ≡ c * p → y + x + c ≡ 256 * d → V + y * p + (A + x * p) ≡ d * (p * 256)
minus_step V A x y c d p h k =
    let q : (y + x + c) * p ≡ 256 * d * p = ap (λ t. t * p) k in
    omega (arith, q, h)

minus_digit : (x c d y : ℕ) → x < 256 → 255 - x + 256 * d ≡ 255 + c + y → y + x + c ≡ 256 * d
minus_digit x c d y l h = omega (arith, h, l)

no_carry : (x y d : ℕ) → x < 256 → y < 256 → x + 256 * d ≡ 0 + 0 + y → (y ≡ x) × (d ≡ 0)
no_carry x y d l k h = (omega (arith, h, l, k), omega (arith, h, l, k))

-- ---- all bytes, each at its own place

abbrev at_row : (ℕ → ℕ) → View → ℕ → ℕ
at_row row v j = v.at (row j)

-- places of n bytes: none is that of another one, nor the register with the sign, nor R0 or R1
pub record IsRow (row : ℕ → ℕ) (n s : ℕ) : Type 0 where
  pub apart : (i j : ℕ) → i < n → j < n → i ≢ j → row i ≢ row j
  pub beside : (i : ℕ) → i < n → row i ≢ s
  pub work : (i : ℕ) → i < n → 2 ≤ row i

-- the first i bytes, where m is in the register s
record TurnsTo (v0 : View) (row : ℕ → ℕ) (m i : ℕ) (v : View) : Type 0 where
  plus : m ≡ 0 → (number_of (at_row row v) i ≡ number_of (at_row row v0) i) × (carry_at i v.flags ≡ 0)
  minus : m ≡ 255 → number_of (at_row row v) i + number_of (at_row row v0) i ≡ carry_at i v.flags * 256 ^ i
  bit : carry_at i v.flags ≤ 1
  numbers : HoldsNumbers v
  same : (k : ℕ) → k ≢ 0 → ((j : ℕ) → j < i → k ≢ row j) → v.at k ≡ v0.at k
  inputs : v.inputs ≡ v0.inputs
  safe : v.safe ≡ v0.safe
  seen : v.seen ≡ v0.seen

turn_step : (e : Env) (body : ℕ → List AsmItem) (row : ℕ → ℕ) (n s m : ℕ) (v0 : View) → IsRow row n s
    → ((i : ℕ) → i < n → (v : View) → TurnsByte v (block e (body i) v) (row i) s i) → s ≢ 0 → HoldsNumbers v0 → v0.at s ≡ m
    → (i : ℕ) → i < n → (v : View) → TurnsTo v0 row m i v → TurnsTo v0 row m (suc i) (block e (body i) v)
turn_step e body row n s m v0 places one some numbers sign i l v h =
    let a = row i in
    let w = block e (body i) v in
    let o = one i l v in
    let x = v0.at a in
    let c = carry_at i v.flags in
    let work = places.work i l in
    let bx : x < 256 = numbers a work in
    let bit = h.bit in
    let ex : v.at a ≡ x = h.same a (omega arith) (λ j m. places.apart i j l (omega arith) (omega arith)) in
    let em : v.at s ≡ m = h.same s some (λ j t q. places.beside j (omega arith) (sym q)) ∙ sign in
    let low : number_of (at_row row w) i ≡ number_of (at_row row v) i =
    number_same (at_row row w) (at_row row v) i (λ j t.
    let u = places.work j (omega arith) in o.same (row j) (omega arith) (places.apart j i (omega arith) l (omega arith))) in
    let y = w.at a in
    let is : y ≡ byte_difference (bit_xor x m) m c = o.here ∙ rw (ex, em) refl in
    let carry : w.flags.c ≡ from_bool (nat_lt (bit_xor x m) (m + c)) = o.carry ∙ rw (ex, em) refl in
    let by : y < 256 = rw is (mod_below (bit_xor x m + 256 - (m + c)) 256 (omega arith)) in
    record {
      plus = λ z.
          let ic : c ≡ 0 = (h.plus z).1 in
          let sum : x + 256 * w.flags.c ≡ 0 + 0 + y =
          rw (carry, is, z, xor_zero_r x, ic) (byte_borrow x 0 0 bx (omega arith) (omega arith)) in
          let r = no_carry x y w.flags.c bx by sum in
          let v1 = (h.plus z).0 in
          (rw (low, r.0, v1) refl, r.1);
      minus = λ z.
          let sum : 255 - x + 256 * w.flags.c ≡ 255 + c + y =
          rw (carry, is, z, complement x bx) (byte_borrow (255 - x) 255 c (omega arith) (omega arith) bit) in
          rw (low, pow-suc 256 i)
          (minus_step (number_of (at_row row v) i) (number_of (at_row row v0) i) x y c w.flags.c (256 ^ i) (h.minus z)
          (minus_digit x c w.flags.c y bx sum));
      bit = rw carry (borrow_bit (bit_xor x m) m c);
      numbers = λ k u. ⊎_elim (λ (q : k ≡ a). subst (λ t. w.at t < 256) (sym q) by)
          (λ (q : k ≢ a). rw (o.same k (omega arith) q) (h.numbers k u)) (cases_eq k a);
      same = λ k z q. o.same k z (q i (omega arith)) ∙ h.same k z (λ j t. q j (omega arith));
      inputs = o.inputs ∙ h.inputs;
      safe = o.safe ∙ h.safe;
      seen = o.seen ∙ h.seen;
    }

-- the number is negated where the sign is 1
pub record Turned (v : View) (row : ℕ → ℕ) (n sign : ℕ) (w : View) : Type 0 where
  pub number : number_of (λ j. w.at (row j)) n ≡ negated_if sign n (number_of (λ j. v.at (row j)) n)
  pub numbers : HoldsNumbers w
  pub same : (k : ℕ) → k ≢ 0 → ((j : ℕ) → j < n → k ≢ row j) → w.at k ≡ v.at k
  pub inputs : w.inputs ≡ v.inputs
  pub safe : w.safe ≡ v.safe
  pub seen : w.seen ≡ v.seen

pub turned : (e : Env) (body : ℕ → List AsmItem) (row : ℕ → ℕ) (n s sign : ℕ) (v : View) → IsRow row n s
    → ((i : ℕ) → i < n → (v : View) → TurnsByte v (block e (body i) v) (row i) s i) → s ≢ 0 → HoldsNumbers v
    → v.at s ≡ 255 * sign → sign ≤ 1 → Turned v row n sign (block e (chain body n) v)
turned e body row n s sign v places one some numbers is bit =
    let w = block e (chain body n) v in
    let h : TurnsTo v row (255 * sign) n w =
    chain_holds e body (TurnsTo v row (255 * sign)) n (turn_step e body row n s (255 * sign) v places one some numbers is) v (record {
      plus = λ z. (refl, refl);
      minus = λ z. refl;
      bit = omega arith;
      numbers = numbers;
      same = λ k z q. refl;
      inputs = refl;
      safe = refl;
      seen = refl;
    }) in
    record {
      number = by_sign sign bit (number_of (at_row row w) n) (number_of (at_row row v) n) (carry_at n w.flags)
          (number_below (at_row row w) n (λ j l. h.numbers (row j) (places.work j l)))
          (number_below (at_row row v) n (λ j l. numbers (row j) (places.work j l))) (λ q. (h.plus q).0) h.minus h.bit;
      numbers = h.numbers;
      same = h.same;
      inputs = h.inputs;
      safe = h.safe;
      seen = h.seen;
    }
  where
    negated : (V A c p : ℕ) → V < p → A < p → c ≤ 1 → V + A ≡ c * p → V ≡ (p - A) % p
    negated V A zero p l k b q =
        let z : V ≡ 0 = omega (arith, q) in
        let e1 : p - A ≡ 1 * p + 0 = omega (arith, q) in
        z ∙ sym (ap (λ t. t % p) e1 ∙ mod-mul-add 1 p 0 (omega arith))
    negated V A (suc zero) p l k b q =
        let e1 : p - A ≡ 0 * p + V = omega (arith, q) in
        sym (ap (λ t. t % p) e1 ∙ mod-mul-add 0 p V l)
    negated V A (suc (suc c)) p l k b q = absurd (omega arith)

    by_sign : (sign : ℕ) → sign ≤ 1 → (V A c : ℕ) → V < 256 ^ n → A < 256 ^ n → (255 * sign ≡ 0 → V ≡ A)
        → (255 * sign ≡ 255 → V + A ≡ c * 256 ^ n) → c ≤ 1 → V ≡ negated_if sign n A
    by_sign zero b V A c l k f g o = f refl
    by_sign (suc zero) b V A c l k f g o = negated V A c (256 ^ n) l k o (g refl)
    by_sign (suc (suc s)) b V A c l k f g o = absurd (omega arith)

-- ---- their form

turns_straight : (r s i : ℕ) → all_straight (Plain (Eor r s) ∷ Plain (instruction Difference i r s) ∷ []) ≡ true
turns_straight r s zero = refl
turns_straight r s (suc i) = refl

byte_straight : (p : Location) (i : ℕ) → all_straight (turn_byte p i) ≡ true
byte_straight (InRegisters r) i = turns_straight (r + i) 31 i
byte_straight (InMemory o k) zero = refl
byte_straight (InMemory o k) (suc i) = refl

pub turn_straight : (p : Location) (n : ℕ) → all_straight (turn_code p n) ≡ true
turn_straight p n = chain_straight (turn_byte p) n (byte_straight p)

pub turn_divisor_straight : (n : ℕ) → all_straight (turn_divisor_code n) ≡ true
turn_divisor_straight n = chain_straight turn_divisor_byte n (λ i. turns_straight (divisor_register i) 1 i)

pub turn_steps : (p : Location) (n : ℕ) → code_steps (turn_code p n) ≤ n * 4
turn_steps (InRegisters r) n = omega (arith, steps-chain (turn_byte (InRegisters r)) n 2 (λ i. refl))
turn_steps (InMemory o k) n = omega (arith, steps-chain (turn_byte (InMemory o k)) n 4 (λ i. refl))

pub turn_divisor_steps : (n : ℕ) → code_steps (turn_divisor_code n) ≡ n * 2
turn_divisor_steps n = steps-chain turn_divisor_byte n 2 (λ i. refl)
