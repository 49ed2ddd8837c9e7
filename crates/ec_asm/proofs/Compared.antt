-- Copies and comparisons of n bytes, wherever they stand.
use Rattle.std.proofs.Common.{◌≡◌, ℕ, zero, suc, ◌+◌, ◌-◌, ◌*◌, ◌^◌, ◌<◌, ◌≤◌, ⊎_elim, Bool, true, false, ◌++◌, refl, sym, ap, ◌∙◌, arith}
use Rattle.std.proofs.Common.{append-nil, append_assoc}
use Rattle.std.specs.Prelude.{nat_lt, ◌==◌}
use Rattle.std.specs.Int.{from_bool}
use Rattle.std.proofs.lemmas.Bool.{cases_eq, cases_lt, ne_eqb}
use Rattle.std.proofs.lemmas.Bool.Decides.{nat_tests}
use Rattle.std.proofs.lemmas.Nat.{mod_below, mul-le}
use native.Mathlib.Nat.{pow-suc}
use Rattle.ec_avr.specs.Flags.{byte_difference}
use Rattle.ec_asm.specs.View.{View}
use Rattle.ec_asm.specs.Change.{Env, Kind, Own, change, set, difference_flags}
use Rattle.ec_asm.specs.Items.{block}
use Rattle.ec_asm.proofs.Hoare.{chain_holds}
use Rattle.ec_asm.specs.declared.pieces.Location.{Location}
use Rattle.ec_asm.specs.declared.pieces.Location.TheVariants.{InRegisters, InMemory}
use Rattle.ec_asm.specs.Pieces.{address, StandsFrom, KindIs, copy_byte, value, carry_at, read_of, write_of, copy_code, copy_log, CopiesTo}
use Rattle.ec_asm.specs.Pieces.{zero_at, compares, compare_byte, compare_code, ComparesByte, Compares, is_held}
use Rattle.ec_asm.proofs.Numbers.{pow_pos}
use Rattle.ec_asm.proofs.Bytes.{copy_byte_copies, put_other}
use Rattle.ec_asm.proofs.Sum.{not_here, fewer, not_yet}

copy_step : (e : Env) (p q : Location) (n a b : ℕ) (ka kb : Kind) (v0 : View) → StandsFrom e p n a ka
    → StandsFrom e q n b kb → is_held ka ≡ true → is_held kb ≡ true → (a < b → a + n ≤ b) → (i : ℕ) → i < n → (v : View)
    → CopiesTo v0 a b ka kb i v → CopiesTo v0 a b ka kb (suc i) (block e (copy_byte p q i) v)
copy_step e p q n a b ka kb v0 sa sb ha hb far i l v h =
    let ua = sa.clear in
    let ub = sb.clear in
    let w = block e (copy_byte p q i) v in
    let o = copy_byte_copies e p q i (a + i) (b + i) ka kb v (sa.at i l) (sb.at i l) (sa.kind i l) (sb.kind i l) ha hb (omega arith)
    (omega arith) in
    let ex = h.same (a + i) (omega arith) (not_yet a b n i far l) in
    record {
      there = λ j m. ⊎_elim (λ t. rw t (o.here ∙ ex))
          (λ t. o.same (b + j) (omega arith) (λ x. t (omega arith)) ∙ h.there j (omega arith)) (cases_eq j i);
      same = λ k z m. o.same k z (not_here k b i m) ∙ h.same k z (fewer k b i m);
      flags = o.flags ∙ h.flags;
      inputs = o.inputs ∙ h.inputs;
      safe = o.safe ∙ h.safe;
      seen = o.seen ∙ rw (h.seen, ex)
          (append_assoc v0.seen (copy_log ka kb a b v0.at i) (read_of ka (a + i) (v0.at (a + i)) ++ write_of kb (b + i) (v0.at (a + i))));
    }

pub copy_holds : (e : Env) (p q : Location) (n a b : ℕ) (ka kb : Kind) (v0 : View) → StandsFrom e p n a ka
    → StandsFrom e q n b kb → is_held ka ≡ true → is_held kb ≡ true → (a < b → a + n ≤ b)
    → CopiesTo v0 a b ka kb n (block e (copy_code p q n) v0)
copy_holds e p q n a b ka kb v0 sa sb ha hb far =
    chain_holds e (copy_byte p q) (CopiesTo v0 a b ka kb) n (copy_step e p q n a b ka kb v0 sa sb ha hb far) v0 (record {
      there = λ j m. absurd (omega arith);
      same = λ k z m. refl;
      flags = refl;
      inputs = refl;
      safe = refl;
      seen = sym (append-nil v0.seen);
    })

-- ---- comparisons

-- one byte's difference and borrow
pub byte_borrow : (x y c : ℕ) → x < 256 → y < 256 → c ≤ 1
    → x + 256 * from_bool (nat_lt x (y + c)) ≡ y + c + byte_difference x y c
byte_borrow x y c p q r = grind (arith, nat_tests)

pub borrow_bit : (x y c : ℕ) → from_bool (nat_lt x (y + c)) ≤ 1
borrow_bit x y c = bit (nat_lt x (y + c))
  where
    bit : (b : Bool) → from_bool b ≤ 1
    bit true = omega arith
    bit false = omega arith

pub compare_change : (e : Env) (i d r : ℕ) (v : View)
    → change e (compares i d r) v ≡ record v { flags = difference_flags v.flags (v.at d) (v.at r) (carry_at i v.flags) (zero_at i v.flags) }
compare_change e zero d r v = refl
compare_change e (suc i) d r v = refl

pub compare_operates : (e : Env) (p q : Location) (i a b : ℕ) (v : View) → address e p i ≡ a → address e q i ≡ b
    → KindIs e p a Own → KindIs e q b Own → 2 ≤ a → 2 ≤ b
    → ComparesByte v (block e (compare_byte p q i) v) a b (carry_at i v.flags) (zero_at i v.flags)
compare_operates e (InRegisters x) (InRegisters y) i a b v p q ka kb ua ub =
    rw (compare_change e i (y + i) (x + i) v, p, q)
    (record { borrow = refl; equal = refl; sign = refl; same = λ k z o. refl; inputs = refl; safe = refl; seen = refl })
compare_operates e (InMemory o k) (InRegisters y) i a b v p q ka kb ua ub =
    let v1 = set 0 (v.at a) v in
    let d = put_other v.at 0 (v.at a) b (omega arith) in
    rw (p, ka, compare_change e i (y + i) 0 v1, q) (record {
      borrow = ap (λ n. from_bool (nat_lt n (v.at a + carry_at i v.flags))) d;
      equal = ap (λ n. from_bool (byte_difference n (v.at a) (carry_at i v.flags) == 0) * zero_at i v.flags) d;
      sign = ap (λ n. (difference_flags v.flags n (v.at a) (carry_at i v.flags) (zero_at i v.flags)).s) d;
      same = λ k z o. put_other v.at 0 (v.at a) k z;
      inputs = refl;
      safe = refl;
      seen = refl;
    })
compare_operates e (InRegisters x) (InMemory o k) i a b v p q ka kb ua ub =
    let v1 = set 0 (v.at b) v in
    let d = put_other v.at 0 (v.at b) a (omega arith) in
    rw (q, kb, compare_change e i 0 (x + i) v1, p) (record {
      borrow = ap (λ n. from_bool (nat_lt (v.at b) (n + carry_at i v.flags))) d;
      equal = ap (λ n. from_bool (byte_difference (v.at b) n (carry_at i v.flags) == 0) * zero_at i v.flags) d;
      sign = ap (λ n. (difference_flags v.flags (v.at b) n (carry_at i v.flags) (zero_at i v.flags)).s) d;
      same = λ k z o. put_other v.at 0 (v.at b) k z;
      inputs = refl;
      safe = refl;
      seen = refl;
    })
compare_operates e (InMemory o k) (InMemory o' k') i a b v p q ka kb ua ub =
    let v1 = set 1 (v.at a) v in
    let v2 = set 0 (v1.at b) v1 in
    let d = put_other v.at 1 (v.at a) b (omega arith) in
    rw (p, ka, q, kb, compare_change e i 0 1 v2) (record {
      borrow = ap (λ n. from_bool (nat_lt n (v.at a + carry_at i v.flags))) d;
      equal = ap (λ n. from_bool (byte_difference n (v.at a) (carry_at i v.flags) == 0) * zero_at i v.flags) d;
      sign = ap (λ n. (difference_flags v.flags n (v.at a) (carry_at i v.flags) (zero_at i v.flags)).s) d;
      same = λ k z o. put_other v1.at 0 (v1.at b) k z ∙ put_other v.at 1 (v.at a) k o;
      inputs = refl;
      safe = refl;
      seen = refl;
    })

pub borrow_step : (r p x y xs ys c c' d : ℕ) → r + xs ≡ ys + c * p → y + 256 * c' ≡ x + c + d
    → (r + d * p) + (xs + x * p) ≡ (ys + y * p) + c' * (p * 256)
borrow_step r p x y xs ys c c' d h k =
    let q : (y + 256 * c') * p ≡ (x + c + d) * p = ap (λ t. t * p) k in
    omega arith

-- no byte differs where the rest is 0 and the next one does not
pub zero_step : (r d p : ℕ) → 0 < p → from_bool (d == 0) * from_bool (r == 0) ≡ from_bool (r + d * p == 0)
zero_step r d p h =
    ⊎_elim
    (λ (g : 0 < d).
    let m : 1 * p ≤ d * p = mul-le 1 p d p (omega arith) (omega arith) in
    let x = ne_eqb d 0 (omega arith) in
    let y = ne_eqb (r + d * p) 0 (omega arith) in
    rw (x, y) (omega arith))
    (λ (g : d ≤ 0).
    let z : d ≡ 0 = omega arith in
    let q : r + 0 * p ≡ r = omega arith in
    rw (z, q) (omega arith))
    (cases_lt 0 d)

pub below_step : (v r p : ℕ) → v < p → r < 256 → v + r * p < p * 256
below_step v r p h k = let q : (r + 1) * p ≤ 256 * p = mul-le (r + 1) p 256 p (omega arith) (omega arith) in omega arith

compare_step : (e : Env) (p q : Location) (n a b : ℕ) (v0 : View) → StandsFrom e p n a Own → StandsFrom e q n b Own
    → ((k : ℕ) → 2 ≤ k → v0.at k < 256) → (i : ℕ) → i < n → (v : View) → Compares v0 a b i v
    → Compares v0 a b (suc i) (block e (compare_byte p q i) v)
compare_step e p q n a b v0 sa sb bytes i l v h =
    let ua = sa.clear in
    let ub = sb.clear in
    let w = block e (compare_byte p q i) v in
    let c = carry_at i v.flags in
    let o = compare_operates e p q i (a + i) (b + i) v (sa.at i l) (sb.at i l) (sa.kind i l) (sb.kind i l) (omega arith) (omega arith) in
    let ex = h.keeps.same (a + i) (omega arith) (omega arith) in
    let ey = h.keeps.same (b + i) (omega arith) (omega arith) in
    let bx = bytes (a + i) (omega arith) in
    let by = bytes (b + i) (omega arith) in
    let d = byte_difference (v0.at (b + i)) (v0.at (a + i)) c in
    let f : w.flags.c ≡ from_bool (nat_lt (v0.at (b + i)) (v0.at (a + i) + c)) = o.borrow ∙ rw (ex, ey) refl in
    let k : v0.at (b + i) + 256 * w.flags.c ≡ v0.at (a + i) + c + d = rw f (byte_borrow (v0.at (b + i)) (v0.at (a + i)) c by bx h.borrow) in
    record {
      rest = h.rest + d * 256 ^ i;
      difference = rw pow-suc
          (borrow_step h.rest (256 ^ i) (v0.at (a + i)) (v0.at (b + i)) (value v0.at a i) (value v0.at b i) c w.flags.c d h.difference k);
      below = rw pow-suc (below_step h.rest d (256 ^ i) h.below (mod_below (v0.at (b + i) + 256 - (v0.at (a + i) + c)) 256 (omega arith)));
      equal = o.equal ∙ rw (ex, ey, h.equal) (zero_step h.rest d (256 ^ i) (pow_pos i));
      borrow = rw f (borrow_bit (v0.at (b + i)) (v0.at (a + i)) c);
      keeps = record {
        same = λ k z o1. o.same k z o1 ∙ h.keeps.same k z o1;
        inputs = o.inputs ∙ h.keeps.inputs;
        safe = o.safe ∙ h.keeps.safe;
        seen = o.seen ∙ h.keeps.seen;
      };
    }

pub compare_holds : (e : Env) (p q : Location) (n a b : ℕ) (v0 : View) → StandsFrom e p n a Own → StandsFrom e q n b Own
    → ((k : ℕ) → 2 ≤ k → v0.at k < 256) → Compares v0 a b n (block e (compare_code p q n) v0)
compare_holds e p q n a b v0 sa sb bytes =
    chain_holds e (compare_byte p q) (Compares v0 a b) n (compare_step e p q n a b v0 sa sb bytes) v0 (record {
      rest = 0;
      difference = refl;
      below = omega arith;
      borrow = omega arith;
      equal = refl;
      keeps = record { same = λ k z o. refl; inputs = refl; safe = refl; seen = refl };
    })

-- the borrow tells which is less
pub borrow_is : (r xs ys c p : ℕ) → r + xs ≡ ys + c * p → r < p → c ≤ 1 → xs < p → ys < p → c ≡ from_bool (nat_lt ys xs)
borrow_is r xs ys zero p h l m u v = grind (arith, nat_tests)
borrow_is r xs ys (suc zero) p h l m u v = grind (arith, nat_tests)
borrow_is r xs ys (suc (suc c)) p h l m u v = absurd (omega arith)

-- no rest is left exactly where they are equal
pub equal_is : (r xs ys c p : ℕ) → r + xs ≡ ys + c * p → r < p → c ≤ 1 → xs < p → ys < p
    → from_bool (r == 0) ≡ from_bool (ys == xs)
equal_is r xs ys zero p h l m u v = grind (arith, nat_tests)
equal_is r xs ys (suc zero) p h l m u v = grind (arith, nat_tests)
equal_is r xs ys (suc (suc c)) p h l m u v = absurd (omega arith)
