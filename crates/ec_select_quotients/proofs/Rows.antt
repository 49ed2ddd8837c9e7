-- The remainder beside the divisor's registers: it is compared with the divisor, and the divisor is taken from it.
use Rattle.std.proofs.Common.{◌≡◌, ◌≢◌, ℕ, zero, suc, ◌+◌, ◌-◌, ◌*◌, ◌/◌, ◌^◌, ◌<◌, ◌≤◌, ⊎_elim, true, refl, sym, ap, ◌∙◌}
use Rattle.std.proofs.Common.{subst, arith, [], ◌∷◌, ◌⊎◌, inl, inr}
use Rattle.std.specs.Prelude.{nat_lt}
use Rattle.std.specs.Int.{from_bool}
use Rattle.std.proofs.lemmas.Bool.{cases_eq}
use Rattle.std.proofs.lemmas.Nat.{mod_below, div-mul-add}
use native.Mathlib.Nat.{pow-suc}
use Rattle.ec_avr.specs.Flags.{byte_difference}
use Rattle.ec_asm.specs.View.{View}
use Rattle.ec_asm.specs.declared.pieces.Operator.TheVariants.{Difference}
use Rattle.ec_asm.specs.declared.items.AsmItem.TheVariants.{Plain}
use Rattle.ec_asm.specs.Change.{Env, change, set_both, difference_flags}
use Rattle.ec_asm.specs.Items.{block, all_straight, code_steps}
use Rattle.ec_asm.specs.Pieces.{Outside, value, instruction, compares, carry_at, zero_at}
use Rattle.ec_asm.specs.PieceLaws.{HoldsNumbers}
use Rattle.ec_asm.proofs.Bytes.{put_here, put_other}
use Rattle.ec_asm.proofs.Compared.{byte_borrow, borrow_bit, borrow_step, below_step, compare_change, borrow_is}
use Rattle.ec_asm.proofs.Hoare.{chain_holds, chain_straight, steps-chain}
use Rattle.ec_asm.proofs.Numbers.{value_below}
use Rattle.ec_asm.proofs.Sum.{value-same, not_here, fewer}
use Rattle.ec_select_quotients.specs.Quotients.{divisor_register, number_of, test_byte, test_code, less_byte, less_code}
use Rattle.ec_select_quotients.specs.Laws.{divisor_bytes}

-- ---- the divisor's registers

-- they are R12, R13, R26 and R27
pub register_is : (i : ℕ) → i < 4 → ((i < 2) × (divisor_register i ≡ 12 + i)) ⊎ ((2 ≤ i) × (divisor_register i ≡ 24 + i))
register_is zero l = inl (omega arith, refl)
register_is (suc zero) l = inl (omega arith, refl)
register_is (suc (suc zero)) l = inr (omega arith, refl)
register_is (suc (suc (suc zero))) l = inr (omega arith, refl)
register_is (suc (suc (suc (suc i)))) l = absurd (omega arith)

pub register_from : (i : ℕ) → i < 4 → 12 ≤ divisor_register i
register_from i l = ⊎_elim (λ x. let y = x.1 in omega arith) (λ x. let y = x.1 in omega arith) (register_is i l)

pub register_below : (i : ℕ) → i < 4 → divisor_register i < 28
register_below i l = ⊎_elim (λ x. let y = x.1 in omega arith) (λ x. let y = x.1 in omega arith) (register_is i l)

-- none is one of R14 to R25
pub register_beside : (i k : ℕ) → i < 4 → 14 ≤ k → k < 26 → divisor_register i ≢ k
register_beside i k l a b q =
    ⊎_elim (λ x. let y = x.1 in omega arith) (λ x. let y = x.1 in omega arith) (register_is i l)

pub registers_apart : (i j : ℕ) → i < 4 → j < 4 → i ≢ j → divisor_register i ≢ divisor_register j
registers_apart i j l m n q =
    ⊎_elim
    (λ x. let y = x.1 in ⊎_elim (λ z. let w = z.1 in omega arith) (λ z. let w = z.1 in omega arith) (register_is j m))
    (λ x. let y = x.1 in ⊎_elim (λ z. let w = z.1 in omega arith) (λ z. let w = z.1 in omega arith) (register_is j m))
    (register_is i l)

-- ---- numbers

pub number_same : (f g : ℕ → ℕ) (n : ℕ) → ((j : ℕ) → j < n → f j ≡ g j) → number_of f n ≡ number_of g n
number_same f g zero h = refl
number_same f g (suc n) h =
    let x = number_same f g n (λ j l. h j (omega arith)) in
    let y = h n (omega arith) in
    rw (x, y) refl

pub number_below : (f : ℕ → ℕ) (n : ℕ) → ((j : ℕ) → j < n → f j < 256) → number_of f n < 256 ^ n
number_below f zero h = omega arith
number_below f (suc n) h =
    rw pow-suc (below_step (number_of f n) (f n) (256 ^ n) (number_below f n (λ j l. h j (omega arith))) (h n (omega arith)))

-- of bytes from an address on
pub number_from : (f g : ℕ → ℕ) (a n : ℕ) → ((j : ℕ) → j < n → f j ≡ g (a + j)) → number_of f n ≡ value g a n
number_from f g a zero h = refl
number_from f g a (suc n) h =
    let x = number_from f g a n (λ j l. h j (omega arith)) in
    let y = h n (omega arith) in
    rw (x, y) refl

-- the highest byte
pub top_of : (f : ℕ → ℕ) (top x : ℕ) → ((j : ℕ) → j < top → f j < 256) → number_of f (suc top) ≡ x → f top ≡ x / 256 ^ top
top_of f top x h q =
    let low = number_below f top h in
    let e : x ≡ f top * 256 ^ top + number_of f top = sym q ∙ omega arith in
    sym (ap (λ z. z / 256 ^ top) e ∙ div-mul-add (f top) (256 ^ top) (number_of f top) low)

-- where the divisor's registers are as they were
pub divisor_same : (v w : View) (n : ℕ) → n ≤ 4 → ((j : ℕ) → j < n → w.at (divisor_register j) ≡ v.at (divisor_register j))
    → number_of (divisor_bytes w) n ≡ number_of (divisor_bytes v) n
divisor_same v w n few h = number_same (divisor_bytes w) (divisor_bytes v) n h

pub divisor_below : (v : View) (n : ℕ) → n ≤ 4 → HoldsNumbers v → number_of (divisor_bytes v) n < 256 ^ n
divisor_below v n few h = number_below (divisor_bytes v) n (λ j l.
    let k = register_from j (omega arith) in h (divisor_register j) (omega arith))

-- ---- the comparison

record Tests (v0 : View) (i : ℕ) (v : View) : Type 0 where
  rest : ℕ
  difference : rest + number_of (divisor_bytes v0) i ≡ value v0.at 8 i + carry_at i v.flags * 256 ^ i
  below : rest < 256 ^ i
  borrow : carry_at i v.flags ≤ 1
  same : (k : ℕ) → v.at k ≡ v0.at k
  inputs : v.inputs ≡ v0.inputs
  safe : v.safe ≡ v0.safe
  seen : v.seen ≡ v0.seen

test_step : (e : Env) (n : ℕ) (v0 : View) → n ≤ 4 → HoldsNumbers v0 → (i : ℕ) → i < n → (v : View) → Tests v0 i v
    → Tests v0 (suc i) (block e (test_byte i) v)
test_step e n v0 few bytes i l v h =
    let r = divisor_register i in
    let from = register_from i (omega arith) in
    let w = block e (test_byte i) v in
    let is = compare_change e i (8 + i) r v in
    let c = carry_at i v.flags in
    let x = v0.at r in
    let y = v0.at (8 + i) in
    let ex = h.same r in
    let ey = h.same (8 + i) in
    let bx : x < 256 = bytes r (omega arith) in
    let by : y < 256 = bytes (8 + i) (omega arith) in
    let d = byte_difference y x c in
    let f : w.flags.c ≡ from_bool (nat_lt y (x + c)) = ap (λ (u : View). u.flags.c) is ∙ rw (ex, ey) refl in
    let k : y + 256 * w.flags.c ≡ x + c + d = rw f (byte_borrow y x c by bx h.borrow) in
    record {
      rest = h.rest + d * 256 ^ i;
      difference = rw pow-suc
          (borrow_step h.rest (256 ^ i) x y (number_of (divisor_bytes v0) i) (value v0.at 8 i) c w.flags.c d h.difference k);
      below = rw pow-suc (below_step h.rest d (256 ^ i) h.below (mod_below (y + 256 - (x + c)) 256 (omega arith)));
      borrow = rw f (borrow_bit y x c);
      same = λ j. ap (λ (u : View). u.at j) is ∙ h.same j;
      inputs = ap (λ (u : View). u.inputs) is ∙ h.inputs;
      safe = ap (λ (u : View). u.safe) is ∙ h.safe;
      seen = ap (λ (u : View). u.seen) is ∙ h.seen;
    }

-- C tells whether the remainder is less, and nothing else has changed
pub record TellsLess (v : View) (n : ℕ) (w : View) : Type 0 where
  pub less : w.flags.c ≡ from_bool (nat_lt (value v.at 8 n) (number_of (divisor_bytes v) n))
  pub same : (k : ℕ) → w.at k ≡ v.at k
  pub inputs : w.inputs ≡ v.inputs
  pub safe : w.safe ≡ v.safe
  pub seen : w.seen ≡ v.seen

pub tested : (e : Env) (n : ℕ) (v : View) → suc n ≤ 4 → HoldsNumbers v → TellsLess v (suc n) (block e (test_code (suc n)) v)
tested e n v few bytes =
    let h : Tests v (suc n) (block e (test_code (suc n)) v) =
    chain_holds e test_byte (Tests v) (suc n) (test_step e (suc n) v few bytes) v (record {
      rest = 0;
      difference = refl;
      below = omega arith;
      borrow = omega arith;
      same = λ k. refl;
      inputs = refl;
      safe = refl;
      seen = refl;
    }) in
    record {
      less = borrow_is h.rest (number_of (divisor_bytes v) (suc n)) (value v.at 8 (suc n)) _ (256 ^ suc n) h.difference h.below h.borrow
          (divisor_below v (suc n) few bytes) (value_below v.at 8 (suc n) (λ j l. bytes (8 + j) (omega arith)));
      same = h.same;
      inputs = h.inputs;
      safe = h.safe;
      seen = h.seen;
    }

compares_go : (i d r : ℕ) → all_straight (Plain (compares i d r) ∷ []) ≡ true
compares_go zero d r = refl
compares_go (suc i) d r = refl

pub test_straight : (n : ℕ) → all_straight (test_code n) ≡ true
test_straight n = chain_straight test_byte n (λ i. compares_go i (8 + i) (divisor_register i))

pub test_steps : (n : ℕ) → code_steps (test_code n) ≡ n * 1
test_steps n = steps-chain test_byte n 1 (λ i. refl)

-- ---- the difference

pub less_change : (e : Env) (i d r : ℕ) (v : View) → change e (instruction Difference i d r) v ≡
    set_both d (byte_difference (v.at d) (v.at r) (carry_at i v.flags))
    (difference_flags v.flags (v.at d) (v.at r) (carry_at i v.flags) (zero_at i v.flags)) v
less_change e zero d r v = refl
less_change e (suc i) d r v = refl

record TakesTo (v0 : View) (i : ℕ) (v : View) : Type 0 where
  difference : value v.at 8 i + number_of (divisor_bytes v0) i ≡ value v0.at 8 i + carry_at i v.flags * 256 ^ i
  below : value v.at 8 i < 256 ^ i
  borrow : carry_at i v.flags ≤ 1
  numbers : HoldsNumbers v
  same : (k : ℕ) → Outside 8 i k → v.at k ≡ v0.at k
  inputs : v.inputs ≡ v0.inputs
  safe : v.safe ≡ v0.safe
  seen : v.seen ≡ v0.seen

less_step : (e : Env) (n : ℕ) (v0 : View) → n ≤ 4 → HoldsNumbers v0 → (i : ℕ) → i < n → (v : View) → TakesTo v0 i v
    → TakesTo v0 (suc i) (block e (less_byte i) v)
less_step e n v0 few bytes i l v h =
    let r = divisor_register i in
    let from = register_from i (omega arith) in
    let w = block e (less_byte i) v in
    let is = less_change e i (8 + i) r v in
    let c = carry_at i v.flags in
    let x = v0.at r in
    let y = v0.at (8 + i) in
    let ex : v.at r ≡ x = h.same r (λ q. omega arith) in
    let ey : v.at (8 + i) ≡ y = h.same (8 + i) (λ q. omega arith) in
    let bx : x < 256 = bytes r (omega arith) in
    let by : y < 256 = bytes (8 + i) (omega arith) in
    let d = byte_difference y x c in
    let other : (k : ℕ) → k ≢ 8 + i → w.at k ≡ v.at k = λ k q. ap (λ (u : View). u.at k) is ∙ put_other v.at (8 + i) _ k q in
    let here : w.at (8 + i) ≡ d =
    ap (λ (u : View). u.at (8 + i)) is ∙ put_here v.at (8 + i) _ (8 + i) refl ∙ rw (ex, ey) refl in
    let f : w.flags.c ≡ from_bool (nat_lt y (x + c)) = ap (λ (u : View). u.flags.c) is ∙ rw (ex, ey) refl in
    let k : y + 256 * w.flags.c ≡ x + c + w.at (8 + i) = rw (f, here) (byte_borrow y x c by bx h.borrow) in
    let low : value w.at 8 i ≡ value v.at 8 i = value-same w.at v.at 8 i (λ j m. other (8 + j) (omega arith)) in
    let small : w.at (8 + i) < 256 = rw here (mod_below (y + 256 - (x + c)) 256 (omega arith)) in
    record {
      difference = rw (low, pow-suc)
          (borrow_step (value v.at 8 i) (256 ^ i) x y (number_of (divisor_bytes v0) i) (value v0.at 8 i) c w.flags.c (w.at (8 + i))
          h.difference k);
      below = rw (low, pow-suc) (below_step (value v.at 8 i) (w.at (8 + i)) (256 ^ i) h.below small);
      borrow = rw f (borrow_bit y x c);
      numbers = λ j u. ⊎_elim (λ (q : j ≡ 8 + i). subst (λ z. w.at z < 256) (sym q) small) (λ q. rw (other j q) (h.numbers j u))
          (cases_eq j (8 + i));
      same = λ j o. other j (not_here j 8 i o) ∙ h.same j (fewer j 8 i o);
      inputs = ap (λ (u : View). u.inputs) is ∙ h.inputs;
      safe = ap (λ (u : View). u.safe) is ∙ h.safe;
      seen = ap (λ (u : View). u.seen) is ∙ h.seen;
    }

-- the divisor is taken from the remainder, which is not less
pub record Lessened (v : View) (n : ℕ) (w : View) : Type 0 where
  pub rest : value w.at 8 n + number_of (divisor_bytes v) n ≡ value v.at 8 n
  pub numbers : HoldsNumbers w
  pub same : (k : ℕ) → Outside 8 n k → w.at k ≡ v.at k
  pub inputs : w.inputs ≡ v.inputs
  pub safe : w.safe ≡ v.safe
  pub seen : w.seen ≡ v.seen

pub lessened : (e : Env) (n : ℕ) (v : View) → n ≤ 4 → HoldsNumbers v → number_of (divisor_bytes v) n ≤ value v.at 8 n
    → Lessened v n (block e (less_code n) v)
lessened e n v few bytes enough =
    let h : TakesTo v n (block e (less_code n) v) =
    chain_holds e less_byte (TakesTo v) n (less_step e n v few bytes) v (record {
      difference = refl;
      below = omega arith;
      borrow = omega arith;
      numbers = bytes;
      same = λ k o. refl;
      inputs = refl;
      safe = refl;
      seen = refl;
    }) in
    let whole : value v.at 8 n < 256 ^ n = value_below v.at 8 n (λ j l. bytes (8 + j) (omega arith)) in
    record {
      rest = no_borrow _ (number_of (divisor_bytes v) n) (value v.at 8 n) _ (256 ^ n) h.difference h.below enough h.borrow;
      numbers = h.numbers;
      same = h.same;
      inputs = h.inputs;
      safe = h.safe;
      seen = h.seen;
    }
  where
    no_borrow : (x d y c p : ℕ) → x + d ≡ y + c * p → x < p → d ≤ y → c ≤ 1 → x + d ≡ y
    no_borrow x d y zero p h l m b = omega (arith, h)
    no_borrow x d y (suc c) p h l m b = absurd (omega (arith, h, l, m, b))

less_goes : (i d r : ℕ) → all_straight (Plain (instruction Difference i d r) ∷ []) ≡ true
less_goes zero d r = refl
less_goes (suc i) d r = refl

pub less_straight : (n : ℕ) → all_straight (less_code n) ≡ true
less_straight n = chain_straight less_byte n (λ i. less_goes i (8 + i) (divisor_register i))

pub less_steps : (n : ℕ) → code_steps (less_code n) ≡ n * 1
less_steps n = steps-chain less_byte n 1 (λ i. refl)
