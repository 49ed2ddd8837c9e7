-- Copies between registers of even numbers, two bytes at a time.
use Rattle.std.proofs.Common.{◌≡◌, ◌≢◌, ℕ, zero, suc, ◌+◌, ◌*◌, ◌/◌, ◌%◌, ◌<◌, ◌≤◌, ⊎_elim, Bool, true, false, []}
use Rattle.std.proofs.Common.{refl, ◌∙◌, subst, arith, append-nil}
use Rattle.std.specs.Prelude.{◌==◌, if◌then◌else◌}
use Rattle.std.proofs.lemmas.Bool.{cases_eq, eqb-true, eqb-false}
use Rattle.ec_isa.specs.declared.instructions.Instr.TheVariants.{Movw}
use Rattle.ec_asm.specs.declared.pieces.Location.{Location}
use Rattle.ec_asm.specs.declared.pieces.Location.TheVariants.{InRegisters}
use Rattle.ec_asm.specs.View.{View, put, pair, put_pair}
use Rattle.ec_asm.specs.Change.{Env, Own, change}
use Rattle.ec_asm.specs.Items.{block, chain, all_straight, code_steps}
use Rattle.ec_asm.specs.Pieces.{StandsFrom, Outside, copy_byte}
use Rattle.ec_asm.specs.PieceLaws.{HoldsNumbers, IsReadFirst}
use Rattle.ec_asm.proofs.Bytes.{copy_byte_copies, put_here, put_other}
use Rattle.ec_asm.proofs.Hoare.{block-append, chain_holds, chain_straight, steps-append, steps-chain, straight-append}
use Rattle.ec_select_operations.specs.Code.{pair_code, odd_code, pairs_code}

-- ---- one pair

-- two bytes at y are those at x, and all others are kept
record PairIs (f g : ℕ → ℕ) (x y : ℕ) : Type 0 where
  low : g y ≡ f x
  high : g (y + 1) ≡ f (x + 1)
  other : (k : ℕ) → k ≢ y → k ≢ y + 1 → g k ≡ f k

pair_is : (f : ℕ → ℕ) (x y : ℕ) → f x < 256 → PairIs f (put_pair f y (pair f x)) x y
pair_is f x y small =
    let n = pair f x in
    let g = put f y (n % 256) in
    let first : n % 256 ≡ f x = omega (arith, small) in
    let second : n / 256 ≡ f (x + 1) = omega (arith, small) in
    record {
      low = put_other g (y + 1) (n / 256) y (omega arith) ∙ put_here f y (n % 256) y refl ∙ first;
      high = put_here g (y + 1) (n / 256) (y + 1) refl ∙ second;
      other = λ k p q. put_other g (y + 1) (n / 256) k q ∙ put_other f y (n % 256) k p;
    }

-- ---- all pairs

-- m bytes were brought from a to b, and nothing else but R0 was changed or seen
pub record Brought (v0 : View) (a b m : ℕ) (v : View) : Type 0 where
  pub there : (j : ℕ) → j < m → v.at (b + j) ≡ v0.at (a + j)
  pub same : (k : ℕ) → k ≢ 0 → Outside b m k → v.at k ≡ v0.at k
  pub inputs : v.inputs ≡ v0.inputs
  pub safe : v.safe ≡ v0.safe
  pub seen : v.seen ≡ v0.seen

kept_yet : (a b n m i : ℕ) → IsReadFirst a b n → m ≤ i → i < n → Outside b m (a + i)
kept_yet a b n m i far l k h = grind arith

pair_brought : (e : Env) (n a b i : ℕ) (v0 v : View) → 2 ≤ a → IsReadFirst a b n → HoldsNumbers v0 → 2 * i + 1 < n
    → Brought v0 a b (2 * i) v → Brought v0 a b (2 * suc i) (change e (Movw (b + 2 * i) (a + 2 * i)) v)
pair_brought e n a b i v0 v some far numbers l h =
    let x = a + 2 * i in
    let w = change e (Movw (b + 2 * i) x) v in
    let next : a + (2 * i + 1) ≡ x + 1 = omega arith in
    let here : b + (2 * i + 1) ≡ b + 2 * i + 1 = omega arith in
    let low : v.at x ≡ v0.at x = h.same x (omega arith) (kept_yet a b n (2 * i) (2 * i) far (omega arith) (omega arith)) in
    let high : v.at (x + 1) ≡ v0.at (x + 1) =
    subst (λ k. v.at k ≡ v0.at k) next
    (h.same (a + (2 * i + 1)) (omega arith) (kept_yet a b n (2 * i) (2 * i + 1) far (omega arith) (omega arith))) in
    let o = pair_is v.at x (b + 2 * i) (rw low (numbers x (omega arith))) in
    record {
      there = λ j m.
          ⊎_elim
          (λ (q : j ≡ 2 * i). rw q (o.low ∙ low))
          (λ (q : j ≢ 2 * i).
          ⊎_elim
          (λ (r : j ≡ 2 * i + 1). rw (r, here, next) (o.high ∙ high))
          (λ (r : j ≢ 2 * i + 1). o.other (b + j) (omega (arith, q)) (omega (arith, r)) ∙ h.there j (omega (arith, m, q, r)))
          (cases_eq j (2 * i + 1)))
          (cases_eq j (2 * i));
      same = λ k z m. o.other k (λ q. grind arith) (λ q. grind arith) ∙ h.same k z (λ t. let u = m t in omega arith);
      inputs = h.inputs;
      safe = h.safe;
      seen = h.seen;
    }

-- ---- a byte more

byte_brought : (e : Env) (p q : Location) (n a b i : ℕ) (v0 v : View) → StandsFrom e p n a Own → StandsFrom e q n b Own
    → IsReadFirst a b n → i < n → Brought v0 a b i v → Brought v0 a b (suc i) (block e (copy_byte p q i) v)
byte_brought e p q n a b i v0 v sa sb far l h =
    let ua = sa.clear in
    let ub = sb.clear in
    let o = copy_byte_copies e p q i (a + i) (b + i) Own Own v (sa.at i l) (sb.at i l) (sa.kind i l) (sb.kind i l) refl refl
    (omega arith) (omega arith) in
    let ex = h.same (a + i) (omega arith) (kept_yet a b n i i far (omega arith) l) in
    record {
      there = λ j m. ⊎_elim (λ t. rw t (o.here ∙ ex))
          (λ t. o.same (b + j) (omega arith) (λ x. t (omega arith)) ∙ h.there j (omega arith)) (cases_eq j i);
      same = λ k z m. o.same k z (λ q. grind arith) ∙ h.same k z (λ t. let u = m t in omega arith);
      inputs = o.inputs ∙ h.inputs;
      safe = o.safe ∙ h.safe;
      seen = o.seen ∙ append-nil v.seen ∙ h.seen;
    }

pub pairs_bring : (e : Env) (r t n a b : ℕ) (v : View) → StandsFrom e (InRegisters r) n a Own
    → StandsFrom e (InRegisters t) n b Own → IsReadFirst a b n → HoldsNumbers v
    → Brought v a b n (block e (pairs_code r t n) v)
pairs_bring e r t n a b v sa sb far numbers =
    rw (block-append e (chain (pair_code r t) (n / 2)) (odd_code r t n) v) (by_count (n % 2 == 0) refl)
  where
    begun : Brought v a b 0 v
    begun = record { there = λ j m. absurd (omega arith); same = λ k z m. refl; inputs = refl; safe = refl; seen = refl }

    step : (i : ℕ) → i < n / 2 → (w : View) → Brought v a b (2 * i) w
        → Brought v a b (2 * suc i) (block e (pair_code r t i) w)
    step i l w h =
        let x : r + 2 * i ≡ a + 2 * i = sa.at (2 * i) (omega arith) in
        let y : t + 2 * i ≡ b + 2 * i = sb.at (2 * i) (omega arith) in
        rw (x, y) (pair_brought e n a b i v w sa.clear far numbers (omega arith) h)

    paired : Brought v a b (2 * (n / 2)) (block e (chain (pair_code r t) (n / 2)) v)
    paired = chain_holds e (pair_code r t) (λ i. Brought v a b (2 * i)) (n / 2) step v begun

    by_count : (even : Bool) → (n % 2 == 0) ≡ even
        → Brought v a b n (block e (if even then [] else copy_byte (InRegisters r) (InRegisters t) (n / 2 * 2))
        (block e (chain (pair_code r t) (n / 2)) v))
    by_count true h =
        let all : 2 * (n / 2) ≡ n = omega (arith, eqb-true (n % 2) 0 h) in
        subst (λ m. Brought v a b m (block e (chain (pair_code r t) (n / 2)) v)) all paired
    by_count false h =
        let odd : n % 2 ≢ 0 = eqb-false (n % 2) 0 h in
        let order : 2 * (n / 2) ≡ n / 2 * 2 = omega arith in
        let all : suc (n / 2 * 2) ≡ n = omega (arith, odd) in
        let w = block e (chain (pair_code r t) (n / 2)) v in
        subst
        (λ m. Brought v a b m (block e (copy_byte (InRegisters r) (InRegisters t) (n / 2 * 2)) w))
        all
        (byte_brought e (InRegisters r) (InRegisters t) n a b (n / 2 * 2) v w sa sb far (omega (arith, odd))
        (subst (λ m. Brought v a b m w) order paired))

-- ---- their form

pub pairs_straight : (r t n : ℕ) → all_straight (pairs_code r t n) ≡ true
pairs_straight r t n =
    straight-append (chain (pair_code r t) (n / 2)) (odd_code r t n) (chain_straight (pair_code r t) (n / 2) (λ i. refl))
    (by_count (n % 2 == 0))
  where
    by_count : (even : Bool)
        → all_straight (if even then [] else copy_byte (InRegisters r) (InRegisters t) (n / 2 * 2)) ≡ true
    by_count true = refl
    by_count false = refl

some_odd : (n : ℕ) → (n % 2 == 0) ≡ false → 1 ≤ n
some_odd zero h = cc
some_odd (suc n) h = omega arith

pub pairs_steps : (r t n : ℕ) → code_steps (pairs_code r t n) ≤ n * 2
pairs_steps r t n =
    let last = by_count (n % 2 == 0) refl in
    omega (
      arith,
      steps-append (chain (pair_code r t) (n / 2)) (odd_code r t n),
      steps-chain (pair_code r t) (n / 2) 1 (λ i. refl),
      last,
    )
  where
    by_count : (even : Bool) → (n % 2 == 0) ≡ even
        → code_steps (if even then [] else copy_byte (InRegisters r) (InRegisters t) (n / 2 * 2)) ≤ n
    by_count true h = omega arith
    by_count false h = some_odd n h
