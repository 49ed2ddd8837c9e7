-- The divisor in its registers.
use Rattle.std.proofs.Common.{◌≡◌, ◌≢◌, ℕ, zero, suc, ◌+◌, ◌/◌, ◌%◌, ◌<◌, ◌≤◌, ⊎_elim, Bool, true, false, refl, sym, ap, ◌∙◌, arith}
use Rattle.std.proofs.Common.{subst}
use Rattle.std.specs.Prelude.{◌==◌, if◌then◌else◌, nat_lt}
use Rattle.std.proofs.lemmas.Bool.{cases_eq, cases_lt, cases_Bool}
use Rattle.std.proofs.Common.{ltb-true, [], ◌∷◌}
use Rattle.ec_asm.specs.declared.items.AsmItem.TheVariants.{Plain}
use Rattle.ec_isa.specs.declared.instructions.Instr.TheVariants.{Movw}
use Rattle.ec_asm.specs.declared.pieces.Location.{Location}
use Rattle.ec_asm.specs.declared.pieces.Location.TheVariants.{InRegisters, InMemory}
use Rattle.ec_asm.specs.View.{View, put, pair, put_pair}
use Rattle.ec_asm.specs.Change.{Env, Own, change, set}
use Rattle.ec_asm.specs.Items.{block, chain, all_straight, code_steps}
use Rattle.ec_asm.specs.Pieces.{address, KindIs, StandsFrom, Outside}
use Rattle.ec_asm.specs.PieceLaws.{HoldsNumbers}
use Rattle.ec_asm.proofs.Bytes.{put_here, put_other}
use Rattle.ec_asm.proofs.Hoare.{chain_holds, chain_straight, steps-chain}
use Rattle.ec_select_quotients.specs.Quotients.{divisor_register}
use Rattle.ec_select_quotients.specs.Signs.{fetch_byte, fetch_pairs, fetch_code}
use Rattle.ec_select_quotients.proofs.Rows.{register_is, registers_apart}
use Rattle.ec_select_quotients.proofs.Turns.{IsFar, low_outside, high_outside}

-- the first i bytes stand in the divisor's registers, and nothing but these has changed
pub record Fetches (v0 : View) (b i : ℕ) (v : View) : Type 0 where
  pub there : (j : ℕ) → j < i → v.at (divisor_register j) ≡ v0.at (b + j)
  pub numbers : HoldsNumbers v
  pub same : (k : ℕ) → Outside 12 2 k → Outside 26 2 k → v.at k ≡ v0.at k
  pub inputs : v.inputs ≡ v0.inputs
  pub safe : v.safe ≡ v0.safe
  pub seen : v.seen ≡ v0.seen

-- ---- by bytes

fetch_is : (e : Env) (p : Location) (i a : ℕ) (v : View) → address e p i ≡ a → KindIs e p a Own
    → block e (fetch_byte p i) v ≡ set (divisor_register i) (v.at a) v
fetch_is e (InRegisters r) i a v p k = rw p refl
fetch_is e (InMemory o j) i a v p k = rw (p, k) refl

not_row : (i k : ℕ) → i < 4 → Outside 12 2 k → Outside 26 2 k → k ≢ divisor_register i
not_row i k l f g q =
    ⊎_elim (λ x. let y = x.1 in let u = f (omega arith) in omega arith)
    (λ x. let y = x.1 in let u = g (omega arith) in omega arith) (register_is i l)

-- a byte of a number that stands apart is in no row
number_outside : (b n j a m : ℕ) → ((k : ℕ) → a ≤ k → k < a + m → Outside b n k) → j < n → Outside a m (b + j)
number_outside b n j a m f l q =
    ⊎_elim (λ (t : b + j < a + m). let u = f (b + j) q t (omega arith) in absurd (omega arith)) (λ (t : a + m ≤ b + j). t) (cases_lt (b + j) (a + m))

step : (e : Env) (p : Location) (n b : ℕ) (v0 : View) → StandsFrom e p n b Own → IsFar b n → n ≤ 4 → (i : ℕ) → i < n
    → (v : View) → Fetches v0 b i v → Fetches v0 b (suc i) (block e (fetch_byte p i) v)
step e p n b v0 st far few i l v h =
    let d = divisor_register i in
    let ub = st.clear in
    let x = v.at (b + i) in
    let is = fetch_is e p i (b + i) v (st.at i l) (st.kind i l) in
    let kept : x ≡ v0.at (b + i) =
    h.same (b + i) (number_outside b n i 12 2 (λ k y z. low_outside b n k far (omega arith) (omega arith)) l)
    (number_outside b n i 26 2 (λ k y z. high_outside b n k far (omega arith) (omega arith)) l) in
    let w = set d x v in
    let other : (k : ℕ) → k ≢ d → w.at k ≡ v.at k = λ k q. put_other v.at d x k q in
    let small : x < 256 = h.numbers (b + i) (omega arith) in
    subst (Fetches v0 b (suc i)) (sym is) (record {
      there = λ j m. ⊎_elim (λ (q : j ≡ i). put_here v.at d x (divisor_register j) (ap divisor_register q) ∙ kept ∙ ap (λ t. v0.at (b + t)) (sym q))
          (λ (q : j ≢ i). other (divisor_register j) (registers_apart j i (omega arith) (omega arith) q) ∙ h.there j (omega arith)) (cases_eq j i);
      numbers = λ k u. ⊎_elim (λ (q : k ≡ d). subst (λ t. t < 256) (sym (put_here v.at d x k q)) small)
          (λ (q : k ≢ d). rw (other k q) (h.numbers k u)) (cases_eq k d);
      same = λ k f g. other k (not_row i k (omega arith) f g) ∙ h.same k f g;
      inputs = h.inputs;
      safe = h.safe;
      seen = h.seen;
    })

by_bytes : (e : Env) (p : Location) (n b : ℕ) (v : View) → StandsFrom e p n b Own → IsFar b n → n ≤ 4 → HoldsNumbers v
    → Fetches v b n (block e (chain (fetch_byte p) n) v)
by_bytes e p n b v st far few numbers =
    chain_holds e (fetch_byte p) (Fetches v b) n (step e p n b v st far few) v (record {
      there = λ j m. absurd (omega arith);
      numbers = numbers;
      same = λ k f g. refl;
      inputs = refl;
      safe = refl;
      seen = refl;
    })

-- ---- by pairs

pub record PairIs (f g : ℕ → ℕ) (x y : ℕ) : Type 0 where
  pub low : g y ≡ f x
  pub high : g (y + 1) ≡ f (x + 1)
  pub other : (k : ℕ) → k ≢ y → k ≢ y + 1 → g k ≡ f k

pub pair_is : (f : ℕ → ℕ) (x y : ℕ) → f x < 256 → PairIs f (put_pair f y (pair f x)) x y
pair_is f x y small =
    let n = pair f x in
    let g = put f y (n % 256) in
    let first : n % 256 ≡ f x = omega (arith, small) in
    let second : n / 256 ≡ f (x + 1) = omega (arith, small) in
    record {
      low = put_other g (y + 1) (n / 256) y (omega arith) ∙ put_here f y (n % 256) y refl ∙ first;
      high = put_here g (y + 1) (n / 256) (y + 1) refl ∙ second;
      other = λ k p q. put_other g (y + 1) (n / 256) k q ∙ put_other f y (n % 256) k p;
    }

pub paired : (f g : ℕ → ℕ) (x y k : ℕ) → PairIs f g x y → f x < 256 → f (x + 1) < 256 → f k < 256 → g k < 256
paired f g x y k h a b c =
    ⊎_elim (λ (q : k ≡ y). subst (λ t. g t < 256) (sym q) (subst (λ t. t < 256) (sym h.low) a))
    (λ (q : k ≢ y). ⊎_elim (λ (u : k ≡ y + 1). subst (λ t. g t < 256) (sym u) (subst (λ t. t < 256) (sym h.high) b))
    (λ (u : k ≢ y + 1). subst (λ t. t < 256) (sym (h.other k q u)) c) (cases_eq k (y + 1))) (cases_eq k y)

by_pairs : (e : Env) (r top b : ℕ) (v : View) → StandsFrom e (InRegisters r) (suc top) b Own → IsFar b (suc top)
    → suc top ≤ 4 → HoldsNumbers v → Fetches v b (suc top) (block e (fetch_pairs r top) v)
by_pairs e r top b v st far few numbers =
    let ub = st.clear in
    let first : r ≡ b = (let z = st.at 0 (omega arith) in omega (arith, z)) in
    let v1 = change e (Movw 12 r) v in
    let p = pair_is v.at r 12 (numbers r (omega (arith, first))) in
    let next : r + 1 ≡ b + 1 = ap (λ t. t + 1) first in
    let numbers1 : HoldsNumbers v1 = λ k u.
    paired v.at v1.at r 12 k p (numbers r (omega (arith, first))) (numbers (r + 1) (omega (arith, first))) (numbers k u) in
    let low1 : (k : ℕ) → Outside 12 2 k → v1.at k ≡ v.at k = λ k f. p.other k (λ q. let z = f (omega arith) in omega arith)
    (λ q. let z = f (omega arith) in omega arith) in
    let b0 : b + 0 ≡ b = omega arith in
    ⊎_elim
    (λ (t : nat_lt top 2 ≡ true).
    let less : top < 2 = ltb-true top 2 t in
    rw t (record {
      there = there2 top b r v v1 less first p.low p.high;
      numbers = numbers1;
      same = λ k f g. low1 k f;
      inputs = refl;
      safe = refl;
      seen = refl;
    }))
    (λ (t : nat_lt top 2 ≡ false).
    let v2 = change e (Movw 26 (r + 2)) v1 in
    let q = pair_is v1.at (r + 2) 26 (numbers1 (r + 2) (omega (arith, first))) in
    let kept : (j : ℕ) → j < 4 → 2 ≤ j → j ≤ suc (suc top) → v1.at (b + j) ≡ v.at (b + j) = λ j l m n.
    low1 (b + j) (apart_from far top j few l) in
    let numbers2 : HoldsNumbers v2 = λ k u.
    paired v1.at v2.at (r + 2) 26 k q (numbers1 (r + 2) (omega (arith, first))) (numbers1 (r + 2 + 1) (omega (arith, first))) (numbers1 k u) in
    rw t (record {
      there = there4 top b r v v1 v2 few first (q.other 12 (omega arith) (omega arith) ∙ p.low)
          (q.other 13 (omega arith) (omega arith) ∙ p.high) q.low q.high kept;
      numbers = numbers2;
      same = λ k f g. q.other k (λ u. let z = g (omega arith) in omega arith) (λ u. let z = g (omega arith) in omega arith) ∙ low1 k f;
      inputs = refl;
      safe = refl;
      seen = refl;
    }))
    (cases_Bool (nat_lt top 2))
  where
    -- also the byte above three bytes
    apart_from : IsFar b (suc top) → (top j : ℕ) → suc top ≤ 4 → j < 4 → Outside 12 2 (b + j)
    apart_from f top j few l q =
        ⊎_elim (λ (s : b < 8). let z = f.low s in absurd (omega arith)) (λ (s : 8 ≤ b). let z = f.above_low s in omega arith) (cases_lt b 8)

    there2 : (top b r : ℕ) (v w : View) → top < 2 → r ≡ b → w.at 12 ≡ v.at r → w.at (12 + 1) ≡ v.at (r + 1)
        → (j : ℕ) → j < suc top → w.at (divisor_register j) ≡ v.at (b + j)
    there2 top b r v w l q x y zero m = x ∙ ap v.at (omega (arith, q))
    there2 top b r v w l q x y (suc zero) m = y ∙ ap v.at (omega (arith, q))
    there2 top b r v w l q x y (suc (suc j)) m = absurd (omega arith)

    there4 : (top b r : ℕ) (v u w : View) → suc top ≤ 4 → r ≡ b → w.at 12 ≡ v.at r → w.at (12 + 1) ≡ v.at (r + 1)
        → w.at 26 ≡ u.at (r + 2) → w.at (26 + 1) ≡ u.at (r + 2 + 1)
        → ((j : ℕ) → j < 4 → 2 ≤ j → j ≤ suc (suc top) → u.at (b + j) ≡ v.at (b + j))
        → (j : ℕ) → j < suc top → w.at (divisor_register j) ≡ v.at (b + j)
    there4 top b r v u w few q x y x2 y2 kept zero m = x ∙ ap v.at (omega (arith, q))
    there4 top b r v u w few q x y x2 y2 kept (suc zero) m = y ∙ ap v.at (omega (arith, q))
    there4 top b r v u w few q x y x2 y2 kept (suc (suc zero)) m =
        let z : r + 2 ≡ b + 2 = ap (λ t. t + 2) q in
        x2 ∙ ap u.at z ∙ kept 2 (omega arith) (omega arith) (omega arith)
    there4 top b r v u w few q x y x2 y2 kept (suc (suc (suc zero))) m =
        let z : r + 2 + 1 ≡ b + 3 = omega (arith, q) in
        y2 ∙ ap u.at z ∙ kept 3 (omega arith) (omega arith) (omega arith)
    there4 top b r v u w few q x y x2 y2 kept (suc (suc (suc (suc j)))) m = absurd (omega arith)

-- ---- in all

pub fetched : (e : Env) (p : Location) (top b : ℕ) (v : View) → StandsFrom e p (suc top) b Own → IsFar b (suc top)
    → suc top ≤ 4 → HoldsNumbers v → Fetches v b (suc top) (block e (fetch_code p top) v)
fetched e (InRegisters r) top b v st far few numbers = by_evenness (r % 2 == 0)
  where
    by_evenness : (even : Bool)
        → Fetches v b (suc top) (block e (if even then fetch_pairs r top else chain (fetch_byte (InRegisters r)) (suc top)) v)
    by_evenness true = by_pairs e r top b v st far few numbers
    by_evenness false = by_bytes e (InRegisters r) (suc top) b v st far few numbers
fetched e (InMemory o k) top b v st far few numbers = by_bytes e (InMemory o k) (suc top) b v st far few numbers

byte_straight : (p : Location) (i : ℕ) → all_straight (fetch_byte p i) ≡ true
byte_straight (InRegisters r) i = refl
byte_straight (InMemory o k) i = refl

byte_steps : (p : Location) (i : ℕ) → code_steps (fetch_byte p i) ≡ 1
byte_steps (InRegisters r) i = refl
byte_steps (InMemory o k) i = refl

pub fetch_straight : (p : Location) (top : ℕ) → all_straight (fetch_code p top) ≡ true
fetch_straight (InRegisters r) top = by_evenness (r % 2 == 0)
  where
    by_size : (few : Bool) → all_straight (if few then Plain (Movw 12 r) ∷ [] else Plain (Movw 12 r) ∷ Plain (Movw 26 (r + 2)) ∷ []) ≡ true
    by_size true = refl
    by_size false = refl

    by_evenness : (even : Bool)
        → all_straight (if even then fetch_pairs r top else chain (fetch_byte (InRegisters r)) (suc top)) ≡ true
    by_evenness true = by_size (nat_lt top 2)
    by_evenness false = chain_straight (fetch_byte (InRegisters r)) (suc top) (byte_straight (InRegisters r))
fetch_straight (InMemory o k) top = chain_straight (fetch_byte (InMemory o k)) (suc top) (byte_straight (InMemory o k))

pub fetch_steps : (p : Location) (top : ℕ) → code_steps (fetch_code p top) ≤ suc top + 1
fetch_steps (InRegisters r) top = by_evenness (r % 2 == 0)
  where
    by_size : (few : Bool) → code_steps (if few then Plain (Movw 12 r) ∷ [] else Plain (Movw 12 r) ∷ Plain (Movw 26 (r + 2)) ∷ []) ≤ 2
    by_size true = omega arith
    by_size false = omega arith

    by_evenness : (even : Bool)
        → code_steps (if even then fetch_pairs r top else chain (fetch_byte (InRegisters r)) (suc top)) ≤ suc top + 1
    by_evenness true = let z = by_size (nat_lt top 2) in omega (arith, z)
    by_evenness false = omega (arith, steps-chain (fetch_byte (InRegisters r)) (suc top) 1 (byte_steps (InRegisters r)))
fetch_steps (InMemory o k) top = omega (arith, steps-chain (fetch_byte (InMemory o k)) (suc top) 1 (byte_steps (InMemory o k)))
