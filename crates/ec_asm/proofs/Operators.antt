-- The difference of two numbers of n bytes, and their bitwise AND, OR and XOR, wherever they stand.
use Rattle.std.proofs.Common.{◌≡◌, ◌≢◌, ℕ, zero, suc, ◌+◌, ◌-◌, ◌*◌, ◌^◌, ◌<◌, ◌≤◌, ⊎_elim, true, refl, ap, ◌∙◌, arith}
use Rattle.std.specs.Prelude.{nat_lt}
use Rattle.std.specs.Int.{from_bool}
use Rattle.std.proofs.lemmas.Nat.{mod_below}
use Rattle.std.proofs.lemmas.Bool.{cases_eq}
use native.Mathlib.Nat.{pow-suc}
use Rattle.ec_avr.specs.Flags.{byte_difference}
use Rattle.ec_asm.specs.declared.pieces.Location.{Location}
use Rattle.ec_asm.specs.declared.pieces.Operator.{Operator}
use Rattle.ec_asm.specs.declared.pieces.Operator.TheVariants.{Sum, Difference, BitAnd, BitOr, BitXor}
use Rattle.ec_asm.specs.View.{View}
use Rattle.ec_asm.specs.Change.{Env, Own, difference_flags, result_flags}
use Rattle.ec_asm.specs.Items.{block}
use Rattle.ec_asm.specs.Pieces.{StandsFrom, IsBinary, value, instruction, operate_byte, operate_code, carry_at, zero_at, DiffersTo, bitwise}
use Rattle.ec_asm.specs.Pieces.{is_bitwise, BitwiseTo}
use Rattle.ec_asm.proofs.Hoare.{chain_holds}
use Rattle.ec_asm.proofs.Bytes.{binary_operates}
use Rattle.ec_asm.proofs.Sum.{not_yet, value-same, keeps_more}
use Rattle.ec_asm.proofs.Compared.{byte_borrow, borrow_bit, borrow_step, below_step}

-- ---- the difference

difference_binary : (i : ℕ)
    → IsBinary (instruction Difference i) (λ x y f. byte_difference x y (carry_at i f))
    (λ x y f. difference_flags f x y (carry_at i f) (zero_at i f))
difference_binary zero = record { is = λ e d r v. refl; straight = λ d r. refl }
difference_binary (suc i) = record { is = λ e d r v. refl; straight = λ d r. refl }

difference_step : (e : Env) (p q : Location) (n a b : ℕ) (v0 : View) → StandsFrom e p n a Own → StandsFrom e q n b Own
    → (a < b → a + n ≤ b) → (i : ℕ) → i < n → (v : View) → DiffersTo v0 a b i v
    → DiffersTo v0 a b (suc i) (block e (operate_byte Difference p q i) v)
difference_step e p q n a b v0 sa sb far i l v h =
    let ua = sa.clear in
    let ub = sb.clear in
    let w = block e (operate_byte Difference p q i) v in
    let o = binary_operates (instruction Difference i) (λ x y f. byte_difference x y (carry_at i f))
    (λ x y f. difference_flags f x y (carry_at i f) (zero_at i f)) (difference_binary i) e p q i (a + i) (b + i) v (sa.at i l) (sb.at i l)
    (sa.kind i l) (sb.kind i l) (omega arith) (omega arith) in
    let x = v.at (a + i) in
    let y = v.at (b + i) in
    let c = carry_at i v.flags in
    let bx = h.bytes (a + i) (omega arith) in
    let by = h.bytes (b + i) (omega arith) in
    let low = value-same w.at v.at b i (λ j m. o.same (b + j) (omega arith) (omega arith) (omega arith)) in
    let ex = h.keeps.same (a + i) (omega arith) (omega arith) (not_yet a b n i far l) in
    let ey = h.keeps.same (b + i) (omega arith) (omega arith) (λ m. omega arith) in
    let carry : w.flags.c ≡ from_bool (nat_lt y (x + c)) = ap (λ f. f.c) o.flags in
    let k : y + 256 * w.flags.c ≡ x + c + w.at (b + i) = rw (carry, o.here) (byte_borrow y x c by bx h.borrow) in
    let z = borrow_step (value v.at b i) (256 ^ i) x y (value v0.at a i) (value v0.at b i) c w.flags.c (w.at (b + i)) h.difference k in
    let r : w.at (b + i) < 256 = rw o.here (mod_below (y + 256 - (x + c)) 256 (omega arith)) in
    record {
      difference = rw (low, pow-suc, ← ex, ← ey) z;
      below = rw (low, pow-suc) (below_step (value v.at b i) (w.at (b + i)) (256 ^ i) h.below r);
      borrow = rw carry (borrow_bit y x c);
      bytes = λ j u. ⊎_elim (λ t. rw t r) (λ t. rw (o.same j (omega arith) (omega arith) t) (h.bytes j u)) (cases_eq j (b + i));
      keeps = keeps_more v0 v w b i h.keeps o.same o.inputs o.safe o.seen;
    }

pub difference_holds : (e : Env) (p q : Location) (n a b : ℕ) (v0 : View) → StandsFrom e p n a Own
    → StandsFrom e q n b Own → (a < b → a + n ≤ b) → ((k : ℕ) → 2 ≤ k → v0.at k < 256)
    → DiffersTo v0 a b n (block e (operate_code Difference p q n) v0)
difference_holds e p q n a b v0 sa sb far bytes =
    chain_holds e (operate_byte Difference p q) (DiffersTo v0 a b) n (difference_step e p q n a b v0 sa sb far) v0 (record {
      difference = refl;
      below = omega arith;
      borrow = omega arith;
      bytes = bytes;
      keeps = record { same = λ k z o m. refl; inputs = refl; safe = refl; seen = refl };
    })

-- ---- bitwise operators

bitwise_binary : (op : Operator) (i : ℕ) → is_bitwise op ≡ true
    → IsBinary (instruction op i) (λ x y f. bitwise op x y) (λ x y f. result_flags f (bitwise op x y) 0)
bitwise_binary BitAnd i h = record { is = λ e d r v. refl; straight = λ d r. refl }
bitwise_binary BitOr i h = record { is = λ e d r v. refl; straight = λ d r. refl }
bitwise_binary BitXor i h = record { is = λ e d r v. refl; straight = λ d r. refl }
bitwise_binary Sum i h = cc
bitwise_binary Difference i h = cc

bitwise_step : (op : Operator) → is_bitwise op ≡ true → (e : Env) (p q : Location) (n a b : ℕ) (v0 : View)
    → StandsFrom e p n a Own → StandsFrom e q n b Own → (a < b → a + n ≤ b) → (i : ℕ) → i < n → (v : View)
    → BitwiseTo op v0 a b i v → BitwiseTo op v0 a b (suc i) (block e (operate_byte op p q i) v)
bitwise_step op is e p q n a b v0 sa sb far i l v h =
    let ua = sa.clear in
    let ub = sb.clear in
    let w = block e (operate_byte op p q i) v in
    let o = binary_operates (instruction op i) (λ x y f. bitwise op x y) (λ x y f. result_flags f (bitwise op x y) 0)
    (bitwise_binary op i is) e p q i (a + i) (b + i) v (sa.at i l) (sb.at i l) (sa.kind i l) (sb.kind i l) (omega arith) (omega arith) in
    let ex = h.keeps.same (a + i) (omega arith) (omega arith) (not_yet a b n i far l) in
    let ey = h.keeps.same (b + i) (omega arith) (omega arith) (λ m. omega arith) in
    let here : w.at (b + i) ≡ bitwise op (v0.at (b + i)) (v0.at (a + i)) = o.here ∙ rw (ex, ey) refl in
    record {
      there = λ j m. ⊎_elim (λ (t : j ≡ i). rw t here)
          (λ (t : j ≢ i). o.same (b + j) (omega arith) (omega arith) (λ x. t (omega arith)) ∙ h.there j (omega arith)) (cases_eq j i);
      keeps = keeps_more v0 v w b i h.keeps o.same o.inputs o.safe o.seen;
    }

pub bitwise_holds : (op : Operator) → is_bitwise op ≡ true → (e : Env) (p q : Location) (n a b : ℕ) (v0 : View)
    → StandsFrom e p n a Own → StandsFrom e q n b Own → (a < b → a + n ≤ b)
    → BitwiseTo op v0 a b n (block e (operate_code op p q n) v0)
bitwise_holds op is e p q n a b v0 sa sb far =
    chain_holds e (operate_byte op p q) (BitwiseTo op v0 a b) n (bitwise_step op is e p q n a b v0 sa sb far) v0
    (record { there = λ j m. absurd (omega arith); keeps = record { same = λ k z o m. refl; inputs = refl; safe = refl; seen = refl } })
