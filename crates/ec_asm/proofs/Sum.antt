-- The sum of two numbers of n bytes, wherever they stand.
use Rattle.std.proofs.Common.{◌≡◌, ◌≢◌, ℕ, zero, suc, ◌+◌, ◌*◌, ◌/◌, ◌%◌, ◌^◌, ◌<◌, ◌≤◌, ⊎_elim, refl, sym, ap, ◌∙◌, arith}
use Rattle.std.proofs.lemmas.Nat.{div-add-mod', mod_below, mod-mul-add, mul-le}
use Rattle.std.proofs.lemmas.Bool.{cases_eq}
use native.Mathlib.Nat.{pow-suc}
use Rattle.ec_avr.specs.Flags.{byte_sum}
use Rattle.ec_asm.specs.View.{View}
use Rattle.ec_asm.specs.Change.{Env, Own, sum_flags}
use Rattle.ec_asm.specs.Items.{block}
use Rattle.ec_asm.proofs.Hoare.{chain_holds}
use Rattle.ec_asm.specs.declared.pieces.Location.{Location}
use Rattle.ec_asm.specs.declared.pieces.Operator.TheVariants.{Sum}
use Rattle.ec_asm.specs.Pieces.{StandsFrom, IsBinary, binary_byte, value, instruction, operate_byte, operate_code, carry_at, Outside, Keeps}
use Rattle.ec_asm.specs.Pieces.{SumsTo}
use Rattle.ec_asm.proofs.Bytes.{binary_operates}

pub value-same : (f g : ℕ → ℕ) (a n : ℕ) → ((j : ℕ) → j < n → f (a + j) ≡ g (a + j)) → value f a n ≡ value g a n
value-same f g a zero h = refl
value-same f g a (suc n) h =
    let x = value-same f g a n (λ j l. h j (omega arith)) in
    let y = h n (omega arith) in
    rw (x, y) refl

carry_step : (v c p x y xs ys c' r : ℕ) → v + c * p ≡ xs + ys → y + x + c ≡ 256 * c' + r
    → (v + r * p) + c' * (p * 256) ≡ (xs + x * p) + (ys + y * p)
carry_step v c p x y xs ys c' r h k =
    let q : (y + x + c) * p ≡ (256 * c' + r) * p = ap (λ t. t * p) k in
    omega arith

below_step : (v r p : ℕ) → v < p → r < 256 → v + r * p < p * 256
below_step v r p h k = let q : (r + 1) * p ≤ 256 * p = mul-le (r + 1) p 256 p (omega arith) (omega arith) in omega arith

sum_binary : (i : ℕ)
    → IsBinary (instruction Sum i) (λ x y f. byte_sum x y (carry_at i f)) (λ x y f. sum_flags f x y (carry_at i f))
sum_binary zero = record { is = λ e d r v. refl; straight = λ d r. refl }
sum_binary (suc i) = record { is = λ e d r v. refl; straight = λ d r. refl }

pub not_here : (k b i : ℕ) → Outside b (suc i) k → k ≢ b + i
not_here k b i h e = grind arith

pub fewer : (k b i : ℕ) → Outside b (suc i) k → Outside b i k
fewer k b i h l = let q = h l in omega arith

pub not_yet : (a b n i : ℕ) → (a < b → a + n ≤ b) → i < n → Outside b i (a + i)
not_yet a b n i h l m = grind arith

-- one byte more was put to its place, and all else is kept
pub keeps_more : (v0 v w : View) (b i : ℕ) → Keeps v0 v b i → ((k : ℕ) → k ≢ 0 → k ≢ 1 → k ≢ b + i → w.at k ≡ v.at k)
    → w.inputs ≡ v.inputs → w.safe ≡ v.safe → w.seen ≡ v.seen → Keeps v0 w b (suc i)
keeps_more v0 v w b i h same inputs safe seen = record {
  same = λ k z o m. same k z o (not_here k b i m) ∙ h.same k z o (fewer k b i m);
  inputs = inputs ∙ h.inputs;
  safe = safe ∙ h.safe;
  seen = seen ∙ h.seen;
}

step : (e : Env) (p q : Location) (n a b : ℕ) (v0 : View) → StandsFrom e p n a Own → StandsFrom e q n b Own
    → (a < b → a + n ≤ b) → (i : ℕ) → i < n → (v : View) → SumsTo v0 a b i v
    → SumsTo v0 a b (suc i) (block e (binary_byte (instruction Sum i) p q i) v)
step e p q n a b v0 sa sb far i l v h =
    let ua = sa.clear in
    let ub = sb.clear in
    let w = block e (binary_byte (instruction Sum i) p q i) v in
    let o = binary_operates (instruction Sum i) (λ x y f. byte_sum x y (carry_at i f)) (λ x y f. sum_flags f x y (carry_at i f))
    (sum_binary i) e p q i (a + i) (b + i) v (sa.at i l) (sb.at i l) (sa.kind i l) (sb.kind i l) (omega arith) (omega arith) in
    let x = v.at (a + i) in
    let y = v.at (b + i) in
    let c = carry_at i v.flags in
    let low = value-same w.at v.at b i (λ j m. o.same (b + j) (omega arith) (omega arith) (omega arith)) in
    let ex = h.keeps.same (a + i) (omega arith) (omega arith) (not_yet a b n i far l) in
    let ey = h.keeps.same (b + i) (omega arith) (omega arith) (λ m. omega arith) in
    let whole = div-add-mod' (y + x + c) 256 in
    let carry : w.flags.c ≡ (y + x + c) / 256 = ap (λ f. f.c) o.flags in
    let k : y + x + c ≡ 256 * w.flags.c + w.at (b + i) = rw (carry, o.here) (omega (arith, whole)) in
    let z = carry_step (value v.at b i) c (256 ^ i) x y (value v0.at a i) (value v0.at b i) w.flags.c (w.at (b + i)) h.sum k in
    let r : w.at (b + i) < 256 = rw o.here (mod_below (y + x + c) 256 (omega arith)) in
    record {
      sum = rw (low, pow-suc, ← ex, ← ey) z;
      below = rw (low, pow-suc) (below_step (value v.at b i) (w.at (b + i)) (256 ^ i) h.below r);
      bytes = λ j u. ⊎_elim (λ t. rw t r) (λ t. rw (o.same j (omega arith) (omega arith) t) (h.bytes j u)) (cases_eq j (b + i));
      keeps = keeps_more v0 v w b i h.keeps o.same o.inputs o.safe o.seen;
    }

pub sum_holds : (e : Env) (p q : Location) (n a b : ℕ) (v0 : View) → StandsFrom e p n a Own → StandsFrom e q n b Own
    → (a < b → a + n ≤ b) → ((k : ℕ) → 2 ≤ k → v0.at k < 256) → SumsTo v0 a b n (block e (operate_code Sum p q n) v0)
sum_holds e p q n a b v0 sa sb far bytes =
    chain_holds e (operate_byte Sum p q) (SumsTo v0 a b) n (step e p q n a b v0 sa sb far) v0 (record {
      sum = refl;
      below = omega arith;
      bytes = bytes;
      keeps = record { same = λ k z o m. refl; inputs = refl; safe = refl; seen = refl };
    })

-- the low n bytes of the sum, whatever stands above them
pub sum_is : (v0 : View) (a b n : ℕ) (v : View) → SumsTo v0 a b n v
    → value v.at b n ≡ (value v0.at a n + value v0.at b n) % 256 ^ n
sum_is v0 a b n v h = low (value v.at b n) (carry_at n v.flags) (256 ^ n) _ h.sum h.below
  where
    low : (x c m s : ℕ) → x + c * m ≡ s → x < m → x ≡ s % m
    low x c m s h l = let e : s ≡ c * m + x = omega arith in sym (ap (λ t. t % m) e ∙ mod-mul-add c m x l)
