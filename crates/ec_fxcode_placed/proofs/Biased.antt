-- A number to which 2 ^ k - 1 is added where it is negative, and which is then shifted.
use Rattle.std.proofs.Common.{◌≡◌, ◌≢◌, ◌⊎◌, inl, inr, ℕ, zero, suc, ◌+◌, ◌-◌, ◌*◌, ◌/◌, ◌%◌, ◌^◌, ◌<◌, ◌≤◌, ⊎_elim, true, false, refl, sym, ap}
use Rattle.std.proofs.Common.{◌∙◌, subst, arith, ◌∷◌, bit_and, bit_xor}
use Rattle.std.specs.Prelude.{nat_le, if◌then◌else◌}
use Rattle.std.specs.Int.Bits.{xor_self}
use Rattle.std.proofs.lemmas.Bool.{cases_lt, cases_eq, le-leb}
use Rattle.std.proofs.lemmas.Bool.Decides.{nat_tests}
use Rattle.std.proofs.lemmas.Nat.{mod_below, div-add-mod', div-mul-add, mod-mul-add, mul-le, and_mask}
use native.Mathlib.Nat.{pow-suc}
use Rattle.ec_isa.specs.declared.instructions.Instr.TheVariants.{Andi, Eor}
use Rattle.ec_avr.specs.Flags.{byte_sum}
use Rattle.ec_asm.specs.declared.items.AsmItem.TheVariants.{Plain}
use Rattle.ec_asm.specs.declared.pieces.Location.TheVariants.{InRegisters}
use Rattle.ec_asm.specs.View.{View}
use Rattle.ec_asm.specs.Change.{Env, change}
use Rattle.ec_asm.specs.Items.{block, chain}
use Rattle.ec_asm.specs.Pieces.{Outside, value}
use Rattle.ec_asm.specs.PieceLaws.{HoldsNumbers}
use Rattle.ec_asm.proofs.Bytes.{put_here, put_other}
use Rattle.ec_asm.proofs.Hoare.{block-append, chain_holds}
use Rattle.ec_asm.proofs.Numbers.{value_below}
use Rattle.ec_asm.proofs.Sum.{value-same, not_here, fewer}
use Rattle.ec_select_shifts.specs.declared.shifts.Direction.TheVariants.{Right}
use Rattle.ec_select_shifts.specs.Shifts.{shifted_by}
use Rattle.ec_fxcode.specs.Clamps.{sign_code}
use Rattle.ec_fxcode.specs.ClampLaws.{IsClearOfEnds}
use Rattle.ec_fxcode.proofs.Alike.{fill}
use Rattle.ec_fxcode.proofs.Moves.{signs, clear_byte}
use Rattle.ec_fxcode.proofs.Parts.{IsSign, sign_is}
use Rattle.ec_fxcode_placed.specs.Counts.{biased_byte, bias_code}
use Rattle.ec_fxcode_placed.proofs.Toward.{IsToward}
use Rattle.ec_fxcode_placed.proofs.Words.{few_bits}

-- ---- numbers

-- what was added to x where it is negative, and what came of it shifted
pub biased_is : (N H x m b u c k y : ℕ) → x < N → u < N → c ≤ 1 → N ≡ 2 * H → 2 ^ k ≤ H → 1 ≤ 2 ^ k → IsSign x N m
    → (m ≡ 0 → b ≡ 0) → (m ≡ 255 → b ≡ 2 ^ k - 1) → u + c * N ≡ x + b
    → y ≡ (if nat_le N (2 * u) then N - 1 - (N - 1 - u) / 2 ^ k else u / 2 ^ k) → IsToward N x (2 ^ k) y
biased_is N H x m b u c k y l below bit even fits some sign plus minus sum is =
    ⊎_elim
    (λ (less : 2 * x < N).
    let z : b ≡ 0 = plus (sign.plus less) in
    let none : c ≡ 0 = by_bit (cases_eq c 0)
    (λ one. (let s : u + 1 * N ≡ x + b = subst (λ i. u + i * N ≡ x + b) one sum in absurd (omega (arith, s, z, l)))) in
    let s : u + 0 * N ≡ x + b = subst (λ i. u + i * N ≡ x + b) none sum in
    let e : u ≡ x = omega (arith, s, z) in
    let f : nat_le N (2 * u) ≡ false = not_le N (2 * u) (omega (arith, e, less)) in
    let g : y ≡ u / 2 ^ k = is ∙ rw f refl in
    let h : y ≡ x / 2 ^ k = g ∙ ap (λ i. i / 2 ^ k) e in
    let small : x / 2 ^ k ≤ x = quotient_small x (2 ^ k) in
    record { below = omega (arith, h, small, l); plus = λ w. h; minus = λ more. absurd (omega (arith, more, less)) })
    (λ (more : N ≤ 2 * x).
    let z : b ≡ 2 ^ k - 1 = minus (sign.minus more) in
    by_carry more (cases_eq c 0) z)
    (cases_lt (2 * x) N)
  where
    not_le : (a b : ℕ) → b < a → nat_le a b ≡ false
    not_le a b h = grind (arith, nat_tests)

    by_bit : (c ≡ 0) ⊎ (c ≢ 0) → (c ≡ 1 → c ≡ 0) → c ≡ 0
    by_bit (inl q) f = q
    by_bit (inr q) f = f (omega (arith, bit, q))

    quotient_small : (x p : ℕ) → x / p ≤ x
    quotient_small x p =
        let d = div-add-mod' x p in
        ⊎_elim (λ (q : p ≡ 0). rw q (omega arith)) (λ (q : p ≢ 0).
        let w : x / p * 1 ≤ x / p * p = mul-le (x / p) 1 (x / p) p (omega arith) (omega (arith, q)) in omega (arith, w, d)) (cases_eq p 0)

    -- one more than a quotient
    next : (m p : ℕ) → 1 ≤ p → p ≤ m → m / p ≡ suc ((m - p) / p)
    next m p o l =
        let d = div-add-mod' (m - p) p in
        let r = mod_below (m - p) p o in
        let whole : m ≡ suc ((m - p) / p) * p + (m - p) % p = omega (arith, d, l) in
        ap (λ i. i / p) whole ∙ div-mul-add (suc ((m - p) / p)) p ((m - p) % p) r

    nothing : (m p : ℕ) → m < p → m / p ≡ 0
    nothing m p l = let e : m ≡ 0 * p + m = omega arith in ap (λ i. i / p) e ∙ div-mul-add 0 p m l

    by_carry : N ≤ 2 * x → (c ≡ 0) ⊎ (c ≢ 0) → b ≡ 2 ^ k - 1 → IsToward N x (2 ^ k) y
    by_carry more (inl none) z =
        let s : u + 0 * N ≡ x + b = subst (λ i. u + i * N ≡ x + b) none sum in
        let e : u ≡ x + (2 ^ k - 1) = omega (arith, s, z) in
        let f : nat_le N (2 * u) ≡ true = le-leb N (2 * u) (omega (arith, e, more)) in
        let g : y ≡ N - 1 - (N - 1 - u) / 2 ^ k = is ∙ rw f refl in
        let same : N - 1 - u ≡ N - x - 2 ^ k = omega (arith, e, below, some) in
        let q = next (N - x) (2 ^ k) some (omega (arith, e, below, some)) in
        let small = quotient_small (N - x - 2 ^ k) (2 ^ k) in
        let less : (N - 1 - u) / 2 ^ k ≡ (N - x - 2 ^ k) / 2 ^ k = ap (λ i. i / 2 ^ k) same in
        record {
          below = omega (arith, g, below);
          plus = λ w. absurd (omega (arith, more, w));
          minus = λ w. (1, omega arith, omega (arith, g, less, q, small, below, e, some));
        }
    by_carry more (inr one) z =
        let c1 : c ≡ 1 = omega (arith, bit, one) in
        let s : u + 1 * N ≡ x + b = subst (λ i. u + i * N ≡ x + b) c1 sum in
        let e : u + N ≡ x + (2 ^ k - 1) = omega (arith, s, z) in
        let f : nat_le N (2 * u) ≡ false = not_le N (2 * u) (omega (arith, e, l, even, fits)) in
        let g : y ≡ u / 2 ^ k = is ∙ rw f refl in
        let y0 : y ≡ 0 = g ∙ nothing u (2 ^ k) (omega (arith, e, l, some)) in
        let m0 = nothing (N - x) (2 ^ k) (omega (arith, e, some)) in
        record {
          below = omega (arith, y0, l);
          plus = λ w. absurd (omega (arith, more, w));
          minus = λ w. (0, omega arith, omega (arith, y0, m0));
        }

-- ---- the bias added

record AddsTo (v0 : View) (r i : ℕ) (v : View) : Type 0 where
  sum : 1 ≤ i → value v.at r i + v.flags.c * 256 ^ i ≡ value v0.at r i + v0.at 31
  bit : 1 ≤ i → v.flags.c ≤ 1
  held : (j : ℕ) → j < i → v.at (r + j) < 256
  same : (k : ℕ) → Outside r i k → v.at k ≡ v0.at k
  inputs : v.inputs ≡ v0.inputs
  safe : v.safe ≡ v0.safe
  seen : v.seen ≡ v0.seen

-- what is added to a byte, and the carry before it
abbrev added : (i : ℕ) → View → ℕ
added zero v = v.at 31
added (suc i) v = v.at 0

abbrev before : (i : ℕ) → View → ℕ
before zero v = 0
before (suc i) v = v.flags.c

record Adds (v w : View) (d x c : ℕ) : Type 0 where
  here : w.at d ≡ byte_sum (v.at d) x c
  carry : w.flags.c ≡ (v.at d + x + c) / 256
  other : (k : ℕ) → k ≢ d → w.at k ≡ v.at k
  inputs : w.inputs ≡ v.inputs
  safe : w.safe ≡ v.safe
  seen : w.seen ≡ v.seen

adds : (e : Env) (r i : ℕ) (v : View) → Adds v (block e (biased_byte r i) v) (r + i) (added i v) (before i v)
adds e r zero v = record {
  here = put_here v.at (r + 0) _ (r + 0) refl;
  carry = refl;
  other = λ k q. put_other v.at (r + 0) _ k q;
  inputs = refl;
  safe = refl;
  seen = refl;
}
adds e r (suc i) v = record {
  here = put_here v.at (r + suc i) _ (r + suc i) refl;
  carry = refl;
  other = λ k q. put_other v.at (r + suc i) _ k q;
  inputs = refl;
  safe = refl;
  seen = refl;
}

add_step : (e : Env) (r n : ℕ) (v0 : View) → 2 ≤ r → IsClearOfEnds r n → HoldsNumbers v0 → v0.at 0 ≡ 0 → (i : ℕ) → i < n → (v : View)
    → AddsTo v0 r i v → AddsTo v0 r (suc i) (block e (biased_byte r i) v)
add_step e r n v0 two clear numbers none i l v h =
    let w = block e (biased_byte r i) v in
    let o = adds e r i v in
    let x = v0.at (r + i) in
    let b = v0.at 31 in
    let bx : x < 256 = numbers (r + i) (omega arith) in
    let bb : b < 256 = numbers 31 (omega arith) in
    let ex : v.at (r + i) ≡ x = h.same (r + i) (λ z. omega arith) in
    let e31 : v.at 31 ≡ b = h.same 31 (beside r n i clear l) in
    let e0 : v.at 0 ≡ 0 = h.same 0 (λ z. absurd (omega (arith, z, two))) ∙ none in
    let low = value-same w.at v.at r i (λ j k. o.other (r + j) (omega arith)) in
    let y = w.at (r + i) in
    let t = added i v in
    let c = before i v in
    let is : y ≡ (x + t + c) % 256 = o.here ∙ ap (λ z. (z + t + c) % 256) ex in
    let carry : w.flags.c ≡ (x + t + c) / 256 = o.carry ∙ ap (λ z. (z + t + c) / 256) ex in
    let few = small i v h e31 e0 bb in
    record {
      sum = λ z. by_place i v w h e31 e0 low is carry;
      bit = λ z. (let q : (x + t + c) / 256 ≤ 1 = omega (arith, bx, few) in rw carry q);
      held = λ j k. ⊎_elim (λ (q : j ≡ i). let z : (x + t + c) % 256 < 256 = omega arith in subst (λ s. w.at (r + s) < 256) (sym q) (rw is z))
          (λ (q : j ≢ i). let s : w.at (r + j) ≡ v.at (r + j) = o.other (r + j) (omega (arith, q)) in rw s (h.held j (omega (arith, k, q))))
          (cases_eq j i);
      same = λ k u. o.other k (not_here k r i u) ∙ h.same k (fewer k r i u);
      inputs = o.inputs ∙ h.inputs;
      safe = o.safe ∙ h.safe;
      seen = o.seen ∙ h.seen;
    }
  where
    beside : (r n i : ℕ) → IsClearOfEnds r n → i < n → Outside r i 31
    beside r n i c l k =
        let below = c.below in
        let above = c.above in
        grind arith

    small : (i : ℕ) (v : View) → AddsTo v0 r i v → v.at 31 ≡ v0.at 31 → v.at 0 ≡ 0 → v0.at 31 < 256 → added i v + before i v ≤ 255
    small zero v h e31 e0 bb = omega (arith, e31, bb)
    small (suc i) v h e31 e0 bb = let q = h.bit (omega arith) in omega (arith, e0, q)

    digit : (V A b c x y d p : ℕ) → V + c * p ≡ A + b → x + 0 + c ≡ d * 256 + y → V + y * p + d * (p * 256) ≡ A + x * p + b
    digit V A b c x y d p h k =
        let q : (x + 0 + c) * p ≡ (d * 256 + y) * p = ap (λ t. t * p) k in
        omega (arith, q, h)

    by_place : (i : ℕ) (v w : View) → AddsTo v0 r i v → v.at 31 ≡ v0.at 31 → v.at 0 ≡ 0 → value w.at r i ≡ value v.at r i
        → w.at (r + i) ≡ (v0.at (r + i) + added i v + before i v) % 256 → w.flags.c ≡ (v0.at (r + i) + added i v + before i v) / 256
        → value w.at r (suc i) + w.flags.c * 256 ^ suc i ≡ value v0.at r (suc i) + v0.at 31
    by_place zero v w h e31 e0 low is carry =
        let s = v0.at (r + 0) + v.at 31 + 0 in
        let d : s / 256 * 256 + s % 256 ≡ s = omega arith in
        rw (is, carry) (omega (arith, d, e31))
    by_place (suc i) v w h e31 e0 low is carry =
        let s = v0.at (r + suc i) + v.at 0 + v.flags.c in
        let d : v0.at (r + suc i) + 0 + v.flags.c ≡ s / 256 * 256 + s % 256 = omega (arith, e0) in
        rw (low, is, carry, pow-suc 256 (suc i))
        (digit (value v.at r (suc i)) (value v0.at r (suc i)) (v0.at 31) v.flags.c (v0.at (r + suc i)) (s % 256) (s / 256) (256 ^ suc i)
        (h.sum (omega arith)) d)

-- ---- the whole

-- the number with what was added to it, where y is what comes of it by the shift
pub record Biased (v w : View) (r n k : ℕ) : Type 0 where
  pub toward : (y : ℕ) → y ≡ shifted_by (Right true) n (value w.at r n) k → IsToward (256 ^ n) (value v.at r n) (2 ^ k) y
  pub numbers : HoldsNumbers w
  pub same : (j : ℕ) → j ≢ 0 → j ≢ 1 → j ≢ 30 → j ≢ 31 → Outside r n j → w.at j ≡ v.at j
  pub inputs : w.inputs ≡ v.inputs
  pub safe : w.safe ≡ v.safe
  pub seen : w.seen ≡ v.seen

all_of : (k : ℕ) → k < 8 → 255 % 2 ^ k ≡ 2 ^ k - 1
all_of zero l = refl
all_of (suc zero) l = refl
all_of (suc (suc zero)) l = refl
all_of (suc (suc (suc zero))) l = refl
all_of (suc (suc (suc (suc zero)))) l = refl
all_of (suc (suc (suc (suc (suc zero))))) l = refl
all_of (suc (suc (suc (suc (suc (suc zero)))))) l = refl
all_of (suc (suc (suc (suc (suc (suc (suc zero))))))) l = refl
all_of (suc (suc (suc (suc (suc (suc (suc (suc k)))))))) l = absurd (omega (arith, l))

two_pow : (k : ℕ) → 1 ≤ 2 ^ k
two_pow zero = omega arith
two_pow (suc k) = let h = two_pow k in let p = pow-suc 2 k in omega (arith, h, p)

none_of : (k : ℕ) → 0 % 2 ^ k ≡ 0
none_of k = let e : 0 ≡ 0 * 2 ^ k + 0 = omega arith in ap (λ i. i % 2 ^ k) e ∙ mod-mul-add 0 (2 ^ k) 0 (two_pow k)

pub after : (u w : View) (r m : ℕ) → HoldsNumbers u → ((j : ℕ) → j < m → w.at (r + j) < 256)
    → ((j : ℕ) → Outside r m j → w.at j ≡ u.at j) → HoldsNumbers w
after u w r m h held same j l =
    ⊎_elim (λ (x : j < r). rw (same j (λ q. absurd (omega (arith, q, x)))) (h j l))
    (λ (x : r ≤ j).
    ⊎_elim (λ (y : j < r + m). let z : r + (j - r) ≡ j = omega (arith, x) in subst (λ (i : ℕ). w.at i < 256) z (held (j - r) (omega (arith, x, y))))
    (λ (y : r + m ≤ j). rw (same j (λ q. y)) (h j l)) (cases_lt j (r + m)))
    (cases_lt j r)

bytes_even : (n : ℕ) → 256 ^ suc n ≡ 2 * (128 * 256 ^ n)
bytes_even n = let p = pow-suc 256 n in omega (arith, p)

pub biases : (e : Env) (r n k : ℕ) (v : View) → 2 ≤ r → IsClearOfEnds r (suc n) → k < 8 → HoldsNumbers v
    → Biased v (block e (bias_code r (suc n) k) v) r (suc n) k
biases e r n k v two clear few numbers =
    let m = suc n in
    let first = sign_code (InRegisters r) m in
    let v1 = block e first v in
    let v2 = change e (Andi 31 (2 ^ k - 1)) v1 in
    let v3 = change e (Eor 0 0) v2 in
    let zeroed = bit_xor (v2.at 0) (v2.at 0) in
    let w = block e (chain (biased_byte r) m) v3 in
    let top : v.at (r + n) < 256 = numbers (r + n) (omega (arith, two)) in
    let s = signs e (InRegisters r) n (r + n) v refl refl top in
    let masked = bit_and (v1.at 31) (2 ^ k - 1) in
    let mask : masked ≡ fill (v.at (r + n)) % 2 ^ k = ap (λ i. bit_and i (2 ^ k - 1)) s.sign ∙ and_mask (fill (v.at (r + n))) k in
    let some : 1 ≤ 2 ^ k = two_pow k in
    let p = few_bits k few in
    let mask_small : masked < 256 = (let z = mod_below (fill (v.at (r + n))) (2 ^ k) some in omega (arith, mask, z, p)) in
    let others : (j : ℕ) → j ≢ 0 → j ≢ 31 → v3.at j ≡ v.at j =
    λ j a b. put_other v2.at 0 zeroed j a ∙ put_other v1.at 31 masked j b ∙ s.same j a b in
    let v3_31 : v3.at 31 ≡ masked = put_other v2.at 0 zeroed 31 (λ q. absurd (omega (arith, q))) ∙ put_here v1.at 31 masked 31 refl in
    let v3_0 : v3.at 0 ≡ 0 = put_here v2.at 0 zeroed 0 refl ∙ xor_self (v2.at 0) in
    let numbers3 : HoldsNumbers v3 =
    λ j l. ⊎_elim (λ (q : j ≡ 31). rw (q, v3_31) mask_small) (λ (q : j ≢ 31). rw (others j (omega (arith, l)) q) (numbers j l)) (cases_eq j 31) in
    let h = chain_holds e (biased_byte r) (AddsTo v3 r) m (add_step e r m v3 two clear numbers3 v3_0) v3 (record {
      sum = λ z. absurd (omega (arith, z));
      bit = λ z. absurd (omega (arith, z));
      held = λ j l. absurd (omega (arith, l));
      same = λ j o. refl;
      inputs = refl;
      safe = refl;
      seen = refl;
    }) in
    let row = λ (j : ℕ) (l : j < m). others (r + j) (clear_byte r m j clear two l).0 (clear_byte r m j clear two l).3 in
    let x = value v.at r m in
    let same3 : value v3.at r m ≡ x = value-same v3.at v.at r m row in
    let held = λ (j : ℕ) (l : j < m). (let t : v.at (r + j) < 256 = numbers (r + j) (omega (arith, two)) in t) in
    let sum : value w.at r m + w.flags.c * 256 ^ m ≡ x + masked = h.sum (omega arith) ∙ rw (same3, v3_31) refl in
    let half = bytes_even n in
    let wide : 2 ^ k ≤ 128 * 256 ^ n = (let q = mul-le 128 1 128 (256 ^ n) (omega arith) (bytes_some n) in omega (arith, q, p)) in
    rw (block-append e first (Plain (Andi 31 (2 ^ k - 1)) ∷ Plain (Eor 0 0) ∷ chain (biased_byte r) m) v) (record {
      toward = λ y is. biased_is (256 ^ m) (128 * 256 ^ n) x (fill (v.at (r + n))) masked (value w.at r m) w.flags.c k y
          (value_below v.at r m held) (value_below w.at r m h.held) (h.bit (omega arith)) half wide some (sign_is v.at r n held)
          (λ z. mask ∙ ap (λ i. i % 2 ^ k) z ∙ none_of k) (λ z. mask ∙ ap (λ i. i % 2 ^ k) z ∙ all_of k few) sum is;
      numbers = after v3 w r m numbers3 h.held h.same;
      same = λ j a b c d o. h.same j o ∙ others j a d;
      inputs = h.inputs ∙ s.inputs;
      safe = h.safe ∙ s.safe;
      seen = h.seen ∙ s.seen;
    })
  where
    bytes_some : (n : ℕ) → 1 ≤ 256 ^ n
    bytes_some zero = omega arith
    bytes_some (suc n) = let h = bytes_some n in let p = pow-suc 256 n in omega (arith, h, p)
