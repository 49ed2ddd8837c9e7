-- The remainder doubled, with a bit from below.
use Rattle.std.proofs.Common.{◌≡◌, ◌≢◌, ℕ, suc, ◌+◌, ◌*◌, ◌/◌, ◌%◌, ◌^◌, ◌<◌, ◌≤◌, ⊎_elim, true, refl, sym, ap, ◌∙◌, subst, arith}
use Rattle.std.proofs.lemmas.Bool.{cases_eq}
use Rattle.std.proofs.lemmas.Nat.{mod_below, div-add-mod'}
use native.Mathlib.Nat.{pow-suc}
use Rattle.ec_asm.specs.View.{View}
use Rattle.ec_asm.specs.Change.{Env}
use Rattle.ec_asm.specs.Items.{block, all_straight, code_steps}
use Rattle.ec_asm.specs.Pieces.{Outside, value}
use Rattle.ec_asm.specs.PieceLaws.{HoldsNumbers}
use Rattle.ec_asm.proofs.Hoare.{chain_holds, chain_straight, steps-chain}
use Rattle.ec_asm.proofs.Bytes.{put_here, put_other}
use Rattle.ec_asm.proofs.Sum.{not_here, fewer, value-same}
use Rattle.ec_select_quotients.specs.Quotients.{rotate_byte, rotate_code}

-- the first i bytes are doubled
pub record RotatesTo (v0 : View) (c i : ℕ) (v : View) : Type 0 where
  pub sum : value v.at 8 i + v.flags.c * 256 ^ i ≡ 2 * value v0.at 8 i + c
  pub bit : v.flags.c ≤ 1
  pub numbers : HoldsNumbers v
  pub same : (k : ℕ) → Outside 8 i k → v.at k ≡ v0.at k
  pub inputs : v.inputs ≡ v0.inputs
  pub safe : v.safe ≡ v0.safe
  pub seen : v.seen ≡ v0.seen

doubled : (r q x p c d : ℕ) → r + d * p ≡ 2 * q + c
    → r + (x + x + d) % 256 * p + (x + x + d) / 256 * (p * 256) ≡ 2 * (q + x * p) + c
doubled r q x p c d h =
    let e = div-add-mod' (x + x + d) 256 in
    let m : ((x + x + d) / 256 * 256 + (x + x + d) % 256) * p ≡ (x + x + d) * p = ap (λ t. t * p) e in
    omega (arith, m, h)

step : (e : Env) (c : ℕ) (v0 : View) → HoldsNumbers v0 → (i : ℕ) → (v : View) → RotatesTo v0 c i v
    → RotatesTo v0 c (suc i) (block e (rotate_byte i) v)
step e c v0 h0 i v h =
    let w = block e (rotate_byte i) v in
    let x = v0.at (8 + i) in
    let d = v.flags.c in
    let bit = h.bit in
    let ex : v.at (8 + i) ≡ x = h.same (8 + i) (λ l. omega arith) in
    let small : x < 256 = h0 (8 + i) (omega arith) in
    let other : (k : ℕ) → k ≢ 8 + i → w.at k ≡ v.at k = λ k n. put_other v.at (8 + i) _ k n in
    let low : value w.at 8 i ≡ value v.at 8 i = value-same w.at v.at 8 i (λ j m. other (8 + j) (omega arith)) in
    let here : w.at (8 + i) ≡ (x + x + d) % 256 = put_here v.at (8 + i) _ (8 + i) refl ∙ ap (λ t. (t + t + d) % 256) ex in
    let below : w.at (8 + i) < 256 = subst (λ z. z < 256) (sym here) (mod_below (x + x + d) 256 (omega arith)) in
    let carry : w.flags.c ≡ (x + x + d) / 256 = ap (λ t. (t + t + d) / 256) ex in
    record {
      sum = rw (low, here, carry, pow-suc 256 i) (doubled (value v.at 8 i) (value v0.at 8 i) x (256 ^ i) c d h.sum);
      bit = rw carry (omega arith);
      numbers = λ k u.
          ⊎_elim (λ (q : k ≡ 8 + i). subst (λ z. w.at z < 256) (sym q) below) (λ q. rw (other k q) (h.numbers k u)) (cases_eq k (8 + i));
      same = λ k m. other k (not_here k 8 i m) ∙ h.same k (fewer k 8 i m);
      inputs = h.inputs;
      safe = h.safe;
      seen = h.seen;
    }

pub rotated : (e : Env) (m : ℕ) (v : View) → HoldsNumbers v → v.flags.c ≤ 1
    → RotatesTo v v.flags.c m (block e (rotate_code m) v)
rotated e m v h bit =
    chain_holds e rotate_byte (RotatesTo v v.flags.c) m (λ i l w k. step e v.flags.c v h i w k) v
    (record { sum = omega arith; bit = bit; numbers = h; same = λ k o. refl; inputs = refl; safe = refl; seen = refl })

pub rotate_straight : (m : ℕ) → all_straight (rotate_code m) ≡ true
rotate_straight m = chain_straight rotate_byte m (λ i. refl)

pub rotate_steps : (m : ℕ) → code_steps (rotate_code m) ≡ m * 1
rotate_steps m = steps-chain rotate_byte m 1 (λ i. refl)
