-- A number of n bytes is halved, wherever it stands, from its top byte down.
use Rattle.std.proofs.Common.{◌≡◌, ◌≢◌, ℕ, zero, suc, ◌+◌, ◌-◌, ◌*◌, ◌/◌, ◌%◌, ◌^◌, ◌<◌, ◌≤◌, ⊎_elim, Bool, true, false, refl, sym, ap, ◌∙◌}
use Rattle.std.proofs.Common.{subst, arith}
use Rattle.std.proofs.lemmas.Bool.{cases_eq}
use native.Mathlib.Nat.{pow-suc}
use Rattle.ec_avr.specs.Flags.{shifted}
use Rattle.ec_asm.specs.declared.pieces.Location.{Location}
use Rattle.ec_asm.specs.declared.pieces.Location.TheVariants.{InRegisters, InMemory}
use Rattle.ec_asm.specs.View.{Flags, View}
use Rattle.ec_asm.specs.Change.{Env, Own, change, set, set_both, shift_flags}
use Rattle.ec_asm.specs.Items.{block}
use Rattle.ec_asm.specs.Pieces.{address, StandsFrom, KindIs, value, Keeps, halves, halve_byte, halve_code, sign_of, bit_into, HalvesTo}
use Rattle.ec_asm.specs.PieceLaws.{HoldsNumbers, HalvesAreRight}
use Rattle.ec_asm.proofs.Hoare.{chain_holds}
use Rattle.ec_asm.proofs.Bytes.{put_here, put_other}
use Rattle.ec_asm.proofs.Numbers.{value_front}
use Rattle.ec_asm.proofs.Sum.{value-same}

-- ---- one byte

-- the bit that an instruction shifts in
abbrev shift_in : Bool → ℕ → ℕ → Flags → ℕ
shift_in keep zero x f = sign_of keep x
shift_in keep (suc k) x f = f.c

halves_change : (e : Env) (keep : Bool) (k d : ℕ) (v : View) → change e (halves keep k d) v ≡
    set_both d (shifted (v.at d) (shift_in keep k (v.at d) v.flags)) (shift_flags v.flags (v.at d) (shift_in keep k (v.at d) v.flags)) v
halves_change e true zero d v = refl
halves_change e false zero d v = refl
halves_change e true (suc k) d v = refl
halves_change e false (suc k) d v = refl

record Halves (v w : View) (a t : ℕ) : Type 0 where
  here : w.at a ≡ shifted (v.at a) t
  carry : w.flags.c ≡ v.at a % 2
  same : (k : ℕ) → k ≢ 0 → k ≢ a → w.at k ≡ v.at k
  inputs : w.inputs ≡ v.inputs
  safe : w.safe ≡ v.safe
  seen : w.seen ≡ v.seen

halve_operates : (e : Env) (keep : Bool) (p : Location) (n k a : ℕ) (v : View) → address e p (n - 1 - k) ≡ a
    → KindIs e p a Own → Halves v (block e (halve_byte keep p n k) v) a (shift_in keep k (v.at a) v.flags)
halve_operates e keep (InRegisters r) n k a v p ka =
    let y = shifted (v.at a) (shift_in keep k (v.at a) v.flags) in
    rw (halves_change e keep k (r + (n - 1 - k)) v, p) (record {
      here = put_here v.at a y a refl;
      carry = refl;
      same = λ j z o. put_other v.at a y j o;
      inputs = refl;
      safe = refl;
      seen = refl;
    })
halve_operates e keep (InMemory o i) n k a v p ka =
    let v1 = set 0 (v.at a) v in
    let y = shifted (v.at a) (shift_in keep k (v.at a) v.flags) in
    let v2 = set 0 y v1 in
    rw (p, ka, halves_change e keep k 0 v1) (record {
      here = put_here v2.at a y a refl;
      carry = refl;
      same = λ j z o. put_other v2.at a y j o ∙ put_other v1.at 0 y j z ∙ put_other v.at 0 (v.at a) j z;
      inputs = refl;
      safe = refl;
      seen = refl;
    })

-- ---- all bytes

halve_step : (x t y c V W s p : ℕ) → y ≡ shifted x t → c ≡ x % 2 → V * 2 + t ≡ W + s * p
    → (y + 256 * V) * 2 + c ≡ x + 256 * W + s * (p * 256)
halve_step x t y c V W s p e f h = omega arith

keeps_below : (v0 v w : View) (a k : ℕ) → Keeps v0 v (a + 1) k → ((j : ℕ) → j ≢ 0 → j ≢ a → w.at j ≡ v.at j)
    → w.inputs ≡ v.inputs → w.safe ≡ v.safe → w.seen ≡ v.seen → Keeps v0 w a (suc k)
keeps_below v0 v w a k h same inputs safe seen = record {
  same = λ j z o m. same j z (λ q. let l = m (omega arith) in omega arith) ∙ h.same j z o (λ q. let l = m (omega arith) in omega arith);
  inputs = inputs ∙ h.inputs;
  safe = safe ∙ h.safe;
  seen = seen ∙ h.seen;
}

module _ (e : Env) (keep : Bool) (p : Location) (n a s : ℕ) (v0 : View) (sa : StandsFrom e p n a Own)
    (top : s ≡ sign_of keep (v0.at (a + (n - 1)))) where
  -- the bit that goes into the byte that is the k-th from the top
  shifted_in : (k x : ℕ) (f : Flags) → x ≡ v0.at (a + (n - 1 - k)) → shift_in keep k x f ≡ bit_into s k f
  shifted_in zero x f q =
      let m : n - 1 - 0 ≡ n - 1 = omega arith in
      ap (sign_of keep) (q ∙ ap (λ i. v0.at (a + i)) m) ∙ sym top
  shifted_in (suc k) x f q = refl

  at_byte : (k m : ℕ) → k < n → n - 1 - k ≡ m → (v : View) → HalvesTo v0 s a n k v
      → HalvesTo v0 s a n (suc k) (block e (halve_byte keep p n k) v)
  at_byte k m l g v h =
      let ua = sa.clear in
      let w = block e (halve_byte keep p n k) v in
      let upper : a + (n - k) ≡ a + m + 1 = omega arith in
      let lower : a + (n - suc k) ≡ a + m = omega arith in
      let there : address e p (n - 1 - k) ≡ a + m = sa.at (n - 1 - k) (omega arith) ∙ ap (λ i. a + i) g in
      let o = halve_operates e keep p n k (a + m) v there (subst (λ i. KindIs e p (a + i) Own) g (sa.kind (n - 1 - k) (omega arith))) in
      let kept : Keeps v0 v (a + m + 1) k = subst (λ i. Keeps v0 v i k) upper h.keeps in
      let x = kept.same (a + m) (omega arith) (omega arith) (λ q. omega arith) in
      let t = bit_into s k v.flags in
      let in_there = shifted_in k (v.at (a + m)) v.flags (x ∙ ap (λ i. v0.at (a + i)) (sym g)) in
      let here : w.at (a + m) ≡ shifted (v0.at (a + m)) t = o.here ∙ rw (in_there, x) refl in
      let carry : w.flags.c ≡ v0.at (a + m) % 2 = o.carry ∙ rw x refl in
      let above = value-same w.at v.at (a + m + 1) k (λ j q. o.same (a + m + 1 + j) (omega arith) (omega arith)) in
      let halved : value v.at (a + m + 1) k * 2 + t ≡ value v0.at (a + m + 1) k + s * 256 ^ k =
      subst (λ i. value v.at i k * 2 + t ≡ value v0.at i k + s * 256 ^ k) upper h.halved in
      let b = h.bit in
      let old : v0.at (a + m) < 256 = subst (λ i. i < 256) x (h.bytes (a + m) (omega arith)) in
      let r : w.at (a + m) < 256 = rw here (omega arith) in
      let new = value_front w.at (a + m) k ∙ ap (λ i. w.at (a + m) + 256 * i) above in
      let whole = halve_step (v0.at (a + m)) t (w.at (a + m)) w.flags.c (value v.at (a + m + 1) k) (value v0.at (a + m + 1) k) s
      (256 ^ k) here carry halved in
      let more : value w.at (a + m) (suc k) * 2 + w.flags.c ≡ value v0.at (a + m) (suc k) + s * 256 ^ suc k =
      ap (λ i. i * 2 + w.flags.c) new ∙ whole ∙ ap (λ i. i + s * (256 ^ k * 256)) (sym (value_front v0.at (a + m) k))
      ∙ ap (λ i. value v0.at (a + m) (suc k) + s * i) (sym (pow-suc 256 k)) in
      record {
        halved = subst (λ i. value w.at i (suc k) * 2 + w.flags.c ≡ value v0.at i (suc k) + s * 256 ^ suc k) (sym lower) more;
        bit = rw carry (omega arith);
        bytes = λ j u. ⊎_elim (λ q. rw q r) (λ q. rw (o.same j (omega arith) q) (h.bytes j u)) (cases_eq j (a + m));
        keeps = subst (λ i. Keeps v0 w i (suc k)) (sym lower) (keeps_below v0 v w (a + m) k kept o.same o.inputs o.safe o.seen);
      }

halve_holds : (e : Env) (keep : Bool) (p : Location) (n a : ℕ) (v : View) → StandsFrom e p (suc n) a Own → HoldsNumbers v
    → HalvesTo v (sign_of keep (v.at (a + n))) a (suc n) (suc n) (block e (halve_code keep p (suc n)) v)
halve_holds e keep p n a v sa bytes =
    let s = sign_of keep (v.at (a + n)) in
    let q : suc n - 1 ≡ n = omega arith in
    let top : s ≡ sign_of keep (v.at (a + (suc n - 1))) = ap (λ i. sign_of keep (v.at (a + i))) (sym q) in
    let b = bytes (a + n) (let u = sa.clear in omega arith) in
    chain_holds e (halve_byte keep p (suc n)) (HalvesTo v s a (suc n)) (suc n)
    (λ k l w h. at_byte e keep p (suc n) a s v sa top k (suc n - 1 - k) l refl w h) v (record {
      halved = omega arith;
      bit = sign_below keep (v.at (a + n)) b;
      bytes = bytes;
      keeps = record { same = λ k z o m. refl; inputs = refl; safe = refl; seen = refl };
    })
  where
    sign_below : (keep : Bool) (x : ℕ) → x < 256 → sign_of keep x ≤ 1
    sign_below true x l = omega arith
    sign_below false x l = omega arith

pub halves_are_right : HalvesAreRight
halves_are_right keep e p n a v sa bytes =
    let w = block e (halve_code keep p (suc n)) v in
    let s = sign_of keep (v.at (a + n)) in
    let h = halve_holds e keep p n a v sa bytes in
    let q : a + (suc n - suc n) ≡ a = omega arith in
    let k : Keeps v w a (suc n) = subst (λ i. Keeps v w i (suc n)) q h.keeps in
    let g : value w.at a (suc n) * 2 + w.flags.c ≡ value v.at a (suc n) + s * 256 ^ suc n =
    subst (λ i. value w.at i (suc n) * 2 + w.flags.c ≡ value v.at i (suc n) + s * 256 ^ suc n) q h.halved in
    let r = parts (value w.at a (suc n)) w.flags.c (value v.at a (suc n)) s (256 ^ n)
    (g ∙ ap (λ t. value v.at a (suc n) + s * t) (pow-suc 256 n)) h.bit in
    (rw (pow-suc 256 n) r.0, r.1, k)
  where
    parts : (x c y s p : ℕ) → x * 2 + c ≡ y + s * (p * 256) → c ≤ 1 → (x ≡ (y + s * (p * 256)) / 2) × (c ≡ y % 2)
    parts x c y s p h l = let z : s * (p * 256) ≡ 2 * (s * p * 128) = omega arith in (omega arith, omega arith)
