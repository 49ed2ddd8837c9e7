-- Halves are bytes again.
use Rattle.std.proofs.Common.{◌≡◌, ◌≢◌, ℕ, zero, suc, ◌+◌, ◌-◌, ◌/◌, ◌%◌, ◌<◌, ◌≤◌, ⊎_elim, Bool, true, false, refl, ◌∙◌}
use Rattle.std.proofs.Common.{arith}
use Rattle.std.proofs.lemmas.Bool.{cases_eq}
use Rattle.ec_avr.specs.Flags.{shifted}
use Rattle.ec_asm.specs.declared.pieces.Location.{Location}
use Rattle.ec_asm.specs.declared.pieces.Location.TheVariants.{InRegisters, InMemory}
use Rattle.ec_asm.specs.View.{View}
use Rattle.ec_asm.specs.Change.{Env, Own, set, set_both, shift_flags, change}
use Rattle.ec_asm.specs.Items.{block}
use Rattle.ec_asm.specs.Pieces.{address, KindIs, StandsFrom, halves, halve_byte, halve_code}
use Rattle.ec_asm.specs.PieceLaws.{HoldsNumbers}
use Rattle.ec_asm.proofs.Hoare.{chain_holds}
use Rattle.ec_asm.proofs.Bytes.{put_here, put_other}

-- the bit that comes in
abbrev bit_of : Bool → ℕ → (x c : ℕ) → ℕ
bit_of true zero x c = x / 128
bit_of false zero x c = 0
bit_of signed (suc k) x c = c

halves_change : (e : Env) (signed : Bool) (k d : ℕ) (v : View) → change e (halves signed k d) v ≡
    set_both d (shifted (v.at d) (bit_of signed k (v.at d) v.flags.c)) (shift_flags v.flags (v.at d) (bit_of signed k (v.at d) v.flags.c)) v
halves_change e true zero d v = refl
halves_change e false zero d v = refl
halves_change e true (suc k) d v = refl
halves_change e false (suc k) d v = refl

record Puts (v w : View) (a t : ℕ) : Type 0 where
  here : w.at a ≡ shifted (v.at a) t
  carry : w.flags.c ≡ v.at a % 2
  same : (k : ℕ) → k ≢ 0 → k ≢ a → w.at k ≡ v.at k

byte_is_halved : (e : Env) (signed : Bool) (p : Location) (n k a : ℕ) (v : View) → address e p (n - 1 - k) ≡ a
    → KindIs e p a Own → Puts v (block e (halve_byte signed p n k) v) a (bit_of signed k (v.at a) v.flags.c)
byte_is_halved e signed (InRegisters r) n k a v p ka =
    let y = shifted (v.at a) (bit_of signed k (v.at a) v.flags.c) in
    rw (halves_change e signed k (r + (n - 1 - k)) v, p)
    (record { here = put_here v.at a y a refl; carry = refl; same = λ j z o. put_other v.at a y j o })
byte_is_halved e signed (InMemory o i) n k a v p ka =
    let v1 = set 0 (v.at a) v in
    let y = shifted (v.at a) (bit_of signed k (v.at a) v.flags.c) in
    let v2 = set 0 y v1 in
    rw (p, ka, halves_change e signed k 0 v1) (record {
      here = put_here v2.at a y a refl;
      carry = refl;
      same = λ j z o. put_other v2.at a y j o ∙ put_other v1.at 0 y j z ∙ put_other v.at 0 (v.at a) j z;
    })

-- after k bytes all are bytes, and the carry is a bit
record AreBytes (k : ℕ) (v : View) : Type 0 where
  numbers : HoldsNumbers v
  bit : 1 ≤ k → v.flags.c ≤ 1

bit_small : (signed : Bool) (k x c : ℕ) → x < 256 → (1 ≤ k → c ≤ 1) → bit_of signed k x c ≤ 1
bit_small true zero x c l h = omega arith
bit_small false zero x c l h = omega arith
bit_small true (suc k) x c l h = h (omega arith)
bit_small false (suc k) x c l h = h (omega arith)

step : (signed : Bool) (e : Env) (p : Location) (n a k : ℕ) (v : View) → StandsFrom e p n a Own → k < n → AreBytes k v
    → AreBytes (suc k) (block e (halve_byte signed p n k) v)
step signed e p n a k v s l h =
    let m = n - 1 - k in
    let ua = s.clear in
    let w = block e (halve_byte signed p n k) v in
    let o = byte_is_halved e signed p n k (a + m) v (s.at m (omega arith)) (s.kind m (omega arith)) in
    let old : v.at (a + m) < 256 = h.numbers (a + m) (omega arith) in
    let t = bit_of signed k (v.at (a + m)) v.flags.c in
    let b : t ≤ 1 = bit_small signed k (v.at (a + m)) v.flags.c old h.bit in
    let here = o.here in
    let r : w.at (a + m) < 256 = rw here (omega arith) in
    record {
      numbers = λ j u. ⊎_elim (λ q. rw q r) (λ q. rw (o.same j (omega arith) q) (h.numbers j u)) (cases_eq j (a + m));
      bit = λ z. rw (o.carry) (omega arith);
    }

pub halves_are_bytes : (signed : Bool) (e : Env) (p : Location) (n a : ℕ) (v : View) → StandsFrom e p n a Own → HoldsNumbers v
    → HoldsNumbers (block e (halve_code signed p n) v)
halves_are_bytes signed e p n a v s h =
    (chain_holds e (halve_byte signed p n) AreBytes n (λ k l w f. step signed e p n a k w s l f) v
    (record { numbers = h; bit = λ z. absurd (omega arith) })).numbers
