-- The complement and the negation of a number.
use Rattle.std.proofs.Common.{◌≡◌, ◌≢◌, ℕ, zero, suc, ◌+◌, ◌-◌, ◌*◌, ◌/◌, ◌%◌, ◌^◌, ◌<◌, ◌≤◌, ⊎_elim, true, refl, sym, ap, ◌∙◌, arith, ◌∷◌}
use Rattle.std.specs.Int.Bits.{xor_self}
use Rattle.std.proofs.lemmas.Bool.{cases_eq}
use Rattle.std.proofs.lemmas.Nat.{mod_below, div-add-mod', mod-mul-add}
use native.Mathlib.Nat.{pow-suc}
use Rattle.ec_isa.specs.declared.instructions.Instr.TheVariants.{Com, Adc, Eor}
use Rattle.ec_asm.specs.declared.items.AsmItem.TheVariants.{Plain}
use Rattle.ec_asm.specs.declared.pieces.Location.{Location}
use Rattle.ec_asm.specs.declared.pieces.Location.TheVariants.{InRegisters, InMemory}
use Rattle.ec_asm.specs.View.{View}
use Rattle.ec_asm.specs.Change.{Env, Own, set, change}
use Rattle.ec_asm.specs.Items.{block}
use Rattle.ec_asm.specs.Pieces.{address, KindIs, StandsFrom, Outside, Keeps, value}
use Rattle.ec_asm.specs.PieceLaws.{HoldsNumbers, AreHeld}
use Rattle.ec_asm.proofs.Hoare.{chain_holds, block-append}
use Rattle.ec_asm.proofs.Bytes.{put_here, put_other}
use Rattle.ec_asm.proofs.Numbers.{pow_pos, value_below}
use Rattle.ec_asm.proofs.Sum.{not_here, fewer, value-same}
use Rattle.ec_select_bytes.specs.Complements.{complement_byte, complement_code, carry_byte, carry_code}
use Rattle.ec_select_bytes.specs.ComplementLaws.{Leaves, ComplementsAreRight, NegationsAreRight}

-- ---- one byte

record Changes (v w : View) (a x carry : ℕ) : Type 0 where
  here : w.at a ≡ x
  carry_is : w.flags.c ≡ carry
  same : (k : ℕ) → k ≢ 0 → k ≢ a → w.at k ≡ v.at k
  inputs : w.inputs ≡ v.inputs
  safe : w.safe ≡ v.safe
  seen : w.seen ≡ v.seen

byte_is_turned : (e : Env) (p : Location) (i a : ℕ) (v : View) → address e p i ≡ a → KindIs e p a Own
    → Changes v (block e (complement_byte p i) v) a (255 - v.at a) 1
byte_is_turned e (InRegisters r) i a v p k =
    rw p (record {
      here = put_here v.at a _ a refl;
      carry_is = refl;
      same = λ j z n. put_other v.at a _ j n;
      inputs = refl;
      safe = refl;
      seen = refl;
    })
byte_is_turned e (InMemory o j) i a v p k =
    let v1 = set 0 (v.at a) v in
    let v2 = change e (Com 0) v1 in
    rw (p, k) (record {
      here = put_here v2.at a _ a refl;
      carry_is = refl;
      same = λ i z n. put_other v2.at a _ i n ∙ put_other v1.at 0 _ i z ∙ put_other v.at 0 (v.at a) i z;
      inputs = refl;
      safe = refl;
      seen = refl;
    })

byte_is_carried : (e : Env) (p : Location) (i a : ℕ) (v : View) → address e p i ≡ a → KindIs e p a Own → v.at 1 ≡ 0
    → Changes v (block e (carry_byte p i) v) a ((v.at a + 0 + v.flags.c) % 256) ((v.at a + 0 + v.flags.c) / 256)
byte_is_carried e (InRegisters r) i a v p k one =
    rw (p, ← one) (record {
      here = put_here v.at a _ a refl;
      carry_is = refl;
      same = λ j z n. put_other v.at a _ j n;
      inputs = refl;
      safe = refl;
      seen = refl;
    })
byte_is_carried e (InMemory o j) i a v p k one =
    let v1 = set 0 (v.at a) v in
    let v2 = change e (Adc 0 1) v1 in
    rw (p, k) (record {
      here = put_here v2.at a _ a refl ∙ ap (λ n. (v.at a + n + v.flags.c) % 256) one;
      carry_is = ap (λ n. (v.at a + n + v.flags.c) / 256) one;
      same = λ i z n. put_other v2.at a _ i n ∙ put_other v1.at 0 _ i z ∙ put_other v.at 0 (v.at a) i z;
      inputs = refl;
      safe = refl;
      seen = refl;
    })

-- ---- n bytes

-- the first i bytes were turned
record TurnedTo (v0 : View) (a i : ℕ) (v : View) : Type 0 where
  sum : value v.at a i + value v0.at a i + 1 ≡ 256 ^ i
  held : AreHeld v.at a i
  one : v.at 1 ≡ v0.at 1
  carry : 1 ≤ i → v.flags.c ≡ 1
  keeps : Keeps v0 v a i

turned_step : (e : Env) (p : Location) (n a : ℕ) (v0 : View) → StandsFrom e p n a Own → HoldsNumbers v0 → (i : ℕ)
    → i < n → (v : View) → TurnedTo v0 a i v → TurnedTo v0 a (suc i) (block e (complement_byte p i) v)
turned_step e p n a v0 s bytes i l v h =
    let ua = s.clear in
    let w = block e (complement_byte p i) v in
    let o = byte_is_turned e p i (a + i) v (s.at i l) (s.kind i l) in
    let x = v0.at (a + i) in
    let ex : v.at (a + i) ≡ x = h.keeps.same (a + i) (omega arith) (omega arith) (λ m. omega arith) in
    let small : x < 256 = bytes (a + i) (omega arith) in
    let low : value w.at a i ≡ value v.at a i = value-same w.at v.at a i (λ j m. o.same (a + j) (omega arith) (omega arith)) in
    let here : w.at (a + i) ≡ 255 - x = o.here ∙ ap (λ t. 255 - t) ex in
    record {
      sum = rw (low, here, pow-suc 256 i) (turned_sum (value v.at a i) (value v0.at a i) x (256 ^ i) small h.sum);
      held = λ j m. ⊎_elim (λ (q : j ≡ i). rw (q, here) (omega arith))
          (λ (q : j ≢ i). rw (o.same (a + j) (omega arith) (omega arith)) (h.held j (omega arith))) (cases_eq j i);
      one = o.same 1 (omega arith) (omega arith) ∙ h.one;
      carry = λ m. o.carry_is;
      keeps = record {
        same = λ k y z m. o.same k y (not_here k a i m) ∙ h.keeps.same k y z (fewer k a i m);
        inputs = o.inputs ∙ h.keeps.inputs;
        safe = o.safe ∙ h.keeps.safe;
        seen = o.seen ∙ h.keeps.seen;
      };
    }
  where
    turned_sum : (r q x p : ℕ) → x < 256 → r + q + 1 ≡ p → r + (255 - x) * p + (q + x * p) + 1 ≡ p * 256
    turned_sum r q x p l h =
        let y = 255 - x in
        let e : y + x ≡ 255 = omega arith in
        let m : (y + x) * p ≡ 255 * p = ap (λ t. t * p) e in
        omega (arith, m, h)

turned : (e : Env) (p : Location) (n a : ℕ) (v : View) → StandsFrom e p n a Own → HoldsNumbers v
    → TurnedTo v a n (block e (complement_code p n) v)
turned e p n a v s bytes =
    chain_holds e (complement_byte p) (TurnedTo v a) n (turned_step e p n a v s bytes) v (record {
      sum = refl;
      held = λ j l. absurd (omega arith);
      one = refl;
      carry = λ l. absurd (omega arith);
      keeps = record { same = λ k y z m. refl; inputs = refl; safe = refl; seen = refl };
    })

pub complements_are_right : ComplementsAreRight
complements_are_right e p n a v s bytes =
    let t = turned e p n a v s bytes in
    let sum = t.sum in
    record { number_is = omega arith; numbers = t.held; keeps = t.keeps }

-- C was added to the first i bytes
record CarriesTo (v0 : View) (a c i : ℕ) (v : View) : Type 0 where
  sum : value v.at a i + v.flags.c * 256 ^ i ≡ value v0.at a i + c
  bit : v.flags.c ≤ 1
  held : AreHeld v.at a i
  one : v.at 1 ≡ 0
  keeps : Keeps v0 v a i

carries_step : (e : Env) (p : Location) (n a c : ℕ) (v0 : View) → StandsFrom e p n a Own → AreHeld v0.at a n → (i : ℕ)
    → i < n → (v : View) → CarriesTo v0 a c i v → CarriesTo v0 a c (suc i) (block e (carry_byte p i) v)
carries_step e p n a c v0 s bytes i l v h =
    let ua = s.clear in
    let w = block e (carry_byte p i) v in
    let o = byte_is_carried e p i (a + i) v (s.at i l) (s.kind i l) h.one in
    let x = v0.at (a + i) in
    let ex : v.at (a + i) ≡ x = h.keeps.same (a + i) (omega arith) (omega arith) (λ m. omega arith) in
    let small : x < 256 = bytes i l in
    let d = v.flags.c in
    let bit = h.bit in
    let low : value w.at a i ≡ value v.at a i = value-same w.at v.at a i (λ j m. o.same (a + j) (omega arith) (omega arith)) in
    let here : w.at (a + i) ≡ (x + 0 + d) % 256 = o.here ∙ ap (λ t. (t + 0 + d) % 256) ex in
    let carry : w.flags.c ≡ (x + 0 + d) / 256 = o.carry_is ∙ ap (λ t. (t + 0 + d) / 256) ex in
    record {
      sum = rw (low, here, carry, pow-suc 256 i) (carried_sum (value v.at a i) (value v0.at a i) x (256 ^ i) c d h.sum);
      bit = rw carry (omega arith);
      held = λ j m. ⊎_elim (λ (q : j ≡ i). rw (q, here) (mod_below (x + 0 + d) 256 (omega arith)))
          (λ (q : j ≢ i). rw (o.same (a + j) (omega arith) (omega arith)) (h.held j (omega arith))) (cases_eq j i);
      one = o.same 1 (omega arith) (omega arith) ∙ h.one;
      keeps = record {
        same = λ k y z m. o.same k y (not_here k a i m) ∙ h.keeps.same k y z (fewer k a i m);
        inputs = o.inputs ∙ h.keeps.inputs;
        safe = o.safe ∙ h.keeps.safe;
        seen = o.seen ∙ h.keeps.seen;
      };
    }
  where
    carried_sum : (r q x p c d : ℕ) → r + d * p ≡ q + c
        → r + (x + 0 + d) % 256 * p + (x + 0 + d) / 256 * (p * 256) ≡ q + x * p + c
    carried_sum r q x p c d h =
        let e = div-add-mod' (x + 0 + d) 256 in
        let m : ((x + 0 + d) / 256 * 256 + (x + 0 + d) % 256) * p ≡ (x + 0 + d) * p = ap (λ t. t * p) e in
        omega (arith, m, h)

carried : (e : Env) (p : Location) (n a : ℕ) (v : View) → StandsFrom e p n a Own → AreHeld v.at a n → v.at 1 ≡ 0
    → v.flags.c ≤ 1 → CarriesTo v a v.flags.c n (block e (carry_code p n) v)
carried e p n a v s bytes one bit =
    chain_holds e (carry_byte p) (CarriesTo v a v.flags.c) n (carries_step e p n a v.flags.c v s bytes) v (record {
      sum = omega arith;
      bit = bit;
      held = λ j l. absurd (omega arith);
      one = one;
      keeps = record { same = λ k y z m. refl; inputs = refl; safe = refl; seen = refl };
    })

-- a number with the carry, below the power
wrapped_to : (r x c p : ℕ) → r < p → x ≤ p → r + c * p ≡ p - x → c ≤ 1 → r ≡ (p - x) % p
wrapped_to r x c p l k h b =
    let e : p - x ≡ c * p + r = omega arith in
    sym (ap (λ t. t % p) e ∙ mod-mul-add c p r l)

no_bytes : (e : Env) (p : Location) (a : ℕ) (v : View) → Leaves v a 0 ((256 ^ 0 - value v.at a 0) % 256 ^ 0) (change e (Eor 1 1) v)
no_bytes e p a v =
    record {
      number_is = refl;
      numbers = λ j l. absurd (omega arith);
      keeps = record { same = λ k y z m. put_other v.at 1 _ k z; inputs = refl; safe = refl; seen = refl };
    }

some_bytes : (e : Env) (p : Location) (n a : ℕ) (v : View) → 1 ≤ n → StandsFrom e p n a Own → HoldsNumbers v
    → Leaves v a n ((256 ^ n - value v.at a n) % 256 ^ n) (block e (carry_code p n) (change e (Eor 1 1) (block e (complement_code p n) v)))
some_bytes e p n a v some s bytes =
    let ua = s.clear in
    let t = turned e p n a v s bytes in
    let v1 = block e (complement_code p n) v in
    let v2 = change e (Eor 1 1) v1 in
    let same2 : (j : ℕ) → j < n → v2.at (a + j) ≡ v1.at (a + j) = λ j l. put_other v1.at 1 _ (a + j) (omega arith) in
    let held2 : AreHeld v2.at a n = λ j l. rw (same2 j l) (t.held j l) in
    let carry2 : v2.flags.c ≡ 1 = t.carry some in
    let k = carried e p n a v2 s held2 (xor_self (v1.at 1)) (omega (arith, carry2)) in
    let w = block e (carry_code p n) v2 in
    let below : value w.at a n < 256 ^ n = value_below w.at a n k.held in
    let x = value v.at a n in
    let tsum = t.sum in
    let ksum : value w.at a n + w.flags.c * 256 ^ n ≡ value v2.at a n + v2.flags.c = k.sum in
    let eq2 : value v2.at a n ≡ value v1.at a n = value-same v2.at v1.at a n same2 in
    let total : value w.at a n + w.flags.c * 256 ^ n ≡ 256 ^ n - x = omega (arith, ksum, eq2, carry2, tsum) in
    record {
      number_is = wrapped_to (value w.at a n) x w.flags.c (256 ^ n) below (omega (arith, tsum)) total k.bit;
      numbers = k.held;
      keeps = record {
        same = λ i y z m. k.keeps.same i y z m ∙ put_other v1.at 1 _ i z ∙ t.keeps.same i y z m;
        inputs = k.keeps.inputs ∙ t.keeps.inputs;
        safe = k.keeps.safe ∙ t.keeps.safe;
        seen = k.keeps.seen ∙ t.keeps.seen;
      };
    }

pub negations_are_right : NegationsAreRight
negations_are_right e p zero a v s bytes = no_bytes e p a v
negations_are_right e p (suc n) a v s bytes =
    rw (block-append e (complement_code p (suc n)) (Plain (Eor 1 1) ∷ carry_code p (suc n)) v)
    (some_bytes e p (suc n) a v (omega arith) s bytes)
