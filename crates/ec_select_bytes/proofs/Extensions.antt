-- The bytes above a number.
use Rattle.std.proofs.Common.{◌≡◌, ◌≢◌, ℕ, suc, ◌+◌, ◌-◌, ◌*◌, ◌/◌, ◌<◌, ◌≤◌, ⊎_elim, Bool, true, false, refl, ap, ◌∙◌}
use Rattle.std.proofs.Common.{subst, arith, leb-true, leb-false}
use Rattle.std.specs.Prelude.{nat_le, [], ◌∷◌, ◌++◌, bit_xor}
use Rattle.std.specs.Int.Bits.{xor_self}
use Rattle.std.proofs.lemmas.Bool.{cases_eq, cases_lt, cases_Bool}
use Rattle.ec_isa.specs.declared.instructions.Instr.TheVariants.{Add, Sbc}
use Rattle.ec_avr.specs.Flags.{byte_sum, byte_difference}
use Rattle.ec_asm.specs.declared.items.AsmItem.TheVariants.{Plain}
use Rattle.ec_asm.specs.declared.pieces.Location.{Location}
use Rattle.ec_asm.specs.declared.pieces.Location.TheVariants.{InRegisters, InMemory}
use Rattle.ec_asm.specs.View.{View}
use Rattle.ec_asm.specs.Change.{Env, Own, set, change}
use Rattle.ec_asm.specs.Items.{block}
use Rattle.ec_asm.specs.Pieces.{address, KindIs, StandsFrom, Keeps}
use Rattle.ec_asm.specs.PieceLaws.{HoldsNumbers}
use Rattle.ec_asm.proofs.Hoare.{chain_holds, block-append}
use Rattle.ec_asm.proofs.Bytes.{put_here, put_other}
use Rattle.ec_asm.proofs.Sum.{not_here, fewer}
use Rattle.ec_select_bytes.specs.Values.{put_byte, take_byte, fill_code, puts_code, clear_byte, clears_code, widen_code}
use Rattle.ec_select_bytes.specs.Values.{fill_of, FillsTo}
use Rattle.ec_select_bytes.specs.Laws.{Extends, ExtensionsAreRight}

byte_is_put : (e : Env) (p : Location) (i a : ℕ) (v : View) → address e p i ≡ a → KindIs e p a Own
    → block e (put_byte p i) v ≡ set a (v.at 0) v
byte_is_put e (InRegisters r) i a v p k = rw p refl
byte_is_put e (InMemory o j) i a v p k = rw (p, k) refl

byte_is_taken : (e : Env) (p : Location) (i a : ℕ) (v : View) → address e p i ≡ a → KindIs e p a Own
    → block e (take_byte p i) v ≡ set 0 (v.at a) v
byte_is_taken e (InRegisters r) i a v p k = rw p refl
byte_is_taken e (InMemory o j) i a v p k = rw (p, k) refl

-- only R0 and the flags have changed
record Fills (v w : View) (byte : ℕ) : Type 0 where
  work : w.at 0 ≡ byte
  same : (k : ℕ) → k ≢ 0 → w.at k ≡ v.at k
  inputs : w.inputs ≡ v.inputs
  safe : w.safe ≡ v.safe
  seen : w.seen ≡ v.seen

-- the sign in the carry, and then in all bits
all_bits : (x : ℕ) → x < 256
    → byte_difference (byte_sum x x 0) (byte_sum x x 0) ((x + x + 0) / 256) ≡ 255 * (x / 128)
all_bits x l =
    ⊎_elim
    (λ (g : x < 128).
    let a : (x + x + 0) / 256 ≡ 0 = omega arith in
    let b : x / 128 ≡ 0 = omega arith in
    rw (a, b) (omega arith))
    (λ (g : 128 ≤ x).
    let a : (x + x + 0) / 256 ≡ 1 = omega arith in
    let b : x / 128 ≡ 1 = omega arith in
    rw (a, b) (omega arith))
    (cases_lt x 128)

spread : (e : Env) (v : View) (x : ℕ) → x < 256
    → Fills v (block e (Plain (Add 0 0) ∷ Plain (Sbc 0 0) ∷ []) (set 0 x v)) (255 * (x / 128))
spread e v x l =
    let v1 = set 0 x v in
    let v2 = change e (Add 0 0) v1 in
    record {
      work = all_bits x l;
      same = λ k z. put_other v2.at 0 _ k z ∙ put_other v1.at 0 _ k z ∙ put_other v.at 0 x k z;
      inputs = refl;
      safe = refl;
      seen = refl;
    }

fills : (signed : Bool) (e : Env) (p : Location) (m a : ℕ) (v : View) → address e p m ≡ a → KindIs e p a Own
    → v.at a < 256 → Fills v (block e (fill_code signed p (suc m)) v) (fill_of signed (v.at a))
fills true e p m a v at kind l =
    let q : suc m - 1 ≡ m = omega arith in
    let t = byte_is_taken e p m a v at kind in
    rw (q, block-append e (take_byte p m) (Plain (Add 0 0) ∷ Plain (Sbc 0 0) ∷ []) v, t) (spread e v (v.at a) l)
fills false e p m a v at kind l =
    record { work = xor_self (v.at 0); same = λ k z. put_other v.at 0 _ k z; inputs = refl; safe = refl; seen = refl }

step : (e : Env) (p : Location) (n a m byte : ℕ) (v0 : View) → StandsFrom e p n a Own → (i : ℕ) → m + i < n
    → (v : View) → FillsTo v0 (a + m) byte i v → FillsTo v0 (a + m) byte (suc i) (block e (put_byte p (m + i)) v)
step e p n a m byte v0 s i l v h =
    let ua = s.clear in
    let q : a + (m + i) ≡ a + m + i = omega arith in
    let b = byte_is_put e p (m + i) (a + (m + i)) v (s.at (m + i) l) (s.kind (m + i) l) in
    let c : block e (put_byte p (m + i)) v ≡ set (a + m + i) (v.at 0) v = b ∙ ap (λ k. set k (v.at 0) v) q in
    let one = put_other v.at (a + m + i) (v.at 0) in
    rw c (record {
      there = λ j z. ⊎_elim (λ t. put_here v.at (a + m + i) (v.at 0) (a + m + j) (omega arith) ∙ h.work)
          (λ t. one (a + m + j) (λ x. t (omega arith)) ∙ h.there j (omega arith)) (cases_eq j i);
      work = one 0 (omega arith) ∙ h.work;
      keeps = record {
        same = λ k y z o. one k (not_here k (a + m) i o) ∙ h.keeps.same k y z (fewer k (a + m) i o);
        inputs = h.keeps.inputs;
        safe = h.keeps.safe;
        seen = h.keeps.seen;
      };
    })

puts : (e : Env) (p : Location) (n a m : ℕ) (v v0 : View) (byte : ℕ) → StandsFrom e p n a Own → m ≤ n
    → Fills v0 v byte → FillsTo v0 (a + m) byte (n - m) (block e (puts_code p m (n - m)) v)
puts e p n a m v v0 byte s l f =
    chain_holds e (λ i. put_byte p (m + i)) (FillsTo v0 (a + m) byte) (n - m) (λ i k u h. step e p n a m byte v0 s i (omega arith) u h) v
    (record {
      there = λ j z. absurd (omega arith);
      work = f.work;
      keeps = record { same = λ k y z o. f.same k y; inputs = f.inputs; safe = f.safe; seen = f.seen };
    })

shifted : (v0 v : View) (signed : Bool) (a m n byte : ℕ) → byte ≡ fill_of signed (v0.at (a + m)) → suc m ≤ n
    → FillsTo v0 (a + suc m) byte (n - suc m) v → Extends v0 signed a m n v
shifted v0 v signed a m n byte b l f = record {
  there = λ j x y. let q : a + suc m + (j - suc m) ≡ a + j = omega arith in
      subst (λ k. v.at k ≡ fill_of signed (v0.at (a + m))) q (f.there (j - suc m) (omega arith) ∙ b);
  keeps = f.keeps;
}

none : (v : View) (signed : Bool) (a m n : ℕ) → n ≤ suc m → Extends v signed a m n v
none v signed a m n l = record {
  there = λ j x y. absurd (omega arith);
  keeps = record { same = λ k x y o. refl; inputs = refl; safe = refl; seen = refl };
}

-- ---- registers that become 0

-- the first i bytes are 0
record Clears (v0 : View) (a i : ℕ) (v : View) : Type 0 where
  there : (j : ℕ) → j < i → v.at (a + j) ≡ 0
  keeps : Keeps v0 v a i

clear_step : (e : Env) (r n a m : ℕ) (v0 : View) → StandsFrom e (InRegisters r) n a Own → (i : ℕ) → m + i < n
    → (v : View) → Clears v0 (a + m) i v → Clears v0 (a + m) (suc i) (block e (clear_byte r (m + i)) v)
clear_step e r n a m v0 s i l v h =
    let ua = s.clear in
    let q : r + (m + i) ≡ a + m + i = (let x = s.at (m + i) l in let z : a + (m + i) ≡ a + m + i = omega arith in x ∙ z) in
    let byte = bit_xor (v.at (a + m + i)) (v.at (a + m + i)) in
    rw q (record {
      there = λ j z. ⊎_elim
          (λ (t : j ≡ i). put_here v.at (a + m + i) byte (a + m + j) (omega arith) ∙ xor_self (v.at (a + m + i)))
          (λ (t : j ≢ i). put_other v.at (a + m + i) byte (a + m + j) (λ x. t (omega arith)) ∙ h.there j (omega arith))
          (cases_eq j i);
      keeps = record {
        same = λ k y z o. put_other v.at (a + m + i) byte k (not_here k (a + m) i o) ∙ h.keeps.same k y z (fewer k (a + m) i o);
        inputs = h.keeps.inputs;
        safe = h.keeps.safe;
        seen = h.keeps.seen;
      };
    })

clears : (e : Env) (r n a m : ℕ) (v : View) → StandsFrom e (InRegisters r) n a Own → suc m ≤ n
    → Extends v false a m n (block e (clears_code r (suc m) (n - suc m)) v)
clears e r n a m v s l =
    let c = chain_holds e (λ i. clear_byte r (suc m + i)) (Clears v (a + suc m)) (n - suc m)
    (λ i k u h. clear_step e r n a (suc m) v s i (omega arith) u h) v
    (record {
      there = λ j z. absurd (omega arith);
      keeps = record { same = λ k y z o. refl; inputs = refl; safe = refl; seen = refl };
    }) in
    record {
      there = λ j x y. let q : a + suc m + (j - suc m) ≡ a + j = omega arith in
          subst (λ k. (block e (clears_code r (suc m) (n - suc m)) v).at k ≡ 0) q (c.there (j - suc m) (omega arith));
      keeps = c.keeps;
    }

-- ---- all of them

filled : (signed : Bool) (e : Env) (p : Location) (m n a : ℕ) (v : View) → StandsFrom e p n a Own → suc m < n
    → HoldsNumbers v → Extends v signed a m n (block e (fill_code signed p (suc m) ++ puts_code p (suc m) (n - suc m)) v)
filled signed e p m n a v s g bytes =
    let ua = s.clear in
    let f = fills signed e p m (a + m) v (s.at m (omega arith)) (s.kind m (omega arith)) (bytes (a + m) (omega arith)) in
    let v1 = block e (fill_code signed p (suc m)) v in
    let j = block-append e (fill_code signed p (suc m)) (puts_code p (suc m) (n - suc m)) v in
    rw j (shifted v _ signed a m n _ refl (omega arith) (puts e p n a (suc m) v1 v (fill_of signed (v.at (a + m))) s (omega arith) f))

widened : (signed : Bool) (e : Env) (p : Location) (m n a : ℕ) (v : View) → StandsFrom e p n a Own → suc m < n
    → HoldsNumbers v → Extends v signed a m n (block e (widen_code signed p (suc m) (n - suc m)) v)
widened false e (InRegisters r) m n a v s g bytes = clears e r n a m v s (omega arith)
widened false e (InMemory o k) m n a v s g bytes = filled false e (InMemory o k) m n a v s g bytes
widened true e p m n a v s g bytes = filled true e p m n a v s g bytes

pub extensions_are_right : ExtensionsAreRight
extensions_are_right signed e p m n a v s l bytes =
    ⊎_elim
    (λ x. rw x (none v signed a m n (leb-true n (suc m) x)))
    (λ x. let g : suc m < n = leb-false n (suc m) x in rw x (widened signed e p m n a v s g bytes))
    (cases_Bool (nat_le n (suc m)))
