-- The low bytes of a number, with bytes of its sign above them.
use Rattle.std.proofs.Common.{◌≡◌, ◌≢◌, ℕ, zero, suc, ◌+◌, ◌-◌, ◌/◌, ◌<◌, ◌≤◌, min, ⊎_elim, [], ◌∷◌, ◌++◌, append-nil, refl, ap, ◌∙◌, subst}
use Rattle.std.proofs.Common.{arith}
use Rattle.std.proofs.lemmas.Bool.{cases_eq, cases_lt}
use Rattle.ec_isa.specs.declared.instructions.Instr.TheVariants.{Add, Sbc}
use Rattle.ec_avr.specs.Flags.{byte_difference}
use Rattle.ec_asm.specs.declared.items.AsmItem.TheVariants.{Plain}
use Rattle.ec_asm.specs.declared.pieces.Location.{Location}
use Rattle.ec_asm.specs.declared.pieces.Location.TheVariants.{InRegisters, InMemory}
use Rattle.ec_asm.specs.View.{View}
use Rattle.ec_asm.specs.Change.{Env, Own, set, change}
use Rattle.ec_asm.specs.Items.{block}
use Rattle.ec_asm.specs.Pieces.{address, KindIs, StandsFrom, Outside, Keeps, CopiesTo, copy_code, copy_log}
use Rattle.ec_asm.proofs.Hoare.{chain_holds, block-append}
use Rattle.ec_asm.proofs.Bytes.{put_here, put_other}
use Rattle.ec_asm.proofs.Sum.{not_here, fewer}
use Rattle.ec_asm.proofs.Compared.{copy_holds}
use Rattle.ec_fxcode.specs.Clamps.{take_byte, put_byte, sign_code, fills_code, extended_code}
use Rattle.ec_fxcode.specs.ClampLaws.{IsClearOfEnds, AreApart}
use Rattle.ec_fxcode.proofs.Alike.{fill}

pub byte_is_taken : (e : Env) (p : Location) (i a : ℕ) (v : View) → address e p i ≡ a → KindIs e p a Own
    → block e (take_byte p i) v ≡ set 0 (v.at a) v
byte_is_taken e (InRegisters r) i a v p k = rw p refl
byte_is_taken e (InMemory o j) i a v p k = rw (p, k) refl

pub byte_is_put : (e : Env) (s : ℕ) (p : Location) (i a : ℕ) (v : View) → address e p i ≡ a → KindIs e p a Own
    → block e (put_byte s p i) v ≡ set a (v.at s) v
byte_is_put e s (InRegisters r) i a v p k = rw p refl
byte_is_put e s (InMemory o j) i a v p k = rw (p, k) refl

-- only R0, R1, R30, R31, the flags and k bytes from b have changed
pub record KeepsBut (v0 v : View) (b k : ℕ) : Type 0 where
  pub same : (j : ℕ) → j ≢ 0 → j ≢ 1 → j ≢ 30 → j ≢ 31 → Outside b k j → v.at j ≡ v0.at j
  pub inputs : v.inputs ≡ v0.inputs
  pub safe : v.safe ≡ v0.safe
  pub seen : v.seen ≡ v0.seen

-- a byte of a place that is clear of the ends is none of the work registers
pub clear_byte : (a n i : ℕ) → IsClearOfEnds a n → 2 ≤ a → i < n
    → ((a + i ≢ 0) × (a + i ≢ 1) × (a + i ≢ 30) × (a + i ≢ 31))
clear_byte a n i c l m =
    let below = c.below in
    let above = c.above in
    (λ q. omega arith, λ q. omega arith, λ q. grind arith, λ q. grind arith)

-- ---- the sign

pub record Signs (v w : View) (byte : ℕ) : Type 0 where
  pub sign : w.at 31 ≡ byte
  pub same : (k : ℕ) → k ≢ 0 → k ≢ 31 → w.at k ≡ v.at k
  pub inputs : w.inputs ≡ v.inputs
  pub safe : w.safe ≡ v.safe
  pub seen : w.seen ≡ v.seen

-- all bits become the carry out of twice x
pub spread : (x y : ℕ) → x < 256 → byte_difference y y ((x + x + 0) / 256) ≡ fill x
spread x y l =
    ⊎_elim
    (λ (g : x < 128).
    let a : (x + x + 0) / 256 ≡ 0 = omega arith in
    let b : x / 128 ≡ 0 = omega arith in
    rw (a, b) (omega arith))
    (λ (g : 128 ≤ x).
    let a : (x + x + 0) / 256 ≡ 1 = omega arith in
    let b : x / 128 ≡ 1 = omega arith in
    rw (a, b) (omega arith))
    (cases_lt x 128)

signed_by : (e : Env) (v : View) (x : ℕ) → x < 256
    → Signs v (block e (Plain (Add 0 0) ∷ Plain (Sbc 31 31) ∷ []) (set 0 x v)) (fill x)
signed_by e v x l =
    let v1 = set 0 x v in
    let v2 = change e (Add 0 0) v1 in
    record {
      sign = spread x (v.at 31) l;
      same = λ k z n. put_other v2.at 31 _ k n ∙ put_other v1.at 0 _ k z ∙ put_other v.at 0 x k z;
      inputs = refl;
      safe = refl;
      seen = refl;
    }

pub signs : (e : Env) (p : Location) (n a : ℕ) (v : View) → address e p n ≡ a → KindIs e p a Own → v.at a < 256
    → Signs v (block e (sign_code p (suc n)) v) (fill (v.at a))
signs e p n a v at kind l =
    let q : suc n - 1 ≡ n = omega arith in
    let t = byte_is_taken e p n a v at kind in
    rw (q, block-append e (take_byte p n) (Plain (Add 0 0) ∷ Plain (Sbc 31 31) ∷ []) v, t) (signed_by e v (v.at a) l)

-- ---- the bytes above

pub record FillsTo (u : View) (a byte i : ℕ) (v : View) : Type 0 where
  pub there : (j : ℕ) → j < i → v.at (a + j) ≡ byte
  pub sign : v.at 31 ≡ byte
  pub keeps : Keeps u v a i

fill_step : (e : Env) (q : Location) (k b m byte : ℕ) (u : View) → StandsFrom e q k b Own → IsClearOfEnds b k → (i : ℕ)
    → m + i < k → (v : View) → FillsTo u (b + m) byte i v
    → FillsTo u (b + m) byte (suc i) (block e (put_byte 31 q (m + i)) v)
fill_step e q k b m byte u s clear i l v h =
    let free = clear_byte b k (m + i) clear s.clear l in
    let here : b + (m + i) ≡ b + m + i = omega arith in
    let put = byte_is_put e 31 q (m + i) (b + (m + i)) v (s.at (m + i) l) (s.kind (m + i) l) in
    let is = put ∙ ap (λ a. set a (v.at 31) v) here in
    let one = put_other v.at (b + m + i) (v.at 31) in
    rw is (record {
      there = λ j z. ⊎_elim (λ t. put_here v.at (b + m + i) (v.at 31) (b + m + j) (omega arith) ∙ h.sign)
          (λ t. one (b + m + j) (λ x. t (omega arith)) ∙ h.there j (omega arith)) (cases_eq j i);
      sign = one 31 (λ x. free.3 (omega arith)) ∙ h.sign;
      keeps = record {
        same = λ j y z o. one j (not_here j (b + m) i o) ∙ h.keeps.same j y z (fewer j (b + m) i o);
        inputs = h.keeps.inputs;
        safe = h.keeps.safe;
        seen = h.keeps.seen;
      };
    })

pub fills : (e : Env) (q : Location) (k b m byte : ℕ) (v : View) → StandsFrom e q k b Own → IsClearOfEnds b k
    → v.at 31 ≡ byte → FillsTo v (b + m) byte (k - m) (block e (fills_code q m k) v)
fills e q k b m byte v s clear sign =
    chain_holds e (λ i. put_byte 31 q (m + i)) (FillsTo v (b + m) byte) (k - m)
    (λ i l u h. fill_step e q k b m byte v s clear i (omega arith) u h) v (record {
      there = λ j z. absurd (omega arith);
      sign = sign;
      keeps = record { same = λ j y z o. refl; inputs = refl; safe = refl; seen = refl };
    })

-- ---- all k bytes

-- the low m bytes of a number at a, and this byte above them
pub record Extends (v0 : View) (a b k m byte : ℕ) (v : View) : Type 0 where
  pub low : (j : ℕ) → j < m → v.at (b + j) ≡ v0.at (a + j)
  pub high : (j : ℕ) → m ≤ j → j < k → v.at (b + j) ≡ byte
  pub sign : v.at 31 ≡ byte
  pub other : v.at 30 ≡ v0.at 30
  pub keeps : KeepsBut v0 v b k

pub part_stands : (e : Env) (p : Location) (n m a : ℕ) → m ≤ n → StandsFrom e p n a Own → StandsFrom e p m a Own
part_stands e p n m a l s = record { at = λ i k. s.at i (omega arith); kind = λ i k. s.kind i (omega arith); clear = s.clear }

-- a copy of what no object has is not seen
pub no_log : (a b : ℕ) (f : ℕ → ℕ) (n : ℕ) → copy_log Own Own a b f n ≡ []
no_log a b f zero = refl
no_log a b f (suc n) = ap (λ l. l ++ []) (no_log a b f n)

-- R30 is not among the bytes
apart_from_30 : (b k m : ℕ) → m ≤ k → IsClearOfEnds b k → b ≤ 30 → b + k ≤ 30
apart_from_30 b k m l c x =
    ⊎_elim (λ y. c.below y) (λ y. let z = c.above y in absurd (omega arith)) (cases_lt b 30)

pub joined : (v0 v1 v2 v3 : View) (a b n k m byte : ℕ) → m ≤ n → m ≤ k → 2 ≤ a → 2 ≤ b → IsClearOfEnds a n → IsClearOfEnds b k
    → Signs v0 v1 byte → CopiesTo v1 a b Own Own m v2 → FillsTo v2 (b + m) byte (k - m) v3
    → Extends v0 a b k m byte v3
joined v0 v1 v2 v3 a b n k m byte l l' ua ub ca cb s c f = record {
  low = λ j x.
      let from = clear_byte a n j ca ua (omega arith) in
      let to = clear_byte b k j cb ub (omega arith) in
      f.keeps.same (b + j) to.0 to.1 (λ y. omega arith) ∙ c.there j x ∙ s.same (a + j) from.0 from.3;
  high = λ j x y. let at : b + m + (j - m) ≡ b + j = omega arith in subst (λ i. v3.at i ≡ byte) at (f.there (j - m) (omega arith));
  sign = f.sign;
  other = f.keeps.same 30 (λ x. omega arith) (λ x. omega arith) (λ x. let y = apart_from_30 b k m l' cb (omega arith) in omega arith)
      ∙ c.same 30 (λ x. omega arith) (λ x. let y = apart_from_30 b k m l' cb x in omega arith)
      ∙ s.same 30 (λ x. omega arith) (λ x. omega arith);
  keeps = record {
    same = λ j x y z w o. f.keeps.same j x y (λ g. let far = o (omega arith) in omega arith)
        ∙ c.same j x (λ g. let far = o g in omega arith) ∙ s.same j x w;
    inputs = f.keeps.inputs ∙ c.inputs ∙ s.inputs;
    safe = f.keeps.safe ∙ c.safe ∙ s.safe;
    seen = f.keeps.seen ∙ c.seen ∙ ap (λ l. v1.seen ++ l) (no_log a b v1.at m) ∙ append-nil v1.seen ∙ s.seen;
  };
}

-- R31 is not among the bytes
pub beyond : (b k m : ℕ) → m ≤ k → IsClearOfEnds b k → b ≤ 31 → b + m ≤ 31
beyond b k m l c x =
    ⊎_elim (λ y. let z = c.below y in omega arith) (λ y. let z = c.above y in omega arith) (cases_lt b 30)

pub extends : (e : Env) (p q : Location) (n k a b : ℕ) (v : View) → StandsFrom e p (suc n) a Own → StandsFrom e q k b Own
    → AreApart a (suc n) b k → IsClearOfEnds a (suc n) → IsClearOfEnds b k → v.at (a + n) < 256
    → Extends v a b k (min (suc n) k) (fill (v.at (a + n))) (block e (extended_code p q (suc n) k) v)
extends e p q n k a b v sa sb apart ca cb l =
    let m = min (suc n) k in
    let first = apart.first in
    let sign = sign_code p (suc n) in
    let copies = copy_code p q m in
    let v1 = block e sign v in
    let v2 = block e copies v1 in
    let s = signs e p n (a + n) v (sa.at n (omega arith)) (sa.kind n (omega arith)) l in
    let c = copy_holds e p q m a b Own Own v1 (part_stands e p (suc n) m a (omega arith) sa)
    (part_stands e q k m b (omega arith) sb) refl refl (λ x. let y = first x in omega arith) in
    let v31 : v2.at 31 ≡ fill (v.at (a + n)) = c.same 31 (λ x. omega arith) (λ x. beyond b k m (omega arith) cb x) ∙ s.sign in
    let f = fills e q k b m (fill (v.at (a + n))) v2 sb cb v31 in
    rw (block-append e sign (copies ++ fills_code q m k) v, block-append e copies (fills_code q m k) v1)
    (joined v v1 v2 (block e (fills_code q m k) v2) a b (suc n) k m (fill (v.at (a + n))) (omega arith)
    (omega arith) sa.clear sb.clear ca cb s c f)
