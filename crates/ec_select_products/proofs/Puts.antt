-- R0 and R1 put to their places.
use Rattle.std.proofs.Common.{◌≡◌, ◌≢◌, ℕ, zero, suc, ◌+◌, ◌*◌, ◌<◌, ◌≤◌, ⊎_elim, true, refl, sym, ap, ◌∙◌, arith}
use Rattle.std.proofs.lemmas.Bool.{cases_eq}
use Rattle.ec_asm.specs.declared.pieces.Location.{Location}
use Rattle.ec_asm.specs.declared.pieces.Location.TheVariants.{InRegisters, InMemory}
use Rattle.ec_asm.specs.View.{View}
use Rattle.ec_asm.specs.Change.{Env, Own, set}
use Rattle.ec_asm.specs.Items.{block, all_straight, code_steps}
use Rattle.ec_asm.specs.Pieces.{address, KindIs, StandsFrom, Outside}
use Rattle.ec_asm.proofs.Hoare.{chain_holds, chain_straight, steps-chain}
use Rattle.ec_asm.proofs.Bytes.{put_here, put_other}
use Rattle.ec_asm.proofs.Sum.{not_here, fewer}
use Rattle.ec_select_products.specs.Products.{put_byte, puts_code}

byte_is_put : (e : Env) (p : Location) (i a : ℕ) (v : View) → address e p i ≡ a → KindIs e p a Own
    → block e (put_byte p i) v ≡ set a (v.at i) v
byte_is_put e (InRegisters r) i a v p k = rw p refl
byte_is_put e (InMemory o j) i a v p k = rw (p, k) refl

-- the first i bytes are there
pub record PutsTo (v0 : View) (a i : ℕ) (v : View) : Type 0 where
  pub there : (j : ℕ) → j < i → v.at (a + j) ≡ v0.at j
  pub same : (k : ℕ) → Outside a i k → v.at k ≡ v0.at k
  pub inputs : v.inputs ≡ v0.inputs
  pub safe : v.safe ≡ v0.safe
  pub seen : v.seen ≡ v0.seen

step : (e : Env) (p : Location) (n a : ℕ) (v0 : View) → StandsFrom e p n a Own → n ≤ 2 → (i : ℕ) → i < n → (v : View)
    → PutsTo v0 a i v → PutsTo v0 a (suc i) (block e (put_byte p i) v)
step e p n a v0 s most i l v h =
    let ua = s.clear in
    let q = byte_is_put e p i (a + i) v (s.at i l) (s.kind i l) in
    let x : v.at i ≡ v0.at i = h.same i (λ m. absurd (omega arith)) in
    rw q (record {
      there = λ j m. ⊎_elim (λ t. put_here v.at (a + i) (v.at i) (a + j) (ap (λ u. a + u) t) ∙ x ∙ ap v0.at (sym t))
          (λ t. put_other v.at (a + i) (v.at i) (a + j) (λ u. t (omega arith)) ∙ h.there j (omega arith)) (cases_eq j i);
      same = λ k o. put_other v.at (a + i) (v.at i) k (not_here k a i o) ∙ h.same k (fewer k a i o);
      inputs = h.inputs;
      safe = h.safe;
      seen = h.seen;
    })

pub puts_hold : (e : Env) (p : Location) (n a : ℕ) (v : View) → StandsFrom e p n a Own → n ≤ 2
    → PutsTo v a n (block e (puts_code p n) v)
puts_hold e p n a v s most =
    chain_holds e (put_byte p) (PutsTo v a) n (λ i l w h. step e p n a v s most i l w h) v
    (record { there = λ j m. absurd (omega arith); same = λ k o. refl; inputs = refl; safe = refl; seen = refl })

put_straight : (p : Location) (i : ℕ) → all_straight (put_byte p i) ≡ true
put_straight (InRegisters r) i = refl
put_straight (InMemory o k) i = refl

pub puts_straight : (p : Location) (n : ℕ) → all_straight (puts_code p n) ≡ true
puts_straight p n = chain_straight (put_byte p) n (put_straight p)

put_steps : (p : Location) (i : ℕ) → code_steps (put_byte p i) ≡ 1
put_steps (InRegisters r) i = refl
put_steps (InMemory o k) i = refl

pub puts_steps : (p : Location) (n : ℕ) → code_steps (puts_code p n) ≡ n * 1
puts_steps p n = steps-chain (put_byte p) n 1 (put_steps p)
