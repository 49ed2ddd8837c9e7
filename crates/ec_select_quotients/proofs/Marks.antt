-- The lowest bit of the quotient.
use Rattle.std.proofs.Common.{◌≡◌, ◌≢◌, ℕ, suc, ◌+◌, ◌%◌, ◌<◌, ◌≤◌, ⊎_elim, true, refl, sym, ◌∙◌, subst, arith}
use Rattle.std.proofs.lemmas.Bool.{cases_eq}
use Rattle.std.proofs.lemmas.Nat.{mod_below}
use Rattle.ec_isa.specs.declared.instructions.Instr.TheVariants.{Inc}
use Rattle.ec_asm.specs.declared.pieces.Location.{Location}
use Rattle.ec_asm.specs.declared.pieces.Location.TheVariants.{InRegisters, InMemory}
use Rattle.ec_asm.specs.View.{View}
use Rattle.ec_asm.specs.Change.{Env, Own, set, change}
use Rattle.ec_asm.specs.Items.{block, all_straight, code_steps}
use Rattle.ec_asm.specs.Pieces.{address, KindIs, StandsFrom, Outside, value}
use Rattle.ec_asm.specs.PieceLaws.{HoldsNumbers}
use Rattle.ec_asm.proofs.Bytes.{put_here, put_other}
use Rattle.ec_asm.proofs.Numbers.{value_front}
use Rattle.ec_asm.proofs.Sum.{value-same}
use Rattle.ec_select_quotients.specs.Quotients.{mark_code}

record Marks (v w : View) (a : ℕ) : Type 0 where
  here : w.at a ≡ (v.at a + 1) % 256
  same : (k : ℕ) → k ≢ 0 → k ≢ a → w.at k ≡ v.at k
  inputs : w.inputs ≡ v.inputs
  safe : w.safe ≡ v.safe
  seen : w.seen ≡ v.seen

byte_is_marked : (e : Env) (p : Location) (a : ℕ) (v : View) → address e p 0 ≡ a → KindIs e p a Own
    → Marks v (block e (mark_code p) v) a
byte_is_marked e (InRegisters r) a v p k =
    rw p (record { here = put_here v.at a _ a refl; same = λ j z n. put_other v.at a _ j n; inputs = refl; safe = refl; seen = refl })
byte_is_marked e (InMemory o j) a v p k =
    let v1 = set 0 (v.at a) v in
    let v2 = change e (Inc 0) v1 in
    rw (p, k) (record {
      here = put_here v2.at a _ a refl;
      same = λ i z n. put_other v2.at a _ i n ∙ put_other v1.at 0 _ i z ∙ put_other v.at 0 (v.at a) i z;
      inputs = refl;
      safe = refl;
      seen = refl;
    })

-- an even number is one more
pub record OneMore (v w : View) (a n : ℕ) : Type 0 where
  pub number_is : value w.at a n ≡ value v.at a n + 1
  pub numbers : HoldsNumbers w
  pub same : (k : ℕ) → k ≢ 0 → Outside a n k → w.at k ≡ v.at k
  pub inputs : w.inputs ≡ v.inputs
  pub safe : w.safe ≡ v.safe
  pub seen : w.seen ≡ v.seen

pub one_more : (e : Env) (p : Location) (n a : ℕ) (v : View) → StandsFrom e p (suc n) a Own → HoldsNumbers v
    → value v.at a (suc n) % 2 ≡ 0 → OneMore v (block e (mark_code p) v) a (suc n)
one_more e p n a v s h even =
    let ua = s.clear in
    let w = block e (mark_code p) v in
    let z : a + 0 ≡ a = omega arith in
    let o = byte_is_marked e p a v (s.at 0 (omega arith) ∙ z) (rw (sym z) (s.kind 0 (omega arith))) in
    let small = h a ua in
    let front = value_front v.at a n in
    let front1 = value_front w.at a n in
    let above : value w.at (a + 1) n ≡ value v.at (a + 1) n =
    value-same w.at v.at (a + 1) n (λ j l. o.same (a + 1 + j) (omega arith) (omega arith)) in
    let low : v.at a % 2 ≡ 0 = omega (arith, front, even) in
    let below : w.at a < 256 = subst (λ z. z < 256) (sym o.here) (mod_below (v.at a + 1) 256 (omega arith)) in
    let here : w.at a ≡ v.at a + 1 = o.here ∙ omega (arith, low, small) in
    record {
      number_is = front1 ∙ rw (here, above) (omega (arith, front));
      numbers = λ k u.
          ⊎_elim (λ (q : k ≡ a). subst (λ z. w.at z < 256) (sym q) below) (λ q. rw (o.same k (omega arith) q) (h k u)) (cases_eq k a);
      same = λ k x y. o.same k x (λ q. let l = y (omega arith) in omega arith);
      inputs = o.inputs;
      safe = o.safe;
      seen = o.seen;
    }

pub mark_straight : (p : Location) → all_straight (mark_code p) ≡ true
mark_straight (InRegisters r) = refl
mark_straight (InMemory o k) = refl

pub mark_steps : (p : Location) → code_steps (mark_code p) ≤ 3
mark_steps (InRegisters r) = omega arith
mark_steps (InMemory o k) = omega arith
