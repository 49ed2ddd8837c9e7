-- The work bytes, and an operand that is brought there.
use Rattle.std.proofs.Common.{◌≡◌, ◌≢◌, ℕ, zero, suc, ◌+◌, ◌-◌, ◌<◌, ◌≤◌, ⊎_elim, refl, sym, ap, ◌∙◌, subst, arith}
use Rattle.std.proofs.Common.{append-nil, [], ◌++◌}
use Rattle.std.proofs.lemmas.Bool.{cases_lt}
use Rattle.ec_asm.specs.declared.pieces.Location.{Location}
use Rattle.ec_asm.specs.declared.pieces.Location.TheVariants.{InMemory}
use Rattle.ec_asm.specs.View.{View}
use Rattle.ec_asm.specs.Change.{Env, Kind, Own, Stacked}
use Rattle.ec_asm.specs.Items.{block}
use Rattle.ec_asm.specs.Pieces.{StandsFrom, Outside, copy_code, copy_log, value}
use Rattle.ec_asm.specs.PieceLaws.{HoldsNumbers}
use Rattle.ec_asm.proofs.Compared.{copy_holds}
use Rattle.ec_select_routines.specs.Codes.{work_place}
use Rattle.ec_select_routines.specs.Laws.{HasWork, IsOperandAt}

-- the same bytes are the same number
pub moved_value : (f g : ℕ → ℕ) (a b n : ℕ) → ((j : ℕ) → j < n → f (b + j) ≡ g (a + j)) → value f b n ≡ value g a n
moved_value f g a b zero h = refl
moved_value f g a b (suc n) h =
    let x = moved_value f g a b n (λ j l. h j (omega arith)) in
    let z = h n (omega arith) in
    rw (x, z) refl

-- a copy of what no object has is not seen
no_log : (a b : ℕ) (f : ℕ → ℕ) (n : ℕ) → copy_log Own Own a b f n ≡ []
no_log a b f zero = refl
no_log a b f (suc n) = ap (λ l. l ++ []) (no_log a b f n)

-- bytes that are those of another place, or as before, are numbers
kept_numbers : (v w : View) (a n b : ℕ) → 2 ≤ a → HoldsNumbers v → ((j : ℕ) → j < n → w.at (b + j) ≡ v.at (a + j))
    → ((k : ℕ) → k ≢ 0 → Outside b n k → w.at k ≡ v.at k) → HoldsNumbers w
kept_numbers v w a n b two numbers there same k u =
    ⊎_elim
    (λ (z : k < b). outside (λ q. absurd (omega arith)))
    (λ (z : b ≤ k). ⊎_elim (λ (y : k < b + n). inside (k - b) (omega arith) (omega arith)) (λ (y : b + n ≤ k). outside (λ q. y))
    (cases_lt k (b + n)))
    (cases_lt k b)
  where
    outside : Outside b n k → w.at k < 256
    outside o = subst (λ x. x < 256) (sym (same k (omega arith) o)) (numbers k u)

    inside : (j : ℕ) → b + j ≡ k → j < n → w.at k < 256
    inside j i l = subst (λ x. w.at x < 256) i (subst (λ x. x < 256) (sym (there j l)) (numbers (a + j) (omega arith)))

own_is_not_stacked : (k : Kind) → k ≡ Own → k ≡ Stacked → ⊥
own_is_not_stacked k q r = cc

-- a number of n bytes from a has come to b, and all else but R0 is kept
pub record Brings (v w : View) (a n b : ℕ) : Type 0 where
  pub number : value w.at b n ≡ value v.at a n
  pub same : (k : ℕ) → k ≢ 0 → Outside b n k → w.at k ≡ v.at k
  pub numbers : HoldsNumbers w
  pub inputs : w.inputs ≡ v.inputs
  pub safe : w.safe ≡ v.safe
  pub seen : w.seen ≡ v.seen

pub brings : (e : Env) (p q : Location) (n a b : ℕ) (v : View) → StandsFrom e p n a Own → StandsFrom e q n b Own
    → (a < b → a + n ≤ b) → HoldsNumbers v → Brings v (block e (copy_code p q n) v) a n b
brings e p q n a b v from to far numbers =
    let w = block e (copy_code p q n) v in
    let d = copy_holds e p q n a b Own Own v from to refl refl far in
    record {
      number = moved_value w.at v.at a b n d.there;
      same = d.same;
      numbers = kept_numbers v w a n b from.clear numbers d.there d.same;
      inputs = d.inputs;
      safe = d.safe;
      seen = d.seen ∙ ap (λ r. v.seen ++ r) (no_log a b v.at n) ∙ append-nil v.seen;
    }

module _ (e : Env) (work : ℕ) (has : HasWork e work) where
  pub part : (i n : ℕ) → i + n ≤ 64 → StandsFrom e (InMemory 1280 i) n (work + i) Own
  part i n l =
      let high = has.high in
      record {
        at = λ j m. has.at (i + j) (omega arith) ∙ omega arith;
        kind = λ j m.
            (let r : work + (i + j) ≡ work + i + j = omega arith in subst (λ k. e.kind k ≡ Own) r (has.kind (i + j) (omega arith)));
        clear = omega arith;
      }

  pub whole : StandsFrom e work_place 40 work Own
  whole =
      let high = has.high in
      record {
        at = λ j m. (let r : 0 + j ≡ j = omega arith in ap (e.address_of 1280) r ∙ has.at j (omega arith));
        kind = λ j m. has.kind j (omega arith);
        clear = omega arith;
      }

  pub off_stack : (k : ℕ) → e.kind k ≡ Stacked → Outside work 64 k
  off_stack k stacked l =
      ⊎_elim
      (λ (m : k < work + 64).
      let i : work + (k - work) ≡ k = omega arith in
      let own : e.kind k ≡ Own = subst (λ j. e.kind j ≡ Own) i (has.kind (k - work) (omega arith)) in
      absurd (own_is_not_stacked (e.kind k) own stacked))
      (λ (m : work + 64 ≤ k). m)
      (cases_lt k (work + 64))

  -- an operand is brought to its place among the work bytes
  pub brought : (p : Location) (n a i : ℕ) (v : View) → IsOperandAt e p n a work → i + n ≤ 64 → HoldsNumbers v
      → Brings v (block e (copy_code p (InMemory 1280 i) n) v) a n (work + i)
  brought p n a i v o l numbers =
      brings e p (InMemory 1280 i) n a (work + i) v o.stands (part i n l)
      (λ (q : a < work + i). ⊎_elim (λ (z : a < work). let y = o.apart.first z in omega arith)
      (λ (z : work ≤ a). let y = o.apart.second z in absurd (omega arith)) (cases_lt a work)) numbers
