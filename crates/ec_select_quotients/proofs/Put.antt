-- The remainder at its place.
use Rattle.std.proofs.Common.{◌≡◌, ◌≢◌, ℕ, zero, suc, ◌+◌, ◌-◌, ◌*◌, ◌%◌, ◌<◌, ◌≤◌, ⊎_elim, Bool, true, false, [], ◌++◌, refl, sym, ap, ◌∙◌, subst, arith}
use Rattle.std.proofs.Common.{append-nil}
use Rattle.std.specs.Prelude.{◌==◌, if◌then◌else◌}
use Rattle.std.proofs.lemmas.Bool.{cases_eq, cases_lt}
use Rattle.ec_isa.specs.declared.instructions.Instr.TheVariants.{Movw}
use Rattle.ec_asm.specs.declared.pieces.Location.{Location}
use Rattle.ec_asm.specs.declared.pieces.Location.TheVariants.{InRegisters, InMemory}
use Rattle.ec_asm.specs.declared.pieces.Operator.TheVariants.{Sum}
use Rattle.ec_asm.specs.View.{View}
use Rattle.ec_asm.specs.Change.{Env, Own, change, set}
use Rattle.ec_asm.specs.Items.{block, all_straight, code_steps}
use Rattle.ec_asm.specs.Pieces.{StandsFrom, Outside, copy_code, copy_log}
use Rattle.ec_asm.specs.PieceLaws.{HoldsNumbers}
use Rattle.ec_asm.proofs.Bytes.{put_here, put_other}
use Rattle.ec_asm.proofs.Compared.{copy_holds}
use Rattle.ec_asm.proofs.Results.{pieces_are_straight, pieces_take}
use Rattle.ec_select_quotients.specs.Quotients.{remainder_row}
use Rattle.ec_select_quotients.specs.Signs.{put_pairs, put_code}
use Rattle.ec_select_quotients.proofs.Fetched.{pair_is, paired}
use Rattle.ec_select_quotients.proofs.Turns.{IsFar}

-- n bytes from c are those from R8, and all else is kept but R0
pub record Puts (v : View) (c n : ℕ) (w : View) : Type 0 where
  pub there : (j : ℕ) → j < n → w.at (c + j) ≡ v.at (8 + j)
  pub numbers : HoldsNumbers w
  pub same : (k : ℕ) → k ≢ 0 → Outside c n k → w.at k ≡ v.at k
  pub inputs : w.inputs ≡ v.inputs
  pub safe : w.safe ≡ v.safe
  pub seen : w.seen ≡ v.seen

no_log : (a b : ℕ) (f : ℕ → ℕ) (n : ℕ) → copy_log Own Own a b f n ≡ []
no_log a b f zero = refl
no_log a b f (suc n) = rw (no_log a b f n) refl

all_numbers : (v w : View) (c n : ℕ) → HoldsNumbers v → ((k : ℕ) → k ≢ 0 → Outside c n k → w.at k ≡ v.at k)
    → ((j : ℕ) → j < n → w.at (c + j) < 256) → HoldsNumbers w
all_numbers v w c n f same there k u =
    ⊎_elim
    (λ (l : k < c). subst (λ z. z < 256) (sym (same k (omega arith) (λ x. absurd (omega arith)))) (f k u))
    (λ (l : c ≤ k).
    ⊎_elim
    (λ (m : k < c + n). let i : c + (k - c) ≡ k = omega arith in subst (λ j. w.at j < 256) i (there (k - c) (omega arith)))
    (λ (m : c + n ≤ k). subst (λ z. z < 256) (sym (same k (omega arith) (λ x. m))) (f k u))
    (cases_lt k (c + n)))
    (cases_lt k c)

by_bytes : (e : Env) (p : Location) (n c : ℕ) (v : View) → StandsFrom e p n c Own → IsFar c n → 1 ≤ n → n ≤ 4 → HoldsNumbers v
    → Puts v c n (block e (copy_code remainder_row p n) v)
by_bytes e p n c v st far some few numbers =
    let w = block e (copy_code remainder_row p n) v in
    let row : StandsFrom e remainder_row n 8 Own = record { at = λ i z. refl; kind = λ i z. refl; clear = omega arith } in
    let k = copy_holds e remainder_row p n 8 c Own Own v row st refl refl
    (λ l. let u = far.above_low (omega arith) in omega arith) in
    record {
      there = k.there;
      numbers = all_numbers v w c n numbers k.same (λ j l. subst (λ i. i < 256) (sym (k.there j l)) (numbers (8 + j) (omega arith)));
      same = k.same;
      inputs = k.inputs;
      safe = k.safe;
      seen = k.seen ∙ ap (λ i. v.seen ++ i) (no_log 8 c v.at n) ∙ append-nil v.seen;
    }

by_pairs : (e : Env) (n c : ℕ) (v : View) → IsFar c n → 2 ≤ c → n ≤ 4 → HoldsNumbers v
    → Puts v c n (block e (put_pairs c n) v)
by_pairs e zero c v far some few numbers =
    record { there = λ j l. absurd (omega arith); numbers = numbers; same = λ k z o. refl; inputs = refl; safe = refl; seen = refl }
by_pairs e (suc zero) c v far some few numbers =
    let w = set c (v.at 8) v in
    let other : (k : ℕ) → k ≢ c → w.at k ≡ v.at k = λ k q. put_other v.at c (v.at 8) k q in
    record {
      there = λ j l. (let z : j ≡ 0 = omega arith in let y : c + 0 ≡ c = omega arith in
          rw z (ap w.at y ∙ put_here v.at c (v.at 8) c refl));
      numbers = λ k u. ⊎_elim (λ (q : k ≡ c). subst (λ t. t < 256) (sym (put_here v.at c (v.at 8) k q)) (numbers 8 (omega arith)))
          (λ (q : k ≢ c). rw (other k q) (numbers k u)) (cases_eq k c);
      same = λ k z o. other k (λ q. let y = o (omega arith) in omega arith);
      inputs = refl;
      safe = refl;
      seen = refl;
    }
by_pairs e (suc (suc zero)) c v far some few numbers =
    let w = change e (Movw c 8) v in
    let p = pair_is v.at 8 c (numbers 8 (omega arith)) in
    record {
      there = λ j l. two c v.at w.at p.low p.high j l;
      numbers = λ k u. paired v.at w.at 8 c k p (numbers 8 (omega arith)) (numbers 9 (omega arith)) (numbers k u);
      same = λ k z o. p.other k (λ q. let y = o (omega arith) in omega arith) (λ q. let y = o (omega arith) in omega arith);
      inputs = refl;
      safe = refl;
      seen = refl;
    }
  where
    two : (c : ℕ) (f g : ℕ → ℕ) → g c ≡ f 8 → g (c + 1) ≡ f (8 + 1) → (j : ℕ) → j < 2 → g (c + j) ≡ f (8 + j)
    two c f g x y zero l = let z : c + 0 ≡ c = omega arith in ap g z ∙ x
    two c f g x y (suc zero) l = y
    two c f g x y (suc (suc j)) l = absurd (omega arith)
by_pairs e (suc (suc (suc zero))) c v far some few numbers =
    let v1 = change e (Movw c 8) v in
    let p = pair_is v.at 8 c (numbers 8 (omega arith)) in
    let w = set (c + 2) (v1.at 10) v1 in
    let apart : (c ≢ 10) × (c + 1 ≢ 10) = (ten c far, next c far) in
    let kept : v1.at 10 ≡ v.at 10 = p.other 10 (λ q. apart.0 (sym q)) (λ q. apart.1 (sym q)) in
    let other : (k : ℕ) → k ≢ c + 2 → w.at k ≡ v1.at k = λ k q. put_other v1.at (c + 2) (v1.at 10) k q in
    let numbers1 : HoldsNumbers v1 = λ k u. paired v.at v1.at 8 c k p (numbers 8 (omega arith)) (numbers 9 (omega arith)) (numbers k u) in
    record {
      there = λ j l. three c v.at w.at (other c (omega arith) ∙ p.low) (other (c + 1) (omega arith) ∙ p.high)
          (put_here v1.at (c + 2) (v1.at 10) (c + 2) refl ∙ kept) j l;
      numbers = λ k u. ⊎_elim
          (λ (q : k ≡ c + 2). subst (λ t. t < 256) (sym (put_here v1.at (c + 2) (v1.at 10) k q)) (numbers1 10 (omega arith)))
          (λ (q : k ≢ c + 2). rw (other k q) (numbers1 k u)) (cases_eq k (c + 2));
      same = λ k z o. other k (λ q. let y = o (omega arith) in omega arith)
          ∙ p.other k (λ q. let y = o (omega arith) in omega arith) (λ q. let y = o (omega arith) in omega arith);
      inputs = refl;
      safe = refl;
      seen = refl;
    }
  where
    ten : (c : ℕ) → IsFar c 3 → c ≢ 10
    ten c far q = let u = far.above_low (omega arith) in omega arith

    next : (c : ℕ) → IsFar c 3 → c + 1 ≢ 10
    next c far q = let u = far.above_low (omega arith) in omega arith

    three : (c : ℕ) (f g : ℕ → ℕ) → g c ≡ f 8 → g (c + 1) ≡ f (8 + 1) → g (c + 2) ≡ f 10 → (j : ℕ) → j < 3 → g (c + j) ≡ f (8 + j)
    three c f g x y t zero l = let z : c + 0 ≡ c = omega arith in ap g z ∙ x
    three c f g x y t (suc zero) l = y
    three c f g x y t (suc (suc zero)) l = t
    three c f g x y t (suc (suc (suc j))) l = absurd (omega arith)
by_pairs e (suc (suc (suc (suc zero)))) c v far some few numbers =
    let v1 = change e (Movw c 8) v in
    let p = pair_is v.at 8 c (numbers 8 (omega arith)) in
    let w = change e (Movw (c + 2) 10) v1 in
    let numbers1 : HoldsNumbers v1 = λ k u. paired v.at v1.at 8 c k p (numbers 8 (omega arith)) (numbers 9 (omega arith)) (numbers k u) in
    let q = pair_is v1.at 10 (c + 2) (numbers1 10 (omega arith)) in
    let kept : (k : ℕ) → 10 ≤ k → k < 12 → v1.at k ≡ v.at k = λ k a b. p.other k (low c k far a b) (high c k far a b) in
    let last : c + 2 + 1 ≡ c + 3 = omega arith in
    record {
      there = λ j l. four c v.at w.at (q.other c (omega arith) (omega arith) ∙ p.low)
          (q.other (c + 1) (omega arith) (omega arith) ∙ p.high) (q.low ∙ kept 10 (omega arith) (omega arith))
          (sym (ap w.at last) ∙ q.high ∙ kept 11 (omega arith) (omega arith)) j l;
      numbers = λ k u. paired v1.at w.at 10 (c + 2) k q (numbers1 10 (omega arith)) (numbers1 11 (omega arith)) (numbers1 k u);
      same = λ k z o. q.other k (λ t. let y = o (omega arith) in omega arith) (λ t. let y = o (omega arith) in omega arith)
          ∙ p.other k (λ t. let y = o (omega arith) in omega arith) (λ t. let y = o (omega arith) in omega arith);
      inputs = refl;
      safe = refl;
      seen = refl;
    }
  where
    low : (c k : ℕ) → IsFar c 4 → 10 ≤ k → k < 12 → k ≢ c
    low c k far a b q = let u = far.above_low (omega arith) in omega arith

    high : (c k : ℕ) → IsFar c 4 → 10 ≤ k → k < 12 → k ≢ c + 1
    high c k far a b q = let u = far.above_low (omega arith) in omega arith

    four : (c : ℕ) (f g : ℕ → ℕ) → g c ≡ f 8 → g (c + 1) ≡ f (8 + 1) → g (c + 2) ≡ f 10 → g (c + 3) ≡ f 11 → (j : ℕ) → j < 4
        → g (c + j) ≡ f (8 + j)
    four c f g x y t u zero l = let z : c + 0 ≡ c = omega arith in ap g z ∙ x
    four c f g x y t u (suc zero) l = y
    four c f g x y t u (suc (suc zero)) l = t
    four c f g x y t u (suc (suc (suc zero))) l = u
    four c f g x y t u (suc (suc (suc (suc j)))) l = absurd (omega arith)
by_pairs e (suc (suc (suc (suc (suc n))))) c v far some few numbers = absurd (omega arith)

pub remainder_put : (e : Env) (p : Location) (n c : ℕ) (v : View) → StandsFrom e p n c Own → IsFar c n → 1 ≤ n → n ≤ 4
    → HoldsNumbers v → Puts v c n (block e (put_code p n) v)
remainder_put e (InRegisters r) n c v st far some few numbers = by_evenness (r % 2 == 0)
  where
    first : r ≡ c
    first = let z = st.at 0 (omega arith) in omega (arith, z)

    by_evenness : (even : Bool)
        → Puts v c n (block e (if even then put_pairs r n else copy_code remainder_row (InRegisters r) n) v)
    by_evenness true = rw first (by_pairs e n c v far st.clear few numbers)
    by_evenness false = by_bytes e (InRegisters r) n c v st far some few numbers
remainder_put e (InMemory o k) n c v st far some few numbers = by_bytes e (InMemory o k) n c v st far some few numbers

-- ---- its form

pairs_straight : (r n : ℕ) → all_straight (put_pairs r n) ≡ true
pairs_straight r zero = refl
pairs_straight r (suc zero) = refl
pairs_straight r (suc (suc zero)) = refl
pairs_straight r (suc (suc (suc zero))) = refl
pairs_straight r (suc (suc (suc (suc n)))) = refl

pairs_steps : (r n : ℕ) → code_steps (put_pairs r n) ≤ n * 2
pairs_steps r zero = omega arith
pairs_steps r (suc zero) = omega arith
pairs_steps r (suc (suc zero)) = omega arith
pairs_steps r (suc (suc (suc zero))) = omega arith
pairs_steps r (suc (suc (suc (suc n)))) = omega arith

pub put_straight : (p : Location) (n : ℕ) → all_straight (put_code p n) ≡ true
put_straight (InRegisters r) n = by_evenness (r % 2 == 0)
  where
    by_evenness : (even : Bool)
        → all_straight (if even then put_pairs r n else copy_code remainder_row (InRegisters r) n) ≡ true
    by_evenness true = pairs_straight r n
    by_evenness false = (pieces_are_straight Sum remainder_row (InRegisters r) n).0
put_straight (InMemory o k) n = (pieces_are_straight Sum remainder_row (InMemory o k) n).0

pub put_steps : (p : Location) (n : ℕ) → code_steps (put_code p n) ≤ n * 2
put_steps (InRegisters r) n = by_evenness (r % 2 == 0)
  where
    by_evenness : (even : Bool)
        → code_steps (if even then put_pairs r n else copy_code remainder_row (InRegisters r) n) ≤ n * 2
    by_evenness true = pairs_steps r n
    by_evenness false = (pieces_take Sum remainder_row (InRegisters r) n).0.1
put_steps (InMemory o k) n = (pieces_take Sum remainder_row (InMemory o k) n).0.1
