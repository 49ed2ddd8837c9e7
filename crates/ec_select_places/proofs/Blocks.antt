-- Two bytes of a view, and copies.
use Rattle.std.proofs.Common.{◌≡◌, ◌≢◌, ℕ, ◌+◌, ◌-◌, ◌%◌, ◌/◌, ◌<◌, ◌≤◌, ⊎_elim, ◌∙◌, subst, arith}
use Rattle.std.proofs.lemmas.Bool.{cases_lt}
use Rattle.ec_asm.specs.declared.pieces.Location.{Location}
use Rattle.ec_asm.specs.View.{View, put, put_pair}
use Rattle.ec_asm.specs.Change.{Env, Own}
use Rattle.ec_asm.specs.Pieces.{StandsFrom, Outside}
use Rattle.ec_asm.specs.PieceLaws.{HoldsNumbers}
use Rattle.ec_asm.proofs.Bytes.{put_other}

pub pair_other : (f : ℕ → ℕ) (a n k : ℕ) → k ≢ a → k ≢ a + 1 → put_pair f a n k ≡ f k
pair_other f a n k g h = put_other (put f a (n % 256)) (a + 1) (n / 256) k h ∙ put_other f a (n % 256) k g

-- the first bytes of a number
pub first_bytes : (e : Env) (p : Location) (m n a : ℕ) → m ≤ n → StandsFrom e p n a Own → StandsFrom e p m a Own
first_bytes e p m n a l s = record {
  at = λ i k. s.at i (omega arith);
  kind = λ i k. s.kind i (omega arith);
  clear = s.clear;
}

-- bytes below 256 that are copied are below 256
pub copied_numbers : (v w : View) (a b n : ℕ) → 2 ≤ a → HoldsNumbers v
    → ((j : ℕ) → j < n → w.at (b + j) ≡ v.at (a + j)) → ((k : ℕ) → k ≢ 0 → Outside b n k → w.at k ≡ v.at k)
    → HoldsNumbers w
copied_numbers v w a b n two h there same k u =
    ⊎_elim
    (λ (q : k < b). rw (same k (omega arith) (λ o. absurd (omega arith))) (h k u))
    (λ (q : b ≤ k).
    ⊎_elim
    (λ (r : k < b + n).
    let s : b + (k - b) ≡ k = omega arith in
    let t : w.at (b + (k - b)) ≡ v.at (a + (k - b)) = there (k - b) (omega arith) in
    subst (λ i. w.at i < 256) s (rw t (h (a + (k - b)) (omega arith))))
    (λ (r : b + n ≤ k). rw (same k (omega arith) (λ o. r)) (h k u))
    (cases_lt k (b + n)))
    (cases_lt k b)
