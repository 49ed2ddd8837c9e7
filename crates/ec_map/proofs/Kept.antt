-- What a table keeps that breaks no rule.
use Rattle.std.proofs.Common.{◌≡◌, ℕ, zero, suc, ◌+◌, ◌≤◌, Bool, true, false, not, cond, List, [], ◌∷◌, length, get_or, Option, Some, None}
use Rattle.std.proofs.Common.{option_map, refl, arith}
use Rattle.std.proofs.lemmas.Bool.{and_parts, ltb-false}
use Rattle.std.specs.Prelude.{nat_lt}
use Rattle.std.specs.List.{list_all, prefix_len, position}
use Rattle.toml.specs.Data.{Data}
use Rattle.ec_map.specs.Rules.{kept, broken}

abbrev pub AreTrue : List Bool → Type 0
AreTrue bs = list_all (λ b. b) bs ≡ true

none_mapped : {X Y : Type 0} (f : X → Y) (o : Option X) → option_map f o ≡ None → o ≡ None
none_mapped f None h = refl
none_mapped f (Some x) h = cc

no_place : (b : Bool) (n : ℕ) → cond b (Some n) None ≡ None → b ≡ false
no_place true n h = cc
no_place false n h = refl

all_passed : (bs : List Bool) → length bs ≤ prefix_len (λ b. not (not b)) bs → AreTrue bs
all_passed [] h = refl
all_passed (true ∷ bs) h = all_passed bs (omega arith)
all_passed (false ∷ bs) h = absurd (omega arith)

none_false : (bs : List Bool) → position not bs ≡ None → AreTrue bs
none_false bs h =
    let n = prefix_len (λ b. not (not b)) bs in
    let test : nat_lt n (length bs) ≡ false = no_place (nat_lt n (length bs)) n h in
    all_passed bs (ltb-false n (length bs) test)

pub rules_kept : (d : Data) → broken d ≡ None → AreTrue (kept d)
rules_kept d h = none_false (kept d) (none_mapped (λ n. n + 1) (position not (kept d)) h)

-- one of them; it computes where the list and the index are known
pub kept_at : (bs : List Bool) (i : ℕ) → AreTrue bs → get_or bs i true ≡ true
kept_at [] i h = refl
kept_at (b ∷ bs) zero h = (and_parts b (list_all (λ b. b) bs) h).0
kept_at (b ∷ bs) (suc i) h = kept_at bs i (and_parts b (list_all (λ b. b) bs) h).1
