-- Calls that fail by their numbers.
use Rattle.std.proofs.Common.{◌≡◌, ◌==◌, ℕ, true, List, sym, arith}
use Rattle.std.proofs.lemmas.Bool.{eqb-true}
use Rattle.std.proofs.lemmas.Map.Views.{Contains-from_any}
use Rattle.ec_io.specs.Memory.{next_call, is_due, IsPast}

-- no call is due once all numbers are past
pub not_due : (fail : List ℕ) (calls : ℕ) → IsPast fail calls → is_due fail calls ≡ true → ⊥
not_due fail calls past due =
    let last = past (next_call calls) (Contains-from_any {eq = λ q k. k == q} (λ x y e. sym (eqb-true y x e)) (next_call calls) fail due) in
    omega (arith, last.0, last.1)

pub past_on : (fail : List ℕ) (calls : ℕ) → IsPast fail calls → IsPast fail (next_call calls)
past_on fail calls past k among = let was = past k among in (omega (arith, was.0, was.1), was.1)
