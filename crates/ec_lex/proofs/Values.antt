-- The numbers of digits.
use Rattle.std.proofs.Common.{◌≡◌, ℕ, ◌+◌, ◌*◌, ◌≤◌, List, [], ◌∷◌, refl, arith, None}
use Rattle.std.proofs.lemmas.Bool.{le-ltb}
use Rattle.ec_lex.specs.Bytes.{digit_value}
use Rattle.ec_lex.specs.Constants.{value_from}
use Rattle.ec_lex.specs.Reading.{below}

at_least : (base n d : ℕ) → 1 ≤ base → n ≤ n * base + d
at_least base n d h = grind arith

-- digits make a number no smaller
pub grows : (base n : ℕ) (ds : List ℕ) → 1 ≤ base → n ≤ value_from base n ds
grows base n [] h = omega arith
grows base n (d ∷ ds) h = omega (arith, at_least base n (digit_value d) h, grows base (n * base + digit_value d) ds h)

pub passes_limit : (base n limit d : ℕ) (ds : List ℕ) (all : ℕ) → 1 ≤ base → limit ≤ n * base + digit_value d
    → value_from base n (d ∷ ds) ≡ all → below limit all ≡ None
passes_limit base n limit d ds all some past same =
    let large : limit ≤ all = omega (arith, same, grows base (n * base + digit_value d) ds some) in
    rw (le-ltb all limit large) refl
