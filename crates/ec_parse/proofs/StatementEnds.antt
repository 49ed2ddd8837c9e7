-- Tokens that are left behind a unit.
use Rattle.std.proofs.Common.{◌≡◌, ◌==◌, ℕ, List, [], ◌∷◌, length, false, Err, refl}
use Rattle.ec_grammar.specs.declared.token.Token.{Token}
use Rattle.ec_grammar.specs.Trees as t
use Rattle.ec_parse_laws.specs.Reading.{syntax, whole}
use Rattle.ec_parse_tokens.specs.Reads.{leaves_of}

pub rest_left : (u : t.Tree) (count : ℕ) (ts : List Token) → (length ts == 0) ≡ false
    → whole (u, leaves_of count ts) ≡ Err (syntax (length (leaves_of count ts)))
rest_left u count [] e = absurd cc
rest_left u count (x ∷ xs) e = refl
