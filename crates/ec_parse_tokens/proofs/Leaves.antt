-- The leaves that are still to be read.
use Rattle.std.proofs.Common.{◌≡◌, ℕ, suc, List, [], ◌∷◌, length, refl, ap}
use Rattle.ec_grammar.specs.declared.token.Token.{Token}
use Rattle.ec_parse_tokens.specs.Reads.{leaves_of}

-- there are as many leaves as tokens
pub length_leaves : (count : ℕ) (ts : List Token) → length (leaves_of count ts) ≡ length ts
length_leaves count [] = refl
length_leaves count (t ∷ ts) = ap suc (length_leaves count ts)
